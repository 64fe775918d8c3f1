-- The answer of a call is found again after answers to calls of few other activities.
use Rattle.std.proofs.Common.{◌≡◌, ◌≤◌, ◌<◌, ◌==◌, ◌||◌, ◌⊎◌, inl, inr, ℕ, zero, suc, Bool, true, false, cond, not, List, [], ◌∷◌, length, take, Option, Some, refl, sym, ap, subst, ◌∙◌, arith}
use Rattle.std.specs.Prelude.{nat_eq, nat_lt, unwrap_or}
use Rattle.std.specs.Cmp.Lexicographic.{pointwise, same_text, other_text}
use Rattle.std.specs.List.{AllByRecursion}
use Rattle.std.proofs.lemmas.Bool.{true≢false, false≢true, eq-eqb, ltb-false}
use Rattle.rpc_core.specs.Cache.{Kept, Reported as Looked, new, again, old, behind_call, behind_calls, behind_reported, is_of, kept_more, kept_of, looked, reported_by, without}
use Rattle.rpc_core.specs.declared.header.CallHeader.{CallHeader}
use Rattle.settings_journal.specs.settings_store.Machine.{Outcome, carried}
use Rattle.records.specs.declared.status.operation.Operation.{Operation}
use Rattle.records.specs.declared.status.operation.Operation.TheVariants.{ReadImplicit}
use Rattle.asked_records.specs.Questions.{is_implicit, operation_of as operation_asked}
use Rattle.asked_records.specs.declared.question.Question.{Question}
use Rattle.asked_records.specs.declared.question.Request.{Request}
use Rattle.asked_records.specs.declared.question.Request.TheVariants as request
use Rattle.relations.specs.declared.options.DeviceOptions.{DeviceOptions}
use Rattle.device_frames.specs.declared.event.Event.{Event}
use Rattle.device_frames.specs.Heard.{Heard, Ticks, Unreadable, Elsewhere, Asks, Resolves, Reported, Cyclic, Alarms, LowReplies, LowConfirms, Met, Applied, Calls, Responds, Garbled, heard_of}
use Rattle.device_core.specs.State.{Live, Station}
use Rattle.device_core.specs.Asking.{is_kept}
use Rattle.device_core.specs.Handled.{handled}
use Rattle.device_core.specs.Machine.{finished, first_step, handled_step, heard_step, items_in, later_steps, run_of, step_of}
use Rattle.device_core.specs.Repeats.{IsAskedBetween, IsAskedImplicitly, IsBetween, IsHeardBetween, IsOfRead, ReadsAreBetween, ReadsLeaveStoredAnswers, RepeatsAreAnsweredAlike, is_among}
use Rattle.device_core.proofs.AskedKept.{IsHeardAskable, handled_stays}
use Rattle.device_core.proofs.Called.{handled_called}
use Rattle.device_core.proofs.Steps.{again_heard}
use Rattle.device_core.proofs.Storing.{AllowsAsked, AllowsHeard, IsStoredOf}

-- ---- activities

itself : (activity : List ℕ) → pointwise nat_eq activity activity ≡ true
itself activity = by_test (pointwise nat_eq activity activity) refl
  where
    by_test : (b : Bool) → b ≡ pointwise nat_eq activity activity → b ≡ true
    by_test true is = refl
    by_test false is = absurd (other_text activity activity is refl)

-- These activities without the first one that is this one.
abbrev less : List ℕ → List (List ℕ) → List (List ℕ)
less activity [] = []
less activity (one ∷ others) = cond (pointwise nat_eq one activity) others (one ∷ less activity others)

or_right : (b : Bool) → (b || true) ≡ true
or_right true = refl
or_right false = refl

-- Another one stays among them.
among_less : (activity other : List ℕ) (others : List (List ℕ)) → (other ≡ activity → ⊥) → is_among others other ≡ true → is_among (less activity others) other ≡ true
among_less activity other [] apart among = among
among_less activity other (one ∷ others) apart among =
    by_test (pointwise nat_eq one activity) refl (pointwise nat_eq one other) refl (among_less activity other others apart) among
  where
    by_test : (is : Bool) → is ≡ pointwise nat_eq one activity → (same : Bool) → same ≡ pointwise nat_eq one other
        → (is_among others other ≡ true → is_among (less activity others) other ≡ true)
        → (same || is_among others other) ≡ true → is_among (cond is others (one ∷ less activity others)) other ≡ true
    by_test true is true same more it = absurd (apart (sym (same_text one other same) ∙ same_text one activity is))
    by_test true is false same more it = it
    by_test false is true same more it = rw (sym same) refl
    by_test false is false same more it = rw (sym same) (more it)

among_not : (activity other : List ℕ) (others : List (List ℕ)) → is_among others other ≡ false → is_among (less activity others) other ≡ false
among_not activity other [] none = none
among_not activity other (one ∷ others) none =
    by_test (pointwise nat_eq one activity) (pointwise nat_eq one other) refl (among_not activity other others) none
  where
    by_test : (is same : Bool) → same ≡ pointwise nat_eq one other
        → (is_among others other ≡ false → is_among (less activity others) other ≡ false) → (same || is_among others other) ≡ false → is_among (cond is others (one ∷ less activity others)) other ≡ false
    by_test is true same more it = absurd (true≢false it)
    by_test true false same more it = it
    by_test false false same more it = rw (sym same) (more it)

-- The order in which two are removed does not matter.
less_swap : (activity other : List ℕ) (others : List (List ℕ)) → less activity (less other others) ≡ less other (less activity others)
less_swap activity other [] = refl
less_swap activity other (one ∷ others) = by_test (pointwise nat_eq one activity) refl (pointwise nat_eq one other) refl (less_swap activity other others)
  where
    by_test : (is : Bool) → is ≡ pointwise nat_eq one activity → (same : Bool) → same ≡ pointwise nat_eq one other
        → less activity (less other others) ≡ less other (less activity others) → less activity (cond same others (one ∷ less other others)) ≡ less other (cond is others (one ∷ less activity others))
    by_test true is true same more = ap (λ (a : List ℕ). less a others) (sym (same_text one activity is) ∙ same_text one other same)
    by_test true is false same more = rw (sym is) refl
    by_test false is true same more = rw (sym same) refl
    by_test false is false same more = rw (sym is, sym same) (ap (λ (l : List (List ℕ)). one ∷ l) more)

length_less : (activity : List ℕ) (others : List (List ℕ)) → is_among others activity ≡ true → suc (length (less activity others)) ≡ length others
length_less activity [] among = absurd (false≢true among)
length_less activity (one ∷ others) among = by_test (pointwise nat_eq one activity) (length_less activity others) among
  where
    by_test : (is : Bool) → (is_among others activity ≡ true → suc (length (less activity others)) ≡ length others) → (is || is_among others activity) ≡ true → suc (length (cond is others (one ∷ less activity others))) ≡ suc (length others)
    by_test true more it = refl
    by_test false more it = ap suc (more it)

-- ---- a stored answer after those of other activities

-- The answers stored before this one are each of another one of these activities.
abbrev IsBehind : List (List ℕ) → Kept → List Kept → Type 0
IsBehind others kept [] = ⊥
IsBehind others kept (one ∷ cache) = (one ≡ kept) ⊎ ((is_among others one.activity ≡ true) × IsBehind (less one.activity others) kept cache)

-- It stays when another answer is removed.
behind_without : (others : List (List ℕ)) (kept : Kept) (activity : List ℕ) (cache : List Kept) → is_among others activity ≡ true
    → (kept.activity ≡ activity → ⊥) → IsBehind others kept cache → IsBehind (less activity others) kept (without activity cache)
behind_without others kept activity [] among apart there = there
behind_without others kept activity (one ∷ cache) among apart there =
    by_test (is_of activity one) refl (λ still. behind_without (less one.activity others) kept activity cache still apart) there
  where
    by_test : (is : Bool) → is ≡ is_of activity one
        → (is_among (less one.activity others) activity ≡ true → IsBehind (less one.activity others) kept cache
        → IsBehind (less activity (less one.activity others)) kept (without activity cache)) → ((one ≡ kept) ⊎ ((is_among others one.activity ≡ true) × IsBehind (less one.activity others) kept cache))
        → IsBehind (less activity others) kept (cond is cache (one ∷ without activity cache))
    by_test true is more (inl same) = absurd (apart (ap (λ (k : Kept). k.activity) (sym same) ∙ same_text one.activity activity is))
    by_test true is more (inr later) = subst (λ (a : List ℕ). IsBehind (less a others) kept cache) (same_text one.activity activity is) later.1
    by_test false is more (inl same) = inl same
    by_test false is more (inr later) =
        let other : one.activity ≡ activity → ⊥ = other_text one.activity activity is in
        inr (
          among_less activity one.activity others other later.0,
          subst (λ (l : List (List ℕ)). IsBehind l kept (without activity cache)) (less_swap activity one.activity others)
              (more (among_less one.activity activity others (λ same. other (sym same)) among) later.1),
        )

-- It is not the oldest of too many.
behind_take : (others : List (List ℕ)) (kept : Kept) (most : ℕ) (cache : List Kept) → length others < most → IsBehind others kept cache → IsBehind others kept (take most cache)
behind_take others kept most [] few there = absurd there
behind_take others kept zero (one ∷ cache) few there = absurd (omega (arith, few))
behind_take others kept (suc most) (one ∷ cache) few (inl same) = inl same
behind_take others kept (suc most) (one ∷ cache) few (inr later) =
    inr (later.0, behind_take (less one.activity others) kept most cache (omega (arith, few, length_less one.activity others later.0)) later.1)

-- It is found.
behind_found : (others : List (List ℕ)) (kept : Kept) (cache : List Kept) → is_among others kept.activity ≡ false → IsBehind others kept cache
    → kept_of kept.activity cache ≡ Some kept
behind_found others kept [] none there = absurd there
behind_found others kept (one ∷ cache) none there =
    by_test (is_of kept.activity one) refl (behind_found (less one.activity others) kept cache (among_not one.activity kept.activity others none)) there
  where
    by_test : (is : Bool) → is ≡ is_of kept.activity one → (IsBehind (less one.activity others) kept cache → kept_of kept.activity cache ≡ Some kept) → ((one ≡ kept) ⊎ ((is_among others one.activity ≡ true) × IsBehind (less one.activity others) kept cache))
        → cond is (Some one) (kept_of kept.activity cache) ≡ Some kept
    by_test true is more (inl same) = ap Some same
    by_test false is more (inl same) =
        absurd (true≢false (sym (itself kept.activity) ∙ (ap (λ (k : Kept). pointwise nat_eq k.activity kept.activity) (sym same) ∙ sym is)))
    by_test true is more (inr later) =
        absurd (true≢false (sym later.0 ∙ (ap (is_among others) (same_text one.activity kept.activity is) ∙ none)))
    by_test false is more (inr later) = more later.1

-- ---- calls one after another

-- A call of one of these activities, or one that is not later than the answered one, of its activity.
abbrev IsFew : Kept → List (List ℕ) → List ℕ → ℕ → Type 0
IsFew kept others activity sequence = (is_among others activity ≡ true) ⊎ ((activity ≡ kept.activity) × (sequence ≤ kept.sequence))

module _ (kept : Kept) (others : List (List ℕ)) (few : length others ≤ 3) (none : is_among others kept.activity ≡ false) where
  -- A new call of another activity.
  more_behind : (call : Kept) (cache : List Kept) → is_among others call.activity ≡ true → IsBehind others kept cache → IsBehind others kept (kept_more 4 call cache)
  more_behind call cache among there =
      let apart : kept.activity ≡ call.activity → ⊥ = λ same. true≢false (sym among ∙ (ap (is_among others) (sym same) ∙ none)) in
      inr (
        among,
        behind_take (less call.activity others) kept 3 (without call.activity cache) (omega (arith, few, length_less call.activity others among))
            (behind_without others kept call.activity cache among apart there),
      )

  other_behind : (call : Kept) (cache : List Kept) (found : Looked) → is_among others call.activity ≡ true → IsBehind others kept cache
      → IsBehind others kept (behind_reported 4 call cache found)
  other_behind call cache new among there = more_behind call cache among there
  other_behind call cache (again frame) among there = there
  other_behind call cache old among there = there

  -- The call again, or an earlier one.
  own_reported : (call : Kept) (cache : List Kept) → call.sequence ≤ kept.sequence → behind_reported 4 call cache (reported_by call.sequence (Some kept)) ≡ cache
  own_reported call cache before = by_same (call.sequence == kept.sequence) refl
    where
      by_later : (earlier : Bool) → nat_lt call.sequence kept.sequence ≡ earlier → ((call.sequence == kept.sequence) ≡ false)
          → behind_reported 4 call cache (cond earlier old new) ≡ cache
      by_later true is differs = refl
      by_later false is differs = absurd (true≢false (sym (eq-eqb call.sequence kept.sequence (omega (arith, before, ltb-false call.sequence kept.sequence is))) ∙ differs))

      by_same : (same : Bool) → (call.sequence == kept.sequence) ≡ same
          → behind_reported 4 call cache (cond same (again kept.frame) (cond (nat_lt call.sequence kept.sequence) old new)) ≡ cache
      by_same true is = refl
      by_same false is = by_later (nat_lt call.sequence kept.sequence) refl is

  own_behind : (call : Kept) (cache : List Kept) → call.activity ≡ kept.activity → call.sequence ≤ kept.sequence → IsBehind others kept cache
      → behind_call 4 call cache ≡ cache
  own_behind call cache same before there =
      let found : kept_of call.activity cache ≡ Some kept = ap (λ (a : List ℕ). kept_of a cache) same ∙ behind_found others kept cache none there in
      ap (λ (o : Option Kept). behind_reported 4 call cache (reported_by call.sequence o)) found ∙ own_reported call cache before

  one_behind : (call : Kept) (cache : List Kept) → IsFew kept others call.activity call.sequence → IsBehind others kept cache → IsBehind others kept (behind_call 4 call cache)
  one_behind call cache (inl among) there = other_behind call cache (looked call.activity call.sequence cache) among there
  one_behind call cache (inr own) there = subst (IsBehind others kept) (sym (own_behind call cache own.0 own.1 there)) there

  pub all_behind : (calls cache : List Kept) → AllByRecursion (λ (call : Kept). IsFew kept others call.activity call.sequence) calls → IsBehind others kept cache
      → IsBehind others kept (behind_calls 4 calls cache)
  all_behind [] cache each there = there
  all_behind (call ∷ calls) cache each there = all_behind calls (behind_call 4 call cache) each.1 (one_behind call cache each.0 there)

-- It is answered with the same frame.
pub behind_again : (others : List (List ℕ)) (kept : Kept) (cache : List Kept) → is_among others kept.activity ≡ false → IsBehind others kept cache
    → looked kept.activity kept.sequence cache ≡ again kept.frame
behind_again others kept cache none there =
    ap (reported_by kept.sequence) (behind_found others kept cache none there)
    ∙ rw (eq-eqb kept.sequence kept.sequence refl) refl

-- ---- Read Implicit that are not stored

-- A Read Implicit.
implicit_unkept : (options : DeviceOptions) (request : Request) → options.reads_not_kept ≡ true → is_implicit request ≡ true → is_kept options (operation_asked request) ≡ false
implicit_unkept options (request.Read read) option is = cc
implicit_unkept options (request.ReadImplicit read) option is = ap not option
implicit_unkept options (request.Write write) option is = cc

none_stored : (before now : List Kept) → IsStoredOf (λ _ _. ⊥) before now → now ≡ before
none_stored before now ([], is, none) = is
none_stored before now ((call ∷ calls), is, each) = absurd each.0

which_of : (one other : Operation) → Some one ≡ Some other → one ≡ other
which_of one other is = ap (λ (found : Option Operation). unwrap_or found one) is

question_of : (one other : Question) → Some one ≡ Some other → one ≡ other
question_of one other is = ap (λ (found : Option Question). unwrap_or found one) is

-- None of its events may store an answer.
asked_none : (station : Station) (live : Live) → station.options.reads_not_kept ≡ true → IsAskedImplicitly live.rest.asked → AllowsAsked (λ _ _. ⊥) station live
asked_none station live option it question asked is_stored =
    let same : it.0 ≡ question = question_of it.0 question (sym it.1 ∙ asked) in
    true≢false (sym is_stored ∙ implicit_unkept station.options question.request option (ap (λ (q : Question). is_implicit q.request) (sym same) ∙ it.2))

read_none : (station : Station) (live : Live) (heard : Heard) → station.options.reads_not_kept ≡ true → IsOfRead live heard → AllowsHeard (λ _ _. ⊥) station live heard
read_none station live (Reported caller address (Calls call)) option is = (
  λ which called is_stored. true≢false (sym is_stored ∙ (ap (is_kept station.options) (which_of which ReadImplicit (sym called ∙ is)) ∙ ap not option)),
  λ question asked implicit is_stored. true≢false (sym is_stored ∙ implicit_unkept station.options question.request option implicit),
)
read_none station live (Reported caller address (Responds response)) option is = absurd is
read_none station live (Reported caller address Garbled) option is = absurd is
read_none station live (Applied said) option is = asked_none station live option is
read_none station live Ticks option is = asked_none station live option is
read_none station live (Asks asker request) option is = tt
read_none station live (Resolves asker packet) option is = tt
read_none station live (Alarms source header message) option is = tt
read_none station live (LowReplies source header message) option is = tt
read_none station live (LowConfirms source header message) option is = tt
read_none station live (Cyclic source frame_id body) option is = tt
read_none station live (Met peer) option is = tt
read_none station live Unreadable option is = tt
read_none station live Elsewhere option is = tt

pub reads_leave : ReadsLeaveStoredAnswers
unfolding heard_step handled_step
reads_leave outcomes station live heard option is =
    let what = handled station live heard in
    none_stored live.rest.calls (finished station.identity live.rest what (carried outcomes live.values (items_in what)).answers).rest.calls
    (handled_called (λ _ _. ⊥) station live (carried outcomes live.values (items_in what)).answers heard (read_none station live heard option is))

-- ---- the repeats of a call

pub reads_between : ReadsAreBetween
reads_between station answered others header option is_stored = absurd (true≢false (sym is_stored ∙ ap not option))

module _ (station : Station) (answered : Kept) (others : List (List ℕ)) (few : length others ≤ 3) (none : is_among others answered.activity ≡ false) where
  abbrev IsOne : Question → Type 0
  IsOne question = IsBetween station answered others question.header (operation_asked question.request)

  -- What holds between a call and its repeat.
  record Between (live : Live) : Type 0 where
    stored : IsBehind others answered live.rest.calls
    asked : IsAskedBetween station answered others live.rest.asked

  may_store : (live : Live) (heard : Heard) → IsAskedBetween station answered others live.rest.asked → IsHeardBetween station answered others heard
      → AllowsHeard (IsFew answered others) station live heard
  may_store live (Reported caller address (Calls call)) were between = (between, λ question asked implicit is_stored. were question asked is_stored)
  may_store live (Reported caller address (Responds response)) were between = (tt, λ question asked implicit is_stored. were question asked is_stored)
  may_store live (Reported caller address Garbled) were between = (tt, λ question asked implicit is_stored. were question asked is_stored)
  may_store live (Applied said) were between = were
  may_store live Ticks were between = were
  may_store live (Asks asker request) were between = tt
  may_store live (Resolves asker packet) were between = tt
  may_store live (Alarms source header message) were between = tt
  may_store live (LowReplies source header message) were between = tt
  may_store live (LowConfirms source header message) were between = tt
  may_store live (Cyclic source frame_id body) were between = tt
  may_store live (Met peer) were between = tt
  may_store live Unreadable were between = tt
  may_store live Elsewhere were between = tt

  may_ask : (heard : Heard) → IsHeardBetween station answered others heard → IsHeardAskable IsOne heard
  may_ask (Reported caller address (Calls call)) between = λ which called question header_is which_is.
      subst (λ (o : Operation). IsBetween station answered others question.header o) (sym which_is)
      (subst (λ (h : CallHeader). IsBetween station answered others h which) (sym header_is) (between which called))
  may_ask (Reported caller address (Responds response)) between = tt
  may_ask (Reported caller address Garbled) between = tt
  may_ask (Applied said) between = tt
  may_ask Ticks between = tt
  may_ask (Asks asker request) between = tt
  may_ask (Resolves asker packet) between = tt
  may_ask (Alarms source header message) between = tt
  may_ask (LowReplies source header message) between = tt
  may_ask (LowConfirms source header message) between = tt
  may_ask (Cyclic source frame_id body) between = tt
  may_ask (Met peer) between = tt
  may_ask Unreadable between = tt
  may_ask Elsewhere between = tt

  step_between : (outcomes : List Outcome) (live : Live) (heard : Heard) → IsHeardBetween station answered others heard → Between live
      → Between (heard_step outcomes station live heard).live
  unfolding heard_step handled_step
  step_between outcomes live heard between was =
      let answers = (carried outcomes live.values (items_in (handled station live heard))).answers in
      let it = handled_called (IsFew answered others) station live answers heard (may_store live heard was.asked between) in
      record {
        stored = subst (IsBehind others answered) (sym it.1) (all_behind answered others few none it.0 live.rest.calls it.2 was.stored);
        asked = handled_stays IsOne station live answers was.asked heard (may_ask heard between);
      }

  run_between : (outcomes : List (List Outcome)) (live : Live) (events : List Event)
      → AllByRecursion (λ (event : Event). IsHeardBetween station answered others (heard_of station.identity event)) events → Between live
      → Between (run_of outcomes station live events).live
  run_between outcomes live [] between was = was
  run_between outcomes live (event ∷ events) between was =
      run_between (later_steps outcomes) (step_of (first_step outcomes) station live event).live events between.1
      (step_between (first_step outcomes) live (heard_of station.identity event) between.0 was)

pub repeats_alike : RepeatsAreAnsweredAlike
repeats_alike outcomes station live events answered earlier others is few none asked between now heard call served activity_is sequence_is =
    let was : Between station answered others few none live =
    record { stored = subst (IsBehind others answered) (sym is) (inl refl); asked = asked } in
    let after = run_between station answered others few none outcomes live events between was in
    let calls = (run_of outcomes station live events).live.rest.calls in
    again_heard now station (run_of outcomes station live events).live heard call answered.frame served
    (ap (λ (a : List ℕ). looked a call.header.sequence calls) activity_is ∙ (ap (λ (n : ℕ). looked answered.activity n calls) sequence_is
    ∙ behind_again others answered calls none after.stored))
