-- Answers over a run.
use Rattle.std.proofs.Common.{◌≡◌, ◌⊎◌, inl, inr, ◌+◌, ◌≤◌, ◌<◌, ℕ, List, [], ◌∷◌, ◌++◌, length, Option, Some, None, option_map, refl, sym, ap, subst, ◌∙◌, arith}
use Rattle.std.proofs.lemmas.Bool.{ne_eqb}
use Rattle.settings_journal.specs.settings_store.Machine.{Outcome, carried}
use Rattle.asked_records.specs.Asked.{AskedState, Standing, next_number, question_in}
use Rattle.asked_records.specs.Runs.{Ascends, open_number, open_with}
use Rattle.asked_records.specs.declared.question.Question.{Question}
use Rattle.device_frames.specs.Heard.{Heard}
use Rattle.device_core.specs.Handled.{handled}
use Rattle.device_core.specs.Machine.{handled_step, heard_step, items_in}
use Rattle.device_core.specs.State.{Live, Station}
use Rattle.asked_law.specs.Once.{IsGivenTo, IsHeardCall, Step, WasAsked, accepted_over, accepted_with, after_step, after_steps}
use Rattle.asked_law.proofs.Given.{Accepts, step_accepts}
use Rattle.asked_law.proofs.Keeping.{Begins, Goes, Keeps}
use Rattle.asked_law.proofs.Turns.{asked_goes}

some_is : {A : Type 0} (x y : A) → Some x ≡ Some y → x ≡ y
some_is x y e = cc

none_some : {A : Type 0} (x : A) → ◌≡◌ {A = Option A} None (Some x) → ⊥
none_some x e = absurd cc

none_more : (number : ℕ) (others : List ℕ) → [] ≡ number ∷ others → ⊥
none_more number others e = absurd cc

first_is : (one other : ℕ) (ones others : List ℕ) → one ∷ ones ≡ other ∷ others → one ≡ other
first_is one other ones others e = cc

-- What becomes of the call that is asked with a step.
step_goes : (station : Station) (live : Live) (outcomes : List Outcome) (heard : Heard)
    → Goes heard live.rest.asked (heard_step outcomes station live heard).live.rest.asked
unfolding heard_step handled_step
step_goes station live outcomes heard = asked_goes station live (carried outcomes live.values (items_in (handled station live heard))).answers heard

-- ---- numbers

lower : (least more : ℕ) (numbers : List ℕ) → least ≤ more → Ascends more numbers → Ascends least numbers
lower least more [] below ascends = tt
lower least more (number ∷ numbers) below ascends = (omega (arith, below, ascends.0), ascends.1)

-- The least number that can still be accepted: that of the call that is asked, or else the next one.
open_none : (last : ℕ) (standing : Option Standing) → option_map (λ standing. standing.question) standing ≡ None → open_with last standing ≡ last + 1
open_none last None none = refl
open_none last (Some standing) none = absurd cc

open_some : (last : ℕ) (standing : Option Standing) (question : Question) → option_map (λ standing. standing.question) standing ≡ Some question → open_with last standing ≡ last
open_some last None question some = absurd cc
open_some last (Some standing) question some = refl

open_most : (last : ℕ) (standing : Option Standing) → open_with last standing ≤ last + 1
open_most last None = omega arith
open_most last (Some standing) = omega arith

same_open : (last : ℕ) (before after : Option Standing) → option_map (λ standing. standing.question) after ≡ option_map (λ standing. standing.question) before
    → open_with last after ≡ open_with last before
same_open last before None same = sym (open_none last before (sym same))
same_open last before (Some standing) same = sym (open_some last before standing.question (sym same))

below_next : (last : ℕ) → last < 4294967295 → next_number last ≡ last + 1
below_next last below = rw (ne_eqb last 4294967295 (λ e. omega (arith, e, below))) refl

-- The open number does not fall, and the last number rises by at most one.
pub record Rises (before after : AskedState) : Type 0 where
  pub opens : open_number before ≤ open_number after
  pub last : after.last ≤ before.last + 1

keeps_rises : (before after : AskedState) → Keeps before after → Rises before after
keeps_rises before after keeps = by_question keeps.question
  where
    number : (state : AskedState) → ℕ
    number state = open_with after.last state.standing

    before_is : open_number before ≡ open_with after.last before.standing
    before_is = ap (λ (n : ℕ). open_with n before.standing) (sym keeps.last)

    by_question : (question_in after ≡ question_in before) ⊎ (question_in after ≡ None) → Rises before after
    by_question (inl same) =
        let is = same_open after.last before.standing after.standing same in
        record { opens = omega (arith, is, before_is); last = omega (arith, keeps.last) }
    by_question (inr none) =
        let is = open_none after.last after.standing none in
        record { opens = omega (arith, is, before_is, open_most after.last before.standing); last = omega (arith, keeps.last) }

begins_rises : (heard : Heard) (before after : AskedState) → before.last < 4294967295 → Begins heard before after → Rises before after
begins_rises heard before after few begins =
    let next = below_next before.last few in
    let is = open_some after.last after.standing begins.question begins.asked in
    record { opens = omega (arith, open_most before.last before.standing, is, begins.last, next); last = omega (arith, begins.last, next) }

goes_rises : (heard : Heard) (before after : AskedState) → before.last < 4294967295 → Goes heard before after → Rises before after
goes_rises heard before after few (inl keeps) = keeps_rises before after keeps
goes_rises heard before after few (inr begins) = begins_rises heard before after few begins

none_standing : (state : AskedState) (question : Question) → question_in state ≡ Some question → state.standing ≡ None → ⊥
none_standing state question some none = absurd cc

-- As an answer is accepted, its number is the open one, and the next one is open then.
given_opens : (station : Station) (live : Live) (step : Step) (number : ℕ) → IsGivenTo station live step number
    → Goes step.heard live.rest.asked (after_step station live step).rest.asked
    → (open_number live.rest.asked ≡ number) × (open_number (after_step station live step).rest.asked ≡ number + 1) × ((after_step station live step).rest.asked.last ≡ number)
given_opens station live step number given (inl keeps) =
    let was = open_some live.rest.asked.last live.rest.asked.standing given.question given.asked in
    let is = ap (λ (s : Option Standing). open_with (after_step station live step).rest.asked.last s) given.settles in
    (was ∙ given.numbered, omega (arith, is, keeps.last, given.numbered), keeps.last ∙ given.numbered)
given_opens station live step number given (inr begins) =
    absurd (none_standing (after_step station live step).rest.asked begins.question begins.asked given.settles)

-- A step before a run.
step_ascends : (station : Station) (step : Step) (steps : List Step) (live : Live) → live.rest.asked.last + (length steps + 1) ≤ 4294967295
    → ((after_step station live step).rest.asked.last + length steps ≤ 4294967295
    → Ascends (open_number (after_step station live step).rest.asked) (accepted_over station (after_step station live step) steps))
    → Goes step.heard live.rest.asked (after_step station live step).rest.asked → Accepts station live step
    → Ascends (open_number live.rest.asked) (accepted_with live step.heard ++ accepted_over station (after_step station live step) steps)
step_ascends station step steps live few later goes (inl none) =
    let rises = goes_rises step.heard live.rest.asked (after_step station live step).rest.asked (omega (arith, few)) goes in
    subst (λ (numbers : List ℕ). Ascends (open_number live.rest.asked) (numbers ++ accepted_over station (after_step station live step) steps)) (sym none)
    (lower (open_number live.rest.asked) (open_number (after_step station live step).rest.asked) (accepted_over station (after_step station live step) steps) rises.opens
    (later (omega (arith, few, rises.last))))
step_ascends station step steps live few later goes (inr one) =
    let opens = given_opens station live step one.0 one.2 goes in
    subst (λ (numbers : List ℕ). Ascends (open_number live.rest.asked) (numbers ++ accepted_over station (after_step station live step) steps)) (sym one.1) (
      omega (arith, opens.0),
      subst (λ (n : ℕ). Ascends n (accepted_over station (after_step station live step) steps)) opens.1 (later (omega (arith, few, opens.2, one.2.numbered))),
    )

pub answers_ascend : (station : Station) (steps : List Step) (live : Live) → live.rest.asked.last + length steps ≤ 4294967295
    → Ascends (open_number live.rest.asked) (accepted_over station live steps)
answers_ascend station [] live few = tt
answers_ascend station (step ∷ steps) live few =
    step_ascends station step steps live (omega (arith, few)) (λ few. answers_ascend station steps (after_step station live step) few)
    (step_goes station live step.outcomes step.heard) (step_accepts station live step.outcomes step.heard)

-- ---- the call that was heard

-- A call that is asked after a step was asked before, or it was heard with the step.
asked_before : (heard : Heard) (before after : AskedState) (question : Question) → Goes heard before after → question_in after ≡ Some question
    → (question_in before ≡ Some question) ⊎ IsHeardCall heard question
asked_before heard before after question (inl keeps) asked = by_question keeps.question
  where
    by_question : (question_in after ≡ question_in before) ⊎ (question_in after ≡ None) → (question_in before ≡ Some question) ⊎ IsHeardCall heard question
    by_question (inl same) = inl (sym same ∙ asked)
    by_question (inr none) = absurd (none_some question (sym none ∙ asked))
asked_before heard before after question (inr begins) asked =
    inr (subst (λ (q : Question). IsHeardCall heard q) (some_is begins.question question (sym begins.asked ∙ asked)) begins.is)

pub was_asked : (station : Station) (steps : List Step) (live : Live) (question : Question) → question_in (after_steps station live steps).rest.asked ≡ Some question
    → WasAsked live steps question
was_asked station [] live question asked = inl asked
was_asked station (step ∷ steps) live question asked =
    by_later (was_asked station steps (after_step station live step) question asked)
  where
    by_first : (question_in live.rest.asked ≡ Some question) ⊎ IsHeardCall step.heard question → WasAsked live (step ∷ steps) question
    by_first (inl before) = inl before
    by_first (inr heard) = inr (inl heard)

    by_later : WasAsked (after_step station live step) steps question → WasAsked live (step ∷ steps) question
    by_later (inr later) = inr (inr later)
    by_later (inl now) = by_first (asked_before step.heard live.rest.asked (after_step station live step).rest.asked question
        (step_goes station live step.outcomes step.heard) now)

-- ---- one answer

pub own_given : (station : Station) (live : Live) (step : Step) (number : ℕ) (others : List ℕ) → accepted_with live step.heard ≡ number ∷ others → Accepts station live step
    → IsGivenTo station live step number
own_given station live step number others is (inl none) = absurd (none_more number others (sym none ∙ is))
own_given station live step number others is (inr one) =
    subst (λ (n : ℕ). IsGivenTo station live step n) (first_is one.0 number [] others (sym one.1 ∙ is)) one.2
