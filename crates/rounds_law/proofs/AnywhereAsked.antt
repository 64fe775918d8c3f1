-- What is asked of the application of a device in any state, and what a unit does to it.
use Rattle.std.proofs.Common.{◌≡◌, ◌⊎◌, inl, inr, ◌+◌, ◌==◌, ◌&&◌, ℕ, nat_eq, zero, suc, Bool, true, false, List, [], ◌∷◌, length, take}
use Rattle.std.proofs.Common.{Option, Some, None, refl, sym, ap, subst, ◌∙◌}
use Rattle.std.specs.Prelude.{if◌then◌else◌, unwrap_or}
use Rattle.std.specs.Cmp.Lexicographic.{pointwise, same_text}
use Rattle.std.specs.Option.{option_map}
use Rattle.std.proofs.lemmas.Option.{same_Some}
use Rattle.rpc_core.specs.Cache.{Kept, is_of, kept_more, kept_of, without}
use Rattle.std.proofs.lemmas.Bool.{false≢true}
use Rattle.rpc_core.specs.Response.{is_done}
use Rattle.asked_records.specs.Answers.{unanswered_status}
use Rattle.asked_records.specs.Asked.{AskedState, Standing, limit, question_in, repeats, settled, waits}
use Rattle.asked_records.specs.Questions.{is_implicit, is_of_relation, operation_of}
use Rattle.asked_records.specs.declared.question.Request.{Request}
use Rattle.asked_records.specs.declared.question.Request.TheVariants as request
use Rattle.asked_records.specs.declared.status.Unanswered.TheVariants.{Late}
use Rattle.pn_alarms.specs.declared.abort.Abort.{Abort}
use Rattle.relations.specs.Phases.{passing, passing_by, updated}
use Rattle.relations.specs.RelationState.{RelationState, uuid_of}
use Rattle.relations.specs.Timers.{due_by, due_of, ending_of}
use Rattle.asked_records.specs.declared.question.Question.{Question}
use Rattle.device_core.specs.Asking.{asked_later, ended_by, is_full, late_in, late_sent, left_asked}
use Rattle.device_core.specs.Handled.{unit_sent}
use Rattle.device_core.specs.State.{Live, Station}
use Rattle.controller_messages.specs.declared.setup.Setup.{Setup}
use Rattle.rounds_law.specs.Anywhere.{IsQuestionOf}
use Rattle.rounds_law.proofs.AskedUnits.{late_at}

-- ---- what is asked

module _ (setup next : Setup) where
  abbrev Asks : Option (List ℕ) → Option Standing → Type 0
  Asks uuid standing = IsQuestionOf setup next uuid standing

  -- If nothing is asked, or there is no relation.
  pub nothing_asked : (uuid : Option (List ℕ)) (standing : Option Standing) → standing ≡ None → Asks uuid standing
  nothing_asked uuid None none = tt
  nothing_asked uuid (Some one) none = absurd cc

  pub none_asked : (standing : Option Standing) → Asks None standing → standing ≡ None
  none_asked None asked = refl
  none_asked (Some one) asked = absurd asked

  pub unrelated_asked : (link : Option RelationState) (standing : Option Standing) → link ≡ None → Asks (uuid_of link) standing → standing ≡ None
  unrelated_asked link standing none asked = none_asked standing (subst (λ (l : Option RelationState). Asks (uuid_of l) standing) none asked)

  -- The relation ends: nothing is asked any more.
  pub left_none : (uuid : Option (List ℕ)) (standing : Option Standing) (last : ℕ) → Asks uuid standing
      → (left_asked uuid (record { standing = standing; last = last })).standing ≡ None
  left_none None None last asked = refl
  left_none None (Some one) last asked = absurd asked
  left_none (Some uuid) None last asked = refl
  left_none (Some uuid) (Some one) last asked =
      ap (λ (is : Bool). let state : AskedState = record { standing = Some one; last = last } in (if is then settled state else state).standing) asked.0

  pub left_so : (uuid : Option (List ℕ)) (after : Option (List ℕ)) (asked : AskedState) → Asks uuid asked.standing → Asks after (left_asked uuid asked).standing
  left_so uuid after asked asks = nothing_asked after (left_asked uuid asked).standing (left_none uuid asked.standing asked.last asks)

  -- It is not of the next start, and not the Connect of this one.
  others_one : (uuid : Option (List ℕ)) (one : Standing) → Asks uuid (Some one)
      → (one.question.header.activity ≡ next.activity → ⊥)
      × (one.question.header.activity ≡ setup.activity → (one.question.header.sequence == 0) ≡ false)
  others_one None one asked = absurd asked
  others_one (Some uuid) one asked = (asked.1, asked.2)

  pub others_of : (uuid : Option (List ℕ)) (standing : Option Standing) (one : Standing) → standing ≡ Some one → Asks uuid standing
      → (one.question.header.activity ≡ next.activity → ⊥)
      × (one.question.header.activity ≡ setup.activity → (one.question.header.sequence == 0) ≡ false)
  others_of uuid standing one is asked = others_one uuid one (subst (Asks uuid) is asked)

  pub not_connect : (uuid : Option (List ℕ)) (state : AskedState) (question : Question) → Asks uuid state.standing → question_in state ≡ Some question
      → question.header.activity ≡ setup.activity → (question.header.sequence == 0) ≡ false
  not_connect uuid state question asked is = by_standing state.standing asked is
    where
      by_standing : (standing : Option Standing) → Asks uuid standing → option_map (λ one. one.question) standing ≡ Some question
          → question.header.activity ≡ setup.activity → (question.header.sequence == 0) ≡ false
      by_standing None asks none = absurd cc
      by_standing (Some one) asks same =
          subst (λ (q : Question). q.header.activity ≡ setup.activity → (q.header.sequence == 0) ≡ false) (same_Some one.question question same)
          (others_one uuid one asks).1

  -- It is no Read Implicit, which is of no relation.
  plain_of : (own : List ℕ) (asked : Request) → is_of_relation own asked ≡ true → is_implicit asked ≡ true → ⊥
  plain_of own (request.Read read) of implicit = false≢true implicit
  plain_of own (request.ReadImplicit read) of implicit = false≢true of
  plain_of own (request.Write write) of implicit = false≢true implicit

  pub plain_asked : (uuid : Option (List ℕ)) (state : AskedState) (question : Question) → Asks uuid state.standing → question_in state ≡ Some question
      → is_implicit question.request ≡ true → ⊥
  plain_asked uuid state question asked is = by_standing uuid state.standing asked is
    where
      by_standing : (named : Option (List ℕ)) (standing : Option Standing) → Asks named standing → option_map (λ one. one.question) standing ≡ Some question
          → is_implicit question.request ≡ true → ⊥
      by_standing named None asks none = absurd cc
      by_standing None (Some one) asks same = absurd asks
      by_standing (Some own) (Some one) asks same =
          plain_of own question.request (subst (λ (q : Question). is_of_relation own q.request ≡ true) (same_Some one.question question same) asks.0)

  -- No call of the next start is a repeat of the one that is asked.
  pub none_repeats : (uuid : Option (List ℕ)) (standing : Option Standing) (sequence : ℕ) → Asks uuid standing → repeats next.activity sequence standing ≡ false
  none_repeats uuid None sequence asked = refl
  none_repeats None (Some one) sequence asked = absurd asked
  none_repeats (Some uuid) (Some one) sequence asked = by_test (pointwise nat_eq one.question.header.activity next.activity) refl
    where
      by_test : (same : Bool) → pointwise nat_eq one.question.header.activity next.activity ≡ same
          → (same && one.question.header.sequence == sequence) ≡ false
      by_test true e = absurd (asked.1 (same_text one.question.header.activity next.activity (sym e)))
      by_test false e = refl

  -- ---- a unit

  counted_by : (uuid : List ℕ) (one : Standing) (last : ℕ) → Asks (Some uuid) (Some one) → (full over : Bool)
      → Asks (Some uuid) (let state : AskedState = record { standing = Some one; last = last } in
      if full then state else record state { standing = if over then None else Some (waits 1 one) }).standing
  counted_by uuid one last asked true over = asked
  counted_by uuid one last asked false true = tt
  counted_by uuid one last asked false false = asked

  counted : (count : ℕ) (uuid : Option (List ℕ)) (standing : Option Standing) (last : ℕ) → Asks uuid standing
      → Asks uuid (asked_later count (record { standing = standing; last = last })).standing
  counted count uuid None last asked = tt
  counted count None (Some one) last asked = absurd asked
  counted count (Some uuid) (Some one) last asked =
      counted_by uuid one last asked (one.waited + 1 == limit && is_full count) (one.waited + 1 == limit)

  ends_or_not : (count : ℕ) (link : RelationState) (ending : Option Abort) (asked : AskedState) → Asks (Some link.request.ar.uuid) asked.standing
      → Asks (uuid_of (updated (passing_by ending) (Some link))) (asked_later count (left_asked (ended_by (due_by link ending).farewell) asked)).standing
  ends_or_not count link None asked asks = counted count (Some link.request.ar.uuid) asked.standing asked.last asks
  ends_or_not count link (Some reason) asked asks =
      let left = left_asked (Some link.request.ar.uuid) asked in
      counted count None left.standing left.last (left_so (Some link.request.ar.uuid) None asked asks)

  pub unit_asked : (count : ℕ) (link : Option RelationState) (asked : AskedState) → Asks (uuid_of link) asked.standing
      → Asks (uuid_of (updated (passing link) link)) (asked_later count (left_asked (ended_by (due_of link).farewell) asked)).standing
  unit_asked count None asked asks = counted count None asked.standing asked.last asks
  unit_asked count (Some link) asked asks = ends_or_not count link (ending_of link) asked asks

  -- ---- a unit with which the relation ends

  late_none : (count : ℕ) (state : AskedState) → state.standing ≡ None → late_in count state ≡ None
  late_none count state none = ap (λ (s : Option Standing). late_in count (record { standing = s; last = state.last })) none

  -- What is asked is dropped, and not refused.
  pub ends_quiet : (station : Station) (live : Live) (link : RelationState) (reason : Abort) → live.rest.link ≡ Some link → ending_of link ≡ Some reason
      → Asks (uuid_of live.rest.link) live.rest.asked.standing → late_at station live ≡ []
  ends_quiet station live link reason has ends asks =
      let address = live.values.running.suite.address in
      let count = length (unit_sent live) in
      let asked = live.rest.asked in
      let left = left_asked (Some link.request.ar.uuid) asked in
      let of_link = subst (λ (l : Option RelationState). Asks (uuid_of l) asked.standing) has asks in
      ap (λ (l : Option RelationState). late_sent station.options address (late_in count (left_asked (ended_by (due_of l).farewell) asked)) live.rest.calls) has
      ∙ (ap (λ (e : Option Abort). late_sent station.options address (late_in count (left_asked (ended_by (due_by link e).farewell) asked)) live.rest.calls) ends
      ∙ ap (λ (question : Option Question). late_sent station.options address question live.rest.calls)
      (late_none count left (left_none (Some link.request.ar.uuid) asked.standing asked.last of_link)))

-- It is not of this start, nor of a later one.
pub next_asked : (setup next later : Setup) (uuid : Option (List ℕ)) (standing : Option Standing) → IsQuestionOf setup next uuid standing
    → IsQuestionOf setup later uuid standing → IsQuestionOf next later uuid standing
next_asked setup next later uuid None one other = tt
next_asked setup next later None (Some question) one other = absurd one
next_asked setup next later (Some uuid) (Some question) one other = (one.0, other.1, λ same. absurd (one.1 same))

-- ---- the refusal of a call that had no answer

pub late_undone : (asked : Request) → is_done (unanswered_status (operation_of asked) Late) ≡ false
late_undone (request.Read read) = refl
late_undone (request.ReadImplicit read) = refl
late_undone (request.Write write) = refl

-- ---- stored answers

same_some : (one other : Kept) → Some one ≡ Some other → other ≡ one
same_some one other e = ap (λ (o : Option Kept). unwrap_or o other) (sym e)

-- What is found after a choice is the first one, or what is found without it.
found_or : (activity : List ℕ) (first kept : Kept) (others : List Kept) → kept_of activity (first ∷ others) ≡ Some kept
    → (kept ≡ first) ⊎ ((is_of activity first ≡ false) × (kept_of activity others ≡ Some kept))
found_or activity first kept others found = by_test (is_of activity first) refl found
  where
    by_test : (is : Bool) → is_of activity first ≡ is → (if is then Some first else kept_of activity others) ≡ Some kept
        → (kept ≡ first) ⊎ ((is_of activity first ≡ false) × (kept_of activity others ≡ Some kept))
    by_test true e found = inl (same_some first kept found)
    by_test false e found = inr (e, found)

some_taken : (activity : List ℕ) (n : ℕ) (calls : List Kept) (kept : Kept) → kept_of activity (take n calls) ≡ Some kept → kept_of activity calls ≡ Some kept
some_taken activity zero calls kept found = absurd (none_some found)
  where
    none_some : kept_of activity (take 0 calls) ≡ Some kept → ⊥
    none_some e = by_calls calls e
      where
        by_calls : (all : List Kept) → kept_of activity (take 0 all) ≡ Some kept → ⊥
        by_calls [] bad = absurd cc
        by_calls (one ∷ all) bad = absurd cc
some_taken activity (suc n) [] kept found = found
some_taken activity (suc n) (first ∷ calls) kept found = by_test (is_of activity first) (some_taken activity n calls kept) found
  where
    by_test : (is : Bool) → (kept_of activity (take n calls) ≡ Some kept → kept_of activity calls ≡ Some kept)
        → (if is then Some first else kept_of activity (take n calls)) ≡ Some kept → (if is then Some first else kept_of activity calls) ≡ Some kept
    by_test true later e = e
    by_test false later e = later e

some_without : (activity other : List ℕ) → pointwise nat_eq other activity ≡ false → (calls : List Kept) (kept : Kept)
    → kept_of activity (without other calls) ≡ Some kept → kept_of activity calls ≡ Some kept
some_without activity other apart [] kept found = found
some_without activity other apart (first ∷ calls) kept found = by_other (is_of other first) refl (some_without activity other apart calls kept) found
  where
    unlike : is_of other first ≡ true → is_of activity first ≡ false
    unlike same = ap (λ (a : List ℕ). pointwise nat_eq a activity) (same_text first.activity other (sym same)) ∙ apart

    by_first : (is : Bool) → (kept_of activity (without other calls) ≡ Some kept → kept_of activity calls ≡ Some kept)
        → (if is then Some first else kept_of activity (without other calls)) ≡ Some kept
        → (if is then Some first else kept_of activity calls) ≡ Some kept
    by_first true later e = e
    by_first false later e = later e

    by_other : (is : Bool) → is_of other first ≡ is → (kept_of activity (without other calls) ≡ Some kept → kept_of activity calls ≡ Some kept)
        → kept_of activity (if is then calls else first ∷ without other calls) ≡ Some kept
        → kept_of activity (first ∷ calls) ≡ Some kept
    by_other true same later e = ap (λ (b : Bool). if b then Some first else kept_of activity calls) (unlike same) ∙ e
    by_other false same later e = by_first (is_of activity first) later e

-- What is found among the answers with one more is that one, or was found before.
pub some_more : (activity : List ℕ) (newest : Kept) (calls : List Kept) (kept : Kept) → kept_of activity (kept_more 4 newest calls) ≡ Some kept
    → (kept ≡ newest) ⊎ (kept_of activity calls ≡ Some kept)
some_more activity newest calls kept found = by_first (found_or activity newest kept (take 3 (without newest.activity calls)) found)
  where
    by_first : (kept ≡ newest) ⊎ ((is_of activity newest ≡ false) × (kept_of activity (take 3 (without newest.activity calls)) ≡ Some kept))
        → (kept ≡ newest) ⊎ (kept_of activity calls ≡ Some kept)
    by_first (inl same) = inl same
    by_first (inr old) =
        inr (some_without activity newest.activity old.0 calls kept (some_taken activity 3 (without newest.activity calls) kept old.1))
