-- Over any events, answers are accepted under ascending numbers.
use Rattle.std.proofs.Common.{◌≡◌, ◌⊎◌, inl, inr, ◌+◌, ◌<◌, ◌≤◌, ◌==◌, ℕ, zero, suc, Bool, true, false, cond, List, [], ◌∷◌, ◌++◌, Option, Some, None, Result, Ok, Err, refl, sym, ap, subst, ◌∙◌, arith}
use Rattle.std.proofs.lemmas.Bool.{cases_order, eqb-true, ne_eqb, true≢false}
use Rattle.std.specs.Result.{is_err}
use Rattle.module_diff.specs.Changes.{covers}
use Rattle.asked_records.specs.declared.answering.AnswerFault.{AnswerFault}
use Rattle.asked_records.specs.declared.answering.AnswerFault.TheVariants as fault
use Rattle.asked_records.specs.declared.question.Question.{Question}
use Rattle.asked_records.specs.Answers.{Gives, fault_of, judged, question_unless}
use Rattle.asked_records.specs.Asked.{AskedState, Standing, behind_displaced, goes_before, limit, next_number, waits as waiting}
use Rattle.asked_records.specs.Questions.{header_of, is_of_relation}
use Rattle.asked_records.specs.Runs.{Ascends, Event, after_answer, answered_in, number_if, numbers_after, open_with, questions_in}
use Rattle.asked_records.specs.Runs.Event.{calls, answers, waits, ends, pulls, displaces}

-- ---- numbers

below_next : (last : ℕ) → last < 4294967295 → next_number last ≡ last + 1
below_next last below = rw (ne_eqb last 4294967295 (λ e. omega (arith, e, below))) refl

-- Before the largest number the numbers count up, and after it again from 1.
counted : (last more : ℕ) → 0 < last → last ≤ 4294967295 → more < 4294967295 →
    ((numbers_after more last ≡ last + more) × (last + more ≤ 4294967295))
    ⊎ ((numbers_after more last + 4294967295 ≡ last + more) × (4294967295 < last + more))
counted last zero some most few = inl (omega arith, omega (arith, most))
counted last (suc more) some most few = one_more (numbers_after more last) (counted last more some most (omega (arith, few)))
  where
    one_more : (number : ℕ) → ((number ≡ last + more) × (last + more ≤ 4294967295)) ⊎ ((number + 4294967295 ≡ last + more) × (4294967295 < last + more)) →
        ((next_number number ≡ last + suc more) × (last + suc more ≤ 4294967295))
        ⊎ ((next_number number + 4294967295 ≡ last + suc more) × (4294967295 < last + suc more))
    one_more number (inr it) =
        let next = below_next number (omega (arith, it.0, most, few)) in
        inr (ap (λ (n : ℕ). n + 4294967295) next ∙ omega (arith, it.0), omega (arith, it.1))
    one_more number (inl it) = elim (cases_order number 4294967295) [
      | inl same ↦ inr (ap (λ (n : ℕ). next_number n + 4294967295) same ∙ omega (arith, it.0, same), omega (arith, it.0, same))
      | inr order ↦ inl (below_next number (below order) ∙ omega (arith, it.0), omega (arith, it.0, below order))
    ]
      where
        below : ((number < 4294967295) ⊎ (4294967295 < number)) → number < 4294967295
        below (inl less) = less
        below (inr more_than) = absurd (omega (arith, more_than, it.0, it.1))

pub numbers_differ : (last more : ℕ) → 0 < last → last ≤ 4294967295 → 0 < more → more < 4294967295 → numbers_after more last ≡ last → ⊥
numbers_differ last more some most one few same = elim (counted last more some most few) [
  | inl it ↦ absurd (omega (arith, it.0, same, one))
  | inr it ↦ absurd (omega (arith, it.0, same, few))
]

-- ---- answers

-- Numbers that ascend from a number ascend from each lower one.
lower : (least more : ℕ) (numbers : List ℕ) → least ≤ more → Ascends more numbers → Ascends least numbers
lower least more [] below ascends = tt
lower least more (number ∷ numbers) below ascends = (omega (arith, below, ascends.0), ascends.1)

-- A state of its parts.
abbrev made : ℕ → Option Standing → AskedState
made last standing = record { standing = standing; last = last }

-- An answer that is accepted names the call that is asked.
named_is_last : (number last : ℕ) (given : Gives) (standing : Standing) (question : Question) →
    judged number given (made last (Some standing)) ≡ Ok question → number ≡ last
named_is_last number last given standing question accepted = by_number (number == last) refl accepted
  where
    by_number : (test : Bool) → (number == last) ≡ test →
        cond test (question_unless standing.question (fault_of standing.question given)) (Err fault.NotAsked) ≡ Ok question → number ≡ last
    by_number true is e = eqb-true number last is
    by_number false is e = absurd (true≢false (ap is_err e))

-- The rest of a run, if what is asked is dropped, or not.
if_dropped : (events : List Event) (last : ℕ) (standing : Standing) (test : Bool) →
    Ascends (last + 1) (answered_in events (made last None)) → Ascends last (answered_in events (made last (Some standing))) →
    Ascends last (answered_in events (cond test (made last None) (made last (Some standing))))
if_dropped events last standing true none some = lower last (last + 1) _ (omega arith) none
if_dropped events last standing false none some = some

-- The rest of a run after an answer.
if_answered : (events : List Event) (number last : ℕ) (standing : Standing) (judgement : Result Question AnswerFault) →
    ((question : Question) → judgement ≡ Ok question → number ≡ last) →
    Ascends (last + 1) (answered_in events (made last None)) → Ascends last (answered_in events (made last (Some standing))) →
    Ascends last (number_if number judgement ++ answered_in events (after_answer (made last (Some standing)) judgement))
if_answered events number last standing (Ok question) names none some =
    let same : last ≡ number = sym (names question refl) in
    (omega (arith, same), subst (λ (n : ℕ). Ascends (n + 1) (answered_in events (made last None))) same none)
if_answered events number last standing (Err it) names none some = some

-- The rest of a run after a unit.
if_over : (events : List Event) (last : ℕ) (standing : Standing) (test : Bool) →
    Ascends (last + 1) (answered_in events (made last None)) → Ascends last (answered_in events (made last (Some (waiting 1 standing)))) →
    Ascends last (answered_in events (made last (cond test None (Some (waiting 1 standing)))))
if_over events last standing true none some = lower last (last + 1) _ (omega arith) none
if_over events last standing false none some = some

-- The rest of a run, if the call that is asked gives way, or not.
if_displaced : (events : List Event) (last : ℕ) (standing : Standing) (own_first test : Bool) →
    Ascends (last + 1) (answered_in events (made last None)) → Ascends last (answered_in events (made last (Some standing))) →
    Ascends last (answered_in events (behind_displaced (cond own_first (cond test (Some standing.question) None) None) (made last (Some standing))))
if_displaced events last standing true true none some = lower last (last + 1) _ (omega arith) none
if_displaced events last standing true false none some = some
if_displaced events last standing false test none some = some

-- The rest of a run, if nothing is asked that could give way.
if_none : (events : List Event) (last : ℕ) (own_first : Bool) → Ascends (last + 1) (answered_in events (made last None)) →
    Ascends (last + 1) (answered_in events (behind_displaced (cond own_first None None) (made last None)))
if_none events last true none = none
if_none events last false none = none

ascends : (events : List Event) (last : ℕ) (standing : Option Standing) → last + questions_in events ≤ 4294967295 →
    Ascends (open_with last standing) (answered_in events (made last standing))
ascends [] last standing few = tt
ascends (calls question octets ∷ events) last None few =
    let asked : Option Standing = Some (record { question = question; octets = octets; waited = 0 }) in
    subst (λ (n : ℕ). Ascends (last + 1) (answered_in events (made n asked))) (sym (below_next last (omega (arith, few))))
    (ascends events (last + 1) asked (omega (arith, few)))
ascends (calls question octets ∷ events) last (Some standing) few = ascends events last (Some standing) (omega (arith, few))
ascends (answers number given ∷ events) last None few = ascends events last None (omega (arith, few))
ascends (answers number given ∷ events) last (Some standing) few =
    if_answered events number last standing (judged number given (made last (Some standing)))
    (λ question accepted. named_is_last number last given standing question accepted)
    (ascends events last None (omega (arith, few))) (ascends events last (Some standing) (omega (arith, few)))
ascends (waits ∷ events) last None few = ascends events last None (omega (arith, few))
ascends (waits ∷ events) last (Some standing) few =
    if_over events last standing (standing.waited + 1 == limit)
    (ascends events last None (omega (arith, few))) (ascends events last (Some (waiting 1 standing)) (omega (arith, few)))
ascends (ends ar_uuid ∷ events) last None few = ascends events last None (omega (arith, few))
ascends (ends ar_uuid ∷ events) last (Some standing) few =
    if_dropped events last standing (is_of_relation ar_uuid standing.question.request)
    (ascends events last None (omega (arith, few))) (ascends events last (Some standing) (omega (arith, few)))
ascends (pulls affected ∷ events) last None few = ascends events last None (omega (arith, few))
ascends (pulls affected ∷ events) last (Some standing) few =
    if_dropped events last standing
    (covers affected (header_of standing.question.request).slot_number (header_of standing.question.request).subslot_number)
    (ascends events last None (omega (arith, few))) (ascends events last (Some standing) (omega (arith, few)))
ascends (displaces own_first question ∷ events) last None few = if_none events last own_first (ascends events last None (omega (arith, few)))
ascends (displaces own_first question ∷ events) last (Some standing) few =
    if_displaced events last standing own_first (goes_before question standing.question)
    (ascends events last None (omega (arith, few))) (ascends events last (Some standing) (omega (arith, few)))

pub answers_ascend : (events : List Event) (state : AskedState) → state.last + questions_in events ≤ 4294967295 →
    Ascends (open_with state.last state.standing) (answered_in events state)
answers_ascend events state few = ascends events state.last state.standing few
