-- The plan's records for a submodule, one step after the other, and lists that end with others.
use Rattle.std.proofs.Common.{◌≡◌, ◌+◌, ◌++◌, ◌==◌, ℕ, zero, suc, Bool, true, false, cond, List, [], ◌∷◌, map, take, drop, Option, Some, None, refl, sym, ap, subst, ◌∙◌, append_assoc, append-nil, arith, add-one}
use Rattle.std.specs.Prelude.{slice_get}
use Rattle.std.specs.List.{filter}
use Rattle.std.proofs.lemmas.Bool.{and_parts, eqb-true}
use Rattle.records.specs.declared.writes.taken.TakenRecord.{TakenRecord}
use Rattle.plans.specs.declared.parts.Parts.{Parts}
use Rattle.plans.specs.declared.parts.PlanRecord.{PlanRecord}
use Rattle.plan_places.specs.Records.{first_record, is_record_of}
use Rattle.controller_messages.specs.declared.plug_request.PlugStep.{PlugStep}
use Rattle.controller_messages.specs.declared.plug_request.PlugStep.TheVariants.{Record, PrmEnd}
use Rattle.controller_core.specs.Machine.{step_from, step_of_record}
use Rattle.both_ends.specs.startup.View.{taken_for}
use Rattle.plug_ends.specs.Plugged.{EndsWith, records_at}

-- ---- lists that end with others

pub ends_none : {A : Type 0} (all : List A) → EndsWith all []
ends_none all = (all, sym (append-nil all))

pub ends_more : {A : Type 0} (all last more : List A) → EndsWith all last → EndsWith (all ++ more) (last ++ more)
ends_more {A} all last more ends = (ends.0, ap (λ (xs : List A). xs ++ more) ends.1 ∙ append_assoc ends.0 last more)

-- ---- the next record of a place

module _ (slot subslot : ℕ) where
  abbrev At : List PlanRecord → List TakenRecord
  At records = records_at slot subslot records

  abbrev test : PlanRecord → Bool
  test entry = is_record_of slot subslot entry

  abbrev with_front : PlanRecord → Bool → List TakenRecord → List TakenRecord
  with_front entry b values = cond b (taken_for entry ∷ values) values

  at_cons : (entry : PlanRecord) (entries : List PlanRecord) → At (entry ∷ entries) ≡ with_front entry (test entry) (At entries)
  at_cons entry entries = by_test (test entry)
    where
      by_test : (b : Bool) → map taken_for (cond b (entry ∷ filter (is_record_of slot subslot) entries) (filter (is_record_of slot subslot) entries))
          ≡ cond b (taken_for entry ∷ At entries) (At entries)
      by_test true = refl
      by_test false = refl

  front_more : (entry : PlanRecord) (b : Bool) (values more : List TakenRecord) → with_front entry b (values ++ more) ≡ with_front entry b values ++ more
  front_more entry true values more = refl
  front_more entry false values more = refl

  -- What is found of these records, of which the first has a number, from a place on: none is left, or the one at a later place.
  abbrev IsFound : ℕ → ℕ → List PlanRecord → Option ℕ → Type 0
  IsFound number from entries None = At entries ≡ At (take from entries)
  IsFound number from entries (Some found) =
      (place : ℕ) × (found ≡ number + place) × (entry : PlanRecord) × (slice_get entries place ≡ Some entry) × (test entry ≡ true)
      × (At (take place entries) ≡ At (take from entries)) × (At (take (suc place) entries) ≡ At (take place entries) ++ taken_for entry ∷ [])

  next_number : (found number place : ℕ) → found ≡ (number + 1) + place → found ≡ number + suc place
  next_number found number place e = omega (arith, e)

  past : (number from : ℕ) (entry : PlanRecord) (entries : List PlanRecord) (found : Option ℕ) → IsFound (number + 1) from entries found
      → IsFound number (suc from) (entry ∷ entries) found
  past number from entry entries None next =
      at_cons entry entries ∙ (ap (λ (l : List TakenRecord). with_front entry (test entry) l) next ∙ sym (at_cons entry (take from entries)))
  past number from entry entries (Some found) next = (
    suc next.0,
    next_number found number next.0 next.1,
    next.2,
    next.3,
    next.4,
    at_cons entry (take next.0 entries) ∙ (ap (λ (l : List TakenRecord). with_front entry (test entry) l) next.5 ∙ sym (at_cons entry (take from entries))),
    at_cons entry (take (suc next.0) entries)
        ∙ (ap (λ (l : List TakenRecord). with_front entry (test entry) l) next.6
        ∙ (front_more entry (test entry) (At (take next.0 entries)) (taken_for next.2 ∷ [])
        ∙ ap (λ (l : List TakenRecord). l ++ taken_for next.2 ∷ []) (sym (at_cons entry (take next.0 entries))))),
  )

  here_is : (number : ℕ) → number ≡ number + 0
  here_is number = omega arith

  from_first : (number : ℕ) (entries : List PlanRecord) → IsFound number 0 entries (first_record slot subslot number entries)
  from_first number [] = refl
  from_first number (entry ∷ entries) = by_test (from_first (number + 1) entries) (test entry) refl
    where
      skip : test entry ≡ false → (xs : List PlanRecord) → At (entry ∷ xs) ≡ At xs
      skip is xs = at_cons entry xs ∙ ap (λ (b : Bool). with_front entry b (At xs)) is

      later : test entry ≡ false → (found : Option ℕ) → IsFound (number + 1) 0 entries found → IsFound number 0 (entry ∷ entries) found
      later is None next = skip is entries ∙ next
      later is (Some found) next = (
        suc next.0,
        next_number found number next.0 next.1,
        next.2,
        next.3,
        next.4,
        skip is (take next.0 entries) ∙ next.5,
        skip is (take (suc next.0) entries)
            ∙ (next.6 ∙ ap (λ (l : List TakenRecord). l ++ taken_for next.2 ∷ []) (sym (skip is (take next.0 entries)))),
      )

      by_test : IsFound (number + 1) 0 entries (first_record slot subslot (number + 1) entries) → (b : Bool) → test entry ≡ b
          → IsFound number 0 (entry ∷ entries) (cond b (Some number) (first_record slot subslot (number + 1) entries))
      by_test next true is = (
        0,
        here_is number,
        entry,
        refl,
        is,
        refl,
        at_cons entry [] ∙ ap (λ (b : Bool). with_front entry b []) is,
      )
      by_test next false is = later is (first_record slot subslot (number + 1) entries) next

  same_place : (number from : ℕ) → (number + 1) + from ≡ number + suc from
  same_place number from = omega arith

  found_is : (number from : ℕ) (entries : List PlanRecord) → IsFound number from entries (first_record slot subslot (number + from) (drop from entries))
  found_is number zero entries = subst (λ (n : ℕ). IsFound number 0 entries (first_record slot subslot n entries)) (here_is number) (from_first number entries)
  found_is number (suc from) [] = refl
  found_is number (suc from) (entry ∷ entries) =
      subst (λ (n : ℕ). IsFound number (suc from) (entry ∷ entries) (first_record slot subslot n (drop from entries))) (same_place number from)
      (past number from entry entries (first_record slot subslot ((number + 1) + from) (drop from entries)) (found_is (number + 1) from entries))

-- ---- what is asked of a place

-- The plan's records for a submodule that come before this step.
abbrev pub planned_before : Parts → ℕ → ℕ → PlugStep → List TakenRecord
planned_before plan slot subslot (Record number) = records_at slot subslot (take number plan.records.items)
planned_before plan slot subslot PrmEnd = records_at slot subslot plan.records.items

-- The plan's record with this number is one for this submodule.
pub record IsRecordAt (plan : Parts) (slot subslot number : ℕ) : Type 0 where
  pub entry : PlanRecord
  pub is : slice_get plan.records.items number ≡ Some entry
  pub slot_is : slot ≡ entry.slot
  pub subslot_is : subslot ≡ entry.subslot
  pub more : records_at slot subslot (take (suc number) plan.records.items)
      ≡ records_at slot subslot (take number plan.records.items) ++ taken_for entry ∷ []

abbrev pub IsStepAt : Parts → ℕ → ℕ → PlugStep → Type 0
IsStepAt plan slot subslot (Record number) = IsRecordAt plan slot subslot number
IsStepAt plan slot subslot PrmEnd = Unit {0}

pub record NextStep (plan : Parts) (slot subslot from : ℕ) (step : PlugStep) : Type 0 where
  pub before : planned_before plan slot subslot step ≡ records_at slot subslot (take from plan.records.items)
  pub own : IsStepAt plan slot subslot step

no_more : (place : ℕ) → 0 + place ≡ place
no_more place = omega arith

step_found : (plan : Parts) (slot subslot from : ℕ) (found : Option ℕ) → IsFound slot subslot 0 from plan.records.items found
    → NextStep plan slot subslot from (step_of_record found)
step_found plan slot subslot from None next = record { before = next; own = tt }
step_found plan slot subslot from (Some number) next =
    let at : next.0 ≡ number = sym (next.1 ∙ no_more next.0) in
    let both = and_parts (next.2.slot == slot) (next.2.subslot == subslot) next.4 in
    record {
      before = ap (λ (place : ℕ). records_at slot subslot (take place plan.records.items)) (sym at) ∙ next.5;
      own = record {
        entry = next.2;
        is = subst (λ (place : ℕ). slice_get plan.records.items place ≡ Some next.2) at next.3;
        slot_is = sym (eqb-true next.2.slot slot both.0);
        subslot_is = sym (eqb-true next.2.subslot subslot both.1);
        more = subst (λ (place : ℕ). records_at slot subslot (take (suc place) plan.records.items)
            ≡ records_at slot subslot (take place plan.records.items) ++ taken_for next.2 ∷ []) at next.6;
      };
    }

pub step_next : (plan : Parts) (slot subslot from : ℕ) → NextStep plan slot subslot from (step_from plan slot subslot from)
step_next plan slot subslot from =
    subst (λ (n : ℕ). NextStep plan slot subslot from (step_of_record (first_record slot subslot n (drop from plan.records.items)))) (no_more from)
    (step_found plan slot subslot from (first_record slot subslot (0 + from) (drop from plan.records.items)) (found_is slot subslot 0 from plan.records.items))

-- At first no record comes before.
pub none_before : (plan : Parts) (slot subslot : ℕ) (step : PlugStep) → step ≡ step_from plan slot subslot 0 → planned_before plan slot subslot step ≡ []
none_before plan slot subslot step is =
    ap (λ (s : PlugStep). planned_before plan slot subslot s) is ∙ (step_next plan slot subslot 0).before

-- After the Write of a record its own comes before too.
pub one_more : (plan : Parts) (slot subslot number : ℕ) (own : IsRecordAt plan slot subslot number) (step : PlugStep)
    → step ≡ step_from plan slot subslot (number + 1)
    → planned_before plan slot subslot step ≡ planned_before plan slot subslot (Record number) ++ taken_for own.entry ∷ []
one_more plan slot subslot number own step is =
    ap (λ (s : PlugStep). planned_before plan slot subslot s) is
    ∙ ((step_next plan slot subslot (number + 1)).before
    ∙ (ap (λ (n : ℕ). records_at slot subslot (take n plan.records.items)) (add-one number) ∙ own.more))

pub own_step : (plan : Parts) (slot subslot from : ℕ) (step : PlugStep) → step ≡ step_from plan slot subslot from → IsStepAt plan slot subslot step
own_step plan slot subslot from step is =
    subst (λ (s : PlugStep). IsStepAt plan slot subslot s) (sym is) (step_next plan slot subslot from).own
