-- What was granted, over any events of a controller: it ends with the records before the step that is asked now.
use Rattle.std.proofs.Common.{◌≡◌, ◌⊎◌, inl, inr, ◌+◌, ◌++◌, ℕ, zero, suc, false, List, [], ◌∷◌, map, take, drop, Option, Some, None, refl, sym, ap, subst, ◌∙◌, add-one, append_assoc, arith}
use Rattle.std.proofs.lemmas.List.{append-nil, map-append}
use Rattle.plans.specs.declared.parts.Parts.{Parts}
use Rattle.plans.specs.declared.parts.PlanRecord.{PlanRecord}
use Rattle.plan_places.specs.Records.{first_record, record_from}
use Rattle.controller_messages.specs.declared.plug_request.PlugRequest.{PlugRequest}
use Rattle.controller_messages.specs.declared.plug_request.PlugStep.{PlugStep}
use Rattle.controller_messages.specs.declared.plug_request.PlugStep.TheVariants.{Record, PrmEnd}
use Rattle.controller_messages.specs.declared.setup.Setup.{Setup}
use Rattle.controller_core.specs.declared.stored.event.Event.{Event}
use Rattle.controller_core.specs.stored.State.{Live}
use Rattle.controller_core.specs.Machine.{step_from, step_of_record, turn_of}
use Rattle.plug_law.specs.Written.{EndWith, PlaceStep, after_events, granted_over, granted_with, numbers_at, numbers_before, step_in, writes_for}
use Rattle.plug_law.proofs.Numbers.{IsNext, next_is}
use Rattle.plug_law.proofs.Steps.{Begins, Outcome, Passes, event_out}

-- ---- the next step of a place

-- A record of this number is one of the plan for the place, which comes after all before it.
abbrev IsOwn : Parts → ℕ → ℕ → PlugStep → Type 0
IsOwn plan slot subslot (Record number) =
    numbers_at slot subslot 0 (take (suc number) plan.records.items) ≡ numbers_at slot subslot 0 (take number plan.records.items) ++ number ∷ []
IsOwn plan slot subslot PrmEnd = Unit {0}

record IsNextStep (plan : Parts) (slot subslot from : ℕ) (step : PlugStep) : Type 0 where
  before : numbers_before plan slot subslot step ≡ numbers_at slot subslot 0 (take from plan.records.items)
  own : IsOwn plan slot subslot step

no_more : (place : ℕ) → 0 + place ≡ place
no_more place = omega arith

step_found : (plan : Parts) (slot subslot from : ℕ) (found : Option ℕ) → IsNext slot subslot 0 from plan.records.items found → IsNextStep plan slot subslot from (step_of_record found)
step_found plan slot subslot from None next = record { before = next; own = tt }
step_found plan slot subslot from (Some number) next =
    let at : next.0 ≡ number = sym (next.1 ∙ no_more next.0) in
    record {
      before = ap (λ (place : ℕ). numbers_at slot subslot 0 (take place plan.records.items)) (sym at) ∙ next.2;
      own = subst (λ (place : ℕ). numbers_at slot subslot 0 (take (suc place) plan.records.items) ≡ numbers_at slot subslot 0 (take place plan.records.items) ++ number ∷ []) at next.3;
    }

step_next : (plan : Parts) (slot subslot from : ℕ) → IsNextStep plan slot subslot from (step_from plan slot subslot from)
step_next plan slot subslot from =
    subst (λ (n : ℕ). IsNextStep plan slot subslot from (step_of_record (first_record slot subslot n (drop from plan.records.items)))) (no_more from)
    (step_found plan slot subslot from (first_record slot subslot (0 + from) (drop from plan.records.items)) (next_is slot subslot 0 from plan.records.items))

-- ---- the request that waits

-- What was granted ends with the records before the step of this request.
record IsBehind (plan : Parts) (granted : List PlugRequest) (request : PlugRequest) : Type 0 where
  ends : EndWith (map step_in granted) (writes_for request (numbers_before plan request.slot request.subslot request.step))
  own : IsOwn plan request.slot request.subslot request.step

abbrev IsBehindAny : Parts → List PlugRequest → Option PlugRequest → Type 0
IsBehindAny plan granted None = Unit {0}
IsBehindAny plan granted (Some request) = IsBehind plan granted request

some_is : (one other : PlugRequest) → Some one ≡ Some other → one ≡ other
some_is one other e = cc

module _ (setup : Setup) where
  abbrev plan : Parts
  plan = setup.plan

  abbrev Behind : List PlugRequest → Option PlugRequest → Type 0
  Behind granted plug = IsBehindAny plan granted plug

  behind_same : (granted : List PlugRequest) (before after : Option PlugRequest) → after ≡ before → Behind granted before → Behind (granted ++ []) after
  behind_same granted before after same is =
      subst (λ (all : List PlugRequest). Behind all after) (sym (append-nil granted)) (subst (λ (plug : Option PlugRequest). Behind granted plug) (sym same) is)

  begins_behind : (granted : List PlugRequest) (after : Option PlugRequest) → Begins setup after → Behind granted after
  begins_behind granted after begins =
      let request = begins.request in
      let next = step_next plan request.slot request.subslot 0 in
      let none : numbers_before plan request.slot request.subslot request.step ≡ [] =
      ap (λ (step : PlugStep). numbers_before plan request.slot request.subslot step) begins.step ∙ next.before in
      subst (λ (plug : Option PlugRequest). Behind granted plug) (sym begins.asks) (record {
        ends = (map step_in granted, sym (ap (λ (l : List ℕ). map step_in granted ++ writes_for request l) none ∙ append-nil (map step_in granted)));
        own = subst (λ (step : PlugStep). IsOwn plan request.slot request.subslot step) (sym begins.step) next.own;
      })

  -- Requests of the same place, for the same plug, write the same.
  same_writes : (one other : PlugRequest) → one.slot ≡ other.slot → one.subslot ≡ other.subslot → one.number ≡ other.number → (numbers : List ℕ) → writes_for one numbers ≡ writes_for other numbers
  same_writes one other slot subslot number [] = refl
  same_writes one other slot subslot number (first ∷ numbers) =
      ap (λ (s : ℕ). (let x : PlaceStep = record { slot = s; subslot = one.subslot; number = one.number; step = Record first } in x) ∷ writes_for one numbers) slot
      ∙ (ap (λ (s : ℕ). (let x : PlaceStep = record { slot = other.slot; subslot = s; number = one.number; step = Record first } in x) ∷ writes_for one numbers) subslot
      ∙ (ap (λ (n : ℕ). (let x : PlaceStep = record { slot = other.slot; subslot = other.subslot; number = n; step = Record first } in x) ∷ writes_for one numbers) number
      ∙ ap (λ (l : List PlaceStep). (let x : PlaceStep = record { slot = other.slot; subslot = other.subslot; number = other.number; step = Record first } in x) ∷ l) (same_writes one other slot subslot number numbers)))

  write_more : (request : PlugRequest) (numbers : List ℕ) (number : ℕ) → request.step ≡ Record number → writes_for request numbers ++ step_in request ∷ [] ≡ writes_for request (numbers ++ number ∷ [])
  write_more request numbers number is =
      ap (λ (step : PlugStep). writes_for request numbers ++ (let x : PlaceStep = record { slot = request.slot; subslot = request.subslot; number = request.number; step = step } in x) ∷ []) is
      ∙ sym (map-append (λ (n : ℕ). let x : PlaceStep = record { slot = request.slot; subslot = request.subslot; number = request.number; step = Record n } in x) numbers (number ∷ []))

  passes_behind : (granted granted_now : List PlugRequest) (before after : Option PlugRequest) → Passes setup granted_now before after → Behind granted before → Behind (granted ++ granted_now) after
  passes_behind granted granted_now before after passes was =
      let request = passes.request in
      let next = passes.next in
      let behind : IsBehind plan granted request = subst (λ (plug : Option PlugRequest). Behind granted plug) passes.was was in
      let found = step_next plan request.slot request.subslot (passes.number + 1) in
      let front : List ℕ = numbers_at request.slot request.subslot 0 (take passes.number plan.records.items) in
      let own : numbers_at request.slot request.subslot 0 (take (suc passes.number) plan.records.items) ≡ front ++ passes.number ∷ [] =
      subst (λ (step : PlugStep). IsOwn plan request.slot request.subslot step) passes.is behind.own in
      let ended : map step_in granted ≡ behind.ends.0 ++ writes_for request front =
      behind.ends.1 ∙ ap (λ (step : PlugStep). behind.ends.0 ++ writes_for request (numbers_before plan request.slot request.subslot step)) passes.is in
      let asked : numbers_before plan next.slot next.subslot next.step ≡ front ++ passes.number ∷ [] =
      ap (λ (s : ℕ). numbers_before plan s next.subslot next.step) passes.slot
      ∙ (ap (λ (s : ℕ). numbers_before plan request.slot s next.step) passes.subslot
      ∙ (ap (λ (step : PlugStep). numbers_before plan request.slot request.subslot step) passes.step
      ∙ (found.before ∙ (ap (λ (n : ℕ). numbers_at request.slot request.subslot 0 (take n plan.records.items)) (add-one passes.number) ∙ own)))) in
      let all : map step_in (granted ++ granted_now) ≡ behind.ends.0 ++ writes_for next (numbers_before plan next.slot next.subslot next.step) =
      ap (λ (l : List PlugRequest). map step_in (granted ++ l)) passes.granted_is
      ∙ (map-append step_in granted (request ∷ [])
      ∙ (ap (λ (l : List PlaceStep). l ++ step_in request ∷ []) ended
      ∙ (append_assoc behind.ends.0 (writes_for request front) (step_in request ∷ [])
      ∙ (ap (λ (l : List PlaceStep). behind.ends.0 ++ l) (write_more request front passes.number passes.is ∙ sym (same_writes next request passes.slot passes.subslot passes.same (front ++ passes.number ∷ [])))
      ∙ ap (λ (l : List ℕ). behind.ends.0 ++ writes_for next l) (sym asked))))) in
      subst (λ (plug : Option PlugRequest). Behind (granted ++ granted_now) plug) (sym passes.asks) (record {
        ends = (behind.ends.0, all);
        own = subst (λ (s : ℕ). IsOwn plan s next.subslot next.step) (sym passes.slot)
            (subst (λ (s : ℕ). IsOwn plan request.slot s next.step) (sym passes.subslot)
            (subst (λ (step : PlugStep). IsOwn plan request.slot request.subslot step) (sym passes.step) found.own));
      })

  outcome_behind : (granted granted_now : List PlugRequest) (before after : Option PlugRequest) → Outcome setup granted_now before after → Behind granted before → Behind (granted ++ granted_now) after
  outcome_behind granted granted_now before after (inl same) was =
      subst (λ (l : List PlugRequest). Behind (granted ++ l) after) (sym same.1) (behind_same granted before after same.0 was)
  outcome_behind granted granted_now before after (inr (inl none)) was = subst (λ (plug : Option PlugRequest). Behind (granted ++ granted_now) plug) (sym none) tt
  outcome_behind granted granted_now before after (inr (inr (inl begins))) was = begins_behind (granted ++ granted_now) after begins
  outcome_behind granted granted_now before after (inr (inr (inr passes))) was = passes_behind granted granted_now before after passes was

  -- ---- any events

  module _ (strict : setup.plan.continue_on_refused_record ≡ false) where
    events_behind : (live : Live) (granted : List PlugRequest) (events : List Event) → Behind granted live.access.plug
        → Behind (granted ++ granted_over setup live events) (after_events setup live events).access.plug
    events_behind live granted [] was = behind_same granted live.access.plug live.access.plug refl was
    events_behind live granted (one ∷ events) was =
        let next = (turn_of setup live one).live in
        subst (λ (l : List PlugRequest). Behind l (after_events setup next events).access.plug) (append_assoc granted (granted_with setup live one) (granted_over setup next events))
        (events_behind next (granted ++ granted_with setup live one) events
        (outcome_behind granted (granted_with setup live one) live.access.plug next.access.plug (event_out setup strict live one) was))

    -- from a controller that waits for no answer after a plug
    pub written_so : (live : Live) (events : List Event) (request : PlugRequest) → live.access.plug ≡ None → (after_events setup live events).access.plug ≡ Some request
        → EndWith (map step_in (granted_over setup live events)) (writes_for request (numbers_before setup.plan request.slot request.subslot request.step))
    written_so live events request none is =
        let all = events_behind live [] events (subst (λ (plug : Option PlugRequest). Behind [] plug) (sym none) tt) in
        let behind : IsBehind plan (granted_over setup live events) request = subst (λ (plug : Option PlugRequest). Behind (granted_over setup live events) plug) is all in
        behind.ends
