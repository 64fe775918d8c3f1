-- A pull or a plug is refused, or the modules change.
use Rattle.std.proofs.Common.{◌≡◌, ◌&&◌, ◌++◌, map, ℕ, Bool, cond, true, false, nat_lt, List, [], ◌∷◌, Option, Some, None, is_some, option_map, unwrap_or, inl, inr, refl, sym, ap, ◌∙◌}
use Rattle.std.specs.List.{find}
use Rattle.std.proofs.lemmas.Bool.{cases_Bool, false≢true, true≢false}
use Rattle.std.proofs.lemmas.List.{map-append}
use Rattle.pn_values.specs.declared.real.RealModule.{RealModule}
use Rattle.settings_journal.specs.settings_store.State.{Values}
use Rattle.diagnosis.specs.declared.diagnosis.Diagnosis.{Diagnosis}
use Rattle.diagnosis.specs.Existing.{remaining}
use Rattle.relations.specs.declared.exchange.statuses.InputStatus.{InputStatus}
use Rattle.relations.specs.exchange.Statuses.{remaining_statuses}
use Rattle.asked_records.specs.Asked.{AskedState, dropped_at}
use Rattle.device_frames.specs.Relation.{low_alarms_of, plug_calls, where_due}
use Rattle.device_frames.specs.Sent.{Sent}
use Rattle.pn_values.specs.declared.real.RealSubmodule.{RealSubmodule}
use Rattle.module_diff.specs.declared.changes.RealChange.{RealChange}
use Rattle.module_diff.specs.Changes.{affected_by, is_in_slot, is_in_subslot, is_pluggable, part_pulled, plugged_with, pulled, slot_pulled, with_first, with_parts, without}
use Rattle.module_diff.specs.Plugged.{module_in, part_ident_of, submodule_ident}
use Rattle.rpc_core.specs.Response.{Answered}
use Rattle.relations.specs.RelationState.{RelationState, flow_of, is_in_exchange, phase_of}
use Rattle.relations.specs.declared.plugging.PlugAnswer.{PlugAnswer}
use Rattle.relations.specs.declared.plugging.PlugAnswer.TheVariants as to_plug
use Rattle.relations.specs.Plugging.{answered_with, calling_next, is_alarmed_by, is_called_by, is_crowded, is_readied_in, modules_changing, plug_answer_in, plug_answering, readying_at}
use Rattle.device_frames.specs.declared.note.Note.TheVariants.{Done, Refused}
use Rattle.device_core.specs.State.{State, Station, Rest, Live}
use Rattle.device_core.specs.Handled.{Moves, Refuses, handled_modules, handled_next_call, handled_ready_at}
use Rattle.device_core.specs.Behind.{exchanging_of}
use Rattle.device_core.specs.Machine.{end_of}
use Rattle.device_core.specs.Modules.{changed_rest, next_call_sent, outside, sent_after}

-- ---- what can be pulled

mapped_some : {A B : Type 0} (f : A → B) (found : Option A) → is_some (option_map f found) ≡ is_some found
mapped_some f None = refl
mapped_some f (Some x) = refl

module _ {A : Type 0} where
  some_is : (x y : A) → ◌≡◌ {A = Option A} (Some x) (Some y) → x ≡ y
  some_is x y is = ap (λ (o : Option A). unwrap_or o x) is

  -- One that passes a test can be removed exactly if it is found.
  found_gone : (test : A → Bool) (xs : List A) → is_some (find test xs) ≡ is_some (without test xs)
  found_gone test [] = refl
  found_gone test (x ∷ xs) =
      elim (cases_Bool (test x)) [
        | inl t ↦ rw t refl
        | inr t ↦ rw t (found_gone test xs ∙ sym (mapped_some (λ (rest : List A). x ∷ rest) (without test xs)))
      ]

  -- One that passes a test can be changed exactly if it is found, and the change is possible.
  none_changed : (test : A → Bool) (change : A → Option A) (xs : List A) → find test xs ≡ None → is_some (with_first test change xs) ≡ false
  none_changed test change [] none = refl
  none_changed test change (x ∷ xs) none =
      elim (cases_Bool (test x)) [
        | inl t ↦ let e : ◌≡◌ {A = Option A} (Some x) None = rw t at none in absurd cc
        | inr t ↦ rw t (mapped_some (λ (rest : List A). x ∷ rest) (with_first test change xs) ∙ none_changed test change xs (rw t at none))
      ]

  one_changed : (test : A → Bool) (change : A → Option A) (xs : List A) (y : A) → find test xs ≡ Some y
      → is_some (with_first test change xs) ≡ is_some (change y)
  one_changed test change [] y one = let e : ◌≡◌ {A = Option A} None (Some y) = one in absurd cc
  one_changed test change (x ∷ xs) y one =
      elim (cases_Bool (test x)) [
        | inl t ↦ rw t (mapped_some (λ (z : A). z ∷ xs) (change x) ∙ ap (λ (z : A). is_some (change z)) (some_is x y (rw t at one)))
        | inr t ↦ rw t (mapped_some (λ (rest : List A). x ∷ rest) (with_first test change xs) ∙ one_changed test change xs y (rw t at one))
      ]

-- A submodule can be pulled exactly if it is plugged.
pulled_by : (slot subslot : ℕ) (real : List RealModule) (found : Option RealModule) → module_in real slot ≡ found
    → is_some (part_ident_of found subslot) ≡ is_some (pulled slot subslot real)
pulled_by slot subslot real None is = sym (none_changed (is_in_slot slot) (part_pulled subslot) real is)
pulled_by slot subslot real (Some entry) is =
    mapped_some (λ (part : RealSubmodule). part.ident) (find (is_in_subslot subslot) entry.submodules.items)
    ∙ (found_gone (is_in_subslot subslot) entry.submodules.items
    ∙ (sym (mapped_some (with_parts entry) (without (is_in_subslot subslot) entry.submodules.items))
    ∙ sym (one_changed (is_in_slot slot) (part_pulled subslot) real entry is)))

pulled_if : (slot subslot : ℕ) (real : List RealModule) → is_some (submodule_ident real slot subslot) ≡ is_some (pulled slot subslot real)
pulled_if slot subslot real = pulled_by slot subslot real (module_in real slot) refl

slot_pulled_if : (slot : ℕ) (real : List RealModule) → is_some (module_in real slot) ≡ is_some (slot_pulled slot real)
slot_pulled_if slot real = found_gone (is_in_slot slot) real

-- Slot 0 stays.
outside_if : (slot : ℕ) (made : Option (List RealModule)) → is_some (outside slot made) ≡ (nat_lt 0 slot && is_some made)
outside_if slot made =
    elim (cases_Bool (nat_lt 0 slot)) [
      | inl t ↦ rw t refl
      | inr t ↦ rw t refl
    ]

-- What can be pulled.
pub can_pull_is : (slot subslot : ℕ) (real : List RealModule)
    → is_some (outside slot (pulled slot subslot real)) ≡ (nat_lt 0 slot && is_some (submodule_ident real slot subslot))
can_pull_is slot subslot real = outside_if slot (pulled slot subslot real) ∙ ap (λ (b : Bool). nat_lt 0 slot && b) (sym (pulled_if slot subslot real))

pub can_pull_module_is : (slot : ℕ) (real : List RealModule)
    → is_some (outside slot (slot_pulled slot real)) ≡ (nat_lt 0 slot && is_some (module_in real slot))
can_pull_module_is slot real = outside_if slot (slot_pulled slot real) ∙ ap (λ (b : Bool). nat_lt 0 slot && b) (sym (slot_pulled_if slot real))

pub outside_is : (slot : ℕ) (made : Option (List RealModule)) (before : List RealModule) → is_some (outside slot made) ≡ true
    → unwrap_or (outside slot made) before ≡ unwrap_or made before
outside_is slot made before some =
    elim (cases_Bool (nat_lt 0 slot)) [
      | inl t ↦ rw t refl
      | inr t ↦ absurd (true≢false (sym some ∙ ap (λ (b : Bool). is_some (cond b made None)) t))
    ]

pub plugged_if : (slot ident : ℕ) (part : RealSubmodule) (real : List RealModule) → is_some (plugged_with slot ident part real) ≡ is_pluggable slot ident part real
plugged_if slot ident part real =
    elim (cases_Bool (is_pluggable slot ident part real)) [
      | inl t ↦ rw t refl
      | inr t ↦ rw t refl
    ]

-- ---- the outcome

module _ (station : Station) (live : Live) (change : RealChange) where
  -- It is not possible.
  pub modules_refused : (made : Option (List RealModule)) → is_some made ≡ false
      → end_of station live (handled_modules live change made) ≡ record { rest = live.rest; sent = []; note = Refused }
  modules_refused None none = refl
  modules_refused (Some real) none = absurd (true≢false none)

  modules_by_room : (real : List RealModule) (crowded : Bool) → is_crowded (affected_by change) live.rest.link ≡ crowded
      → end_of station live (handled_modules live change (Some real))
      ≡ end_of station live (cond crowded (Refuses Refused) (Moves (changed_rest live.rest change real) (sent_after live change real)))
  modules_by_room real crowded is =
      ap (λ (b : Bool). end_of station live (cond b (Refuses Refused) (Moves (changed_rest live.rest change real) (sent_after live change real)))) is

  -- Its alarm could not wait.
  pub modules_crowded : (made : Option (List RealModule)) → is_crowded (affected_by change) live.rest.link ≡ true
      → end_of station live (handled_modules live change made) ≡ record { rest = live.rest; sent = []; note = Refused }
  modules_crowded None crowded = refl
  modules_crowded (Some real) crowded = modules_by_room real true crowded

  -- It is carried out.
  pub modules_changed : (made : Option (List RealModule)) (before : List RealModule) → is_some made ≡ true
      → is_crowded (affected_by change) live.rest.link ≡ false
      → end_of station live (handled_modules live change made)
      ≡ record { rest = changed_rest live.rest change (unwrap_or made before); sent = sent_after live change (unwrap_or made before); note = Done }
  modules_changed None before some fits = absurd (false≢true some)
  modules_changed (Some real) before some fits = modules_by_room real false fits

-- ---- the application is ready for a plug

module _ (station : Station) (live : Live) (slot subslot : ℕ) where
  ready_by : (b : Bool) → is_readied_in slot subslot live.rest.link ≡ b
      → end_of station live (handled_ready_at live slot subslot)
      ≡ end_of station live (cond b (handled_next_call live (readying_at slot subslot live.rest.link)) (Refuses Refused))
  ready_by b is = ap (λ (c : Bool). end_of station live (cond c (handled_next_call live (readying_at slot subslot live.rest.link)) (Refuses Refused))) is

  pub ready_refused : is_readied_in slot subslot live.rest.link ≡ false
      → end_of station live (handled_ready_at live slot subslot) ≡ record { rest = live.rest; sent = []; note = Refused }
  ready_refused none = ready_by false none

  pub ready_called : is_readied_in slot subslot live.rest.link ≡ true
      → end_of station live (handled_ready_at live slot subslot)
      ≡ record {
        rest = record live.rest { link = calling_next (readying_at slot subslot live.rest.link) };
        sent = next_call_sent live.values.running.suite.address (readying_at slot subslot live.rest.link);
        note = Done;
      }
  ready_called is = ready_by true is

-- ---- the answer to the ApplicationReady of a plug

-- Whether data is exchanged, by the phase.
pub exchanging_as : (link : Option RelationState) → exchanging_of (phase_of link) ≡ is_in_exchange link
exchanging_as None = refl
exchanging_as (Some l) = refl

-- One that does not count leaves the relation.
pub plug_unwanted : (response : Answered) (link : Option RelationState) → plug_answer_in response link ≡ to_plug.NotWanted → plug_answering response link ≡ link
plug_unwanted response None is = refl
plug_unwanted response (Some l) is = ap (λ (heard : PlugAnswer). Some (answered_with heard l)) is

pub plug_garbled : (response : Answered) (link : Option RelationState) → plug_answer_in response link ≡ to_plug.Garbled → plug_answering response link ≡ link
plug_garbled response None is = refl
plug_garbled response (Some l) is = ap (λ (heard : PlugAnswer). Some (answered_with heard l)) is

-- ---- what a change does

module _ (rest : Rest) (made : RealChange) (d : List Diagnosis) (l : Option RelationState)
    (d_is : d ≡ remaining (affected_by made) rest.diagnoses) (l_is : l ≡ modules_changing rest.real.modules.items made d rest.link) where
  -- The rest after it.
  pub rest_changed : (s : List InputStatus) (a : AskedState) → s ≡ remaining_statuses (affected_by made) rest.statuses → a ≡ dropped_at (affected_by made) rest.asked
      → record rest { diagnoses = d; statuses = s; link = l; asked = a } ≡ changed_rest rest made rest.real.modules.items
  rest_changed s a s_is a_is =
      ap (λ (x : Option RelationState). record rest { diagnoses = d; statuses = s; link = x; asked = a }) l_is
      ∙ (ap (λ (x : List InputStatus). record rest { diagnoses = d; statuses = x; link = modules_changing rest.real.modules.items made d rest.link; asked = a }) s_is
      ∙ (ap (λ (x : List Diagnosis). record rest { diagnoses = x; statuses = remaining_statuses (affected_by made) rest.statuses; link = modules_changing rest.real.modules.items made x rest.link; asked = a }) d_is
      ∙ ap (λ (x : AskedState). record rest { diagnoses = remaining (affected_by made) rest.diagnoses; statuses = remaining_statuses (affected_by made) rest.statuses; link = modules_changing rest.real.modules.items made (remaining (affected_by made) rest.diagnoses) rest.link; asked = x }) a_is))

  -- What is sent.
  pub sent_changed : (values : Values) (address : List ℕ) (alarm ready : Bool) → alarm ≡ is_alarmed_by rest.real.modules.items made d rest.link
      → ready ≡ is_called_by rest.real.modules.items made d rest.link → address ≡ values.running.suite.address
      → where_due alarm (low_alarms_of (flow_of l)) ++ where_due ready (plug_calls address l)
      ≡ sent_after (record { values = values; rest = rest }) made rest.real.modules.items
  sent_changed values address alarm ready alarm_is ready_is address_is =
      let real = rest.real.modules.items in
      let from = values.running.suite.address in
      ap (λ (b : Bool). where_due b (low_alarms_of (flow_of l)) ++ where_due ready (plug_calls address l)) alarm_is
      ∙ (ap (λ (b : Bool). where_due (is_alarmed_by real made d rest.link) (low_alarms_of (flow_of l)) ++ where_due b (plug_calls address l)) ready_is
      ∙ (ap (λ (a : List ℕ). where_due (is_alarmed_by real made d rest.link) (low_alarms_of (flow_of l)) ++ where_due (is_called_by real made d rest.link) (plug_calls a l)) address_is
      ∙ (ap (λ (x : Option RelationState). where_due (is_alarmed_by real made d rest.link) (low_alarms_of (flow_of x)) ++ where_due (is_called_by real made d rest.link) (plug_calls from x)) l_is
      ∙ ap (λ (x : List Diagnosis). where_due (is_alarmed_by real made x rest.link) (low_alarms_of (flow_of (modules_changing real made x rest.link)))
      ++ where_due (is_called_by real made x rest.link) (plug_calls from (modules_changing real made x rest.link))) d_is)))

-- Two kinds of frames, one after the other.
pub both_boxed : (f : Sent → List ℕ) (none first second : List (List ℕ)) (alarms calls : List Sent) → none ≡ [] → first ≡ none ++ map f alarms → second ≡ first ++ map f calls
    → second ≡ map f (alarms ++ calls)
both_boxed f none first second alarms calls none_is first_is second_is =
    second_is ∙ (ap (λ (b : List (List ℕ)). b ++ map f calls) (first_is ∙ ap (λ (b : List (List ℕ)). b ++ map f alarms) none_is) ∙ sym (map-append f alarms calls))

-- A device with this rest.
abbrev resting : {F : Type 0} → F → Station → Values → Rest → State F
resting flash station values rest = record { flash = flash; station = station; live = record { values = values; rest = rest } }

-- The state after a change, over the modules that it left.
pub state_changed : {F : Type 0} (flash : F) (station : Station) (values : Values) (rest : Rest) (change made : RealChange) (items real : List RealModule)
    → change ≡ made → items ≡ real
    → resting flash station values (changed_rest rest change items) ≡ resting flash station values (changed_rest rest made real)
state_changed flash station values rest change made items real change_is items_is =
    ap (λ (x : RealChange). resting flash station values (changed_rest rest x items)) change_is
    ∙ ap (λ (x : List RealModule). resting flash station values (changed_rest rest made x)) items_is
