-- The submodules and the places of a relation, by what is plugged, and what a pull or a plug makes of them.
use Rattle.std.proofs.Common.{◌≡◌, inl, inr, ◌==◌, ◌&&◌, ◌<◌, ℕ, Bool, true, false, cond, not, List, [], ◌∷◌, Option, Some, None, option_map, refl, sym, ap, subst, ◌∙◌, arith}
use Rattle.std.specs.Prelude.{nat_lt}
use Rattle.std.specs.List.{list_any}
use Rattle.std.proofs.lemmas.Bool.{and_parts, eqb-true, ne_eqb, true≢false}
use Rattle.pn_values.specs.declared.real.RealModule.{RealModule}
use Rattle.pn_values.specs.declared.real.RealSubmodule.{RealSubmodule}
use Rattle.wire.specs.blocks.modules.Lists.{Listed}
use Rattle.connect_blocks.specs.declared.module_diff.DiffModule.{DiffModule}
use Rattle.connect_blocks.specs.declared.module_diff.DiffSubmodule.{DiffSubmodule}
use Rattle.connects.specs.requests.Request.{Request}
use Rattle.module_diff.specs.declared.changes.Affected.{Affected}
use Rattle.module_diff.specs.declared.changes.ChangeKind.TheVariants as change
use Rattle.module_diff.specs.declared.changes.RealChange.{RealChange}
use Rattle.module_diff.specs.Changes.{affected_by, covers, reaches, is_in_slot, is_in_subslot, part_pulled, plugged_with, pulled, slot_pulled}
use Rattle.module_diff.specs.Diff.{diff_of, ident_or_zero}
use Rattle.module_diff.specs.Plugged.{module_ident, submodule_ident}
use Rattle.diagnosis.specs.Existing.{remaining}
use Rattle.diagnosis.specs.Queue.{after_next, alarmed, changed as diagnosis_changed, is_reported, module_waits, reach_of, waits_with}
use Rattle.diagnosis.specs.alarms.Alarms.{Low, noted}
use Rattle.diagnosis.specs.alarms.Own.{places_of}
use Rattle.diagnosis.specs.declared.alarms.own.Place.{Place}
use Rattle.diagnosis.specs.declared.diagnosis.Change.{Change}
use Rattle.diagnosis.specs.declared.diagnosis.Diagnosis.{Diagnosis}
use Rattle.diagnosis.specs.declared.module_change.ModuleChange.{ModuleChange}
use Rattle.diagnosis.specs.declared.queue.LowChange.TheVariants as change_is
use Rattle.diagnosis.specs.reported.Followed.{at_places}
use Rattle.diagnosis.specs.reported.Reported.{after_pull}
use Rattle.expected_places.specs.Calls.{counted}
use Rattle.expected_places.specs.Machine.{is_hit}
use Rattle.relations.specs.declared.options.DeviceOptions.{DeviceOptions}
use Rattle.relations.specs.declared.phase.Partner.{Partner}
use Rattle.relations.specs.exchange.Marks.{Starting}
use Rattle.relations.specs.exchange.Modules.{modules_restated}
use Rattle.relations.specs.Phases.{made_of}
use Rattle.relations.specs.Plugging.{changed_by, flow_then, low_changed, places_then, reported_as, rows_now, sent_then}
use Rattle.relations.specs.RelationState.{RelationState}
use Rattle.relations.specs.Timers.{is_timed, plugs_later}
use Rattle.device_core.specs.Modules.{outside, plug_of, pull_of, slot_pull_of}
use Rattle.device_frames.specs.declared.local.Local.TheVariants as local
use Rattle.device_frames.specs.Heard.{Heard, Applied}
use Rattle.end_laws.specs.device.Orderly.{keys_of}
use Rattle.end_laws.specs.device.Turn.{change_by, modules_after}
use Rattle.both_ends.specs.exchange.Sized.{AreSizedModules, IsSizedModule, IsSizedPart, NoneIsAtZero}
use Rattle.both_ends.proofs.ExchangeKeys.{KeysSo}
use Rattle.both_ends.proofs.ExchangeLists.{some_is}
use Rattle.both_ends.proofs.ExchangeNextTold.{after_places}
use Rattle.both_ends.proofs.ExchangeOwn.{AreThere, opened_there, own_places, wanted_by}
use Rattle.both_ends.proofs.ExchangeReal.{IsSameAt, first_found, may_plug, part_left, plug_empty, plug_none, plug_same, plug_sized, pull_none, pull_past_zero, pull_same, pull_sized, slot_pull_none, slot_pull_same, slot_pull_sized, slot_small, subslot_small, without_one}
use Rattle.both_ends.proofs.ExchangeSmall.{in_slot, module_small, part_small}
use Rattle.both_ends.proofs.ExchangeSteps.{IsStepIf, listed}

-- ---- a relation

-- The submodules of a relation are those that its Connect expects and that are plugged; these are among its places.
abbrev pub IsStatedIn : List RealModule → Request → List Place → List (ℕ × ℕ) → Type 0
IsStatedIn real request places keys = (places ≡ own_places request.expected real) × AreThere request.expected keys

abbrev pub IsStated : List RealModule → RelationState → Type 0
IsStated real link = IsStatedIn real link.request link.flow.low.places (keys_of link.plugs.places)

pub same_stated : (real : List RealModule) (link next : RelationState) → next.request ≡ link.request → next.flow.low.places ≡ link.flow.low.places
    → keys_of next.plugs.places ≡ keys_of link.plugs.places → IsStated real link → IsStated real next
same_stated real link next request places keys stated = (
  places ∙ (stated.0 ∙ ap (λ (r : Request). own_places r.expected real) (sym request)),
  subst (λ (r : Request). AreThere r.expected (keys_of next.plugs.places)) (sym request) (subst (λ (k : List (ℕ × ℕ)). AreThere link.request.expected k) (sym keys) stated.1),
)

-- a relation that is made, with what differs
pub made_stated : (real : List RealModule) (request : Request) (partner : Partner) (rows : Listed DiffModule DiffSubmodule) (options : DeviceOptions) (starting : Starting)
    → rows ≡ diff_of request.expected real → IsStated real (made_of request partner rows options starting)
made_stated real request partner rows options starting same = (
  ap (λ (r : Listed DiffModule DiffSubmodule). places_of r (wanted_by request.expected)) same,
  opened_there request.expected rows,
)

-- ---- the places stay the same

pub later_keys : (link : RelationState) → keys_of (plugs_later link).places ≡ keys_of link.plugs.places
later_keys link = by_test (is_timed link.phase)
  where
    by_test : (b : Bool) → keys_of (cond b link.plugs (record link.plugs { calls = counted link.plugs.calls })).places ≡ keys_of link.plugs.places
    by_test true = refl
    by_test false = refl

-- the submodules of the relation stay with a change of diagnosis
pub changed_places : (real : List RealModule) (has_begun : Bool) (change : Change) (later : List Diagnosis) (low : Low) → (diagnosis_changed real has_begun change later low).places ≡ low.places
changed_places real has_begun change later low = by_test (is_reported has_begun change low)
  where
    by_test : (b : Bool) → (cond b (after_next (waits_with real change later low)) (noted later low)).places ≡ low.places
    by_test true = after_places (waits_with real change later low)
    by_test false = refl

-- and those that are stated stay as a change of modules is reported
module_places : (is_own has_begun : Bool) (told : ModuleChange) (made : RealChange) (later : List Diagnosis) (low : Low) → (low_changed is_own has_begun told made later low).places ≡ low.places
module_places false has_begun told made later low = refl
module_places true true told made later low = after_places (module_waits told made later low)
module_places true false told made later low = refl

-- the relation after a pull or a plug
pub changed_stated : KeysSo → (now : List RealModule) (made : RealChange) (later : List Diagnosis) (link : RelationState) → AreThere link.request.expected (keys_of link.plugs.places)
    → IsStated now (changed_by (rows_now now link) made later link)
changed_stated laws now made later link there = (
  module_places (is_hit (affected_by made) (places_then (rows_now now link) made link)) link.flow.cyclic.begun (reported_as link.request (rows_now now link) made) made later
      (modules_restated link.request.expected (rows_now now link) later link.flow).low,
  λ slot subslot e. ap (λ (keys : List (ℕ × ℕ)). list_any (λ key. key.0 == slot && key.1 == subslot) keys)
      (laws.sent (sent_then (rows_now now link) made later link) (flow_then (rows_now now link) made later link).low.waiting (places_then (rows_now now link) made link)
      ∙ laws.changed (rows_now now link) made link.plugs)
      ∙ there slot subslot e,
)

-- ---- a pull or a plug

-- What was accepted, with its effect: elsewhere the same is plugged, and where a submodule is plugged, none was. Its numbers have their
-- sizes, if those of what is plugged have and, of a plug, its own.
pub record IsModules (real now : List RealModule) (made : RealChange) : Type 0 where
  pub same : (slot subslot : ℕ) → covers (affected_by made) slot subslot ≡ false → IsSameAt real now slot subslot
  pub empty : made.kind ≡ change.Plug → (slot subslot : ℕ) → covers (affected_by made) slot subslot ≡ true → submodule_ident real slot subslot ≡ None
  pub reach : (asks differs : Bool) (slot subslot : ℕ) → covers (reach_of (alarmed made asks differs)) slot subslot ≡ false → covers (affected_by made) slot subslot ≡ false
  pub none : NoneIsAtZero real → NoneIsAtZero now
  pub pulls : (asks differs : Bool) (from next : List Diagnosis) → next ≡ remaining (affected_by made) from → (made.kind ≡ change.Plug → next ≡ from)
      → IsStepIf (NoneIsAtZero real) (change_is.Module (alarmed made asks differs)) from next

pub record IsSizedChange (now : List RealModule) (made : RealChange) : Type 0 where
  pub modules : AreSizedModules now
  pub slot : made.slot < 65536
  pub subslot : made.subslot < 65536
  pub module_ident_number : made.module_ident_number < 4294967296
  pub submodule_ident_number : made.submodule_ident_number < 4294967296

-- the ident numbers of what a plug brings
abbrev pub IsSizedHeard : Heard → Type 0
IsSizedHeard (Applied (local.Plug slot ident part)) = (ident < 4294967296) × (part.ident < 4294967296)
IsSizedHeard heard = Unit {0}

is_outside : (slot : ℕ) (o : Option (List RealModule)) (now : List RealModule) → outside slot o ≡ Some now → o ≡ Some now
is_outside slot o now e = by_test (nat_lt 0 slot) e
  where
    by_test : (b : Bool) → cond b o None ≡ Some now → o ≡ Some now
    by_test true f = f
    by_test false f = absurd cc

and_true_less : (b : Bool) → (b && true) ≡ false → b ≡ false
and_true_less true e = e
and_true_less false e = refl

past_zero : (subslot : ℕ) → 0 < subslot → (subslot == 0) ≡ false
past_zero subslot more = ne_eqb subslot 0 (λ e. omega (arith, more, e))

-- what a subslot is, its slot is too
within : (slot subslot at there : ℕ) (whole : Bool) → (slot == at && reaches (cond whole None (Some subslot)) there) ≡ false → (slot == at && (subslot == there)) ≡ false
within slot subslot at there true apart = ap (λ (b : Bool). b && (subslot == there)) (and_true_less (slot == at) apart)
within slot subslot at there false apart = apart

pulled_modules : (slot subslot : ℕ) (real now : List RealModule) → pulled slot subslot real ≡ Some now → IsModules real now (pull_of real slot subslot)
pulled_modules slot subslot real now e = record {
  same = λ other there apart. pull_same slot subslot real now e other there apart;
  empty = λ kind. absurd (no_plug kind);
  reach = λ asks differs other there apart. within slot subslot other there (subslot == 0) apart;
  none = λ none. pull_none slot subslot real now none e;
  pulls = λ asks differs from next gone other. record {
    step = record { affected = affected_by (pull_of real slot subslot); reach = record { slot = refl; subslot = inl refl }; gone = gone };
    seen = λ none. seen_by from next gone (subslot == 0) (past_zero subslot (pull_past_zero slot subslot real now none e));
  };
}
  where
    no_plug : change.Pull ≡ change.Plug → ⊥
    no_plug kind = absurd cc

    seen_by : (from next : List Diagnosis) → next ≡ remaining (affected_by (pull_of real slot subslot)) from → (is_zero : Bool) → is_zero ≡ false
        → after_pull (Some (record { slot = slot; subslot = cond is_zero None (Some subslot) })) (listed from) ≡ listed next
    seen_by from next gone true f = absurd (true≢false f)
    seen_by from next gone false f = ap listed (sym gone)

slot_pulled_modules : (slot : ℕ) (real now : List RealModule) → slot_pulled slot real ≡ Some now → IsModules real now (slot_pull_of real slot)
slot_pulled_modules slot real now e = record {
  same = λ other there apart. slot_pull_same slot real now e other there (and_true_less (slot == other) apart);
  empty = λ kind. absurd (no_plug kind);
  reach = λ asks differs other there apart. apart;
  none = λ none. slot_pull_none slot real now none e;
  pulls = λ asks differs from next gone other. by_kind asks differs from next gone;
}
  where
    no_plug : change.PullModule ≡ change.Plug → ⊥
    no_plug kind = absurd cc

    by_kind : (asks differs : Bool) (from next : List Diagnosis) → next ≡ remaining (affected_by (slot_pull_of real slot)) from
        → IsStepIf (NoneIsAtZero real) (change_is.Module (alarmed (slot_pull_of real slot) asks differs)) from next
    by_kind true differs from next gone = record {
      step = record { affected = affected_by (slot_pull_of real slot); reach = record { slot = refl; subslot = inr (refl, refl) }; gone = gone };
      seen = λ _. ap listed (sym gone);
    }
    by_kind false differs from next gone = record {
      step = record { affected = affected_by (slot_pull_of real slot); reach = record { slot = refl; subslot = inr (refl, refl) }; gone = gone };
      seen = λ _. ap listed (sym gone);
    }

plugged_modules : (slot ident : ℕ) (part : RealSubmodule) (real now : List RealModule) → plugged_with slot ident part real ≡ Some now → IsModules real now (plug_of slot ident part)
plugged_modules slot ident part real now e = record {
  same = λ other there apart. plug_same slot ident part real now e other there apart;
  empty = λ kind other there covered.
      let at = and_parts (slot == other) (part.subslot == there) covered in
      ap (λ (n : ℕ). submodule_ident real n there) (sym (eqb-true slot other at.0))
      ∙ (ap (λ (n : ℕ). submodule_ident real slot n) (sym (eqb-true part.subslot there at.1)) ∙ plug_empty slot ident part real now e);
  reach = λ asks differs other there apart. within slot part.subslot other there (part.subslot == 0) apart;
  none = λ none. plug_none slot ident part real now none e;
  pulls = λ asks differs from next gone other. by_kind differs from next (other refl);
}
  where
    by_kind : (differs : Bool) (from next : List Diagnosis) → next ≡ from → IsStepIf (NoneIsAtZero real) (change_is.Module (alarmed (plug_of slot ident part) false differs)) from next
    by_kind true from next same = record { step = same; seen = λ _. ap listed (sym same) }
    by_kind false from next same = record { step = same; seen = λ _. ap listed (sym same) }

-- what an event of the application does to the modules, if it changes them
pub modules_so : (real now : List RealModule) (heard : Heard) (made : RealChange) → change_by real heard ≡ Some made → modules_after real heard ≡ Some now → IsModules real now made
modules_so real now (Applied (local.Pull slot subslot)) made is after =
    subst (λ (m : RealChange). IsModules real now m) (some_is (pull_of real slot subslot) made is)
    (pulled_modules slot subslot real now (is_outside slot (pulled slot subslot real) now after))
modules_so real now (Applied (local.PullModule slot)) made is after =
    subst (λ (m : RealChange). IsModules real now m) (some_is (slot_pull_of real slot) made is)
    (slot_pulled_modules slot real now (is_outside slot (slot_pulled slot real) now after))
modules_so real now (Applied (local.Plug slot ident part)) made is after =
    subst (λ (m : RealChange). IsModules real now m) (some_is (plug_of slot ident part) made is) (plugged_modules slot ident part real now after)
modules_so real now other made is after = absurd cc

-- ---- its sizes

zero_small : (o : Option ℕ) → ((n : ℕ) → o ≡ Some n → n < 4294967296) → ident_or_zero o < 4294967296
zero_small None small = omega arith
zero_small (Some n) small = small n refl

pub idents_small : (real : List RealModule) (slot : ℕ) → AreSizedModules real → ident_or_zero (module_ident real slot) < 4294967296
idents_small real slot sized = zero_small (module_ident real slot) (λ n e. (module_small real slot n sized e).1)

pub parts_small : (real : List RealModule) (slot subslot : ℕ) → AreSizedModules real → ident_or_zero (submodule_ident real slot subslot) < 4294967296
parts_small real slot subslot sized = zero_small (submodule_ident real slot subslot) (λ n e. (part_small real slot subslot n sized e).1)

pulled_sized : (slot subslot : ℕ) (real now : List RealModule) → AreSizedModules real → pulled slot subslot real ≡ Some now → IsSizedChange now (pull_of real slot subslot)
pulled_sized slot subslot real now sized e =
    let first = first_found (is_in_slot slot) (part_pulled subslot) (λ x y is changed. ap (λ (n : ℕ). n == slot) (ap (λ (m : RealModule). m.slot) (part_left subslot x y changed).is) ∙ is) real now e in
    let left = part_left subslot first.from first.to first.changed in
    let at = module_small real slot first.from.ident sized (ap (λ (o : Option RealModule). option_map (λ (m : RealModule). m.ident) o) first.found) in
    let whole = in_slot real slot sized first.from first.found in
    let one = without_one IsSizedPart (is_in_subslot subslot) first.from.submodules.items left.rest whole.0.2 left.left in
    record {
      modules = pull_sized slot subslot real now sized e;
      slot = at.0;
      subslot = subst (λ (n : ℕ). n < 65536) {x = one.one.subslot} (eqb-true one.one.subslot subslot one.passes) one.holds.0;
      module_ident_number = idents_small real slot sized;
      submodule_ident_number = parts_small real slot subslot sized;
    }

slot_pulled_sized : (slot : ℕ) (real now : List RealModule) → AreSizedModules real → slot_pulled slot real ≡ Some now → IsSizedChange now (slot_pull_of real slot)
slot_pulled_sized slot real now sized e =
    let one = without_one IsSizedModule (is_in_slot slot) real now sized e in
    record {
      modules = slot_pull_sized slot real now sized e;
      slot = subst (λ (n : ℕ). n < 65536) (eqb-true one.one.slot slot one.passes) one.holds.0;
      subslot = omega arith;
      module_ident_number = idents_small real slot sized;
      submodule_ident_number = omega arith;
    }

plugged_sized : (slot ident : ℕ) (part : RealSubmodule) (real now : List RealModule) → AreSizedModules real → (ident < 4294967296) × (part.ident < 4294967296) → plugged_with slot ident part real ≡ Some now
    → IsSizedChange now (plug_of slot ident part)
plugged_sized slot ident part real now sized small e =
    let may = may_plug slot ident part real now e in
    record {
      modules = plug_sized slot ident part real now sized small.0 small.1 e;
      slot = slot_small slot ident part real now may;
      subslot = subslot_small slot ident part real now may;
      module_ident_number = small.0;
      submodule_ident_number = small.1;
    }

pub change_sized : (real now : List RealModule) (heard : Heard) (made : RealChange) → AreSizedModules real → IsSizedHeard heard → change_by real heard ≡ Some made → modules_after real heard ≡ Some now
    → IsSizedChange now made
change_sized real now (Applied (local.Pull slot subslot)) made sized small is after =
    subst (λ (m : RealChange). IsSizedChange now m) (some_is (pull_of real slot subslot) made is)
    (pulled_sized slot subslot real now sized (is_outside slot (pulled slot subslot real) now after))
change_sized real now (Applied (local.PullModule slot)) made sized small is after =
    subst (λ (m : RealChange). IsSizedChange now m) (some_is (slot_pull_of real slot) made is)
    (slot_pulled_sized slot real now sized (is_outside slot (slot_pulled slot real) now after))
change_sized real now (Applied (local.Plug slot ident part)) made sized small is after =
    subst (λ (m : RealChange). IsSizedChange now m) (some_is (plug_of slot ident part) made is) (plugged_sized slot ident part real now sized small after)
change_sized real now other made sized small is after = absurd cc

-- ---- the diagnoses at the submodules of a relation

-- those elsewhere remain
pub places_remain : (has now : ℕ → ℕ → Bool) (affected : Affected) → ((slot subslot : ℕ) → covers affected slot subslot ≡ false → now slot subslot ≡ has slot subslot)
    → (diagnoses : List Diagnosis) → at_places now (remaining affected diagnoses) ≡ remaining affected (at_places has diagnoses)
places_remain has now affected same [] = refl
places_remain has now affected same (one ∷ diagnoses) =
    by_test (covers affected one.slot one.subslot) refl (has one.slot one.subslot) refl (places_remain has now affected same diagnoses)
  where
    by_test : (b : Bool) → covers affected one.slot one.subslot ≡ b → (c : Bool) → has one.slot one.subslot ≡ c
        → at_places now (remaining affected diagnoses) ≡ remaining affected (at_places has diagnoses)
        → at_places now (cond (not b) (one ∷ remaining affected diagnoses) (remaining affected diagnoses)) ≡ remaining affected (cond c (one ∷ at_places has diagnoses) (at_places has diagnoses))
    by_test true e true f rest = rest ∙ sym (ap (λ (b : Bool). cond (not b) (one ∷ remaining affected (at_places has diagnoses)) (remaining affected (at_places has diagnoses))) e)
    by_test true e false f rest = rest
    by_test false e true f rest =
        ap (λ (b : Bool). cond b (one ∷ at_places now (remaining affected diagnoses)) (at_places now (remaining affected diagnoses))) (same one.slot one.subslot e ∙ f)
        ∙ (ap (λ (xs : List Diagnosis). one ∷ xs) rest
        ∙ sym (ap (λ (b : Bool). cond (not b) (one ∷ remaining affected (at_places has diagnoses)) (remaining affected (at_places has diagnoses))) e))
    by_test false e false f rest =
        ap (λ (b : Bool). cond b (one ∷ at_places now (remaining affected diagnoses)) (at_places now (remaining affected diagnoses))) (same one.slot one.subslot e ∙ f) ∙ rest

-- all remain if none is at an affected submodule
pub all_remain : (has : ℕ → ℕ → Bool) (affected : Affected) → ((slot subslot : ℕ) → covers affected slot subslot ≡ true → has slot subslot ≡ false)
    → (diagnoses : List Diagnosis) → remaining affected (at_places has diagnoses) ≡ at_places has diagnoses
all_remain has affected none [] = refl
all_remain has affected none (one ∷ diagnoses) = by_has (has one.slot one.subslot) refl (all_remain has affected none diagnoses)
  where
    not_covered : has one.slot one.subslot ≡ true → covers affected one.slot one.subslot ≡ false
    not_covered e = by_test (covers affected one.slot one.subslot) refl
      where
        by_test : (b : Bool) → covers affected one.slot one.subslot ≡ b → b ≡ false
        by_test true f = absurd (true≢false (sym e ∙ none one.slot one.subslot f))
        by_test false f = refl

    by_has : (b : Bool) → has one.slot one.subslot ≡ b → remaining affected (at_places has diagnoses) ≡ at_places has diagnoses
        → remaining affected (cond b (one ∷ at_places has diagnoses) (at_places has diagnoses)) ≡ cond b (one ∷ at_places has diagnoses) (at_places has diagnoses)
    by_has true e rest =
        ap (λ (b : Bool). cond (not b) (one ∷ remaining affected (at_places has diagnoses)) (remaining affected (at_places has diagnoses))) (not_covered e)
        ∙ ap (λ (xs : List Diagnosis). one ∷ xs) rest
    by_has false e rest = rest
