-- The index of each record of a plan from a text is read within its range.
use Rattle.std.proofs.Common.{◌≡◌, ◌≤◌, ◌++◌, ◌&&◌, ℕ, Bool, true, false, cond, List, [], ◌∷◌, map, Result, Ok, Err, nat_le, refl, sym, subst, ap, arith, length}
use Rattle.std.specs.List.{AllByRecursion}
use Rattle.std.specs.Option.{ok_or}
use Rattle.std.proofs.lemmas.Bool.{and_parts, leb-true}
use Rattle.serde_json.specs.Data.{Data, Items, no_items, item}
use Rattle.wire.proofs.Fields.{bind_ok, ok_is}
use Rattle.plans.specs.declared.parts.Parts.{Parts}
use Rattle.catalogue.specs.declared.keys.key.Key.{Key}
use Rattle.catalogue.specs.declared.keys.key.Key.TheVariants as key
use Rattle.catalogue.specs.declared.keys.fault.CatalogueFault.{CatalogueFault}
use Rattle.catalogue.specs.declared.keys.fault.CatalogueFault.TheVariants.{Number}
use Rattle.catalogue.specs.declared.keys.fault.PlacedFault.{PlacedFault}
use Rattle.catalogue.specs.declared.keys.fault.Step.{Step}
use Rattle.catalogue.specs.declared.keys.fault.Step.TheVariants.{At, Entry}
use Rattle.catalogue.specs.keys.Placed.{at_key, behind, placed}
use Rattle.catalogue.specs.keys.Reader.{◌>>=◌, Reader, each, flag_at, items_of, list_at, member, number, number_at, text_at, whole, whole_at, within}
use Rattle.catalogue.specs.Modules.{Module, module_item, submodules_of}
use Rattle.catalogue.specs.Submodules.{Submodule}
use Rattle.catalogue.specs.Slots.{Record, Slot, length_of, octets_at, of_length, parameters_of, record_item, records_of, slot_item}
use Rattle.catalogue.specs.Projects.{Project, controller_in, project, reduction, station}
use Rattle.catalogue.specs.Catalogues.{Catalogue, access_point_in, catalogue, identity_in, project_in}
use Rattle.configurator.specs.Planned.{IsPlanOf, record_at, records_of as planned_of}
use Rattle.both_ends.specs.startup.Played.{IsParameter}
use Rattle.both_ends.proofs.StartupEach.{each_behind}

-- ---- a number in its range

within_range : (least greatest number n : ℕ) → within least greatest number ≡ Ok n → n ≤ greatest
within_range least greatest number n e = by_test (nat_le least number && nat_le number greatest) refl e
  where
    by_test : (b : Bool) → (nat_le least number && nat_le number greatest) ≡ b → cond b (Ok number) (Err Number) ≡ Ok n → n ≤ greatest
    by_test true is f = subst (λ (k : ℕ). k ≤ greatest) (ok_is {F = CatalogueFault} number n f) (leb-true number greatest (and_parts (nat_le least number) (nat_le number greatest) is).1)
    by_test false is f = absurd cc

-- what was read has no fault, and so no position
placed_ok : {A : Type 0} (key : Key) (r : Result A CatalogueFault) (y : A) → placed key r ≡ Ok y → r ≡ Ok y
placed_ok key (Ok x) y e = ap Ok (ok_is x y e)
placed_ok key (Err fault) y e = absurd cc

behind_ok : {A : Type 0} (step : Step) (r : Result A PlacedFault) (y : A) → behind step r ≡ Ok y → r ≡ Ok y
behind_ok step (Ok x) y e = ap Ok (ok_is x y e)
behind_ok step (Err found) y e = absurd cc

number_within : (key : Key) (least greatest : ℕ) (tree : Data) (n : ℕ) → number_at key least greatest tree ≡ Ok n → n ≤ greatest
unfolding number_at number
number_within key least greatest tree n e =
    let a = bind_ok (member key tree) (λ value. placed key (whole value >>= within least greatest)) n e in
    let b = bind_ok (whole a.0) (within least greatest) n (placed_ok key (whole a.0 >>= within least greatest) n a.2) in
    within_range least greatest b.0 n b.2

-- ---- a property of each entry is one of the list

module _ {A : Type 0} (reader : List A → Reader A) (P : A → Type 0) (step : (before : List A) (value : A) (tree : Data) → reader before tree ≡ Ok value → P value) where
  each_is : (before : List A) (trees : Items) (found : List A) → AllByRecursion P before → each reader before trees ≡ Ok found → AllByRecursion P found
  each_is before no_items found all e = subst (λ (xs : List A). AllByRecursion P xs) (ok_is {F = PlacedFault} before found e) all
  each_is before (item tree trees) found all e =
      let a = bind_ok (behind (Entry (length before)) (reader before tree)) (λ value. each reader (before ++ value ∷ []) trees) found e in
      let read = behind_ok (Entry (length before)) (reader before tree) a.0 a.1 in
      each_is (before ++ a.0 ∷ []) trees found (each_behind P before (a.0 ∷ []) all (step before a.0 tree read, tt)) a.2

  list_is : (key : Key) (tree : Data) (found : List A) → list_at key reader tree ≡ Ok found → AllByRecursion P found
  unfolding list_at
  list_is key tree found e =
      let a = bind_ok (items_of key tree) (λ trees. behind (At key) (each reader [] trees)) found e in
      each_is [] a.0 found tt (behind_ok (At key) (each reader [] a.0) found a.2)

-- ---- the records of a catalogue

abbrev Below : Record → Type 0
Below value = value.index ≤ 32767

abbrev AreBelow : Slot → Type 0
AreBelow entry = AllByRecursion Below entry.records

record_below : (submodules : List Submodule) (before : List Record) (value : Record) (tree : Data) → record_item submodules tree ≡ Ok value → Below value
unfolding record_item
record_below submodules before value tree e =
    let a = bind_ok (number_at key.Subslot 1 36863 tree) _ value e in
    let b = bind_ok (ok_or (parameters_of a.0 submodules) (at_key key.Subslot Number)) _ value a.2 in
    let c = bind_ok (number_at key.Index 0 32767 tree) _ value b.2 in
    let d = bind_ok (ok_or (length_of c.0 b.0) (at_key key.Index Number)) _ value c.2 in
    let f = bind_ok (octets_at key.Data tree >>= of_length d.0) _ value d.2 in
    subst Below (ok_is {F = PlacedFault} _ value f.2) (number_within key.Index 0 32767 tree c.0 c.1)

slot_below : (modules : List Module) (before : List Slot) (value : Slot) (tree : Data) → slot_item modules tree ≡ Ok value → AreBelow value
unfolding slot_item
slot_below modules before value tree e =
    let a = bind_ok (whole_at key.Slot tree) _ value e in
    let b = bind_ok (text_at key.ModuleItemTarget tree) _ value a.2 in
    let c = bind_ok (records_of modules b.0 tree) _ value b.2 in
    subst AreBelow (ok_is {F = PlacedFault} _ value c.2)
    (list_is (λ _ entry. record_item (submodules_of b.0 modules) entry) Below (record_below (submodules_of b.0 modules)) key.Records tree c.0 c.1)

project_below : (least : ℕ) (modules : List Module) (tree : Data) (found : Project) → project least modules tree ≡ Ok found → AllByRecursion AreBelow found.slots
unfolding project
project_below least modules tree found e =
    let a = bind_ok (station tree) _ found e in
    let b = bind_ok (controller_in tree) _ found a.2 in
    let c = bind_ok (number_at key.SendClockFactor 1 128 tree) _ found b.2 in
    let d = bind_ok (reduction c.0 least tree) _ found c.2 in
    let f = bind_ok (number_at key.DataHoldFactor 1 7680 tree) _ found d.2 in
    let g = bind_ok (list_at key.Slots (λ _ entry. slot_item modules entry) tree) _ found f.2 in
    let h = bind_ok (flag_at key.ContinueOnRefusedRecord tree) _ found g.2 in
    let k = bind_ok (flag_at key.ReleaseOnRefusedRecord tree) _ found h.2 in
    let m = bind_ok (flag_at key.ParametersAfterPlug tree) _ found k.2 in
    let n = bind_ok (flag_at key.PersistentStart tree) _ found m.2 in
    subst (λ (p : Project). AllByRecursion AreBelow p.slots) (ok_is {F = PlacedFault} _ found n.2)
    (list_is (λ _ entry. slot_item modules entry) AreBelow (slot_below modules) key.Slots tree g.0 g.1)

catalogue_below : (tree : Data) (found : Catalogue) → catalogue tree ≡ Ok found → AllByRecursion AreBelow found.project.slots
unfolding catalogue project_in
catalogue_below tree found e =
    let a = bind_ok (identity_in tree) _ found e in
    let b = bind_ok (access_point_in tree) _ found a.2 in
    let c = bind_ok (list_at key.ModuleItem module_item tree) _ found b.2 in
    let d = bind_ok (project_in b.0.least_interval c.0 tree) _ found c.2 in
    let wanted = bind_ok (member key.Project tree) _ d.0 d.1 in
    subst (λ (catalogue_is : Catalogue). AllByRecursion AreBelow catalogue_is.project.slots) (ok_is {F = PlacedFault} _ found d.2)
    (project_below b.0.least_interval c.0 wanted.0 d.0 (behind_ok (At key.Project) (project b.0.least_interval c.0 wanted.0) d.0 wanted.2))

-- ---- the records of a plan

of_slot : (slot : ℕ) (records : List Record) → AllByRecursion Below records → AllByRecursion IsParameter (map (record_at slot) records)
of_slot slot [] below = tt
of_slot slot (value ∷ records) below = (omega (arith, below.0), of_slot slot records below.1)

of_slots : (slots : List Slot) → AllByRecursion AreBelow slots → AllByRecursion IsParameter (planned_of slots)
of_slots [] below = tt
of_slots (entry ∷ slots) below =
    each_behind IsParameter (map (record_at entry.slot) entry.records) (planned_of slots) (of_slot entry.slot entry.records below.0) (of_slots slots below.1)

pub text_parameters : (text : List ℕ) (plan : Parts) → IsPlanOf text plan → AllByRecursion IsParameter plan.records.items
text_parameters text plan of_text =
    let found = of_text.0 in
    let made = of_text.2.0 in
    subst (λ (p : Parts). AllByRecursion IsParameter p.records.items) (sym made.made)
    (of_slots found.project.slots (catalogue_below of_text.1.0 found of_text.1.2))
