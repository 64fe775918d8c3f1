-- A catalogue that was read is in its ranges.
use Rattle.std.proofs.Common.{subst, if◌then◌else◌, ◌≡◌, ◌≢◌, ◌≤◌, ◌∙◌, ◌++◌, ◌==◌, ◌||◌, ℕ, refl, sym, ap, List, [], ◌∷◌, length, Bool, true, false, cond, Option, Some, None, Result, Ok, Err, IfOk}
use Rattle.std.specs.List.{AllByRecursion, list_any}
use Rattle.std.specs.Str.{bytes_eq}
use Rattle.std.specs.Option.{ok_or}
use Rattle.std.proofs.lemmas.Bool.{eqb-true, eqb-false}
use Rattle.serde_json.specs.Data.{Data}
use Rattle.wire.proofs.Fields.{bind_ok, ok_is}
use Rattle.catalogue.specs.declared.keys.key.Key.TheVariants as key
use Rattle.catalogue.specs.declared.keys.fault.CatalogueFault.TheVariants.{Number}
use Rattle.catalogue.specs.declared.keys.fault.PlacedFault.{PlacedFault}
use Rattle.catalogue.specs.declared.keys.fault.Step.TheVariants.{At}
use Rattle.catalogue.specs.keys.Placed.{at_key, behind}
use Rattle.catalogue.specs.declared.submodule.ParameterItem.{ParameterItem}
use Rattle.catalogue.specs.keys.Reader.{◌>>=◌, Reads, member, number_at, text_at, flag_at, list_at, whole_at}
use Rattle.catalogue.specs.Submodules.{Submodule, has_index, has_subslot, io_of, parameter, submodule}
use Rattle.catalogue.specs.Modules.{Module, has_id, module_item, submodules_of}
use Rattle.catalogue.specs.Slots.{Record, Slot, length_of, octets_at, of_length, parameters_of, record_item, records_of, slot_item}
use Rattle.catalogue.specs.AccessPoints.{AccessPoint, access_point, reference, slots_at}
use Rattle.catalogue.specs.Projects.{Project, controller_in, kept_by, project, reduction, station}
use Rattle.catalogue.specs.Catalogues.{Catalogue, access_point_in, catalogue, identity_in, project_in}
use Rattle.catalogue.specs.Kept.{AreApart, AreShort, AreSlotsShort, IsInRange, IsKept}
use Rattle.catalogue.proofs.Within.{all_behind, behind_ok, list_keeps, list_of, number_within, passed, there, went_on}

-- ---- submodules

parameter_short : (before : List ParameterItem) (value : ParameterItem) (tree : Data) → parameter before tree ≡ Ok value → value.length ≤ 64
unfolding parameter
parameter_short before value tree e =
    let a = bind_ok (number_at key.Index 0 32767 tree) _ value e in
    let b = went_on (has_index a.0 before) (at_key key.Index Number) _ value a.2 in
    let c = bind_ok (number_at key.Length 1 64 tree) _ value b.1 in
    subst (λ (item : ParameterItem). item.length ≤ 64) (ok_is {F = PlacedFault} _ value c.2) (number_within key.Length 1 64 tree c.0 c.1).1

-- no submodule before has its subslot, and each of its parameter records has at most 64 octets
record IsRead (before : List Submodule) (value : Submodule) : Type 0 where
  new : has_subslot value.subslot before ≡ false
  short : AllByRecursion (λ item. item.length ≤ 64) value.parameters

submodule_read : (before : List Submodule) (value : Submodule) (tree : Data) → submodule before tree ≡ Ok value → IsRead before value
unfolding submodule
submodule_read before value tree e =
    let a = bind_ok (number_at key.Subslot 1 36863 tree) _ value e in
    let b = went_on (has_subslot a.0 before) (at_key key.Subslot Number) _ value a.2 in
    let c = bind_ok (number_at key.SubmoduleIdentNumber 0 4294967295 tree) _ value b.1 in
    let d = bind_ok (io_of tree) _ value c.2 in
    let f = bind_ok (list_at key.ParameterRecordDataItem parameter tree) _ value d.2 in
    subst (IsRead before) (ok_is {F = PlacedFault} _ value f.2) (record {
      new = b.0;
      short = list_of parameter (λ item. item.length ≤ 64) parameter_short key.ParameterRecordDataItem tree f.0 f.1;
    })

-- one more submodule, whose subslot the others do not have
apart_behind : (before : List Submodule) (value : Submodule) → AreApart before → has_subslot value.subslot before ≡ false → AreApart (before ++ value ∷ [])
apart_behind [] value apart new = (tt, tt)
apart_behind (entry ∷ entries) value apart new =
    let n = neither (entry.subslot == value.subslot) (has_subslot value.subslot entries) new in
    (all_behind (λ (other : Submodule). other.subslot ≢ entry.subslot) entries value apart.0 (λ e. eqb-false entry.subslot value.subslot n.0 (sym e)), apart_behind entries value apart.1 n.1)
  where
    neither : (a b : Bool) → (a || b) ≡ false → (a ≡ false) × (b ≡ false)
    neither true b e = absurd cc
    neither false b e = (refl, e)

-- no two submodules at a key have the same subslot
pub submodules_apart : (tree : Data) (found : List Submodule) → list_at key.VirtualSubmoduleItem submodule tree ≡ Ok found → AreApart found
submodules_apart tree found e =
    list_keeps submodule AreApart (λ before value tree kept e. apart_behind before value kept (submodule_read before value tree e).new) key.VirtualSubmoduleItem tree found tt e

pub submodules_short : (tree : Data) (found : List Submodule) → list_at key.VirtualSubmoduleItem submodule tree ≡ Ok found → AreShort found
submodules_short tree found e =
    list_of submodule (λ entry. AllByRecursion (λ item. item.length ≤ 64) entry.parameters) (λ before value tree e. (submodule_read before value tree e).short) key.VirtualSubmoduleItem tree found e

-- ---- modules

pub record IsModule (value : Module) : Type 0 where
  pub apart : AreApart value.submodules
  pub short : AreShort value.submodules

module_read : (before : List Module) (value : Module) (tree : Data) → module_item before tree ≡ Ok value → IsModule value
unfolding module_item
module_read before value tree e =
    let a = bind_ok (text_at key.Id tree) _ value e in
    let b = went_on (has_id a.0 before) (at_key key.Id Number) _ value a.2 in
    let c = bind_ok (number_at key.ModuleIdentNumber 1 4294967295 tree) _ value b.1 in
    let d = bind_ok (list_at key.VirtualSubmoduleItem submodule tree) _ value c.2 in
    subst IsModule (ok_is {F = PlacedFault} _ value d.2) (record { apart = submodules_apart tree d.0 d.1; short = submodules_short tree d.0 d.1 })

pub modules_read : (tree : Data) (found : List Module) → list_at key.ModuleItem module_item tree ≡ Ok found → AllByRecursion IsModule found
modules_read tree found e = list_of module_item IsModule module_read key.ModuleItem tree found e

pub modules_apart : (modules : List Module) → AllByRecursion IsModule modules → AllByRecursion (λ entry. AreApart entry.submodules) modules
modules_apart [] all = tt
modules_apart (entry ∷ entries) all = (all.0.apart, modules_apart entries all.1)

-- ---- records

some_is : {A : Type 0} (x y : A) → Some x ≡ Some y → x ≡ y
some_is x y e = cc

submodules_of_short : (id : List ℕ) (modules : List Module) → AllByRecursion IsModule modules → AreShort (submodules_of id modules)
submodules_of_short id [] all = tt
submodules_of_short id (entry ∷ entries) all = either (bytes_eq entry.id id) (submodules_of_short id entries all.1)
  where
    either : (b : Bool) → AreShort (submodules_of id entries) → AreShort (if b then entry.submodules else submodules_of id entries)
    either true others = all.0.short
    either false others = others

parameters_of_short : (subslot : ℕ) (submodules : List Submodule) (found : List ParameterItem) → AreShort submodules → parameters_of subslot submodules ≡ Some found
    → AllByRecursion (λ item. item.length ≤ 64) found
parameters_of_short subslot [] found short e = absurd cc
parameters_of_short subslot (entry ∷ entries) found short e = either (entry.subslot == subslot) (parameters_of_short subslot entries found short.1) e
  where
    either : (b : Bool) → (parameters_of subslot entries ≡ Some found → AllByRecursion (λ item. item.length ≤ 64) found) → (if b then Some entry.parameters else parameters_of subslot entries) ≡ Some found → AllByRecursion (λ item. item.length ≤ 64) found
    either true others e = subst (AllByRecursion (λ (item : ParameterItem). item.length ≤ 64)) (some_is entry.parameters found e) short.0
    either false others e = others e

length_of_short : (index : ℕ) (items : List ParameterItem) (size : ℕ) → AllByRecursion (λ item. item.length ≤ 64) items → length_of index items ≡ Some size → size ≤ 64
length_of_short index [] size short e = absurd cc
length_of_short index (entry ∷ entries) size short e = either (entry.index == index) (length_of_short index entries size short.1) e
  where
    either : (b : Bool) → (length_of index entries ≡ Some size → size ≤ 64) → (if b then Some entry.length else length_of index entries) ≡ Some size → size ≤ 64
    either true others e = subst (λ (n : ℕ). n ≤ 64) (some_is entry.length size e) short.0
    either false others e = others e

record_short : (submodules : List Submodule) → AreShort submodules → (before : List Record) (value : Record) (tree : Data) → record_item submodules tree ≡ Ok value → length value.octets ≤ 64
unfolding record_item
record_short submodules short before value tree e =
    let a = bind_ok (number_at key.Subslot 1 36863 tree) _ value e in
    let b = bind_ok (ok_or (parameters_of a.0 submodules) (at_key key.Subslot Number)) _ value a.2 in
    let c = bind_ok (number_at key.Index 0 32767 tree) _ value b.2 in
    let d = bind_ok (ok_or (length_of c.0 b.0) (at_key key.Index Number)) _ value c.2 in
    let f = bind_ok (octets_at key.Data tree >>= of_length d.0) _ value d.2 in
    let g = bind_ok (octets_at key.Data tree) (of_length d.0) f.0 f.1 in
    let h = passed (length g.0 == d.0) (at_key key.Data Number) g.0 f.0 g.2 in
    let size = length_of_short c.0 b.0 d.0 (parameters_of_short a.0 submodules b.0 short (there _ (at_key key.Subslot Number) b.0 b.1)) (there _ (at_key key.Index Number) d.0 d.1) in
    subst (λ (item : Record). length item.octets ≤ 64) (ok_is {F = PlacedFault} _ value f.2)
    (subst (λ (octets : List ℕ). length octets ≤ 64) h.1 (subst (λ (n : ℕ). n ≤ 64) (sym (eqb-true (length g.0) d.0 h.0)) size))

slot_short : (modules : List Module) → AllByRecursion IsModule modules → (before : List Slot) (value : Slot) (tree : Data) → slot_item modules tree ≡ Ok value
    → AllByRecursion (λ item. length item.octets ≤ 64) value.records
unfolding slot_item
slot_short modules all before value tree e =
    let a = bind_ok (whole_at key.Slot tree) _ value e in
    let b = bind_ok (text_at key.ModuleItemTarget tree) _ value a.2 in
    let c = bind_ok (records_of modules b.0 tree) _ value b.2 in
    subst (λ (item : Slot). AllByRecursion (λ (record_of : Record). length record_of.octets ≤ 64) item.records) (ok_is {F = PlacedFault} _ value c.2)
    (list_of (λ _ entry. record_item (submodules_of b.0 modules) entry) (λ (item : Record). length item.octets ≤ 64)
    (record_short (submodules_of b.0 modules) (submodules_of_short b.0 modules all)) key.Records tree c.0 c.1)

-- ---- the whole

reduction_within : (clock least : ℕ) (tree : Data) (n : ℕ) → reduction clock least tree ≡ Ok n → (1 ≤ n) × (n ≤ 512)
unfolding reduction
reduction_within clock least tree n e =
    let a = bind_ok (number_at key.ReductionRatio 1 512 tree) (kept_by clock least) n e in
    let b = went_on _ (at_key key.ReductionRatio Number) _ n a.2 in
    subst (λ (k : ℕ). (1 ≤ k) × (k ≤ 512)) (ok_is {F = PlacedFault} a.0 n b.1) (number_within key.ReductionRatio 1 512 tree a.0 a.1)

project_kept : (least : ℕ) (modules : List Module) (tree : Data) (found : Project) → AllByRecursion IsModule modules → project least modules tree ≡ Ok found → IsKept found
unfolding project
project_kept least modules tree found all e =
    let a = bind_ok (station tree) _ found e in
    let b = bind_ok (controller_in tree) _ found a.2 in
    let c = bind_ok (number_at key.SendClockFactor 1 128 tree) _ found b.2 in
    let d = bind_ok (reduction c.0 least tree) _ found c.2 in
    let f = bind_ok (number_at key.DataHoldFactor 1 7680 tree) _ found d.2 in
    let g = bind_ok (list_at key.Slots (λ _ entry. slot_item modules entry) tree) _ found f.2 in
    let h = bind_ok (flag_at key.ContinueOnRefusedRecord tree) _ found g.2 in
    let k = bind_ok (flag_at key.ReleaseOnRefusedRecord tree) _ found h.2 in
    let m = bind_ok (flag_at key.ParametersAfterPlug tree) _ found k.2 in
    let n = bind_ok (flag_at key.PersistentStart tree) _ found m.2 in
    let clock = number_within key.SendClockFactor 1 128 tree c.0 c.1 in
    let ratio = reduction_within c.0 least tree d.0 d.1 in
    let hold = number_within key.DataHoldFactor 1 7680 tree f.0 f.1 in
    subst IsKept (ok_is {F = PlacedFault} _ found n.2) (record {
      clock_least = clock.0;
      clock_greatest = clock.1;
      ratio_least = ratio.0;
      ratio_greatest = ratio.1;
      hold_least = hold.0;
      hold_greatest = hold.1;
      short = list_of (λ _ entry. slot_item modules entry) (λ entry. AllByRecursion (λ item. length item.octets ≤ 64) entry.records) (slot_short modules all) key.Slots tree g.0 g.1;
    })

point_apart : (tree : Data) (found : AccessPoint) → access_point tree ≡ Ok found → AreApart found.submodules
unfolding access_point
point_apart tree found e =
    let a = bind_ok (number_at key.ModuleIdentNumber 1 4294967295 tree) _ found e in
    let b = bind_ok (slots_at key.PhysicalSlots tree) _ found a.2 in
    let c = bind_ok (text_at key.StationType tree) _ found b.2 in
    let d = bind_ok (number_at key.MinDeviceInterval 1 65536 tree) _ found c.2 in
    let f = bind_ok (list_at key.VirtualSubmoduleItem submodule tree) _ found d.2 in
    let g = bind_ok (list_at key.ModuleItemRef (λ _ entry. reference entry) tree) _ found f.2 in
    let h = bind_ok (flag_at key.MultipleWriteSupported tree) _ found g.2 in
    subst (λ (point : AccessPoint). AreApart point.submodules) (ok_is {F = PlacedFault} _ found h.2) (submodules_apart tree f.0 f.1)

pub in_range : (tree : Data) (found : Catalogue) → catalogue tree ≡ Ok found → IsInRange found
unfolding catalogue access_point_in project_in
in_range tree found e =
    let a = bind_ok (identity_in tree) _ found e in
    let b = bind_ok (access_point_in tree) _ found a.2 in
    let c = bind_ok (list_at key.ModuleItem module_item tree) _ found b.2 in
    let d = bind_ok (project_in b.0.least_interval c.0 tree) _ found c.2 in
    let point = bind_ok (member key.DeviceAccessPointItem tree) _ b.0 b.1 in
    let wanted = bind_ok (member key.Project tree) _ d.0 d.1 in
    let all = modules_read tree c.0 c.1 in
    subst IsInRange (ok_is {F = PlacedFault} _ found d.2) (record {
      project = project_kept b.0.least_interval c.0 wanted.0 d.0 all (behind_ok (At key.Project) (project b.0.least_interval c.0 wanted.0) d.0 wanted.2);
      point = point_apart point.0 b.0 (behind_ok (At key.DeviceAccessPointItem) (access_point point.0) b.0 point.2);
      modules = modules_apart c.0 all;
    })

pub in_range_if : (tree : Data) (r : Result Catalogue PlacedFault) → Reads (λ found. found) r (catalogue tree) → IfOk r IsInRange
in_range_if tree (Ok found) e = in_range tree found e
in_range_if tree (Err found) e = tt
