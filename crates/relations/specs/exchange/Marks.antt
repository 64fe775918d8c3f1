-- Why the IOPS that a device sends are not good.
use Rattle.std.specs.List.{AllByRecursion}
use Rattle.std.specs.Prelude.{◌≡◌, ◌&&◌, ◌||◌, ℕ, Bool, false, not, nat_lt, List, [], ◌∷◌, map, Option, Some, None, if◌then◌else◌}
use Rattle.wire.specs.blocks.modules.Lists.{Listed}
use Rattle.connect_blocks.specs.declared.module_diff.DiffModule.{DiffModule}
use Rattle.connect_blocks.specs.declared.module_diff.DiffSubmodule.{DiffSubmodule}
use Rattle.module_diff.specs.Diff.{is_listed}
use Rattle.cyclic_data.specs.declared.place.Place.{Place}
use Rattle.cyclic_data.specs.declared.place.PlaceKind.TheVariants.{Data}
use Rattle.cyclic_data.specs.Image.{good}
use Rattle.cyclic_data.specs.Layout.{is_of}
use Rattle.diagnosis.specs.declared.diagnosis.Diagnosis.{Diagnosis}
use Rattle.relations.specs.declared.exchange.marks.Mark.{Mark}
use Rattle.relations.specs.declared.exchange.statuses.InputStatus.{InputStatus}
use Rattle.relations.specs.exchange.Statuses.{is_bad}

-- What a relation begins with. What the application says of its inputs: whether the IOPS of a submodule with inputs is bad
-- until the first input is given, whether it runs or is stopped, and the statuses that it gave. The units since the start of the device. And the diagnoses
-- that exist. And the number of the relation.
pub record Starting : Type 0 where
  pub begin_bad : Bool
  pub is_running : Bool
  pub statuses : List InputStatus
  pub units : ℕ
  pub diagnoses : List Diagnosis
  pub number : ℕ

-- The mark of a place as a relation begins. A place without data has one octet, its status.
abbrev pub first_mark : Starting → Listed DiffModule DiffSubmodule → Place → Mark
first_mark starting rows place = record {
  place = place;
  differs = is_listed place.slot place.subslot rows;
  is_touched = false;
  is_awaited = starting.begin_bad && nat_lt 1 place.size;
  is_bad = is_bad place.slot place.subslot starting.statuses;
}

-- The IOPS: good if nothing is against it.
abbrev pub iops_by : Mark → ℕ
iops_by mark = if mark.differs || (mark.is_touched || (mark.is_awaited || mark.is_bad)) then 0 else good

-- The mark of the inputs of a submodule, its IOPS, and whether its first input is awaited.
abbrev pub mark_at : ℕ → ℕ → List Mark → Option Mark
mark_at slot subslot [] = None
mark_at slot subslot (mark ∷ marks) = if is_of Data slot subslot mark.place then Some mark else mark_at slot subslot marks

-- The IOPS of a submodule by its mark; 0 without one.
abbrev pub iops_of : Option Mark → ℕ
iops_of None = 0
iops_of (Some mark) = iops_by mark

-- Whether a submodule waits for its first value.
abbrev pub is_awaited_in : Option Mark → Bool
is_awaited_in None = false
is_awaited_in (Some mark) = mark.is_awaited

-- Whether the submodule in this slot and subslot waits for its first value.
abbrev pub awaits : ℕ → ℕ → List Mark → Bool
awaits slot subslot marks = is_awaited_in (mark_at slot subslot marks)

-- No first input is awaited.
abbrev pub NoneAwaited : List Mark → Type 0
NoneAwaited marks = AllByRecursion (λ mark. mark.is_awaited ≡ false) marks

-- None is, unless one may be.
abbrev pub MayAwait : Bool → List Mark → Type 0
MayAwait may_await marks = may_await ≡ false → NoneAwaited marks

-- A mark after an input was given, or after a status.
abbrev pub change_by : Option Bool → Mark → Mark
change_by None mark = record mark { is_awaited = false }
change_by (Some is_good) mark = record mark { is_bad = not is_good }

-- The marks, if those of a submodule change.
abbrev pub marked : ℕ → ℕ → (Mark → Mark) → List Mark → List Mark
marked slot subslot change marks = map (λ mark. if is_of Data slot subslot mark.place then change mark else mark) marks
