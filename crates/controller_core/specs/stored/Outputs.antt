-- Why the IOPS that a controller sends with its outputs are not good.
use Rattle.std.specs.Prelude.{◌||◌, ℕ, Bool, true, false, not, List, [], ◌∷◌, map, Option, Some, None, if◌then◌else◌}
use Rattle.cyclic_data.specs.declared.place.Place.{Place}
use Rattle.cyclic_data.specs.declared.place.PlaceKind.TheVariants.{Data}
use Rattle.cyclic_data.specs.Image.{good}
use Rattle.cyclic_data.specs.Layout.{is_of}
use Rattle.controller_core.specs.declared.stored.outputs.OutputMark.{OutputMark}

-- The mark of a place at the beginning: no value was given, and the application says nothing against it.
abbrev pub first_mark : Place → OutputMark
first_mark place = record { place = place; is_awaited = true; is_bad = false }

-- The IOPS: good if nothing is against it.
abbrev pub iops_by : OutputMark → ℕ
iops_by mark = if mark.is_awaited || mark.is_bad then 0 else good

-- The mark of the output of a submodule, its IOPS, and whether its first value is awaited.
abbrev pub mark_at : ℕ → ℕ → List OutputMark → Option OutputMark
mark_at slot subslot [] = None
mark_at slot subslot (mark ∷ marks) = if is_of Data slot subslot mark.place then Some mark else mark_at slot subslot marks

-- The IOPS of an output by its mark; 0 without one.
abbrev pub iops_of : Option OutputMark → ℕ
iops_of None = 0
iops_of (Some mark) = iops_by mark

-- Whether an output waits for its first value.
abbrev pub is_awaited_in : Option OutputMark → Bool
is_awaited_in None = false
is_awaited_in (Some mark) = mark.is_awaited

-- Whether the output of this submodule waits for its first value.
abbrev pub awaits : ℕ → ℕ → List OutputMark → Bool
awaits slot subslot marks = is_awaited_in (mark_at slot subslot marks)

-- A mark after a value was given, or after a status.
abbrev pub change_by : Option Bool → OutputMark → OutputMark
change_by None mark = record mark { is_awaited = false }
change_by (Some is_good) mark = record mark { is_bad = not is_good }

-- The marks, if those of a submodule change.
abbrev pub marked : ℕ → ℕ → (OutputMark → OutputMark) → List OutputMark → List OutputMark
marked slot subslot change marks = map (λ mark. if is_of Data slot subslot mark.place then change mark else mark) marks
