-- The parameter records of a device.
use Rattle.std.specs.Prelude.{◌==◌, ℕ, List, [], ◌∷◌, Option, Some, None, if◌then◌else◌}
use Rattle.std.specs.Option.{option_or}
use Rattle.pn_values.specs.declared.real.ParameterRecord.{ParameterRecord}
use Rattle.pn_values.specs.declared.real.RealModule.{RealModule}
use Rattle.pn_values.specs.declared.real.RealSubmodule.{RealSubmodule}

-- The length of the record with this index, if it is in the list.
abbrev pub length_in : ℕ → List ParameterRecord → Option ℕ
length_in index [] = None
length_in index (parameter ∷ parameters) = if parameter.index == index then Some parameter.length else length_in index parameters

-- The length of the record with this index of the submodule in this subslot, if there is one.
abbrev pub submodule_length : ℕ → ℕ → List RealSubmodule → Option ℕ
submodule_length subslot index [] = None
submodule_length subslot index (part ∷ parts) =
    if part.subslot == subslot then option_or (length_in index part.parameters.items) (submodule_length subslot index parts)
    else submodule_length subslot index parts

-- The length of the record with this index of the submodule in this slot and subslot, if there is one.
abbrev pub parameter_length : List RealModule → ℕ → ℕ → ℕ → Option ℕ
parameter_length [] slot subslot index = None
parameter_length (entry ∷ entries) slot subslot index =
    if entry.slot == slot then option_or (submodule_length subslot index entry.submodules.items) (parameter_length entries slot subslot index)
    else parameter_length entries slot subslot index
