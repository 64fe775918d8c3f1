-- The modules that are plugged in a station, as a host writes them.
use Rattle.std.specs.Prelude.{◌&&◌, ◌==◌, ℕ, Bool, true, nat_le, not, List, [], ◌∷◌, take, map}
use Rattle.std.specs.List.{list_all, list_any}
use Rattle.pn_values.specs.declared.real.ParameterRecord.{ParameterRecord}
use Rattle.pn_values.specs.declared.real.RealModule.{RealModule}
use Rattle.pn_values.specs.declared.real.RealSubmodule.{RealSubmodule}
use Rattle.c_layout.specs.declared.plugged.Module.{Module}
use Rattle.c_layout.specs.declared.plugged.Parameter.{Parameter}
use Rattle.c_layout.specs.declared.plugged.Submodule.{Submodule}

-- ---- lists in which only the counted items are valid

-- The parameter records of a submodule in C that are used.
abbrev pub parameters_in : Submodule → List Parameter
parameters_in submodule = take submodule.parameter_count submodule.parameters

-- The submodules of a module in C that are used.
abbrev pub submodules_in : Module → List Submodule
submodules_in plugged = take plugged.submodule_count plugged.submodules

-- ---- no count is greater than its list can hold

-- Whether its counts fit.
abbrev pub is_submodule : Submodule → Bool
is_submodule submodule = nat_le submodule.parameter_count 2

-- Whether its counts fit, and those of its submodules.
abbrev pub is_module : Module → Bool
is_module plugged = nat_le plugged.submodule_count 4 && list_all is_submodule (submodules_in plugged)

-- ---- parameter records in their ranges

-- A parameter record: its index is from 0 to 32,767, its length from 1 to 64.
abbrev pub is_parameter : Parameter → Bool
is_parameter item = nat_le item.index 32767 && (nat_le 1 item.length && nat_le item.length 64)

-- A parameter record has this index.
abbrev pub has_index : ℕ → List Parameter → Bool
has_index index items = list_any (λ item. item.index == index) items

-- Parameter records in their ranges, each with an index of its own.
abbrev pub are_parameters : List Parameter → Bool
are_parameters [] = true
are_parameters (item ∷ items) = (is_parameter item && not (has_index item.index items)) && are_parameters items

-- ---- the values

-- A parameter record that C describes.
abbrev pub parameter_of : Parameter → ParameterRecord
parameter_of parameter = record { index = parameter.index; length = parameter.length }

-- A submodule that C describes.
abbrev pub submodule_of : Submodule → RealSubmodule
submodule_of submodule = record {
  subslot = submodule.subslot;
  ident = submodule.ident;
  input = submodule.input;
  output = submodule.output;
  parameters = record { items = map parameter_of (parameters_in submodule) };
}

-- A module that C describes.
abbrev pub module_of : Module → RealModule
module_of plugged = record { slot = plugged.slot; ident = plugged.ident; submodules = record { items = map submodule_of (submodules_in plugged) } }
