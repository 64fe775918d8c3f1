-- The outputs of a device.
use Rattle.std.specs.Prelude.{◌==◌, ◌&&◌, ℕ, List, Option, Some, None, min, not, option_map, replicate}
use Rattle.std.specs.List.{find}
use Rattle.pn_values.specs.declared.real.Real.{Real}
use Rattle.pn_values.specs.declared.real.RealModule.{RealModule}
use Rattle.pn_values.specs.declared.real.RealSubmodule.{RealSubmodule}

-- The submodule in a subslot of a module, if it has an output, and the module in a slot.
abbrev pub output_part : ℕ → List RealSubmodule → Option RealSubmodule
output_part subslot parts = find (λ part. part.subslot == subslot && not (part.output == 0)) parts

-- The module that is plugged in a slot.
abbrev pub module_at : ℕ → List RealModule → Option RealModule
module_at slot modules = find (λ entry. entry.slot == slot) modules

-- As many zeros as the output of the submodule that is plugged there has octets, at most 1,440.
abbrev pub zeros_of : RealSubmodule → List ℕ
zeros_of part = replicate (min part.output 1440) 0

-- Zeros of the size of the output of a submodule, if it has one.
abbrev pub zero_part : ℕ → Option RealModule → Option (List ℕ)
zero_part subslot None = None
zero_part subslot (Some entry) = option_map zeros_of (output_part subslot entry.submodules.items)

-- The output of a submodule before a frame of outputs came: zeros, if it has one.
abbrev pub zero_output : Real → ℕ → ℕ → Option (List ℕ)
zero_output real slot subslot = zero_part subslot (module_at slot real.modules.items)

-- The output of a submodule: the output in its relation, or zeros if the relation has none for it.
abbrev pub output_of : Real → ℕ → ℕ → Option (List ℕ) → Option (List ℕ)
output_of real slot subslot (Some value) = Some value
output_of real slot subslot None = zero_output real slot subslot
