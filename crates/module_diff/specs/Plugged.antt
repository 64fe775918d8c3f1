-- The modules and submodules that are plugged.
use Rattle.std.specs.Prelude.{◌==◌, ℕ, Bool, false, List, Option, Some, None}
use Rattle.std.specs.List.{find}
use Rattle.std.specs.Option.{option_map}
use Rattle.pn_values.specs.declared.real.RealModule.{RealModule}
use Rattle.pn_values.specs.declared.real.RealSubmodule.{RealSubmodule}

-- The module in a slot.
abbrev pub module_in : List RealModule → ℕ → Option RealModule
module_in modules slot = find (λ entry. entry.slot == slot) modules

-- The ident number of the module in a slot.
abbrev pub module_ident : List RealModule → ℕ → Option ℕ
module_ident modules slot = option_map (λ entry. entry.ident) (module_in modules slot)

-- The ident number of the submodule in a subslot of a module.
abbrev pub part_ident : List RealSubmodule → ℕ → Option ℕ
part_ident parts subslot = option_map (λ part. part.ident) (find (λ part. part.subslot == subslot) parts)

-- The ident number of the submodule in a subslot, if there is a module.
abbrev pub part_ident_of : Option RealModule → ℕ → Option ℕ
part_ident_of (Some entry) subslot = part_ident entry.submodules.items subslot
part_ident_of None subslot = None

-- The ident number of the submodule in a slot and subslot.
abbrev pub submodule_ident : List RealModule → ℕ → ℕ → Option ℕ
submodule_ident modules slot subslot = part_ident_of (module_in modules slot) subslot

-- Whether it is the expected ident number.
abbrev pub is_ident : Option ℕ → ℕ → Bool
is_ident (Some ident) expected = ident == expected
is_ident None expected = false
