-- What the rows of a ModuleDiffBlock say of modules and submodules.
use Rattle.std.proofs.Common.{◌≡◌, ◌==◌, ℕ, Bool, true, false, List, [], ◌∷◌, length, Option, Some, None, option_map, refl, sym, ap, ◌∙◌, subst, if◌then◌else◌}
use Rattle.std.specs.Prelude.{find}
use Rattle.pn_values.specs.declared.real.RealModule.{RealModule}
use Rattle.pn_values.specs.declared.real.RealSubmodule.{RealSubmodule}
use Rattle.connect_blocks.specs.declared.expected.ExpectedModule.{ExpectedModule}
use Rattle.connect_blocks.specs.declared.expected.ExpectedSubmodule.{ExpectedSubmodule}
use Rattle.module_diff.specs.Diff.{Wanted, listed, module_row, row_with, submodule_row, submodule_row_with}
use Rattle.module_diff.specs.Plugged.{module_in, part_ident, part_ident_of}
use Rattle.fields_law.specs.Modules.{SaysModule, SaysSubmodule, module_at, parts_of, submodule_at}

-- the module in a slot is the one that the comparison finds
module_same : (slot : ℕ) (real : List RealModule) → module_in real slot ≡ module_at slot real
module_same slot [] = refl
module_same slot (entry ∷ entries) = ap (λ (found : Option RealModule). if entry.slot == slot then Some entry else found) (module_same slot entries)

part_same : (subslot : ℕ) (parts : List RealSubmodule)
    → part_ident parts subslot ≡ option_map (λ (part : RealSubmodule). part.ident) (submodule_at subslot parts)
part_same subslot [] = refl
part_same subslot (part ∷ parts) = by_test (part.subslot == subslot) (part_same subslot parts)
  where
    by_test : (b : Bool)
        → part_ident parts subslot ≡ option_map (λ (one : RealSubmodule). one.ident) (submodule_at subslot parts)
        → option_map (λ (one : RealSubmodule). one.ident) (if b then Some part else find (λ (one : RealSubmodule). one.subslot == subslot) parts)
        ≡ option_map (λ (one : RealSubmodule). one.ident) (if b then Some part else submodule_at subslot parts)
    by_test true others = refl
    by_test false others = others

module_by : (entry : ExpectedModule) (count : ℕ) (found : Option RealModule)
    → SaysModule found entry.module_ident_number (row_with entry (option_map (λ (one : RealModule). one.ident) found) count)
module_by entry count None = (refl, refl)
module_by entry count (Some one) = (refl, refl)

pub module_says : (real : List RealModule) (wanted : Wanted)
    → SaysModule (module_at wanted.entry.slot_number real) wanted.entry.module_ident_number (module_row real wanted)
module_says real wanted =
    subst (λ (found : Option RealModule). SaysModule found wanted.entry.module_ident_number (module_row real wanted))
    (module_same wanted.entry.slot_number real)
    (module_by wanted.entry (length (listed real wanted)) (module_in real wanted.entry.slot_number))

part_by : (subslot : ℕ) (found : Option RealSubmodule)
    → SaysSubmodule found (submodule_row_with subslot (option_map (λ (part : RealSubmodule). part.ident) found))
part_by subslot None = (refl, refl)
part_by subslot (Some part) = (refl, refl)

none_or_part : (found : Option RealModule) (subslot : ℕ)
    → part_ident_of found subslot ≡ option_map (λ (part : RealSubmodule). part.ident) (submodule_at subslot (parts_of found))
none_or_part None subslot = refl
none_or_part (Some entry) subslot = part_same subslot entry.submodules.items

pub submodule_says : (real : List RealModule) (slot : ℕ) (part : ExpectedSubmodule)
    → SaysSubmodule (submodule_at part.subslot_number (parts_of (module_at slot real))) (submodule_row real slot part)
submodule_says real slot part =
    let same = ap (λ (found : Option RealModule). part_ident_of found part.subslot_number) (module_same slot real)
    ∙ none_or_part (module_at slot real) part.subslot_number in
    subst (λ (ident : Option ℕ). SaysSubmodule (submodule_at part.subslot_number (parts_of (module_at slot real)))
    (submodule_row_with part.subslot_number ident)) (sym same)
    (part_by part.subslot_number (submodule_at part.subslot_number (parts_of (module_at slot real))))
