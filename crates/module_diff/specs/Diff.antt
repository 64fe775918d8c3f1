-- The modules that are not as a Connect expects them (IEC 61158-6-10, 5.2.4.11).
use Rattle.std.specs.Prelude.{◌==◌, ◌&&◌, ◌||◌, ◌++◌, ℕ, Bool, false, not, List, [], ◌∷◌, map, length, take, drop, Option, Some, None, if◌then◌else◌}
use Rattle.std.specs.List.{filter, list_any}
use Rattle.pn_values.specs.declared.real.RealModule.{RealModule}
use Rattle.wire.specs.blocks.modules.Lists.{Listed}
use Rattle.connect_blocks.specs.declared.expected.ExpectedModule.{ExpectedModule}
use Rattle.connect_blocks.specs.declared.expected.ExpectedSubmodule.{ExpectedSubmodule}
use Rattle.connect_blocks.specs.declared.module_diff.DiffModule.{DiffModule}
use Rattle.connect_blocks.specs.declared.module_diff.DiffSubmodule.{DiffSubmodule}
use Rattle.connect_blocks.specs.Expected.{own_of}
use Rattle.connect_blocks.specs.ModuleDiff.{own_of as rows_of}
use Rattle.module_diff.specs.declared.expected.Expected.{Expected}
use Rattle.module_diff.specs.Plugged.{is_ident, module_ident, submodule_ident}

-- An expected module with its submodules.
pub record Wanted : Type 0 where
  pub entry : ExpectedModule
  pub submodules : List ExpectedSubmodule

-- The expected modules, each with as many of these submodules as it counts.
abbrev pub wanted_in : List ExpectedModule → List ExpectedSubmodule → List Wanted
wanted_in [] submodules = []
wanted_in (entry ∷ modules) submodules =
    record { entry = entry; submodules = take (own_of entry) submodules } ∷ wanted_in modules (drop (own_of entry) submodules)

-- ---- what differs

-- The module with the expected ident number is plugged in its slot.
abbrev pub is_proper : List RealModule → ExpectedModule → Bool
is_proper real entry = is_ident (module_ident real entry.slot_number) entry.module_ident_number

-- The submodule with the expected ident number is plugged in its subslot of this slot.
abbrev pub is_as_expected : List RealModule → ℕ → ExpectedSubmodule → Bool
is_as_expected real slot part = is_ident (submodule_ident real slot part.subslot_number) part.submodule_ident_number

-- A module differs if its slot is empty, another module is plugged there, or one of its submodules is not as expected.
abbrev pub differs : List RealModule → Wanted → Bool
differs real wanted = not (is_proper real wanted.entry) || list_any (λ part. not (is_as_expected real wanted.entry.slot_number part)) wanted.submodules

-- The listed submodules of a module: all if the module is not the expected one, else only those that are not as expected.
abbrev pub listed : List RealModule → Wanted → List ExpectedSubmodule
listed real wanted = filter (λ part. not (is_proper real wanted.entry && is_as_expected real wanted.entry.slot_number part)) wanted.submodules

-- ---- the rows

-- An ident number, or 0 if nothing is plugged.
abbrev pub ident_or_zero : Option ℕ → ℕ
ident_or_zero (Some ident) = ident
ident_or_zero None = 0

-- ModuleState: 0 no module, 1 wrong module, 2 proper module.
abbrev pub module_state : Option ℕ → ℕ → ℕ
module_state None expected = 0
module_state (Some ident) expected = if ident == expected then 2 else 1

-- The row of a module, from the ident number that is plugged in its slot and the number of its listed submodules.
abbrev pub row_with : ExpectedModule → Option ℕ → ℕ → DiffModule
row_with entry ident listed = record {
  slot_number = entry.slot_number;
  module_ident_number = ident_or_zero ident;
  module_state = module_state ident entry.module_ident_number;
  number_of_submodules = listed;
}

-- The row of a module.
abbrev pub module_row : List RealModule → Wanted → DiffModule
module_row real wanted = row_with wanted.entry (module_ident real wanted.entry.slot_number) (length (listed real wanted))

-- SubmoduleState with FormatIndicator 1: IdentInfo is 2 (wrong) if a submodule is plugged, else 3 (no submodule).
abbrev pub submodule_state : Option ℕ → ℕ
submodule_state (Some ident) = 0x9000
submodule_state None = 0x9800

-- The row of a submodule, from the ident number that is plugged in its subslot.
abbrev pub submodule_row_with : ℕ → Option ℕ → DiffSubmodule
submodule_row_with subslot ident = record {
  subslot_number = subslot;
  submodule_ident_number = ident_or_zero ident;
  submodule_state = submodule_state ident;
}

-- The row of a submodule.
abbrev pub submodule_row : List RealModule → ℕ → ExpectedSubmodule → DiffSubmodule
submodule_row real slot part = submodule_row_with part.subslot_number (submodule_ident real slot part.subslot_number)

-- The rows of the modules that differ.
abbrev pub module_rows : List RealModule → List Wanted → List DiffModule
module_rows real wanteds = map (module_row real) (filter (differs real) wanteds)

-- The rows of the listed submodules of one module.
abbrev pub submodules_of : List RealModule → Wanted → List DiffSubmodule
submodules_of real wanted = map (submodule_row real wanted.entry.slot_number) (listed real wanted)

-- The rows of the listed submodules of several modules, one module after the other.
abbrev pub submodules_of_all : List RealModule → List Wanted → List DiffSubmodule
submodules_of_all real [] = []
submodules_of_all real (wanted ∷ wanteds) = submodules_of real wanted ++ submodules_of_all real wanteds

-- The rows of the submodules of the modules that differ.
abbrev pub submodule_rows : List RealModule → List Wanted → List DiffSubmodule
submodule_rows real wanteds = submodules_of_all real (filter (differs real) wanteds)

-- The modules that differ, in the order of the request, each with its listed submodules.
abbrev pub diff_of : Expected → List RealModule → Listed DiffModule DiffSubmodule
diff_of expected real = record {
  modules = module_rows real (wanted_in expected.modules.items expected.submodules.items);
  submodules = submodule_rows real (wanted_in expected.modules.items expected.submodules.items);
}

-- Whether a row of this subslot is listed; `lists` is for the rows of modules, each with as many of these submodules as
-- it counts.
abbrev pub has_subslot : ℕ → List DiffSubmodule → Bool
has_subslot subslot rows = list_any (λ row. row.subslot_number == subslot) rows

-- Whether these rows list a submodule.
abbrev pub lists : ℕ → ℕ → List DiffModule → List DiffSubmodule → Bool
lists slot subslot [] submodules = false
lists slot subslot (row ∷ modules) submodules =
    (row.slot_number == slot && has_subslot subslot (take (rows_of row) submodules)) || lists slot subslot modules (drop (rows_of row) submodules)

-- Whether a ModuleDiffBlock lists a submodule.
abbrev pub is_listed : ℕ → ℕ → Listed DiffModule DiffSubmodule → Bool
is_listed slot subslot rows = lists slot subslot rows.modules rows.submodules
