-- Modules, each followed by its submodules. The submodules of all modules are in one list, those of the first module
-- first.
use Rattle.std.specs.Prelude.{◌≡◌, refl, ℕ, List, [], drop, Result, Ok, Err}
use Rattle.wire.specs.Codec.{Codec}
use Rattle.wire.specs.Formats.{seen}
use Rattle.wire.specs.Counted.{bounded}
use Rattle.wire.specs.Nested.{nested, read_inner, read_outer, flat_bytes, flat_size, nested_bytes, nested_size}
use Rattle.wire.specs.declared.blocks.fault.BlockFault.{BlockFault}
use Rattle.wire.specs.declared.blocks.fault.BlockFault.TheVariants.{Count}
use Rattle.wire.specs.blocks.Fields.{two}

-- Modules with their submodules.
pub record Listed (M S : Type 0) : Type 0 where
  pub modules : List M
  pub submodules : List S

-- The value that is read at the start, or `other` if it cannot be read.
abbrev pub front_or : {A : Type 0} → A → Result (A × List ℕ) BlockFault → A
front_or other (Ok x) = x.0
front_or other (Err fault) = other

-- One more entry after these, at most 256 in all; the entries from `start` on decide whether it is accepted.
unfoldable pub next_entry : {E : Type 0} → (List E → Codec BlockFault E) → ℕ → List E → Codec BlockFault E
next_entry format start before = bounded 256 Count (λ all. format (drop start all)) before

-- The octets and the size of an entry do not depend on the entries before it.
pub record WritesAlike {E : Type 0} (format : List E → Codec BlockFault E) : Type 0 where
  pub write : (before : List E) (entry : E) (rest : List ℕ) → (format before).write entry rest ≡ (format []).write entry rest
  pub size : (before : List E) (entry : E) → (format before).size entry ≡ (format []).size entry

-- A format that ignores the entries before it writes alike.
pub flat_alike : {E : Type 0} (format : Codec BlockFault E) → WritesAlike (λ _. format)
flat_alike format = record { write = λ before entry rest. refl; size = λ before entry. refl }

-- The octets of submodules, whose formats do not depend on those before them, followed by the rest; `submodules_size` is
-- their number.
abbrev pub submodules_bytes : {S : Type 0} → (List S → Codec BlockFault S) → List S → List ℕ → List ℕ
submodules_bytes format submodules rest = flat_bytes (format []).write submodules rest

-- The octets of these submodules.
abbrev pub submodules_size : {S : Type 0} → (List S → Codec BlockFault S) → List S → ℕ
submodules_size format submodules = flat_size (format []).size submodules

-- `count` submodules of a module after those before them; the submodules from `start` on belong to that module.
unfoldable pub submodules_read : {S : Type 0} → (List S → Codec BlockFault S) → ℕ → ℕ → List S → List ℕ → Result (List S × List ℕ) BlockFault
submodules_read format start count before bytes = read_inner (next_entry format start) count before bytes

module _ {M S : Type 0} (head : List M → Codec BlockFault M) (own : M → ℕ) (item : List S → Codec BlockFault S) where
  -- A count of modules, and each with its submodules; a module is checked against all modules before it, a submodule
  -- against those of its module.
  unfoldable pub module_list : Codec BlockFault (List M × List S)
  module_list = nested (next_entry head 0) own (next_entry item) two

  -- The module list as a record that names its two lists.
  unfoldable pub listed_modules : Codec BlockFault (Listed M S)
  listed_modules = seen (λ x. record { modules = x.0; submodules = x.1 }) (λ value. (value.modules, value.submodules)) module_list

  -- The modules at the start of octets.
  unfoldable pub modules_in : List ℕ → Listed M S
  modules_in bytes = front_or (record { modules = []; submodules = [] }) (listed_modules.read bytes)

  -- `count` modules with their submodules after those before them.
  unfoldable pub modules_read : ℕ → List M → List S → List ℕ → Result ((List M × List S) × List ℕ) BlockFault
  modules_read count modules submodules bytes = read_outer (next_entry head 0) own (next_entry item) count modules submodules bytes

  -- The octets of modules with their submodules, if they do not depend on the entries before them, followed by the rest;
  -- `modules_size` is their number.
  abbrev pub modules_bytes : List M → List S → List ℕ → List ℕ
  modules_bytes modules submodules rest = nested_bytes (head []).write own (item []).write modules submodules rest

  -- The octets of these modules with their submodules.
  abbrev pub modules_size : List M → List S → ℕ
  modules_size modules submodules = nested_size (head []).size own (item []).size modules submodules
