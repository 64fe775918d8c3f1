-- The memory that modules with their submodules borrow.
use Rattle.std.specs.Prelude.{◌≡◌, ◌≤◌, ℕ, List, length}
use Rattle.wire.specs.Codec.{Codec}
use Rattle.wire.specs.declared.blocks.fault.BlockFault.{BlockFault}
use Rattle.wire.specs.declared.blocks.modules.list.Place.{Place}
use Rattle.wire.specs.declared.blocks.modules.list.Place.TheVariants.{Octets, Lists}
use Rattle.wire.specs.blocks.modules.Lists.{Listed, listed_modules, modules_in}

module _ {M S : Type 0} (head : List M → Codec BlockFault M) (own : M → ℕ) (item : List S → Codec BlockFault S) where
  -- The modules that are borrowed.
  abbrev pub modules_at : Place M S → Listed M S
  modules_at (Octets bytes size) = modules_in head own item bytes.now
  modules_at (Lists modules submodules) = record { modules = modules.now; submodules = submodules.now }

  -- The stored size of modules that were read is the number of octets that they take.
  abbrev pub IsSized : Place M S → Type 0
  IsSized (Octets bytes size) = size ≡ (listed_modules head own item).size (modules_in head own item bytes.now)
  IsSized (Lists modules submodules) = Unit {0}

  -- The stored size is right, and each list has at most 256 entries.
  pub record IsPlace (place : Place M S) : Type 0 where
    pub sized : IsSized place
    pub few_modules : length (modules_at place).modules ≤ 256
    pub few_submodules : length (modules_at place).submodules ≤ 256
