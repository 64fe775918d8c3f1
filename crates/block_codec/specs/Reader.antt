-- Blocks, one after the other.
use Rattle.std.specs.Prelude.{◌≡◌, ℕ, Bool, true, false, List, [], ◌∷◌, Option, Some, None, Result, Ok, Err}
use Rattle.wire.specs.declared.blocks.fault.BlockFault.{BlockFault}
use Rattle.block_codec.specs.declared.block.Block.{Block}
use Rattle.block_codec.specs.Block.{IsAccepted, IsBlock, block_of, front}

-- A reader: the octets after the blocks that it returned, and whether it returned a fault.
pub record Reader : Type 0 where
  pub rest : List ℕ
  pub has_failed : Bool

-- These octets are these blocks, one after the other.
abbrev pub AreBlocks : List ℕ → List Block → Type 0
AreBlocks bytes [] = bytes ≡ []
AreBlocks bytes (block ∷ blocks) = (rest : List ℕ) × IsBlock bytes block rest × AreBlocks rest blocks

-- The next result of a reader: `None` at the end or after a fault, and nothing changes; the block at the start, and the
-- octets after it remain; or the fault, and the octets stay as they were.
abbrev pub Gave : Reader → Option (Result Block BlockFault) → Reader → Type 0
Gave old None new = new ≡ old
Gave old (Some (Ok value)) new = (block_of old.rest ≡ front value new.rest) × (new.has_failed ≡ false)
Gave old (Some (Err fault)) new = (block_of old.rest ≡ Err fault) × (new.rest ≡ old.rest) × (new.has_failed ≡ true)

-- Each field of a block that is returned has an accepted value.
abbrev pub GaveAccepted : Option (Result Block BlockFault) → Type 0
GaveAccepted None = Unit {0}
GaveAccepted (Some (Ok value)) = IsAccepted value
GaveAccepted (Some (Err fault)) = Unit {0}

-- The first of these blocks is returned, and the others remain.
abbrev pub GivesNext : List Block → Option (Result Block BlockFault) → Reader → Type 0
GivesNext [] given new = given ≡ None
GivesNext (block ∷ blocks) given new = (given ≡ Some (Ok block)) × AreBlocks new.rest blocks × (new.has_failed ≡ false)
