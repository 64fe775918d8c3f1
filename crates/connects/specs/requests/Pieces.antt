-- The octets of a call as a sequence of blocks.
use Rattle.std.specs.Prelude.{◌==◌, ℕ, zero, suc, List, [], ◌∷◌, length, Result, Ok, Err, if◌then◌else◌}
use Rattle.wire.specs.Formats.{big_number}
use Rattle.wire.specs.declared.blocks.fault.BlockFault.{BlockFault}
use Rattle.block_codec.specs.declared.block.Block.{Block}
use Rattle.block_codec.specs.Block.{block_of}

-- What is at a position of a call: how many octets there are from there on, BlockType, if its two octets are there, and
-- the block, or its first fault.
pub record Piece : Type 0 where
  pub left : ℕ
  pub number : ℕ
  pub found : Result Block BlockFault

-- A block without the octets after it.
abbrev pub block_in : Result (Block × List ℕ) BlockFault → Result Block BlockFault
block_in (Ok x) = Ok x.0
block_in (Err fault) = Err fault

-- The octets after a block. After a block that can't be read nothing is looked at.
abbrev pub behind : Result (Block × List ℕ) BlockFault → List ℕ
behind (Ok x) = x.1
behind (Err fault) = []

-- What is at the start of octets.
abbrev pub piece_at : List ℕ → Piece
piece_at bytes = record { left = length bytes; number = big_number 2 bytes; found = block_in (block_of bytes) }

-- The octets as a sequence of blocks, perhaps with a last one that can't be read: at most the given number.
unfoldable pub pieces_in : ℕ → List ℕ → List Piece
pieces_in zero bytes = []
pieces_in (suc most) bytes = if length bytes == 0 then [] else piece_at bytes ∷ pieces_in most (behind (block_of bytes))

-- All of them: each takes at least one octet.
abbrev pub pieces_of : List ℕ → List Piece
pieces_of bytes = pieces_in (length bytes) bytes
