-- Which submodules the ModuleDiffBlock of an answer to a Connect lists (IEC 61158-6-10, 5.2.4.11).
use Rattle.std.specs.Prelude.{◌||◌, ℕ, zero, suc, Bool, false, List, Option, Some, None, Result, Ok, Err}
use Rattle.wire.specs.declared.blocks.fault.BlockFault.{BlockFault}
use Rattle.block_codec.specs.declared.block.Block.{Block}
use Rattle.block_codec.specs.declared.block.Block.TheVariants as is
use Rattle.block_codec.specs.Block.{block_of}
use Rattle.module_diff.specs.Diff.{is_listed}
use Rattle.connects.specs.answers.OtherBlock.{other_block}

-- Whether a block is a ModuleDiffBlock that lists a submodule.
abbrev pub is_listed_of : ℕ → ℕ → Block → Bool
is_listed_of slot subslot (is.ModuleDiffBlock block) = is_listed slot subslot block.modules
is_listed_of slot subslot block = false

-- Whether octets begin with one.
abbrev pub is_listed_by : ℕ → ℕ → Result (Block × List ℕ) BlockFault → Bool
is_listed_by slot subslot (Ok x) = is_listed_of slot subslot x.0
is_listed_by slot subslot (Err fault) = false

-- What follows a block of any type, if the block can be skipped.
abbrev pub behind_of : Result ((ℕ × List ℕ) × List ℕ) BlockFault → Option (List ℕ)
behind_of (Ok x) = Some x.1
behind_of (Err fault) = None

-- Whether a submodule is listed in what follows.
abbrev pub is_listed_behind : Option (List ℕ) → (List ℕ → Bool) → Bool
is_listed_behind (Some rest) next = next rest
is_listed_behind None next = false

-- Whether a ModuleDiffBlock in octets that are a sequence of blocks, at most the given number, lists a submodule.
unfoldable pub is_listed_in : ℕ → List ℕ → ℕ → ℕ → Bool
is_listed_in zero bytes slot subslot = false
is_listed_in (suc most) bytes slot subslot =
    is_listed_by slot subslot (block_of bytes) || is_listed_behind (behind_of (other_block.read bytes)) (λ rest. is_listed_in most rest slot subslot)
