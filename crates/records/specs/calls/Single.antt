-- The single block of every call but Connect (IEC 61158-6-10, 5.2).
use Rattle.std.specs.Prelude.{◌==◌, ℕ, not, List, [], ◌∷◌, length, nat_lt, Result, Ok, Err}
use Rattle.wire.specs.Formats.{big_number}
use Rattle.wire.specs.declared.blocks.fault.BlockFault.{BlockFault}
use Rattle.block_codec.specs.declared.block.Block.{Block}
use Rattle.block_codec.specs.declared.block_type.BlockType.{BlockType}
use Rattle.block_codec.specs.Kinds.{number_of}
use Rattle.block_codec.specs.Block.{block_of}
use Rattle.records.specs.declared.status.call_fault.CallFault.{CallFault}
use Rattle.records.specs.declared.status.call_fault.CallFault.TheVariants as fault
use Rattle.records.specs.calls.Handled.{handled}

-- What was read; any fault of the block becomes the fault BlockForm of the call.
abbrev pub formed : {A : Type 0} → Result A BlockFault → Result A CallFault
formed (Ok value) = Ok value
formed (Err _) = Err fault.BlockForm

-- The single block of a call, of this type, and the rest; the checks are, in order: there is a block, its header, its
-- type, its form.
unfoldable pub single_of : BlockType → List ℕ → Result (Block × List ℕ) CallFault
single_of kind blocks = handled
    ((length blocks == 0, fault.BlockMissing)
    ∷ (nat_lt (length blocks) 4, fault.BlockHeader)
    ∷ (not (big_number 2 blocks == number_of kind), fault.BlockType)
    ∷ [])
    (formed (block_of blocks))
