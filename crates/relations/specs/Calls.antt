-- PrmEnd and Release: how a device checks them, and what it answers (IEC 61158-6-10, 5.2.4.5).
use Rattle.std.specs.Prelude.{◌==◌, ℕ, not, List, [], ◌∷◌, Option, Some, None, Result, Ok}
use Rattle.wire.specs.Codec.{◌>>=◌}
use Rattle.wire.specs.Checks.{or_fault}
use Rattle.block_codec.specs.declared.block.Block.{Block}
use Rattle.block_codec.specs.declared.block.Block.TheVariants as is
use Rattle.block_codec.specs.declared.block_type.BlockType.{BlockType}
use Rattle.block_codec.specs.declared.block_type.BlockType.TheVariants as kind
use Rattle.block_codec.specs.Block.{block_bytes}
use Rattle.connect_blocks.specs.declared.control.ControlBlock.{ControlBlock}
use Rattle.records.specs.declared.status.call_fault.CallFault.{CallFault}
use Rattle.records.specs.declared.status.call_fault.CallFault.TheVariants as fault
use Rattle.records.specs.calls.Handled.{handled}
use Rattle.records.specs.calls.Single.{single_of}
use Rattle.relations.specs.RelationState.{RelationState, is_named, is_session, is_started, phase_of}

-- The one block of a call of this type.
abbrev pub in_control : Block → Option ControlBlock
in_control (is.PrmEnd block) = Some block
in_control (is.Release block) = Some block
in_control _ = None

-- The one ControlBlock of this type in the blocks of a call, or the fault.
abbrev pub control_block : BlockType → List ℕ → Result ControlBlock CallFault
control_block type blocks = single_of type blocks >>= λ x. or_fault fault.BlockForm (in_control x.0)

-- A block must name the relation and its session, and have the command of its kind. They are checked in this order.
abbrev pub named_of : Option RelationState → ControlBlock → ℕ → Result (Unit {0}) CallFault
named_of link block command = handled
    ((not (is_named block.ar_uuid link), fault.UnknownRelation)
    ∷ (not (is_session block.session_key link), fault.UnknownSession)
    ∷ (not (block.control_command == command), fault.ControlCommand)
    ∷ [])
    (Ok tt)

-- PrmEnd, command 1, of a relation that waits for it.
abbrev pub in_started : Option RelationState → Result (Unit {0}) CallFault
in_started link = handled ((not (is_started (phase_of link)), fault.Phase) ∷ []) (Ok tt)

-- The block of a PrmEnd that may be carried out: it names the relation, which waits for its parameters.
unfoldable pub prm_end_of : Option RelationState → List ℕ → Result ControlBlock CallFault
prm_end_of link blocks =
    control_block kind.PrmEnd blocks >>= λ block. named_of link block 1 >>= λ _. in_started link >>= λ _. Ok block

-- Release, command 4, in any phase.
unfoldable pub release_of : Option RelationState → List ℕ → Result ControlBlock CallFault
release_of link blocks = control_block kind.Release blocks >>= λ block. named_of link block 4 >>= λ _. Ok block

-- The answer repeats the block, with command 8, Done.
abbrev pub done_of : ControlBlock → ControlBlock
done_of block = record block { control_command = 8 }

-- The block with which PrmEnd is answered, or the fault.
abbrev pub prm_end_answer : Option RelationState → List ℕ → Result (List ℕ) CallFault
prm_end_answer link blocks = prm_end_of link blocks >>= λ block. Ok (block_bytes (is.PrmEndRes (done_of block)))

-- The block with which Release is answered, or the fault.
abbrev pub release_answer : Option RelationState → List ℕ → Result (List ℕ) CallFault
release_answer link blocks = release_of link blocks >>= λ block. Ok (block_bytes (is.ReleaseRes (done_of block)))
