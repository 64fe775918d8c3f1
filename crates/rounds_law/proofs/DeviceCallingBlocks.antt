-- PrmEnd and the answer to ApplicationReady, as a device reads their blocks.
use Rattle.std.proofs.Common.{◌≡◌, ◌==◌, ◌&&◌, ◌+◌, ℕ, nat_eq, Bool, true, false, List, [], ◌∷◌, length, Some, Result, Ok, Err, refl, ap, ◌∙◌, arith}
use Rattle.std.specs.Prelude.{drop, nat_le, nat_lt, not, Option, None, if◌then◌else◌}
use Rattle.std.specs.Cmp.Lexicographic.{pointwise}
use Rattle.std.proofs.lemmas.Bool.Decides.{nat_tests}
use Rattle.wire.specs.Codec.{◌>>=◌}
use Rattle.wire.specs.Checks.{or_fault}
use Rattle.wire.specs.Formats.{big_number}
use Rattle.wire.specs.declared.blocks.fault.BlockFault.{BlockFault}
use Rattle.connect_blocks.specs.declared.control.ControlBlock.{ControlBlock}
use Rattle.block_codec.specs.declared.block.Block.{Block}
use Rattle.block_codec.specs.declared.block.Block.TheVariants as is
use Rattle.block_codec.specs.declared.block_type.BlockType.TheVariants as kind
use Rattle.block_codec.specs.Kinds.{number_of}
use Rattle.block_codec.specs.Block.{block, block_bytes, block_of, block_size, fields_of, front}
use Rattle.records.specs.declared.status.call_fault.CallFault.{CallFault}
use Rattle.records.specs.declared.status.call_fault.CallFault.TheVariants as fault
use Rattle.records.specs.calls.Handled.{handled as in_order}
use Rattle.records.specs.calls.Single.{formed, single_of}
use Rattle.relations.specs.declared.hearing.ReadyAnswer.TheVariants.{Confirmed, NotWanted}
use Rattle.relations.specs.Calls.{in_control, in_started, named_of, prm_end_of}
use Rattle.relations.specs.Plugging.{is_plug_control, is_plug_type}
use Rattle.relations.specs.Ready.{answer_of, confirmed_block, confirmed_by}
use Rattle.relations.specs.RelationState.{RelationState, is_awaiting, is_started}
use Rattle.controller_messages.specs.Sent.{done, ready_done}
use Rattle.rpc_core.specs.Response.{Answered}
use Rattle.rpc_core.specs.declared.header.CallHeader.{CallHeader}
use Rattle.rounds_law.proofs.Choices.{and_false, where_so}

-- ---- the block of PrmEnd

-- its octets begin with its type
end_type : (control : ControlBlock) → big_number 2 (block_bytes (is.PrmEnd control)) ≡ number_of kind.PrmEnd
unfolding block block_bytes number_of
end_type control = refl

pub at_least : (n : ℕ) → nat_lt (4 + n) 4 ≡ false
at_least n = grind (arith, nat_tests)

pub not_none : (n : ℕ) → ((4 + n) == 0) ≡ false
not_none n = grind (arith, nat_tests)

pub alike : (n : ℕ) → not (n == n) ≡ false
alike n = grind (arith, nat_tests)

-- a block has as many octets as its size says
abbrev pub HasSize : Type 0
HasSize = (value : Block) → length (block_bytes value) ≡ block_size value

-- the block alone is read back
abbrev pub IsReadAlone : Block → Type 0
IsReadAlone value = block_of (block_bytes value) ≡ front value []

end_some : HasSize → (control : ControlBlock) → (length (block_bytes (is.PrmEnd control)) == 0) ≡ false
unfolding block_size
end_some long control = ap (λ (n : ℕ). n == 0) (long (is.PrmEnd control)) ∙ not_none ((fields_of kind.PrmEnd).size (is.PrmEnd control))

end_long : HasSize → (control : ControlBlock) → nat_lt (length (block_bytes (is.PrmEnd control))) 4 ≡ false
unfolding block_size
end_long long control = ap (λ (n : ℕ). nat_lt n 4) (long (is.PrmEnd control)) ∙ at_least ((fields_of kind.PrmEnd).size (is.PrmEnd control))

pub passed : {A : Type 0} (fails : Bool) (why : CallFault) (others : List (Bool × CallFault)) (otherwise : Result A CallFault) → fails ≡ false
    → in_order ((fails, why) ∷ others) otherwise ≡ in_order others otherwise
passed fails why others otherwise e = ap (λ (b : Bool). if b then Err why else in_order others otherwise) e

single_end : HasSize → (control : ControlBlock) → IsReadAlone (is.PrmEnd control)
    → single_of kind.PrmEnd (block_bytes (is.PrmEnd control)) ≡ Ok (is.PrmEnd control, [])
unfolding single_of
single_end long control read =
    let blocks = block_bytes (is.PrmEnd control) in
    let typed = (not (big_number 2 blocks == number_of kind.PrmEnd), fault.BlockType) ∷ [] in
    passed (length blocks == 0) fault.BlockMissing ((nat_lt (length blocks) 4, fault.BlockHeader) ∷ typed) (formed (block_of blocks)) (end_some long control)
    ∙ (passed (nat_lt (length blocks) 4) fault.BlockHeader typed (formed (block_of blocks)) (end_long long control)
    ∙ (passed (not (big_number 2 blocks == number_of kind.PrmEnd)) fault.BlockType [] (formed (block_of blocks))
    (ap (λ (n : ℕ). not (n == number_of kind.PrmEnd)) (end_type control) ∙ alike (number_of kind.PrmEnd))
    ∙ ap (λ (r : Result (Block × List ℕ) BlockFault). formed r) read))

-- It is not one of a plug.
type_by : (short : Bool) (blocks : List ℕ) → big_number 2 blocks ≡ 0x0110
    → is_plug_type (if short then Err fault.BlockHeader else Ok (big_number 2 blocks, drop 2 blocks)) ≡ false
type_by true blocks e = refl
type_by false blocks e = ap (λ (n : ℕ). n == 0x0111) e

end_number : (control : ControlBlock) → big_number 2 (block_bytes (is.PrmEnd control)) ≡ 0x0110
unfolding number_of
end_number control = end_type control

pub not_of_plug : (link : Option RelationState) (control : ControlBlock) → is_plug_control (block_bytes (is.PrmEnd control)) link ≡ false
not_of_plug None control = refl
not_of_plug (Some link) control =
    let blocks = block_bytes (is.PrmEnd control) in
    ap (λ (b : Bool). link.plugs.has_told && (nat_le 4 (length blocks) && b)) (type_by (nat_lt (length blocks) 2) blocks (end_number control))
    ∙ (ap (λ (b : Bool). link.plugs.has_told && b) (and_false (nat_le 4 (length blocks))) ∙ and_false link.plugs.has_told)

-- ---- what PrmEnd means to a relation

named_so : (link : RelationState) (control : ControlBlock) → pointwise nat_eq link.request.ar.uuid control.ar_uuid ≡ true
    → (link.request.ar.session_key == control.session_key) ≡ true → (control.control_command == 1) ≡ true → named_of (Some link) control 1 ≡ Ok tt
named_so link control named session command =
    let commanded = (not (control.control_command == 1), fault.ControlCommand) ∷ [] in
    passed (not (pointwise nat_eq link.request.ar.uuid control.ar_uuid)) fault.UnknownRelation
    ((not (link.request.ar.session_key == control.session_key), fault.UnknownSession) ∷ commanded) (Ok tt) (ap (λ (b : Bool). not b) named)
    ∙ (passed (not (link.request.ar.session_key == control.session_key)) fault.UnknownSession commanded (Ok tt) (ap (λ (b : Bool). not b) session)
    ∙ passed (not (control.control_command == 1)) fault.ControlCommand [] (Ok tt) (ap (λ (b : Bool). not b) command))

started_so : (link : RelationState) → is_started (Some link.phase) ≡ true → in_started (Some link) ≡ Ok tt
started_so link started = passed (not (is_started (Some link.phase))) fault.Phase [] (Ok tt) (ap (λ (b : Bool). not b) started)

pub prm_ended : HasSize → (link : RelationState) (control : ControlBlock) → IsReadAlone (is.PrmEnd control)
    → pointwise nat_eq link.request.ar.uuid control.ar_uuid ≡ true → (link.request.ar.session_key == control.session_key) ≡ true
    → (control.control_command == 1) ≡ true → is_started (Some link.phase) ≡ true
    → prm_end_of (Some link) (block_bytes (is.PrmEnd control)) ≡ Ok control
unfolding prm_end_of
prm_ended long link control read named session command started =
    let single = ap (λ (r : Result (Block × List ℕ) CallFault). r >>= λ x. or_fault fault.BlockForm (in_control x.0)) (single_end long control read) in
    ap (λ (r : Result ControlBlock CallFault). r >>= λ block. named_of (Some link) block 1 >>= λ _. in_started (Some link) >>= λ _. Ok block) single
    ∙ (ap (λ (r : Result (Unit {0}) CallFault). r >>= λ _. in_started (Some link) >>= λ _. Ok control) (named_so link control named session command)
    ∙ ap (λ (r : Result (Unit {0}) CallFault). r >>= λ _. Ok control) (started_so link started))

-- ---- what the answer to ApplicationReady means to it

-- the answer to a call with this header, whose block is this one
abbrev pub ready_with : CallHeader → ControlBlock → Answered
ready_with header control = record { header = header; status = done; maximum_count = 1372; blocks = block_bytes (is.ApplicationReadyRes (ready_done control)) }

pub ready_confirmed : (link : RelationState) (header : CallHeader) (control : ControlBlock)
    → IsReadAlone (is.ApplicationReadyRes (ready_done control)) → is_awaiting link.phase ≡ true → pointwise nat_eq header.activity link.request.ar.uuid ≡ true
    → (header.sequence == 0) ≡ true → (header.operation == 4) ≡ true → pointwise nat_eq control.ar_uuid link.request.ar.uuid ≡ true
    → answer_of (ready_with header control) (Some link) ≡ Confirmed
unfolding answer_of
ready_confirmed link header control read awaiting activity sequence operation named =
    let blocks = block_bytes (is.ApplicationReadyRes (ready_done control)) in
    let uuid = link.request.ar.uuid in
    let wanted = ap (λ (b : Bool). b && (pointwise nat_eq header.activity uuid && (header.sequence == 0 && header.operation == 4))) awaiting
    ∙ (ap (λ (b : Bool). b && (header.sequence == 0 && header.operation == 4)) activity
    ∙ (ap (λ (b : Bool). b && header.operation == 4) sequence ∙ operation)) in
    where_so (is_awaiting link.phase && (pointwise nat_eq header.activity uuid && (header.sequence == 0 && header.operation == 4)))
    (confirmed_by uuid (confirmed_block (block_of blocks))) NotWanted wanted
    ∙ (ap (λ (r : Result (Block × List ℕ) BlockFault). confirmed_by uuid (confirmed_block r)) read
    ∙ where_so (pointwise nat_eq control.ar_uuid uuid) Confirmed NotWanted named)
