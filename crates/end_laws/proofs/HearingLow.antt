-- A device cannot read an AlarmAck of low priority, and no end reads the block of a plug as one of a start-up.
use Rattle.std.proofs.Common.{◌≡◌, ◌==◌, ◌++◌, ℕ, Bool, true, false, List, [], length, nat_lt, drop, Option, None, Result, Ok, Err, if◌then◌else◌, refl, ap, subst, sym, arith}
use Rattle.std.specs.Prelude.{IsErr}
use Rattle.std.proofs.lemmas.Bool.{false≢true}
use Rattle.wire.specs.Codec.{◌>>=◌}
use Rattle.wire.specs.Formats.{framed, number, raw}
use Rattle.wire.specs.declared.blocks.fault.BlockFault.{BlockFault}
use Rattle.wire.specs.declared.blocks.fault.BlockFault.TheVariants.{Truncated}
use Rattle.wire.specs.blocks.Fields.{body, number_bytes, version}
use Rattle.record_blocks.specs.declared.alarm_ack.AlarmAck.{AlarmAck}
use Rattle.record_blocks.specs.AlarmAck.{alarm_ack}
use Rattle.block_codec.specs.declared.block.Block.{Block}
use Rattle.block_codec.specs.Block.{block, block_of, body_of, in_alarm_ack}
use Rattle.block_codec.specs.Kinds.{type_of}
use Rattle.pn_alarms.specs.declared.fault.AlarmFault.{AlarmFault}
use Rattle.pn_alarms.specs.declared.pdu.Header.{Header}
use Rattle.pn_alarms.specs.declared.pdu.PduType.{PduType}
use Rattle.pn_alarms.specs.declared.pdu.PduType.TheVariants as pdu
use Rattle.diagnosis.specs.declared.reports.priority.Priority.TheVariants.{Low}
use Rattle.pn_alarms.specs.Carried.{ack_of, wanted}
use Rattle.pn_alarms.specs.Format.{Said, is_long, pdu_bytes, pdu_of}
use Rattle.pn_alarms.specs.declared.message.Notice.TheVariants as notice
use Rattle.pn_alarms.specs.Message.{ToDevice, message_of, notice_in}
use Rattle.diagnosis.specs.reports.Report.{low_ack}
use Rattle.controller_messages.specs.Sent.{ack_pdu}
use Rattle.diagnosis.specs.Sendable.{CanBeSaid, IsHeader}
use Rattle.connect_blocks.specs.declared.control.ControlBlock.{ControlBlock}
use Rattle.connect_blocks.specs.declared.plug_control.PlugControlBlock.{PlugControlBlock}
use Rattle.connect_blocks.specs.PlugControl.{plug_control}
use Rattle.relations.specs.declared.plugging.PlugReady.{PlugReady}
use Rattle.controller_core.specs.start_up.Answers.{ready_block, ready_in}
use Rattle.end_laws.specs.hearing.Stations.{plug_ready_call}

-- a written PDU is read back
abbrev pub PdusAreRead : Type 0
PdusAreRead = (said : Said) (more : List ℕ) → CanBeSaid said → pdu_of (pdu_bytes said ++ more) ≡ Ok said

-- it has 22 octets
pub low_long : (ack : AlarmAck) → length (low_ack.write ack []) ≡ 22
unfolding low_ack body alarm_ack number_bytes version
low_long ack = refl

-- a reading that fails, whatever was read before
fails : {A B E : Type 0} (first : Result A E) (next : A → Result B E) → ((value : A) → first ≡ Ok value → IsErr (next value)) → IsErr (first >>= next)
fails (Ok value) next each = each value refl
fails (Err fault) next each = refl

-- what BlockLength counts of a block of an unknown type is refused
plug_fails : (bytes : List ℕ) → IsErr ((framed (number Truncated 2) Truncated (body_of (type_of 0x0113))).read bytes)
unfolding body_of type_of
plug_fails bytes = fails ((number Truncated 2).read bytes) _ (λ size e. fails ((raw Truncated size.0).read size.1) _ (λ cut f. refl))

framed_fails : (bytes : List ℕ) → IsErr ((framed (number Truncated 2) Truncated (body_of (type_of 0x8002))).read bytes)
unfolding body_of type_of
framed_fails bytes = fails ((number Truncated 2).read bytes) _ (λ size e. fails ((raw Truncated size.0).read size.1) _ (λ cut f. refl))

-- the number at the front
number_is : (short : Bool) (value : ℕ) (rest : List ℕ) (read : ℕ × List ℕ) → ◌≡◌ {A = Result (ℕ × List ℕ) BlockFault} (if short then Err Truncated else Ok (value, rest)) (Ok read) → read.0 ≡ value
number_is true value rest read e = absurd cc
number_is false value rest read e = cc

first_is : (ack : AlarmAck) (read : ℕ × List ℕ) → (number Truncated 2).read (low_ack.write ack []) ≡ Ok read → read.0 ≡ 0x8002
unfolding low_ack
first_is ack read e = number_is (nat_lt (length (low_ack.write ack [])) 2) 0x8002 (drop 2 (low_ack.write ack [])) read e

-- a reading goes on after a fault with that fault
faults : {A B E : Type 0} (first : Result A E) (next : A → Result B E) → IsErr first → IsErr (first >>= next)
faults (Ok value) next none = absurd (false≢true none)
faults (Err fault) next none = refl

block_fails : (ack : AlarmAck) → IsErr (block_of (low_ack.write ack []))
unfolding block_of block
block_fails ack =
    faults ((number Truncated 2).read (low_ack.write ack []) >>= λ x. (framed (number Truncated 2) Truncated (body_of (type_of x.0))).read x.1 >>= λ y. Ok ((x.0, y.0), y.1)) _
    (fails ((number Truncated 2).read (low_ack.write ack [])) _
    (λ x e. faults ((framed (number Truncated 2) Truncated (body_of (type_of x.0))).read x.1) _
    (subst (λ (n : ℕ). IsErr ((framed (number Truncated 2) Truncated (body_of (type_of n))).read x.1)) (sym (first_is ack x e)) (framed_fails x.1))))

wanted_fails : (read : Result (Block × List ℕ) BlockFault) → IsErr read → IsErr (wanted in_alarm_ack read)
wanted_fails (Ok x) none = absurd (false≢true none)
wanted_fails (Err fault) none = refl

-- what a device reads of a PDU
abbrev said_in : Result Said AlarmFault → Result (Header × ToDevice) AlarmFault
said_in read = read >>= λ said. notice_in ack_of said.header.kind said >>= λ notice. Ok (said.header, notice)

pub low_unread : PdusAreRead → (header : Header) (ack : AlarmAck) (more : List ℕ) → header.kind ≡ pdu.Data → IsHeader header
    → IsErr (message_of (pdu_bytes (ack_pdu Low header ack) ++ more))
low_unread reads header ack more kind good =
    let said = ack_pdu Low header ack in
    let can : CanBeSaid said = record { header = good; long = ap (λ (k : PduType). is_long k (length (low_ack.write ack []))) kind; few = omega (arith, low_long ack) } in
    subst (λ (r : Result Said AlarmFault). IsErr (said_in r)) (sym (reads said more can))
    (subst (λ (k : PduType). IsErr {T = Header × ToDevice} (notice_in ack_of k said >>= λ notice. Ok (header, notice))) (sym kind)
    (faults (ack_of said.body >>= λ carried. Ok (notice.Data header.send_number carried)) _
    (faults (ack_of said.body) _ (wanted_fails (block_of (low_ack.write ack [])) (block_fails ack)))))

-- ---- the block of a plug

plug_is : (one : PlugControlBlock) (read : ℕ × List ℕ) → (number Truncated 2).read ((plug_control 0x0113).write one []) ≡ Ok read → read.0 ≡ 0x0113
unfolding plug_control number_bytes
plug_is one read e = number_is (nat_lt (length ((plug_control 0x0113).write one [])) 2) 0x0113 (drop 2 ((plug_control 0x0113).write one [])) read e

plug_block_fails : (one : PlugControlBlock) → IsErr (block_of ((plug_control 0x0113).write one []))
unfolding block_of block
plug_block_fails one =
    faults ((number Truncated 2).read ((plug_control 0x0113).write one []) >>= λ x. (framed (number Truncated 2) Truncated (body_of (type_of x.0))).read x.1 >>= λ y. Ok ((x.0, y.0), y.1)) _
    (fails ((number Truncated 2).read ((plug_control 0x0113).write one [])) _
    (λ x e. faults ((framed (number Truncated 2) Truncated (body_of (type_of x.0))).read x.1) _
    (subst (λ (n : ℕ). IsErr ((framed (number Truncated 2) Truncated (body_of (type_of n))).read x.1)) (sym (plug_is one x e)) (plug_fails x.1))))

none_ready : (read : Result (Block × List ℕ) BlockFault) → IsErr read → ready_block read ≡ None
none_ready (Ok x) none = absurd (false≢true none)
none_ready (Err fault) none = refl

unready_if : (b : Bool) (found : Option ControlBlock) → found ≡ None → (if b then found else None) ≡ None
unready_if true found none = none
unready_if false found none = refl

-- it is no ApplicationReady of a relation
pub plug_unready : (ready : PlugReady) → ready_in (plug_ready_call ready) ≡ None
plug_unready ready =
    unready_if (ready.header.operation == 4) (ready_block (block_of ((plug_control 0x0113).write ready.block [])))
    (none_ready (block_of ((plug_control 0x0113).write ready.block [])) (plug_block_fails ready.block))
