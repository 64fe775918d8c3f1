-- The fields of a block that is read are accepted.
use Rattle.std.proofs.Common.{◌≡◌, ◌&&◌, ◌≤◌, ℕ, true, List, nat_le, Some, subst}
use Rattle.std.proofs.lemmas.Bool.{and_parts, leb-true, eqb-true}
use Rattle.wire.specs.blocks.Fields.{body}
use Rattle.connect_blocks.specs.declared.ar_block.ArBlockReq.{ArBlockReq}
use Rattle.connect_blocks.specs.declared.alarm_cr.AlarmCrBlockReq.{AlarmCrBlockReq}
use Rattle.connect_blocks.specs.declared.iocr.IocrBlockReq.{IocrBlockReq}
use Rattle.connect_blocks.specs.declared.iocr.IocrHead.{IocrHead}
use Rattle.connect_blocks.specs.declared.iocr.IocrTimes.{IocrTimes}
use Rattle.connect_blocks.specs.declared.control.ControlBlock.{ControlBlock}
use Rattle.connect_blocks.specs.ArBlock.{ar_uuid, initiator_mac, ar_block_req, IsArBlockReq}
use Rattle.connect_blocks.specs.AlarmCr.{alarm_cr_block_req, IsAlarmCrBlockReq}
use Rattle.connect_blocks.specs.Iocr.{frame_id, is_frame_id, iocr_head, iocr_times, iocr_block_req, IsIocrBlockReq}
use Rattle.connect_blocks.specs.Control.{command, control}

-- A number that passes the test is between the least and the greatest.
within : (least greatest value : ℕ) → (nat_le least value && nat_le value greatest) ≡ true → (least ≤ value) × (value ≤ greatest)
within least greatest value test =
    let two = and_parts (nat_le least value) (nat_le value greatest) test in
    (leb-true least value two.0, leb-true value greatest two.1)

pub ar_block_req_accepted : (inside : List ℕ) (value : ArBlockReq) → (body ar_block_req).Spells inside value → IsArBlockReq value
unfolding body ar_block_req ar_uuid initiator_mac
ar_block_req_accepted inside value s =
    let fields = s.2.2 in
    let x = fields.0 in
    let factor = within 1 1000 x.1.1.1.1.1.1.0 fields.2.2.2.2.2.2.2.1.0 in
    let all : IsArBlockReq s.0.1 = subst (λ (block : ArBlockReq). IsArBlockReq block) fields.1
    (record { uuid = fields.2.2.1.0; address = fields.2.2.2.2.1.0; least = factor.0; greatest = factor.1 }) in
    subst (λ (block : ArBlockReq). IsArBlockReq block) s.1 all

pub alarm_cr_block_req_accepted : (inside : List ℕ) (value : AlarmCrBlockReq) → (body alarm_cr_block_req).Spells inside value → IsAlarmCrBlockReq value
unfolding body alarm_cr_block_req
alarm_cr_block_req_accepted inside value s =
    let fields = s.2.2 in
    let x = fields.0 in
    let factor = within 1 65535 x.1.1.1.0 fields.2.2.2.2.1.0 in
    let retries = within 1 15 x.1.1.1.1.0 fields.2.2.2.2.2.1.0 in
    let octets = within 200 1432 x.1.1.1.1.1.1.0 fields.2.2.2.2.2.2.2.1.0 in
    let all : IsAlarmCrBlockReq s.0.1 = subst (λ (block : AlarmCrBlockReq). IsAlarmCrBlockReq block) fields.1
    (record { timeout = factor.0; retries_least = retries.0; retries_greatest = retries.1; data_least = octets.0; data_greatest = octets.1 }) in
    subst (λ (block : AlarmCrBlockReq). IsAlarmCrBlockReq block) s.1 all

-- The facts that are checked for the first fields of an IOCRBlockReq.
abbrev IsHead : IocrHead → Type 0
IsHead head = (40 ≤ head.data_length) × (head.data_length ≤ 1440) × (is_frame_id head.iocr_type head.frame_id ≡ true)

head_accepted : (bytes rest : List ℕ) (value : IocrHead) → iocr_head.Spells bytes value rest → IsHead value
unfolding iocr_head frame_id
head_accepted bytes rest value s =
    let x = s.0 in
    let octets = within 40 1440 x.1.1.1.1.0 s.2.2.2.2.2.1.0 in
    subst (λ (head : IocrHead). IsHead head) s.1 (octets.0, octets.1, s.2.2.2.2.2.2.0)

-- The facts that are checked for the timing fields of an IOCRBlockReq.
abbrev AreTimes : IocrTimes → Type 0
AreTimes times =
    ((1 ≤ times.send_clock_factor) × (times.send_clock_factor ≤ 128)) × ((1 ≤ times.reduction_ratio) × (times.reduction_ratio ≤ 512))
    × ((1 ≤ times.data_hold_factor) × (times.data_hold_factor ≤ 7680))

times_accepted : (bytes rest : List ℕ) (value : IocrTimes) → iocr_times.Spells bytes value rest → AreTimes value
unfolding iocr_times
times_accepted bytes rest value s =
    let x = s.0 in
    subst (λ (times : IocrTimes). AreTimes times) s.1
    (within 1 128 x.0 s.2.1.0, within 1 512 x.1.0 s.2.2.1.0, within 1 7680 x.1.1.1.1.1.1 s.2.2.2.2.2.2.2.0)

pub iocr_block_req_accepted : (inside : List ℕ) (value : IocrBlockReq) → (body iocr_block_req).Spells inside value → IsIocrBlockReq value
unfolding body iocr_block_req
iocr_block_req_accepted inside value s =
    let fields = s.2.2 in
    let head = head_accepted _ _ fields.0.0 fields.2.1 in
    let times = times_accepted _ _ fields.0.1.0 fields.2.2.1 in
    let all : IsIocrBlockReq s.0.1 = subst (λ (block : IocrBlockReq). IsIocrBlockReq block) fields.1
    (record {
      data_least = head.0;
      data_greatest = head.1;
      id = head.2;
      clock_least = times.0.0;
      clock_greatest = times.0.1;
      ratio_least = times.1.0;
      ratio_greatest = times.1.1;
      hold_least = times.2.0;
      hold_greatest = times.2.1;
    }) in
    subst (λ (block : IocrBlockReq). IsIocrBlockReq block) s.1 all

-- A control block that is read has the wanted ControlCommand.
pub control_accepted : (wanted : ℕ) (inside : List ℕ) (value : ControlBlock) → (body (control (Some wanted))).Spells inside value → value.control_command ≡ wanted
unfolding body control command
control_accepted wanted inside value s =
    let fields = s.2.2 in
    let all : s.0.1.control_command ≡ wanted = subst (λ (block : ControlBlock). block.control_command ≡ wanted) fields.1
    (eqb-true fields.0.1.1.1.1.0 wanted fields.2.2.2.2.2.1.0) in
    subst (λ (block : ControlBlock). block.control_command ≡ wanted) s.1 all
