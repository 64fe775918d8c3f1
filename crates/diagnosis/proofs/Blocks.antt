-- The blocks in data are read back.
use Rattle.std.proofs.Common.{◌≡◌, ◌+◌, ◌<◌, ℕ, List, [], length, Some, None, Ok, refl, ◌∙◌, arith}
use Rattle.std.proofs.lemmas.List.{length-append}
use Rattle.wire.specs.blocks.Fields.{body, number_bytes, open_body, version}
use Rattle.record_blocks.specs.declared.alarm_ack.AlarmAck.{AlarmAck}
use Rattle.record_blocks.specs.declared.alarm_notification.AlarmNotification.{AlarmNotification}
use Rattle.record_blocks.specs.AlarmAck.{alarm_ack}
use Rattle.record_blocks.specs.AlarmNotification.{alarm_notification, alarm_place, alarm_subject}
use Rattle.block_codec.specs.declared.block.Block.{Block}
use Rattle.block_codec.specs.declared.block.Block.TheVariants as is
use Rattle.block_codec.specs.Block.{block_bytes, block_of, block_size, fields_of, front}
use Rattle.block_codec.specs.Writable.{CanBeWritten, IsAck, IsAlarm}
use Rattle.pn_alarms.specs.Carried.{ack_of}
use Rattle.diagnosis.specs.declared.reports.report.Report.{Report}
use Rattle.diagnosis.specs.reports.Report.{bare, block_priority, diagnosed, front as report_front, front_of, low_ack, low_ack_of, ours, payload, report, report_fields, report_of}

-- a block that can be written is read back, and has as many octets as its format says
abbrev pub BlocksAreRead : Type 0
BlocksAreRead = (block : Block) → CanBeWritten block → block_of (block_bytes block) ≡ front block []

abbrev pub BlocksAreLong : Type 0
BlocksAreLong = (block : Block) → length (block_bytes block) ≡ block_size block

ack_size : (ack : AlarmAck) → block_size (is.AlarmAck ack) ≡ 22
unfolding block_size fields_of body version alarm_ack
ack_size ack = omega arith

pub ack_long : BlocksAreLong → (ack : AlarmAck) → length (block_bytes (is.AlarmAck ack)) ≡ 22
ack_long sized ack = sized (is.AlarmAck ack) ∙ ack_size ack

pub ack_read : BlocksAreRead → (ack : AlarmAck) → IsAck ack → ack_of (block_bytes (is.AlarmAck ack)) ≡ Ok ack
ack_read reads ack good = rw (reads (is.AlarmAck ack) good) refl

alarm_size : (alarm : AlarmNotification) → block_size (is.AlarmNotification alarm) ≡ 28 + length alarm.alarm_data
unfolding block_size fields_of open_body version alarm_notification alarm_place alarm_subject
alarm_size alarm = omega arith

pub alarm_long : BlocksAreLong → (alarm : AlarmNotification) → length (block_bytes (is.AlarmNotification alarm)) ≡ 28 + length alarm.alarm_data
alarm_long sized alarm = sized (is.AlarmNotification alarm) ∙ alarm_size alarm

-- What the controller reads of the alarm of this product's device: a clause of the format.
abbrev pub OursIsRead : Type 0
OursIsRead = (alarm : AlarmNotification) → report.Fits (ours alarm) → report_of (block_bytes (is.AlarmNotification alarm)) ≡ Ok (ours alarm)

front_fits : (alarm : AlarmNotification) → IsAlarm alarm → report_front.Fits (front_of alarm)
unfolding report_front
front_fits alarm is = (
  omega (arith, is.alarm_type),
  (
    omega (arith, is.api),
    (
      omega (arith, is.slot_number),
      (
        omega (arith, is.subslot_number),
        (
          omega (arith, is.module_ident_number),
          (
            omega (arith, is.submodule_ident_number),
            omega (arith, is.alarm_specifier),
          ),
        ),
      ),
    ),
  ),
)

payload_fits : (structure : ℕ) (alarm : AlarmNotification) → structure < 65536 → payload.Fits (Some structure, alarm.alarm_data)
unfolding payload
payload_fits structure alarm small = (omega (arith, small), tt)

fields_fit : (structure : ℕ) (alarm : AlarmNotification) → structure < 65536 → IsAlarm alarm → report_fields.Fits (alarm, Some structure)
unfolding report_fields
fields_fit structure alarm small is = (front_fits alarm is, payload_fits structure alarm small)

fields_size : (structure : ℕ) (alarm : AlarmNotification) → IsAlarm alarm → report_fields.size (alarm, Some structure) < 2000
unfolding report_fields report_front payload
fields_size structure alarm is = omega (arith, is.few)

ours_fits : (alarm : AlarmNotification) → IsAlarm alarm → report.Fits (ours alarm)
unfolding report block_priority open_body version
ours_fits alarm is = (omega arith, (omega (arith, fields_size 1 alarm is), (((refl, omega arith), (refl, omega arith)), fields_fit 1 alarm (omega arith) is)))

diagnosed_fits : (alarm : AlarmNotification) → IsAlarm alarm → report.Fits (diagnosed alarm)
unfolding report block_priority open_body version
diagnosed_fits alarm is = (omega arith, (omega (arith, fields_size 0x8000 alarm is), (((refl, omega arith), (refl, omega arith)), fields_fit 0x8000 alarm (omega arith) is)))

pub alarm_read : OursIsRead → (alarm : AlarmNotification) → IsAlarm alarm → report_of (block_bytes (is.AlarmNotification alarm)) ≡ Ok (ours alarm)
alarm_read reads alarm good = reads alarm (ours_fits alarm good)

-- The same of low priority.
abbrev pub ReportsAreRead : Type 0
ReportsAreRead = (alarm : Report) (rest : List ℕ) → report.Fits alarm → report_of (report.write alarm rest) ≡ Ok alarm

pub diagnosed_read : ReportsAreRead → (alarm : AlarmNotification) → IsAlarm alarm → report_of (report.write (diagnosed alarm) []) ≡ Ok (diagnosed alarm)
diagnosed_read reads alarm good = reads (diagnosed alarm) [] (diagnosed_fits alarm good)

pub diagnosed_long : (alarm : AlarmNotification) → length (report.write (diagnosed alarm) []) ≡ 28 + length alarm.alarm_data
unfolding report block_priority open_body version report_fields report_front payload number_bytes
diagnosed_long alarm = omega (arith, length-append alarm.alarm_data [])

-- Without a UserStructureIdentifier.
bare_payload_fits : (alarm : AlarmNotification) → alarm.alarm_data ≡ [] → payload.Fits (None, alarm.alarm_data)
unfolding payload
bare_payload_fits alarm none = none

bare_fields_fit : (alarm : AlarmNotification) → alarm.alarm_data ≡ [] → IsAlarm alarm → report_fields.Fits (alarm, None)
unfolding report_fields
bare_fields_fit alarm none is = (front_fits alarm is, bare_payload_fits alarm none)

bare_fields_size : (alarm : AlarmNotification) → IsAlarm alarm → report_fields.size (alarm, None) < 2000
unfolding report_fields report_front payload
bare_fields_size alarm is = omega (arith, is.few)

bare_fits : (alarm : AlarmNotification) → alarm.alarm_data ≡ [] → IsAlarm alarm → report.Fits (bare alarm)
unfolding report block_priority open_body version
bare_fits alarm none is = (omega arith, (omega (arith, bare_fields_size alarm is), (((refl, omega arith), (refl, omega arith)), bare_fields_fit alarm none is)))

pub bare_read : ReportsAreRead → (alarm : AlarmNotification) → alarm.alarm_data ≡ [] → IsAlarm alarm
    → report_of (report.write (bare alarm) []) ≡ Ok (bare alarm)
bare_read reads alarm none good = reads (bare alarm) [] (bare_fits alarm none good)

pub bare_long : (alarm : AlarmNotification) → length (report.write (bare alarm) []) ≡ 26 + length alarm.alarm_data
unfolding report block_priority open_body version report_fields report_front payload number_bytes
bare_long alarm = omega (arith, length-append alarm.alarm_data [])

abbrev pub LowAcksAreRead : Type 0
LowAcksAreRead = (ack : AlarmAck) (rest : List ℕ) → low_ack.Fits ack → low_ack.read (low_ack.write ack rest) ≡ Ok (ack, rest)

low_fits : (ack : AlarmAck) → IsAck ack → low_ack.Fits ack
unfolding low_ack body version alarm_ack
low_fits ack is = ((refl, omega arith), (omega arith, (((refl, omega arith), (refl, omega arith)), (omega (arith, is.alarm_type), (omega (arith, is.api), (omega (arith, is.slot_number), (omega (arith, is.subslot_number), (omega (arith, is.alarm_specifier), omega (arith, is.pnio_status)))))))))

pub low_read : LowAcksAreRead → (ack : AlarmAck) → IsAck ack → low_ack_of (low_ack.write ack []) ≡ Ok ack
unfolding low_ack_of
low_read reads ack good = rw (reads ack [] (low_fits ack good)) refl

pub low_long : (ack : AlarmAck) → length (low_ack.write ack []) ≡ 22
unfolding low_ack body alarm_ack number_bytes version
low_long ack = refl
