-- Alarms as a controller takes them: of both priorities, of each type, with any UserStructureIdentifier or none
-- (IEC 61158-6-10, 5.2.5); and the AlarmAck of low priority (5.2.6).
use Rattle.std.specs.Prelude.{◌≡◌, ◌==◌, ℕ, List, [], length, Option, Some, None, Result, Ok, Err, if◌then◌else◌}
use Rattle.wire.specs.Codec.{Codec, Whole, ◌>>=◌}
use Rattle.wire.specs.Formats.{number, ◌⨾◌, seen, framed}
use Rattle.wire.specs.Checks.{fixed, named}
use Rattle.wire.specs.Whole.{ends_by, everything, loose, seen_whole}
use Rattle.wire.specs.declared.blocks.fault.BlockFault.{BlockFault}
use Rattle.wire.specs.declared.blocks.fault.BlockFault.TheVariants.{Truncated, Kind}
use Rattle.wire.specs.blocks.Fields.{body, open_body, two, four}
use Rattle.record_blocks.specs.declared.alarm_ack.AlarmAck.{AlarmAck}
use Rattle.record_blocks.specs.declared.alarm_notification.AlarmNotification.{AlarmNotification}
use Rattle.record_blocks.specs.AlarmAck.{alarm_ack}
use Rattle.block_codec.specs.declared.block.Block.TheVariants as is
use Rattle.block_codec.specs.Block.{block_bytes}
use Rattle.pn_alarms.specs.declared.fault.AlarmFault.{AlarmFault}
use Rattle.pn_alarms.specs.declared.fault.AlarmFault.TheVariants as fault
use Rattle.diagnosis.specs.declared.reports.priority.Priority.{Priority}
use Rattle.diagnosis.specs.declared.reports.priority.Priority.TheVariants.{High, Low}
use Rattle.diagnosis.specs.declared.reports.report.Front.{Front}
use Rattle.diagnosis.specs.declared.reports.report.Report.{Report}
use Rattle.pn_alarms.specs.declared.pdu.Header.{Header}
use Rattle.pn_alarms.specs.Format.{Said}
use Rattle.diagnosis.specs.reports.Priority.{block_type_of, priority_of_block}

-- ---- AlarmNotification

-- The fields from AlarmType to AlarmSpecifier.
unfoldable pub front : Codec BlockFault Front
front = seen
    (λ x. record {
      alarm_type = x.0;
      api = x.1.0;
      slot_number = x.1.1.0;
      subslot_number = x.1.1.1.0;
      module_ident_number = x.1.1.1.1.0;
      submodule_ident_number = x.1.1.1.1.1.0;
      alarm_specifier = x.1.1.1.1.1.1;
    })
    (λ f. (
      f.alarm_type,
      (
        f.api,
        (
          f.slot_number,
          (
            f.subslot_number,
            (
              f.module_ident_number,
              (
                f.submodule_ident_number,
                f.alarm_specifier,
              ),
            ),
          ),
        ),
      ),
    ))
    (two ⨾ four ⨾ two ⨾ two ⨾ four ⨾ four ⨾ two)

-- UserStructureIdentifier, and the data to the end.
abbrev pub structured : Whole BlockFault (ℕ × List ℕ)
structured = ends_by two (λ _. everything)

-- Both may be absent: then no octet follows AlarmSpecifier.
abbrev pub spells_payload : List ℕ → Option ℕ → List ℕ → Type 0
spells_payload bytes None octets = (bytes ≡ []) × (octets ≡ [])
spells_payload bytes (Some user_structure) octets = structured.Spells bytes (user_structure, octets)

-- The octets after the AlarmSpecifier: a UserStructureIdentifier with its data, or none.
abbrev pub payload_bytes : Option ℕ → List ℕ → List ℕ
payload_bytes None octets = octets
payload_bytes (Some user_structure) octets = structured.write (user_structure, octets)

-- Their number.
abbrev pub payload_size : Option ℕ → List ℕ → ℕ
payload_size None octets = length octets
payload_size (Some user_structure) octets = structured.size (user_structure, octets)

-- Whether they can be written: without a UserStructureIdentifier there are none.
abbrev pub payload_fits : Option ℕ → List ℕ → Type 0
payload_fits None octets = octets ≡ []
payload_fits (Some user_structure) octets = structured.Fits (user_structure, octets)

-- The format of these octets: read as none if there are none.
unfoldable pub payload : Whole BlockFault (Option ℕ × List ℕ)
payload = record {
  Spells = λ bytes value. spells_payload bytes value.0 value.1;
  write = λ value. payload_bytes value.0 value.1;
  size = λ value. payload_size value.0 value.1;
  Fits = λ value. payload_fits value.0 value.1;
  read = λ bytes. if length bytes == 0 then Ok (None, bytes) else structured.read bytes >>= λ x. Ok (Some x.0, x.1);
}

-- The fields of an alarm: those of the notification, whose data follow UserStructureIdentifier.
abbrev pub notified : Front → List ℕ → AlarmNotification
notified f octets = record {
  alarm_type = f.alarm_type;
  api = f.api;
  slot_number = f.slot_number;
  subslot_number = f.subslot_number;
  module_ident_number = f.module_ident_number;
  submodule_ident_number = f.submodule_ident_number;
  alarm_specifier = f.alarm_specifier;
  alarm_data = octets;
}

-- The fixed fields of an AlarmNotification.
abbrev pub front_of : AlarmNotification → Front
front_of alarm = record {
  alarm_type = alarm.alarm_type;
  api = alarm.api;
  slot_number = alarm.slot_number;
  subslot_number = alarm.subslot_number;
  module_ident_number = alarm.module_ident_number;
  submodule_ident_number = alarm.submodule_ident_number;
  alarm_specifier = alarm.alarm_specifier;
}

-- The format of an AlarmNotification: its fixed fields and the octets after them.
unfoldable pub report_fields : Whole BlockFault (AlarmNotification × Option ℕ)
report_fields = seen_whole
    (λ x. (notified x.0 x.1.1, x.1.0))
    (λ alarm. (front_of alarm.0, (alarm.1, alarm.0.alarm_data)))
    (ends_by front (λ _. payload))

-- BlockType, which tells the priority.
unfoldable pub block_priority : Codec BlockFault Priority
block_priority = named priority_of_block block_type_of Kind (number Truncated 2)

-- The whole block: BlockType, BlockLength, and what that counts: the version, which is 1.0, and the fields.
unfoldable pub report : Codec BlockFault Report
report = seen
    (λ x. record { priority = x.0; notification = x.1.0; user_structure = x.1.1 })
    (λ alarm. (alarm.priority, (alarm.notification, alarm.user_structure)))
    (block_priority ⨾ framed (number Truncated 2) Truncated (open_body report_fields))

-- These octets begin with this alarm.
unfoldable pub IsReport : List ℕ → Report → Type 0
IsReport bytes alarm = (loose report).Spells bytes alarm

-- What a block that cannot be read is to a PDU.
abbrev pub blamed : {A : Type 0} → Result A BlockFault → Result A AlarmFault
blamed (Ok value) = Ok value
blamed (Err reason) = Err fault.Block

-- The alarm at the start of these octets.
unfoldable pub report_of : List ℕ → Result Report AlarmFault
report_of bytes = blamed ((loose report).read bytes)

-- An alarm of high priority with the UserStructureIdentifier 1: what a device of this product sends.
abbrev pub ours : AlarmNotification → Report
ours alarm = record { priority = High; notification = alarm; user_structure = Some 1 }

-- An alarm of low priority with the UserStructureIdentifier 0x8000: what a device of this product sends as a change of
-- diagnosis.
abbrev pub diagnosed : AlarmNotification → Report
diagnosed alarm = record { priority = Low; notification = alarm; user_structure = Some 0x8000 }

-- Data that carries such an alarm.
abbrev pub diagnosis_pdu : Header → AlarmNotification → Said
diagnosis_pdu header alarm = record { header = header; body = report.write (diagnosed alarm) [] }

-- An alarm of low priority without a UserStructureIdentifier: what a device of this product sends as a pull or a plug. It has no
-- data.
abbrev pub bare : AlarmNotification → Report
bare alarm = record { priority = Low; notification = alarm; user_structure = None }

-- Data that carries such an alarm.
abbrev pub bare_pdu : Header → AlarmNotification → Said
bare_pdu header alarm = record { header = header; body = report.write (bare alarm) [] }

-- An alarm of low priority of this product: that of a change of diagnosis has data, and that of a pull or a plug has none.
abbrev pub low_report : AlarmNotification → Report
low_report alarm = if length alarm.alarm_data == 0 then bare alarm else diagnosed alarm

-- Data that carries it.
abbrev pub low_pdu : Header → AlarmNotification → Said
low_pdu header alarm = record { header = header; body = report.write (low_report alarm) [] }

-- ---- AlarmAck

-- The AlarmAck of low priority: BlockType 0x8002, and otherwise as that of high priority.
unfoldable pub low_ack : Codec BlockFault AlarmAck
low_ack = seen (λ x. x.1) (λ ack. (tt, ack)) (fixed Kind 2 0x8002 ⨾ framed (number Truncated 2) Truncated (body alarm_ack))

-- These octets begin with this AlarmAck of low priority, and the one at the start of these octets.
unfoldable pub IsLowAck : List ℕ → AlarmAck → Type 0
IsLowAck bytes ack = (loose low_ack).Spells bytes ack

-- The AlarmAck of low priority in these octets, or the fault.
unfoldable pub low_ack_of : List ℕ → Result AlarmAck AlarmFault
low_ack_of bytes = blamed ((loose low_ack).read bytes)

-- The octets of an AlarmAck of a priority.
abbrev pub ack_bytes : Priority → AlarmAck → List ℕ
ack_bytes High ack = block_bytes (is.AlarmAck ack)
ack_bytes Low ack = low_ack.write ack []
