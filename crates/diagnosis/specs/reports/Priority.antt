-- The two priorities of alarms (IEC 61158-6-10, 4.8).
use Rattle.std.specs.Prelude.{◌==◌, ℕ, Option, Some, None, if◌then◌else◌}
use Rattle.pn_alarms.specs.declared.pdu.PduType.{PduType}
use Rattle.diagnosis.specs.declared.reports.priority.Priority.{Priority}
use Rattle.diagnosis.specs.declared.reports.priority.Priority.TheVariants.{High, Low}
use Rattle.pn_alarms.specs.Format.{frame_id_of}

-- The priority of an alarm frame with this FrameID.
abbrev pub priority_of : ℕ → Priority
priority_of frame_id = if frame_id == 0xFE01 then Low else High

-- The BlockType of an AlarmNotification, and the priority of a BlockType, if it is that of an AlarmNotification.
abbrev pub block_type_of : Priority → ℕ
block_type_of High = 0x0001
block_type_of Low = 0x0002

-- The priority of an AlarmNotification by its BlockType, if it is one.
abbrev pub priority_of_block : ℕ → Option Priority
priority_of_block kind = if kind == 0x0001 then Some High else (if kind == 0x0002 then Some Low else None)

-- The FrameID under which a PDU of this type is sent: an ERR always as an alarm of low priority.
abbrev pub frame_id_at : Priority → PduType → ℕ
frame_id_at High kind = frame_id_of kind
frame_id_at Low kind = 0xFE01
