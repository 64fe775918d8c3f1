-- What a PDU says to a controller: data is an alarm. And what one of low priority says to a device: data is an AlarmAck.
use Rattle.std.specs.Prelude.{ℕ, List, Result}
use Rattle.pn_alarms.specs.declared.fault.AlarmFault.{AlarmFault}
use Rattle.pn_alarms.specs.declared.message.Notice.{Notice}
use Rattle.pn_alarms.specs.declared.pdu.Header.{Header}
use Rattle.pn_alarms.specs.declared.pdu.PduType.{PduType}
use Rattle.pn_alarms.specs.Format.{Said}
use Rattle.pn_alarms.specs.Message.{ToDevice, notice_in, notice_of}
use Rattle.diagnosis.specs.declared.reports.report.Report.{Report}
use Rattle.diagnosis.specs.reports.Report.{low_ack_of, report_of}

-- What a PDU says to a controller.
abbrev pub ToController : Type 0
ToController = Notice Report

-- What a PDU of this type says.
abbrev pub alarm_in : PduType → Said → Result ToController AlarmFault
alarm_in kind said = notice_in report_of kind said

-- The header and what the PDU says, or the first fault.
abbrev pub alarm_of : List ℕ → Result (Header × ToController) AlarmFault
alarm_of bytes = notice_of report_of bytes

-- What a PDU of low priority says to a device, or the fault.
abbrev pub low_message_in : PduType → Said → Result ToDevice AlarmFault
low_message_in kind said = notice_in low_ack_of kind said

-- The PDU of low priority in these octets, with the AlarmAck that it may carry, or the fault.
abbrev pub low_message_of : List ℕ → Result (Header × ToDevice) AlarmFault
low_message_of bytes = notice_of low_ack_of bytes
