-- What a PDU says to the station that receives it: data is an AlarmAck at a device.
use Rattle.std.specs.Prelude.{ℕ, List, get_or, Result, Ok}
use Rattle.wire.specs.Codec.{◌>>=◌}
use Rattle.rpc_core.specs.declared.response.Status.{Status}
use Rattle.record_blocks.specs.declared.alarm_ack.AlarmAck.{AlarmAck}
use Rattle.pn_alarms.specs.declared.fault.AlarmFault.{AlarmFault}
use Rattle.pn_alarms.specs.declared.pdu.Header.{Header}
use Rattle.pn_alarms.specs.declared.pdu.PduType.{PduType}
use Rattle.pn_alarms.specs.declared.pdu.PduType.TheVariants as pdu
use Rattle.pn_alarms.specs.declared.message.Notice.{Notice}
use Rattle.pn_alarms.specs.declared.message.Notice.TheVariants.{Data, Nack, Ack, Abort}
use Rattle.pn_alarms.specs.Format.{Said, pdu_of}
use Rattle.pn_alarms.specs.Carried.{ack_of}

-- What a PDU says to a device.
abbrev pub ToDevice : Type 0
ToDevice = Notice AlarmAck

-- The PNIOStatus of an ERR: the first four octets of its body.
abbrev pub status_in : List ℕ → Status
status_in body = record { code = get_or body 0 0; decode = get_or body 1 0; code1 = get_or body 2 0; code2 = get_or body 3 0 }

-- What a PDU of this type says: of data, its SendSeqNum and the block that it carries; of an ACK, only its AckSeqNum; of an ERR,
-- its PNIOStatus.
abbrev pub notice_in : {B : Type 0} → (List ℕ → Result B AlarmFault) → PduType → Said → Result (Notice B) AlarmFault
notice_in block pdu.Data said = block said.body >>= λ carried. Ok (Data said.header.send_number carried)
notice_in block pdu.Nack said = Ok Nack
notice_in block pdu.Ack said = Ok (Ack said.header.ack_number)
notice_in block pdu.Error said = Ok (Abort (status_in said.body))

-- The header and what the PDU says, or the first fault.
abbrev pub notice_of : {B : Type 0} → (List ℕ → Result B AlarmFault) → List ℕ → Result (Header × Notice B) AlarmFault
notice_of block bytes = pdu_of bytes >>= λ said. notice_in block said.header.kind said >>= λ notice. Ok (said.header, notice)

-- What a PDU of high priority says to a device, or the fault.
abbrev pub message_in : PduType → Said → Result ToDevice AlarmFault
message_in kind said = notice_in ack_of kind said

-- The PDU in these octets, with the AlarmAck that it may carry, or the fault.
abbrev pub message_of : List ℕ → Result (Header × ToDevice) AlarmFault
message_of bytes = notice_of ack_of bytes
