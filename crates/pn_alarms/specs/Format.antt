-- The encoding of the PDUs of alarms (IEC 61158-6-10, 4.8): the octets that follow the FrameID.
use Rattle.std.specs.Prelude.{◌==◌, ℕ, Bool, true, List, [], length, nat_le, Option, Some, None, Result, if◌then◌else◌}
use Rattle.wire.specs.Codec.{Codec}
use Rattle.wire.specs.Formats.{number, then_by, ◌⨾◌, seen, unchecked, framed}
use Rattle.wire.specs.Checks.{checked, named}
use Rattle.wire.specs.Whole.{everything, loose}
use Rattle.pn_alarms.specs.declared.fault.AlarmFault.{AlarmFault}
use Rattle.pn_alarms.specs.declared.fault.AlarmFault.TheVariants as fault
use Rattle.pn_alarms.specs.declared.pdu.PduType.{PduType}
use Rattle.pn_alarms.specs.declared.pdu.PduType.TheVariants.{Data, Nack, Ack, Error}
use Rattle.pn_alarms.specs.declared.pdu.Header.{Header}
use Rattle.pn_alarms.specs.declared.pdu.Pdu.{Pdu}

-- What a PDU says: its header, and the octets that VarPartLen counts.
pub record Said : Type 0 where
  pub header : Header
  pub body : List ℕ

-- A PDU without where its octets lie in memory.
abbrev pub said : Pdu → Said
said pdu = record { header = pdu.header; body = pdu.body.now }

-- ---- types

-- The octet of a type.
abbrev pub octet_of : PduType → ℕ
octet_of Data = 0x11
octet_of Nack = 0x12
octet_of Ack = 0x13
octet_of Error = 0x14

-- The type of an octet.
abbrev pub kind_of : ℕ → Option PduType
kind_of octet = if octet == 0x11 then Some Data else (if octet == 0x12 then Some Nack else (if octet == 0x13 then Some Ack else (if octet == 0x14 then Some Error else None)))

-- AddFlags: the window size 1, and 0x10 for data, which must be acknowledged.
abbrev pub flags_of : PduType → ℕ
flags_of Data = 0x11
flags_of Nack = 0x01
flags_of Ack = 0x01
flags_of Error = 0x01

-- The FrameID of the frame that carries it.
abbrev pub frame_id_of : PduType → ℕ
frame_id_of Data = 0xFC01
frame_id_of Nack = 0xFC01
frame_id_of Ack = 0xFC01
frame_id_of Error = 0xFE01

-- Whether a body of this many octets is long enough: an ERR has four octets of PNIOStatus.
abbrev pub is_long : PduType → ℕ → Bool
is_long Data size = true
is_long Nack size = true
is_long Ack size = true
is_long Error size = nat_le 4 size

-- ---- formats

-- PDUType.
unfoldable pub kind : Codec AlarmFault PduType
kind = named kind_of octet_of fault.Type (number fault.Short 1)

-- AlarmDstEndpoint, AlarmSrcEndpoint, PDUType, AddFlags, which is ignored, SendSeqNum and AckSeqNum.
unfoldable pub header : Codec AlarmFault Header
header = seen
    (λ x. record { destination = x.0; source = x.1.0; kind = x.1.1.0; send_number = x.1.1.1.1.0; ack_number = x.1.1.1.1.1 })
    (λ h. (h.destination, (h.source, (h.kind, (tt, (h.send_number, h.ack_number))))))
    (number fault.Short 2 ⨾ number fault.Short 2
    ⨾ then_by kind (λ k. unchecked fault.Short 1 (flags_of k) ⨾ number fault.Short 2 ⨾ number fault.Short 2))

-- The header, VarPartLen, and as many octets as it counts.
unfoldable pub pdu : Codec AlarmFault Said
pdu = checked (λ said. is_long said.header.kind (length said.body)) fault.Cause (seen
    (λ x. record { header = x.0; body = x.1 })
    (λ said. (said.header, said.body))
    (header ⨾ framed (number fault.Short 2) fault.Short everything))

-- These octets encode this PDU.
unfoldable pub IsPdu : List ℕ → Said → Type 0
IsPdu bytes meaning = (loose pdu).Spells bytes meaning

-- The PDU that the octets encode, or their first fault.
unfoldable pub pdu_of : List ℕ → Result Said AlarmFault
pdu_of bytes = (loose pdu).read bytes

-- The octets that are sent for a PDU.
unfoldable pub pdu_bytes : Said → List ℕ
pdu_bytes meaning = pdu.write meaning []
