-- Which alarm frames can be sent: each field has its size, and the content fits.
use Rattle.std.specs.Prelude.{◌≡◌, ◌≤◌, ◌<◌, true, [], length}
use Rattle.record_blocks.specs.declared.alarm_ack.AlarmAck.{AlarmAck}
use Rattle.block_codec.specs.declared.block.Block.TheVariants as is
use Rattle.block_codec.specs.Block.{block_bytes}
use Rattle.pn_alarms.specs.declared.pdu.Header.{Header}
use Rattle.pn_alarms.specs.Format.{Said, is_long}
use Rattle.diagnosis.specs.reports.Report.{low_ack}

-- the numbers of a header have two octets each
pub record IsHeader (header : Header) : Type 0 where
  pub destination : header.destination < 65536
  pub source : header.source < 65536
  pub send_number : header.send_number < 65536
  pub ack_number : header.ack_number < 65536

-- a PDU that can be sent: after the FrameID it has a header of ten octets and VarPartLen of two; an ERR gives its
-- reason
pub record CanBeSaid (said : Said) : Type 0 where
  pub header : IsHeader said.header
  pub long : is_long said.header.kind (length said.body) ≡ true
  pub few : length said.body ≤ 1486

-- a PDU with an AlarmAck as its data
abbrev pub ack_pdu : Header → AlarmAck → Said
ack_pdu header ack = record { header = header; body = block_bytes (is.AlarmAck ack) }

-- the same of low priority
abbrev pub low_ack_pdu : Header → AlarmAck → Said
low_ack_pdu header ack = record { header = header; body = low_ack.write ack [] }

-- a PDU without a body
abbrev pub empty_pdu : Header → Said
empty_pdu header = record { header = header; body = [] }
