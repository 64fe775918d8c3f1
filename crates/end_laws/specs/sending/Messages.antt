-- Which messages of a controller can be sent.
use Rattle.std.specs.Prelude.{◌≡◌, ◌⊎◌, ◌≤◌, ◌<◌, length}
use Rattle.pn_alarms.specs.declared.pdu.PduType.TheVariants.{Ack, Data, Nack}
use Rattle.cyclic_data.specs.declared.exchange.route.Route.{Route}
use Rattle.cyclic_data.specs.exchange.Frames.{cyclic_body}
use Rattle.controller_messages.specs.declared.setup.Setup.{Setup}
use Rattle.controller_messages.specs.Sent.{Sent, Requests, Accesses, Parametrizes, Agrees, Cycles, Confirms, Replies, Ends}
use Rattle.frame_codec.specs.Sendable.{IsMac}
use Rattle.rpc_core.specs.Sendable.{CanBeAnswered}
use Rattle.block_codec.specs.Writable.{IsAck}
use Rattle.diagnosis.specs.Sendable.{IsHeader}
use Rattle.end_laws.specs.hearing.Stations.{IsCaller, IsNumbered, IsPlugCall, IsRecordCall}

-- A route whose fields have their sizes. The device chooses the FrameID, so whether it is a cyclic one depends on the
-- device.
pub record IsWay (route : Route) : Type 0 where
  pub partner : IsMac route.partner
  pub sent_id : route.sent_id < 65536
  pub sent_tag : route.sent_tag < 65536
  pub alarm_tag : route.alarm_tag < 65536
  pub reference : route.reference < 65536

-- a message that can be sent
abbrev pub CanBeSent : Setup → Sent → Type 0
CanBeSent setup (Requests device request) = IsMac device × IsNumbered request
CanBeSent setup (Accesses device request octets) = IsMac device × IsRecordCall request octets
CanBeSent setup (Parametrizes device request) = IsMac device × IsPlugCall request
CanBeSent setup (Agrees caller answer) = IsCaller caller × CanBeAnswered answer
CanBeSent setup (Cycles route shown counter) = IsWay route × (length (cyclic_body shown counter) ≤ 1498)
CanBeSent setup (Confirms route priority header ack) = IsWay route × (header.kind ≡ Data) × IsHeader header × IsAck ack
CanBeSent setup (Replies route priority header) = IsWay route × ((header.kind ≡ Ack) ⊎ (header.kind ≡ Nack)) × IsHeader header
CanBeSent setup (Ends route header reason) = IsWay route × IsHeader header
