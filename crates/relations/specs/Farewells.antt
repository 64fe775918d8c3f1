-- The ERR with which a device ends a relation (IEC 61158-6-10, 5.2.6).
use Rattle.pn_alarms.specs.declared.abort.Abort.{Abort}
use Rattle.pn_alarms.specs.Abort.{abort_of}
use Rattle.pn_alarms.specs.Format.{Said}
use Rattle.pn_alarms.specs.declared.pdu.Header.{Header}
use Rattle.pn_alarms.specs.declared.pdu.PduType.TheVariants.{Error}
use Rattle.connects.specs.requests.Request.{Request}
use Rattle.relations.specs.exchange.Notices.{header_of}
use Rattle.relations.specs.declared.farewell.Farewell.{Farewell}
use Rattle.relations.specs.RelationState.{RelationState}

-- It ends the relation of its request. It goes to CMInitiatorMacAdd, to the LocalAlarmReference there, from the endpoint of the
-- device, with the tag of low priority, and with the numbers of the last data that was sent and of the last data that was accepted.
abbrev pub farewell_by : Abort → Request → Header → Farewell
farewell_by reason request header = record {
  uuid = request.ar.uuid;
  initiator = request.ar.initiator;
  tag = request.alarm.tag_low;
  reference = request.alarm.reference;
  endpoint = header.source;
  send_number = header.send_number;
  ack_number = header.ack_number;
  reason = reason;
}

-- The ERR with this reason by which a device ends its relation.
abbrev pub farewell_of : Abort → RelationState → Farewell
farewell_of reason link = farewell_by reason link.request (header_of link.flow Error)

-- Its PDU.
abbrev pub said_by : Farewell → Said
said_by farewell = abort_of farewell.reason farewell.reference farewell.endpoint farewell.send_number farewell.ack_number
