-- What the structs mean: their octets, independent of where they lie in memory.
use Rattle.lldp.specs.declared.tlv.Tlv.{Tlv}
use Rattle.lldp.specs.declared.tlv.Id.{Id}
use Rattle.lldp.specs.declared.message.Message.{Message}
use Rattle.lldp.specs.declared.neighbour.Neighbour.{Neighbour}
use Rattle.lldp.specs.declared.neighbour.Notice.{Notice}
use Rattle.lldp.specs.declared.machine.Known.{Known}
use Rattle.lldp.specs.Tlv as of_tlv
use Rattle.lldp.specs.Peer as of_peer
use Rattle.lldp.specs.State as of_state

-- What a TLV of the code is.
abbrev pub tlv_as : Tlv → of_tlv.Tlv
tlv_as tlv = record { head = tlv.head; octets = tlv.octets.now }

-- What an identifier of the code is.
abbrev pub id_as : Id → of_tlv.Id
id_as id = record { subtype = id.subtype; octets = id.octets.now }

-- What a message of the code says.
abbrev pub told_as : Message → of_peer.Told
told_as message = record {
  peer = record { chassis = of_peer.chassis_text (id_as message.chassis); port = message.port.octets.now; mac = message.mac };
  lifetime = message.lifetime;
}

-- What a neighbour of the code is.
abbrev pub peer_as : Neighbour → of_peer.Peer
peer_as neighbour = record { chassis = neighbour.chassis.items; port = neighbour.port.items; mac = neighbour.mac }

-- What a known neighbour of the code is.
abbrev pub known_as : Known → of_state.Known
known_as known = record { peer = peer_as known.neighbour; left = known.left }

-- What a notice of the code says.
abbrev pub notice_as : Notice → of_peer.Told
notice_as notice = record { peer = peer_as notice.neighbour; lifetime = notice.lifetime }
