-- the octets so far
use Rattle.std.proofs.Common.{◌≡◌, ◌*◌, length, take}
use Rattle.std.specs.List.{flat_map}
use Rattle.lldp.specs.Peer.{dashed_octet}
use Rattle.lldp.proofs.neighbour.hyphenated.Given as goal

abbrev pub invariant-loop-octet : goal.invariant-loop-octet
invariant-loop-octet l = (l.text.items ≡ flat_map dashed_octet (take l.octet-index l.octets)) × (length l.text.items ≡ 3 * l.octet-index)
