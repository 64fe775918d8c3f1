-- The event has the neighbour that is known.
use Rattle.std.proofs.Common.{◌≡◌, Option, Some, None, option_map, ap, sym, ◌∙◌}
use Rattle.device_frames.specs.declared.event.Event.TheVariants.{Neighbour as Meets}
use Rattle.lldp.specs.declared.neighbour.Neighbour.{Neighbour}
use Rattle.lldp.specs.Peer.{Peer}
use Rattle.lldp.specs.State.{Known}
use Rattle.device_station.specs.Serving.{as_neighbour, news_in}
use Rattle.device_station.proofs.device_services.DeviceServices.neighbour_event.Goals as goal

abbrev as_peer : Peer → Neighbour
as_peer peer = record { chassis = record { items = peer.chassis }; port = record { items = peer.port }; mac = peer.mac }

known_is : (known : Option Known) (peer : Option Peer) → peer ≡ option_map (λ (k : Known). k.peer) known → option_map as_neighbour known ≡ option_map as_peer peer
known_is None peer e = ap (λ (p : Option Peer). option_map as_peer p) (sym e)
known_is (Some k) peer e = ap (λ (p : Option Peer). option_map as_peer p) (sym e)

pub returns-in-Some : goal.returns-in-Some
returns-in-Some c = ap Meets (ap (λ (p : Peer). Some (as_peer p)) c.copy.ensures ∙ sym (known_is c.self.inside.near.known _ c.in-Some.ensures)) ∙ ap news_in c.self.view_is

pub returns-in-None : goal.returns-in-None
returns-in-None c = ap Meets (sym (known_is c.self.inside.near.known _ c.in-None.ensures)) ∙ ap news_in c.self.view_is
