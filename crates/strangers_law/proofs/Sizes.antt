-- The sizes of what the services of a station keep, and of what those beside a controller keep.
use Rattle.std.proofs.Common.{◌≡◌, ℕ, zero, suc, List, [], ◌∷◌, length, map, set, Option, None, Some, Result, Ok, Err, refl, sym, ap, subst, ◌∙◌}
use Rattle.std.proofs.lemmas.Bool.{cond_both}
use Rattle.std.specs.List.{AllByRecursion}
use Rattle.flash_model.specs.declared.flash.Flash.{Ghosts as Flash}
use Rattle.pn_values.specs.declared.mac.Mac.{Mac}
use Rattle.pn_values.specs.declared.identity.Identity.{Identity}
use Rattle.pn_values.specs.declared.settings.Settings.{Settings}
use Rattle.settings_journal.specs.settings_store.State.{Values}
use Rattle.frame_codec.specs.declared.fault.FrameFault.{FrameFault}
use Rattle.frame_codec.specs.declared.arp.Holder.{Holder}
use Rattle.frame_codec.specs.Frame.{frame_of}
use Rattle.frame_codec.specs.Meaning.{Content, Meaning, ArpPacket, RealTime, UdpDatagram}
use Rattle.services.specs.State as ip
use Rattle.services.specs.Answer as ip_answer
use Rattle.services.specs.Answer.{Call}
use Rattle.rpc_services.specs.pieces.Piece.{Piece, piece_of}
use Rattle.rpc_services.specs.pieces.State as calls
use Rattle.rpc_services.specs.pieces.State.{Unfinished}
use Rattle.lldp.specs.Frame.{told_in}
use Rattle.lldp.specs.Peer.{Told}
use Rattle.lldp.specs.State as near
use Rattle.device_frames.specs.declared.event.Event.{Event}
use Rattle.device_frames.specs.declared.event.Event.TheVariants.{Frame, Tick}
use Rattle.device_frames.specs.declared.note.Note.{Note}
use Rattle.device_station.specs.Beside.{Beside, beside, event_beside, is_dropped}
use Rattle.device_station.specs.Serving.{Serving, after_piece, met, observed, overheard, pieced}
use Rattle.controller_core.specs.declared.stored.event.Event.{Event as ControllerEvent}
use Rattle.controller_core.specs.declared.stored.event.Event.TheVariants as said
use Rattle.controller_core.specs.Machine.{step_of}
use Rattle.controller_station.specs.Beside as with
use Rattle.controller_station.specs.Served.{after_frame, services_after}
use Rattle.strangers_law.specs.Beside.{AddressesAreKept, HaveAddresses, HaveSizes, IsHeaded, SizesAreKept}
use Rattle.strangers_law.proofs.Unasked.{IsPiece, get_headed, piece_is, told_sizes}

-- ---- the services of the IP address keep their MAC address

disputed_mac : (state : ip.State) (sender : Holder) → (ip_answer.after_packet state sender).mac ≡ state.mac
disputed_mac state sender = cond_both (ip_answer.is_conflict state sender) _ _ (λ (s : ip.State). s.mac ≡ state.mac) (λ _. refl) (λ _. refl)

heard_mac : (state : ip.State) (bytes : List ℕ) → (ip_answer.heard state bytes).mac ≡ state.mac
unfolding ip_answer.heard
heard_mac state bytes = by_read (frame_of bytes)
  where
    by_content : (content : Content) → (ip_answer.after_content state content).mac ≡ state.mac
    by_content (RealTime id body) = refl
    by_content (ArpPacket packet) = disputed_mac state packet.sender
    by_content (UdpDatagram from to body) = refl

    by_read : (read : Result Meaning FrameFault) → (ip_answer.after_layers state read).mac ≡ state.mac
    by_read (Ok meaning) = by_content meaning.content
    by_read (Err fault) = refl

observed_mac : (state : ip.State) (address : List ℕ) → (ip.observed state address).mac ≡ state.mac
observed_mac state address = cond_both _ _ _ (λ (s : ip.State). s.mac ≡ state.mac) (λ _. refl) (λ _. refl)

near_mac : (state : near.State) (bytes : List ℕ) → (near.heard state bytes).mac ≡ state.mac
unfolding near.heard
near_mac state bytes = by_told (told_in state.mac bytes)
  where
    by_told : (told : Option Told) → (near.after_told state told).mac ≡ state.mac
    by_told None = refl
    by_told (Some told) = refl

-- ---- the headers of calls

set_headed : (us : List Unfinished) (place : ℕ) (u : Unfinished) → AllByRecursion IsHeaded us → IsHeaded u → AllByRecursion IsHeaded (set us place u)
set_headed [] place u all one = tt
set_headed (v ∷ us) zero u all one = (one, all.1)
set_headed (v ∷ us) (suc place) u all one = (all.0, set_headed us place u all.1 one)

older_headed : (ticks : ℕ) (us : List Unfinished) → AllByRecursion IsHeaded us → AllByRecursion IsHeaded (map (calls.older ticks) us)
older_headed ticks [] all = tt
older_headed ticks (u ∷ us) all = (record { object = all.0.object; interface = all.0.interface }, older_headed ticks us all.1)

named_as : (one other : Unfinished) → other.head ≡ one.head → IsHeaded one → IsHeaded other
named_as one other is it = record { object = ap (λ h. length h.names.object) is ∙ it.object; interface = ap (λ h. length h.names.interface) is ∙ it.interface }

continued_head : (u : Unfinished) (p : Piece) → (calls.continued u p).head ≡ u.head
continued_head u p =
    cond_both (calls.completes u p) _ _ (λ (v : Unfinished). v.head ≡ u.head) (λ _. refl)
    (λ _. cond_both (calls.is_next u p) _ _ (λ (v : Unfinished). v.head ≡ u.head) (λ _. refl)
    (λ _. cond_both (calls.comes_next u p) _ _ (λ (v : Unfinished). v.head ≡ u.head) (λ _. refl) (λ _. refl)))

heard_headed : (state : calls.State) (body : List ℕ) → AllByRecursion IsHeaded state.calls → AllByRecursion IsHeaded (calls.heard state body).calls
unfolding calls.heard
heard_headed state body all = by_piece (piece_of state.kind body) refl
  where
    begun_named : (p : Piece) → IsPiece body p → IsHeaded (calls.begun (calls.at_place state p) p)
    begun_named p it =
        cond_both (calls.starts (calls.at_place state p) p) _ _ IsHeaded (λ _. record { object = it.head.names.object; interface = it.head.names.interface })
        (λ _. get_headed state.calls all (calls.place_in state p))

    by_piece : (piece : Option Piece) → piece_of state.kind body ≡ piece → AllByRecursion IsHeaded (calls.after_piece state piece).calls
    by_piece None is = all
    by_piece (Some p) is =
        set_headed state.calls (calls.place_in state p) (calls.taken (calls.at_place state p) p) all
        (named_as (calls.begun (calls.at_place state p) p) (calls.taken (calls.at_place state p) p) (continued_head (calls.begun (calls.at_place state p) p) p) (begun_named p (piece_is state.kind body p is)))

-- ---- an event

overheard_sizes : (services : Serving) (bytes : List ℕ) → HaveSizes services → HaveSizes (overheard services bytes)
overheard_sizes services bytes sizes = record { ip = ap (λ (m : Mac). length m.octets) (heard_mac services.ip bytes) ∙ sizes.ip; near = sizes.near; calls = sizes.calls }

met_sizes : (services : Serving) (bytes : List ℕ) → HaveSizes services → HaveSizes (met services bytes)
met_sizes services bytes sizes = record { ip = sizes.ip; near = ap (λ (m : Mac). length m.octets) (near_mac services.near bytes) ∙ sizes.near; calls = sizes.calls }

pieced_sizes : (services : Serving) (bytes : List ℕ) → HaveSizes services → HaveSizes (pieced services bytes)
pieced_sizes services bytes sizes = by_call (ip_answer.call_in services.ip bytes)
  where
    by_call : (call : Option Call) → HaveSizes (after_piece services call)
    by_call None = sizes
    by_call (Some call) = record { ip = sizes.ip; near = sizes.near; calls = heard_headed services.pieces call.body sizes.calls }

observed_sizes : (services : Serving) (running : Settings) → HaveSizes services → HaveSizes (observed services running)
observed_sizes services running sizes =
    record { ip = ap (λ (m : Mac). length m.octets) (observed_mac services.ip running.suite.address) ∙ sizes.ip; near = sizes.near; calls = sizes.calls }

event_sizes : (identity : Identity) (services : Serving) (note : Note) (event : Event) → HaveSizes services → HaveSizes (event_beside identity services note event).services
event_sizes identity services note (Frame bytes) sizes =
    cond_both (is_dropped note) _ _ HaveSizes
    (λ _. overheard_sizes (pieced (met services bytes.items) bytes.items) bytes.items (pieced_sizes (met services bytes.items) bytes.items (met_sizes services bytes.items sizes)))
    (λ _. overheard_sizes services bytes.items sizes)
event_sizes identity services note Tick sizes = record { ip = sizes.ip; near = sizes.near; calls = older_headed 1 services.pieces.calls sizes.calls }
event_sizes identity services note event sizes = sizes

beside_sizes : (identity : Identity) (services : Serving) (values : Values) (note : Note) (event : Event) → HaveSizes services → HaveSizes (beside identity services values note event).services
beside_sizes identity services values note event sizes =
    cond_both values.is_lost _ _ (λ (b : Beside). HaveSizes b.services) (λ _. sizes)
    (λ _. observed_sizes (event_beside identity services note event).services values.running (event_sizes identity services note event sizes))

pub sizes_are_kept : {F : Type 0} {S : ℕ} (as_flash : Flash F S) → SizesAreKept as_flash
sizes_are_kept as_flash = record {
  first = λ identity running mac. record { ip = mac; near = mac; calls = (record { object = refl; interface = refl }, (record { object = refl; interface = refl }, (record { object = refl; interface = refl }, (record { object = refl; interface = refl }, tt)))) };
  kept = λ old new event frames said takes sizes.
      subst HaveSizes (sym takes.steps.knows)
      (beside_sizes takes.between.device.station.identity takes.between.services takes.steps.middle.live.values takes.steps.note event
      (subst HaveSizes (sym takes.ready.services) (told_sizes old.device.station old.device.live old.services old.services.has_news sizes)));
}

-- ---- beside a controller

frame_addresses : (services : with.Beside) (octets : List ℕ) (frames : List (List ℕ)) → HaveAddresses services
    → HaveAddresses (after_frame services octets frames)
frame_addresses services octets [] addresses =
    cond_both (with.is_real_time (frame_of octets)) _ _ HaveAddresses (λ _. addresses) (λ _. record {
      ip = ap (λ (m : Mac). length m.octets) (heard_mac services.ip octets) ∙ addresses.ip;
      near = ap (λ (m : Mac). length m.octets) (near_mac services.near octets) ∙ addresses.near;
    })
frame_addresses services octets (frame ∷ frames) addresses = addresses

event_addresses : (services : with.Beside) (event : ControllerEvent) (frames : List (List ℕ)) → HaveAddresses services
    → HaveAddresses (services_after services event frames)
event_addresses services (said.Frame octets) frames addresses = frame_addresses services octets.items frames addresses
event_addresses services said.Tick frames addresses = record { ip = addresses.ip; near = addresses.near }
event_addresses services (said.Give slot subslot value) frames addresses = addresses
event_addresses services (said.Status slot subslot is_good) frames addresses = addresses
event_addresses services (said.Read slot subslot index) frames addresses = addresses
event_addresses services (said.Write slot subslot index octets) frames addresses = addresses
event_addresses services said.Stop frames addresses = addresses

pub addresses_are_kept : AddressesAreKept
addresses_are_kept = record {
  first = λ setup mac. record { ip = mac; near = mac };
  kept = λ served event addresses. event_addresses served.services event (step_of served.controller event).frames addresses;
}
