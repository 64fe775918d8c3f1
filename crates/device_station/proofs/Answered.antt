-- A packet of ARP is dropped by the device, or answered.
use Rattle.std.proofs.Common.{◌≡◌, ◌||◌, ℕ, Bool, true, false, List, [], ◌∷◌, Result, Ok, Err, refl, ap, sym, ◌∙◌}
use Rattle.std.specs.Prelude.{◌&&◌, nat_eq, if◌then◌else◌}
use Rattle.std.specs.Cmp.Lexicographic.{pointwise}
use Rattle.arrayvec.specs.ArrayVec.{ArrayVec}
use Rattle.pn_values.specs.declared.mac.Mac.{Mac}
use Rattle.frame_codec.specs.declared.arp.Arp.{Arp}
use Rattle.frame_codec.specs.declared.fault.FrameFault.{FrameFault}
use Rattle.frame_codec.specs.Meaning.{Meaning, Content, RealTime, ArpPacket, UdpDatagram}
use Rattle.frame_codec.specs.Frame.{frame_of}
use Rattle.settings_journal.specs.settings_store.Machine.{Outcome}
use Rattle.device_frames.specs.declared.event.Event.{Event}
use Rattle.device_frames.specs.declared.event.Event.TheVariants.{Frame, Call, Tick, Neighbour, Application}
use Rattle.flash_model.specs.declared.flash.Flash.{Ghosts as Flash}
use Rattle.device_frames.specs.declared.note.Note.{Note}
use Rattle.device_frames.specs.declared.note.Note.TheVariants.{NotMine}
use Rattle.device_frames.specs.Sent.{Sent, ArpReply}
use Rattle.device_frames.specs.Heard.{Elsewhere, Resolves, broadcast, heard_content, heard_frame, heard_of, is_own}
use Rattle.device_core.specs.State.{Station, Rest, Live}
use Rattle.device_core.specs.State as device
use Rattle.device_core.specs.Steps.{Steps}
use Rattle.device_core.specs.Handled.{Moves, Refuses, is_request, is_running}
use Rattle.device_core.specs.Machine.{Stepped, handled_step, heard_step}
use Rattle.services.specs.State.{State}
use Rattle.services.specs.Answer.{content_disputes, disputes, layers_dispute}
use Rattle.device_station.specs.Serving.{Serving}
use Rattle.device_station.specs.Beside.{ConflictsAreNoticed, IsUndisputed, has_any, is_dropped}

-- a step that drops the frame or sends one
abbrev is_noticed : Stepped → Bool
is_noticed step = is_dropped step.note || has_any step.frames

chosen_noticed : (outcomes : List Outcome) (station : Station) (live : Live) (b : Bool) (rest : Rest) (sent : Sent)
    → is_noticed (handled_step outcomes station live (if b then Moves rest (sent ∷ []) else Refuses NotMine)) ≡ true
unfolding handled_step
chosen_noticed outcomes station live true rest sent = refl
chosen_noticed outcomes station live false rest sent = refl

resolves_noticed : (outcomes : List Outcome) (station : Station) (live : Live) (asker : Mac) (packet : Arp)
    → is_noticed (heard_step outcomes station live (Resolves asker packet)) ≡ true
unfolding heard_step
resolves_noticed outcomes station live asker packet =
    chosen_noticed outcomes station live (is_request packet.operation && is_running live.values.running packet.target.address) live.rest
    (ArpReply asker live.values.running.suite.address packet.sender)

elsewhere_noticed : (outcomes : List Outcome) (station : Station) (live : Live) → is_noticed (heard_step outcomes station live Elsewhere) ≡ true
unfolding heard_step handled_step
elsewhere_noticed outcomes station live = refl

packet_noticed : (outcomes : List Outcome) (station : Station) (live : Live) (b : Bool) (asker : Mac) (packet : Arp)
    → is_noticed (heard_step outcomes station live (if b then Resolves asker packet else Elsewhere)) ≡ true
packet_noticed outcomes station live true asker packet = resolves_noticed outcomes station live asker packet
packet_noticed outcomes station live false asker packet = elsewhere_noticed outcomes station live

content_noticed : (outcomes : List Outcome) (station : Station) (live : Live) (state : State) (destination source : Mac) (content : Content) → content_disputes state content ≡ true
    → is_noticed (heard_step outcomes station live (heard_content station.identity destination source content)) ≡ true
content_noticed outcomes station live state destination source (RealTime frame_id body) e = absurd cc
content_noticed outcomes station live state destination source (ArpPacket packet) e =
    packet_noticed outcomes station live (is_own station.identity destination || pointwise nat_eq destination.octets broadcast) source packet
content_noticed outcomes station live state destination source (UdpDatagram from to body) e = absurd cc

layers_noticed : (outcomes : List Outcome) (station : Station) (live : Live) (state : State) (layers : Result Meaning FrameFault) → layers_dispute state layers ≡ true
    → is_noticed (heard_step outcomes station live (heard_frame station.identity layers)) ≡ true
layers_noticed outcomes station live state (Ok meaning) e = content_noticed outcomes station live state meaning.destination meaning.source meaning.content e
layers_noticed outcomes station live state (Err fault) e = absurd cc

conflict_noticed : (outcomes : List Outcome) (station : Station) (live : Live) (state : State) (bytes : ArrayVec ℕ) → disputes state bytes.items ≡ true
    → is_noticed (heard_step outcomes station live (heard_of station.identity (Frame bytes))) ≡ true
unfolding heard_of disputes
conflict_noticed outcomes station live state bytes e = layers_noticed outcomes station live state (frame_of bytes.items) e

-- what is neither dropped nor answered is no conflict
neither : (disputed dropped sent : Bool) → (disputed ≡ true → (dropped || sent) ≡ true) → dropped ≡ false → sent ≡ false → disputed ≡ false
neither true true sent noticed d s = d
neither true false sent noticed d s = sym (noticed refl) ∙ s
neither false dropped sent noticed d s = refl

pub conflicts_are_noticed : ConflictsAreNoticed
conflicts_are_noticed outcomes station live state (Frame bytes) dropped silent =
    let step = heard_step outcomes station live (heard_of station.identity (Frame bytes)) in
    neither (disputes state.ip bytes.items) (is_dropped step.note) (has_any step.frames)
    (λ conflict. conflict_noticed outcomes station live state.ip bytes conflict) dropped silent
conflicts_are_noticed outcomes station live state (Call caller address octets) dropped silent = tt
conflicts_are_noticed outcomes station live state Tick dropped silent = tt
conflicts_are_noticed outcomes station live state (Application local) dropped silent = tt
conflicts_are_noticed outcomes station live state (Neighbour neighbour) dropped silent = tt

pub undisputed : {F : Type 0} {S : ℕ} (as_flash : Flash F S) (old new : device.State F) (event : Event) (sent : List (List ℕ)) (said : Note) (state : Serving)
    → Steps as_flash old (heard_of old.station.identity event) sent said new → is_dropped said ≡ false → has_any sent ≡ false → IsUndisputed state event
undisputed as_flash old new event sent said state steps dropped silent =
    conflicts_are_noticed steps.outcomes old.station old.live state event
    (sym (ap is_dropped steps.note) ∙ dropped) (sym (ap has_any steps.frames) ∙ silent)
