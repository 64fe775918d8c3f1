-- What is beside makes of the frames that the controller does not answer.
use Rattle.std.proofs.Common.{◌≡◌, ◌≢◌, ◌≤◌, ℕ, Bool, true, false, List, [], ◌∷◌, Result, Ok, Err, length, refl, ap, ◌∙◌, arith}
use Rattle.std.specs.Prelude.{nat_eq, if◌then◌else◌}
use Rattle.std.specs.Cmp.Lexicographic.{pointwise}
use Rattle.pn_values.specs.declared.mac.Mac.{Mac}
use Rattle.frame_codec.specs.declared.arp.Arp.{Arp}
use Rattle.frame_codec.specs.declared.fault.FrameFault.{FrameFault}
use Rattle.frame_codec.specs.Meaning.{Meaning, Content, RealTime, ArpPacket, UdpDatagram}
use Rattle.frame_codec.specs.Frame.{frame_bytes, frame_of}
use Rattle.services.specs.declared.announcement.Role.TheVariants as role
use Rattle.services.specs.State.{State, disputed}
use Rattle.services.specs.Answer.{after_content, after_layers, answer_to, arp_answer, arp_reply_of, heard, is_conflict}
use Rattle.services.specs.Answer.{is_sought as sought_of}
use Rattle.plans.specs.declared.parts.Controller.{Controller}
use Rattle.controller_messages.specs.Heard.{Nothing, heard_of}
use Rattle.controller_core.specs.declared.stored.event.Event.{Event}
use Rattle.controller_core.specs.declared.stored.event.Event.TheVariants.{Frame as Framed, Tick, Give, Status, Read, Write, Stop}
use Rattle.controller_core.specs.Machine.{step_of}
use Rattle.controller_core.specs.stored.State.{Controlling}
use Rattle.controller_station.specs.Beside.{Beside, is_real_time, met, overheard}
use Rattle.controller_station.specs.Runs.{sent_at}
use Rattle.controller_station.specs.Served.{Served, after_frame, beside, beside_frame, by_services, is_sought, no_frames, only, services_after}
use Rattle.controller_station.proofs.Ticks.{few_by_tick, few_in}

-- ---- what the services of the IP address are does not change

kept_if : (b : Bool) (state : State) → ((if b then disputed state else state).role ≡ state.role) × ((if b then disputed state else state).mac ≡ state.mac) × ((if b then disputed state else state).address ≡ state.address)
kept_if true state = (refl, refl, refl)
kept_if false state = (refl, refl, refl)

kept_content : (state : State) (content : Content) → ((after_content state content).role ≡ state.role) × ((after_content state content).mac ≡ state.mac) × ((after_content state content).address ≡ state.address)
kept_content state (RealTime frame_id body) = (refl, refl, refl)
kept_content state (ArpPacket packet) = kept_if (is_conflict state packet.sender) state
kept_content state (UdpDatagram from to body) = (refl, refl, refl)

kept_layers : (state : State) (layers : Result Meaning FrameFault) → ((after_layers state layers).role ≡ state.role) × ((after_layers state layers).mac ≡ state.mac) × ((after_layers state layers).address ≡ state.address)
kept_layers state (Ok meaning) = kept_content state meaning.content
kept_layers state (Err fault) = (refl, refl, refl)

-- A frame changes neither role nor MAC address nor IP address.
pub heard_keeps : (state : State) (octets : List ℕ) → ((heard state octets).role ≡ state.role) × ((heard state octets).mac ≡ state.mac) × ((heard state octets).address ≡ state.address)
unfolding heard
heard_keeps state octets = kept_layers state (frame_of octets)

any_keeps : (real : Bool) (state : Beside) (octets : List ℕ)
    → ((if real then state else overheard (met state octets) octets).ip.role ≡ state.ip.role) × ((if real then state else overheard (met state octets) octets).ip.mac ≡ state.ip.mac) × ((if real then state else overheard (met state octets) octets).ip.address ≡ state.ip.address)
any_keeps true state octets = (refl, refl, refl)
any_keeps false state octets = heard_keeps state.ip octets

pub frame_keeps : (state : Beside) (octets : List ℕ) (frames : List (List ℕ))
    → ((after_frame state octets frames).ip.role ≡ state.ip.role) × ((after_frame state octets frames).ip.mac ≡ state.ip.mac) × ((after_frame state octets frames).ip.address ≡ state.ip.address)
frame_keeps state octets [] = any_keeps (is_real_time (frame_of octets)) state octets
frame_keeps state octets (frame ∷ frames) = (refl, refl, refl)

-- ---- one list of frames

-- What is beside neither hears nor answers a frame that the controller answered.
pub answered_already : (state : Beside) (octets : List ℕ) (frames : List (List ℕ)) → length frames ≢ 0 → (after_frame state octets frames ≡ state) × (beside_frame state octets frames ≡ [])
answered_already state octets [] some = absurd (some refl)
answered_already state octets (frame ∷ frames) some = (refl, refl)

-- ---- what they are, over a step

pub step_keeps : (state : Beside) (event : Event) (frames : List (List ℕ))
    → ((services_after state event frames).ip.role ≡ state.ip.role) × ((services_after state event frames).ip.mac ≡ state.ip.mac) × ((services_after state event frames).ip.address ≡ state.ip.address)
step_keeps state (Framed octets) frames = frame_keeps state octets.items frames
step_keeps state Tick frames = (refl, refl, refl)
step_keeps state (Give slot subslot value) frames = (refl, refl, refl)
step_keeps state (Status slot subslot is_good) frames = (refl, refl, refl)
step_keeps state (Read slot subslot index) frames = (refl, refl, refl)
step_keeps state (Write slot subslot index octets) frames = (refl, refl, refl)
step_keeps state Stop frames = (refl, refl, refl)

-- A step of the controller keeps its plan.
pub plan_kept : (old : Controlling) (event : Event) → (step_of old event).controller.setup ≡ old.setup
unfolding step_of
plan_kept old event = refl

few_frames : (state : Beside) (octets : List ℕ) (frames : List (List ℕ)) → length (beside_frame state octets frames) ≤ 2
few_frames state octets [] = omega (arith, few_in (answer_to state.ip octets))
few_frames state octets (frame ∷ frames) = omega arith

pub few_beside : (state : Beside) (event : Event) (frames : List (List ℕ)) → length (beside state event frames) ≤ 2
few_beside state (Framed octets) frames = few_frames state octets.items frames
few_beside state Tick frames = few_by_tick state
few_beside state (Give slot subslot value) frames = omega arith
few_beside state (Status slot subslot is_good) frames = omega arith
few_beside state (Read slot subslot index) frames = omega arith
few_beside state (Write slot subslot index octets) frames = omega arith
few_beside state Stop frames = omega arith

-- ---- frames that are for the services

either_nothing : (b : Bool) → (if b then Nothing else Nothing) ≡ Nothing
either_nothing true = refl
either_nothing false = refl

-- A controller drops each packet of ARP.
arp_unheard : (controller : Controller) (octets : List ℕ) (meaning : Meaning) (packet : Arp) → frame_of octets ≡ Ok meaning → meaning.content ≡ ArpPacket packet → heard_of controller octets ≡ Nothing
unfolding heard_of
arp_unheard controller octets meaning packet e f = rw (e, f) (either_nothing (pointwise nat_eq meaning.destination.octets controller.mac.octets))

-- To what it drops it sends nothing.
pub silent : (old : Controlling) (octets : List ℕ) → heard_of old.setup.plan.controller octets ≡ Nothing → (step_of old (Framed (record { items = octets }))).frames ≡ []
unfolding step_of
silent old octets e = rw e refl

module _ (served : Served) (as_controller : served.services.ip.role ≡ role.Controller) (as_mac : served.services.ip.mac ≡ served.controller.setup.plan.controller.mac) (as_address : served.services.ip.address ≡ served.controller.setup.plan.controller.address) (octets : List ℕ) where
  pub alone_sent : heard_of served.controller.setup.plan.controller octets ≡ Nothing → sent_at served (Framed (record { items = octets })) ≡ only (answer_to served.services.ip octets)
  alone_sent e = rw (silent served.controller octets e) refl

  same_sought : (destination : Mac) (packet : Arp) → sought_of served.services.ip destination packet ≡ is_sought served destination packet
  same_sought destination packet = rw (as_controller, as_mac, as_address) refl

  module _ (meaning : Meaning) (packet : Arp) (e : frame_of octets ≡ Ok meaning) (f : meaning.content ≡ ArpPacket packet) where
    arp_is : answer_to served.services.ip octets ≡ arp_answer served.services.ip meaning.destination meaning.source packet
    unfolding answer_to
    arp_is = rw (e, f) refl

    arp_alone : sent_at served (Framed (record { items = octets })) ≡ only (arp_answer served.services.ip meaning.destination meaning.source packet)
    arp_alone = alone_sent (arp_unheard served.controller.setup.plan.controller octets meaning packet e f) ∙ ap only arp_is

    pub arp_answered : is_sought served meaning.destination packet ≡ true → sent_at served (Framed (record { items = octets }))
        ≡ by_services (frame_bytes (arp_reply_of served.controller.setup.plan.controller.mac served.controller.setup.plan.controller.address meaning.source packet.sender))
    arp_answered sought = arp_alone ∙ rw (same_sought meaning.destination packet ∙ sought, as_mac, as_address) refl

    pub arp_dropped : is_sought served meaning.destination packet ≡ false → sent_at served (Framed (record { items = octets })) ≡ no_frames
    arp_dropped sought = arp_alone ∙ rw (same_sought meaning.destination packet ∙ sought) refl
