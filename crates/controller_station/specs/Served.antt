-- A controller, and all that is beside it.
use Rattle.std.specs.Prelude.{◌≡◌, ◌++◌, ◌&&◌, ◌||◌, not, ℕ, Bool, List, [], ◌∷◌, drop, Option, Some, None, nat_eq}
use Rattle.std.specs.Cmp.Lexicographic.{pointwise}
use Rattle.std.specs.List.{cons_option}
use Rattle.pn_values.specs.declared.mac.Mac.{Mac}
use Rattle.pn_values.specs.IpSuite.{is_zero}
use Rattle.frame_codec.specs.declared.arp.Arp.{Arp}
use Rattle.services.specs.State.{broadcast, frames_in}
use Rattle.services.specs.Answer.{answer_to, is_request}
use Rattle.plans.specs.declared.parts.Controller.{Controller}
use Rattle.plans.specs.declared.parts.Parts.{Parts}
use Rattle.controller_dcp.specs.Station as dcp
use Rattle.controller_messages.specs.declared.setup.Setup.{Setup}
use Rattle.controller_core.specs.declared.stored.event.Event.{Event}
use Rattle.controller_core.specs.declared.stored.event.Event.TheVariants.{Frame, Tick, Give, Status, Read, Write, Stop}
use Rattle.controller_core.specs.Machine.{first}
use Rattle.controller_core.specs.stored.State.{Controlling}
use Rattle.controller_station.specs.Beside.{Beside, beside_at, heard, sent_by_tick, ticked}

-- The controller, and what is beside it: the services of its IP address and its neighbour.
pub record Served : Type 0 where
  pub controller : Controlling
  pub services : Beside

-- The frames that an event sends: those of the controller, and those of what is beside it, which are sent after them.
pub record Frames : Type 0 where
  pub controller : List (List ℕ)
  pub services : List (List ℕ)

-- All frames, in the order in which they are sent.
abbrev pub in_order : Frames → List (List ℕ)
in_order frames = frames.controller ++ frames.services

-- The frame at a place of these, if there is one.
abbrev pub IsFrameAt : List (List ℕ) → ℕ → Option (List ℕ) → Type 0
IsFrameAt frames place (Some frame) = (rest : List (List ℕ)) × (drop place frames ≡ frame ∷ rest)
IsFrameAt frames place None = drop place frames ≡ []

-- Nothing is sent.
abbrev pub no_frames : Frames
no_frames = record { controller = []; services = [] }

-- Only this answer of the services is sent, if there is one.
abbrev pub only : Option (List ℕ) → Frames
only answer = record { controller = []; services = frames_in answer }

-- Only what is beside sends, and only this frame.
abbrev pub by_services : List ℕ → Frames
by_services frame = record { controller = []; services = frame ∷ [] }

-- The controller of this configuration at its start, and what is beside the controller of its plan.
abbrev pub begun : Setup → Served
begun setup = record { controller = record { setup = setup; live = first setup.plan }; services = beside_at setup.plan.controller }

-- ---- a step of what is beside

-- What is sent beside for a frame to which the controller sends these frames: the answer of the services of the IP address,
-- if the controller sends none.
abbrev pub beside_frame : Beside → List ℕ → List (List ℕ) → List (List ℕ)
beside_frame services octets [] = frames_in (answer_to services.ip octets)
beside_frame services octets (frame ∷ frames) = []

-- What is sent beside at an event at which the controller sends these frames.
abbrev pub beside : Beside → Event → List (List ℕ) → List (List ℕ)
beside services (Frame octets) frames = beside_frame services octets.items frames
beside services Tick frames = sent_by_tick services
beside services (Give slot subslot value) frames = []
beside services (Status slot subslot is_good) frames = []
beside services (Read slot subslot index) frames = []
beside services (Write slot subslot index octets) frames = []
beside services Stop frames = []

-- What is beside after a frame to which the controller sends these frames.
abbrev pub after_frame : Beside → List ℕ → List (List ℕ) → Beside
after_frame services octets [] = heard services octets
after_frame services octets (frame ∷ frames) = services

-- What is beside after an event at which the controller sends these frames.
abbrev pub services_after : Beside → Event → List (List ℕ) → Beside
services_after services (Frame octets) frames = after_frame services octets.items frames
services_after services Tick frames = ticked services
services_after services (Give slot subslot value) frames = services
services_after services (Status slot subslot is_good) frames = services
services_after services (Read slot subslot index) frames = services
services_after services (Write slot subslot index octets) frames = services
services_after services Stop frames = services

-- ---- the controller as a DCP station

-- What is sent beside for a frame to which the controller and its services send these frames: if both send none, the answer of the
-- controller as a DCP station, which depends on its plan and the frame alone.
abbrev pub told_frame : Parts → List ℕ → List (List ℕ) → List (List ℕ) → List (List ℕ)
told_frame plan octets [] [] = cons_option (dcp.answer_to plan octets) []
told_frame plan octets [] (frame ∷ frames) = frame ∷ frames
told_frame plan octets (frame ∷ frames) services = services

-- What is sent beside at an event at which the controller of this plan and its services send these frames: only frames are answered.
abbrev pub told_at : Parts → Event → List (List ℕ) → List (List ℕ) → List (List ℕ)
told_at plan (Frame octets) controller services = told_frame plan octets.items controller services
told_at plan Tick controller services = services
told_at plan (Give slot subslot value) controller services = services
told_at plan (Status slot subslot is_good) controller services = services
told_at plan (Read slot subslot index) controller services = services
told_at plan (Write slot subslot index octets) controller services = services
told_at plan Stop controller services = services

-- All frames that an event sends, if the controller of this plan and its services send these.
abbrev pub answered : Parts → Event → Frames → Frames
answered plan event sent = record { controller = sent.controller; services = told_at plan event sent.controller sent.services }

-- ---- what is answered, by the plan

-- Whether this is the controller's address, and not all zeros.
abbrev pub is_running : Controller → List ℕ → Bool
is_running controller address = pointwise nat_eq address controller.address && not (is_zero address)

-- Whether this is the controller's MAC address.
abbrev pub is_own : Controller → Mac → Bool
is_own controller mac = pointwise nat_eq mac.octets controller.mac.octets

-- Whether a packet of ARP to this destination asks for the controller's address, and goes to the controller or to all.
abbrev pub is_sought : Served → Mac → Arp → Bool
is_sought served destination packet =
    let controller = served.controller.setup.plan.controller in
    is_request packet.operation && (is_own controller destination || pointwise nat_eq destination.octets broadcast)
    && is_running controller packet.target.address
