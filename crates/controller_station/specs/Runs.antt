-- A controller and what is beside it over any list of events.
use Rattle.std.specs.Prelude.{◌≡◌, ◌⊎◌, ℕ, List, [], ◌∷◌, Some}
use Rattle.controller_core.specs.declared.stored.event.Event.{Event}
use Rattle.controller_core.specs.declared.stored.event.Event.TheVariants.{Frame}
use Rattle.controller_core.specs.Machine.{step_of}
use Rattle.controller_core.specs.stored.State.{Controlling}
use Rattle.controller_dcp.specs.Station as dcp
use Rattle.controller_station.specs.Served.{Frames, Served, answered, beside, by_services, no_frames, services_after}

-- The controller alone after these events.
abbrev pub alone : Controlling → List Event → Controlling
alone controller [] = controller
alone controller (event ∷ events) = alone (step_of controller event).controller events

-- What the controller alone sends, event by event.
abbrev pub sent_alone : Controlling → List Event → List (List (List ℕ))
sent_alone controller [] = []
sent_alone controller (event ∷ events) = (step_of controller event).frames ∷ sent_alone (step_of controller event).controller events

-- Both after an event.
abbrev pub after_event : Served → Event → Served
after_event served event = record {
  controller = (step_of served.controller event).controller;
  services = services_after served.services event (step_of served.controller event).frames;
}

-- Both after these events.
abbrev pub after : Served → List Event → Served
after served [] = served
after served (event ∷ events) = after (after_event served event) events

-- What the controller and its services send at an event.
abbrev pub sent_at : Served → Event → Frames
sent_at served event = record {
  controller = (step_of served.controller event).frames;
  services = beside served.services event (step_of served.controller event).frames;
}

-- All that the station sends at an event: the same, and its answers as a DCP station.
abbrev pub all_at : Served → Event → Frames
all_at served event = answered served.controller.setup.plan event (sent_at served event)

-- The frames that a station sends at each of these events.
abbrev pub sent : Served → List Event → List Frames
sent served [] = []
sent served (event ∷ events) = all_at served event ∷ sent (after_event served event) events

-- This event ends in this state of both, and sends nothing.
abbrev pub IsSilent : Served → Event → Served → Type 0
IsSilent old event new = (after_event old event ≡ new) × (all_at old event ≡ no_frames)

-- At an event the station sends what the controller and its services send; or these send nothing, and it sends this one answer of the DCP
-- station to these octets.
abbrev pub SendsOrTells : Served → Event → Type 0
SendsOrTells served event =
    (all_at served event ≡ sent_at served event)
    ⊎ ((octets frame : List ℕ) × (event ≡ Frame (record { items = octets })) × (dcp.answer_to served.controller.setup.plan octets ≡ Some frame)
    × (sent_at served event ≡ no_frames) × (all_at served event ≡ by_services frame))
