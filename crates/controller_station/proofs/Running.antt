-- The controller beside the services over any list of events.
use Rattle.std.proofs.Common.{◌≡◌, List, [], ◌∷◌, map, refl, ap}
use Rattle.controller_core.specs.declared.stored.event.Event.{Event}
use Rattle.controller_core.specs.Machine.{step_of}
use Rattle.controller_station.specs.Runs.{after, after_event, alone, sent, sent_alone}
use Rattle.controller_station.specs.Served.{Frames, Served}

pub same_controller : (served : Served) (events : List Event) → (after served events).controller ≡ alone served.controller events
same_controller served [] = refl
same_controller served (event ∷ events) = same_controller (after_event served event) events

pub same_frames : (served : Served) (events : List Event) → map (λ (frames : Frames). frames.controller) (sent served events) ≡ sent_alone served.controller events
same_frames served [] = refl
same_frames served (event ∷ events) = ap (λ frames. (step_of served.controller event).frames ∷ frames) (same_frames (after_event served event) events)
