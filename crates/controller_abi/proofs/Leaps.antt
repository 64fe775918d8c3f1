-- Units of time that pass at once: those before the last one send nothing and end nothing.
use Rattle.std.proofs.Common.{◌≡◌, ◌+◌, ◌≤◌, ◌<◌, ◌++◌, ℕ, zero, suc, Bool, true, false, List, [], ◌∷◌, drop, refl, sym, ap, subst, ◌∙◌, arith, inl, inr}
use Rattle.std.specs.Prelude.{◌||◌, ◌&&◌, not}
use Rattle.controller_core.specs.declared.stored.event.Event.{Event}
use Rattle.controller_core.specs.declared.stored.event.Event.TheVariants.{Tick}
use Rattle.controller_core.specs.declared.stored.state.State as phase
use Rattle.controller_core.specs.Leaps.{NoneEnds, OnlyTheLastEnds, ticks_of}
use Rattle.controller_core.specs.Machine.{step_of}
use Rattle.controller_core.specs.stored.State.{Controlling}
use Rattle.controller_station.specs.Beside as services
use Rattle.controller_station.specs.Beside.{Beside, sent_by_tick, ticked}
use Rattle.controller_station.specs.Runs.{IsSilent}
use Rattle.controller_station.specs.Served.{Frames, Served, in_order}
use Rattle.controller_station.specs.Leaps.{NoneSends, OnlyTheLastSends, sent_beside}
use Rattle.controller_abi.specs.State.{after as after_event}
use Rattle.controller_abi.specs.State.{IsKnown, State, advanced, has_frames, is_over, is_stopped, port_due_in}
use Rattle.controller_abi.specs.Steps.{Ticks}

-- ---- units at once

pub none_of : (frames : List (List ℕ)) → has_frames frames ≡ false → frames ≡ []
none_of [] none = refl
none_of (frame ∷ frames) none = cc none

first_false : (a b : Bool) → (a || b) ≡ false → a ≡ false
first_false true b none = cc none
first_false false b none = refl

pub idle_of : (port : State) (was_over : Bool) → is_stopped was_over port ≡ false → has_frames port.frames ≡ false
idle_of port was_over free = first_false (has_frames port.frames) (not was_over && is_over port.controller.live.phase) free

-- The port after this many units, one by one, with all that they sent.
abbrev at : ℕ → State → State
at units port = record {
  controller = (ticks_of units port.controller).controller;
  services = services.ticks_of units port.services;
  frames = (ticks_of units port.controller).frames ++ sent_beside units port.services;
  is_started = port.is_started;
}

abbrev both : State → Served
both port = record { controller = port.controller; services = port.services }

abbrev pub with_frames : Bool → Controlling → Beside → List (List ℕ) → State
with_frames is_started controller services frames = record { controller = controller; services = services; frames = frames; is_started = is_started }

abbrev stopped_by : Bool → List (List ℕ) → phase.State → Bool
stopped_by was_over frames phase = has_frames frames || (not was_over && is_over phase)

pub ticks_all : (was_over : Bool) (units : ℕ) (old : State) → has_frames old.frames ≡ false → is_stopped was_over old ≡ false → OnlyTheLastSends units (both old) → OnlyTheLastEnds units old.controller
    → Ticks was_over units old (at units old)
ticks_all was_over zero old idle free last ends = ap (with_frames old.is_started old.controller old.services) (sym (none_of old.frames idle))
ticks_all was_over (suc units) old idle free last ends =
    let first = ticks_of units old.controller in
    let step = step_of first.controller Tick in
    let beside = sent_by_tick (services.ticks_of units old.services) in
    let by_controller : (before : ℕ) → before ≤ units → (ticks_of before old.controller).frames ≡ [] =
    λ before earlier. ap (λ (frames : Frames). frames.controller) (last before (omega (arith, earlier))) in
    let by_services : sent_beside units old.services ≡ [] = ap (λ (frames : Frames). frames.services) (last units (omega arith)) in
    let quiet : first.frames ≡ [] = by_controller units (omega arith) in
    let none : (at units old).frames ≡ [] = ap (λ (f : List (List ℕ)). f ++ sent_beside units old.services) quiet ∙ by_services in
    let phase = ends units (omega arith) in (
      at units old,
      ticks_all was_over units old idle free (λ before earlier. last before (omega (arith, earlier))) (λ before earlier. ends before (omega (arith, earlier))),
      ap (λ (f : List (List ℕ)). stopped_by was_over f first.controller.live.phase) (none ∙ sym (none_of old.frames idle)) ∙ ap (stopped_by was_over old.frames) phase ∙ free,
      ap (λ (f : List (List ℕ)). with_frames old.is_started step.controller (ticked (services.ticks_of units old.services)) ((f ++ step.frames) ++ (sent_beside units old.services ++ beside))) quiet
          ∙ ap (λ (f : List (List ℕ)). with_frames old.is_started step.controller (ticked (services.ticks_of units old.services)) (step.frames ++ (f ++ beside))) by_services,
    )

-- The port after units with which nothing is due: the frames stay fetched.
abbrev quiet_at : ℕ → State → State
quiet_at units port = record {
  controller = (ticks_of units port.controller).controller;
  services = services.ticks_of units port.services;
  frames = port.frames;
  is_started = port.is_started;
}

pub ticks_quiet : (was_over : Bool) (units : ℕ) (old : State) → has_frames old.frames ≡ false → is_stopped was_over old ≡ false → NoneSends units (both old) → NoneEnds units old.controller
    → Ticks was_over units old (quiet_at units old)
ticks_quiet was_over units old idle free none ends =
    let now = quiet_at units old in
    let fetched : (ticks_of units old.controller).frames ++ sent_beside units old.services ≡ old.frames =
    ap in_order (none units (omega arith)) ∙ sym (none_of old.frames idle) in
    subst (Ticks was_over units old) (ap (with_frames now.is_started now.controller now.services) fetched)
    (ticks_all was_over units old idle free (λ before earlier. none before (omega (arith, earlier))) (λ before earlier. ends before (omega (arith, earlier))))

-- A port whose frames are fetched is not stopped by an end of before.
over_since : (over : Bool) → (not over && over) ≡ false
over_since true = refl
over_since false = refl

pub free_of : (port : State) → has_frames port.frames ≡ false → is_stopped (is_over port.controller.live.phase) port ≡ false
free_of port idle = ap (λ (b : Bool). b || (not (is_over port.controller.live.phase) && is_over port.controller.live.phase)) idle ∙ over_since (is_over port.controller.live.phase)

-- An event that sends nothing: the frames stay fetched.
pub silent_after : (port : State) (event : Event) (new : Served) → has_frames port.frames ≡ false → IsSilent (both port) event new
    → with_frames port.is_started new.controller new.services port.frames ≡ after_event port event
silent_after port event new idle silent =
    ap (λ (served : Served). with_frames port.is_started served.controller served.services port.frames) (sym silent.0)
    ∙ ap (with_frames port.is_started (after_event port event).controller (after_event port event).services) (none_of port.frames idle ∙ sym (ap in_order silent.1))

-- ---- what is remembered of what is due

-- If something is, it is no more than what is due.
pub known_of : (units due : ℕ) (port : State) → units < due → IsKnown due port → due ≤ port_due_in port
known_of units due port few (inl none) = absurd (omega (arith, few, none))
known_of units due port few (inr known) = known.0

-- It stays when frames are fetched: none remained.
pub known_on : (due : ℕ) (port : State) → IsKnown due port → IsKnown due (advanced port)
known_on due port (inl none) = inl none
known_on due port (inr known) = inr (known.0, ap (drop 1) known.1)

-- It stays if what is due is put off at most, and the frames stay fetched.
pub known_later : (due : ℕ) (old new : State) → port_due_in old ≤ port_due_in new → new.frames ≡ old.frames → IsKnown due old → IsKnown due new
known_later due old new later same (inl none) = inl none
known_later due old new later same (inr known) = inr (omega (arith, known.0, later), same ∙ known.1)

pub no_sooner : (due later : ℕ) → later ≡ due → due ≤ later
no_sooner due later same = omega (arith, same)

-- Units that passed after others.
pub ticks_on : (was_over : Bool) (units more : ℕ) (old between new : State) → Ticks was_over units old between → Ticks was_over more between new → Ticks was_over (more + units) old new
ticks_on was_over units zero old between new ticks same =
    let none : units ≡ zero + units = omega arith in
    subst (λ (s : State). Ticks was_over (zero + units) old s) (sym same) (subst (λ (n : ℕ). Ticks was_over n old between) none ticks)
ticks_on was_over units (suc more) old between new ticks last =
    let one : suc (more + units) ≡ suc more + units = omega arith in
    subst (λ (n : ℕ). Ticks was_over n old new) one (last.0, ticks_on was_over units more old between last.0 ticks last.1, last.2, last.3)
