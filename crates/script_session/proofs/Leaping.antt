-- Units of time at once, at either end, as that many events.
use Rattle.std.proofs.Common.{◌≡◌, ℕ, zero, suc, Bool, true, false, List, [], ◌++◌, replicate, append_assoc, append-nil, refl, ap, subst, sym, ◌∙◌, Option, Some, None}
use Rattle.flash_model.specs.declared.memory.MemoryFlash.{MemoryFlash}
use Rattle.device_frames.specs.declared.event.Event.TheVariants as event
use Rattle.device_frames.specs.Heard.{heard_of}
use Rattle.device_core.specs.State.{Live, State, Station as Device}
use Rattle.device_core.specs.Machine.{handled_step, heard_step, step_of}
use Rattle.device_core.specs.Leaps.{Leapt, and_then, then_leap, ticks_of}
use Rattle.device_station.specs.Serving.{Serving}
use Rattle.device_station.specs.State.{Frames, in_order}
use Rattle.device_station.specs.Leaps.{Leapt as BothLeapt, then_leap as both_then, tick_of as both_tick, ticks_of as both_ticks_of, told_at, told_if}
use Rattle.controller_core.specs.declared.stored.event.Event.TheVariants as heard
use Rattle.controller_core.specs.stored.State.{Controlling}
use Rattle.controller_core.specs.Machine.{Stepped as ControllerRun, step_of as controller_step}
use Rattle.controller_core.specs.Leaps.{and_then as and_heard, ticks_of as controller_ticks_of}
use Rattle.script_session.specs.Ends.{Running, Station, Other, DeviceRun, controller_run, device_run, printed_for, with_sent}
use Rattle.script_session.specs.Power.{Runs}
use Rattle.script_session.specs.Session.{IsLeapt, IsRunOf}
use Rattle.script_session.proofs.Begins.{running_of}

-- ---- the device alone

abbrev leapt_to : Live → List (List ℕ) → Leapt
leapt_to live frames = record { live = live; frames = frames }

abbrev and_tick : Device → Leapt → Leapt
and_tick device before = and_then before (step_of [] device before.live event.Tick)

-- The first unit, and then the others.
ticks_first : (device : Device) (live : Live) (units : ℕ)
    → ticks_of (suc units) device live
    ≡ then_leap (leapt_to (step_of [] device live event.Tick).live (step_of [] device live event.Tick).frames) (ticks_of units device (step_of [] device live event.Tick).live)
ticks_first device live zero =
    let step = step_of [] device live event.Tick in
    ap (leapt_to step.live) (sym (append-nil step.frames))
ticks_first device live (suc units) =
    let step = step_of [] device live event.Tick in
    let later = ticks_of units device step.live in
    let last = step_of [] device later.live event.Tick in
    ap (and_tick device) (ticks_first device live units) ∙ ap (leapt_to last.live) (append_assoc step.frames later.frames last.frames)

abbrev place_of : Device → Live → Option Serving → Station
place_of device live had = record { device = device; live = live; services = had }

abbrev ran : Device → Leapt → DeviceRun
ran device leapt = record { station = place_of device leapt.live None; frames = leapt.frames }

abbrev and_run : List (List ℕ) → DeviceRun → DeviceRun
and_run frames later = record { station = later.station; frames = frames ++ later.frames }

device_ticks : (device : Device) (live : Live) (units : ℕ) → device_run (place_of device live None) (replicate units event.Tick) ≡ ran device (ticks_of units device live)
device_ticks device live zero = refl
device_ticks device live (suc units) =
    let step = step_of [] device live event.Tick in
    ap (and_run step.frames) (device_ticks device step.live units) ∙ ap (ran device) (sym (ticks_first device live units))

-- A unit of time calls no flash, so none of its calls fails.
tick_keeps : (device : Device) (live : Live) → (step_of [] device live event.Tick).live.values.has_failed ≡ live.values.has_failed
unfolding heard_of heard_step handled_step
tick_keeps device live = refl

ticks_keep : (device : Device) (live : Live) (units : ℕ) → (ticks_of units device live).live.values.has_failed ≡ live.values.has_failed
ticks_keep device live zero = refl
ticks_keep device live (suc units) = tick_keeps device (ticks_of units device live).live ∙ ticks_keep device live units

-- ---- the device, and the services beside it

abbrev both_to : Live → Serving → List (List ℕ) → BothLeapt
both_to live state frames = record { live = live; services = state; frames = frames }

abbrev and_both : Device → BothLeapt → BothLeapt
and_both device before = both_then before (both_tick device before.live before.services)

both_first : (device : Device) (live : Live) (state : Serving) (units : ℕ)
    → both_ticks_of (suc units) device live state
    ≡ both_then (both_tick device live state) (both_ticks_of units device (both_tick device live state).live (both_tick device live state).services)
both_first device live state zero =
    let step = both_tick device live state in
    ap (both_to step.live step.services) (sym (append-nil step.frames))
both_first device live state (suc units) =
    let step = both_tick device live state in
    let later = both_ticks_of units device step.live step.services in
    let last = both_tick device later.live later.services in
    ap (and_both device) (both_first device live state units) ∙ ap (both_to last.live last.services) (append_assoc step.frames later.frames last.frames)

abbrev both_ran : Device → BothLeapt → DeviceRun
both_ran device leapt = record { station = place_of device leapt.live (Some leapt.services); frames = leapt.frames }

both_ticks : (device : Device) (live : Live) (state : Serving) (units : ℕ)
    → device_run (place_of device live (Some state)) (replicate units event.Tick) ≡ both_ran device (both_ticks_of units device live state)
both_ticks device live state zero = refl
both_ticks device live state (suc units) =
    let step = both_tick device live state in
    ap (and_run step.frames) (both_ticks device step.live step.services units) ∙ ap (both_ran device) (sym (both_first device live state units))

told_keeps : (b : Bool) (device : Device) (live : Live) (state : Serving) → (told_if b device live state).live.values.has_failed ≡ live.values.has_failed
unfolding heard_of heard_step handled_step
told_keeps true device live state = refl
told_keeps false device live state = refl

both_keeps : (device : Device) (live : Live) (state : Serving) (units : ℕ) → (both_ticks_of units device live state).live.values.has_failed ≡ live.values.has_failed
both_keeps device live state zero = refl
both_keeps device live state (suc units) =
    let before = both_ticks_of units device live state in
    tick_keeps device (told_at device before.live before.services).live
    ∙ (told_keeps before.services.has_news device before.live before.services ∙ both_keeps device live state units)

-- ---- several units at once

abbrev with_live : State (MemoryFlash 4096) → Live → State (MemoryFlash 4096)
with_live device live = record device { live = live }

-- The place of a running device.
its_place : (station : Station) (old : State (MemoryFlash 4096)) (had : Option Serving) → Runs station (running_of old had) → place_of old.station old.live had ≡ station
its_place station old had runs =
    ap (λ (d : Device). place_of d old.live had) runs.station_is
    ∙ (ap (λ (l : Live). place_of station.device l had) runs.live_is ∙ ap (place_of station.device station.live) runs.services_are)

pub leapt_alone : (station : Station) (old new : State (MemoryFlash 4096)) (units : ℕ) (outbox : Frames) → Runs station (running_of old None)
    → new ≡ with_live old (ticks_of units old.station old.live).live → outbox.device ≡ (ticks_of units old.station old.live).frames → outbox.services ≡ []
    → IsLeapt (device_run station (replicate units event.Tick)) (running_of new None) outbox
leapt_alone station old new units outbox runs is frames silent =
    let leapt = ticks_of units old.station old.live in
    let run : ran old.station leapt ≡ device_run station (replicate units event.Tick) =
    sym (device_ticks old.station old.live units) ∙ ap (λ (s : Station). device_run s (replicate units event.Tick)) (its_place station old None runs) in
    let there : IsLeapt (ran old.station leapt) (running_of (with_live old leapt.live) None) outbox = record {
      runs = record {
        station_is = refl;
        live_is = refl;
        services_are = refl;
        reliable = runs.reliable;
        unfailed = ticks_keep old.station old.live units ∙ runs.unfailed;
        left = runs.left;
      };
      frames = ap (λ (s : List (List ℕ)). outbox.device ++ s) silent ∙ (append-nil outbox.device ∙ frames);
    } in
    subst (λ (r : DeviceRun). IsLeapt r (running_of new None) outbox) run
    (subst (λ (d : State (MemoryFlash 4096)). IsLeapt (ran old.station leapt) (running_of d None) outbox) (sym is) there)

pub leapt_beside : (station : Station) (old new : State (MemoryFlash 4096)) (had after : Serving) (units : ℕ) (outbox : Frames) → Runs station (running_of old (Some had))
    → new ≡ with_live old (both_ticks_of units old.station old.live had).live → after ≡ (both_ticks_of units old.station old.live had).services
    → in_order outbox ≡ (both_ticks_of units old.station old.live had).frames
    → IsLeapt (device_run station (replicate units event.Tick)) (running_of new (Some after)) outbox
leapt_beside station old new had after units outbox runs is so frames =
    let leapt = both_ticks_of units old.station old.live had in
    let run : both_ran old.station leapt ≡ device_run station (replicate units event.Tick) =
    sym (both_ticks old.station old.live had units) ∙ ap (λ (s : Station). device_run s (replicate units event.Tick)) (its_place station old (Some had) runs) in
    let there : IsLeapt (both_ran old.station leapt) (running_of (with_live old leapt.live) (Some leapt.services)) outbox = record {
      runs = record {
        station_is = refl;
        live_is = refl;
        services_are = refl;
        reliable = runs.reliable;
        unfailed = both_keeps old.station old.live had units ∙ runs.unfailed;
        left = runs.left;
      };
      frames = frames;
    } in
    subst (λ (r : DeviceRun). IsLeapt r (running_of new (Some after)) outbox) run
    (subst (λ (s : Serving). IsLeapt (both_ran old.station leapt) (running_of new (Some s)) outbox) (sym so)
    (subst (λ (d : State (MemoryFlash 4096)). IsLeapt (both_ran old.station leapt) (running_of d (Some leapt.services)) outbox) (sym is) there))

-- The frames of a leap were sent.
pub leapt_sent : (run : DeviceRun) (device : Running) (far other : Other) (before now : List ℕ) (outbox : Frames) → IsLeapt run device outbox
    → (other ≡ with_sent far (in_order outbox)) × (now ≡ before ++ printed_for far.controller (in_order outbox)) → IsRunOf run device far other before now
leapt_sent run device far other before now outbox leapt sent = record {
  runs = leapt.runs;
  waits = sent.0 ∙ ap (with_sent far) leapt.frames;
  text = sent.1 ∙ ap (λ (f : List (List ℕ)). before ++ printed_for far.controller f) leapt.frames;
}

-- ---- the controller

abbrev heard_to : Controlling → List (List ℕ) → ControllerRun
heard_to controller frames = record { controller = controller; frames = frames }

abbrev and_heard_tick : ControllerRun → ControllerRun
and_heard_tick before = and_heard before (controller_step before.controller heard.Tick)

controller_first : (controller : Controlling) (units : ℕ)
    → controller_ticks_of (suc units) controller ≡ and_heard (controller_step controller heard.Tick) (controller_ticks_of units (controller_step controller heard.Tick).controller)
controller_first controller zero =
    let step = controller_step controller heard.Tick in
    ap (heard_to step.controller) (sym (append-nil step.frames))
controller_first controller (suc units) =
    let step = controller_step controller heard.Tick in
    let later = controller_ticks_of units step.controller in
    let last = controller_step later.controller heard.Tick in
    ap and_heard_tick (controller_first controller units) ∙ ap (heard_to last.controller) (append_assoc step.frames later.frames last.frames)

pub controller_ticks : (controller : Controlling) (units : ℕ) → controller_ticks_of units controller ≡ controller_run controller (replicate units heard.Tick)
controller_ticks controller zero = refl
controller_ticks controller (suc units) =
    let step = controller_step controller heard.Tick in
    controller_first controller units ∙ ap (and_heard step) (controller_ticks step.controller units)
