-- A step of the station with services, over a flash whose calls do not fail.
use Rattle.std.proofs.Common.{◌≡◌, ◌++◌, ℕ, Bool, true, false, List, [], Option, Some, None, refl, sym, ap, subst, ◌∙◌}
use Rattle.flash_model.specs.declared.flash.Flash.{Ghosts as Flash}
use Rattle.flash_model.specs.declared.memory.MemoryFlash.{MemoryFlash}
use Rattle.flash_model.specs.Memory.{image_of, IsReliable}
use Rattle.settings_journal.specs.Image.{LeftByDevice}
use Rattle.device_frames.specs.declared.event.Event.{Event}
use Rattle.device_frames.specs.declared.note.Note.{Note}
use Rattle.device_frames.specs.Heard.{heard_of}
use Rattle.device_core.specs.State.{Live, State, Station as Device}
use Rattle.device_core.specs.Machine.{Stepped, handled_step, heard_step, step_of}
use Rattle.device_station.specs.Beside.{Beside, beside, joined_beside}
use Rattle.device_station.specs.Leaps.{told_at, told_if}
use Rattle.device_station.specs.Serving.{Serving}
use Rattle.device_station.specs.State.{Frames}
use Rattle.device_station.specs.Steps.{Gives, StationSteps, StationTakes, station_of}
use Rattle.script_session.specs.Ends.{Station, given, station_step}
use Rattle.script_session.specs.Power.{Runs}
use Rattle.script_session.specs.Session.{IsStepped}
use Rattle.script_session.proofs.Begins.{running_of}

abbrev place_of : Device → Live → Option Serving → Station
place_of device live had = record { device = device; live = live; services = had }

told_keeps : (b : Bool) (device : Device) (live : Live) (state : Serving) → (told_if b device live state).live.values.has_failed ≡ live.values.has_failed
unfolding heard_of heard_step handled_step
told_keeps true device live state = refl
told_keeps false device live state = refl

module _ (as_flash : Flash (MemoryFlash 4096) 4096) (fine : (flash : MemoryFlash 4096) → IsReliable flash → as_flash.is_reliable flash)
    (still : (flash : MemoryFlash 4096) → as_flash.is_reliable flash → IsReliable flash) (image : (flash : MemoryFlash 4096) → as_flash.image flash ≡ image_of flash) where
  -- the device after a step, and after the step of a call that it was given
  record AfterBoth (old new : State (MemoryFlash 4096)) (sent : List (List ℕ)) (last : Stepped) : Type 0 where
    station : new.station ≡ old.station
    live : new.live ≡ last.live
    frames : sent ≡ last.frames
    reliable : as_flash.is_reliable new.flash
    unfailed : new.live.values.has_failed ≡ false
    left : LeftByDevice (as_flash.image new.flash)

  given_at : (joined : Option Event) (old middle new : State (MemoryFlash 4096)) (first sent : List (List ℕ)) (step : Stepped) → AfterBoth old middle first step
      → Gives as_flash joined middle first sent new → AfterBoth old new sent (given old.station joined step)
  given_at None old middle new first sent step after gives =
      subst (λ (d : State (MemoryFlash 4096)). AfterBoth old d sent step) (sym gives.0)
      (subst (λ (f : List (List ℕ)). AfterBoth old middle f step) (sym gives.1) after)
  given_at (Some call) old middle new first sent step after gives =
      let now = gives.2.reliable after.reliable after.unfailed in
      let same : step_of [] middle.station middle.live call ≡ step_of [] old.station step.live call =
      ap (λ (d : Device). step_of [] d middle.live call) after.station ∙ ap (λ (l : Live). step_of [] old.station l call) after.live in
      record {
        station = now.2.same ∙ after.station;
        live = now.2.live ∙ ap (λ (s : Stepped). s.live) same;
        frames = now.2.frames ∙ ap (λ (s : Stepped). s.frames) same;
        reliable = now.0;
        unfailed = now.1;
        left = gives.2.steps.stretch.safe.left after.left;
      }

  -- the step of a device that knows its neighbour
  stepped_at : (old new : State (MemoryFlash 4096)) (had after : Serving) (event : Event) (outbox : Frames) (note : Note)
      → IsReliable old.flash → old.live.values.has_failed ≡ false → LeftByDevice (image_of old.flash)
      → (let ready = told_at old.station old.live had in
      StationSteps as_flash (station_of (record old { live = ready.live }) ready.services) event outbox note (station_of new after))
      → IsStepped (station_step (place_of old.station old.live (Some had)) event) (running_of new (Some after)) outbox note
  stepped_at old new had after event outbox note reliable unfailed left steps =
      let ready = told_at old.station old.live had in
      let told : State (MemoryFlash 4096) = record old { live = ready.live } in
      let step = step_of [] old.station ready.live event in
      let middle = steps.middle in
      let now = steps.alone.reliable (fine old.flash reliable) (told_keeps had.has_news old.station old.live had ∙ unfailed) in
      let same : beside old.station.identity ready.services middle.live.values steps.note event ≡ beside old.station.identity ready.services step.live.values step.note event =
      ap (λ (l : Live). beside old.station.identity ready.services l.values steps.note event) now.2.live
      ∙ ap (λ (n : Note). beside old.station.identity ready.services step.live.values n event) now.2.note in
      let call : joined_beside ready.services middle.live.values steps.note event ≡ joined_beside ready.services step.live.values step.note event =
      ap (λ (l : Live). joined_beside ready.services l.values steps.note event) now.2.live
      ∙ ap (λ (n : Note). joined_beside ready.services step.live.values n event) now.2.note in
      let first : AfterBoth told middle steps.first step = record {
        station = now.2.same;
        live = now.2.live;
        frames = now.2.frames;
        reliable = now.0;
        unfailed = now.1;
        left = steps.alone.steps.stretch.safe.left (subst LeftByDevice (sym (image old.flash)) left);
      } in
      let both = subst (λ (j : Option Event). AfterBoth told new outbox.device (given old.station j step)) call
      (given_at (joined_beside ready.services middle.live.values steps.note event) told middle new steps.first outbox.device step first steps.gives) in
      let last = given old.station (joined_beside ready.services step.live.values step.note event) step in
      record {
        runs = record {
          station_is = both.station;
          live_is = both.live;
          services_are = ap (λ (s : Serving). Some s) (steps.knows ∙ ap (λ (b : Beside). b.services) same);
          reliable = still new.flash both.reliable;
          unfailed = both.unfailed;
          left = subst LeftByDevice (image new.flash) both.left;
        };
        frames = ap (λ (f : List (List ℕ)). f ++ outbox.services) both.frames ∙ ap (λ (f : List (List ℕ)). last.frames ++ f) (steps.sends ∙ ap (λ (b : Beside). b.sent) same);
        note_is = steps.says ∙ ap (λ (b : Beside). b.note) same;
      }

  pub stepped : (station : Station) (old new : State (MemoryFlash 4096)) (had after : Serving) (event : Event) (outbox : Frames) (note : Note)
      → Runs station (running_of old (Some had)) → StationTakes as_flash (station_of old had) event outbox note (station_of new after)
      → IsStepped (station_step station event) (running_of new (Some after)) outbox note
  stepped station old new had after event outbox note runs takes =
      let ready = told_at old.station old.live had in
      let place : place_of old.station old.live (Some had) ≡ station =
      ap (λ (d : Device). place_of d old.live (Some had)) runs.station_is
      ∙ (ap (λ (l : Live). place_of station.device l (Some had)) runs.live_is ∙ ap (place_of station.device station.live) runs.services_are) in
      subst (λ (s : Station). IsStepped (station_step s event) (running_of new (Some after)) outbox note) place
      (stepped_at old new had after event outbox note runs.reliable runs.unfailed runs.left
      (subst (λ (d : State (MemoryFlash 4096)). StationSteps as_flash (station_of d ready.services) event outbox note (station_of new after)) takes.ready.device
      (subst (λ (s : Serving). StationSteps as_flash (station_of takes.between.device s) event outbox note (station_of new after)) takes.ready.services takes.steps)))
