-- A step of the station, whatever its flash does: the outcomes are those that the flash chose.
use Rattle.std.proofs.Common.{◌≡◌, ◌++◌, ℕ, List, [], Option, Some, None, ap, subst, ◌∙◌}
use Rattle.std.proofs.lemmas.List.{append-nil}
use Rattle.flash_model.specs.declared.flash.Flash.{Ghosts as Flash}
use Rattle.flash_model.specs.declared.memory.MemoryFlash.{MemoryFlash}
use Rattle.settings_journal.specs.settings_store.Machine.{Outcome}
use Rattle.device_frames.specs.declared.event.Event.{Event}
use Rattle.device_frames.specs.declared.note.Note.{Note}
use Rattle.device_core.specs.State.{Live, State, Station as Device}
use Rattle.device_core.specs.Machine.{Stepped, step_of}
use Rattle.device_station.specs.Beside.{Beside, beside, joined_beside}
use Rattle.device_station.specs.Leaps.{told_at}
use Rattle.device_station.specs.Serving.{Serving}
use Rattle.device_station.specs.State.{Frames}
use Rattle.device_station.specs.Steps.{DeviceSteps, Gives, StationSteps, StationTakes, station_of}
use Rattle.script_session.specs.Ends.{Station, given_for}
use Rattle.script_session.specs.Session.{IsStepFor}
use Rattle.script_session.proofs.Begins.{running_of}

abbrev place_of : Device → Live → Option Serving → Station
place_of device live had = record { device = device; live = live; services = had }

module _ (as_flash : Flash (MemoryFlash 4096) 4096) where
  -- the device after the step of a call that it was given, if it was
  record IsGiven (device : Device) (joined : Option Event) (step : Stepped) (new : State (MemoryFlash 4096)) (sent : List (List ℕ)) : Type 0 where
    later : List Outcome
    station : new.station ≡ device
    live : new.live ≡ (given_for later device joined step).live
    frames : sent ≡ (given_for later device joined step).frames

  is_given : (device : Device) (joined : Option Event) (step : Stepped) (middle new : State (MemoryFlash 4096)) (first sent : List (List ℕ)) → middle.station ≡ device → middle.live ≡ step.live
      → first ≡ step.frames → Gives as_flash joined middle first sent new → IsGiven device joined step new sent
  is_given device None step middle new first sent station live frames gives = record {
    later = [];
    station = ap (λ (d : State (MemoryFlash 4096)). d.station) gives.0 ∙ station;
    live = ap (λ (d : State (MemoryFlash 4096)). d.live) gives.0 ∙ live;
    frames = gives.1 ∙ frames;
  }
  is_given device (Some call) step middle new first sent station live frames gives =
      let one = gives.2.steps in
      let same : step_of one.outcomes middle.station middle.live call ≡ step_of one.outcomes device step.live call =
      ap (λ (d : Device). step_of one.outcomes d middle.live call) station ∙ ap (λ (l : Live). step_of one.outcomes device l call) live in
      record {
        later = one.outcomes;
        station = one.same ∙ station;
        live = one.live ∙ ap (λ (s : Stepped). s.live) same;
        frames = one.frames ∙ ap (λ (s : Stepped). s.frames) same;
      }

  -- the step of a device that knows its neighbour
  told_step : (old new : State (MemoryFlash 4096)) (had after : Serving) (event : Event) (outbox : Frames) (note : Note)
      → (let ready = told_at old.station old.live had in
      StationSteps as_flash (station_of (record old { live = ready.live }) ready.services) event outbox note (station_of new after))
      → IsStepFor (place_of old.station old.live (Some had)) event (running_of new (Some after)) outbox note
  told_step old new had after event outbox note steps =
      let ready = told_at old.station old.live had in
      let alone = steps.alone.steps in
      let step = step_of alone.outcomes old.station ready.live event in
      let middle = steps.middle in
      let same : beside old.station.identity ready.services middle.live.values steps.note event ≡ beside old.station.identity ready.services step.live.values step.note event =
      ap (λ (l : Live). beside old.station.identity ready.services l.values steps.note event) alone.live
      ∙ ap (λ (n : Note). beside old.station.identity ready.services step.live.values n event) alone.note in
      let call : joined_beside ready.services middle.live.values steps.note event ≡ joined_beside ready.services step.live.values step.note event =
      ap (λ (l : Live). joined_beside ready.services l.values steps.note event) alone.live
      ∙ ap (λ (n : Note). joined_beside ready.services step.live.values n event) alone.note in
      let joined = joined_beside ready.services step.live.values step.note event in
      let last = is_given old.station joined step middle new steps.first outbox.device alone.same alone.live alone.frames
      (subst (λ (j : Option Event). Gives as_flash j middle steps.first outbox.device new) call steps.gives) in
      let by = given_for last.later old.station joined step in
      record {
        outcomes = alone.outcomes;
        later = last.later;
        station_is = ap (λ (d : Device). place_of d new.live (Some after)) last.station
            ∙ (ap (λ (l : Live). place_of old.station l (Some after)) last.live
            ∙ ap (λ (s : Serving). place_of old.station by.live (Some s)) (steps.knows ∙ ap (λ (b : Beside). b.services) same));
        frames = ap (λ (f : List (List ℕ)). f ++ outbox.services) last.frames ∙ ap (λ (f : List (List ℕ)). by.frames ++ f) (steps.sends ∙ ap (λ (b : Beside). b.sent) same);
        note_is = steps.says ∙ ap (λ (b : Beside). b.note) same;
      }

  pub step_with : (old new : State (MemoryFlash 4096)) (had after : Serving) (event : Event) (outbox : Frames) (note : Note)
      → StationTakes as_flash (station_of old had) event outbox note (station_of new after)
      → IsStepFor (place_of old.station old.live (Some had)) event (running_of new (Some after)) outbox note
  step_with old new had after event outbox note takes =
      let ready = told_at old.station old.live had in
      told_step old new had after event outbox note
      (subst (λ (d : State (MemoryFlash 4096)). StationSteps as_flash (station_of d ready.services) event outbox note (station_of new after)) takes.ready.device
      (subst (λ (s : Serving). StationSteps as_flash (station_of takes.between.device s) event outbox note (station_of new after)) takes.ready.services takes.steps))

  pub step_without : (old new : State (MemoryFlash 4096)) (event : Event) (outbox : Frames) (note : Note) → DeviceSteps as_flash old event outbox.device note new → outbox.services ≡ []
      → IsStepFor (place_of old.station old.live None) event (running_of new None) outbox note
  step_without old new event outbox note steps none =
      let alone = steps.steps in record {
        outcomes = alone.outcomes;
        later = [];
        station_is = ap (λ (d : Device). place_of d new.live None) alone.same ∙ ap (λ (l : Live). place_of old.station l None) alone.live;
        frames = ap (λ (f : List (List ℕ)). outbox.device ++ f) none ∙ (append-nil outbox.device ∙ alone.frames);
        note_is = alone.note;
      }
