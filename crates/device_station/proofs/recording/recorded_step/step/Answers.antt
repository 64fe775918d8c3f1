-- What a step records.
use Rattle.std.proofs.Common.{◌∙◌, subst, sym}
use Rattle.device_core.specs.Machine.{items_of, step_of}
use Rattle.device_core.specs.State.{store_of}
use Rattle.device_frames.specs.Heard.{heard_of}
use Rattle.settings_journal.specs.settings_store.Carries.{OneByOne, Stretch}
use Rattle.device_station.proofs.RecordingOneStep.{step_records}
use Rattle.device_station.proofs.RecordingPlaced.{as_recorded}
use Rattle.device_station.proofs.recording.recorded_step.step.Goals as goal

pub returns-clause-records : goal.returns-clause-records
returns-clause-records c =
    let s = c.step.ensures.steps in
    let old = c.args.device.now in
    let going = (c.step.ensures.reliable tt c.requires).1 in
    let inactive = s.inactive (going ∙ sym c.requires) in
    let placed = subst (λ o. OneByOne as_recorded o (store_of old) (items_of old.station old.live (heard_of old.station.identity c.args.event.now)) (store_of c.step.new.self)) inactive s.placed in
    let stretch = subst (λ o. Stretch as_recorded (store_of old) (step_of o old.station old.live c.args.event.now).accepted (store_of c.step.new.self)) inactive s.stretch in
    step_records old c.step.new.self c.args.event.now c.stored.ensures.holds c.requires s.few placed stretch going
