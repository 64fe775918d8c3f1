-- What an input records: nothing.
use Rattle.std.proofs.Common.{ap, ◌∙◌}
use Rattle.device_frames.specs.declared.event.Event.{Event}
use Rattle.device_frames.specs.declared.event.Event.TheVariants.{Application}
use Rattle.device_frames.specs.declared.local.Local.TheVariants.{Input}
use Rattle.device_station.proofs.RecordingLeaps.{quiet_alone}
use Rattle.device_station.proofs.recording.recorded_step.step_input.Goals as goal

pub returns-clause-alone : goal.returns-clause-alone
returns-clause-alone g c =
    let event : Event = Application (Input c.args.slot c.args.subslot (record { items = c.args.value.now })) in
    quiet_alone c.args.device.now c.give_input.new.self event _ (c.stored.ensures.holds c.requires) c.give_input.ensures.quiet

pub returns-clause-flash : goal.returns-clause-flash
returns-clause-flash g c = c.give_input.ensures.quiet.flash

pub returns-clause-going : goal.returns-clause-going
returns-clause-going g c = ap (λ v. v.has_failed) c.give_input.ensures.quiet.values ∙ c.requires
