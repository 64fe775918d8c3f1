-- What a cyclic frame records: nothing.
use Rattle.std.proofs.Common.{inl, inr, ap, ◌∙◌}
use Rattle.std.proofs.lemmas.Bool.{cases_Bool}
use Rattle.device_frames.specs.declared.event.Event.{Event}
use Rattle.device_frames.specs.declared.event.Event.TheVariants.{Frame}
use Rattle.device_frames.specs.declared.note.Note.TheVariants.{Done}
use Rattle.device_station.proofs.RecordingLeaps.{quiet_alone}
use Rattle.device_station.proofs.recording.recorded_step.step_cyclic.Goals as goal

pub returns-clause-taken : goal.returns-clause-taken
returns-clause-taken g c = λ taken.
    let event : Event = Frame (record { items = c.args.octets.now }) in
    quiet_alone c.args.device.now c.take_cyclic.new.self event Done (c.stored.ensures.holds c.requires) (c.take_cyclic.ensures.taken taken)

pub returns-clause-flash : goal.returns-clause-flash
returns-clause-flash g c =
    elim (cases_Bool c.take_cyclic.result) [
      | inl taken ↦ (c.take_cyclic.ensures.taken taken).flash
      | inr left ↦ ap (λ s. s.flash) (c.take_cyclic.ensures.left left)
    ]

pub returns-clause-going : goal.returns-clause-going
returns-clause-going g c =
    elim (cases_Bool c.take_cyclic.result) [
      | inl taken ↦ ap (λ v. v.has_failed) (c.take_cyclic.ensures.taken taken).values ∙ c.requires
      | inr left ↦ ap (λ s. s.live.values.has_failed) (c.take_cyclic.ensures.left left) ∙ c.requires
    ]
