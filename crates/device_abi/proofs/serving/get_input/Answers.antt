-- It is accepted in silence, or handled, or refused.
use Rattle.std.proofs.Common.{ℕ, Ok, length, refl, sym, take, ap, ◌∙◌}
use Rattle.arrayvec.specs.ArrayVec.{ArrayVec}
use Rattle.device_core.specs.State.{Live, Station}
use Rattle.device_frames.specs.declared.local.Local.{Local}
use Rattle.device_frames.specs.declared.local.Local.TheVariants.{Input}
use Rattle.device_frames.specs.declared.note.Note.TheVariants.{Done}
use Rattle.relations.specs.RelationState.{phase_of}
use Rattle.device_abi.specs.Reasons.{why_no_input}
use Rattle.device_abi.proofs.Kept.{reason_before, said_with}
use Rattle.device_abi.proofs.serving.get_input.Goals as goal

pub returns-in-Some : goal.returns-in-Some
returns-in-Some c =
    let old = c.args.port.now in
    let new = c.input.new.self in
    let said : Local (ArrayVec ℕ) = Input c.args.place.0 c.args.place.1 (record { items = take 1519 c.args.given.now }) in
    let why = λ (station : Station) (live : Live). why_no_input live.rest.real.modules.items c.args.place.0 c.args.place.1 (length c.args.given.now) (phase_of live.rest.link) in
    let before = why old.port.device.station old.port.device.live in
    said_with old new said c.in-Some.outcome before c.why_no_input-why.result c.args.op.now c.conclude.new.op c.conclude.result c.in-Some.ensures
    (reason_before why c.device.result.now old.port new.port c.why_no_input-why.result (λ station live peer. refl) c.device.ensures c.why_no_input-why.ensures) c.conclude.ensures

pub returns-in-None : goal.returns-in-None
returns-in-None c =
    let op = c.args.op.now in
    (Ok Done, c.in-None.ensures.0, tt, (c.silent.ensures.answer, c.silent.ensures.reported ∙ ap (λ (n : ℕ). record op { note = 0; work = n; confirmed = 0 }) (sym c.in-None.ensures.1)))
