-- It is accepted, or refused.
use Rattle.std.proofs.Common.{ℕ, length, refl, take}
use Rattle.arrayvec.specs.ArrayVec.{ArrayVec}
use Rattle.device_core.specs.State.{Live, Station}
use Rattle.device_frames.specs.declared.local.Local.{Local}
use Rattle.device_frames.specs.declared.local.Local.TheVariants.{Alarm}
use Rattle.relations.specs.RelationState.{phase_of}
use Rattle.device_abi.specs.Reasons.{why_no_alarm}
use Rattle.device_abi.proofs.Kept.{reason_before, said_with}
use Rattle.device_abi.proofs.serving.raise.Goals as goal

pub returns : goal.returns
returns c =
    let old = c.args.port.now in
    let new = c.alarm-outcome.new.self in
    let said : Local (ArrayVec ℕ) = Alarm c.args.place.0 c.args.place.1 (record { items = take 1519 c.args.given.now }) in
    let why = λ (station : Station) (live : Live). why_no_alarm live.rest.real.modules.items c.args.place.0 c.args.place.1 (length c.args.given.now) (phase_of live.rest.link) in
    let before = why old.port.device.station old.port.device.live in
    said_with old new said c.alarm-outcome.result before c.why_no_alarm-why.result c.args.op.now c.conclude.new.op c.conclude.result c.alarm-outcome.ensures
    (reason_before why c.device.result.now old.port new.port c.why_no_alarm-why.result (λ station live peer. refl) c.device.ensures c.why_no_alarm-why.ensures) c.conclude.ensures
