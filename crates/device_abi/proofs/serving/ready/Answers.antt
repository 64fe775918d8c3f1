-- It is accepted, or refused.
use Rattle.std.proofs.Common.{ℕ, refl}
use Rattle.arrayvec.specs.ArrayVec.{ArrayVec}
use Rattle.device_core.specs.State.{Live, Station}
use Rattle.device_frames.specs.declared.local.Local.{Local}
use Rattle.device_frames.specs.declared.local.Local.TheVariants.{Ready}
use Rattle.relations.specs.RelationState.{phase_of}
use Rattle.device_abi.specs.Reasons.{why_not_ready}
use Rattle.device_abi.proofs.Kept.{reason_before, said_with}
use Rattle.device_abi.proofs.serving.ready.Goals as goal

pub returns : goal.returns
returns c =
    let old = c.args.port.now in
    let new = c.ready-outcome.new.self in
    let said : Local (ArrayVec ℕ) = Ready in
    let why = λ (station : Station) (live : Live). why_not_ready (phase_of live.rest.link) in
    let before = why old.port.device.station old.port.device.live in
    said_with old new said c.ready-outcome.result before c.why_not_ready-why.result c.args.op.now c.conclude.new.op c.conclude.result c.ready-outcome.ensures
    (reason_before why c.device.result.now old.port new.port c.why_not_ready-why.result (λ station live peer. refl) c.device.ensures c.why_not_ready-why.ensures) c.conclude.ensures
