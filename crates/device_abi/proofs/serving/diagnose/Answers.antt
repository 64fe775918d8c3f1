-- It is accepted, or refused.
use Rattle.std.proofs.Common.{ℕ, refl}
use Rattle.std.specs.Prelude.{◌==◌, not}
use Rattle.arrayvec.specs.ArrayVec.{ArrayVec}
use Rattle.device_core.specs.State.{Live, Station}
use Rattle.device_frames.specs.declared.local.Local.{Local}
use Rattle.device_frames.specs.declared.local.Local.TheVariants.{Diagnosis}
use Rattle.device_core.specs.Handled.{change_of}
use Rattle.device_abi.specs.Reasons.{why_no_diagnosis}
use Rattle.device_abi.proofs.Kept.{reason_before, said_with}
use Rattle.device_abi.proofs.serving.diagnose.Goals as goal

pub returns : goal.returns
returns c =
    let old = c.args.port.now in
    let new = c.diagnosis-outcome.new.self in
    let said : Local (ArrayVec ℕ) = Diagnosis c.args.place.0 c.args.place.1 c.args.what.0 c.args.what.1 (not (c.args.op.now.appears == 0)) in
    let why = λ (station : Station) (live : Live). why_no_diagnosis live.rest.real.modules.items live.rest.diagnoses (change_of c.args.place.0 c.args.place.1 c.args.what.0 c.args.what.1 (not (c.args.op.now.appears == 0))) in
    let before = why old.port.device.station old.port.device.live in
    said_with old new said c.diagnosis-outcome.result before c.why_no_diagnosis-why.result c.args.op.now c.conclude.new.op c.conclude.result c.diagnosis-outcome.ensures
    (reason_before why c.device.result.now old.port new.port c.why_no_diagnosis-why.result (λ station live peer. refl) c.device.ensures c.why_no_diagnosis-why.ensures) c.conclude.ensures
