-- It is accepted, or refused.
use Rattle.std.proofs.Common.{ℕ, refl}
use Rattle.arrayvec.specs.ArrayVec.{ArrayVec}
use Rattle.device_core.specs.State.{Live, Station}
use Rattle.device_frames.specs.declared.local.Local.{Local}
use Rattle.device_frames.specs.declared.local.Local.TheVariants.{Pull}
use Rattle.device_abi.specs.Reasons.{why_no_pull}
use Rattle.device_abi.proofs.Kept.{reason_before, said_with}
use Rattle.device_abi.proofs.modules.pull_at.Goals as goal

pub returns : goal.returns
returns c =
    let old = c.args.port.now in
    let new = c.pull-outcome.new.self in
    let said : Local (ArrayVec ℕ) = Pull c.args.place.0 c.args.place.1 in
    let why = λ (station : Station) (live : Live). why_no_pull live.rest.real.modules.items c.args.place.0 c.args.place.1 in
    let before = why old.port.device.station old.port.device.live in
    said_with old new said c.pull-outcome.result before c.why_no_pull-why.result c.args.op.now c.conclude.new.op c.conclude.result c.pull-outcome.ensures
    (reason_before why c.device.result.now old.port new.port c.why_no_pull-why.result (λ station live peer. refl) c.device.ensures c.why_no_pull-why.ensures) c.conclude.ensures
