-- It is accepted, or refused.
use Rattle.std.proofs.Common.{ℕ, refl}
use Rattle.arrayvec.specs.ArrayVec.{ArrayVec}
use Rattle.device_core.specs.State.{Live, Station}
use Rattle.device_frames.specs.declared.local.Local.{Local}
use Rattle.device_frames.specs.declared.local.Local.TheVariants.{ReadyAt}
use Rattle.relations.specs.Plugging.{places_in}
use Rattle.device_abi.specs.Reasons.{why_not_ready_at}
use Rattle.device_abi.proofs.Kept.{reason_before, said_with}
use Rattle.device_abi.proofs.modules.ready_for.Goals as goal

pub returns : goal.returns
returns c =
    let old = c.args.port.now in
    let new = c.ready_at-outcome.new.self in
    let said : Local (ArrayVec ℕ) = ReadyAt c.args.place.0 c.args.place.1 in
    let why = λ (station : Station) (live : Live). why_not_ready_at (places_in live.rest.link) c.args.place.0 c.args.place.1 in
    let before = why old.port.device.station old.port.device.live in
    said_with old new said c.ready_at-outcome.result before c.why_not_ready_at-why.result c.args.op.now c.conclude.new.op c.conclude.result c.ready_at-outcome.ensures
    (reason_before why c.device.result.now old.port new.port c.why_not_ready_at-why.result (λ station live peer. refl) c.device.ensures c.why_not_ready_at-why.ensures) c.conclude.ensures
