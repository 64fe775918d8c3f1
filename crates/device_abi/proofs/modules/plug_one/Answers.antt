-- It is accepted, or refused.
use Rattle.std.proofs.Common.{ℕ, ap, ◌∙◌}
use Rattle.arrayvec.specs.ArrayVec.{ArrayVec}
use Rattle.device_core.specs.State as device
use Rattle.device_station.specs.declared.recorded.flash.RecordedFlash.{RecordedFlash}
use Rattle.device_frames.specs.declared.local.Local.{Local}
use Rattle.device_frames.specs.declared.local.Local.TheVariants.{Plug}
use Rattle.device_abi.specs.Reasons.{why_no_plug}
use Rattle.device_abi.proofs.Kept.{said_with}
use Rattle.device_abi.proofs.modules.plug_one.Goals as goal

pub returns : goal.returns
returns c =
    let old = c.args.port.now in
    let new = c.plug-outcome.new.self in
    let said : Local (ArrayVec ℕ) = Plug c.args.slot c.args.ident c.args.submodule in
    let why = λ (d : device.State (RecordedFlash 4096)). why_no_plug d.live.rest.real.modules.items c.args.slot c.args.ident c.args.submodule in
    said_with old new said c.plug-outcome.result (why old.port.device) c.why_no_plug-why.result c.args.op.now c.conclude.new.op c.conclude.result c.plug-outcome.ensures
    (λ same. c.why_no_plug-why.ensures ∙ ap why c.device.ensures) c.conclude.ensures
