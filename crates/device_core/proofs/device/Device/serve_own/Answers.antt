-- No operation except a Write asks anything of the settings.
use Rattle.std.proofs.Common.{refl, sym, ap, ◌∙◌}
use Rattle.rpc_core.specs.Call.{asked}
use Rattle.records.specs.declared.status.operation.Operation.TheVariants as operation
use Rattle.device_core.specs.Handled.{handled_own}
use Rattle.device_core.proofs.Handled.{control_asks_nothing, control_done}
use Rattle.device_core.proofs.Served.{new_steps}
use Rattle.device_core.proofs.device.Device.serve_own.Goals as goal

pub returns-in-Connect-clause-steps : goal.returns-in-Connect-clause-steps
returns-in-Connect-clause-steps g c = new_steps g.F.Flash c.args.self.now _ c.args.serving.now.caller.now (asked c.args.serving.now.call.now)
    c.args.serving.now.blocks.now _ operation.Connect _ _ c.requires.stored c.in-Connect.is refl c.connect.ensures.state c.connect.ensures.frames c.connect.ensures.note c.connect.ensures.sendable

pub returns-in-Release-clause-steps : goal.returns-in-Release-clause-steps
returns-in-Release-clause-steps g c = new_steps g.F.Flash c.args.self.now _ c.args.serving.now.caller.now (asked c.args.serving.now.call.now)
    c.args.serving.now.blocks.now _ operation.Release _ _ c.requires.stored c.in-Release.is refl c.release.ensures.state c.release.ensures.frames c.release.ensures.note c.release.ensures.sendable

pub returns-in-Read-clause-steps : goal.returns-in-Read-clause-steps
returns-in-Read-clause-steps g c = new_steps g.F.Flash c.args.self.now _ c.args.serving.now.caller.now (asked c.args.serving.now.call.now)
    c.args.serving.now.blocks.now _ operation.Read _ _ c.requires.stored c.in-Read.is refl c.read.ensures.state c.read.ensures.frames c.read.ensures.note c.read.ensures.sendable

pub returns-in-Control-clause-steps : goal.returns-in-Control-clause-steps
returns-in-Control-clause-steps g c = new_steps g.F.Flash c.args.self.now _ c.args.serving.now.caller.now (asked c.args.serving.now.call.now)
    c.args.serving.now.blocks.now _ operation.Control _ _ c.requires.stored c.in-Control.is
    (control_asks_nothing c.args.self.now.station c.args.self.now.live c.args.serving.now.caller.now (asked c.args.serving.now.call.now) c.args.serving.now.blocks.now)
    c.control.ensures.state c.control.ensures.frames (c.control.ensures.note ∙ sym (control_done c.args.self.now.station c.args.self.now.live c.args.serving.now.caller.now (asked c.args.serving.now.call.now) c.args.serving.now.blocks.now)) c.control.ensures.sendable

pub returns-in-ReadImplicit-clause-steps : goal.returns-in-ReadImplicit-clause-steps
returns-in-ReadImplicit-clause-steps g c = new_steps g.F.Flash c.args.self.now _ c.args.serving.now.caller.now (asked c.args.serving.now.call.now)
    c.args.serving.now.blocks.now _ operation.ReadImplicit _ _ c.requires.stored c.in-ReadImplicit.is refl c.read_implicit.ensures.state c.read_implicit.ensures.frames c.read_implicit.ensures.note c.read_implicit.ensures.sendable

pub returns-in-Write-clause-steps : goal.returns-in-Write-clause-steps
returns-in-Write-clause-steps g c = λ heard is.
    let old = c.args.self.now in
    let serving = c.args.serving.now in
    c.write.ensures.steps heard (is ∙ ap (handled_own old.station old.live serving.caller.now (asked serving.call.now) serving.blocks.now) c.in-Write.is)
