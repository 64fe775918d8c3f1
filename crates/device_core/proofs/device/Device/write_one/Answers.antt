-- An I&M text is asked of the settings, a parameter record is a move.
use Rattle.std.proofs.Common.{refl, ap, ◌∙◌}
use Rattle.rpc_core.specs.Call.{asked}
use Rattle.records.specs.declared.writes.write.Effect.TheVariants.{Keeps}
use Rattle.device_core.specs.Handled.{handled_effect}
use Rattle.device_core.proofs.Steps.{inactive_steps}
use Rattle.device_core.proofs.device.Device.write_one.Goals as goal

pub returns-in-Stores-clause-steps : goal.returns-in-Stores-clause-steps
returns-in-Stores-clause-steps g c = λ heard is.
    let old = c.args.self.now in
    c.store_text.ensures.steps heard
    (is ∙ ap (handled_effect old.station old.live c.args.serving.now.caller.now (asked c.args.serving.now.call.now) c.args.write.request) c.in-Stores.is)

pub returns-in-Keeps-clause-steps : goal.returns-in-Keeps-clause-steps
returns-in-Keeps-clause-steps g c = λ heard is.
    let old = c.args.self.now in
    let call = asked c.args.serving.now.call.now in
    inactive_steps g.F.Flash old _ heard (handled_effect old.station old.live c.args.serving.now.caller.now call c.args.write.request (Keeps c.in-Keeps.taken)) _ _ c.requires.stored
    (is ∙ ap (handled_effect old.station old.live c.args.serving.now.caller.now call c.args.write.request) c.in-Keeps.is)
    refl c.keep_parameter.ensures.state c.keep_parameter.ensures.frames c.keep_parameter.ensures.note c.keep_parameter.ensures.sendable
