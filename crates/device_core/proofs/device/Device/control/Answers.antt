-- Which of the two it is, is known by its BlockType.
use Rattle.std.proofs.Common.{◌≡◌, true, false, sym, ap, subst, ◌∙◌}
use Rattle.std.proofs.lemmas.Bool.{cond-true, cond-false}
use Rattle.relations.specs.Plugging.{is_plug_control}
use Rattle.device_core.specs.Behind.{CanSend, behind, called, frames_of, parameters_ended, plug_ended}
use Rattle.records.specs.declared.status.operation.Operation.TheVariants.{Control}
use Rattle.device_core.proofs.device.Device.control.Goals as goal

pub returns-then-is_plug_control-clause-state : goal.returns-then-is_plug_control-clause-state
returns-then-is_plug_control-clause-state g c =
    let old = c.args.self.now in
    let is : is_plug_control c.args.serving.now.blocks.now old.live.rest.link ≡ true = rw (← c.self.view_is) (sym c.is_plug_control.ensures ∙ c.if-is_plug_control.true) in
    let one : called old c.args.serving.now Control ≡ plug_ended old c.args.serving.now = cond-true _ _ _ is in
    c.end_plug.ensures.state ∙ ap (behind old) (sym one)

pub returns-then-is_plug_control-clause-frames : goal.returns-then-is_plug_control-clause-frames
returns-then-is_plug_control-clause-frames g c =
    let old = c.args.self.now in
    let is : is_plug_control c.args.serving.now.blocks.now old.live.rest.link ≡ true = rw (← c.self.view_is) (sym c.is_plug_control.ensures ∙ c.if-is_plug_control.true) in
    let one : called old c.args.serving.now Control ≡ plug_ended old c.args.serving.now = cond-true _ _ _ is in
    c.end_plug.ensures.frames ∙ ap (frames_of old) (sym one)

pub returns-then-is_plug_control-clause-sendable : goal.returns-then-is_plug_control-clause-sendable
returns-then-is_plug_control-clause-sendable g c =
    let old = c.args.self.now in
    let is : is_plug_control c.args.serving.now.blocks.now old.live.rest.link ≡ true = rw (← c.self.view_is) (sym c.is_plug_control.ensures ∙ c.if-is_plug_control.true) in
    let one : called old c.args.serving.now Control ≡ plug_ended old c.args.serving.now = cond-true _ _ _ is in
    subst (CanSend old) (sym one) c.end_plug.ensures.sendable

pub returns-clause-state : goal.returns-clause-state
returns-clause-state g c =
    let old = c.args.self.now in
    let other : is_plug_control c.args.serving.now.blocks.now old.live.rest.link ≡ false = rw (← c.self.view_is) (sym c.is_plug_control.ensures ∙ c.if-is_plug_control.false) in
    let one : called old c.args.serving.now Control ≡ parameters_ended old c.args.serving.now = cond-false _ _ _ other in
    c.end_parameters.ensures.state ∙ ap (behind old) (sym one)

pub returns-clause-frames : goal.returns-clause-frames
returns-clause-frames g c =
    let old = c.args.self.now in
    let other : is_plug_control c.args.serving.now.blocks.now old.live.rest.link ≡ false = rw (← c.self.view_is) (sym c.is_plug_control.ensures ∙ c.if-is_plug_control.false) in
    let one : called old c.args.serving.now Control ≡ parameters_ended old c.args.serving.now = cond-false _ _ _ other in
    c.end_parameters.ensures.frames ∙ ap (frames_of old) (sym one)

pub returns-clause-sendable : goal.returns-clause-sendable
returns-clause-sendable g c =
    let old = c.args.self.now in
    let other : is_plug_control c.args.serving.now.blocks.now old.live.rest.link ≡ false = rw (← c.self.view_is) (sym c.is_plug_control.ensures ∙ c.if-is_plug_control.false) in
    let one : called old c.args.serving.now Control ≡ parameters_ended old c.args.serving.now = cond-false _ _ _ other in
    subst (CanSend old) (sym one) c.end_parameters.ensures.sendable
