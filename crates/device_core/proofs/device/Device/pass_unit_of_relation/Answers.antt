-- What a unit brings is sent, of the relation as it is a unit later: only inputs, or all that is due.
use Rattle.std.proofs.Common.{◌∙◌, refl}
use Rattle.device_core.proofs.device.Device.pass_unit_of_relation.Goals as goal

pub returns-then-is_inputs-clause-frames : goal.returns-then-is_inputs-clause-frames
returns-then-is_inputs-clause-frames g c =
    let relation = c.elapse-elapsed.new.self in
    rw (← c.self.view_is) (rw (
      c.send_inputs.ensures.frames,
      c.elapse-elapsed.ensures.due ∙ c.is_inputs.ensures.due relation c.if-is_inputs.true,
      c.elapse-elapsed.ensures.state ∙ c.is_inputs.ensures.left relation c.if-is_inputs.true,
    ) refl)

pub returns-then-is_inputs-clause-state : goal.returns-then-is_inputs-clause-state
returns-then-is_inputs-clause-state g c =
    let relation = c.elapse-elapsed.new.self in
    rw (← c.self.view_is) (rw (
      c.elapse-elapsed.ensures.due ∙ c.is_inputs.ensures.due relation c.if-is_inputs.true,
      c.elapse-elapsed.ensures.state ∙ c.is_inputs.ensures.left relation c.if-is_inputs.true,
      c.saturating_sub-self-inside.ensures,
    ) refl)

pub returns-then-is_inputs-clause-sendable : goal.returns-then-is_inputs-clause-sendable
returns-then-is_inputs-clause-sendable g c =
    let relation = c.elapse-elapsed.new.self in
    rw (← c.self.view_is) (rw (
      c.elapse-elapsed.ensures.due ∙ c.is_inputs.ensures.due relation c.if-is_inputs.true,
      c.elapse-elapsed.ensures.state ∙ c.is_inputs.ensures.left relation c.if-is_inputs.true,
    ) c.send_inputs.ensures.sendable)

pub returns-clause-frames : goal.returns-clause-frames
returns-clause-frames g c =
    rw (← c.self.view_is) (rw (c.bring.ensures.frames, c.elapse-elapsed.ensures.due, c.elapse-elapsed.ensures.state) refl)

pub returns-clause-state : goal.returns-clause-state
returns-clause-state g c =
    rw (← c.self.view_is) (rw (c.bring.ensures.state, c.elapse-elapsed.ensures.due, c.elapse-elapsed.ensures.state, c.saturating_sub-self-inside.ensures) refl)

pub returns-clause-sendable : goal.returns-clause-sendable
returns-clause-sendable g c =
    rw (← c.self.view_is) (rw (c.elapse-elapsed.ensures.due, c.elapse-elapsed.ensures.state) c.bring.ensures.sendable)
