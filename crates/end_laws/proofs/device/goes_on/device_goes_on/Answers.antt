use Rattle.end_laws.proofs.DeviceTurns.{step_goes}
use Rattle.end_laws.proofs.device.goes_on.device_goes_on.Goals as goal

pub returns : goal.returns
returns c = λ rules activity outcomes station live heard orderly own planned sent.
    step_goes c.refusals_are_not_done.ensures rules activity outcomes station live heard orderly own
    (c.device_turns.ensures.turn rules activity outcomes station live heard planned).does planned sent
