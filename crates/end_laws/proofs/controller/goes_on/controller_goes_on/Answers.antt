use Rattle.std.proofs.Common.{refl, arith}
use Rattle.end_laws.proofs.ControllerTurns.{event_goes}
use Rattle.end_laws.proofs.controller.goes_on.controller_goes_on.Goals as goal

pub returns-clause-begins : goal.returns-clause-begins
returns-clause-begins c = λ plan. (record { asked = refl; waiting = refl; plug = refl; calls = (refl, omega arith) }, refl)

pub returns-clause-goes_on : goal.returns-clause-goes_on
returns-clause-goes_on c = λ setup live event steady. event_goes setup live event (c.turns_are_of_a_kind.ensures.event setup live event) steady
