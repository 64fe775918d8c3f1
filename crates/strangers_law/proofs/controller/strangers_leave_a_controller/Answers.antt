-- What a stranger says changes nothing.
use Rattle.strangers_law.proofs.Controllers.{are_as_without, leaves_controllers}
use Rattle.strangers_law.proofs.controller.strangers_leave_a_controller.Goals as goal

pub returns-clause-left : goal.returns-clause-left
returns-clause-left c = leaves_controllers

pub returns-clause-without : goal.returns-clause-without
returns-clause-without c = are_as_without
