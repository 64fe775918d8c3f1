-- The configuration of the controller of the plan that a host wrote.
use Rattle.std.proofs.Common.{◌≡◌, subst}
use Rattle.controller_messages.specs.declared.setup.Setup.{Setup}
use Rattle.controller_abi.specs.State.{IsUnstarted}
use Rattle.controller_abi.proofs.plan.unstarted.Goals as goal

pub returns : goal.returns
returns c =
    subst (λ (setup : Setup). IsUnstarted setup c.unstarted.result)
    (λ i. record { plan = c.planned.ensures i; ar = c.from_bytes.ensures i; activity = c.from_bytes-2.ensures i; options = c.options_in.ensures i }) c.unstarted.ensures
