-- An output that is set, and its status.
use Rattle.std.proofs.Common.{ℕ, List, ap, ◌∙◌}
use Rattle.controller_core.specs.Machine.{given}
use Rattle.controller_core.specs.stored.State.{with_live}
use Rattle.controller_core.proofs.controller.Controller.handle.Goals as goal

pub returns-in-Give-clause-state : goal.returns-in-Give-clause-state
returns-in-Give-clause-state c =
    rw c.in-Give.is (c.give.ensures
    ∙ ap (λ (value : List ℕ). with_live c.args.self.now (given c.args.self.now.live c.in-Give.slot c.in-Give.subslot value)) c.as_slice.ensures.value)

pub returns-in-Status-clause-state : goal.returns-in-Status-clause-state
returns-in-Status-clause-state c = rw c.in-Status.is c.rate.ensures
