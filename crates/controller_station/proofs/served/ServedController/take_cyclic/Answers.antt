-- A cyclic frame concerns nothing beside the controller.
use Rattle.std.proofs.Common.{◌≤◌, sym, ap, subst, ◌∙◌}
use Rattle.plans.specs.declared.parts.Controller.{Controller}
use Rattle.controller_messages.specs.declared.setup.Setup.{Setup}
use Rattle.controller_core.specs.Leaps.{live_due_in}
use Rattle.controller_station.specs.Beside.{due_in}
use Rattle.controller_station.specs.Leaps.{served_due_in}
use Rattle.controller_station.specs.Served.{Served}
use Rattle.controller_station.specs.contracts.served.ServedController.{the_view}
use Rattle.controller_station.proofs.Silent.{frame_silent, served_with, sooner_later}
use Rattle.controller_station.proofs.served.ServedController.take_cyclic.Goals as goal

pub invariant_of-self : goal.invariant_of-self
invariant_of-self c =
    let plan = ap (λ (setup : Setup). setup.plan.controller) c.take_cyclic.ensures.setup in (
      c.self.invariant.0,
      c.self.invariant.1 ∙ sym (ap (λ (controller : Controller). controller.mac) plan),
      c.self.invariant.2 ∙ sym (ap (λ (controller : Controller). controller.address) plan),
      c.self.invariant.3,
    )

pub returns-clause-taken : goal.returns-clause-taken
returns-clause-taken c = rw (← c.self.view_is) (λ is.
    frame_silent (the_view c.self.inside) c.args.octets.now c.take_cyclic.new.self (c.take_cyclic.ensures.real_time is) (c.take_cyclic.ensures.taken is))

pub returns-clause-due : goal.returns-clause-due
returns-clause-due c =
    let inside = c.self.inside in
    let new = c.take_cyclic.new.self in
    subst (λ (old : Served). served_due_in old ≤ served_due_in (served_with new inside.services)) c.self.view_is
    (sooner_later (live_due_in inside.controller.live) (live_due_in new.live) (due_in inside.services) c.take_cyclic.ensures.due)
