-- An output concerns nothing beside the controller.
use Rattle.std.proofs.Common.{sym, ap, ◌∙◌}
use Rattle.plans.specs.declared.parts.Controller.{Controller}
use Rattle.controller_messages.specs.declared.setup.Setup.{Setup}
use Rattle.controller_core.specs.Machine.{Stepped}
use Rattle.controller_core.specs.declared.stored.event.Event.{Event}
use Rattle.controller_core.specs.declared.stored.event.Event.TheVariants.{Give}
use Rattle.controller_station.specs.contracts.served.ServedController.{the_view}
use Rattle.controller_station.proofs.Besides.{plan_kept}
use Rattle.controller_station.proofs.Silent.{output_silent}
use Rattle.controller_station.proofs.served.ServedController.take_output.Goals as goal

pub invariant_of-self : goal.invariant_of-self
invariant_of-self c =
    let event : Event = Give c.args.slot c.args.subslot (record { items = c.args.value.now }) in
    let setup = sym (ap (λ (step : Stepped). step.controller.setup) c.take_output.ensures.given) ∙ plan_kept c.self.inside.controller event in
    let plan = ap (λ (s : Setup). s.plan.controller) setup in (
      c.self.invariant.0,
      c.self.invariant.1 ∙ sym (ap (λ (controller : Controller). controller.mac) plan),
      c.self.invariant.2 ∙ sym (ap (λ (controller : Controller). controller.address) plan),
      c.self.invariant.3,
    )

pub returns-clause-given : goal.returns-clause-given
returns-clause-given c = rw (← c.self.view_is) (output_silent (the_view c.self.inside) c.args.slot c.args.subslot c.args.value.now c.take_output.new.self c.take_output.ensures.given)
