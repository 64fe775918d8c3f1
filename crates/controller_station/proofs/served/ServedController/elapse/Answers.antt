-- Units keep the plan's addresses as those of the services.
use Rattle.std.proofs.Common.{sym, ap, ◌∙◌}
use Rattle.plans.specs.declared.parts.Controller.{Controller}
use Rattle.controller_messages.specs.declared.setup.Setup.{Setup}
use Rattle.controller_core.specs.stored.State.{Controlling}
use Rattle.controller_station.specs.Beside.{Beside}
use Rattle.controller_station.proofs.Leaping.{setup_kept, ticks_keep}
use Rattle.controller_station.proofs.served.ServedController.elapse.Goals as goal

pub invariant_of-self : goal.invariant_of-self
invariant_of-self c =
    let inside = c.self.inside in
    let kept = ticks_keep c.args.units inside.services in
    let services = c.pass_beside-self-inside.ensures.state in
    let plan =
    ap (λ (controller : Controlling). controller.setup.plan.controller) c.elapse.ensures.state
    ∙ ap (λ (setup : Setup). setup.plan.controller) (setup_kept c.args.units inside.controller) in (
      ap (λ (state : Beside). state.ip.role) services ∙ kept.0 ∙ c.self.invariant.0,
      ap (λ (state : Beside). state.ip.mac) services ∙ kept.1 ∙ c.self.invariant.1 ∙ sym (ap (λ (controller : Controller). controller.mac) plan),
      ap (λ (state : Beside). state.ip.address) services ∙ kept.2 ∙ c.self.invariant.2 ∙ sym (ap (λ (controller : Controller). controller.address) plan),
      c.pass_beside-self-inside.ensures.calm,
    )
