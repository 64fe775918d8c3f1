-- Units with which nothing is due, at both.
use Rattle.std.proofs.Common.{sym, ap, ◌∙◌, arith}
use Rattle.plans.specs.declared.parts.Controller.{Controller}
use Rattle.controller_messages.specs.declared.setup.Setup.{Setup}
use Rattle.controller_core.specs.stored.State.{Controlling}
use Rattle.controller_station.specs.Beside.{Beside}
use Rattle.controller_station.specs.contracts.served.ServedController.{the_view}
use Rattle.controller_station.proofs.Leaping.{none_sent, setup_kept, ticks_keep}
use Rattle.controller_station.proofs.served.ServedController.skip.Goals as goal

pub invariant_of-self : goal.invariant_of-self
invariant_of-self c =
    let inside = c.self.inside in
    let kept = ticks_keep c.args.units inside.services in
    let services = c.pass.ensures.state in
    let plan =
    ap (λ (controller : Controlling). controller.setup.plan.controller) c.leap.ensures.state
    ∙ ap (λ (setup : Setup). setup.plan.controller) (setup_kept c.args.units inside.controller) in (
      ap (λ (state : Beside). state.ip.role) services ∙ kept.0 ∙ c.self.invariant.0,
      ap (λ (state : Beside). state.ip.mac) services ∙ kept.1 ∙ c.self.invariant.1 ∙ sym (ap (λ (controller : Controller). controller.mac) plan),
      ap (λ (state : Beside). state.ip.address) services ∙ kept.2 ∙ c.self.invariant.2 ∙ sym (ap (λ (controller : Controller). controller.address) plan),
      omega (arith, c.self.invariant.3, c.saturating_sub-self-inside.ensures, c.pass.ensures.due),
    )

pub returns-clause-none : goal.returns-clause-none
returns-clause-none c = rw (← c.self.view_is) (none_sent c.args.units (the_view c.self.inside) c.leap.ensures.none c.pass.ensures.none)
