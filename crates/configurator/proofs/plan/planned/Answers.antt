use Rattle.std.proofs.Common.{rules, subst, sym, Err}
use Rattle.plans.specs.Parts.{AreParts}
use Rattle.configurator.specs.declared.fault.PlanFault.{PlanFault}
use Rattle.configurator.specs.Planned.{Handled}
use Rattle.configurator.proofs.Rising.{parts_good}
use Rattle.configurator.proofs.Whole.{handled_long, handled_plan, made_with}
use Rattle.configurator.proofs.plan.planned.Goals as goal

pub new-requires : goal.new-requires
new-requires c = subst AreParts (sym c.parts_of.ensures) (parts_good c.args.catalogue.now c.args.addresses c.requires.kept c.requires.named c.requires.addressed)

pub returns-in-Ok : goal.returns-in-Ok
returns-in-Ok c =
    handled_plan c.args.catalogue.now c.parts_of.result _
    (made_with c.args.catalogue.now c.args.addresses c.parts_of.result c.requires.named c.requires.addressed (search rules) (search rules) c.parts_of.ensures)
    c.in-Ok.ensures

pub returns-in-Err : goal.returns-in-Err
returns-in-Err c =
    subst (λ (fault : PlanFault). Handled c.args.catalogue.now (Err fault)) (sym c.from.ensures)
    (handled_long c.args.catalogue.now c.parts_of.result _
    (made_with c.args.catalogue.now c.args.addresses c.parts_of.result c.requires.named c.requires.addressed (search rules) (search rules) c.parts_of.ensures)
    c.in-Err.ensures)
