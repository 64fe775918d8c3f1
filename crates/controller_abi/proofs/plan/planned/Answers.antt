-- A plan that has no fault.
use Rattle.std.proofs.Common.{◌∙◌, sym, subst}
use Rattle.plans.specs.Plan.{IsPlan}
use Rattle.controller_abi.proofs.Ranges.{plan_in, planned_in, written_in}
use Rattle.controller_abi.proofs.plan.planned.Goals as goal

pub parts_in-requires : goal.parts_in-requires
parts_in-requires c = written_in c.args.written.now (planned_in c.args.written.now c.requires).0

pub judged-requires : goal.judged-requires
judged-requires c =
    subst IsPlan (sym c.parts_in.ensures.value) (plan_in c.args.written.now c.requires c.parts_in.ensures.named c.parts_in.ensures.controlled)

pub returns : goal.returns
returns c = c.judged.ensures ∙ c.parts_in.ensures.value
