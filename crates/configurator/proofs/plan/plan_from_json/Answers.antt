use Rattle.std.proofs.Common.{rules}
use Rattle.configurator.proofs.Whole.{planned, refused}
use Rattle.configurator.proofs.plan.plan_from_json.Goals as goal

pub returns-clause-planned : goal.returns-clause-planned
returns-clause-planned c = planned _ _ c.plan_of.result (search rules) c.plan_of.ensures

pub returns-clause-refused : goal.returns-clause-refused
returns-clause-refused c = refused _ _ c.plan_of.result (search rules) c.plan_of.ensures
