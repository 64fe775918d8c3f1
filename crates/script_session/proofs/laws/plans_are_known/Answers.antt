use Rattle.script_session.proofs.OnePlan.{knows_the_plan, knows_the_refusal}
use Rattle.script_session.proofs.laws.plans_are_known.Goals as goal

pub returns-clause-planned : goal.returns-clause-planned
returns-clause-planned c = knows_the_plan

pub returns-clause-refused : goal.returns-clause-refused
returns-clause-refused c = knows_the_refusal
