use Rattle.end_laws.proofs.TurnsCauses.{each_cause_ends, each_end_has_its_cause, each_run_has_its_cause}
use Rattle.end_laws.proofs.turns.law.each_end_has_its_cause.Goals as goal

pub returns-clause-ends : goal.returns-clause-ends
returns-clause-ends c = each_end_has_its_cause

pub returns-clause-causes : goal.returns-clause-causes
returns-clause-causes c = each_cause_ends

pub returns-clause-run : goal.returns-clause-run
returns-clause-run c = each_run_has_its_cause
