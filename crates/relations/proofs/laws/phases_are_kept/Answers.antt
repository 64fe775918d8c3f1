use Rattle.relations.proofs.Moves.{is_by_application, is_by_prm_end, is_by_ready}
use Rattle.relations.proofs.laws.phases_are_kept.Goals as goal

pub returns-clause-ready : goal.returns-clause-ready
returns-clause-ready c = is_by_prm_end

pub returns-clause-application : goal.returns-clause-application
returns-clause-application c = is_by_application

pub returns-clause-exchanging : goal.returns-clause-exchanging
returns-clause-exchanging c = is_by_ready
