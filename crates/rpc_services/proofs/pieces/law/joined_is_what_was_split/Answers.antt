-- By induction over the arrivals.
use Rattle.rpc_services.proofs.PiecesSplitting.{none, whole}
use Rattle.rpc_services.proofs.pieces.law.joined_is_what_was_split.Goals as goal

pub returns-clause-whole : goal.returns-clause-whole
returns-clause-whole c = whole

pub returns-clause-none : goal.returns-clause-none
returns-clause-none c = none
