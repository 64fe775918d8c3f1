-- By induction over the events.
use Rattle.rpc_services.proofs.PiecesLasting.{dropped, repeated}
use Rattle.rpc_services.proofs.pieces.law.unfinished_calls_are_dropped.Goals as goal

pub returns-clause-dropped : goal.returns-clause-dropped
returns-clause-dropped c = dropped

pub returns-clause-repeated : goal.returns-clause-repeated
returns-clause-repeated c = repeated
