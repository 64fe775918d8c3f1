-- By induction over the places.
use Rattle.rpc_services.proofs.PiecesDue.{dropped, kept}
use Rattle.rpc_services.proofs.pieces.law.calls_are_kept_until_due.Goals as goal

pub returns-clause-kept : goal.returns-clause-kept
returns-clause-kept c = kept

pub returns-clause-dropped : goal.returns-clause-dropped
returns-clause-dropped c = dropped
