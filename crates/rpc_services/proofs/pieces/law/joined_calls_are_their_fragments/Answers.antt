-- By induction over the events.
use Rattle.rpc_services.proofs.PiecesJoining.{completed}
use Rattle.rpc_services.proofs.pieces.law.joined_calls_are_their_fragments.Goals as goal

pub returns : goal.returns
returns c = completed
