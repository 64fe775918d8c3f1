-- By induction over the places.
use Rattle.rpc_services.proofs.PiecesRoom.{finished, order, youngest, others}
use Rattle.rpc_services.proofs.pieces.law.finished_calls_make_room.Goals as goal

pub returns-clause-finished : goal.returns-clause-finished
returns-clause-finished c = finished

pub returns-clause-order : goal.returns-clause-order
returns-clause-order c = order

pub returns-clause-youngest : goal.returns-clause-youngest
returns-clause-youngest c = youngest

pub returns-clause-others : goal.returns-clause-others
returns-clause-others c = others
