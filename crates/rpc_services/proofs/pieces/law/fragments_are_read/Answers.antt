-- What is written is read.
use Rattle.rpc_services.proofs.PiecesReading.{piece_read}
use Rattle.rpc_services.proofs.pieces.law.fragments_are_read.Goals as goal

pub returns : goal.returns
returns c = piece_read
