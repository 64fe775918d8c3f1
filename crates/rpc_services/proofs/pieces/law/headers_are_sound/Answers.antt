-- This follows from the proofs of the formats.
use Rattle.rpc_services.proofs.PiecesSound.{head_sound}
use Rattle.rpc_services.proofs.pieces.law.headers_are_sound.Goals as goal

pub returns : goal.returns
returns c = head_sound
