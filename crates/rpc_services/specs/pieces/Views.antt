-- What the structs of fragments mean: their octets, independent of where they lie in memory.
use Rattle.std.specs.Prelude.{ℕ, List}
use Rattle.services.specs.Answer.{frame_in}
use Rattle.rpc_services.specs.declared.pieces.piece.Piece.{Piece as Fragment}
use Rattle.rpc_services.specs.declared.pieces.joiner.Heard.{Heard}
use Rattle.rpc_services.specs.declared.pieces.joiner.Heard.TheVariants as heard
use Rattle.rpc_services.specs.pieces.Piece.{Piece}
use Rattle.rpc_services.specs.pieces.State.{Outcome, Nothing, Drops, Waits, Joined}

-- what a fragment is
abbrev pub piece_as : Fragment → Piece
piece_as piece = record { head = piece.head; serial = piece.serial; octets = piece.octets.now }

-- what the body of a datagram did, with the octets that were written
abbrev pub heard_in : Heard → List ℕ → Outcome
heard_in heard.Nothing whole = Nothing
heard_in (heard.Dropped fack) whole = Drops (frame_in fack)
heard_in (heard.Waits fack) whole = Waits (frame_in fack)
heard_in heard.Joined whole = Joined whole
