-- The fragments of a call or an answer (C706, 12.5.2.3).
use Rattle.std.specs.Prelude.{◌+◌, ◌*◌, ◌/◌, ◌<◌, ◌≡◌, ◌==◌, ℕ, Bool, true, false, List, [], ◌++◌, length, take, drop}
use Rattle.rpc_core.specs.declared.call_headers.call.Head.{Head}
use Rattle.rpc_core.specs.call_headers.Call.{head}
use Rattle.rpc_services.specs.declared.pieces.piece.Kind.{Kind}
use Rattle.rpc_services.specs.pieces.Piece.{Piece, is_concerned, packet_type_of, serial_of}

-- how many octets of the body each fragment but the last one carries: a datagram has 1,472, and the header 80
abbrev pub most_carried : ℕ
most_carried = 1392

-- how many fragments a body of this length has
abbrev pub pieces_in : ℕ → ℕ
pieces_in size = (size + 1391) / 1392

-- what the fragment of this number carries
abbrev pub carried : ℕ → List ℕ → List ℕ
carried number body = take 1392 (drop (number * 1392) body)

-- whether the fragment of this number is the last one
abbrev pub is_final : ℕ → List ℕ → Bool
is_final number body = number + 1 == pieces_in (length body)

-- The flags of a packet whose sender wants acknowledgements, or does not (8): those above are kept.
abbrev pub flags_asking : Bool → ℕ → ℕ
flags_asking true flags = flags / 16 * 16
flags_asking false flags = flags / 16 * 16 + 8

-- the flags of a fragment: 4, and 2 for the last one
abbrev pub flags_with : Bool → ℕ → ℕ
flags_with true flags = flags + 6
flags_with false flags = flags + 4

-- the header of the fragment of this number
abbrev pub piece_head : Head → Bool → ℕ → List ℕ → Head
piece_head h wanted number body = record h {
  opening = record h.opening { flags = flags_with (is_final number body) (flags_asking wanted h.opening.flags) };
  extent = record { length = length (carried number body); fragment = number; authentication = 0 };
}

-- the octets of the fragment of this number
unfoldable pub piece_bytes : Head → Bool → ℕ → List ℕ → List ℕ
piece_bytes h wanted number body = head.write (piece_head h wanted number body) [] ++ carried number body

-- the fragment of this number
abbrev pub piece_in : Head → Bool → ℕ → List ℕ → Piece
piece_in h wanted number body =
    record { head = piece_head h wanted number body; serial = serial_of (piece_bytes h wanted number body); octets = carried number body }

-- the call or the answer that is split, in one piece
abbrev pub whole_of : Head → Bool → List ℕ → List ℕ
whole_of h wanted body =
    head.write (record h {
      opening = record h.opening { flags = flags_asking wanted h.opening.flags };
      extent = record { length = length body; fragment = 0; authentication = 0 };
    }) [] ++ body

-- ---- what can be sent

-- the fields of a header have their sizes, and it is one of this kind
pub record IsSendable (kind : Kind) (h : Head) : Type 0 where
  pub packet_type : h.opening.packet_type ≡ packet_type_of kind
  pub flags : h.opening.flags < 256
  pub representation : h.opening.representation < 32
  pub object : length h.names.object ≡ 16
  pub interface : length h.names.interface ≡ 16
  pub activity : length h.names.activity ≡ 16
  pub version : length h.turn.version ≡ 4
  pub sequence : length h.turn.sequence ≡ 4
  pub operation : h.turn.operation < 65536
  pub concerned : is_concerned kind h ≡ true
