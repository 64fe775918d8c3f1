-- Fragments of calls and of answers (C706, 12.5.2.3 and 12.5.3).
use Rattle.std.specs.Prelude.{◌/◌, ◌*◌, ◌%◌, ◌+◌, ◌==◌, ◌&&◌, ℕ, Bool, true, nat_eq, nat_le, nat_lt, List, length, take, slice_index, Option, Some, None, Result, Ok, Err, if◌then◌else◌}
use Rattle.std.specs.Cmp.Lexicographic.{pointwise}
use Rattle.rpc_core.specs.declared.fault.RpcFault.{RpcFault}
use Rattle.rpc_core.specs.declared.interface.Interface.TheVariants.{Device}
use Rattle.rpc_core.specs.Interface.{interface_uuid}
use Rattle.rpc_core.specs.declared.call_headers.call.Head.{Head}
use Rattle.rpc_core.specs.call_headers.Call.{head}
use Rattle.rpc_core.specs.call_headers.Unserved.{names_interface}
use Rattle.rpc_services.specs.declared.pieces.piece.Kind.{Kind}
use Rattle.rpc_services.specs.declared.pieces.piece.Kind.TheVariants.{Calls, Answers}

-- A fragment: its header, its serial number, and the octets that it carries.
pub record Piece : Type 0 where
  pub head : Head
  pub serial : ℕ
  pub octets : List ℕ

-- ---- flags

-- the flag 4: the packet is a fragment
abbrev pub is_fragment : ℕ → Bool
is_fragment flags = flags / 4 % 2 == 1

-- the flag 2: it is the last fragment
abbrev pub is_last : ℕ → Bool
is_last flags = flags / 2 % 2 == 1

-- without the flag 8, the sender wants an acknowledgement
abbrev pub asks : ℕ → Bool
asks flags = flags / 8 % 2 == 0

-- ---- reading

-- the packet type of calls, and of answers
abbrev pub packet_type_of : Kind → ℕ
packet_type_of Calls = 0
packet_type_of Answers = 2

-- calls are those of the device's interface; answers are those of any
abbrev pub is_concerned : Kind → Head → Bool
is_concerned Calls h = names_interface h (interface_uuid Device)
is_concerned Answers h = true

-- Whether a packet is a fragment of this kind: a known byte order, no authentication, the flag, and a body that is present
-- and not empty.
abbrev pub is_piece : Kind → Head → List ℕ → Bool
is_piece kind h body =
    nat_lt (h.opening.representation / 16) 2 && h.extent.authentication == 0
    && h.opening.packet_type == packet_type_of kind && is_fragment h.opening.flags
    && nat_le 1 h.extent.length && nat_le h.extent.length (length body) && is_concerned kind h

-- the serial number: octets 7 and 79 of the packet
abbrev pub serial_of : List ℕ → ℕ
serial_of bytes = slice_index bytes 7 * 256 + slice_index bytes 79

-- The fragment that octets with this header are, if they are one.
abbrev pub piece_by : Kind → List ℕ → Result (Head × List ℕ) RpcFault → Option Piece
piece_by kind bytes (Ok x) =
    if is_piece kind x.0 x.1 then Some (record { head = x.0; serial = serial_of bytes; octets = take x.0.extent.length x.1 }) else None
piece_by kind bytes (Err fault) = None

-- The body of a datagram as a fragment of this kind, if it is one. Octets after its length are ignored.
unfoldable pub piece_of : Kind → List ℕ → Option Piece
piece_of kind bytes = piece_by kind bytes (head.read bytes)

-- ---- what belongs together

-- the number of a fragment, from 0
abbrev pub number_of : Piece → ℕ
number_of p = p.head.extent.fragment

-- whether two headers are of one activity
abbrev pub is_activity : Head → Head → Bool
is_activity h other = pointwise nat_eq h.names.activity other.names.activity

-- whether two headers are of one activity and sequence, in one byte order
abbrev pub is_same : Head → Head → Bool
is_same h other =
    is_activity h other && pointwise nat_eq h.turn.sequence other.turn.sequence
    && (h.opening.representation / 16 == other.opening.representation / 16)
