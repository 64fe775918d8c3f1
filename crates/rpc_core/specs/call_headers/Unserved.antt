-- Pings, and calls to unknown interfaces or operations (C706, 12.5 and appendix E).
use Rattle.std.specs.Prelude.{◌/◌, ◌*◌, ◌%◌, ◌==◌, ◌&&◌, ℕ, Bool, true, false, nat_eq, nat_le, nat_lt, List, [], ◌∷◌, ◌++◌, length, Option, Some, None, Result, Ok, Err, if◌then◌else◌}
use Rattle.std.specs.Cmp.Lexicographic.{pointwise}
use Rattle.std.specs.Option.{option_map}
use Rattle.rpc_core.specs.declared.fault.RpcFault.{RpcFault}
use Rattle.rpc_core.specs.declared.interface.Interface.TheVariants.{Device}
use Rattle.uuid.specs.Parts.{swap_fields}
use Rattle.rpc_core.specs.Interface.{interface_uuid}
use Rattle.rpc_core.specs.declared.call_headers.call.Head.{Head}
use Rattle.rpc_core.specs.declared.call_headers.unserved.Rejection.{Rejection}
use Rattle.rpc_core.specs.declared.call_headers.unserved.Rejection.TheVariants.{Operation, Interface}
use Rattle.rpc_core.specs.declared.call_headers.unserved.Refusal.{Refusal}
use Rattle.rpc_core.specs.declared.call_headers.unserved.Refusal.TheVariants.{NoCall, Reject}
use Rattle.rpc_core.specs.call_headers.Call.{head, in_order, is_little}

-- E1AF8308-5D1F-11C9-91A4-08002B14A0FA, the interface of the endpoint mapper
abbrev pub mapper_uuid : List ℕ
mapper_uuid = 0xE1 ∷ 0xAF ∷ 0x83 ∷ 0x08 ∷ 0x5D ∷ 0x1F ∷ 0x11 ∷ 0xC9 ∷ 0x91 ∷ 0xA4 ∷ 0x08 ∷ 0x00 ∷ 0x2B ∷ 0x14 ∷ 0xA0 ∷ 0xFA ∷ []

-- an identifier as it is sent: its first three fields are numbers
abbrev pub sent_uuid : Bool → List ℕ → List ℕ
sent_uuid true octets = swap_fields octets
sent_uuid false octets = octets

-- whether a call names this interface
abbrev pub names_interface : Head → List ℕ → Bool
names_interface h uuid = pointwise nat_eq h.names.interface (sent_uuid (is_little h.opening.representation) uuid)

-- Whether a call is read by its header: a known byte order, no authentication, no fragment, and a body that is present.
abbrev pub is_read : Head → List ℕ → Bool
is_read h body =
    nat_lt (h.opening.representation / 16) 2 && h.extent.authentication == 0
    && (h.opening.flags / 4 % 2 == 0) && h.extent.fragment == 0
    && nat_le h.extent.length (length body)

-- What answers a request: nothing if its interface serves its operation, which is 0 to 5 at the device.
abbrev pub request_refusal : Head → Option Refusal
request_refusal h =
    if names_interface h (interface_uuid Device) then (if nat_lt 5 h.turn.operation then Some (Reject Operation) else None)
    else if names_interface h mapper_uuid then None
    else Some (Reject Interface)

-- What answers a call that was read: a ping of any interface, packet type 1, gets 'no call'; a request is packet type 0.
abbrev pub refusal_of : Head → Option Refusal
refusal_of h =
    if h.opening.packet_type == 1 then Some NoCall
    else if h.opening.packet_type == 0 then request_refusal h
    else None

-- ---- answers

-- the status that a rejection carries: `nca_op_rng_error` and `nca_unk_if`
abbrev pub status_of : Rejection → ℕ
status_of Operation = 0x1C010002
status_of Interface = 0x1C010003

-- The header of an answer of this packet type before a body of this length: the caller's, in its byte order, with the flag
-- 8, no fragment and no authentication.
abbrev pub answer_head : Head → ℕ → ℕ → Head
answer_head h packet_type size = record {
  opening = record { packet_type = packet_type; flags = 8; representation = h.opening.representation / 16 * 16 };
  names = h.names;
  turn = h.turn;
  extent = record { length = size; fragment = 0; authentication = 0 };
}

-- the octets of an answer: 'no call' is packet type 5, a rejection is packet type 6 with its status
unfoldable pub answer_bytes : Head → Refusal → List ℕ
answer_bytes h NoCall = head.write (answer_head h 5 0) []
answer_bytes h (Reject rejection) = head.write (answer_head h 6 4) [] ++ (in_order (is_little h.opening.representation) 4).write (status_of rejection) []

-- the answer to what was read of a body
abbrev pub answer_by : Result (Head × List ℕ) RpcFault → Option (List ℕ)
answer_by (Ok call) = if is_read call.0 call.1 then option_map (answer_bytes call.0) (refusal_of call.0) else None
answer_by (Err fault) = None

-- The answer to the body of a datagram, if it is a ping or a call that nobody serves.
unfoldable pub unserved_answer : List ℕ → Option (List ℕ)
unserved_answer body = answer_by (head.read body)
