-- The answers of the endpoint mapper.
use Rattle.std.specs.Prelude.{◌==◌, ◌&&◌, ℕ, Bool, List, [], ◌∷◌, ◌++◌, take, Option, Some, None, Result, Ok, Err, if◌then◌else◌}
use Rattle.std.specs.Option.{option_map}
use Rattle.pn_values.specs.declared.identity.Identity.{Identity}
use Rattle.rpc_core.specs.declared.fault.RpcFault.{RpcFault}
use Rattle.frame_codec.specs.Frame.{frame_bytes}
use Rattle.rpc_core.specs.declared.call_headers.call.Head.{Head}
use Rattle.rpc_core.specs.declared.call_headers.unserved.Rejection.TheVariants.{Operation}
use Rattle.rpc_core.specs.declared.call_headers.unserved.Refusal.TheVariants.{Reject}
use Rattle.rpc_core.specs.call_headers.Call.{head, is_little}
use Rattle.services.specs.State.{State}
use Rattle.services.specs.Answer.{Call, call_in, call_reply_of}
use Rattle.rpc_core.specs.call_headers.Unserved.{answer_bytes, answer_head, is_read, mapper_uuid, names_interface}
use Rattle.rpc_services.specs.declared.endpoint_mapper.lookup.Lookup.{Lookup}
use Rattle.rpc_services.specs.endpoint_mapper.Lookup.{gets_entry, lookup}
use Rattle.rpc_services.specs.endpoint_mapper.Entry.{ended, found, freed}

-- whether numbers of a call and of its answer are sent with the lowest octet first
abbrev pub low_first : Head → Bool
low_first h = is_little h.opening.representation

-- The header of a response before a body of this length: packet type 2, with the flags 10.
abbrev pub response_head : Head → ℕ → Head
response_head h size = record (answer_head h 2 size) { opening = record (answer_head h 2 size).opening { flags = 10 } }

-- a response with this body
abbrev pub response : Head → ℕ → List ℕ → List ℕ
response h size body = head.write (response_head h size) [] ++ body

-- The answer to a lookup: the entry, or the end.
abbrev pub lookup_bytes : Identity → List ℕ → Head → Lookup → List ℕ
lookup_bytes identity address h l =
    if gets_entry l then response h 216 (found (low_first h) identity address l.most) else response h 40 (ended (low_first h) l.most)

-- A lookup that cannot be read is not answered.
abbrev pub lookup_answer : Identity → List ℕ → Head → Result (Lookup × List ℕ) RpcFault → Option (List ℕ)
lookup_answer identity address h (Ok x) = Some (lookup_bytes identity address h x.0)
lookup_answer identity address h (Err fault) = None

-- The answer by the operation: 2 is a lookup, 4 frees a handle, and any other is rejected.
abbrev pub operation_answer : Identity → List ℕ → Head → List ℕ → Option (List ℕ)
operation_answer identity address h body =
    if h.turn.operation == 2 then lookup_answer identity address h ((lookup (low_first h)).read body)
    else if h.turn.operation == 4 then Some (response h 24 (freed (low_first h)))
    else Some (answer_bytes h (Reject Operation))

-- Whether a call is a request to the endpoint mapper.
abbrev pub is_mapped : Head → List ℕ → Bool
is_mapped h body = is_read h body && h.opening.packet_type == 0 && names_interface h mapper_uuid

-- The answer to what was read of a datagram's body. The octets after the length of the call are ignored.
abbrev pub mapped_by : Identity → List ℕ → Result (Head × List ℕ) RpcFault → Option (List ℕ)
mapped_by identity address (Ok call) =
    if is_mapped call.0 call.1 then operation_answer identity address call.0 (take call.0.extent.length call.1) else None
mapped_by identity address (Err fault) = None

-- The answer to the body of a datagram, if it is a request to the endpoint mapper.
unfoldable pub mapped : Identity → List ℕ → List ℕ → Option (List ℕ)
mapped identity address body = mapped_by identity address (head.read body)

-- the answer to a call, as a frame
abbrev pub mapped_call : State → Identity → Option Call → Option (List ℕ)
mapped_call state identity (Some call) = option_map (λ answer. frame_bytes (call_reply_of state.mac state.address call.source call.caller answer)) (mapped identity state.address call.body)
mapped_call state identity None = None

-- The answer to a frame, if it brings such a request to this station.
abbrev pub mapped_frame : State → Identity → List ℕ → Option (List ℕ)
mapped_frame state identity bytes = mapped_call state identity (call_in state bytes)
