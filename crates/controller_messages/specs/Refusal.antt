-- The packets by which a station refuses a call: reject and fault (C706, 12.5.2.3 and 12.5.2.6).
use Rattle.std.specs.Prelude.{◌/◌, ◌%◌, ◌==◌, ◌&&◌, ◌||◌, ℕ, Bool, true, false, List, [], ◌∷◌, replicate, nat_lt, if◌then◌else◌, Option, Some, None, Result, Ok, Err}
use Rattle.std.specs.List.{slice_get}
use Rattle.wire.specs.Codec.{Codec, ◌>>=◌}
use Rattle.wire.specs.Formats.{raw, number, then_by, ◌⨾◌, seen}
use Rattle.wire.specs.Checks.{checked, fixed}
use Rattle.rpc_core.specs.declared.fault.RpcFault.{RpcFault}
use Rattle.rpc_core.specs.declared.fault.RpcFault.TheVariants.{Short, Version}
use Rattle.rpc_core.specs.declared.response.Status.{Status}
use Rattle.rpc_core.specs.Fields.{any, little, one, turned}
use Rattle.controller_messages.specs.declared.refusal.Opening.{Opening}
use Rattle.controller_messages.specs.declared.refusal.Extent.{Extent}
use Rattle.controller_messages.specs.declared.refusal.Packet.{Packet}
use Rattle.controller_messages.specs.declared.refusal.Refusal.{Refusal}

-- Whether numbers have the lowest octet first, by the first octet of the representation.
abbrev pub is_little : ℕ → Bool
is_little representation = representation / 16 == 1

-- A number of this many octets, and an identifier of 16 octets, in either order.
unfoldable pub in_order : Bool → ℕ → Codec RpcFault ℕ
in_order true size = little size
in_order false size = number Short size

-- The format of a UUID in a byte order.
unfoldable pub uuid_in : Bool → Codec RpcFault (List ℕ)
uuid_in true = seen turned turned (raw Short 16)
uuid_in false = raw Short 16

-- ---- the header, 80 octets

-- Version 4, packet type, which is judged before, two octets of flags, three of representation, and the high half of the serial number.
unfoldable pub opening : Codec RpcFault Opening
opening = seen
    (λ x. record { flags = x.1.1.0; representation = x.1.1.1.1.0 })
    (λ o. (tt, (tt, (o.flags, (tt, (o.representation, tt))))))
    (fixed Version 1 4 ⨾ any 1 (0 ∷ []) ⨾ one ⨾ any 1 (0 ∷ []) ⨾ one ⨾ any 3 (replicate 3 0))

-- The body's length, the fragment's number, the authentication, and the low half of the serial number.
unfoldable pub extent : Bool → Codec RpcFault Extent
extent low = seen
    (λ x. record { length = x.0; fragment = x.1.0; authentication = x.1.1.0 })
    (λ e. (e.length, (e.fragment, (e.authentication, tt))))
    (in_order low 2 ⨾ in_order low 2 ⨾ one ⨾ any 1 (0 ∷ []))

-- Object and interface, which are not read; the activity; the server's boot time and the interface's version; the
-- sequence number; the operation and two hints; and what follows.
unfoldable pub packet : Codec RpcFault Packet
packet = seen
    (λ x. record { opening = x.0; activity = x.1.1.0; sequence = x.1.1.1.1.0; extent = x.1.1.1.1.1.1 })
    (λ p. (p.opening, (tt, (p.activity, (tt, (p.sequence, (tt, p.extent)))))))
    (then_by opening (λ (o : Opening). any 32 (replicate 32 0) ⨾ uuid_in (is_little o.representation) ⨾ any 8 (replicate 8 0)
    ⨾ in_order (is_little o.representation) 4 ⨾ any 6 (replicate 6 0) ⨾ extent (is_little o.representation)))

-- ---- what is refused

-- Whether the packet type, the second octet, is 3, fault, or 6, reject.
abbrev pub is_refusal : Option ℕ → Bool
is_refusal (Some kind) = kind == 3 || kind == 6
is_refusal None = false

-- A known representation; no fragment and no authentication.
abbrev pub is_whole : Packet → Bool
is_whole p =
    nat_lt (p.opening.representation / 16) 2
    && (p.opening.flags / 4 % 2 == 0 && (p.extent.fragment == 0 && p.extent.authentication == 0))

-- The first four octets of the body: a status, a word in the packet's order.
unfoldable pub word : Bool → Codec RpcFault Status
word true = seen
    (λ x. record { code = x.1.1.1; decode = x.1.1.0; code1 = x.1.0; code2 = x.0 })
    (λ s. (s.code2, (s.code1, (s.decode, s.code))))
    (one ⨾ one ⨾ one ⨾ one)
word false = seen
    (λ x. record { code = x.0; decode = x.1.0; code1 = x.1.1.0; code2 = x.1.1.1 })
    (λ s. (s.code, (s.decode, (s.code1, s.code2))))
    (one ⨾ one ⨾ one ⨾ one)

-- The refusal that the octets of a packet of such a type are, or a fault.
unfoldable pub refusal_in : List ℕ → Result Refusal RpcFault
refusal_in bytes =
    (checked is_whole Version packet).read bytes
    >>= λ p. (raw Short p.0.extent.length).read p.1
    >>= λ body. (word (is_little p.0.opening.representation)).read body.0
    >>= λ status. Ok (record { activity = p.0.activity; sequence = p.0.sequence; status = status.0 })

-- The refusal that the octets are, or a fault.
unfoldable pub refusal_of : List ℕ → Result Refusal RpcFault
refusal_of bytes = if is_refusal (slice_get bytes 1) then refusal_in bytes else Err Version
