-- What calls and responses have in common: a header that passes its tests, and a body of the stated length.
use Rattle.std.specs.Prelude.{◌/◌, ◌%◌, ◌==◌, ◌&&◌, ℕ, Bool, true, List, length, nat_le, nat_lt, nat_eq, Option, Some, None}
use Rattle.std.specs.Cmp.Lexicographic.{pointwise}
use Rattle.wire.specs.Codec.{Codec}
use Rattle.wire.specs.Formats.{raw, then_by}
use Rattle.wire.specs.Checks.{checked}
use Rattle.rpc_core.specs.declared.fault.RpcFault.{RpcFault}
use Rattle.rpc_core.specs.declared.fault.RpcFault.TheVariants as fault
use Rattle.rpc_core.specs.declared.header.Head.{Head}
use Rattle.rpc_core.specs.declared.interface.Interface.{Interface}
use Rattle.rpc_core.specs.Header.{head}
use Rattle.rpc_core.specs.Interface.{interface_uuid}

-- the header, and a body of at least 20 octets, which is everything that the header's length counts
unfoldable pub cut_off : Codec RpcFault (Head × List ℕ)
cut_off = then_by (checked (λ (h : Head). nat_le 20 h.extent.length) fault.Short head) (λ (h : Head). raw fault.Short h.extent.length)

-- version 4, this packet type, no authentication
abbrev pub is_version : ℕ → Head → Bool
is_version packet_type h = (h.opening.version == 4) && (h.opening.packet_type == packet_type) && (h.extent.authentication == 0)

-- whether the representation is big endian or little endian
abbrev pub is_known : Head → Bool
is_known h = nat_lt (h.opening.representation / 16) 2

-- the fragment flag, whose value is 4, is not set and the fragment's number is 0
abbrev pub is_whole : Head → Bool
is_whole h = (h.opening.flags / 4 % 2 == 0) && (h.extent.fragment == 0)

-- the interface is the one that is served, if one is given
abbrev pub is_served : Option Interface → Head → Bool
is_served None h = true
is_served (Some interface) h = pointwise nat_eq h.names.interface (interface_uuid interface)

-- a header that passes these tests in this order, and its body
unfoldable pub pdu : ℕ → Option Interface → Codec RpcFault (Head × List ℕ)
pdu packet_type interface =
    checked (λ x. is_served interface x.0) fault.Interface (checked (λ x. is_whole x.0) fault.Fragment
    (checked (λ x. is_known x.0) fault.Representation (checked (λ x. is_version packet_type x.0) fault.Version cut_off)))
