-- Calls.
use Rattle.std.specs.Prelude.{ℕ, List, [], length, Option, Some, Result}
use Rattle.std.specs.Option.{option_map}
use Rattle.wire.specs.Codec.{Codec, Whole}
use Rattle.wire.specs.Formats.{seen}
use Rattle.wire.specs.Whole.{loose}
use Rattle.wire.specs.Kept.{within}
use Rattle.rpc_core.specs.declared.call.Call.{Call}
use Rattle.rpc_core.specs.declared.fault.RpcFault.{RpcFault}
use Rattle.rpc_core.specs.declared.header.Head.{Head}
use Rattle.rpc_core.specs.declared.header.CallHeader.{CallHeader}
use Rattle.rpc_core.specs.declared.interface.Interface.{Interface}
use Rattle.rpc_core.specs.Fields.{ordered}
use Rattle.rpc_core.specs.Header.{order_of, header_of, head_for}
use Rattle.rpc_core.specs.Pdu.{pdu}
use Rattle.rpc_core.specs.Body.{Args, octets_of, body, body_size}

-- the contents of a call; it has no blocks if their counts are wrong
pub record Asked : Type 0 where
  pub header : CallHeader
  pub args_maximum : ℕ
  pub blocks : Option (List ℕ)

-- the contents of a call, independent of the place of its blocks in memory
abbrev pub asked : Call → Asked
asked call = record { header = call.header; args_maximum = call.args_maximum; blocks = option_map (λ blocks. blocks.now) call.blocks }

-- ArgsMaximum and the blocks, in the byte order of the header
abbrev pub call_body : Head → Whole RpcFault (ℕ × Args)
call_body h = body (ordered (order_of h.opening.representation) 4) (order_of h.opening.representation)

-- the call of a header and a body
abbrev pub asked_by : Head × (ℕ × Args) → Asked
asked_by x = record { header = header_of x.0; args_maximum = x.1.0; blocks = x.1.1.blocks }

-- the header and the body of a call; its MaximumCount repeats ArgsMaximum
abbrev pub parts_of_call : Asked → Head × (ℕ × Args)
parts_of_call call =
    (head_for 0 0x20 call.header (body_size (length (octets_of call.blocks))), (call.args_maximum, record { maximum = call.args_maximum; blocks = call.blocks }))

-- a call to this interface, with anything after it
unfoldable pub call : Interface → Codec RpcFault Asked
call interface = seen asked_by parts_of_call (within (pdu 0 (Some interface)) call_body)

-- these octets spell this call
unfoldable pub IsCall : Interface → List ℕ → Asked → Type 0
IsCall interface bytes meaning = (loose (call interface)).Spells bytes meaning

-- the call that the octets are, or their first fault
unfoldable pub call_of : Interface → List ℕ → Result Asked RpcFault
call_of interface bytes = (loose (call interface)).read bytes

-- the octets that are sent for a call
unfoldable pub call_bytes : Interface → Asked → List ℕ
call_bytes interface meaning = (call interface).write meaning []
