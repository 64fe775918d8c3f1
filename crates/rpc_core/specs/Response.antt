-- Responses.
use Rattle.std.specs.Prelude.{◌==◌, ◌&&◌, ℕ, Bool, List, [], length, Option, Some, None, Result}
use Rattle.std.specs.Option.{option_map}
use Rattle.wire.specs.Codec.{Codec, Whole}
use Rattle.wire.specs.Checks.{named}
use Rattle.wire.specs.Whole.{loose}
use Rattle.wire.specs.Kept.{within}
use Rattle.rpc_core.specs.declared.fault.RpcFault.{RpcFault}
use Rattle.rpc_core.specs.declared.fault.RpcFault.TheVariants as fault
use Rattle.rpc_core.specs.declared.header.Head.{Head}
use Rattle.rpc_core.specs.declared.header.CallHeader.{CallHeader}
use Rattle.rpc_core.specs.declared.response.Response.{Response}
use Rattle.rpc_core.specs.declared.response.Status.{Status}
use Rattle.rpc_core.specs.Header.{order_of, header_of, head_for}
use Rattle.rpc_core.specs.Pdu.{pdu}
use Rattle.rpc_core.specs.Body.{Args, status, body, body_size}
use Rattle.rpc_core.specs.Call.{Asked}

-- the contents of a response
pub record Answered : Type 0 where
  pub header : CallHeader
  pub status : Status
  pub maximum_count : ℕ
  pub blocks : List ℕ

-- the contents of a response, independent of the place of its blocks in memory
abbrev pub answered : Response → Answered
answered response = record {
  header = response.header;
  status = response.status;
  maximum_count = response.maximum_count;
  blocks = response.blocks.now;
}

-- whether a call succeeded: PNIOStatus is 0
abbrev pub is_done : Status → Bool
is_done status = (status.code == 0) && ((status.decode == 0) && ((status.code1 == 0) && (status.code2 == 0)))

-- the response to a call: it repeats the header, and its MaximumCount is the call's ArgsMaximum
abbrev pub answer_to : Asked → Status → List ℕ → Answered
answer_to call status blocks = record { header = call.header; status = status; maximum_count = call.args_maximum; blocks = blocks }

-- PNIOStatus and the blocks, in the byte order of the header
abbrev pub response_body : Head → Whole RpcFault (Status × Args)
response_body h = body (status (order_of h.opening.representation)) (order_of h.opening.representation)

-- the response of a header and a body, if the counts of the blocks are right
abbrev pub answered_by : Head × (Status × Args) → Option Answered
answered_by x = option_map (λ blocks. record { header = header_of x.0; status = x.1.0; maximum_count = x.1.1.maximum; blocks = blocks }) x.1.1.blocks

-- the header and the body of a response
abbrev pub parts_of_response : Answered → Head × (Status × Args)
parts_of_response response =
    (head_for 2 0x0A response.header (body_size (length response.blocks)), (response.status, record { maximum = response.maximum_count; blocks = Some response.blocks }))

-- a response, with anything after it
unfoldable pub response : Codec RpcFault Answered
response = named answered_by parts_of_response fault.Args (within (pdu 2 None) response_body)

-- these octets spell this response
unfoldable pub IsResponse : List ℕ → Answered → Type 0
IsResponse bytes meaning = (loose response).Spells bytes meaning

-- the response that the octets are, or their first fault
unfoldable pub response_of : List ℕ → Result Answered RpcFault
response_of bytes = (loose response).read bytes

-- the octets that are sent for a response
unfoldable pub response_bytes : Answered → List ℕ
response_bytes meaning = response.write meaning []
