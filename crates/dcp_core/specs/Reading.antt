-- The request that the bytes after a FrameID are.
use Rattle.std.specs.Prelude.{ℕ, List, Result}
pub use Rattle.wire.specs.Codec.{Gives}
use Rattle.dcp_core.specs.declared.request.DcpFault.{DcpFault}
use Rattle.dcp_core.specs.Request.{Asked}
use Rattle.dcp_core.specs.Format.{request}

-- these bytes spell this request
unfoldable pub IsRequest : ℕ → List ℕ → Asked → Type 0
IsRequest frame_id bytes asked = (request frame_id).Spells bytes asked

-- the request that the bytes are, or their first fault
unfoldable pub request_of : ℕ → List ℕ → Result Asked DcpFault
request_of frame_id bytes = (request frame_id).read bytes
