-- How a request is spelled after its FrameID (IEC 61158-6-10, 4.3.1).
use Rattle.std.specs.Prelude.{◌≡◌, ◌≤◌, ◌%◌, ◌==◌, ◌&&◌, ℕ, Bool, List, [], length, nat_lt, if◌then◌else◌, Result, Ok, Err}
use Rattle.wire.specs.Codec.{Codec, Whole, ◌>>=◌}
use Rattle.wire.specs.Formats.{number, then_by, ◌⨾◌, seen, padding, unchecked, framed}
use Rattle.wire.specs.Whole.{everything, refused, loose}
use Rattle.wire.specs.Filled.{filled}
use Rattle.dcp_core.specs.declared.kind.Kind.{Kind}
use Rattle.dcp_core.specs.declared.request.DcpFault.{DcpFault}
use Rattle.dcp_core.specs.declared.request.DcpFault.TheVariants as fault
use Rattle.dcp_core.specs.declared.request.Service.{Service}
use Rattle.dcp_core.specs.declared.request.Service.TheVariants.{Get, Set, Identify}
use Rattle.dcp_core.specs.Kinds.{kind_of, option_of, suboption_of}
use Rattle.dcp_core.specs.Request.{Asked, AskedBlock}

-- ---- values that only some formats have

-- a format under another view of its values, which `to` makes of them; only values that come back from `from` can be
-- written
abbrev pub viewed : {F A B : Type 0} → (A → B) → (B → A) → Codec F A → Codec F B
viewed to from codec = record {
  Spells = (seen to from codec).Spells;
  write = (seen to from codec).write;
  size = (seen to from codec).size;
  Fits = λ value. codec.Fits (from value) × (to (from value) ≡ value);
  read = (seen to from codec).read;
}

-- a format of all the bytes under another view of its values; only values that come back from `from` can be written
abbrev pub viewed_whole : {F A B : Type 0} → (A → B) → (B → A) → Whole F A → Whole F B
viewed_whole {A = A} to from whole = record {
  Spells = λ bytes value. (inner : A) × (to inner ≡ value) × whole.Spells bytes inner;
  write = λ value. whole.write (from value);
  size = λ value. whole.size (from value);
  Fits = λ value. whole.Fits (from value) × (to (from value) ≡ value);
  read = λ bytes. whole.read bytes >>= λ x. Ok (to x);
}

-- all the bytes, which are at least this many
abbrev pub at_least : {F : Type 0} → F → ℕ → Whole F (List ℕ)
at_least short least = record {
  Spells = λ bytes value. (bytes ≡ value) × (least ≤ length value);
  write = λ value. value;
  size = λ value. length value;
  Fits = λ value. least ≤ length value;
  read = λ bytes. if nat_lt (length bytes) least then Err short else Ok bytes;
}

-- ---- blocks

-- Option and Suboption
unfoldable pub kind : Codec DcpFault Kind
kind = viewed (λ x. kind_of x.0 x.1) (λ k. (option_of k, suboption_of k)) (number fault.Block 1 ⨾ number fault.Block 1)

-- a pair of a Get: only a kind
unfoldable pub pair : Codec DcpFault AskedBlock
pair = viewed (λ k. record { kind = k; contents = [] }) (λ block. block.kind) kind

-- a block: a kind, a Length, that many bytes, and a byte of padding if Length is odd, which may be missing at the end
unfoldable pub block : Whole DcpFault (List ℕ) → Codec DcpFault AskedBlock
block contents = seen (λ x. x.0) (λ asked. (asked, tt)) (then_by
    (seen (λ x. record { kind = x.0; contents = x.1 }) (λ asked. (asked.kind, asked.contents)) (kind ⨾ framed (number fault.Block 2) fault.Block contents))
    (λ asked. padding (length asked.contents % 2)))

-- A block of an Identify has a bare value, and a block of a Set begins with a BlockQualifier of two bytes.
unfoldable pub block_of : Service → Codec DcpFault AskedBlock
block_of Get = pair
block_of Set = block (at_least fault.Block 2)
block_of Identify = block everything

-- at most 16 blocks or pairs
unfoldable pub blocks_of : Service → Whole DcpFault (List AskedBlock)
blocks_of service = filled 16 fault.Block (block_of service)

-- ---- requests

-- ServiceID of a service
abbrev pub id_of : Service → ℕ
id_of Get = 3
id_of Set = 4
id_of Identify = 5

-- FrameID of a request for a service
abbrev pub frame_id_of : Service → ℕ
frame_id_of Get = 0xFEFD
frame_id_of Set = 0xFEFD
frame_id_of Identify = 0xFEFE

-- whether FrameID, ServiceID and ServiceType are those of a request for this service
abbrev pub is_for : Service → ℕ → ℕ → ℕ → Bool
is_for service frame_id id type = (frame_id == frame_id_of service) && (id == id_of service) && (type == 0)

-- the service that is requested
abbrev pub service_of : ℕ → ℕ → ℕ → Result Service DcpFault
service_of frame_id id type =
    if is_for Get frame_id id type then Ok Get
    else (if is_for Set frame_id id type then Ok Set
    else (if is_for Identify frame_id id type then Ok Identify else Err fault.Service))

-- the data of a service, or the fault of its header
unfoldable pub data_of : Result Service DcpFault → Whole DcpFault (Service × List AskedBlock)
data_of (Ok service) = viewed_whole (λ blocks. (service, blocks)) (λ x. x.1) (blocks_of service)
data_of (Err why) = refused why

-- ResponseDelay as it is written under a FrameID: 1, the minimum, for an Identify; 0, which is reserved, for a Get and
-- a Set
abbrev pub delay_under : ℕ → ℕ
delay_under frame_id = if frame_id == frame_id_of Identify then 1 else 0

-- ServiceID, ServiceType, Xid, ResponseDelay, which is read with any value, DCPDataLength and the data
unfoldable pub header_and_data : ℕ → Codec DcpFault Asked
header_and_data frame_id = seen
    (λ x. record { service = x.1.0; xid = x.0.1.1.0; blocks = x.1.1 })
    (λ asked. ((id_of asked.service, (0, (asked.xid, tt))), (asked.service, asked.blocks)))
    (then_by (number fault.Length 1 ⨾ number fault.Length 1 ⨾ number fault.Length 4 ⨾ unchecked fault.Length 2 (delay_under frame_id))
    (λ head. framed (number fault.Length 2) fault.Length (data_of (service_of frame_id head.0 head.1.0))))

-- a request, whose DCPDataLength says where it ends: what follows is not read
unfoldable pub request : ℕ → Whole DcpFault Asked
request frame_id = loose (header_and_data frame_id)
