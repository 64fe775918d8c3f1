-- How a response is spelled after its FrameID (IEC 61158-6-10, 4.3.1).
use Rattle.std.specs.Prelude.{◌≡◌, ◌==◌, ◌&&◌, ℕ, Bool, true, false, List, [], ◌∷◌, ◌++◌, length, nat_lt, slice_index, drop, if◌then◌else◌, Result, Ok, Err}
use Rattle.std.specs.Int.{w16, to_be_bytes}
use Rattle.wire.specs.Codec.{Codec, Whole, ◌>>=◌}
use Rattle.wire.specs.Formats.{number, then_by, ◌⨾◌, seen, unchecked, framed, big_number}
use Rattle.wire.specs.Whole.{everything, refused, loose}
use Rattle.pn_values.specs.declared.set_item.BlockError.TheVariants as error
use Rattle.dcp_core.specs.declared.kind.Kind.{Kind}
use Rattle.dcp_core.specs.declared.kind.Kind.TheVariants.{Response}
use Rattle.dcp_core.specs.declared.request.DcpFault.{DcpFault}
use Rattle.dcp_core.specs.declared.request.DcpFault.TheVariants as fault
use Rattle.dcp_core.specs.declared.request.Service.{Service}
use Rattle.dcp_core.specs.declared.request.Service.TheVariants.{Get, Set, Identify}
use Rattle.dcp_core.specs.declared.response.Outcome.{Outcome}
use Rattle.dcp_core.specs.declared.response.Outcome.TheVariants.{Known, Other}
use Rattle.dcp_core.specs.Kinds.{kind_of, option_of, suboption_of}
use Rattle.dcp_core.specs.Request.{AskedBlock}
use Rattle.dcp_core.specs.Response.{Answered, AnsweredBlock, reported, came_out}
use Rattle.dcp_core.specs.Bytes.{error_number}
use Rattle.dcp_core.specs.Format.{viewed_whole, block, id_of}
use Rattle.dcp_core.specs.Every.{every}

-- ---- blocks

-- the outcome that a BlockError names
abbrev pub outcome_of : ℕ → Outcome
outcome_of number =
    if number == 0 then Known error.Done else (if number == 1 then Known error.Option else (if number == 2 then Known error.Suboption
    else (if number == 3 then Known error.Value else (if number == 4 then Known error.Exhausted
    else (if number == 5 then Known error.Local else (if number == 6 then Known error.InOperation else Other number))))))

-- the BlockError of an outcome
abbrev pub number_of : Outcome → ℕ
number_of (Known error) = error_number error
number_of (Other number) = number

-- Option, Suboption and BlockError
abbrev pub outcome_in : List ℕ → Result AnsweredBlock DcpFault
outcome_in contents =
    if length contents == 3
    then Ok (came_out (kind_of (slice_index contents 0) (slice_index contents 1)) (outcome_of (slice_index contents 2)))
    else Err fault.Block

-- BlockInfo and a value
abbrev pub value_in : Kind → List ℕ → Result AnsweredBlock DcpFault
value_in kind contents =
    if nat_lt (length contents) 2 then Err fault.Block else Ok (reported kind (big_number 2 contents) (drop 2 contents))

-- What a block says: 5/4 is the outcome of another block or pair, and any other kind has its value.
abbrev pub said_by : Kind → List ℕ → Result AnsweredBlock DcpFault
said_by Response contents = outcome_in contents
said_by kind contents = value_in kind contents

-- the block that says this
abbrev pub saying : AnsweredBlock → AskedBlock
saying (reported kind info value) = record { kind = kind; contents = to_be_bytes w16 info ++ value }
saying (came_out kind outcome) = record { kind = Response; contents = option_of kind ∷ suboption_of kind ∷ number_of outcome ∷ [] }

-- a format whose values are turned into others or refused; `from` says which value is written
abbrev pub handled : {F A B : Type 0} → (A → Result B F) → (B → A) → Codec F A → Codec F B
handled {A = A} judge from codec = record {
  Spells = λ bytes value rest. (inner : A) × (judge inner ≡ Ok value) × codec.Spells bytes inner rest;
  write = λ value rest. codec.write (from value) rest;
  size = λ value. codec.size (from value);
  Fits = λ value. codec.Fits (from value) × (judge (from value) ≡ Ok value);
  read = λ bytes. codec.read bytes >>= λ x. judge x.0 >>= λ value. Ok (value, x.1);
}

-- a block, spelled like a block of a request
unfoldable pub answer_block : Codec DcpFault AnsweredBlock
answer_block = handled (λ block. said_by block.kind block.contents) saying (block everything)

-- any number of blocks
unfoldable pub answer_blocks : Whole DcpFault (List AnsweredBlock)
answer_blocks = every fault.Block answer_block

-- ---- responses

-- FrameID of a response
abbrev pub answer_frame_id_of : Service → ℕ
answer_frame_id_of Get = 0xFEFD
answer_frame_id_of Set = 0xFEFD
answer_frame_id_of Identify = 0xFEFF

-- whether FrameID and ServiceID are those of a response to this service
abbrev pub answers : Service → ℕ → ℕ → Bool
answers service frame_id id = (frame_id == answer_frame_id_of service) && (id == id_of service)

-- the service of a response
abbrev pub answered_service : ℕ → ℕ → Result Service DcpFault
answered_service frame_id id =
    if answers Get frame_id id then Ok Get
    else (if answers Set frame_id id then Ok Set else (if answers Identify frame_id id then Ok Identify else Err fault.Service))

-- ServiceType of a response: 1, or 5 if the service is not supported
abbrev pub type_of : Bool → ℕ
type_of true = 1
type_of false = 5

-- whether the service is supported
abbrev pub is_supported_by : ℕ → Result Bool DcpFault
is_supported_by type = if type == 1 then Ok true else (if type == 5 then Ok false else Err fault.Service)

-- the service and whether it is supported, from FrameID, ServiceID and ServiceType
abbrev pub answer_to : ℕ → ℕ → ℕ → Result (Service × Bool) DcpFault
answer_to frame_id id type = answered_service frame_id id >>= λ service. is_supported_by type >>= λ supported. Ok (service, supported)

-- the data of a response, or the fault of its header
unfoldable pub answer_data : Result (Service × Bool) DcpFault → Whole DcpFault ((Service × Bool) × List AnsweredBlock)
answer_data (Ok service) = viewed_whole (λ blocks. (service, blocks)) (λ x. x.1) answer_blocks
answer_data (Err why) = refused why

-- ServiceID, ServiceType, Xid, two reserved bytes, which are ignored, DCPDataLength and the data
unfoldable pub answer_header_and_data : ℕ → Codec DcpFault Answered
answer_header_and_data frame_id = seen
    (λ x. record { service = x.1.0.0; is_supported = x.1.0.1; xid = x.0.1.1.0; blocks = x.1.1 })
    (λ said. ((id_of said.service, (type_of said.is_supported, (said.xid, tt))), ((said.service, said.is_supported), said.blocks)))
    (then_by (number fault.Length 1 ⨾ number fault.Length 1 ⨾ number fault.Length 4 ⨾ unchecked fault.Length 2 0)
    (λ head. framed (number fault.Length 2) fault.Length (answer_data (answer_to frame_id head.0 head.1.0))))

-- a response, whose DCPDataLength says where it ends: what follows is not read
unfoldable pub answer : ℕ → Whole DcpFault Answered
answer frame_id = loose (answer_header_and_data frame_id)

-- these bytes spell this response
unfoldable pub IsAnswer : ℕ → List ℕ → Answered → Type 0
IsAnswer frame_id bytes said = (answer frame_id).Spells bytes said

-- the response that the bytes are, or their first fault
unfoldable pub answer_of : ℕ → List ℕ → Result Answered DcpFault
answer_of frame_id bytes = (answer frame_id).read bytes
