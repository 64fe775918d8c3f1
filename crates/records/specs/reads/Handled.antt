-- The order in which calls of Read are checked.
use Rattle.std.specs.Prelude.{◌==◌, ◌||◌, ℕ, Bool, not, List, [], ◌∷◌, Option, Result, Ok, is_some}
use Rattle.pn_values.specs.declared.real.Real.{Real}
use Rattle.wire.specs.Checks.{or_fault}
use Rattle.wire.specs.Codec.{◌>>=◌}
use Rattle.block_codec.specs.declared.block_type.BlockType.TheVariants as kind
use Rattle.block_codec.specs.Block.{in_iod_read_req}
use Rattle.record_blocks.specs.declared.read_record.IodReadReq.{IodReadReq}
use Rattle.im_records.specs.Indices.{is_anywhere, record_with}
use Rattle.im_records.specs.Records.{is_real}
use Rattle.records.specs.declared.status.call_fault.CallFault.{CallFault}
use Rattle.records.specs.declared.status.call_fault.CallFault.TheVariants as fault
use Rattle.records.specs.calls.Handled.{handled}
use Rattle.records.specs.calls.Single.{single_of}
use Rattle.records.specs.reads.Answer.{answer_of}
use Rattle.records.specs.reads.Parameters.{parameter_length}

-- The IODReadReqHeader of a call, with any octets after it.
unfoldable pub request_of : List ℕ → Result IodReadReq CallFault
request_of blocks = single_of kind.IodReadReq blocks >>= λ x. or_fault fault.BlockForm (in_iod_read_req x.0)

-- The checks of the place of a record: the API, and then the slot and subslot.
unfoldable pub placed : Real → ℕ → ℕ → ℕ → ℕ → Result (Unit {0}) CallFault
placed real api slot subslot index = handled
    ((not (api == 0), fault.Api)
    ∷ (not (is_anywhere (record_with index) || is_real real slot subslot), fault.Place)
    ∷ [])
    (Ok tt)

-- Whether the submodule in this slot and subslot has a parameter record with this index.
abbrev pub has_parameter : Real → ℕ → ℕ → ℕ → Bool
has_parameter real slot subslot index = is_some (parameter_length real.modules.items slot subslot index)

-- The checks of the record: there is one with this index at its place, and it is readable.
abbrev pub found : Real → IodReadReq → Option (List ℕ) → Result (List ℕ) CallFault
found real request readable = handled
    ((not (is_some readable || has_parameter real request.header.slot_number request.header.subslot_number request.header.index), fault.Index)
    ∷ [])
    (or_fault fault.Access readable)

-- The response to a request; `readable` is the record if there is a readable one.
unfoldable pub read_of : Real → IodReadReq → Option (List ℕ) → Result (List ℕ) CallFault
read_of real request readable = placed real request.header.api request.header.slot_number request.header.subslot_number request.header.index
    >>= λ _. found real request readable >>= λ octets. Ok (answer_of request octets)
