-- Connect: which relation a device establishes, and what it answers (IEC 61158-6-10, 5.2.4).
use Rattle.std.specs.Prelude.{◌++◌, ◌&&◌, ℕ, Bool, false, nat_eq, not, List, [], Option, Some, None, Result, Ok, Err, if◌then◌else◌}
use Rattle.std.specs.Cmp.Lexicographic.{pointwise}
use Rattle.pn_values.specs.declared.mac.Mac.{Mac}
use Rattle.pn_values.specs.declared.identity.Identity.{Identity}
use Rattle.pn_values.specs.declared.real.Real.{Real}
use Rattle.wire.specs.Codec.{◌>>=◌}
use Rattle.wire.specs.blocks.modules.Lists.{Listed}
use Rattle.connect_blocks.specs.declared.module_diff.DiffModule.{DiffModule}
use Rattle.connect_blocks.specs.declared.module_diff.DiffSubmodule.{DiffSubmodule}
use Rattle.module_diff.specs.Diff.{diff_of}
use Rattle.block_codec.specs.declared.block.Block.TheVariants as is
use Rattle.block_codec.specs.Block.{block_bytes}
use Rattle.records.specs.declared.status.call_fault.CallFault.{CallFault}
use Rattle.records.specs.declared.status.call_fault.CallFault.TheVariants as fault
use Rattle.connects.specs.answers.AlarmRelation.{alarm_relation}
use Rattle.connects.specs.declared.requests.parts.Iocr.{Iocr}
use Rattle.connects.specs.requests.Request.{Request}
use Rattle.connects.specs.requests.Handled.{asked_initiator, request_of, request_within}
use Rattle.relations.specs.declared.options.DeviceOptions.{DeviceOptions}
use Rattle.relations.specs.declared.phase.Partner.{Partner}
use Rattle.relations.specs.Numbers.{endpoint_of, output_id}
use Rattle.relations.specs.exchange.Marks.{Starting}
use Rattle.relations.specs.RelationState.{RelationState, uuid_of}
use Rattle.relations.specs.Phases.{Handled, Made, Unmoved, differing_octets}

-- What differs, and its ModuleDiffBlock, if there is one.
abbrev pub rows_of : Request → Real → Listed DiffModule DiffSubmodule
rows_of request real = diff_of request.expected real.modules.items

-- The ModuleDiffBlock of a request, as octets: none if what is plugged is what it expects.
abbrev pub differing_of : Request → Real → List ℕ
differing_of request real = differing_octets (rows_of request real)

-- ---- the answer

-- An IOCRBlockRes: IOCRType 1 for inputs, 2 for outputs, and the FrameID that is assigned.
abbrev pub iocr_answer : ℕ → Iocr → ℕ → List ℕ
iocr_answer type iocr frame_id = block_bytes (is.IocrBlockRes (record { iocr_type = type; iocr_reference = iocr.reference; frame_id = frame_id }))

-- Both, in the order in which they were asked for, in a relation of this number.
abbrev pub input_answer : Request → List ℕ
input_answer request = iocr_answer 1 request.input request.input.frame_id

-- The IOCRBlockRes of the outputs, with the FrameID that the device chose.
abbrev pub output_answer : ℕ → Request → List ℕ
output_answer number request = iocr_answer 2 request.output (output_id number request.output)

-- Both IOCRBlockRes, in the order of the request.
abbrev pub iocrs_answer : ℕ → Request → List ℕ
iocrs_answer number request = if request.input_first
    then input_answer request ++ output_answer number request
    else output_answer number request ++ input_answer request

-- ARBlockRes.
abbrev pub ar_answer : Identity → Request → List ℕ
ar_answer identity request = block_bytes (is.ArBlockRes (record {
  ar_uuid = request.ar.uuid;
  session_key = request.ar.session_key;
  cm_responder_mac_add = identity.mac;
}))

-- AlarmCRBlockRes, with the endpoint of the device, and MaxAlarmDataLength 200.
abbrev pub alarm_answer : ℕ → List ℕ
alarm_answer number = alarm_relation.write (record { local_alarm_reference = endpoint_of number; max_alarm_data_length = 200 }) []

-- The blocks of the answer in a relation of this number: ARBlockRes, an IOCRBlockRes for each, AlarmCRBlockRes, and the
-- ModuleDiffBlock, if there is one.
unfoldable pub connect_blocks : Identity → ℕ → Request → List ℕ → List ℕ
connect_blocks identity number request differing =
    ar_answer identity request ++ iocrs_answer number request ++ alarm_answer number ++ differing

-- ---- the call

-- Whether CMInitiatorMacAdd of a Connect, if it can be read, is another address than that of the sender.
abbrev pub is_other : Mac → Option Mac → Bool
is_other source None = false
is_other source (Some initiator) = not (pointwise nat_eq initiator.octets source.octets)

-- Whether a Connect is refused for that. While a relation exists, it is refused for the relation.
abbrev pub is_foreign : DeviceOptions → Mac → Option RelationState → List ℕ → Bool
is_foreign options source None blocks = options.only_own_controller && is_other source (asked_initiator blocks)
is_foreign options source (Some link) blocks = false

-- What is asked for, or why it is refused: of any device, and of one with these options, by a station with this MAC address. If
-- CMInitiatorMacAdd is another one, that is the fault of its field, after each other fault of the ARBlockReq and before those of
-- later blocks.
abbrev pub connect_of : Option RelationState → List ℕ → Result Request CallFault
connect_of link blocks = request_of (uuid_of link) blocks

-- The request of a Connect that may be carried out, or the fault: with `only_own_controller` also of its sender.
abbrev pub connect_within : DeviceOptions → Mac → Option RelationState → List ℕ → Result Request CallFault
connect_within options source link blocks =
    if is_foreign options source link blocks then Err (fault.ArField 7) else request_within options.smallest_interval (uuid_of link) blocks

-- The blocks with which a Connect is answered, or the fault.
abbrev pub connect_answer : Identity → Real → DeviceOptions → ℕ → Mac → Option RelationState → List ℕ → Result (List ℕ) CallFault
connect_answer identity real options number source link blocks =
    connect_within options source link blocks >>= λ request. Ok (connect_blocks identity number request (differing_of request real))

-- The outcome of the Connect, at a device with these options.
abbrev pub making : Real → Partner → DeviceOptions → Starting → Result Request CallFault → Handled
making real partner options starting (Ok request) = Made request partner (rows_of request real) options starting
making real partner options starting (Err fault) = Unmoved
