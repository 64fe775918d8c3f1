-- The order in which a Write is checked, and what it asks for.
use Rattle.std.specs.Prelude.{◌==◌, ◌&&◌, ◌||◌, ℕ, Bool, false, not, List, [], ◌∷◌, length, take, nat_le, nat_lt, Option, Some, None, Result, Ok, if◌then◌else◌}
use Rattle.pn_values.specs.declared.real.Real.{Real}
use Rattle.pn_values.specs.declared.command.Command.{Command}
use Rattle.pn_values.specs.declared.command.Command.TheVariants.{SetIm}
use Rattle.wire.specs.Checks.{or_fault}
use Rattle.wire.specs.Codec.{◌>>=◌}
use Rattle.record_blocks.specs.declared.write_record.IodWriteReq.{IodWriteReq}
use Rattle.im_records.specs.declared.fault.RecordFault.{RecordFault}
use Rattle.im_records.specs.Indices.{is_read_only, record_with}
use Rattle.im_records.specs.Writable.{is_writable}
use Rattle.im_records.specs.Writes.{command_of}
use Rattle.records.specs.declared.status.call_fault.CallFault.{CallFault}
use Rattle.records.specs.declared.status.call_fault.CallFault.TheVariants as fault
use Rattle.records.specs.calls.Handled.{handled}
use Rattle.records.specs.calls.Naming.{in_relation}
use Rattle.records.specs.reads.Handled.{has_parameter, placed}
use Rattle.records.specs.reads.Parameters.{parameter_length}
use Rattle.records.specs.declared.writes.write.Effect.{Effect}
use Rattle.records.specs.declared.writes.write.Effect.TheVariants.{Stores, Keeps}
use Rattle.records.specs.declared.writes.write.Write.{Write}

-- ---- what a Write asks for

-- Whether there is a record with the index of a request at its slot and subslot, in which a submodule is plugged.
abbrev pub is_known : Real → IodWriteReq → Bool
is_known real request = is_read_only (record_with request.header.index)
    || is_writable request.header.index request.header.slot_number request.header.subslot_number
    || has_parameter real request.header.slot_number request.header.subslot_number request.header.index

-- The I&M text of a record, if it is whole.
abbrev pub text_in : Result Command RecordFault → Option Effect
text_in (Ok (SetIm value)) = Some (Stores value)
text_in _ = None

-- What a written text changes in the settings.
abbrev pub stored : ℕ → List ℕ → Option Effect
stored index octets = text_in (command_of index octets)

-- Whether a record of `count` octets has the required length, which is at most 64.
abbrev pub is_length : Option ℕ → ℕ → Bool
is_length (Some size) count = count == size && nat_le count 64
is_length None count = false

-- The parameter record to store, if it has the length that the submodule requires.
abbrev pub kept : Real → IodWriteReq → List ℕ → Option Effect
kept real request octets =
    if is_length (parameter_length real.modules.items request.header.slot_number request.header.subslot_number request.header.index) (length octets)
    then Some (Keeps (record {
      slot = request.header.slot_number;
      subslot = request.header.subslot_number;
      index = request.header.index;
      value = record { items = octets };
    }))
    else None

-- What a request with this record asks for, if the record is whole.
abbrev pub effect_of : Real → IodWriteReq → List ℕ → Option Effect
effect_of real request octets =
    if is_writable request.header.index request.header.slot_number request.header.subslot_number then stored request.header.index octets else kept real request octets

-- ---- the order of the checks

-- The checks of the record: there is one with this index at its place, it is writable, its octets are all there, and they
-- are a whole record; the octets after it are ignored.
unfoldable pub written : Real → IodWriteReq → List ℕ → Result Effect CallFault
written real request behind = handled
    ((not (is_known real request), fault.Index)
    ∷ (is_read_only (record_with request.header.index), fault.Access)
    ∷ (nat_lt (length behind) request.header.record_data_length, fault.WriteLength)
    ∷ [])
    (or_fault fault.WriteLength (effect_of real request (take request.header.record_data_length behind)))

-- The checks of the target of a request: the relation, and then the place.
unfoldable pub targeted : Option (List ℕ) → Real → IodWriteReq → Result (Unit {0}) CallFault
targeted standing real request = in_relation standing request.header.ar_uuid
    >>= λ _. placed real request.header.api request.header.slot_number request.header.subslot_number request.header.index

-- The checks of a request, with these octets after its header.
unfoldable pub handled_request : Option (List ℕ) → Real → IodWriteReq → List ℕ → Result Write CallFault
handled_request standing real request behind = targeted standing real request
    >>= λ _. written real request behind
    >>= λ effect. Ok (record { request = request; effect = effect })
