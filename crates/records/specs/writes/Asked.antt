-- What a Write asks for: one record, or several (IEC 61158-6-10, 5.2.3).
use Rattle.std.specs.Prelude.{◌≤◌, ℕ, List, length, Option, Result, Ok, if◌then◌else◌}
use Rattle.pn_values.specs.declared.real.Real.{Real}
use Rattle.wire.specs.Checks.{or_fault}
use Rattle.wire.specs.Codec.{◌>>=◌}
use Rattle.block_codec.specs.declared.block_type.BlockType.TheVariants as kind
use Rattle.block_codec.specs.Block.{in_iod_write_req}
use Rattle.record_blocks.specs.declared.write_record.IodWriteReq.{IodWriteReq}
use Rattle.records.specs.declared.status.call_fault.CallFault.{CallFault}
use Rattle.records.specs.declared.status.call_fault.CallFault.TheVariants as fault
use Rattle.records.specs.declared.writes.writing.Writing.{Writing}
use Rattle.records.specs.declared.writes.writing.Writing.TheVariants.{One, Each}
use Rattle.records.specs.calls.Single.{single_of}
use Rattle.records.specs.calls.Naming.{in_relation}
use Rattle.records.specs.writes.Entry.{Entry}
use Rattle.records.specs.writes.Several.{is_several, list_behind, most_entries}
use Rattle.records.specs.writes.Handled.{handled_request}

-- ---- the order of the checks

-- The checks of a list: the relation, and then that it can be read whole.
unfoldable pub several_of : Option (List ℕ) → IodWriteReq → List ℕ → Result (List Entry) CallFault
several_of standing request behind =
    in_relation standing request.header.ar_uuid >>= λ _. or_fault fault.WriteLength (list_behind request behind)

-- What a request asks for, with these octets after its header: one record, or those of a list.
abbrev pub handled_writing : Option (List ℕ) → Real → IodWriteReq → List ℕ → Result Writing CallFault
handled_writing standing real request behind =
    if is_several request
    then (several_of standing request behind >>= λ entries. Ok (Each request entries))
    else (handled_request standing real request behind >>= λ write. Ok (One write))

-- The checks of a Write while this relation is active: its block, and then what its request asks for.
unfoldable pub writing_of : Option (List ℕ) → Real → List ℕ → Result Writing CallFault
writing_of standing real blocks = single_of kind.IodWriteReq blocks
    >>= λ x. or_fault fault.BlockForm (in_iod_write_req x.0)
    >>= λ request. handled_writing standing real request x.1

-- A Write has at most 16 records.
abbrev pub IsShort : Writing → Type 0
IsShort (One write) = Unit {0}
IsShort (Each header entries) = length entries ≤ most_entries
