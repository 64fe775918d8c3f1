-- Which calls are asked of the application (IEC 61158-6-10, 5.2.3).
use Rattle.std.specs.Prelude.{◌||◌, ℕ, not, List, [], ◌∷◌, length, nat_lt, Option, Some, None, Result, Ok, if◌then◌else◌}
use Rattle.pn_values.specs.declared.real.Real.{Real}
use Rattle.wire.specs.Codec.{◌>>=◌}
use Rattle.record_blocks.specs.declared.read_record.IodReadReq.{IodReadReq}
use Rattle.record_blocks.specs.declared.record_header.RecordHeader.{RecordHeader}
use Rattle.record_blocks.specs.declared.write_record.IodWriteReq.{IodWriteReq}
use Rattle.records.specs.calls.Handled.{handled}
use Rattle.records.specs.declared.status.call_fault.CallFault.{CallFault}
use Rattle.records.specs.declared.status.call_fault.CallFault.TheVariants as fault
use Rattle.records.specs.reads.Handled.{has_parameter, placed}
use Rattle.asked_records.specs.declared.names.RecordName.{RecordName}
use Rattle.asked_records.specs.Names.{named_at}

-- The record of the application that a header names, if it names one. A parameter record with the same index stays what it is.
abbrev pub asked_name : Real → List RecordName → RecordHeader → Option RecordName
asked_name real names header =
    if has_parameter real header.slot_number header.subslot_number header.index then None
    else named_at header.slot_number header.subslot_number header.index names

-- The checks of the place: the API, and then the slot and subslot.
abbrev pub asked_place : Real → RecordHeader → Result (Unit {0}) CallFault
asked_place real header = placed real header.api header.slot_number header.subslot_number header.index

-- A Read of a record of the application: its place, and that it is readable.
abbrev pub read_found : Real → IodReadReq → Option RecordName → Result (Option RecordName) CallFault
read_found real request None = Ok None
read_found real request (Some name) = asked_place real request.header >>= λ _. handled ((not name.is_readable, fault.Access) ∷ []) (Ok (Some name))

-- What a Read asks of the application: None if it is of a record of the device.
unfoldable pub asked_read : Real → List RecordName → IodReadReq → Result (Option RecordName) CallFault
asked_read real names request = read_found real request (asked_name real names request.header)

-- A Write of a record of the application: its place, that it is writable, that its octets are there, and that they are not more
-- than the greatest length.
abbrev pub write_found : Real → IodWriteReq → List ℕ → Option RecordName → Result (Option RecordName) CallFault
write_found real request octets None = Ok None
write_found real request octets (Some name) = asked_place real request.header >>= λ _. handled
    ((not name.is_writable, fault.Access)
    ∷ (nat_lt (length octets) request.header.record_data_length || nat_lt name.greatest_length request.header.record_data_length, fault.WriteLength)
    ∷ [])
    (Ok (Some name))

-- What a Write asks of the application: None if it is of a record of the device.
unfoldable pub asked_write : Real → List RecordName → IodWriteReq → List ℕ → Result (Option RecordName) CallFault
asked_write real names request octets = write_found real request octets (asked_name real names request.header)
