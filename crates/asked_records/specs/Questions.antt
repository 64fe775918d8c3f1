-- What is asked of the application: a call for one of its records.
use Rattle.std.specs.Prelude.{ℕ, Bool, true, false, List, nat_eq, None}
use Rattle.std.specs.Cmp.Lexicographic.{pointwise}
use Rattle.rpc_core.specs.Call.{Asked}
use Rattle.record_blocks.specs.declared.record_header.RecordHeader.{RecordHeader}
use Rattle.records.specs.declared.status.operation.Operation.{Operation}
use Rattle.records.specs.declared.status.operation.Operation.TheVariants as operation
use Rattle.asked_records.specs.declared.question.Question.{Question}
use Rattle.asked_records.specs.declared.question.Request.{Request}
use Rattle.asked_records.specs.declared.question.Request.TheVariants.{Read, ReadImplicit, Write}

-- The record, its submodule and the number of octets.
abbrev pub header_of : Request → RecordHeader
header_of (Read request) = request.header
header_of (ReadImplicit request) = request.header
header_of (Write request) = request.header

-- The operation that was called.
abbrev pub operation_of : Request → Operation
operation_of (Read request) = operation.Read
operation_of (ReadImplicit request) = operation.ReadImplicit
operation_of (Write request) = operation.Write

-- Whether it is a Write.
abbrev pub is_write : Request → Bool
is_write (Write request) = true
is_write other = false

-- Whether it is a Read Implicit.
abbrev pub is_implicit : Request → Bool
is_implicit (Read request) = false
is_implicit (ReadImplicit request) = true
is_implicit (Write request) = false

-- Whether it is of the relation with this ARUUID. A Read Implicit is of none.
abbrev pub is_of_relation : List ℕ → Request → Bool
is_of_relation ar_uuid (Read request) = pointwise nat_eq request.header.ar_uuid ar_uuid
is_of_relation ar_uuid (ReadImplicit request) = false
is_of_relation ar_uuid (Write request) = pointwise nat_eq request.header.ar_uuid ar_uuid

-- The call, as far as its response needs it.
abbrev pub call_of : Question → Asked
call_of question = record { header = question.header; args_maximum = question.args_maximum; blocks = None }
