-- The operations of a device (IEC 61158-6-10, 4.10.3.2.9).
use Rattle.std.specs.Prelude.{◌==◌, ℕ, Option, Some, None, if◌then◌else◌}
use Rattle.records.specs.declared.status.operation.Operation.{Operation}
use Rattle.records.specs.declared.status.operation.Operation.TheVariants.{Connect, Release, Read, Write, Control, ReadImplicit}

-- The operation with a number, if there is one.
unfoldable pub operation_of : ℕ → Option Operation
operation_of number =
    if number == 0 then Some Connect
    else if number == 1 then Some Release
    else if number == 2 then Some Read
    else if number == 3 then Some Write
    else if number == 4 then Some Control
    else if number == 5 then Some ReadImplicit
    else None

-- ErrorCode (IEC 61158-6-10, 5.2.6): the kind of call that failed.
abbrev pub code_of : Operation → ℕ
code_of Connect = 0xDB
code_of Release = 0xDC
code_of Control = 0xDD
code_of Read = 0xDE
code_of ReadImplicit = 0xDE
code_of Write = 0xDF
