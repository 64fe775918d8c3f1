-- An entry of a list of records.
use Rattle.std.specs.Prelude.{ℕ, List}
use Rattle.record_blocks.specs.declared.write_record.IodWriteReq.{IodWriteReq}

-- The header of a Write, and its record.
abbrev pub Entry : Type 0
Entry = IodWriteReq × List ℕ
