-- The parameter records that a relation passes on to the application and does not keep.
use Rattle.std.specs.Prelude.{◌==◌, ◌+◌, ◌%◌, ◌++◌, ℕ, List, [], ◌∷◌, drop, length, if◌then◌else◌}
use Rattle.records.specs.declared.writes.taken.TakenRecord.{TakenRecord}

-- The last 16, the oldest first, and how many there were in the relation, modulo 2^32.
pub record PassedOn : Type 0 where
  pub last : List TakenRecord
  pub count : ℕ

-- None yet.
abbrev pub none_passed : PassedOn
none_passed = record { last = []; count = 0 }

-- One more: of 16, the oldest one is dropped. One Write has at most 16.
abbrev pub passed_more : TakenRecord → PassedOn → PassedOn
passed_more parameter passed = record {
  last = (if length passed.last == 16 then drop 1 passed.last else passed.last) ++ parameter ∷ [];
  count = (passed.count + 1) % 4294967296;
}
