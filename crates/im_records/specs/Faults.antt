-- The numbers of the faults.
use Rattle.std.specs.Prelude.{ℕ}
use Rattle.im_records.specs.declared.fault.RecordFault.{RecordFault}
use Rattle.im_records.specs.declared.fault.RecordFault.TheVariants.{Index, Length, Block}

-- The number of a fault, in the order in which the faults are checked.
abbrev pub number_of : RecordFault → ℕ
number_of Index = 1
number_of Length = 2
number_of Block = 3
