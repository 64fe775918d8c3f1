-- The numbers of the faults of requests and responses.
use Rattle.std.specs.Prelude.{ℕ}
use Rattle.dcp_core.specs.declared.request.DcpFault.{DcpFault}
use Rattle.dcp_core.specs.declared.request.DcpFault.TheVariants.{Length, Service, Block}

-- the number of a fault; the numbers follow the order in which the faults are looked for
abbrev pub number_of : DcpFault → ℕ
number_of Length = 1
number_of Service = 2
number_of Block = 3
