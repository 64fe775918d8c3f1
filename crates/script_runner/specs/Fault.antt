-- The numbers of the faults.
use Rattle.std.specs.Prelude.{ℕ}
use Rattle.configurator.specs.declared.fault.PlanFault.{PlanFault}
use Rattle.configurator.specs.declared.fault.PlanFault.TheVariants as plan
use Rattle.configurator.specs.Fault.{number_of as plan_number}
use Rattle.script_runner.specs.declared.fault.RunFault.{RunFault}
use Rattle.script_runner.specs.declared.fault.RunFault.TheVariants.{Read, Write, Line, OutOfMemory, Config, EndlessInput}

-- The number of each fault of a run.
abbrev pub number_of : RunFault → ℕ
number_of Read = 1
number_of Write = 2
number_of (Line n) = 3
number_of OutOfMemory = 4
number_of (Config n) = 5
number_of EndlessInput = 6

-- The fault of a run that ends at a catalogue without a plan.
abbrev pub fault_of : PlanFault → RunFault
fault_of plan.OutOfMemory = OutOfMemory
fault_of fault = Config (plan_number fault)
