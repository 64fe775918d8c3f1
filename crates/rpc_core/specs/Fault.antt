-- The numbers of faults.
use Rattle.std.specs.Prelude.{ℕ}
use Rattle.rpc_core.specs.declared.fault.RpcFault.{RpcFault}
use Rattle.rpc_core.specs.declared.fault.RpcFault.TheVariants.{Short, Version, Representation, Fragment, Interface, Args}

-- the number of a fault
abbrev pub fault_number : RpcFault → ℕ
fault_number Short = 1
fault_number Version = 2
fault_number Representation = 3
fault_number Fragment = 4
fault_number Interface = 5
fault_number Args = 6
