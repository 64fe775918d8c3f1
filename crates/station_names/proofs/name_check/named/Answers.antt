use Rattle.std.proofs.Common.{refl}
use Rattle.station_names.proofs.Faults.{name_at_end}
use Rattle.station_names.proofs.name_check.named.Goals as goal

pub of-requires : goal.of-requires
of-requires c = name_at_end c.args.bytes.now c.loop-fault.fault-index c.loop-fault-test.false c.loop-fault.invariant

pub returns-clause-valid : goal.returns-clause-valid
returns-clause-valid c = (λ _. name_at_end c.args.bytes.now c.loop-fault.fault-index c.loop-fault-test.false c.loop-fault.invariant, λ _. refl)
