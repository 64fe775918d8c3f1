-- those so far are passed, and the others are as before
use Rattle.std.proofs.Common.{◌≡◌, ◌++◌, take, drop, map}
use Rattle.rpc_services.specs.pieces.State.{older_than}
use Rattle.rpc_services.proofs.pieces.joiner.pass.Given as goal

abbrev pub invariant-loop-index : goal.invariant-loop-index
invariant-loop-index l = l.ages ≡ map (older_than l.age) (take l.index l.initial.ages) ++ drop l.index l.initial.ages
