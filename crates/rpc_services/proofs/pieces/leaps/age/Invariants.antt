-- those so far are older, and the others are as before
use Rattle.std.proofs.Common.{◌≡◌, ◌++◌, take, drop, map}
use Rattle.rpc_services.specs.pieces.State.{older}
use Rattle.rpc_services.proofs.pieces.leaps.age.Given as goal

abbrev pub invariant-loop-index : goal.invariant-loop-index
invariant-loop-index l = l.calls ≡ map (older l.ticks) (take l.index l.initial.calls) ++ drop l.index l.initial.calls
