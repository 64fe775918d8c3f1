-- what the others say is what all say
use Rattle.std.proofs.Common.{◌≡◌, drop}
use Rattle.rpc_services.specs.pieces.Leaps.{soonest}
use Rattle.rpc_services.proofs.pieces.joiner.Joiner.due_in.Given as goal

abbrev pub invariant-loop-call : goal.invariant-loop-call
invariant-loop-call l = soonest l.soonest (drop l.call-index l.self.calls) ≡ soonest 4294967295 l.self.calls
