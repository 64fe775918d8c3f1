-- what the others say is what all say, and the place is one of them
use Rattle.std.proofs.Common.{◌≡◌, ◌<◌, length, drop}
use Rattle.rpc_services.specs.pieces.State.{oldest, oldest_from}
use Rattle.rpc_services.proofs.pieces.joiner.oldest.Given as goal

abbrev pub invariant-loop-index : goal.invariant-loop-index
invariant-loop-index l = (oldest_from l.place l.most l.index l.ages (drop l.index l.calls) ≡ oldest l.ages l.calls) × (l.place < length l.calls)
