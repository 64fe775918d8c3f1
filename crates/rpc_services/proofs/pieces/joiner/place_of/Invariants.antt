-- none so far is of the activity
use Rattle.std.proofs.Common.{◌≡◌, ◌<◌, ℕ, false, get_or}
use Rattle.rpc_services.specs.pieces.State.{blank, is_of}
use Rattle.rpc_services.proofs.pieces.joiner.place_of.Given as goal

abbrev pub invariant-loop-index : goal.invariant-loop-index
invariant-loop-index l = (k : ℕ) → k < l.index → is_of l.head (get_or l.calls k blank) ≡ false
