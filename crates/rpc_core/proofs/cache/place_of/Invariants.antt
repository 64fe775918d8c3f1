use Rattle.std.proofs.Common.{◌≡◌, ℕ, ◌<◌, false, get_or}
use Rattle.rpc_core.specs.Cache.{is_of}
use Rattle.rpc_core.specs.Slots.{kept_at}
use Rattle.rpc_core.proofs.cache.place_of.Given as goal

-- no earlier response is of the activity
abbrev pub invariant-loop-place : goal.invariant-loop-place
invariant-loop-place l = (k : ℕ) → k < l.place → is_of l.activity (kept_at l.slots (get_or l.order k 0)) ≡ false
