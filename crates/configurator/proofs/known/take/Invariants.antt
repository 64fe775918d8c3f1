use Rattle.std.proofs.Common.{◌≡◌, ◌==◌, ◌&&◌, ◌||◌, ℕ, drop}
use Rattle.std.specs.BTreeSet.{contains}
use Rattle.configurator.specs.Allowed.{is_in}
use Rattle.configurator.specs.Known.{place_cmp}
use Rattle.configurator.proofs.known.take.Given as goal

-- a pair is in the set at the end if it is so far, or is one of the module and a remaining slot
abbrev pub invariant-loop-slot : goal.invariant-loop-slot
invariant-loop-slot l =
    (other n : ℕ) → (contains place_cmp l.taken (other, n) || (l.number == n && is_in other (drop l.slot-index l.slots)))
    ≡ (contains place_cmp l.initial.taken (other, n) || (l.number == n && is_in other l.slots))
