use Rattle.std.proofs.Common.{◌≡◌, ◌||◌, ℕ, drop}
use Rattle.std.specs.Ordering.{nat_cmp}
use Rattle.std.specs.BTreeSet.{contains}
use Rattle.configurator.specs.Allowed.{is_in}
use Rattle.configurator.proofs.known.physical_of.Given as goal

-- a slot is one of all if it is in the set or one of the rest
abbrev pub invariant-loop-slot : goal.invariant-loop-slot
invariant-loop-slot l = (other : ℕ) → (contains nat_cmp l.found other || is_in other (drop l.slot-index l.slots)) ≡ is_in other l.slots
