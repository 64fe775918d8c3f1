use Rattle.std.proofs.Common.{if◌then◌else◌, ◌≡◌, ◌+◌, ℕ, drop}
use Rattle.std.specs.Ordering.{nat_cmp}
use Rattle.std.specs.BTreeSet.{contains}
use Rattle.configurator.specs.Allowed.{uses_of}
use Rattle.configurator.proofs.allowed.are_once.Given as goal

-- the number of entries that name a slot: one if it is in the set, and those of the rest
abbrev pub invariant-loop-entry : goal.invariant-loop-entry
invariant-loop-entry l = (slot : ℕ) → uses_of slot l.slots ≡ (if contains nat_cmp l.seen slot then 1 else 0) + uses_of slot (drop l.entry-index l.slots)
