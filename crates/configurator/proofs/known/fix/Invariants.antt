use Rattle.std.proofs.Common.{if◌then◌else◌, ◌≡◌, ℕ, Some, None, drop}
use Rattle.std.specs.Option.{option_or}
use Rattle.std.specs.Ordering.{nat_cmp}
use Rattle.std.specs.BTreeMap.{get}
use Rattle.configurator.specs.Allowed.{is_in}
use Rattle.configurator.proofs.known.fix.Given as goal

-- what is fixed at the end is what is fixed so far, and else the module in the remaining slots
abbrev pub invariant-loop-slot : goal.invariant-loop-slot
invariant-loop-slot l =
    (other : ℕ) → option_or (get nat_cmp l.fixed other) (if is_in other (drop l.slot-index l.slots) then Some l.number else None)
    ≡ option_or (get nat_cmp l.initial.fixed other) (if is_in other l.slots then Some l.number else None)
