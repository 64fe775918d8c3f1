use Rattle.std.proofs.Common.{sym, drop, arith}
use Rattle.std.specs.Ordering.{nat_cmp}
use Rattle.std.specs.BTreeSet.{contains}
use Rattle.std.proofs.lemmas.List.{at_drop_all}
use Rattle.configurator.specs.Allowed.{uses_of}
use Rattle.configurator.proofs.Once.{all_once, at_most_once}
use Rattle.configurator.proofs.allowed.are_once.Goals as goal

-- at the end no entry remains
pub returns : goal.returns
returns c =
    sym (all_once c.args.slots.now (λ slot.
    at_most_once (contains nat_cmp c.loop-entry.seen slot) (uses_of slot c.args.slots.now) (uses_of slot (drop c.loop-entry.entry-index c.args.slots.now))
    (c.loop-entry.invariant slot) (at_drop_all (uses_of slot) c.args.slots.now c.loop-entry.entry-index (omega arith))))
