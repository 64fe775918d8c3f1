-- The statuses so far, and that there is room for the rest.
use Rattle.std.proofs.Common.{◌≡◌, ◌++◌, length, drop}
use Rattle.relations.specs.exchange.Statuses.{replaced}
use Rattle.relations.proofs.exchange.statuses.replace.Given as goal

abbrev pub invariant-loop-other : goal.invariant-loop-other
invariant-loop-other l = record {
  items : l.next.items ++ replaced l.status (drop l.other-index l.fn.statuses.items) ≡ replaced l.status l.fn.statuses.items;
  len : length l.next.items ≡ l.other-index;
}
