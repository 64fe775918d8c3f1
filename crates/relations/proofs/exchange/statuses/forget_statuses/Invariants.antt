-- The statuses that remain so far, and that there is room for the rest.
use Rattle.std.proofs.Common.{◌≡◌, ◌≤◌, ◌++◌, length, drop}
use Rattle.relations.specs.exchange.Statuses.{remaining_statuses}
use Rattle.relations.proofs.exchange.statuses.forget_statuses.Given as goal

abbrev pub invariant-loop-status : goal.invariant-loop-status
invariant-loop-status l = record {
  items : l.next.items ++ remaining_statuses l.gone (drop l.status-index l.fn.statuses.items) ≡ remaining_statuses l.gone l.fn.statuses.items;
  few : length l.next.items ≤ l.status-index;
}
