-- The marks so far, and that there is room for the rest.
use Rattle.std.proofs.Common.{◌≡◌, ◌++◌, length, drop}
use Rattle.relations.specs.exchange.Marks.{change_by, marked}
use Rattle.relations.proofs.exchange.marks.change.Given as goal

abbrev pub invariant-loop-mark : goal.invariant-loop-mark
invariant-loop-mark l = record {
  items : l.next.items ++ marked l.slot l.subslot (change_by l.status) (drop l.mark-index l.fn.marks.items) ≡ marked l.slot l.subslot (change_by l.status) l.fn.marks.items;
  len : length l.next.items ≡ l.mark-index;
}
