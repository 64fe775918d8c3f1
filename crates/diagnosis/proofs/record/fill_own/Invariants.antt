-- Those of the submodule so far, and that there is room for the rest.
use Rattle.std.proofs.Common.{◌≡◌, ◌++◌, ◌≤◌, length, drop}
use Rattle.std.specs.List.{filter}
use Rattle.diagnosis.specs.Existing.{is_at}
use Rattle.diagnosis.proofs.record.fill_own.Given as goal

abbrev pub invariant-loop-diagnosis : goal.invariant-loop-diagnosis
invariant-loop-diagnosis l = record {
  items : l.own.items ++ filter (is_at l.slot l.subslot) (drop l.diagnosis-index l.diagnosis-items)
      ≡ filter (is_at l.slot l.subslot) l.diagnosis-items;
  few : length l.own.items ≤ l.diagnosis-index;
}
