-- Those that remain so far, and that there is room for the rest.
use Rattle.std.proofs.Common.{◌≡◌, ◌++◌, ◌≤◌, length, drop}
use Rattle.diagnosis.specs.Existing.{remaining}
use Rattle.diagnosis.proofs.diagnoses.Diagnoses.forget.Given as goal

abbrev pub invariant-loop-diagnosis : goal.invariant-loop-diagnosis
invariant-loop-diagnosis l = record {
  items : l.next.items ++ remaining l.gone (drop l.diagnosis-index l.diagnosis-items) ≡ remaining l.gone l.diagnosis-items;
  few : length l.next.items ≤ l.diagnosis-index;
}
