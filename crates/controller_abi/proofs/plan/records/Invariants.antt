-- The items so far, and the remaining ones.
use Rattle.std.proofs.Common.{◌≡◌, ◌++◌, drop, length, map}
use Rattle.std.specs.List.{AllByRecursion}
use Rattle.controller_abi.specs.Plans.{IsShort, record_of}
use Rattle.controller_abi.proofs.plan.records.Given as goal

abbrev pub invariant-loop-entry : goal.invariant-loop-entry
invariant-loop-entry l = record {
  items : l.records.items ++ map record_of (drop l.entry-index l.written) ≡ map record_of l.written;
  len : length l.records.items ≡ l.entry-index;
  short : AllByRecursion IsShort (drop l.entry-index l.written);
}
