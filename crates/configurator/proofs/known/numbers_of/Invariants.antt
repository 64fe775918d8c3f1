use Rattle.std.proofs.Common.{◌≡◌, drop}
use Rattle.std.specs.BTreeMap.{get_by_text}
use Rattle.configurator.proofs.Steps.{AreNumbered}
use Rattle.configurator.proofs.known.numbers_of.Given as goal

-- the modules so far have their numbers, each less than the next one
abbrev pub invariant-loop-module : goal.invariant-loop-module
invariant-loop-module l = record {
  next : l.next ≡ l.module-index;
  numbered : AreNumbered l.modules (drop l.module-index l.modules) l.next (get_by_text l.found);
}
