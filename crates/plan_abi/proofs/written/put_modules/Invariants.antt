-- the places so far have the given items, and the others are as they were
use Rattle.std.proofs.Common.{◌≡◌, ◌++◌, length, map, take, drop}
use Rattle.plan_abi.specs.Readings.{written_module}
use Rattle.plan_abi.proofs.written.put_modules.Given as goal

abbrev pub invariant-loop-index : goal.invariant-loop-index
invariant-loop-index l = record {
  items : l.places ≡ map written_module (take l.index l.given) ++ drop l.index l.initial.places;
  len : length l.places ≡ length l.initial.places;
}
