-- the places so far are zero, and the length is as it was
use Rattle.std.proofs.Common.{◌≡◌, length, take, replicate}
use Rattle.plan_abi.specs.Readings.{no_module}
use Rattle.plan_abi.proofs.written.clear_modules.Given as goal

abbrev pub invariant-loop-index : goal.invariant-loop-index
invariant-loop-index l = record {
  items : take l.index l.places ≡ replicate l.index no_module;
  len : length l.places ≡ length l.initial.places;
}
