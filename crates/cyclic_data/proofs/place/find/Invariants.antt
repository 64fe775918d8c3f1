-- The submodules so far are in other subslots.
use Rattle.std.proofs.Common.{◌≡◌, drop}
use Rattle.cyclic_data.specs.Places.{found_from}
use Rattle.cyclic_data.proofs.place.find.Given as goal

abbrev pub invariant-loop-index : goal.invariant-loop-index
invariant-loop-index l = found_from l.slot l.subslot l.index (drop l.index l.expected) ≡ found_from l.slot l.subslot l.from (drop l.from l.expected)
