-- The submodules so far are in order.
use Rattle.std.proofs.Common.{◌≡◌, drop}
use Rattle.cyclic_data.specs.Rising.{rises_from}
use Rattle.cyclic_data.proofs.place.rises_from.Given as goal

abbrev pub invariant-loop-sub : goal.invariant-loop-sub
invariant-loop-sub l = rises_from l.last (drop l.sub-index l.rest) ≡ rises_from l.initial.last l.rest
