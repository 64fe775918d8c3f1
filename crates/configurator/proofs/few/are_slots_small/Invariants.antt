use Rattle.std.proofs.Common.{◌≡◌, drop}
use Rattle.configurator.specs.Few.{is_small_if}
use Rattle.configurator.specs.Standing.{stands_in}
use Rattle.std.specs.List.{list_all}
use Rattle.configurator.proofs.few.are_slots_small.Given as goal

-- the result for all is that for the rest
abbrev pub invariant-loop-slot : goal.invariant-loop-slot
invariant-loop-slot l = list_all (λ slot. is_small_if (stands_in l.catalogue slot)) l.slots ≡ list_all (λ slot. is_small_if (stands_in l.catalogue slot)) (drop l.slot-index l.slots)
