use Rattle.std.proofs.Common.{◌≡◌, ◌+◌, ◌≤◌, ◌++◌, true, drop, length}
use Rattle.configurator.specs.Few.{is_small_if}
use Rattle.configurator.specs.Standing.{plugged_in, stands_in}
use Rattle.std.specs.List.{filter_map, list_all}
use Rattle.configurator.proofs.station.push_modules.Given as goal

-- the modules so far, from how many slots, and that the remaining ones are within the limits
abbrev pub invariant-loop-slot : goal.invariant-loop-slot
invariant-loop-slot l = record {
  items : l.modules.items ++ filter_map (plugged_in l.catalogue) (drop l.slot-index l.slots) ≡ l.initial.modules.items ++ filter_map (plugged_in l.catalogue) l.slots;
  few : length l.modules.items ≤ length l.initial.modules.items + l.slot-index;
  small : list_all (λ slot. is_small_if (stands_in l.catalogue slot)) (drop l.slot-index l.slots) ≡ true;
}
