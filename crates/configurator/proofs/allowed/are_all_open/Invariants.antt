use Rattle.std.proofs.Common.{◌≡◌, drop}
use Rattle.std.specs.List.{list_all}
use Rattle.configurator.specs.Known.{fixed_by, is_open, physical_in}
use Rattle.configurator.proofs.allowed.are_all_open.Given as goal

-- the result for all is that for the rest
abbrev pub invariant-loop-slot : goal.invariant-loop-slot
invariant-loop-slot l = list_all (is_open (physical_in l.known) (fixed_by l.known) l.number) l.slots ≡ list_all (is_open (physical_in l.known) (fixed_by l.known) l.number) (drop l.slot-index l.slots)
