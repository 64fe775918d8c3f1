use Rattle.std.proofs.Common.{◌≡◌, drop}
use Rattle.std.specs.List.{list_all}
use Rattle.configurator.specs.Known.{fixed_by, number_in, physical_in, stands_well, taken_by}
use Rattle.configurator.proofs.allowed.do_all_stand.Given as goal

-- the result for all is that for the rest
abbrev pub invariant-loop-entry : goal.invariant-loop-entry
invariant-loop-entry l =
    list_all (stands_well (physical_in l.known) (fixed_by l.known) (taken_by l.known) (number_in l.known)) l.slots
    ≡ list_all (stands_well (physical_in l.known) (fixed_by l.known) (taken_by l.known) (number_in l.known)) (drop l.entry-index l.slots)
