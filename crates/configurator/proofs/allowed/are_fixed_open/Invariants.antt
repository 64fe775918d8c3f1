use Rattle.std.proofs.Common.{◌≡◌, drop}
use Rattle.std.specs.List.{list_all}
use Rattle.configurator.specs.Known.{fixed_by, is_fixed_open, number_in, physical_in}
use Rattle.configurator.proofs.allowed.are_fixed_open.Given as goal

-- the result for all is that for the rest
abbrev pub invariant-loop-reference : goal.invariant-loop-reference
invariant-loop-reference l =
    list_all (is_fixed_open (physical_in l.known) (fixed_by l.known) (number_in l.known)) l.references
    ≡ list_all (is_fixed_open (physical_in l.known) (fixed_by l.known) (number_in l.known)) (drop l.reference-index l.references)
