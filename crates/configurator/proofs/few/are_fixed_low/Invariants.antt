use Rattle.std.proofs.Common.{◌≡◌, drop}
use Rattle.configurator.specs.Few.{are_low}
use Rattle.std.specs.List.{list_all}
use Rattle.configurator.proofs.few.are_fixed_low.Given as goal

-- the result for all is that for the rest
abbrev pub invariant-loop-reference : goal.invariant-loop-reference
invariant-loop-reference l = list_all (λ entry. are_low entry.fixed_in) l.references ≡ list_all (λ entry. are_low entry.fixed_in) (drop l.reference-index l.references)
