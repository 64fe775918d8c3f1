use Rattle.std.proofs.Common.{◌≡◌, nat_le, length, drop}
use Rattle.std.specs.List.{list_all}
use Rattle.configurator.proofs.few.have_few_parameters.Given as goal

-- the result for all is that for the rest
abbrev pub invariant-loop-submodule : goal.invariant-loop-submodule
invariant-loop-submodule l = list_all (λ entry. nat_le (length entry.parameters) 2) l.submodules ≡ list_all (λ entry. nat_le (length entry.parameters) 2) (drop l.submodule-index l.submodules)
