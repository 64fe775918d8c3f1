use Rattle.std.proofs.Common.{◌≡◌, ℕ, drop}
use Rattle.std.specs.Option.{option_or}
use Rattle.std.specs.Ordering.{nat_cmp}
use Rattle.std.specs.BTreeMap.{get, get_by_text}
use Rattle.configurator.specs.Known.{fixer}
use Rattle.configurator.proofs.known.fixed_of.Given as goal

-- what is fixed by all is what is fixed so far, and else what the remaining references fix
abbrev pub invariant-loop-reference : goal.invariant-loop-reference
invariant-loop-reference l =
    (slot : ℕ) → option_or (get nat_cmp l.found slot) (fixer (get_by_text l.numbers) slot (drop l.reference-index l.references)) ≡ fixer (get_by_text l.numbers) slot l.references
