use Rattle.std.proofs.Common.{◌≡◌, ◌||◌, ℕ, drop}
use Rattle.std.specs.List.{list_any}
use Rattle.std.specs.BTreeMap.{get_by_text}
use Rattle.std.specs.BTreeSet.{contains}
use Rattle.configurator.specs.Known.{place_cmp, takes_by}
use Rattle.configurator.proofs.known.taken_of.Given as goal

-- a pair is in the set of all if it is so far, or a remaining reference adds it
abbrev pub invariant-loop-reference : goal.invariant-loop-reference
invariant-loop-reference l =
    (slot n : ℕ) → (contains place_cmp l.found (slot, n) || list_any (takes_by (get_by_text l.numbers) slot n) (drop l.reference-index l.references))
    ≡ list_any (takes_by (get_by_text l.numbers) slot n) l.references
