use Rattle.std.proofs.Common.{◌≡◌, ℕ, [], drop}
use Rattle.std.specs.Ordering.{nat_cmp}
use Rattle.std.specs.BTreeMap.{get}
use Rattle.serde_json.specs.View.{items_view}
use Rattle.catalogue.specs.keys.Reader.{each}
use Rattle.catalogue.specs.Submodules.{place_of, submodule}
use Rattle.catalogue.proofs.submodules.submodules_of.Given as goal

-- reading all is reading the rest after those found, whose places are in the map
abbrev pub invariant-loop-tree : goal.invariant-loop-tree
invariant-loop-tree l = record {
  read : each submodule [] (items_view l.trees) ≡ each submodule l.found.items (items_view (drop l.tree-index l.trees));
  kept : (subslot : ℕ) → get nat_cmp l.places subslot ≡ place_of subslot l.found.items;
}
