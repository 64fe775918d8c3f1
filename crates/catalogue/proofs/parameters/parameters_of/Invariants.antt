use Rattle.std.proofs.Common.{◌≡◌, ℕ, [], drop}
use Rattle.std.specs.Ordering.{nat_cmp}
use Rattle.std.specs.BTreeMap.{get}
use Rattle.serde_json.specs.View.{items_view}
use Rattle.catalogue.specs.keys.Reader.{each}
use Rattle.catalogue.specs.Submodules.{parameter}
use Rattle.catalogue.specs.Slots.{length_of}
use Rattle.catalogue.proofs.parameters.parameters_of.Given as goal

-- reading all is reading the rest after those found, whose lengths are in the map
abbrev pub invariant-loop-tree : goal.invariant-loop-tree
invariant-loop-tree l = record {
  read : each parameter [] (items_view l.trees) ≡ each parameter l.found.items (items_view (drop l.tree-index l.trees));
  kept : (index : ℕ) → get nat_cmp l.lengths index ≡ length_of index l.found.items;
}
