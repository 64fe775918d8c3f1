use Rattle.std.proofs.Common.{◌≡◌, ℕ, List, [], drop}
use Rattle.std.specs.BTreeMap.{get_by_text}
use Rattle.serde_json.specs.View.{items_view}
use Rattle.catalogue.specs.keys.Reader.{each}
use Rattle.catalogue.specs.Modules.{module_item, place_of}
use Rattle.catalogue.proofs.module.modules_of.Given as goal

-- reading all is reading the rest after those found, whose places are in the map
abbrev pub invariant-loop-tree : goal.invariant-loop-tree
invariant-loop-tree l = record {
  read : each module_item [] (items_view l.trees) ≡ each module_item l.found.items (items_view (drop l.tree-index l.trees));
  reported : (id : List ℕ) → get_by_text l.places id ≡ place_of id l.found.items;
}
