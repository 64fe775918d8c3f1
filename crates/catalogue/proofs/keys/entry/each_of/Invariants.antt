use Rattle.std.proofs.Common.{◌≡◌, [], drop}
use Rattle.serde_json.specs.View.{items_view}
use Rattle.catalogue.specs.keys.Reader.{each}
use Rattle.catalogue.proofs.keys.entry.each_of.Given as goal

-- reading all is reading the rest after those found
abbrev pub invariant-loop-tree : goal.invariant-loop-tree
invariant-loop-tree g l = each (g.E.Entry.reader l.context) [] (items_view l.trees) ≡ each (g.E.Entry.reader l.context) l.found.items (items_view (drop l.tree-index l.trees))
