use Rattle.std.proofs.Common.{◌≡◌, drop}
use Rattle.serde_json.specs.View.{items_view}
use Rattle.catalogue.specs.Submodules.{octets_in}
use Rattle.catalogue.proofs.submodule.octets_of.Given as goal

-- the sum of all is that of the rest after those counted so far
abbrev pub invariant-loop-index : goal.invariant-loop-index
invariant-loop-index l = octets_in 0 0 (items_view l.trees) ≡ octets_in l.index l.octets (items_view (drop l.index l.trees))
