use Rattle.std.proofs.Common.{◌∙◌, ap, is_some, Option, ℕ}
use Rattle.catalogue.proofs.Places.{indexed}
use Rattle.catalogue.proofs.parameters.has_index.Goals as goal

pub returns : goal.returns
returns c = c.contains_key.ensures ∙ ap (λ (found : Option ℕ). is_some found) (c.requires c.args.index) ∙ indexed c.args.index c.args.before.now
