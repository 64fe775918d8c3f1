use Rattle.std.proofs.Common.{◌≡◌, ◌∙◌, ap, not, is_some, Option, ℕ}
use Rattle.catalogue.proofs.Places.{placed_id}
use Rattle.catalogue.proofs.module.is_new.Goals as goal

pub returns : goal.returns
returns c = c.has_no_place.ensures ∙ ap (λ (place : Option ℕ). not (is_some place)) (c.requires c.args.id.now) ∙ ap not (placed_id c.args.id.now c.args.before.now)
