use Rattle.std.proofs.Common.{◌∙◌, ap, is_some, Option, ℕ}
use Rattle.catalogue.proofs.Places.{subslotted}
use Rattle.catalogue.proofs.submodules.has_subslot.Goals as goal

pub returns : goal.returns
returns c = c.contains_key.ensures ∙ ap (λ (found : Option ℕ). is_some found) (c.requires c.args.subslot) ∙ subslotted c.args.subslot c.args.before.now
