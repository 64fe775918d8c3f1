-- It is inserted before the first one in a later subslot.
use Rattle.std.proofs.Common.{ℕ, List, ◌∙◌, ap}
use Rattle.std.specs.Prelude.{insert}
use Rattle.std.specs.List.{position_or_len}
use Rattle.pn_values.specs.declared.real.RealSubmodule.{RealSubmodule}
use Rattle.module_diff.specs.Changes.{is_past_subslot}
use Rattle.module_diff.proofs.ChangedLists.{put_in}
use Rattle.module_diff.proofs.changes.add_part.Goals as goal

pub returns : goal.returns
returns c =
    let past = is_past_subslot c.args.submodule.now.subslot in
    let parts = c.args.parts.now.items in
    let place = c.parts_before-place.ensures.value ∙ ap (λ (xs : List RealSubmodule). position_or_len past xs) c.as_slice.ensures.value in
    c.insert.ensures.items
    ∙ (ap (λ (k : ℕ). insert parts k c.copy.result) place
    ∙ (ap (λ (part : RealSubmodule). insert parts (position_or_len past parts) part) c.copy.ensures ∙ put_in past c.args.submodule.now parts))
