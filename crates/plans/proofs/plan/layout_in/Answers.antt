-- Packed places are a layout.
use Rattle.std.proofs.Common.{◌∙◌}
use Rattle.std.proofs.lemmas.Bool.{false≢true}
use Rattle.plans.proofs.Packed.{good_as, table_as}
use Rattle.plans.proofs.plan.layout_in.Goals as goal

pub unreachable-requires : goal.unreachable-requires
unreachable-requires c =
    absurd (false≢true (c.in-Err.ensures.only
    (good_as c.args.direction c.args.parts.now.real.modules.items _ _ _ _ _ _ c.requires.ordered
    (c.as_slice.ensures.value ∙ c.data_of-subs.ensures) (c.as_slice-2.ensures.value ∙ c.data_of-subs.ensures) (c.as_slice-3.ensures.value ∙ c.data_of-subs.ensures)
    c.data_length.ensures (c.lent.ensures ∙ c.fill.ensures.io_data) (c.lent-2.ensures ∙ c.fill.ensures.iocs))))

pub returns : goal.returns
returns c =
    table_as c.args.direction c.args.parts.now.real.modules.items _ _ _ _ _ _ _ c.requires.ordered
    (c.as_slice.ensures.value ∙ c.data_of-subs.ensures) (c.as_slice-2.ensures.value ∙ c.data_of-subs.ensures) (c.as_slice-3.ensures.value ∙ c.data_of-subs.ensures)
    c.data_length.ensures (c.lent.ensures ∙ c.fill.ensures.io_data) (c.lent-2.ensures ∙ c.fill.ensures.iocs)
    c.in-Ok.ensures.value
