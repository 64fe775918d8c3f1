-- The counts of the rows add up to their submodules.
use Rattle.module_diff.specs.Diff.{wanted_in}
use Rattle.module_diff.proofs.Listed.{are_rows}
use Rattle.module_diff.proofs.differing.diff.Goals as goal

pub new-requires : goal.new-requires
new-requires c =
    are_rows c.args.real.now.modules.items (wanted_in c.args.expected.now.modules.items c.args.expected.now.submodules.items) _ _
    c.fill_rows.ensures.modules c.fill_rows.ensures.submodules c.fill_rows.ensures.few_modules c.fill_rows.ensures.few_submodules
