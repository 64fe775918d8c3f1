-- The proof uses the sizes of the rows.
use Rattle.connect_blocks.proofs.Diff.{diff_short}
use Rattle.connect_blocks.proofs.law.diffs_are_short.Goals as goal

pub returns : goal.returns
returns c = diff_short
