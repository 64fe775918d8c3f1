-- The first of many zeros.
use Rattle.std.proofs.Common.{ℕ}
use Rattle.std.proofs.lemmas.List.{take-replicate}
use Rattle.cyclic_data.proofs.zero_octets.zeros.Goals as goal

pub returns-clause-value : goal.returns-clause-value
returns-clause-value c = take-replicate {X = ℕ} c.args.size 1440 0 c.requires
