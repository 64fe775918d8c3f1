-- The proof uses that the formats are sound.
use Rattle.block_codec.proofs.Fitting.{long, read}
use Rattle.block_codec.proofs.law.fitting_blocks_are_read.Goals as goal

pub returns-clause-read : goal.returns-clause-read
returns-clause-read c = read

pub returns-clause-long : goal.returns-clause-long
returns-clause-long c = long
