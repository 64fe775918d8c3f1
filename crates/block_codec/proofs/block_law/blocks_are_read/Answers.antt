-- This follows from the law of the format.
use Rattle.block_codec.proofs.ReadBack.{alone, each, read}
use Rattle.block_codec.proofs.block_law.blocks_are_read.Goals as goal

pub returns-clause-read : goal.returns-clause-read
returns-clause-read c = read c.fitting_blocks_are_read.ensures.read

pub returns-clause-alone : goal.returns-clause-alone
returns-clause-alone c = alone c.fitting_blocks_are_read.ensures.read

pub returns-clause-each : goal.returns-clause-each
returns-clause-each c = each c.fitting_blocks_are_read.ensures.read
