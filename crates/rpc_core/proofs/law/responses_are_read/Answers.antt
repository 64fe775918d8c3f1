-- This follows from the proofs of the formats.
use Rattle.rpc_core.proofs.Fits.{response_long, response_read, response_short}
use Rattle.rpc_core.proofs.law.responses_are_read.Goals as goal

pub returns-clause-read : goal.returns-clause-read
returns-clause-read c = response_read

pub returns-clause-short : goal.returns-clause-short
returns-clause-short c = response_short

pub returns-clause-long : goal.returns-clause-long
returns-clause-long c = response_long
