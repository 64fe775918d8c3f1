-- This follows from the proofs of the formats.
use Rattle.rpc_core.proofs.Fits.{call_read, call_short}
use Rattle.rpc_core.proofs.law.calls_are_read.Goals as goal

pub returns-clause-read : goal.returns-clause-read
returns-clause-read c = call_read

pub returns-clause-short : goal.returns-clause-short
returns-clause-short c = call_short
