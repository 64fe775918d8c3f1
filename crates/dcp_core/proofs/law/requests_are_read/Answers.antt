-- This follows from the proofs of the formats.
use Rattle.dcp_core.proofs.Laws.{request_read, request_short}
use Rattle.dcp_core.proofs.law.requests_are_read.Goals as goal

pub returns-clause-read : goal.returns-clause-read
returns-clause-read c = request_read

pub returns-clause-short : goal.returns-clause-short
returns-clause-short c = request_short
