-- This follows from the proofs of the formats.
use Rattle.dcp_core.proofs.Laws.{get_read, identify_read, set_read}
use Rattle.dcp_core.proofs.law.answers_are_read.Goals as goal

pub returns-clause-identify : goal.returns-clause-identify
returns-clause-identify c = identify_read

pub returns-clause-get : goal.returns-clause-get
returns-clause-get c = get_read

pub returns-clause-set : goal.returns-clause-set
returns-clause-set c = set_read
