-- By the proofs of the format.
use Rattle.pn_alarms.proofs.Fitting.{pdu_long, pdu_read}
use Rattle.pn_alarms.proofs.law.fitting_pdus_are_read.Goals as goal

pub returns-clause-read : goal.returns-clause-read
returns-clause-read c = pdu_read

pub returns-clause-long : goal.returns-clause-long
returns-clause-long c = pdu_long
