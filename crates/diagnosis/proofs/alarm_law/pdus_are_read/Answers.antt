-- This follows from the law of the format.
use Rattle.diagnosis.proofs.Pdus.{pdu_read}
use Rattle.diagnosis.proofs.alarm_law.pdus_are_read.Goals as goal

pub returns-clause-read : goal.returns-clause-read
returns-clause-read c = pdu_read c.fitting_pdus_are_read.ensures.read
