-- This follows from the laws of the formats.
use Rattle.pn_alarms.specs.Carried.{ack_of}
use Rattle.diagnosis.specs.reports.Report.{report_of}
use Rattle.diagnosis.proofs.Pdus.{end_said}
use Rattle.diagnosis.proofs.alarm_law.ends_are_read.Goals as goal

pub returns-clause-device : goal.returns-clause-device
returns-clause-device c = end_said c.fitting_pdus_are_read.ensures.read ack_of

pub returns-clause-controller : goal.returns-clause-controller
returns-clause-controller c = end_said c.fitting_pdus_are_read.ensures.read report_of
