-- This follows from the laws of the formats.
use Rattle.pn_alarms.specs.Carried.{ack_of}
use Rattle.diagnosis.specs.reports.Report.{low_ack_of, report_of}
use Rattle.diagnosis.proofs.Pdus.{ack_replied, nack_replied}
use Rattle.diagnosis.proofs.alarm_law.replies_are_read.Goals as goal

pub returns-clause-device_ack : goal.returns-clause-device_ack
returns-clause-device_ack c = ack_replied c.fitting_pdus_are_read.ensures.read ack_of

pub returns-clause-controller_ack : goal.returns-clause-controller_ack
returns-clause-controller_ack c = ack_replied c.fitting_pdus_are_read.ensures.read report_of

pub returns-clause-device_nack : goal.returns-clause-device_nack
returns-clause-device_nack c = nack_replied c.fitting_pdus_are_read.ensures.read ack_of

pub returns-clause-controller_nack : goal.returns-clause-controller_nack
returns-clause-controller_nack c = nack_replied c.fitting_pdus_are_read.ensures.read report_of

pub returns-clause-device_low_ack : goal.returns-clause-device_low_ack
returns-clause-device_low_ack c = ack_replied c.fitting_pdus_are_read.ensures.read low_ack_of

pub returns-clause-device_low_nack : goal.returns-clause-device_low_nack
returns-clause-device_low_nack c = nack_replied c.fitting_pdus_are_read.ensures.read low_ack_of
