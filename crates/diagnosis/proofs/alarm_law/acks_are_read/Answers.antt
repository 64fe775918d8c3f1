-- This follows from the laws of the formats.
use Rattle.diagnosis.proofs.Blocks.{ack_long}
use Rattle.diagnosis.proofs.Pdus.{ack_said, low_ack_said}
use Rattle.diagnosis.proofs.alarm_law.acks_are_read.Goals as goal

pub returns-clause-read : goal.returns-clause-read
returns-clause-read c = ack_said c.fitting_pdus_are_read.ensures.read c.blocks_are_read.ensures.alone c.blocks_are_read.ensures.long

pub returns-clause-long : goal.returns-clause-long
returns-clause-long c = ack_long c.blocks_are_read.ensures.long

pub returns-clause-low : goal.returns-clause-low
returns-clause-low c = low_ack_said c.fitting_pdus_are_read.ensures.read c.reports_are_read.ensures.low_ack
