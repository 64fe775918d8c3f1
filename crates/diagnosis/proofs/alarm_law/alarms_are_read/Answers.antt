-- This follows from the laws of the formats.
use Rattle.diagnosis.proofs.Blocks.{alarm_long, bare_long, diagnosed_long}
use Rattle.diagnosis.proofs.Pdus.{alarm_said, bare_said, diagnosis_said, low_said}
use Rattle.diagnosis.proofs.alarm_law.alarms_are_read.Goals as goal

pub returns-clause-read : goal.returns-clause-read
returns-clause-read c = alarm_said c.fitting_pdus_are_read.ensures.read c.reports_are_read.ensures.ours c.blocks_are_read.ensures.long

pub returns-clause-long : goal.returns-clause-long
returns-clause-long c = alarm_long c.blocks_are_read.ensures.long

pub returns-clause-low : goal.returns-clause-low
returns-clause-low c = diagnosis_said c.fitting_pdus_are_read.ensures.read c.reports_are_read.ensures.read

pub returns-clause-low_long : goal.returns-clause-low_long
returns-clause-low_long c = diagnosed_long

pub returns-clause-bare : goal.returns-clause-bare
returns-clause-bare c = bare_said c.fitting_pdus_are_read.ensures.read c.reports_are_read.ensures.read

pub returns-clause-any : goal.returns-clause-any
returns-clause-any c = low_said c.fitting_pdus_are_read.ensures.read c.reports_are_read.ensures.read

pub returns-clause-bare_long : goal.returns-clause-bare_long
returns-clause-bare_long c = bare_long
