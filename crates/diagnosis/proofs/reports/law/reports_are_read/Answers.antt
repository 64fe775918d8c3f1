-- By the proofs of the formats.
use Rattle.diagnosis.proofs.ReportsReports.{low_ack_read, ours_read, report_read}
use Rattle.diagnosis.proofs.reports.law.reports_are_read.Goals as goal

pub returns-clause-read : goal.returns-clause-read
returns-clause-read c = report_read

pub returns-clause-low_ack : goal.returns-clause-low_ack
returns-clause-low_ack c = low_ack_read

pub returns-clause-ours : goal.returns-clause-ours
returns-clause-ours c = ours_read
