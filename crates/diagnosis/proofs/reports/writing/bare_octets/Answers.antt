-- A block that fits is read back.
use Rattle.std.proofs.Common.{[]}
use Rattle.diagnosis.specs.reports.Report.{bare}
use Rattle.diagnosis.proofs.ReportsReports.{report_read}
use Rattle.diagnosis.proofs.reports.writing.bare_octets.Goals as goal

pub returns-clause-carried : goal.returns-clause-carried
returns-clause-carried c = report_read (bare c.args.alarm.now) [] c.bare_front-block.ensures.fits
