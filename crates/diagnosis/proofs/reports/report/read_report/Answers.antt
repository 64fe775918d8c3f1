-- A value that is read is encoded by the octets, and octets that encode a value are read as it.
use Rattle.std.proofs.Common.{sym, ◌∙◌}
use Rattle.diagnosis.proofs.ReportsReports.{of_ok, report_again, report_takes}
use Rattle.diagnosis.proofs.reports.report.read_report.Goals as goal

pub returns-clause-found : goal.returns-clause-found
returns-clause-found c = of_ok _ c.report_in.result (λ value e. report_takes c.args.body.now value (sym c.report_in.ensures ∙ e))

pub returns-clause-only : goal.returns-clause-only
returns-clause-only c = λ meaning s. c.report_in.ensures ∙ report_again c.args.body.now meaning s
