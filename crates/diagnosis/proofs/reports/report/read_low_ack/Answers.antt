-- A value that is read is encoded by the octets, and octets that encode a value are read as it.
use Rattle.std.proofs.Common.{sym, ◌∙◌}
use Rattle.diagnosis.proofs.ReportsReports.{of_ok, low_ack_again, low_ack_takes}
use Rattle.diagnosis.proofs.reports.report.read_low_ack.Goals as goal

pub returns-clause-found : goal.returns-clause-found
returns-clause-found c = of_ok _ c.low_ack_in.result (λ value e. low_ack_takes c.args.body.now value (sym c.low_ack_in.ensures ∙ e))

pub returns-clause-only : goal.returns-clause-only
returns-clause-only c = λ meaning s. c.low_ack_in.ensures ∙ low_ack_again c.args.body.now meaning s
