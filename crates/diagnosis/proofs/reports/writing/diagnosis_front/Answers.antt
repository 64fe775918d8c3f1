-- The block up to its data, followed by the data, is the block.
use Rattle.std.proofs.Common.{◌≡◌, ℕ, List, [], ◌++◌, Ok, sym, ap, subst, ◌∙◌}
use Rattle.pn_alarms.specs.declared.pdu.Header.{Header}
use Rattle.pn_alarms.specs.Format.{Said, pdu_bytes, pdu_of}
use Rattle.diagnosis.specs.reports.Report.{diagnosed, report}
use Rattle.diagnosis.proofs.ReportsReports.{report_read}
use Rattle.diagnosis.proofs.reports.writing.diagnosis_front.Goals as goal

-- A PDU with this header and this body.
abbrev with_body : Header → List ℕ → Said
with_body header body = record { header = header; body = body }

pub returns-clause-exact : goal.returns-clause-exact
returns-clause-exact c =
    let front = c.low_front-front.result in
    let body : front ++ c.octets.result.now ≡ report.write (diagnosed c.args.alarm.now) [] =
    ap (λ (xs : List ℕ). front ++ xs) c.octets.ensures.value ∙ c.low_front-front.ensures.items in
    ap (λ (xs : List ℕ). c.data_front.result ++ xs) (sym c.octets.ensures.value)
    ∙ (c.data_front.ensures.exact ∙ ap (λ (xs : List ℕ). pdu_bytes (with_body c.args.header.now xs)) body)

pub returns-clause-behind : goal.returns-clause-behind
returns-clause-behind c = λ more.
    let front = c.low_front-front.result in
    let body : front ++ c.octets.result.now ≡ report.write (diagnosed c.args.alarm.now) [] =
    ap (λ (xs : List ℕ). front ++ xs) c.octets.ensures.value ∙ c.low_front-front.ensures.items in
    subst (λ (xs : List ℕ). pdu_of (pdu_bytes (with_body c.args.header.now xs) ++ more) ≡ Ok (with_body c.args.header.now xs)) body (c.data_front.ensures.behind more)

pub returns-clause-carried : goal.returns-clause-carried
returns-clause-carried c = report_read (diagnosed c.args.alarm.now) [] c.low_front-front.ensures.fits
