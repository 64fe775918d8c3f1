-- A value that is read is encoded by the octets, and octets that encode a value are read as it.
use Rattle.std.proofs.Common.{ℕ, List, sym, subst}
use Rattle.wire.proofs.Given.{found, only}
use Rattle.pn_alarms.specs.Format.{Said, said, IsPdu, pdu_of}
use Rattle.pn_alarms.proofs.Sound.{pdu_takes, pdu_again, pdu_behind}
use Rattle.pn_alarms.proofs.reading.read_pdu.Goals as goal

pub returns-clause-found : goal.returns-clause-found
returns-clause-found c =
    found said (λ (meaning : Said). IsPdu c.args.bytes.now meaning) c.pdu_in.result (pdu_of c.args.bytes.now) (pdu_takes c.args.bytes.now) c.pdu_in.ensures.exact

pub returns-clause-only : goal.returns-clause-only
returns-clause-only c = λ meaning s.
    only said c.pdu_in.result (pdu_of c.args.bytes.now) meaning (pdu_again c.args.bytes.now meaning s) c.pdu_in.ensures.exact

pub returns-clause-behind : goal.returns-clause-behind
returns-clause-behind c = λ first more meaning s e.
    only said c.pdu_in.result (pdu_of c.args.bytes.now) meaning
    (pdu_again c.args.bytes.now meaning (subst (λ (bytes : List ℕ). IsPdu bytes meaning) (sym e) (pdu_behind first more meaning s)))
    c.pdu_in.ensures.exact
