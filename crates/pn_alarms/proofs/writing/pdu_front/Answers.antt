use Rattle.std.proofs.Common.{List, [], ◌++◌, ℕ, length, append_assoc, sym, ap, ◌∙◌}
use Rattle.wire.specs.Formats.{big_bytes}
use Rattle.pn_alarms.specs.Format.{header, said, pdu_bytes}
use Rattle.pn_alarms.proofs.Sound.{pdu_parts, pdu_spelled, pdu_again, pdu_behind}
use Rattle.pn_alarms.proofs.writing.pdu_front.Goals as goal

pub returns-clause-exact : goal.returns-clause-exact
returns-clause-exact c =
    let meaning = said c.args.pdu.now in
    ap (λ (xs : List ℕ). xs ++ meaning.body) c.header_octets.ensures.items
    ∙ append_assoc (header.write meaning.header []) (big_bytes 2 (length meaning.body)) meaning.body
    ∙ sym (pdu_parts meaning)

pub returns-clause-spelled : goal.returns-clause-spelled
returns-clause-spelled c = pdu_spelled (said c.args.pdu.now) c.requires.long c.header_octets.ensures.fits c.requires.few

pub returns-clause-behind : goal.returns-clause-behind
returns-clause-behind c = λ more.
    let meaning = said c.args.pdu.now in
    pdu_again _ meaning (pdu_behind (pdu_bytes meaning) more meaning (pdu_spelled meaning c.requires.long c.header_octets.ensures.fits c.requires.few))
