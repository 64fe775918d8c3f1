-- The header, VarPartLen and the block up to its data, followed by the data, are the PDU.
use Rattle.std.proofs.Common.{◌≡◌, ◌<◌, ◌^◌, ℕ, ◌+◌, List, [], ◌++◌, length, true, append_assoc, arith, refl, sym, ap, ◌∙◌}
use Rattle.std.proofs.lemmas.List.{length-append}
use Rattle.wire.specs.Formats.{big_bytes}
use Rattle.pn_alarms.specs.Carried.{block_pdu}
use Rattle.pn_alarms.specs.Format.{header, is_long, pdu_bytes}
use Rattle.pn_alarms.proofs.Sound.{pdu_parts, pdu_spelled, pdu_again, pdu_behind}
use Rattle.pn_alarms.proofs.writing.data_front.Goals as goal

-- The number of octets of the block.
counted : (front value : List ℕ) → length front ≡ 28 → length (front ++ value) ≡ 28 + length value
counted front value n = omega (arith, length-append front value, n)

-- Four parts, one after the other.
apart : (first lengths front value : List ℕ) → ((first ++ lengths) ++ front) ++ value ≡ first ++ (lengths ++ (front ++ value))
apart first lengths front value = append_assoc (first ++ lengths) front value ∙ append_assoc first lengths (front ++ value)

pub returns-clause-exact : goal.returns-clause-exact
returns-clause-exact c =
    let front = c.args.front.now in
    let octets = c.args.octets.now in
    let first = header.write c.args.header.now [] in
    let size : 28 + length octets ≡ length (front ++ octets) = sym (counted front octets c.told-front) in
    rw (c.join.ensures, c.header_octets.ensures.items) (
    apart first (big_bytes 2 (28 + length octets)) front octets
    ∙ ap (λ (n : ℕ). first ++ (big_bytes 2 n ++ (front ++ octets))) size
    ∙ sym (pdu_parts (block_pdu c.args.header.now front octets)))

pub returns-clause-behind : goal.returns-clause-behind
returns-clause-behind c = λ more.
    let meaning = block_pdu c.args.header.now c.args.front.now c.args.octets.now in
    let size = counted c.args.front.now c.args.octets.now c.told-front in
    let long : is_long meaning.header.kind (length meaning.body) ≡ true = rw c.requires.kind refl in
    let few : length meaning.body < 256 ^ 2 = omega (arith, size, c.requires.few) in
    pdu_again _ meaning (pdu_behind (pdu_bytes meaning) more meaning (pdu_spelled meaning long c.header_octets.ensures.fits few))
