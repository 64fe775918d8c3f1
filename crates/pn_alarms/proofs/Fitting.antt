-- A value that fits the format of PDUs is read as it was written.
use Rattle.std.proofs.Common.{◌≡◌, ◌<◌, ◌+◌, ℕ, true, List, [], ◌++◌, length, Ok, refl, ap, ◌∙◌, arith}
use Rattle.std.proofs.lemmas.List.{length-append}
use Rattle.wire.specs.Formats.{big_bytes}
use Rattle.pn_alarms.specs.declared.pdu.Header.{Header}
use Rattle.pn_alarms.specs.Format.{Said, header, is_long, kind, pdu_bytes, pdu_of}
use Rattle.pn_alarms.proofs.Sound.{header_sound, pdu_again, pdu_behind, pdu_parts, pdu_spelled}

pub pdu_read : (said : Said) (more : List ℕ) → header.Fits said.header → is_long said.header.kind (length said.body) ≡ true → length said.body < 65536
    → pdu_of (pdu_bytes said ++ more) ≡ Ok said
pdu_read said more fits long few = pdu_again _ said (pdu_behind (pdu_bytes said) more said (pdu_spelled said long fits (omega (arith, few))))

-- A header has ten octets, and VarPartLen two.
header_size : (value : Header) → header.size value ≡ 10
unfolding header kind
header_size value = refl

pub pdu_long : (said : Said) → length (pdu_bytes said) ≡ 12 + length said.body
pdu_long said =
    let front = header_sound.sized said.header [] in
    ap (λ (xs : List ℕ). length xs) (pdu_parts said) ∙ omega (arith, length-append (header.write said.header []) (big_bytes 2 (length said.body) ++ said.body), front, header_size said.header)
