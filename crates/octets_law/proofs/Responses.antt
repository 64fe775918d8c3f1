-- A response, read at fixed places: its kind.
use Rattle.std.proofs.Common.{◌≡◌, ℕ, List, [], ◌∷◌, ◌++◌, length, sym, ap, ◌∙◌, arith}
use Rattle.std.proofs.lemmas.Bool.{and_parts}
use Rattle.byteorder.specs.Endian.{big_number}
use Rattle.rpc_core.specs.Header.{head, opening}
use Rattle.rpc_core.specs.Pdu.{cut_off, pdu}
use Rattle.rpc_core.specs.Response.{Answered, IsResponse, response}
use Rattle.octets_law.specs.Octets.{number}
use Rattle.octets_law.proofs.CallReads.{tested}
use Rattle.octets_law.proofs.SetReads.{one_octet}

kind_front : (a b rest : List ℕ) → length a ≡ 1 → length b ≡ 1 → big_number 1 a ≡ 4 → big_number 1 b ≡ 2 → number 0 2 (a ++ (b ++ rest)) ≡ 0x0402
kind_front a b rest l m =
    one_octet (λ a. big_number 1 a ≡ 4 → big_number 1 b ≡ 2 → number 0 2 (a ++ (b ++ rest)) ≡ 0x0402) a l (λ x.
    one_octet (λ b. big_number 1 (x ∷ []) ≡ 4 → big_number 1 b ≡ 2 → number 0 2 (x ∷ (b ++ rest)) ≡ 0x0402) b m (λ y four two. omega arith))

-- A response has version 4 and packet type 2.
pub response_kind : (bytes : List ℕ) (meaning : Answered) → IsResponse bytes meaning → number 0 2 bytes ≡ 0x0402
unfolding IsResponse response pdu cut_off head opening
response_kind bytes meaning whole =
    let spells = whole.1.2 in
    let tests = spells.1 in
    let versions = tests.1.1.1.0 in
    let headed = tests.1.1.1.1.1.1 in
    let opens = headed.2.1 in
    let version = opens.2.1 in
    let packet_type = opens.2.2.1 in
    ap (number 0 2) (version.2 ∙ ap (λ l. version.0 ++ l) packet_type.2)
    ∙ kind_front version.0 packet_type.0 _ version.1 packet_type.1
    (sym (ap (λ h. h.opening.version) (sym headed.1) ∙ ap (λ o. o.version) (sym opens.1) ∙ version.3) ∙ tested _ 4 (and_parts _ _ (and_parts _ _ versions).0).0)
    (sym (ap (λ h. h.opening.packet_type) (sym headed.1) ∙ ap (λ o. o.packet_type) (sym opens.1) ∙ packet_type.3) ∙ tested _ 2 (and_parts _ _ (and_parts _ _ versions).0).1)
