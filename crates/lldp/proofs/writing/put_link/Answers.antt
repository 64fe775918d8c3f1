-- The octets of the only TLV.
use Rattle.std.proofs.Common.{ℕ, List, [], ◌∷◌, ◌++◌, sym, ap, ◌∙◌, append_assoc}
use Rattle.std.proofs.lemmas.List.{append-nil}
use Rattle.byteorder.specs.Endian.{big_bytes}
use Rattle.lldp.specs.Tlv.{tlv, tlv_of}
use Rattle.lldp.proofs.writing.put_link.Goals as goal

pub returns-in-Some-clause-items : goal.returns-in-Some-clause-items
returns-in-Some-clause-items c =
    let link = c.in-Some.link in
    let front : List ℕ = 0 ∷ 18 ∷ 15 ∷ 1 ∷ link.support ∷ [] in
    let first = c.append.ensures.items ∙ ap (λ (xs : List ℕ). xs ++ front) c.new-octets.ensures in
    let second = c.append_u16.ensures.items ∙ ap (λ (xs : List ℕ). xs ++ big_bytes 2 link.capability) first in
    let third = c.append_u16-in-Some.ensures.items ∙ ap (λ (xs : List ℕ). xs ++ big_bytes 2 link.mau_type) second in
    let octets = c.as_slice.ensures.value ∙ (third ∙ append_assoc front (big_bytes 2 link.capability) (big_bytes 2 link.mau_type)) in
    let old = c.args.out.now.items in
    rw c.in-Some.is (c.put_tlv.ensures.items ∙ (ap (λ (xs : List ℕ). old ++ tlv.write (tlv_of 127 xs) []) octets ∙ ap (λ (xs : List ℕ). old ++ xs) (sym (append-nil _))))
