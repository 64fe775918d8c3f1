-- What is appended piece by piece is what the formats write.
use Rattle.std.proofs.Common.{◌≡◌, ℕ, List, [], ◌∷◌, ◌++◌, refl, sym, ap, ◌∙◌, append_assoc}
use Rattle.std.proofs.lemmas.List.{append-nil}
use Rattle.pn_values.specs.declared.mac.Mac.{Mac}
use Rattle.lldp.specs.Tlv.{Tlv, tlv, id, lifetime, chassis_mac}
use Rattle.lldp.specs.Message.{Message, message, write_tlvs}
use Rattle.lldp.proofs.Sound.{id_sound, lifetime_sound}

-- the TLVs of two lists are those of one and then those of the other
pub tlvs_append : (ts us : List Tlv) → write_tlvs (ts ++ us) ≡ write_tlvs ts ++ write_tlvs us
tlvs_append [] us = refl
tlvs_append (t ∷ ts) us = ap (λ (xs : List ℕ). tlv.write t [] ++ xs) (tlvs_append ts us) ∙ sym (append_assoc (tlv.write t []) (write_tlvs ts) (write_tlvs us))

-- the octets of the TLV that tells the MAC address of the chassis
pub mac_octets : (mac : Mac) → chassis_mac.write mac ≡ 0 ∷ 14 ∷ 207 ∷ 5 ∷ mac.octets
unfolding chassis_mac
mac_octets mac = ap (λ (xs : List ℕ). 0 ∷ 14 ∷ 207 ∷ 5 ∷ xs) (append-nil mac.octets)

-- four pieces and the end
pub more_put : (old one two three four last a b c d end : List ℕ) → one ≡ old ++ a → two ≡ one ++ b → three ≡ two ++ c → four ≡ three ++ d → last ≡ four ++ end
    → last ≡ old ++ ((a ++ (b ++ (c ++ d))) ++ end)
more_put old one two three four last a b c d end e f g h i =
    rw (
      i,
      h,
      g,
      f,
      e,
      append_assoc (((old ++ a) ++ b) ++ c) d end,
      append_assoc ((old ++ a) ++ b) c (d ++ end),
      append_assoc (old ++ a) b (c ++ (d ++ end)),
      append_assoc old a (b ++ (c ++ (d ++ end))),
      append_assoc a (b ++ (c ++ d)) end,
      append_assoc b (c ++ d) end,
      append_assoc c d end,
    ) refl

-- the first three TLVs and the others
pub message_put : (m : Message) (one two three four : List ℕ) → one ≡ (id 1).write m.chassis [] → two ≡ one ++ (id 2).write m.port [] → three ≡ two ++ lifetime.write m.lifetime []
    → four ≡ three ++ (write_tlvs m.more ++ 0 ∷ 0 ∷ []) → four ≡ message.write m
unfolding message
message_put m one two three four e f g h =
    let rest = write_tlvs m.more ++ 0 ∷ 0 ∷ [] in
    let a = (id 1).write m.chassis [] in
    let b = (id 2).write m.port [] in
    let c = lifetime.write m.lifetime [] in
    let first : four ≡ ((a ++ b) ++ c) ++ rest = h ∙ ap (λ (xs : List ℕ). xs ++ rest) (g ∙ ap (λ (xs : List ℕ). xs ++ c) (f ∙ ap (λ (xs : List ℕ). xs ++ b) e)) in
    let regroup : ((a ++ b) ++ c) ++ rest ≡ a ++ (b ++ (c ++ rest)) = append_assoc (a ++ b) c rest ∙ append_assoc a b (c ++ rest) in
    let third : c ++ rest ≡ lifetime.write m.lifetime rest = sym (lifetime_sound.local m.lifetime rest) in
    let second : b ++ (c ++ rest) ≡ (id 2).write m.port (lifetime.write m.lifetime rest) =
    ap (λ (xs : List ℕ). b ++ xs) third ∙ sym ((id_sound 2).local m.port (lifetime.write m.lifetime rest)) in
    first ∙ (regroup ∙ (ap (λ (xs : List ℕ). a ++ xs) second ∙ sym ((id_sound 1).local m.chassis ((id 2).write m.port (lifetime.write m.lifetime rest)))))
