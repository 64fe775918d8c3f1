-- Cyclic frames and alarm frames of other marks than those of a relation.
use Rattle.std.proofs.Common.{◌≡◌, ◌==◌, ◌&&◌, ℕ, Bool, true, false, nat_eq, List, [], ◌∷◌, ◌++◌, length, drop, Result, Ok, refl, sym, ap, ◌∙◌}
use Rattle.std.proofs.lemmas.Bool.{cond_both}
use Rattle.std.specs.Cmp.Lexicographic.{pointwise}
use Rattle.byteorder.specs.Endian.{big_number}
use Rattle.pn_values.specs.declared.mac.Mac.{Mac}
use Rattle.wire.proofs.Fields.{bind_ok as bound}
use Rattle.frame_codec.specs.FrameId.{is_alarm}
use Rattle.frame_codec.specs.Frame.{ethernet, layers, mac}
use Rattle.frame_codec.specs.Meaning.{Meaning}
use Rattle.pn_alarms.specs.declared.fault.AlarmFault.{AlarmFault}
use Rattle.pn_alarms.specs.declared.message.Notice.{Notice}
use Rattle.pn_alarms.specs.declared.pdu.Header.{Header}
use Rattle.pn_alarms.specs.Format.{IsPdu, Said as Said_, header, kind, pdu, pdu_of}
use Rattle.pn_alarms.specs.Message.{notice_in, notice_of}
use Rattle.pn_alarms.proofs.Sound.{pdu_takes}
use Rattle.octets_law.specs.Octets.{number, part, untagged}
use Rattle.octets_law.proofs.CallPlaces.{skip}
use Rattle.octets_law.proofs.SetFrames.{six}
use Rattle.octets_law.proofs.SetHeard.{IsTimely, two_ahead}
use Rattle.strangers_law.specs.Strange.{Marks, is_alarm_of, is_cyclic_of}

-- ---- the sender

sender_at : (to from rest : List ℕ) → length to ≡ 6 → length from ≡ 6 → part 6 6 (untagged (to ++ (from ++ rest))) ≡ from
sender_at to from rest t f =
    six (λ to. part 6 6 (untagged (to ++ (from ++ rest))) ≡ from) to t (λ a b c d e g.
    six (λ from. part 6 6 (untagged (a ∷ b ∷ c ∷ d ∷ e ∷ g ∷ (from ++ rest))) ≡ from) from f (λ h i j k l m.
    cond_both (number 12 2 (a ∷ b ∷ c ∷ d ∷ e ∷ g ∷ h ∷ i ∷ j ∷ k ∷ l ∷ m ∷ rest) == 0x8100) _ _
    (λ x. part 6 6 x ≡ h ∷ i ∷ j ∷ k ∷ l ∷ m ∷ []) (λ _. refl) (λ _. refl)))

pub sender_of : (bytes : List ℕ) (meaning : Meaning) → layers.Spells bytes meaning → part 6 6 (untagged bytes) ≡ meaning.source.octets
unfolding layers ethernet mac
sender_of bytes meaning spells =
    let head = spells.2.1 in
    let to = head.2.1 in
    let from = head.2.2.1 in
    ap (λ l. part 6 6 (untagged l)) (to.2.1 ∙ ap (λ l. to.0 ++ l) from.2.1) ∙ sender_at to.0 from.0 _ to.2.0 from.2.0
    ∙ (ap (λ (m : Mac). m.octets) from.1 ∙ ap (λ h. h.source.octets) head.1 ∙ ap (λ (m : Meaning). m.source.octets) spells.1)

-- ---- the endpoints of an alarm frame

pub record AreEndpoints (body : List ℕ) (said : Header) : Type 0 where
  pub destination : number 0 2 body ≡ said.destination
  pub source : number 2 2 body ≡ said.source

first_same : {B : Type 0} (one : Header) (notice : Notice B) (x : Header × Notice B)
    → (let r : Result (Header × Notice B) AlarmFault = Ok (one, notice) in r) ≡ Ok x → one ≡ x.0
first_same one notice x e = cc

pub endpoints_of : {B : Type 0} (block : List ℕ → Result B AlarmFault) (body : List ℕ) (x : Header × Notice B) → notice_of block body ≡ Ok x
    → AreEndpoints body x.0
unfolding IsPdu pdu header kind
endpoints_of block body x e =
    let one = bound (pdu_of body) _ x e in
    let two = bound (notice_in block one.0.header.kind one.0) _ x one.2 in
    let is = pdu_takes body one.0 one.1 in
    let same : one.0.header ≡ x.0 = first_same one.0.header two.0 x two.2 in
    let parts = is.1.1 in
    let g1 = parts.2.1.2 in
    let g2 = g1.2 in
    record {
      destination = ap (big_number 2) g1.1.2 ∙ two_ahead g1.1.0 _ g1.1.1 ∙ sym g1.1.3
          ∙ ap (λ (h : Header). h.destination) (parts.2.1.1 ∙ ap (λ (s : Said_). s.header) parts.1 ∙ same);
      source = ap (λ l. big_number 2 (drop 2 l)) g1.1.2 ∙ ap (big_number 2) (skip 0 2 g1.1.0 _ g1.1.1 ∙ g2.1.2) ∙ two_ahead g2.1.0 _ g2.1.1 ∙ sym g2.1.3
          ∙ ap (λ (h : Header). h.source) (parts.2.1.1 ∙ ap (λ (s : Said_). s.header) parts.1 ∙ same);
    }

-- ---- a frame that was read

module _ (marks : Marks) (frame : List ℕ) (source : List ℕ) (sender : part 6 6 frame ≡ source) (id : ℕ) (body : List ℕ) (it : IsTimely frame id body) where
  -- What decides whether it is an alarm frame: the sender and both endpoints.
  abbrev alarms : List ℕ → ℕ → ℕ → Bool
  alarms from destination origin =
      number 12 2 frame == 0x8892 && is_alarm (number 14 2 frame) && pointwise nat_eq from marks.notifier
      && destination == marks.own_endpoint && origin == marks.their_endpoint

  pub no_alarm : (said : Header) → AreEndpoints body said → is_alarm id ≡ true → is_alarm_of marks frame ≡ false
      → (pointwise nat_eq source marks.notifier && (said.destination == marks.own_endpoint && said.source == marks.their_endpoint)) ≡ false
  no_alarm said ends alarm other =
      let to : number 16 2 frame ≡ said.destination = ap (big_number 2) (it.behind 0) ∙ ends.destination in
      let from : number 18 2 frame ≡ said.source = ap (big_number 2) (it.behind 2) ∙ ends.source in
      let same : alarms (part 6 6 frame) (number 16 2 frame) (number 18 2 frame) ≡ alarms source said.destination said.source =
      ap (λ l. alarms l (number 16 2 frame) (number 18 2 frame)) sender ∙ ap (λ n. alarms source n (number 18 2 frame)) to
      ∙ ap (alarms source said.destination) from in
      last_three (number 12 2 frame == 0x8892) (is_alarm (number 14 2 frame)) _ _ _ (ap (λ n. n == 0x8892) it.ether_type) (ap is_alarm it.id ∙ alarm)
      (sym same ∙ other)
    where
      last_three : (a b c d e : Bool) → a ≡ true → b ≡ true → a && b && c && d && e ≡ false → c && (d && e) ≡ false
      last_three true true true true true p q r = r
      last_three true true true true false p q r = refl
      last_three true true true false e p q r = refl
      last_three true true false d e p q r = refl
      last_three true false c d e p q r = absurd cc
      last_three false b c d e p q r = absurd cc

  abbrev cycles : List ℕ → ℕ → Bool
  cycles from number_read = number 12 2 frame == 0x8892 && number_read == marks.frame_id && pointwise nat_eq from marks.provider

  pub no_cyclic : is_cyclic_of marks frame ≡ false → (pointwise nat_eq source marks.provider && id == marks.frame_id) ≡ false
  no_cyclic other =
      let same : cycles (part 6 6 frame) (number 14 2 frame) ≡ cycles source id = ap (λ l. cycles l (number 14 2 frame)) sender ∙ ap (cycles source) it.id in
      swapped (number 12 2 frame == 0x8892) (id == marks.frame_id) (pointwise nat_eq source marks.provider) (ap (λ n. n == 0x8892) it.ether_type)
      (sym same ∙ other)
    where
      swapped : (a b c : Bool) → a ≡ true → a && b && c ≡ false → c && b ≡ false
      swapped true true true p q = q
      swapped true false true p q = refl
      swapped true b false p q = refl
      swapped false b c p q = absurd cc
