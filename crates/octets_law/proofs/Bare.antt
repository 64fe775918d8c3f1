-- A frame that is read, without its tag.
use Rattle.std.proofs.Common.{◌≡◌, ◌==◌, ℕ, Bool, true, false, List, [], ◌∷◌, ◌++◌, length, Option, refl, sym, ap, subst, ◌∙◌, arith}
use Rattle.std.proofs.lemmas.Bool.{cond-true, cond-false}
use Rattle.byteorder.specs.Endian.{big_number}
use Rattle.pn_values.specs.declared.mac.Mac.{Mac}
use Rattle.frame_codec.specs.Meaning.{Meaning}
use Rattle.wire.specs.Formats.{number as field, when, ◌⨾◌}
use Rattle.frame_codec.specs.declared.fault.FrameFault.TheVariants.{TooShort}
use Rattle.frame_codec.specs.Frame.{content_under, ethernet, layers, mac, tag_and_type, tag_and_type_of}
use Rattle.octets_law.specs.Octets.{untagged}
use Rattle.octets_law.proofs.SetFrames.{six}

-- The frame without its tag: the stations, an EtherType of two octets, and the content under it.
pub record IsBare (bytes : List ℕ) (meaning : Meaning) : Type 0 where
  pub source : List ℕ
  pub type : List ℕ
  pub rest : List ℕ
  pub to : length meaning.destination.octets ≡ 6
  pub from : length source ≡ 6
  pub two : length type ≡ 2
  pub is : untagged bytes ≡ meaning.destination.octets ++ (source ++ (type ++ rest))
  pub content : (content_under (big_number 2 type)).Spells rest meaning.content

two_octets : (P : List ℕ → Type 0) (l : List ℕ) → length l ≡ 2 → ((a b : ℕ) → P (a ∷ b ∷ [])) → P l
two_octets P (a ∷ b ∷ []) is for = for a b
two_octets P (a ∷ b ∷ c ∷ l) is for = absurd (omega arith)
two_octets P (a ∷ []) is for = absurd (omega arith)
two_octets P [] is for = absurd (omega arith)

-- with no tag
plain : (to from type rest : List ℕ) → length to ≡ 6 → length from ≡ 6 → length type ≡ 2 → (big_number 2 type == 0x8100) ≡ false
    → untagged (to ++ (from ++ (type ++ rest))) ≡ to ++ (from ++ (type ++ rest))
plain to from type rest t f two other =
    six (λ to. untagged (to ++ (from ++ (type ++ rest))) ≡ to ++ (from ++ (type ++ rest))) to t (λ a b c d e g.
    six (λ from. untagged ((a ∷ b ∷ c ∷ d ∷ e ∷ g ∷ []) ++ (from ++ (type ++ rest))) ≡ (a ∷ b ∷ c ∷ d ∷ e ∷ g ∷ []) ++ (from ++ (type ++ rest))) from f (λ h i j k l m.
    at_type type two other a b c d e g h i j k l m))
  where
    at_type : (type : List ℕ) → length type ≡ 2 → (big_number 2 type == 0x8100) ≡ false → (a b c d e g h i j k l m : ℕ)
        → untagged (a ∷ b ∷ c ∷ d ∷ e ∷ g ∷ h ∷ i ∷ j ∷ k ∷ l ∷ m ∷ (type ++ rest)) ≡ a ∷ b ∷ c ∷ d ∷ e ∷ g ∷ h ∷ i ∷ j ∷ k ∷ l ∷ m ∷ (type ++ rest)
    at_type (o ∷ p ∷ []) two other a b c d e g h i j k l m = cond-false _ _ _ other
    at_type (o ∷ p ∷ q ∷ l') two other a b c d e g h i j k l m = absurd (omega arith)
    at_type (o ∷ []) two other a b c d e g h i j k l m = absurd (omega arith)
    at_type [] two other a b c d e g h i j k l m = absurd (omega arith)

-- with a tag
pub tagged : (to from first tag type rest : List ℕ) → length to ≡ 6 → length from ≡ 6 → length first ≡ 2 → length tag ≡ 2 → (big_number 2 first == 0x8100) ≡ true
    → untagged (to ++ (from ++ (first ++ (tag ++ (type ++ rest))))) ≡ to ++ (from ++ (type ++ rest))
tagged to from first tag type rest t f one two other =
    six (λ to. untagged (to ++ (from ++ (first ++ (tag ++ (type ++ rest))))) ≡ to ++ (from ++ (type ++ rest))) to t (λ a b c d e g.
    six (λ from. untagged ((a ∷ b ∷ c ∷ d ∷ e ∷ g ∷ []) ++ (from ++ (first ++ (tag ++ (type ++ rest))))) ≡ (a ∷ b ∷ c ∷ d ∷ e ∷ g ∷ []) ++ (from ++ (type ++ rest))) from f (λ h i j k l m.
    at_tag first tag one two other a b c d e g h i j k l m))
  where
    at_tag : (first tag : List ℕ) → length first ≡ 2 → length tag ≡ 2 → (big_number 2 first == 0x8100) ≡ true → (a b c d e g h i j k l m : ℕ)
        → untagged (a ∷ b ∷ c ∷ d ∷ e ∷ g ∷ h ∷ i ∷ j ∷ k ∷ l ∷ m ∷ (first ++ (tag ++ (type ++ rest)))) ≡ a ∷ b ∷ c ∷ d ∷ e ∷ g ∷ h ∷ i ∷ j ∷ k ∷ l ∷ m ∷ (type ++ rest)
    at_tag (o ∷ p ∷ []) (q ∷ r ∷ []) one two other a b c d e g h i j k l m = cond-true _ _ _ other
    at_tag (o ∷ p ∷ []) (q ∷ r ∷ s ∷ l') one two other a b c d e g h i j k l m = absurd (omega arith)
    at_tag (o ∷ p ∷ []) (q ∷ []) one two other a b c d e g h i j k l m = absurd (omega arith)
    at_tag (o ∷ p ∷ []) [] one two other a b c d e g h i j k l m = absurd (omega arith)
    at_tag (o ∷ p ∷ q ∷ l') tag one two other a b c d e g h i j k l m = absurd (omega arith)
    at_tag (o ∷ []) tag one two other a b c d e g h i j k l m = absurd (omega arith)
    at_tag [] tag one two other a b c d e g h i j k l m = absurd (omega arith)

-- What follows the stations, with the EtherType of the content.
record IsTyped (to from behind : List ℕ) (ether_type : ℕ) (rest : List ℕ) : Type 0 where
  type : List ℕ
  two : length type ≡ 2
  number_is : ether_type ≡ big_number 2 type
  is : untagged (to ++ (from ++ behind)) ≡ to ++ (from ++ (type ++ rest))

typed_as : (to from behind rest first : List ℕ) (tagging : Option (ℕ × ℕ)) (mid : List ℕ) → length to ≡ 6 → length from ≡ 6
    → length first ≡ 2 → behind ≡ first ++ mid → (b : Bool) → (big_number 2 first == 0x8100) ≡ b
    → (when b (field TooShort 2 ⨾ field TooShort 2)).Spells mid tagging rest
    → IsTyped to from behind (tag_and_type_of (big_number 2 first, tagging)).1 rest
typed_as to from behind rest first tagging mid t f two is false other spells = record {
  type = first;
  two = two;
  number_is = ap (λ x. (tag_and_type_of (big_number 2 first, x)).1) spells.0;
  is = subst (λ l. untagged (to ++ (from ++ l)) ≡ to ++ (from ++ (first ++ rest))) (sym (is ∙ ap (λ l. first ++ l) spells.1)) (plain to from first rest t f two other);
}
typed_as to from behind rest first tagging mid t f two is true tag spells =
    let word = spells.2.1 in
    let last = spells.2.2 in
    record {
      type = last.0;
      two = last.1;
      number_is = ap (λ x. (tag_and_type_of (big_number 2 first, x)).1) (sym spells.1) ∙ last.3;
      is = subst (λ l. untagged (to ++ (from ++ l)) ≡ to ++ (from ++ (last.0 ++ rest)))
          (sym (is ∙ ap (λ l. first ++ l) (word.2 ∙ ap (λ l. word.0 ++ l) last.2)))
          (tagged to from first word.0 last.0 rest t f two word.1 tag);
    }

-- A frame that is spelled is bare.
pub bare_of : (bytes : List ℕ) (meaning : Meaning) → layers.Spells bytes meaning → IsBare bytes meaning
unfolding layers ethernet mac tag_and_type
bare_of bytes meaning spells =
    let inner = spells.0 in
    let mid = spells.2.0 in
    let head = spells.2.1 in
    let to = head.2.1 in
    let from = head.2.2.1 in
    let tag = head.2.2.2 in
    let first = tag.2.1 in
    let typed = typed_as to.0 from.0 head.2.2.0 mid first.0 tag.0.1 tag.2.0 to.2.0 from.2.0 first.1 first.2
    (big_number 2 first.0 == 0x8100) refl
    (subst (λ n. (when (n == 0x8100) (field TooShort 2 ⨾ field TooShort 2)).Spells tag.2.0 tag.0.1 mid) first.3 tag.2.2) in
    let destination : to.0 ≡ meaning.destination.octets = ap (λ (m : Mac). m.octets) to.1 ∙ ap (λ h. h.destination.octets) head.1
    ∙ ap (λ (m : Meaning). m.destination.octets) spells.1 in
    let ether_type = sym (ap (λ h. h.ether_type) head.1) ∙ sym (ap (λ (x : Option ℕ × ℕ). x.1) tag.1)
    ∙ ap (λ n. (tag_and_type_of (n, tag.0.1)).1) first.3 ∙ typed.number_is in
    record {
      source = from.0;
      type = typed.type;
      rest = mid;
      to = subst (λ l. length l ≡ 6) destination to.2.0;
      from = from.2.0;
      two = typed.two;
      is = subst (λ d. untagged bytes ≡ d ++ (from.0 ++ (typed.type ++ mid))) destination
          (ap untagged (to.2.1 ∙ ap (λ l. to.0 ++ l) from.2.1) ∙ typed.is);
      content = subst (λ c. (content_under (big_number 2 typed.type)).Spells mid c) (ap (λ (m : Meaning). m.content) spells.1)
          (subst (λ n. (content_under n).Spells mid inner.1) ether_type spells.2.2);
    }
