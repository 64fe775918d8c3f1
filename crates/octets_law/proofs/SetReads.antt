-- The blocks of a Set, read at fixed places.
use Rattle.std.proofs.Common.{◌≡◌, ◌≤◌, ◌==◌, ◌+◌, ◌*◌, ◌/◌, ◌%◌, ◌&&◌, ℕ, zero, suc, true, List, [], ◌∷◌, ◌++◌, length, take, drop, refl, sym, ap, subst, ◌∙◌, arith}
use Rattle.std.proofs.lemmas.Bool.{and_parts, cond_both}
use Rattle.std.proofs.lemmas.Bool.Decides.{nat_tests}
use Rattle.byteorder.specs.Endian.{big_number}
use Rattle.wire.specs.Filled.{SpellAll}
use Rattle.dcp_core.specs.declared.request.DcpFault.TheVariants as fault
use Rattle.dcp_core.specs.declared.kind.Kind.{Kind}
use Rattle.dcp_core.specs.Format.{at_least, block, kind}
use Rattle.dcp_core.specs.Kinds.{kind_of, option_of, suboption_of}
use Rattle.dcp_core.specs.Request.{AskedBlock}
use Rattle.octets_law.specs.Octets.{blocks_in}
use Rattle.octets_law.proofs.SetAnswers.{alone}
use Rattle.octets_law.proofs.SetItems.{AreRead}
use Rattle.octets_law.proofs.SetFrames.{take_front}

-- ---- kinds

same : (a b : ℕ) → (a == b) ≡ true → b ≡ a
same a b is = grind (arith, nat_tests)

both_same : (o s a b : ℕ) → (o == a) ≡ true → (s == b) ≡ true → a * 256 + b ≡ o * 256 + s
both_same o s a b one two = let p = same o a one in let q = same s b two in cc

other_one : (o s a : ℕ) → (o == a) ≡ true → a * 256 + s ≡ o * 256 + s
other_one o s a one = ap (λ n. n * 256 + s) (same o a one)

-- A kind keeps its option and its suboption.
pub kind_kept : (o s : ℕ) → option_of (kind_of o s) * 256 + suboption_of (kind_of o s) ≡ o * 256 + s
kind_kept o s =
    cond_both (o == 255 && s == 255) _ _ P (λ all. both_same o s 255 255 (and_parts _ _ all).0 (and_parts _ _ all).1)
    (λ _. cond_both (o == 1) _ _ P (λ one.
    (cond_both (s == 1) _ _ P (λ two. both_same o s 1 1 one two) (λ _.
    (cond_both (s == 2) _ _ P (λ two. both_same o s 1 2 one two) (λ _.
    other_one o s 1 one)))))
    (λ _. cond_both (o == 2) _ _ P (λ one.
    (cond_both (s == 1) _ _ P (λ two. both_same o s 2 1 one two) (λ _.
    (cond_both (s == 2) _ _ P (λ two. both_same o s 2 2 one two) (λ _.
    (cond_both (s == 3) _ _ P (λ two. both_same o s 2 3 one two) (λ _.
    (cond_both (s == 4) _ _ P (λ two. both_same o s 2 4 one two) (λ _.
    (cond_both (s == 5) _ _ P (λ two. both_same o s 2 5 one two) (λ _.
    (cond_both (s == 6) _ _ P (λ two. both_same o s 2 6 one two) (λ _.
    (cond_both (s == 7) _ _ P (λ two. both_same o s 2 7 one two) (λ _.
    other_one o s 2 one)))))))))))))))
    (λ _. cond_both (o == 5) _ _ P (λ one.
    (cond_both (s == 3) _ _ P (λ two. both_same o s 5 3 one two) (λ _.
    (cond_both (s == 4) _ _ P (λ two. both_same o s 5 4 one two) (λ _.
    (cond_both (s == 5) _ _ P (λ two. both_same o s 5 5 one two) (λ _.
    (cond_both (s == 6) _ _ P (λ two. both_same o s 5 6 one two) (λ _.
    other_one o s 5 one)))))))))
    (λ _. refl))))
  where
    P : Kind → Type 0
    P k = option_of k * 256 + suboption_of k ≡ o * 256 + s

-- ---- blocks

-- A block of a Set: the octets of its option, of its suboption and of its length, its contents, and what follows them; after contents of an odd
-- length an octet is left out.
pub record IsBlock (bytes : List ℕ) (asked : AskedBlock) (rest : List ℕ) : Type 0 where
  pub option : List ℕ
  pub suboption : List ℕ
  pub size : List ℕ
  pub mid : List ℕ
  pub one : length option ≡ 1
  pub two : length suboption ≡ 1
  pub wide : length size ≡ 2
  pub kind_is : kind_of (big_number 1 option) (big_number 1 suboption) ≡ asked.kind
  pub size_is : length asked.contents ≡ big_number 2 size
  pub is : bytes ≡ option ++ (suboption ++ (size ++ (asked.contents ++ mid)))
  pub padded : rest ≡ drop (length asked.contents % 2) mid

pub block_parts : (bytes : List ℕ) (asked : AskedBlock) (rest : List ℕ) → (block (at_least fault.Block 2)).Spells bytes asked rest → IsBlock bytes asked rest
unfolding block kind
block_parts bytes asked rest spells =
    let body = spells.2.1 in
    let kind = body.2.1 in
    let frame = body.2.2 in
    let one = kind.2.1 in
    let two = kind.2.2 in
    let size = frame.2 in
    let is = body.1 ∙ spells.1 in
    let contents : frame.0 ≡ asked.contents = frame.4.0 ∙ ap (λ (a : AskedBlock). a.contents) is in
    record {
      option = one.0;
      suboption = two.0;
      size = size.0;
      mid = spells.2.0;
      one = one.1;
      two = two.1;
      wide = size.1;
      kind_is = ap (λ n. kind_of n (big_number 1 two.0)) (sym one.3) ∙ ap (λ n. kind_of kind.0.0 n) (sym two.3) ∙ kind.1 ∙ ap (λ (a : AskedBlock). a.kind) is;
      size_is = ap length (sym contents) ∙ size.3;
      is = one.2 ∙ ap (λ l. one.0 ++ l) (two.2 ∙ ap (λ l. two.0 ++ l) (size.2 ∙ ap (λ l. size.0 ++ l) (frame.3 ∙ ap (λ l. l ++ spells.2.0) contents)));
      padded = spells.2.2 ∙ ap (λ (a : AskedBlock). drop (length a.contents % 2) spells.2.0) spells.1;
    }

pub one_octet : (P : List ℕ → Type 0) (l : List ℕ) → length l ≡ 1 → ((a : ℕ) → P (a ∷ [])) → P l
one_octet P (a ∷ []) is for = for a
one_octet P (a ∷ b ∷ l) is for = absurd (omega arith)
one_octet P [] is for = absurd (omega arith)

pub two_octets : (P : List ℕ → Type 0) (l : List ℕ) → length l ≡ 2 → ((a b : ℕ) → P (a ∷ b ∷ [])) → P l
two_octets P (a ∷ b ∷ []) is for = for a b
two_octets P (a ∷ b ∷ c ∷ l) is for = absurd (omega arith)
two_octets P (a ∷ []) is for = absurd (omega arith)
two_octets P [] is for = absurd (omega arith)

pub plus_zero : (n : ℕ) → 0 + n ≡ n
plus_zero n = omega arith

plus_one : (n m : ℕ) → suc n + m ≡ suc (n + m)
plus_one n m = omega arith

pub drop_past : (front rest : List ℕ) (more : ℕ) → drop (length front + more) (front ++ rest) ≡ drop more rest
drop_past [] rest more = ap (λ n. drop n rest) (plus_zero more)
drop_past (x ∷ front) rest more = ap (λ n. drop n (x ∷ (front ++ rest))) (plus_one (length front) more) ∙ drop_past front rest more

-- The place of the next block.
next_place : (n : ℕ) → 4 + (n + 1) / 2 * 2 ≡ suc (suc (suc (suc (n + n % 2))))
next_place n = omega arith

-- A block at the front is read as it is.
block_read : (bytes : List ℕ) (asked : AskedBlock) (rest : List ℕ) → IsBlock bytes asked rest → (most : ℕ)
    → blocks_in (suc most) bytes ≡ (option_of asked.kind * 256 + suboption_of asked.kind, asked.contents) ∷ blocks_in most rest
block_read bytes asked rest it most =
    ap (blocks_in (suc most)) it.is
    ∙ one_octet (λ o. kind_of (big_number 1 o) (big_number 1 it.suboption) ≡ asked.kind
    → blocks_in (suc most) (o ++ (it.suboption ++ (it.size ++ (asked.contents ++ it.mid)))) ≡ wanted) it.option it.one (λ o.
    one_octet (λ s. kind_of (big_number 1 (o ∷ [])) (big_number 1 s) ≡ asked.kind
    → blocks_in (suc most) (o ∷ (s ++ (it.size ++ (asked.contents ++ it.mid)))) ≡ wanted) it.suboption it.two (λ s.
    two_octets (λ l. length asked.contents ≡ big_number 2 l → kind_of (big_number 1 (o ∷ [])) (big_number 1 (s ∷ [])) ≡ asked.kind
    → blocks_in (suc most) (o ∷ s ∷ (l ++ (asked.contents ++ it.mid))) ≡ wanted) it.size it.wide (λ a b. by_octets o s a b) it.size_is)) it.kind_is
  where
    wanted : List (ℕ × List ℕ)
    wanted = (option_of asked.kind * 256 + suboption_of asked.kind, asked.contents) ∷ blocks_in most rest

    by_octets : (o s a b : ℕ) → length asked.contents ≡ big_number 2 (a ∷ b ∷ []) → kind_of (big_number 1 (o ∷ [])) (big_number 1 (s ∷ [])) ≡ asked.kind
        → blocks_in (suc most) (o ∷ s ∷ a ∷ b ∷ (asked.contents ++ it.mid)) ≡ wanted
    by_octets o s a b size kind =
        let octets : List ℕ = o ∷ s ∷ a ∷ b ∷ (asked.contents ++ it.mid) in
        let number_is : o * 256 + (s * 1 + 0) ≡ option_of asked.kind * 256 + suboption_of asked.kind =
        ap (λ n. n * 256 + (s * 1 + 0)) (sym (alone o)) ∙ sym (kind_kept (o * 1 + 0) (s * 1 + 0)) ∙ ap (λ k. option_of k * 256 + suboption_of k) kind in
        let contents_are : take (a * 256 + (b * 1 + 0)) (asked.contents ++ it.mid) ≡ asked.contents =
        ap (λ n. take n (asked.contents ++ it.mid)) (sym size) ∙ take_front asked.contents it.mid in
        let behind_is : drop (4 + (a * 256 + (b * 1 + 0) + 1) / 2 * 2) octets ≡ rest =
        ap (λ n. drop (4 + (n + 1) / 2 * 2) octets) (sym size) ∙ ap (λ n. drop n octets) (next_place (length asked.contents))
        ∙ drop_past asked.contents it.mid (length asked.contents % 2) ∙ sym it.padded in
        ap (λ n. (n, take (a * 256 + (b * 1 + 0)) (asked.contents ++ it.mid)) ∷ blocks_in most (drop (4 + (a * 256 + (b * 1 + 0) + 1) / 2 * 2) octets)) number_is
        ∙ ap (λ l. (option_of asked.kind * 256 + suboption_of asked.kind, l) ∷ blocks_in most (drop (4 + (a * 256 + (b * 1 + 0) + 1) / 2 * 2) octets)) contents_are
        ∙ ap (λ l. (option_of asked.kind * 256 + suboption_of asked.kind, asked.contents) ∷ blocks_in most l) behind_is

none_in : (most : ℕ) → blocks_in most [] ≡ []
none_in zero = refl
none_in (suc most) = refl

-- The blocks of a Set are read as they are.
pub blocks_read : (most : ℕ) (bytes : List ℕ) (blocks : List AskedBlock) → SpellAll (block (at_least fault.Block 2)) bytes blocks → length blocks ≤ most
    → AreRead blocks (blocks_in most bytes)
blocks_read most bytes [] spells few = subst (AreRead []) (sym (ap (blocks_in most) spells ∙ none_in most)) tt
blocks_read zero bytes (one ∷ blocks) spells few = absurd (omega arith)
blocks_read (suc most) bytes (one ∷ blocks) spells few =
    subst (AreRead (one ∷ blocks)) (sym (block_read bytes one spells.1 (block_parts bytes one spells.1 spells.2) most))
    ((refl, refl), blocks_read most spells.1 blocks spells.3 (omega arith))
