-- The list of a Write, from its front.
use Rattle.std.proofs.Common.{◌≡◌, ◌≤◌, ◌<◌, ◌-◌, ◌==◌, ℕ, zero, suc, true, false, List, [], ◌∷◌, length, Option, Some, None, refl, sym, ap, ◌∙◌, arith}
use Rattle.std.proofs.lemmas.Bool.{eqb-true, ne_eqb}
use Rattle.records.specs.writes.Entry.{Entry}
use Rattle.records.specs.writes.Several.{entries_in, entries_then, entry_of, is_list, is_then}

pub none_left : (left : ℕ) (octets : List ℕ) → left ≡ 0 → entries_in left octets ≡ []
unfolding entries_in
none_left zero octets e = refl
none_left (suc left) octets e = absurd (omega (arith, e))

pub none_read : (left : ℕ) (octets : List ℕ) → entry_of octets ≡ None → entries_in left octets ≡ []
unfolding entries_in
none_read zero octets e = refl
none_read (suc left) octets e = ap (λ (x : Option (Entry × List ℕ)). entries_then x (λ behind. entries_in left behind)) e

pub next_read : (left : ℕ) (octets : List ℕ) (entry : Entry) (behind : List ℕ) → 0 < left → entry_of octets ≡ Some (entry, behind) → entries_in left octets ≡ entry ∷ entries_in (left - 1) behind
unfolding entries_in
next_read zero octets entry behind more e = absurd (omega (arith, more))
next_read (suc left) octets entry behind more e =
    let same : suc left - 1 ≡ left = omega arith in
    ap (λ (x : Option (Entry × List ℕ)). entries_then x (λ others. entries_in left others)) e ∙ ap (λ (n : ℕ). entry ∷ entries_in n behind) (sym same)

-- Whether the rest is a list, by its first record.
pub empty_is : (left : ℕ) (octets : List ℕ) → (length octets == 0) ≡ true → is_list left octets ≡ true
unfolding is_list
empty_is zero [] e = refl
empty_is (suc left) [] e = refl
empty_is left (octet ∷ octets) e = absurd (omega (arith, eqb-true (suc (length octets)) 0 e))

pub broken_is : (left : ℕ) (octets : List ℕ) → (length octets == 0) ≡ false → entry_of octets ≡ None → is_list left octets ≡ false
unfolding is_list
broken_is left [] some e = absurd cc
broken_is zero (octet ∷ octets) some e = refl
broken_is (suc left) (octet ∷ octets) some e = ap (λ (x : Option (Entry × List ℕ)). is_then x (λ behind. is_list left behind)) e

pub more_is : (left later : ℕ) (octets : List ℕ) (entry : Entry) (behind : List ℕ) → left ≡ suc later → (length octets == 0) ≡ false → entry_of octets ≡ Some (entry, behind)
    → is_list left octets ≡ is_list later behind
unfolding is_list
more_is left later [] entry behind one some e = absurd cc
more_is left later (octet ∷ octets) entry behind one some e =
    ap (λ (n : ℕ). is_list n (octet ∷ octets)) one ∙ ap (λ (x : Option (Entry × List ℕ)). is_then x (λ others. is_list later others)) e

pub full_is : (octets : List ℕ) → is_list 0 octets ≡ (length octets == 0)
unfolding is_list
full_is [] = refl
full_is (octet ∷ octets) = sym (ne_eqb (suc (length octets)) 0 (λ e. omega (arith, e)))

few_then : (left : ℕ) (read : Option (Entry × List ℕ)) → ((octets : List ℕ) → length (entries_in left octets) ≤ left) → length (entries_then read (λ behind. entries_in left behind)) ≤ suc left
few_then left (Some x) few = omega (arith, few x.1)
few_then left None few = omega arith

-- As many records at most.
pub few_in : (left : ℕ) (octets : List ℕ) → length (entries_in left octets) ≤ left
unfolding entries_in
few_in zero octets = omega arith
few_in (suc left) octets = few_then left (entry_of octets) (few_in left)
