-- The octets of a frame, one by one.
use Rattle.std.proofs.Common.{◌≡◌, inl, inr, ℕ, ◌+◌, ◌-◌, ◌<◌, ◌≤◌, ◌++◌, true, false, List, [], ◌∷◌, length, take, drop, map, get_or, nat_le, nat_lt, sym, ap, ◌∙◌, arith}
use Rattle.std.specs.List.{AllByRecursion, range_with_len}
use Rattle.std.proofs.lemmas.Bool.{cases_Bool, cases_lt, and_parts, and_from, leb-true, le-leb, ltb-true, lt-ltb, true≢false}
use Rattle.std.proofs.lemmas.List.{ext_get_or, length-take-le, length-drop, get_or-take, get_or-drop, get_or_append_left, get_or-append_right}
use Rattle.std.proofs.lemmas.List.FromFn.{get_or-map-range_with_len, length-map-range_with_len}
use Rattle.cyclic_data.specs.declared.place.Place.{Place}
use Rattle.cyclic_data.specs.Layout.{Covers, IsInside}
use Rattle.cyclic_data.specs.Image.{Cell, Shown, value_in, status_in, cell_of, is_covered, octet_at, octets_of}
use Rattle.cyclic_data.specs.Held.{IsImage}

covers_of : (place : Place) (k : ℕ) → is_covered place k ≡ true → Covers place k
covers_of place k t =
    let p = and_parts (nat_le place.offset k) (nat_lt k (place.offset + place.size)) t in
    (leb-true place.offset k p.0, ltb-true k (place.offset + place.size) p.1)

off_of : (place : Place) (k : ℕ) → is_covered place k ≡ false → Covers place k → ⊥
off_of place k f covered =
    true≢false (sym (and_from (nat_le place.offset k) (nat_lt k (place.offset + place.size)) (le-leb place.offset k covered.0) (lt-ltb k (place.offset + place.size) covered.1)) ∙ f)

-- An octet of a cell, at its place.
cell_octet : (octets : List ℕ) (place : Place) (k : ℕ) → Covers place k → place.offset + place.size ≤ length octets
    → get_or (value_in octets place ++ status_in octets place ∷ []) (k - place.offset) 0 ≡ get_or octets k 0
cell_octet octets place k covered fits =
    let n : ℕ = place.size - 1 in
    let i : ℕ = k - place.offset in
    let from = covered.0 in
    let to = covered.1 in
    let left = length-drop place.offset octets in
    let long : length (take n (drop place.offset octets)) ≡ n = length-take-le n (drop place.offset octets) (omega (arith, left)) in
    elim (cases_lt i n) as (λ _. get_or (value_in octets place ++ status_in octets place ∷ []) i 0 ≡ get_or octets k 0) [
      | inl below ↦
          let here : place.offset + i ≡ k = omega arith in
          get_or_append_left (take n (drop place.offset octets)) (status_in octets place ∷ []) 0 i (omega (arith, long, below))
          ∙ (get_or-take n (drop place.offset octets) i 0 below
          ∙ (get_or-drop place.offset octets i 0 ∙ ap (λ (j : ℕ). get_or octets j 0) here))
      | inr above ↦
          let here : place.offset + n ≡ k = omega (arith, above) in
          let last : i - n ≡ 0 = omega arith in
          get_or-append_right (take n (drop place.offset octets)) (status_in octets place ∷ []) n i 0 long above
          ∙ (ap (λ (j : ℕ). get_or (status_in octets place ∷ []) j 0) last ∙ ap (λ (j : ℕ). get_or octets j 0) here)
    ]

octet_is : (octets : List ℕ) (k n : ℕ) (places : List Place) → AllByRecursion (IsInside n) places → n ≤ length octets
    → (AllByRecursion (λ place. Covers place k → ⊥) places → get_or octets k 0 ≡ 0) → octet_at (map (cell_of octets) places) k ≡ get_or octets k 0
octet_is octets k n [] inside fits zeros = sym (zeros tt)
octet_is octets k n (place ∷ places) inside fits zeros =
    elim (cases_Bool (is_covered place k)) [
      | inl t ↦ rw t (cell_octet octets place k (covers_of place k t) (omega (arith, inside.0)))
      | inr f ↦ rw f (octet_is octets k n places inside.1 fits (λ off. zeros (off_of place k f, off)))
    ]

pub octets_are : (n : ℕ) (places : List Place) (octets : List ℕ) (old : Shown) → ◌≡◌ {A = Shown} (record { data_length = n; cells = map (cell_of octets) places }) old
    → IsImage n places octets → take n octets ≡ octets_of old
unfolding octets_of
octets_are n places octets old is image =
    let cells : List Cell = map (cell_of octets) places in
    let fits : n ≤ length octets = omega (arith, image.table.short, image.size) in
    let long = length-take-le n octets fits in
    let as_many = length-map-range_with_len (octet_at cells) 0 n in
    ext_get_or 0 (take n octets) (map (octet_at cells) (range_with_len 0 n)) (omega (arith, long, as_many))
    (λ i below.
    let few : i < n = omega (arith, long, below) in
    let here : 0 + i ≡ i = omega arith in
    get_or-take n octets i 0 few
    ∙ (sym (octet_is octets i n places image.table.inside fits (image.zeros i))
    ∙ sym (get_or-map-range_with_len (octet_at cells) 0 n i i 0 few here)))
    ∙ ap (λ (s : Shown). octets_of s) is
