-- Cells of an image, and the effect of writing octets.
use Rattle.std.proofs.Common.{◌≡◌, inl, inr, ℕ, ◌+◌, ◌-◌, ◌<◌, ◌≤◌, ◌++◌, Bool, cond, List, [], ◌∷◌, length, take, drop, map, get_or, replicate, Option, Some, None, option_map, refl, sym, ap, subst, ◌∙◌, arith}
use Rattle.std.specs.List.{AllByRecursion}
use Rattle.std.proofs.lemmas.Bool.{cases_Bool, cases_lt}
use Rattle.std.proofs.lemmas.List.{ext_get_or, length-append, length-take, length-drop, length-take-le, get_or-take, get_or-drop, get_or-append_right, get_or_append_left, get_or-replicate, get_or_past, drop-replicate, take-replicate, length-replicate, length-map}
use borrow.Rule.Slice.PartMut.{put_mid, post_of}
use Rattle.cyclic_data.specs.declared.place.PlaceKind.{PlaceKind}
use Rattle.cyclic_data.specs.declared.place.Place.{Place}
use Rattle.cyclic_data.specs.Layout.{Covers, AreApart, AreAllApart, IsSolid, IsInside, is_of, times_listed}
use Rattle.cyclic_data.specs.Image.{Cell, Shown, cell_of, zero_cell, place_at, cell_at, changed_in, changed, with_value, with_status}
use Rattle.cyclic_data.specs.Held.{IsImage, IsWritten}
use Rattle.cyclic_data.proofs.Known.{cond_cases}

-- A slice reads the same if each of its octets does.
slice_same : (old new : List ℕ) (offset n : ℕ) → length new ≡ length old
    → ((k : ℕ) → offset ≤ k → k < offset + n → get_or new k 0 ≡ get_or old k 0) → take n (drop offset new) ≡ take n (drop offset old)
slice_same old new offset n size same =
    let long = length-take n (drop offset new) in
    let long' = length-take n (drop offset old) in
    let left = length-drop offset new in
    let left' = length-drop offset old in
    ext_get_or 0 (take n (drop offset new)) (take n (drop offset old)) (omega (arith, long, long', left, left', size))
    (λ i below.
    let few : i < n = omega (arith, long, below) in
    get_or-take n (drop offset new) i 0 few ∙ (get_or-drop offset new i 0
    ∙ (same (offset + i) (omega arith) (omega arith) ∙ sym (get_or-take n (drop offset old) i 0 few ∙ get_or-drop offset old i 0))))

pub cell_is : (place : Place) (value value' : List ℕ) (status status' : ℕ) → value ≡ value' → status ≡ status'
    → ◌≡◌ {A = Cell} (record { place = place; value = value; status = status }) (record { place = place; value = value'; status = status' })
cell_is place value value' status status' v s =
    ap (λ (x : List ℕ). let c : Cell = record { place = place; value = x; status = status } in c) v
    ∙ ap (λ (x : ℕ). let c : Cell = record { place = place; value = value'; status = x } in c) s

-- A cell reads the same if each of its octets does.
pub cell_same : (old new : List ℕ) (place : Place) → IsSolid place → length new ≡ length old
    → ((k : ℕ) → Covers place k → get_or new k 0 ≡ get_or old k 0) → cell_of new place ≡ cell_of old place
cell_same old new place solid size same =
    cell_is place _ _ _ _
    (slice_same old new place.offset (place.size - 1) size (λ k from to. same k (from, omega arith)))
    (same (place.offset + (place.size - 1)) (omega arith, omega arith))

-- A fact about all places holds for the one that is found.
pub at_in : (P : Place → Type 0) (kind : PlaceKind) (slot subslot : ℕ) (places : List Place) (place : Place) → AllByRecursion P places
    → place_at kind slot subslot places ≡ Some place → P place
at_in P kind slot subslot [] place all h = let e : ◌≡◌ {A = Option Place} None (Some place) = h in cc
at_in P kind slot subslot (one ∷ places) place all h =
    elim (cond_cases (is_of kind slot subslot one) (Some one) (place_at kind slot subslot places) (Some place) h) [
      | inl w ↦ let s : ◌≡◌ {A = Option Place} (Some one) (Some place) = w.1 in let e : one ≡ place = cc in subst P e all.0
      | inr w ↦ at_in P kind slot subslot places place all.1 w.1
    ]

pub cell_found : (octets : List ℕ) (kind : PlaceKind) (slot subslot : ℕ) (places : List Place)
    → cell_at kind slot subslot (map (cell_of octets) places) ≡ option_map (cell_of octets) (place_at kind slot subslot places)
cell_found octets kind slot subslot [] = refl
cell_found octets kind slot subslot (place ∷ places) =
    elim (cases_Bool (is_of kind slot subslot place)) [ inl t ↦ rw t refl | inr t ↦ rw t (cell_found octets kind slot subslot places) ]

module _ (kind : PlaceKind) (slot subslot : ℕ) (change : Cell → Cell) (old new : List ℕ) (size : length new ≡ length old) where
  -- Places of other submodules that do not overlap what was written read the same.
  map_same : (place : Place) (places : List Place) → ((k : ℕ) → (Covers place k → ⊥) → get_or new k 0 ≡ get_or old k 0) → AllByRecursion (AreApart place) places
      → AllByRecursion IsSolid places → times_listed kind slot subslot places ≤ 0
      → map (cell_of new) places ≡ map (changed_in kind slot subslot change) (map (cell_of old) places)
  map_same place [] elsewhere apart solid none = refl
  map_same place (other ∷ places) elsewhere apart solid none =
      elim (cases_Bool (is_of kind slot subslot other)) [
        | inl t ↦ let c : ◌≡◌ {A = ℕ} (cond (is_of kind slot subslot other) 1 0) 1 = ap (λ (b : Bool). let n : ℕ = cond b 1 0 in n) t in absurd (omega arith)
        | inr t ↦
            let here = cell_same old new other solid.0 size (λ k in_other. elsewhere k (λ in_place. apart.0 k in_place in_other)) in
            let rest = map_same place places elsewhere apart.1 solid.1 (omega arith) in
            rw t (ap (λ (x : Cell). x ∷ map (cell_of new) places) here ∙ ap (λ (xs : List Cell). cell_of old other ∷ xs) rest)
      ]

  -- If one place is written, only its cell changes.
  pub map_changed : (places : List Place) (place : Place) → ((k : ℕ) → (Covers place k → ⊥) → get_or new k 0 ≡ get_or old k 0)
      → cell_of new place ≡ change (cell_of old place) → AreAllApart places → AllByRecursion IsSolid places → times_listed kind slot subslot places ≤ 1
      → place_at kind slot subslot places ≡ Some place
      → map (cell_of new) places ≡ map (changed_in kind slot subslot change) (map (cell_of old) places)
  map_changed [] place elsewhere here apart solid once h = refl
  map_changed (other ∷ places) place elsewhere here apart solid once h =
      elim (cond_cases (is_of kind slot subslot other) (Some other) (place_at kind slot subslot places) (Some place) h) [
        | inl w ↦
            let s : ◌≡◌ {A = Option Place} (Some other) (Some place) = w.1 in
            let e : other ≡ place = cc in
            let c : ◌≡◌ {A = ℕ} (cond (is_of kind slot subslot other) 1 0) 1 = ap (λ (b : Bool). let n : ℕ = cond b 1 0 in n) w.0 in
            let head : cell_of new other ≡ change (cell_of old other) = subst (λ (p : Place). cell_of new p ≡ change (cell_of old p)) (sym e) here in
            let rest = map_same other places (λ k off. elsewhere k (subst (λ (p : Place). Covers p k → ⊥) e off)) apart.0 solid.1 (omega arith) in
            rw w.0 (ap (λ (x : Cell). x ∷ map (cell_of new) places) head ∙ ap (λ (xs : List Cell). change (cell_of old other) ∷ xs) rest)
        | inr w ↦
            let c : ◌≡◌ {A = ℕ} (cond (is_of kind slot subslot other) 1 0) 0 = ap (λ (b : Bool). let n : ℕ = cond b 1 0 in n) w.0 in
            let away = at_in (AreApart other) kind slot subslot places place apart.0 w.1 in
            let head = cell_same old new other solid.0 size (λ k in_other. elsewhere k (λ in_place. away k in_other in_place)) in
            let rest = map_changed places place elsewhere here apart.1 solid.1 (omega arith) w.1 in
            rw w.0 (ap (λ (x : Cell). x ∷ map (cell_of new) places) head ∙ ap (λ (xs : List Cell). cell_of old other ∷ xs) rest)
      ]

-- ---- the octets that are written

pub mid_written : (old value part : List ℕ) (start n : ℕ) → n ≡ length value → part ≡ value → start + length value ≤ length old
    → IsWritten old (put_mid start n old part) start value
mid_written old value part start n long is fits =
    let front : length (take start old) ≡ start = length-take-le start old (omega arith) in
    let size : length part ≡ length value = ap (λ (xs : List ℕ). length xs) is in
    record {
      size = omega (arith, length-append (take start old) (part ++ post_of start n old), length-append part (post_of start n old), length-drop n (drop start old), length-drop start old, front, size);
      there = λ k below.
          let here : start + k - start ≡ k = omega arith in
          get_or-append_right (take start old) (part ++ post_of start n old) start (start + k) 0 front (omega arith)
          ∙ (get_or_append_left part (post_of start n old) 0 (start + k - start) (omega arith)
          ∙ (ap (λ (xs : List ℕ). get_or xs (start + k - start) 0) is ∙ ap (λ (i : ℕ). get_or value i 0) here));
      below = λ k lt. get_or_append_left (take start old) (part ++ post_of start n old) 0 k (omega arith) ∙ get_or-take start old k 0 lt;
      above = λ k le.
          let here : start + (n + (k - start - length value)) ≡ k = omega arith in
          get_or-append_right (take start old) (part ++ post_of start n old) start k 0 front (omega arith)
          ∙ (get_or-append_right part (post_of start n old) (length value) (k - start) 0 size (omega arith)
          ∙ (get_or-drop n (drop start old) (k - start - length value) 0
          ∙ (get_or-drop start old (n + (k - start - length value)) 0 ∙ ap (λ (i : ℕ). get_or old i 0) here)));
    }

-- Octets outside the written place read the same.
written_elsewhere : (old new value : List ℕ) (start : ℕ) (place : Place) → IsWritten old new start value → place.offset ≤ start
    → start + length value ≤ place.offset + place.size → (k : ℕ) → (Covers place k → ⊥) → get_or new k 0 ≡ get_or old k 0
written_elsewhere old new value start place written from to k off =
    elim (cases_lt k start) as (λ _. get_or new k 0 ≡ get_or old k 0) [
      | inl below ↦ written.below k below
      | inr above ↦ elim (cases_lt k (start + length value)) as (λ _. get_or new k 0 ≡ get_or old k 0) [
        | inl inside ↦ absurd (off (omega arith, omega arith))
        | inr behind ↦ written.above k behind
      ]
    ]

-- Data is written to its place.
pub value_there : (old new value : List ℕ) (place : Place) → IsWritten old new place.offset value → place.size ≡ length value + 1
    → place.offset + place.size ≤ length old → cell_of new place ≡ with_value value (cell_of old place)
value_there old new value place written long inside =
    cell_is place _ _ _ _
    (ext_get_or 0 (take (place.size - 1) (drop place.offset new)) value
    (omega (arith, length-take (place.size - 1) (drop place.offset new), length-drop place.offset new, written.size))
    (λ i below.
    let few : i < place.size - 1 = omega (arith, length-take (place.size - 1) (drop place.offset new), below) in
    let less : i < length value = omega (arith, few, long) in
    get_or-take (place.size - 1) (drop place.offset new) i 0 few ∙ (get_or-drop place.offset new i 0 ∙ written.there i less)))
    (written.above (place.offset + (place.size - 1)) (omega arith))

-- A status is written after the data.
pub status_there : (old new : List ℕ) (status start : ℕ) (place : Place) → IsWritten old new start (status ∷ []) → start + 1 ≡ place.offset + place.size
    → 0 < place.size → cell_of new place ≡ with_status status (cell_of old place)
status_there old new status start place written here solid =
    let last : place.offset + (place.size - 1) ≡ start + 0 = omega arith in
    let one : 0 < length (status ∷ []) = omega arith in
    cell_is place _ _ _ _
    (slice_same old new place.offset (place.size - 1) written.size (λ k from to. written.below k (omega arith)))
    (ap (λ (i : ℕ). get_or new i 0) last ∙ written.there 0 one)

-- ---- an image

pub zero_cells : (n : ℕ) (places : List Place) → n ≤ 1440 → AllByRecursion (IsInside n) places → AllByRecursion IsSolid places
    → map (cell_of (replicate 1440 0)) places ≡ map zero_cell places
zero_cells n [] short inside solid = refl
zero_cells n (place ∷ places) short inside solid =
    let first : ◌≡◌ {A = List ℕ} (take (place.size - 1) (drop place.offset (replicate 1440 0))) (replicate (place.size - 1) 0) =
    ap (λ (xs : List ℕ). take (place.size - 1) xs) (drop-replicate {X = ℕ} place.offset 1440 0)
    ∙ take-replicate {X = ℕ} (place.size - 1) (1440 - place.offset) 0 (omega (arith, inside.0, solid.0)) in
    let last : ◌≡◌ {A = ℕ} (get_or (replicate 1440 0) (place.offset + (place.size - 1)) 0) 0 =
    get_or-replicate {A = ℕ} 1440 (place.offset + (place.size - 1)) 0 0 (omega (arith, inside.0, solid.0)) in
    ap (λ (c : Cell). c ∷ map (cell_of (replicate 1440 0)) places) (cell_is place _ _ _ _ first last)
    ∙ ap (λ (cs : List Cell). zero_cell place ∷ cs) (zero_cells n places short inside.1 solid.1)

pub zero_octets : (n k : ℕ) → ◌≡◌ {A = ℕ} (get_or (replicate n 0) k 0) 0
zero_octets n k =
    elim (cases_lt k n) as (λ _. ◌≡◌ {A = ℕ} (get_or (replicate n 0) k 0) 0) [
      | inl below ↦ get_or-replicate {A = ℕ} n k 0 0 below
      | inr above ↦ get_or_past {X = ℕ} (replicate n 0) k 0 (omega (arith, length-replicate {A = ℕ} n 0, above))
    ]

module _ (n : ℕ) (places : List Place) (octets : List ℕ) (old : Shown)
    (is : ◌≡◌ {A = Shown} (record { data_length = n; cells = map (cell_of octets) places }) old) (image : IsImage n places octets)
    (kind : PlaceKind) (slot subslot : ℕ) (slice : List Place) (same : slice ≡ places) where
  at_old : cell_at kind slot subslot old.cells ≡ option_map (cell_of octets) (place_at kind slot subslot places)
  at_old = ap (λ (s : Shown). cell_at kind slot subslot s.cells) (sym is) ∙ cell_found octets kind slot subslot places

  pub at_none : ◌≡◌ {A = Option Place} None (place_at kind slot subslot slice) → ◌≡◌ {A = Option Cell} (cell_at kind slot subslot old.cells) None
  at_none h =
      at_old ∙ ap (λ (o : Option Place). option_map (cell_of octets) o) (sym (h ∙ ap (λ (ps : List Place). place_at kind slot subslot ps) same))

  module _ (place : Place) (found : Some place ≡ place_at kind slot subslot slice) where
    found_in : place_at kind slot subslot places ≡ Some place
    found_in = sym (found ∙ ap (λ (ps : List Place). place_at kind slot subslot ps) same)

    pub at_some : cell_at kind slot subslot old.cells ≡ Some (cell_of octets place)
    at_some = at_old ∙ ap (λ (o : Option Place). option_map (cell_of octets) o) found_in

    pub inside_place : place.offset + place.size ≤ 1440
    inside_place = omega (arith, at_in (IsInside n) kind slot subslot places place image.table.inside found_in, image.table.short)

    pub solid_place : 0 < place.size
    solid_place = at_in IsSolid kind slot subslot places place image.table.solid found_in

    module _ (new : List ℕ) (start : ℕ) (value : List ℕ) (written : IsWritten octets new start value) (from : place.offset ≤ start)
        (to : start + length value ≤ place.offset + place.size) where
      pub image_after : IsImage n places new
      image_after = record {
        table = image.table;
        size = written.size ∙ image.size;
        zeros = λ k off. written_elsewhere octets new value start place written from to k (at_in (λ p. Covers p k → ⊥) kind slot subslot places place off found_in) ∙ image.zeros k off;
      }

      pub state_after : (change : Cell → Cell) → cell_of new place ≡ change (cell_of octets place)
          → ◌≡◌ {A = Shown} (record { data_length = n; cells = map (cell_of new) places }) (changed kind slot subslot change old)
      state_after change here =
          ap (λ (cs : List Cell). let s : Shown = record { data_length = n; cells = cs } in s)
          (map_changed kind slot subslot change octets new written.size places place (written_elsewhere octets new value start place written from to) here
          image.table.apart image.table.solid (image.table.once kind slot subslot) found_in)
          ∙ ap (λ (s : Shown). changed kind slot subslot change s) is

-- The places of cells at places are these places.
places_there : (octets : List ℕ) (places : List Place) → map (λ (cell : Cell). cell.place) (map (cell_of octets) places) ≡ places
places_there octets [] = refl
places_there octets (place ∷ places) = ap (λ (ones : List Place). place ∷ ones) (places_there octets places)

pub places_shown : (n : ℕ) (places : List Place) (octets : List ℕ) (old : Shown)
    → ◌≡◌ {A = Shown} (record { data_length = n; cells = map (cell_of octets) places }) old
    → map (λ (cell : Cell). cell.place) old.cells ≡ places
places_shown n places octets old is = ap (λ (s : Shown). map (λ (cell : Cell). cell.place) s.cells) (sym is) ∙ places_there octets places

pub count_shown : (n : ℕ) (places : List Place) (octets : List ℕ) (old : Shown)
    → ◌≡◌ {A = Shown} (record { data_length = n; cells = map (cell_of octets) places }) old → length old.cells ≡ length places
count_shown n places octets old is = ap (λ (s : Shown). length s.cells) (sym is) ∙ length-map places (cell_of octets)
