-- The octets of an image hold each of its cells, if its places are apart and inside.
use Rattle.std.proofs.Common.{◌≡◌, ℕ, ◌+◌, ◌-◌, ◌<◌, ◌++◌, Bool, true, false, cond, List, [], ◌∷◌, length, take, drop, map, get_or, nat_le, nat_lt, refl, sym, ap, ◌∙◌, arith}
use Rattle.std.specs.List.{AllByRecursion, range_with_len}
use Rattle.std.proofs.lemmas.Bool.{and_parts, and_from, leb-true, le-leb, ltb-true, lt-ltb}
use Rattle.std.proofs.lemmas.List.{ext_get_or, length-take-le, length-drop, get_or-take, get_or-drop, get_or_append_left, get_or-append_right}
use Rattle.std.proofs.lemmas.List.FromFn.{get_or-map-range_with_len, length-map-range_with_len}
use Rattle.cyclic_data.specs.declared.place.Place.{Place}
use Rattle.cyclic_data.specs.Layout.{AreAllApart, AreApart, Covers, IsInside, IsSolid}
use Rattle.cyclic_data.specs.Image.{Cell, Shown, cell_of, is_covered, octet_at, octets_of, value_in}

covers_of : (place : Place) (k : ℕ) → is_covered place k ≡ true → Covers place k
covers_of place k t =
    let p = and_parts (nat_le place.offset k) (nat_lt k (place.offset + place.size)) t in
    (leb-true place.offset k p.0, ltb-true k (place.offset + place.size) p.1)

covered_of : (place : Place) (k : ℕ) → Covers place k → is_covered place k ≡ true
covered_of place k covered =
    and_from (nat_le place.offset k) (nat_lt k (place.offset + place.size)) (le-leb place.offset k covered.0) (lt-ltb k (place.offset + place.size) covered.1)

uncovered_of : (place : Place) (k : ℕ) → (Covers place k → ⊥) → is_covered place k ≡ false
uncovered_of place k off = by_test (is_covered place k) refl
  where
    by_test : (b : Bool) → is_covered place k ≡ b → b ≡ false
    by_test true e = absurd (off (covers_of place k e))
    by_test false e = refl

-- the octet of a cell at an index
abbrev octet_in : Cell → ℕ → ℕ
octet_in cell k = get_or (cell.value ++ cell.status ∷ []) (k - cell.place.offset) 0

abbrev place_in : Cell → Place
place_in cell = cell.place

-- the octets of a cell lie at its place
abbrev IsLaid : List Cell → Cell → Type 0
IsLaid cells cell = (k : ℕ) → Covers cell.place k → octet_at cells k ≡ octet_in cell k

laid_more : (first : Cell) (all cells : List Cell) → AllByRecursion (AreApart first.place) (map place_in cells) → AllByRecursion (IsLaid all) cells → AllByRecursion (IsLaid (first ∷ all)) cells
laid_more first all [] apart laid = tt
laid_more first all (cell ∷ cells) apart laid = (
  λ k covered. ap (λ (b : Bool). cond b (octet_in first k) (octet_at all k)) (uncovered_of first.place k (λ other. apart.0 k other covered)) ∙ laid.0 k covered,
  laid_more first all cells apart.1 laid.1,
)

all_laid : (cells : List Cell) → AreAllApart (map place_in cells) → AllByRecursion (IsLaid cells) cells
all_laid [] apart = tt
all_laid (cell ∷ cells) apart = (
  λ k covered. ap (λ (b : Bool). cond b (octet_in cell k) (octet_at cells k)) (covered_of cell.place k covered),
  laid_more cell cells cells apart.0 (all_laid cells apart.1),
)

-- a cell whose value fills its place
abbrev pub IsFull : Cell → Type 0
IsFull cell = length cell.value ≡ cell.place.size - 1

same_cell : (place : Place) (one other : List ℕ) (status more : ℕ) → one ≡ other → status ≡ more
    → ◌≡◌ {A = Cell} (record { place = place; value = one; status = status }) (record { place = place; value = other; status = more })
same_cell place one other status more e f =
    ap (λ (xs : List ℕ). let c : Cell = record { place = place; value = xs; status = status } in c) e ∙ ap (λ (s : ℕ). let c : Cell = record { place = place; value = other; status = s } in c) f

module _ (n : ℕ) (all : List Cell) where
  abbrev octets : List ℕ
  octets = map (octet_at all) (range_with_len 0 n)

  octet_is : (k : ℕ) → k < n → get_or octets k 0 ≡ octet_at all k
  octet_is k few = let here : 0 + k ≡ k = omega arith in get_or-map-range_with_len (octet_at all) 0 n k k 0 few here

  cell_held : (cell : Cell) → IsLaid all cell → IsInside n cell.place → IsSolid cell.place → IsFull cell → cell_of octets cell.place ≡ cell
  cell_held cell laid inside solid full =
      let place = cell.place in
      let size : ℕ = place.size - 1 in
      let long = length-map-range_with_len (octet_at all) 0 n in
      let left = length-drop place.offset octets in
      let short : length (take size (drop place.offset octets)) ≡ size = length-take-le size (drop place.offset octets) (omega (arith, left, long, inside, solid)) in
      same_cell place (value_in octets place) cell.value (get_or octets (place.offset + size) 0) cell.status
      (ext_get_or 0 (value_in octets place) cell.value (short ∙ sym full) (λ i below.
      let few : i < size = omega (arith, short, below) in
      let at : (place.offset + i) - place.offset ≡ i = omega arith in
      get_or-take size (drop place.offset octets) i 0 few
      ∙ (get_or-drop place.offset octets i 0
      ∙ (octet_is (place.offset + i) (omega (arith, inside, few))
      ∙ (laid (place.offset + i) (omega arith, omega (arith, few))
      ∙ (ap (λ (j : ℕ). get_or (cell.value ++ cell.status ∷ []) j 0) at
      ∙ get_or_append_left cell.value (cell.status ∷ []) 0 i (omega (arith, full, few))))))))
      (let last : (place.offset + size) - place.offset ≡ size = omega arith in
      let none : size - size ≡ 0 = omega arith in
      octet_is (place.offset + size) (omega (arith, inside, solid))
      ∙ (laid (place.offset + size) (omega arith, omega (arith, solid))
      ∙ (ap (λ (j : ℕ). get_or (cell.value ++ cell.status ∷ []) j 0) last
      ∙ (get_or-append_right cell.value (cell.status ∷ []) size size 0 full (omega arith)
      ∙ ap (λ (j : ℕ). get_or (cell.status ∷ []) j 0) none))))

  cells_held : (cells : List Cell) → AllByRecursion (IsLaid all) cells → AllByRecursion (IsInside n) (map place_in cells) → AllByRecursion IsSolid (map place_in cells)
      → AllByRecursion IsFull cells → map (λ (cell : Cell). cell_of octets cell.place) cells ≡ cells
  cells_held [] laid inside solid full = refl
  cells_held (cell ∷ cells) laid inside solid full =
      ap (λ (c : Cell). c ∷ map (λ (other : Cell). cell_of octets other.place) cells) (cell_held cell laid.0 inside.0 solid.0 full.0)
      ∙ ap (λ (cs : List Cell). cell ∷ cs) (cells_held cells laid.1 inside.1 solid.1 full.1)

-- the cells in the octets of an image are its own
pub image_held : (shown : Shown) → AreAllApart (map (λ (cell : Cell). cell.place) shown.cells) → AllByRecursion (IsInside shown.data_length) (map (λ (cell : Cell). cell.place) shown.cells)
    → AllByRecursion IsSolid (map (λ (cell : Cell). cell.place) shown.cells) → AllByRecursion IsFull shown.cells
    → map (λ (cell : Cell). cell_of (octets_of shown) cell.place) shown.cells ≡ shown.cells
unfolding octets_of
image_held shown apart inside solid full = cells_held shown.data_length shown.cells shown.cells (all_laid shown.cells apart) inside solid full
