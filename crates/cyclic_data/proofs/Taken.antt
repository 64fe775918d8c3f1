-- The octets of an accepted frame, and what is read of them at a place.
use Rattle.std.proofs.Common.{◌≡◌, ℕ, ◌+◌, ◌-◌, ◌<◌, ◌≤◌, ◌++◌, true, List, [], ◌∷◌, length, take, drop, map, get_or, Option, Some, None, option_map, slice_range, Result, is_ok, refl, sym, ap, ◌∙◌, arith}
use Rattle.std.specs.Prelude.{OnOk}
use Rattle.std.specs.List.{AllByRecursion}
use Rattle.std.proofs.lemmas.List.{ext_get_or, length-take, length-drop, length-take-le, get_or-take, get_or-drop}
use Rattle.cyclic_data.specs.declared.place.PlaceKind.{PlaceKind}
use Rattle.cyclic_data.specs.declared.place.Place.{Place}
use Rattle.cyclic_data.specs.Layout.{Covers, IsInside, IsSolid}
use Rattle.cyclic_data.specs.Image.{Cell, Shown, value_in, status_in, cell_of, cell_at, place_at, with_frame}
use Rattle.cyclic_data.specs.Held.{IsReceived, IsWritten}
use Rattle.cyclic_data.proofs.Cells.{at_in, cell_is, cell_found}
use Rattle.cyclic_data.proofs.Checked.{on_ok_given}

-- ---- what is read

-- A fact about all places holds for the one that is found.
pub of_found : (P : Place → Type 0) (kind : PlaceKind) (slot subslot : ℕ) (places : List Place) (place : Place) → AllByRecursion P places
    → Some place ≡ place_at kind slot subslot places → P place
of_found P kind slot subslot places place all found = at_in P kind slot subslot places place all (sym found)

-- The slice of the data at a place.
pub slice_is : (octets : List ℕ) (place : Place) → slice_range octets place.offset (place.offset + (place.size - 1)) ≡ value_in octets place
slice_is octets place =
    let long : place.offset + (place.size - 1) - place.offset ≡ place.size - 1 = omega arith in
    ap (λ (n : ℕ). take n (drop place.offset octets)) long

pub value_read : (octets : List ℕ) (kind : PlaceKind) (slot subslot : ℕ) (places : List Place) (place : Place) (value : List ℕ)
    → value ≡ slice_range octets place.offset (place.offset + (place.size - 1)) → Some place ≡ place_at kind slot subslot places
    → ◌≡◌ {A = Option (List ℕ)} (Some value) (option_map (value_in octets) (place_at kind slot subslot places))
value_read octets kind slot subslot places place value is found =
    ap (λ (xs : List ℕ). let o : Option (List ℕ) = Some xs in o) (is ∙ slice_is octets place) ∙ ap (λ (o : Option Place). option_map (value_in octets) o) found

pub status_read : (octets : List ℕ) (kind : PlaceKind) (slot subslot : ℕ) (places : List Place) (place : Place) → IsSolid place
    → Some place ≡ place_at kind slot subslot places
    → ◌≡◌ {A = Option ℕ} (Some (get_or octets (place.offset + place.size - 1) 0)) (option_map (status_in octets) (place_at kind slot subslot places))
status_read octets kind slot subslot places place solid found =
    let here : place.offset + place.size - 1 ≡ place.offset + (place.size - 1) = omega arith in
    ap (λ (i : ℕ). let o : Option ℕ = Some (get_or octets i 0) in o) here ∙ ap (λ (o : Option Place). option_map (status_in octets) o) found

value_found : (octets : List ℕ) (kind : PlaceKind) (slot subslot : ℕ) (places : List Place) (n : ℕ) (old : Shown)
    → ◌≡◌ {A = Shown} (record { data_length = n; cells = map (cell_of octets) places }) old
    → option_map (value_in octets) (place_at kind slot subslot places) ≡ option_map (λ (cell : Cell). cell.value) (cell_at kind slot subslot old.cells)
value_found octets kind slot subslot places n old is =
    values (place_at kind slot subslot places)
    ∙ (ap (λ (o : Option Cell). option_map (λ (cell : Cell). cell.value) o) (sym (cell_found octets kind slot subslot places))
    ∙ ap (λ (s : Shown). option_map (λ (cell : Cell). cell.value) (cell_at kind slot subslot s.cells)) is)
  where
    values : (o : Option Place) → option_map (value_in octets) o ≡ option_map (λ (cell : Cell). cell.value) (option_map (cell_of octets) o)
    values None = refl
    values (Some place) = refl

pub value_seen : (octets : List ℕ) (kind : PlaceKind) (slot subslot : ℕ) (places slice : List Place) → slice ≡ places → (n : ℕ) (old : Shown)
    → ◌≡◌ {A = Shown} (record { data_length = n; cells = map (cell_of octets) places }) old
    → option_map (value_in octets) (place_at kind slot subslot slice) ≡ option_map (λ (cell : Cell). cell.value) (cell_at kind slot subslot old.cells)
value_seen octets kind slot subslot places slice same n old is =
    ap (λ (ps : List Place). option_map (value_in octets) (place_at kind slot subslot ps)) same ∙ value_found octets kind slot subslot places n old is

status_found : (octets : List ℕ) (kind : PlaceKind) (slot subslot : ℕ) (places : List Place) (n : ℕ) (old : Shown)
    → ◌≡◌ {A = Shown} (record { data_length = n; cells = map (cell_of octets) places }) old
    → option_map (status_in octets) (place_at kind slot subslot places) ≡ option_map (λ (cell : Cell). cell.status) (cell_at kind slot subslot old.cells)
status_found octets kind slot subslot places n old is =
    statuses (place_at kind slot subslot places)
    ∙ (ap (λ (o : Option Cell). option_map (λ (cell : Cell). cell.status) o) (sym (cell_found octets kind slot subslot places))
    ∙ ap (λ (s : Shown). option_map (λ (cell : Cell). cell.status) (cell_at kind slot subslot s.cells)) is)
  where
    statuses : (o : Option Place) → option_map (status_in octets) o ≡ option_map (λ (cell : Cell). cell.status) (option_map (cell_of octets) o)
    statuses None = refl
    statuses (Some place) = refl

pub status_seen : (octets : List ℕ) (kind : PlaceKind) (slot subslot : ℕ) (places slice : List Place) → slice ≡ places → (n : ℕ) (old : Shown)
    → ◌≡◌ {A = Shown} (record { data_length = n; cells = map (cell_of octets) places }) old
    → option_map (status_in octets) (place_at kind slot subslot slice) ≡ option_map (λ (cell : Cell). cell.status) (cell_at kind slot subslot old.cells)
status_seen octets kind slot subslot places slice same n old is =
    ap (λ (ps : List Place). option_map (status_in octets) (place_at kind slot subslot ps)) same ∙ status_found octets kind slot subslot places n old is

-- The places of a layout are copied.
pub places_kept : {T E : Type 0} (places old new slice : List Place) (r : Result T E) → old ≡ [] → slice ≡ places → length slice ≤ 128
    → (length old + length slice ≤ 128 → is_ok r ≡ true) → OnOk r (new ≡ old ++ slice) → new ≡ places
places_kept places old new slice r none same few fits ok =
    let room : length old + length slice ≤ 128 = omega (arith, few, ap (λ (ps : List Place). length ps) none) in
    on_ok_given r (fits room) ok ∙ (ap (λ (ps : List Place). ps ++ slice) none ∙ same)

-- Places that end in a frame end in the octets of the longest frame.
pub inside_longest : (n : ℕ) (octets : List ℕ) (places : List Place) → n ≤ 1440 → length octets ≡ 1440 → AllByRecursion (IsInside n) places
    → AllByRecursion (IsInside (length octets)) places
inside_longest n octets [] short size inside = tt
inside_longest n octets (place ∷ places) short size inside = (omega (arith, inside.0, size), inside_longest n octets places short size inside.1)

-- ---- accepted frames

-- A cell reads the same in two frames if each of its octets does.
cell_alike : (one other : List ℕ) (place : Place) → IsSolid place → place.offset + place.size ≤ length one → place.offset + place.size ≤ length other
    → ((k : ℕ) → Covers place k → get_or one k 0 ≡ get_or other k 0) → cell_of one place ≡ cell_of other place
cell_alike one other place solid inside inside' same =
    let n : ℕ = place.size - 1 in
    let long = length-take n (drop place.offset one) in
    let long' = length-take n (drop place.offset other) in
    let left = length-drop place.offset one in
    let left' = length-drop place.offset other in
    cell_is place _ _ _ _
    (ext_get_or 0 (take n (drop place.offset one)) (take n (drop place.offset other)) (omega (arith, long, long', left, left'))
    (λ i below.
    let few : i < n = omega (arith, long, below) in
    get_or-take n (drop place.offset one) i 0 few ∙ (get_or-drop place.offset one i 0
    ∙ (same (place.offset + i) (omega arith, omega arith) ∙ sym (get_or-take n (drop place.offset other) i 0 few ∙ get_or-drop place.offset other i 0)))))
    (same (place.offset + n) (omega arith, omega arith))

module _ (n : ℕ) (old new frame : List ℕ) (written : IsWritten old new 0 (take n frame)) (fits : n ≤ length old) (whole : n ≤ length frame) where
  octet_taken : (k : ℕ) → k < n → get_or new k 0 ≡ get_or frame k 0
  octet_taken k below =
      let size : length (take n frame) ≡ n = length-take-le n frame whole in
      let here : 0 + k ≡ k = omega arith in
      ap (λ (i : ℕ). get_or new i 0) (sym here) ∙ (written.there k (omega (arith, size)) ∙ get_or-take n frame k 0 below)

  pub cells_taken : (places : List Place) → AllByRecursion (IsInside n) places → AllByRecursion IsSolid places
      → map (cell_of new) places ≡ map (λ (cell : Cell). cell_of frame cell.place) (map (cell_of old) places)
  cells_taken [] inside solid = refl
  cells_taken (place ∷ places) inside solid =
      let size = written.size in
      let head = cell_alike new frame place solid.0 (omega (arith, inside.0, size)) (omega (arith, inside.0)) (λ k covered. octet_taken k (omega (arith, inside.0, covered.1))) in
      ap (λ (c : Cell). c ∷ map (cell_of new) places) head ∙ ap (λ (cs : List Cell). cell_of frame place ∷ cs) (cells_taken places inside.1 solid.1)

pub state_taken : (n : ℕ) (places : List Place) (octets new frame value : List ℕ) (old : Shown)
    → ◌≡◌ {A = Shown} (record { data_length = n; cells = map (cell_of octets) places }) old → IsReceived n places octets
    → IsWritten octets new 0 value → value ≡ take n frame → n ≤ length frame
    → ◌≡◌ {A = Shown} (record { data_length = n; cells = map (cell_of new) places }) (with_frame frame old)
state_taken n places octets new frame value old is image written front whole =
    let written' : IsWritten octets new 0 (take n frame) = record {
      size = written.size;
      there = λ k below. written.there k (omega (arith, below, ap (λ (xs : List ℕ). length xs) front)) ∙ ap (λ (xs : List ℕ). get_or xs k 0) front;
      below = written.below;
      above = λ k le. written.above k (omega (arith, le, ap (λ (xs : List ℕ). length xs) front));
    } in
    ap (λ (cs : List Cell). let s : Shown = record { data_length = n; cells = cs } in s)
    (cells_taken n octets new frame written' (omega (arith, image.table.short, image.size)) whole places image.table.inside image.table.solid)
    ∙ ap (λ (s : Shown). with_frame frame s) is

pub received_after : (n : ℕ) (places : List Place) (octets new value : List ℕ) → IsReceived n places octets → IsWritten octets new 0 value → IsReceived n places new
received_after n places octets new value image written = record { table = image.table; size = written.size ∙ image.size }
