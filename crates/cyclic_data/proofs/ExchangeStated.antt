-- The statuses of an image, place by place.
use Rattle.std.proofs.Common.{◌≡◌, inl, inr, ◌+◌, ℕ, ◌==◌, ◌&&◌, ◌||◌, Bool, true, false, List, [], ◌∷◌, drop, map, Some, is_some, slice_get, refl, sym, ap, ◌∙◌, if◌then◌else◌}
use Rattle.std.specs.List.{AllByRecursion}
use Rattle.std.proofs.lemmas.Bool.{cases_Bool, and_parts, and_from, eqb-true, eq-eqb, true≢false, false≢true}
use Rattle.cyclic_data.specs.declared.place.PlaceKind.{PlaceKind}
use Rattle.cyclic_data.specs.declared.place.PlaceKind.TheVariants.{Data, Iocs}
use Rattle.cyclic_data.specs.declared.place.Place.{Place}
use Rattle.cyclic_data.specs.Image.{Cell, Shown, cell_at, changed, changed_in, with_status, zero_cell}
use Rattle.cyclic_data.specs.Layout.{Table, is_of, is_same_kind}
use Rattle.cyclic_data.proofs.Checked.{drop_read}
use Rattle.cyclic_data.specs.exchange.Opening.{StatusOf, first_cell, first_shown, first_taken, stated as all_stated_of, stated_cell}

-- ---- places of a kind and submodule

kind_itself : (kind : PlaceKind) → is_same_kind kind kind ≡ true
kind_itself Data = refl
kind_itself Iocs = refl

of_itself : (place : Place) → is_of place.kind place.slot place.subslot place ≡ true
of_itself place =
    and_from _ _ (kind_itself place.kind) (and_from _ _ (eq-eqb place.slot place.slot refl) (eq-eqb place.subslot place.subslot refl))

same_kind : (one other : PlaceKind) → is_same_kind one other ≡ true → one ≡ other
same_kind Data Data h = refl
same_kind Data Iocs h = absurd (false≢true h)
same_kind Iocs Data h = absurd (false≢true h)
same_kind Iocs Iocs h = refl

of_parts : (kind : PlaceKind) (slot subslot : ℕ) (place : Place) → is_of kind slot subslot place ≡ true
    → (kind ≡ place.kind) × (slot ≡ place.slot) × (subslot ≡ place.subslot)
of_parts kind slot subslot place h =
    let all = and_parts (is_same_kind kind place.kind) ((place.slot == slot) && (place.subslot == subslot)) h in
    let two = and_parts (place.slot == slot) (place.subslot == subslot) all.1 in
    (same_kind kind place.kind all.0, sym (eqb-true place.slot slot two.0), sym (eqb-true place.subslot subslot two.1))

-- If no cell has this kind and submodule, none is changed.
pub none_changed : (kind : PlaceKind) (slot subslot : ℕ) (change : Cell → Cell) (cells : List Cell) → is_some (cell_at kind slot subslot cells) ≡ false
    → cells ≡ map (changed_in kind slot subslot change) cells
none_changed kind slot subslot change [] none = refl
none_changed kind slot subslot change (cell ∷ cells) none =
    elim (cases_Bool (is_of kind slot subslot cell.place)) [
      | inl t ↦ absurd (true≢false (sym (ap (λ (b : Bool). is_some (if b then Some cell else cell_at kind slot subslot cells)) t) ∙ none))
      | inr t ↦
          let behind = sym (ap (λ (b : Bool). is_some (if b then Some cell else cell_at kind slot subslot cells)) t) ∙ none in
          rw t (ap (λ (xs : List Cell). cell ∷ xs) (none_changed kind slot subslot change cells behind))
    ]

-- The places of cells.
abbrev pub places_of : List Cell → List Place
places_of cells = map (λ cell. cell.place) cells

module _ (statuses : StatusOf) where
  -- An image in which the cell of a place has its status.
  abbrev pub with_state : Place → Shown → Shown
  with_state place shown =
      if is_some (cell_at place.kind place.slot place.subslot shown.cells)
      then changed place.kind place.slot place.subslot (with_status (statuses place.kind place.slot place.subslot)) shown
      else shown

  -- Place by place.
  abbrev pub stated : List Place → Shown → Shown
  stated [] shown = shown
  stated (place ∷ places) shown = stated places (with_state place shown)

  -- The same for one cell.
  abbrev turned : Place → Cell → Cell
  turned place cell = changed_in place.kind place.slot place.subslot (with_status (statuses place.kind place.slot place.subslot)) cell

  abbrev turned_all : List Place → Cell → Cell
  turned_all [] cell = cell
  turned_all (place ∷ places) cell = turned_all places (turned place cell)

  abbrev shown_by : ℕ → List Cell → Shown
  shown_by n cells = record { data_length = n; cells = cells }

  one_stated : (place : Place) (n : ℕ) (cells : List Cell) → with_state place (shown_by n cells) ≡ shown_by n (map (turned place) cells)
  one_stated place n cells =
      elim (cases_Bool (is_some (cell_at place.kind place.slot place.subslot cells))) [
        | inl t ↦ rw t refl
        | inr t ↦ rw t (ap (shown_by n)
            (none_changed place.kind place.slot place.subslot (with_status (statuses place.kind place.slot place.subslot)) cells t))
      ]

  map_same : (cells : List Cell) → cells ≡ map (λ (cell : Cell). cell) cells
  map_same [] = refl
  map_same (cell ∷ cells) = ap (λ (xs : List Cell). cell ∷ xs) (map_same cells)

  map_twice : (place : Place) (places : List Place) (cells : List Cell)
      → map (turned_all places) (map (turned place) cells) ≡ map (turned_all (place ∷ places)) cells
  map_twice place places [] = refl
  map_twice place places (cell ∷ cells) = ap (λ (xs : List Cell). turned_all (place ∷ places) cell ∷ xs) (map_twice place places cells)

  all_stated : (places : List Place) (n : ℕ) (cells : List Cell) → stated places (shown_by n cells) ≡ shown_by n (map (turned_all places) cells)
  all_stated [] n cells = ap (shown_by n) (map_same cells)
  all_stated (place ∷ places) n cells =
      ap (stated places) (one_stated place n cells)
      ∙ (all_stated places n (map (turned place) cells) ∙ ap (shown_by n) (map_twice place places cells))

  -- A cell with its status keeps it.
  abbrev cell_with : Place → List ℕ → ℕ → Cell
  cell_with place value status = record { place = place; value = value; status = status }

  turned_to : (place : Place) (other : Place) (value : List ℕ) (status : ℕ) → is_of place.kind place.slot place.subslot other ≡ true
      → turned place (cell_with other value status) ≡ cell_with other value (statuses other.kind other.slot other.subslot)
  turned_to place other value status t =
      let parts = of_parts place.kind place.slot place.subslot other t in
      rw t (ap (λ (kind : PlaceKind). cell_with other value (statuses kind place.slot place.subslot)) parts.0
      ∙ (ap (λ (slot : ℕ). cell_with other value (statuses other.kind slot place.subslot)) parts.1
      ∙ ap (λ (subslot : ℕ). cell_with other value (statuses other.kind other.slot subslot)) parts.2))

  settled : (places : List Place) (other : Place) (value : List ℕ)
      → turned_all places (cell_with other value (statuses other.kind other.slot other.subslot)) ≡ cell_with other value (statuses other.kind other.slot other.subslot)
  settled [] other value = refl
  settled (place ∷ places) other value =
      elim (cases_Bool (is_of place.kind place.slot place.subslot other)) [
        | inl t ↦ ap (turned_all places) (turned_to place other value (statuses other.kind other.slot other.subslot) t) ∙ settled places other value
        | inr t ↦ rw t (settled places other value)
      ]

  -- A cell whose place is among the places gets its status.
  abbrev is_among : List Place → Place → Bool
  is_among [] other = false
  is_among (place ∷ places) other = is_of place.kind place.slot place.subslot other || is_among places other

  gets : (places : List Place) (other : Place) (value : List ℕ) (status : ℕ) → is_among places other ≡ true
      → turned_all places (cell_with other value status) ≡ cell_with other value (statuses other.kind other.slot other.subslot)
  gets [] other value status among = absurd (false≢true among)
  gets (place ∷ places) other value status among =
      elim (cases_Bool (is_of place.kind place.slot place.subslot other)) [
        | inl t ↦ ap (turned_all places) (turned_to place other value status t) ∙ settled places other value
        | inr t ↦ rw t (gets places other value status (sym (ap (λ (b : Bool). b || is_among places other) t) ∙ among))
      ]

  among_more : (place : Place) (places : List Place) (cells : List Cell) → AllByRecursion (λ cell. is_among places cell.place ≡ true) cells
      → AllByRecursion (λ cell. is_among (place ∷ places) cell.place ≡ true) cells
  among_more place places [] all = tt
  among_more place places (cell ∷ cells) all =
      let here : is_among (place ∷ places) cell.place ≡ true =
      elim (cases_Bool (is_of place.kind place.slot place.subslot cell.place)) [ inl t ↦ rw t refl | inr t ↦ rw t all.0 ] in
      (here, among_more place places cells all.1)

  all_among : (cells : List Cell) → AllByRecursion (λ cell. is_among (places_of cells) cell.place ≡ true) cells
  all_among [] = tt
  all_among (cell ∷ cells) =
      let here : is_among (places_of (cell ∷ cells)) cell.place ≡ true = rw (of_itself cell.place) refl in
      (here, among_more cell.place (places_of cells) cells (all_among cells))

  each_gets : (places : List Place) (cells : List Cell) → AllByRecursion (λ cell. is_among places cell.place ≡ true) cells
      → map (turned_all places) cells ≡ map (stated_cell statuses) cells
  each_gets places [] all = refl
  each_gets places (cell ∷ cells) all =
      ap (λ (one : Cell). one ∷ map (turned_all places) cells) (gets places cell.place cell.value cell.status all.0)
      ∙ ap (λ (ones : List Cell). stated_cell statuses cell ∷ ones) (each_gets places cells all.1)

  statuses_are : (shown : Shown) → stated (places_of shown.cells) shown ≡ all_stated_of statuses shown
  statuses_are shown =
      all_stated (places_of shown.cells) shown.data_length shown.cells
      ∙ ap (shown_by shown.data_length) (each_gets (places_of shown.cells) shown.cells (all_among shown.cells))

  -- If no place remains.
  pub none_left : (first : Shown) (left : List Place) (image : Shown) → left ≡ [] → stated left image ≡ stated (places_of first.cells) first
      → image ≡ all_stated_of statuses first
  none_left first left image none same = sym (ap (λ (places : List Place). stated places image) none) ∙ (same ∙ statuses_are first)

  -- A status leaves the places as they are.
  places_changed : (place : Place) (cells : List Cell) → places_of (map (turned place) cells) ≡ places_of cells
  places_changed place [] = refl
  places_changed place (cell ∷ cells) =
      let here : ◌≡◌ {A = Place} (turned place cell).place cell.place =
      elim (cases_Bool (is_of place.kind place.slot place.subslot cell.place)) [ inl t ↦ rw t refl | inr t ↦ rw t refl ] in
      ap (λ (one : Place). one ∷ places_of (map (turned place) cells)) here
      ∙ ap (λ (ones : List Place). cell.place ∷ ones) (places_changed place cells)

  pub places_kept : (place : Place) (shown : Shown) → places_of (with_state place shown).cells ≡ places_of shown.cells
  places_kept place shown =
      elim (cases_Bool (is_some (cell_at place.kind place.slot place.subslot shown.cells))) [
        | inl t ↦ rw t (places_changed place shown.cells)
        | inr t ↦ rw t refl
      ]

  -- The status of a place is set, if there is such a place.
  pub status_set : (image next : Shown) (place : Place) (status : ℕ) (done : Bool) → status ≡ statuses place.kind place.slot place.subslot
      → done ≡ is_some (cell_at place.kind place.slot place.subslot image.cells)
      → next ≡ (if done then changed place.kind place.slot place.subslot (with_status status) image else image)
      → next ≡ with_state place image
  status_set image next place status done read found set =
      set
      ∙ (ap (λ (b : Bool). if b then changed place.kind place.slot place.subslot (with_status status) image else image) found
      ∙ ap (λ (n : ℕ). if is_some (cell_at place.kind place.slot place.subslot image.cells)
      then changed place.kind place.slot place.subslot (with_status n) image else image) read)

  -- The place that is next is the first of those that remain.
  pub one_more : (places : List Place) (index : ℕ) (place : Place) (image next last : Shown) → slice_get places index ≡ Some place
      → next ≡ with_state place image → stated (drop index places) image ≡ last → stated (drop (index + 1) places) next ≡ last
  one_more places index place image next last read set rest =
      ap (λ (shown : Shown). stated (drop (index + 1) places) shown) set
      ∙ (ap (λ (left : List Place). stated left image) (sym (drop_read places index place read)) ∙ rest)

  -- The first image is the one of zeros with its statuses.
  each_first : (places : List Place) → map (stated_cell statuses) (map zero_cell places) ≡ map (first_cell statuses) places
  each_first [] = refl
  each_first (place ∷ places) = ap (λ (cells : List Cell). first_cell statuses place ∷ cells) (each_first places)

  pub first_stated : (layout : Table) → all_stated_of statuses (first_taken layout) ≡ first_shown statuses layout
  first_stated layout = ap (shown_by layout.data_length) (each_first layout.places)
