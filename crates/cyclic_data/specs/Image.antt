-- Images of cyclic data: the content of the frames of a layout, place by place.
use Rattle.std.specs.Prelude.{◌≡◌, ◌+◌, ◌-◌, ◌<◌, ◌==◌, ◌&&◌, ◌++◌, ℕ, Bool, false, nat_le, nat_lt, List, [], ◌∷◌, length, map, take, drop, get_or, replicate, Option, Some, None, if◌then◌else◌}
use Rattle.std.specs.List.{AllByRecursion, range_with_len}
use Rattle.cyclic_data.specs.declared.place.PlaceKind.{PlaceKind}
use Rattle.cyclic_data.specs.declared.place.Place.{Place}
use Rattle.cyclic_data.specs.Layout.{Covers, is_of}

-- The content of a place: its data, which is empty for an IOCS, and the status after it, the IOPS or the IOCS.
pub record Cell : Type 0 where
  pub place : Place
  pub value : List ℕ
  pub status : ℕ

-- An image: a cell for each place.
pub record Shown : Type 0 where
  pub data_length : ℕ
  pub cells : List Cell

-- The data that octets hold at a place; `status_in` is its status.
abbrev pub value_in : List ℕ → Place → List ℕ
value_in octets place = take (place.size - 1) (drop place.offset octets)

-- The status octet of a place in the data of a cyclic frame; 0 if the data is too short.
abbrev pub status_in : List ℕ → Place → ℕ
status_in octets place = get_or octets (place.offset + (place.size - 1)) 0

-- The value and the status of a place in the data of a cyclic frame.
abbrev pub cell_of : List ℕ → Place → Cell
cell_of octets place = record { place = place; value = value_in octets place; status = status_in octets place }

-- A cell to which nothing was written.
abbrev pub zero_cell : Place → Cell
zero_cell place = record { place = place; value = replicate (place.size - 1) 0; status = 0 }

-- The first place of a kind and submodule.
abbrev pub place_at : PlaceKind → ℕ → ℕ → List Place → Option Place
place_at kind slot subslot [] = None
place_at kind slot subslot (place ∷ places) = if is_of kind slot subslot place then Some place else place_at kind slot subslot places

-- The first cell of a kind and submodule.
abbrev pub cell_at : PlaceKind → ℕ → ℕ → List Cell → Option Cell
cell_at kind slot subslot [] = None
cell_at kind slot subslot (cell ∷ cells) = if is_of kind slot subslot cell.place then Some cell else cell_at kind slot subslot cells

-- An image in which the cell of a kind and submodule is changed, and each other cell is as it was.
abbrev pub changed_in : PlaceKind → ℕ → ℕ → (Cell → Cell) → Cell → Cell
changed_in kind slot subslot change cell = if is_of kind slot subslot cell.place then change cell else cell

-- The data to be sent with the cell of one submodule changed.
abbrev pub changed : PlaceKind → ℕ → ℕ → (Cell → Cell) → Shown → Shown
changed kind slot subslot change shown = record {
  data_length = shown.data_length;
  cells = map (changed_in kind slot subslot change) shown.cells;
}

-- A cell with other data; `with_status` gives it another status.
abbrev pub with_value : List ℕ → Cell → Cell
with_value value cell = record { place = cell.place; value = value; status = cell.status }

-- A cell with another status.
abbrev pub with_status : ℕ → Cell → Cell
with_status status cell = record { place = cell.place; value = cell.value; status = status }

-- The image after a frame was accepted: each cell is what the octets hold at its place; octets outside all places are not
-- kept.
abbrev pub with_frame : List ℕ → Shown → Shown
with_frame octets shown = record { data_length = shown.data_length; cells = map (λ cell. cell_of octets cell.place) shown.cells }

-- The status of good data (IEC 61158-6-10, 4.7.2.1.1).
abbrev pub good : ℕ
good = 0x80

-- The output of a cell: its data, or as many zeros if its IOPS is not GOOD.
abbrev pub output_of : Cell → List ℕ
output_of cell = if cell.status == good then cell.value else replicate (length cell.value) 0

-- Whether a submodule has data of `size` octets there.
abbrev pub has_size : ℕ → Option Cell → Bool
has_size size None = false
has_size size (Some cell) = cell.place.size == size + 1

-- Whether a place covers an octet.
abbrev pub is_covered : Place → ℕ → Bool
is_covered place k = nat_le place.offset k && nat_lt k (place.offset + place.size)

-- An octet of a frame: that of the cell whose place covers it, or 0 if no place covers it.
abbrev pub octet_at : List Cell → ℕ → ℕ
octet_at [] k = 0
octet_at (cell ∷ cells) k =
    if is_covered cell.place k then get_or (cell.value ++ cell.status ∷ []) (k - cell.place.offset) 0 else octet_at cells k

-- The octets of a frame, as many as DataLength counts.
unfoldable pub octets_of : Shown → List ℕ
octets_of shown = map (octet_at shown.cells) (range_with_len 0 shown.data_length)

-- The octets of a frame as a relation: each cell is what they hold at its place.
abbrev pub AreHeld : List ℕ → List Cell → Type 0
AreHeld octets cells = AllByRecursion (λ cell. cell_of octets cell.place ≡ cell) cells

-- An octet that no place covers.
abbrev pub IsOff : List Cell → ℕ → Type 0
IsOff cells k = AllByRecursion (λ cell. Covers cell.place k → ⊥) cells

-- These octets are the data of a frame: its length, each cell at its place, and zeros between them.
pub record IsFrame (shown : Shown) (octets : List ℕ) : Type 0 where
  pub size : length octets ≡ shown.data_length
  pub held : AreHeld octets shown.cells
  pub zeros : (k : ℕ) → k < shown.data_length → IsOff shown.cells k → get_or octets k 0 ≡ 0
