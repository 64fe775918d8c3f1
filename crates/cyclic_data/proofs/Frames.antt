-- The octets of a frame, as an image stores them.
use Rattle.std.proofs.Common.{◌≡◌, ℕ, ◌+◌, ◌-◌, ◌≤◌, List, [], ◌∷◌, length, take, drop, map, get_or, replicate, ap, subst, ◌∙◌, arith}
use Rattle.std.specs.List.{AllByRecursion}
use Rattle.std.proofs.lemmas.List.{length-take-le, length-replicate, get_or-take, take-take, drop-take}
use Rattle.cyclic_data.specs.declared.place.Place.{Place}
use Rattle.cyclic_data.specs.Layout.{Covers, IsSolid, IsInside, Table, IsTable}
use Rattle.cyclic_data.specs.Image.{Cell, Shown, cell_of, zero_cell, AreHeld, IsOff, IsFrame}
use Rattle.cyclic_data.specs.Held.{IsImage}
use Rattle.cyclic_data.proofs.Cells.{cell_is, zero_cells, zero_octets}

-- A slice of the first `n` octets is a slice of all octets.
slice_front : (n offset size : ℕ) (octets : List ℕ) → offset + size ≤ n → take size (drop offset (take n octets)) ≡ take size (drop offset octets)
slice_front n offset size octets inside =
    let whole : n ≡ offset + (n - offset) = omega arith in
    ap (λ (m : ℕ). take size (drop offset (take m octets))) whole
    ∙ (ap (λ (xs : List ℕ). take size xs) (drop-take offset (n - offset) octets) ∙ take-take size (n - offset) (drop offset octets) (omega arith))

held_front : (n : ℕ) (octets : List ℕ) (places : List Place) → AllByRecursion (IsInside n) places → AllByRecursion IsSolid places
    → AreHeld (take n octets) (map (cell_of octets) places)
held_front n octets [] inside solid = tt
held_front n octets (place ∷ places) inside solid = (
  cell_is place _ _ _ _ (slice_front n place.offset (place.size - 1) octets (omega (arith, inside.0)))
      (get_or-take n octets (place.offset + (place.size - 1)) 0 (omega (arith, inside.0, solid.0))),
  held_front n octets places inside.1 solid.1,
)

off_places : (octets : List ℕ) (k : ℕ) (places : List Place) → IsOff (map (cell_of octets) places) k → AllByRecursion (λ place. Covers place k → ⊥) places
off_places octets k [] off = tt
off_places octets k (place ∷ places) off = (off.0, off_places octets k places off.1)

pub frame_of : (n : ℕ) (places : List Place) (octets : List ℕ) (old : Shown) → ◌≡◌ {A = Shown} (record { data_length = n; cells = map (cell_of octets) places }) old
    → IsImage n places octets → IsFrame old (take n octets)
frame_of n places octets old is image =
    let frame : IsFrame (record { data_length = n; cells = map (cell_of octets) places }) (take n octets) = record {
      size = length-take-le n octets (omega (arith, image.table.short, image.size));
      held = held_front n octets places image.table.inside image.table.solid;
      zeros = λ k below off. get_or-take n octets k 0 below ∙ image.zeros k (off_places octets k places off);
    } in
    subst (λ (s : Shown). IsFrame s (take n octets)) is frame

pub new_image : (n : ℕ) (places : List Place) (octets : List ℕ) → ◌≡◌ {A = List ℕ} octets (replicate 1440 0) → IsTable n places → IsImage n places octets
new_image n places octets blank table = record {
  table = table;
  size = ap (λ (xs : List ℕ). length xs) blank ∙ length-replicate {A = ℕ} 1440 0;
  zeros = λ k off. ap (λ (xs : List ℕ). get_or xs k 0) blank ∙ zero_octets 1440 k;
}

-- A table with no places.
pub no_table : IsTable 0 []
no_table = record { short = omega arith; inside = tt; apart = tt; solid = tt; once = λ kind slot subslot. omega arith }

pub new_shown : (n : ℕ) (places : List Place) (octets : List ℕ) (layout : Table) → ◌≡◌ {A = Table} (record { data_length = n; places = places }) layout
    → ◌≡◌ {A = List ℕ} octets (replicate 1440 0) → IsTable n places
    → ◌≡◌ {A = Shown} (record { data_length = n; cells = map (cell_of octets) places }) (record { data_length = layout.data_length; cells = map zero_cell layout.places })
new_shown n places octets layout is blank table =
    ap (λ (cs : List Cell). let s : Shown = record { data_length = n; cells = cs } in s)
    (ap (λ (xs : List ℕ). map (cell_of xs) places) blank ∙ zero_cells n places table.short table.inside table.solid)
    ∙ ap (λ (t : Table). let s : Shown = record { data_length = t.data_length; cells = map zero_cell t.places } in s) is
