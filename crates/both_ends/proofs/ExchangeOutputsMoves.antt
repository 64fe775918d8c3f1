-- After moves, a controller sends as outputs the values that they set.
use Rattle.std.proofs.Common.{◌≡◌, ◌==◌, ◌&&◌, ◌+◌, ◌-◌, ◌≤◌, ◌++◌, ℕ, Bool, true, false, cond, List, [], ◌∷◌, length, map, Option, Some, None, refl, sym, ap, subst, ◌∙◌, arith}
use Rattle.std.specs.Prelude.{if◌then◌else◌}
use Rattle.std.specs.List.{AllByRecursion}
use Rattle.std.proofs.lemmas.List.{length-replicate}
use Rattle.std.proofs.lemmas.Bool.{eqb-true}
use Rattle.cyclic_data.specs.declared.place.Place.{Place}
use Rattle.cyclic_data.specs.declared.place.PlaceKind.{PlaceKind}
use Rattle.cyclic_data.specs.declared.place.PlaceKind.TheVariants.{Data, Iocs}
use Rattle.cyclic_data.specs.Layout.{AreAllApart, IsInside, IsSolid, times_listed}
use Rattle.cyclic_data.specs.Image.{Cell, Shown as Image, cell_at, cell_of, changed, changed_in, has_size, octets_of, with_frame, with_status, zero_cell}
use Rattle.controller_messages.specs.declared.setup.Setup.{Setup}
use Rattle.controller_core.specs.declared.stored.outputs.OutputMark.{OutputMark}
use Rattle.controller_core.specs.Machine.{first as first_live, given, rated, with_output}
use Rattle.controller_core.specs.stored.Outputs.{awaits, change_by, iops_of, mark_at, marked}
use Rattle.controller_core.specs.stored.State.{Live}
use Rattle.network_world.specs.declared.moves.Move.{Move}
use Rattle.network_world.specs.declared.moves.Move.TheVariants as move
use Rattle.both_ends.specs.exchange.Shown.{zeros_for}
use Rattle.both_ends.specs.exchange.Given.{cell_of_kind, given_by, image_given, last_given, last_rated, output_at, places_for, rated_by}
use Rattle.both_ends.proofs.ExchangeOutputsHeld.{IsFull, image_held}
use Rattle.both_ends.proofs.ExchangeOutputsSet.{cells_given, cells_rated, marks_given, marks_rated, with_given, with_rated}
use Rattle.both_ends.proofs.ExchangeOutputsValues.{IsLong, Values, cell_place, cell_with, cells_of, first_cells, first_marks, mark_of_kind, mark_with, marks_of, places_are}

-- each submodule has at most one place for its output
abbrev pub ArePlacedOnce : Setup → Type 0
ArePlacedOnce setup = (slot subslot : ℕ) → times_listed Data slot subslot (places_for setup) ≤ 1

-- the outputs of a controller: what it sends, and why the IOPS are not good
pub record Sets : Type 0 where
  pub shown : Image
  pub marks : List OutputMark

abbrev pub sets_of : Live → Sets
sets_of live = record { shown = live.cyclic.shown; marks = live.outputs }

-- the outputs of the controller after a move
abbrev pub shown_with : Live → Move → Sets
shown_with live (move.Give slot subslot value) = sets_of (given live slot subslot value.items)
shown_with live (move.OutputStatus slot subslot is_good) = sets_of (rated live slot subslot is_good)
shown_with live other = sets_of live

-- what these moves set
abbrev pub values_of : List Move → Values
values_of moves = record { given = λ place. last_given place None moves; rated = λ place. last_rated place true moves }

abbrev image_with : Setup → List Cell → Image
image_with setup cells = record { data_length = (zeros_for setup).data_length; cells = cells }

abbrev sets_with : Setup → Values → Sets
sets_with setup values = record { shown = image_with setup (cells_of values (places_for setup)); marks = marks_of values (places_for setup) }

abbrev pub sets_given : Setup → List Move → Sets
sets_given setup moves = sets_with setup (values_of moves)

-- one more move
last_more : (place : Place) (last : Option (List ℕ)) (moves : List Move) (one : Move) → last_given place last (moves ++ one ∷ []) ≡ given_by place one (last_given place last moves)
last_more place last [] one = refl
last_more place last (other ∷ moves) one = last_more place (given_by place other last) moves one

rated_more : (place : Place) (last : Bool) (moves : List Move) (one : Move) → last_rated place last (moves ++ one ∷ []) ≡ rated_by place one (last_rated place last moves)
rated_more place last [] one = refl
rated_more place last (other ∷ moves) one = rated_more place (rated_by place other last) moves one

-- the same cells and marks of the same values
cells_same : (values other : Values) → ((place : Place) → values.given place ≡ other.given place) → ((place : Place) → values.rated place ≡ other.rated place) → (places : List Place)
    → cells_of values places ≡ cells_of other places
cells_same values other given rated [] = refl
cells_same values other given rated (place ∷ places) =
    ap (λ (g : Option (List ℕ)). cell_of_kind place.kind place g (values.rated place) ∷ cells_of values places) (given place)
    ∙ (ap (λ (b : Bool). cell_of_kind place.kind place (other.given place) b ∷ cells_of values places) (rated place)
    ∙ ap (λ (cs : List Cell). cell_with other place ∷ cs) (cells_same values other given rated places))

marks_same : (values other : Values) → ((place : Place) → values.given place ≡ other.given place) → ((place : Place) → values.rated place ≡ other.rated place) → (places : List Place)
    → marks_of values places ≡ marks_of other places
marks_same values other given rated [] = refl
marks_same values other given rated (place ∷ places) =
    ap (λ (g : Option (List ℕ)). mark_of_kind place.kind place g (values.rated place) ∷ marks_of values places) (given place)
    ∙ (ap (λ (b : Bool). mark_of_kind place.kind place (other.given place) b ∷ marks_of values places) (rated place)
    ∙ ap (λ (ms : List OutputMark). mark_with other place ∷ ms) (marks_same values other given rated places))

sets_same : (setup : Setup) (values other : Values) → ((place : Place) → values.given place ≡ other.given place) → ((place : Place) → values.rated place ≡ other.rated place)
    → sets_with setup values ≡ sets_with setup other
sets_same setup values other given rated =
    ap (λ (cs : List Cell). let s : Sets = record { shown = image_with setup cs; marks = marks_of values (places_for setup) } in s) (cells_same values other given rated (places_for setup))
    ∙ ap (λ (ms : List OutputMark). let s : Sets = record { shown = image_with setup (cells_of other (places_for setup)); marks = ms } in s) (marks_same values other given rated (places_for setup))

-- a move that sets nothing
still : (setup : Setup) (moves : List Move) (one : Move) → ((place : Place) (last : Option (List ℕ)) → given_by place one last ≡ last) → ((place : Place) (last : Bool) → rated_by place one last ≡ last)
    → sets_given setup moves ≡ sets_given setup (moves ++ one ∷ [])
still setup moves one none kept =
    sets_same setup (values_of moves) (values_of (moves ++ one ∷ [])) (λ place. sym (last_more place None moves one ∙ none place (last_given place None moves)))
    (λ place. sym (rated_more place true moves one ∙ kept place (last_rated place true moves)))

-- after a value is set
module _ (setup : Setup) (once : ArePlacedOnce setup) (values : Values) where
  -- the outputs after it, by those before it
  abbrev given_sets : ℕ → ℕ → List ℕ → Sets → Sets
  given_sets slot subslot value sets =
      let fits = has_size (length value) (cell_at Data slot subslot sets.shown.cells) in
      let is_first = awaits slot subslot sets.marks in
      let marks = marked slot subslot (change_by None) sets.marks in
      record {
        shown = record sets.shown { cells = if fits then map (changed_in Data slot subslot (with_output is_first (iops_of (mark_at slot subslot marks)) value)) sets.shown.cells else sets.shown.cells };
        marks = if fits && is_first then marks else sets.marks;
      }

  given_set : (slot subslot : ℕ) (value : List ℕ) → given_sets slot subslot value (sets_with setup values) ≡ sets_with setup (with_given slot subslot value values)
  given_set slot subslot value =
      let later = with_given slot subslot value values in
      let before = given_sets slot subslot value (sets_with setup values) in
      ap (λ (cs : List Cell). let s : Sets = record { shown = image_with setup cs; marks = before.marks } in s) (cells_given slot subslot value values (places_for setup) (once slot subslot))
      ∙ ap (λ (ms : List OutputMark). let s : Sets = record { shown = image_with setup (cells_of later (places_for setup)); marks = ms } in s)
      (marks_given slot subslot value values (places_for setup) (once slot subslot))

  -- after a status
  abbrev rated_sets : ℕ → ℕ → Bool → Sets → Sets
  rated_sets slot subslot is_good sets =
      let marks = marked slot subslot (change_by (Some is_good)) sets.marks in
      record { shown = changed Data slot subslot (with_status (iops_of (mark_at slot subslot marks))) sets.shown; marks = marks }

  rated_set : (slot subslot : ℕ) (is_good : Bool) → rated_sets slot subslot is_good (sets_with setup values) ≡ sets_with setup (with_rated slot subslot is_good values)
  rated_set slot subslot is_good =
      let later = with_rated slot subslot is_good values in
      let before = rated_sets slot subslot is_good (sets_with setup values) in
      ap (λ (cs : List Cell). let s : Sets = record { shown = image_with setup cs; marks = before.marks } in s) (cells_rated slot subslot is_good values (places_for setup) (once slot subslot))
      ∙ ap (λ (ms : List OutputMark). let s : Sets = record { shown = image_with setup (cells_of later (places_for setup)); marks = ms } in s)
      (marks_rated slot subslot is_good values (places_for setup))

-- after a move
pub given_more : (setup : Setup) → ArePlacedOnce setup → (moves : List Move) (live : Live) → sets_of live ≡ sets_given setup moves → (one : Move)
    → shown_with live one ≡ sets_given setup (moves ++ one ∷ [])
given_more setup once moves live was (move.Give slot subslot value) =
    ap (given_sets setup once (values_of moves) slot subslot value.items) was
    ∙ (given_set setup once (values_of moves) slot subslot value.items
    ∙ sets_same setup (with_given slot subslot value.items (values_of moves)) (values_of (moves ++ move.Give slot subslot value ∷ []))
    (λ place. sym (last_more place None moves (move.Give slot subslot value))) (λ place. sym (rated_more place true moves (move.Give slot subslot value))))
given_more setup once moves live was (move.OutputStatus slot subslot is_good) =
    ap (rated_sets setup once (values_of moves) slot subslot is_good) was
    ∙ (rated_set setup once (values_of moves) slot subslot is_good
    ∙ sets_same setup (with_rated slot subslot is_good (values_of moves)) (values_of (moves ++ move.OutputStatus slot subslot is_good ∷ []))
    (λ place. sym (last_more place None moves (move.OutputStatus slot subslot is_good))) (λ place. sym (rated_more place true moves (move.OutputStatus slot subslot is_good))))
given_more setup once moves live was other = was ∙ still setup moves other (λ place last. refl) (λ place last. refl)

-- before any move
pub first_image : (setup : Setup) → sets_of (first_live setup.plan) ≡ sets_given setup []
first_image setup =
    ap (λ (cs : List Cell). let s : Sets = record { shown = image_with setup cs; marks = (first_live setup.plan).outputs } in s) (first_cells (places_for setup))
    ∙ ap (λ (ms : List OutputMark). let s : Sets = record { shown = image_given setup []; marks = ms } in s) (first_marks (places_for setup))

-- ---- what is shown of the outputs

abbrev IsFit : Place → Option (List ℕ) → Type 0
IsFit place None = Unit {0}
IsFit place (Some value) = (place.size == length value + 1) ≡ true

fit_by : (place : Place) (one : Move) (last : Option (List ℕ)) → IsFit place last → IsFit place (given_by place one last)
fit_by place (move.Give slot subslot value) last fit = by_test ((place.slot == slot) && (place.subslot == subslot)) (place.size == length value.items + 1) refl
  where
    by_test : (b c : Bool) → (place.size == length value.items + 1) ≡ c → IsFit place (cond (b && c) (Some value.items) last)
    by_test true true e = e
    by_test true false e = fit
    by_test false c e = fit
fit_by place other last fit = fit

all_fit : (place : Place) (last : Option (List ℕ)) (moves : List Move) → IsFit place last → IsFit place (last_given place last moves)
all_fit place last [] fit = fit
all_fit place last (one ∷ moves) fit = all_fit place (given_by place one last) moves (fit_by place one last fit)

full_output : (place : Place) (value : Option (List ℕ)) (is_good : Bool) → IsFit place value → IsFull (output_at place value is_good)
full_output place None is_good fit = length-replicate {A = ℕ} (place.size - 1) 0
full_output place (Some value) is_good fit = let size = eqb-true place.size (length value + 1) fit in omega (arith, size)

full_kind : (kind : PlaceKind) (place : Place) (value : Option (List ℕ)) (is_good : Bool) → IsFit place value → IsFull (cell_of_kind kind place value is_good)
full_kind Data place value is_good fit = full_output place value is_good fit
full_kind Iocs place value is_good fit = length-replicate {A = ℕ} (place.size - 1) 0

all_full : (moves : List Move) (places : List Place) → AllByRecursion IsFull (cells_of (values_of moves) places)
all_full moves [] = tt
all_full moves (place ∷ places) = (full_kind place.kind place (last_given place None moves) (last_rated place true moves) (all_fit place None moves tt), all_full moves places)

-- a value has as many octets as the data at its place
long_fit : (place : Place) (value : Option (List ℕ)) → IsFit place value → IsLong place value
long_fit place None fit = tt
long_fit place (Some value) fit = let size = eqb-true place.size (length value + 1) fit in omega (arith, size)

pub all_long : (moves : List Move) (places : List Place) → AllByRecursion (λ place. IsLong place (last_given place None moves)) places
all_long moves [] = tt
all_long moves (place ∷ places) = (long_fit place (last_given place None moves) (all_fit place None moves tt), all_long moves places)

-- the places of a plan's outputs: apart, inside the frame, and each of at least one octet
pub record ArePlaced (setup : Setup) : Type 0 where
  pub apart : AreAllApart (places_for setup)
  pub inside : AllByRecursion (IsInside (zeros_for setup).data_length) (places_for setup)
  pub solid : AllByRecursion IsSolid (places_for setup)
  pub once : ArePlacedOnce setup

taken_at : (octets : List ℕ) (values : Values) (places : List Place)
    → map (λ (cell : Cell). cell_of octets cell.place) (map zero_cell places) ≡ map (λ (cell : Cell). cell_of octets cell.place) (cells_of values places)
taken_at octets values [] = refl
taken_at octets values (place ∷ places) =
    ap (λ (p : Place). cell_of octets p ∷ map (λ (cell : Cell). cell_of octets cell.place) (map zero_cell places)) (sym (cell_place values place))
    ∙ ap (λ (cs : List Cell). cell_of octets (cell_with values place).place ∷ cs) (taken_at octets values places)

-- a device that accepts the octets of this image shows it
pub image_shown : (setup : Setup) → ArePlaced setup → (moves : List Move) → with_frame (octets_of (image_given setup moves)) (zeros_for setup) ≡ image_given setup moves
image_shown setup placed moves =
    let values = values_of moves in
    let image = image_given setup moves in
    let places = places_for setup in
    let are : map (λ (cell : Cell). cell.place) (cells_of values places) ≡ places = places_are values places in
    ap (λ (cs : List Cell). image_with setup cs)
    (taken_at (octets_of image) values places
    ∙ image_held image (subst (λ (ps : List Place). AreAllApart ps) (sym are) placed.apart)
    (subst (λ (ps : List Place). AllByRecursion (IsInside image.data_length) ps) (sym are) placed.inside)
    (subst (λ (ps : List Place). AllByRecursion IsSolid ps) (sym are) placed.solid) (all_full moves places))
