-- What a device shows as the outputs of a plan, if all come from one frame.
use Rattle.std.proofs.Common.{◌≡◌, ◌+◌, ◌-◌, ◌≤◌, ◌==◌, ◌&&◌, ℕ, Bool, true, false, List, [], ◌∷◌, ◌++◌, length, map, replicate, Option, Some, None, option_map, if◌then◌else◌, refl, sym, ap, subst, ◌∙◌, arith}
use Rattle.std.specs.Prelude.{unwrap_or}
use Rattle.std.specs.List.{AllByRecursion, fold}
use Rattle.std.proofs.lemmas.Bool.{and_from, eq-eqb}
use Rattle.std.proofs.lemmas.Bool.Decides.{nat_tests}
use Rattle.pn_values.specs.declared.real.Real.{Real}
use Rattle.connect_blocks.specs.declared.iocr.IocrType.TheVariants as direction
use Rattle.cyclic_data.specs.declared.place.ExpectedData.{ExpectedData}
use Rattle.cyclic_data.specs.declared.place.Place.{Place}
use Rattle.cyclic_data.specs.declared.place.PlaceKind.{PlaceKind}
use Rattle.cyclic_data.specs.declared.place.PlaceKind.TheVariants.{Data, Iocs}
use Rattle.cyclic_data.specs.Layout.{IsInside, IsSolid, is_of, is_same_kind, times_listed}
use Rattle.cyclic_data.specs.Image.{Cell, Shown as Image, cell_at, cell_of, octets_of, output_of as output_of_cell, place_at, zero_cell}
use Rattle.plans.specs.Packed.{packed, place_at as packed_place, octets_of as packed_octets}
use Rattle.plans.specs.Parts.{data_of}
use Rattle.relations.specs.Outputs.{output_of}
use Rattle.controller_messages.specs.declared.setup.Setup.{Setup}
use Rattle.network_world.specs.declared.moves.Move.{Move}
use Rattle.network_world.specs.declared.moves.Move.TheVariants as move
use Rattle.both_ends.specs.exchange.Shown.{zeros_for}
use Rattle.both_ends.specs.exchange.Given.{given_by, given_for, if_good, image_given, last_given, last_rated, places_for, rated_by, value_or_zeros}
use Rattle.both_ends.proofs.ExchangeOutputsMoves.{ArePlaced, image_shown, values_of}
use Rattle.both_ends.proofs.ExchangeOutputsValues.{cell_found, cell_with, only_one}
use Rattle.octets_law.specs.Octets.{untagged}
use Rattle.startup_octets.specs.declared.outputs.Output.{Output}
use Rattle.startup_octets.specs.Outputs as own
use Rattle.startup_octets.specs.Outputs.{carried, outputs_in, value_after}
use Rattle.relations.specs.declared.options.DeviceOptions.{DeviceOptions}
use Rattle.startup_octets.proofs.OutputFrames.{IsCarrier}
use Rattle.startup_octets.proofs.OutputPlaces.{all_both, all_so, carried_are, each_same, front_all, map_same, mapped, outputs_are, place_read, placed_at, places_from, read_in}

-- ---- what was given and said

same_size : (n m : ℕ) → (n + 1 == m + 1) ≡ (n == m)
same_size n m = by_test (n == m) refl
  where
    by_test : (b : Bool) → (n == m) ≡ b → (n + 1 == m + 1) ≡ b
    by_test true e = grind (arith, nat_tests)
    by_test false e = grind (arith, nat_tests)

abbrev own_zeros : ℕ → List ℕ
own_zeros n = replicate n 0

module _ (offset : ℕ) (output : Output) where
  abbrev place : Place
  place = placed_at offset output

  given_same : (one : Move) (last : Option (List ℕ)) → own.given_by output last one ≡ given_by place one last
  given_same (move.Give slot subslot value) last =
      ap (λ (b : Bool). if ((output.slot == slot) && (output.subslot == subslot)) && b then Some value.items else last) (sym (same_size output.size (length value.items)))
  given_same one last = refl

  rated_same : (one : Move) (last : Bool) → own.rated_by output last one ≡ rated_by place one last
  rated_same (move.OutputStatus slot subslot is_good) last = refl
  rated_same one last = refl

  all_given : (moves : List Move) (last : Option (List ℕ)) → fold (own.given_by output) last moves ≡ last_given place last moves
  all_given [] last = refl
  all_given (one ∷ moves) last = ap (λ (l : Option (List ℕ)). fold (own.given_by output) l moves) (given_same one last) ∙ all_given moves (given_by place one last)

  all_rated : (moves : List Move) (last : Bool) → fold (own.rated_by output) last moves ≡ last_rated place last moves
  all_rated [] last = refl
  all_rated (one ∷ moves) last = ap (λ (l : Bool). fold (own.rated_by output) l moves) (rated_same one last) ∙ all_rated moves (rated_by place one last)

  zeros_same : ◌≡◌ {A = List ℕ} (replicate output.size 0) (replicate ((output.size + 1) - 1) 0)
  zeros_same = let same : output.size ≡ (output.size + 1) - 1 = omega arith in ap (λ (n : ℕ). own_zeros n) same

  by_value : (is_good : Bool) (given : Option (List ℕ))
      → (if is_good then unwrap_or given (own.zeros_for output) else own.zeros_for output) ≡ value_or_zeros place (if_good is_good given)
  by_value true (Some value) = refl
  by_value true None = zeros_same
  by_value false given = zeros_same

  -- The value of an output is that of its place.
  pub value_same : (moves : List Move) → value_after moves output ≡ value_or_zeros place (if_good (last_rated place true moves) (last_given place None moves))
  value_same moves =
      ap (λ (b : Bool). if b then unwrap_or (fold (own.given_by output) None moves) (own.zeros_for output) else own.zeros_for output) (all_rated moves true)
      ∙ ap (λ (v : Option (List ℕ)). if last_rated place true moves then unwrap_or v (own.zeros_for output) else own.zeros_for output) (all_given moves None)
      ∙ by_value (last_rated place true moves) (last_given place None moves)

-- ---- each place of a plan is found by its submodule

abbrev IsFound : List Place → Place → Type 0
IsFound all place = place.kind ≡ Data → place_at Data place.slot place.subslot all ≡ Some place

own_place : (place : Place) → place.kind ≡ Data → is_of Data place.slot place.subslot place ≡ true
own_place place is =
    and_from (is_same_kind Data place.kind) ((place.slot == place.slot) && (place.subslot == place.subslot)) (ap (λ (k : PlaceKind). is_same_kind Data k) is)
    (and_from (place.slot == place.slot) (place.subslot == place.subslot) (eq-eqb place.slot place.slot refl) (eq-eqb place.subslot place.subslot refl))

each_found : (all places : List Place) → ((slot subslot : ℕ) → AllByRecursion (λ place. is_of Data slot subslot place ≡ true → place_at Data slot subslot all ≡ Some place) places)
    → AllByRecursion (IsFound all) places
each_found all [] so = tt
each_found all (place ∷ places) so =
    (λ is. (so place.slot place.subslot).0 (own_place place is), each_found all places (λ slot subslot. (so slot subslot).1))

all_found : (all : List Place) → ((slot subslot : ℕ) → times_listed Data slot subslot all ≤ 1) → AllByRecursion (IsFound all) all
all_found all once = each_found all all (λ slot subslot. only_one slot subslot all (once slot subslot))

-- The places of outputs are of data.
all_data : (offset : ℕ) (subs : List ExpectedData) → AllByRecursion (λ (place : Place). place.kind ≡ Data) (places_from offset subs)
all_data offset [] = tt
all_data offset (sub ∷ subs) = by_size sub.io_data.output (λ next. all_data next subs)
  where
    by_size : (size : Option ℕ) → ((next : ℕ) → AllByRecursion (λ (place : Place). place.kind ≡ Data) (places_from next subs))
        → AllByRecursion (λ (place : Place). place.kind ≡ Data)
        (packed_place Data offset sub (option_map (λ n. n + 1) size) ++ places_from (offset + unwrap_or (option_map (λ n. n + 1) size) 0) subs)
    by_size None rest = rest (offset + 0)
    by_size (Some size) rest = (refl, rest (offset + (size + 1)))

-- ---- what is shown

module _ (setup : Setup) (there : ArePlaced setup) where
  abbrev pub subs : List ExpectedData
  subs = data_of setup.plan.real.modules.items

  abbrev pub places : List Place
  places = places_from 0 subs

  abbrev behind : List Place
  behind = packed direction.Output Iocs (packed_octets direction.Output Data subs) subs

  abbrev pub IsThere : Place → Type 0
  IsThere place = place_at Data place.slot place.subslot (places_for setup) ≡ Some place

  pub are_there : AllByRecursion IsThere places
  are_there =
      all_so (λ (place : Place). IsFound (places_for setup) place × (place.kind ≡ Data)) IsThere (λ place both. both.0 both.1) places
      (all_both (IsFound (places_for setup)) (λ (place : Place). place.kind ≡ Data) places
      (front_all (IsFound (places_for setup)) places behind (all_found (places_for setup) there.once)) (all_data 0 subs))

  -- what these octets hold at a place is shown of its submodule
  abbrev pub IsTaken : List ℕ → (ℕ → ℕ → Option (List ℕ)) → Place → Type 0
  IsTaken octets found place = found place.slot place.subslot ≡ Some (output_of_cell (cell_of octets place))

  module _ (options : DeviceOptions) (frame octets : List ℕ) (carries : IsCarrier options (zeros_for setup).data_length frame octets) (real : Real) (found : ℕ → ℕ → Option (List ℕ)) where
    abbrev shown : Output → Option (List ℕ)
    shown output = output_of real output.slot output.subslot (found output.slot output.subslot)

    abbrev shown_at : Place → Option (List ℕ)
    shown_at place = output_of real place.slot place.subslot (found place.slot place.subslot)

    abbrev IsRead : Place → Type 0
    IsRead place = shown_at place ≡ read_in (untagged frame) place

    are_read : AllByRecursion (IsTaken octets found) places → AllByRecursion IsRead places
    are_read taken =
        all_so (λ (place : Place). IsTaken octets found place × (IsInside (zeros_for setup).data_length place × IsSolid place)) IsRead
        (λ place all. ap (λ (v : Option (List ℕ)). output_of real place.slot place.subslot v) all.0
        ∙ sym (place_read options (zeros_for setup).data_length frame octets carries place all.1.0 all.1.1)) places
        (all_both (IsTaken octets found) (λ (place : Place). IsInside (zeros_for setup).data_length place × IsSolid place) places taken
        (all_both (IsInside (zeros_for setup).data_length) IsSolid places
        (front_all (IsInside (zeros_for setup).data_length) places behind there.inside) (front_all IsSolid places behind there.solid)))

    -- All that is shown is what the frame carries.
    pub carried_if : AllByRecursion (IsTaken octets found) places
        → map shown (outputs_in setup.plan.real.modules.items) ≡ carried 16 (outputs_in setup.plan.real.modules.items) (untagged frame)
    carried_if taken =
        subst (λ (outputs : List Output). map shown outputs ≡ carried 16 outputs (untagged frame)) (sym (outputs_are setup.plan.real.modules.items))
        (mapped shown shown_at (λ offset output. refl) 0 subs ∙ map_same shown_at (read_in (untagged frame)) places (are_read taken) ∙ sym (carried_are (untagged frame) 0 subs))

  -- ---- what was given

  module _ (moves : List Move) (real : Real) (found : ℕ → ℕ → Option (List ℕ)) where
    abbrev octets : List ℕ
    octets = octets_of (image_given setup moves)

    abbrev IsHeld : Place → Type 0
    IsHeld place = cell_of octets place ≡ cell_with (values_of moves) place

    zero_cells : (all : List Place) → map (λ (cell : Cell). cell_of octets cell.place) (map zero_cell all) ≡ map (cell_of octets) all
    zero_cells [] = refl
    zero_cells (place ∷ all) = ap (λ (cs : List Cell). cell_of octets place ∷ cs) (zero_cells all)

    are_held : AllByRecursion IsHeld places
    are_held =
        front_all IsHeld places behind (each_same (cell_of octets) (cell_with (values_of moves)) (places_for setup)
        (sym (zero_cells (places_for setup)) ∙ ap (λ (image : Image). image.cells) (image_shown setup there moves)))

    pub taken_of : ((slot subslot : ℕ) → found slot subslot ≡ option_map output_of_cell (cell_at Data slot subslot (image_given setup moves).cells))
        → AllByRecursion (IsTaken octets found) places
    taken_of taken =
        all_so (λ (place : Place). IsThere place × IsHeld place) (IsTaken octets found)
        (λ place both. taken place.slot place.subslot
        ∙ ap (λ (c : Option Cell). option_map output_of_cell c)
        (cell_found place.slot place.subslot (values_of moves) (places_for setup) ∙ ap (λ (p : Option Place). option_map (cell_with (values_of moves)) p) both.0)
        ∙ ap (λ (c : Cell). Some (output_of_cell c)) (sym both.1)) places
        (all_both IsThere IsHeld places are_there are_held)

    abbrev given_output : Output → Option (List ℕ)
    given_output output = output_of real output.slot output.subslot (found output.slot output.subslot)

    abbrev given_place : Place → Option (List ℕ)
    given_place place = output_of real place.slot place.subslot (found place.slot place.subslot)

    abbrev value_at : Place → Option (List ℕ)
    value_at place = Some (value_or_zeros place (if_good (last_rated place true moves) (last_given place None moves)))

    -- All that is shown was given last.
    pub given_if : ((slot subslot : ℕ) → found slot subslot ≡ given_for setup moves slot subslot)
        → map given_output (outputs_in setup.plan.real.modules.items) ≡ map (λ output. Some (value_after moves output)) (outputs_in setup.plan.real.modules.items)
    given_if given =
        subst (λ (outputs : List Output). map given_output outputs ≡ map (λ output. Some (value_after moves output)) outputs) (sym (outputs_are setup.plan.real.modules.items))
        (mapped given_output given_place (λ offset output. refl) 0 subs
        ∙ map_same given_place value_at places (all_so IsThere (λ (place : Place). given_place place ≡ value_at place)
        (λ place is. ap (λ (v : Option (List ℕ)). output_of real place.slot place.subslot v)
        (given place.slot place.subslot
        ∙ ap (λ (p : Option Place). option_map (λ (q : Place). value_or_zeros q (if_good (last_rated q true moves) (last_given q None moves))) p) is)) places are_there)
        ∙ sym (mapped (λ (output : Output). Some (value_after moves output)) value_at (λ offset output. ap (λ (v : List ℕ). Some v) (value_same offset output moves)) 0 subs))
