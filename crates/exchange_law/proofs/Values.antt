-- The outputs in the data of a frame: what the application said, as the places of a plan have it, and as the words of the law do.
use Rattle.std.proofs.Common.{◌≡◌, ◌+◌, ◌-◌, ◌==◌, ◌&&◌, ◌||◌, ◌++◌, ℕ, suc, Bool, true, false, not, cond, List, [], ◌∷◌, length, map, take, drop, get_or, replicate, flat_map, Option, Some, None, option_map, if◌then◌else◌, refl, sym, ap, subst, ◌∙◌, append_assoc, arith}
use Rattle.std.specs.Prelude.{filter, fold, is_some, max, sum_by, unwrap_or}
use Rattle.std.specs.List.{AllByRecursion}
use Rattle.std.proofs.lemmas.Bool.Decides.{nat_tests}
use Rattle.std.proofs.lemmas.List.{length-append}
use Rattle.std.proofs.lemmas.List.Sums.{sum_by-cons}
use Rattle.pn_values.specs.declared.real.RealModule.{RealModule}
use Rattle.pn_values.specs.declared.real.RealSubmodule.{RealSubmodule}
use Rattle.connect_blocks.specs.declared.iocr.IocrType.TheVariants as direction
use Rattle.cyclic_data.specs.declared.place.ExpectedData.{ExpectedData}
use Rattle.cyclic_data.specs.declared.place.Place.{Place}
use Rattle.cyclic_data.specs.declared.place.PlaceKind.TheVariants.{Data, Iocs}
use Rattle.cyclic_data.specs.Image.{Cell, Shown as Image, cell_of, octets_of, zero_cell}
use Rattle.cyclic_data.specs.Places.{input_of}
use Rattle.plans.specs.Packed.{octets_in, octets_of as sum_of, packed, place_at}
use Rattle.plans.specs.Parts.{data_in_slot, data_of, some_octets}
use Rattle.controller_messages.specs.declared.setup.Setup.{Setup}
use Rattle.controller_core.specs.declared.stored.event.Event.{Event}
use Rattle.controller_core.specs.declared.stored.event.Event.TheVariants.{Give, Status}
use Rattle.network_world.specs.declared.moves.Move.{Move}
use Rattle.network_world.specs.declared.moves.Move.TheVariants as move
use Rattle.both_ends.specs.exchange.Shown.{zeros_for}
use Rattle.both_ends.specs.exchange.Given.{given_by, image_given, last_given, last_rated, output_at, places_for, rated_by}
use Rattle.both_ends.proofs.ExchangeOutputsMoves.{ArePlaced, image_shown, values_of}
use Rattle.both_ends.proofs.ExchangeOutputsValues.{cell_with}
use Rattle.exchange_law.specs.Told.{Told}
use Rattle.exchange_law.specs.Outputs.{AreGood, HasOutput, HasOutputs, Output, given_in, given_with, is_sender, outputs_in, part_outputs, room_of, said_with, senders_in, size_of}

-- ---- what the application said

-- The move that is this event, as far as outputs are concerned.
abbrev pub move_of : Event → Move
move_of (Give slot subslot value) = move.Give slot subslot value
move_of (Status slot subslot is_good) = move.OutputStatus slot subslot is_good
move_of event = move.Stop

abbrev pub moves_in : List Told → List Move
moves_in told = map (λ one. move_of one.event) told

pub moves_more : (told : List Told) (one : Told) → moves_in (told ++ one ∷ []) ≡ moves_in told ++ move_of one.event ∷ []
moves_more [] one = refl
moves_more (other ∷ told) one = ap (λ (l : List Move). move_of other.event ∷ l) (moves_more told one)

same_size : (n m : ℕ) → (n + 1 == m + 1) ≡ (n == m)
same_size n m = by_test (n == m) refl
  where
    by_test : (b : Bool) → (n == m) ≡ b → (n + 1 == m + 1) ≡ b
    by_test true e = grind (arith, nat_tests)
    by_test false e = grind (arith, nat_tests)

-- The place of an output.
abbrev placed_at : ℕ → Output → Place
placed_at offset output = record { kind = Data; slot = output.slot; subslot = output.subslot; offset = offset; size = output.size + 1 }

module _ (offset : ℕ) (output : Output) where
  abbrev place : Place
  place = placed_at offset output

  given_same : (event : Event) (last : Option (List ℕ)) → given_with output last event ≡ given_by place (move_of event) last
  given_same (Give slot subslot value) last =
      ap (λ (b : Bool). if ((output.slot == slot) && (output.subslot == subslot)) && b then Some value.items else last) (sym (same_size output.size (length value.items)))
  given_same (Status slot subslot is_good) last = refl
  given_same event last = refl

  said_same : (event : Event) (last : Bool) → said_with output last event ≡ rated_by place (move_of event) last
  said_same (Give slot subslot value) last = refl
  said_same (Status slot subslot is_good) last = refl
  said_same event last = refl

  abbrev given_on : Option (List ℕ) → Told → Option (List ℕ)
  given_on last one = given_with output last one.event

  abbrev said_on : Bool → Told → Bool
  said_on last one = said_with output last one.event

  all_given : (told : List Told) (last : Option (List ℕ)) → fold given_on last told ≡ last_given place last (moves_in told)
  all_given [] last = refl
  all_given (one ∷ told) last = ap (λ (l : Option (List ℕ)). fold given_on l told) (given_same one.event last) ∙ all_given told (given_by place (move_of one.event) last)

  all_said : (told : List Told) (last : Bool) → fold said_on last told ≡ last_rated place last (moves_in told)
  all_said [] last = refl
  all_said (one ∷ told) last = ap (λ (l : Bool). fold said_on l told) (said_same one.event last) ∙ all_said told (rated_by place (move_of one.event) last)

  -- The cell of the output.
  cell_value : (given : Option (List ℕ)) (is_good : Bool) → (output_at place given is_good).value ≡ unwrap_or given (replicate output.size 0)
  cell_value (Some value) is_good = refl
  cell_value None is_good = let same : (output.size + 1) - 1 ≡ output.size = omega arith in ap (λ (n : ℕ). replicate n 0) same

  cell_status : (given : Option (List ℕ)) (is_good : Bool) → (output_at place given is_good).status ≡ (if is_some given && is_good then 0x80 else 0)
  cell_status (Some value) is_good = refl
  cell_status None is_good = refl

  -- What the octets have at its place.
  module _ (told : List Told) (octets : List ℕ) where
    held_output : cell_of octets place ≡ cell_with (values_of (moves_in told)) place → HasOutput told offset output octets
    held_output held =
        let size : (output.size + 1) - 1 ≡ output.size = omega arith in
        record {
          value = ap (λ (n : ℕ). take n (drop offset octets)) (sym size)
              ∙ (ap (λ (c : Cell). c.value) held
              ∙ (cell_value (last_given place None (moves_in told)) (last_rated place true (moves_in told))
              ∙ ap (λ (g : Option (List ℕ)). unwrap_or g (replicate output.size 0)) (sym (all_given told None))));
          iops = ap (λ (n : ℕ). get_or octets (offset + n) 0) (sym size)
              ∙ (ap (λ (c : Cell). c.status) held
              ∙ (cell_status (last_given place None (moves_in told)) (last_rated place true (moves_in told))
              ∙ (ap (λ (g : Option (List ℕ)). if is_some g && last_rated place true (moves_in told) then 0x80 else 0) (sym (all_given told None))
              ∙ ap (λ (b : Bool). if is_some (given_in told output) && b then 0x80 else 0) (sym (all_said told true)))));
        }

-- ---- the submodules of a plan, as the Connect expects them

abbrev output_if : ℕ → ℕ → Option ℕ → List Output
output_if slot subslot (Some size) = record { slot = slot; subslot = subslot; size = size } ∷ []
output_if slot subslot None = []

abbrev output_for : ExpectedData → List Output
output_for sub = output_if sub.slot sub.subslot sub.io_data.output

abbrev outputs_for : List ExpectedData → List Output
outputs_for subs = flat_map output_for subs

flat_append : {A B : Type 0} (f : A → List B) (some more : List A) → flat_map f (some ++ more) ≡ flat_map f some ++ flat_map f more
flat_append f [] more = refl
flat_append {B = B} f (one ∷ others) more = ap (λ (l : List B). f one ++ l) (flat_append f others more) ∙ sym (append_assoc (f one) (flat_map f others) (flat_map f more))

part_is : (slot : ℕ) (part : RealSubmodule) → part_outputs slot part ≡ output_if slot part.subslot (some_octets part.output)
part_is slot part = by_test (part.output == 0)
  where
    by_test : (b : Bool) → cond b [] (record { slot = slot; subslot = part.subslot; size = part.output } ∷ []) ≡ output_if slot part.subslot (cond b None (Some part.output))
    by_test true = refl
    by_test false = refl

parts_are : (slot : ℕ) (parts : List RealSubmodule) → flat_map (part_outputs slot) parts ≡ outputs_for (data_in_slot slot parts)
parts_are slot [] = refl
parts_are slot (part ∷ parts) =
    ap (λ (l : List Output). l ++ flat_map (part_outputs slot) parts) (part_is slot part)
    ∙ ap (λ (l : List Output). output_if slot part.subslot (some_octets part.output) ++ l) (parts_are slot parts)

outputs_are : (modules : List RealModule) → outputs_in modules ≡ outputs_for (data_of modules)
outputs_are [] = refl
outputs_are (entry ∷ modules) =
    ap (λ (l : List Output). l ++ outputs_in modules) (parts_are entry.slot entry.submodules.items)
    ∙ (ap (λ (l : List Output). outputs_for (data_in_slot entry.slot entry.submodules.items) ++ l) (outputs_are modules)
    ∙ sym (flat_append output_for (data_in_slot entry.slot entry.submodules.items) (data_of modules)))

-- How many of them have an IOCS.
abbrev more_by : Option ℕ → ℕ → ℕ
more_by (Some size) count = suc count
more_by None count = count

abbrev senders_for : List ExpectedData → ℕ
senders_for [] = 0
senders_for (sub ∷ subs) = more_by (input_of sub.io_data.input sub.io_data.output) (senders_for subs)

filter_is : (slot : ℕ) (parts : List RealSubmodule) → length (filter is_sender parts) ≡ senders_for (data_in_slot slot parts)
filter_is slot [] = refl
filter_is slot (part ∷ parts) = by_tests (part.input == 0) (part.output == 0) (filter_is slot parts)
  where
    by_tests : (a b : Bool) → length (filter is_sender parts) ≡ senders_for (data_in_slot slot parts)
        → length (cond (not a || b) (part ∷ filter is_sender parts) (filter is_sender parts))
        ≡ more_by (input_of (cond a None (Some part.input)) (cond b None (Some part.output))) (senders_for (data_in_slot slot parts))
    by_tests true true rest = ap suc rest
    by_tests true false rest = rest
    by_tests false true rest = ap suc rest
    by_tests false false rest = ap suc rest

more_plus : (size : Option ℕ) (n m : ℕ) → more_by size n + m ≡ more_by size (n + m)
more_plus (Some size) n m = omega arith
more_plus None n m = refl

senders_append : (some more : List ExpectedData) → senders_for (some ++ more) ≡ senders_for some + senders_for more
senders_append [] more = omega arith
senders_append (sub ∷ some) more =
    let size = input_of sub.io_data.input sub.io_data.output in
    ap (λ (n : ℕ). more_by size n) (senders_append some more) ∙ sym (more_plus size (senders_for some) (senders_for more))

senders_are : (modules : List RealModule) → length (senders_in modules) ≡ senders_for (data_of modules)
senders_are [] = refl
senders_are (entry ∷ modules) =
    let parts = entry.submodules.items in
    length-append (filter is_sender parts) (senders_in modules)
    ∙ (ap (λ (n : ℕ). n + length (senders_in modules)) (filter_is entry.slot parts)
    ∙ (ap (λ (n : ℕ). senders_for (data_in_slot entry.slot parts) + n) (senders_are modules)
    ∙ sym (senders_append (data_in_slot entry.slot parts) (data_of modules))))

-- ---- sizes

abbrev added : Option ℕ → Option ℕ
added size = option_map (λ n. n + 1) size

room_is : (subs : List ExpectedData) → sum_of direction.Output Data subs ≡ room_of (outputs_for subs)
room_is [] = refl
room_is (sub ∷ subs) =
    sum_by-cons (octets_in direction.Output Data) sub subs
    ∙ by_size sub.io_data.output (room_is subs)
  where
    by_size : (size : Option ℕ) → sum_by (octets_in direction.Output Data) subs ≡ room_of (outputs_for subs)
        → unwrap_or (added size) 0 + sum_by (octets_in direction.Output Data) subs ≡ room_of (output_if sub.slot sub.subslot size ++ outputs_for subs)
    by_size None rest = omega (arith, rest)
    by_size (Some size) rest = ap (λ (n : ℕ). size + 1 + n) rest

iocs_are : (subs : List ExpectedData) → sum_of direction.Output Iocs subs ≡ senders_for subs
iocs_are [] = refl
iocs_are (sub ∷ subs) =
    sum_by-cons (octets_in direction.Output Iocs) sub subs
    ∙ by_input (input_of sub.io_data.input sub.io_data.output) (iocs_are subs)
  where
    by_input : (size : Option ℕ) → sum_by (octets_in direction.Output Iocs) subs ≡ senders_for subs
        → unwrap_or (option_map (λ n. 1) size) 0 + sum_by (octets_in direction.Output Iocs) subs ≡ more_by size (senders_for subs)
    by_input None rest = omega (arith, rest)
    by_input (Some size) rest = omega (arith, rest)

pub room_of_plan : (modules : List RealModule) → sum_of direction.Output Data (data_of modules) ≡ room_of (outputs_in modules)
room_of_plan modules = room_is (data_of modules) ∙ ap (λ (l : List Output). room_of l) (sym (outputs_are modules))

pub size_is : (setup : Setup) → (zeros_for setup).data_length ≡ size_of setup.plan.real.modules.items
size_is setup =
    let modules = setup.plan.real.modules.items in
    ap (λ (n : ℕ). max 40 (n + sum_of direction.Output Iocs (data_of modules))) (room_of_plan modules)
    ∙ ap (λ (n : ℕ). max 40 (room_of (outputs_in modules) + n)) (iocs_are (data_of modules) ∙ sym (senders_are modules))

-- ---- the places one after another

module _ (told : List Told) (octets : List ℕ) where
  abbrev IsHeld : Place → Type 0
  IsHeld place = cell_of octets place ≡ cell_with (values_of (moves_in told)) place

  walk_outputs : (offset : ℕ) (subs : List ExpectedData) → AllByRecursion IsHeld (packed direction.Output Data offset subs) → HasOutputs told offset (outputs_for subs) octets
  walk_outputs offset [] all = tt
  walk_outputs offset (sub ∷ subs) all = by_size sub.io_data.output (λ next rest. walk_outputs next subs rest) all
    where
      by_size : (size : Option ℕ) → ((next : ℕ) → AllByRecursion IsHeld (packed direction.Output Data next subs) → HasOutputs told next (outputs_for subs) octets)
          → AllByRecursion IsHeld (place_at Data offset sub (added size) ++ packed direction.Output Data (offset + unwrap_or (added size) 0) subs)
          → HasOutputs told offset (output_if sub.slot sub.subslot size ++ outputs_for subs) octets
      by_size None rest all =
          let none : offset + 0 ≡ offset = omega arith in
          subst (λ (n : ℕ). HasOutputs told n (outputs_for subs) octets) none (rest (offset + 0) all)
      by_size (Some size) rest all =
          let output : Output = record { slot = sub.slot; subslot = sub.subslot; size = size } in
          let next : offset + (size + 1) ≡ offset + size + 1 = omega arith in
          (held_output offset output told octets all.0, subst (λ (n : ℕ). HasOutputs told n (outputs_for subs) octets) next (rest (offset + (size + 1)) all.1))

  walk_senders : (offset : ℕ) (subs : List ExpectedData) → AllByRecursion IsHeld (packed direction.Output Iocs offset subs) → AreGood offset (senders_for subs) octets
  walk_senders offset [] all = tt
  walk_senders offset (sub ∷ subs) all = by_input (input_of sub.io_data.input sub.io_data.output) (λ next rest. walk_senders next subs rest) all
    where
      by_input : (size : Option ℕ) → ((next : ℕ) → AllByRecursion IsHeld (packed direction.Output Iocs next subs) → AreGood next (senders_for subs) octets)
          → AllByRecursion IsHeld (place_at Iocs offset sub (option_map (λ n. 1) size) ++ packed direction.Output Iocs (offset + unwrap_or (option_map (λ n. 1) size) 0) subs)
          → AreGood offset (more_by size (senders_for subs)) octets
      by_input None rest all =
          let none : offset + 0 ≡ offset = omega arith in
          subst (λ (n : ℕ). AreGood n (senders_for subs) octets) none (rest (offset + 0) all)
      by_input (Some size) rest all =
          let here : offset ≡ offset + (1 - 1) = omega arith in
          (ap (λ (n : ℕ). get_or octets n 0) here ∙ ap (λ (c : Cell). c.status) all.0, rest (offset + 1) all.1)

-- ---- all of them

module _ {A : Type 0} where
  pub front_all : (P : A → Type 0) (some more : List A) → AllByRecursion P (some ++ more) → AllByRecursion P some
  front_all P [] more all = tt
  front_all P (one ∷ some) more all = (all.0, front_all P some more all.1)

  rest_all : (P : A → Type 0) (some more : List A) → AllByRecursion P (some ++ more) → AllByRecursion P more
  rest_all P [] more all = all
  rest_all P (one ∷ some) more all = rest_all P some more all.1

each_same : (f g : Place → Cell) (places : List Place) → map f places ≡ map g places → AllByRecursion (λ place. f place ≡ g place) places
each_same f g [] same = tt
each_same f g (place ∷ places) same = (head (f place) (g place) (map f places) (map g places) same, each_same f g places (tail (f place) (g place) (map f places) (map g places) same))
  where
    head : (x y : Cell) (xs ys : List Cell) → x ∷ xs ≡ y ∷ ys → x ≡ y
    head x y xs ys e = cc

    tail : (x y : Cell) (xs ys : List Cell) → x ∷ xs ≡ y ∷ ys → xs ≡ ys
    tail x y xs ys e = cc

zero_cells : (octets : List ℕ) (places : List Place) → map (λ (cell : Cell). cell_of octets cell.place) (map zero_cell places) ≡ map (cell_of octets) places
zero_cells octets [] = refl
zero_cells octets (place ∷ places) = ap (λ (cs : List Cell). cell_of octets place ∷ cs) (zero_cells octets places)

module _ (setup : Setup) (there : ArePlaced setup) (told : List Told) where
  abbrev modules : List RealModule
  modules = setup.plan.real.modules.items

  abbrev held : List ℕ
  held = octets_of (image_given setup (moves_in told))

  abbrev at_data : List Place
  at_data = packed direction.Output Data 0 (data_of modules)

  abbrev at_iocs : List Place
  at_iocs = packed direction.Output Iocs (sum_of direction.Output Data (data_of modules)) (data_of modules)

  all_held : AllByRecursion (IsHeld told held) (at_data ++ at_iocs)
  all_held =
      each_same (cell_of held) (cell_with (values_of (moves_in told))) (places_for setup)
      (sym (zero_cells held (places_for setup)) ∙ ap (λ (image : Image). image.cells) (image_shown setup there (moves_in told)))

  pub outputs_there : HasOutputs told 0 (outputs_in modules) held
  outputs_there =
      subst (λ (outputs : List Output). HasOutputs told 0 outputs held) (sym (outputs_are modules))
      (walk_outputs told held 0 (data_of modules) (front_all (IsHeld told held) at_data at_iocs all_held))

  pub senders_there : AreGood (room_of (outputs_in modules)) (length (senders_in modules)) held
  senders_there =
      subst (λ (n : ℕ). AreGood (room_of (outputs_in modules)) n held) (sym (senders_are modules))
      (subst (λ (n : ℕ). AreGood n (senders_for (data_of modules)) held) (room_of_plan modules)
      (walk_senders told held (sum_of direction.Output Data (data_of modules)) (data_of modules) (rest_all (IsHeld told held) at_data at_iocs all_held)))
