-- The places of a plan's inputs: apart, inside the frame, each of at least one octet, each once, and each expected.
use Rattle.std.proofs.Common.{◌≡◌, ◌==◌, ◌+◌, ◌≤◌, ◌++◌, ℕ, Bool, true, false, cond, List, [], ◌∷◌, length, take, drop, map, Option, Some, None, option_map, refl, sym, ap, subst, ◌∙◌, arith}
use Rattle.std.specs.Prelude.{is_some}
use Rattle.std.specs.List.{AllByRecursion}
use Rattle.std.proofs.lemmas.Bool.{and_from, eq-eqb}
use Rattle.pn_values.specs.declared.real.RealModule.{RealModule}
use Rattle.pn_values.specs.declared.real.RealSubmodule.{RealSubmodule}
use Rattle.wire.specs.blocks.modules.Lists.{Listed}
use Rattle.connect_blocks.specs.declared.expected.ExpectedSubmodule.{ExpectedSubmodule}
use Rattle.connect_blocks.specs.declared.module_diff.DiffModule.{DiffModule}
use Rattle.connect_blocks.specs.declared.module_diff.DiffSubmodule.{DiffSubmodule}
use Rattle.module_diff.specs.Diff.{Wanted, is_listed, wanted_in}
use Rattle.expected_places.specs.declared.place.ExpectedPlace.{ExpectedPlace}
use Rattle.expected_places.specs.declared.place.Step.TheVariants.{Settled}
use Rattle.expected_places.specs.Machine.{is_differing, touches}
use Rattle.expected_places.specs.Places.{first_place, is_for, opened_places, place_at as expected_at, places_of}
use Rattle.connect_blocks.specs.declared.iocr.IocrType.{IocrType}
use Rattle.connect_blocks.specs.declared.iocr.IocrType.TheVariants.{Input}
use Rattle.cyclic_data.specs.declared.place.ExpectedData.{ExpectedData}
use Rattle.cyclic_data.specs.declared.place.Place.{Place}
use Rattle.cyclic_data.specs.declared.place.PlaceKind.{PlaceKind}
use Rattle.cyclic_data.specs.declared.place.PlaceKind.TheVariants.{Data, Iocs}
use Rattle.cyclic_data.specs.Layout.{AreAllApart, IsInside, IsLayout, IsSolid, times_listed}
use Rattle.cyclic_data.specs.Places.{data_in, opposite_of, taken, taken_at}
use Rattle.plans.specs.Packed.{layout_in, octets_in, octets_of, packed, packed_places, place_at}
use Rattle.plans.specs.Parts.{data_in_slot, data_of, module_of, submodule_of}
use Rattle.controller_messages.specs.declared.setup.Setup.{Setup}
use Rattle.both_ends.specs.startup.request.Request.{expected_of, submodules_in}
use Rattle.inputs_law.specs.Given.{places_for}
use Rattle.inputs_law.specs.Shown.{zeros_for}
use Rattle.inputs_law.proofs.PlacesShut.{key_of}

both : (one other : List Place) → AllByRecursion IsSolid one → AllByRecursion IsSolid other → AllByRecursion IsSolid (one ++ other)
both [] other first second = second
both (place ∷ one) other first second = (first.0, both one other first.1 second)

data_solid : (sub : ExpectedData) (offset : ℕ) (size : Option ℕ) → AllByRecursion IsSolid (place_at Data offset sub (option_map (λ (n : ℕ). n + 1) size))
data_solid sub offset (Some size) = (omega arith, tt)
data_solid sub offset None = tt

iocs_solid : (sub : ExpectedData) (offset : ℕ) (size : Option ℕ) → AllByRecursion IsSolid (place_at Iocs offset sub (option_map (λ (n : ℕ). 1) size))
iocs_solid sub offset (Some size) = (omega arith, tt)
iocs_solid sub offset None = tt

one_solid : (kind : PlaceKind) (direction : IocrType) (sub : ExpectedData) (offset : ℕ) → AllByRecursion IsSolid (place_at kind offset sub (taken direction kind sub.io_data))
one_solid Data direction sub offset = data_solid sub offset (data_in direction sub.io_data)
one_solid Iocs direction sub offset = iocs_solid sub offset (data_in (opposite_of direction) sub.io_data)

all_solid : (direction : IocrType) (kind : PlaceKind) (offset : ℕ) (subs : List ExpectedData) → AllByRecursion IsSolid (packed direction kind offset subs)
all_solid direction kind offset [] = tt
all_solid direction kind offset (sub ∷ subs) =
    both (place_at kind offset sub (taken direction kind sub.io_data)) (packed direction kind (offset + octets_in direction kind sub) subs)
    (one_solid kind direction sub offset) (all_solid direction kind (offset + octets_in direction kind sub) subs)

at_most_one : (required : Bool) (times : ℕ) → times ≡ cond required 1 0 → times ≤ 1
at_most_one true times e = omega (arith, e)
at_most_one false times e = omega (arith, e)

-- ---- each place is expected

-- The place in this slot and subslot differs if these rows list it, and is not touched.
abbrev pub IsFreshIn : Listed DiffModule DiffSubmodule → List ExpectedPlace → ℕ → ℕ → Type 0
IsFreshIn rows places slot subslot =
    (is_differing (expected_at slot subslot places) ≡ is_listed slot subslot rows) × (touches (expected_at slot subslot places) ≡ false)

module _ (rows : Listed DiffModule DiffSubmodule) where
  own_key : (slot : ℕ) (part : ExpectedSubmodule) → is_for slot part.subslot_number (first_place rows slot part) ≡ true
  own_key slot part = and_from (slot == slot) (part.subslot_number == part.subslot_number) (eq-eqb slot slot refl) (eq-eqb part.subslot_number part.subslot_number refl)

  -- the place of a submodule is found first
  fresh_here : (slot : ℕ) (part : ExpectedSubmodule) (places : List ExpectedPlace) → IsFreshIn rows (first_place rows slot part ∷ places) slot part.subslot_number
  fresh_here slot part places = (ap is_differing found, ap touches found)
    where
      found : expected_at slot part.subslot_number (first_place rows slot part ∷ places) ≡ Some (first_place rows slot part)
      found = ap (λ (b : Bool). cond b (Some (first_place rows slot part)) (expected_at slot part.subslot_number places)) (own_key slot part)

  same_key : (slot subslot other : ℕ) (part : ExpectedSubmodule) → is_for slot subslot (first_place rows other part) ≡ true
      → is_listed other part.subslot_number rows ≡ is_listed slot subslot rows
  same_key slot subslot other part is =
      let both = key_of slot subslot (first_place rows other part) is in
      ap (λ (n : ℕ). is_listed n part.subslot_number rows) both.0 ∙ ap (λ (n : ℕ). is_listed slot n rows) both.1

  -- another place before it
  fresh_behind : (other : ℕ) (part : ExpectedSubmodule) (places : List ExpectedPlace) (slot subslot : ℕ) → IsFreshIn rows places slot subslot
      → IsFreshIn rows (first_place rows other part ∷ places) slot subslot
  fresh_behind other part places slot subslot fresh = by_test (is_for slot subslot (first_place rows other part)) refl
    where
      by_test : (b : Bool) → is_for slot subslot (first_place rows other part) ≡ b → IsFreshIn rows (first_place rows other part ∷ places) slot subslot
      by_test true is =
          let found : expected_at slot subslot (first_place rows other part ∷ places) ≡ Some (first_place rows other part) =
          ap (λ (b : Bool). cond b (Some (first_place rows other part)) (expected_at slot subslot places)) is in
          (ap is_differing found ∙ same_key slot subslot other part is, ap touches found)
      by_test false is =
          let found : expected_at slot subslot (first_place rows other part ∷ places) ≡ expected_at slot subslot places =
          ap (λ (b : Bool). cond b (Some (first_place rows other part)) (expected_at slot subslot places)) is in
          (ap is_differing found ∙ fresh.0, ap touches found ∙ fresh.1)

  fresh_beyond : (other : ℕ) (parts : List ExpectedSubmodule) (places : List ExpectedPlace) (slot subslot : ℕ) → IsFreshIn rows places slot subslot
      → IsFreshIn rows (map (first_place rows other) parts ++ places) slot subslot
  fresh_beyond other [] places slot subslot fresh = fresh
  fresh_beyond other (part ∷ parts) places slot subslot fresh =
      fresh_behind other part (map (first_place rows other) parts ++ places) slot subslot (fresh_beyond other parts places slot subslot fresh)

  -- the places of data
  abbrev AreFreshOf : List ExpectedPlace → List ExpectedData → Type 0
  AreFreshOf places subs = AllByRecursion (λ (sub : ExpectedData). IsFreshIn rows places sub.slot sub.subslot) subs

  each_fresh : (one other : List ExpectedPlace) → ((slot subslot : ℕ) → IsFreshIn rows one slot subslot → IsFreshIn rows other slot subslot) → (subs : List ExpectedData)
      → AreFreshOf one subs → AreFreshOf other subs
  each_fresh one other more [] all = tt
  each_fresh one other more (sub ∷ subs) all = (more sub.slot sub.subslot all.0, each_fresh one other more subs all.1)

  both_fresh : (places : List ExpectedPlace) (one other : List ExpectedData) → AreFreshOf places one → AreFreshOf places other → AreFreshOf places (one ++ other)
  both_fresh places [] other first second = second
  both_fresh places (sub ∷ one) other first second = (first.0, both_fresh places one other first.1 second)

  slot_fresh : (slot : ℕ) (parts : List RealSubmodule) (places : List ExpectedPlace) → AreFreshOf (map (first_place rows slot) (map submodule_of parts) ++ places) (data_in_slot slot parts)
  slot_fresh slot [] places = tt
  slot_fresh slot (part ∷ parts) places =
      let behind = map (first_place rows slot) (map submodule_of parts) ++ places in (
        fresh_here slot (submodule_of part) behind,
        each_fresh behind (first_place rows slot (submodule_of part) ∷ behind) (λ s n fresh. fresh_behind slot (submodule_of part) behind s n fresh)
            (data_in_slot slot parts) (slot_fresh slot parts places),
      )

  -- a module with its submodules
  abbrev wanted_of : RealModule → Wanted
  wanted_of entry = record { entry = module_of entry; submodules = map submodule_of entry.submodules.items }

  modules_fresh : (modules : List RealModule) → AreFreshOf (places_of rows (map wanted_of modules)) (data_of modules)
  modules_fresh [] = tt
  modules_fresh (entry ∷ modules) =
      let behind = places_of rows (map wanted_of modules) in
      let all = map (first_place rows entry.slot) (map submodule_of entry.submodules.items) ++ behind in
      both_fresh all (data_in_slot entry.slot entry.submodules.items) (data_of modules) (slot_fresh entry.slot entry.submodules.items behind)
      (each_fresh behind all (λ s n fresh. fresh_beyond entry.slot (map submodule_of entry.submodules.items) behind s n fresh) (data_of modules) (modules_fresh modules))

  -- the modules that a Connect of the plan expects
  take_own : (parts : List RealSubmodule) (others : List ExpectedSubmodule) → take (length parts) (map submodule_of parts ++ others) ≡ map submodule_of parts
  take_own [] others = refl
  take_own (part ∷ parts) others = ap (λ (xs : List ExpectedSubmodule). submodule_of part ∷ xs) (take_own parts others)

  drop_own : (parts : List RealSubmodule) (others : List ExpectedSubmodule) → drop (length parts) (map submodule_of parts ++ others) ≡ others
  drop_own [] others = refl
  drop_own (part ∷ parts) others = drop_own parts others

  wanted_same : (modules : List RealModule) → wanted_in (map module_of modules) (submodules_in modules) ≡ map wanted_of modules
  wanted_same [] = refl
  wanted_same (entry ∷ modules) =
      ap (λ (xs : List ExpectedSubmodule). let w : Wanted = record { entry = module_of entry; submodules = xs } in
      w ∷ wanted_in (map module_of modules) (drop (length entry.submodules.items) (submodules_in (entry ∷ modules)))) (take_own entry.submodules.items (submodules_in modules))
      ∙ (ap (λ (xs : List ExpectedSubmodule). wanted_of entry ∷ wanted_in (map module_of modules) xs) (drop_own entry.submodules.items (submodules_in modules))
      ∙ ap (λ (ws : List Wanted). wanted_of entry ∷ ws) (wanted_same modules))

  opened_fresh : (modules : List RealModule) → AreFreshOf (opened_places (expected_of modules) rows) (data_of modules)
  opened_fresh modules = subst (λ (ws : List Wanted). AreFreshOf (places_of rows ws) (data_of modules)) (sym (wanted_same modules)) (modules_fresh modules)

  -- the places of inputs
  abbrev AreFreshAt : List ExpectedPlace → List Place → Type 0
  AreFreshAt places ps = AllByRecursion (λ (place : Place). IsFreshIn rows places place.slot place.subslot) ps

  two_fresh : (places : List ExpectedPlace) (one other : List Place) → AreFreshAt places one → AreFreshAt places other → AreFreshAt places (one ++ other)
  two_fresh places [] other first second = second
  two_fresh places (place ∷ one) other first second = (first.0, two_fresh places one other first.1 second)

  one_fresh : (places : List ExpectedPlace) (kind : PlaceKind) (offset : ℕ) (sub : ExpectedData) (size : Option ℕ) → IsFreshIn rows places sub.slot sub.subslot
      → AreFreshAt places (place_at kind offset sub size)
  one_fresh places kind offset sub (Some size) fresh = (fresh, tt)
  one_fresh places kind offset sub None fresh = tt

  packed_fresh : (places : List ExpectedPlace) (direction : IocrType) (kind : PlaceKind) (offset : ℕ) (subs : List ExpectedData) → AreFreshOf places subs
      → AreFreshAt places (packed direction kind offset subs)
  packed_fresh places direction kind offset [] all = tt
  packed_fresh places direction kind offset (sub ∷ subs) all =
      two_fresh places (place_at kind offset sub (taken direction kind sub.io_data)) (packed direction kind (offset + octets_in direction kind sub) subs)
      (one_fresh places kind offset sub (taken direction kind sub.io_data) all.0) (packed_fresh places direction kind (offset + octets_in direction kind sub) subs all.1)

  pub places_fresh : (modules : List RealModule) → AreFreshAt (opened_places (expected_of modules) rows) (packed_places Input (data_of modules))
  places_fresh modules =
      let places = opened_places (expected_of modules) rows in
      let all = opened_fresh modules in
      two_fresh places (packed Input Data 0 (data_of modules)) (packed Input Iocs (octets_of Input Data (data_of modules)) (data_of modules))
      (packed_fresh places Input Data 0 (data_of modules) all) (packed_fresh places Input Iocs (octets_of Input Data (data_of modules)) (data_of modules) all)

  -- nothing happened to a place of a relation that begins
  abbrev IsSettled : ExpectedPlace → Type 0
  IsSettled place = place.step ≡ Settled

  slot_settled : (slot : ℕ) (parts : List ExpectedSubmodule) (places : List ExpectedPlace) → AllByRecursion IsSettled places
      → AllByRecursion IsSettled (map (first_place rows slot) parts ++ places)
  slot_settled slot [] places all = all
  slot_settled slot (part ∷ parts) places all = (refl, slot_settled slot parts places all)

  pub all_settled : (wanteds : List Wanted) → AllByRecursion IsSettled (places_of rows wanteds)
  all_settled [] = tt
  all_settled (wanted ∷ wanteds) = slot_settled wanted.entry.slot_number wanted.submodules (places_of rows wanteds) (all_settled wanteds)

-- the places of the inputs
pub record ArePlaced (setup : Setup) : Type 0 where
  pub apart : AreAllApart (places_for setup)
  pub inside : AllByRecursion (IsInside (zeros_for setup).data_length) (places_for setup)
  pub solid : AllByRecursion IsSolid (places_for setup)
  pub once : (slot subslot : ℕ) → times_listed Data slot subslot (places_for setup) ≤ 1
  pub fresh : (rows : Listed DiffModule DiffSubmodule)
      → AllByRecursion (λ (place : Place). IsFreshIn rows (opened_places (expected_of setup.plan.real.modules.items) rows) place.slot place.subslot) (places_for setup)

abbrev data_for : Setup → List ExpectedData
data_for setup = data_of setup.plan.real.modules.items

pub placed : (setup : Setup) → IsLayout (layout_in Input (data_for setup)).data_length Input (data_for setup) (packed_places Input (data_for setup)) → ArePlaced setup
placed setup layout = record {
  apart = layout.apart;
  inside = layout.inside;
  solid = both (packed Input Data 0 (data_for setup)) (packed Input Iocs (octets_of Input Data (data_for setup)) (data_for setup))
      (all_solid Input Data 0 (data_for setup)) (all_solid Input Iocs (octets_of Input Data (data_for setup)) (data_for setup));
  fresh = λ rows. places_fresh rows setup.plan.real.modules.items;
  once = λ slot subslot. at_most_one (is_some (taken_at Input (data_for setup) Data slot subslot)) (times_listed Data slot subslot (packed_places Input (data_for setup))) (layout.exact Data slot subslot);
}
