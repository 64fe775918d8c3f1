-- Places that were checked.
use Rattle.std.proofs.Common.{◌≡◌, inl, inr, ℕ, ◌+◌, ◌<◌, ◌≤◌, ◌++◌, Bool, true, false, List, [], ◌∷◌, length, map, drop, Option, Some, None, option_map, option_and_then, unwrap_or, slice_get, get_or, replicate, Result, Ok, Err, is_ok, sym, ap, subst, ◌∙◌, arith, append_assoc}
use Rattle.std.specs.Prelude.{OnOk}
use Rattle.std.specs.List.{AllByRecursion}
use Rattle.std.proofs.lemmas.Bool.{false≢true}
use Rattle.std.proofs.lemmas.List.{drop_more}
use Rattle.std.proofs.lemmas.Option.{get_or_from_slice_get, slice_get_within, slice_get_cases}
use Rattle.connect_blocks.specs.declared.iocr.IocrType.{IocrType}
use Rattle.connect_blocks.specs.declared.io_object.IoObject.{IoObject}
use Rattle.connect_blocks.specs.declared.submodule_data.SubmoduleData.{SubmoduleData}
use Rattle.cyclic_data.specs.declared.place.PlaceKind.{PlaceKind}
use Rattle.cyclic_data.specs.declared.place.PlaceKind.TheVariants.{Data, Iocs}
use Rattle.cyclic_data.specs.declared.place.Place.{Place}
use Rattle.cyclic_data.specs.declared.place.ExpectedData.{ExpectedData}
use Rattle.cyclic_data.specs.declared.fault.LayoutFault.{LayoutFault}
use Rattle.cyclic_data.specs.declared.fault.LayoutFault.TheVariants as faults
use Rattle.cyclic_data.specs.Places.{opposite_of, data_in, taken, found_from, place_of, asked}
use Rattle.cyclic_data.specs.Layout.{IsInside, IsOutside, IsSolid, AreAllApart, AnyByRecursion, DoMeet, IsLayout, IsTable, IsFirstFault}
use Rattle.cyclic_data.specs.Seen.{has_unknown, seen_behind, has_missing}
use Rattle.cyclic_data.specs.Marked.{IsFree, IsTaken, IsMarkedWith}
use Rattle.cyclic_data.proofs.Overlap.{IsHit, IsClear, hit_before, clear_before, not_outside, not_meet}
use Rattle.cyclic_data.proofs.Known.{all_known, all_listed, required_few, few_places, unknown_there, missing_there}

-- An element that is read is the first of the remaining ones.
pub drop_read : {X : Type 0} (xs : List X) (i : ℕ) (x : X) → slice_get xs i ≡ Some x → drop i xs ≡ x ∷ drop (i + 1) xs
drop_read xs i x h =
    drop_more xs i x (slice_get_within xs i x h) ∙ ap (λ y. y ∷ drop (i + 1) xs) (get_or_from_slice_get xs i x x h)

-- ---- marks, place by place

pub goes_on_hit : (old new : List Bool) (places all : List Place) (i : ℕ) (d : Place) → i < length places
    → IsMarkedWith old new (get_or places i d).offset (get_or places i d).size
    → (IsHit old (drop i places) → DoMeet all) → IsHit new (drop (i + 1) places) → DoMeet all
goes_on_hit old new places all i d below with' so_far h =
    so_far (subst (λ (ps : List Place). IsHit old ps) (sym (drop_more places i d below)) (hit_before old new (get_or places i d) (drop (i + 1) places) with' h))

pub goes_on_clear : (old new : List Bool) (places all : List Place) (i : ℕ) (d : Place) → i < length places
    → IsMarkedWith old new (get_or places i d).offset (get_or places i d).size → IsFree old (get_or places i d).offset (get_or places i d).size
    → (IsClear old (drop i places) → AreAllApart all) → IsClear new (drop (i + 1) places) → AreAllApart all
goes_on_clear old new places all i d below with' free so_far h =
    so_far (subst (λ (ps : List Place). IsClear old ps) (sym (drop_more places i d below)) (clear_before old new (get_or places i d) (drop (i + 1) places) with' free h))

pub inside_rest : (places : List Place) (i : ℕ) (d : Place) (n : ℕ) → i < length places → AllByRecursion (IsInside n) (drop i places)
    → IsInside n (get_or places i d) × AllByRecursion (IsInside n) (drop (i + 1) places)
inside_rest places i d n below h = subst (λ (ps : List Place). AllByRecursion (IsInside n) ps) (drop_more places i d below) h

pub taken_hit : (old : List Bool) (places all : List Place) (i : ℕ) (d : Place) → i < length places
    → IsTaken old (get_or places i d).offset (get_or places i d).size → (IsHit old (drop i places) → DoMeet all) → DoMeet all
taken_hit old places all i d below taken so_far =
    so_far (subst (λ (ps : List Place). IsHit old ps) (sym (drop_more places i d below)) (inl (inl taken)))

-- ---- lists of two parts

pub any_left : (P : Place → Type 0) (xs ys : List Place) → AnyByRecursion P xs → AnyByRecursion P (xs ++ ys)
any_left P [] ys any = absurd any
any_left P (x ∷ xs) ys (inl here) = inl here
any_left P (x ∷ xs) ys (inr any) = inr (any_left P xs ys any)

pub any_right : (P : Place → Type 0) (xs ys : List Place) → AnyByRecursion P ys → AnyByRecursion P (xs ++ ys)
any_right P [] ys any = any
any_right P (x ∷ xs) ys any = inr (any_right P xs ys any)

pub all_both : (P : Place → Type 0) (xs ys : List Place) → AllByRecursion P xs → AllByRecursion P ys → AllByRecursion P (xs ++ ys)
all_both P [] ys all more = more
all_both P (x ∷ xs) ys all more = (all.0, all_both P xs ys all.1 more)

pub inside_more : (n m : ℕ) (xs : List Place) → n ≤ m → AllByRecursion (IsInside n) xs → AllByRecursion (IsInside m) xs
inside_more n m [] le all = tt
inside_more n m (x ∷ xs) le all = (omega (arith, all.0), inside_more n m xs le all.1)

-- ---- each place takes at least one octet

size_of : (direction : IocrType) (kind : PlaceKind) (o : Option (ℕ × SubmoduleData))
    → 0 < unwrap_or (option_and_then (λ (found : ℕ × SubmoduleData). taken direction kind found.1) o) 1
size_of direction kind None = omega arith
size_of direction Data (Some found) = more (data_in direction found.1)
  where
    more : (o : Option ℕ) → 0 < unwrap_or (option_map (λ size. size + 1) o) 1
    more None = omega arith
    more (Some n) = omega arith
size_of direction Iocs (Some found) = one (data_in (opposite_of direction) found.1)
  where
    one : (o : Option ℕ) → 0 < unwrap_or (option_map (λ (_ : ℕ). 1) o) 1
    one None = omega arith
    one (Some n) = omega arith

solid_all : (direction : IocrType) (expected : List ExpectedData) (kind : PlaceKind) (objects : List IoObject)
    → AllByRecursion IsSolid (map (place_of direction expected kind) objects)
solid_all direction expected kind [] = tt
solid_all direction expected kind (object ∷ objects) =
    (size_of direction kind (found_from object.slot_number object.subslot_number 0 expected), solid_all direction expected kind objects)

-- ---- places with a first fault are not a layout

pub refuted : (f : LayoutFault) (n : ℕ) (direction : IocrType) (expected : List ExpectedData) (places : List Place)
    → IsFirstFault f n direction expected places → IsLayout n direction expected places → ⊥
refuted faults.Outside n direction expected places h layout = not_outside n places layout.inside h
refuted faults.Overlap n direction expected places h layout = not_meet places layout.apart h.1
refuted faults.Unknown n direction expected places h layout =
    let w = h.2 in omega (arith, w.3, layout.exact w.0 w.1 w.2)
refuted faults.Missing n direction expected places h layout =
    let w = h.3 in omega (arith, w.3, layout.exact w.0 w.1 w.2)

-- ---- what the code finds

pub on_ok_given : {T E P : Type 0} (r : Result T E) → is_ok r ≡ true → OnOk r P → P
on_ok_given (Ok x) is h = h
on_ok_given (Err e) is h = absurd (false≢true is)

-- Any place, where a default is needed.
abbrev pub no_place : Place
no_place = record { kind = Data; slot = 0; subslot = 0; offset = 0; size = 0 }

pub first_outside : (f : LayoutFault) (n : ℕ) (direction : IocrType) (expected : List ExpectedData) (places : List Place) → f ≡ faults.Outside
    → AnyByRecursion (IsOutside n) places → IsFirstFault f n direction expected places
first_outside f n direction expected places e any = subst (λ (x : LayoutFault). IsFirstFault x n direction expected places) (sym e) any

-- The facts about one more object.
module _ (F : IoObject → Place) (n : ℕ) (objects : List IoObject) (index : ℕ) (object : IoObject) (h : Some object ≡ slice_get objects index) where
  mapped : map F (drop index objects) ≡ F object ∷ map F (drop (index + 1) objects)
  mapped = ap (λ (os : List IoObject). map F os) (drop_read objects index object (sym h))

  pub items_go_on : (places places' start : List Place) (place : Place) → place ≡ F object → places' ≡ places ++ place ∷ []
      → places ++ map F (drop index objects) ≡ start ++ map F objects → places' ++ map F (drop (index + 1) objects) ≡ start ++ map F objects
  items_go_on places places' start place is more so_far =
      ap (λ (ps : List Place). ps ++ map F (drop (index + 1) objects)) more
      ∙ (append_assoc places (place ∷ []) (map F (drop (index + 1) objects))
      ∙ (ap (λ (p : Place). places ++ (p ∷ map F (drop (index + 1) objects))) is
      ∙ (ap (λ (ps : List Place). places ++ ps) (sym mapped) ∙ so_far)))

  pub inside_goes_on : (R : Type 0) → (AllByRecursion (IsInside n) (map F (drop index objects)) → R) → IsInside n (F object)
      → AllByRecursion (IsInside n) (map F (drop (index + 1) objects)) → R
  inside_goes_on R so_far here rest = so_far (subst (λ (ps : List Place). AllByRecursion (IsInside n) ps) (sym mapped) (here, rest))

  pub outside_goes_on : (R : Type 0) → (AnyByRecursion (IsOutside n) (map F (drop index objects)) → R)
      → AnyByRecursion (IsOutside n) (map F (drop (index + 1) objects)) → R
  outside_goes_on R so_far any = so_far (subst (λ (ps : List Place). AnyByRecursion (IsOutside n) ps) (sym mapped) (inr any))

  pub outside_here : (R : Type 0) → (AnyByRecursion (IsOutside n) (map F (drop index objects)) → R) → IsOutside n (F object) → R
  outside_here R so_far here = so_far (subst (λ (ps : List Place). AnyByRecursion (IsOutside n) ps) (sym mapped) (inl here))

pub never_none : {X : Type 0} (xs : List X) (index : ℕ) (o : Option X) → o ≡ slice_get xs index → index < length xs → ((x : X) → o ≡ Some x → ⊥) → ⊥
never_none xs index o is below not' = elim (slice_get_cases xs index).1 as (λ _. ⊥) [
  | inl w ↦ not' w.0 (is ∙ w.2)
  | inr w ↦ omega (arith, w.0, below)
]

module _ (n : ℕ) (direction : IocrType) (expected : List ExpectedData) (few : length expected ≤ 64) (objects iocs : List IoObject) where
  abbrev pub all : List Place
  all = asked direction expected objects iocs

  pub items_are : (empty one two slice : List Place) → empty ≡ [] → one ≡ empty ++ map (place_of direction expected Data) objects
      → two ≡ one ++ map (place_of direction expected Iocs) iocs → slice ≡ two → slice ≡ all
  items_are empty one two slice e o t s =
      s ∙ (t ∙ ap (λ (ps : List Place). ps ++ map (place_of direction expected Iocs) iocs)
      (o ∙ ap (λ (ps : List Place). ps ++ map (place_of direction expected Data) objects) e))

  pub outside_left : AnyByRecursion (IsOutside n) (map (place_of direction expected Data) objects) → AnyByRecursion (IsOutside n) all
  outside_left any = any_left (IsOutside n) (map (place_of direction expected Data) objects) (map (place_of direction expected Iocs) iocs) any

  pub outside_right : AnyByRecursion (IsOutside n) (map (place_of direction expected Iocs) iocs) → AnyByRecursion (IsOutside n) all
  outside_right any = any_right (IsOutside n) (map (place_of direction expected Data) objects) (map (place_of direction expected Iocs) iocs) any

  pub inside_both : AllByRecursion (IsInside n) (map (place_of direction expected Data) objects) → AllByRecursion (IsInside n) (map (place_of direction expected Iocs) iocs)
      → AllByRecursion (IsInside n) all
  inside_both one two = all_both (IsInside n) (map (place_of direction expected Data) objects) (map (place_of direction expected Iocs) iocs) one two

  pub inside_frame : (slice : List Place) → slice ≡ all → n ≤ 1440 → AllByRecursion (IsInside n) all → AllByRecursion (IsInside 1440) slice
  inside_frame slice e short inside =
      subst (λ (ps : List Place). AllByRecursion (IsInside 1440) ps) (sym e) (inside_more n 1440 all short inside)

  pub unknown_of : (b : Bool) (slice : List Place) → slice ≡ all → b ≡ has_unknown direction expected (replicate 128 false) slice
      → has_unknown direction expected (replicate 128 false) all ≡ b
  unknown_of b slice e h = sym (h ∙ ap (λ (ps : List Place). has_unknown direction expected (replicate 128 false) ps) e)

  pub missing_of : (b : Bool) (slice : List Place) (seen : List Bool) → slice ≡ all → seen ≡ seen_behind direction expected (replicate 128 false) slice
      → b ≡ has_missing direction expected seen expected
      → has_missing direction expected (seen_behind direction expected (replicate 128 false) all) expected ≡ b
  missing_of b slice seen e s h =
      sym (h ∙ ap (λ (marks : List Bool). has_missing direction expected marks expected)
      (s ∙ ap (λ (ps : List Place). seen_behind direction expected (replicate 128 false) ps) e))

  pub kept_items : {T E : Type 0} (r : Result T E) (old new slice : List Place) → slice ≡ all → has_unknown direction expected (replicate 128 false) all ≡ false
      → old ≡ [] → (length old + length slice ≤ 128 → is_ok r ≡ true) → OnOk r (new ≡ old ++ slice) → new ≡ all
  kept_items r old new slice e h none fits ok =
      let room : length old + length slice ≤ 128 = omega (arith, few_places direction expected few all h, ap (λ (ps : List Place). length ps) e, ap (λ (ps : List Place). length ps) none) in
      on_ok_given r (fits room) ok ∙ (ap (λ (ps : List Place). ps ++ slice) none ∙ e)

  module _ (inside : AllByRecursion (IsInside n) all) (apart : AreAllApart all) where
    pub first_unknown : has_unknown direction expected (replicate 128 false) all ≡ true → IsFirstFault faults.Unknown n direction expected all
    first_unknown h = (inside, apart, unknown_there direction expected few all h)

    pub first_missing : has_unknown direction expected (replicate 128 false) all ≡ false → has_missing direction expected (seen_behind direction expected (replicate 128 false) all) expected ≡ true
        → IsFirstFault faults.Missing n direction expected all
    first_missing h m = (inside, apart, all_known direction expected few all h, missing_there direction expected few all h m)

    pub is_layout : has_unknown direction expected (replicate 128 false) all ≡ false → has_missing direction expected (seen_behind direction expected (replicate 128 false) all) expected ≡ false
        → IsLayout n direction expected all
    is_layout h m = record { inside = inside; apart = apart; exact = all_listed direction expected few all h m }

    pub is_table : n ≤ 1440 → has_unknown direction expected (replicate 128 false) all ≡ false → IsTable n all
    is_table short h = record {
      short = short;
      inside = inside;
      apart = apart;
      solid = all_both IsSolid (map (place_of direction expected Data) objects) (map (place_of direction expected Iocs) iocs)
          (solid_all direction expected Data objects) (solid_all direction expected Iocs iocs);
      once = λ kind slot subslot. omega (arith, all_known direction expected few all h kind slot subslot, required_few direction expected kind slot subslot);
    }
