-- Packed places are a layout.
use Rattle.std.proofs.Common.{◌≡◌, inl, inr, ℕ, ◌+◌, ◌≤◌, ◌==◌, ◌&&◌, Bool, true, false, cond, List, [], ◌∷◌, ◌++◌, map, max, Option, Some, None, is_some, append_assoc, append-nil, subst, option_map, option_and_then, unwrap_or, refl, sym, ap, ◌∙◌, arith}
use Rattle.std.specs.List.{AllByRecursion}
use Rattle.std.proofs.lemmas.List.Sums.{sum_by-cons}
use Rattle.std.proofs.Math.Nat.{le-max_right}
use Rattle.std.proofs.lemmas.Bool.{cases_Bool, false≢true, and_parts, eqb-true, false_from_ne_true}
use Rattle.connect_blocks.specs.declared.iocr.IocrType.{IocrType}
use Rattle.connect_blocks.specs.declared.submodule_data.SubmoduleData.{SubmoduleData}
use Rattle.cyclic_data.specs.declared.place.PlaceKind.{PlaceKind}
use Rattle.cyclic_data.specs.declared.place.PlaceKind.TheVariants.{Data, Iocs}
use Rattle.cyclic_data.specs.declared.place.Place.{Place}
use Rattle.cyclic_data.specs.declared.place.ExpectedData.{ExpectedData}
use Rattle.cyclic_data.specs.Places.{asked, found_from, is_at, place_of, taken, taken_at}
use Rattle.cyclic_data.specs.Layout.{AreAllApart, AreApart, IsInside, IsLayout, Table, is_same_kind, times_listed, times_required}
use Rattle.connect_blocks.specs.declared.io_object.IoObject.{IoObject}
use Rattle.pn_values.specs.declared.real.RealModule.{RealModule}
use Rattle.plans.specs.Parts.{AreOrdered, data_of}
use Rattle.plans.specs.Packed.{frame_octets, layout_in, object_of, octets_in, octets_of, packed, packed_places, place_at}
use Rattle.plans.proofs.Distinct.{AreElsewhere, IsElsewhere, all_also, all_so, apart}

-- ---- which submodule is found

-- the cyclic data of the submodule in a subslot
abbrev io_at : ℕ → ℕ → ℕ → List ExpectedData → Option SubmoduleData
io_at slot subslot index subs = option_map (λ (found : ℕ × SubmoduleData). found.1) (found_from slot subslot index subs)

-- it does not depend on the number from which submodules are counted
io_counted : (slot subslot one other : ℕ) (subs : List ExpectedData) → io_at slot subslot one subs ≡ io_at slot subslot other subs
io_counted slot subslot one other [] = refl
io_counted slot subslot one other (sub ∷ subs) =
    elim (cases_Bool (is_at slot subslot sub)) [
      | inl t ↦ rw t refl
      | inr f ↦ rw f (io_counted slot subslot (one + 1) (other + 1) subs)
    ]

taken_is : (direction : IocrType) (kind : PlaceKind) (found : Option (ℕ × SubmoduleData))
    → option_and_then (λ (x : ℕ × SubmoduleData). taken direction kind x.1) found
    ≡ option_and_then (taken direction kind) (option_map (λ (x : ℕ × SubmoduleData). x.1) found)
taken_is direction kind None = refl
taken_is direction kind (Some x) = refl

-- the octets that are expected at a place, from the cyclic data of the submodule there
taken_by : (direction : IocrType) (kind : PlaceKind) (slot subslot : ℕ) (subs : List ExpectedData) (io : Option SubmoduleData)
    → io_at slot subslot 0 subs ≡ io → taken_at direction subs kind slot subslot ≡ option_and_then (taken direction kind) io
taken_by direction kind slot subslot subs io e =
    taken_is direction kind (found_from slot subslot 0 subs) ∙ ap (λ (x : Option SubmoduleData). option_and_then (taken direction kind) x) e

-- a submodule is found by its slot and subslot
abbrev IsFound : List ExpectedData → ExpectedData → Type 0
IsFound all sub = io_at sub.slot sub.subslot 0 all ≡ Some sub.io_data

same_place : (sub : ExpectedData) → is_at sub.slot sub.subslot sub ≡ true
same_place sub = grind arith

first_found : (sub : ExpectedData) (subs : List ExpectedData) → IsFound (sub ∷ subs) sub
first_found sub subs = rw (same_place sub) refl

later_found : (one : ExpectedData) (subs : List ExpectedData) (sub : ExpectedData) → IsElsewhere one sub → IsFound subs sub → IsFound (one ∷ subs) sub
later_found one subs sub other found = rw other (io_counted sub.slot sub.subslot 1 0 subs ∙ found)

-- each submodule is found by its slot and subslot
each_found : (subs : List ExpectedData) → AreElsewhere subs → AllByRecursion (IsFound subs) subs
each_found [] apart = tt
each_found (sub ∷ subs) apart =
    (first_found sub subs, all_also (IsElsewhere sub) (IsFound subs) (IsFound (sub ∷ subs)) subs (later_found sub subs) apart.0 (each_found subs apart.1))

-- ---- what is asked for

module _ (direction : IocrType) (all : List ExpectedData) (kind : PlaceKind) where
  abbrev asked_at : Place → Place
  asked_at place = place_of direction all kind (object_of place)

  one_asked : (offset : ℕ) (sub : ExpectedData) (size : Option ℕ) → taken direction kind sub.io_data ≡ size → IsFound all sub
      → map asked_at (place_at kind offset sub size) ≡ place_at kind offset sub size
  one_asked offset sub None e found = refl
  one_asked offset sub (Some size) e found = rw (taken_by direction kind sub.slot sub.subslot all (Some sub.io_data) found, e) refl

  map_both : (xs ys : List Place) → map asked_at (xs ++ ys) ≡ map asked_at xs ++ map asked_at ys
  map_both [] ys = refl
  map_both (x ∷ xs) ys = ap (λ (zs : List Place). asked_at x ∷ zs) (map_both xs ys)

  all_asked : (offset : ℕ) (subs : List ExpectedData) → AllByRecursion (IsFound all) subs
      → map asked_at (packed direction kind offset subs) ≡ packed direction kind offset subs
  all_asked offset [] found = refl
  all_asked offset (sub ∷ subs) found =
      rw (
        map_both (place_at kind offset sub (taken direction kind sub.io_data)) (packed direction kind (offset + octets_in direction kind sub) subs),
        one_asked offset sub (taken direction kind sub.io_data) refl found.0,
        all_asked (offset + octets_in direction kind sub) subs found.1,
      ) refl

mapped_twice : (direction : IocrType) (all : List ExpectedData) (kind : PlaceKind) (places : List Place)
    → map (place_of direction all kind) (map object_of places) ≡ map (λ place. place_of direction all kind (object_of place)) places
mapped_twice direction all kind [] = refl
mapped_twice direction all kind (place ∷ places) = ap (λ (ps : List Place). place_of direction all kind (object_of place) ∷ ps) (mapped_twice direction all kind places)

-- the places that a plan asks for are the packed places
pub asked_packed : (direction : IocrType) (subs : List ExpectedData) → AreElsewhere subs
    → asked direction subs (map object_of (packed direction Data 0 subs)) (map object_of (packed direction Iocs (octets_of direction Data subs) subs))
    ≡ packed_places direction subs
asked_packed direction subs apart =
    let found = each_found subs apart in
    rw (
      mapped_twice direction subs Data (packed direction Data 0 subs),
      mapped_twice direction subs Iocs (packed direction Iocs (octets_of direction Data subs) subs),
      all_asked direction subs Data 0 subs found,
      all_asked direction subs Iocs (octets_of direction Data subs) subs found,
    ) refl

-- ---- inside and apart

-- places one after another, from an offset to an end
abbrev Chain : ℕ → ℕ → List Place → Type 0
Chain offset end [] = offset ≤ end
Chain offset end (place ∷ places) = (offset ≤ place.offset) × Chain (place.offset + place.size) end places

chain_end : (offset end : ℕ) (places : List Place) → Chain offset end places → offset ≤ end
chain_end offset end [] chain = chain
chain_end offset end (place ∷ places) chain =
    let rest = chain_end (place.offset + place.size) end places chain.1 in
    let here = chain.0 in
    omega (arith, here, rest)

chain_later : (before offset end : ℕ) (places : List Place) → before ≤ offset → Chain offset end places → AllByRecursion (λ place. before ≤ place.offset) places
chain_later before offset end [] below chain = tt
chain_later before offset end (place ∷ places) below chain =
    let here = chain.0 in
    (omega (arith, below, here), chain_later before (place.offset + place.size) end places (omega (arith, below, here)) chain.1)

chain_inside : (offset end most : ℕ) (places : List Place) → end ≤ most → Chain offset end places → AllByRecursion (IsInside most) places
chain_inside offset end most [] below chain = tt
chain_inside offset end most (place ∷ places) below chain =
    let rest = chain_end (place.offset + place.size) end places chain.1 in
    (omega (arith, rest, below), chain_inside (place.offset + place.size) end most places below chain.1)

behind_apart : (place other : Place) → place.offset + place.size ≤ other.offset → AreApart place other
behind_apart place other behind k in_one in_other =
    let a = in_one.1 in
    let b = in_other.0 in
    absurd (omega (arith, a, b, behind))

chain_apart : (offset end : ℕ) (places : List Place) → Chain offset end places → AreAllApart places
chain_apart offset end [] chain = tt
chain_apart offset end (place ∷ places) chain = (
  all_so (λ (other : Place). place.offset + place.size ≤ other.offset) (AreApart place) places (behind_apart place)
      (chain_later (place.offset + place.size) (place.offset + place.size) end places (omega arith) chain.1),
  chain_apart (place.offset + place.size) end places chain.1,
)

module _ (direction : IocrType) (kind : PlaceKind) (end : ℕ) (behind : List Place) where
  chain_one : (offset next : ℕ) (sub : ExpectedData) (size : Option ℕ) (places : List Place) → next ≡ offset + unwrap_or size 0
      → Chain next end places → Chain offset end (place_at kind offset sub size ++ places)
  chain_one offset next sub None places e chain = subst (λ (n : ℕ). Chain n end places) (let same : next ≡ offset = omega (arith, e) in same) chain
  chain_one offset next sub (Some size) places e chain = (omega arith, subst (λ (n : ℕ). Chain n end places) e chain)

  chain_packed : (offset next : ℕ) (subs : List ExpectedData) → next ≡ offset + octets_of direction kind subs → Chain next end behind
      → Chain offset end (packed direction kind offset subs ++ behind)
  chain_packed offset next [] e chain = subst (λ (n : ℕ). Chain n end behind) (let same : next ≡ offset = omega (arith, e) in same) chain
  chain_packed offset next (sub ∷ subs) e chain =
      let all = sum_by-cons (octets_in direction kind) sub subs in
      let rest = chain_packed (offset + octets_in direction kind sub) next subs (omega (arith, e, all)) chain in
      rw (append_assoc (place_at kind offset sub (taken direction kind sub.io_data)) (packed direction kind (offset + octets_in direction kind sub) subs) behind)
      (chain_one offset (offset + octets_in direction kind sub) sub (taken direction kind sub.io_data) _ refl rest)

chain_all : (direction : IocrType) (most : ℕ) (subs : List ExpectedData) → frame_octets direction subs ≤ most → Chain 0 most (packed_places direction subs)
chain_all direction most subs below =
    chain_packed direction Data most (packed direction Iocs (octets_of direction Data subs) subs) 0 (octets_of direction Data subs) subs (omega arith)
    (subst (λ (places : List Place). Chain (octets_of direction Data subs) most places) (append-nil (packed direction Iocs (octets_of direction Data subs) subs))
    (chain_packed direction Iocs most [] (octets_of direction Data subs) (frame_octets direction subs) subs refl below))

-- ---- exactly what is needed

none_more : (same : Bool) → ◌≡◌ {A = ℕ} 0 (cond (same && false) 1 0)
none_more true = refl
none_more false = refl

module _ (kind : PlaceKind) (slot subslot : ℕ) where
  abbrev listed : List Place → ℕ
  listed places = times_listed kind slot subslot places

  listed_both : (xs ys : List Place) → listed (xs ++ ys) ≡ listed xs + listed ys
  listed_both [] ys = omega arith
  listed_both (x ∷ xs) ys = let rest = listed_both xs ys in omega (arith, rest)

  -- a place of another subslot is not listed
  listed_other : (offset : ℕ) (of : PlaceKind) (sub : ExpectedData) (size : Option ℕ) → is_at slot subslot sub ≡ false → listed (place_at of offset sub size) ≡ 0
  listed_other offset of sub None other = refl
  listed_other offset of sub (Some size) other = rw other (grind arith)

  none_listed : (direction : IocrType) (of : PlaceKind) (offset : ℕ) (subs : List ExpectedData) → AllByRecursion (λ sub. is_at slot subslot sub ≡ false) subs
      → listed (packed direction of offset subs) ≡ 0
  none_listed direction of offset [] other = refl
  none_listed direction of offset (sub ∷ subs) other =
      let here = listed_other offset of sub (taken direction of sub.io_data) other.0 in
      let rest = none_listed direction of (offset + octets_in direction of sub) subs other.1 in
      let both = listed_both (place_at of offset sub (taken direction of sub.io_data)) (packed direction of (offset + octets_in direction of sub) subs) in
      omega (arith, here, rest, both)

  -- a place of this subslot is listed once, if it has octets and is of the kind
  listed_here : (offset : ℕ) (of : PlaceKind) (sub : ExpectedData) (size : Option ℕ) → is_at slot subslot sub ≡ true
      → listed (place_at of offset sub size) ≡ cond (is_same_kind kind of && is_some size) 1 0
  listed_here offset of sub None here = none_more (is_same_kind kind of)
  listed_here offset of sub (Some size) here = rw here (omega arith)

  not_also : (sub other : ExpectedData) → is_at slot subslot sub ≡ true → IsElsewhere sub other → is_at slot subslot other ≡ false
  not_also sub other here elsewhere = false_from_ne_true (is_at slot subslot other) (λ t.
      let mine = and_parts (sub.slot == slot) (sub.subslot == subslot) here in
      let its = and_parts (other.slot == slot) (other.subslot == subslot) t in
      let s : sub.slot ≡ other.slot = eqb-true sub.slot slot mine.0 ∙ sym (eqb-true other.slot slot its.0) in
      let u : sub.subslot ≡ other.subslot = eqb-true sub.subslot subslot mine.1 ∙ sym (eqb-true other.subslot subslot its.1) in
      absurd (false≢true (sym elsewhere ∙ rw (s, u) (same_place other))))

  -- the number of times that a submodule is listed
  exact_of : (direction : IocrType) (of : PlaceKind) (offset : ℕ) (subs : List ExpectedData) → AreElsewhere subs
      → listed (packed direction of offset subs)
      ≡ cond (is_same_kind kind of && is_some (option_and_then (taken direction of) (io_at slot subslot 0 subs))) 1 0
  exact_of direction of offset [] apart = none_more (is_same_kind kind of)
  exact_of direction of offset (sub ∷ subs) apart =
      let both = listed_both (place_at of offset sub (taken direction of sub.io_data)) (packed direction of (offset + octets_in direction of sub) subs) in
      elim (cases_Bool (is_at slot subslot sub)) [
        | inl t ↦
            let here = listed_here offset of sub (taken direction of sub.io_data) t in
            let rest = none_listed direction of (offset + octets_in direction of sub) subs
            (all_so (IsElsewhere sub) (λ (other : ExpectedData). is_at slot subslot other ≡ false) subs (λ other. not_also sub other t) apart.0) in
            rw t (omega (arith, both, here, rest))
        | inr f ↦
            let here = listed_other offset of sub (taken direction of sub.io_data) f in
            let rest = exact_of direction of (offset + octets_in direction of sub) subs apart.1 in
            let same = io_counted slot subslot 1 0 subs in
            rw (f, same) (omega (arith, both, here, rest))
      ]

exact : (direction : IocrType) (subs : List ExpectedData) → AreElsewhere subs → (kind : PlaceKind) (slot subslot : ℕ)
    → times_listed kind slot subslot (packed_places direction subs) ≡ times_required direction subs kind slot subslot
exact direction subs apart Data slot subslot =
    let both = listed_both Data slot subslot (packed direction Data 0 subs) (packed direction Iocs (octets_of direction Data subs) subs) in
    let one = exact_of Data slot subslot direction Data 0 subs apart in
    let other = exact_of Data slot subslot direction Iocs (octets_of direction Data subs) subs apart in
    rw (taken_by direction Data slot subslot subs _ refl) (omega (arith, both, one, other))
exact direction subs apart Iocs slot subslot =
    let both = listed_both Iocs slot subslot (packed direction Data 0 subs) (packed direction Iocs (octets_of direction Data subs) subs) in
    let one = exact_of Iocs slot subslot direction Data 0 subs apart in
    let other = exact_of Iocs slot subslot direction Iocs (octets_of direction Data subs) subs apart in
    rw (taken_by direction Iocs slot subslot subs _ refl) (omega (arith, both, one, other))

-- ---- the whole

pub packed_good : (direction : IocrType) (subs : List ExpectedData) (most : ℕ) → AreElsewhere subs → frame_octets direction subs ≤ most
    → IsLayout most direction subs (packed_places direction subs)
packed_good direction subs most apart below =
    let chain = chain_all direction most subs below in
    record {
      inside = chain_inside 0 most most (packed_places direction subs) (omega arith) chain;
      apart = chain_apart 0 most (packed_places direction subs) chain;
      exact = exact direction subs apart;
    }

-- the places that a plan asks for are a layout
pub asked_good : (direction : IocrType) (subs : List ExpectedData) (most : ℕ) → AreElsewhere subs → frame_octets direction subs ≤ most
    → IsLayout most direction subs
    (asked direction subs (map object_of (packed direction Data 0 subs)) (map object_of (packed direction Iocs (octets_of direction Data subs) subs)))
asked_good direction subs most apart below =
    subst (λ (places : List Place). IsLayout most direction subs places) (sym (asked_packed direction subs apart)) (packed_good direction subs most apart below)

below_max : (octets : ℕ) → octets ≤ max 40 octets
below_max octets = le-max_right 40 octets

-- the same for the lists of the code, which are equal to these
pub good_as : (direction : IocrType) (modules : List RealModule) (most : ℕ) (objects iocs : List IoObject) (one other slice : List ExpectedData)
    → AreOrdered modules → one ≡ data_of modules → other ≡ data_of modules → slice ≡ data_of modules
    → most ≡ max 40 (frame_octets direction other)
    → objects ≡ map object_of (packed direction Data 0 one) → iocs ≡ map object_of (packed direction Iocs (octets_of direction Data one) one)
    → IsLayout most direction slice (asked direction slice objects iocs)
good_as direction modules most objects iocs one other slice ordered e f g n o i =
    rw (n, o, i, e, f, g) (asked_good direction (data_of modules) (max 40 (frame_octets direction (data_of modules))) (apart modules ordered) (below_max (frame_octets direction (data_of modules))))

pub table_as : (direction : IocrType) (modules : List RealModule) (most : ℕ) (objects iocs : List IoObject) (one other slice : List ExpectedData) (table : Table)
    → AreOrdered modules → one ≡ data_of modules → other ≡ data_of modules → slice ≡ data_of modules
    → most ≡ max 40 (frame_octets direction other)
    → objects ≡ map object_of (packed direction Data 0 one) → iocs ≡ map object_of (packed direction Iocs (octets_of direction Data one) one)
    → table ≡ record { data_length = most; places = asked direction slice objects iocs }
    → table ≡ layout_in direction (data_of modules)
table_as direction modules most objects iocs one other slice table ordered e f g n o i t =
    rw (t, n, o, i, e, f, g, asked_packed direction (data_of modules) (apart modules ordered)) refl

-- ---- the places of modules

pub modules_asked : (direction : IocrType) (modules : List RealModule) → AreOrdered modules
    → asked direction (data_of modules) (map object_of (packed direction Data 0 (data_of modules)))
    (map object_of (packed direction Iocs (octets_of direction Data (data_of modules)) (data_of modules)))
    ≡ packed_places direction (data_of modules)
modules_asked direction modules ordered = asked_packed direction (data_of modules) (apart modules ordered)

pub modules_good : (direction : IocrType) (modules : List RealModule) → AreOrdered modules
    → IsLayout (layout_in direction (data_of modules)).data_length direction (data_of modules) (packed_places direction (data_of modules))
modules_good direction modules ordered =
    packed_good direction (data_of modules) (max 40 (frame_octets direction (data_of modules))) (apart modules ordered) (below_max (frame_octets direction (data_of modules)))
