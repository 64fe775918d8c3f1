-- All inputs that are shown come from one frame, which brings what was given and said before it was sent.
use Rattle.std.proofs.Common.{◌≡◌, ◌⊎◌, inl, inr, ◌==◌, ◌&&◌, ◌+◌, ◌-◌, ◌++◌, ℕ, zero, suc, Bool, true, false, cond, List, [], ◌∷◌, length, take, drop, map, replicate, get_or, Option, Some, None, option_map, refl, sym, ap, subst, ◌∙◌, arith}
use Rattle.std.specs.Prelude.{is_some, if◌then◌else◌}
use Rattle.std.specs.List.{AllByRecursion}
use Rattle.std.proofs.lemmas.Bool.{eqb-true}
use Rattle.std.proofs.lemmas.List.{length-replicate, length-take-le, length-drop}
use Rattle.module_diff.specs.declared.changes.Affected.{Affected}
use Rattle.module_diff.specs.Changes.{covers}
use Rattle.expected_places.specs.Machine.{PlugState}
use Rattle.cyclic_data.specs.declared.place.Place.{Place}
use Rattle.cyclic_data.specs.declared.place.PlaceKind.{PlaceKind}
use Rattle.cyclic_data.specs.declared.place.PlaceKind.TheVariants.{Data, Iocs}
use Rattle.cyclic_data.specs.Layout.{AreAllApart, IsInside, IsSolid, is_of, is_same_kind}
use Rattle.cyclic_data.specs.Image.{Cell, Shown as Image, cell_at, cell_of, good, octets_of, output_of, place_at, value_in, with_frame, zero_cell}
use Rattle.cyclic_data.specs.exchange.Process.{status_with}
use Rattle.relations.specs.declared.exchange.statuses.InputStatus.{InputStatus}
use Rattle.relations.specs.exchange.Marks.{iops_by}
use Rattle.relations.specs.RelationState.{RelationState}
use Rattle.device_core.specs.State.{Rest, Station}
use Rattle.controller_messages.specs.declared.setup.Setup.{Setup}
use Rattle.controller_core.specs.Machine.{provider_of}
use Rattle.controller_core.specs.stored.State.{Live as ControllerLive}
use Rattle.device_frames.specs.declared.local.Local.TheVariants as local
use Rattle.device_frames.specs.Heard.{Applied}
use Rattle.network_world.specs.declared.moves.Move.{Move}
use Rattle.network_world.specs.declared.moves.Move.TheVariants as move
use Rattle.network_world.specs.World.{last_world, World}
use Rattle.both_ends.specs.exchange.Given.{value_or_zeros, zeros_at}
use Rattle.both_ends.proofs.ExchangeOutputsHeld.{IsFull, image_held}
use Rattle.inputs_law.specs.Shown.{has_accepted, zeros_for}
use Rattle.inputs_law.specs.Given.{cell_for, given_for, heard_with, image_given, in_relation, input_by, iops_for, iops_in, last_input, last_said, left_input, left_statuses, mark_for, places_for, plugs_after, renewed_in, said_by, statuses_after, value_given, zero_for}
use Rattle.inputs_law.proofs.GivenValues.{said_in}
use Rattle.inputs_law.proofs.GivenCells.{Values}
use Rattle.inputs_law.proofs.InputsPlaced.{ArePlaced}
use Rattle.inputs_law.proofs.WorldSteps.{values_after}

-- ---- one more move

pub input_more : {F : Type 0} (place : Place) (first : World F) (last : Option (List ℕ)) (so_far : List (Move × World F)) (one : Move × World F)
    → last_input place first last (so_far ++ one ∷ [])
    ≡ in_relation one.1.device.live.rest.link
    (left_input (renewed_in (last_world first so_far).device.live.rest (heard_with one.0)) place (input_by place one.0 (last_input place first last so_far)))
input_more place first last [] one = refl
input_more place first last (other ∷ so_far) one =
    input_more place other.1
    (in_relation other.1.device.live.rest.link (left_input (renewed_in first.device.live.rest (heard_with other.0)) place (input_by place other.0 last))) so_far one

-- the statuses after a move
abbrev pub said_after : Rest → Move → List InputStatus → List InputStatus
said_after rest one statuses = left_statuses (renewed_in rest (heard_with one)) (said_by rest.real.modules.items one statuses)

pub said_more : {F : Type 0} (first : World F) (statuses : List InputStatus) (so_far : List (Move × World F)) (one : Move × World F)
    → last_said first statuses (so_far ++ one ∷ []) ≡ said_after (last_world first so_far).device.live.rest one.0 (last_said first statuses so_far)
said_more first statuses [] one = refl
said_more first statuses (other ∷ so_far) one = said_more other.1 (said_after first.device.live.rest other.0 statuses) so_far one

said_as : (rest : Rest) (one : Move) (statuses : List InputStatus) → said_in rest (heard_with one) statuses ≡ said_after rest one statuses
said_as rest (move.Application (local.Status slot subslot is_good)) statuses = refl
said_as rest (move.Application other) statuses = refl
said_as rest other statuses = refl

none_related : (link : Option RelationState) → in_relation link None ≡ None
none_related None = refl
none_related (Some link) = refl

none_some : {A : Type 0} {P : Type 0} (y : A) → None ≡ Some y → P
none_some y e = absurd (no_some e)
  where
    no_some : None ≡ Some y → ⊥
    no_some e = cc

-- the values after a move
pub values_statuses : (next before : Option RelationState) (rest : Rest) (one : Move) (values : Values)
    → (values_after next before rest (heard_with one) values).statuses ≡ said_after rest one values.statuses
values_statuses None before rest one values = said_as rest one values.statuses
values_statuses (Some next) None rest one values = said_as rest one values.statuses
values_statuses (Some next) (Some link) rest (move.Application (local.Status slot subslot is_good)) values = refl
values_statuses (Some next) (Some link) rest (move.Application (local.Input slot subslot value)) values = refl
values_statuses (Some next) (Some link) rest (move.Application other) values = refl
values_statuses (Some next) (Some link) rest other values = refl

-- an input without a relation makes none
abbrev pub IsUnmade : Option RelationState → Option RelationState → Move → Type 0
IsUnmade next before (move.Application (local.Input slot subslot value)) = before ≡ None → next ≡ None
IsUnmade next before other = Unit {0}

left_none : (affected : Option Affected) (place : Place) → left_input affected place None ≡ None
left_none None place = refl
left_none (Some affected) place = by_covered (covers affected place.slot place.subslot)
  where
    by_covered : (b : Bool) → ◌≡◌ {A = Option (List ℕ)} (if b then None else None) None
    by_covered true = refl
    by_covered false = refl

given_first : (next : Option RelationState) (now : RelationState) (rest : Rest) (place : Place) (one : Move) (g : Option (List ℕ)) → next ≡ Some now → IsUnmade next None one → g ≡ None
    → None ≡ in_relation (Some now) (left_input (renewed_in rest (heard_with one)) place (input_by place one g))
given_first next now rest place (move.Application (local.Input slot subslot value)) g is unmade none = none_some now (sym (unmade refl) ∙ is)
given_first next now rest place (move.Application other) g is unmade none =
    sym (ap (λ (v : Option (List ℕ)). left_input (renewed_in rest (Applied other)) place v) none ∙ left_none (renewed_in rest (Applied other)) place)
given_first next now rest place other g is unmade none = sym none

pub values_given : (next before : Option RelationState) (rest : Rest) (one : Move) (values : Values) (place : Place) → IsUnmade next before one → (before ≡ None → values.given place ≡ None)
    → (values_after next before rest (heard_with one) values).given place ≡ in_relation next (left_input (renewed_in rest (heard_with one)) place (input_by place one (values.given place)))
values_given None before rest one values place unmade unrelated = refl
values_given (Some next) None rest one values place unmade unrelated = given_first (Some next) next rest place one (values.given place) refl unmade (unrelated refl)
values_given (Some next) (Some link) rest (move.Application (local.Input slot subslot value)) values place unmade unrelated = refl
values_given (Some next) (Some link) rest (move.Application (local.Status slot subslot is_good)) values place unmade unrelated = refl
values_given (Some next) (Some link) rest (move.Application other) values place unmade unrelated = refl
values_given (Some next) (Some link) rest other values place unmade unrelated = refl

-- ---- what is read of images

-- the first place of an input, and its cell
cell_place : (kind : PlaceKind) (station : Station) (plugs : PlugState) (statuses : List InputStatus) (place : Place) (given : Option (List ℕ)) → (cell_for kind station plugs statuses place given).place ≡ place
cell_place Data station plugs statuses place given = refl
cell_place Iocs station plugs statuses place given = refl

module _ {A : Type 0} (slot subslot : ℕ) (read : Cell → A) (f : Place → Cell) (said : Place → A) (at : (place : Place) → (f place).place ≡ place) where
  -- what is read of the cell of an input is what is said of its place
  abbrev IsReadSo : Place → Type 0
  IsReadSo place = is_of Data slot subslot place ≡ true → read (f place) ≡ said place

  read_at : (places : List Place) → AllByRecursion IsReadSo places → option_map read (cell_at Data slot subslot (map f places)) ≡ option_map said (place_at Data slot subslot places)
  read_at [] all = refl
  read_at (place ∷ places) all =
      ap (λ (p : Place). option_map read (cond (is_of Data slot subslot p) (Some (f place)) (cell_at Data slot subslot (map f places)))) (at place)
      ∙ by_test (is_of Data slot subslot place) refl (read_at places all.1)
    where
      by_test : (b : Bool) → is_of Data slot subslot place ≡ b → option_map read (cell_at Data slot subslot (map f places)) ≡ option_map said (place_at Data slot subslot places)
          → option_map read (cond b (Some (f place)) (cell_at Data slot subslot (map f places))) ≡ option_map said (cond b (Some place) (place_at Data slot subslot places))
      by_test true e rest = ap (λ (x : A). Some x) (all.0 e)
      by_test false e rest = rest

each_place : (P : Place → Type 0) → ((place : Place) → P place) → (places : List Place) → AllByRecursion P places
each_place P is [] = tt
each_place P is (place ∷ places) = (is place, each_place P is places)

zeros_long : (place : Place) (n : ℕ) → n ≡ place.size - 1 → replicate n 0 ≡ zeros_at place
zeros_long place n e = ap (λ (m : ℕ). replicate m 0) e

-- a value that was given fills its place
abbrev IsFit : Place → Option (List ℕ) → Type 0
IsFit place None = Unit {0}
IsFit place (Some value) = (place.size == length value + 1) ≡ true

fit_by : (place : Place) (one : Move) (last : Option (List ℕ)) → IsFit place last → IsFit place (input_by place one last)
fit_by place (move.Application (local.Input slot subslot value)) last fit = by_test ((place.slot == slot) && (place.subslot == subslot)) (place.size == length value.items + 1) refl
  where
    by_test : (b c : Bool) → (place.size == length value.items + 1) ≡ c → IsFit place (cond (b && c) (Some value.items) last)
    by_test true true e = e
    by_test true false e = fit
    by_test false c e = fit
fit_by place other last fit = fit

fit_related : (place : Place) (link : Option RelationState) (last : Option (List ℕ)) → IsFit place last → IsFit place (in_relation link last)
fit_related place None last fit = tt
fit_related place (Some link) last fit = fit

-- what was pulled or plugged has no input
fit_left : (affected : Option Affected) (place : Place) (last : Option (List ℕ)) → IsFit place last → IsFit place (left_input affected place last)
fit_left None place last fit = fit
fit_left (Some affected) place last fit = by_covered (covers affected place.slot place.subslot)
  where
    by_covered : (b : Bool) → IsFit place (if b then None else last)
    by_covered true = tt
    by_covered false = fit

all_fit : {F : Type 0} (place : Place) (first : World F) (last : Option (List ℕ)) (run : List (Move × World F)) → IsFit place last → IsFit place (last_input place first last run)
all_fit place first last [] fit = fit
all_fit place first last (one ∷ run) fit =
    let affected = renewed_in first.device.live.rest (heard_with one.0) in
    let given = left_input affected place (input_by place one.0 last) in
    all_fit place one.1 (in_relation one.1.device.live.rest.link given) run
    (fit_related place one.1.device.live.rest.link given (fit_left affected place (input_by place one.0 last) (fit_by place one.0 last fit)))

long_value : (place : Place) (given : Option (List ℕ)) → IsFit place given → length (value_or_zeros place given) ≡ place.size - 1
long_value place None fit = length-replicate {A = ℕ} (place.size - 1) 0
long_value place (Some value) fit = let size = eqb-true place.size (length value + 1) fit in omega (arith, size)

full_cell : (kind : PlaceKind) (station : Station) (plugs : PlugState) (statuses : List InputStatus) (place : Place) (given : Option (List ℕ)) → IsFit place given → IsFull (cell_for kind station plugs statuses place given)
full_cell Data station plugs statuses place given fit = long_value place given fit
full_cell Iocs station plugs statuses place given fit = length-replicate {A = ℕ} (place.size - 1) 0

-- ---- inputs that are zeros

get_zero : (n k : ℕ) → ◌≡◌ {A = ℕ} (get_or (replicate n 0) k 0) 0
get_zero zero k = refl
get_zero (suc n) zero = refl
get_zero (suc n) (suc k) = get_zero n k

none_shown : (n : ℕ) (place : Place) → IsInside n place → IsSolid place → output_of (cell_of (replicate n 0) place) ≡ zeros_at place
none_shown n place inside solid =
    let size : ℕ = place.size - 1 in
    let octets : List ℕ = replicate n 0 in
    let long : length octets ≡ n = length-replicate {A = ℕ} n 0 in
    let left : length (drop place.offset octets) ≡ length octets - place.offset = length-drop place.offset octets in
    let short : length (take size (drop place.offset octets)) ≡ size = length-take-le size (drop place.offset octets) (omega (arith, left, long, inside, solid)) in
    ap (λ (s : ℕ). if s == good then value_in octets place else replicate (length (value_in octets place)) 0) (get_zero n (place.offset + (place.size - 1)))
    ∙ zeros_long place (length (value_in octets place)) short

zero_shown : (place : Place) → output_of (zero_cell place) ≡ zeros_at place
zero_shown place = zeros_long place (length (zeros_at place)) (length-replicate {A = ℕ} (place.size - 1) 0)

twice_same : (octets : List ℕ) (places : List Place) → map (λ (cell : Cell). cell_of octets cell.place) (map zero_cell places) ≡ map (cell_of octets) places
twice_same octets [] = refl
twice_same octets (place ∷ places) = ap (λ (cs : List Cell). cell_of octets place ∷ cs) (twice_same octets places)

-- zeros, in either form, show zeros
pub zeros_shown : (setup : Setup) → ArePlaced setup → (taken : Image) → (taken ≡ zeros_for setup) ⊎ (taken ≡ with_frame (replicate (zeros_for setup).data_length 0) (zeros_for setup)) → (slot subslot : ℕ)
    → option_map output_of (cell_at Data slot subslot taken.cells) ≡ zero_for setup slot subslot
zeros_shown setup placed taken (inl same) slot subslot =
    ap (λ (i : Image). option_map output_of (cell_at Data slot subslot i.cells)) same
    ∙ read_at slot subslot output_of zero_cell zeros_at (λ place. refl) (places_for setup) (each_place (λ place. is_of Data slot subslot place ≡ true → output_of (zero_cell place) ≡ zeros_at place) (λ place e. zero_shown place) (places_for setup))
zeros_shown setup placed taken (inr same) slot subslot =
    let octets = replicate (zeros_for setup).data_length 0 in
    ap (λ (i : Image). option_map output_of (cell_at Data slot subslot i.cells)) same
    ∙ (ap (λ (cs : List Cell). option_map output_of (cell_at Data slot subslot cs)) (twice_same octets (places_for setup))
    ∙ read_at slot subslot output_of (cell_of octets) zeros_at (λ place. refl) (places_for setup) (each_inside (places_for setup) placed.inside placed.solid))
  where
    each_inside : (places : List Place) → AllByRecursion (IsInside (zeros_for setup).data_length) places → AllByRecursion IsSolid places
        → AllByRecursion (λ place. is_of Data slot subslot place ≡ true → output_of (cell_of (replicate (zeros_for setup).data_length 0) place) ≡ zeros_at place) places
    each_inside [] inside solid = tt
    each_inside (place ∷ places) inside solid = (λ e. none_shown (zeros_for setup).data_length place inside.0 solid.0, each_inside places inside.1 solid.1)

-- ---- the image of one frame

module _ (setup : Setup) (placed : ArePlaced setup) {F : Type 0} (first : World F) (run : List (Move × World F)) where
  abbrev cell_then : Place → Cell
  cell_then place = cell_for place.kind first.device.station (plugs_after first run) (statuses_after first run) place (last_input place first None run)

  then_place : (place : Place) → (cell_then place).place ≡ place
  then_place place = cell_place place.kind first.device.station (plugs_after first run) (statuses_after first run) place (last_input place first None run)

  then_places : (places : List Place) → map (λ (cell : Cell). cell.place) (map cell_then places) ≡ places
  then_places [] = refl
  then_places (place ∷ places) = ap (λ (p : Place). p ∷ map (λ (cell : Cell). cell.place) (map cell_then places)) (then_place place) ∙ ap (λ (ps : List Place). place ∷ ps) (then_places places)

  full_then : (places : List Place) → AllByRecursion IsFull (map cell_then places)
  full_then [] = tt
  full_then (place ∷ places) =
      (full_cell place.kind first.device.station (plugs_after first run) (statuses_after first run) place (last_input place first None run) (all_fit place first None run tt), full_then places)

  held_then : (octets : List ℕ) (places : List Place) → map (λ (cell : Cell). cell_of octets cell.place) (map zero_cell places) ≡ map (λ (cell : Cell). cell_of octets cell.place) (map cell_then places)
  held_then octets [] = refl
  held_then octets (place ∷ places) =
      ap (λ (p : Place). cell_of octets p ∷ map (λ (cell : Cell). cell_of octets cell.place) (map zero_cell places)) (sym (then_place place))
      ∙ ap (λ (cs : List Cell). cell_of octets (cell_then place).place ∷ cs) (held_then octets places)

  -- a controller that accepts the octets of the image shows it
  pub image_shown : with_frame (octets_of (image_given setup first run)) (zeros_for setup) ≡ image_given setup first run
  image_shown =
      let image = image_given setup first run in
      let places = places_for setup in
      let are : map (λ (cell : Cell). cell.place) (map cell_then places) ≡ places = then_places places in
      ap (λ (cs : List Cell). let i : Image = record { data_length = (zeros_for setup).data_length; cells = cs } in i)
      (held_then (octets_of image) places
      ∙ image_held image (subst (λ (ps : List Place). AreAllApart ps) (sym are) placed.apart)
      (subst (λ (ps : List Place). AllByRecursion (IsInside image.data_length) ps) (sym are) placed.inside)
      (subst (λ (ps : List Place). AllByRecursion IsSolid ps) (sym are) placed.solid) (full_then places))

  -- what is read of it
  iops_then : Place → ℕ
  iops_then place = iops_by (mark_for first.device.station (plugs_after first run) (statuses_after first run) place (last_input place first None run))

  value_as : (kind : PlaceKind) (place : Place) (at : Bool) → (is_same_kind Data kind && at) ≡ true
      → output_of (cell_for kind first.device.station (plugs_after first run) (statuses_after first run) place (last_input place first None run)) ≡ value_given setup first run place
  value_as Data place at e =
      ap (λ (n : ℕ). if iops_by (mark_for first.device.station (plugs_after first run) (statuses_after first run) place (last_input place first None run)) == good then value_or_zeros place (last_input place first None run) else replicate n 0)
      (long_value place (last_input place first None run) (all_fit place first None run tt))
  value_as Iocs place at e = absurd cc

  iops_as : (kind : PlaceKind) (place : Place) (at : Bool) → (is_same_kind Data kind && at) ≡ true
      → (cell_for kind first.device.station (plugs_after first run) (statuses_after first run) place (last_input place first None run)).status
      ≡ iops_by (mark_for first.device.station (plugs_after first run) (statuses_after first run) place (last_input place first None run))
  iops_as Data place at e = refl
  iops_as Iocs place at e = absurd cc

  pub values_shown : (slot subslot : ℕ) → option_map output_of (cell_at Data slot subslot (image_given setup first run).cells) ≡ given_for setup first run slot subslot
  values_shown slot subslot =
      read_at slot subslot output_of cell_then (value_given setup first run) then_place (places_for setup)
      (each_place (λ place. is_of Data slot subslot place ≡ true → output_of (cell_then place) ≡ value_given setup first run place) (λ place e. value_as place.kind place ((place.slot == slot) && (place.subslot == subslot)) e) (places_for setup))

  pub iops_shown : (slot subslot : ℕ) → option_map (λ (cell : Cell). cell.status) (cell_at Data slot subslot (image_given setup first run).cells) ≡ iops_for setup first run slot subslot
  iops_shown slot subslot =
      read_at slot subslot (λ (cell : Cell). cell.status) cell_then (λ place. iops_by (mark_for first.device.station (plugs_after first run) (statuses_after first run) place (last_input place first None run))) then_place (places_for setup)
      (each_place (λ place. is_of Data slot subslot place ≡ true → (cell_then place).status ≡ iops_by (mark_for first.device.station (plugs_after first run) (statuses_after first run) place (last_input place first None run)))
      (λ place e. iops_as place.kind place ((place.slot == slot) && (place.subslot == subslot)) e) (places_for setup))

-- the IOPS that a controller reports
abbrev status_in_cell : Cell → ℕ
status_in_cell cell = cell.status

pub reported_iops : (live : ControllerLive) → has_accepted live ≡ true → (slot subslot : ℕ)
    → option_map iops_in (provider_of live slot subslot) ≡ option_map (λ (cell : Cell). cell.status) (cell_at Data slot subslot live.cyclic.taken.cells)
reported_iops live has slot subslot = by_tests live.stands (is_some live.cyclic.hearing.last) has
  where
    by_cell : (cell : Option Cell) → option_map iops_in (option_map (status_with live.cyclic.data_status) cell) ≡ option_map status_in_cell cell
    by_cell (Some cell) = refl
    by_cell None = refl

    by_tests : (b c : Bool) → (b && c) ≡ true
        → option_map iops_in (cond b (cond c (option_map (status_with live.cyclic.data_status) (cell_at Data slot subslot live.cyclic.taken.cells)) None) None)
        ≡ option_map status_in_cell (cell_at Data slot subslot live.cyclic.taken.cells)
    by_tests true true e = by_cell (cell_at Data slot subslot live.cyclic.taken.cells)
    by_tests true false e = absurd cc
    by_tests false c e = absurd cc
