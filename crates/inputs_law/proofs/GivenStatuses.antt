-- After a status the inputs are those of the statuses that an application said.
use Rattle.std.proofs.Common.{◌≡◌, ◌==◌, ◌&&◌, ◌||◌, ◌++◌, ◌≤◌, ℕ, Bool, true, false, cond, List, [], ◌∷◌, length, map, Option, Some, None, refl, sym, ap, subst, ◌∙◌}
use Rattle.std.specs.Prelude.{not, nat_lt, is_some, option_map, if◌then◌else◌}
use Rattle.std.specs.List.{AllByRecursion, list_any}
use Rattle.std.proofs.lemmas.Bool.{and_parts, eqb-true, eq-eqb, true≢false}
use Rattle.pn_values.specs.declared.real.RealModule.{RealModule}
use Rattle.expected_places.specs.Machine.{PlugState}
use Rattle.module_diff.specs.Plugged.{submodule_ident}
use Rattle.cyclic_data.specs.declared.place.Place.{Place}
use Rattle.cyclic_data.specs.declared.place.PlaceKind.{PlaceKind}
use Rattle.cyclic_data.specs.declared.place.PlaceKind.TheVariants.{Data, Iocs}
use Rattle.cyclic_data.specs.Layout.{is_same_kind, times_listed}
use Rattle.cyclic_data.specs.Image.{Cell, changed_in, place_at, with_status}
use Rattle.relations.specs.declared.exchange.marks.Mark.{Mark}
use Rattle.relations.specs.declared.exchange.statuses.InputStatus.{InputStatus}
use Rattle.relations.specs.exchange.Marks.{change_by, iops_by, iops_of, mark_at, marked}
use Rattle.relations.specs.exchange.Statuses.{is_bad, is_for, replaced, statuses_at, statuses_with}
use Rattle.both_ends.proofs.ExchangeOutputsValues.{is_there, only_one}
use Rattle.inputs_law.proofs.GivenCells.{Becomes, Provided, Values, all_turned, becomes, cell_of_kind, cell_place, cell_with, cells_of, each, mark_found, mark_of_kind, mark_place, mark_with, marks_of, restate}

same_some : {A : Type 0} (x y : A) → Some x ≡ Some y → x ≡ y
same_some x y e = cc

false_or : (b : Bool) → (b || false) ≡ b
false_or true = refl
false_or false = refl

any_append : {A : Type 0} (p : A → Bool) (xs : List A) (x : A) → list_any p (xs ++ x ∷ []) ≡ (list_any p xs || p x)
any_append p [] x = false_or (p x)
any_append p (y ∷ xs) x = ap (λ (b : Bool). p y || b) (any_append p xs x) ∙ by_first (p y)
  where
    by_first : (b : Bool) → (b || (list_any p xs || p x)) ≡ ((b || list_any p xs) || p x)
    by_first true = refl
    by_first false = refl

-- ---- which inputs are bad

module _ (slot subslot : ℕ) (is_good : Bool) where
  abbrev said : InputStatus
  said = record { slot = slot; subslot = subslot; is_good = is_good }

  module _ (a b : ℕ) where
    abbrev here : Bool
    here = (slot == a) && (subslot == b)

    -- a status of the same submodule is one for it, and none is for another
    same_place : here ≡ true → (other : InputStatus) → is_for slot subslot other ≡ is_for a b other
    same_place e other =
        let both = and_parts (slot == a) (subslot == b) e in
        ap (λ (n : ℕ). (other.slot == n) && (other.subslot == subslot)) (eqb-true slot a both.0)
        ∙ ap (λ (n : ℕ). (other.slot == a) && (other.subslot == n)) (eqb-true subslot b both.1)

    other_place : here ≡ false → (other : InputStatus) → is_for slot subslot other ≡ true → is_for a b other ≡ false
    other_place e other t =
        let both = and_parts (other.slot == slot) (other.subslot == subslot) t in
        ap (λ (n : ℕ). (n == a) && (other.subslot == b)) (eqb-true other.slot slot both.0)
        ∙ (ap (λ (n : ℕ). (slot == a) && (n == b)) (eqb-true other.subslot subslot both.1) ∙ e)

    abbrev is_bad_at : InputStatus → Bool
    is_bad_at other = is_for a b other && not other.is_good

    abbrev replaced_by : InputStatus → InputStatus
    replaced_by other = if is_for slot subslot other then said else other

    -- another submodule
    same_item : here ≡ false → (other : InputStatus) → is_bad_at (replaced_by other) ≡ is_bad_at other
    same_item e other = by_test (is_for slot subslot other) refl
      where
        by_test : (c : Bool) → is_for slot subslot other ≡ c → is_bad_at (cond c said other) ≡ is_bad_at other
        by_test true t = ap (λ (h : Bool). h && not is_good) e ∙ sym (ap (λ (h : Bool). h && not other.is_good) (other_place e other t))
        by_test false t = refl

    same_all : here ≡ false → (statuses : List InputStatus) → is_bad a b (replaced said statuses) ≡ is_bad a b statuses
    same_all e [] = refl
    same_all e (other ∷ statuses) =
        ap (λ (c : Bool). c || is_bad a b (replaced said statuses)) (same_item e other) ∙ ap (λ (c : Bool). is_bad_at other || c) (same_all e statuses)

    -- this submodule
    now_all : here ≡ true → (statuses : List InputStatus) → is_bad a b (replaced said statuses) ≡ (list_any (is_for slot subslot) statuses && not is_good)
    now_all e [] = refl
    now_all e (other ∷ statuses) = ap (λ (c : Bool). is_bad_at (replaced_by other) || c) (now_all e statuses) ∙ by_test (is_for slot subslot other) refl
      where
        both : (c d : Bool) → (c || (d && c)) ≡ c
        both true d = refl
        both false true = refl
        both false false = refl

        by_test : (c : Bool) → is_for slot subslot other ≡ c
            → (is_bad_at (cond c said other) || (list_any (is_for slot subslot) statuses && not is_good)) ≡ ((c || list_any (is_for slot subslot) statuses) && not is_good)
        by_test true t =
            ap (λ (h : Bool). (h && not is_good) || (list_any (is_for slot subslot) statuses && not is_good)) e ∙ both (not is_good) (list_any (is_for slot subslot) statuses)
        by_test false t =
            ap (λ (h : Bool). (h && not other.is_good) || (list_any (is_for slot subslot) statuses && not is_good)) (sym (same_place e other) ∙ t)

    none_bad : here ≡ true → (statuses : List InputStatus) → list_any (is_for slot subslot) statuses ≡ false → is_bad a b statuses ≡ false
    none_bad e [] none = refl
    none_bad e (other ∷ statuses) none = by_test (is_for slot subslot other) refl none (λ rest. none_bad e statuses rest)
      where
        by_test : (c : Bool) → is_for slot subslot other ≡ c → (c || list_any (is_for slot subslot) statuses) ≡ false
            → (list_any (is_for slot subslot) statuses ≡ false → is_bad a b statuses ≡ false) → (is_bad_at other || is_bad a b statuses) ≡ false
        by_test true t none rest = absurd (true≢false none)
        by_test false t none rest = ap (λ (h : Bool). (h && not other.is_good) || is_bad a b statuses) (sym (same_place e other) ∙ t) ∙ rest none

    abbrev IsSaid : List InputStatus → List InputStatus → Type 0
    IsSaid statuses later = is_bad a b later ≡ cond here (not is_good) (is_bad a b statuses)

    replaced_said : (statuses : List InputStatus) → list_any (is_for slot subslot) statuses ≡ true → IsSaid statuses (replaced said statuses)
    replaced_said statuses some = by_test here refl
      where
        by_test : (c : Bool) → here ≡ c → is_bad a b (replaced said statuses) ≡ cond c (not is_good) (is_bad a b statuses)
        by_test true e = now_all e statuses ∙ ap (λ (c : Bool). c && not is_good) some
        by_test false e = same_all e statuses

    appended_said : (statuses : List InputStatus) → list_any (is_for slot subslot) statuses ≡ false → IsSaid statuses (statuses ++ said ∷ [])
    appended_said statuses none = any_append is_bad_at statuses said ∙ by_test here refl
      where
        by_test : (c : Bool) → here ≡ c → (is_bad a b statuses || (c && not is_good)) ≡ cond c (not is_good) (is_bad a b statuses)
        by_test true e = ap (λ (d : Bool). d || not is_good) (none_bad e statuses none)
        by_test false e = false_or (is_bad a b statuses)

    with_said : (statuses later : List InputStatus) → statuses_with said statuses ≡ Some later → IsSaid statuses later
    with_said statuses later is = by_any (list_any (is_for slot subslot) statuses) refl is
      where
        by_room : (c : Bool) → list_any (is_for slot subslot) statuses ≡ false → cond c (Some (statuses ++ said ∷ [])) None ≡ Some later → IsSaid statuses later
        by_room true none e = subst (λ (l : List InputStatus). IsSaid statuses l) (same_some (statuses ++ said ∷ []) later e) (appended_said statuses none)
        by_room false none e = absurd cc

        by_any : (c : Bool) → list_any (is_for slot subslot) statuses ≡ c → cond c (Some (replaced said statuses)) (cond (nat_lt (length statuses) 64) (Some (statuses ++ said ∷ [])) None) ≡ Some later → IsSaid statuses later
        by_any true some e = subst (λ (l : List InputStatus). IsSaid statuses l) (same_some (replaced said statuses) later e) (replaced_said statuses some)
        by_any false none e = by_room (nat_lt (length statuses) 64) none e

    pub said_at : (real : List RealModule) (statuses later : List InputStatus) → statuses_at real said statuses ≡ Some later → IsSaid statuses later
    said_at real statuses later is = by_plugged (is_some (submodule_ident real slot subslot)) is
      where
        by_plugged : (c : Bool) → cond c (statuses_with said statuses) None ≡ Some later → IsSaid statuses later
        by_plugged true e = with_said statuses later e
        by_plugged false e = absurd cc

  -- ---- the cells and the marks after it

  module _ (plugs : PlugState) (begin_bad : Bool) (others : Place → Bool) (real : List RealModule) (values : Values) (later : List InputStatus)
      (is : statuses_at real said values.statuses ≡ Some later) where
    abbrev stated : Values
    stated = record { given = values.given; statuses = later }

    abbrev bad_before : Place → Bool
    bad_before place = is_bad place.slot place.subslot values.statuses

    abbrev bad_after : Place → Bool
    bad_after place = is_bad place.slot place.subslot later

    swapped : (n m : ℕ) → (n == m) ≡ (m == n)
    swapped n m = by_test (n == m) (m == n) refl refl
      where
        by_test : (c d : Bool) → (n == m) ≡ c → (m == n) ≡ d → c ≡ d
        by_test true true e f = refl
        by_test true false e f = absurd (true≢false (sym (eq-eqb m n (sym (eqb-true n m e))) ∙ f))
        by_test false true e f = absurd (true≢false (sym (eq-eqb n m (sym (eqb-true m n f))) ∙ e))
        by_test false false e f = refl

    abbrev at_it : Place → Bool
    at_it place = (place.slot == slot) && (place.subslot == subslot)

    bad_is : (place : Place) → bad_after place ≡ cond (at_it place) (not is_good) (bad_before place)
    bad_is place =
        said_at place.slot place.subslot real values.statuses later is
        ∙ (ap (λ (c : Bool). cond (c && (subslot == place.subslot)) (not is_good) (bad_before place)) (swapped slot place.slot)
        ∙ ap (λ (c : Bool). cond ((place.slot == slot) && c) (not is_good) (bad_before place)) (swapped subslot place.subslot))

    abbrev marks_as : Place → Mark
    marks_as place = mark_with plugs begin_bad others values place

    abbrev marks_now : Place → Mark
    marks_now place = mark_with plugs begin_bad others stated place

    this_mark : (kind : PlaceKind) (place : Place) (given : Option (List ℕ)) (before at : Bool) → (is_same_kind Data kind && at) ≡ true
        → change_by (Some is_good) (mark_of_kind plugs begin_bad others kind place given before) ≡ mark_of_kind plugs begin_bad others kind place given (cond at (not is_good) before)
    this_mark Data place given before true e = refl
    this_mark Data place given before false e = absurd cc
    this_mark Iocs place given before at e = absurd cc

    that_mark : (kind : PlaceKind) (place : Place) (given : Option (List ℕ)) (before at : Bool) → (is_same_kind Data kind && at) ≡ false
        → mark_of_kind plugs begin_bad others kind place given before ≡ mark_of_kind plugs begin_bad others kind place given (cond at (not is_good) before)
    that_mark Data place given before true e = absurd cc
    that_mark Data place given before false e = refl
    that_mark Iocs place given before at e = refl

    mark_there : (place : Place) → is_there slot subslot place ≡ true → change_by (Some is_good) (marks_as place) ≡ marks_now place
    mark_there place t =
        this_mark place.kind place (values.given place) (bad_before place) (at_it place) t
        ∙ ap (λ (b : Bool). mark_of_kind plugs begin_bad others place.kind place (values.given place) b) (sym (bad_is place))

    mark_beside : (place : Place) → is_there slot subslot place ≡ false → marks_as place ≡ marks_now place
    mark_beside place t =
        that_mark place.kind place (values.given place) (bad_before place) (at_it place) t
        ∙ ap (λ (b : Bool). mark_of_kind plugs begin_bad others place.kind place (values.given place) b) (sym (bad_is place))

    abbrev MarkBecomes : Place → Type 0
    MarkBecomes place = Becomes (λ (m : Mark). m.place) slot subslot (change_by (Some is_good)) marks_as marks_now place

    marks_become : (places : List Place) → AllByRecursion MarkBecomes places
    marks_become [] = tt
    marks_become (place ∷ places) =
        (becomes (λ (m : Mark). m.place) slot subslot (change_by (Some is_good)) marks_as marks_now place (mark_there place) (mark_beside place), marks_become places)

    marks_stated : (places : List Place) → marked slot subslot (change_by (Some is_good)) (marks_of plugs begin_bad others values places) ≡ marks_of plugs begin_bad others stated places
    marks_stated places =
        all_turned (λ (m : Mark). m.place) slot subslot (change_by (Some is_good)) marks_as marks_now (mark_place plugs begin_bad others values) places (marks_become places)

    abbrev cells_as : Place → Cell
    cells_as place = cell_with plugs begin_bad others values place

    abbrev cells_now : Place → Cell
    cells_now place = cell_with plugs begin_bad others stated place

    -- the IOPS of the only place
    this_cell : (kind : PlaceKind) (place : Place) (given : Option (List ℕ)) (before after : ℕ) (at : Bool) → (is_same_kind Data kind && at) ≡ true
        → with_status after (cell_of_kind plugs begin_bad others kind place given before) ≡ cell_of_kind plugs begin_bad others kind place given after
    this_cell Data place given before after true e = refl
    this_cell Data place given before after false e = absurd cc
    this_cell Iocs place given before after at e = absurd cc

    abbrev iops_in : Option Place → ℕ
    iops_in found = iops_of (option_map marks_now found)

    abbrev CellBecomes : Option Place → Place → Type 0
    CellBecomes found place = Becomes (λ (c : Cell). c.place) slot subslot (with_status (iops_in found)) cells_as cells_now place

    cell_becomes : (found : Option Place) (place : Place) → (is_there slot subslot place ≡ true → found ≡ Some place) → CellBecomes found place
    cell_becomes found place only = becomes (λ (c : Cell). c.place) slot subslot (with_status (iops_in found)) cells_as cells_now place
        (λ t. this_cell place.kind place (values.given place) (iops_by (marks_as place)) (iops_in found) (at_it place) t
        ∙ ap (λ (f : Option Place). cell_of_kind plugs begin_bad others place.kind place (values.given place) (iops_in f)) (only t))
        (λ t. ap (λ (m : Mark). cell_of_kind plugs begin_bad others place.kind place (values.given place) (iops_by m)) (mark_beside place t))

    module _ (many : ℕ) (places : List Place) (once : times_listed Data slot subslot places ≤ 1) where
      abbrev having : List Cell → List Mark → Provided
      having cells marks = record { shown = record { data_length = many; cells = cells }; marks = marks }

      cells_stated : map (changed_in Data slot subslot (with_status (iops_in (place_at Data slot subslot places)))) (cells_of plugs begin_bad others values places) ≡ cells_of plugs begin_bad others stated places
      cells_stated =
          let found = place_at Data slot subslot places in
          all_turned (λ (c : Cell). c.place) slot subslot (with_status (iops_in found)) cells_as cells_now (cell_place plugs begin_bad others values) places
          (each (λ place. is_there slot subslot place ≡ true → found ≡ Some place) (CellBecomes found) (cell_becomes found) places (only_one slot subslot places once))

      pub stated_values : restate slot subslot (Some is_good) (having (cells_of plugs begin_bad others values places) (marks_of plugs begin_bad others values places))
          ≡ having (cells_of plugs begin_bad others stated places) (marks_of plugs begin_bad others stated places)
      stated_values =
          ap (λ (ms : List Mark). having (map (changed_in Data slot subslot (with_status (iops_of (mark_at slot subslot ms)))) (cells_of plugs begin_bad others values places)) ms) (marks_stated places)
          ∙ (ap (λ (m : Option Mark). having (map (changed_in Data slot subslot (with_status (iops_of m))) (cells_of plugs begin_bad others values places)) (marks_of plugs begin_bad others stated places))
          (mark_found plugs begin_bad others slot subslot marks_now (mark_place plugs begin_bad others stated) places)
          ∙ ap (λ (cs : List Cell). having cs (marks_of plugs begin_bad others stated places)) cells_stated)
