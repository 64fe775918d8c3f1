-- The IOPS and IOCS of places that differ or are touched, while modules come and go.
use Rattle.std.proofs.Common.{◌≡◌, inl, inr, ◌==◌, ◌&&◌, ◌||◌, ◌++◌, ℕ, Bool, true, false, not, cond, List, [], ◌∷◌, map, Option, Some, None, option_map, unwrap_or, refl, sym, ap, subst, ◌∙◌, arith}
use Rattle.std.specs.List.{find}
use Rattle.std.proofs.lemmas.Bool.{and_from, and_parts, cases_Bool, eq-eqb, eqb-true, false≢true}
use Rattle.wire.specs.blocks.modules.Lists.{Listed}
use Rattle.connect_blocks.specs.declared.expected.ExpectedSubmodule.{ExpectedSubmodule}
use Rattle.connect_blocks.specs.declared.module_diff.DiffModule.{DiffModule}
use Rattle.connect_blocks.specs.declared.module_diff.DiffSubmodule.{DiffSubmodule}
use Rattle.connects.specs.requests.Request.{Request}
use Rattle.module_diff.specs.declared.changes.Affected.{Affected}
use Rattle.module_diff.specs.declared.expected.Expected.{Expected}
use Rattle.module_diff.specs.Changes.{affected_by, covers}
use Rattle.module_diff.specs.Diff.{Wanted, is_listed, wanted_in}
use Rattle.cyclic_data.specs.declared.place.Place.{Place}
use Rattle.cyclic_data.specs.declared.place.PlaceKind.{PlaceKind}
use Rattle.cyclic_data.specs.declared.place.PlaceKind.TheVariants.{Data, Iocs}
use Rattle.cyclic_data.specs.Image.{Cell, cell_at, changed_in, good, place_at as cyclic_place}
use Rattle.cyclic_data.specs.Layout.{is_of}
use Rattle.cyclic_data.specs.exchange.Cyclic.{Cyclic}
use Rattle.cyclic_data.specs.exchange.Opening.{cleared, cleared_cell, stated_cell}
use Rattle.diagnosis.specs.declared.queue.LowChange.{LowChange}
use Rattle.diagnosis.specs.declared.queue.LowChange.TheVariants as low
use Rattle.diagnosis.specs.declared.queue.QueuedAlarm.{QueuedAlarm}
use Rattle.diagnosis.specs.Queue.{is_plug, waits_for_plug}
use Rattle.expected_places.specs.declared.calls.PlugCall.{PlugCall}
use Rattle.expected_places.specs.declared.place.ExpectedPlace.{ExpectedPlace}
use Rattle.expected_places.specs.declared.place.Step.{Step}
use Rattle.expected_places.specs.declared.place.Step.TheVariants.{Settled}
use Rattle.expected_places.specs.declared.place.Step.TheVariants as at
use Rattle.expected_places.specs.Machine.{PlugState, answered, answered_by, ended, ended_at, is_differing, opened as plugs_opened, told, touches}
use Rattle.expected_places.specs.Places.{first_place, first_told, is_for, is_plugged, is_plugged_step, is_told_with, is_touched, opened_places, place_at, places_of, restated_place, stepped, touched_place}
use Rattle.relations.specs.declared.exchange.marks.Mark.{Mark}
use Rattle.relations.specs.declared.plugging.PlugAnswer.{PlugAnswer}
use Rattle.relations.specs.declared.plugging.PlugAnswer.TheVariants as answer
use Rattle.relations.specs.Plugging.{flow_answered, plugs_answered, plugs_changed, plugs_told}
use Rattle.relations.specs.exchange.Diagnosis.{with_low}
use Rattle.relations.specs.exchange.Flow.{Flow}
use Rattle.relations.specs.exchange.Marks.{Starting, first_mark, iops_by, iops_of, mark_at}
use Rattle.relations.specs.exchange.Modules.{all_cleared, cleared_at, is_shut, renewed, renewed_mark, renewed_marks, restated_flow, restated_mark, restated_marks, stated_of}
use Rattle.relations.specs.exchange.Opening.{first_cell, first_marks, opened, statuses_of}
use Rattle.relations.specs.exchange.Runs.{Event}
use Rattle.relations.specs.exchange.Shut.{Moment, Alone, Changes, Tells, Ends, Calls, Hears, AreConsumedWhereOpen, AreEachOnce, AreGoodWhereOpen, all_past, all_places, flow_past, places_past}
use Rattle.relations.proofs.ExchangeInputs.{AreTied, cell_in, cells_changed, first_cell_at, first_mark_at, found_is, goes, iocs_in, iocs_with, is_same, mark_in, mark_with, of_parts, opened_tied, same_data, same_iocs, status_tied}

-- The mark of a place says that it is not valid; there is no good IOPS without a mark.
abbrev is_shut_mark : Option Mark → Bool
is_shut_mark None = true
is_shut_mark (Some mark) = mark.differs || mark.is_touched

abbrev cell_place : Option Cell → Option Place
cell_place cell = option_map (λ (c : Cell). c.place) cell

abbrev mark_place : Option Mark → Option Place
mark_place mark = option_map (λ (m : Mark). m.place) mark

some_place : (x y : Place) → Some x ≡ Some y → x ≡ y
some_place x y e = cc

some_cell : (x y : Cell) → Some x ≡ Some y → x ≡ y
some_cell x y e = cc

some_number : (x y : ℕ) → Some x ≡ Some y → x ≡ y
some_number x y e = cc

some_mark : (x y : Mark) → Some x ≡ Some y → x ≡ y
some_mark x y e = cc

some_expected : (x y : ExpectedPlace) → Some x ≡ Some y → x ≡ y
some_expected x y e = cc

-- ---- places

-- A change of places that keeps each slot and subslot.
record Keeps (f : ExpectedPlace → ExpectedPlace) : Type 0 where
  slot_is : (place : ExpectedPlace) → (f place).slot ≡ place.slot
  subslot_is : (place : ExpectedPlace) → (f place).subslot ≡ place.subslot

for_kept : (f : ExpectedPlace → ExpectedPlace) → Keeps f → (s ss : ℕ) (place : ExpectedPlace) → is_for s ss (f place) ≡ is_for s ss place
for_kept f keeps s ss place =
    ap (λ (n : ℕ). (n == s) && ((f place).subslot == ss)) (keeps.slot_is place) ∙ ap (λ (n : ℕ). (place.slot == s) && (n == ss)) (keeps.subslot_is place)

one_place : (s ss : ℕ) (f : ExpectedPlace → ExpectedPlace) (place : ExpectedPlace) (places : List ExpectedPlace) → place_at s ss (map f places) ≡ option_map f (place_at s ss places)
    → (b : Bool) → cond b (Some (f place)) (place_at s ss (map f places)) ≡ option_map f (cond b (Some place) (place_at s ss places))
one_place s ss f place places rest true = refl
one_place s ss f place places rest false = rest

place_mapped : (f : ExpectedPlace → ExpectedPlace) → Keeps f → (s ss : ℕ) (places : List ExpectedPlace) → place_at s ss (map f places) ≡ option_map f (place_at s ss places)
place_mapped f keeps s ss [] = refl
place_mapped f keeps s ss (place ∷ places) =
    ap (λ (b : Bool). cond b (Some (f place)) (place_at s ss (map f places))) (for_kept f keeps s ss place)
    ∙ one_place s ss f place places (place_mapped f keeps s ss places) (is_for s ss place)

once_mapped : (f : ExpectedPlace → ExpectedPlace) → Keeps f → (places : List ExpectedPlace) → AreEachOnce places → AreEachOnce (map f places)
once_mapped f keeps [] once = tt
once_mapped f keeps (place ∷ places) once = (
  ap (λ (n : ℕ). place_at n (f place).subslot (map f places)) (keeps.slot_is place)
      ∙ (ap (λ (n : ℕ). place_at place.slot n (map f places)) (keeps.subslot_is place)
      ∙ (place_mapped f keeps place.slot place.subslot places ∙ ap (λ (o : Option ExpectedPlace). option_map f o) once.0)),
  once_mapped f keeps places once.1,
)

slot_if : (b : Bool) (step : Step) (place : ExpectedPlace) → (cond b (record place { step = step }) place).slot ≡ place.slot
slot_if true step place = refl
slot_if false step place = refl

subslot_if : (b : Bool) (step : Step) (place : ExpectedPlace) → (cond b (record place { step = step }) place).subslot ≡ place.subslot
subslot_if true step place = refl
subslot_if false step place = refl

touch_keeps : (affected : Affected) (step : Step) → Keeps (touched_place affected step)
touch_keeps affected step = record {
  slot_is = λ place. slot_if (covers affected place.slot place.subslot) step place;
  subslot_is = λ place. subslot_if (covers affected place.slot place.subslot) step place;
}

once_touched : (affected : Affected) (step : Step) (places : List ExpectedPlace) → AreEachOnce places → AreEachOnce (map (touched_place affected step) places)
once_touched affected step places once = once_mapped (touched_place affected step) (touch_keeps affected step) places once

restate_keeps : (rows : Listed DiffModule DiffSubmodule) → Keeps (restated_place rows)
restate_keeps rows = record { slot_is = λ place. refl; subslot_is = λ place. refl }

-- What is found passes the test.
found_if : (test : ExpectedPlace → Bool) (one : ExpectedPlace) (places : List ExpectedPlace) (place : ExpectedPlace) → (find test places ≡ Some place → test place ≡ true)
    → (b : Bool) → test one ≡ b → cond b (Some one) (find test places) ≡ Some place → test place ≡ true
found_if test one places place later true t f = subst (λ (p : ExpectedPlace). test p ≡ true) (some_expected one place f) t
found_if test one places place later false t f = later f

found_passes : (test : ExpectedPlace → Bool) (places : List ExpectedPlace) (place : ExpectedPlace) → find test places ≡ Some place → test place ≡ true
found_passes test [] place e = absurd cc
found_passes test (one ∷ places) place e = found_if test one places place (found_passes test places place) (test one) refl e

-- The first place whose alarm has a number is the only one in its slot and subslot.
its_own : (place : ExpectedPlace) → is_for place.slot place.subslot place ≡ true
its_own place = and_from _ _ (eq-eqb place.slot place.slot refl) (eq-eqb place.subslot place.subslot refl)

none_some : (found : Option ExpectedPlace) (place : ExpectedPlace) → found ≡ None → found ≡ Some place → ⊥
none_some found place none some = cc (none, some)

not_two : (one : ExpectedPlace) (places : List ExpectedPlace) (place : ExpectedPlace) → place_at one.slot one.subslot places ≡ None → place_at place.slot place.subslot places ≡ Some place
    → (b : Bool) → is_for place.slot place.subslot one ≡ b → cond b (Some one) (place_at place.slot place.subslot places) ≡ Some place
not_two one places place none is true t =
    let both = and_parts (one.slot == place.slot) (one.subslot == place.subslot) t in
    let same : place_at one.slot one.subslot places ≡ Some place =
    ap (λ (n : ℕ). place_at n one.subslot places) (eqb-true one.slot place.slot both.0)
    ∙ (ap (λ (n : ℕ). place_at place.slot n places) (eqb-true one.subslot place.subslot both.1) ∙ is) in
    absurd (none_some (place_at one.slot one.subslot places) place none same)
not_two one places place none is false t = is

told_if : (number : ℕ) (one : ExpectedPlace) (places : List ExpectedPlace) (place : ExpectedPlace) → place_at one.slot one.subslot places ≡ None
    → (first_told number places ≡ Some place → place_at place.slot place.subslot places ≡ Some place)
    → (b : Bool) → cond b (Some one) (first_told number places) ≡ Some place → place_at place.slot place.subslot (one ∷ places) ≡ Some place
told_if number one places place none later true e =
    subst (λ (p : ExpectedPlace). place_at p.slot p.subslot (one ∷ places) ≡ Some p) (some_expected one place e)
    (ap (λ (b : Bool). cond b (Some one) (place_at one.slot one.subslot places)) (its_own one))
told_if number one places place none later false e = not_two one places place none (later e) (is_for place.slot place.subslot one) refl

told_alone : (number : ℕ) (places : List ExpectedPlace) (place : ExpectedPlace) → AreEachOnce places → first_told number places ≡ Some place
    → place_at place.slot place.subslot places ≡ Some place
told_alone number [] place once e = absurd cc
told_alone number (one ∷ places) place once e =
    told_if number one places place once.0 (told_alone number places place once.1) (is_told_with number one.step) e

step_told : (number : ℕ) (step : Step) → is_told_with number step ≡ true → is_touched step ≡ true
step_told number Settled is = absurd (false≢true is)
step_told number at.Pulled is = refl
step_told number at.Plugged is = refl
step_told number (at.Told other) is = refl
step_told number (at.Ended other) is = refl
step_told number at.Refused is = refl

step_plugged : (step : Step) → is_plugged_step step ≡ true → is_touched step ≡ true
step_plugged Settled is = absurd (false≢true is)
step_plugged at.Pulled is = refl
step_plugged at.Plugged is = refl
step_plugged (at.Told other) is = refl
step_plugged (at.Ended other) is = refl
step_plugged at.Refused is = refl

plugged_touches : (found : Option ExpectedPlace) → is_plugged found ≡ true → touches found ≡ true
plugged_touches None is = absurd (false≢true is)
plugged_touches (Some place) is = step_plugged place.step is

or_true : (a b : Bool) → b ≡ true → (a || b) ≡ true
or_true true b h = refl
or_true false b h = h

-- Its data is not valid.
abbrev shut_in : Option ExpectedPlace → Bool
shut_in found = is_differing found || touches found

abbrev only : ℕ → ℕ → Affected
only of_slot of_subslot = record { slot = of_slot; subslot = Some of_subslot }

-- ---- each place once

once_told : (b c : Bool) (of_slot of_subslot number : ℕ) (plugs : PlugState) (has_told : Bool) → AreEachOnce plugs.places
    → AreEachOnce (cond b (record plugs { places = cond c (stepped of_slot of_subslot (at.Told number) plugs.places) plugs.places; has_told = has_told }) plugs).places
once_told true true of_slot of_subslot number plugs has_told once = once_touched (only of_slot of_subslot) (at.Told number) plugs.places once
once_told true false of_slot of_subslot number plugs has_told once = once
once_told false c of_slot of_subslot number plugs has_told once = once

once_tells : (change : LowChange) (number : ℕ) (waiting : List QueuedAlarm) (plugs : PlugState) → AreEachOnce plugs.places
    → AreEachOnce (plugs_told change number waiting plugs).places
once_tells (low.Diagnosis made) number waiting plugs once = once
once_tells (low.Module made) number waiting plugs once =
    once_told (is_plug made.kind) (not (waits_for_plug made.slot made.subslot waiting) && is_plugged (place_at made.slot made.subslot plugs.places)) made.slot made.subslot number plugs true once

once_ends : (number : ℕ) (is_ready : Bool) (plugs : PlugState) → AreEachOnce plugs.places → (found : Option ExpectedPlace)
    → AreEachOnce (unwrap_or (option_map (ended_at number is_ready plugs) found) plugs).places
once_ends number is_ready plugs once None = once
once_ends number is_ready plugs once (Some place) = once_touched (only place.slot place.subslot) (at.Ended number) plugs.places once

once_answered : (is_positive : Bool) (plugs : PlugState) → AreEachOnce plugs.places → (call : Option PlugCall) → AreEachOnce (answered_by is_positive plugs call).places
once_answered is_positive plugs once None = once
once_answered is_positive plugs once (Some call) = once_touched (only call.slot call.subslot) _ plugs.places once

module _ (slot subslot : ℕ) where
  -- ---- what is found after a change that keeps places

  one_cell : (kind : PlaceKind) (f : Cell → Cell) (cell : Cell) (cells : List Cell)
      → cell_at kind slot subslot (map f cells) ≡ option_map f (cell_at kind slot subslot cells)
      → (b : Bool) → cond b (Some (f cell)) (cell_at kind slot subslot (map f cells)) ≡ option_map f (cond b (Some cell) (cell_at kind slot subslot cells))
  one_cell kind f cell cells rest true = refl
  one_cell kind f cell cells rest false = rest

  mapped_cell : (kind : PlaceKind) (f : Cell → Cell) → ((cell : Cell) → (f cell).place ≡ cell.place) → (cells : List Cell)
      → cell_at kind slot subslot (map f cells) ≡ option_map f (cell_at kind slot subslot cells)
  mapped_cell kind f keeps [] = refl
  mapped_cell kind f keeps (cell ∷ cells) =
      ap (λ (p : Place). cond (is_of kind slot subslot p) (Some (f cell)) (cell_at kind slot subslot (map f cells))) (keeps cell)
      ∙ one_cell kind f cell cells (mapped_cell kind f keeps cells) (is_of kind slot subslot cell.place)

  one_mark : (f : Mark → Mark) (mark : Mark) (marks : List Mark) → mark_at slot subslot (map f marks) ≡ option_map f (mark_at slot subslot marks)
      → (b : Bool) → cond b (Some (f mark)) (mark_at slot subslot (map f marks)) ≡ option_map f (cond b (Some mark) (mark_at slot subslot marks))
  one_mark f mark marks rest true = refl
  one_mark f mark marks rest false = rest

  mapped_mark : (f : Mark → Mark) → ((mark : Mark) → (f mark).place ≡ mark.place) → (marks : List Mark)
      → mark_at slot subslot (map f marks) ≡ option_map f (mark_at slot subslot marks)
  mapped_mark f keeps [] = refl
  mapped_mark f keeps (mark ∷ marks) =
      ap (λ (p : Place). cond (is_of Data slot subslot p) (Some (f mark)) (mark_at slot subslot (map f marks))) (keeps mark)
      ∙ one_mark f mark marks (mapped_mark f keeps marks) (is_of Data slot subslot mark.place)

  -- What is found is of the submodule.
  found_one : (kind : PlaceKind) (one : Cell) (cells : List Cell) (cell : Cell) → (cell_at kind slot subslot cells ≡ Some cell → is_of kind slot subslot cell.place ≡ true)
      → (b : Bool) → is_of kind slot subslot one.place ≡ b → cond b (Some one) (cell_at kind slot subslot cells) ≡ Some cell → is_of kind slot subslot cell.place ≡ true
  found_one kind one cells cell later true t f = subst (λ (c : Cell). is_of kind slot subslot c.place ≡ true) (some_cell one cell f) t
  found_one kind one cells cell later false t f = later f

  found_cell : (kind : PlaceKind) (cells : List Cell) (cell : Cell) → cell_at kind slot subslot cells ≡ Some cell → is_of kind slot subslot cell.place ≡ true
  found_cell kind [] cell e = absurd cc
  found_cell kind (one ∷ cells) cell e = found_one kind one cells cell (found_cell kind cells cell) (is_of kind slot subslot one.place) refl e

  marked_one : (one : Mark) (marks : List Mark) (mark : Mark) → (mark_at slot subslot marks ≡ Some mark → is_of Data slot subslot mark.place ≡ true)
      → (b : Bool) → is_of Data slot subslot one.place ≡ b → cond b (Some one) (mark_at slot subslot marks) ≡ Some mark → is_of Data slot subslot mark.place ≡ true
  marked_one one marks mark later true t f = subst (λ (m : Mark). is_of Data slot subslot m.place ≡ true) (some_mark one mark f) t
  marked_one one marks mark later false t f = later f

  found_mark : (marks : List Mark) (mark : Mark) → mark_at slot subslot marks ≡ Some mark → is_of Data slot subslot mark.place ≡ true
  found_mark [] mark e = absurd cc
  found_mark (one ∷ marks) mark e = marked_one one marks mark (found_mark marks mark) (is_of Data slot subslot one.place) refl e

  -- ---- IOPS and IOCS follow the places

  stated_is : (plugs : PlugState) (marks : List Mark) (mark : Mark) → mark_at slot subslot marks ≡ Some mark
      → (kind : PlaceKind) (s ss : ℕ) → kind ≡ Data → s ≡ slot → ss ≡ subslot → stated_of plugs marks kind s ss ≡ iops_by mark
  stated_is plugs marks mark is kind s ss k e f =
      ap (λ (x : PlaceKind). stated_of plugs marks x s ss) k
      ∙ (ap (λ (n : ℕ). iops_of (mark_at n ss marks)) e ∙ (ap (λ (n : ℕ). iops_of (mark_at slot n marks)) f ∙ ap iops_of is))

  tied_to : (plugs : PlugState) (marks : List Mark) (cell : Option Cell) (mark : Option Mark)
      → ((c : Cell) → cell ≡ Some c → is_of Data slot subslot c.place ≡ true) → mark_at slot subslot marks ≡ option_map (restated_mark plugs) mark
      → cell_place cell ≡ mark_place mark
      → AreTied slot subslot (option_map (stated_cell (stated_of plugs marks)) cell) (option_map (restated_mark plugs) mark)
  tied_to plugs marks None None own is paired = tt
  tied_to plugs marks None (Some mark) own is paired = absurd (let no = paired in cc)
  tied_to plugs marks (Some cell) None own is paired = absurd (let no = paired in cc)
  tied_to plugs marks (Some cell) (Some mark) own is paired =
      let parts = of_parts Data slot subslot cell.place (own cell refl) in (
        some_place cell.place mark.place paired,
        stated_is plugs marks (restated_mark plugs mark) is cell.place.kind cell.place.slot cell.place.subslot (same_data cell.place.kind parts.0) parts.1 parts.2,
      )

  marks_follow : (plugs : PlugState) (flow : Flow) → mark_in slot subslot (restated_flow plugs flow) ≡ option_map (restated_mark plugs) (mark_in slot subslot flow)
  marks_follow plugs flow = mapped_mark (restated_mark plugs) (λ m. refl) flow.marks

  restated_tied : (plugs : PlugState) (flow : Flow) → cell_place (cell_in slot subslot flow) ≡ mark_place (mark_in slot subslot flow)
      → AreTied slot subslot (cell_in slot subslot (restated_flow plugs flow)) (mark_in slot subslot (restated_flow plugs flow))
  restated_tied plugs flow paired =
      let marks = restated_marks plugs flow.marks in
      let now = restated_flow plugs flow in
      subst (λ (c : Option Cell). AreTied slot subslot c (mark_in slot subslot now)) (sym (mapped_cell Data (stated_cell (stated_of plugs marks)) (λ c. refl) flow.cyclic.shown.cells))
      (subst (λ (m : Option Mark). AreTied slot subslot (option_map (stated_cell (stated_of plugs marks)) (cell_in slot subslot flow)) m) (sym (marks_follow plugs flow))
      (tied_to plugs marks (cell_in slot subslot flow) (mark_in slot subslot flow) (found_cell Data flow.cyclic.shown.cells) (marks_follow plugs flow) paired))

  shut_to : (plugs : PlugState) (mark : Option Mark) → ((m : Mark) → mark ≡ Some m → is_of Data slot subslot m.place ≡ true) → is_shut plugs slot subslot ≡ true
      → is_shut_mark (option_map (restated_mark plugs) mark) ≡ true
  shut_to plugs None own shut = refl
  shut_to plugs (Some mark) own shut =
      let parts = of_parts Data slot subslot mark.place (own mark refl) in
      ap (λ (n : ℕ). is_shut plugs n mark.place.subslot) parts.1 ∙ (ap (λ (n : ℕ). is_shut plugs slot n) parts.2 ∙ shut)

  restated_shut : (plugs : PlugState) (flow : Flow) → is_shut plugs slot subslot ≡ true → is_shut_mark (mark_in slot subslot (restated_flow plugs flow)) ≡ true
  restated_shut plugs flow shut = ap is_shut_mark (marks_follow plugs flow) ∙ shut_to plugs (mark_in slot subslot flow) (found_mark flow.marks) shut

  -- ---- the inputs of affected places begin again

  changed_place : (b : Bool) (cell : Option Cell) → cell_place (option_map (λ (c : Cell). cond b (cleared_cell c) c) cell) ≡ cell_place cell
  changed_place b None = refl
  changed_place true (Some cell) = refl
  changed_place false (Some cell) = refl

  cleared_place : (to_slot to_subslot : ℕ) (cells : List Cell)
      → cell_place (cell_at Data slot subslot (map (changed_in Data to_slot to_subslot cleared_cell) cells)) ≡ cell_place (cell_at Data slot subslot cells)
  cleared_place to_slot to_subslot cells =
      ap cell_place (cells_changed slot subslot to_slot to_subslot cleared_cell (λ c. refl) cells)
      ∙ changed_place (is_same slot subslot to_slot to_subslot) (cell_at Data slot subslot cells)

  one_cleared : (b : Bool) (to_slot to_subslot : ℕ) (cyclic : Cyclic)
      → cell_place (cell_at Data slot subslot (cond b (cleared to_slot to_subslot cyclic) cyclic).shown.cells) ≡ cell_place (cell_at Data slot subslot cyclic.shown.cells)
  one_cleared true to_slot to_subslot cyclic = cleared_place to_slot to_subslot cyclic.shown.cells
  one_cleared false to_slot to_subslot cyclic = refl

  cleared_places : (affected : Affected) (marks : List Mark) (cyclic : Cyclic)
      → cell_place (cell_at Data slot subslot (all_cleared affected marks cyclic).shown.cells) ≡ cell_place (cell_at Data slot subslot cyclic.shown.cells)
  cleared_places affected [] cyclic = refl
  cleared_places affected (mark ∷ marks) cyclic =
      cleared_places affected marks (cleared_at affected cyclic mark)
      ∙ one_cleared (covers affected mark.place.slot mark.place.subslot) mark.place.slot mark.place.subslot cyclic

  renewed_if : (b begin_bad : Bool) (mark : Mark) → (cond b (record mark { is_awaited = begin_bad; is_bad = false }) mark).place ≡ mark.place
  renewed_if true begin_bad mark = refl
  renewed_if false begin_bad mark = refl

  renewed_keeps : (affected : Affected) (begin_bad : Bool) (mark : Mark) → (renewed_mark affected begin_bad mark).place ≡ mark.place
  renewed_keeps affected begin_bad mark = renewed_if (covers affected mark.place.slot mark.place.subslot) _ mark

  renewed_place : (affected : Affected) (begin_bad : Bool) (mark : Option Mark) → mark_place (option_map (renewed_mark affected begin_bad) mark) ≡ mark_place mark
  renewed_place affected begin_bad None = refl
  renewed_place affected begin_bad (Some mark) = ap (λ (p : Place). Some p) (renewed_keeps affected begin_bad mark)

  renewed_paired : (affected : Affected) (begin_bad : Bool) (flow : Flow) → cell_place (cell_in slot subslot flow) ≡ mark_place (mark_in slot subslot flow)
      → cell_place (cell_in slot subslot (renewed affected begin_bad flow)) ≡ mark_place (mark_in slot subslot (renewed affected begin_bad flow))
  renewed_paired affected begin_bad flow paired =
      cleared_places affected (renewed_marks affected begin_bad flow.marks) flow.cyclic
      ∙ (paired
      ∙ sym (ap mark_place (mapped_mark (renewed_mark affected begin_bad) (renewed_keeps affected begin_bad) flow.marks)
      ∙ renewed_place affected begin_bad (mark_in slot subslot flow)))

  -- ---- a place that was touched goes on: none is shut by that

  place_opens : (of_slot of_subslot : ℕ) (step : Step) (places : List ExpectedPlace) (place : ExpectedPlace) → place_at slot subslot places ≡ Some place
      → touches (place_at of_slot of_subslot places) ≡ true → (b : Bool) → covers (only of_slot of_subslot) place.slot place.subslot ≡ b
      → shut_in (Some (cond b (record place { step = step }) place)) ≡ true → shut_in (Some place) ≡ true
  place_opens of_slot of_subslot step places place is touched true e shut =
      let of = and_parts (of_slot == place.slot) (of_subslot == place.subslot) e in
      let own = and_parts (place.slot == slot) (place.subslot == subslot) (found_passes (is_for slot subslot) places place is) in
      let slot_is : of_slot ≡ slot = eqb-true of_slot place.slot of.0 ∙ eqb-true place.slot slot own.0 in
      let subslot_is : of_subslot ≡ subslot = eqb-true of_subslot place.subslot of.1 ∙ eqb-true place.subslot subslot own.1 in
      let same : place_at of_slot of_subslot places ≡ Some place =
      ap (λ (n : ℕ). place_at n of_subslot places) slot_is ∙ (ap (λ (n : ℕ). place_at slot n places) subslot_is ∙ is) in
      or_true place.differs (is_touched place.step) (sym (ap touches same) ∙ touched)
  place_opens of_slot of_subslot step places place is touched false e shut = shut

  found_opens : (of_slot of_subslot : ℕ) (step : Step) (places : List ExpectedPlace) → touches (place_at of_slot of_subslot places) ≡ true
      → (found : Option ExpectedPlace) → place_at slot subslot places ≡ found
      → shut_in (option_map (touched_place (only of_slot of_subslot) step) found) ≡ true → shut_in found ≡ true
  found_opens of_slot of_subslot step places touched None is shut = shut
  found_opens of_slot of_subslot step places touched (Some place) is shut =
      place_opens of_slot of_subslot step places place is touched (covers (only of_slot of_subslot) place.slot place.subslot) refl shut

  stepped_opens : (of_slot of_subslot : ℕ) (step : Step) (places : List ExpectedPlace) → touches (place_at of_slot of_subslot places) ≡ true
      → shut_in (place_at slot subslot (stepped of_slot of_subslot step places)) ≡ true → shut_in (place_at slot subslot places) ≡ true
  stepped_opens of_slot of_subslot step places touched shut =
      found_opens of_slot of_subslot step places touched (place_at slot subslot places) refl
      (ap shut_in (sym (place_mapped (touched_place (only of_slot of_subslot) step) (touch_keeps (only of_slot of_subslot) step) slot subslot places)) ∙ shut)

  told_opens : (of_slot of_subslot number : ℕ) (is_last : Bool) (places : List ExpectedPlace) (b : Bool) → (is_last && is_plugged (place_at of_slot of_subslot places)) ≡ b
      → shut_in (place_at slot subslot (cond b (stepped of_slot of_subslot (at.Told number) places) places)) ≡ true → shut_in (place_at slot subslot places) ≡ true
  told_opens of_slot of_subslot number is_last places true e shut =
      let both = and_parts is_last (is_plugged (place_at of_slot of_subslot places)) e in
      stepped_opens of_slot of_subslot (at.Told number) places (plugged_touches (place_at of_slot of_subslot places) both.1) shut
  told_opens of_slot of_subslot number is_last places false e shut = shut

  plug_opens : (b : Bool) (of_slot of_subslot number : ℕ) (is_last : Bool) (plugs : PlugState)
      → is_shut (cond b (told of_slot of_subslot number is_last plugs) plugs) slot subslot ≡ true → is_shut plugs slot subslot ≡ true
  plug_opens true of_slot of_subslot number is_last plugs shut =
      told_opens of_slot of_subslot number is_last plugs.places (is_last && is_plugged (place_at of_slot of_subslot plugs.places)) refl shut
  plug_opens false of_slot of_subslot number is_last plugs shut = shut

  tells_open : (change : LowChange) (number : ℕ) (waiting : List QueuedAlarm) (plugs : PlugState)
      → is_shut (plugs_told change number waiting plugs) slot subslot ≡ true → is_shut plugs slot subslot ≡ true
  tells_open (low.Diagnosis made) number waiting plugs shut = shut
  tells_open (low.Module made) number waiting plugs shut =
      plug_opens (is_plug made.kind) made.slot made.subslot number (not (waits_for_plug made.slot made.subslot waiting)) plugs shut

  end_opens : (number : ℕ) (is_ready : Bool) (plugs : PlugState) → AreEachOnce plugs.places → (found : Option ExpectedPlace) → first_told number plugs.places ≡ found
      → is_shut (unwrap_or (option_map (ended_at number is_ready plugs) found) plugs) slot subslot ≡ true → is_shut plugs slot subslot ≡ true
  end_opens number is_ready plugs once None is shut = shut
  end_opens number is_ready plugs once (Some place) is shut =
      let own = told_alone number plugs.places place once is in
      let touched = step_told number place.step (found_passes (λ (p : ExpectedPlace). is_told_with number p.step) plugs.places place is) in
      stepped_opens place.slot place.subslot (at.Ended number) plugs.places (ap touches own ∙ touched) shut

  -- ---- moment by moment

  -- The status of a cell is not good at a place that is shut.
  abbrev AreConsumed : PlugState → Option Cell → Type 0
  AreConsumed plugs cell = is_shut plugs slot subslot ≡ true → option_map (λ (c : Cell). c.status) cell ≡ Some good → ⊥

  zero_is_bad : 0 ≡ good → ⊥
  zero_is_bad e = omega (arith, e)

  stated_iocs : (plugs : PlugState) (marks : List Mark) (cell : Option Cell) → ((c : Cell) → cell ≡ Some c → is_of Iocs slot subslot c.place ≡ true)
      → AreConsumed plugs (option_map (stated_cell (stated_of plugs marks)) cell)
  stated_iocs plugs marks None own shut e = cc e
  stated_iocs plugs marks (Some cell) own shut e =
      let parts = of_parts Iocs slot subslot cell.place (own cell refl) in
      let none : stated_of plugs marks cell.place.kind cell.place.slot cell.place.subslot ≡ 0 =
      ap (λ (x : PlaceKind). stated_of plugs marks x cell.place.slot cell.place.subslot) (same_iocs cell.place.kind parts.0)
      ∙ (ap (λ (n : ℕ). stated_of plugs marks Iocs n cell.place.subslot) parts.1
      ∙ (ap (λ (n : ℕ). stated_of plugs marks Iocs slot n) parts.2 ∙ ap (λ (b : Bool). cond b 0 good) shut)) in
      zero_is_bad (sym none ∙ some_number (stated_of plugs marks cell.place.kind cell.place.slot cell.place.subslot) good e)

  restated_iocs : (plugs : PlugState) (flow : Flow) → AreConsumed plugs (iocs_in slot subslot (restated_flow plugs flow))
  restated_iocs plugs flow =
      let marks = restated_marks plugs flow.marks in
      subst (AreConsumed plugs) (sym (mapped_cell Iocs (stated_cell (stated_of plugs marks)) (λ c. refl) flow.cyclic.shown.cells))
      (stated_iocs plugs marks (iocs_in slot subslot flow) (found_cell Iocs flow.cyclic.shown.cells))

  -- The cell and the mark of the submodule are of one place. If its place is shut, the mark says so, and the IOCS is not good.
  record Follows (plugs : PlugState) (flow : Flow) : Type 0 where
    once : AreEachOnce plugs.places
    tied : AreTied slot subslot (cell_in slot subslot flow) (mark_in slot subslot flow)
    shut : is_shut plugs slot subslot ≡ true → is_shut_mark (mark_in slot subslot flow) ≡ true
    iocs : AreConsumed plugs (iocs_in slot subslot flow)

  paired_of : (cell : Option Cell) (mark : Option Mark) → AreTied slot subslot cell mark → cell_place cell ≡ mark_place mark
  paired_of None None tied = refl
  paired_of None (Some mark) tied = absurd tied
  paired_of (Some cell) None tied = absurd tied
  paired_of (Some cell) (Some mark) tied = ap (λ (p : Place). Some p) tied.0

  still_shut : (event : Event) (mark : Option Mark) → is_shut_mark mark ≡ true → is_shut_mark (option_map (mark_with slot subslot event) mark) ≡ true
  still_shut event None shut = refl
  still_shut event (Some mark) shut = shut

  -- Places that shut none.
  goes_on : (plugs now : PlugState) (flow : Flow) → AreEachOnce now.places → (is_shut now slot subslot ≡ true → is_shut plugs slot subslot ≡ true)
      → Follows plugs flow → Follows now flow
  goes_on plugs now flow once opens is = record { once = once; tied = is.tied; shut = λ s. is.shut (opens s); iocs = λ s. is.iocs (opens s) }

  -- IOPS and IOCS follow places.
  shows : (now : PlugState) (flow : Flow) → AreEachOnce now.places → cell_place (cell_in slot subslot flow) ≡ mark_place (mark_in slot subslot flow) → Follows now (restated_flow now flow)
  shows now flow once paired = record { once = once; tied = restated_tied now flow paired; shut = restated_shut now flow; iocs = restated_iocs now flow }

  paired_in : (plugs : PlugState) (flow : Flow) → Follows plugs flow → cell_place (cell_in slot subslot flow) ≡ mark_place (mark_in slot subslot flow)
  paired_in plugs flow is = paired_of (cell_in slot subslot flow) (mark_in slot subslot flow) is.tied

  hears : (heard : PlugAnswer) (plugs : PlugState) (flow : Flow) → Follows plugs flow → Follows (plugs_answered heard plugs) (flow_answered heard (plugs_answered heard plugs) flow)
  hears answer.NotWanted plugs flow is = is
  hears answer.Garbled plugs flow is = is
  hears answer.Confirmed plugs flow is = shows (answered true plugs) flow (once_answered true plugs is.once plugs.calls.standing) (paired_in plugs flow is)
  hears answer.Refused plugs flow is = shows (answered false plugs) flow (once_answered false plugs is.once plugs.calls.standing) (paired_in plugs flow is)

  one_follows : (moment : Moment) (plugs : PlugState) (flow : Flow) → Follows plugs flow → Follows (places_past moment plugs) (flow_past moment (places_past moment plugs) flow)
  one_follows (Alone event) plugs flow is =
      let on = goes slot subslot event flow is.tied in
      record {
        once = is.once;
        tied = on.tied;
        shut = λ s. subst (λ (m : Option Mark). is_shut_mark m ≡ true) (sym on.mark_is) (still_shut event (mark_in slot subslot flow) (is.shut s));
        iocs = subst (AreConsumed plugs) (sym (iocs_with slot subslot event flow)) is.iocs;
      }
  one_follows (Changes rows made begin_bad lowered) plugs flow is =
      shows (plugs_changed rows made plugs) (renewed (affected_by made) begin_bad (with_low flow lowered))
      (once_touched (affected_by made) _ _ (once_mapped (restated_place rows) (restate_keeps rows) plugs.places is.once))
      (renewed_paired (affected_by made) begin_bad (with_low flow lowered) (paired_in plugs flow is))
  one_follows (Tells change number waiting) plugs flow is =
      goes_on plugs (plugs_told change number waiting plugs) flow (once_tells change number waiting plugs is.once) (tells_open change number waiting plugs) is
  one_follows (Ends number is_ready) plugs flow is =
      goes_on plugs (ended number is_ready plugs) flow (once_ends number is_ready plugs is.once (first_told number plugs.places))
      (end_opens number is_ready plugs is.once (first_told number plugs.places) refl) is
  one_follows (Calls calls) plugs flow is = goes_on plugs (record plugs { calls = calls }) flow is.once (λ s. s) is
  one_follows (Hears heard) plugs flow is = hears heard plugs flow is

  all_follow : (moments : List Moment) (plugs : PlugState) (flow : Flow) → Follows plugs flow → Follows (all_places moments plugs) (all_past moments plugs flow)
  all_follow [] plugs flow is = is
  all_follow (moment ∷ moments) plugs flow is =
      let now = places_past moment plugs in
      all_follow moments now (flow_past moment now flow) (one_follows moment plugs flow is)

  -- ---- from the opening on

  module _ (rows : Listed DiffModule DiffSubmodule) where
    -- Nothing happened at any of the places, and those that are listed differ.
    abbrev AreFirst : List ExpectedPlace → Type 0
    AreFirst [] = Unit {0}
    AreFirst (place ∷ places) = (place.step ≡ Settled) × (place.differs ≡ is_listed place.slot place.subslot rows) × AreFirst places

    first_of : (of_slot : ℕ) (parts : List ExpectedSubmodule) (rest : List ExpectedPlace) → AreFirst rest → AreFirst (map (first_place rows of_slot) parts ++ rest)
    first_of of_slot [] rest are = are
    first_of of_slot (part ∷ parts) rest are = (refl, refl, first_of of_slot parts rest are)

    all_first : (wanteds : List Wanted) → AreFirst (places_of rows wanteds)
    all_first [] = tt
    all_first (wanted ∷ wanteds) = first_of wanted.entry.slot_number wanted.submodules (places_of rows wanteds) (all_first wanteds)

    none_touched : (places : List ExpectedPlace) → AreFirst places → touches (place_at slot subslot places) ≡ false
    none_touched [] are = refl
    none_touched (place ∷ places) are =
        elim (cases_Bool (is_for slot subslot place)) [ inl t ↦ rw t (ap is_touched are.0) | inr t ↦ rw t (none_touched places are.2) ]

    listed_if : (place : ExpectedPlace) (places : List ExpectedPlace) → place.differs ≡ is_listed place.slot place.subslot rows
        → (is_differing (place_at slot subslot places) ≡ true → is_listed slot subslot rows ≡ true)
        → (b : Bool) → is_for slot subslot place ≡ b → is_differing (cond b (Some place) (place_at slot subslot places)) ≡ true → is_listed slot subslot rows ≡ true
    listed_if place places is later true t differs =
        let both = and_parts (place.slot == slot) (place.subslot == subslot) t in
        ap (λ (n : ℕ). is_listed n subslot rows) (sym (eqb-true place.slot slot both.0))
        ∙ (ap (λ (n : ℕ). is_listed place.slot n rows) (sym (eqb-true place.subslot subslot both.1)) ∙ (sym is ∙ differs))
    listed_if place places is later false t differs = later differs

    listed_differ : (places : List ExpectedPlace) → AreFirst places → is_differing (place_at slot subslot places) ≡ true → is_listed slot subslot rows ≡ true
    listed_differ [] are differs = absurd (false≢true differs)
    listed_differ (place ∷ places) are differs = listed_if place places are.1 (listed_differ places are.2) (is_for slot subslot place) refl differs

    left_of : (a b : Bool) → (a || b) ≡ true → b ≡ false → a ≡ true
    left_of true b either none = refl
    left_of false b either none = absurd (false≢true (sym none ∙ either))

    shut_listed : (places : List ExpectedPlace) → AreFirst places → (is_differing (place_at slot subslot places) || touches (place_at slot subslot places)) ≡ true
        → is_listed slot subslot rows ≡ true
    shut_listed places are shut = listed_differ places are (left_of (is_differing (place_at slot subslot places)) (touches (place_at slot subslot places)) shut (none_touched places are))

    first_shut : (starting : Starting) (found : Option Place) → ((place : Place) → found ≡ Some place → is_of Data slot subslot place ≡ true) → is_listed slot subslot rows ≡ true
        → is_shut_mark (option_map (first_mark starting rows) found) ≡ true
    first_shut starting None own listed = refl
    first_shut starting (Some place) own listed =
        let parts = of_parts Data slot subslot place (own place refl) in
        ap (λ (n : ℕ). is_listed n place.subslot rows || false) parts.1
        ∙ (ap (λ (n : ℕ). is_listed slot n rows || false) parts.2 ∙ ap (λ (b : Bool). b || false) listed)

    first_iocs : (marks : List Mark) (expected : Expected) (found : Option Place)
        → ((place : Place) → found ≡ Some place → is_of Iocs slot subslot place ≡ true) → AreConsumed (plugs_opened expected rows) (option_map (first_cell rows marks) found)
    first_iocs marks expected None own shut e = cc e
    first_iocs marks expected (Some place) own shut e =
        let parts = of_parts Iocs slot subslot place (own place refl) in
        let wanteds = wanted_in expected.modules.items expected.submodules.items in
        let listed = shut_listed (places_of rows wanteds) (all_first wanteds) shut in
        let none : statuses_of rows marks place.kind place.slot place.subslot ≡ 0 =
        ap (λ (x : PlaceKind). statuses_of rows marks x place.slot place.subslot) (same_iocs place.kind parts.0)
        ∙ (ap (λ (n : ℕ). statuses_of rows marks Iocs n place.subslot) parts.1
        ∙ (ap (λ (n : ℕ). statuses_of rows marks Iocs slot n) parts.2 ∙ ap (λ (b : Bool). cond b 0 good) listed)) in
        zero_is_bad (sym none ∙ some_number (statuses_of rows marks place.kind place.slot place.subslot) good e)

    opened_follows : (request : Request) (starting : Starting) → AreEachOnce (opened_places request.expected rows)
        → Follows (plugs_opened request.expected rows) (opened request rows starting)
    opened_follows request starting once =
        let places = request.input.layout.places in
        let marks = first_marks request rows starting in
        let wanteds = wanted_in request.expected.modules.items request.expected.submodules.items in
        record {
          once = once;
          tied = opened_tied slot subslot rows starting marks places refl;
          shut = λ s. ap is_shut_mark (first_mark_at slot subslot rows starting places)
              ∙ first_shut starting (cyclic_place Data slot subslot places) (found_is slot subslot rows starting Data places)
              (shut_listed (places_of rows wanteds) (all_first wanteds) s);
          iocs = subst (AreConsumed (plugs_opened request.expected rows)) (sym (first_cell_at slot subslot rows starting Iocs marks places))
              (first_iocs marks request.expected (cyclic_place Iocs slot subslot places) (found_is slot subslot rows starting Iocs places));
        }

  -- ---- the law

  bad_iops : (differs touched awaited bad : Bool) → (differs || touched) ≡ true → cond (differs || (touched || (awaited || bad))) 0 good ≡ 0
  bad_iops true touched awaited bad shut = refl
  bad_iops false true awaited bad shut = refl
  bad_iops false false awaited bad shut = absurd (false≢true shut)

  not_good : (mark : Option Mark) → is_shut_mark mark ≡ true → option_map iops_by mark ≡ Some good → ⊥
  not_good None shut e = cc e
  not_good (Some mark) shut e =
      let none = bad_iops mark.differs mark.is_touched mark.is_awaited mark.is_bad shut in
      let zero_good : 0 ≡ good = sym none ∙ some_number (iops_by mark) good e in
      omega (arith, zero_good)

pub are_good_where_open : AreGoodWhereOpen
are_good_where_open request rows starting moments slot subslot once is_good =
    let first = plugs_opened request.expected rows in
    let now = all_past moments first (opened request rows starting) in
    let on = all_follow slot subslot moments first (opened request rows starting) (opened_follows slot subslot rows request starting once) in
    elim (cases_Bool (is_shut (all_places moments first) slot subslot)) [
      | inl t ↦ absurd (not_good slot subslot (mark_in slot subslot now) (on.shut t)
          (sym (status_tied slot subslot (cell_in slot subslot now) (mark_in slot subslot now) on.tied) ∙ is_good))
      | inr t ↦ t
    ]

pub are_consumed_where_open : AreConsumedWhereOpen
are_consumed_where_open request rows starting moments slot subslot once is_good =
    let first = plugs_opened request.expected rows in
    let on = all_follow slot subslot moments first (opened request rows starting) (opened_follows slot subslot rows request starting once) in
    elim (cases_Bool (is_shut (all_places moments first) slot subslot)) [
      | inl t ↦ absurd (on.iocs t is_good)
      | inr t ↦ t
    ]
