-- The rows of the modules that differ from those of a plan: they can be written, and a row of a submodule is not usable.
use Rattle.std.proofs.Common.{◌≡◌, ◌==◌, ◌&&◌, ◌||◌, ◌++◌, ◌+◌, ◌*◌, ◌<◌, ◌≤◌, ℕ, zero, suc, Bool, true, false, cond, not, List, [], ◌∷◌, length, map, take, drop, Option, Some, None, refl, sym, ap, subst, ◌∙◌, length-append, arith}
use Rattle.std.specs.Prelude.{sum_by}
use Rattle.std.specs.List.{AllByRecursion, filter, list_all}
use Rattle.std.proofs.lemmas.Bool.{and_right, false≢true}
use Rattle.std.proofs.lemmas.List.{length-map}
use Rattle.std.proofs.lemmas.List.Sums.{sum_by-cons}
use Rattle.std.proofs.Math.Seq.{take-append_seam, drop-append_seam}
use Rattle.pn_values.specs.declared.real.RealModule.{RealModule}
use Rattle.pn_values.specs.declared.real.RealSubmodule.{RealSubmodule}
use Rattle.wire.specs.blocks.Fields.{body, version}
use Rattle.wire.specs.blocks.modules.Lists.{Listed}
use Rattle.wire.specs.Nested.{FitsNested}
use Rattle.wire.proofs.BlocksModulesWritten.{modules_few, modules_fit}
use Rattle.connect_blocks.specs.declared.expected.ExpectedSubmodule.{ExpectedSubmodule}
use Rattle.connect_blocks.specs.declared.module_diff.DiffModule.{DiffModule}
use Rattle.connect_blocks.specs.declared.module_diff.DiffSubmodule.{DiffSubmodule}
use Rattle.connect_blocks.specs.ModuleDiff.{diff_module, diff_modules, diff_submodule, module_diff, own_of}
use Rattle.block_codec.specs.declared.block.Block.TheVariants as is
use Rattle.block_codec.specs.Block.{fields_of}
use Rattle.block_codec.specs.Writable.{CanBeWritten}
use Rattle.module_diff.specs.Diff.{Wanted, differs, has_subslot, ident_or_zero, is_as_expected, is_proper, listed, lists, module_row, module_state, submodule_row, submodule_state, submodules_of, submodules_of_all, wanted_in}
use Rattle.module_diff.specs.Plugged.{module_ident, submodule_ident}
use Rattle.plans.specs.Parts.{data_in_slot, data_of, module_of, submodule_of}
use Rattle.connects.specs.answers.Usable.{is_usable_submodule}
use Rattle.both_ends.specs.startup.request.Request.{expected_of, submodules_in}
use Rattle.both_ends.specs.exchange.Sized.{AreSizedModules, IsSizedPart}
use Rattle.both_ends.proofs.ExchangeLists.{each_behind}
use Rattle.both_ends.proofs.ExchangeSmall.{module_small, part_small}

-- ---- what the Connect of a plan expects

-- A module with its submodules, as it is expected.
abbrev pub wanted_for : RealModule → Wanted
wanted_for entry = record { entry = module_of entry; submodules = map submodule_of entry.submodules.items }

pub planned_wanted : (modules : List RealModule) → wanted_in (expected_of modules).modules.items (expected_of modules).submodules.items ≡ map wanted_for modules
planned_wanted [] = refl
planned_wanted (entry ∷ modules) =
    ap (λ (xs : List ExpectedSubmodule). record { entry = module_of entry; submodules = xs }
    ∷ wanted_in (map module_of modules) (drop (length entry.submodules.items) (map submodule_of entry.submodules.items ++ submodules_in modules))) own_taken
    ∙ (ap (λ (xs : List ExpectedSubmodule). wanted_for entry ∷ wanted_in (map module_of modules) xs) own_left
    ∙ ap (λ (ws : List Wanted). wanted_for entry ∷ ws) (planned_wanted modules))
  where
    own_taken : take (length entry.submodules.items) (map submodule_of entry.submodules.items ++ submodules_in modules) ≡ map submodule_of entry.submodules.items
    own_taken =
        ap (λ (n : ℕ). take n (map submodule_of entry.submodules.items ++ submodules_in modules)) (sym (length-map entry.submodules.items submodule_of))
        ∙ take-append_seam (map submodule_of entry.submodules.items) (submodules_in modules)

    own_left : drop (length entry.submodules.items) (map submodule_of entry.submodules.items ++ submodules_in modules) ≡ submodules_in modules
    own_left =
        ap (λ (n : ℕ). drop n (map submodule_of entry.submodules.items ++ submodules_in modules)) (sym (length-map entry.submodules.items submodule_of))
        ∙ drop-append_seam (map submodule_of entry.submodules.items) (submodules_in modules)

-- Its numbers have their sizes.
abbrev IsSizedWanted : Wanted → Type 0
IsSizedWanted wanted = (wanted.entry.slot_number < 65536) × AllByRecursion (λ (part : ExpectedSubmodule). part.subslot_number < 65536) wanted.submodules

parts_sized : (parts : List RealSubmodule) → AllByRecursion IsSizedPart parts → AllByRecursion (λ (part : ExpectedSubmodule). part.subslot_number < 65536) (map submodule_of parts)
parts_sized [] sized = tt
parts_sized (part ∷ parts) sized = (sized.0.0, parts_sized parts sized.1)

wanted_sized : (modules : List RealModule) → AreSizedModules modules → AllByRecursion IsSizedWanted (map wanted_for modules)
wanted_sized [] sized = tt
wanted_sized (entry ∷ modules) sized = ((sized.0.0, parts_sized entry.submodules.items sized.0.2), wanted_sized modules sized.1)

-- How many submodules are expected.
abbrev parts_in : List Wanted → ℕ
parts_in [] = 0
parts_in (wanted ∷ wanteds) = length wanted.submodules + parts_in wanteds

data_long : (slot : ℕ) (parts : List RealSubmodule) → length (data_in_slot slot parts) ≡ length parts
data_long slot [] = refl
data_long slot (part ∷ parts) = omega (arith, data_long slot parts)

parts_planned : (modules : List RealModule) → parts_in (map wanted_for modules) ≡ length (data_of modules)
parts_planned [] = refl
parts_planned (entry ∷ modules) =
    omega (
      arith,
      parts_planned modules,
      length-map entry.submodules.items submodule_of,
      length-append (data_in_slot entry.slot entry.submodules.items) (data_of modules),
      data_long entry.slot entry.submodules.items,
    )

-- ---- some of a list

module _ {A : Type 0} (test : A → Bool) where
  few_filtered : (xs : List A) → length (filter test xs) ≤ length xs
  few_filtered [] = omega arith
  few_filtered (x ∷ xs) = by_test (test x) (few_filtered xs)
    where
      by_test : (b : Bool) → length (filter test xs) ≤ length xs → length (cond b (x ∷ filter test xs) (filter test xs)) ≤ length (x ∷ xs)
      by_test true few = omega (arith, few)
      by_test false few = omega (arith, few)

  each_filtered : (P : A → Type 0) (xs : List A) → AllByRecursion P xs → AllByRecursion P (filter test xs)
  each_filtered P [] all = tt
  each_filtered P (x ∷ xs) all = by_test (test x) (each_filtered P xs all.1)
    where
      by_test : (b : Bool) → AllByRecursion P (filter test xs) → AllByRecursion P (cond b (x ∷ filter test xs) (filter test xs))
      by_test true rest = (all.0, rest)
      by_test false rest = rest

-- ---- the rows

module _ (real : List RealModule) where
  few_own : (wanted : Wanted) → length (submodules_of real wanted) ≤ length wanted.submodules
  few_own wanted =
      omega (
        arith,
        length-map (listed real wanted) (submodule_row real wanted.entry.slot_number),
        few_filtered (λ (part : ExpectedSubmodule). not (is_proper real wanted.entry && is_as_expected real wanted.entry.slot_number part)) wanted.submodules,
      )

  few_rows : (test : Wanted → Bool) (wanteds : List Wanted) → length (submodules_of_all real (filter test wanteds)) ≤ parts_in wanteds
  few_rows test [] = omega arith
  few_rows test (w ∷ ws) = by_test (test w) (few_rows test ws)
    where
      by_test : (b : Bool) → length (submodules_of_all real (filter test ws)) ≤ parts_in ws
          → length (submodules_of_all real (cond b (w ∷ filter test ws) (filter test ws))) ≤ length w.submodules + parts_in ws
      by_test true few = omega (arith, few, few_own w, length-append (submodules_of real w) (submodules_of_all real (filter test ws)))
      by_test false few = omega (arith, few)

  -- each module counts its rows
  rows_counted : (wanteds : List Wanted) → sum_by own_of (map (module_row real) wanteds) ≡ length (submodules_of_all real wanteds)
  rows_counted [] = refl
  rows_counted (w ∷ ws) =
      omega (
        arith,
        rows_counted ws,
        sum_by-cons own_of (module_row real w) (map (module_row real) ws),
        length-append (submodules_of real w) (submodules_of_all real ws),
        length-map (listed real w) (submodule_row real w.entry.slot_number),
      )

  -- a row of a submodule is not usable
  state_unusable : (row : DiffSubmodule) (ident : Option ℕ) → row.submodule_state ≡ submodule_state ident → is_usable_submodule row ≡ false
  state_unusable row None e = rw e refl
  state_unusable row (Some ident) e = rw e refl

  own_unusable : (slot : ℕ) (parts : List ExpectedSubmodule) → AllByRecursion (λ (row : DiffSubmodule). is_usable_submodule row ≡ false) (map (submodule_row real slot) parts)
  own_unusable slot [] = tt
  own_unusable slot (part ∷ parts) = (state_unusable (submodule_row real slot part) (submodule_ident real slot part.subslot_number) refl, own_unusable slot parts)

  all_unusable : (wanteds : List Wanted) → AllByRecursion (λ (row : DiffSubmodule). is_usable_submodule row ≡ false) (submodules_of_all real wanteds)
  all_unusable [] = tt
  all_unusable (w ∷ ws) =
      each_behind (λ (row : DiffSubmodule). is_usable_submodule row ≡ false) (submodules_of real w) (submodules_of_all real ws)
      (own_unusable w.entry.slot_number (listed real w)) (all_unusable ws)

take_none : (n : ℕ) → ◌≡◌ {A = List DiffSubmodule} (take n []) []
take_none zero = refl
take_none (suc n) = refl

drop_none : (n : ℕ) → ◌≡◌ {A = List DiffSubmodule} (drop n []) []
drop_none zero = refl
drop_none (suc n) = refl

-- no submodule is listed without its row
none_listed : (slot subslot : ℕ) (modules : List DiffModule) → lists slot subslot modules [] ≡ false
none_listed slot subslot [] = refl
none_listed slot subslot (row ∷ modules) =
    ap (λ (xs : List DiffSubmodule). (row.slot_number == slot && has_subslot subslot xs) || lists slot subslot modules (drop (own_of row) [])) (take_none (own_of row))
    ∙ (ap (λ (b : Bool). b || lists slot subslot modules (drop (own_of row) [])) (and_right (row.slot_number == slot) false refl)
    ∙ (ap (λ (xs : List DiffSubmodule). lists slot subslot modules xs) (drop_none (own_of row)) ∙ none_listed slot subslot modules))

unusable_none : (rows : List DiffSubmodule) → AllByRecursion (λ (row : DiffSubmodule). is_usable_submodule row ≡ false) rows → list_all is_usable_submodule rows ≡ true → rows ≡ []
unusable_none [] all e = refl
unusable_none (row ∷ rows) all e = absurd (false≢true (sym (ap (λ (b : Bool). b && list_all is_usable_submodule rows) all.0) ∙ e))

-- if all rows of submodules are usable, none is listed
pub usable_none : (real : List RealModule) (wanteds : List Wanted) (modules : List DiffModule) → list_all is_usable_submodule (submodules_of_all real wanteds) ≡ true
    → (slot subslot : ℕ) → lists slot subslot modules (submodules_of_all real wanteds) ≡ false
usable_none real wanteds modules e slot subslot =
    ap (λ (rows : List DiffSubmodule). lists slot subslot modules rows) (unusable_none (submodules_of_all real wanteds) (all_unusable real wanteds) e) ∙ none_listed slot subslot modules

-- ---- they can be written

module _ (real : List RealModule) (sized : AreSizedModules real) where
  ident_small : (slot : ℕ) → ident_or_zero (module_ident real slot) < 4294967296
  ident_small slot = by_ident (module_ident real slot) refl
    where
      by_ident : (o : Option ℕ) → module_ident real slot ≡ o → ident_or_zero o < 4294967296
      by_ident None e = omega arith
      by_ident (Some ident) e = (module_small real slot ident sized e).1

  part_ident_small : (slot subslot : ℕ) → ident_or_zero (submodule_ident real slot subslot) < 4294967296
  part_ident_small slot subslot = by_ident (submodule_ident real slot subslot) refl
    where
      by_ident : (o : Option ℕ) → submodule_ident real slot subslot ≡ o → ident_or_zero o < 4294967296
      by_ident None e = omega arith
      by_ident (Some ident) e = (part_small real slot subslot ident sized e).1

  state_small : (o : Option ℕ) (expected : ℕ) → module_state o expected < 65536
  state_small None expected = omega arith
  state_small (Some ident) expected = by_same (ident == expected)
    where
      by_same : (b : Bool) → cond b 2 1 < 65536
      by_same true = omega arith
      by_same false = omega arith

  part_state_small : (o : Option ℕ) → submodule_state o < 65536
  part_state_small None = omega arith
  part_state_small (Some ident) = omega arith

  module_fits : (wanted : Wanted) → wanted.entry.slot_number < 65536 → length (listed real wanted) < 65536 → diff_module.Fits (module_row real wanted)
  unfolding diff_module
  module_fits wanted slot few =
      let ident = ident_small wanted.entry.slot_number in
      let state = state_small (module_ident real wanted.entry.slot_number) wanted.entry.module_ident_number in
      (omega (arith, slot), (omega (arith, ident), (omega (arith, state), omega (arith, few))))

  part_fits : (slot : ℕ) (part : ExpectedSubmodule) → part.subslot_number < 65536 → diff_submodule.Fits (submodule_row real slot part)
  unfolding diff_submodule
  part_fits slot part subslot =
      let ident = part_ident_small slot part.subslot_number in
      let state = part_state_small (submodule_ident real slot part.subslot_number) in
      (omega (arith, subslot), (omega (arith, ident), omega (arith, state)))

  parts_fit : (slot : ℕ) (parts : List ExpectedSubmodule) → AllByRecursion (λ (part : ExpectedSubmodule). part.subslot_number < 65536) parts
      → AllByRecursion diff_submodule.Fits (map (submodule_row real slot) parts)
  parts_fit slot [] all = tt
  parts_fit slot (part ∷ parts) all = (part_fits slot part all.0, parts_fit slot parts all.1)

  rows_fit : (wanteds : List Wanted) → AllByRecursion IsSizedWanted wanteds → length (submodules_of_all real wanteds) ≤ 64
      → FitsNested diff_module.Fits own_of diff_submodule.Fits (map (module_row real) wanteds) (submodules_of_all real wanteds)
  rows_fit [] all few = tt
  rows_fit (w ∷ ws) all few =
      let long = length-append (submodules_of real w) (submodules_of_all real ws) in
      let own = length-map (listed real w) (submodule_row real w.entry.slot_number) in (
        module_fits w all.0.0 (omega (arith, few, long, own)),
        subst (λ (rows : List DiffSubmodule). AllByRecursion diff_submodule.Fits rows) (sym own_taken)
            (parts_fit w.entry.slot_number (listed real w) (each_filtered _ (λ (part : ExpectedSubmodule). part.subslot_number < 65536) w.submodules all.0.1)),
        subst (λ (rows : List DiffSubmodule). FitsNested diff_module.Fits own_of diff_submodule.Fits (map (module_row real) ws) rows) (sym own_left)
            (rows_fit ws all.1 (omega (arith, few, long))),
      )
    where
      own_taken : take (length (listed real w)) (submodules_of real w ++ submodules_of_all real ws) ≡ submodules_of real w
      own_taken =
          ap (λ (n : ℕ). take n (submodules_of real w ++ submodules_of_all real ws)) (sym (length-map (listed real w) (submodule_row real w.entry.slot_number)))
          ∙ take-append_seam (submodules_of real w) (submodules_of_all real ws)

      own_left : drop (length (listed real w)) (submodules_of real w ++ submodules_of_all real ws) ≡ submodules_of_all real ws
      own_left =
          ap (λ (n : ℕ). drop n (submodules_of real w ++ submodules_of_all real ws)) (sym (length-map (listed real w) (submodule_row real w.entry.slot_number)))
          ∙ drop-append_seam (submodules_of real w) (submodules_of_all real ws)

  -- the rows of the modules of a plan
  module _ (modules : List RealModule) (planned : AreSizedModules modules) (few_modules : length modules ≤ 16) (few_parts : length (data_of modules) ≤ 64) where
    abbrev wanteds : List Wanted
    wanteds = filter (differs real) (map wanted_for modules)

    abbrev rows : Listed DiffModule DiffSubmodule
    rows = record { modules = map (module_row real) wanteds; submodules = submodules_of_all real wanteds }

    long_modules : length rows.modules ≤ 16
    long_modules = omega (arith, length-map wanteds (module_row real), few_filtered (differs real) (map wanted_for modules), length-map modules wanted_for, few_modules)

    long_rows : length rows.submodules ≤ 64
    long_rows = omega (arith, few_rows real (differs real) (map wanted_for modules), parts_planned modules, few_parts)

    modules_written : diff_modules.Fits rows
    unfolding diff_modules
    modules_written =
        modules_fit diff_module own_of diff_submodule rows (omega (arith, long_modules)) (omega (arith, long_rows)) (rows_counted real wanteds)
        (rows_fit wanteds (each_filtered (differs real) IsSizedWanted (map wanted_for modules) (wanted_sized modules planned)) long_rows)

    modules_short : diff_modules.size rows ≤ 2 + (length rows.modules * 10 + length rows.submodules * 8)
    unfolding diff_modules diff_module diff_submodule
    modules_short = modules_few (λ _. diff_module) own_of (λ _. diff_submodule) 10 8 (λ _ _. omega arith) (λ _ _. omega arith) rows

    pub rows_written : CanBeWritten (is.ModuleDiffBlock (record { api = 0; modules = rows }))
    unfolding fields_of body version module_diff
    rows_written = (
      omega (arith, modules_short, long_modules, long_rows),
      (((refl, omega arith), (refl, omega arith)), ((refl, omega arith), (omega arith, modules_written))),
    )
