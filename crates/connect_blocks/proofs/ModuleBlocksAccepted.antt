-- An ExpectedSubmoduleBlockReq whose fields are accepted can be written.
use Rattle.std.proofs.Common.{◌≡◌, ℕ, zero, suc, ◌+◌, ◌<◌, ◌≤◌, ◌%◌, ◌==◌, ◌&&◌, true, false, List, [], ◌∷◌, ◌++◌, length, take, drop, sum_by, Option, Some, None, refl, sym, subst, append_assoc, lit<, arith}
use Rattle.std.specs.Prelude.{IfSome, nat_le}
use Rattle.std.specs.List.{list_any, AllByRecursion, IsDistinct}
use Rattle.std.proofs.lemmas.Bool.{lt-ltb}
use Rattle.std.proofs.lemmas.Bool.Decides.{nat_tests}
use Rattle.std.proofs.lemmas.List.{append-nil, length-append, length-take, take-append-drop, drop_at, nil_from_length}
use Rattle.std.proofs.lemmas.List.Folds.{list_any-append}
use Rattle.std.proofs.lemmas.List.Sums.{sum_by-cons}
use Rattle.wire.specs.Counted.{FitsEach}
use Rattle.wire.specs.Nested.{FitsOuter, FitsNested}
use Rattle.wire.specs.blocks.modules.Lists.{Listed, next_entry, module_list, listed_modules}
use Rattle.connect_blocks.specs.declared.submodule_data.SubmoduleData.{SubmoduleData}
use Rattle.connect_blocks.specs.declared.expected.ExpectedModule.{ExpectedModule}
use Rattle.connect_blocks.specs.declared.expected.ExpectedSubmodule.{ExpectedSubmodule}
use Rattle.connect_blocks.specs.Expected.{description_kind, description, no_data, data_of, submodule_data, new_slot, new_subslot, expected_module, expected_submodule, own_of, expected_modules, IsShort, SubslotsDiffer, IsExpected, SubmoduleFits}

-- ---- numbers that differ

module _ {A : Type 0} (key : A → ℕ) where
  -- None of the values has the number of an entry before them.
  abbrev AreNew : List A → List A → Type 0
  AreNew before values = AllByRecursion (λ value. list_any (λ (entry : A). key entry == key value) before ≡ false) values

  new_first : (values : List A) → AreNew [] values
  new_first [] = tt
  new_first (value ∷ values) = (refl, new_first values)

  new_on : (before : List A) (entry : A) (values : List A) → AreNew before values → AllByRecursion (λ value. (key entry == key value) ≡ false) values → AreNew (before ++ entry ∷ []) values
  new_on before entry [] old new = tt
  new_on before entry (value ∷ values) old new =
      (rw (list_any-append (λ (one : A). key one == key value) before (entry ∷ []), old.0, new.0) refl, new_on before entry values old.1 new.1)

-- ---- entries

-- A description of `octets` octets fits.
description_fits : (kind most octets : ℕ) → (kind % 4 == kind) ≡ true → kind < 65536 → octets ≤ most → most ≤ 1440 → (description kind most).Fits octets
unfolding description description_kind
description_fits kind most octets low short few most_few =
    let test : (nat_le 0 octets && nat_le octets most) ≡ true = grind (arith, nat_tests) in
    ((low, short), ((test, omega (arith, few, most_few)), ((refl, lit< tt), (refl, lit< tt))))

-- Data that is not too long fits.
pub data_fits : (value : SubmoduleData) → IsShort value → submodule_data.Fits value
unfolding submodule_data no_data data_of
data_fits value short = by value.input value.output short.0 short.1
  where
    by : (input output : Option ℕ) → IfSome input (λ octets. octets ≤ 1440) → IfSome output (λ octets. octets ≤ 1440) → submodule_data.Fits (record { input = input; output = output })
    by None None short_input short_output = (lit< tt, (description_fits 1 0 0 refl (lit< tt) (omega arith) (omega arith), (refl, refl)))
    by (Some input) None short_input short_output = (lit< tt, (refl, (description_fits 1 1440 input refl (lit< tt) short_input (omega arith), refl)))
    by None (Some output) short_input short_output = (lit< tt, (refl, (refl, description_fits 2 1440 output refl (lit< tt) short_output (omega arith))))
    by (Some input) (Some output) short_input short_output =
        (lit< tt, (refl, (description_fits 1 1440 input refl (lit< tt) short_input (omega arith), description_fits 2 1440 output refl (lit< tt) short_output (omega arith))))

-- A module fits after others that have other numbers.
module_fits : (before : List ExpectedModule) (entry : ExpectedModule) → list_any (λ (one : ExpectedModule). one.slot_number == entry.slot_number) before ≡ false
    → (expected_module []).Fits entry → (expected_module before).Fits entry
unfolding expected_module new_slot
module_fits before entry new fits = (fits.0, ((rw new refl, fits.1.0.1), fits.1.1))

-- A submodule fits after others of its slot that have other numbers.
submodule_fits : (before : List ExpectedSubmodule) (entry : ExpectedSubmodule) → list_any (λ (one : ExpectedSubmodule). one.subslot_number == entry.subslot_number) before ≡ false
    → (expected_submodule []).Fits entry → (expected_submodule before).Fits entry
unfolding expected_submodule new_subslot
submodule_fits before entry new fits = ((rw new refl, fits.0.1), fits.1)

-- ---- lists

-- A fact about all values holds for the first `n` and for the rest.
all_cut : {A : Type 0} (P : A → Type 0) (n : ℕ) (values : List A) → AllByRecursion P values → AllByRecursion P (take n values) × AllByRecursion P (drop n values)
all_cut P zero values all = (tt, all)
all_cut P (suc n) [] all = (tt, tt)
all_cut P (suc n) (value ∷ values) all = let cut = all_cut P n values all.1 in ((all.0, cut.0), cut.1)

-- The submodules of a slot fit after some of them.
own_fit : (second own values : List ExpectedSubmodule) → length second + length own + length values ≤ 256 → AreNew (λ entry. entry.subslot_number) own values
    → IsDistinct (λ one other. one.subslot_number == other.subslot_number) values → AllByRecursion (λ entry. IsShort entry.io_data) values → AllByRecursion SubmoduleFits values
    → FitsEach (next_entry expected_submodule (length second)) (second ++ own) values
unfolding next_entry IsDistinct
own_fit second own [] room new distinct short fits = tt
own_fit second own (entry ∷ values) room new distinct short fits =
    let more = own_fit second (own ++ entry ∷ []) values (omega (arith, room, length-append own (entry ∷ []))) (new_on (λ entry. entry.subslot_number) own entry values new.1 distinct.0) distinct.1 short.1 fits.1 in (
      (
        lt-ltb _ _ (omega (arith, room, length-append second own)),
        subst (λ (before : List ExpectedSubmodule). (expected_submodule before).Fits entry) (sym (drop_at second own (length second) refl))
            (submodule_fits own entry new.0 (fits.0 short.0)),
      ),
      subst (λ (before : List ExpectedSubmodule). FitsEach (next_entry expected_submodule (length second)) before values) (sym (append_assoc second own (entry ∷ []))) more,
    )

-- Modules fit after some of them, and submodules after theirs.
all_fit : (first : List ExpectedModule) (second : List ExpectedSubmodule) (modules : List ExpectedModule) (submodules : List ExpectedSubmodule)
    → length first + length modules ≤ 256 → length second + length submodules ≤ 256 → sum_by own_of modules ≡ length submodules
    → AreNew (λ entry. entry.slot_number) first modules → IsDistinct (λ one other. one.slot_number == other.slot_number) modules
    → SubslotsDiffer modules submodules → AllByRecursion (λ entry. IsShort entry.io_data) submodules → FitsNested (expected_module []).Fits own_of SubmoduleFits modules submodules
    → FitsOuter (next_entry expected_module 0) own_of (next_entry expected_submodule) first second modules submodules
unfolding next_entry IsDistinct
all_fit first second [] submodules room places counted new slots subslots short fits = nil_from_length submodules (sym counted)
all_fit first second (entry ∷ modules) submodules room places counted new slots subslots short fits =
    let n = own_of entry in
    let sum : sum_by own_of (entry ∷ modules) ≡ n + sum_by own_of modules = sum_by-cons own_of entry modules in
    let few : n ≤ length submodules = omega (arith, counted, sum) in
    let own : length (take n submodules) ≡ n = omega (arith, length-take n submodules, few) in
    let left : length (take n submodules) + length (drop n submodules) ≡ length submodules =
    rw (← length-append (take n submodules) (drop n submodules), take-append-drop n submodules) refl in
    let cut = all_cut (λ (part : ExpectedSubmodule). IsShort part.io_data) n submodules short in (
      (lt-ltb _ _ (omega (arith, room)), module_fits first entry new.0 fits.0),
      few,
      subst (λ (before : List ExpectedSubmodule). FitsEach (next_entry expected_submodule (length second)) before (take n submodules)) (append-nil second)
          (own_fit second [] (take n submodules) (omega (arith, places, own, few)) (new_first (λ entry. entry.subslot_number) (take n submodules)) subslots.0 cut.0 fits.1),
      all_fit (first ++ entry ∷ []) (second ++ take n submodules) modules (drop n submodules) (omega (arith, room, length-append first (entry ∷ [])))
          (omega (arith, places, left, length-append second (take n submodules))) (omega (arith, counted, sum, own, left))
          (new_on (λ entry. entry.slot_number) first entry modules new.1 slots.0) slots.1 subslots.1 cut.1 fits.2,
    )

-- Modules that are accepted can be written.
pub modules_fit : (value : Listed ExpectedModule ExpectedSubmodule) → length value.modules ≤ 256 → length value.submodules ≤ 256 → IsExpected value
    → FitsNested (expected_module []).Fits own_of SubmoduleFits value.modules value.submodules → expected_modules.Fits value
unfolding expected_modules listed_modules module_list
modules_fit value few places is fits = (
  omega (arith, few),
  all_fit [] [] value.modules value.submodules (omega (arith, few)) (omega (arith, places)) is.counted
      (new_first (λ entry. entry.slot_number) value.modules) is.slots is.subslots is.short fits,
)

-- ---- an example: two modules, one with an input of two octets and one without data

two_modules : (slot : ℕ) → Listed ExpectedModule ExpectedSubmodule
two_modules slot = record {
  modules = record { slot_number = 1; module_ident_number = 0x10; module_properties = 0; number_of_submodules = 1 }
      ∷ record { slot_number = slot; module_ident_number = 0x30; module_properties = 0; number_of_submodules = 1 } ∷ [];
  submodules = record { subslot_number = 1; submodule_ident_number = 0x10; io_data = record { input = Some 2; output = None } }
      ∷ record { subslot_number = 1; submodule_ident_number = 0x30; io_data = record { input = None; output = None } } ∷ [];
}

-- In slots 1 and 2 the modules are accepted.
in_two_slots : IsExpected (two_modules 2)
unfolding two_modules IsDistinct
in_two_slots = record {
  counted = refl;
  slots = ((refl, tt), (tt, tt));
  subslots = ((tt, tt), ((tt, tt), tt));
  short = ((omega arith, tt), ((tt, tt), tt));
}

-- In one slot the modules are not accepted.
in_one_slot : IsExpected (two_modules 1) → ⊥
unfolding two_modules IsDistinct
in_one_slot is = let same : true ≡ false = is.slots.0.0 in absurd cc
