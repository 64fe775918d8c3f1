-- What a plan expects does not differ from its own modules.
use Rattle.std.proofs.Common.{◌≡◌, ℕ, ◌<◌, ◌==◌, Bool, true, false, not, List, [], ◌∷◌, ◌++◌, map, length, take, drop, Some, refl, sym, ap, ◌∙◌, arith}
use Rattle.std.specs.List.{AllByRecursion, filter, find, list_any}
use Rattle.std.proofs.lemmas.Bool.{eqb-true, false_from_ne_true, or_from}
use Rattle.std.proofs.lemmas.List.{length-map}
use Rattle.std.proofs.Math.Seq.{take-append_seam, drop-append_seam}
use Rattle.pn_values.specs.declared.real.RealModule.{RealModule}
use Rattle.pn_values.specs.declared.real.RealSubmodule.{RealSubmodule}
use Rattle.wire.specs.blocks.modules.Lists.{Listed}
use Rattle.connect_blocks.specs.declared.expected.ExpectedSubmodule.{ExpectedSubmodule}
use Rattle.connect_blocks.specs.declared.module_diff.DiffModule.{DiffModule}
use Rattle.connect_blocks.specs.declared.module_diff.DiffSubmodule.{DiffSubmodule}
use Rattle.module_diff.specs.Plugged.{module_in}
use Rattle.module_diff.specs.Diff.{Wanted, diff_of, differs, is_as_expected, is_proper, module_row, submodules_of_all, wanted_in}
use Rattle.cyclic_data.specs.declared.place.ExpectedData.{ExpectedData}
use Rattle.connects.specs.requests.Layouts.{data_in_slot as asked_in_slot, data_of as asked_of, data_of_modules}
use Rattle.plans.specs.Parts.{AreOrdered, IsRising, data_in_slot, data_of, io_data_of, module_of, submodule_of, subslots_of}
use Rattle.both_ends.specs.startup.request.Request.{expected_of, no_rows, submodules_in}

-- ---- its own submodules come before those of the modules after it

pub own_taken : (parts : List RealSubmodule) (behind : List ExpectedSubmodule) → take (length parts) (map submodule_of parts ++ behind) ≡ map submodule_of parts
own_taken parts behind =
    ap (λ (n : ℕ). take n (map submodule_of parts ++ behind)) (sym (length-map parts submodule_of)) ∙ take-append_seam (map submodule_of parts) behind

pub own_left : (parts : List RealSubmodule) (behind : List ExpectedSubmodule) → drop (length parts) (map submodule_of parts ++ behind) ≡ behind
own_left parts behind =
    ap (λ (n : ℕ). drop n (map submodule_of parts ++ behind)) (sym (length-map parts submodule_of)) ∙ drop-append_seam (map submodule_of parts) behind

-- ---- what they have in cyclic frames

same_in_slot : (slot : ℕ) (parts : List RealSubmodule) → asked_in_slot slot (map submodule_of parts) ≡ data_in_slot slot parts
same_in_slot slot [] = refl
same_in_slot slot (part ∷ parts) =
    ap (λ (subs : List ExpectedData). record { slot = slot; subslot = part.subslot; io_data = io_data_of part } ∷ subs) (same_in_slot slot parts)

same_data_in : (modules : List RealModule) → data_of_modules (map module_of modules) (submodules_in modules) ≡ data_of modules
same_data_in [] = refl
same_data_in (entry ∷ modules) =
    rw (
      own_taken entry.submodules.items (submodules_in modules),
      own_left entry.submodules.items (submodules_in modules),
      same_in_slot entry.slot entry.submodules.items,
      same_data_in modules,
    ) refl

pub same_data : (modules : List RealModule) → asked_of (expected_of modules) ≡ data_of modules
same_data modules = same_data_in modules

-- ---- each is found by its number

same_number : (n : ℕ) → (n == n) ≡ true
same_number n = grind arith

pub other_number : (m n : ℕ) → m < n → (m == n) ≡ false
other_number m n below = false_from_ne_true (m == n) (λ t. let e = eqb-true m n t in absurd (omega (arith, e, below)))

module _ {A : Type 0} (number : A → ℕ) where
  abbrev IsFound : List A → A → Type 0
  IsFound all x = find (λ y. number y == number x) all ≡ Some x

  found_first : (x : A) (xs : List A) → IsFound (x ∷ xs) x
  found_first x xs = rw (same_number (number x)) refl

  found_later : (x : A) (xs : List A) (y : A) → number x < number y → IsFound xs y → IsFound (x ∷ xs) y
  found_later x xs y below found = rw (other_number (number x) (number y) below) found

  later_found : (x : A) (xs ys : List A) → AllByRecursion (λ n. number x < n) (map number ys) → AllByRecursion (IsFound xs) ys → AllByRecursion (IsFound (x ∷ xs)) ys
  later_found x xs [] above found = tt
  later_found x xs (y ∷ ys) above found = (found_later x xs y above.0 found.0, later_found x xs ys above.1 found.1)

  each_found : (xs : List A) → IsRising (map number xs) → AllByRecursion (IsFound xs) xs
  each_found [] rising = tt
  each_found (x ∷ xs) rising = (found_first x xs, later_found x xs xs rising.0 (each_found xs rising.1))

-- ---- a module and its submodules do not differ

abbrev wanted_of : RealModule → Wanted
wanted_of entry = record { entry = module_of entry; submodules = map submodule_of entry.submodules.items }

same_wanted : (modules : List RealModule) → wanted_in (map module_of modules) (submodules_in modules) ≡ map wanted_of modules
same_wanted [] = refl
same_wanted (entry ∷ modules) =
    rw (
      own_taken entry.submodules.items (submodules_in modules),
      own_left entry.submodules.items (submodules_in modules),
      same_wanted modules,
    ) refl

module _ (real : List RealModule) (entry : RealModule) where
  abbrev IsPlugged : Type 0
  IsPlugged = module_in real entry.slot ≡ Some entry

  proper : IsPlugged → is_proper real (module_of entry) ≡ true
  proper plugged = rw plugged (same_number entry.ident)

  part_is : (part : RealSubmodule) → IsPlugged → find (λ (other : RealSubmodule). other.subslot == part.subslot) entry.submodules.items ≡ Some part
      → not (is_as_expected real entry.slot (submodule_of part)) ≡ false
  part_is part plugged found = rw (plugged, found, same_number part.ident) refl

  parts_are : (parts : List RealSubmodule) → IsPlugged → AllByRecursion (IsFound (λ (part : RealSubmodule). part.subslot) entry.submodules.items) parts
      → list_any (λ (part : ExpectedSubmodule). not (is_as_expected real entry.slot part)) (map submodule_of parts) ≡ false
  parts_are [] plugged found = refl
  parts_are (part ∷ parts) plugged found =
      or_from (not (is_as_expected real entry.slot (submodule_of part)))
      (list_any (λ (other : ExpectedSubmodule). not (is_as_expected real entry.slot other)) (map submodule_of parts))
      (part_is part plugged found.0) (parts_are parts plugged found.1)

  not_false : (b : Bool) → b ≡ true → not b ≡ false
  not_false b e = rw e refl

  none_differs : IsRising (subslots_of entry) → IsPlugged → differs real (wanted_of entry) ≡ false
  none_differs rising plugged =
      or_from (not (is_proper real (module_of entry)))
      (list_any (λ (part : ExpectedSubmodule). not (is_as_expected real entry.slot part)) (map submodule_of entry.submodules.items))
      (not_false (is_proper real (module_of entry)) (proper plugged))
      (parts_are entry.submodules.items plugged (each_found (λ (part : RealSubmodule). part.subslot) entry.submodules.items rising))

none_left : (real modules : List RealModule) → AllByRecursion (λ entry. IsRising (subslots_of entry)) modules
    → AllByRecursion (IsFound (λ (entry : RealModule). entry.slot) real) modules → filter (differs real) (map wanted_of modules) ≡ []
none_left real [] rising plugged = refl
none_left real (entry ∷ modules) rising plugged =
    rw (none_differs real entry rising.0 plugged.0) (none_left real modules rising.1 plugged.1)

none_make_no_rows : (real : List RealModule) (wanted : List Wanted) → filter (differs real) wanted ≡ []
    → ◌≡◌ {A = Listed DiffModule DiffSubmodule} (record { modules = map (module_row real) (filter (differs real) wanted); submodules = submodules_of_all real (filter (differs real) wanted) }) no_rows
none_make_no_rows real wanted e = rw e refl

pub no_row_differs : (modules : List RealModule) → AreOrdered modules → diff_of (expected_of modules) modules ≡ no_rows
no_row_differs modules ordered =
    none_make_no_rows modules (wanted_in (map module_of modules) (submodules_in modules))
    (ap (λ (wanted : List Wanted). filter (differs modules) wanted) (same_wanted modules)
    ∙ none_left modules modules ordered.subslots (each_found (λ (entry : RealModule). entry.slot) modules ordered.slots))
