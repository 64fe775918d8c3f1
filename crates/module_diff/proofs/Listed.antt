-- The modules whose rows are listed. Their counts add up to the number of listed submodules.
use Rattle.std.proofs.Common.{◌≡◌, ◌+◌, ◌≤◌, ◌&&◌, ◌||◌, ℕ, suc, Bool, true, false, cond, not, List, [], ◌∷◌, length, map, nat_lt, Option, refl, sym, ap, ◌∙◌, true≢false, arith}
use Rattle.std.specs.Prelude.{sum_by}
use Rattle.std.specs.List.{filter, list_any}
use Rattle.std.proofs.lemmas.Bool.{lt-ltb}
use Rattle.std.proofs.lemmas.List.Sums.{sum_by-cons}
use Rattle.std.proofs.lemmas.List.{append-nil, length-append, length-map}
use Rattle.pn_values.specs.declared.real.RealModule.{RealModule}
use Rattle.connect_blocks.specs.declared.module_diff.DiffModule.{DiffModule}
use Rattle.connect_blocks.specs.declared.module_diff.DiffSubmodule.{DiffSubmodule}
use Rattle.connect_blocks.specs.ModuleDiff.{own_of}
use Rattle.module_diff.specs.Plugged.{is_ident, module_ident}
use Rattle.module_diff.specs.Diff.{Wanted, differs, is_as_expected, is_proper, listed, module_row, module_rows, row_with, submodule_row, submodule_rows, submodules_of, submodules_of_all}
use Rattle.module_diff.specs.Rows.{AreRows}

some_of : (n : ℕ) → nat_lt 0 (suc n) ≡ true
some_of n = lt-ltb 0 (suc n) (omega arith)

-- Some elements fail a test exactly if the list of those that fail it is not empty.
some_fail : {A : Type 0} (test : A → Bool) (xs : List A) → nat_lt 0 (length (filter (λ x. not (test x)) xs)) ≡ list_any (λ x. not (test x)) xs
some_fail test [] = refl
some_fail test (x ∷ xs) =
    elim (test x) as (λ b. nat_lt 0 (length (cond (not b) (x ∷ filter (λ y. not (test y)) xs) (filter (λ y. not (test y)) xs))) ≡ (not b || list_any (λ y. not (test y)) xs)) [
      | true ↦ some_fail test xs
      | false ↦ some_of (length (filter (λ y. not (test y)) xs))
    ]

-- A module differs exactly if it is not the expected one, or some of its submodules are listed.
counted_so : {A : Type 0} (test : A → Bool) (proper : Bool) (xs : List A)
    → (not proper || nat_lt 0 (length (filter (λ x. not (proper && test x)) xs))) ≡ (not proper || list_any (λ x. not (test x)) xs)
counted_so test true xs = some_fail test xs
counted_so test false xs = refl

-- ---- one module

map_one : {A B : Type 0} (f : A → B) (x : A) (b : Bool) → map f (cond b (x ∷ []) []) ≡ cond b (f x ∷ []) []
map_one f x true = refl
map_one f x false = refl

pub one_module : (real : List RealModule) (w : Wanted) (ident : Option ℕ) (proper : Bool) (n : ℕ)
    → ident ≡ module_ident real w.entry.slot_number
    → proper ≡ is_ident ident w.entry.module_ident_number
    → n ≡ length (filter (λ part. not (proper && is_as_expected real w.entry.slot_number part)) w.submodules)
    → cond (not proper || nat_lt 0 n) (row_with w.entry ident n ∷ []) [] ≡ module_rows real (w ∷ [])
one_module real w ident proper n e p k =
    let q : proper ≡ is_proper real w.entry = p ∙ ap (λ (i : Option ℕ). is_ident i w.entry.module_ident_number) e in
    let m : n ≡ length (listed real w) = k ∙ ap (λ (b : Bool). length (filter (λ part. not (b && is_as_expected real w.entry.slot_number part)) w.submodules)) q in
    let d : (not proper || nat_lt 0 n) ≡ differs real w =
    ap (λ (b : Bool). not b || nat_lt 0 n) q ∙ (ap (λ (x : ℕ). not (is_proper real w.entry) || nat_lt 0 x) m
    ∙ counted_so (is_as_expected real w.entry.slot_number) (is_proper real w.entry) w.submodules) in
    ap (λ (i : Option ℕ). cond (not proper || nat_lt 0 n) (row_with w.entry i n ∷ []) []) e
    ∙ (ap (λ (x : ℕ). cond (not proper || nat_lt 0 n) (row_with w.entry (module_ident real w.entry.slot_number) x ∷ []) []) m
    ∙ (ap (λ (b : Bool). cond b (module_row real w ∷ []) []) d
    ∙ sym (map_one (module_row real) w (differs real w))))

-- No submodule is listed for a module that does not differ.
none_left : {A B : Type 0} (f : A → B) (proper : Bool) (xs : List A) → (not proper || nat_lt 0 (length xs)) ≡ false → [] ≡ map f xs
none_left f proper [] e = refl
none_left f true (x ∷ xs) e = absurd (true≢false (sym (some_of (length xs)) ∙ e))
none_left f false (x ∷ xs) e = absurd (true≢false e)

one_of : (real : List RealModule) (w : Wanted) (b : Bool) → differs real w ≡ b → submodules_of_all real (cond b (w ∷ []) []) ≡ submodules_of real w
one_of real w true e = append-nil (submodules_of real w)
one_of real w false e =
    none_left (submodule_row real w.entry.slot_number) (is_proper real w.entry) (listed real w)
    (counted_so (is_as_expected real w.entry.slot_number) (is_proper real w.entry) w.submodules ∙ e)

pub one_list : (real : List RealModule) (w : Wanted) (ident : Option ℕ) (proper : Bool)
    → ident ≡ module_ident real w.entry.slot_number
    → proper ≡ is_ident ident w.entry.module_ident_number
    → map (submodule_row real w.entry.slot_number) (filter (λ part. not (proper && is_as_expected real w.entry.slot_number part)) w.submodules) ≡ submodule_rows real (w ∷ [])
one_list real w ident proper e p =
    let q : proper ≡ is_proper real w.entry = p ∙ ap (λ (i : Option ℕ). is_ident i w.entry.module_ident_number) e in
    ap (λ (b : Bool). map (submodule_row real w.entry.slot_number) (filter (λ part. not (b && is_as_expected real w.entry.slot_number part)) w.submodules)) q
    ∙ sym (one_of real w (differs real w) refl)

-- ---- all modules

counted_all : (real : List RealModule) (ws : List Wanted) → sum_by own_of (map (module_row real) ws) ≡ length (submodules_of_all real ws)
counted_all real [] = refl
counted_all real (w ∷ ws) =
    sum_by-cons own_of (module_row real w) (map (module_row real) ws)
    ∙ (ap (λ (n : ℕ). length (listed real w) + n) (counted_all real ws)
    ∙ sym (length-append (submodules_of real w) (submodules_of_all real ws)
    ∙ ap (λ (n : ℕ). n + length (submodules_of_all real ws)) (length-map (listed real w) (submodule_row real w.entry.slot_number))))

pub are_rows : (real : List RealModule) (ws : List Wanted) (modules : List DiffModule) (submodules : List DiffSubmodule)
    → modules ≡ module_rows real ws → submodules ≡ submodule_rows real ws → length modules ≤ 64 → length submodules ≤ 64 → AreRows modules submodules
are_rows real ws modules submodules m s few_m few_s = record {
  counted = ap (λ (rows : List DiffModule). sum_by own_of rows) m ∙ (counted_all real (filter (differs real) ws) ∙ sym (ap (λ (rows : List DiffSubmodule). length rows) s));
  few_modules = few_m;
  few_submodules = few_s;
}
