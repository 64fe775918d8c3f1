-- The submodules of a relation, while modules come and go: which are expected, and which of these differ.
use Rattle.std.proofs.Common.{◌≡◌, inl, inr, ◌==◌, ◌&&◌, ◌||◌, ◌++◌, ℕ, Bool, true, false, cond, not, List, [], ◌∷◌, length, map, take, drop, Option, Some, None, refl, sym, ap, ◌∙◌}
use Rattle.std.specs.List.{filter, list_any}
use Rattle.std.proofs.lemmas.Bool.{and_parts, and_right, eqb-true, or_parts, true≢false}
use Rattle.std.proofs.lemmas.List.{length-map}
use Rattle.std.proofs.Math.Seq.{take-append_seam, drop-append_seam}
use Rattle.pn_values.specs.declared.real.RealModule.{RealModule}
use Rattle.wire.specs.blocks.modules.Lists.{Listed}
use Rattle.connect_blocks.specs.declared.expected.ExpectedModule.{ExpectedModule}
use Rattle.connect_blocks.specs.declared.expected.ExpectedSubmodule.{ExpectedSubmodule}
use Rattle.connect_blocks.specs.declared.module_diff.DiffModule.{DiffModule}
use Rattle.connect_blocks.specs.declared.module_diff.DiffSubmodule.{DiffSubmodule}
use Rattle.module_diff.specs.declared.changes.Affected.{Affected}
use Rattle.module_diff.specs.declared.expected.Expected.{Expected}
use Rattle.module_diff.specs.Changes.{covers}
use Rattle.module_diff.specs.Diff.{Wanted, diff_of, differs, has_subslot, is_as_expected, is_listed, is_proper, listed, lists, module_row, module_rows, submodule_row, submodule_rows, submodules_of, submodules_of_all, wanted_in}
use Rattle.module_diff.specs.Plugged.{is_ident, module_ident, submodule_ident}
use Rattle.diagnosis.specs.alarms.Own.{is_own, places_in, places_of}
use Rattle.diagnosis.specs.declared.alarms.own.Place.{Place}
use Rattle.expected_places.specs.declared.place.ExpectedPlace.{ExpectedPlace}
use Rattle.expected_places.specs.Machine.{PlugState, is_hit}
use Rattle.expected_places.specs.Places.{first_place, opened_places, places_of as first_places}
use Rattle.end_laws.specs.device.Orderly.{keys_of}
use Rattle.both_ends.proofs.ExchangeReal.{IsSameAt}

-- ---- lists

any_map : {A B : Type 0} (test : B → Bool) (f : A → B) (xs : List A) → list_any test (map f xs) ≡ list_any (λ x. test (f x)) xs
any_map test f [] = refl
any_map test f (x ∷ xs) = ap (λ (b : Bool). test (f x) || b) (any_map test f xs)

any_filter : {A : Type 0} (keep test : A → Bool) (xs : List A) → list_any test (filter keep xs) ≡ list_any (λ x. keep x && test x) xs
any_filter keep test [] = refl
any_filter keep test (x ∷ xs) = by_keep (keep x) (any_filter keep test xs)
  where
    by_keep : (b : Bool) → list_any test (filter keep xs) ≡ list_any (λ y. keep y && test y) xs
        → list_any test (cond b (x ∷ filter keep xs) (filter keep xs)) ≡ ((b && test x) || list_any (λ y. keep y && test y) xs)
    by_keep true e = ap (λ (c : Bool). test x || c) e
    by_keep false e = e

or_assoc : (a b c : Bool) → ((a || b) || c) ≡ (a || (b || c))
or_assoc true b c = refl
or_assoc false b c = refl

pub any_append : {A : Type 0} (test : A → Bool) (xs ys : List A) → list_any test (xs ++ ys) ≡ (list_any test xs || list_any test ys)
any_append test [] ys = refl
any_append test (x ∷ xs) ys = ap (λ (b : Bool). test x || b) (any_append test xs ys) ∙ sym (or_assoc (test x) (list_any test xs) (list_any test ys))

any_same : {A : Type 0} (one other : A → Bool) (xs : List A) → ((x : A) → one x ≡ other x) → list_any one xs ≡ list_any other xs
any_same one other [] same = refl
any_same one other (x ∷ xs) same = ap (λ (b : Bool). b || list_any one xs) (same x) ∙ ap (λ (b : Bool). other x || b) (any_same one other xs same)

none_any : {A : Type 0} (test other : A → Bool) (xs : List A) → ((x : A) → test x ≡ false → other x ≡ false) → list_any test xs ≡ false → list_any other xs ≡ false
none_any test other [] so e = refl
none_any test other (x ∷ xs) so e =
    let parts = or_parts (test x) (list_any test xs) e in
    ap (λ (b : Bool). b || list_any other xs) (so x parts.0) ∙ none_any test other xs so parts.1

any_never : {A : Type 0} (test : A → Bool) (xs : List A) → ((x : A) → test x ≡ false) → list_any test xs ≡ false
any_never test [] never = refl
any_never test (x ∷ xs) never = ap (λ (b : Bool). b || list_any test xs) (never x) ∙ any_never test xs never

and_no : (b : Bool) → (b && false) ≡ false
and_no true = refl
and_no false = refl

and_yes : (b : Bool) → (b && true) ≡ b
and_yes true = refl
and_yes false = refl

or_and : (a b c : Bool) → ((a && c) || (b && c)) ≡ ((a || b) && c)
or_and true b true = refl
or_and true true false = refl
or_and true false false = refl
or_and false b c = refl

-- ---- which rows are listed

-- An expected submodule is not plugged, or its module is not.
abbrev pub is_out : List RealModule → ExpectedModule → ExpectedSubmodule → Bool
is_out real entry part = not (is_proper real entry && is_as_expected real entry.slot_number part)

-- One in this slot and subslot is expected, and is not plugged.
abbrev pub is_out_at : List RealModule → ℕ → ℕ → Wanted → Bool
is_out_at real slot subslot wanted =
    wanted.entry.slot_number == slot && list_any (λ part. is_out real wanted.entry part && part.subslot_number == subslot) wanted.submodules

out_none : (proper as_it_is here : Bool) → not proper ≡ false → not as_it_is ≡ false → (not (proper && as_it_is) && here) ≡ false
out_none true true here e f = refl
out_none true false here e f = absurd cc
out_none false as_it_is here e f = absurd cc

listed_is : (real : List RealModule) (slot subslot : ℕ) (wanteds : List Wanted)
    → lists slot subslot (module_rows real wanteds) (submodule_rows real wanteds) ≡ list_any (is_out_at real slot subslot) wanteds
listed_is real slot subslot [] = refl
listed_is real slot subslot (w ∷ ws) = by_differs (differs real w) refl (listed_is real slot subslot ws)
  where
    own : List DiffSubmodule
    own = submodules_of real w

    own_any : has_subslot subslot (submodules_of real w) ≡ list_any (λ part. is_out real w.entry part && part.subslot_number == subslot) w.submodules
    own_any =
        any_map (λ (row : DiffSubmodule). row.subslot_number == subslot) (submodule_row real w.entry.slot_number) (listed real w)
        ∙ any_filter (is_out real w.entry) (λ (part : ExpectedSubmodule). part.subslot_number == subslot) w.submodules

    own_taken : take (length (listed real w)) (submodules_of real w ++ submodule_rows real ws) ≡ submodules_of real w
    own_taken =
        ap (λ (n : ℕ). take n (submodules_of real w ++ submodule_rows real ws)) (sym (length-map (listed real w) (submodule_row real w.entry.slot_number)))
        ∙ take-append_seam (submodules_of real w) (submodule_rows real ws)

    own_left : drop (length (listed real w)) (submodules_of real w ++ submodule_rows real ws) ≡ submodule_rows real ws
    own_left =
        ap (λ (n : ℕ). drop n (submodules_of real w ++ submodule_rows real ws)) (sym (length-map (listed real w) (submodule_row real w.entry.slot_number)))
        ∙ drop-append_seam (submodules_of real w) (submodule_rows real ws)

    none_out : differs real w ≡ false → is_out_at real slot subslot w ≡ false
    none_out e =
        let parts = or_parts (not (is_proper real w.entry)) (list_any (λ part. not (is_as_expected real w.entry.slot_number part)) w.submodules) e in
        and_right (w.entry.slot_number == slot) (list_any (λ part. is_out real w.entry part && part.subslot_number == subslot) w.submodules)
        (none_any (λ (part : ExpectedSubmodule). not (is_as_expected real w.entry.slot_number part)) (λ (part : ExpectedSubmodule). is_out real w.entry part && part.subslot_number == subslot) w.submodules
        (λ part f. out_none (is_proper real w.entry) (is_as_expected real w.entry.slot_number part) (part.subslot_number == subslot) parts.0 f) parts.1)

    by_differs : (b : Bool) → differs real w ≡ b
        → lists slot subslot (module_rows real ws) (submodule_rows real ws) ≡ list_any (is_out_at real slot subslot) ws
        → lists slot subslot (map (module_row real) (cond b (w ∷ filter (differs real) ws) (filter (differs real) ws)))
        (submodules_of_all real (cond b (w ∷ filter (differs real) ws) (filter (differs real) ws)))
        ≡ (is_out_at real slot subslot w || list_any (is_out_at real slot subslot) ws)
    by_differs true e rest =
        ap (λ (xs : List DiffSubmodule). (w.entry.slot_number == slot && has_subslot subslot xs)
        || lists slot subslot (module_rows real ws) (drop (length (listed real w)) (submodules_of real w ++ submodule_rows real ws))) own_taken
        ∙ (ap (λ (xs : List DiffSubmodule). (w.entry.slot_number == slot && has_subslot subslot (submodules_of real w)) || lists slot subslot (module_rows real ws) xs) own_left
        ∙ (ap (λ (b : Bool). (w.entry.slot_number == slot && b) || lists slot subslot (module_rows real ws) (submodule_rows real ws)) own_any
        ∙ ap (λ (b : Bool). is_out_at real slot subslot w || b) rest))
    by_differs false e rest = rest ∙ ap (λ (b : Bool). b || list_any (is_out_at real slot subslot) ws) (sym (none_out e))

-- the submodules that a Connect expects
abbrev pub wanted_by : Expected → List Wanted
wanted_by expected = wanted_in expected.modules.items expected.submodules.items

-- ---- what stays the same

-- what is plugged there says whether it is the expected one
pub same_out : (real now : List RealModule) (slot subslot : ℕ) → IsSameAt real now slot subslot → (entry : ExpectedModule) (part : ExpectedSubmodule)
    → entry.slot_number ≡ slot → part.subslot_number ≡ subslot → is_out real entry part ≡ is_out now entry part
same_out real now slot subslot (inl same) entry part e f =
    let module_is : module_ident real entry.slot_number ≡ module_ident now entry.slot_number =
    ap (λ (n : ℕ). module_ident real n) e ∙ (sym same.0 ∙ ap (λ (n : ℕ). module_ident now n) (sym e)) in
    let part_is : submodule_ident real entry.slot_number part.subslot_number ≡ submodule_ident now entry.slot_number part.subslot_number =
    ap (λ (n : ℕ). submodule_ident real n part.subslot_number) e ∙ (ap (λ (n : ℕ). submodule_ident real slot n) f
    ∙ (sym same.1 ∙ (ap (λ (n : ℕ). submodule_ident now slot n) (sym f) ∙ ap (λ (n : ℕ). submodule_ident now n part.subslot_number) (sym e)))) in
    ap (λ (o : Option ℕ). not (is_ident o entry.module_ident_number && is_as_expected real entry.slot_number part)) module_is
    ∙ ap (λ (o : Option ℕ). not (is_proper now entry && is_ident o part.submodule_ident_number)) part_is
same_out real now slot subslot (inr none) entry part e f =
    nothing_in real none.0 ∙ sym (nothing_in now none.1)
  where
    nothing_in : (modules : List RealModule) → submodule_ident modules slot subslot ≡ None → is_out modules entry part ≡ true
    nothing_in modules nothing =
        ap (λ (o : Option ℕ). not (is_proper modules entry && is_ident o part.submodule_ident_number))
        (ap (λ (n : ℕ). submodule_ident modules n part.subslot_number) e ∙ (ap (λ (n : ℕ). submodule_ident modules slot n) f ∙ nothing))
        ∙ ap not (and_no (is_proper modules entry))

-- so it is listed after a change elsewhere, if it was before
pub same_listed : (expected : Expected) (real now : List RealModule) (slot subslot : ℕ) → IsSameAt real now slot subslot
    → is_listed slot subslot (diff_of expected now) ≡ is_listed slot subslot (diff_of expected real)
same_listed expected real now slot subslot same =
    listed_is now slot subslot (wanted_by expected)
    ∙ (sym (any_same (is_out_at real slot subslot) (is_out_at now slot subslot) (wanted_by expected) one_wanted) ∙ sym (listed_is real slot subslot (wanted_by expected)))
  where
    one_wanted : (w : Wanted) → is_out_at real slot subslot w ≡ is_out_at now slot subslot w
    one_wanted w = by_slot (w.entry.slot_number == slot) refl
      where
        by_part : (w.entry.slot_number == slot) ≡ true → (part : ExpectedSubmodule) (c : Bool) → (part.subslot_number == subslot) ≡ c → (is_out real w.entry part && c) ≡ (is_out now w.entry part && c)
        by_part e part true f = ap (λ (b : Bool). b && true) (same_out real now slot subslot same w.entry part (eqb-true w.entry.slot_number slot e) (eqb-true part.subslot_number subslot f))
        by_part e part false f = and_no (is_out real w.entry part) ∙ sym (and_no (is_out now w.entry part))

        by_slot : (b : Bool) → (w.entry.slot_number == slot) ≡ b
            → (b && list_any (λ part. is_out real w.entry part && part.subslot_number == subslot) w.submodules)
            ≡ (b && list_any (λ part. is_out now w.entry part && part.subslot_number == subslot) w.submodules)
        by_slot true e =
            any_same (λ (part : ExpectedSubmodule). is_out real w.entry part && part.subslot_number == subslot) (λ (part : ExpectedSubmodule). is_out now w.entry part && part.subslot_number == subslot) w.submodules
            (λ part. by_part e part (part.subslot_number == subslot) refl)
        by_slot false e = refl

-- ---- the submodules of a relation

-- A submodule in this slot and subslot is expected.
abbrev pub has_part : ℕ → ℕ → Wanted → Bool
has_part slot subslot wanted = wanted.entry.slot_number == slot && list_any (λ part. part.subslot_number == subslot) wanted.submodules

abbrev pub is_expected : Expected → ℕ → ℕ → Bool
is_expected expected slot subslot = list_any (has_part slot subslot) (wanted_by expected)

own_in : (rows : Listed DiffModule DiffSubmodule) (slot subslot : ℕ) (w : Wanted)
    → list_any (λ place. place.slot == slot && place.subslot == subslot) (places_in rows w.entry.slot_number w.submodules) ≡ (has_part slot subslot w && not (is_listed slot subslot rows))
own_in rows slot subslot w =
    any_map (λ (place : Place). place.slot == slot && place.subslot == subslot) make (filter keep w.submodules)
    ∙ (any_filter keep (λ (part : ExpectedSubmodule). w.entry.slot_number == slot && part.subslot_number == subslot) w.submodules
    ∙ by_slot (w.entry.slot_number == slot) refl)
  where
    make : ExpectedSubmodule → Place
    make = λ part. record { slot = w.entry.slot_number; subslot = part.subslot_number }

    keep : ExpectedSubmodule → Bool
    keep = λ part. not (is_listed w.entry.slot_number part.subslot_number rows)

    one : (w.entry.slot_number == slot) ≡ true → (part : ExpectedSubmodule) (c : Bool) → (part.subslot_number == subslot) ≡ c
        → (not (is_listed w.entry.slot_number part.subslot_number rows) && c) ≡ (c && not (is_listed slot subslot rows))
    one e part true f =
        and_yes (not (is_listed w.entry.slot_number part.subslot_number rows))
        ∙ ap not (ap (λ (n : ℕ). is_listed n part.subslot_number rows) (eqb-true w.entry.slot_number slot e) ∙ ap (λ (n : ℕ). is_listed slot n rows) (eqb-true part.subslot_number subslot f))
    one e part false f = and_no (not (is_listed w.entry.slot_number part.subslot_number rows))

    each_part : (w.entry.slot_number == slot) ≡ true → (parts : List ExpectedSubmodule)
        → list_any (λ part. not (is_listed w.entry.slot_number part.subslot_number rows) && part.subslot_number == subslot) parts
        ≡ (list_any (λ part. part.subslot_number == subslot) parts && not (is_listed slot subslot rows))
    each_part e [] = refl
    each_part e (part ∷ parts) =
        ap (λ (b : Bool). b || list_any (λ p. not (is_listed w.entry.slot_number p.subslot_number rows) && p.subslot_number == subslot) parts)
        (one e part (part.subslot_number == subslot) refl)
        ∙ (ap (λ (b : Bool). (part.subslot_number == subslot && not (is_listed slot subslot rows)) || b) (each_part e parts)
        ∙ or_and (part.subslot_number == subslot) (list_any (λ p. p.subslot_number == subslot) parts) (not (is_listed slot subslot rows)))

    by_slot : (b : Bool) → (w.entry.slot_number == slot) ≡ b
        → list_any (λ part. not (is_listed w.entry.slot_number part.subslot_number rows) && (b && part.subslot_number == subslot)) w.submodules
        ≡ ((b && list_any (λ part. part.subslot_number == subslot) w.submodules) && not (is_listed slot subslot rows))
    by_slot true e = each_part e w.submodules
    by_slot false e =
        any_never (λ (part : ExpectedSubmodule). not (is_listed w.entry.slot_number part.subslot_number rows) && (false && part.subslot_number == subslot)) w.submodules
        (λ part. and_no (not (is_listed w.entry.slot_number part.subslot_number rows)))

own_among : (rows : Listed DiffModule DiffSubmodule) (slot subslot : ℕ) (wanteds : List Wanted)
    → is_own (places_of rows wanteds) slot subslot ≡ (list_any (has_part slot subslot) wanteds && not (is_listed slot subslot rows))
own_among rows slot subslot [] = refl
own_among rows slot subslot (w ∷ ws) =
    any_append (λ (place : Place). place.slot == slot && place.subslot == subslot) (places_in rows w.entry.slot_number w.submodules) (places_of rows ws)
    ∙ (ap (λ (b : Bool). b || is_own (places_of rows ws) slot subslot) (own_in rows slot subslot w)
    ∙ (ap (λ (b : Bool). (has_part slot subslot w && not (is_listed slot subslot rows)) || b) (own_among rows slot subslot ws)
    ∙ or_and (has_part slot subslot w) (list_any (has_part slot subslot) ws) (not (is_listed slot subslot rows))))

-- The submodules of a relation are those that are expected and do not differ.
abbrev pub own_places : Expected → List RealModule → List Place
own_places expected real = places_of (diff_of expected real) (wanted_by expected)

pub own_is : (expected : Expected) (real : List RealModule) (slot subslot : ℕ)
    → is_own (own_places expected real) slot subslot ≡ (is_expected expected slot subslot && not (is_listed slot subslot (diff_of expected real)))
own_is expected real slot subslot = own_among (diff_of expected real) slot subslot (wanted_by expected)

-- after a change elsewhere they are the same
pub same_own : (expected : Expected) (real now : List RealModule) (slot subslot : ℕ) → IsSameAt real now slot subslot
    → is_own (own_places expected now) slot subslot ≡ is_own (own_places expected real) slot subslot
same_own expected real now slot subslot same =
    own_is expected now slot subslot
    ∙ (ap (λ (b : Bool). is_expected expected slot subslot && not b) (same_listed expected real now slot subslot same) ∙ sym (own_is expected real slot subslot))

-- one of them is expected
pub own_expected : (expected : Expected) (real : List RealModule) (slot subslot : ℕ) → is_own (own_places expected real) slot subslot ≡ true → is_expected expected slot subslot ≡ true
own_expected expected real slot subslot own =
    (and_parts (is_expected expected slot subslot) (not (is_listed slot subslot (diff_of expected real))) (sym (own_is expected real slot subslot) ∙ own)).0

-- ---- one of them is plugged

pub record IsPluggedAt (real : List RealModule) (slot subslot : ℕ) : Type 0 where
  pub ident : ℕ
  pub part : ℕ
  pub module_is : module_ident real slot ≡ Some ident
  pub part_is : submodule_ident real slot subslot ≡ Some part

module _ (real : List RealModule) (slot subslot : ℕ) where
  not_out : (proper as_it_is : Bool) → (not (proper && as_it_is) && true) ≡ false → (proper ≡ true) × (as_it_is ≡ true)
  not_out true true e = (refl, refl)
  not_out true false e = absurd cc
  not_out false as_it_is e = absurd cc

  some_ident : (o : Option ℕ) (expected : ℕ) → is_ident o expected ≡ true → (n : ℕ) × (o ≡ Some n)
  some_ident (Some n) expected e = (n, refl)
  some_ident None expected e = absurd cc

  part_plugged : (entry : ExpectedModule) → (entry.slot_number == slot) ≡ true → (parts : List ExpectedSubmodule) → list_any (λ part. part.subslot_number == subslot) parts ≡ true
      → list_any (λ part. is_out real entry part && part.subslot_number == subslot) parts ≡ false → IsPluggedAt real slot subslot
  part_plugged entry at [] there none = absurd cc
  part_plugged entry at (part ∷ parts) there none =
      by_part (part.subslot_number == subslot) refl there none (λ later rest. part_plugged entry at parts later rest)
    where
      by_part : (b : Bool) → (part.subslot_number == subslot) ≡ b → (b || list_any (λ p. p.subslot_number == subslot) parts) ≡ true
          → ((is_out real entry part && b) || list_any (λ p. is_out real entry p && p.subslot_number == subslot) parts) ≡ false
          → (list_any (λ p. p.subslot_number == subslot) parts ≡ true → list_any (λ p. is_out real entry p && p.subslot_number == subslot) parts ≡ false → IsPluggedAt real slot subslot)
          → IsPluggedAt real slot subslot
      by_part true e f g later =
          let all = not_out (is_proper real entry) (is_as_expected real entry.slot_number part)
          (or_parts (is_out real entry part && true) (list_any (λ p. is_out real entry p && p.subslot_number == subslot) parts) g).0 in
          let one = some_ident (module_ident real entry.slot_number) entry.module_ident_number all.0 in
          let other = some_ident (submodule_ident real entry.slot_number part.subslot_number) part.submodule_ident_number all.1 in
          let slot_is = eqb-true entry.slot_number slot at in
          record {
            ident = one.0;
            part = other.0;
            module_is = ap (λ (n : ℕ). module_ident real n) (sym slot_is) ∙ one.1;
            part_is = ap (λ (n : ℕ). submodule_ident real n subslot) (sym slot_is)
                ∙ (ap (λ (n : ℕ). submodule_ident real entry.slot_number n) (sym (eqb-true part.subslot_number subslot e)) ∙ other.1);
          }
      by_part false e f g later =
          later f (or_parts (is_out real entry part && false) (list_any (λ p. is_out real entry p && p.subslot_number == subslot) parts) g).1

  among_plugged : (wanteds : List Wanted) → list_any (has_part slot subslot) wanteds ≡ true → list_any (is_out_at real slot subslot) wanteds ≡ false → IsPluggedAt real slot subslot
  among_plugged [] there none = absurd cc
  among_plugged (w ∷ ws) there none =
      let parts = or_parts (is_out_at real slot subslot w) (list_any (is_out_at real slot subslot) ws) none in
      by_has (has_part slot subslot w) refl there parts.0 (λ later. among_plugged ws later parts.1)
    where
      by_has : (b : Bool) → has_part slot subslot w ≡ b → (b || list_any (has_part slot subslot) ws) ≡ true → is_out_at real slot subslot w ≡ false
          → (list_any (has_part slot subslot) ws ≡ true → IsPluggedAt real slot subslot) → IsPluggedAt real slot subslot
      by_has true e f g later =
          let all = and_parts (w.entry.slot_number == slot) (list_any (λ part. part.subslot_number == subslot) w.submodules) e in
          part_plugged w.entry all.0 w.submodules all.1
          (ap (λ (b : Bool). b && list_any (λ part. is_out real w.entry part && part.subslot_number == subslot) w.submodules) (sym all.0) ∙ g)
      by_has false e f g later = later f

no_more : (b : Bool) → not b ≡ true → b ≡ false
no_more false e = refl
no_more true e = absurd cc

pub own_plugged : (expected : Expected) (real : List RealModule) (slot subslot : ℕ) → is_own (own_places expected real) slot subslot ≡ true → IsPluggedAt real slot subslot
own_plugged expected real slot subslot own =
    let parts = and_parts (is_expected expected slot subslot) (not (is_listed slot subslot (diff_of expected real))) (sym (own_is expected real slot subslot) ∙ own) in
    among_plugged real slot subslot (wanted_by expected) parts.0
    (sym (listed_is real slot subslot (wanted_by expected)) ∙ no_more (is_listed slot subslot (diff_of expected real)) parts.1)

-- ---- the places

-- The slot and the subslot of a place.
abbrev pub key_of : ExpectedPlace → ℕ × ℕ
key_of place = (place.slot, place.subslot)

-- The submodules that a Connect expects are places of its relation.
abbrev pub AreThere : Expected → List (ℕ × ℕ) → Type 0
AreThere expected keys = (slot subslot : ℕ) → is_expected expected slot subslot ≡ true → list_any (λ key. key.0 == slot && key.1 == subslot) keys ≡ true

first_there : (rows : Listed DiffModule DiffSubmodule) (slot subslot : ℕ) (wanteds : List Wanted)
    → list_any (λ key. key.0 == slot && key.1 == subslot) (keys_of (first_places rows wanteds)) ≡ list_any (has_part slot subslot) wanteds
first_there rows slot subslot wanteds = any_map (λ (key : ℕ × ℕ). key.0 == slot && key.1 == subslot) key_of (first_places rows wanteds) ∙ each_wanted wanteds
  where
    each_part : (b : Bool) (n : ℕ) → (n == slot) ≡ b → (parts : List ExpectedSubmodule)
        → list_any (λ place. place.slot == slot && place.subslot == subslot) (map (first_place rows n) parts) ≡ (b && list_any (λ part. part.subslot_number == subslot) parts)
    each_part true n e parts =
        any_map (λ (place : ExpectedPlace). place.slot == slot && place.subslot == subslot) (first_place rows n) parts
        ∙ any_same (λ (part : ExpectedSubmodule). n == slot && part.subslot_number == subslot) (λ (part : ExpectedSubmodule). part.subslot_number == subslot) parts
        (λ part. ap (λ (c : Bool). c && part.subslot_number == subslot) e)
    each_part false n e parts =
        any_map (λ (place : ExpectedPlace). place.slot == slot && place.subslot == subslot) (first_place rows n) parts
        ∙ any_never (λ (part : ExpectedSubmodule). n == slot && part.subslot_number == subslot) parts (λ part. ap (λ (c : Bool). c && part.subslot_number == subslot) e)

    each_wanted : (ws : List Wanted) → list_any (λ place. place.slot == slot && place.subslot == subslot) (first_places rows ws) ≡ list_any (has_part slot subslot) ws
    each_wanted [] = refl
    each_wanted (w ∷ ws) =
        any_append (λ (place : ExpectedPlace). place.slot == slot && place.subslot == subslot) (map (first_place rows w.entry.slot_number) w.submodules) (first_places rows ws)
        ∙ (ap (λ (b : Bool). b || list_any (λ place. place.slot == slot && place.subslot == subslot) (first_places rows ws))
        (each_part (w.entry.slot_number == slot) w.entry.slot_number refl w.submodules)
        ∙ ap (λ (b : Bool). has_part slot subslot w || b) (each_wanted ws))

pub opened_there : (expected : Expected) (rows : Listed DiffModule DiffSubmodule) → AreThere expected (keys_of (opened_places expected rows))
opened_there expected rows slot subslot e = first_there rows slot subslot (wanted_by expected) ∙ e

-- a change that affects no place affects no submodule that is expected
pub missed : (expected : Expected) (plugs : PlugState) → AreThere expected (keys_of plugs.places) → (affected : Affected) → is_hit affected plugs ≡ false
    → (slot subslot : ℕ) → covers affected slot subslot ≡ true → is_expected expected slot subslot ≡ false
missed expected plugs there affected none slot subslot covered = by_expected (is_expected expected slot subslot) refl
  where
    same_key : (key : ℕ × ℕ) → (key.0 == slot && key.1 == subslot) ≡ true → covers affected key.0 key.1 ≡ true
    same_key key e =
        let parts = and_parts (key.0 == slot) (key.1 == subslot) e in
        ap (λ (n : ℕ). covers affected n key.1) (eqb-true key.0 slot parts.0) ∙ (ap (λ (n : ℕ). covers affected slot n) (eqb-true key.1 subslot parts.1) ∙ covered)

    no_key : (key : ℕ × ℕ) → covers affected key.0 key.1 ≡ false → (key.0 == slot && key.1 == subslot) ≡ false
    no_key key f = by_same (key.0 == slot && key.1 == subslot) refl
      where
        by_same : (b : Bool) → (key.0 == slot && key.1 == subslot) ≡ b → b ≡ false
        by_same true e = absurd (true≢false (sym (same_key key e) ∙ f))
        by_same false e = refl

    by_expected : (b : Bool) → is_expected expected slot subslot ≡ b → b ≡ false
    by_expected true e =
        absurd (true≢false (sym (there slot subslot e)
        ∙ none_any (λ (key : ℕ × ℕ). covers affected key.0 key.1) (λ (key : ℕ × ℕ). key.0 == slot && key.1 == subslot) (keys_of plugs.places) no_key
        (any_map (λ (key : ℕ × ℕ). covers affected key.0 key.1) key_of plugs.places ∙ none)))
    by_expected false e = refl

-- the same places are affected if they have the same slots and subslots
pub hit_by_keys : (affected : Affected) (one other : PlugState) → keys_of other.places ≡ keys_of one.places → is_hit affected one ≡ is_hit affected other
hit_by_keys affected one other e =
    sym (any_map (λ (key : ℕ × ℕ). covers affected key.0 key.1) key_of one.places)
    ∙ (ap (λ (keys : List (ℕ × ℕ)). list_any (λ key. covers affected key.0 key.1) keys) (sym e)
    ∙ any_map (λ (key : ℕ × ℕ). covers affected key.0 key.1) key_of other.places)

-- a submodule that is no place of the relation is not one of its own
pub not_own : (expected : Expected) (real : List RealModule) (slot subslot : ℕ) → is_expected expected slot subslot ≡ false → is_own (own_places expected real) slot subslot ≡ false
not_own expected real slot subslot none =
    own_is expected real slot subslot ∙ ap (λ (b : Bool). b && not (is_listed slot subslot (diff_of expected real))) none

-- nor is one where nothing is plugged
pub empty_own : (expected : Expected) (real : List RealModule) (slot subslot : ℕ) → submodule_ident real slot subslot ≡ None → is_own (own_places expected real) slot subslot ≡ false
empty_own expected real slot subslot none = by_own (is_own (own_places expected real) slot subslot) refl
  where
    none_some : (n : ℕ) → ◌≡◌ {A = Option ℕ} None (Some n) → ⊥
    none_some n e = absurd cc

    by_own : (b : Bool) → is_own (own_places expected real) slot subslot ≡ b → b ≡ false
    by_own true e = let there = own_plugged expected real slot subslot e in absurd (none_some there.part (sym none ∙ there.part_is))
    by_own false e = refl
