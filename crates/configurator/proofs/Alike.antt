-- Checking by numbers gives the same as checking by IDs.
use Rattle.std.proofs.Common.{if◌then◌else◌, ◌≡◌, ◌==◌, ◌&&◌, ◌||◌, ◌∙◌, ℕ, refl, sym, ap, subst, not, Bool, true, false, List, [], ◌∷◌, length, Option, Some, None, is_some, arith}
use Rattle.std.specs.List.{AllByRecursion, list_any, list_all}
use Rattle.std.specs.Option.{option_or}
use Rattle.std.specs.Str.{bytes_eq}
use Rattle.std.proofs.lemmas.Bool.{and_from, and_left, and_parts, and_right, eq-eqb, eqb-true, false_from_ne_true, false≢true, not-true, not_from_false, or_from, or_left, or_right, true_from_ne_false, true≢false}
use Rattle.std.proofs.lemmas.Slice.Eq.{bytes_eq-Decides}
use Rattle.catalogue.specs.Modules.{Module, has_id}
use Rattle.catalogue.specs.AccessPoints.{Reference}
use Rattle.catalogue.specs.Catalogues.{Catalogue}
use Rattle.configurator.specs.declared.known.Known.{Known}
use Rattle.configurator.specs.Allowed.{are_allowed, are_once, has_other, is_fixed_well, is_in, may_all_stand, may_stand, takes}
use Rattle.configurator.specs.Known.{AreNumbers, IsKnown, are_open, does_stand, fixed_by, fixer, fixes, is_fixed_open, is_no_other, is_number, is_open, number_in, physical_in, stands_well, taken_by, takes_by}

-- ---- tests

-- two Booleans are equal if each implies the other
both : (a b : Bool) → (a ≡ true → b ≡ true) → (b ≡ true → a ≡ true) → a ≡ b
both true true to from = refl
both true false to from = sym (to refl)
both false true to from = from refl
both false false to from = refl

and_true : (a : Bool) → (a && true) ≡ a
and_true true = refl
and_true false = refl

any_is : {A : Type 0} (p q : A → Bool) → ((x : A) → p x ≡ q x) → (xs : List A) → list_any p xs ≡ list_any q xs
any_is p q same [] = refl
any_is p q same (x ∷ xs) = λ i. same x i || any_is p q same xs i

all_is : {A : Type 0} (p q : A → Bool) → ((x : A) → p x ≡ q x) → (xs : List A) → list_all p xs ≡ list_all q xs
all_is p q same [] = refl
all_is p q same (x ∷ xs) = λ i. same x i && all_is p q same xs i

all_map : {A : Type 0} (P Q : A → Type 0) → ((x : A) → P x → Q x) → (xs : List A) → AllByRecursion P xs → AllByRecursion Q xs
all_map P Q step [] all = tt
all_map P Q step (x ∷ xs) all = (step x all.0, all_map P Q step xs all.1)

-- if all slots pass a test, each one does
all_in : (p : ℕ → Bool) (slot : ℕ) (xs : List ℕ) → list_all p xs ≡ true → is_in slot xs ≡ true → p slot ≡ true
all_in p slot [] e inside = absurd cc
all_in p slot (x ∷ xs) e inside = let a = and_parts (p x) (list_all p xs) e in either (x == slot) refl a.0 (λ there. all_in p slot xs a.1 there) inside
  where
    either : (b : Bool) → (x == slot) ≡ b → p x ≡ true → (is_in slot xs ≡ true → p slot ≡ true) → (b || is_in slot xs) ≡ true → p slot ≡ true
    either true same one others inside = subst (λ (n : ℕ). p n ≡ true) (eqb-true x slot same) one
    either false same one others inside = others inside

-- if each slot that passes one test passes another, and all pass the first, all pass the second
all_to : (p q : ℕ → Bool) (xs : List ℕ) → ((x : ℕ) → is_in x xs ≡ true → p x ≡ true → q x ≡ true) → list_all p xs ≡ true → list_all q xs ≡ true
all_to p q [] step e = refl
all_to p q (x ∷ xs) step e =
    let a = and_parts (p x) (list_all p xs) e in
    and_from (q x) (list_all q xs) (step x (or_left (x == x) (is_in x xs) (eq-eqb x x refl)) a.0)
    (all_to p q xs (λ y inside. step y (or_right (x == y) (is_in y xs) inside)) a.1)

none_in : (slot : ℕ) (xs : List ℕ) → (length xs == 0) ≡ true → is_in slot xs ≡ true → ⊥
none_in slot [] e inside = false≢true inside
none_in slot (x ∷ xs) e inside = omega (arith, eqb-true (length (x ∷ xs)) 0 e)

none_all : (p : ℕ → Bool) (xs : List ℕ) → (length xs == 0) ≡ true → list_all p xs ≡ true
none_all p [] e = refl
none_all p (x ∷ xs) e = absurd (omega (arith, eqb-true (length (x ∷ xs)) 0 e))

-- ---- numbers

text_is : (a b : List ℕ) → bytes_eq a b ≡ true → a ≡ b
text_is a b e = (bytes_eq-Decides a b).0 e

text_same : (a b : List ℕ) → a ≡ b → bytes_eq a b ≡ true
text_same a b e = (bytes_eq-Decides a b).1 e

number_given : (n : ℕ) (o : Option ℕ) → is_number n o ≡ true → o ≡ Some n
number_given n None e = absurd cc
number_given n (Some other) e = ap Some (eqb-true other n e)

only_number : (n : ℕ) (o : Option ℕ) → is_some o ≡ true → is_no_other n o ≡ true → o ≡ Some n
only_number n None some e = absurd cc
only_number n (Some other) some e = ap Some (eqb-true other n e)

-- two IDs are equal exactly if they have the same number
number_is : (modules : List Module) (number : List ℕ → Option ℕ) → AreNumbers modules number → (text target : List ℕ) (n : ℕ) → number target ≡ Some n
    → bytes_eq text target ≡ is_number n (number text)
number_is modules number numbers text target n is =
    both (bytes_eq text target) (is_number n (number text))
    (λ e. subst (λ (o : Option ℕ). is_number n o ≡ true) (sym (ap number (text_is text target e) ∙ is)) (eq-eqb n n refl))
    (λ e. text_same text target (numbers.apart text target n (number_given n (number text) e) is))

takes_is : (modules : List Module) (number : List ℕ → Option ℕ) → AreNumbers modules number → (slot : ℕ) (target : List ℕ) (n : ℕ) → number target ≡ Some n
    → (entry : Reference) → takes slot target entry ≡ takes_by number slot n entry
takes_is modules number numbers slot target n is entry =
    ap (λ (b : Bool). b && (is_in slot entry.allowed_in || is_in slot entry.fixed_in)) (number_is modules number numbers entry.target target n is)

-- ---- what is fixed in a slot

-- if the number found in a slot is another module's, another module is fixed there
other_fixed : (modules : List Module) (number : List ℕ → Option ℕ) → AreNumbers modules number → (slot : ℕ) (target : List ℕ) (n : ℕ) → number target ≡ Some n
    → (entries : List Reference) → is_no_other n (fixer number slot entries) ≡ false → list_any (has_other slot target) entries ≡ true
other_fixed modules number numbers slot target n is [] e = absurd (true≢false e)
other_fixed modules number numbers slot target n is (entry ∷ entries) e =
    either (is_in slot entry.fixed_in) (number entry.target) refl refl (other_fixed modules number numbers slot target n is entries) e
  where
    either : (b : Bool) (o : Option ℕ) → is_in slot entry.fixed_in ≡ b → number entry.target ≡ o
        → (is_no_other n (fixer number slot entries) ≡ false → list_any (has_other slot target) entries ≡ true)
        → is_no_other n (option_or (if b then o else None) (fixer number slot entries)) ≡ false → list_any (has_other slot target) (entry ∷ entries) ≡ true
    either false o inside its others e = or_right (has_other slot target entry) (list_any (has_other slot target) entries) (others e)
    either true None inside its others e = or_right (has_other slot target entry) (list_any (has_other slot target) entries) (others e)
    either true (Some k) inside its others e =
        or_left (has_other slot target entry) (list_any (has_other slot target) entries)
        (and_from (not (bytes_eq entry.target target)) (is_in slot entry.fixed_in)
        (not_from_false (bytes_eq entry.target target) (number_is modules number numbers entry.target target n is ∙ ap (is_number n) its ∙ e)) inside)

-- if a module of the catalogue is fixed in a slot, one is found there
fixer_some : (number : List ℕ → Option ℕ) (slot : ℕ) (entries : List Reference)
    → AllByRecursion (λ (entry : Reference). (k : ℕ) → is_in slot entry.fixed_in ≡ true → number entry.target ≡ Some k → is_some (fixer number slot entries) ≡ true) entries
fixer_some number slot [] = tt
fixer_some number slot (entry ∷ entries) = (first, all_map _ _ (λ other found k inside is. behind (fixes number slot entry) (fixer number slot entries) (found k inside is)) entries (fixer_some number slot entries))
  where
    behind : (o p : Option ℕ) → is_some p ≡ true → is_some (option_or o p) ≡ true
    behind None p e = e
    behind (Some x) p e = refl

    first : (k : ℕ) → is_in slot entry.fixed_in ≡ true → number entry.target ≡ Some k → is_some (option_or (if is_in slot entry.fixed_in then number entry.target else None) (fixer number slot entries)) ≡ true
    first k inside is = rw inside (rw is refl)

-- a module that is fixed in a slot has the number that is found there
abbrev pub IsFoundIn : (ℕ → Option ℕ) → (List ℕ → Option ℕ) → ℕ → Reference → Type 0
IsFoundIn fixed number slot entry = is_in slot entry.fixed_in ≡ true → (k : ℕ) × (number entry.target ≡ Some k) × (fixed slot ≡ Some k)

found_in : (physical : ℕ → Bool) (fixed : ℕ → Option ℕ) (number : List ℕ → Option ℕ) (slot : ℕ) (entry : Reference)
    → ((k : ℕ) → is_in slot entry.fixed_in ≡ true → number entry.target ≡ Some k → is_some (fixed slot) ≡ true)
    → (o : Option ℕ) → number entry.target ≡ o → are_open physical fixed o entry.fixed_in ≡ true → IsFoundIn fixed number slot entry
found_in physical fixed number slot entry some None is e inside = absurd (none_in slot entry.fixed_in e inside)
found_in physical fixed number slot entry some (Some k) is e inside =
    let a = and_parts (not (slot == 0) && physical slot) (is_no_other k (fixed slot)) (all_in (is_open physical fixed k) slot entry.fixed_in e inside) in
    (k, is, only_number k (fixed slot) (some k inside is) a.1)

all_found : (physical : ℕ → Bool) (fixed : ℕ → Option ℕ) (number : List ℕ → Option ℕ) (slot : ℕ) (entries : List Reference)
    → AllByRecursion (λ (entry : Reference). (k : ℕ) → is_in slot entry.fixed_in ≡ true → number entry.target ≡ Some k → is_some (fixed slot) ≡ true) entries
    → list_all (is_fixed_open physical fixed number) entries ≡ true → AllByRecursion (IsFoundIn fixed number slot) entries
all_found physical fixed number slot [] some e = tt
all_found physical fixed number slot (entry ∷ entries) some e =
    let a = and_parts (is_fixed_open physical fixed number entry) (list_all (is_fixed_open physical fixed number) entries) e in
    (found_in physical fixed number slot entry some.0 (number entry.target) refl a.0, all_found physical fixed number slot entries some.1 a.1)

-- no other module is fixed in a slot if this one or none is found there
no_other_fixed : (modules : List Module) (number : List ℕ → Option ℕ) → AreNumbers modules number → (fixed : ℕ → Option ℕ) (slot : ℕ) (target : List ℕ) (n : ℕ) → number target ≡ Some n
    → is_no_other n (fixed slot) ≡ true → (entries : List Reference) → AllByRecursion (IsFoundIn fixed number slot) entries → list_any (has_other slot target) entries ≡ false
no_other_fixed modules number numbers fixed slot target n is e [] all = refl
no_other_fixed modules number numbers fixed slot target n is e (entry ∷ entries) all =
    or_from (has_other slot target entry) (list_any (has_other slot target) entries) (either (is_in slot entry.fixed_in) refl all.0)
    (no_other_fixed modules number numbers fixed slot target n is e entries all.1)
  where
    either : (b : Bool) → is_in slot entry.fixed_in ≡ b → IsFoundIn fixed number slot entry → has_other slot target entry ≡ false
    either false inside found = and_right (not (bytes_eq entry.target target)) (is_in slot entry.fixed_in) inside
    either true inside found =
        let f = found inside in
        let same = subst (λ (o : Option ℕ). is_no_other n o ≡ true) f.2 e in
        and_left (not (bytes_eq entry.target target)) (is_in slot entry.fixed_in)
        (ap not (number_is modules number numbers entry.target target n is ∙ ap (is_number n) f.1 ∙ same))

-- a module may be put into the slots in which it is fixed
taken_there : (entries : List Reference) → AllByRecursion (λ (entry : Reference). (slot : ℕ) → is_in slot entry.fixed_in ≡ true → list_any (takes slot entry.target) entries ≡ true) entries
taken_there [] = tt
taken_there (entry ∷ entries) = (first, all_map _ _ (λ other taken slot inside. or_right (takes slot other.target entry) (list_any (takes slot other.target) entries) (taken slot inside)) entries (taken_there entries))
  where
    first : (slot : ℕ) → is_in slot entry.fixed_in ≡ true → list_any (takes slot entry.target) (entry ∷ entries) ≡ true
    first slot inside =
        or_left (takes slot entry.target entry) (list_any (takes slot entry.target) entries)
        (and_from (bytes_eq entry.target entry.target) (is_in slot entry.allowed_in || is_in slot entry.fixed_in) (text_same entry.target entry.target refl)
        (or_right (is_in slot entry.allowed_in) (is_in slot entry.fixed_in) inside))

-- ---- one module

open_may : (found : Catalogue) (known : Known) → IsKnown found known → (slot : ℕ) (target : List ℕ) (n : ℕ) → number_in known target ≡ Some n
    → AllByRecursion (IsFoundIn (fixed_by known) (number_in known) slot) found.access_point.references
    → is_open (physical_in known) (fixed_by known) n slot ≡ true → list_any (takes slot target) found.access_point.references ≡ true
    → may_stand found.access_point found.modules slot target ≡ true
unfolding may_stand
open_may found known is_known slot target n is all e taken =
    let a = and_parts (not (slot == 0) && physical_in known slot) (is_no_other n (fixed_by known slot)) e in
    let b = and_parts (not (slot == 0)) (physical_in known slot) a.0 in
    let other = list_any (has_other slot target) found.access_point.references in
    and_from _ (not other)
    (and_from _ (list_any (takes slot target) found.access_point.references)
    (and_from _ (has_id target found.modules)
    (and_from (not (slot == 0)) (is_in slot found.access_point.physical_slots) b.0 (sym (is_known.physical slot) ∙ b.1))
    (sym (is_known.numbers.known target) ∙ ap is_some is))
    taken)
    (not_from_false other (no_other_fixed found.modules (number_in known) is_known.numbers (fixed_by known) slot target n is a.1 found.access_point.references all))

-- what is true of a module that may be in a slot
record MayStand (found : Catalogue) (slot : ℕ) (target : List ℕ) : Type 0 where
  apart : not (slot == 0) ≡ true
  physical : is_in slot found.access_point.physical_slots ≡ true
  known : has_id target found.modules ≡ true
  taken : list_any (takes slot target) found.access_point.references ≡ true
  alone : list_any (has_other slot target) found.access_point.references ≡ false

may_parts : (found : Catalogue) (slot : ℕ) (target : List ℕ) → may_stand found.access_point found.modules slot target ≡ true → MayStand found slot target
unfolding may_stand
may_parts found slot target e =
    let taken = list_any (takes slot target) found.access_point.references in
    let other = list_any (has_other slot target) found.access_point.references in
    let physical = is_in slot found.access_point.physical_slots in
    let a = and_parts (not (slot == 0) && physical && has_id target found.modules && taken) (not other) e in
    let b = and_parts (not (slot == 0) && physical && has_id target found.modules) taken a.0 in
    let c = and_parts (not (slot == 0) && physical) (has_id target found.modules) b.0 in
    let d = and_parts (not (slot == 0)) physical c.0 in
    record { apart = d.0; physical = d.1; known = c.1; taken = b.1; alone = not-true other a.1 }

may_open : (found : Catalogue) (known : Known) → IsKnown found known → (slot : ℕ) (target : List ℕ) (n : ℕ) → number_in known target ≡ Some n
    → may_stand found.access_point found.modules slot target ≡ true → is_open (physical_in known) (fixed_by known) n slot ≡ true
may_open found known is_known slot target n is e =
    let may = may_parts found slot target e in
    and_from (not (slot == 0) && physical_in known slot) (is_no_other n (fixed_by known slot))
    (and_from (not (slot == 0)) (physical_in known slot) may.apart (is_known.physical slot ∙ may.physical))
    (true_from_ne_false (is_no_other n (fixed_by known slot)) (λ none.
    true≢false (sym (other_fixed found.modules (number_in known) is_known.numbers slot target n is found.access_point.references (ap (is_no_other n) (sym (is_known.fixed slot)) ∙ none)) ∙ may.alone)))

-- ---- where modules are fixed

well_one : (found : Catalogue) (known : Known) → IsKnown found known
    → ((slot : ℕ) → AllByRecursion (IsFoundIn (fixed_by known) (number_in known) slot) found.access_point.references)
    → (entry : Reference) → ((slot : ℕ) → is_in slot entry.fixed_in ≡ true → list_any (takes slot entry.target) found.access_point.references ≡ true)
    → (o : Option ℕ) → number_in known entry.target ≡ o → are_open (physical_in known) (fixed_by known) o entry.fixed_in ≡ true
    → is_fixed_well found.access_point found.modules entry ≡ true
well_one found known is_known all entry taken None is e = none_all (λ slot. may_stand found.access_point found.modules slot entry.target) entry.fixed_in e
well_one found known is_known all entry taken (Some n) is e =
    all_to (is_open (physical_in known) (fixed_by known) n) (λ slot. may_stand found.access_point found.modules slot entry.target) entry.fixed_in
    (λ slot inside is_so. open_may found known is_known slot entry.target n is (all slot) is_so (taken slot inside)) e

all_well : (found : Catalogue) (known : Known) → IsKnown found known
    → ((slot : ℕ) → AllByRecursion (IsFoundIn (fixed_by known) (number_in known) slot) found.access_point.references)
    → (entries : List Reference)
    → AllByRecursion (λ (entry : Reference). (slot : ℕ) → is_in slot entry.fixed_in ≡ true → list_any (takes slot entry.target) found.access_point.references ≡ true) entries
    → list_all (is_fixed_open (physical_in known) (fixed_by known) (number_in known)) entries ≡ true
    → list_all (is_fixed_well found.access_point found.modules) entries ≡ true
all_well found known is_known all [] taken e = refl
all_well found known is_known all (entry ∷ entries) taken e =
    let a = and_parts (is_fixed_open (physical_in known) (fixed_by known) (number_in known) entry) (list_all (is_fixed_open (physical_in known) (fixed_by known) (number_in known)) entries) e in
    and_from (is_fixed_well found.access_point found.modules entry) (list_all (is_fixed_well found.access_point found.modules) entries)
    (well_one found known is_known all entry taken.0 (number_in known entry.target) refl a.0)
    (all_well found known is_known all entries taken.1 a.1)

open_one : (found : Catalogue) (known : Known) → IsKnown found known → (target : List ℕ) (slots : List ℕ) (o : Option ℕ) → number_in known target ≡ o
    → list_all (λ slot. may_stand found.access_point found.modules slot target) slots ≡ true → are_open (physical_in known) (fixed_by known) o slots ≡ true
open_one found known is_known target [] None is e = refl
open_one found known is_known target (slot ∷ slots) None is e =
    let may = may_parts found slot target (and_parts (may_stand found.access_point found.modules slot target) (list_all (λ slot. may_stand found.access_point found.modules slot target) slots) e).0 in
    absurd (false≢true (sym (ap is_some is) ∙ is_known.numbers.known target ∙ may.known))
open_one found known is_known target slots (Some n) is e =
    all_to (λ slot. may_stand found.access_point found.modules slot target) (is_open (physical_in known) (fixed_by known) n) slots
    (λ slot inside may. may_open found known is_known slot target n is may) e

all_open : (found : Catalogue) (known : Known) → IsKnown found known → (entries : List Reference)
    → list_all (is_fixed_well found.access_point found.modules) entries ≡ true
    → list_all (is_fixed_open (physical_in known) (fixed_by known) (number_in known)) entries ≡ true
all_open found known is_known [] e = refl
all_open found known is_known (entry ∷ entries) e =
    let a = and_parts (is_fixed_well found.access_point found.modules entry) (list_all (is_fixed_well found.access_point found.modules) entries) e in
    and_from (is_fixed_open (physical_in known) (fixed_by known) (number_in known) entry) (list_all (is_fixed_open (physical_in known) (fixed_by known) (number_in known)) entries)
    (open_one found known is_known entry.target entry.fixed_in (number_in known entry.target) refl a.0)
    (all_open found known is_known entries a.1)

-- ---- the modules that are put into slots

stands_may : (found : Catalogue) (known : Known) → IsKnown found known
    → ((slot : ℕ) → AllByRecursion (IsFoundIn (fixed_by known) (number_in known) slot) found.access_point.references)
    → (slot : ℕ) (target : List ℕ) (o : Option ℕ) → number_in known target ≡ o
    → does_stand (physical_in known) (fixed_by known) (taken_by known) slot o ≡ true → may_stand found.access_point found.modules slot target ≡ true
stands_may found known is_known all slot target None is e = absurd (false≢true e)
stands_may found known is_known all slot target (Some n) is e =
    let a = and_parts (is_open (physical_in known) (fixed_by known) n slot) (taken_by known slot n) e in
    open_may found known is_known slot target n is (all slot) a.0
    (any_is (takes slot target) (takes_by (number_in known) slot n) (takes_is found.modules (number_in known) is_known.numbers slot target n is) found.access_point.references
    ∙ sym (is_known.taken slot n) ∙ a.1)

may_stands : (found : Catalogue) (known : Known) → IsKnown found known → (slot : ℕ) (target : List ℕ) (o : Option ℕ) → number_in known target ≡ o
    → may_stand found.access_point found.modules slot target ≡ true → does_stand (physical_in known) (fixed_by known) (taken_by known) slot o ≡ true
may_stands found known is_known slot target None is e =
    absurd (false≢true (sym (ap is_some is) ∙ is_known.numbers.known target ∙ (may_parts found slot target e).known))
may_stands found known is_known slot target (Some n) is e =
    and_from (is_open (physical_in known) (fixed_by known) n slot) (taken_by known slot n)
    (may_open found known is_known slot target n is e)
    (is_known.taken slot n
    ∙ sym (any_is (takes slot target) (takes_by (number_in known) slot n) (takes_is found.modules (number_in known) is_known.numbers slot target n is) found.access_point.references)
    ∙ (may_parts found slot target e).taken)

-- ---- the whole

all_there : (found : Catalogue) (known : Known) → IsKnown found known
    → list_all (is_fixed_open (physical_in known) (fixed_by known) (number_in known)) found.access_point.references ≡ true
    → (slot : ℕ) → AllByRecursion (IsFoundIn (fixed_by known) (number_in known) slot) found.access_point.references
all_there found known is_known e slot =
    all_found (physical_in known) (fixed_by known) (number_in known) slot found.access_point.references
    (all_map _ _ (λ entry some k inside is. ap is_some (is_known.fixed slot) ∙ some k inside is) found.access_point.references (fixer_some (number_in known) slot found.access_point.references)) e

-- each module may be in its slot exactly if each may be in the slots in which it is fixed, each may be in the slot into which it is put, and no
-- two entries name the same slot
pub handled_alike : (found : Catalogue) (known : Known) → IsKnown found known
    → (list_all (is_fixed_open (physical_in known) (fixed_by known) (number_in known)) found.access_point.references
    && list_all (stands_well (physical_in known) (fixed_by known) (taken_by known) (number_in known)) found.project.slots && are_once found.project.slots)
    ≡ are_allowed found
unfolding are_allowed
handled_alike found known is_known = either (list_all (is_fixed_open (physical_in known) (fixed_by known) (number_in known)) found.access_point.references) refl
  where
    put : Bool
    put = list_all (stands_well (physical_in known) (fixed_by known) (taken_by known) (number_in known)) found.project.slots

    may : Bool
    may = may_all_stand found.access_point found.modules found.project.slots

    once : Bool
    once = are_once found.project.slots

    well : Bool
    well = list_all (is_fixed_well found.access_point found.modules) found.access_point.references

    either : (b : Bool) → list_all (is_fixed_open (physical_in known) (fixed_by known) (number_in known)) found.access_point.references ≡ b
        → (b && put && once) ≡ (may && once && well)
    either true is_so =
        let all = all_there found known is_known is_so in
        let fixed = all_well found known is_known all found.access_point.references (taken_there found.access_point.references) is_so in
        let same = all_is (stands_well (physical_in known) (fixed_by known) (taken_by known) (number_in known)) (λ entry. may_stand found.access_point found.modules entry.slot entry.target)
        (λ entry. both (stands_well (physical_in known) (fixed_by known) (taken_by known) (number_in known) entry) (may_stand found.access_point found.modules entry.slot entry.target)
        (stands_may found known is_known all entry.slot entry.target (number_in known entry.target) refl)
        (may_stands found known is_known entry.slot entry.target (number_in known entry.target) refl)) found.project.slots in
        ap (λ (b : Bool). b && once) same ∙ sym (and_true (may && once)) ∙ ap (λ (b : Bool). may && once && b) (sym fixed)
    either false is_so =
        let gone = false_from_ne_true well (λ fixed. false≢true (sym is_so ∙ all_open found known is_known found.access_point.references fixed)) in
        sym (and_right (may && once) well gone)
