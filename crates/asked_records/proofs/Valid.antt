-- Each record of a list without a fault is valid.
use Rattle.std.proofs.Common.{◌≡◌, ◌==◌, ◌&&◌, ◌||◌, ◌++◌, ◌<◌, ℕ, Bool, true, false, not, cond, nat_lt, List, [], ◌∷◌, Option, Some, None, IfSome, Ok, Err, refl, sym, ap, subst, ◌∙◌, append_assoc, arith, tests}
use Rattle.std.specs.List.{AllByRecursion, find, list_any}
use Rattle.std.specs.Option.{option_or}
use Rattle.std.specs.Result.{is_err}
use Rattle.std.proofs.lemmas.Bool.{eq-eqb, ltb-false, false≢true, true≢false}
use Rattle.std.proofs.lemmas.Option.{none-some}
use Rattle.asked_records.specs.declared.names.NameFault.{NameFault}
use Rattle.asked_records.specs.declared.names.NameFault.TheVariants as fault
use Rattle.asked_records.specs.declared.names.RecordName.{RecordName}
use Rattle.asked_records.specs.Names.{IsName, fault_beside, first_fault, is_named, last_index, most_octets, named_at, named_of, named_unless, own_fault, twice_fault}

-- If neither of two has a fault, the first has none and the second has none.
none_of_both : (one other : Option NameFault) → option_or one other ≡ None → (one ≡ None) × (other ≡ None)
none_of_both None other none = (refl, none)
none_of_both (Some it) other none = absurd (none-some it (sym none))

-- A test that gives a fault does not hold if no fault is found.
no_fault : (test : Bool) (it : NameFault) (other : Option NameFault) → cond test (Some it) other ≡ None → (test ≡ false) × (other ≡ None)
no_fault false it other none = (refl, none)
no_fault true it other none = absurd (none-some it (sym none))

-- If one of two holds is false, neither does.
neither : (one other : Bool) → (one || other) ≡ false → (one ≡ false) × (other ≡ false)
neither false other none = (refl, none)
neither true other none = absurd (false≢true (sym none))

not_both : (one other : Bool) → (not one && not other) ≡ false → (one || other) ≡ true
not_both true other none = refl
not_both false true none = refl
not_both false false none = absurd (false≢true (sym none))

some_length : (length : ℕ) → (length == 0) ≡ false → 0 < length
some_length length none = grind (arith, tests, none)

own_valid : (name : RecordName) → own_fault name ≡ None → IsName name
own_valid name none =
    let index = no_fault (nat_lt last_index name.index) fault.Index _ none in
    let size = no_fault (name.greatest_length == 0 || nat_lt most_octets name.greatest_length) fault.Length _ index.1 in
    let access = no_fault (not name.is_readable && not name.is_writable) fault.Access None size.1 in
    let sizes = neither (name.greatest_length == 0) (nat_lt most_octets name.greatest_length) size.0 in
    record {
      index = ltb-false last_index name.index index.0;
      some = some_length name.greatest_length sizes.0;
      few = ltb-false most_octets name.greatest_length sizes.1;
      access = not_both name.is_readable name.is_writable access.0;
    }

-- The record that is found is one of the list.
pub found_valid : (slot subslot index : ℕ) (earlier names : List RecordName) → first_fault earlier names ≡ None → IfSome (named_at slot subslot index names) IsName
found_valid slot subslot index earlier [] none = tt
found_valid slot subslot index earlier (name ∷ names) none =
    let both = none_of_both (fault_beside earlier name) (first_fault (earlier ++ name ∷ []) names) none in
    let own = own_valid name (none_of_both (own_fault name) (twice_fault earlier name) both.0).0 in
    by_test (is_named slot subslot index name) own (found_valid slot subslot index (earlier ++ name ∷ []) names both.1)
  where
    by_test : (test : Bool) → IsName name → IfSome (named_at slot subslot index names) IsName → IfSome (cond test (Some name) (named_at slot subslot index names)) IsName
    by_test true own rest = own
    by_test false own rest = rest

-- ---- each record is found

-- What no earlier record passes is found among the others.
find_past : (test : RecordName → Bool) (earlier names : List RecordName) → list_any test earlier ≡ false → find test (earlier ++ names) ≡ find test names
find_past test [] names none = refl
find_past test (one ∷ earlier) names none =
    let both = neither (test one) (list_any test earlier) none in
    rw both.0 (find_past test earlier names both.1)

-- A record has its own place and index.
is_itself : (name : RecordName) → is_named name.slot name.subslot name.index name ≡ true
is_itself name = rw (eq-eqb name.slot name.slot refl, eq-eqb name.subslot name.subslot refl, eq-eqb name.index name.index refl) refl

-- A record of a list is valid, and is found in it.
abbrev IsFoundIn : List RecordName → RecordName → Type 0
IsFoundIn names name = IsName name × (named_at name.slot name.subslot name.index names ≡ Some name)

all_found : (earlier names : List RecordName) → first_fault earlier names ≡ None → AllByRecursion (IsFoundIn (earlier ++ names)) names
all_found earlier [] none = tt
all_found earlier (name ∷ names) none =
    let both = none_of_both (fault_beside earlier name) (first_fault (earlier ++ name ∷ []) names) none in
    let own = none_of_both (own_fault name) (twice_fault earlier name) both.0 in
    let twice = no_fault (list_any (is_named name.slot name.subslot name.index) earlier) fault.Twice None own.1 in
    let found : named_at name.slot name.subslot name.index (earlier ++ name ∷ names) ≡ Some name =
    find_past (is_named name.slot name.subslot name.index) earlier (name ∷ names) twice.0 ∙ rw (is_itself name) refl in (
      (own_valid name own.0, found),
      subst (λ (all : List RecordName). AllByRecursion (IsFoundIn all) names) (append_assoc earlier (name ∷ []) names) (all_found (earlier ++ name ∷ []) names both.1),
    )

-- A list that is accepted has no fault.
accepted : (names : List RecordName) (many : Bool) (first : Option NameFault) → cond many (Err fault.TooMany) (named_unless names first) ≡ Ok names → first ≡ None
accepted names true first e = absurd (true≢false (ap is_err e))
accepted names false None e = refl
accepted names false (Some it) e = absurd (true≢false (ap is_err e))

pub each_found : (names : List RecordName) → named_of names ≡ Ok names → AllByRecursion (IsFoundIn names) names
each_found names e = all_found [] names (accepted names _ (first_fault [] names) e)
