-- Lists of any number of values, of a format whose values take at least one byte.
use Rattle.std.proofs.Common.{◌≡◌, ℕ, zero, suc, ◌-◌, ◌<◌, ◌≤◌, Bool, true, false, cond, eqb, List, [], ◌∷◌, length, Option, Some, None, Result, Ok, Err, refl, sym, ap, ◌∙◌, arith}
use Rattle.std.proofs.lemmas.Bool.{ne_eqb, eqb-true}
use Rattle.wire.specs.Codec.{Codec, IsSound, IsSoundWhole, ◌>>=◌}
use Rattle.wire.specs.Filled.{SpellAll, read_all}
use Rattle.wire.proofs.Fields.{bind_ok, ok_is}
use Rattle.wire.proofs.Lists.{filled_sound}
use Rattle.dcp_core.specs.Every.{every, values_within, values_in}

-- each value that is read takes at least one byte
pub record Shrinks {F A : Type 0} (codec : Codec F A) : Type 0 where
  pub less : (bytes : List ℕ) (value : A) (rest : List ℕ) → codec.read bytes ≡ Ok (value, rest) → length rest < length bytes

-- the rest of two readings that agree on shorter bytes
same_rest : {F A : Type 0} (bytes : List ℕ) (one other : List ℕ → Result (List A) F) (r : Result (A × List ℕ) F)
    → ((value : A) (rest : List ℕ) → r ≡ Ok (value, rest) → length rest < length bytes)
    → ((rest : List ℕ) → length rest < length bytes → one rest ≡ other rest)
    → (r >>= λ x. one x.1 >>= λ values. Ok (x.0 ∷ values)) ≡ (r >>= λ x. other x.1 >>= λ values. Ok (x.0 ∷ values))
same_rest bytes one other (Err why) less same = refl
same_rest {F} {A} bytes one other (Ok x) less same =
    let next : List A → Result (List A) F = λ values. Ok (x.0 ∷ values) in
    ap (λ (r : Result (List A) F). r >>= next) (same x.1 (less x.0 x.1 refl))

-- the same for the values at the front
same_values : {F A : Type 0} (bytes : List ℕ) (one other : List ℕ → List A) (r : Result (A × List ℕ) F)
    → ((value : A) (rest : List ℕ) → r ≡ Ok (value, rest) → length rest < length bytes)
    → ((rest : List ℕ) → length rest < length bytes → one rest ≡ other rest)
    → elim r as (λ _. List A) [ Ok x ↦ x.0 ∷ one x.1 | Err why ↦ [] ] ≡ elim r as (λ _. List A) [ Ok x ↦ x.0 ∷ other x.1 | Err why ↦ [] ]
same_values bytes one other (Err why) less same = refl
same_values bytes one other (Ok x) less same = ap (λ values. x.0 ∷ values) (same x.1 (less x.0 x.1 refl))

-- the values at the front of what a reading of all bytes gave
given_all : {F A : Type 0} (bytes : List ℕ) (one : List ℕ → Result (List A) F) (other : List ℕ → List A) (r : Result (A × List ℕ) F) (values : List A)
    → ((rest : List ℕ) (values : List A) → one rest ≡ Ok values → other rest ≡ values)
    → (r >>= λ x. one x.1 >>= λ values. Ok (x.0 ∷ values)) ≡ Ok values
    → elim r as (λ _. List A) [ Ok x ↦ x.0 ∷ other x.1 | Err why ↦ [] ] ≡ values
given_all bytes one other (Err why) values same e = absurd cc
given_all {F} bytes one other (Ok x) values same e =
    let a = bind_ok (one x.1) (λ others. Ok (x.0 ∷ others)) values e in
    ap (λ others. x.0 ∷ others) (same x.1 a.0 a.1) ∙ ok_is {F = F} (x.0 ∷ a.0) values a.2

module _ {F A : Type 0} (more : F) (codec : Codec F A) (shrinks : Shrinks codec) where
  -- more steps than there are bytes change nothing
  read_enough : (m n : ℕ) (bytes : List ℕ) → length bytes ≤ m → length bytes ≤ n → read_all m more codec bytes ≡ read_all n more codec bytes
  unfolding read_all
  read_enough zero zero bytes a b = refl
  read_enough zero (suc n) bytes a b = let none : length bytes ≡ 0 = omega arith in rw none refl
  read_enough (suc m) zero bytes a b = let none : length bytes ≡ 0 = omega arith in rw none refl
  read_enough (suc m) (suc n) bytes a b =
      ap (λ (r : Result (List A) F). cond (eqb (length bytes) 0) (Ok []) r)
      (same_rest bytes (read_all m more codec) (read_all n more codec) (codec.read bytes) (shrinks.less bytes)
      (λ rest shorter. read_enough m n rest (omega arith) (omega arith)))

  -- empty bytes hold no value
  nothing_read : (bytes : List ℕ) (r : Result (A × List ℕ) F) → codec.read bytes ≡ r → length bytes ≡ 0 → (one : List ℕ → List A)
      → elim r as (λ _. List A) [ Ok x ↦ x.0 ∷ one x.1 | Err why ↦ [] ] ≡ []
  nothing_read bytes (Err why) e none one = refl
  nothing_read bytes (Ok x) e none one = let less = shrinks.less bytes x.0 x.1 e in absurd (omega arith)

  none_in : (bytes : List ℕ) (n : ℕ) → length bytes ≡ 0 → values_within (suc n) codec bytes ≡ []
  none_in bytes n none = nothing_read bytes (codec.read bytes) refl none (values_within n codec)

  values_enough : (m n : ℕ) (bytes : List ℕ) → length bytes ≤ m → length bytes ≤ n → values_within m codec bytes ≡ values_within n codec bytes
  values_enough zero zero bytes a b = refl
  values_enough zero (suc n) bytes a b = sym (none_in bytes n (omega arith))
  values_enough (suc m) zero bytes a b = none_in bytes m (omega arith)
  values_enough (suc m) (suc n) bytes a b =
      same_values bytes (values_within m codec) (values_within n codec) (codec.read bytes) (shrinks.less bytes)
      (λ rest shorter. values_enough m n rest (omega arith) (omega arith))

  -- one more value is read from all the bytes
  pub read_step : (bytes : List ℕ) (value : A) (rest : List ℕ) → codec.read bytes ≡ Ok (value, rest)
      → (every more codec).read bytes ≡ ((every more codec).read rest >>= λ values. Ok (value ∷ values))
  unfolding read_all
  read_step bytes value rest e =
      let less = shrinks.less bytes value rest e in
      let k : length bytes ≡ suc (length bytes - 1) = omega arith in
      let some : eqb (length bytes) 0 ≡ false = ne_eqb _ _ (omega arith) in
      let enough : read_all (length bytes - 1) more codec rest ≡ read_all (length rest) more codec rest = read_enough (length bytes - 1) (length rest) rest (omega arith) (omega arith) in
      let opened : read_all (suc (length bytes - 1)) more codec bytes ≡ (read_all (length bytes - 1) more codec rest >>= λ values. Ok (value ∷ values)) = rw (some, e) refl in
      ap (λ (n : ℕ). read_all n more codec bytes) k ∙ opened ∙ ap (λ (r : Result (List A) F). r >>= λ values. Ok (value ∷ values)) enough

  -- a fault at the front is the fault of all the bytes
  pub read_fails : (bytes : List ℕ) (why : F) → 0 < length bytes → codec.read bytes ≡ Err why → (every more codec).read bytes ≡ Err why
  unfolding read_all
  read_fails bytes why some e =
      let k : length bytes ≡ suc (length bytes - 1) = omega arith in
      let full : eqb (length bytes) 0 ≡ false = ne_eqb _ _ (omega arith) in
      let opened : read_all (suc (length bytes - 1)) more codec bytes ≡ Err why = rw (full, e) refl in
      ap (λ (n : ℕ). read_all n more codec bytes) k ∙ opened

  -- empty bytes are an empty list
  pub read_ends : (bytes : List ℕ) → length bytes ≡ 0 → (every more codec).read bytes ≡ Ok []
  unfolding read_all
  read_ends bytes none = ap (λ (n : ℕ). read_all n more codec bytes) none ∙ rw none refl

  -- the first value of the bytes
  pub values_step : (bytes : List ℕ) (value : A) (rest : List ℕ) → codec.read bytes ≡ Ok (value, rest) → values_in codec bytes ≡ value ∷ values_in codec rest
  unfolding values_in
  values_step bytes value rest e =
      let less = shrinks.less bytes value rest e in
      let k : length bytes ≡ suc (length bytes - 1) = omega arith in
      let enough : values_within (length bytes - 1) codec rest ≡ values_within (length rest) codec rest = values_enough (length bytes - 1) (length rest) rest (omega arith) (omega arith) in
      let opened : values_within (suc (length bytes - 1)) codec bytes ≡ value ∷ values_within (length bytes - 1) codec rest = rw (e, values_within) refl in
      ap (λ (n : ℕ). values_within n codec bytes) k ∙ opened ∙ ap (λ values. value ∷ values) enough

  -- bytes that are not a value give no values
  pub values_end : (bytes : List ℕ) (why : F) → codec.read bytes ≡ Err why → values_in codec bytes ≡ []
  unfolding values_in
  values_end bytes why e = by (length bytes)
    where
      by : (n : ℕ) → values_within n codec bytes ≡ []
      by zero = refl
      by (suc n) = rw (e, values_within) refl

  -- the values that a reading gave are at the front
  values_of : (n : ℕ) (bytes : List ℕ) (values : List A) → read_all n more codec bytes ≡ Ok values → values_within n codec bytes ≡ values
  unfolding read_all
  values_of zero bytes values e = by (eqb (length bytes) 0) e
    where
      by : (b : Bool) → cond b (Ok []) (Err more) ≡ Ok values → [] ≡ values
      by true e = ok_is {F = F} [] values e
      by false e = absurd cc
  values_of (suc n) bytes values e = by (eqb (length bytes) 0) refl (λ rest others h. values_of n rest others h) e
    where
      by : (b : Bool) → eqb (length bytes) 0 ≡ b → ((rest : List ℕ) (others : List A) → read_all n more codec rest ≡ Ok others → values_within n codec rest ≡ others)
          → cond b (Ok []) (codec.read bytes >>= λ x. read_all n more codec x.1 >>= λ others. Ok (x.0 ∷ others)) ≡ Ok values → values_within (suc n) codec bytes ≡ values
      by true test same e = none_in bytes n (eqb-true _ _ test) ∙ ok_is {F = F} [] values e
      by false test same e = given_all bytes (read_all n more codec) (values_within n codec) (codec.read bytes) values same e

  -- bytes that are values up to the end give these values
  pub values_are : (bytes : List ℕ) (values : List A) → (every more codec).read bytes ≡ Ok values → values_in codec bytes ≡ values
  unfolding values_in
  values_are bytes values e = values_of (length bytes) bytes values e

  -- bytes spell at most as many values as there are bytes
  few : (bytes : List ℕ) (values : List A) → IsSound codec → SpellAll codec bytes values → length values ≤ length bytes
  few bytes [] sound s = omega arith
  few bytes (value ∷ values) sound s =
      let less = shrinks.less bytes value s.1 (sound.again bytes value s.1 s.2) in
      let others = few s.1 values sound s.3 in
      omega arith

  pub every_sound : IsSound codec → ((value : A) → codec.Fits value → 0 < codec.size value) → IsSoundWhole (every more codec)
  every_sound sound some = record {
    takes = λ bytes values e. ((filled_sound more codec (length bytes) sound some).takes bytes values e).0;
    again = λ bytes values s. (filled_sound more codec (length bytes) sound some).again bytes values (s, few bytes values sound s);
    written = λ values fits. ((filled_sound more codec (length values) sound some).written values (fits, omega arith)).0;
    sized = λ values. (filled_sound more codec (length values) sound some).sized values;
  }

-- the fault of a reading, if there is one
abbrev pub fault_in : {F A : Type 0} → Result A F → Option F
fault_in (Ok value) = None
fault_in (Err why) = Some why

-- a value at the front does not change the fault
pub same_fault : {F A : Type 0} (value : A) (r : Result (List A) F) → fault_in (r >>= λ values. Ok (value ∷ values)) ≡ fault_in r
same_fault value (Ok values) = refl
same_fault value (Err why) = refl

pub faultless : {F A : Type 0} (r : Result A F) → fault_in r ≡ None → (value : A) × (r ≡ Ok value)
faultless (Ok value) e = (value, refl)
faultless (Err why) e = absurd cc

pub faulty : {F A : Type 0} (r : Result A F) (why : F) → fault_in r ≡ Some why → r ≡ Err why
faulty (Ok value) why e = absurd cc
faulty (Err fault) why e = cc
