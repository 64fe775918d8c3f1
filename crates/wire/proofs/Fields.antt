-- The basic formats of fields are sound.
use Rattle.std.proofs.Common.{◌≡◌, ℕ, ◌≤◌, Bool, true, false, cond, ltb, List, [], ◌∷◌, ◌++◌, length, take, drop, replicate, Result, Ok, Err, refl, sym, ap, ◌∙◌, append_assoc, arith}
use Rattle.std.proofs.lemmas.Bool.{ltb-false, le-ltb}
use Rattle.std.proofs.lemmas.List.{append-nil, take_at, drop_at, take-append-drop, length-append, length-take, length-replicate}
use Rattle.byteorder.specs.Endian.{big_number, big_bytes}
use Rattle.byteorder.specs.Numbers.{big_from-append, big_from-take, big_number-reads_back, length-bytes_high_first}
use Rattle.wire.specs.Codec.{IsSound, IsOnward, ◌>>=◌}
use Rattle.wire.specs.Formats.{raw, number, padding}

-- if two steps succeed, the first one did
pub bind_ok : {F A B : Type 0} (r : Result A F) (f : A → Result B F) (y : B) → (r >>= f) ≡ Ok y → (x : A) × (r ≡ Ok x) × (f x ≡ Ok y)
bind_ok (Ok x) f y e = (x, refl, e)
bind_ok (Err fault) f y e = absurd cc

abbrev done : {F A : Type 0} → A → Result A F
done value = Ok value

-- the results of two successful readings are equal
pub ok_is : {F A : Type 0} (x y : A) → done {F = F} x ≡ Ok y → x ≡ y
ok_is x y e = cc

-- a test that passed
pub guard_ok : {F A : Type 0} (b : Bool) (fault : F) (x y : A) → cond b (Err fault) (Ok x) ≡ Ok y → (b ≡ false) × (x ≡ y)
guard_ok true fault x y e = absurd cc
guard_ok false fault x y e = (refl, cc)

-- a prefix of the bytes, if they are long enough
record IsCut (size : ℕ) (bytes rest : List ℕ) : Type 0 where
  long : size ≤ length bytes
  front : length (take size bytes) ≡ size
  parts : bytes ≡ take size bytes ++ rest

cut_of : {F A : Type 0} (short : F) (size : ℕ) (bytes rest : List ℕ) (made value : A)
    → cond {A = Result (A × List ℕ) F} (ltb (length bytes) size) (Err short) (Ok (made, drop size bytes)) ≡ Ok (value, rest) → IsCut size bytes rest × (made ≡ value)
cut_of short size bytes rest made value e =
    let g = guard_ok (ltb (length bytes) size) short (made, drop size bytes) (value, rest) e in
    let long : size ≤ length bytes = ltb-false _ _ g.0 in
    let rest_is : drop size bytes ≡ rest = ap (λ p. p.1) g.1 in
    (record { long = long; front = omega (arith, length-take size bytes); parts = sym (take-append-drop size bytes) ∙ ap (λ (xs : List ℕ). take size bytes ++ xs) rest_is }, ap (λ p. p.0) g.1)

-- bytes that are long enough are not too short
long_enough : (size : ℕ) (front rest : List ℕ) → length front ≡ size → ltb (length (front ++ rest)) size ≡ false
long_enough size front rest e = le-ltb _ _ (omega (arith, length-append front rest))

pub raw_sound : {F : Type 0} (short : F) (size : ℕ) → IsSound (raw short size)
raw_sound short size = record {
  takes = λ bytes value rest e.
      let c = cut_of short size bytes rest (take size bytes) value e in
      (ap length (sym c.1) ∙ c.0.front, c.0.parts ∙ ap (λ (xs : List ℕ). xs ++ rest) c.1);
  again = λ bytes value rest s.
      rw (s.1, long_enough size value rest s.0, take_at value rest size s.0, drop_at value rest size s.0) refl;
  written = λ value rest fits. (fits, refl);
  local = λ value rest. ap (λ (xs : List ℕ). xs ++ rest) (sym (append-nil value));
  sized = λ value rest. length-append value rest;
}

pub number_sound : {F : Type 0} (short : F) (size : ℕ) → IsSound (number short size)
number_sound short size = record {
  takes = λ bytes value rest e.
      let c = cut_of short size bytes rest (big_number size bytes) value e in
      (take size bytes, c.0.front, c.0.parts, sym c.1 ∙ sym (big_from-take 0 size size bytes (omega arith)));
  again = λ bytes value rest s.
      rw (s.2, long_enough size s.0 rest s.1, big_from-append size s.0 rest (omega (arith, s.1)), drop_at s.0 rest size s.1, s.3) refl;
  written = λ value rest fits.
      let long = length-bytes_high_first size value in
      (big_bytes size value, long, refl, sym (big_number-reads_back size value [] fits) ∙ big_from-append size (big_bytes size value) [] (omega (arith, long)));
  local = λ value rest. ap (λ (xs : List ℕ). xs ++ rest) (sym (append-nil (big_bytes size value)));
  sized = λ value rest. omega (arith, length-bytes_high_first size value, length-append (big_bytes size value) rest);
}

-- the number that is read is the one at the front
pub number_in_front : {F : Type 0} (short : F) (size : ℕ) (bytes : List ℕ) (value : ℕ) (rest : List ℕ) → (number short size).read bytes ≡ Ok (value, rest) → value ≡ big_number size bytes
number_in_front short size bytes value rest e = let cut = cut_of short size bytes rest (big_number size bytes) value e in sym cut.1

pub padding_sound : {F : Type 0} (size : ℕ) → IsSound (padding {F = F} size)
padding_sound {F = F} size = record {
  takes = λ bytes value rest e. sym (ap (λ p. p.1) (ok_is {F = F} (tt {0}, drop size bytes) (value, rest) e));
  again = λ bytes value rest s. rw s refl;
  written = λ value rest fits. sym (drop_at (replicate size 0) rest size (length-replicate size 0));
  local = λ value rest. ap (λ (xs : List ℕ). xs ++ rest) (sym (append-nil (replicate size 0)));
  sized = λ value rest. omega (arith, length-append (replicate size 0) rest, length-replicate {A = ℕ} size 0);
}

pub raw_onward : {F : Type 0} (short : F) (size : ℕ) → IsOnward (raw short size)
raw_onward short size = record {
  onward = λ bytes value rest more s. (s.0, ap (λ (xs : List ℕ). xs ++ more) s.1 ∙ append_assoc value rest more);
}

pub number_onward : {F : Type 0} (short : F) (size : ℕ) → IsOnward (number short size)
number_onward short size = record {
  onward = λ bytes value rest more s. (s.0, s.1, ap (λ (xs : List ℕ). xs ++ more) s.2 ∙ append_assoc s.0 rest more, s.3);
}

-- padding is not onward: it takes fewer bytes only at the end
pub padding_finds_the_end : {F : Type 0} → IsOnward (padding {F = F} 1) → ⊥
padding_finds_the_end inner = something (inner.onward [] tt [] (0 ∷ []) refl) where
  something : {x : ℕ} {xs : List ℕ} → x ∷ xs ≡ [] → ⊥
  something e = cc
