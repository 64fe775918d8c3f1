-- The basic formats, and the combinators that join them.
use Rattle.std.specs.Prelude.{◌≡◌, ◌+◌, ◌^◌, ◌<◌, ℕ, Bool, true, false, List, ◌++◌, length, take, drop, replicate, Option, Some, None, IsSomeAnd, Ok, Err, nat_lt, if◌then◌else◌}
use Rattle.std.specs.Option.{option_map_or}
pub use Rattle.byteorder.specs.Endian.{big_number, big_bytes}
use Rattle.wire.specs.Codec.{Codec, Whole, ◌>>=◌}

-- ---- fields

-- this many bytes of any value
abbrev pub raw : {F : Type 0} → F → ℕ → Codec F (List ℕ)
raw short size = record {
  Spells = λ bytes value rest. (length value ≡ size) × (bytes ≡ value ++ rest);
  write = λ value rest. value ++ rest;
  size = λ value. length value;
  Fits = λ value. length value ≡ size;
  read = λ bytes. if nat_lt (length bytes) size then Err short else Ok (take size bytes, drop size bytes);
}

-- a number of this many bytes, the highest first
abbrev pub number : {F : Type 0} → F → ℕ → Codec F ℕ
number short size = record {
  Spells = λ bytes value rest. (front : List ℕ) × (length front ≡ size) × (bytes ≡ front ++ rest) × (value ≡ big_number size front);
  write = λ value rest. big_bytes size value ++ rest;
  size = λ value. size;
  Fits = λ value. value < 256 ^ size;
  read = λ bytes. if nat_lt (length bytes) size then Err short else Ok (big_number size bytes, drop size bytes);
}

-- up to this many bytes of any value, fewer only at the end: padding, which is written as zeros
abbrev pub padding : {F : Type 0} → ℕ → Codec F (Unit {0})
padding size = record {
  Spells = λ bytes value rest. rest ≡ drop size bytes;
  write = λ value rest. replicate size 0 ++ rest;
  size = λ value. size;
  Fits = λ value. Unit {0};
  read = λ bytes. Ok (tt, drop size bytes);
}

-- ---- one after the other

-- a format, and after it one that may depend on the value of the first
abbrev pub then_by : {F A B : Type 0} → Codec F A → (A → Codec F B) → Codec F (A × B)
then_by first second = record {
  Spells = λ bytes value rest. (mid : List ℕ) × first.Spells bytes value.0 mid × (second value.0).Spells mid value.1 rest;
  write = λ value rest. first.write value.0 ((second value.0).write value.1 rest);
  size = λ value. first.size value.0 + (second value.0).size value.1;
  Fits = λ value. first.Fits value.0 × (second value.0).Fits value.1;
  read = λ bytes. first.read bytes >>= λ x. (second x.0).read x.1 >>= λ y. Ok ((x.0, y.0), y.1);
}

-- a format, and after it another
infixr 30 ◌⨾◌
abbrev pub ◌⨾◌ : {F A B : Type 0} → Codec F A → Codec F B → Codec F (A × B)
first ⨾ second = then_by first (λ _. second)

-- a format under another view of its values, which `to` makes of them; `from` says which value is written
abbrev pub seen : {F A B : Type 0} → (A → B) → (B → A) → Codec F A → Codec F B
seen {A = A} to from codec = record {
  Spells = λ bytes value rest. (inner : A) × (to inner ≡ value) × codec.Spells bytes inner rest;
  write = λ value rest. codec.write (from value) rest;
  size = λ value. codec.size (from value);
  Fits = λ value. codec.Fits (from value);
  read = λ bytes. codec.read bytes >>= λ x. Ok (to x.0, x.1);
}

-- a format that is present only if the test holds
abbrev pub when : {F A : Type 0} → Bool → Codec F A → Codec F (Option A)
when {A = A} true codec = record {
  Spells = λ bytes value rest. (inner : A) × (Some inner ≡ value) × codec.Spells bytes inner rest;
  write = λ value rest. option_map_or (λ inner. codec.write inner rest) value rest;
  size = λ value. option_map_or codec.size value 0;
  Fits = λ value. IsSomeAnd value codec.Fits;
  read = λ bytes. codec.read bytes >>= λ x. Ok (Some x.0, x.1);
}
when false codec = record {
  Spells = λ bytes value rest. (value ≡ None) × (bytes ≡ rest);
  write = λ value rest. rest;
  size = λ value. 0;
  Fits = λ value. value ≡ None;
  read = λ bytes. Ok (None, bytes);
}

-- a number of this many bytes that is read with any value and written as the given one
abbrev pub unchecked : {F : Type 0} → F → ℕ → ℕ → Codec F (Unit {0})
unchecked short size value = seen (λ _. tt) (λ _. value) (number short size)

-- a length, and after it that many bytes, all of which a format reads; `short` if they are incomplete
abbrev pub framed : {F A : Type 0} → Codec F ℕ → F → Whole F A → Codec F A
framed lengths short whole = record {
  Spells = λ bytes value rest. (inside : List ℕ) × (mid : List ℕ) × lengths.Spells bytes (length inside) mid × (mid ≡ inside ++ rest) × whole.Spells inside value;
  write = λ value rest. lengths.write (whole.size value) (whole.write value ++ rest);
  size = λ value. lengths.size (whole.size value) + whole.size value;
  Fits = λ value. lengths.Fits (whole.size value) × whole.Fits value;
  read = λ bytes. lengths.read bytes >>= λ x. (raw short x.0).read x.1 >>= λ cut. whole.read cut.0 >>= λ value. Ok (value, cut.1);
}
