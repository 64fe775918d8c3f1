-- Formats of all the bytes given.
use Rattle.std.specs.Prelude.{◌≡◌, ◌+◌, ℕ, Bool, true, false, List, [], length, Ok, Err}
use Rattle.wire.specs.Codec.{Codec, Whole, ◌>>=◌}

-- all the bytes, of any value
abbrev pub everything : {F : Type 0} → Whole F (List ℕ)
everything = record {
  Spells = λ bytes value. bytes ≡ value;
  write = λ value. value;
  size = λ value. length value;
  Fits = λ value. Unit {0};
  read = λ bytes. Ok bytes;
}

-- spells nothing: any input has this fault
abbrev pub refused : {F A : Type 0} → F → Whole F A
refused fault = record {
  Spells = λ bytes value. ⊥;
  write = λ value. [];
  size = λ value. 0;
  Fits = λ value. ⊥;
  read = λ bytes. Err fault;
}

-- a format, and after it one of all the rest
abbrev pub ends_by : {F A B : Type 0} → Codec F A → (A → Whole F B) → Whole F (A × B)
ends_by first second = record {
  Spells = λ bytes value. (mid : List ℕ) × first.Spells bytes value.0 mid × (second value.0).Spells mid value.1;
  write = λ value. first.write value.0 ((second value.0).write value.1);
  size = λ value. first.size value.0 + (second value.0).size value.1;
  Fits = λ value. first.Fits value.0 × (second value.0).Fits value.1;
  read = λ bytes. first.read bytes >>= λ x. (second x.0).read x.1 >>= λ y. Ok (x.0, y);
}

-- a format under another view of its values, which `to` makes of them; `from` says which value is written
abbrev pub seen_whole : {F A B : Type 0} → (A → B) → (B → A) → Whole F A → Whole F B
seen_whole {A = A} to from whole = record {
  Spells = λ bytes value. (inner : A) × (to inner ≡ value) × whole.Spells bytes inner;
  write = λ value. whole.write (from value);
  size = λ value. whole.size (from value);
  Fits = λ value. whole.Fits (from value);
  read = λ bytes. whole.read bytes >>= λ x. Ok (to x);
}

-- the first format if the test holds, else the second
abbrev pub pick : {F A : Type 0} → Bool → Whole F A → Whole F A → Whole F A
pick true one other = one
pick false one other = other

-- a format, and after it anything, which is not read
abbrev pub loose : {F A : Type 0} → Codec F A → Whole F A
loose codec = record {
  Spells = λ bytes value. (rest : List ℕ) × codec.Spells bytes value rest;
  write = λ value. codec.write value [];
  size = codec.size;
  Fits = codec.Fits;
  read = λ bytes. codec.read bytes >>= λ x. Ok x.0;
}
