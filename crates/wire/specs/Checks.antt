-- Fields whose values are judged, and what ends a format.
use Rattle.std.specs.Prelude.{◌≡◌, ◌==◌, ℕ, Bool, true, [], length, Option, Some, None, IsSomeAnd, Result, Ok, Err, if◌then◌else◌}
use Rattle.std.specs.Option.{option_map_or}
use Rattle.wire.specs.Codec.{Codec, Whole, ◌>>=◌}
use Rattle.wire.specs.Formats.{number, seen}

-- a format whose values must pass a test, with a fault for those that do not
abbrev pub checked : {F A : Type 0} → (A → Bool) → F → Codec F A → Codec F A
checked test fault codec = record {
  Spells = λ bytes value rest. (test value ≡ true) × codec.Spells bytes value rest;
  write = codec.write;
  size = codec.size;
  Fits = λ value. (test value ≡ true) × codec.Fits value;
  read = λ bytes. codec.read bytes >>= λ x. if test x.0 then Ok x else Err fault;
}

-- a number of this many bytes that must have this value, with a fault if it has another or is incomplete
abbrev pub fixed : {F : Type 0} → F → ℕ → ℕ → Codec F (Unit {0})
fixed fault size value = seen (λ _. tt) (λ _. value) (checked (λ n. n == value) fault (number fault size))

-- a format that is read only if the test holds, with a fault if it does not
abbrev pub allowed : {F A : Type 0} → Bool → F → Whole F A → Whole F A
allowed test fault whole = record {
  Spells = λ bytes value. (test ≡ true) × whole.Spells bytes value;
  write = whole.write;
  size = whole.size;
  Fits = λ value. (test ≡ true) × whole.Fits value;
  read = λ bytes. if test then whole.read bytes else Err fault;
}

-- the value, or the fault without one
abbrev pub or_fault : {F A : Type 0} → F → Option A → Result A F
or_fault fault (Some value) = Ok value
or_fault fault None = Err fault

-- a format under names for some of its values, with a fault for the others
abbrev pub named : {F A B : Type 0} → (A → Option B) → (B → A) → F → Codec F A → Codec F B
named {A = A} to from fault codec = record {
  Spells = λ bytes value rest. (inner : A) × (to inner ≡ Some value) × codec.Spells bytes inner rest;
  write = λ value rest. codec.write (from value) rest;
  size = λ value. codec.size (from value);
  Fits = λ value. codec.Fits (from value);
  read = λ bytes. codec.read bytes >>= λ x. or_fault fault (to x.0) >>= λ value. Ok (value, x.1);
}

-- a format with nothing after it, with a fault if there is something
abbrev pub closed : {F A : Type 0} → F → Codec F A → Whole F A
closed more codec = record {
  Spells = λ bytes value. codec.Spells bytes value [];
  write = λ value. codec.write value [];
  size = codec.size;
  Fits = codec.Fits;
  read = λ bytes. codec.read bytes >>= λ x. if length x.1 == 0 then Ok x.0 else Err more;
}

-- one variant of values that have several
abbrev pub variant : {F A B : Type 0} → (A → B) → (B → Option A) → Whole F A → Whole F B
variant {A = A} to from whole = record {
  Spells = λ bytes value. (inner : A) × (to inner ≡ value) × whole.Spells bytes inner;
  write = λ value. option_map_or whole.write (from value) [];
  size = λ value. option_map_or whole.size (from value) 0;
  Fits = λ value. IsSomeAnd (from value) whole.Fits;
  read = λ bytes. whole.read bytes >>= λ x. Ok (to x);
}
