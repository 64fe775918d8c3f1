-- Octets as a part of the value: kept beside what they spell, cut off by a length from an earlier field, or read
-- further.
use Rattle.std.specs.Prelude.{◌≡◌, ◌-◌, ℕ, List, [], ◌++◌, length, take, Ok}
use Rattle.wire.specs.Codec.{Codec, Whole, ◌>>=◌}
use Rattle.wire.specs.Formats.{raw}

-- the bytes before the rest
abbrev pub front_of : List ℕ → List ℕ → List ℕ
front_of bytes rest = take (length bytes - length rest) bytes

-- a format whose value holds the bytes that spelled it too
abbrev pub kept : {F A : Type 0} → Codec F A → Codec F (A × List ℕ)
kept codec = record {
  Spells = λ bytes value rest. codec.Spells bytes value.0 rest × (value.1 ≡ front_of bytes rest);
  write = λ value rest. codec.write value.0 rest;
  size = λ value. codec.size value.0;
  Fits = λ value. codec.Fits value.0 × (value.1 ≡ codec.write value.0 []);
  read = λ bytes. codec.read bytes >>= λ x. Ok ((x.0, front_of bytes x.1), x.1);
}

-- this many bytes, all of which a format reads; `short` if they are incomplete
abbrev pub cut : {F A : Type 0} → F → ℕ → Whole F A → Codec F A
cut short size whole = record {
  Spells = λ bytes value rest. (inside : List ℕ) × (length inside ≡ size) × (bytes ≡ inside ++ rest) × whole.Spells inside value;
  write = λ value rest. whole.write value ++ rest;
  size = λ value. whole.size value;
  Fits = λ value. (whole.size value ≡ size) × whole.Fits value;
  read = λ bytes. (raw short size).read bytes >>= λ x. whole.read x.0 >>= λ value. Ok (value, x.1);
}

-- a format whose value ends in octets, all of which another format reads
abbrev pub within : {F A B : Type 0} → Codec F (A × List ℕ) → (A → Whole F B) → Codec F (A × B)
within codec whole = record {
  Spells = λ bytes value rest. (inside : List ℕ) × codec.Spells bytes (value.0, inside) rest × (whole value.0).Spells inside value.1;
  write = λ value rest. codec.write (value.0, (whole value.0).write value.1) rest;
  size = λ value. codec.size (value.0, (whole value.0).write value.1);
  Fits = λ value. codec.Fits (value.0, (whole value.0).write value.1) × (whole value.0).Fits value.1;
  read = λ bytes. codec.read bytes >>= λ x. (whole x.0.0).read x.0.1 >>= λ value. Ok ((x.0.0, value), x.1);
}
