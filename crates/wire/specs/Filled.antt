-- Values of one format, one after the other, to the end of the bytes.
use Rattle.std.specs.Prelude.{◌≡◌, ◌≤◌, ◌<◌, ◌==◌, ℕ, zero, suc, List, [], ◌∷◌, length, sum_by, Result, Ok, Err, if◌then◌else◌}
use Rattle.std.specs.List.{AllByRecursion}
use Rattle.wire.specs.Codec.{Codec, Whole, ◌>>=◌}

-- these bytes are these values, one after the other
abbrev pub SpellAll : {F A : Type 0} → Codec F A → List ℕ → List A → Type 0
SpellAll codec bytes [] = bytes ≡ []
SpellAll codec bytes (value ∷ values) = (0 < length bytes) × (mid : List ℕ) × codec.Spells bytes value mid × SpellAll codec mid values

-- the values that are written, one after the other
abbrev pub write_all : {F A : Type 0} → Codec F A → List A → List ℕ
write_all codec [] = []
write_all codec (value ∷ values) = codec.write value (write_all codec values)

-- the values up to the end, with a maximum number of them: `more` if bytes remain after them
unfoldable pub read_all : {F A : Type 0} → ℕ → F → Codec F A → List ℕ → Result (List A) F
read_all zero more codec bytes = if length bytes == 0 then Ok [] else Err more
read_all (suc most) more codec bytes =
    if length bytes == 0 then Ok [] else codec.read bytes >>= λ x. read_all most more codec x.1 >>= λ values. Ok (x.0 ∷ values)

-- a list with a maximum number of values, up to the end of the bytes
abbrev pub filled : {F A : Type 0} → ℕ → F → Codec F A → Whole F (List A)
filled most more codec = record {
  Spells = λ bytes values. SpellAll codec bytes values × (length values ≤ most);
  write = write_all codec;
  size = sum_by codec.size;
  Fits = λ values. AllByRecursion codec.Fits values × (length values ≤ most);
  read = read_all most more codec;
}
