-- Any number of values of one format, one after the other.
use Rattle.std.specs.Prelude.{ℕ, zero, suc, List, [], ◌∷◌, length, sum_by, Ok, Err}
use Rattle.std.specs.List.{AllByRecursion}
use Rattle.wire.specs.Codec.{Codec, Whole}
use Rattle.wire.specs.Filled.{SpellAll, write_all, read_all}

-- values up to the end of the bytes, of a format whose values take at least one byte
abbrev pub every : {F A : Type 0} → F → Codec F A → Whole F (List A)
every more codec = record {
  Spells = λ bytes values. SpellAll codec bytes values;
  write = write_all codec;
  size = sum_by codec.size;
  Fits = λ values. AllByRecursion codec.Fits values;
  read = λ bytes. read_all (length bytes) more codec bytes;
}

-- at most this many values, up to the end or to bytes that are not a value
abbrev pub values_within : {F A : Type 0} → ℕ → Codec F A → List ℕ → List A
values_within zero codec bytes = []
values_within (suc most) codec bytes = elim (codec.read bytes) [ Ok x ↦ x.0 ∷ values_within most codec x.1 | Err why ↦ [] ]

-- the values at the front of the bytes, up to the end or to bytes that are not a value
unfoldable pub values_in : {F A : Type 0} → Codec F A → List ℕ → List A
values_in codec bytes = values_within (length bytes) codec bytes
