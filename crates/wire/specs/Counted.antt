-- A given number of values, one after the other, where each may be judged by those before it.
use Rattle.std.specs.Prelude.{◌≡◌, ◌+◌, ℕ, zero, suc, List, [], ◌∷◌, ◌++◌, length, nat_lt, Result, Ok}
use Rattle.wire.specs.Codec.{Codec, ◌>>=◌}
use Rattle.wire.specs.Formats.{then_by, seen}
use Rattle.wire.specs.Checks.{checked}

-- the first bytes are these values, one after the other, followed by the last bytes
abbrev pub SpellEach : {F A : Type 0} → (List A → Codec F A) → List A → List ℕ → List A → List ℕ → Type 0
SpellEach item before bytes [] rest = bytes ≡ rest
SpellEach item before bytes (value ∷ values) rest = (mid : List ℕ) × (item before).Spells bytes value mid × SpellEach item (before ++ value ∷ []) mid values rest

-- the values that are written, one after the other
abbrev pub write_each : {F A : Type 0} → (List A → Codec F A) → List A → List A → List ℕ → List ℕ
write_each item before [] rest = rest
write_each item before (value ∷ values) rest = (item before).write value (write_each item (before ++ value ∷ []) values rest)

-- how many bytes the values take
abbrev pub size_each : {F A : Type 0} → (List A → Codec F A) → List A → List A → ℕ
size_each item before [] = 0
size_each item before (value ∷ values) = (item before).size value + size_each item (before ++ value ∷ []) values

-- each of the values can be written after those before it
abbrev pub FitsEach : {F A : Type 0} → (List A → Codec F A) → List A → List A → Type 0
FitsEach item before [] = Unit {0}
FitsEach item before (value ∷ values) = (item before).Fits value × FitsEach item (before ++ value ∷ []) values

-- this many values, or the first fault
unfoldable pub read_each : {F A : Type 0} → (List A → Codec F A) → ℕ → List A → List ℕ → Result (List A × List ℕ) F
read_each item zero before bytes = Ok ([], bytes)
read_each item (suc count) before bytes =
    (item before).read bytes >>= λ x. read_each item count (before ++ x.0 ∷ []) x.1 >>= λ y. Ok (x.0 ∷ y.0, y.1)

-- this many values, each of a format that may depend on those before it
abbrev pub listed : {F A : Type 0} → (List A → Codec F A) → ℕ → Codec F (List A)
listed item count = record {
  Spells = λ bytes values rest. (length values ≡ count) × SpellEach item [] bytes values rest;
  write = λ values rest. write_each item [] values rest;
  size = λ values. size_each item [] values;
  Fits = λ values. (length values ≡ count) × FitsEach item [] values;
  read = λ bytes. read_each item count [] bytes;
}

-- a count, and after it that many values
abbrev pub counted : {F A : Type 0} → Codec F ℕ → (List A → Codec F A) → Codec F (List A)
counted counts item = seen (λ x. x.1) (λ values. (length values, values)) (then_by counts (λ count. listed item count))

-- the values of a list with a maximum length; one more complete value is a fault
abbrev pub bounded : {F A : Type 0} → ℕ → F → (List A → Codec F A) → List A → Codec F A
bounded most full item before = checked (λ value. nat_lt (length before) most) full (item before)
