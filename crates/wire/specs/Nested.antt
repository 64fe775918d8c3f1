-- Entries that each count the entries of a second kind after them. All entries of the second kind are in one list,
-- those of the first entry first.
use Rattle.std.specs.Prelude.{◌≡◌, ◌+◌, ◌≤◌, ℕ, zero, suc, List, [], ◌∷◌, ◌++◌, length, take, drop, Result, Ok}
use Rattle.std.specs.List.{AllByRecursion}
use Rattle.wire.specs.Codec.{Codec, ◌>>=◌}
use Rattle.wire.specs.Counted.{SpellEach, write_each, size_each, FitsEach}

-- this many values after those before them, or the first fault
unfoldable pub read_inner : {F S : Type 0} → (List S → Codec F S) → ℕ → List S → List ℕ → Result (List S × List ℕ) F
read_inner item zero before bytes = Ok (before, bytes)
read_inner item (suc count) before bytes = (item before).read bytes >>= λ x. read_inner item count (before ++ x.0 ∷ []) x.1

module _ {F H S : Type 0} (header : List H → Codec F H) (count_of : H → ℕ) (item : ℕ → List S → Codec F S) where
  -- the first bytes are these entries, each with its own after it, given those that came before
  abbrev pub SpellOuter : List H → List S → List ℕ → List H → List S → List ℕ → Type 0
  SpellOuter first second bytes [] inner rest = (inner ≡ []) × (bytes ≡ rest)
  SpellOuter first second bytes (entry ∷ entries) inner rest =
      (mid : List ℕ) × (after : List ℕ) × (header first).Spells bytes entry mid × (count_of entry ≤ length inner)
      × SpellEach (item (length second)) second mid (take (count_of entry) inner) after
      × SpellOuter (first ++ entry ∷ []) (second ++ take (count_of entry) inner) after entries (drop (count_of entry) inner) rest

  -- the entries that are written, each with its own after it
  abbrev pub write_outer : List H → List S → List H → List S → List ℕ → List ℕ
  write_outer first second [] inner rest = rest
  write_outer first second (entry ∷ entries) inner rest =
      (header first).write entry (write_each (item (length second)) second (take (count_of entry) inner)
      (write_outer (first ++ entry ∷ []) (second ++ take (count_of entry) inner) entries (drop (count_of entry) inner) rest))

  -- how many bytes they take
  abbrev pub size_outer : List H → List S → List H → List S → ℕ
  size_outer first second [] inner = 0
  size_outer first second (entry ∷ entries) inner =
      (header first).size entry + (size_each (item (length second)) second (take (count_of entry) inner)
      + size_outer (first ++ entry ∷ []) (second ++ take (count_of entry) inner) entries (drop (count_of entry) inner))

  -- each entry can be written after those before it, and no entry of the second kind is left over
  abbrev pub FitsOuter : List H → List S → List H → List S → Type 0
  FitsOuter first second [] inner = inner ≡ []
  FitsOuter first second (entry ∷ entries) inner =
      (header first).Fits entry × (count_of entry ≤ length inner) × FitsEach (item (length second)) second (take (count_of entry) inner)
      × FitsOuter (first ++ entry ∷ []) (second ++ take (count_of entry) inner) entries (drop (count_of entry) inner)

  -- this many entries with their own after those before them, or the first fault
  unfoldable pub read_outer : ℕ → List H → List S → List ℕ → Result ((List H × List S) × List ℕ) F
  read_outer zero first second bytes = Ok ((first, second), bytes)
  read_outer (suc count) first second bytes =
      (header first).read bytes >>= λ x. read_inner (item (length second)) (count_of x.0) second x.1
      >>= λ y. read_outer count (first ++ x.0 ∷ []) y.0 y.1

  -- a count, and after it that many entries, each with its own
  abbrev pub nested : Codec F ℕ → Codec F (List H × List S)
  nested counts = record {
    Spells = λ bytes value rest. (mid : List ℕ) × counts.Spells bytes (length value.0) mid × SpellOuter [] [] mid value.0 value.1 rest;
    write = λ value rest. counts.write (length value.0) (write_outer [] [] value.0 value.1 rest);
    size = λ value. counts.size (length value.0) + size_outer [] [] value.0 value.1;
    Fits = λ value. counts.Fits (length value.0) × FitsOuter [] [] value.0 value.1;
    read = λ bytes. counts.read bytes >>= λ x. read_outer x.0 [] [] x.1;
  }

-- ---- what can be written, if it does not depend on the values before

-- each entry fits, and so do its own after it
abbrev pub FitsNested : {H S : Type 0} → (H → Type 0) → (H → ℕ) → (S → Type 0) → List H → List S → Type 0
FitsNested Head count_of Inner [] inner = Unit {0}
FitsNested Head count_of Inner (entry ∷ entries) inner =
    Head entry × AllByRecursion Inner (take (count_of entry) inner) × FitsNested Head count_of Inner entries (drop (count_of entry) inner)

-- ---- what is written, if it does not depend on the values before

-- values, one after the other, before what follows
abbrev pub flat_bytes : {S : Type 0} → (S → List ℕ → List ℕ) → List S → List ℕ → List ℕ
flat_bytes put [] rest = rest
flat_bytes put (value ∷ values) rest = put value (flat_bytes put values rest)

-- how many bytes the values take
abbrev pub flat_size : {S : Type 0} → (S → ℕ) → List S → ℕ
flat_size takes [] = 0
flat_size takes (value ∷ values) = takes value + flat_size takes values

-- entries, each with its own after it, before what follows
abbrev pub nested_bytes : {H S : Type 0} → (H → List ℕ → List ℕ) → (H → ℕ) → (S → List ℕ → List ℕ) → List H → List S → List ℕ → List ℕ
nested_bytes head count_of put [] inner rest = rest
nested_bytes head count_of put (entry ∷ entries) inner rest =
    head entry (flat_bytes put (take (count_of entry) inner) (nested_bytes head count_of put entries (drop (count_of entry) inner) rest))

-- how many bytes the entries take
abbrev pub nested_size : {H S : Type 0} → (H → ℕ) → (H → ℕ) → (S → ℕ) → List H → List S → ℕ
nested_size head_takes count_of takes [] inner = 0
nested_size head_takes count_of takes (entry ∷ entries) inner =
    head_takes entry + (flat_size takes (take (count_of entry) inner) + nested_size head_takes count_of takes entries (drop (count_of entry) inner))
