-- Formats of entries that count others are sound.
use Rattle.std.proofs.Common.{◌≡◌, ℕ, zero, suc, ◌-◌, ◌+◌, ◌*◌, ◌<◌, ◌≤◌, List, [], ◌∷◌, ◌++◌, length, take, drop, Ok, Err, refl, sym, ap, subst, ◌∙◌, append_assoc, get_or, sum_by, arith}
use Rattle.std.specs.List.{AllByRecursion}
use Rattle.std.proofs.lemmas.Bool.{lt-ltb}
use Rattle.std.proofs.lemmas.List.{append-nil, length-append, take_at, drop_at, length-take, take-append-drop, drop_more, nil_from_length}
use Rattle.std.proofs.lemmas.List.Sums.{sum_by-cons}
use Rattle.std.proofs.Math.Nat.{add-mul}
use Rattle.wire.specs.Codec.{Codec, IsSound, IsOnward, ◌>>=◌}
use Rattle.wire.specs.Counted.{SpellEach, write_each, size_each, FitsEach, bounded}
use Rattle.wire.specs.Nested.{read_inner, SpellOuter, write_outer, size_outer, FitsOuter, read_outer, nested, flat_bytes, flat_size, nested_bytes, nested_size, FitsNested}
use Rattle.wire.proofs.Fields.{bind_ok, ok_is}
use Rattle.wire.proofs.Counts.{each_written, each_local, each_sized, each_onward}

-- ---- the inner entries: reading them after others gives them appended to those

module _ {F S : Type 0} (item : List S → Codec F S) (sound : (before : List S) → IsSound (item before)) where
  inner_takes : (count : ℕ) (before : List S) (bytes : List ℕ) (all : List S) (rest : List ℕ) → read_inner item count before bytes ≡ Ok (all, rest)
      → (own : List S) × (all ≡ before ++ own) × (length own ≡ count) × SpellEach item before bytes own rest
  unfolding read_inner
  inner_takes zero before bytes all rest e =
      let same = ok_is {F = F} (before, bytes) (all, rest) e in
      ([], sym (ap (λ p. p.0) same) ∙ sym (append-nil before), refl, ap (λ p. p.1) same)
  inner_takes (suc count) before bytes all rest e =
      let a = bind_ok ((item before).read bytes) (λ x. read_inner item count (before ++ x.0 ∷ []) x.1) (all, rest) e in
      let b = inner_takes count (before ++ a.0.0 ∷ []) a.0.1 all rest a.2 in
      let long : length (a.0.0 ∷ b.0) ≡ suc count = omega (arith, b.2) in
      (a.0.0 ∷ b.0, b.1 ∙ append_assoc before (a.0.0 ∷ []) b.0, long, (a.0.1, (sound before).takes bytes a.0.0 a.0.1 a.1, b.3))

  inner_again : (count : ℕ) (before : List S) (bytes : List ℕ) (own : List S) (rest : List ℕ) → length own ≡ count → SpellEach item before bytes own rest
      → read_inner item count before bytes ≡ Ok (before ++ own, rest)
  unfolding read_inner
  inner_again zero before bytes [] rest long s = rw (s, append-nil before) refl
  inner_again zero before bytes (value ∷ own) rest long s = absurd (omega (arith, long))
  inner_again (suc count) before bytes [] rest long s = absurd (omega (arith, long))
  inner_again (suc count) before bytes (value ∷ own) rest long s =
      rw ((sound before).again bytes value s.0 s.1, inner_again count (before ++ value ∷ []) s.0 own rest (omega (arith, long)) s.2, append_assoc before (value ∷ []) own) refl

-- ---- the outer entries

module _ {F H S : Type 0} (header : List H → Codec F H) (count_of : H → ℕ) (item : ℕ → List S → Codec F S)
    (headers : (before : List H) → IsSound (header before)) (items : (start : ℕ) (before : List S) → IsSound (item start before)) where
  outer_takes : (count : ℕ) (first : List H) (second : List S) (bytes : List ℕ) (value : List H × List S) (rest : List ℕ)
      → read_outer header count_of item count first second bytes ≡ Ok (value, rest)
      → (entries : List H) × (inner : List S) × (value.0 ≡ first ++ entries) × (value.1 ≡ second ++ inner) × (length entries ≡ count)
      × SpellOuter header count_of item first second bytes entries inner rest
  unfolding read_outer
  outer_takes zero first second bytes value rest e =
      let same = ok_is {F = F} ((first, second), bytes) (value, rest) e in
      ([], [], sym (ap (λ p. p.0.0) same) ∙ sym (append-nil first), sym (ap (λ p. p.0.1) same) ∙ sym (append-nil second), refl, (refl, ap (λ p. p.1) same))
  outer_takes (suc count) first second bytes value rest e =
      let a = bind_ok ((header first).read bytes) (λ x. read_inner (item (length second)) (count_of x.0) second x.1
      >>= λ y. read_outer header count_of item count (first ++ x.0 ∷ []) y.0 y.1) (value, rest) e in
      let b = bind_ok (read_inner (item (length second)) (count_of a.0.0) second a.0.1) (λ y. read_outer header count_of item count (first ++ a.0.0 ∷ []) y.0 y.1) (value, rest) a.2 in
      let i = inner_takes (item (length second)) (items (length second)) (count_of a.0.0) second a.0.1 b.0.0 b.0.1 b.1 in
      let o = outer_takes count (first ++ a.0.0 ∷ []) b.0.0 b.0.1 value rest b.2 in
      let own = i.0 in
      let inner : List S = own ++ o.1 in
      let own_is : take (count_of a.0.0) inner ≡ own = take_at own o.1 (count_of a.0.0) i.2 in
      let others : drop (count_of a.0.0) inner ≡ o.1 = drop_at own o.1 (count_of a.0.0) i.2 in
      let enough : count_of a.0.0 ≤ length inner = omega (arith, length-append own o.1, i.2) in
      let long : length (a.0.0 ∷ o.0) ≡ suc count = omega (arith, o.4) in (
        a.0.0 ∷ o.0,
        inner,
        o.2 ∙ append_assoc first (a.0.0 ∷ []) o.0,
        o.3 ∙ ap (λ (xs : List S). xs ++ o.1) i.1 ∙ append_assoc second own o.1,
        long,
        (
          a.0.1,
          b.0.1,
          (headers first).takes bytes a.0.0 a.0.1 a.1,
          enough,
          subst (λ (xs : List S). SpellEach (item (length second)) second a.0.1 xs b.0.1) (sym own_is) i.3,
          rw (own_is, others) (subst (λ (xs : List S). SpellOuter header count_of item (first ++ a.0.0 ∷ []) xs b.0.1 o.0 o.1 rest) i.1 o.5),
        ),
      )

  outer_again : (count : ℕ) (first : List H) (second : List S) (bytes : List ℕ) (entries : List H) (inner : List S) (rest : List ℕ)
      → length entries ≡ count → SpellOuter header count_of item first second bytes entries inner rest
      → read_outer header count_of item count first second bytes ≡ Ok ((first ++ entries, second ++ inner), rest)
  unfolding read_outer
  outer_again zero first second bytes [] inner rest long s = rw (s.0, s.1, append-nil first, append-nil second) refl
  outer_again zero first second bytes (entry ∷ entries) inner rest long s = absurd (omega (arith, long))
  outer_again (suc count) first second bytes [] inner rest long s = absurd (omega (arith, long))
  outer_again (suc count) first second bytes (entry ∷ entries) inner rest long s =
      let n = count_of entry in
      let own : length (take n inner) ≡ n = omega (arith, length-take n inner, s.3) in
      let whole : (second ++ take n inner) ++ drop n inner ≡ second ++ inner =
      append_assoc second (take n inner) (drop n inner) ∙ ap (λ (xs : List S). second ++ xs) (take-append-drop n inner) in
      rw (
        (headers first).again bytes entry s.0 s.2,
        inner_again (item (length second)) (items (length second)) n second s.0 (take n inner) s.1 own s.4,
        outer_again count (first ++ entry ∷ []) (second ++ take n inner) s.1 entries (drop n inner) rest (omega (arith, long)) s.5,
        append_assoc first (entry ∷ []) entries,
        whole,
      ) refl

  outer_written : (first : List H) (second : List S) (entries : List H) (inner : List S) (rest : List ℕ) → FitsOuter header count_of item first second entries inner
      → SpellOuter header count_of item first second (write_outer header count_of item first second entries inner rest) entries inner rest
  outer_written first second [] inner rest fits = (fits, refl)
  outer_written first second (entry ∷ entries) inner rest fits =
      let n = count_of entry in
      let behind = write_outer header count_of item (first ++ entry ∷ []) (second ++ take n inner) entries (drop n inner) rest in (
        write_each (item (length second)) second (take n inner) behind,
        behind,
        (headers first).written entry (write_each (item (length second)) second (take n inner) behind) fits.0,
        fits.1,
        each_written (item (length second)) (items (length second)) second (take n inner) behind fits.2,
        outer_written (first ++ entry ∷ []) (second ++ take n inner) entries (drop n inner) rest fits.3,
      )

  outer_local : (first : List H) (second : List S) (entries : List H) (inner : List S) (rest : List ℕ)
      → write_outer header count_of item first second entries inner rest ≡ write_outer header count_of item first second entries inner [] ++ rest
  outer_local first second [] inner rest = refl
  outer_local first second (entry ∷ entries) inner rest =
      let n = count_of entry in
      let own = take n inner in
      let place = item (length second) in
      let behind : List ℕ → List ℕ = write_outer header count_of item (first ++ entry ∷ []) (second ++ own) entries (drop n inner) in
      let inside : write_each place second own (behind rest) ≡ write_each place second own (behind []) ++ rest =
      ap (λ (xs : List ℕ). write_each place second own xs) (outer_local (first ++ entry ∷ []) (second ++ own) entries (drop n inner) rest)
      ∙ each_local place (items (length second)) second own (behind [] ++ rest)
      ∙ sym (append_assoc (write_each place second own []) (behind []) rest)
      ∙ ap (λ (xs : List ℕ). xs ++ rest) (sym (each_local place (items (length second)) second own (behind []))) in
      ap (λ (xs : List ℕ). (header first).write entry xs) inside
      ∙ (headers first).local entry (write_each place second own (behind []) ++ rest)
      ∙ sym (append_assoc ((header first).write entry []) (write_each place second own (behind [])) rest)
      ∙ ap (λ (xs : List ℕ). xs ++ rest) (sym ((headers first).local entry (write_each place second own (behind []))))

  outer_sized : (first : List H) (second : List S) (entries : List H) (inner : List S) (rest : List ℕ)
      → length (write_outer header count_of item first second entries inner rest) ≡ size_outer header count_of item first second entries inner + length rest
  outer_sized first second [] inner rest = omega arith
  outer_sized first second (entry ∷ entries) inner rest =
      let n = count_of entry in
      let behind = write_outer header count_of item (first ++ entry ∷ []) (second ++ take n inner) entries (drop n inner) rest in
      omega (
        arith,
        (headers first).sized entry (write_each (item (length second)) second (take n inner) behind),
        each_sized (item (length second)) (items (length second)) second (take n inner) behind,
        outer_sized (first ++ entry ∷ []) (second ++ take n inner) entries (drop n inner) rest,
      )

  pub nested_sound : (counts : Codec F ℕ) → IsSound counts → IsSound (nested header count_of item counts)
  nested_sound counts sound = record {
    takes = λ bytes value rest e.
        let a = bind_ok (counts.read bytes) (λ x. read_outer header count_of item x.0 [] [] x.1) (value, rest) e in
        let o = outer_takes a.0.0 [] [] a.0.1 value rest a.2 in
        let n : a.0.0 ≡ length value.0 = sym (ap length o.2 ∙ o.4) in (
          a.0.1,
          subst (λ (k : ℕ). counts.Spells bytes k a.0.1) n (sound.takes bytes a.0.0 a.0.1 a.1),
          subst (λ (xs : List H). SpellOuter header count_of item [] [] a.0.1 xs value.1 rest) (sym o.2)
              (subst (λ (xs : List S). SpellOuter header count_of item [] [] a.0.1 o.0 xs rest) (sym o.3) o.5),
        );
    again = λ bytes value rest s.
        rw (sound.again bytes (length value.0) s.0 s.1) (outer_again (length value.0) [] [] s.0 value.0 value.1 rest refl s.2);
    written = λ value rest fits. (
      write_outer header count_of item [] [] value.0 value.1 rest,
      sound.written (length value.0) (write_outer header count_of item [] [] value.0 value.1 rest) fits.0,
      outer_written [] [] value.0 value.1 rest fits.1,
    );
    local = λ value rest.
        ap (λ (xs : List ℕ). counts.write (length value.0) xs) (outer_local [] [] value.0 value.1 rest)
        ∙ sound.local (length value.0) (write_outer header count_of item [] [] value.0 value.1 [] ++ rest)
        ∙ sym (append_assoc (counts.write (length value.0) []) (write_outer header count_of item [] [] value.0 value.1 []) rest)
        ∙ ap (λ (xs : List ℕ). xs ++ rest) (sym (sound.local (length value.0) (write_outer header count_of item [] [] value.0 value.1 [])));
    sized = λ value rest.
        omega (arith, sound.sized (length value.0) (write_outer header count_of item [] [] value.0 value.1 rest), outer_sized [] [] value.0 value.1 rest);
  }

module _ {F H S : Type 0} (header : List H → Codec F H) (count_of : H → ℕ) (item : ℕ → List S → Codec F S)
    (headers : (before : List H) → IsOnward (header before)) (items : (start : ℕ) (before : List S) → IsOnward (item start before)) where
  outer_onward : (first : List H) (second : List S) (bytes : List ℕ) (entries : List H) (inner : List S) (rest more : List ℕ)
      → SpellOuter header count_of item first second bytes entries inner rest → SpellOuter header count_of item first second (bytes ++ more) entries inner (rest ++ more)
  outer_onward first second bytes [] inner rest more s = (s.0, ap (λ (xs : List ℕ). xs ++ more) s.1)
  outer_onward first second bytes (entry ∷ entries) inner rest more s =
      let own = take (count_of entry) inner in (
        s.0 ++ more,
        s.1 ++ more,
        (headers first).onward bytes entry s.0 more s.2,
        s.3,
        each_onward (item (length second)) (items (length second)) second s.0 own s.1 more s.4,
        outer_onward (first ++ entry ∷ []) (second ++ own) s.1 entries (drop (count_of entry) inner) rest more s.5,
      )

  pub nested_onward : (counts : Codec F ℕ) → IsOnward counts → IsOnward (nested header count_of item counts)
  nested_onward counts inner = record {
    onward = λ bytes value rest more s. (s.0 ++ more, inner.onward bytes (length value.0) s.0 more s.1, outer_onward [] [] s.0 value.0 value.1 rest more s.2);
  }

-- ---- a loop that reads the inner entries

module _ {F S : Type 0} (item : List S → Codec F S) (before : List S) (bytes : List ℕ) (left : ℕ) where
  pub inner_goes_on : (entry : S) (behind : List ℕ) (n : ℕ) → left ≡ n + 1 → (item before).read bytes ≡ Ok (entry, behind)
      → read_inner item left before bytes ≡ read_inner item n (before ++ entry ∷ []) behind
  unfolding read_inner
  inner_goes_on entry behind n more one = let k : left ≡ suc n = omega (arith, more) in rw (k, one) refl

  pub inner_fails : (fault : F) → 0 < left → (item before).read bytes ≡ Err fault → read_inner item left before bytes ≡ Err fault
  unfolding read_inner
  inner_fails fault more one = let k : left ≡ suc (left - 1) = omega (arith, more) in rw (k, one) refl

  pub inner_ends : left ≡ 0 → read_inner item left before bytes ≡ Ok (before, bytes)
  unfolding read_inner
  inner_ends none = rw none refl

-- ---- a loop that reads the outer entries

module _ {F H S : Type 0} (header : List H → Codec F H) (count_of : H → ℕ) (item : ℕ → List S → Codec F S) (first : List H) (second : List S) (bytes : List ℕ) (left : ℕ) where
  pub outer_goes_on : (entry : H) (more : List S) (behind rest : List ℕ) (n : ℕ) → left ≡ n + 1 → (header first).read bytes ≡ Ok (entry, behind)
      → read_inner (item (length second)) (count_of entry) second behind ≡ Ok (more, rest)
      → read_outer header count_of item left first second bytes ≡ read_outer header count_of item n (first ++ entry ∷ []) more rest
  unfolding read_outer
  outer_goes_on entry more behind rest n some one inside = let k : left ≡ suc n = omega (arith, some) in rw (k, one, inside) refl

  pub outer_fails : (fault : F) → 0 < left → (header first).read bytes ≡ Err fault → read_outer header count_of item left first second bytes ≡ Err fault
  unfolding read_outer
  outer_fails fault some one = let k : left ≡ suc (left - 1) = omega (arith, some) in rw (k, one) refl

  pub outer_fails_inside : (entry : H) (behind : List ℕ) (fault : F) → 0 < left → (header first).read bytes ≡ Ok (entry, behind)
      → read_inner (item (length second)) (count_of entry) second behind ≡ Err fault → read_outer header count_of item left first second bytes ≡ Err fault
  unfolding read_outer
  outer_fails_inside entry behind fault some one inside = let k : left ≡ suc (left - 1) = omega (arith, some) in rw (k, one, inside) refl

  pub outer_ends : left ≡ 0 → read_outer header count_of item left first second bytes ≡ Ok ((first, second), bytes)
  unfolding read_outer
  outer_ends none = rw none refl

-- ---- what is written, if it does not depend on the values before

module _ {F S : Type 0} (item : List S → Codec F S) (put : S → List ℕ → List ℕ) (takes : S → ℕ)
    (same : (before : List S) (value : S) (rest : List ℕ) → (item before).write value rest ≡ put value rest)
    (long : (before : List S) (value : S) → (item before).size value ≡ takes value) where
  pub each_flat : (before values : List S) (rest : List ℕ) → write_each item before values rest ≡ flat_bytes put values rest
  each_flat before [] rest = refl
  each_flat before (value ∷ values) rest =
      same before value (write_each item (before ++ value ∷ []) values rest) ∙ ap (λ (xs : List ℕ). put value xs) (each_flat (before ++ value ∷ []) values rest)

  pub each_flat_size : (before values : List S) → size_each item before values ≡ flat_size takes values
  each_flat_size before [] = refl
  each_flat_size before (value ∷ values) = omega (arith, long before value, each_flat_size (before ++ value ∷ []) values)

module _ {F H S : Type 0} (header : List H → Codec F H) (count_of : H → ℕ) (item : ℕ → List S → Codec F S)
    (head : H → List ℕ → List ℕ) (head_takes : H → ℕ) (put : S → List ℕ → List ℕ) (takes : S → ℕ)
    (head_same : (before : List H) (value : H) (rest : List ℕ) → (header before).write value rest ≡ head value rest)
    (head_long : (before : List H) (value : H) → (header before).size value ≡ head_takes value)
    (same : (start : ℕ) (before : List S) (value : S) (rest : List ℕ) → (item start before).write value rest ≡ put value rest)
    (long : (start : ℕ) (before : List S) (value : S) → (item start before).size value ≡ takes value) where
  pub outer_flat : (first : List H) (second : List S) (entries : List H) (inner : List S) (rest : List ℕ)
      → write_outer header count_of item first second entries inner rest ≡ nested_bytes head count_of put entries inner rest
  outer_flat first second [] inner rest = refl
  outer_flat first second (entry ∷ entries) inner rest =
      let own = take (count_of entry) inner in
      let behind = write_outer header count_of item (first ++ entry ∷ []) (second ++ own) entries (drop (count_of entry) inner) rest in
      head_same first entry (write_each (item (length second)) second own behind)
      ∙ ap (λ (xs : List ℕ). head entry xs) (each_flat (item (length second)) put takes (same (length second)) (long (length second)) second own behind
      ∙ ap (λ (xs : List ℕ). flat_bytes put own xs) (outer_flat (first ++ entry ∷ []) (second ++ own) entries (drop (count_of entry) inner) rest))

  pub outer_flat_size : (first : List H) (second : List S) (entries : List H) (inner : List S)
      → size_outer header count_of item first second entries inner ≡ nested_size head_takes count_of takes entries inner
  outer_flat_size first second [] inner = refl
  outer_flat_size first second (entry ∷ entries) inner =
      let own = take (count_of entry) inner in
      omega (
        arith,
        head_long first entry,
        each_flat_size (item (length second)) put takes (same (length second)) (long (length second)) second own,
        outer_flat_size (first ++ entry ∷ []) (second ++ own) entries (drop (count_of entry) inner),
      )

-- the most bytes that a number of entries take, given the most that one entry of each kind takes
module _ {F H S : Type 0} (header : List H → Codec F H) (count_of : H → ℕ) (item : ℕ → List S → Codec F S) (head_most most : ℕ)
    (heads : (before : List H) (value : H) → (header before).size value ≤ head_most)
    (items : (start : ℕ) (before : List S) (value : S) → (item start before).size value ≤ most) where
  each_few : (start : ℕ) (before values : List S) → size_each (item start) before values ≤ length values * most
  each_few start before [] = omega arith
  each_few start before (value ∷ values) =
      omega (arith, items start before value, each_few start (before ++ value ∷ []) values, add-mul 1 (length values) most)

  pub outer_few : (first : List H) (second : List S) (entries : List H) (inner : List S)
      → size_outer header count_of item first second entries inner ≤ length entries * head_most + length inner * most
  outer_few first second [] inner = omega arith
  outer_few first second (entry ∷ entries) inner =
      let n = count_of entry in
      let cut : length inner ≡ length (take n inner) + length (drop n inner) = sym (ap length (take-append-drop n inner)) ∙ length-append (take n inner) (drop n inner) in
      let own : length inner * most ≡ length (take n inner) * most + length (drop n inner) * most = ap (λ k. k * most) cut ∙ add-mul (length (take n inner)) (length (drop n inner)) most in
      omega (
        arith,
        heads first entry,
        each_few (length second) second (take n inner),
        outer_few (first ++ entry ∷ []) (second ++ take n inner) entries (drop n inner),
        add-mul 1 (length entries) head_most,
        own,
      )

-- ---- what can be written, if it does not depend on the values before

-- a value fits, and so do those after it
pub fits_on : {S : Type 0} (Fit : S → Type 0) (values : List S) (i : ℕ) (d : S) → i < length values → Fit (get_or values i d)
    → AllByRecursion Fit (drop (i + 1) values) → AllByRecursion Fit (drop i values)
fits_on Fit values i d below one rest = subst (λ (xs : List _). AllByRecursion Fit xs) (sym (drop_more values i d below)) (one, rest)

-- an entry fits with its own after it, and so do the entries after them
pub nested_fits_on : {H S : Type 0} (Head : H → Type 0) (count_of : H → ℕ) (Inner : S → Type 0) (entries : List H) (inner : List S) (i : ℕ) (d : H) → i < length entries
    → Head (get_or entries i d) → AllByRecursion Inner (take (count_of (get_or entries i d)) inner)
    → FitsNested Head count_of Inner (drop (i + 1) entries) (drop (count_of (get_or entries i d)) inner) → FitsNested Head count_of Inner (drop i entries) inner
nested_fits_on Head count_of Inner entries inner i d below one own rest =
    subst (λ (xs : List _). FitsNested Head count_of Inner xs inner) (sym (drop_more entries i d below)) (one, own, rest)

module _ {F H S : Type 0} (head : Codec F H) (count_of : H → ℕ) (item : Codec F S) (most : ℕ) (full : F) where
  each_bounded : (before values : List S) → length before + length values ≤ most → AllByRecursion item.Fits values
      → FitsEach (λ (all : List S). bounded most full (λ _. item) all) before values
  each_bounded before [] room fits = tt
  each_bounded before (value ∷ values) room fits =
      ((lt-ltb _ _ (omega (arith, room)), fits.0), each_bounded (before ++ value ∷ []) values (omega (arith, room, length-append before (value ∷ []))) fits.1)

  -- the entries fit, with as many of the second kind as they count
  pub outer_bounded : (first : List H) (second : List S) (entries : List H) (inner : List S) → length first + length entries ≤ most → length second + length inner ≤ most
      → sum_by count_of entries ≡ length inner → FitsNested head.Fits count_of item.Fits entries inner
      → FitsOuter (λ (all : List H). bounded most full (λ _. head) all) count_of (λ _ (all : List S). bounded most full (λ _. item) all) first second entries inner
  outer_bounded first second [] inner room places all fits = nil_from_length inner (sym all)
  outer_bounded first second (entry ∷ entries) inner room places all fits =
      let n = count_of entry in
      let counted : sum_by count_of (entry ∷ entries) ≡ n + sum_by count_of entries = sum_by-cons count_of entry entries in
      let few : n ≤ length inner = omega (arith, all, counted) in
      let own : length (take n inner) ≡ n = omega (arith, length-take n inner, few) in
      let left : length (take n inner) + length (drop n inner) ≡ length inner =
      rw (← length-append (take n inner) (drop n inner), take-append-drop n inner) refl in (
        (lt-ltb _ _ (omega (arith, room)), fits.0),
        few,
        each_bounded second (take n inner) (omega (arith, places, own, few)) fits.1,
        outer_bounded (first ++ entry ∷ []) (second ++ take n inner) entries (drop n inner) (omega (arith, room, length-append first (entry ∷ [])))
            (omega (arith, places, left, length-append second (take n inner))) (omega (arith, all, counted, own, left)) fits.2,
      )
