-- Lists with a given number of values of sound formats are sound.
use Rattle.std.proofs.Common.{◌≡◌, ℕ, zero, suc, ◌-◌, ◌+◌, ◌<◌, ◌≤◌, List, [], ◌∷◌, ◌++◌, length, take, drop, get_or, Result, Ok, Err, refl, sym, ap, subst, ◌∙◌, append_assoc, arith}
use Rattle.std.specs.Prelude.{nat_lt}
use Rattle.std.proofs.lemmas.List.{append-nil, length-append, take_more, drop_more, drop_all}
use Rattle.wire.specs.Codec.{Codec, IsSound, IsOnward, ◌>>=◌}
use Rattle.wire.specs.Counted.{SpellEach, write_each, size_each, FitsEach, read_each, listed, counted, bounded}
use Rattle.wire.proofs.Fields.{bind_ok, ok_is}
use Rattle.wire.proofs.Joined.{then_by_sound, then_by_onward, seen_sound, seen_onward}
use Rattle.wire.proofs.Handled.{checked_sound, checked_onward}

module _ {F A : Type 0} (item : List A → Codec F A) (sound : (before : List A) → IsSound (item before)) where
  pub each_takes : (count : ℕ) (before : List A) (bytes : List ℕ) (values : List A) (rest : List ℕ)
      → read_each item count before bytes ≡ Ok (values, rest) → (length values ≡ count) × SpellEach item before bytes values rest
  unfolding read_each
  each_takes zero before bytes values rest e =
      let same = ok_is {F = F} ([], bytes) (values, rest) e in
      subst (λ (y : List A × List ℕ). (length y.0 ≡ 0) × SpellEach item before bytes y.0 y.1) same (refl, refl)
  each_takes (suc count) before bytes values rest e =
      let a = bind_ok ((item before).read bytes) (λ x. read_each item count (before ++ x.0 ∷ []) x.1 >>= λ y. Ok (x.0 ∷ y.0, y.1)) (values, rest) e in
      let b = bind_ok (read_each item count (before ++ a.0.0 ∷ []) a.0.1) (λ y. Ok (a.0.0 ∷ y.0, y.1)) (values, rest) a.2 in
      let others = each_takes count (before ++ a.0.0 ∷ []) a.0.1 b.0.0 b.0.1 b.1 in
      let long : length (a.0.0 ∷ b.0.0) ≡ suc count = omega (arith, others.0) in
      subst (λ (y : List A × List ℕ). (length y.0 ≡ suc count) × SpellEach item before bytes y.0 y.1) (ok_is {F = F} (a.0.0 ∷ b.0.0, b.0.1) (values, rest) b.2)
      (long, (a.0.1, (sound before).takes bytes a.0.0 a.0.1 a.1, others.1))

  pub each_again : (count : ℕ) (before : List A) (bytes : List ℕ) (values : List A) (rest : List ℕ)
      → length values ≡ count → SpellEach item before bytes values rest → read_each item count before bytes ≡ Ok (values, rest)
  unfolding read_each
  each_again zero before bytes [] rest long s = rw s refl
  each_again zero before bytes (value ∷ values) rest long s = absurd (omega (arith, long))
  each_again (suc count) before bytes [] rest long s = absurd (omega (arith, long))
  each_again (suc count) before bytes (value ∷ values) rest long s =
      rw ((sound before).again bytes value s.0 s.1, each_again count (before ++ value ∷ []) s.0 values rest (omega (arith, long)) s.2) refl

  pub each_written : (before values : List A) (rest : List ℕ) → FitsEach item before values → SpellEach item before (write_each item before values rest) values rest
  each_written before [] rest fits = refl
  each_written before (value ∷ values) rest fits =
      (write_each item (before ++ value ∷ []) values rest, (sound before).written value (write_each item (before ++ value ∷ []) values rest) fits.0, each_written (before ++ value ∷ []) values rest fits.1)

  pub each_local : (before values : List A) (rest : List ℕ) → write_each item before values rest ≡ write_each item before values [] ++ rest
  each_local before [] rest = refl
  each_local before (value ∷ values) rest =
      let after = before ++ value ∷ [] in
      ap (λ (xs : List ℕ). (item before).write value xs) (each_local after values rest)
      ∙ (sound before).local value (write_each item after values [] ++ rest)
      ∙ sym (append_assoc ((item before).write value []) (write_each item after values []) rest)
      ∙ ap (λ (xs : List ℕ). xs ++ rest) (sym ((sound before).local value (write_each item after values [])))

  pub each_sized : (before values : List A) (rest : List ℕ) → length (write_each item before values rest) ≡ size_each item before values + length rest
  each_sized before [] rest = omega arith
  each_sized before (value ∷ values) rest =
      omega (arith, (sound before).sized value (write_each item (before ++ value ∷ []) values rest), each_sized (before ++ value ∷ []) values rest)

  pub listed_sound : (count : ℕ) → IsSound (listed item count)
  listed_sound count = record {
    takes = λ bytes values rest e. each_takes count [] bytes values rest e;
    again = λ bytes values rest s. each_again count [] bytes values rest s.0 s.1;
    written = λ values rest fits. (fits.0, each_written [] values rest fits.1);
    local = λ values rest. each_local [] values rest;
    sized = λ values rest. each_sized [] values rest;
  }

  pub counted_sound : (counts : Codec F ℕ) → IsSound counts → IsSound (counted counts item)
  counted_sound counts inner = seen_sound _ _ _ (λ _. refl) (then_by_sound _ _ inner (λ count. listed_sound count))

  pub bounded_sound : (most : ℕ) (full : F) (before : List A) → IsSound (bounded most full item before)
  bounded_sound most full before = checked_sound (λ value. nat_lt (length before) most) full (item before) (sound before)

module _ {F A : Type 0} (item : List A → Codec F A) (items : (before : List A) → IsOnward (item before)) where
  pub each_onward : (before : List A) (bytes : List ℕ) (values : List A) (rest more : List ℕ)
      → SpellEach item before bytes values rest → SpellEach item before (bytes ++ more) values (rest ++ more)
  each_onward before bytes [] rest more s = ap (λ (xs : List ℕ). xs ++ more) s
  each_onward before bytes (value ∷ values) rest more s =
      (s.0 ++ more, (items before).onward bytes value s.0 more s.1, each_onward (before ++ value ∷ []) s.0 values rest more s.2)

  pub listed_onward : (count : ℕ) → IsOnward (listed item count)
  listed_onward count = record {
    onward = λ bytes values rest more s. (s.0, each_onward [] bytes values rest more s.1);
  }

  pub counted_onward : (counts : Codec F ℕ) → IsOnward counts → IsOnward (counted counts item)
  counted_onward counts inner = seen_onward _ _ _ (then_by_onward _ _ inner (λ count. listed_onward count))

  pub bounded_onward : (most : ℕ) (full : F) (before : List A) → IsOnward (bounded most full item before)
  bounded_onward most full before = checked_onward (λ value. nat_lt (length before) most) full (item before) (items before)

-- ---- a loop that reads a given number of values

-- the values read so far, before those still to be read
abbrev pub with_before : {F A : Type 0} → List A → Result (List A × List ℕ) F → Result (List A × List ℕ) F
with_before front read = read >>= λ y. Ok (front ++ y.0, y.1)

-- at the start of the loop
pub each_starts : {F A : Type 0} (read : Result (List A × List ℕ) F) → with_before [] read ≡ read
each_starts (Ok x) = refl
each_starts (Err fault) = refl

each_regroup : {F A : Type 0} (front : List A) (value : A) (read : Result (List A × List ℕ) F)
    → with_before front (read >>= λ y. Ok (value ∷ y.0, y.1)) ≡ with_before (front ++ value ∷ []) read
each_regroup front value (Ok x) = ap (λ vs. Ok (vs, x.1)) (sym (append_assoc front (value ∷ []) x.0))
each_regroup front value (Err fault) = refl

module _ {F A : Type 0} (item : List A → Codec F A) (count : ℕ) (front : List A) (bytes : List ℕ) (total : Result (List A × List ℕ) F) where
  -- one more value is read
  pub each_goes_on : (value : A) (after : List ℕ) → length front < count → (item front).read bytes ≡ Ok (value, after)
      → with_before front (read_each item (count - length front) front bytes) ≡ total
      → with_before (front ++ value ∷ []) (read_each item (count - length (front ++ value ∷ [])) (front ++ value ∷ []) after) ≡ total
  unfolding read_each
  each_goes_on value after more one so_far =
      let k : count - length front ≡ suc (count - length (front ++ value ∷ [])) = omega (arith, length-append front (value ∷ [])) in
      let step : with_before front (read_each item (count - length front) front bytes) ≡ with_before (front ++ value ∷ []) (read_each item (count - length (front ++ value ∷ [])) (front ++ value ∷ []) after) =
      rw (k, one) (each_regroup front value (read_each item (count - length (front ++ value ∷ [])) (front ++ value ∷ []) after)) in
      sym step ∙ so_far

  -- the next value has a fault
  pub each_fails : (fault : F) → length front < count → (item front).read bytes ≡ Err fault
      → with_before front (read_each item (count - length front) front bytes) ≡ total → total ≡ Err fault
  unfolding read_each
  each_fails fault more one so_far =
      let k : count - length front ≡ suc (count - length front - 1) = omega arith in
      let step : with_before front (read_each item (count - length front) front bytes) ≡ Err fault = rw (k, one) refl in
      sym so_far ∙ step

  -- no value is left to read
  pub each_ends : count ≤ length front → with_before front (read_each item (count - length front) front bytes) ≡ total → total ≡ Ok (front, bytes)
  unfolding read_each
  each_ends none so_far =
      let k : count - length front ≡ 0 = omega arith in
      let step : with_before front (read_each item (count - length front) front bytes) ≡ Ok (front, bytes) = rw k (ap (λ (vs : List A). Ok (vs, bytes)) (append-nil front)) in
      sym so_far ∙ step

-- ---- a loop that writes a given number of values

module _ {F A : Type 0} (item : List A → Codec F A) where
  -- one more value can be written
  pub fits_more : (before xs : List A) (x : A) → FitsEach item before xs → (item (before ++ xs)).Fits x → FitsEach item before (xs ++ x ∷ [])
  fits_more before [] x fits one = (subst (λ (front : List A). (item front).Fits x) (append-nil before) one, tt)
  fits_more before (y ∷ xs) x fits one =
      (fits.0, fits_more (before ++ y ∷ []) xs x fits.1 (subst (λ (front : List A). (item front).Fits x) (sym (append_assoc before (y ∷ []) xs)) one))

  -- what is still to be written begins with the next value
  pub write_more : (xs : List A) (i : ℕ) (d : A) (tail : List ℕ) → i < length xs
      → write_each item (take i xs) (drop i xs) tail ≡ (item (take i xs)).write (get_or xs i d) (write_each item (take (i + 1) xs) (drop (i + 1) xs) tail)
  write_more xs i d tail below =
      let whole : drop i xs ≡ get_or xs i d ∷ drop (i + 1) xs = drop_more xs i d below in
      let front : take (i + 1) xs ≡ take i xs ++ get_or xs i d ∷ [] = take_more xs i d below in
      rw (whole, front) refl

  -- nothing is left to write
  pub write_done : (xs : List A) (i : ℕ) (tail : List ℕ) → length xs ≤ i → write_each item (take i xs) (drop i xs) tail ≡ tail
  write_done xs i tail end = rw (drop_all i xs end) refl
