-- Lists of values of a sound format.
use Rattle.std.proofs.Common.{◌≡◌, ℕ, zero, suc, ◌-◌, ◌<◌, ◌≤◌, Bool, true, false, cond, eqb, List, [], ◌∷◌, ◌++◌, length, sum_by, Result, Ok, Err, refl, sym, ap, subst, ◌∙◌, append_assoc, arith, inl, inr, ◌⊎◌}
use Rattle.std.specs.List.{AllByRecursion}
use Rattle.std.proofs.lemmas.Bool.{eqb-true, ne_eqb}
use Rattle.std.proofs.lemmas.List.Sums.{sum_by-cons}
use Rattle.std.proofs.lemmas.List.{append-nil, length-append, nil_from_length}
use Rattle.wire.specs.Codec.{Codec, IsSound, IsSoundWhole, ◌>>=◌}
use Rattle.wire.specs.Filled.{SpellAll, write_all, read_all, filled}
use Rattle.wire.proofs.Fields.{bind_ok, ok_is}

-- a choice that gave a value
chosen : {F A : Type 0} (b : Bool) (x y : Result A F) (value : A) → cond b x y ≡ Ok value → ((b ≡ true) × (x ≡ Ok value)) ⊎ ((b ≡ false) × (y ≡ Ok value))
chosen true x y value e = inl (refl, e)
chosen false x y value e = inr (refl, e)

some_bytes : (bytes : List ℕ) → eqb (length bytes) 0 ≡ false → 0 < length bytes
some_bytes [] e = absurd cc
some_bytes (byte ∷ bytes) e = omega arith

not_empty : (bytes : List ℕ) → 0 < length bytes → eqb (length bytes) 0 ≡ false
not_empty [] h = absurd (omega (arith, h))
not_empty (byte ∷ bytes) h = ne_eqb _ _ (omega arith)

module _ {F A : Type 0} (more : F) (codec : Codec F A) where
  read_takes : (most : ℕ) (bytes : List ℕ) (values : List A) → IsSound codec → read_all most more codec bytes ≡ Ok values → SpellAll codec bytes values × (length values ≤ most)
  unfolding read_all
  read_takes zero bytes values sound e =
      elim (chosen (eqb (length bytes) 0) (Ok []) (Err more) values e) [
        | inl t ↦ subst (λ (vs : List A). SpellAll codec bytes vs × (length vs ≤ 0)) (ok_is {F = F} [] values t.1) (nil_from_length bytes (eqb-true _ _ t.0), omega arith)
        | inr t ↦ absurd (let e = t.1 in cc)
      ]
  read_takes (suc most) bytes values sound e =
      elim (chosen (eqb (length bytes) 0) (Ok []) (codec.read bytes >>= λ x. read_all most more codec x.1 >>= λ vs. Ok (x.0 ∷ vs)) values e) [
        | inl t ↦ subst (λ (vs : List A). SpellAll codec bytes vs × (length vs ≤ suc most)) (ok_is {F = F} [] values t.1) (nil_from_length bytes (eqb-true _ _ t.0), omega arith)
        | inr t ↦
            let a = bind_ok (codec.read bytes) (λ x. read_all most more codec x.1 >>= λ vs. Ok (x.0 ∷ vs)) values t.1 in
            let b = bind_ok (read_all most more codec a.0.1) (λ vs. Ok (a.0.0 ∷ vs)) values a.2 in
            let others = read_takes most a.0.1 b.0 sound b.1 in
            subst (λ (vs : List A). SpellAll codec bytes vs × (length vs ≤ suc most)) (ok_is {F = F} (a.0.0 ∷ b.0) values b.2)
            ((some_bytes bytes t.0, a.0.1, sound.takes bytes a.0.0 a.0.1 a.1, others.0), omega (arith, others.1))
      ]

  read_again : (most : ℕ) (bytes : List ℕ) (values : List A) → IsSound codec → SpellAll codec bytes values → length values ≤ most → read_all most more codec bytes ≡ Ok values
  unfolding read_all
  read_again zero bytes [] sound s short = rw s refl
  read_again zero bytes (value ∷ values) sound s short = absurd (omega (arith, short))
  read_again (suc most) bytes [] sound s short = rw s refl
  read_again (suc most) bytes (value ∷ values) sound s short =
      rw (not_empty bytes s.0, sound.again bytes value s.1 s.2, read_again most s.1 values sound s.3 (omega (arith, short))) refl

  written_all : (values : List A) → IsSound codec → ((value : A) → codec.Fits value → 0 < codec.size value) → AllByRecursion codec.Fits values → SpellAll codec (write_all codec values) values
  written_all [] sound some fits = refl
  written_all (value ∷ values) sound some fits =
      (omega (arith, sound.sized value (write_all codec values), some value fits.0), write_all codec values, sound.written value (write_all codec values) fits.0, written_all values sound some fits.1)

  sized_all : (values : List A) → IsSound codec → length (write_all codec values) ≡ sum_by codec.size values
  sized_all [] sound = refl
  sized_all (value ∷ values) sound = omega (arith, sound.sized value (write_all codec values), sized_all values sound, sum_by-cons codec.size value values)

  -- a list is sound if each of its values takes at least one byte
  pub filled_sound : (most : ℕ) → IsSound codec → ((value : A) → codec.Fits value → 0 < codec.size value) → IsSoundWhole (filled most more codec)
  filled_sound most sound some = record {
    takes = λ bytes values e. read_takes most bytes values sound e;
    again = λ bytes values s. read_again most bytes values sound s.0 s.1;
    written = λ values fits. (written_all values sound some fits.0, fits.1);
    sized = λ values. sized_all values sound;
  }

-- ---- a loop that reads a list

-- the values read so far, before those still to be read
abbrev pub with_front : {F A : Type 0} → List A → Result (List A) F → Result (List A) F
with_front front read = read >>= λ values. Ok (front ++ values)

-- at the start of the loop
pub list_starts : {F A : Type 0} (read : Result (List A) F) → with_front [] read ≡ read
list_starts (Ok values) = refl
list_starts (Err fault) = refl

regroup : {F A : Type 0} (front : List A) (value : A) (read : Result (List A) F) → with_front front (read >>= λ others. Ok (value ∷ others)) ≡ with_front (front ++ value ∷ []) read
regroup front value (Ok values) = ap (λ vs. Ok vs) (sym (append_assoc front (value ∷ []) values))
regroup front value (Err fault) = refl

module _ {F A : Type 0} (more : F) (codec : Codec F A) (front : List A) (most : ℕ) (bytes : List ℕ) (total : Result (List A) F) where
  -- one more value is read
  pub list_goes_on : (value : A) (after : List ℕ) → length front < most → 0 < length bytes → codec.read bytes ≡ Ok (value, after)
      → with_front front (read_all (most - length front) more codec bytes) ≡ total
      → with_front (front ++ value ∷ []) (read_all (most - length (front ++ value ∷ [])) more codec after) ≡ total
  unfolding read_all
  list_goes_on value after room some one so_far =
      let k : most - length front ≡ suc (most - length (front ++ value ∷ [])) = omega (arith, length-append front (value ∷ [])) in
      let step : with_front front (read_all (most - length front) more codec bytes) ≡ with_front (front ++ value ∷ []) (read_all (most - length (front ++ value ∷ [])) more codec after) =
      rw (k, not_empty bytes some, one) (regroup front value (read_all (most - length (front ++ value ∷ [])) more codec after)) in
      sym step ∙ so_far

  -- the next value has a fault
  pub list_fails : (fault : F) → length front < most → 0 < length bytes → codec.read bytes ≡ Err fault
      → with_front front (read_all (most - length front) more codec bytes) ≡ total → total ≡ Err fault
  unfolding read_all
  list_fails fault room some one so_far =
      let k : most - length front ≡ suc (most - length front - 1) = omega arith in
      let step : with_front front (read_all (most - length front) more codec bytes) ≡ Err fault = rw (k, not_empty bytes some, one) refl in
      sym so_far ∙ step

  -- there is no room for the next value
  pub list_is_full : most ≤ length front → 0 < length bytes → with_front front (read_all (most - length front) more codec bytes) ≡ total → total ≡ Err more
  unfolding read_all
  list_is_full full some so_far =
      let k : most - length front ≡ 0 = omega arith in
      let step : with_front front (read_all (most - length front) more codec bytes) ≡ Err more = rw (k, not_empty bytes some) refl in
      sym so_far ∙ step

  -- no byte is left
  pub list_ends : length bytes ≡ 0 → with_front front (read_all (most - length front) more codec bytes) ≡ total → total ≡ Ok front
  unfolding read_all
  list_ends none so_far = sym so_far ∙ ends (most - length front) where
    ends : (room : ℕ) → with_front front (read_all room more codec bytes) ≡ Ok front
    ends zero = rw (none, append-nil front) refl
    ends (suc room) = rw (none, append-nil front) refl
