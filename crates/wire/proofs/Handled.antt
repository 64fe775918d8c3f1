-- Formats that judge their values are sound.
use Rattle.std.proofs.Common.{◌≡◌, ℕ, Bool, true, false, cond, eqb, List, [], length, Option, Some, None, Ok, Err, refl, ap, subst, arith}
use Rattle.std.specs.Prelude.{IsSomeAnd}
use Rattle.std.specs.Option.{option_map_or}
use Rattle.std.proofs.lemmas.Bool.{eqb-true}
use Rattle.std.proofs.lemmas.List.{nil_from_length}
use Rattle.wire.specs.Codec.{Codec, Whole, IsSound, IsSoundWhole, IsOnward, ◌>>=◌}
use Rattle.wire.specs.Checks.{or_fault, checked, fixed, allowed, named, closed, variant}
use Rattle.wire.proofs.Fields.{bind_ok, ok_is, number_sound, number_onward}
use Rattle.wire.proofs.Joined.{seen_sound, seen_onward}

-- a test that passed
pub passed : {F A : Type 0} (b : Bool) (fault : F) (x y : A) → cond b (Ok x) (Err fault) ≡ Ok y → (b ≡ true) × (x ≡ y)
passed true fault x y e = (refl, cc)
passed false fault x y e = absurd cc

pub checked_sound : {F A : Type 0} (test : A → Bool) (fault : F) (codec : Codec F A) → IsSound codec → IsSound (checked test fault codec)
checked_sound {F = F} {A = A} test fault codec sound = record {
  takes = λ bytes value rest e.
      let a = bind_ok (codec.read bytes) (λ x. cond (test x.0) (Ok x) (Err fault)) (value, rest) e in
      let g = passed (test a.0.0) fault a.0 (value, rest) a.2 in
      subst (λ (y : A × List ℕ). (checked test fault codec).Spells bytes y.0 y.1) g.1 (g.0, sound.takes bytes a.0.0 a.0.1 a.1);
  again = λ bytes value rest s. rw (sound.again bytes value rest s.1, s.0) refl;
  written = λ value rest fits. (fits.0, sound.written value rest fits.1);
  local = sound.local;
  sized = sound.sized;
}

pub checked_onward : {F A : Type 0} (test : A → Bool) (fault : F) (codec : Codec F A) → IsOnward codec → IsOnward (checked test fault codec)
checked_onward test fault codec inner = record {
  onward = λ bytes value rest more s. (s.0, inner.onward bytes value rest more s.1);
}

pub fixed_sound : {F : Type 0} (fault : F) (size value : ℕ) → IsSound (fixed fault size value)
fixed_sound fault size value = seen_sound _ _ _ (λ _. refl) (checked_sound _ fault _ (number_sound fault size))

pub fixed_onward : {F : Type 0} (fault : F) (size value : ℕ) → IsOnward (fixed fault size value)
fixed_onward fault size value = seen_onward _ (λ _. value) _ (checked_onward _ fault _ (number_onward fault size))

allowed_takes : {F A : Type 0} (test : Bool) (fault : F) (whole : Whole F A) (bytes : List ℕ) (value : A) → IsSoundWhole whole
    → (allowed test fault whole).read bytes ≡ Ok value → (allowed test fault whole).Spells bytes value
allowed_takes true fault whole bytes value sound e = (refl, sound.takes bytes value e)
allowed_takes false fault whole bytes value sound e = absurd cc

pub allowed_sound : {F A : Type 0} (test : Bool) (fault : F) (whole : Whole F A) → IsSoundWhole whole → IsSoundWhole (allowed test fault whole)
allowed_sound test fault whole sound = record {
  takes = λ bytes value e. allowed_takes test fault whole bytes value sound e;
  again = λ bytes value s. rw s.0 (sound.again bytes value s.1);
  written = λ value fits. (fits.0, sound.written value fits.1);
  sized = sound.sized;
}

module _ {F A B : Type 0} (to : A → Option B) (from : B → A) (fault : F) (codec : Codec F A) where
  has_name : (o : Option B) (value : B) → or_fault fault o ≡ Ok value → o ≡ Some value
  has_name (Some x) value e = ap (λ v. Some v) (ok_is {F = F} x value e)
  has_name None value e = absurd cc

  pub named_sound : ((value : B) → to (from value) ≡ Some value) → IsSound codec → IsSound (named to from fault codec)
  named_sound back sound = record {
    takes = λ bytes value rest e.
        let a = bind_ok (codec.read bytes) (λ x. or_fault fault (to x.0) >>= λ v. Ok (v, x.1)) (value, rest) e in
        let b = bind_ok (or_fault fault (to a.0.0)) (λ v. Ok (v, a.0.1)) (value, rest) a.2 in
        subst (λ (y : B × List ℕ). (named to from fault codec).Spells bytes y.0 y.1) (ok_is {F = F} (b.0, a.0.1) (value, rest) b.2)
        (a.0.0, has_name (to a.0.0) b.0 b.1, sound.takes bytes a.0.0 a.0.1 a.1);
    again = λ bytes value rest s. rw (sound.again bytes s.0 rest s.2, s.1) refl;
    written = λ value rest fits. (from value, back value, sound.written (from value) rest fits);
    local = λ value rest. sound.local (from value) rest;
    sized = λ value rest. sound.sized (from value) rest;
  }

  pub named_onward : IsOnward codec → IsOnward (named to from fault codec)
  named_onward inner = record {
    onward = λ bytes value rest more s. (s.0, s.1, inner.onward bytes s.0 rest more s.2);
  }

pub closed_sound : {F A : Type 0} (more : F) (codec : Codec F A) → IsSound codec → IsSoundWhole (closed more codec)
closed_sound more codec sound = record {
  takes = λ bytes value e.
      let a = bind_ok (codec.read bytes) (λ x. cond (eqb (length x.1) 0) (Ok x.0) (Err more)) value e in
      let g = passed (eqb (length a.0.1) 0) more a.0.0 value a.2 in
      let ended : a.0.1 ≡ [] = nil_from_length a.0.1 (eqb-true _ _ g.0) in
      subst (λ (rest : List ℕ). codec.Spells bytes value rest) ended (subst (λ (v : _). codec.Spells bytes v a.0.1) g.1 (sound.takes bytes a.0.0 a.0.1 a.1));
  again = λ bytes value s. rw (sound.again bytes value [] s) refl;
  written = λ value fits. sound.written value [] fits;
  sized = λ value. omega (arith, sound.sized value []);
}

module _ {F A B : Type 0} (to : A → B) (from : B → Option A) (whole : Whole F A) where
  -- what can be written in one variant is spelled by what is written
  of_variant : (back : (value : B) (inner : A) → from value ≡ Some inner → to inner ≡ value) (sound : IsSoundWhole whole) (value : B) (o : Option A)
      → from value ≡ o → IsSomeAnd o whole.Fits → (variant to from whole).Spells (option_map_or whole.write o []) value
  of_variant back sound value (Some inner) e fits = (inner, back value inner e, sound.written inner fits)
  of_variant back sound value None e fits = absurd fits

  size_of_variant : (sound : IsSoundWhole whole) (o : Option A) → length (option_map_or whole.write o []) ≡ option_map_or whole.size o 0
  size_of_variant sound (Some inner) = sound.sized inner
  size_of_variant sound None = refl

  pub variant_sound : ((value : B) (inner : A) → from value ≡ Some inner → to inner ≡ value) → IsSoundWhole whole → IsSoundWhole (variant to from whole)
  variant_sound back sound = record {
    takes = λ bytes value e.
        let a = bind_ok (whole.read bytes) (λ x. Ok (to x)) value e in
        (a.0, ok_is {F = F} (to a.0) value a.2, sound.takes bytes a.0 a.1);
    again = λ bytes value s. rw (sound.again bytes s.0 s.2, s.1) refl;
    written = λ value fits. of_variant back sound value (from value) refl fits;
    sized = λ value. size_of_variant sound (from value);
  }
