-- Formats of all the bytes given are sound.
use Rattle.std.proofs.Common.{◌≡◌, ℕ, Bool, true, false, List, [], ◌++◌, Ok, refl, ap, subst, arith}
use Rattle.wire.specs.Codec.{Codec, Whole, IsSound, IsOnward, IsSoundWhole, ◌>>=◌}
use Rattle.wire.specs.Whole.{everything, refused, ends_by, seen_whole, pick, loose}
use Rattle.wire.proofs.Fields.{bind_ok, ok_is}

pub everything_sound : {F : Type 0} → IsSoundWhole (everything {F = F})
everything_sound {F = F} = record {
  takes = λ bytes value e. ok_is {F = F} bytes value e;
  again = λ bytes value s. ap (λ (xs : List ℕ). Ok xs) s;
  written = λ value fits. refl;
  sized = λ value. refl;
}

pub refused_sound : {F A : Type 0} (fault : F) → IsSoundWhole (refused {A = A} fault)
refused_sound fault = record {
  takes = λ bytes value e. absurd cc;
  again = λ bytes value s. absurd s;
  written = λ value fits. absurd fits;
  sized = λ value. refl;
}

pub pick_sound : {F A : Type 0} (test : Bool) (one other : Whole F A) → IsSoundWhole one → IsSoundWhole other → IsSoundWhole (pick test one other)
pick_sound true one other first second = first
pick_sound false one other first second = second

module _ {F A B : Type 0} (first : Codec F A) (second : A → Whole F B) where
  pub ends_by_sound : IsSound first → ((value : A) → IsSoundWhole (second value)) → IsSoundWhole (ends_by first second)
  ends_by_sound one other = record {
    takes = λ bytes value e.
        let a = bind_ok (first.read bytes) (λ x. (second x.0).read x.1 >>= λ y. Ok (x.0, y)) value e in
        let b = bind_ok ((second a.0.0).read a.0.1) (λ y. Ok (a.0.0, y)) value a.2 in
        subst (λ (y : A × B). (ends_by first second).Spells bytes y) (ok_is {F = F} (a.0.0, b.0) value b.2)
        (a.0.1, one.takes bytes a.0.0 a.0.1 a.1, (other a.0.0).takes a.0.1 b.0 b.1);
    again = λ bytes value s.
        rw (one.again bytes value.0 s.0 s.1, (other value.0).again s.0 value.1 s.2) refl;
    written = λ value fits.
        ((second value.0).write value.1, one.written value.0 ((second value.0).write value.1) fits.0, (other value.0).written value.1 fits.1);
    sized = λ value. omega (arith, one.sized value.0 ((second value.0).write value.1), (other value.0).sized value.1);
  }

module _ {F A B : Type 0} (to : A → B) (from : B → A) (whole : Whole F A) where
  pub seen_whole_sound : ((value : B) → to (from value) ≡ value) → IsSoundWhole whole → IsSoundWhole (seen_whole to from whole)
  seen_whole_sound back sound = record {
    takes = λ bytes value e.
        let a = bind_ok (whole.read bytes) (λ x. Ok (to x)) value e in
        (a.0, ok_is {F = F} (to a.0) value a.2, sound.takes bytes a.0 a.1);
    again = λ bytes value s. rw (sound.again bytes s.0 s.2, s.1) refl;
    written = λ value fits. (from value, back value, sound.written (from value) fits);
    sized = λ value. sound.sized (from value);
  }

pub loose_sound : {F A : Type 0} (codec : Codec F A) → IsSound codec → IsSoundWhole (loose codec)
loose_sound {F = F} codec sound = record {
  takes = λ bytes value e.
      let a = bind_ok (codec.read bytes) (λ x. Ok x.0) value e in
      (a.0.1, subst (λ (y : _). codec.Spells bytes y a.0.1) (ok_is {F = F} a.0.0 value a.2) (sound.takes bytes a.0.0 a.0.1 a.1));
  again = λ bytes value s. rw (sound.again bytes value s.0 s.1) refl;
  written = λ value fits. ([], sound.written value [] fits);
  sized = λ value. omega (arith, sound.sized value []);
}

-- the same with more bytes after it
pub loose_behind : {F A : Type 0} (codec : Codec F A) (bytes : List ℕ) (value : A) (more : List ℕ) → IsOnward codec → (loose codec).Spells bytes value → (loose codec).Spells (bytes ++ more) value
loose_behind codec bytes value more onward s = (s.0 ++ more, onward.onward bytes value s.0 more s.1)
