-- The combinators that join sound formats give sound formats.
use Rattle.std.proofs.Common.{◌≡◌, ℕ, ◌+◌, Bool, true, false, List, [], ◌++◌, length, Option, Some, None, Ok, refl, sym, ap, subst, ◌∙◌, append_assoc, arith}
use Rattle.std.proofs.lemmas.List.{append-nil, length-append}
use Rattle.wire.specs.Codec.{Codec, Whole, IsSound, IsSoundWhole, IsOnward, ◌>>=◌}
use Rattle.wire.specs.Formats.{raw, then_by, seen, when, unchecked, framed}
use Rattle.wire.proofs.Fields.{bind_ok, ok_is, raw_sound, number_sound, number_onward}

module _ {F A B : Type 0} (first : Codec F A) (second : A → Codec F B) where
  pub then_by_sound : IsSound first → ((value : A) → IsSound (second value)) → IsSound (then_by first second)
  then_by_sound one other = record {
    takes = λ bytes value rest e.
        let a = bind_ok (first.read bytes) (λ x. (second x.0).read x.1 >>= λ y. Ok ((x.0, y.0), y.1)) (value, rest) e in
        let b = bind_ok ((second a.0.0).read a.0.1) (λ y. Ok ((a.0.0, y.0), y.1)) (value, rest) a.2 in
        subst (λ (y : (A × B) × List ℕ). (then_by first second).Spells bytes y.0 y.1) (ok_is {F = F} ((a.0.0, b.0.0), b.0.1) (value, rest) b.2)
        (a.0.1, one.takes bytes a.0.0 a.0.1 a.1, (other a.0.0).takes a.0.1 b.0.0 b.0.1 b.1);
    again = λ bytes value rest s.
        rw (one.again bytes value.0 s.0 s.1, (other value.0).again s.0 value.1 rest s.2) refl;
    written = λ value rest fits.
        ((second value.0).write value.1 rest, one.written value.0 ((second value.0).write value.1 rest) fits.0, (other value.0).written value.1 rest fits.1);
    local = λ value rest.
        one.local value.0 ((second value.0).write value.1 rest)
        ∙ ap (λ (xs : List ℕ). first.write value.0 [] ++ xs) ((other value.0).local value.1 rest)
        ∙ sym (append_assoc (first.write value.0 []) ((second value.0).write value.1 []) rest)
        ∙ ap (λ (xs : List ℕ). xs ++ rest) (sym (one.local value.0 ((second value.0).write value.1 [])));
    sized = λ value rest.
        omega (arith, one.sized value.0 ((second value.0).write value.1 rest), (other value.0).sized value.1 rest);
  }

  pub then_by_onward : IsOnward first → ((value : A) → IsOnward (second value)) → IsOnward (then_by first second)
  then_by_onward one other = record {
    onward = λ bytes value rest more s. (s.0 ++ more, one.onward bytes value.0 s.0 more s.1, (other value.0).onward s.0 value.1 rest more s.2);
  }

module _ {F A B : Type 0} (to : A → B) (from : B → A) (codec : Codec F A) where
  pub seen_sound : ((value : B) → to (from value) ≡ value) → IsSound codec → IsSound (seen to from codec)
  seen_sound back sound = record {
    takes = λ bytes value rest e.
        let a = bind_ok (codec.read bytes) (λ x. Ok (to x.0, x.1)) (value, rest) e in
        subst (λ (y : B × List ℕ). (seen to from codec).Spells bytes y.0 y.1) (ok_is {F = F} (to a.0.0, a.0.1) (value, rest) a.2)
        (a.0.0, refl, sound.takes bytes a.0.0 a.0.1 a.1);
    again = λ bytes value rest s. rw (sound.again bytes s.0 rest s.2, s.1) refl;
    written = λ value rest fits. (from value, back value, sound.written (from value) rest fits);
    local = λ value rest. sound.local (from value) rest;
    sized = λ value rest. sound.sized (from value) rest;
  }

  pub seen_onward : IsOnward codec → IsOnward (seen to from codec)
  seen_onward onward = record {
    onward = λ bytes value rest more s. (s.0, s.1, onward.onward bytes s.0 rest more s.2);
  }

module _ {F A : Type 0} (codec : Codec F A) where
  pub when_sound : (there : Bool) → IsSound codec → IsSound (when there codec)
  when_sound true sound = record {
    takes = λ bytes value rest e.
        let a = bind_ok (codec.read bytes) (λ x. Ok (Some x.0, x.1)) (value, rest) e in
        subst (λ (y : Option A × List ℕ). (when true codec).Spells bytes y.0 y.1) (ok_is {F = F} (Some a.0.0, a.0.1) (value, rest) a.2)
        (a.0.0, refl, sound.takes bytes a.0.0 a.0.1 a.1);
    again = λ bytes value rest s. rw (sound.again bytes s.0 rest s.2, s.1) refl;
    written = λ value rest fits. written_when value rest fits;
    local = λ value rest. local_when value rest;
    sized = λ value rest. sized_when value rest;
  } where
    written_when : (value : Option A) (rest : List ℕ) → (when true codec).Fits value → (when true codec).Spells ((when true codec).write value rest) value rest
    written_when (Some inner) rest fits = (inner, refl, sound.written inner rest fits)
    written_when None rest fits = absurd fits

    local_when : (value : Option A) (rest : List ℕ) → (when true codec).write value rest ≡ (when true codec).write value [] ++ rest
    local_when (Some inner) rest = sound.local inner rest
    local_when None rest = refl

    sized_when : (value : Option A) (rest : List ℕ) → length ((when true codec).write value rest) ≡ (when true codec).size value + length rest
    sized_when (Some inner) rest = sound.sized inner rest
    sized_when None rest = omega arith
  when_sound false sound = record {
    takes = λ bytes value rest e.
        let pair = ok_is {F = F} (None, bytes) (value, rest) e in
        (sym (ap (λ p. p.0) pair), ap (λ p. p.1) pair);
    again = λ bytes value rest s. rw (s.0, s.1) refl;
    written = λ value rest fits. (fits, refl);
    local = λ value rest. refl;
    sized = λ value rest. omega arith;
  }

  pub when_onward : (there : Bool) → IsOnward codec → IsOnward (when there codec)
  when_onward true onward = record {
    onward = λ bytes value rest more s. (s.0, s.1, onward.onward bytes s.0 rest more s.2);
  }
  when_onward false onward = record {
    onward = λ bytes value rest more s. (s.0, ap (λ (xs : List ℕ). xs ++ more) s.1);
  }

pub unchecked_sound : {F : Type 0} (short : F) (size value : ℕ) → IsSound (unchecked short size value)
unchecked_sound short size value = seen_sound _ _ _ (λ _. refl) (number_sound short size)

pub unchecked_onward : {F : Type 0} (short : F) (size value : ℕ) → IsOnward (unchecked short size value)
unchecked_onward short size value = seen_onward _ _ _ (number_onward short size)

module _ {F A : Type 0} (lengths : Codec F ℕ) (short : F) (whole : Whole F A) where
  pub framed_sound : IsSound lengths → IsSoundWhole whole → IsSound (framed lengths short whole)
  framed_sound sound inner = record {
    takes = λ bytes value rest e.
        let a = bind_ok (lengths.read bytes) (λ x. (raw short x.0).read x.1 >>= λ cut. whole.read cut.0 >>= λ v. Ok (v, cut.1)) (value, rest) e in
        let b = bind_ok ((raw short a.0.0).read a.0.1) (λ cut. whole.read cut.0 >>= λ v. Ok (v, cut.1)) (value, rest) a.2 in
        let c = bind_ok (whole.read b.0.0) (λ v. Ok (v, b.0.1)) (value, rest) b.2 in
        let cut = (raw_sound short a.0.0).takes a.0.1 b.0.0 b.0.1 b.1 in
        subst (λ (y : A × List ℕ). (framed lengths short whole).Spells bytes y.0 y.1) (ok_is {F = F} (c.0, b.0.1) (value, rest) c.2)
        (b.0.0, a.0.1, subst (λ (n : ℕ). lengths.Spells bytes n a.0.1) (sym cut.0) (sound.takes bytes a.0.0 a.0.1 a.1), cut.1, inner.takes b.0.0 c.0 c.1);
    again = λ bytes value rest s.
        rw (sound.again bytes (length s.0) s.1 s.2, (raw_sound short (length s.0)).again s.1 s.0 rest (refl, s.3), inner.again s.0 value s.4) refl;
    written = λ value rest fits.
        let body = whole.write value in
        let front : lengths.Spells (lengths.write (whole.size value) (body ++ rest)) (length body) (body ++ rest) =
        subst (λ (n : ℕ). lengths.Spells (lengths.write (whole.size value) (body ++ rest)) n (body ++ rest)) (sym (inner.sized value)) (sound.written (whole.size value) (body ++ rest) fits.0) in
        (body, body ++ rest, front, refl, inner.written value fits.1);
    local = λ value rest.
        let body = whole.write value in
        let front = lengths.write (whole.size value) [] in
        sound.local (whole.size value) (body ++ rest)
        ∙ sym (append_assoc front body rest)
        ∙ ap (λ (xs : List ℕ). (front ++ xs) ++ rest) (sym (append-nil body))
        ∙ ap (λ (xs : List ℕ). xs ++ rest) (sym (sound.local (whole.size value) (body ++ [])));
    sized = λ value rest.
        omega (arith, sound.sized (whole.size value) (whole.write value ++ rest), inner.sized value, length-append (whole.write value) rest);
  }

  pub framed_onward : IsOnward lengths → IsOnward (framed lengths short whole)
  framed_onward onward = record {
    onward = λ bytes value rest more s.
        (s.0, s.1 ++ more, onward.onward bytes (length s.0) s.1 more s.2, ap (λ (xs : List ℕ). xs ++ more) s.3 ∙ append_assoc s.0 rest more, s.4);
  }
