-- Formats that keep octets as a part of the value are sound.
use Rattle.std.proofs.Common.{◌≡◌, ℕ, ◌-◌, List, [], ◌++◌, length, Ok, refl, sym, ap, subst, ◌∙◌, append_assoc, arith}
use Rattle.std.proofs.lemmas.List.{append-nil, length-append, take_at, take-append-le}
use Rattle.wire.specs.Codec.{Codec, Whole, IsSound, IsSoundWhole, IsOnward, ◌>>=◌}
use Rattle.wire.specs.Formats.{raw}
use Rattle.wire.specs.Kept.{front_of, kept, cut, within}
use Rattle.wire.proofs.Fields.{bind_ok, ok_is, raw_sound}

-- the front of a list before its end
pub front_at : (front rest : List ℕ) → front_of (front ++ rest) rest ≡ front
front_at front rest = take_at front rest (length (front ++ rest) - length rest) (omega (arith, length-append front rest))

-- the front stays the same with more at the end
pub front_more : (bytes rest more : List ℕ) → front_of (bytes ++ more) (rest ++ more) ≡ front_of bytes rest
front_more bytes rest more =
    let k : length (bytes ++ more) - length (rest ++ more) ≡ length bytes - length rest = omega (arith, length-append bytes more, length-append rest more) in
    rw k (take-append-le (length bytes - length rest) bytes more (omega arith))

module _ {F A : Type 0} (codec : Codec F A) where
  pub kept_sound : IsSound codec → IsSound (kept codec)
  kept_sound sound = record {
    takes = λ bytes value rest e.
        let a = bind_ok (codec.read bytes) (λ x. Ok ((x.0, front_of bytes x.1), x.1)) (value, rest) e in
        subst (λ (y : (A × List ℕ) × List ℕ). (kept codec).Spells bytes y.0 y.1) (ok_is {F = F} ((a.0.0, front_of bytes a.0.1), a.0.1) (value, rest) a.2)
        (sound.takes bytes a.0.0 a.0.1 a.1, refl);
    again = λ bytes value rest s. rw (sound.again bytes value.0 rest s.0, s.1) refl;
    written = λ value rest fits.
        (sound.written value.0 rest fits.0, fits.1 ∙ sym (ap (λ (xs : List ℕ). front_of xs rest) (sound.local value.0 rest) ∙ front_at (codec.write value.0 []) rest));
    local = λ value rest. sound.local value.0 rest;
    sized = λ value rest. sound.sized value.0 rest;
  }

  pub kept_onward : IsOnward codec → IsOnward (kept codec)
  kept_onward onward = record {
    onward = λ bytes value rest more s. (onward.onward bytes value.0 rest more s.0, s.1 ∙ sym (front_more bytes rest more));
  }

module _ {F A : Type 0} (short : F) (size : ℕ) (whole : Whole F A) where
  pub cut_sound : IsSoundWhole whole → IsSound (cut short size whole)
  cut_sound inner = record {
    takes = λ bytes value rest e.
        let a = bind_ok ((raw short size).read bytes) (λ x. whole.read x.0 >>= λ v. Ok (v, x.1)) (value, rest) e in
        let b = bind_ok (whole.read a.0.0) (λ v. Ok (v, a.0.1)) (value, rest) a.2 in
        let front = (raw_sound short size).takes bytes a.0.0 a.0.1 a.1 in
        subst (λ (y : A × List ℕ). (cut short size whole).Spells bytes y.0 y.1) (ok_is {F = F} (b.0, a.0.1) (value, rest) b.2)
        (a.0.0, front.0, front.1, inner.takes a.0.0 b.0 b.1);
    again = λ bytes value rest s. rw ((raw_sound short size).again bytes s.0 rest (s.1, s.2), inner.again s.0 value s.3) refl;
    written = λ value rest fits. (whole.write value, inner.sized value ∙ fits.0, refl, inner.written value fits.1);
    local = λ value rest. ap (λ (xs : List ℕ). xs ++ rest) (sym (append-nil (whole.write value)));
    sized = λ value rest. omega (arith, inner.sized value, length-append (whole.write value) rest);
  }

  -- this holds for any inner format
  pub cut_onward : IsOnward (cut short size whole)
  cut_onward = record {
    onward = λ bytes value rest more s. (s.0, s.1, ap (λ (xs : List ℕ). xs ++ more) s.2 ∙ append_assoc s.0 rest more, s.3);
  }

module _ {F A B : Type 0} (codec : Codec F (A × List ℕ)) (whole : A → Whole F B) where
  pub within_sound : IsSound codec → ((value : A) → IsSoundWhole (whole value)) → IsSound (within codec whole)
  within_sound sound inner = record {
    takes = λ bytes value rest e.
        let a = bind_ok (codec.read bytes) (λ x. (whole x.0.0).read x.0.1 >>= λ v. Ok ((x.0.0, v), x.1)) (value, rest) e in
        let b = bind_ok ((whole a.0.0.0).read a.0.0.1) (λ v. Ok ((a.0.0.0, v), a.0.1)) (value, rest) a.2 in
        subst (λ (y : (A × B) × List ℕ). (within codec whole).Spells bytes y.0 y.1) (ok_is {F = F} ((a.0.0.0, b.0), a.0.1) (value, rest) b.2)
        (a.0.0.1, sound.takes bytes a.0.0 a.0.1 a.1, (inner a.0.0.0).takes a.0.0.1 b.0 b.1);
    again = λ bytes value rest s.
        rw (sound.again bytes (value.0, s.0) rest s.1, (inner value.0).again s.0 value.1 s.2) refl;
    written = λ value rest fits.
        ((whole value.0).write value.1, sound.written (value.0, (whole value.0).write value.1) rest fits.0, (inner value.0).written value.1 fits.1);
    local = λ value rest. sound.local (value.0, (whole value.0).write value.1) rest;
    sized = λ value rest. sound.sized (value.0, (whole value.0).write value.1) rest;
  }

  pub within_onward : IsOnward codec → IsOnward (within codec whole)
  within_onward onward = record {
    onward = λ bytes value rest more s. (s.0, onward.onward bytes (value.0, s.0) rest more s.1, s.2);
  }
