-- The octets of a cyclic frame after its FrameID.
use Rattle.std.proofs.Common.{◌≡◌, inl, inr, ℕ, ◌+◌, ◌^◌, ◌<◌, ◌≤◌, List, [], ◌++◌, length, take, drop, Result, Ok, Err, refl, sym, ap, subst, ◌∙◌, arith}
use Rattle.std.specs.Prelude.{MatchResult}
use Rattle.std.proofs.lemmas.Bool.{cases_lt}
use Rattle.std.proofs.lemmas.List.{length-append, length-take-le, length-drop, take-append-drop}
use Rattle.wire.specs.Codec.{IsSound, Gives}
use Rattle.wire.specs.Formats.{number, big_number}
use Rattle.wire.proofs.Fields.{raw_sound, number_sound}
use Rattle.wire.proofs.Joined.{then_by_sound, seen_sound}
use Rattle.wire.proofs.Wholes.{loose_sound}
use Rattle.cyclic_data.specs.declared.tail.ShortFrame.{ShortFrame}
use Rattle.cyclic_data.specs.declared.tail.CyclicTail.{CyclicTail}
use Rattle.cyclic_data.specs.Tail.{short, cyclic_tail, cyclic_frame, IsCyclic, cyclic_of, cyclic_bytes}

tail_sound : IsSound cyclic_tail
unfolding cyclic_tail
tail_sound = seen_sound _ _ _ (λ _. refl) (then_by_sound _ _ (number_sound short 2) (λ _. then_by_sound _ _ (number_sound short 1) (λ _. number_sound short 1)))

frame_sound : (n : ℕ) → IsSound (cyclic_frame n)
unfolding cyclic_frame
frame_sound n = then_by_sound _ _ (raw_sound short n) (λ _. tail_sound)

pub cyclic_takes : (n : ℕ) (bytes : List ℕ) (value : List ℕ × CyclicTail) → cyclic_of n bytes ≡ Ok value → IsCyclic n bytes value
cyclic_takes n bytes value e = (loose_sound (cyclic_frame n) (frame_sound n)).takes bytes value e

pub cyclic_again : (n : ℕ) (bytes : List ℕ) (value : List ℕ × CyclicTail) → IsCyclic n bytes value → cyclic_of n bytes ≡ Ok value
cyclic_again n bytes value s = (loose_sound (cyclic_frame n) (frame_sound n)).again bytes value s

-- ---- the length

number_size : (size : ℕ) (bytes rest : List ℕ) (value : ℕ) → (number short size).Spells bytes value rest → length bytes ≡ size + length rest
number_size size bytes rest value s =
    let e : length bytes ≡ length (s.0 ++ rest) = ap (λ (xs : List ℕ). length xs) s.2 in
    omega (arith, e, length-append s.0 rest, s.1)

tail_size : (bytes rest : List ℕ) (tail : CyclicTail) → cyclic_tail.Spells bytes tail rest → length bytes ≡ 4 + length rest
unfolding cyclic_tail
tail_size bytes rest tail s =
    let parts = s.2 in
    let one = number_size 2 bytes parts.0 s.0.0 parts.1 in
    let two = number_size 1 parts.0 parts.2.0 s.0.1.0 parts.2.1 in
    let three = number_size 1 parts.2.0 rest s.0.1.1 parts.2.2 in
    omega (arith, one, two, three)

pub cyclic_whole : (n : ℕ) (bytes : List ℕ) (value : List ℕ × CyclicTail) → IsCyclic n bytes value → n + 4 ≤ length bytes
unfolding cyclic_frame
cyclic_whole n bytes value s =
    let parts = s.1 in
    let front : length bytes ≡ length (value.0 ++ parts.0) = ap (λ (xs : List ℕ). length xs) parts.1.1 in
    let behind = tail_size parts.0 s.0 value.1 parts.2 in
    omega (arith, front, behind, length-append value.0 parts.0, parts.1.0)

pub cyclic_size : (n : ℕ) (bytes : List ℕ) (value : List ℕ × CyclicTail) → IsCyclic n bytes value → length value.0 ≡ n
unfolding cyclic_frame
cyclic_size n bytes value s = s.1.1.0

-- A number that is there is read.
number_there : (size : ℕ) (bytes : List ℕ) → size ≤ length bytes → (number short size).Spells bytes (big_number size (take size bytes)) (drop size bytes)
number_there size bytes long = (take size bytes, length-take-le size bytes long, sym (take-append-drop size bytes), refl)

pub cyclic_there : (n : ℕ) (bytes : List ℕ) → n + 4 ≤ length bytes → (value : List ℕ × CyclicTail) × IsCyclic n bytes value
unfolding cyclic_frame cyclic_tail
cyclic_there n bytes long =
    let one : List ℕ = drop n bytes in
    let two : List ℕ = drop 2 one in
    let three : List ℕ = drop 1 two in
    let a = length-drop n bytes in
    let b = length-drop 2 one in
    let c = length-drop 1 two in
    let tail : CyclicTail = record { counter = big_number 2 (take 2 one); data_status = record { 0 = big_number 1 (take 1 two) }; transfer_status = big_number 1 (take 1 three) } in (
      (take n bytes, tail),
      (
        drop 1 three,
        (
          one,
          (length-take-le n bytes (omega arith), sym (take-append-drop n bytes)),
          (
            (tail.counter, (tail.data_status.0, tail.transfer_status)),
            refl,
            (two, number_there 2 one (omega (arith, a)), (three, number_there 1 two (omega (arith, a, b)), number_there 1 three (omega (arith, a, b, c)))),
          ),
        ),
      ),
    )

pub read_short : {X : Type 0} (view : X → List ℕ × CyclicTail) (n : ℕ) (bytes : List ℕ) (r : Result X ShortFrame) → Gives view r (cyclic_of n bytes)
    → MatchResult r (λ _. n + 4 ≤ length bytes) (λ _. length bytes < n + 4)
read_short view n bytes (Ok x) given = cyclic_whole n bytes (view x) (cyclic_takes n bytes (view x) given)
read_short view n bytes (Err fault) given = elim (cases_lt (length bytes) (n + 4)) as (λ _. length bytes < n + 4) [
  | inl below ↦ below
  | inr long ↦
      let there = cyclic_there n bytes long in
      let e : ◌≡◌ {A = Result (List ℕ × CyclicTail) ShortFrame} (Err fault) (Ok there.0) = sym given ∙ cyclic_again n bytes there.0 there.1 in absurd cc
]

-- ---- the octets that are written

pub written_again : (octets : List ℕ) (tail : CyclicTail) → cyclic_tail.Fits tail → (rest : List ℕ)
    → cyclic_of (length octets) (cyclic_bytes octets tail [] ++ rest) ≡ Ok (octets, tail)
unfolding cyclic_frame
written_again octets tail fits rest =
    let sound = frame_sound (length octets) in
    let spelled = sound.written (octets, tail) rest (refl, fits) in
    subst (λ (bytes : List ℕ). cyclic_of (length octets) bytes ≡ Ok (octets, tail)) (sound.local (octets, tail) rest)
    (cyclic_again (length octets) (cyclic_bytes octets tail rest) (octets, tail) (rest, spelled))
