-- Fewer than 12 octets are not a PDU: its header has ten, and VarPartLen two.
use Rattle.std.proofs.Common.{◌≡◌, ◌<◌, ◌+◌, ℕ, List, length, Ok, Err, arith, ap, refl}
use Rattle.std.proofs.lemmas.Bool.{lt-ltb}
use Rattle.std.proofs.lemmas.List.{length-append}
use Rattle.wire.specs.Codec.{Codec}
use Rattle.wire.specs.Formats.{number, then_by, ◌⨾◌, unchecked}
use Rattle.pn_alarms.specs.declared.fault.AlarmFault.{AlarmFault}
use Rattle.pn_alarms.specs.declared.fault.AlarmFault.TheVariants as fault
use Rattle.pn_alarms.specs.declared.pdu.Header.{Header}
use Rattle.pn_alarms.specs.declared.pdu.PduType.{PduType}
use Rattle.pn_alarms.specs.Format.{flags_of, kind, header, pdu, pdu_of}
use Rattle.pn_alarms.proofs.Sound.{header_sound}

-- A value takes this many octets.
abbrev IsOf : {A : Type 0} → ℕ → Codec AlarmFault A → Type 0
IsOf {A = A} size codec = (bytes : List ℕ) (value : A) (rest : List ℕ) → codec.Spells bytes value rest → length bytes ≡ size + length rest

number_of : (missing : AlarmFault) (size : ℕ) → IsOf size (number missing size)
number_of missing size bytes value rest (front, long, e, v) = omega (arith, long, ap (λ (xs : List ℕ). length xs) e, length-append front rest)

behind : {A B : Type 0} (n m : ℕ) (first : Codec AlarmFault A) (second : A → Codec AlarmFault B) → IsOf n first → ((a : A) → IsOf m (second a))
    → IsOf (n + m) (then_by first second)
behind n m first second one other bytes value rest (mid, s, t) = omega (arith, one bytes value.0 mid s, other value.0 mid value.1 rest t)

kind_of_one : IsOf 1 kind
unfolding kind
kind_of_one bytes value rest (inner, e, s) = number_of fault.Short 1 bytes inner rest s

flags_of_one : (flags : ℕ) → IsOf 1 (unchecked {F = AlarmFault} fault.Short 1 flags)
flags_of_one flags bytes value rest (inner, e, s) = number_of fault.Short 1 bytes inner rest s

-- The parts of a header.
abbrev two : Codec AlarmFault ℕ
two = number fault.Short 2

abbrev flags : PduType → Codec AlarmFault (Unit {0})
flags k = unchecked fault.Short 1 (flags_of k)

abbrev after_kind : PduType → Codec AlarmFault (Unit {0} × (ℕ × ℕ))
after_kind k = flags k ⨾ two ⨾ two

two_of : IsOf 2 two
two_of = number_of fault.Short 2

after_kind_of_five : (k : PduType) → IsOf 5 (after_kind k)
after_kind_of_five k = behind 1 4 (flags k) (λ _. two ⨾ two) (flags_of_one (flags_of k)) (λ _. behind 2 2 two (λ _. two) two_of (λ _. two_of))

header_of_ten : IsOf 10 header
unfolding header
header_of_ten bytes value rest (inner, e, s) =
    behind 2 8 two (λ _. two ⨾ then_by kind after_kind) two_of
    (λ _. behind 2 6 two (λ _. then_by kind after_kind) two_of (λ _. behind 1 5 kind after_kind kind_of_one after_kind_of_five)) bytes inner rest s

-- With a complete header VarPartLen is incomplete.
pub without_length : (bytes : List ℕ) (value : Header) (rest : List ℕ) → length bytes < 12 → header.read bytes ≡ Ok (value, rest) → pdu_of bytes ≡ Err fault.Short
unfolding pdu_of pdu
without_length bytes value rest few e =
    let left = header_of_ten bytes value rest (header_sound.takes bytes value rest e) in
    rw (e, lt-ltb (length rest) 2 (omega (arith, few, left))) refl

-- Without a complete header its fault is the first.
pub without_header : (bytes : List ℕ) (f : AlarmFault) → header.read bytes ≡ Err f → pdu_of bytes ≡ Err f
unfolding pdu_of pdu
without_header bytes f e = rw e refl
