-- The format of PDUs is sound.
use Rattle.std.proofs.Common.{◌≡◌, ℕ, ◌<◌, ◌^◌, true, List, [], ◌++◌, length, Some, Ok, refl, ap, ◌∙◌}
use Rattle.std.proofs.lemmas.List.{append-nil}
use Rattle.wire.specs.Codec.{Codec, IsSound, IsOnward}
use Rattle.wire.specs.Formats.{big_bytes, number, ◌⨾◌}
use Rattle.wire.specs.Whole.{everything}
use Rattle.wire.proofs.Fields.{number_sound, number_onward}
use Rattle.wire.proofs.Joined.{then_by_sound, then_by_onward, seen_sound, seen_onward, unchecked_sound, unchecked_onward, framed_sound, framed_onward}
use Rattle.wire.proofs.Handled.{checked_sound, checked_onward, named_sound, named_onward}
use Rattle.wire.proofs.Wholes.{everything_sound, loose_sound, loose_behind}
use Rattle.pn_alarms.specs.declared.fault.AlarmFault.{AlarmFault}
use Rattle.pn_alarms.specs.declared.fault.AlarmFault.TheVariants as fault
use Rattle.pn_alarms.specs.declared.pdu.PduType.{PduType}
use Rattle.pn_alarms.specs.declared.pdu.PduType.TheVariants.{Data, Nack, Ack, Error}
use Rattle.pn_alarms.specs.declared.pdu.Header.{Header}
use Rattle.pn_alarms.specs.Format.{Said, octet_of, kind_of, flags_of, is_long, kind, header, pdu, IsPdu, pdu_of, pdu_bytes}

-- Two formats, one after the other.
both : {A B : Type 0} (first : Codec AlarmFault A) (second : Codec AlarmFault B) → IsSound first → IsSound second → IsSound (first ⨾ second)
both first second one other = then_by_sound first (λ _. second) one (λ _. other)

both_onward : {A B : Type 0} (first : Codec AlarmFault A) (second : Codec AlarmFault B) → IsOnward first → IsOnward second → IsOnward (first ⨾ second)
both_onward first second one other = then_by_onward first (λ _. second) one (λ _. other)

two_sound : IsSound (number fault.Short 2)
two_sound = number_sound fault.Short 2

two_onward : IsOnward (number fault.Short 2)
two_onward = number_onward fault.Short 2

kind_is : (k : PduType) → kind_of (octet_of k) ≡ Some k
kind_is Data = refl
kind_is Nack = refl
kind_is Ack = refl
kind_is Error = refl

kind_sound : IsSound kind
unfolding kind
kind_sound = named_sound kind_of octet_of fault.Type _ kind_is (number_sound fault.Short 1)

kind_onward : IsOnward kind
unfolding kind
kind_onward = named_onward kind_of octet_of fault.Type _ (number_onward fault.Short 1)

pub header_sound : IsSound header
unfolding header
header_sound = seen_sound _ _ _ (λ _. refl)
    (both _ _ two_sound (both _ _ two_sound (then_by_sound _ _ kind_sound (λ k. both _ _ (unchecked_sound fault.Short 1 (flags_of k)) (both _ _ two_sound two_sound)))))

header_onward : IsOnward header
unfolding header
header_onward = seen_onward _ (λ (h : Header). (h.destination, (h.source, (h.kind, (tt, (h.send_number, h.ack_number)))))) _
    (both_onward _ _ two_onward (both_onward _ _ two_onward (then_by_onward _ _ kind_onward (λ k. both_onward _ _ (unchecked_onward fault.Short 1 (flags_of k)) (both_onward _ _ two_onward two_onward)))))

pdu_sound : IsSound pdu
unfolding pdu
pdu_sound = checked_sound _ fault.Cause _ (seen_sound _ _ _ (λ _. refl) (both _ _ header_sound (framed_sound _ _ _ two_sound everything_sound)))

pdu_onward : IsOnward pdu
unfolding pdu
pdu_onward = checked_onward _ fault.Cause _ (seen_onward _ (λ (s : Said). (s.header, s.body)) _ (both_onward _ _ header_onward (framed_onward _ fault.Short everything two_onward)))

-- ---- reading

pub pdu_takes : (bytes : List ℕ) (meaning : Said) → pdu_of bytes ≡ Ok meaning → IsPdu bytes meaning
unfolding pdu_of IsPdu
pdu_takes bytes meaning e = (loose_sound pdu pdu_sound).takes bytes meaning e

pub pdu_again : (bytes : List ℕ) (meaning : Said) → IsPdu bytes meaning → pdu_of bytes ≡ Ok meaning
unfolding pdu_of IsPdu
pdu_again bytes meaning s = (loose_sound pdu pdu_sound).again bytes meaning s

pub pdu_behind : (bytes more : List ℕ) (meaning : Said) → IsPdu bytes meaning → IsPdu (bytes ++ more) meaning
unfolding IsPdu
pdu_behind bytes more meaning s = loose_behind pdu bytes meaning more pdu_onward s

-- ---- writing

-- The header, VarPartLen, and the body.
pub pdu_parts : (meaning : Said) → pdu_bytes meaning ≡ header.write meaning.header [] ++ (big_bytes 2 (length meaning.body) ++ meaning.body)
unfolding pdu_bytes pdu
pdu_parts meaning =
    header_sound.local meaning.header (big_bytes 2 (length meaning.body) ++ (meaning.body ++ []))
    ∙ ap (λ (xs : List ℕ). header.write meaning.header [] ++ (big_bytes 2 (length meaning.body) ++ xs)) (append-nil meaning.body)

pub pdu_spelled : (meaning : Said) → is_long meaning.header.kind (length meaning.body) ≡ true → header.Fits meaning.header → length meaning.body < 256 ^ 2 → IsPdu (pdu_bytes meaning) meaning
unfolding IsPdu pdu_bytes pdu
pdu_spelled meaning long front few = (loose_sound pdu pdu_sound).written meaning (long, (front, (few, tt)))
