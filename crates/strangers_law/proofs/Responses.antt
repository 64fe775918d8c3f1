-- The activity of a response, read at its place.
use Rattle.std.proofs.Common.{◌≡◌, ◌+◌, ◌*◌, ℕ, List, [], ◌∷◌, ◌++◌, length, take, append_assoc, length-append, Option, Some, None, option_map, sym, ap, subst, ◌∙◌, arith}
use Rattle.byteorder.specs.Endian.{big_number}
use Rattle.rpc_core.specs.declared.header.CallHeader.{CallHeader}
use Rattle.rpc_core.specs.declared.response.Status.{Status}
use Rattle.rpc_core.specs.Header.{head, header_of, names, opening}
use Rattle.rpc_core.specs.Pdu.{cut_off, pdu}
use Rattle.rpc_core.specs.Response.{Answered, IsResponse, response}
use Rattle.octets_law.specs.Octets.{activity_of}
use Rattle.octets_law.proofs.CallPlaces.{skip, three_octets}
use Rattle.octets_law.proofs.CallReads.{name_in, name_parts}
use Rattle.octets_law.proofs.SetFrames.{take_front}
use Rattle.octets_law.proofs.SetReads.{one_octet}

-- The activity, if the octets before it have these lengths.
pub placed : (version type flags serial representation third names activity rest : List ℕ) → length version ≡ 1 → length type ≡ 1 → length flags ≡ 1
    → length serial ≡ 1 → length representation ≡ 1 → length third ≡ 3 → length names ≡ 32 → length activity ≡ 16
    → activity_of (version ++ (type ++ (flags ++ (serial ++ (representation ++ (third ++ (names ++ (activity ++ rest))))))))
    ≡ name_in (big_number 1 representation) activity
placed version type flags serial representation third names activity rest p q r s t u n a =
    one_octet (λ l. activity_of (l ++ (type ++ (flags ++ (serial ++ (representation ++ (third ++ (names ++ (activity ++ rest)))))))) ≡ name_in (big_number 1 representation) activity)
    version p (λ v.
    one_octet (λ l. activity_of (v ∷ (l ++ (flags ++ (serial ++ (representation ++ (third ++ (names ++ (activity ++ rest)))))))) ≡ name_in (big_number 1 representation) activity)
    type q (λ w.
    one_octet (λ l. activity_of (v ∷ w ∷ (l ++ (serial ++ (representation ++ (third ++ (names ++ (activity ++ rest))))))) ≡ name_in (big_number 1 representation) activity)
    flags r (λ x.
    one_octet (λ l. activity_of (v ∷ w ∷ x ∷ (l ++ (representation ++ (third ++ (names ++ (activity ++ rest)))))) ≡ name_in (big_number 1 representation) activity)
    serial s (λ y.
    one_octet (λ l. activity_of (v ∷ w ∷ x ∷ y ∷ (l ++ (third ++ (names ++ (activity ++ rest))))) ≡ name_in (big_number 1 l) activity)
    representation t (λ z.
    three_octets (λ l. activity_of (v ∷ w ∷ x ∷ y ∷ z ∷ (l ++ (names ++ (activity ++ rest)))) ≡ name_in (big_number 1 (z ∷ [])) activity)
    third u (λ b c d.
    ap (λ l. name_in (z * 1 + 0) (take 16 l)) (skip 0 32 names (activity ++ rest) n)
    ∙ ap (name_in (z * 1 + 0)) (subst (λ n. take n (activity ++ rest) ≡ activity) a (take_front activity rest))))))))

pub two_names : (object interface : List ℕ) → length object ≡ 16 → length interface ≡ 16 → length (object ++ interface) ≡ 32
two_names object interface o i = length-append object interface ∙ omega arith

header_known : (blocks : Option (List ℕ)) (header : CallHeader) (status : Status) (maximum : ℕ) (meaning : Answered)
    → option_map (λ (blocks : List ℕ). let a : Answered = record { header = header; status = status; maximum_count = maximum; blocks = blocks } in a) blocks ≡ Some meaning
    → header ≡ meaning.header
header_known (Some blocks) header status maximum meaning e = cc
header_known None header status maximum meaning e = absurd cc

pub response_activity : (bytes : List ℕ) (meaning : Answered) → IsResponse bytes meaning → activity_of bytes ≡ meaning.header.activity
unfolding IsResponse response pdu cut_off head opening names
response_activity bytes meaning whole =
    let spells = whole.1.2 in
    let parts = whole.1.0 in
    let tests = spells.1 in
    let headed = tests.1.1.1.1.1.1 in
    let opens = headed.2.1 in
    let version = opens.2.1 in
    let packet_type = opens.2.2.1 in
    let flags = opens.2.2.2.1 in
    let serial = opens.2.2.2.2.1 in
    let representation = opens.2.2.2.2.2.1 in
    let third = opens.2.2.2.2.2.2 in
    let read : headed.0.0.representation ≡ big_number 1 representation.0 = ap (λ o. o.representation) (sym opens.1) ∙ representation.3 in
    let named = headed.2.2.1 in
    let object = name_parts headed.0.0.representation _ _ _ named.2.1 in
    let server = name_parts headed.0.0.representation _ _ _ named.2.2.1 in
    let activity = name_parts headed.0.0.representation _ _ _ named.2.2.2 in
    ap activity_of (version.2 ∙ ap (λ l. version.0 ++ l) (packet_type.2 ∙ ap (λ l. packet_type.0 ++ l) (flags.2 ∙ ap (λ l. flags.0 ++ l)
    (serial.2.1 ∙ ap (λ l. serial.0 ++ l) (representation.2 ∙ ap (λ l. representation.0 ++ l) (third.2.1 ∙ ap (λ l. third.0 ++ l)
    (object.is ∙ ap (λ l. object.octets ++ l) (server.is ∙ ap (λ l. server.octets ++ l) activity.is) ∙ sym (append_assoc object.octets server.octets _))))))))
    ∙ placed version.0 packet_type.0 flags.0 serial.0 representation.0 third.0 (object.octets ++ server.octets) activity.octets _ version.1 packet_type.1 flags.1 serial.2.0 representation.1
    third.2.0 (two_names object.octets server.octets object.wide server.wide) activity.wide
    ∙ sym (ap (λ (h : CallHeader). h.activity) (sym (header_known parts.1.1.blocks (header_of parts.0) parts.1.0 parts.1.1.maximum meaning whole.1.1)) ∙ ap (λ h. h.names.activity) (sym headed.1)
    ∙ ap (λ n. n.activity) (sym named.1) ∙ activity.value_is ∙ ap (λ r. name_in r activity.octets) read)
