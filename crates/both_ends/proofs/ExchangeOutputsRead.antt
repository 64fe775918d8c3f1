-- What is read of a written frame, whatever it carries: it is between the same stations, and carries the same kind of
-- content.
use Rattle.std.proofs.Common.{◌≡◌, ℕ, Bool, true, false, cond, nat_lt, List, [], ◌++◌, length, drop, Option, Some, None, Result, Ok, Err, if◌then◌else◌, refl, sym, ap, subst, ◌∙◌, append_assoc, arith}
use Rattle.wire.specs.Codec.{Codec, IsSound, ◌>>=◌}
use Rattle.wire.specs.Formats.{big_bytes, big_number}
use Rattle.frame_codec.specs.declared.fault.FrameFault.{FrameFault}
use Rattle.frame_codec.specs.declared.fault.FrameFault.TheVariants.{TooLong, TooShort}
use Rattle.frame_codec.specs.Meaning.{Content, RealTime, ArpPacket, Meaning, IsOther}
use Rattle.frame_codec.specs.Frame.{arp, content_under, datagram, datagram_in, ethernet, frame_bytes, frame_of, header_of, layers, longest, mac, padding_of, real_time, tag_and_type, type_of}
use Rattle.frame_codec.specs.declared.arp.Arp.{Arp}
use Rattle.frame_codec.specs.Arp.{arp_packet}
use Rattle.frame_codec.specs.Internet.{packet}
use Rattle.wire.specs.Whole.{loose}
use Rattle.frame_codec.specs.Sendable.{IsMac, IsTag}

-- the type of the values of a format
abbrev ValueOf : {F A : Type 0} → Codec F A → Type 0
ValueOf {A = A} codec = A

abbrev pub EthernetHeader : Type 0
EthernetHeader = ValueOf ethernet

-- ---- the Ethernet header

tag_fits : (tag : Option ℕ) (content : Content) → IsTag tag → tag_and_type.Fits (tag, type_of content)
unfolding tag_and_type
tag_fits None (RealTime frame_id body) is = (omega arith, refl)
tag_fits (Some tag) (RealTime frame_id body) is = (omega arith, (omega (arith, is), omega arith))
tag_fits None other is = (omega arith, refl)
tag_fits (Some tag) other is = (omega arith, (omega (arith, is), omega arith))

header_fits : (meaning : Meaning) → IsMac meaning.destination → IsMac meaning.source → IsTag meaning.tag → ethernet.Fits (header_of meaning)
unfolding ethernet mac
header_fits meaning destination source tag = (destination, (source, tag_fits meaning.tag meaning.content tag))

-- the octets after the Ethernet header
abbrev pub rest_of : Meaning → List ℕ
rest_of meaning = (content_under (type_of meaning.content)).write meaning.content ++ padding_of meaning

parts : IsSound ethernet → (meaning : Meaning) → frame_bytes meaning ≡ ethernet.write (header_of meaning) (rest_of meaning)
unfolding frame_bytes layers
parts sound meaning =
    let header = header_of meaning in
    let body = (content_under (type_of meaning.content)).write meaning.content in
    ap (λ (xs : List ℕ). xs ++ padding_of meaning) (sound.local header body) ∙ append_assoc (ethernet.write header []) body (padding_of meaning)
    ∙ sym (sound.local header (rest_of meaning))

header_read : IsSound ethernet → (meaning : Meaning) → IsMac meaning.destination → IsMac meaning.source → IsTag meaning.tag
    → ethernet.read (frame_bytes meaning) ≡ Ok (header_of meaning, rest_of meaning)
header_read sound meaning one other tagged =
    ap (λ (xs : List ℕ). ethernet.read xs) (parts sound meaning)
    ∙ sound.again _ (header_of meaning) (rest_of meaning) (sound.written (header_of meaning) (rest_of meaning) (header_fits meaning one other tagged))

-- ---- the frame

-- what was read is between these stations, and its content is what follows the Ethernet header
abbrev pub IsReadAs : Meaning → List ℕ → Result Meaning FrameFault → Type 0
IsReadAs meaning rest (Ok found) =
    (found.destination ≡ meaning.destination) × (found.source ≡ meaning.source) × ((content_under (type_of meaning.content)).read rest ≡ Ok found.content)
IsReadAs meaning rest (Err fault) = Unit {0}

abbrev headed : EthernetHeader → Result Content FrameFault → Result (EthernetHeader × Content) FrameFault
headed header r = r >>= λ y. Ok (header, y)

made : (meaning : Meaning) (rest : List ℕ) (r : Result Content FrameFault) → (content_under (type_of meaning.content)).read rest ≡ r
    → IsReadAs meaning rest (headed (header_of meaning) r >>= λ x. Ok (record { destination = x.0.destination; source = x.0.source; tag = x.0.tag; content = x.1 }))
made meaning rest (Ok content) e = (refl, refl, e)
made meaning rest (Err fault) e = tt

handled : (meaning : Meaning) (rest : List ℕ) (long : Bool) (r : Result Meaning FrameFault) → IsReadAs meaning rest r → IsReadAs meaning rest (if long then Err TooLong else r)
handled meaning rest true r is = tt
handled meaning rest false r is = is

-- the Ethernet header at the front decides
under : (meaning : Meaning) (bytes rest : List ℕ) → ethernet.read bytes ≡ Ok (header_of meaning, rest) → IsReadAs meaning rest (frame_of bytes)
unfolding frame_of layers
under meaning bytes rest e =
    rw e (handled meaning rest (nat_lt (longest meaning.tag) (length bytes)) _ (made meaning rest ((content_under (type_of meaning.content)).read rest) refl))

pub reads_as : IsSound ethernet → (meaning : Meaning) → IsMac meaning.destination → IsMac meaning.source → IsTag meaning.tag
    → IsReadAs meaning (rest_of meaning) (frame_of (frame_bytes meaning))
reads_as sound meaning one other tagged = under meaning (frame_bytes meaning) (rest_of meaning) (header_read sound meaning one other tagged)

-- ---- the contents

same_ok : (x y : Content) → ◌≡◌ {A = Result Content FrameFault} (Ok x) (Ok y) → x ≡ y
same_ok x y e = cc

-- a packet of ARP is read as one, and a datagram as one, if they are read
other_made : {A : Type 0} (r : Result A FrameFault) (to : A → Content) (content : Content) → ((x : A) → IsOther (to x)) → (r >>= λ x. Ok (to x)) ≡ Ok content → IsOther content
other_made (Ok x) to content is e = subst (λ (c : Content). IsOther c) (same_ok (to x) content e) (is x)
other_made (Err fault) to content is e = absurd cc

pub arp_other : (bytes : List ℕ) (content : Content) → arp.read bytes ≡ Ok content → IsOther content
unfolding arp
arp_other bytes content e = other_made {A = Arp} ((loose arp_packet).read bytes) ArpPacket content (λ x. tt) e

pub datagram_other : (bytes : List ℕ) (content : Content) → datagram.read bytes ≡ Ok content → IsOther content
unfolding datagram
datagram_other bytes content e =
    other_made {A = ValueOf packet} ((loose packet).read bytes) (λ x. datagram_in x) content (λ x. tt) e

-- the octets of a FrameID and those after them
abbrev number_if : ℕ → List ℕ → Bool → Result (ℕ × List ℕ) FrameFault
number_if frame_id behind b = cond b (Err TooShort) (Ok (big_number 2 (big_bytes 2 frame_id ++ behind), drop 2 (big_bytes 2 frame_id ++ behind)))

abbrev with_rest : Result (ℕ × List ℕ) FrameFault → Result (ℕ × List ℕ) FrameFault
with_rest read = read >>= λ x. Ok (x.0, x.1)

abbrev as_content : Result (ℕ × List ℕ) FrameFault → Result Content FrameFault
as_content read = read >>= λ x. Ok (RealTime x.0 x.1)

real_time_if : (frame_id : ℕ) (behind : List ℕ) (content : Content) (b : Bool) → as_content (with_rest (number_if frame_id behind b)) ≡ Ok content
    → content ≡ RealTime (big_number 2 (big_bytes 2 frame_id)) behind
real_time_if frame_id behind content true e = absurd cc
real_time_if frame_id behind content false e = sym (same_ok (RealTime (big_number 2 (big_bytes 2 frame_id)) behind) content e)

-- real-time data is read with all octets after the two of its FrameID
pub real_time_is : (frame_id : ℕ) (behind : List ℕ) (content : Content) → real_time.read (big_bytes 2 frame_id ++ behind) ≡ Ok content
    → content ≡ RealTime (big_number 2 (big_bytes 2 frame_id)) behind
unfolding real_time
real_time_is frame_id behind content e = real_time_if frame_id behind content (nat_lt (length (big_bytes 2 frame_id ++ behind)) 2) e
