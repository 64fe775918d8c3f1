-- What is written is read back.
use Rattle.std.proofs.Common.{◌≡◌, ◌+◌, ◌≤◌, ◌<◌, ℕ, Bool, true, false, List, [], ◌++◌, length, nat_lt, Option, Some, None, Result, Ok, Err, if◌then◌else◌, refl, sym, ap, ◌∙◌, append_assoc, arith}
use Rattle.std.specs.Prelude.{IsErr}
use Rattle.std.proofs.lemmas.Bool.{lt-ltb}
use Rattle.std.proofs.lemmas.List.{append-nil, length-append}
use Rattle.wire.specs.Codec.{Codec, IsSound, IsSoundWhole, ◌>>=◌}
use Rattle.wire.specs.Formats.{number}
use Rattle.wire.specs.Whole.{ends_by, everything}
use Rattle.pn_values.specs.declared.mac.Mac.{Mac}
use Rattle.frame_codec.specs.declared.fault.FrameFault.{FrameFault}
use Rattle.frame_codec.specs.declared.fault.FrameFault.TheVariants.{TooLong, TooShort}
use Rattle.frame_codec.specs.declared.udp.Endpoint.{Endpoint}
use Rattle.frame_codec.specs.Meaning.{Content, RealTime, UdpDatagram, Meaning}
use Rattle.frame_codec.specs.Internet.{internet_header, internet_size, internet_way, packet, size_behind, udp, udp_header}
use Rattle.frame_codec.specs.Frame.{FitsFrame, IsReadBack, content_under, datagram, mac, tag_and_type, frame_bytes, frame_of, layers, ethernet, header_of, longest, padding_of, real_time, type_of, with_behind}
use Rattle.frame_codec.specs.Sendable.{CanBeSent, IsMac, IsRealTime, IsRealTimeOrNone, IsTag, carrying}
use Rattle.frame_codec.proofs.Fits.{DatagramsFit, frame_fits, layers_fit, header_fits}

-- what fits its formats is read back: a clause of the formats
abbrev pub FittingIsRead : Type 0
FittingIsRead = (meaning : Meaning) → FitsFrame meaning → layers.Fits meaning → IsReadBack meaning

pub back : FittingIsRead → DatagramsFit → (meaning : Meaning) → CanBeSent meaning → IsReadBack meaning
back reads fit meaning is = reads meaning (frame_fits meaning is.content) (layers_fit fit meaning is)

-- the case without anything after the frame
pub alone_back : FittingIsRead → DatagramsFit → (meaning : Meaning) → CanBeSent meaning → frame_of (frame_bytes meaning) ≡ Ok (with_behind meaning (padding_of meaning))
alone_back reads fit meaning is =
    let b = back reads fit meaning is in
    let short : length (frame_bytes meaning) + length {A = ℕ} [] ≤ longest meaning.tag = omega (arith, b.most) in
    ap frame_of (sym (append-nil (frame_bytes meaning))) ∙ b.again [] short ∙ ap (λ (more : List ℕ). Ok (with_behind meaning more)) (append-nil (padding_of meaning))

-- ---- real-time data is read only as real-time data

-- the type of the values of a format
abbrev ValueOf : {F A : Type 0} → Codec F A → Type 0
ValueOf {A = A} codec = A

-- if what was read is real-time data, so is what is made of it
made : {A H : Type 0} → (r : Result A FrameFault) (to : A → Content) (header : H) (make : H × Content → Meaning) → ((x : A) → IsRealTime (make (header, to x)).content)
    → IsRealTimeOrNone (((r >>= λ x. Ok (to x)) >>= λ y. Ok (header, y)) >>= λ x. Ok (make x))
made (Ok x) to header make is = is x
made (Err fault) to header make is = tt

handled : (long : Bool) (r : Result Meaning FrameFault) → IsRealTimeOrNone r → IsRealTimeOrNone (if long then Err TooLong else r)
handled true r is = tt
handled false r is = is

-- the Ethernet header at the front decides
under : (bytes rest : List ℕ) (destination source : Mac) (tag : Option ℕ) (frame_id : ℕ) (body : List ℕ)
    → ethernet.read bytes ≡ Ok (header_of (carrying destination source tag (RealTime frame_id body)), rest) → IsRealTimeOrNone (frame_of bytes)
unfolding frame_of layers real_time
under bytes rest destination source tag frame_id body e =
    rw e (handled (nat_lt (longest tag) (length bytes)) _
    (made {A = ℕ × List ℕ} {H = ValueOf ethernet} ((ends_by (number TooShort 2) (λ _. everything)).read rest) (λ x. RealTime x.0 x.1)
    (header_of (carrying destination source tag (RealTime frame_id body))) (λ x. record { destination = x.0.destination; source = x.0.source; tag = x.0.tag; content = x.1 }) (λ x. tt)))

-- a written frame begins with its Ethernet header
parts : IsSound ethernet → (meaning : Meaning) → frame_bytes meaning ≡ ethernet.write (header_of meaning) ((content_under (type_of meaning.content)).write meaning.content ++ padding_of meaning)
unfolding frame_bytes layers
parts sound meaning =
    let header = header_of meaning in
    let body = (content_under (type_of meaning.content)).write meaning.content in
    ap (λ (xs : List ℕ). xs ++ padding_of meaning) (sound.local header body) ∙ append_assoc (ethernet.write header []) body (padding_of meaning)
    ∙ sym (sound.local header (body ++ padding_of meaning))

-- the Ethernet header at the front of a frame is read
header_read : IsSound ethernet → (meaning : Meaning) → IsMac meaning.destination → IsMac meaning.source → IsTag meaning.tag
    → ethernet.read (frame_bytes meaning) ≡ Ok (header_of meaning, (content_under (type_of meaning.content)).write meaning.content ++ padding_of meaning)
header_read sound meaning one other tagged =
    let rest = (content_under (type_of meaning.content)).write meaning.content ++ padding_of meaning in
    ap (λ (xs : List ℕ). ethernet.read xs) (parts sound meaning) ∙ sound.again _ (header_of meaning) rest (sound.written (header_of meaning) rest (header_fits meaning one other tagged))

pub alone : IsSound ethernet → (destination source : Mac) (tag : Option ℕ) (frame_id : ℕ) (body : List ℕ) → IsMac destination → IsMac source → IsTag tag
    → IsRealTimeOrNone (frame_of (frame_bytes (carrying destination source tag (RealTime frame_id body))))
alone sound destination source tag frame_id body one other tagged =
    let meaning = carrying destination source tag (RealTime frame_id body) in
    under (frame_bytes meaning) _ destination source tag frame_id body (header_read sound meaning one other tagged)

-- ---- what does not fit

too_long : IsSound ethernet → (meaning : Meaning) → IsMac meaning.destination → IsMac meaning.source → IsTag meaning.tag → longest meaning.tag < length (frame_bytes meaning) → IsErr (frame_of (frame_bytes meaning))
unfolding frame_of
too_long sound meaning one other tagged many = rw (header_read sound meaning one other tagged, lt-ltb (longest meaning.tag) (length (frame_bytes meaning)) many) refl

datagram_size : (from to : Endpoint) (body : List ℕ) → length from.address ≡ 4 → length to.address ≡ 4 → datagram.size (UdpDatagram from to body) ≡ 28 + length body
unfolding datagram packet internet_header internet_size internet_way size_behind udp udp_header
datagram_size from to body first second = omega (arith, first, second)

tag_size : (tag : Option ℕ) → longest tag ≤ 1500 + tag_and_type.size (tag, 0x0800) + 12
unfolding tag_and_type
tag_size None = omega arith
tag_size (Some tag) = omega arith

frame_size : (destination source : Mac) (tag : Option ℕ) (from to : Endpoint) (body : List ℕ) → IsMac destination → IsMac source
    → layers.size (carrying destination source tag (UdpDatagram from to body)) ≡ 12 + tag_and_type.size (tag, 0x0800) + datagram.size (UdpDatagram from to body)
unfolding layers ethernet mac
frame_size destination source tag from to body one other = omega (arith, one, other)

longer : (meaning : Meaning) (most : ℕ) → most < length (layers.write meaning) → most < length (frame_bytes meaning)
unfolding frame_bytes
longer meaning most many = omega (arith, length-append (layers.write meaning) (padding_of meaning), many)

pub long : IsSound ethernet → IsSoundWhole layers → (destination source : Mac) (tag : Option ℕ) (from to : Endpoint) (body : List ℕ) → IsMac destination → IsMac source → IsTag tag
    → length from.address ≡ 4 → length to.address ≡ 4 → 1472 < length body
    → IsErr (frame_of (frame_bytes (carrying destination source tag (UdpDatagram from to body))))
long sound whole destination source tag from to body one other tagged first second many =
    let meaning = carrying destination source tag (UdpDatagram from to body) in
    too_long sound meaning one other tagged (longer meaning (longest tag) (omega (arith, whole.sized meaning, frame_size destination source tag from to body one other, datagram_size from to body first second, tag_size tag, many)))
