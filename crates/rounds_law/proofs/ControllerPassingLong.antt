-- A frame of real-time data that is too long is not read.
use Rattle.std.proofs.Common.{◌≡◌, ◌+◌, ◌<◌, ℕ, List, [], ◌++◌, length, Some, Ok, Err, refl, sym, ap, ◌∙◌, append_assoc, arith}
use Rattle.std.proofs.lemmas.Bool.{lt-ltb}
use Rattle.std.proofs.lemmas.List.{length-append}
use Rattle.pn_values.specs.declared.mac.Mac.{Mac}
use Rattle.wire.specs.Codec.{IsSound, IsSoundWhole}
use Rattle.frame_codec.specs.declared.fault.FrameFault.TheVariants.{TooLong}
use Rattle.frame_codec.specs.Meaning.{Meaning, RealTime}
use Rattle.frame_codec.specs.Frame.{content_under, ethernet, frame_bytes, frame_of, header_of, layers, longest}
use Rattle.frame_codec.specs.Frame.{mac, padding_of, profinet, real_time, tag_and_type, type_of}
use Rattle.frame_codec.specs.Sendable.{IsMac, carrying}

tag_fits : (tag : ℕ) → tag < 65536 → tag_and_type.Fits (Some tag, profinet)
unfolding tag_and_type
tag_fits tag is = (omega arith, (omega (arith, is), omega arith))

header_fits : (destination source : Mac) (tag frame_id : ℕ) (body : List ℕ) → IsMac destination → IsMac source → tag < 65536
    → ethernet.Fits (header_of (carrying destination source (Some tag) (RealTime frame_id body)))
unfolding ethernet mac
header_fits destination source tag frame_id body one other tagged = (one, (other, tag_fits tag tagged))

-- A written frame begins with its Ethernet header.
parts : IsSound ethernet → (meaning : Meaning) → frame_bytes meaning
    ≡ ethernet.write (header_of meaning) ((content_under (type_of meaning.content)).write meaning.content ++ padding_of meaning)
unfolding frame_bytes layers
parts sound meaning =
    let header = header_of meaning in
    let body = (content_under (type_of meaning.content)).write meaning.content in
    ap (λ (xs : List ℕ). xs ++ padding_of meaning) (sound.local header body) ∙ append_assoc (ethernet.write header []) body (padding_of meaning)
    ∙ sym (sound.local header (body ++ padding_of meaning))

header_read : IsSound ethernet → (meaning : Meaning) → ethernet.Fits (header_of meaning)
    → ethernet.read (frame_bytes meaning) ≡ Ok (header_of meaning, (content_under (type_of meaning.content)).write meaning.content ++ padding_of meaning)
header_read sound meaning fits =
    let rest = (content_under (type_of meaning.content)).write meaning.content ++ padding_of meaning in
    ap (λ (xs : List ℕ). ethernet.read xs) (parts sound meaning) ∙ sound.again _ (header_of meaning) rest (sound.written (header_of meaning) rest fits)

too_long : IsSound ethernet → (meaning : Meaning) → ethernet.Fits (header_of meaning) → longest meaning.tag < length (frame_bytes meaning)
    → frame_of (frame_bytes meaning) ≡ Err TooLong
unfolding frame_of
too_long sound meaning fits many = rw (header_read sound meaning fits, lt-ltb (longest meaning.tag) (length (frame_bytes meaning)) many) refl

data_size : (destination source : Mac) (tag frame_id : ℕ) (body : List ℕ) → IsMac destination → IsMac source
    → layers.size (carrying destination source (Some tag) (RealTime frame_id body)) ≡ 20 + length body
unfolding layers ethernet mac tag_and_type real_time
data_size destination source tag frame_id body one other = omega (arith, one, other)

longer : (meaning : Meaning) (most : ℕ) → most < length (layers.write meaning) → most < length (frame_bytes meaning)
unfolding frame_bytes
longer meaning most many = omega (arith, length-append (layers.write meaning) (padding_of meaning), many)

pub long_unread : IsSound ethernet → IsSoundWhole layers → (destination source : Mac) (tag frame_id : ℕ) (body : List ℕ) → IsMac destination → IsMac source
    → tag < 65536 → 1498 < length body
    → frame_of (frame_bytes (carrying destination source (Some tag) (RealTime frame_id body))) ≡ Err TooLong
long_unread sound whole destination source tag frame_id body one other tagged many =
    let meaning = carrying destination source (Some tag) (RealTime frame_id body) in
    too_long sound meaning (header_fits destination source tag frame_id body one other tagged)
    (longer meaning 1518 (omega (arith, whole.sized meaning, data_size destination source tag frame_id body one other, many)))
