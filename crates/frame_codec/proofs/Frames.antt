-- Facts about frames: reading agrees with the relation, and how long a written frame is.
use Rattle.std.proofs.Common.{◌≡◌, ℕ, ◌+◌, ◌-◌, ◌≤◌, Bool, true, false, cond, ltb, List, [], ◌++◌, length, replicate, Option, Some, None, Result, Ok, Err, refl, sym, ap, subst, ◌∙◌, append_assoc, arith}
use Rattle.std.proofs.lemmas.Bool.{ltb-false, le-ltb}
use Rattle.std.proofs.lemmas.List.{length-append, length-replicate}
use Rattle.wire.proofs.Fields.{bind_ok}
use Rattle.frame_codec.specs.declared.ethernet.EthernetHeader.{EthernetHeader}
use Rattle.frame_codec.specs.declared.fault.FrameFault.{FrameFault}
use Rattle.frame_codec.specs.declared.fault.FrameFault.TheVariants.{TooLong}
use Rattle.frame_codec.specs.Meaning.{Content, RealTime, ArpPacket, UdpDatagram, Meaning}
use Rattle.frame_codec.specs.Arp.{arp_head, operation, holder, arp_packet}
use Rattle.frame_codec.specs.Internet.{size_behind, internet_size, internet_way, internet_header, udp_header, udp, packet}
use Rattle.frame_codec.specs.Frame.{profinet, address_resolution, internet, mac, tag_and_type, ethernet, real_time, arp, datagram, content_under, content_size, content_with, header_of, layers, longest, IsFrame, FitsFrame, frame_of, frame_bytes, padding_of, with_behind, type_of, IsReadBack}
use Rattle.wire.proofs.Wholes.{loose_behind}
use Rattle.frame_codec.proofs.Layers.{ethernet_sound, arp_packet_onward, packet_onward, content_under_sound, layers_sound, layers_onward}

-- ---- reading

-- a length that passed the test
handled : (b : Bool) (r : Result Meaning FrameFault) (meaning : Meaning) → cond b (Err TooLong) r ≡ Ok meaning → (b ≡ false) × (r ≡ Ok meaning)
handled true r meaning e = absurd cc
handled false r meaning e = (refl, e)

-- the Ethernet header that comes before a frame
record HasHeader (bytes : List ℕ) (meaning : Meaning) : Type 0 where
  header : EthernetHeader
  rest : List ℕ
  reads : ethernet.read bytes ≡ Ok (header, rest)
  tag : header.tag ≡ meaning.tag

header_in : (bytes : List ℕ) (meaning : Meaning) → layers.Spells bytes meaning → HasHeader bytes meaning
unfolding layers
header_in bytes meaning spelled = record {
  header = spelled.0.0;
  rest = spelled.2.0;
  reads = ethernet_sound.again bytes spelled.0.0 spelled.2.0 spelled.2.1;
  tag = ap (λ (m : Meaning). m.tag) spelled.1;
}

-- what is read is a frame
pub frame_takes : (bytes : List ℕ) (meaning : Meaning) → frame_of bytes ≡ Ok meaning → IsFrame bytes meaning
unfolding frame_of
frame_takes bytes meaning e =
    let a = bind_ok (ethernet.read bytes) (λ header. cond (ltb (longest header.0.tag) (length bytes)) (Err TooLong) (layers.read bytes)) meaning e in
    let j = handled (ltb (longest a.0.0.tag) (length bytes)) (layers.read bytes) meaning a.2 in
    let spelled = layers_sound.takes bytes meaning j.1 in
    let h = header_in bytes meaning spelled in
    let one : a.0.0 ≡ h.header = cc in
    let short : length bytes ≤ longest a.0.0.tag = ltb-false _ _ j.0 in
    record { spelled = spelled; short = subst (λ (tag : Option ℕ). length bytes ≤ longest tag) (ap (λ (x : EthernetHeader). x.tag) one ∙ h.tag) short }

-- a frame is read
pub frame_again : (bytes : List ℕ) (meaning : Meaning) → IsFrame bytes meaning → frame_of bytes ≡ Ok meaning
unfolding frame_of
frame_again bytes meaning frame =
    let h = header_in bytes meaning frame.spelled in
    let short : length bytes ≤ longest h.header.tag = subst (λ (tag : Option ℕ). length bytes ≤ longest tag) (sym h.tag) frame.short in
    rw (h.reads, le-ltb _ _ short) (layers_sound.again bytes meaning frame.spelled)

-- a frame with more octets after it, up to the limit, is a frame of the same meaning with these octets added
pub frame_behind : (first more bytes : List ℕ) (meaning : Meaning) → IsFrame first meaning → bytes ≡ first ++ more → length bytes ≤ longest meaning.tag → IsFrame bytes (with_behind meaning more)
frame_behind first more bytes meaning frame e short = record {
  spelled = subst (λ (xs : List ℕ). layers.Spells xs (with_behind meaning more)) (sym e) (layers_onward first more meaning frame.spelled);
  short = short;
}

-- ---- writing

-- the bytes of the content
abbrev body_of : Content → List ℕ
body_of content = (content_under (type_of content)).write content

-- the Ethernet header and the content make the layers
pub joined : (meaning : Meaning) (ether_type : ℕ) (front bytes : List ℕ) → ether_type ≡ type_of meaning.content
    → front ≡ ethernet.write (record (header_of meaning) { ether_type = ether_type }) [] → bytes ≡ front ++ (content_under (type_of meaning.content)).write meaning.content → bytes ≡ layers.write meaning
unfolding layers
joined meaning ether_type front bytes kind one both =
    both ∙ ap (λ (xs : List ℕ). xs ++ body_of meaning.content) (one ∙ ap (λ (n : ℕ). ethernet.write (record (header_of meaning) { ether_type = n }) []) kind)
    ∙ sym (ethernet_sound.local (header_of meaning) (body_of meaning.content))

-- both parts fit
pub both_fit : (meaning : Meaning) (ether_type : ℕ) → ether_type ≡ type_of meaning.content
    → ethernet.Fits (record (header_of meaning) { ether_type = ether_type }) → (content_under (type_of meaning.content)).Fits meaning.content → layers.Fits meaning
unfolding layers
both_fit meaning ether_type kind one other = (subst (λ (n : ℕ). ethernet.Fits (record (header_of meaning) { ether_type = n })) kind one, other)

-- the length of an Ethernet header
abbrev header_size : Option ℕ → ℕ
header_size None = 14
header_size (Some tag) = 18

tag_size_is : (tag : Option ℕ) (content : Content) → tag_and_type.size (tag, type_of content) + 12 ≡ header_size tag
unfolding tag_and_type
tag_size_is None (RealTime frame_id body) = refl
tag_size_is None (ArpPacket asked) = refl
tag_size_is None (UdpDatagram source destination body) = refl
tag_size_is (Some tag) (RealTime frame_id body) = refl
tag_size_is (Some tag) (ArpPacket asked) = refl
tag_size_is (Some tag) (UdpDatagram source destination body) = refl

content_size_is : (content : Content) → (content_under (type_of content)).Fits content → (content_under (type_of content)).size content ≡ content_size content
unfolding real_time arp arp_packet arp_head operation holder datagram packet internet_header internet_size internet_way size_behind udp udp_header
content_size_is (RealTime frame_id body) fits = refl
content_size_is (ArpPacket asked) fits = omega (arith, fits.1.1.0.0, fits.1.1.0.1, fits.1.1.1.0, fits.1.1.1.1)
content_size_is (UdpDatagram source destination body) fits = omega (arith, fits.0.0.1.1.1.0, fits.0.0.1.1.1.1)

size_is : (meaning : Meaning) → layers.Fits meaning → layers.size meaning ≡ header_size meaning.tag + content_size meaning.content
unfolding layers ethernet mac
size_is meaning fits =
    omega (arith, fits.0.0, fits.0.1.0, tag_size_is meaning.tag meaning.content, content_size_is meaning.content fits.1)

-- the octets written for a content, with more after them, spell that content with these octets added
content_behind : (content : Content) (more : List ℕ) → (content_under (type_of content)).Fits content
    → (content_under (type_of content)).Spells (body_of content ++ more) (content_with content more)
unfolding real_time arp datagram
content_behind (RealTime frame_id body) more fits = (content_under_sound profinet).written (RealTime frame_id (body ++ more)) fits
content_behind (ArpPacket asked) more fits =
    let s = (content_under_sound address_resolution).written (ArpPacket asked) fits in
    (s.0, s.1, loose_behind arp_packet _ s.0 more arp_packet_onward s.2)
content_behind (UdpDatagram source destination body) more fits =
    let s = (content_under_sound internet).written (UdpDatagram source destination body) fits in
    (s.0, s.1, loose_behind packet _ s.0 more packet_onward s.2)

-- the octets written for layers, with more after them, spell those layers with these octets added
layers_behind : (meaning : Meaning) (more : List ℕ) → layers.Fits meaning → layers.Spells (layers.write meaning ++ more) (with_behind meaning more)
unfolding layers
layers_behind meaning more fits =
    let header = header_of meaning in
    let body = body_of meaning.content in
    let parts : ethernet.write header body ++ more ≡ ethernet.write header (body ++ more) =
    ap (λ (xs : List ℕ). xs ++ more) (ethernet_sound.local header body) ∙ append_assoc (ethernet.write header []) body more ∙ sym (ethernet_sound.local header (body ++ more)) in
    let front : ethernet.Spells (ethernet.write header body ++ more) header (body ++ more) =
    subst (λ (xs : List ℕ). ethernet.Spells xs header (body ++ more)) (sym parts) (ethernet_sound.written header (body ++ more) fits.0) in
    ((header, content_with meaning.content more), refl, (body ++ more, front, content_behind meaning.content more fits.1))

-- what is written is a frame, also with more octets after it, up to the limit
pub written_is_frame : (meaning : Meaning) (more : List ℕ) → layers.Fits meaning → length (layers.write meaning) + length more ≤ longest meaning.tag → IsFrame (layers.write meaning ++ more) (with_behind meaning more)
written_is_frame meaning more fits short = record {
  spelled = layers_behind meaning more fits;
  short = omega (arith, short, length-append (layers.write meaning) more);
}

most_of : (tag : Option ℕ) (content size : ℕ) → content ≤ 1500 → size ≡ (header_size tag + content) + (60 - (header_size tag + content)) → size ≤ longest tag
most_of None content size room e = omega arith
most_of (Some tag) content size room e = omega arith

-- a frame that is sent, and its length
pub record IsSent (meaning : Meaning) (frame : List ℕ) : Type 0 where
  pub exact : frame ≡ frame_bytes meaning
  pub least : 60 ≤ length frame
  pub most : length frame ≤ longest meaning.tag
  pub spelled : IsFrame frame (with_behind meaning (padding_of meaning))
  pub behind : (more : List ℕ) → length frame + length more ≤ longest meaning.tag → IsFrame (frame ++ more) (with_behind meaning (padding_of meaning ++ more))

pub is_sent : (meaning : Meaning) (written frame : List ℕ) → FitsFrame meaning → layers.Fits meaning → written ≡ layers.write meaning
    → frame ≡ written ++ replicate (60 - length written) 0 → IsSent meaning frame
unfolding frame_bytes
is_sent meaning written frame room fits e f =
    let exact : frame ≡ layers.write meaning ++ padding_of meaning = f ∙ ap (λ (xs : List ℕ). xs ++ replicate (60 - length xs) 0) e in
    let size = layers_sound.sized meaning ∙ size_is meaning fits in
    let padded : length frame ≡ length (layers.write meaning) + (60 - length (layers.write meaning)) =
    ap length exact ∙ length-append (layers.write meaning) (padding_of meaning) ∙ ap (λ (n : ℕ). length (layers.write meaning) + n) (length-replicate {A = ℕ} (60 - length (layers.write meaning)) 0) in
    let most = most_of meaning.tag (content_size meaning.content) (length frame) room (padded ∙ ap (λ (n : ℕ). n + (60 - n)) size) in
    record {
      exact = exact;
      least = omega arith;
      most = most;
      spelled = rw exact (written_is_frame meaning (padding_of meaning) fits (omega (arith, most, padded, length-replicate {A = ℕ} (60 - length (layers.write meaning)) 0)));
      behind = λ more short.
          let parts : frame ++ more ≡ layers.write meaning ++ (padding_of meaning ++ more) = ap (λ (xs : List ℕ). xs ++ more) exact ∙ append_assoc (layers.write meaning) (padding_of meaning) more in
          let long : length (layers.write meaning) + length (padding_of meaning ++ more) ≤ longest meaning.tag =
          omega (arith, short, length-append (padding_of meaning) more, length-replicate {A = ℕ} (60 - length (layers.write meaning)) 0, padded) in
          rw parts (written_is_frame meaning (padding_of meaning ++ more) fits long);
    }

-- a frame that fits is read back after it is sent
pub read_back : (meaning : Meaning) → FitsFrame meaning → layers.Fits meaning → IsReadBack meaning
unfolding frame_bytes
read_back meaning room fits =
    let s = is_sent meaning (layers.write meaning) (frame_bytes meaning) room fits refl refl in
    record {
      least = s.least;
      most = s.most;
      again = λ more short. frame_again _ _ (s.behind more short);
    }
