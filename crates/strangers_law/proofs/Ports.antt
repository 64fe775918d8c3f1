-- What the octets of a datagram say that was read: its protocol, its port of destination, its addresses, and where its body is.
use Rattle.std.proofs.Common.{◌≡◌, ◌==◌, ◌&&◌, ◌+◌, ℕ, true, List, ◌++◌, length, drop, append_assoc, sym, ap, subst, ◌∙◌}
use Rattle.byteorder.specs.Endian.{big_number}
use Rattle.pn_values.specs.declared.mac.Mac.{Mac}
use Rattle.frame_codec.specs.declared.udp.Endpoint.{Endpoint}
use Rattle.frame_codec.specs.Meaning.{Meaning, UdpDatagram}
use Rattle.frame_codec.specs.Frame.{datagram, ethernet, layers, mac}
use Rattle.frame_codec.specs.Internet.{internet_header, internet_size, internet_way, packet, size_behind, udp, udp_header}
use Rattle.octets_law.specs.Octets.{number, untagged}
use Rattle.octets_law.proofs.Bare.{IsBare}
use Rattle.octets_law.proofs.CallPlaces.{skip}
use Rattle.octets_law.proofs.CallReads.{tested}
use Rattle.octets_law.proofs.Datagrams.{body_behind, kind_under}
use Rattle.octets_law.proofs.EventSteps.{datagram_type, frame_type}
use Rattle.octets_law.proofs.SetHeard.{one_front, two_ahead}
use Rattle.strangers_law.specs.Strange.{is_datagram}

-- ---- after the header of Ethernet

-- The protocol at 9, and the port at 22.
pub record IsSentTo (rest : List ℕ) (to : Endpoint) : Type 0 where
  pub protocol : number 9 1 rest ≡ 17
  pub port : number 22 2 rest ≡ to.port

same_ends : (a b c d : Endpoint) (one other : List ℕ) → UdpDatagram a b one ≡ UdpDatagram c d other → (a ≡ c) × (b ≡ d)
same_ends a b c d one other e = (cc, cc)

stepped : (n m : ℕ) (bytes front rest : List ℕ) → bytes ≡ front ++ rest → length front ≡ m → drop (m + n) bytes ≡ drop n rest
stepped n m bytes front rest is wide = ap (drop (m + n)) is ∙ skip n m front rest wide

pub sent_to : (rest : List ℕ) (from to : Endpoint) (body : List ℕ) → datagram.Spells rest (UdpDatagram from to body) → IsSentTo rest to
unfolding datagram packet internet_header internet_size internet_way size_behind udp udp_header
sent_to rest from to body spells =
    let whole = spells.2.1 in
    let internet = whole.1.0.2 in
    let size = internet.1.2 in
    let way = internet.2.1.2 in
    let version = size.1.2.1 in
    let service = size.2.1.2 in
    let total = size.2.2.1.2.1 in
    let identification = size.2.2.2.2 in
    let offset = way.1.2.1 in
    let time = way.2.1.2 in
    let protocol = way.2.2.2.1 in
    let checksum = internet.2.2.1 in
    let source = internet.2.2.2.1 in
    let destination = internet.2.2.2.2 in
    let inside = whole.2 in
    let datagram = inside.3.1.1 in
    let segment = datagram.2.1.0 in
    let header = segment.1.2 in
    let one = header.1 in
    let two = header.2.1 in
    let port : big_number 2 two.0 ≡ to.port =
    sym two.3 ∙ ap (λ h. h.destination) segment.1.1 ∙ ap (λ x. x.0.destination) datagram.1 ∙ ap (λ (p : Endpoint). p.port) (same_ends _ _ _ _ _ _ spells.1).1 in
    record {
      protocol = ap (big_number 1) (stepped 8 1 _ version.0 _ version.2 version.1 ∙ stepped 7 1 _ service.0 _ service.2 service.1 ∙ stepped 5 2 _ total.0 _ total.2 total.1
          ∙ stepped 3 2 _ identification.0 _ identification.2 identification.1 ∙ stepped 1 2 _ offset.0 _ offset.2 offset.1 ∙ stepped 0 1 _ time.0 _ time.2 time.1 ∙ protocol.2)
          ∙ one_front protocol.0 _ protocol.1 ∙ sym protocol.3 ∙ tested _ 17 way.2.2.2.0;
      port = ap (big_number 2) (stepped 21 1 _ version.0 _ version.2 version.1 ∙ stepped 20 1 _ service.0 _ service.2 service.1 ∙ stepped 18 2 _ total.0 _ total.2 total.1
          ∙ stepped 16 2 _ identification.0 _ identification.2 identification.1 ∙ stepped 14 2 _ offset.0 _ offset.2 offset.1 ∙ stepped 13 1 _ time.0 _ time.2 time.1
          ∙ stepped 12 1 _ protocol.0 _ protocol.2 protocol.1 ∙ stepped 10 2 _ checksum.0 _ checksum.2 checksum.1 ∙ stepped 6 4 _ _ _ source.1 source.0
          ∙ stepped 2 4 _ _ _ destination.1 destination.0
          ∙ ap (drop 2) (inside.2 ∙ ap (λ l. l ++ spells.2.0) (one.2 ∙ ap (λ l. one.0 ++ l) two.2) ∙ append_assoc one.0 _ spells.2.0 ∙ ap (λ l. one.0 ++ l) (append_assoc two.0 _ spells.2.0))
          ∙ skip 0 2 one.0 _ one.1)
          ∙ two_ahead two.0 _ two.1 ∙ port;
    }

-- The IP addresses of both ends have four octets.
ends_wide : (rest : List ℕ) (from to : Endpoint) (body : List ℕ) → datagram.Spells rest (UdpDatagram from to body)
    → (length from.address ≡ 4) × (length to.address ≡ 4)
unfolding datagram packet internet_header
ends_wide rest from to body spells =
    let whole = spells.2.1 in
    let internet = whole.1.0.2 in
    let source = internet.2.2.2.1 in
    let destination = internet.2.2.2.2 in
    let ends = same_ends _ _ _ _ _ _ spells.1 in (
      subst (λ (l : List ℕ). length l ≡ 4) (ap (λ h. h.source) whole.1.0.1 ∙ ap (λ (p : Endpoint). p.address) ends.0) source.0,
      subst (λ (l : List ℕ). length l ≡ 4) (ap (λ h. h.destination) whole.1.0.1 ∙ ap (λ (p : Endpoint). p.address) ends.1) destination.0,
    )

-- ---- a frame

-- The MAC address of the sender has six octets.
pub source_wide : (bytes : List ℕ) (meaning : Meaning) → layers.Spells bytes meaning → length meaning.source.octets ≡ 6
unfolding layers ethernet mac
source_wide bytes meaning spells =
    let head = spells.2.1 in
    let from = head.2.2.1 in
    subst (λ (l : List ℕ). length l ≡ 6) (ap (λ (m : Mac). m.octets) from.1 ∙ ap (λ h. h.source.octets) head.1 ∙ ap (λ (m : Meaning). m.source.octets) spells.1) from.2.0

after_type : (bytes : List ℕ) (meaning : Meaning) (bare : IsBare bytes meaning) (n : ℕ) → drop (6 + (6 + (2 + n))) (untagged bytes) ≡ drop n bare.rest
after_type bytes meaning bare n =
    ap (drop (6 + (6 + (2 + n)))) bare.is ∙ skip (6 + (2 + n)) 6 meaning.destination.octets _ bare.to ∙ skip (2 + n) 6 bare.source _ bare.from
    ∙ skip n 2 bare.type _ bare.two

-- A frame that was read as a datagram.
pub record IsDatagram (bytes : List ℕ) (from to : Endpoint) (body : List ℕ) : Type 0 where
  pub type : number 12 2 (untagged bytes) ≡ 0x0800
  pub protocol : is_datagram (untagged bytes) ≡ true
  pub port : number 36 2 (untagged bytes) ≡ to.port
  pub more : List ℕ
  pub is : drop 42 (untagged bytes) ≡ body ++ more
  pub addresses : (length from.address ≡ 4) × (length to.address ≡ 4)

pub datagram_is : (bytes : List ℕ) (meaning : Meaning) (from to : Endpoint) (body : List ℕ) → IsBare bytes meaning → meaning.content ≡ UdpDatagram from to body
    → IsDatagram bytes from to body
datagram_is bytes meaning from to body bare is =
    let typed = datagram_type (big_number 2 bare.type) bare.rest meaning.content from to body is (kind_under (big_number 2 bare.type) bare.rest meaning.content bare.content) in
    let spells = subst (datagram.Spells bare.rest) is typed.1 in
    let sent = sent_to bare.rest from to body spells in
    let after = body_behind bare.rest from to body spells in
    let type : number 12 2 (untagged bytes) ≡ 0x0800 = frame_type bytes meaning bare ∙ typed.0 in
    let protocol : number 23 1 (untagged bytes) ≡ 17 = ap (big_number 1) (after_type bytes meaning bare 9) ∙ sent.protocol in
    record {
      type = type;
      protocol = ap (λ n. n == 0x0800 && number 23 1 (untagged bytes) == 17) type ∙ ap (λ n. n == 17) protocol;
      port = ap (big_number 2) (after_type bytes meaning bare 22) ∙ sent.port;
      more = after.more;
      is = after_type bytes meaning bare 28 ∙ after.is;
      addresses = ends_wide bare.rest from to body spells;
    }
