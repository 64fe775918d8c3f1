-- A frame with a datagram, read at fixed places.
use Rattle.std.proofs.Common.{◌≡◌, ◌==◌, ◌+◌, ℕ, Bool, true, false, List, ◌++◌, length, drop, refl, ap, ◌∙◌}
use Rattle.wire.specs.Codec.{Whole}
use Rattle.wire.specs.Whole.{pick}
use Rattle.frame_codec.specs.declared.udp.Endpoint.{Endpoint}
use Rattle.frame_codec.specs.Meaning.{Content, UdpDatagram}
use Rattle.frame_codec.specs.Frame.{arp, content_under, datagram, real_time}
use Rattle.frame_codec.specs.Internet.{internet_header, internet_size, internet_way, packet, size_behind, udp, udp_header}
use Rattle.octets_law.proofs.CallPlaces.{opened, skip}
use Rattle.octets_law.proofs.CallReads.{tested}

-- ---- the content under an EtherType

pick_elim : {F A : Type 0} (b : Bool) (one other : Whole F A) (bytes : List ℕ) (value : A) (C : Type 0)
    → (b ≡ true → one.Spells bytes value → C) → (b ≡ false → other.Spells bytes value → C) → (pick b one other).Spells bytes value → C
pick_elim true one other bytes value C holds fails spells = holds refl spells
pick_elim false one other bytes value C holds fails spells = fails refl spells

-- Which content it is.
pub data Kind (n : ℕ) (bytes : List ℕ) (content : Content) : Type 0 where
  IsRealTime : n ≡ 0x8892 → real_time.Spells bytes content → Kind n bytes content
  IsArp : n ≡ 0x0806 → arp.Spells bytes content → Kind n bytes content
  IsInternet : n ≡ 0x0800 → datagram.Spells bytes content → Kind n bytes content

pub kind_under : (n : ℕ) (bytes : List ℕ) (content : Content) → (content_under n).Spells bytes content → Kind n bytes content
kind_under n bytes content =
    pick_elim (n == 0x8100) _ _ bytes content (Kind n bytes content) (λ _ spells. absurd spells)
    (λ _. pick_elim (n == 0x8892) _ _ bytes content (Kind n bytes content) (λ is. IsRealTime (tested n 0x8892 is))
    (λ _. pick_elim (n == 0x0806) _ _ bytes content (Kind n bytes content) (λ is. IsArp (tested n 0x0806 is))
    (λ _. pick_elim (n == 0x0800) _ _ bytes content (Kind n bytes content) (λ is. IsInternet (tested n 0x0800 is)) (λ _ spells. absurd spells))))

-- ---- the headers before a datagram's body

-- The body begins after 20 octets of IPv4 and 8 of UDP.
pub record IsBehind (rest body : List ℕ) : Type 0 where
  pub more : List ℕ
  pub is : drop 28 rest ≡ body ++ more

same_body : (a b c d : Endpoint) (one other : List ℕ) → UdpDatagram a b one ≡ UdpDatagram c d other → one ≡ other
same_body a b c d one other e = cc

stepped : (n m : ℕ) (bytes front rest : List ℕ) → bytes ≡ front ++ rest → length front ≡ m → drop (m + n) bytes ≡ drop n rest
stepped n m bytes front rest is wide = ap (drop (m + n)) is ∙ skip n m front rest wide

pub body_behind : (rest : List ℕ) (from to : Endpoint) (body : List ℕ) → datagram.Spells rest (UdpDatagram from to body) → IsBehind rest body
unfolding datagram packet internet_header internet_size internet_way size_behind udp udp_header
body_behind rest from to body spells =
    let whole = spells.2.1 in
    let internet = whole.1.0.2 in
    let size = internet.1.2 in
    let way = internet.2.1.2 in
    let version = size.1.2.1 in
    let service = size.2.1.2 in
    let total = size.2.2.1.2.1 in
    let identification = size.2.2.2.2 in
    let offset = way.1.2.1 in
    let time = way.2.1.2 in
    let protocol = way.2.2.2.1 in
    let checksum = internet.2.2.1 in
    let source = internet.2.2.2.1 in
    let destination = internet.2.2.2.2 in
    let inside = whole.2 in
    let datagram = inside.3.1.1 in
    let segment = datagram.2.1.0 in
    let header = segment.1.2 in
    let one = header.1 in
    let two = header.2.1 in
    let three = header.2.2.1.2.1 in
    let four = header.2.2.2 in
    let is : segment.0 ≡ body ++ inside.3.1.0 = segment.2.1 ∙ ap (λ l. l ++ inside.3.1.0) (ap (λ x. x.1) datagram.1 ∙ same_body _ _ _ _ _ _ spells.1) in
    let inside_is = one.2 ∙ ap (λ l. one.0 ++ l) (two.2 ∙ ap (λ l. two.0 ++ l) (three.2 ∙ ap (λ l. three.0 ++ l) (four.2 ∙ ap (λ l. four.0 ++ l) is))) in
    record {
      more = inside.3.1.0 ++ spells.2.0;
      is = stepped 27 1 _ version.0 _ version.2 version.1 ∙ stepped 26 1 _ service.0 _ service.2 service.1 ∙ stepped 24 2 _ total.0 _ total.2 total.1
          ∙ stepped 22 2 _ identification.0 _ identification.2 identification.1 ∙ stepped 20 2 _ offset.0 _ offset.2 offset.1 ∙ stepped 19 1 _ time.0 _ time.2 time.1
          ∙ stepped 18 1 _ protocol.0 _ protocol.2 protocol.1 ∙ stepped 16 2 _ checksum.0 _ checksum.2 checksum.1 ∙ stepped 12 4 _ _ _ source.1 source.0
          ∙ stepped 8 4 _ _ _ destination.1 destination.0
          ∙ ap (drop 8) (inside.2 ∙ ap (λ l. l ++ spells.2.0) inside_is ∙ opened one.0 two.0 three.0 four.0 body inside.3.1.0 spells.2.0)
          ∙ skip 6 2 one.0 _ one.1 ∙ skip 4 2 two.0 _ two.1 ∙ skip 2 2 three.0 _ three.1 ∙ skip 0 2 four.0 _ four.1;
    }
