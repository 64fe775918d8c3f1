-- A packet of ARP, and the address that a packet of IPv4 goes to, read at fixed places.
use Rattle.std.proofs.Common.{◌≡◌, ◌+◌, ◌≤◌, ◌==◌, ℕ, true, List, [], ◌∷◌, ◌++◌, length, take, drop, Some, Ok, refl, sym, ap, subst, ◌∙◌, arith}
use Rattle.std.proofs.lemmas.Bool.{eq-eqb, eqb-true, le-ltb}
use Rattle.std.proofs.lemmas.List.{drop-drop, drop_at, get_or-drop, length-append, length-drop, take_at}
use Rattle.byteorder.specs.Endian.{big_number}
use Rattle.frame_codec.specs.declared.arp.Arp.{Arp}
use Rattle.frame_codec.specs.declared.arp.ArpOperation.TheVariants.{Request}
use Rattle.frame_codec.specs.declared.arp.Holder.{Holder}
use Rattle.frame_codec.specs.declared.udp.Endpoint.{Endpoint}
use Rattle.frame_codec.specs.Arp.{arp_head, arp_packet, holder, operation, operation_of}
use Rattle.frame_codec.specs.Internet.{internet_header, internet_size, internet_way, packet, size_behind}
use Rattle.frame_codec.specs.Frame.{arp, content_under, datagram}
use Rattle.frame_codec.specs.Meaning.{ArpPacket, Content, UdpDatagram}
use Rattle.frame_codec.proofs.Layers.{content_under_sound}
use Rattle.octets_law.proofs.CallPlaces.{skip}
use Rattle.field_words.specs.Octets.{octet_at, part_at, word_at}
use Rattle.end_laws.proofs.CyclicAccepting.{one_read}
use Rattle.end_laws.proofs.CyclicPlaces.{two_front, two_read, word_dropped}

-- ---- ARP

-- A packet at its places.
pub record IsPacket (octets : List ℕ) (packet : Arp) : Type 0 where
  pub hardware : word_at 0 octets ≡ 1
  pub protocol : word_at 2 octets ≡ 0x0800
  pub hardware_size : octet_at 4 octets ≡ 6
  pub protocol_size : octet_at 5 octets ≡ 4
  pub number : operation_of (word_at 6 octets) ≡ Some packet.operation
  pub sender_mac : part_at 8 6 octets ≡ packet.sender.mac.octets
  pub sender : part_at 14 4 octets ≡ packet.sender.address
  pub target : part_at 24 4 octets ≡ packet.target.address
  pub long : 28 ≤ length octets

one_front : (front behind : List ℕ) → length front ≡ 1 → octet_at 0 (front ++ behind) ≡ big_number 1 front
one_front (a ∷ []) behind is = omega arith
one_front (a ∷ b ∷ front) behind is = absurd (omega (arith, is))
one_front [] behind is = absurd (omega (arith, is))

-- The next place.
next_place : (place size : ℕ) (octets here front behind : List ℕ) → drop place octets ≡ here → here ≡ front ++ behind → length front ≡ size → drop (place + size) octets ≡ behind
next_place place size octets here front behind at is wide =
    sym (drop-drop size place octets) ∙ (ap (λ (l : List ℕ). drop size l) (at ∙ is) ∙ drop_at front behind size wide)

same_arp : (one other : Arp) → ArpPacket one ≡ ArpPacket other → one ≡ other
same_arp one other e = cc

packet_there : (octets : List ℕ) (packet : Arp) (rest : List ℕ) → arp_packet.Spells octets packet rest → IsPacket octets packet
unfolding arp_packet arp_head operation holder
packet_there octets packet rest spells =
    let parts = spells.2 in
    let head = parts.1.2 in
    let first = head.1.2 in
    let second = head.2.1.2 in
    let third = head.2.2.1.2 in
    let fourth = head.2.2.2.2 in
    let number = parts.2.1 in
    let sender = parts.2.2.1 in
    let target = parts.2.2.2 in
    let at_2 = next_place 0 2 octets octets first.1.0 _ refl first.1.2 first.1.1 in
    let at_4 = next_place 2 2 octets _ second.1.0 _ at_2 second.1.2 second.1.1 in
    let at_5 = next_place 4 1 octets _ third.1.0 _ at_4 third.1.2 third.1.1 in
    let at_6 = next_place 5 1 octets _ fourth.1.0 _ at_5 fourth.1.2 fourth.1.1 in
    let at_8 = next_place 6 2 octets _ number.2.0 _ at_6 number.2.2 number.2.1 in
    let at_14 = next_place 8 6 octets _ sender.0.0 _ at_8 sender.2.1.1 sender.2.1.0 in
    let at_18 = next_place 14 4 octets _ sender.0.1 _ at_14 sender.2.2.1 sender.2.2.0 in
    let at_24 = next_place 18 6 octets _ target.0.0 _ at_18 target.2.1.1 target.2.1.0 in
    let a : length (drop 24 octets) ≡ length (target.0.1 ++ rest) = ap (λ (l : List ℕ). length l) (at_24 ∙ target.2.2.1) in
    record {
      hardware = ap (λ (l : List ℕ). word_at 0 l) first.1.2 ∙ (two_front first.1.0 _ first.1.1 ∙ (sym first.1.3 ∙ eqb-true _ 1 first.0));
      protocol = sym (word_dropped 2 0 octets) ∙ (ap (λ (l : List ℕ). word_at 0 l) (at_2 ∙ second.1.2) ∙ (two_front second.1.0 _ second.1.1 ∙ (sym second.1.3 ∙ eqb-true _ 0x0800 second.0)));
      hardware_size = sym (get_or-drop 4 octets 0 0) ∙ (ap (λ (l : List ℕ). octet_at 0 l) (at_4 ∙ third.1.2) ∙ (one_front third.1.0 _ third.1.1 ∙ (sym third.1.3 ∙ eqb-true _ 6 third.0)));
      protocol_size = sym (get_or-drop 5 octets 0 0) ∙ (ap (λ (l : List ℕ). octet_at 0 l) (at_5 ∙ fourth.1.2) ∙ (one_front fourth.1.0 _ fourth.1.1 ∙ (sym fourth.1.3 ∙ eqb-true _ 4 fourth.0)));
      number =
          ap operation_of (sym (word_dropped 6 0 octets) ∙ (ap (λ (l : List ℕ). word_at 0 l) (at_6 ∙ number.2.2) ∙ (two_front number.2.0 _ number.2.1 ∙ sym number.2.3)))
          ∙ (number.1 ∙ ap (λ (p : Arp). Some p.operation) spells.1);
      sender_mac =
          ap (λ (l : List ℕ). take 6 l) (at_8 ∙ sender.2.1.1)
          ∙ (take_at sender.0.0 _ 6 sender.2.1.0 ∙ (ap (λ (h : Holder). h.mac.octets) sender.1 ∙ ap (λ (p : Arp). p.sender.mac.octets) spells.1));
      sender =
          ap (λ (l : List ℕ). take 4 l) (at_14 ∙ sender.2.2.1)
          ∙ (take_at sender.0.1 _ 4 sender.2.2.0 ∙ (ap (λ (h : Holder). h.address) sender.1 ∙ ap (λ (p : Arp). p.sender.address) spells.1));
      target =
          ap (λ (l : List ℕ). take 4 l) (at_24 ∙ target.2.2.1)
          ∙ (take_at target.0.1 _ 4 target.2.2.0 ∙ (ap (λ (h : Holder). h.address) target.1 ∙ ap (λ (p : Arp). p.target.address) spells.1));
      long = omega (arith, a, length-drop 24 octets, length-append target.0.1 rest, target.2.2.0);
    }

-- A packet that is read is there.
pub arp_there : (octets : List ℕ) (packet : Arp) → (content_under 0x0806).Spells octets (ArpPacket packet) → IsPacket octets packet
unfolding arp
arp_there octets packet spells =
    subst (λ (p : Arp). IsPacket octets p) (same_arp spells.0 packet spells.1) (packet_there octets spells.0 spells.2.0 spells.2.1)

-- A request that is there is read.
pub record IsAsking (octets : List ℕ) : Type 0 where
  pub packet : Arp
  pub requests : packet.operation ≡ Request
  pub spelled : (content_under 0x0806).Spells octets (ArpPacket packet)

module _ (octets : List ℕ) (long : 28 ≤ length octets) where
  abbrev one : List ℕ
  one = drop 2 octets

  abbrev two : List ℕ
  two = drop 2 one

  abbrev three : List ℕ
  three = drop 1 two

  abbrev four : List ℕ
  four = drop 1 three

  abbrev five : List ℕ
  five = drop 2 four

  abbrev six : List ℕ
  six = drop 6 five

  abbrev seven : List ℕ
  seven = drop 4 six

  abbrev eight : List ℕ
  eight = drop 6 seven

  abbrev asked : Arp
  asked = record {
    operation = Request;
    sender = record { mac = record { octets = take 6 five }; address = take 4 six };
    target = record { mac = record { octets = take 6 seven }; address = take 4 eight };
  }

  asked_read : (big_number 2 octets == 1) ≡ true → (big_number 2 one == 0x0800) ≡ true → (big_number 1 two == 6) ≡ true → (big_number 1 three == 4) ≡ true
      → (big_number 2 four == 1) ≡ true → (content_under 0x0806).read octets ≡ Ok (ArpPacket asked)
  unfolding arp arp_packet arp_head operation holder
  asked_read first second third fourth number =
      let a = length-drop 2 octets in
      let b = length-drop 2 one in
      let c = length-drop 1 two in
      let d = length-drop 1 three in
      let e = length-drop 2 four in
      let f = length-drop 6 five in
      let g = length-drop 4 six in
      let h = length-drop 6 seven in
      rw (
        le-ltb (length octets) 2 (omega (arith, long)),
        first,
        le-ltb (length one) 2 (omega (arith, long, a)),
        second,
        le-ltb (length two) 1 (omega (arith, long, a, b)),
        third,
        le-ltb (length three) 1 (omega (arith, long, a, b, c)),
        fourth,
        le-ltb (length four) 2 (omega (arith, long, a, b, c, d)),
        number,
        le-ltb (length five) 6 (omega (arith, long, a, b, c, d, e)),
        le-ltb (length six) 4 (omega (arith, long, a, b, c, d, e, f)),
        le-ltb (length seven) 6 (omega (arith, long, a, b, c, d, e, f, g)),
        le-ltb (length eight) 4 (omega (arith, long, a, b, c, d, e, f, g, h)),
      ) refl

  pub asking : word_at 0 octets ≡ 1 → word_at 2 octets ≡ 0x0800 → octet_at 4 octets ≡ 6 → octet_at 5 octets ≡ 4 → word_at 6 octets ≡ 1 → IsAsking octets
  asking hardware protocol hardware_size protocol_size number =
      let a = length-drop 2 octets in
      let b = length-drop 2 one in
      let c = length-drop 1 two in
      let d = length-drop 1 three in
      let at_two : two ≡ drop 4 octets = drop-drop 2 2 octets in
      let at_three : three ≡ drop 5 octets = ap (λ (l : List ℕ). drop 1 l) at_two ∙ drop-drop 1 4 octets in
      let at_four : four ≡ drop 6 octets = ap (λ (l : List ℕ). drop 1 l) at_three ∙ drop-drop 1 5 octets in
      let first : big_number 2 octets ≡ 1 = sym (two_read octets (omega (arith, long))) ∙ hardware in
      let second : big_number 2 one ≡ 0x0800 = sym (two_read one (omega (arith, long, a))) ∙ (word_dropped 2 0 octets ∙ protocol) in
      let third : big_number 1 two ≡ 6 =
      one_read two (omega (arith, long, a, b)) ∙ (ap (λ (l : List ℕ). octet_at 0 l) at_two ∙ (get_or-drop 4 octets 0 0 ∙ hardware_size)) in
      let fourth : big_number 1 three ≡ 4 =
      one_read three (omega (arith, long, a, b, c)) ∙ (ap (λ (l : List ℕ). octet_at 0 l) at_three ∙ (get_or-drop 5 octets 0 0 ∙ protocol_size)) in
      let fifth : big_number 2 four ≡ 1 =
      sym (two_read four (omega (arith, long, a, b, c, d))) ∙ (ap (λ (l : List ℕ). word_at 0 l) at_four ∙ (word_dropped 6 0 octets ∙ number)) in
      record {
        packet = asked;
        requests = refl;
        spelled = (content_under_sound 0x0806).takes octets (ArpPacket asked)
            (asked_read (eq-eqb _ 1 first) (eq-eqb _ 0x0800 second) (eq-eqb _ 6 third) (eq-eqb _ 4 fourth) (eq-eqb _ 1 fifth));
      }

-- ---- IPv4

stepped : (n m : ℕ) (bytes front rest : List ℕ) → bytes ≡ front ++ rest → length front ≡ m → drop (m + n) bytes ≡ drop n rest
stepped n m bytes front rest is wide = ap (λ (l : List ℕ). drop (m + n) l) is ∙ skip n m front rest wide

abbrev address_of : Content → List ℕ
address_of (UdpDatagram from to body) = to.address
address_of other = []

-- The address that a datagram goes to is at its place.
pub target_there : (octets : List ℕ) (from to : Endpoint) (body : List ℕ) → datagram.Spells octets (UdpDatagram from to body) → part_at 16 4 octets ≡ to.address
unfolding datagram packet internet_header internet_size internet_way size_behind
target_there octets from to body spells =
    let whole = spells.2.1 in
    let internet = whole.1.0.2 in
    let size = internet.1.2 in
    let way = internet.2.1.2 in
    let version = size.1.2.1 in
    let service = size.2.1.2 in
    let total = size.2.2.1.2.1 in
    let identification = size.2.2.2.2 in
    let offset = way.1.2.1 in
    let time = way.2.1.2 in
    let protocol = way.2.2.2.1 in
    let checksum = internet.2.2.1 in
    let source = internet.2.2.2.1 in
    let destination = internet.2.2.2.2 in
    let behind = stepped 15 1 _ version.0 _ version.2 version.1 ∙ stepped 14 1 _ service.0 _ service.2 service.1 ∙ stepped 12 2 _ total.0 _ total.2 total.1
    ∙ stepped 10 2 _ identification.0 _ identification.2 identification.1 ∙ stepped 8 2 _ offset.0 _ offset.2 offset.1 ∙ stepped 7 1 _ time.0 _ time.2 time.1
    ∙ stepped 6 1 _ protocol.0 _ protocol.2 protocol.1 ∙ stepped 4 2 _ checksum.0 _ checksum.2 checksum.1 ∙ stepped 0 4 _ _ _ source.1 source.0 ∙ destination.1 in
    ap (λ (l : List ℕ). take 4 l) behind
    ∙ (take_at _ _ 4 destination.0 ∙ (ap (λ h. h.destination) whole.1.0.1 ∙ ap address_of spells.1))
