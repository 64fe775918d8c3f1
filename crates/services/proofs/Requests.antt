-- What a frame with an echo request is.
use Rattle.std.proofs.Common.{◌≡◌, ℕ, ◌≤◌, ◌==◌, Bool, true, false, List, length, Option, Some, None, Result, Ok, Err, refl, sym, ap, subst, ◌∙◌, arith}
use Rattle.std.specs.Prelude.{nat_lt, if◌then◌else◌}
use Rattle.std.proofs.lemmas.Bool.{ltb-false, eqb-true}
use Rattle.wire.specs.Codec.{Codec, IsSound, ◌>>=◌}
use Rattle.wire.specs.Formats.{number, then_by, ◌⨾◌, seen, unchecked}
use Rattle.wire.specs.Checks.{fixed}
use Rattle.wire.proofs.Fields.{bind_ok, ok_is, raw_sound, number_sound}
use Rattle.wire.proofs.Joined.{then_by_sound, seen_sound, when_sound, unchecked_sound}
use Rattle.pn_values.specs.declared.mac.Mac.{Mac}
use Rattle.frame_codec.specs.declared.fault.FrameFault.{FrameFault}
use Rattle.frame_codec.specs.declared.fault.FrameFault.TheVariants.{TooShort, TooLong, EtherType, IpHeader}
use Rattle.frame_codec.specs.Internet.{internet_header, internet_way, no_fragment, packet}
use Rattle.frame_codec.specs.Frame.{ethernet, frame_of, layers, datagram, internet, longest, mac, tag_and_type, tag_and_type_of, parts_of_tag, vlan}
use Rattle.services.specs.declared.link.LinkHeader.{LinkHeader}
use Rattle.services.specs.Message.{EchoMeaning, echo, echo_packet, icmp_packet, icmp_way}
use Rattle.services.specs.Echo.{Request, link, request_in, request_of}
use Rattle.services.proofs.Sound.{echo_sound, size_sound, no_fragment_sound}
use Rattle.services.proofs.Lengths.{link_length, message_length}

-- ---- the Ethernet header

mac_sound : IsSound mac
unfolding mac
mac_sound = seen_sound _ _ _ (λ address. refl) (raw_sound TooShort 6)

type_sound : IsSound tag_and_type
unfolding tag_and_type
type_sound = seen_sound tag_and_type_of parts_of_tag _ back (then_by_sound _ _ (number_sound TooShort 2)
    (λ first. when_sound (number TooShort 2 ⨾ number TooShort 2) (first == vlan) (then_by_sound _ _ (number_sound TooShort 2) (λ _. number_sound TooShort 2))))
  where
    back : (value : Option ℕ × ℕ) → tag_and_type_of (parts_of_tag value) ≡ value
    back (None, ether_type) = refl
    back (Some tag, ether_type) = refl

pub link_sound : IsSound link
unfolding link
link_sound = seen_sound _ _ _ (λ header. refl) (then_by_sound _ _ mac_sound (λ _. then_by_sound _ _ mac_sound (λ _. type_sound)))

-- ---- the parts of a frame with an echo request

judged : (long type : Bool) (request : Request) (inner : Result Request FrameFault) → (if long then Err TooLong else if type then inner else Err EtherType) ≡ Ok request
    → (long ≡ false) × (type ≡ true) × (inner ≡ Ok request)
judged true type request inner e = absurd cc
judged false true request inner e = (refl, refl, e)
judged false false request inner e = absurd cc

-- a frame with an echo request has a header, is not too long, and has such a packet
pub record HasRequest (bytes : List ℕ) (request : Request) : Type 0 where
  pub header : LinkHeader
  pub content : List ℕ
  pub read : link.read bytes ≡ Ok (header, content)
  pub long : nat_lt (longest header.tag) (length bytes) ≡ false
  pub type : header.ether_type ≡ internet
  pub message : (echo 8).read content ≡ Ok request.echo

pub request_parts : (bytes : List ℕ) (request : Request) → request_of bytes ≡ Ok request → HasRequest bytes request
unfolding request_of
request_parts bytes request e =
    let a = bind_ok (link.read bytes) (request_in bytes) request e in
    let inner = (echo 8).read a.0.1 >>= λ message. Ok (record { destination = a.0.0.destination; source = a.0.0.source; echo = message }) in
    let j = judged (nat_lt (longest a.0.0.tag) (length bytes)) (a.0.0.ether_type == internet) request inner a.2 in
    let b = bind_ok ((echo 8).read a.0.1) (λ message. Ok (record { destination = a.0.0.destination; source = a.0.0.source; echo = message })) request j.2 in
    record {
      header = a.0.0;
      content = a.0.1;
      read = a.1;
      long = j.0;
      type = eqb-true _ _ j.1;
      message = b.1 ∙ ap (λ (r : Request). Ok r.echo) (ok_is {F = FrameFault} _ request b.2);
    }

-- the data of a request fits a reply
pub request_length : (bytes : List ℕ) (request : Request) → request_of bytes ≡ Ok request → length request.echo.body ≤ 1472
request_length bytes request e =
    let p = request_parts bytes request e in
    let frame = link_length bytes p.header p.content (link_sound.takes bytes p.header p.content p.read) in
    let short : length bytes ≤ longest p.header.tag = ltb-false _ _ p.long in
    let message = message_length 8 p.content request.echo ((echo_sound 8).takes p.content request.echo p.message) in
    omega (arith, frame, short, message)

-- ---- such a frame is nothing else

module _ {A B : Type 0} (first : Codec FrameFault A) (second : A → Codec FrameFault B) (bytes : List ℕ) (fault : FrameFault) where
  -- a format fails if its second part does
  fails_then : (value : A) (rest : List ℕ) → first.read bytes ≡ Ok (value, rest) → (second value).read rest ≡ Err fault → (then_by first second).read bytes ≡ Err fault
  fails_then value rest e f = rw (e, f) refl

fails_seen : {A B : Type 0} (to : A → B) (from : B → A) (codec : Codec FrameFault A) (bytes : List ℕ) (fault : FrameFault) → codec.read bytes ≡ Err fault
    → (seen to from codec).read bytes ≡ Err fault
fails_seen to from codec bytes fault e = rw e refl

fails_fixed : (value number_is : ℕ) (bytes rest : List ℕ) → (number IpHeader 1).read bytes ≡ Ok (number_is, rest) → (number_is == value) ≡ false → (fixed IpHeader 1 value).read bytes ≡ Err IpHeader
fails_fixed value number_is bytes rest e other = rw (e, other) refl

-- the protocol of ICMP is not that of UDP
other_way : (bytes : List ℕ) (rest : List ℕ) → icmp_way.Spells bytes tt rest → internet_way.read bytes ≡ Err IpHeader
unfolding icmp_way internet_way
other_way bytes rest s =
    let way = s.2 in
    let life = way.2 in
    let protocol = life.2 in
    let fragment = no_fragment_sound.again bytes s.0.0 way.0 way.1 in
    let skipped = (unchecked_sound IpHeader 1 64).again way.0 s.0.1.0 life.0 life.1 in
    let number_is = (number_sound IpHeader 1).again life.0 protocol.0 rest protocol.2.1 in
    let one : protocol.0 ≡ 1 = eqb-true _ _ protocol.2.0 in
    let other : (protocol.0 == 17) ≡ false = rw one refl in
    let last = fails_fixed 17 protocol.0 life.0 rest number_is other in
    let behind = fails_then (unchecked IpHeader 1 64) (λ _. fixed IpHeader 1 17) way.0 IpHeader s.0.1.0 life.0 skipped last in
    let all = fails_then no_fragment (λ _. unchecked IpHeader 1 64 ⨾ fixed IpHeader 1 17) bytes IpHeader s.0.0 way.0 fragment behind in
    fails_seen (λ _. tt) (λ _. (tt, (tt, tt))) (no_fragment ⨾ unchecked IpHeader 1 64 ⨾ fixed IpHeader 1 17) bytes IpHeader all

-- a header of ICMP is no header of UDP
other_packet : (content : List ℕ) (message : EchoMeaning) → (echo 8).Spells content message → datagram.read content ≡ Err IpHeader
unfolding echo echo_packet icmp_packet datagram packet internet_header
other_packet content message s =
    let header = s.2.1.1.0 in
    let size = header.2 in
    let way = size.2 in
    let sized = size_sound.again content header.0.0 size.0 size.1 in
    rw (sized, other_way size.0 way.0 way.1) refl

-- a frame under EtherType 0x0800 whose packet cannot be read
frame_fails : (bytes : List ℕ) (to from : Mac) (tag : Option ℕ) (kind : ℕ) (content : List ℕ) → (mac ⨾ mac ⨾ tag_and_type).read bytes ≡ Ok ((to, (from, (tag, kind))), content)
    → nat_lt (longest tag) (length bytes) ≡ false → kind ≡ internet → datagram.read content ≡ Err IpHeader → frame_of bytes ≡ Err IpHeader
unfolding frame_of layers ethernet
frame_fails bytes to from tag kind content e long type fault = rw (e, long, type, fault) refl

-- a frame with an echo request cannot be read as real-time data, ARP or UDP
pub request_unread : (bytes : List ℕ) (request : Request) → request_of bytes ≡ Ok request → frame_of bytes ≡ Err IpHeader
unfolding link
request_unread bytes request e =
    let p = request_parts bytes request e in
    let x = bind_ok ((mac ⨾ mac ⨾ tag_and_type).read bytes) (λ x. Ok (record { destination = x.0.0; source = x.0.1.0; tag = x.0.1.1.0; ether_type = x.0.1.1.1 }, x.1)) (p.header, p.content) p.read in
    let same = ok_is {F = FrameFault} (record { destination = x.0.0.0; source = x.0.0.1.0; tag = x.0.0.1.1.0; ether_type = x.0.0.1.1.1 }, x.0.1) (p.header, p.content) x.2 in
    let long = subst (λ (y : LinkHeader × List ℕ). nat_lt (longest y.0.tag) (length bytes) ≡ false) (sym same) p.long in
    let type = subst (λ (y : LinkHeader × List ℕ). y.0.ether_type ≡ internet) (sym same) p.type in
    let fault = subst (λ (y : LinkHeader × List ℕ). datagram.read y.1 ≡ Err IpHeader) (sym same) (other_packet p.content request.echo ((echo_sound 8).takes p.content request.echo p.message)) in
    frame_fails bytes x.0.0.0 x.0.0.1.0 x.0.0.1.1.0 x.0.0.1.1.1 x.0.1 x.1 long type fault
