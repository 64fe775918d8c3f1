-- Frames that are written, read at fixed places: which of them answer a call.
use Rattle.std.proofs.Common.{◌≡◌, ◌==◌, ◌&&◌, ℕ, Bool, true, false, nat_eq, List, [], ◌∷◌, ◌++◌, length, drop, flat_map, map, Some, None, Ok, refl, sym, ap, subst, ◌∙◌, append_assoc}
use Rattle.std.proofs.lemmas.Bool.{cond-false}
use Rattle.std.proofs.lemmas.List.{append-nil}
use Rattle.std.specs.Cmp.Lexicographic.{pointwise}
use Rattle.std.specs.List.{AllByRecursion}
use Rattle.byteorder.specs.Endian.{big_bytes, big_number}
use Rattle.pn_values.specs.declared.mac.Mac.{Mac}
use Rattle.pn_values.specs.declared.identity.Identity.{Identity}
use Rattle.frame_codec.specs.declared.arp.Arp.{Arp}
use Rattle.frame_codec.specs.declared.arp.ArpOperation.TheVariants.{Reply}
use Rattle.frame_codec.specs.declared.udp.Endpoint.{Endpoint}
use Rattle.frame_codec.specs.Calls.{calls_at}
use Rattle.frame_codec.specs.Frame.{arp, datagram, ethernet, frame_bytes, layers, mac, padding_of, real_time, tag_and_type}
use Rattle.frame_codec.specs.Internet.{internet_header, internet_size, internet_way, packet, size_behind, udp, udp_header}
use Rattle.frame_codec.specs.Meaning.{ArpPacket, RealTime, UdpDatagram}
use Rattle.frame_codec.specs.Sendable.{IsMac, carrying}
use Rattle.rpc_core.specs.declared.interface.Interface.{Interface}
use Rattle.rpc_core.specs.Call.{Asked as Called, call, call_bytes, call_of}
use Rattle.rpc_core.specs.Header.{head, opening}
use Rattle.rpc_core.specs.Pdu.{cut_off, pdu}
use Rattle.rpc_core.specs.Sendable.{CanBeCalled}
use Rattle.rpc_core.proofs.Sound.{call_takes}
use Rattle.cyclic_data.specs.exchange.Frames.{plain_frame, tagged_frame}
use Rattle.device_frames.specs.Sent.{Sent, IdentifyAnswer, GetAnswer, SetAnswer, ArpReply, CallAnswer, Again, ReadyCall, PlugReadyCall, Ends, Exchanges, bytes_of}
use Rattle.device_frames.specs.Sendable.{AreSendable, IsSendable}
use Rattle.octets_law.specs.Octets.{called, number, statuses}
use Rattle.octets_law.proofs.CallPlaces.{IsCallRead, call_placed, skip}
use Rattle.octets_law.proofs.SetFrames.{six}

-- ---- which frames are no answer

and_first : (a b : Bool) → a ≡ false → a && b ≡ false
and_first a b is = ap (λ x. x && b) is

and_both : (a b c : Bool) → a ≡ false → (a && b) && c ≡ false
and_both a b c is = and_first (a && b) c (and_first a b is)

and_second : (a b c : Bool) → b ≡ false → (a && b) && c ≡ false
and_second true b c is = and_first b c is
and_second false b c is = refl

fails : (n m k : ℕ) → n ≡ m → (m == k) ≡ false → (n == k) ≡ false
fails n m k is other = subst (λ x. (x == k) ≡ false) (sym is) other

pub other_type : (asked frame : List ℕ) (n : ℕ) → number 12 2 frame ≡ n → (n == 0x0800) ≡ false → statuses asked frame ≡ []
other_type asked frame n is other =
    cond-false _ _ _ (and_both (number 12 2 frame == 0x0800) (number 0 2 (drop 42 frame) == 0x0402) (pointwise nat_eq (called (drop 42 frame)) (called asked))
    (fails _ n 0x0800 is other))

pub other_kind : (asked frame : List ℕ) (n : ℕ) → number 0 2 (drop 42 frame) ≡ n → (n == 0x0402) ≡ false → statuses asked frame ≡ []
other_kind asked frame n is other =
    cond-false _ _ _ (and_second (number 12 2 frame == 0x0800) (number 0 2 (drop 42 frame) == 0x0402) (pointwise nat_eq (called (drop 42 frame)) (called asked))
    (fails _ n 0x0402 is other))

-- ---- EtherTypes

type_at : (to from rest padding : List ℕ) (a b : ℕ) → length to ≡ 6 → length from ≡ 6 → number 12 2 ((to ++ (from ++ (a ∷ b ∷ rest))) ++ padding) ≡ big_number 2 (a ∷ b ∷ [])
type_at to from rest padding a b t f =
    six (λ to. number 12 2 ((to ++ (from ++ (a ∷ b ∷ rest))) ++ padding) ≡ big_number 2 (a ∷ b ∷ [])) to t (λ c d e g h i.
    six (λ from. number 12 2 (((c ∷ d ∷ e ∷ g ∷ h ∷ i ∷ []) ++ (from ++ (a ∷ b ∷ rest))) ++ padding) ≡ big_number 2 (a ∷ b ∷ [])) from f (λ j k l m n o. refl))

pub plain_is : (source destination : Mac) (id : ℕ) (body : List ℕ) →
    plain_frame source destination (RealTime id body)
    ≡ (destination.octets ++ (source.octets ++ (0x88 ∷ 0x92 ∷ (big_bytes 2 id ++ body)))) ++ padding_of (carrying destination source None (RealTime id body))
unfolding frame_bytes layers ethernet mac tag_and_type real_time
plain_is source destination id body = refl

pub tagged_is : (source destination : Mac) (tag id : ℕ) (body : List ℕ) →
    tagged_frame source destination tag (RealTime id body)
    ≡ (destination.octets ++ (source.octets ++ (0x81 ∷ 0x00 ∷ (big_bytes 2 tag ++ (0x88 ∷ 0x92 ∷ (big_bytes 2 id ++ body)))))) ++ padding_of (carrying destination source (Some tag) (RealTime id body))
unfolding frame_bytes layers ethernet mac tag_and_type real_time
tagged_is source destination tag id body = refl

pub plain_silent : (asked : List ℕ) (source destination : Mac) (id : ℕ) (body : List ℕ) → IsMac source → IsMac destination → statuses asked (plain_frame source destination (RealTime id body)) ≡ []
plain_silent asked source destination id body s d =
    other_type asked (plain_frame source destination (RealTime id body)) 0x8892
    (ap (number 12 2) (plain_is source destination id body) ∙ type_at destination.octets source.octets _ _ 0x88 0x92 d s) refl

pub tagged_silent : (asked : List ℕ) (source destination : Mac) (tag id : ℕ) (body : List ℕ) → IsMac source → IsMac destination
    → statuses asked (tagged_frame source destination tag (RealTime id body)) ≡ []
tagged_silent asked source destination tag id body s d =
    other_type asked (tagged_frame source destination tag (RealTime id body)) 0x8100
    (ap (number 12 2) (tagged_is source destination tag id body) ∙ type_at destination.octets source.octets _ _ 0x81 0x00 d s) refl

packet_is : (source destination : Mac) (asked : Arp) →
    plain_frame source destination (ArpPacket asked)
    ≡ (destination.octets ++ (source.octets ++ (0x08 ∷ 0x06 ∷ arp.write (ArpPacket asked)))) ++ padding_of (carrying destination source None (ArpPacket asked))
unfolding frame_bytes layers ethernet mac tag_and_type
packet_is source destination asked = refl

-- ---- datagrams

behind_headers : (from to : Endpoint) (body more : List ℕ) → length from.address ≡ 4 → length to.address ≡ 4 → drop 28 (datagram.write (UdpDatagram from to body) ++ more) ≡ body ++ more
unfolding datagram packet internet_header internet_size internet_way size_behind udp udp_header
behind_headers from to body more s d =
    ap (drop 16) (append_assoc from.address _ more ∙ ap (λ l. from.address ++ l) (append_assoc to.address _ more))
    ∙ skip 12 4 from.address _ s ∙ skip 8 4 to.address _ d ∙ ap (λ l. l ++ more) (append-nil (body ++ []) ∙ append-nil body)

pub datagram_is : (source destination : Mac) (from to : Endpoint) (body : List ℕ) →
    plain_frame source destination (UdpDatagram from to body)
    ≡ (destination.octets ++ (source.octets ++ (0x08 ∷ 0x00 ∷ datagram.write (UdpDatagram from to body)))) ++ padding_of (carrying destination source None (UdpDatagram from to body))
unfolding frame_bytes layers ethernet mac tag_and_type
datagram_is source destination from to body = refl

-- A frame with a datagram: its EtherType, and its body.
pub record IsDatagram (frame body : List ℕ) : Type 0 where
  pub type : number 12 2 frame ≡ 0x0800
  pub more : List ℕ
  pub is : drop 42 frame ≡ body ++ more

pub datagram_in : (source destination : Mac) (from to : Endpoint) (body : List ℕ) → IsMac source → IsMac destination → length from.address ≡ 4 → length to.address ≡ 4
    → IsDatagram (plain_frame source destination (UdpDatagram from to body)) body
datagram_in source destination from to body s d f t =
    let inside : List ℕ = datagram.write (UdpDatagram from to body) in
    let padding : List ℕ = padding_of (carrying destination source None (UdpDatagram from to body)) in
    subst (λ l. IsDatagram l body) (sym (datagram_is source destination from to body)) (record {
      type = type_at destination.octets source.octets inside padding 0x08 0x00 d s;
      more = padding;
      is = six (λ d. drop 42 ((d ++ (source.octets ++ (0x08 ∷ 0x00 ∷ inside))) ++ padding) ≡ drop 28 (inside ++ padding)) destination.octets d (λ a b c e f g.
          six (λ s. drop 42 ((a ∷ b ∷ c ∷ e ∷ f ∷ g ∷ (s ++ (0x08 ∷ 0x00 ∷ inside))) ++ padding) ≡ drop 28 (inside ++ padding)) source.octets s (λ h i j k l m. refl))
          ∙ behind_headers from to body padding f t;
    })

-- ---- calls

call_kind : (interface : Interface) (asked : Called) (more : List ℕ) → number 0 2 (call_bytes interface asked ++ more) ≡ 0x0400
unfolding call_bytes call pdu cut_off head opening
call_kind interface asked more = refl

pub call_silent : (answered : List ℕ) (interface : Interface) (source destination : Mac) (from to : Endpoint) (asked : Called) → IsMac source → IsMac destination → length from.address ≡ 4
    → length to.address ≡ 4 → statuses answered (plain_frame source destination (UdpDatagram from to (call_bytes interface asked))) ≡ []
call_silent answered interface source destination from to asked s d f t =
    let it = datagram_in source destination from to (call_bytes interface asked) s d f t in
    other_kind answered (plain_frame source destination (UdpDatagram from to (call_bytes interface asked))) 0x0400 (ap (number 0 2) it.is ∙ call_kind interface asked it.more) refl

-- The law by which a call that can be sent is read back.
abbrev pub AreCallsRead : Type 0
AreCallsRead = (interface : Interface) (asked : Called) (more : List ℕ) → CanBeCalled interface asked → call_of interface (call_bytes interface asked ++ more) ≡ Ok asked

-- A call that is written is read at fixed places as it is.
pub call_written : AreCallsRead → (interface : Interface) (source destination : Mac) (from to : Endpoint) (asked : Called) → IsMac source → IsMac destination → length from.address ≡ 4
    → length to.address ≡ 4 → CanBeCalled interface asked → IsCallRead (drop 42 (plain_frame source destination (UdpDatagram from to (call_bytes interface asked)))) asked
call_written read interface source destination from to asked s d f t can =
    let it = datagram_in source destination from to (call_bytes interface asked) s d f t in
    subst (λ l. IsCallRead l asked) (sym it.is)
    (call_placed interface (call_bytes interface asked ++ it.more) asked (call_takes interface (call_bytes interface asked ++ it.more) asked (read interface asked it.more can)))

-- ---- the messages of a device

-- A message that is no answer to a call.
abbrev pub IsNoAnswer : Sent → Type 0
IsNoAnswer (CallAnswer caller address answer) = ⊥
IsNoAnswer (Again frame) = ⊥
IsNoAnswer message = Unit {0}

pub message_silent : (identity : Identity) (asked : List ℕ) (message : Sent) → IsMac identity.mac → IsSendable identity message → IsNoAnswer message → statuses asked (bytes_of identity message) ≡ []
message_silent identity asked (IdentifyAnswer asker running xid) own can none = plain_silent asked identity.mac asker _ _ own can.destination
message_silent identity asked (GetAnswer asker running alias request) own can none = plain_silent asked identity.mac asker _ _ own can.destination
message_silent identity asked (SetAnswer asker request answers) own can none = plain_silent asked identity.mac asker _ _ own can.destination
message_silent identity asked (ArpReply asker address target) own can none =
    let packet : Arp = record { operation = Reply; sender = record { mac = identity.mac; address = address }; target = target } in
    other_type asked (plain_frame identity.mac asker (ArpPacket packet)) 0x0806
    (ap (number 12 2) (packet_is identity.mac asker packet) ∙ type_at asker.octets identity.mac.octets _ _ 0x08 0x06 can.destination own) refl
message_silent identity asked (CallAnswer caller address answer) own can none = absurd none
message_silent identity asked (Again frame) own can none = absurd none
message_silent identity asked (ReadyCall address ready) own can none =
    call_silent asked _ identity.mac ready.partner.mac (calls_at address) (calls_at ready.partner.address) _ own can.destination can.content.0.0 can.content.1.0
message_silent identity asked (PlugReadyCall address ready) own can none =
    call_silent asked _ identity.mac ready.partner.mac (calls_at address) (calls_at ready.partner.address) _ own can.destination can.content.0.0 can.content.1.0
message_silent identity asked (Ends farewell) own can none = tagged_silent asked identity.mac farewell.initiator farewell.tag _ _ own can.destination
message_silent identity asked (Exchanges route frame) own can none = tagged_silent asked identity.mac route.partner _ _ _ own can.destination

both_empty : (one other : List ℕ) → one ≡ [] → other ≡ [] → one ++ other ≡ []
both_empty one other a b = ap (λ l. l ++ other) a ∙ b

-- The frames of such messages have no statuses of an answer.
pub messages_silent : (identity : Identity) (asked : List ℕ) (messages : List Sent) → IsMac identity.mac → AreSendable identity messages → AllByRecursion IsNoAnswer messages
    → flat_map (statuses asked) (map (bytes_of identity) messages) ≡ []
messages_silent identity asked [] own can none = refl
messages_silent identity asked (message ∷ messages) own can none =
    both_empty (statuses asked (bytes_of identity message)) (flat_map (statuses asked) (map (bytes_of identity) messages))
    (message_silent identity asked message own can.0 none.0) (messages_silent identity asked messages own can.1 none.1)
