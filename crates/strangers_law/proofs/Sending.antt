-- What a device sends to a stranger: no cyclic frame, no alarm and no call.
use Rattle.std.proofs.Common.{◌≡◌, subst, ◌⊎◌, inl, inr, ◌==◌, ◌&&◌, ◌||◌, ℕ, Bool, true, false, List, [], ◌∷◌, ◌++◌, drop, map, Option, None, Ok, refl, ap, ◌∙◌}
use Rattle.std.proofs.lemmas.List.{append-nil}
use Rattle.std.specs.List.{AllByRecursion}
use Rattle.byteorder.specs.Endian.{big_number}
use Rattle.pn_values.specs.declared.mac.Mac.{Mac}
use Rattle.pn_values.specs.declared.identity.Identity.{Identity}
use Rattle.frame_codec.specs.declared.arp.Arp.{Arp}
use Rattle.frame_codec.specs.declared.udp.Endpoint.{Endpoint}
use Rattle.rpc_core.specs.Sendable.{CanBeAnswered}
use Rattle.frame_codec.specs.FrameId.{is_alarm, is_cyclic}
use Rattle.frame_codec.specs.Frame.{frame_bytes, frame_of, padding_of}
use Rattle.frame_codec.specs.Meaning.{Meaning, ArpPacket, RealTime, UdpDatagram}
use Rattle.frame_codec.specs.Sendable.{CanBeSent, carrying}
use Rattle.frame_codec.proofs.Frames.{frame_takes}
use Rattle.rpc_core.specs.Response.{Answered, response_bytes, response_of}
use Rattle.rpc_core.proofs.Sound.{response_behind, response_takes}
use Rattle.device_frames.specs.Sent.{Sent, IdentifyAnswer, GetAnswer, SetAnswer, ArpReply, CallAnswer, Again, ReadyCall, PlugReadyCall, Ends, Exchanges, bytes_of}
use Rattle.device_frames.specs.Sendable.{AreSendable, IsSendable}
use Rattle.octets_law.specs.Octets.{number, untagged}
use Rattle.octets_law.proofs.Bare.{bare_of}
use Rattle.octets_law.proofs.Datagrams.{kind_under}
use Rattle.octets_law.proofs.EventSteps.{arp_type, frame_type}
use Rattle.octets_law.proofs.FrameSteps.{frame_timely}
use Rattle.octets_law.proofs.Responses.{response_kind}
use Rattle.strangers_law.specs.Device.{IsIn, IsNoExchange}
use Rattle.strangers_law.specs.Strange.{is_of_exchange}
use Rattle.strangers_law.proofs.Ports.{datagram_is}
use Rattle.strangers_law.proofs.Remaining.{IsAnswer}

-- What decides: EtherType, FrameID, and the first octets of a datagram.
abbrev exchanges : ℕ → ℕ → ℕ → ℕ → Bool
exchanges type id protocol kind = (type == 0x8892 && (is_cyclic id || is_alarm id)) || (type == 0x0800 && protocol == 17 && kind == 0x0400)

decided : (frame : List ℕ) (type id protocol kind : ℕ) → number 12 2 frame ≡ type → number 14 2 frame ≡ id → number 23 1 frame ≡ protocol → number 0 2 (drop 42 frame) ≡ kind
    → exchanges type id protocol kind ≡ false → is_of_exchange frame ≡ false
decided frame type id protocol kind p q s r other =
    ap (λ n. exchanges n (number 14 2 frame) (number 23 1 frame) (number 0 2 (drop 42 frame))) p ∙ ap (λ n. exchanges type n (number 23 1 frame) (number 0 2 (drop 42 frame))) q
    ∙ ap (λ n. exchanges type id n (number 0 2 (drop 42 frame))) s ∙ ap (exchanges type id protocol) r ∙ other

pub real_quiet : (frame : List ℕ) (meaning : Meaning) (id : ℕ) (body : List ℕ) → frame_of frame ≡ Ok meaning → meaning.content ≡ RealTime id body → (is_cyclic id || is_alarm id) ≡ false
    → IsNoExchange frame
real_quiet frame meaning id body read is other =
    let it = frame_timely frame meaning id body (bare_of frame meaning (frame_takes frame meaning read).spelled) is in
    decided (untagged frame) 0x8892 id _ _ it.ether_type it.id refl refl (ap (λ b. b || false) other)

pub arp_quiet : (frame : List ℕ) (meaning : Meaning) (packet : Arp) → frame_of frame ≡ Ok meaning → meaning.content ≡ ArpPacket packet → IsNoExchange frame
arp_quiet frame meaning packet read is =
    let bare = bare_of frame meaning (frame_takes frame meaning read).spelled in
    decided (untagged frame) 0x0806 _ _ _ (frame_type frame meaning bare ∙ arp_type (big_number 2 bare.type) bare.rest meaning.content packet is (kind_under (big_number 2 bare.type) bare.rest meaning.content bare.content))
    refl refl refl refl

pub datagram_quiet : (frame : List ℕ) (meaning : Meaning) (from to : Endpoint) (body : List ℕ) (answer : Answered) → frame_of frame ≡ Ok meaning → meaning.content ≡ UdpDatagram from to body
    → response_of body ≡ Ok answer → IsNoExchange frame
datagram_quiet frame meaning from to body answer read is says =
    let bare = bare_of frame meaning (frame_takes frame meaning read).spelled in
    let it = datagram_is frame meaning from to body bare is in
    decided (untagged frame) 0x0800 _ _ 0x0402 it.type refl refl
    (ap (number 0 2) it.is ∙ response_kind (body ++ it.more) answer (response_behind body it.more answer (response_takes body answer says))) (other_kind (number 23 1 (untagged frame) == 17))
  where
    other_kind : (b : Bool) → b && false ≡ false
    other_kind true = refl
    other_kind false = refl

-- The laws of frames that are sent.
abbrev pub RealTimeIsRead : Type 0
RealTimeIsRead = (destination source : Mac) (tag : Option ℕ) (frame_id : ℕ) (body : List ℕ) → CanBeSent (carrying destination source tag (RealTime frame_id body))
    → frame_of (frame_bytes (carrying destination source tag (RealTime frame_id body)))
    ≡ Ok (carrying destination source tag (RealTime frame_id (body ++ padding_of (carrying destination source tag (RealTime frame_id body)))))

abbrev pub PacketsAreRead : Type 0
PacketsAreRead = (destination source : Mac) (tag : Option ℕ) (packet : Arp) → CanBeSent (carrying destination source tag (ArpPacket packet))
    → frame_of (frame_bytes (carrying destination source tag (ArpPacket packet))) ≡ Ok (carrying destination source tag (ArpPacket packet))

abbrev pub DatagramsAreRead : Type 0
DatagramsAreRead = (destination source : Mac) (tag : Option ℕ) (from to : Endpoint) (body : List ℕ) → CanBeSent (carrying destination source tag (UdpDatagram from to body))
    → frame_of (frame_bytes (carrying destination source tag (UdpDatagram from to body))) ≡ Ok (carrying destination source tag (UdpDatagram from to body))

abbrev pub ResponsesAreRead : Type 0
ResponsesAreRead = (answer : Answered) (more : List ℕ) → CanBeAnswered answer → response_of (response_bytes answer ++ more) ≡ Ok answer

-- A message whose frame is one of these, or none of a relation.
abbrev IsQuietOr : List (List ℕ) → List ℕ → Type 0
IsQuietOr stored frame = IsNoExchange frame ⊎ IsIn frame stored

module _ (identity : Identity) (real_time : RealTimeIsRead) (packets : PacketsAreRead) (datagrams : DatagramsAreRead) (responses : ResponsesAreRead) (stored : List (List ℕ)) where
  answer_quiet : (message : Sent) → IsAnswer stored message → IsSendable identity message → IsQuietOr stored (bytes_of identity message)
  answer_quiet (IdentifyAnswer asker running xid) is can = inl (real_quiet _ _ 65279 _ (real_time asker identity.mac None 65279 _ can) refl refl)
  answer_quiet (GetAnswer asker running alias request) is can = inl (real_quiet _ _ 65277 _ (real_time asker identity.mac None 65277 _ can) refl refl)
  answer_quiet (SetAnswer asker request answers) is can = inl (real_quiet _ _ 65277 _ (real_time asker identity.mac None 65277 _ can) refl refl)
  answer_quiet (ArpReply asker address target) is can = inl (arp_quiet _ _ _ (packets asker identity.mac None _ can) refl)
  answer_quiet (CallAnswer caller address answer) is can =
      inl (datagram_quiet _ _ _ _ _ answer (datagrams caller.mac identity.mac None _ _ _ can.0) refl
      (subst (λ l. response_of l ≡ Ok answer) (append-nil (response_bytes answer)) (responses answer [] can.1)))
  answer_quiet (Again frame) is can = inr is
  answer_quiet (ReadyCall address ready) is can = absurd is
  answer_quiet (PlugReadyCall address ready) is can = absurd is
  answer_quiet (Ends farewell) is can = absurd is
  answer_quiet (Exchanges route frame) is can = absurd is

  pub answers_quiet : (messages : List Sent) → AllByRecursion (IsAnswer stored) messages → AreSendable identity messages
      → AllByRecursion (IsQuietOr stored) (map (bytes_of identity) messages)
  answers_quiet [] are can = tt
  answers_quiet (message ∷ messages) are can = (answer_quiet message are.0 can.0, answers_quiet messages are.1 can.1)
