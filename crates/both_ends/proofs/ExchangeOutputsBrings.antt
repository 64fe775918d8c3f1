-- The frames that bring outputs to a device: of all that either end sends, only a frame of outputs does, and it brings
-- the octets of its image.
use Rattle.std.proofs.Common.{◌≡◌, ◌⊎◌, inl, inr, ◌==◌, ◌&&◌, ◌||◌, ◌<◌, ℕ, Bool, true, false, cond, nat_le, nat_lt, nat_eq, List, [], ◌∷◌, ◌++◌, length, take, drop, map, Option, Some, None, Result, Ok, Err, refl, sym, ap, subst, ◌∙◌, append_assoc, arith}
use Rattle.std.specs.Cmp.Lexicographic.{pointwise}
use Rattle.std.specs.List.{AllByRecursion}
use Rattle.std.proofs.Math.Seq.{take-append_seam}
use Rattle.std.proofs.lemmas.List.FromFn.{length-map-range_with_len}
use Rattle.wire.specs.Codec.{IsSound, ◌>>=◌}
use Rattle.wire.specs.Formats.{big_bytes, big_number}
use Rattle.pn_values.specs.declared.identity.Identity.{Identity}
use Rattle.pn_values.specs.declared.mac.Mac.{Mac}
use Rattle.frame_codec.specs.declared.fault.FrameFault.{FrameFault}
use Rattle.frame_codec.specs.FrameId.{is_alarm, is_cyclic}
use Rattle.frame_codec.specs.Meaning.{Content, RealTime, ArpPacket, UdpDatagram, Meaning, IsOther}
use Rattle.frame_codec.specs.Frame.{content_under, ethernet, frame_bytes, frame_of, padding_of, real_time, type_of}
use Rattle.frame_codec.specs.Sendable.{CanBeSent, IsMac, IsTag, carrying}
use Rattle.dcp_core.specs.declared.request.DcpFault.{DcpFault}
use Rattle.dcp_core.specs.Request.{Asked}
use Rattle.dcp_core.specs.Reading.{request_of}
use Rattle.cyclic_data.specs.declared.tail.CyclicTail.{CyclicTail}
use Rattle.cyclic_data.specs.declared.tail.ShortFrame.{ShortFrame}
use Rattle.cyclic_data.specs.Image.{Shown as Image, octet_at, octets_of}
use Rattle.cyclic_data.specs.Tail.{cyclic_bytes, cyclic_frame, cyclic_of, cyclic_tail, short}
use Rattle.cyclic_data.specs.declared.exchange.route.Route.{Route}
use Rattle.cyclic_data.specs.exchange.Frames.{cyclic_body, running_at}
use Rattle.pn_alarms.specs.declared.fault.AlarmFault.{AlarmFault}
use Rattle.pn_alarms.specs.declared.pdu.Header.{Header}
use Rattle.pn_alarms.specs.Message.{ToDevice, message_of}
use Rattle.device_frames.specs.declared.event.Event.TheVariants.{Frame}
use Rattle.frame_codec.specs.declared.arp.Arp.{Arp}
use Rattle.frame_codec.specs.declared.udp.Endpoint.{Endpoint}
use Rattle.dcp_core.specs.Identify.{identify_bytes}
use Rattle.dcp_core.specs.Get.{get_bytes}
use Rattle.dcp_core.specs.Set.{set_bytes}
use Rattle.dcp_core.specs.Writing.{request_bytes}
use Rattle.rpc_core.specs.declared.interface.Interface.TheVariants.{Device}
use Rattle.rpc_core.specs.Call.{Asked as Call, call_bytes}
use Rattle.rpc_core.specs.Response.{response_bytes}
use Rattle.pn_alarms.specs.declared.pdu.PduType.{PduType}
use Rattle.pn_alarms.specs.declared.pdu.PduType.TheVariants as pdu
use Rattle.pn_alarms.specs.Format.{Said, frame_id_of, pdu_bytes}
use Rattle.relations.specs.declared.options.DeviceOptions.{DeviceOptions}
use Rattle.relations.specs.Numbers.{is_id_from, is_own_id}
use Rattle.relations.specs.exchange.Frames.{tag_of}
use Rattle.plans.specs.Connect.{alarm_block}
use Rattle.device_frames.specs.Sent.{Sent, IdentifyAnswer, GetAnswer, SetAnswer, ArpReply, CallAnswer, Again, ReadyCall, PlugReadyCall, Ends, Exchanges, bytes_of, exchange_content, farewell_content, plug_ready_content, ready_content, reply_content, response_content}
use Rattle.device_frames.specs.Sendable.{IsSendable}
use Rattle.controller_messages.specs.declared.request.Request.{Request}
use Rattle.controller_messages.specs.declared.request.Request.TheVariants as asks
use Rattle.controller_messages.specs.PlugRequests.{plug_call}
use Rattle.controller_messages.specs.RecordRequests.{record_call}
use Rattle.controller_messages.specs.Requests.{address_asked, call_for, identify_asked}
use Rattle.diagnosis.specs.declared.reports.priority.Priority.{Priority}
use Rattle.diagnosis.specs.declared.reports.priority.Priority.TheVariants.{High, Low}
use Rattle.diagnosis.specs.reports.Priority.{frame_id_at}
use Rattle.controller_messages.specs.Sent.{Sent as Message, Requests, Accesses, Parametrizes, Agrees, Cycles, Confirms, Replies, Ends as Leaves, ack_pdu, alarm_frame, bytes_of as bytes_said, call_frame, calls_at, end_frame, end_pdu, identify_multicast, reply_pdu, request_frame, tag_of as tag_at}
use Rattle.device_frames.specs.Heard.{Heard, Cyclic, Elsewhere, Resolves, Reported, Unreadable, broadcast, heard_alarm, heard_content, heard_frame, heard_of, heard_request, is_own, is_taken, said_by}
use Rattle.controller_messages.specs.declared.setup.Setup.{Setup}
use Rattle.end_laws.specs.both.Outputs.{BringsNone, Outputs}
use Rattle.both_ends.proofs.ExchangeHeardAlarm.{alarm_holds}
use Rattle.both_ends.specs.exchange.Shown.{brought_in, is_output, octets_in, outputs_of, zeros_for}
use Rattle.both_ends.proofs.ExchangeOutputsRead.{IsReadAs, arp_other, datagram_other, real_time_is, reads_as, rest_of}

holds_if : {A : Type 0} (P : A → Type 0) (b : Bool) (x y : A) → P x → P y → P (cond b x y)
holds_if P true x y one other = one
holds_if P false x y one other = other

-- ---- the octets at the front of a body

abbrev raw_if : ℕ → List ℕ → Bool → Result (List ℕ × List ℕ) ShortFrame
raw_if n bytes b = cond b (Err short) (Ok (take n bytes, drop n bytes))

abbrev tail_behind : List ℕ → Result (CyclicTail × List ℕ) ShortFrame → Result ((List ℕ × CyclicTail) × List ℕ) ShortFrame
tail_behind octets read = read >>= λ y. Ok ((octets, y.0), y.1)

abbrev first_of : Result ((List ℕ × CyclicTail) × List ℕ) ShortFrame → Result (List ℕ × CyclicTail) ShortFrame
first_of read = read >>= λ x. Ok x.0

abbrev AreAtMost : List ℕ → Option (List ℕ) → Type 0
AreAtMost taken octets = (octets ≡ None) ⊎ (octets ≡ Some taken)

with_tail : (n : ℕ) (bytes taken : List ℕ) → take n bytes ≡ taken → (read : Result (CyclicTail × List ℕ) ShortFrame)
    → AreAtMost taken (octets_in (first_of (tail_behind (take n bytes) read)))
with_tail n bytes taken e (Ok y) = inr (ap (λ (xs : List ℕ). Some xs) e)
with_tail n bytes taken e (Err fault) = inl refl

by_length : (n : ℕ) (bytes taken : List ℕ) → take n bytes ≡ taken → (b : Bool)
    → AreAtMost taken (octets_in (first_of (raw_if n bytes b >>= λ x. tail_behind x.0 (cyclic_tail.read x.1))))
by_length n bytes taken e true = inl refl
by_length n bytes taken e false = with_tail n bytes taken e (cyclic_tail.read (drop n bytes))

at_most : (n : ℕ) (bytes taken : List ℕ) → take n bytes ≡ taken → AreAtMost taken (octets_in (cyclic_of n bytes))
unfolding cyclic_frame
at_most n bytes taken e = by_length n bytes taken e (nat_lt (length bytes) n)

body_is : (octets : List ℕ) (tail : CyclicTail) (padding : List ℕ) → cyclic_bytes octets tail [] ++ padding ≡ octets ++ (cyclic_tail.write tail [] ++ padding)
unfolding cyclic_frame
body_is octets tail padding = append_assoc octets (cyclic_tail.write tail []) padding

read_octets : (octets : List ℕ) (tail : CyclicTail) (padding : List ℕ) → AreAtMost octets (octets_in (cyclic_of (length octets) (cyclic_bytes octets tail [] ++ padding)))
read_octets octets tail padding =
    at_most (length octets) (cyclic_bytes octets tail [] ++ padding) octets
    (ap (λ (xs : List ℕ). take (length octets) xs) (body_is octets tail padding) ∙ take-append_seam octets (cyclic_tail.write tail [] ++ padding))

octets_length : (shown : Image) → length (octets_of shown) ≡ shown.data_length
unfolding octets_of
octets_length shown = length-map-range_with_len (octet_at shown.cells) 0 shown.data_length

-- a message that is not a repeated response, or one that brings nothing
abbrev pub IsKnown : Outputs Image Image → Sent → Type 0
IsKnown rules (Again frame) = BringsNone rules frame
IsKnown rules other = Unit {0}

and_false : (a b : Bool) → b ≡ false → (a && b) ≡ false
and_false true b e = e
and_false false b e = refl

-- a FrameID that no device chooses for outputs
abbrev IsNoChoice : ℕ → Type 0
IsNoChoice frame_id = ((frame_id == 0xC000) ≡ false) × ((nat_le 0xC000 frame_id && nat_le frame_id 0xF7FF) ≡ false)

no_choice : (numbers_from : Option ℕ) (frame_id : ℕ) → IsNoChoice frame_id → is_id_from numbers_from frame_id ≡ false
no_choice None frame_id none = none.0
no_choice (Some first) frame_id none = none.1

-- a route on which a controller sends: the address of its partner and both tags have their sizes
pub record IsWay (route : Route) : Type 0 where
  pub partner : IsMac route.partner
  pub sent_tag : route.sent_tag < 65536
  pub alarm_tag : route.alarm_tag < 65536

-- a message that goes to a station
abbrev pub IsAddressed : Message → Type 0
IsAddressed (Requests device request) = IsMac device
IsAddressed (Accesses device request octets) = IsMac device
IsAddressed (Parametrizes device request) = IsMac device
IsAddressed (Agrees caller answer) = IsMac caller.mac
IsAddressed (Cycles route shown counter) = IsWay route
IsAddressed (Confirms route priority header ack) = IsWay route
IsAddressed (Replies route priority header) = IsWay route
IsAddressed (Leaves route header reason) = IsWay route

-- the outputs that are sent are those of the current image
abbrev pub IsNow : Image → Message → Type 0
IsNow shown (Cycles route other counter) = other ≡ shown
IsNow shown other = Unit {0}

module _ (options : DeviceOptions) (setup : Setup) (identity : Identity) where
  abbrev rules : Outputs Image Image
  rules = outputs_of options setup identity

  -- ---- what is heard of contents

  abbrev IsNone : Heard → Type 0
  IsNone heard = brought_in options setup heard ≡ None

  request_none : (source : Mac) (read : Result Asked DcpFault) → IsNone (heard_request source read)
  request_none source (Ok request) = refl
  request_none source (Err fault) = refl

  alarm_none : (source : Mac) (frame_id : ℕ) (body : List ℕ) (read : Result (Header × ToDevice) AlarmFault) → IsNone (heard_alarm source frame_id body read)
  alarm_none = alarm_holds IsNone (λ source header message. refl) (λ source header message. refl) (λ source header message. refl) refl

  -- what a cyclic frame of real-time data would bring, or nothing
  abbrev IsAtMost : Mac → ℕ → List ℕ → Heard → Type 0
  IsAtMost source frame_id body heard = IsNone heard ⊎ (brought_in options setup heard ≡ brought_in options setup (Cyclic source frame_id body))

  abbrev cyclic_of_own : Mac → Mac → ℕ → List ℕ → Heard
  cyclic_of_own destination source frame_id body = cond (is_own identity destination && is_cyclic frame_id) (Cyclic source frame_id body) Elsewhere

  abbrev alarm_of_own : Mac → Mac → ℕ → List ℕ → Heard
  alarm_of_own destination source frame_id body =
      cond (is_own identity destination && is_alarm frame_id) (heard_alarm source frame_id body (message_of body)) (cyclic_of_own destination source frame_id body)

  real_time_at_most : (destination source : Mac) (frame_id : ℕ) (body : List ℕ) → IsAtMost source frame_id body (heard_content identity destination source (RealTime frame_id body))
  real_time_at_most destination source frame_id body =
      holds_if (IsAtMost source frame_id body) (is_taken identity destination frame_id) (heard_request source (request_of frame_id body)) (alarm_of_own destination source frame_id body)
      (inl (request_none source (request_of frame_id body)))
      (holds_if (IsAtMost source frame_id body) (is_own identity destination && is_alarm frame_id) (heard_alarm source frame_id body (message_of body)) (cyclic_of_own destination source frame_id body)
      (inl (alarm_none source frame_id body (message_of body)))
      (holds_if (IsAtMost source frame_id body) (is_own identity destination && is_cyclic frame_id) (Cyclic source frame_id body) Elsewhere (inr refl) (inl refl)))

  other_none : (destination source : Mac) (content : Content) → IsOther content → IsNone (heard_content identity destination source content)
  other_none destination source (RealTime frame_id body) is = absurd is
  other_none destination source (ArpPacket packet) is =
      holds_if IsNone (is_own identity destination || pointwise nat_eq destination.octets broadcast) (Resolves source packet) Elsewhere refl refl
  other_none destination source (UdpDatagram from to body) is =
      holds_if IsNone (is_own identity destination && to.port == 34964) (Reported (record { mac = source; endpoint = from }) to.address (said_by body)) Elsewhere refl refl

  -- ---- what is heard of a frame that was written

  abbrev Brings : (Heard → Type 0) → Meaning → Type 0
  Brings P meaning = P (heard_of identity (Frame (record { items = frame_bytes meaning })))

  -- from what is read of it
  by_read : (P : Heard → Type 0) (meaning : Meaning) (read : Result Meaning FrameFault) → IsReadAs meaning (rest_of meaning) read → P Unreadable
      → ((content : Content) → (content_under (type_of meaning.content)).read (rest_of meaning) ≡ Ok content → P (heard_content identity meaning.destination meaning.source content))
      → P (heard_frame identity read)
  by_read P meaning (Ok found) is unreadable each =
      subst (λ (m : Mac). P (heard_content identity m found.source found.content)) (sym is.0)
      (subst (λ (m : Mac). P (heard_content identity meaning.destination m found.content)) (sym is.1) (each found.content is.2))
  by_read P meaning (Err fault) is unreadable each = unreadable

  by_frame : IsSound ethernet → (P : Heard → Type 0) (meaning : Meaning) → IsMac meaning.destination → IsMac meaning.source → IsTag meaning.tag → P Unreadable
      → ((content : Content) → (content_under (type_of meaning.content)).read (rest_of meaning) ≡ Ok content → P (heard_content identity meaning.destination meaning.source content))
      → Brings P meaning
  unfolding heard_of
  by_frame sound P meaning one other tagged unreadable each =
      by_read P meaning (frame_of (frame_bytes meaning)) (reads_as sound meaning one other tagged) unreadable each

  -- real-time data is heard as such, under the number of its FrameID
  real_time_heard : IsSound ethernet → (P : Heard → Type 0) (destination source : Mac) (tag : Option ℕ) (frame_id : ℕ) (body : List ℕ) → IsMac destination → IsMac source → IsTag tag → P Unreadable
      → P (heard_content identity destination source (RealTime (big_number 2 (big_bytes 2 frame_id)) (body ++ padding_of (carrying destination source tag (RealTime frame_id body)))))
      → Brings P (carrying destination source tag (RealTime frame_id body))
  unfolding real_time
  real_time_heard sound P destination source tag frame_id body one other tagged unreadable there =
      let meaning = carrying destination source tag (RealTime frame_id body) in
      let behind = body ++ padding_of meaning in
      let rest_is : rest_of meaning ≡ big_bytes 2 frame_id ++ behind = append_assoc (big_bytes 2 frame_id) body (padding_of meaning) in
      by_frame sound P meaning one other tagged unreadable (λ content read.
      subst (λ (c : Content). P (heard_content identity destination source c))
      (sym (real_time_is frame_id behind content (ap (λ (xs : List ℕ). real_time.read xs) (sym rest_is) ∙ read))) there)

  -- a datagram and a packet of ARP bring nothing
  datagram_silent : IsSound ethernet → (destination source : Mac) (tag : Option ℕ) (from to : Endpoint) (body : List ℕ) → IsMac destination → IsMac source → IsTag tag
      → BringsNone rules (frame_bytes (carrying destination source tag (UdpDatagram from to body)))
  datagram_silent sound destination source tag from to body one other tagged =
      let meaning = carrying destination source tag (UdpDatagram from to body) in
      by_frame sound IsNone meaning one other tagged refl (λ content read. other_none destination source content (datagram_other (rest_of meaning) content read))

  packet_silent : IsSound ethernet → (destination source : Mac) (tag : Option ℕ) (packet : Arp) → IsMac destination → IsMac source → IsTag tag
      → BringsNone rules (frame_bytes (carrying destination source tag (ArpPacket packet)))
  packet_silent sound destination source tag packet one other tagged =
      let meaning = carrying destination source tag (ArpPacket packet) in
      by_frame sound IsNone meaning one other tagged refl (λ content read. other_none destination source content (arp_other (rest_of meaning) content read))

  -- real-time data of another station than the controller, or with a FrameID that the device does not choose, brings nothing
  data_silent : IsSound ethernet → (destination source : Mac) (tag : Option ℕ) (frame_id : ℕ) (body : List ℕ) → IsMac destination → IsMac source → IsTag tag
      → is_output options setup source (big_number 2 (big_bytes 2 frame_id)) ≡ false
      → BringsNone rules (frame_bytes (carrying destination source tag (RealTime frame_id body)))
  data_silent sound destination source tag frame_id body one other tagged foreign =
      let id = big_number 2 (big_bytes 2 frame_id) in
      let behind = body ++ padding_of (carrying destination source tag (RealTime frame_id body)) in
      real_time_heard sound IsNone destination source tag frame_id body one other tagged refl
      (by_choice (heard_content identity destination source (RealTime id behind)) id behind (real_time_at_most destination source id behind) foreign)
    where
      none_if : (source : Mac) (id : ℕ) (behind : List ℕ) → is_output options setup source id ≡ false → brought_in options setup (Cyclic source id behind) ≡ None
      none_if source id behind e = ap (λ (b : Bool). cond b (octets_in (cyclic_of (zeros_for setup).data_length behind)) None) e

      by_choice : (heard : Heard) (id : ℕ) (behind : List ℕ) → IsAtMost source id behind heard → is_output options setup source id ≡ false → IsNone heard
      by_choice heard id behind (inl none) e = none
      by_choice heard id behind (inr same) e = same ∙ none_if source id behind e

  abbrev OneOf : Image → Heard → Type 0
  OneOf shown heard = AreAtMost (octets_of shown) (brought_in options setup heard)

  -- a frame of outputs brings the octets of its image, or nothing
  pub outputs_bring : IsSound ethernet → (source : Mac) (route : Route) (shown : Image) (counter : ℕ) → IsMac route.partner → IsMac source → route.sent_tag < 65536
      → shown.data_length ≡ (zeros_for setup).data_length
      → BringsNone rules (frame_bytes (carrying route.partner source (Some route.sent_tag) (RealTime route.sent_id (cyclic_body shown counter))))
      ⊎ (rules.brought_by (frame_bytes (carrying route.partner source (Some route.sent_tag) (RealTime route.sent_id (cyclic_body shown counter)))) ≡ Some (octets_of shown))
  outputs_bring sound source route shown counter one other tagged size =
      let destination = route.partner in
      let tag : Option ℕ = Some route.sent_tag in
      let body = cyclic_body shown counter in
      let id = big_number 2 (big_bytes 2 route.sent_id) in
      let behind = body ++ padding_of (carrying destination source tag (RealTime route.sent_id body)) in
      real_time_heard sound (OneOf shown) destination source tag route.sent_id body one other tagged (inl refl)
      (by_choice (heard_content identity destination source (RealTime id behind)) id (padding_of (carrying destination source tag (RealTime route.sent_id body)))
      (real_time_at_most destination source id behind))
    where
      octets_at : (padding : List ℕ) → AreAtMost (octets_of shown) (octets_in (cyclic_of (zeros_for setup).data_length (cyclic_body shown counter ++ padding)))
      octets_at padding = subst (λ (n : ℕ). AreAtMost (octets_of shown) (octets_in (cyclic_of n (cyclic_body shown counter ++ padding)))) (octets_length shown ∙ size)
          (read_octets (octets_of shown) (running_at counter) padding)

      by_partner : (padding : List ℕ) (b : Bool) → AreAtMost (octets_of shown) (cond b (octets_in (cyclic_of (zeros_for setup).data_length (cyclic_body shown counter ++ padding))) None)
      by_partner padding true = octets_at padding
      by_partner padding false = inl refl

      by_choice : (heard : Heard) (id : ℕ) (padding : List ℕ) → IsAtMost source id (cyclic_body shown counter ++ padding) heard → OneOf shown heard
      by_choice heard id padding (inl none) = inl none
      by_choice heard id padding (inr same) =
          subst (λ (o : Option (List ℕ)). AreAtMost (octets_of shown) o) (sym same) (by_partner padding (is_output options setup source id))

  -- ---- what a device sends

  module _ (sound : IsSound ethernet) (apart : pointwise nat_eq identity.mac.octets setup.plan.controller.mac.octets ≡ false) where
    own_foreign : (frame_id : ℕ) → is_output options setup identity.mac frame_id ≡ false
    own_foreign frame_id = ap (λ (b : Bool). b && is_own_id options frame_id) apart

    own_silent : (destination : Mac) (tag : Option ℕ) (content : Content) → CanBeSent (carrying destination identity.mac tag content)
        → BringsNone rules (frame_bytes (carrying destination identity.mac tag content))
    own_silent destination tag (RealTime frame_id body) can =
        data_silent sound destination identity.mac tag frame_id body can.destination can.source can.tag (own_foreign (big_number 2 (big_bytes 2 frame_id)))
    own_silent destination tag (ArpPacket packet) can = packet_silent sound destination identity.mac tag packet can.destination can.source can.tag
    own_silent destination tag (UdpDatagram from to body) can = datagram_silent sound destination identity.mac tag from to body can.destination can.source can.tag

    -- no message brings outputs
    pub message_silent : (message : Sent) → IsSendable identity message → IsKnown rules message → BringsNone rules (bytes_of identity message)
    message_silent (IdentifyAnswer asker running xid) can known = own_silent asker None (RealTime 65279 (identify_bytes identity running xid)) can
    message_silent (GetAnswer asker running alias request) can known = own_silent asker None (RealTime 65277 (get_bytes identity running alias request)) can
    message_silent (SetAnswer asker request answers) can known = own_silent asker None (RealTime 65277 (set_bytes request answers)) can
    message_silent (ArpReply asker address target) can known = own_silent asker None (reply_content identity address target) can
    message_silent (CallAnswer caller address answer) can known = own_silent caller.mac None (response_content caller address answer) can.0
    message_silent (Again frame) can known = known
    message_silent (ReadyCall address ready) can known = own_silent ready.partner.mac None (ready_content address ready) can
    message_silent (PlugReadyCall address ready) can known = own_silent ready.partner.mac None (plug_ready_content address ready) can
    message_silent (Ends farewell) can known = own_silent farewell.initiator (Some farewell.tag) (farewell_content farewell) can
    message_silent (Exchanges route frame) can known = own_silent route.partner (Some (tag_of route frame)) (exchange_content route frame) can

  -- a frame brings nothing, or the octets of this image
  abbrev pub BringsNow : Image → List ℕ → Type 0
  BringsNow shown frame = BringsNone rules frame ⊎ (rules.brought_by frame ≡ Some (octets_of shown))

  -- ---- what a controller sends

  module _ (sound : IsSound ethernet) (six : IsMac setup.plan.controller.mac) where
    abbrev mine : Mac
    mine = setup.plan.controller.mac

    other_id : (frame_id : ℕ) → IsNoChoice (big_number 2 (big_bytes 2 frame_id)) → is_output options setup mine (big_number 2 (big_bytes 2 frame_id)) ≡ false
    other_id frame_id none =
        let id = big_number 2 (big_bytes 2 frame_id) in
        and_false (pointwise nat_eq mine.octets setup.plan.controller.mac.octets) (is_own_id options id) (no_choice options.numbers_from id none)

    alarm_id : (priority : Priority) (kind : PduType) → IsNoChoice (big_number 2 (big_bytes 2 (frame_id_at priority kind)))
    alarm_id Low kind = (refl, refl)
    alarm_id High pdu.Data = (refl, refl)
    alarm_id High pdu.Nack = (refl, refl)
    alarm_id High pdu.Ack = (refl, refl)
    alarm_id High pdu.Error = (refl, refl)

    tag_small : (route : Route) (priority : Priority) → IsWay route → tag_at route priority < 65536
    tag_small route High way = way.alarm_tag
    tag_small route Low way = omega arith

    multicast_six : IsMac identify_multicast
    unfolding identify_multicast
    multicast_six = refl

    call_silent : (device : Mac) (call : Call) → IsMac device → BringsNone rules (call_frame setup device call)
    call_silent device call one =
        datagram_silent sound device mine None (calls_at setup.plan.controller.address) (calls_at setup.plan.station.suite.address) (call_bytes Device call) one six tt

    pub request_silent : (device : Mac) (request : Request) → IsMac device → BringsNone rules (request_frame setup device request)
    request_silent device asks.Identify one =
        data_silent sound identify_multicast mine None 0xFEFE (request_bytes (identify_asked setup.plan)) multicast_six six tt (other_id 0xFEFE (refl, refl))
    request_silent device asks.Address one = data_silent sound device mine None 0xFEFD (request_bytes (address_asked setup.plan)) one six tt (other_id 0xFEFD (refl, refl))
    request_silent device asks.Connect one = call_silent device (call_for setup asks.Connect) one
    request_silent device (asks.Write number) one = call_silent device (call_for setup (asks.Write number)) one
    request_silent device asks.PrmEnd one = call_silent device (call_for setup asks.PrmEnd) one
    request_silent device (asks.Release sequence) one = call_silent device (call_for setup (asks.Release sequence)) one
    request_silent device (asks.WriteAfter number tries) one = call_silent device (call_for setup (asks.WriteAfter number tries)) one
    request_silent device (asks.PrmEndAfter tries) one = call_silent device (call_for setup (asks.PrmEndAfter tries)) one

    alarm_silent : (route : Route) (priority : Priority) (said : Said) → IsWay route → BringsNone rules (alarm_frame setup route priority said)
    alarm_silent route priority said way =
        data_silent sound route.partner mine (Some (tag_at route priority)) (frame_id_at priority said.header.kind) (pdu_bytes said) way.partner six (tag_small route priority way)
        (other_id (frame_id_at priority said.header.kind) (alarm_id priority said.header.kind))

    end_silent : (route : Route) (said : Said) → IsWay route → BringsNone rules (end_frame setup route said)
    end_silent route said way =
        data_silent sound route.partner mine (Some alarm_block.tag_header_low) (frame_id_of pdu.Error) (pdu_bytes said) way.partner six (omega arith) (other_id (frame_id_of pdu.Error) (refl, refl))

    pub message_brings : (shown : Image) → shown.data_length ≡ (zeros_for setup).data_length → (message : Message) → IsNow shown message → IsAddressed message
        → BringsNow shown (bytes_said setup message)
    message_brings shown size (Cycles route other counter) now way =
        subst (λ (image : Image). BringsNow image (bytes_said setup (Cycles route other counter))) now
        (outputs_bring sound mine route other counter way.partner six way.sent_tag (ap (λ (image : Image). image.data_length) now ∙ size))
    message_brings shown size (Requests device request) now one = inl (request_silent device request one)
    message_brings shown size (Accesses device request octets) now one = inl (call_silent device (record_call setup request octets) one)
    message_brings shown size (Parametrizes device request) now one = inl (call_silent device (plug_call setup request) one)
    message_brings shown size (Agrees caller answer) now one =
        inl (datagram_silent sound caller.mac mine None (calls_at setup.plan.controller.address) caller.endpoint (response_bytes answer) one six tt)
    message_brings shown size (Confirms route priority header ack) now way = inl (alarm_silent route priority (ack_pdu priority header ack) way)
    message_brings shown size (Replies route priority header) now way = inl (alarm_silent route priority (reply_pdu header) way)
    message_brings shown size (Leaves route header reason) now way = inl (end_silent route (end_pdu header reason) way)

    pub all_bring : (shown : Image) → shown.data_length ≡ (zeros_for setup).data_length → (sent : List Message) → AllByRecursion (IsNow shown) sent → AllByRecursion IsAddressed sent
        → AllByRecursion (BringsNow shown) (map (bytes_said setup) sent)
    all_bring shown size [] now to = tt
    all_bring shown size (message ∷ sent) now to = (message_brings shown size message now.0 to.0, all_bring shown size sent now.1 to.1)
