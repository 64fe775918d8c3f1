-- The frames that bring inputs to a controller: of all that either end sends, only a frame of inputs does, and it brings the
-- octets of its image.
use Rattle.std.proofs.Common.{◌≡◌, ◌⊎◌, inl, inr, ◌==◌, ◌<◌, ℕ, Bool, true, false, cond, nat_lt, nat_eq, List, [], ◌∷◌, ◌++◌, length, take, drop, map, Option, Some, None, Result, Ok, Err, refl, sym, ap, subst, ◌∙◌, append_assoc, arith}
use Rattle.std.specs.Cmp.Lexicographic.{pointwise}
use Rattle.std.specs.List.{AllByRecursion}
use Rattle.std.proofs.Math.Seq.{take-append_seam}
use Rattle.std.proofs.lemmas.List.FromFn.{length-map-range_with_len}
use Rattle.wire.specs.Codec.{IsSound, ◌>>=◌}
use Rattle.wire.specs.Formats.{big_bytes, big_number}
use Rattle.pn_values.specs.declared.identity.Identity.{Identity}
use Rattle.pn_values.specs.declared.mac.Mac.{Mac}
use Rattle.frame_codec.specs.declared.fault.FrameFault.{FrameFault}
use Rattle.frame_codec.specs.declared.udp.Caller.{Caller}
use Rattle.frame_codec.specs.declared.udp.Endpoint.{Endpoint}
use Rattle.frame_codec.specs.FrameId.{is_alarm, is_cyclic}
use Rattle.frame_codec.specs.Meaning.{Content, RealTime, ArpPacket, UdpDatagram, Meaning, IsOther}
use Rattle.frame_codec.specs.Frame.{content_under, ethernet, frame_bytes, frame_of, padding_of, real_time, type_of}
use Rattle.frame_codec.specs.Sendable.{CanBeSent, IsMac, IsTag, carrying}
use Rattle.dcp_core.specs.declared.request.DcpFault.{DcpFault}
use Rattle.dcp_core.specs.Answer.{answer_of}
use Rattle.dcp_core.specs.Response.{Answered}
use Rattle.dcp_core.specs.Identify.{identify_bytes}
use Rattle.dcp_core.specs.Get.{get_bytes}
use Rattle.dcp_core.specs.Set.{set_bytes}
use Rattle.dcp_core.specs.Writing.{request_bytes}
use Rattle.rpc_core.specs.declared.fault.RpcFault.{RpcFault}
use Rattle.rpc_core.specs.declared.interface.Interface.TheVariants.{Device, Controller as controllers}
use Rattle.rpc_core.specs.Call.{Asked as Call, call_bytes, call_of}
use Rattle.rpc_core.specs.Response.{Answered as Response, response_bytes, response_of}
use Rattle.cyclic_data.specs.declared.status.StationState.{StationState}
use Rattle.cyclic_data.specs.declared.tail.CyclicTail.{CyclicTail}
use Rattle.cyclic_data.specs.declared.tail.ShortFrame.{ShortFrame}
use Rattle.cyclic_data.specs.Image.{Shown as Image, octet_at, octets_of}
use Rattle.cyclic_data.specs.Tail.{cyclic_bytes, cyclic_frame, cyclic_of, cyclic_tail, short}
use Rattle.cyclic_data.specs.declared.exchange.route.Route.{Route}
use Rattle.cyclic_data.specs.exchange.Frames.{body_at, cyclic_body, tail_at}
use Rattle.pn_alarms.specs.declared.fault.AlarmFault.{AlarmFault}
use Rattle.pn_alarms.specs.declared.pdu.Header.{Header}
use Rattle.pn_alarms.specs.declared.pdu.PduType.{PduType}
use Rattle.pn_alarms.specs.declared.pdu.PduType.TheVariants as pdu
use Rattle.pn_alarms.specs.Format.{Said, frame_id_of, pdu_bytes}
use Rattle.diagnosis.specs.declared.reports.priority.Priority.{Priority}
use Rattle.diagnosis.specs.declared.reports.priority.Priority.TheVariants.{High, Low}
use Rattle.diagnosis.specs.reports.Message.{ToController, alarm_of}
use Rattle.diagnosis.specs.reports.Priority.{frame_id_at}
use Rattle.relations.specs.exchange.Frames.{Inputs, Notifies, Replies, Reports, RepliesLow, body_of}
use Rattle.plans.specs.Connect.{alarm_block}
use Rattle.device_frames.specs.Sent.{Sent, IdentifyAnswer, GetAnswer, SetAnswer, ArpReply, CallAnswer, Again, ReadyCall, PlugReadyCall, Ends, Exchanges, bytes_of, plug_ready_content, ready_content, reply_content}
use Rattle.device_frames.specs.Sendable.{AreSendable, IsSendable}
use Rattle.controller_messages.specs.declared.refusal.Refusal.{Refusal}
use Rattle.controller_messages.specs.declared.request.Request.{Request}
use Rattle.controller_messages.specs.declared.request.Request.TheVariants as asks
use Rattle.controller_messages.specs.declared.setup.Setup.{Setup}
use Rattle.controller_messages.specs.Heard.{Heard, Nothing, Cyclic, heard_alarm, heard_answer, heard_body, heard_call, heard_content, heard_first, heard_of, heard_read, heard_real_time, heard_refusal, heard_response, is_to}
use Rattle.controller_messages.specs.PlugRequests.{plug_call}
use Rattle.controller_messages.specs.RecordRequests.{record_call}
use Rattle.controller_messages.specs.Refusal.{refusal_of}
use Rattle.controller_messages.specs.Requests.{address_asked, call_for, identify_asked}
use Rattle.controller_messages.specs.Sent.{Sent as Message, Requests, Accesses, Parametrizes, Agrees, Cycles, Confirms, Replies as Confirmed, Ends as Leaves, ack_pdu, alarm_frame, bytes_of as bytes_said, call_frame, calls_at, end_pdu, identify_multicast, reply_pdu, request_frame, tag_of as tag_at}
use Rattle.both_ends.specs.exchange.Shown.{octets_in}
use Rattle.both_ends.proofs.ExchangeLists.{holds_if}
use Rattle.both_ends.proofs.ExchangeOutputsBrings.{IsAddressed, IsWay}
use Rattle.both_ends.proofs.ExchangeOutputsRead.{IsReadAs, arp_other, datagram_other, real_time_is, reads_as, rest_of}
use Rattle.inputs_law.specs.Shown.{brought_by, brought_in, zeros_for}

-- ---- the octets at the front of a body

abbrev raw_if : ℕ → List ℕ → Bool → Result (List ℕ × List ℕ) ShortFrame
raw_if n bytes b = cond b (Err short) (Ok (take n bytes, drop n bytes))

abbrev tail_behind : List ℕ → Result (CyclicTail × List ℕ) ShortFrame → Result ((List ℕ × CyclicTail) × List ℕ) ShortFrame
tail_behind octets read = read >>= λ y. Ok ((octets, y.0), y.1)

abbrev first_of : Result ((List ℕ × CyclicTail) × List ℕ) ShortFrame → Result (List ℕ × CyclicTail) ShortFrame
first_of read = read >>= λ x. Ok x.0

abbrev AreAtMost : List ℕ → Option (List ℕ) → Type 0
AreAtMost taken octets = (octets ≡ None) ⊎ (octets ≡ Some taken)

with_tail : (n : ℕ) (bytes taken : List ℕ) → take n bytes ≡ taken → (read : Result (CyclicTail × List ℕ) ShortFrame) → AreAtMost taken (octets_in (first_of (tail_behind (take n bytes) read)))
with_tail n bytes taken e (Ok y) = inr (ap (λ (xs : List ℕ). Some xs) e)
with_tail n bytes taken e (Err fault) = inl refl

by_length : (n : ℕ) (bytes taken : List ℕ) → take n bytes ≡ taken → (b : Bool) → AreAtMost taken (octets_in (first_of (raw_if n bytes b >>= λ x. tail_behind x.0 (cyclic_tail.read x.1))))
by_length n bytes taken e true = inl refl
by_length n bytes taken e false = with_tail n bytes taken e (cyclic_tail.read (drop n bytes))

at_most : (n : ℕ) (bytes taken : List ℕ) → take n bytes ≡ taken → AreAtMost taken (octets_in (cyclic_of n bytes))
unfolding cyclic_frame
at_most n bytes taken e = by_length n bytes taken e (nat_lt (length bytes) n)

body_is : (octets : List ℕ) (tail : CyclicTail) (padding : List ℕ) → cyclic_bytes octets tail [] ++ padding ≡ octets ++ (cyclic_tail.write tail [] ++ padding)
unfolding cyclic_frame
body_is octets tail padding = append_assoc octets (cyclic_tail.write tail []) padding

read_octets : (octets : List ℕ) (tail : CyclicTail) (padding : List ℕ) → AreAtMost octets (octets_in (cyclic_of (length octets) (cyclic_bytes octets tail [] ++ padding)))
read_octets octets tail padding =
    at_most (length octets) (cyclic_bytes octets tail [] ++ padding) octets
    (ap (λ (xs : List ℕ). take (length octets) xs) (body_is octets tail padding) ∙ take-append_seam octets (cyclic_tail.write tail [] ++ padding))

octets_length : (shown : Image) → length (octets_of shown) ≡ shown.data_length
unfolding octets_of
octets_length shown = length-map-range_with_len (octet_at shown.cells) 0 shown.data_length

module _ (setup : Setup) (identity : Identity) where
  -- ---- what is heard of contents

  abbrev IsNone : Heard → Type 0
  IsNone heard = brought_in setup identity heard ≡ None

  -- a frame that brings no inputs; and one that brings none, or these octets
  abbrev pub BringsNone : List ℕ → Type 0
  BringsNone frame = brought_by setup identity frame ≡ None

  abbrev pub BringsNow : Image → List ℕ → Type 0
  BringsNow shown frame = BringsNone frame ⊎ (brought_by setup identity frame ≡ Some (octets_of shown))

  answer_none : (source : Mac) (read : Result Answered DcpFault) → IsNone (heard_answer source read)
  answer_none source (Ok answer) = refl
  answer_none source (Err fault) = refl

  alarm_none : (source : Mac) (frame_id : ℕ) (read : Result (Header × ToController) AlarmFault) → IsNone (heard_alarm source frame_id read)
  alarm_none source frame_id (Ok x) = refl
  alarm_none source frame_id (Err fault) = refl

  call_none : (caller : Caller) (call : Call) (blocks : Option (List ℕ)) → IsNone (heard_call caller call blocks)
  call_none caller call (Some blocks) = refl
  call_none caller call None = refl

  refusal_none : (read : Result Refusal RpcFault) → IsNone (heard_refusal read)
  refusal_none (Ok refusal) = refl
  refusal_none (Err fault) = refl

  response_none : (read : Result Response RpcFault) (refusal : Result Refusal RpcFault) → IsNone (heard_response read refusal)
  response_none (Ok response) refusal = refl
  response_none (Err fault) refusal = refusal_none refusal

  first_none : (caller : Caller) (call : Result Call RpcFault) (response : Result Response RpcFault) (refusal : Result Refusal RpcFault) → IsNone (heard_first caller call response refusal)
  first_none caller (Ok call) response refusal = call_none caller call call.blocks
  first_none caller (Err fault) response refusal = response_none response refusal

  body_none : (caller : Caller) (body : List ℕ) → IsNone (heard_body caller body)
  unfolding heard_body
  body_none caller body = first_none caller (call_of controllers body) (response_of body) (refusal_of body)

  -- real-time data is heard as a cyclic frame, or it brings nothing
  abbrev IsPlain : Mac → ℕ → List ℕ → Heard → Type 0
  IsPlain source frame_id body heard = IsNone heard ⊎ ((is_cyclic frame_id ≡ true) × (heard ≡ Cyclic source frame_id body))

  other_data : (source : Mac) (frame_id : ℕ) (body : List ℕ) (is_high is_get is_identify : Bool)
      → IsNone (cond is_high (heard_alarm source frame_id (alarm_of body)) (cond is_get (heard_answer source (answer_of frame_id body)) (cond is_identify (heard_answer source (answer_of frame_id body)) Nothing)))
  other_data source frame_id body true is_get is_identify = alarm_none source frame_id (alarm_of body)
  other_data source frame_id body false true is_identify = answer_none source (answer_of frame_id body)
  other_data source frame_id body false false true = answer_none source (answer_of frame_id body)
  other_data source frame_id body false false false = refl

  plain : (source : Mac) (frame_id : ℕ) (body : List ℕ) → IsPlain source frame_id body (heard_real_time source frame_id body)
  unfolding heard_real_time
  plain source frame_id body = by_cyclic (is_cyclic frame_id) refl
    where
      by_cyclic : (b : Bool) → is_cyclic frame_id ≡ b
          → IsPlain source frame_id body (cond b (Cyclic source frame_id body)
          (cond (is_alarm frame_id) (heard_alarm source frame_id (alarm_of body)) (cond (frame_id == 0xFEFD) (heard_answer source (answer_of frame_id body)) (cond (frame_id == 0xFEFF) (heard_answer source (answer_of frame_id body)) Nothing))))
      by_cyclic true e = inr (e, refl)
      by_cyclic false e = inl (other_data source frame_id body (is_alarm frame_id) (frame_id == 0xFEFD) (frame_id == 0xFEFF))

  plain_none : (source : Mac) (frame_id : ℕ) (body : List ℕ) → is_cyclic frame_id ≡ false → IsNone (heard_real_time source frame_id body)
  plain_none source frame_id body off = by_plain (plain source frame_id body)
    where
      no_both : (b : Bool) → b ≡ false → b ≡ true → ⊥
      no_both b e f = absurd (no (sym e ∙ f))
        where
          no : false ≡ true → ⊥
          no g = cc

      by_plain : IsPlain source frame_id body (heard_real_time source frame_id body) → IsNone (heard_real_time source frame_id body)
      by_plain (inl none) = none
      by_plain (inr is) = absurd (no_both (is_cyclic frame_id) off is.0)

  -- what comes from another station than the device brings nothing
  cyclic_none : (source : Mac) (frame_id : ℕ) (body : List ℕ) → pointwise nat_eq source.octets identity.mac.octets ≡ false → IsNone (Cyclic source frame_id body)
  cyclic_none source frame_id body foreign = ap (λ (b : Bool). cond b (octets_in (cyclic_of (zeros_for setup).data_length body)) None) foreign

  foreign_none : (address : List ℕ) (source : Mac) (content : Content) → pointwise nat_eq source.octets identity.mac.octets ≡ false → IsNone (heard_content address source content)
  foreign_none address source (RealTime frame_id body) foreign = by_plain (plain source frame_id body)
    where
      by_plain : IsPlain source frame_id body (heard_real_time source frame_id body) → IsNone (heard_real_time source frame_id body)
      by_plain (inl none) = none
      by_plain (inr is) = ap (λ (h : Heard). brought_in setup identity h) is.1 ∙ cyclic_none source frame_id body foreign
  foreign_none address source (ArpPacket packet) foreign = refl
  foreign_none address source (UdpDatagram from to body) foreign =
      holds_if IsNone (is_to address to) (heard_body (record { mac = source; endpoint = from }) body) Nothing (body_none (record { mac = source; endpoint = from }) body) refl

  other_none : (address : List ℕ) (source : Mac) (content : Content) → IsOther content → IsNone (heard_content address source content)
  other_none address source (RealTime frame_id body) is = absurd is
  other_none address source (ArpPacket packet) is = refl
  other_none address source (UdpDatagram from to body) is =
      holds_if IsNone (is_to address to) (heard_body (record { mac = source; endpoint = from }) body) Nothing (body_none (record { mac = source; endpoint = from }) body) refl

  -- ---- what is heard of a frame that was written

  abbrev address : List ℕ
  address = setup.plan.controller.address

  by_read : (P : Heard → Type 0) (meaning : Meaning) (read : Result Meaning FrameFault) → IsReadAs meaning (rest_of meaning) read → P Nothing
      → ((content : Content) → (content_under (type_of meaning.content)).read (rest_of meaning) ≡ Ok content → P (heard_content address meaning.source content))
      → P (heard_read setup.plan.controller read)
  by_read P meaning (Ok found) is nothing each =
      holds_if P (pointwise nat_eq found.destination.octets setup.plan.controller.mac.octets) (heard_content address found.source found.content) Nothing
      (subst (λ (m : Mac). P (heard_content address m found.content)) (sym is.1) (each found.content is.2)) nothing
  by_read P meaning (Err fault) is nothing each = nothing

  module _ (sound : IsSound ethernet) where
    by_frame : (P : Heard → Type 0) (meaning : Meaning) → IsMac meaning.destination → IsMac meaning.source → IsTag meaning.tag → P Nothing
        → ((content : Content) → (content_under (type_of meaning.content)).read (rest_of meaning) ≡ Ok content → P (heard_content address meaning.source content))
        → P (heard_of setup.plan.controller (frame_bytes meaning))
    unfolding heard_of
    by_frame P meaning one other tagged nothing each =
        by_read P meaning (frame_of (frame_bytes meaning)) (reads_as sound meaning one other tagged) nothing each

    -- real-time data is heard as such, under the number of its FrameID
    data_heard : (P : Heard → Type 0) (destination source : Mac) (tag : Option ℕ) (frame_id : ℕ) (body : List ℕ) → IsMac destination → IsMac source → IsTag tag → P Nothing
        → P (heard_real_time source (big_number 2 (big_bytes 2 frame_id)) (body ++ padding_of (carrying destination source tag (RealTime frame_id body))))
        → P (heard_of setup.plan.controller (frame_bytes (carrying destination source tag (RealTime frame_id body))))
    unfolding real_time
    data_heard P destination source tag frame_id body one other tagged nothing there =
        let meaning = carrying destination source tag (RealTime frame_id body) in
        let behind = body ++ padding_of meaning in
        let rest_is : rest_of meaning ≡ big_bytes 2 frame_id ++ behind = append_assoc (big_bytes 2 frame_id) body (padding_of meaning) in
        by_frame P meaning one other tagged nothing (λ content read.
        subst (λ (c : Content). P (heard_content address source c))
        (sym (real_time_is frame_id behind content (ap (λ (xs : List ℕ). real_time.read xs) (sym rest_is) ∙ read))) there)

    -- ---- what a controller sends

    module _ (apart : pointwise nat_eq setup.plan.controller.mac.octets identity.mac.octets ≡ false) (six : IsMac setup.plan.controller.mac) where
      abbrev mine : Mac
      mine = setup.plan.controller.mac

      own_silent : (destination : Mac) (tag : Option ℕ) (content : Content) → IsMac destination → IsTag tag → BringsNone (frame_bytes (carrying destination mine tag content))
      own_silent destination tag content one tagged =
          by_frame IsNone (carrying destination mine tag content) one six tagged refl (λ found read. foreign_none address mine found apart)

      tag_small : (route : Route) (priority : Priority) → IsWay route → tag_at route priority < 65536
      tag_small route High way = way.alarm_tag
      tag_small route Low way = omega arith

      multicast_six : IsMac identify_multicast
      unfolding identify_multicast
      multicast_six = refl

      call_silent : (device : Mac) (call : Call) → IsMac device → BringsNone (call_frame setup device call)
      call_silent device call one =
          own_silent device None (UdpDatagram (calls_at setup.plan.controller.address) (calls_at setup.plan.station.suite.address) (call_bytes Device call)) one tt

      pub request_silent : (device : Mac) (request : Request) → IsMac device → BringsNone (request_frame setup device request)
      request_silent device asks.Identify one = own_silent identify_multicast None (RealTime 0xFEFE (request_bytes (identify_asked setup.plan))) multicast_six tt
      request_silent device asks.Address one = own_silent device None (RealTime 0xFEFD (request_bytes (address_asked setup.plan))) one tt
      request_silent device asks.Connect one = call_silent device (call_for setup asks.Connect) one
      request_silent device (asks.Write number) one = call_silent device (call_for setup (asks.Write number)) one
      request_silent device asks.PrmEnd one = call_silent device (call_for setup asks.PrmEnd) one
      request_silent device (asks.Release sequence) one = call_silent device (call_for setup (asks.Release sequence)) one
      request_silent device (asks.WriteAfter number tries) one = call_silent device (call_for setup (asks.WriteAfter number tries)) one
      request_silent device (asks.PrmEndAfter tries) one = call_silent device (call_for setup (asks.PrmEndAfter tries)) one

      alarm_silent : (route : Route) (priority : Priority) (said : Said) → IsWay route → BringsNone (alarm_frame setup route priority said)
      alarm_silent route priority said way =
          own_silent route.partner (Some (tag_at route priority)) (RealTime (frame_id_at priority said.header.kind) (pdu_bytes said)) way.partner (tag_small route priority way)

      said_silent : (message : Message) → IsAddressed message → BringsNone (bytes_said setup message)
      said_silent (Requests device request) one = request_silent device request one
      said_silent (Accesses device request octets) one = call_silent device (record_call setup request octets) one
      said_silent (Parametrizes device request) one = call_silent device (plug_call setup request) one
      said_silent (Agrees caller answer) one = own_silent caller.mac None (UdpDatagram (calls_at setup.plan.controller.address) caller.endpoint (response_bytes answer)) one tt
      said_silent (Cycles route shown counter) way = own_silent route.partner (Some route.sent_tag) (RealTime route.sent_id (cyclic_body shown counter)) way.partner way.sent_tag
      said_silent (Confirms route priority header ack) way = alarm_silent route priority (ack_pdu priority header ack) way
      said_silent (Confirmed route priority header) way = alarm_silent route priority (reply_pdu header) way
      said_silent (Leaves route header reason) way =
          own_silent route.partner (Some alarm_block.tag_header_low) (RealTime (frame_id_of pdu.Error) (pdu_bytes (end_pdu header reason))) way.partner (omega arith)

      pub all_said_silent : (sent : List Message) → AllByRecursion IsAddressed sent → AllByRecursion BringsNone (map (bytes_said setup) sent)
      all_said_silent [] to = tt
      all_said_silent (message ∷ sent) to = (said_silent message to.0, all_said_silent sent to.1)

    -- ---- what a device sends

    data_silent : (destination : Mac) (tag : Option ℕ) (frame_id : ℕ) (body : List ℕ) → CanBeSent (carrying destination identity.mac tag (RealTime frame_id body))
        → is_cyclic (big_number 2 (big_bytes 2 frame_id)) ≡ false → BringsNone (frame_bytes (carrying destination identity.mac tag (RealTime frame_id body)))
    data_silent destination tag frame_id body can off =
        data_heard IsNone destination identity.mac tag frame_id body can.destination can.source can.tag refl
        (plain_none identity.mac (big_number 2 (big_bytes 2 frame_id)) (body ++ padding_of (carrying destination identity.mac tag (RealTime frame_id body))) off)

    datagram_silent : (destination : Mac) (from to : Endpoint) (body : List ℕ) → CanBeSent (carrying destination identity.mac None (UdpDatagram from to body))
        → BringsNone (frame_bytes (carrying destination identity.mac None (UdpDatagram from to body)))
    datagram_silent destination from to body can =
        let meaning = carrying destination identity.mac None (UdpDatagram from to body) in
        by_frame IsNone meaning can.destination can.source can.tag refl (λ content read. other_none address identity.mac content (datagram_other (rest_of meaning) content read))

    reply_silent : (asker : Mac) (content : Content) → IsOther content → ((found : Content) → (content_under (type_of content)).read (rest_of (carrying asker identity.mac None content)) ≡ Ok found → IsOther found)
        → CanBeSent (carrying asker identity.mac None content) → BringsNone (frame_bytes (carrying asker identity.mac None content))
    reply_silent asker content is found can =
        by_frame IsNone (carrying asker identity.mac None content) can.destination can.source can.tag refl (λ one read. other_none address identity.mac one (found one read))

    high_id : (kind : PduType) → is_cyclic (big_number 2 (big_bytes 2 (frame_id_of kind))) ≡ false
    high_id pdu.Data = refl
    high_id pdu.Nack = refl
    high_id pdu.Ack = refl
    high_id pdu.Error = refl

    low_id : (kind : PduType) → is_cyclic (big_number 2 (big_bytes 2 (frame_id_at Low kind))) ≡ false
    low_id pdu.Data = refl
    low_id pdu.Nack = refl
    low_id pdu.Ack = refl
    low_id pdu.Error = refl

    -- a frame of inputs brings the octets of its image, or nothing
    abbrev OneOf : Image → Heard → Type 0
    OneOf shown heard = AreAtMost (octets_of shown) (brought_in setup identity heard)

    inputs_bring : (route : Route) (state : StationState) (inputs : Image) (counter : ℕ) → CanBeSent (carrying route.partner identity.mac (Some route.sent_tag) (RealTime route.sent_id (body_at state inputs counter)))
        → inputs.data_length ≡ (zeros_for setup).data_length
        → BringsNow inputs (frame_bytes (carrying route.partner identity.mac (Some route.sent_tag) (RealTime route.sent_id (body_at state inputs counter))))
    inputs_bring route state inputs counter can size =
        let body = body_at state inputs counter in
        let id = big_number 2 (big_bytes 2 route.sent_id) in
        let padding = padding_of (carrying route.partner identity.mac (Some route.sent_tag) (RealTime route.sent_id body)) in
        data_heard (OneOf inputs) route.partner identity.mac (Some route.sent_tag) route.sent_id body can.destination can.source can.tag (inl refl) (by_plain id padding (plain identity.mac id (body ++ padding)))
      where
        octets_at : (padding : List ℕ) → AreAtMost (octets_of inputs) (octets_in (cyclic_of (zeros_for setup).data_length (body_at state inputs counter ++ padding)))
        octets_at padding = subst (λ (n : ℕ). AreAtMost (octets_of inputs) (octets_in (cyclic_of n (body_at state inputs counter ++ padding)))) (octets_length inputs ∙ size)
            (read_octets (octets_of inputs) (tail_at state counter) padding)

        by_source : (padding : List ℕ) (b : Bool) → AreAtMost (octets_of inputs) (cond b (octets_in (cyclic_of (zeros_for setup).data_length (body_at state inputs counter ++ padding))) None)
        by_source padding true = octets_at padding
        by_source padding false = inl refl

        by_plain : (id : ℕ) (padding : List ℕ) → IsPlain identity.mac id (body_at state inputs counter ++ padding) (heard_real_time identity.mac id (body_at state inputs counter ++ padding))
            → OneOf inputs (heard_real_time identity.mac id (body_at state inputs counter ++ padding))
        by_plain id padding (inl none) = inl none
        by_plain id padding (inr is) =
            subst (λ (h : Heard). OneOf inputs h) (sym is.1) (by_source padding (pointwise nat_eq identity.mac.octets identity.mac.octets))

    -- each message: a frame of inputs has these inputs, and a response that is sent again brings nothing
    abbrev pub IsKnown : Image → Sent → Type 0
    IsKnown shown (Exchanges route (Inputs state inputs counter)) = inputs ≡ shown
    IsKnown shown (Again frame) = BringsNone frame
    IsKnown shown message = Unit {0}

    -- no response brings inputs
    pub answer_silent : (caller : Caller) (from : List ℕ) (answer : Response) → IsSendable identity (CallAnswer caller from answer) → BringsNone (bytes_of identity (CallAnswer caller from answer))
    answer_silent caller from answer can = datagram_silent caller.mac (calls_at from) caller.endpoint (response_bytes answer) can.0

    pub message_brings : (shown : Image) → shown.data_length ≡ (zeros_for setup).data_length → (message : Sent) → IsSendable identity message → IsKnown shown message → BringsNow shown (bytes_of identity message)
    message_brings shown size (IdentifyAnswer asker running xid) can known = inl (data_silent asker None 65279 (identify_bytes identity running xid) can refl)
    message_brings shown size (GetAnswer asker running alias request) can known = inl (data_silent asker None 65277 (get_bytes identity running alias request) can refl)
    message_brings shown size (SetAnswer asker request answers) can known = inl (data_silent asker None 65277 (set_bytes request answers) can refl)
    message_brings shown size (ArpReply asker from target) can known =
        inl (reply_silent asker (reply_content identity from target) tt (λ found read. arp_other (rest_of (carrying asker identity.mac None (reply_content identity from target))) found read) can)
    message_brings shown size (CallAnswer caller from answer) can known = inl (answer_silent caller from answer can)
    message_brings shown size (Again frame) can known = inl known
    message_brings shown size (ReadyCall from ready) can known =
        inl (reply_silent ready.partner.mac (ready_content from ready) tt (λ found read. datagram_other (rest_of (carrying ready.partner.mac identity.mac None (ready_content from ready))) found read) can)
    message_brings shown size (PlugReadyCall from ready) can known =
        inl (reply_silent ready.partner.mac (plug_ready_content from ready) tt
        (λ found read. datagram_other (rest_of (carrying ready.partner.mac identity.mac None (plug_ready_content from ready))) found read) can)
    message_brings shown size (Ends farewell) can known = inl (data_silent farewell.initiator (Some farewell.tag) (frame_id_of pdu.Error) _ can refl)
    message_brings shown size (Exchanges route (Inputs state inputs counter)) can known =
        subst (λ (image : Image). BringsNow image (bytes_of identity (Exchanges route (Inputs state inputs counter)))) known
        (inputs_bring route state inputs counter can (ap (λ (image : Image). image.data_length) known ∙ size))
    message_brings shown size (Exchanges route (Notifies header alarm)) can known = inl (data_silent route.partner (Some route.alarm_tag) (frame_id_of pdu.Data) (body_of (Notifies header alarm)) can refl)
    message_brings shown size (Exchanges route (Replies header)) can known = inl (data_silent route.partner (Some route.alarm_tag) (frame_id_of header.kind) (body_of (Replies header)) can (high_id header.kind))
    message_brings shown size (Exchanges route (Reports tag header alarm)) can known = inl (data_silent route.partner (Some tag) (frame_id_at Low pdu.Data) (body_of (Reports tag header alarm)) can refl)
    message_brings shown size (Exchanges route (RepliesLow tag header)) can known = inl (data_silent route.partner (Some tag) (frame_id_at Low header.kind) (body_of (RepliesLow tag header)) can (low_id header.kind))

    pub all_bring : (shown : Image) → shown.data_length ≡ (zeros_for setup).data_length → (sent : List Sent) → AreSendable identity sent → AllByRecursion (IsKnown shown) sent
        → AllByRecursion (BringsNow shown) (map (bytes_of identity) sent)
    all_bring shown size [] can known = tt
    all_bring shown size (message ∷ sent) can known = (message_brings shown size message can.0 known.0, all_bring shown size sent can.1 known.1)
