-- What a device hears of each message of a controller: what it says, or a frame for another station.
use Rattle.std.proofs.Common.{◌≡◌, ◌⊎◌, inl, inr, ◌==◌, ◌&&◌, ◌++◌, ℕ, Bool, true, false, List, Option, Some, Result, Ok, refl, sym, ap, subst, ◌∙◌}
use Rattle.std.specs.Prelude.{if◌then◌else◌}
use Rattle.std.proofs.lemmas.Bool.{eqb-true}
use Rattle.pn_values.specs.declared.identity.Identity.{Identity}
use Rattle.pn_values.specs.declared.mac.Mac.{Mac}
use Rattle.frame_codec.specs.declared.fault.FrameFault.{FrameFault}
use Rattle.frame_codec.specs.declared.udp.Caller.{Caller}
use Rattle.frame_codec.specs.declared.udp.Endpoint.{Endpoint}
use Rattle.frame_codec.specs.Calls.{calls_at}
use Rattle.frame_codec.specs.FrameId.{is_cyclic}
use Rattle.frame_codec.specs.Frame.{frame_bytes, frame_of, padding_of}
use Rattle.frame_codec.specs.Meaning.{Meaning, RealTime}
use Rattle.frame_codec.specs.Sendable.{CanBeSent as CanBeFramed, IsMac, carrying}
use Rattle.rpc_core.specs.Call.{Asked as Call}
use Rattle.rpc_core.specs.Response.{Answered}
use Rattle.rpc_core.specs.declared.interface.Interface.TheVariants.{Device as devices}
use Rattle.rpc_core.specs.Sendable.{CanBeAnswered, CanBeCalled}
use Rattle.record_blocks.specs.declared.alarm_ack.AlarmAck.{AlarmAck}
use Rattle.block_codec.specs.Writable.{IsAck}
use Rattle.pn_alarms.specs.Abort.{status_of}
use Rattle.pn_alarms.specs.Message.{message_of}
use Rattle.pn_alarms.specs.declared.abort.Abort.{Abort}
use Rattle.pn_alarms.specs.declared.message.Notice.TheVariants as notice
use Rattle.pn_alarms.specs.declared.pdu.Header.{Header}
use Rattle.pn_alarms.specs.declared.pdu.PduType.{PduType}
use Rattle.pn_alarms.specs.declared.pdu.PduType.TheVariants as pdu
use Rattle.diagnosis.specs.declared.reports.priority.Priority.{Priority}
use Rattle.diagnosis.specs.declared.reports.priority.Priority.TheVariants.{High, Low}
use Rattle.diagnosis.specs.Sendable.{IsHeader}
use Rattle.cyclic_data.specs.declared.exchange.route.Route.{Route}
use Rattle.cyclic_data.specs.exchange.Frames.{cyclic_body}
use Rattle.device_frames.specs.Heard.{Alarms, Asks, Calls, Cyclic, Elsewhere, Heard, LowConfirms, Reported, Responds, Said}
use Rattle.device_frames.specs.Heard.{heard_alarm, heard_content, heard_frame, heard_of, heard_reply, is_own}
use Rattle.controller_messages.specs.declared.plug_request.PlugRequest.{PlugRequest}
use Rattle.controller_messages.specs.declared.request.Request.{Request}
use Rattle.controller_messages.specs.declared.request.Request.TheVariants as asks
use Rattle.controller_messages.specs.declared.setup.Setup.{Setup}
use Rattle.controller_messages.specs.PlugRequests.{plug_call}
use Rattle.controller_messages.specs.Requests.{address_asked, call_for, identify_asked}
use Rattle.controller_messages.specs.Sent.{Sent, Requests, Accesses, Parametrizes, Agrees, Cycles, Confirms, Replies, Ends}
use Rattle.controller_messages.specs.Sent.{answer_frame, bytes_of, call_frame, end_pdu}
use Rattle.end_laws.specs.hearing.Hearing.{comes, own_hears, own_reported, padded}
use Rattle.end_laws.specs.hearing.Stations.{IsCalled, IsCaller, IsNumbered, IsPlugCall, IsRoute, IsSetup}
use Rattle.end_laws.specs.sending.Messages.{CanBeSent}
use Rattle.both_ends.specs.startup.answer.Answer.{caller_of}
use Rattle.rounds_law.proofs.AnywhereParts.{HasWay}

-- ---- what a message says

abbrev pub request_said : Setup → Request → Heard
request_said setup asks.Identify = Asks setup.plan.controller.mac (identify_asked setup.plan)
request_said setup asks.Address = Asks setup.plan.controller.mac (address_asked setup.plan)
request_said setup asks.Connect = Reported (caller_of setup.plan.controller) setup.plan.station.suite.address (Calls (call_for setup asks.Connect))
request_said setup (asks.Write number) =
    Reported (caller_of setup.plan.controller) setup.plan.station.suite.address (Calls (call_for setup (asks.Write number)))
request_said setup (asks.WriteAfter number tries) =
    Reported (caller_of setup.plan.controller) setup.plan.station.suite.address (Calls (call_for setup (asks.WriteAfter number tries)))
request_said setup asks.PrmEnd = Reported (caller_of setup.plan.controller) setup.plan.station.suite.address (Calls (call_for setup asks.PrmEnd))
request_said setup (asks.PrmEndAfter tries) = Reported (caller_of setup.plan.controller) setup.plan.station.suite.address (Calls (call_for setup (asks.PrmEndAfter tries)))
request_said setup (asks.Release sequence) =
    Reported (caller_of setup.plan.controller) setup.plan.station.suite.address (Calls (call_for setup (asks.Release sequence)))

abbrev pub confirmed_said : Setup → Priority → Header → AlarmAck → Heard
confirmed_said setup High header ack = Alarms setup.plan.controller.mac header (notice.Data header.send_number ack)
confirmed_said setup Low header ack = LowConfirms setup.plan.controller.mac header (notice.Data header.send_number ack)

abbrev pub replied_said : Setup → Priority → Header → PduType → Heard
replied_said setup priority header pdu.Ack = heard_reply setup.plan.controller.mac priority header (notice.Ack header.ack_number)
replied_said setup priority header pdu.Nack = Alarms setup.plan.controller.mac header notice.Nack
replied_said setup priority header pdu.Data = Elsewhere
replied_said setup priority header pdu.Error = Elsewhere

-- What a message of the controller says to the device that it goes to.
abbrev pub message_said : Setup → Sent → Heard
message_said setup (Requests device request) = request_said setup request
message_said setup (Accesses device request octets) = Elsewhere
message_said setup (Parametrizes device request) =
    Reported (caller_of setup.plan.controller) setup.plan.station.suite.address (Calls (plug_call setup request))
message_said setup (Agrees caller answer) = Reported (caller_of setup.plan.controller) caller.endpoint.address (Responds answer)
message_said setup (Cycles route shown counter) = Cyclic setup.plan.controller.mac route.sent_id
    (padded setup.plan.controller.mac route.partner (Some route.sent_tag) route.sent_id (cyclic_body shown counter))
message_said setup (Confirms route priority header ack) = confirmed_said setup priority header ack
message_said setup (Replies route priority header) = replied_said setup priority header header.kind
message_said setup (Ends route header reason) = Alarms setup.plan.controller.mac (end_pdu header reason).header (notice.Abort (status_of reason))

-- It is heard so, or it is for another station.
abbrev pub IsHeardAs : Heard → Heard → Type 0
IsHeardAs heard said = (heard ≡ said) ⊎ (heard ≡ Elsewhere)

-- ---- the laws of the crates below

pub record HearsLaws : Type 0 where
  pub identify : (identity : Identity) (setup : Setup) (to : Mac) → IsSetup setup
      → heard_of identity (comes (bytes_of setup (Requests to asks.Identify))) ≡ Asks setup.plan.controller.mac (identify_asked setup.plan)
  pub address : (identity : Identity) (setup : Setup) (to : Mac) → IsSetup setup → IsMac to
      → heard_of identity (comes (bytes_of setup (Requests to asks.Address)))
      ≡ own_hears identity to (Asks setup.plan.controller.mac (address_asked setup.plan))
  pub call_can : (setup : Setup) (request : Request) → IsSetup setup → IsCalled request → IsNumbered request → CanBeCalled devices (call_for setup request)
  pub plug_can : (setup : Setup) (request : PlugRequest) → IsSetup setup → IsPlugCall request → CanBeCalled devices (plug_call setup request)
  pub call : (identity : Identity) (setup : Setup) (to : Mac) (call : Call) → IsSetup setup → IsMac to → CanBeCalled devices call
      → heard_of identity (comes (call_frame setup to call))
      ≡ own_reported identity setup.plan.controller.mac to (calls_at setup.plan.controller.address) (calls_at setup.plan.station.suite.address) (Calls call)
  pub answer : (identity : Identity) (setup : Setup) (caller : Caller) (answer : Answered) → IsSetup setup → IsCaller caller → CanBeAnswered answer
      → heard_of identity (comes (answer_frame setup caller answer))
      ≡ own_reported identity setup.plan.controller.mac caller.mac (calls_at setup.plan.controller.address) caller.endpoint (Responds answer)
  pub real_time : (destination source : Mac) (tag : Option ℕ) (frame_id : ℕ) (body : List ℕ)
      → CanBeFramed (carrying destination source tag (RealTime frame_id body))
      → frame_of (frame_bytes (carrying destination source tag (RealTime frame_id body)))
      ≡ Ok (carrying destination source tag (RealTime frame_id (body ++ padding_of (carrying destination source tag (RealTime frame_id body)))))
  pub confirms : (identity : Identity) (setup : Setup) (route : Route) (header : Header) (ack : AlarmAck)
      → IsSetup setup → IsRoute route → header.kind ≡ pdu.Data → IsHeader header → IsAck ack
      → heard_of identity (comes (bytes_of setup (Confirms route High header ack)))
      ≡ own_hears identity route.partner (Alarms setup.plan.controller.mac header (notice.Data header.send_number ack))
  pub low : (identity : Identity) (setup : Setup) (route : Route) (header : Header) (ack : AlarmAck)
      → IsSetup setup → IsRoute route → header.kind ≡ pdu.Data → IsHeader header → IsAck ack
      → heard_of identity (comes (bytes_of setup (Confirms route Low header ack)))
      ≡ own_hears identity route.partner (LowConfirms setup.plan.controller.mac header (notice.Data header.send_number ack))
  pub ack : (identity : Identity) (setup : Setup) (route : Route) (priority : Priority) (header : Header)
      → IsSetup setup → IsRoute route → header.kind ≡ pdu.Ack → IsHeader header
      → heard_of identity (comes (bytes_of setup (Replies route priority header)))
      ≡ own_hears identity route.partner (heard_reply setup.plan.controller.mac priority header (notice.Ack header.ack_number))
  pub nack : (identity : Identity) (setup : Setup) (route : Route) (priority : Priority) (header : Header)
      → IsSetup setup → IsRoute route → header.kind ≡ pdu.Nack → IsHeader header
      → heard_of identity (comes (bytes_of setup (Replies route priority header)))
      ≡ own_hears identity route.partner (Alarms setup.plan.controller.mac header notice.Nack)
  pub ends : (identity : Identity) (setup : Setup) (route : Route) (header : Header) (reason : Abort) → IsSetup setup → IsRoute route → IsHeader header
      → heard_of identity (comes (bytes_of setup (Ends route header reason)))
      ≡ own_hears identity route.partner (Alarms setup.plan.controller.mac (end_pdu header reason).header (notice.Abort (status_of reason)))

-- ---- for this station or another one

own_or : (identity : Identity) (destination : Mac) (said : Heard) → IsHeardAs (own_hears identity destination said) said
own_or identity destination said = by_test (is_own identity destination)
  where
    by_test : (own : Bool) → IsHeardAs (if own then said else Elsewhere) said
    by_test true = inl refl
    by_test false = inr refl

reported_or : (identity : Identity) (source destination : Mac) (from to : Endpoint) (said : Said)
    → IsHeardAs (own_reported identity source destination from to said) (Reported (record { mac = source; endpoint = from }) to.address said)
reported_or identity source destination from to said = by_test (is_own identity destination && to.port == 34964)
  where
    by_test : (own : Bool) → IsHeardAs (if own then Reported (record { mac = source; endpoint = from }) to.address said else Elsewhere)
        (Reported (record { mac = source; endpoint = from }) to.address said)
    by_test true = inl refl
    by_test false = inr refl

heard_by_law : (heard other said : Heard) → heard ≡ other → IsHeardAs other said → IsHeardAs heard said
heard_by_law heard other said e is = subst (λ (h : Heard). IsHeardAs h said) (sym e) is

-- ---- cyclic frames

-- a FrameID of cyclic frames is no other
not_id : (id other : ℕ) → is_cyclic id ≡ true → is_cyclic other ≡ false → (id == other) ≡ false
not_id id other cyclic none = by_test (id == other) refl
  where
    by_test : (same : Bool) → (id == other) ≡ same → same ≡ false
    by_test true e = sym (sym none ∙ ap is_cyclic (sym (eqb-true id other e)) ∙ cyclic)
    by_test false e = refl

content_said : (identity : Identity) (destination source : Mac) (id : ℕ) (body : List ℕ) → is_cyclic id ≡ true
    → IsHeardAs (heard_content identity destination source (RealTime id body)) (Cyclic source id body)
content_said identity destination source id body cyclic =
    rw (not_id id 65277 cyclic refl, not_id id 65278 cyclic refl, not_id id 0xFC01 cyclic refl, not_id id 0xFE01 cyclic refl, cyclic)
    (by_test (is_own identity destination) (heard_alarm source id body (message_of body)))
  where
    by_test : (own : Bool) (alarm : Heard) → IsHeardAs (if own && false then alarm else (if own && true then Cyclic source id body else Elsewhere))
        (Cyclic source id body)
    by_test true alarm = inl refl
    by_test false alarm = inr refl

module _ (laws : HearsLaws) (setup : Setup) (identity : Identity) (good : IsSetup setup) where
  cycle_heard : (route : Route) (body : List ℕ) → IsRoute route
      → CanBeFramed (carrying route.partner setup.plan.controller.mac (Some route.sent_tag) (RealTime route.sent_id body))
      → IsHeardAs (heard_of identity (comes
      (frame_bytes (carrying route.partner setup.plan.controller.mac (Some route.sent_tag) (RealTime route.sent_id body)))))
      (Cyclic setup.plan.controller.mac route.sent_id (padded setup.plan.controller.mac route.partner (Some route.sent_tag) route.sent_id body))
  unfolding heard_of
  cycle_heard route body way can =
      let mac = setup.plan.controller.mac in
      let said = padded mac route.partner (Some route.sent_tag) route.sent_id body in
      heard_by_law (heard_frame identity (frame_of (frame_bytes (carrying route.partner mac (Some route.sent_tag) (RealTime route.sent_id body)))))
      (heard_content identity route.partner mac (RealTime route.sent_id said)) (Cyclic mac route.sent_id said)
      (ap (λ (r : Result Meaning FrameFault). heard_frame identity r) (laws.real_time route.partner mac (Some route.sent_tag) route.sent_id body can))
      (content_said identity route.partner mac route.sent_id said way.cyclic)

  -- ---- each message

  call_heard : (to : Mac) (request : Request) → IsMac to → IsCalled request → IsNumbered request
      → IsHeardAs (heard_of identity (comes (call_frame setup to (call_for setup request))))
      (Reported (caller_of setup.plan.controller) setup.plan.station.suite.address (Calls (call_for setup request)))
  call_heard to request mac called numbered =
      heard_by_law _ _ _ (laws.call identity setup to (call_for setup request) good mac (laws.call_can setup request good called numbered))
      (reported_or identity setup.plan.controller.mac to (calls_at setup.plan.controller.address) (calls_at setup.plan.station.suite.address)
      (Calls (call_for setup request)))

  request_heard : (to : Mac) (request : Request) → IsMac to → IsNumbered request
      → IsHeardAs (heard_of identity (comes (bytes_of setup (Requests to request)))) (request_said setup request)
  request_heard to asks.Identify mac numbered = inl (laws.identify identity setup to good)
  request_heard to asks.Address mac numbered =
      heard_by_law _ _ _ (laws.address identity setup to good mac) (own_or identity to (Asks setup.plan.controller.mac (address_asked setup.plan)))
  request_heard to asks.Connect mac numbered = call_heard to asks.Connect mac tt numbered
  request_heard to (asks.Write number) mac numbered = call_heard to (asks.Write number) mac tt numbered
  request_heard to (asks.WriteAfter number tries) mac numbered = call_heard to (asks.WriteAfter number tries) mac tt numbered
  request_heard to asks.PrmEnd mac numbered = call_heard to asks.PrmEnd mac tt numbered
  request_heard to (asks.PrmEndAfter tries) mac numbered = call_heard to (asks.PrmEndAfter tries) mac tt numbered
  request_heard to (asks.Release sequence) mac numbered = call_heard to (asks.Release sequence) mac tt numbered

  confirm_heard : (route : Route) (priority : Priority) (header : Header) (ack : AlarmAck) → IsRoute route → header.kind ≡ pdu.Data
      → IsHeader header → IsAck ack
      → IsHeardAs (heard_of identity (comes (bytes_of setup (Confirms route priority header ack)))) (confirmed_said setup priority header ack)
  confirm_heard route High header ack way is sized acked =
      heard_by_law _ _ _ (laws.confirms identity setup route header ack good way is sized acked) (own_or identity route.partner _)
  confirm_heard route Low header ack way is sized acked =
      heard_by_law _ _ _ (laws.low identity setup route header ack good way is sized acked) (own_or identity route.partner _)

  reply_heard : (route : Route) (priority : Priority) (header : Header) → IsRoute route → (header.kind ≡ pdu.Ack) ⊎ (header.kind ≡ pdu.Nack) → IsHeader header
      → IsHeardAs (heard_of identity (comes (bytes_of setup (Replies route priority header)))) (replied_said setup priority header header.kind)
  reply_heard route priority header way (inl is) sized =
      subst (λ (kind : PduType). IsHeardAs (heard_of identity (comes (bytes_of setup (Replies route priority header))))
      (replied_said setup priority header kind)) (sym is)
      (heard_by_law _ _ _ (laws.ack identity setup route priority header good way is sized) (own_or identity route.partner _))
  reply_heard route priority header way (inr is) sized =
      subst (λ (kind : PduType). IsHeardAs (heard_of identity (comes (bytes_of setup (Replies route priority header))))
      (replied_said setup priority header kind)) (sym is)
      (heard_by_law _ _ _ (laws.nack identity setup route priority header good way is sized) (own_or identity route.partner _))

  pub message_heard : (message : Sent) → CanBeSent setup message → HasWay setup message
      → IsHeardAs (heard_of identity (comes (bytes_of setup message))) (message_said setup message)
  message_heard (Requests device request) can way = request_heard device request can.0 can.1
  message_heard (Accesses device request octets) can way = absurd way
  message_heard (Parametrizes device request) can way =
      heard_by_law _ _ _ (laws.call identity setup device (plug_call setup request) good can.0 (laws.plug_can setup request good can.1))
      (reported_or identity setup.plan.controller.mac device (calls_at setup.plan.controller.address) (calls_at setup.plan.station.suite.address)
      (Calls (plug_call setup request)))
  message_heard (Agrees caller answer) can way =
      heard_by_law _ _ _ (laws.answer identity setup caller answer good can.0 can.1)
      (reported_or identity setup.plan.controller.mac caller.mac (calls_at setup.plan.controller.address) caller.endpoint (Responds answer))
  message_heard (Cycles route shown counter) can way =
      cycle_heard route (cyclic_body shown counter) way
      (record { destination = way.partner; source = good.mac; tag = way.tag; content = (can.0.sent_id, can.1) })
  message_heard (Confirms route priority header ack) can way = confirm_heard route priority header ack way can.1 can.2 can.3
  message_heard (Replies route priority header) can way = reply_heard route priority header way can.1 can.2
  message_heard (Ends route header reason) can way =
      heard_by_law _ _ _ (laws.ends identity setup route header reason good way can.1) (own_or identity route.partner _)
