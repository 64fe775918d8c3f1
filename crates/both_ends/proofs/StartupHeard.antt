-- What either end hears of each message of the other.
use Rattle.std.proofs.Common.{◌≡◌, ◌⊎◌, inl, inr, ◌<◌, ◌+◌, ◌==◌, ◌&&◌, ◌||◌, ℕ, Bool, true, false, cond, List, [], ◌∷◌, length, Option, Some, None, Result, Ok, Err, refl, sym, ap, subst, ◌∙◌, arith}
use Rattle.std.specs.Prelude.{nat_eq, nat_lt}
use Rattle.std.specs.List.{AllByRecursion}
use Rattle.std.specs.Cmp.Lexicographic.{pointwise, same_text}
use Rattle.std.proofs.lemmas.Bool.{eq-eqb, lt-ltb}
use Rattle.wire.specs.Codec.{IsSoundWhole}
use Rattle.pn_values.specs.declared.identity.Identity.{Identity}
use Rattle.pn_values.specs.declared.mac.Mac.{Mac}
use Rattle.frame_codec.specs.declared.fault.FrameFault.{FrameFault}
use Rattle.frame_codec.specs.declared.fault.FrameFault.TheVariants.{TooLong}
use Rattle.frame_codec.specs.declared.arp.Arp.{Arp}
use Rattle.frame_codec.specs.declared.arp.ArpOperation.TheVariants.{Reply}
use Rattle.frame_codec.specs.declared.arp.Holder.{Holder}
use Rattle.frame_codec.specs.declared.udp.Caller.{Caller}
use Rattle.frame_codec.specs.declared.udp.Endpoint.{Endpoint}
use Rattle.frame_codec.specs.FrameId.{is_alarm, is_cyclic}
use Rattle.frame_codec.specs.Frame.{frame_bytes, frame_of, ethernet, layers, longest, mac}
use Rattle.frame_codec.specs.Meaning.{ArpPacket, Content, Meaning, RealTime, UdpDatagram}
use Rattle.dcp_core.specs.declared.request.DcpFault.{DcpFault}
use Rattle.dcp_core.specs.Answer.{answer_of}
use Rattle.dcp_core.specs.Response.{Answered}
use Rattle.rpc_core.specs.declared.fault.RpcFault.{RpcFault}
use Rattle.rpc_core.specs.declared.interface.Interface.TheVariants.{Controller as controllers, Device as devices}
use Rattle.rpc_core.specs.declared.header.CallHeader.{CallHeader}
use Rattle.rpc_core.specs.Call.{Asked as Call, call_of}
use Rattle.rpc_core.specs.Response.{Answered as Response, response_of}
use Rattle.rpc_core.specs.Sendable.{CanBeAnswered, CanBeCalled, IsUuid}
use Rattle.connect_blocks.specs.declared.control.ControlBlock.{ControlBlock}
use Rattle.connects.specs.requests.Request.{Request as Asked_for}
use Rattle.asked_records.specs.Asked.{AskedState, question_in}
use Rattle.asked_records.specs.Questions.{is_implicit}
use Rattle.asked_records.specs.declared.question.Question.{Question}
use Rattle.records.specs.status.Operation.{operation_of}
use Rattle.pn_alarms.specs.declared.fault.AlarmFault.{AlarmFault}
use Rattle.pn_alarms.specs.declared.pdu.Header.{Header}
use Rattle.diagnosis.specs.declared.reports.priority.Priority.{Priority}
use Rattle.diagnosis.specs.declared.reports.priority.Priority.TheVariants.{High, Low}
use Rattle.cyclic_data.specs.declared.exchange.route.Route.{Route}
use Rattle.diagnosis.specs.reports.Message.{ToController as AlarmReported, alarm_of}
use Rattle.plans.specs.declared.parts.Controller.{Controller}
use Rattle.plans.specs.declared.parts.Parts.{Parts}
use Rattle.plans.specs.Connect.{alarm_block}
use Rattle.both_ends.specs.startup.request.Request.{request_for}
use Rattle.connect_blocks.specs.declared.plug_control.PlugControlBlock.{PlugControlBlock}
use Rattle.expected_places.specs.declared.calls.PlugCall.{PlugCall}
use Rattle.relations.specs.declared.plugging.PlugReady.{PlugReady}
use Rattle.relations.specs.declared.ready.Ready.{Ready}
use Rattle.relations.specs.Plugging.{ready_for}
use Rattle.relations.specs.RelationState.{RelationState}
use Rattle.relations.specs.Ready.{ready_of}
use Rattle.device_frames.specs.Heard as device
use Rattle.device_frames.specs.Heard.{Heard, is_own}
use Rattle.device_frames.specs.Sendable.{IsSendable}
use Rattle.device_frames.specs.Sent.{Sent, IdentifyAnswer, GetAnswer, SetAnswer, ArpReply, CallAnswer, Again, ReadyCall, PlugReadyCall, Ends, Exchanges, bytes_of}
use Rattle.device_core.specs.State.{Live, Station}
use Rattle.controller_messages.specs.declared.plug_request.PlugRequest.{PlugRequest}
use Rattle.controller_messages.specs.declared.record_request.RecordRequest.{RecordRequest}
use Rattle.controller_messages.specs.declared.request.Request.{Request}
use Rattle.controller_messages.specs.declared.request.Request.TheVariants as asks
use Rattle.controller_messages.specs.declared.setup.Setup.{Setup}
use Rattle.controller_messages.specs.Heard as controller
use Rattle.controller_messages.specs.Heard.{heard_alarm, heard_answer, heard_body, heard_call, heard_content, heard_first, heard_read, heard_real_time, heard_refusal, heard_response, is_to}
use Rattle.controller_messages.specs.declared.refusal.Refusal.{Refusal}
use Rattle.controller_messages.specs.Refusal.{refusal_of}
use Rattle.controller_messages.specs.PlugRequests.{plug_call}
use Rattle.controller_messages.specs.RecordRequests.{record_call}
use Rattle.controller_messages.specs.Requests.{blocks_of, call_for, sequence_of, write_count, writing_blocks}
use Rattle.controller_messages.specs.Sent as said
use Rattle.controller_messages.specs.Sent.{answer_frame, call_frame, calls_at, identify_multicast, tag_of}
use Rattle.controller_core.specs.start_up.Answers.{is_ready}
use Rattle.controller_core.specs.start_up.Answers.{ready_in}
use Rattle.frame_codec.specs.Sendable.{IsHolder, IsMac, IsTag, carrying}
use Rattle.end_laws.specs.hearing.Hearing.{IsUncalled, IsUnreported, all_hears, comes, mine_reported, own_reported}
use Rattle.end_laws.specs.hearing.Stations.{IsAddress, IsCalled, IsCaller, IsDevice, IsNumbered, IsPlugCall, IsRecordCall, IsSetup, plug_ready_call, ready_call}
use Rattle.end_laws.specs.sending.Addressed.{IsAimedAt, IsDirection, IsHeardFrom}
use Rattle.end_laws.specs.both.Small as small
use Rattle.end_laws.specs.both.Small.{ToController, ToDevice, reply_of}
use Rattle.end_laws.specs.both.Steps.{CallsWhile, SaysToDevice}
use Rattle.end_laws.specs.controller.Small.{asked_by, readied_by, said_by, said_to}
use Rattle.end_laws.specs.device.Orderly.{IsOrderlyIn}
use Rattle.end_laws.specs.device.Owed.{IsAnswering, IsOwed, IsReplying}
use Rattle.end_laws.specs.device.Small as ends
use Rattle.end_laws.specs.device.Small.{IsHeardAs, Planned, confirms, heard_as, number_in}
use Rattle.both_ends.specs.startup.View.{IsSaidAs, is_planned, is_write, rules_of, says_to_device}
use Rattle.wire.proofs.Fields.{bind_ok}
use Rattle.both_ends.proofs.StartupGiven.{HeardSo}

-- ---- choices

holds_if : {A : Type 0} (P : A → Type 0) (b : Bool) (x y : A) → P x → P y → P (cond b x y)
holds_if P true x y one other = one
holds_if P false x y one other = other

same_mac : (one other : Mac) → one.octets ≡ other.octets → one ≡ other
same_mac one other e = ap (λ (octets : List ℕ). record { octets = octets }) e

other_mac : (one other : Mac) → (one ≡ other → ⊥) → pointwise nat_eq one.octets other.octets ≡ false
other_mac one other apart = by_test (pointwise nat_eq one.octets other.octets) refl
  where
    by_test : (b : Bool) → pointwise nat_eq one.octets other.octets ≡ b → b ≡ false
    by_test true e = absurd (apart (same_mac one other (same_text one.octets other.octets (sym e))))
    by_test false e = refl

-- ---- what is read has addresses of six octets

layers_read : (bytes : List ℕ) (meaning : Meaning) → frame_of bytes ≡ Ok meaning → layers.read bytes ≡ Ok meaning
unfolding frame_of
layers_read bytes meaning e =
    let there = bind_ok (ethernet.read bytes) (λ header. cond (nat_lt (longest header.0.tag) (length bytes)) (Err TooLong) (layers.read bytes)) meaning e in
    by_length (nat_lt (longest there.0.0.tag) (length bytes)) there.2
  where
    by_length : (b : Bool) → cond b (Err TooLong) (layers.read bytes) ≡ Ok meaning → layers.read bytes ≡ Ok meaning
    by_length true f = absurd cc
    by_length false f = f

-- equal values give equal results
along : {A B : Type 0} (x y : A) → x ≡ y → (make : A → B) → make x ≡ make y
along x y e make = ap make e

source_six : IsSoundWhole layers → (bytes : List ℕ) (meaning : Meaning) → frame_of bytes ≡ Ok meaning → IsMac meaning.source
unfolding layers ethernet mac
source_six sound bytes meaning e =
    let spelled = sound.takes bytes meaning (layers_read bytes meaning e) in
    let header = spelled.2.1 in
    let source = header.2.2.1 in
    ap (λ (m : Meaning). length m.source.octets) (sym spelled.1)
    ∙ along _ _ (sym header.1) (λ head. length head.source.octets)
    ∙ ap (λ (m : Mac). length m.octets) (sym source.1)
    ∙ source.2.0

-- a station that responds has such an address
abbrev IsSix : controller.Heard → Type 0
IsSix (controller.Answers source answer) = IsMac source
IsSix heard = Unit {0}

six_answer : (source : Mac) (read : Result Answered DcpFault) → IsMac source → IsSix (heard_answer source read)
six_answer source (Ok answer) six = six
six_answer source (Err fault) six = tt

six_alarm : (source : Mac) (frame_id : ℕ) (read : Result (Header × AlarmReported) AlarmFault) → IsSix (heard_alarm source frame_id read)
six_alarm source frame_id (Ok x) = tt
six_alarm source frame_id (Err fault) = tt

six_real_time : (source : Mac) (frame_id : ℕ) (body : List ℕ) → IsMac source → IsSix (heard_real_time source frame_id body)
unfolding heard_real_time
six_real_time source frame_id body six =
    holds_if IsSix (is_cyclic frame_id) (controller.Cyclic source frame_id body) _ tt
    (holds_if IsSix (is_alarm frame_id) (heard_alarm source frame_id (alarm_of body)) _ (six_alarm source frame_id (alarm_of body))
    (holds_if IsSix (frame_id == 0xFEFD) (heard_answer source (answer_of frame_id body)) _ (six_answer source (answer_of frame_id body) six)
    (holds_if IsSix (frame_id == 0xFEFF) (heard_answer source (answer_of frame_id body)) controller.Nothing (six_answer source (answer_of frame_id body) six) tt)))

six_call : (caller : Caller) (call : Call) (blocks : Option (List ℕ)) → IsSix (heard_call caller call blocks)
six_call caller call (Some blocks) = tt
six_call caller call None = tt

six_refusal : (read : Result Refusal RpcFault) → IsSix (heard_refusal read)
six_refusal (Ok refusal) = tt
six_refusal (Err fault) = tt

six_response : (read : Result Response RpcFault) (refusal : Result Refusal RpcFault) → IsSix (heard_response read refusal)
six_response (Ok response) refusal = tt
six_response (Err fault) refusal = six_refusal refusal

six_first : (caller : Caller) (call : Result Call RpcFault) (response : Result Response RpcFault) (refusal : Result Refusal RpcFault) → IsSix (heard_first caller call response refusal)
six_first caller (Ok call) response refusal = six_call caller call call.blocks
six_first caller (Err fault) response refusal = six_response response refusal

six_body : (caller : Caller) (body : List ℕ) → IsSix (heard_body caller body)
unfolding heard_body
six_body caller body = six_first caller (call_of controllers body) (response_of body) (refusal_of body)

six_content : (address : List ℕ) (source : Mac) (content : Content) → IsMac source → IsSix (heard_content address source content)
six_content address source (RealTime frame_id body) six = six_real_time source frame_id body six
six_content address source (ArpPacket packet) six = tt
six_content address source (UdpDatagram from to body) six = holds_if IsSix (is_to address to) (heard_body (record { mac = source; endpoint = from }) body) controller.Nothing (six_body _ body) tt

six_read : IsSoundWhole layers → (mine : Controller) (octets : List ℕ) (read : Result Meaning FrameFault) → frame_of octets ≡ read → IsSix (heard_read mine read)
six_read sound mine octets (Ok meaning) e =
    holds_if IsSix (pointwise nat_eq meaning.destination.octets mine.mac.octets) (heard_content mine.address meaning.source meaning.content) controller.Nothing
    (six_content mine.address meaning.source meaning.content (source_six sound octets meaning e)) tt
six_read sound mine octets (Err fault) e = tt

six_heard : IsSoundWhole layers → (mine : Controller) (octets : List ℕ) → IsSix (controller.heard_of mine octets)
unfolding controller.heard_of
six_heard sound mine octets = six_read sound mine octets (frame_of octets) refl

-- ---- what a frame means to both ends, if it is one of a start-up

-- the number of each Write of the plan is that of its blocks
abbrev pub AreNumbered : Setup → Type 0
AreNumbered setup = (number : ℕ) → number < write_count setup.plan → number_in (writing_blocks setup number) ≡ number

-- a call that a device hears is one that the controller makes
abbrev pub IsListed : Parts → Request → Type 0
IsListed plan (asks.Write number) = number < write_count plan
IsListed plan (asks.WriteAfter number tries) = number < write_count plan
IsListed plan request = Unit {0}

pub record IsOwnCall (setup : Setup) (caller : Caller) (call : Call) : Type 0 where
  pub request : Request
  pub called : IsCalled request
  pub numbered : IsNumbered request
  pub listed : IsListed setup.plan request
  pub is : call ≡ call_for setup request
  pub caller_is : caller ≡ record { mac = setup.plan.controller.mac; endpoint = calls_at setup.plan.controller.address }

-- a call of the application that a device hears
pub record IsAccess (setup : Setup) (caller : Caller) (call : Call) : Type 0 where
  pub request : RecordRequest
  pub octets : List ℕ
  pub sized : IsRecordCall request octets
  pub is : call ≡ record_call setup request octets
  pub caller_is : caller ≡ record { mac = setup.plan.controller.mac; endpoint = calls_at setup.plan.controller.address }

-- a call after a plug that a device hears
pub record IsPlugged (setup : Setup) (caller : Caller) (call : Call) : Type 0 where
  pub request : PlugRequest
  pub sized : IsPlugCall request
  pub is : call ≡ plug_call setup request
  pub caller_is : caller ≡ record { mac = setup.plan.controller.mac; endpoint = calls_at setup.plan.controller.address }

-- one of them
abbrev pub IsKnownCall : Setup → Caller → Call → Type 0
IsKnownCall setup caller call = IsOwnCall setup caller call ⊎ (IsAccess setup caller call ⊎ IsPlugged setup caller call)

pub known_activity : (setup : Setup) (caller : Caller) (call : Call) → IsKnownCall setup caller call → call.header.activity ≡ setup.activity
known_activity setup caller call (inl own) = ap (λ (c : Call). c.header.activity) own.is
known_activity setup caller call (inr (inl access)) = ap (λ (c : Call). c.header.activity) access.is
known_activity setup caller call (inr (inr plugged)) = ap (λ (c : Call). c.header.activity) plugged.is

known_caller : (setup : Setup) (caller : Caller) (call : Call) → IsKnownCall setup caller call
    → caller ≡ record { mac = setup.plan.controller.mac; endpoint = calls_at setup.plan.controller.address }
known_caller setup caller call (inl own) = own.caller_is
known_caller setup caller call (inr (inl access)) = access.caller_is
known_caller setup caller call (inr (inr plugged)) = plugged.caller_is

-- what is asked of the application is such a call, and no Read Implicit
pub record IsKnownQuestion (setup : Setup) (question : Question) : Type 0 where
  pub call : Call
  pub known : IsKnownCall setup question.caller call
  pub header : question.header ≡ call.header
  pub plain : is_implicit question.request ≡ false

abbrev pub IsKnownAsked : Setup → AskedState → Type 0
IsKnownAsked setup asked = (question : Question) → question_in asked ≡ Some question → IsKnownQuestion setup question

abbrev pub IsKnownSaid : Setup → Caller → device.Said → Type 0
IsKnownSaid setup caller (device.Calls call) = IsKnownCall setup caller call
IsKnownSaid setup caller reported = Unit {0}

abbrev pub IsKnownHeard : Setup → Heard → Type 0
IsKnownHeard setup (device.Reported caller address reported) = IsKnownSaid setup caller reported
IsKnownHeard setup heard = Unit {0}

-- the same for the calls and responses that the controller hears
pub record IsKnown (setup : Setup) (identity : Identity) (frame : List ℕ) : Type 0 where
  pub at_device : IsKnownHeard setup (device.heard_of identity (comes frame))
  pub at_controller : IsHeardFrom identity.mac (controller.heard_of setup.plan.controller frame)

-- ---- frames that say nothing of a start-up

unreported_known : (setup : Setup) (heard : Heard) → IsUnreported heard → IsKnownHeard setup heard
unreported_known setup (device.Reported caller address reported) un = absurd un
unreported_known setup heard un = tt

unreported_idle : (planned : Planned) (heard : Heard) → IsUnreported heard → heard_as planned heard ≡ small.Idle
unreported_idle planned (device.Reported caller address reported) un = absurd un
unreported_idle planned heard un = refl

uncalled_from : (own : Mac) (heard : controller.Heard) → IsSix heard → IsUncalled heard → IsHeardFrom own heard
uncalled_from own (controller.Answers source answer) six un = six
uncalled_from own (controller.Calls caller call) six un = absurd un
uncalled_from own heard six un = tt

uncalled_nothing : (setup : Setup) (heard : controller.Heard) → IsUncalled heard → said_to setup heard ≡ small.Nothing
uncalled_nothing setup (controller.Responds response) un = absurd un
uncalled_nothing setup (controller.Refuses refusal) un = absurd un
uncalled_nothing setup (controller.Calls caller call) un = absurd un
uncalled_nothing setup heard un = refl

-- ---- messages

module _ (so : HeardSo) (setup : Setup) (station : Station) (good : IsSetup setup) (real : IsDevice station.identity) (apart : station.identity.mac ≡ setup.plan.controller.mac → ⊥) where
  abbrev pub identity : Identity
  identity = station.identity

  abbrev pub planned : Planned
  planned = is_planned setup

  abbrev pub mine : Controller
  mine = setup.plan.controller

  abbrev pub at_device : List ℕ → Heard
  at_device frame = device.heard_of identity (comes frame)

  abbrev pub at_controller : List ℕ → controller.Heard
  at_controller frame = controller.heard_of mine frame

  -- a frame of the device, of which the controller hears at most this
  pub record IsMet (frame : List ℕ) (says : ToController) : Type 0 where
    pub known : IsKnown setup identity frame
    pub idle : heard_as planned (at_device frame) ≡ small.Idle
    pub says_at_most : (said_to setup (at_controller frame) ≡ small.Nothing) ⊎ (said_to setup (at_controller frame) ≡ says)

  -- the same, from what both ends hear
  met_by : (frame : List ℕ) (says : ToController) (heard : Heard) (reported : controller.Heard) → at_device frame ≡ heard → at_controller frame ≡ reported
      → IsKnownHeard setup heard → heard_as planned heard ≡ small.Idle → IsHeardFrom identity.mac reported → (said_to setup reported ≡ small.Nothing) ⊎ (said_to setup reported ≡ says)
      → IsMet frame says
  met_by frame says heard reported e f known idle from at_most = record {
    known = record {
      at_device = subst (λ (h : Heard). IsKnownHeard setup h) (sym e) known;
      at_controller = subst (λ (h : controller.Heard). IsHeardFrom identity.mac h) (sym f) from;
    };
    idle = ap (heard_as planned) e ∙ idle;
    says_at_most = subst (λ (h : controller.Heard). (said_to setup h ≡ small.Nothing) ⊎ (said_to setup h ≡ says)) (sym f) at_most;
  }

  -- real-time data, from any station
  data_known : (destination source : Mac) (tag : Option ℕ) (frame_id : ℕ) (body : List ℕ) → IsMac destination → IsMac source → IsTag tag
      → IsKnown setup identity (frame_bytes (carrying destination source tag (RealTime frame_id body)))
  data_known destination source tag frame_id body one other tagged =
      let frame = frame_bytes (carrying destination source tag (RealTime frame_id body)) in
      record {
        at_device = unreported_known setup (at_device frame) (so.unreported identity destination source tag frame_id body one other tagged);
        at_controller = uncalled_from identity.mac (at_controller frame) (six_heard so.sound mine frame) (so.uncalled mine destination source tag frame_id body one other tagged);
      }

  data_idle : (destination source : Mac) (tag : Option ℕ) (frame_id : ℕ) (body : List ℕ) → IsMac destination → IsMac source → IsTag tag
      → heard_as planned (at_device (frame_bytes (carrying destination source tag (RealTime frame_id body)))) ≡ small.Idle
  data_idle destination source tag frame_id body one other tagged =
      unreported_idle planned (at_device (frame_bytes (carrying destination source tag (RealTime frame_id body)))) (so.unreported identity destination source tag frame_id body one other tagged)

  data_nothing : (destination source : Mac) (tag : Option ℕ) (frame_id : ℕ) (body : List ℕ) → IsMac destination → IsMac source → IsTag tag
      → said_to setup (at_controller (frame_bytes (carrying destination source tag (RealTime frame_id body)))) ≡ small.Nothing
  data_nothing destination source tag frame_id body one other tagged =
      uncalled_nothing setup (at_controller (frame_bytes (carrying destination source tag (RealTime frame_id body)))) (so.uncalled mine destination source tag frame_id body one other tagged)

  data_met : (destination : Mac) (tag : Option ℕ) (frame_id : ℕ) (body : List ℕ) → IsMac destination → IsTag tag
      → IsMet (frame_bytes (carrying destination identity.mac tag (RealTime frame_id body))) small.Nothing
  data_met destination tag frame_id body one tagged = record {
    known = data_known destination identity.mac tag frame_id body one real tagged;
    idle = data_idle destination identity.mac tag frame_id body one real tagged;
    says_at_most = inl (data_nothing destination identity.mac tag frame_id body one real tagged);
  }

  packet_met : (asker : Mac) (address : List ℕ) (target : Holder) → IsMac asker → IsAddress address → IsHolder target → IsMet (bytes_of identity (ArpReply asker address target)) small.Nothing
  packet_met asker address target one four held =
      let packet : Arp = record { operation = Reply; sender = record { mac = identity.mac; address = address }; target = target } in
      met_by (bytes_of identity (ArpReply asker address target)) small.Nothing (all_hears identity asker (device.Resolves identity.mac packet)) controller.Nothing
      (so.packet_at_device identity identity asker address target real one four held) (so.packet_at_controller mine identity asker address target real one four held)
      (holds_if (λ (h : Heard). IsKnownHeard setup h) (is_own identity asker || pointwise nat_eq asker.octets device.broadcast) (device.Resolves identity.mac packet) device.Elsewhere tt tt)
      (holds_if (λ (h : Heard). heard_as planned h ≡ small.Idle) (is_own identity asker || pointwise nat_eq asker.octets device.broadcast) (device.Resolves identity.mac packet) device.Elsewhere refl refl)
      tt (inl refl)

  -- ---- responses

  -- what a controller hears of a datagram, if it is for the controller
  mine_holds : (P : controller.Heard → Type 0) (destination : Mac) (to : Endpoint) (heard : controller.Heard) → P heard → P controller.Nothing → P (mine_reported mine destination to heard)
  mine_holds P destination to heard one other =
      holds_if P (pointwise nat_eq destination.octets mine.mac.octets) (cond (is_to mine.address to) heard controller.Nothing) controller.Nothing
      (holds_if P (is_to mine.address to) heard controller.Nothing one other) other

  own_holds : (P : Heard → Type 0) (source destination : Mac) (from to : Endpoint) (reported : device.Said)
      → P (device.Reported (record { mac = source; endpoint = from }) to.address reported) → P device.Elsewhere → P (own_reported identity source destination from to reported)
  own_holds P source destination from to reported one other =
      holds_if P (is_own identity destination && to.port == 34964) (device.Reported (record { mac = source; endpoint = from }) to.address reported) device.Elsewhere one other

  -- a datagram to the controller is not for the device
  elsewhere : (source destination : Mac) (from to : Endpoint) (reported : device.Said) → destination ≡ mine.mac → own_reported identity source destination from to reported ≡ device.Elsewhere
  elsewhere source destination from to reported is =
      let none : is_own identity destination ≡ false = other_mac destination identity.mac (λ same. apart (sym same ∙ is)) in
      ap (λ (b : Bool). cond (b && to.port == 34964) (device.Reported (record { mac = source; endpoint = from }) to.address reported) device.Elsewhere) none

  answer_says : (answer : Response) → (said_to setup (controller.Responds answer) ≡ small.Nothing) ⊎ (said_to setup (controller.Responds answer) ≡ small.Answers answer.header.sequence (reply_of answer))
  answer_says answer = by_activity (pointwise nat_eq answer.header.activity setup.activity)
    where
      by_activity : (b : Bool) → (cond b (small.Answers answer.header.sequence (reply_of answer)) small.Nothing ≡ small.Nothing)
          ⊎ (cond b (small.Answers answer.header.sequence (reply_of answer)) small.Nothing ≡ small.Answers answer.header.sequence (reply_of answer))
      by_activity true = inr refl
      by_activity false = inl refl

  abbrev pub AtMost : ToController → controller.Heard → Type 0
  AtMost says heard = (said_to setup heard ≡ small.Nothing) ⊎ (said_to setup heard ≡ says)

  answer_met : (caller : Caller) (address : List ℕ) (answer : Response) → caller ≡ record { mac = mine.mac; endpoint = calls_at mine.address }
      → IsAddress address → CanBeAnswered answer
      → IsMet (bytes_of identity (CallAnswer caller address answer)) (small.Answers answer.header.sequence (reply_of answer))
  answer_met caller address answer caller_is four can =
      let calls : IsCaller caller = subst (λ (c : Caller). IsCaller c) (sym caller_is) (record { mac = good.mac; endpoint = (good.address, omega arith) }) in
      met_by (bytes_of identity (CallAnswer caller address answer)) (small.Answers answer.header.sequence (reply_of answer)) device.Elsewhere
      (mine_reported mine caller.mac caller.endpoint (controller.Responds answer))
      (so.response_at_device identity identity caller address answer real calls four can
      ∙ elsewhere identity.mac caller.mac (calls_at address) caller.endpoint (device.Responds answer) (ap (λ (c : Caller). c.mac) caller_is))
      (so.response_at_controller mine identity caller address answer real calls four can) tt refl
      (mine_holds (λ (h : controller.Heard). IsHeardFrom identity.mac h) caller.mac caller.endpoint (controller.Responds answer) tt tt)
      (mine_holds (AtMost (small.Answers answer.header.sequence (reply_of answer))) caller.mac caller.endpoint (controller.Responds answer) (answer_says answer) (inl refl))

  -- ---- ApplicationReady

  ready_says : (block : Option ControlBlock) → (readied_by setup block ≡ small.Nothing) ⊎ (readied_by setup block ≡ small.Readies)
  ready_says None = inl refl
  ready_says (Some block) = by_name (is_ready setup block)
    where
      by_name : (b : Bool) → (cond b small.Readies small.Nothing ≡ small.Nothing) ⊎ (cond b small.Readies small.Nothing ≡ small.Readies)
      by_name true = inr refl
      by_name false = inl refl

  ready_met : (address : List ℕ) (ready : Ready) → IsMac ready.partner.mac → IsAddress ready.partner.address → IsAddress address → CanBeCalled controllers (ready_call ready)
      → IsMet (bytes_of identity (ReadyCall address ready)) small.Readies
  ready_met address ready one four own can =
      let caller : Caller = record { mac = identity.mac; endpoint = calls_at address } in
      let from = calls_at address in
      let to = calls_at ready.partner.address in
      met_by (bytes_of identity (ReadyCall address ready)) small.Readies (own_reported identity identity.mac ready.partner.mac from to device.Garbled)
      (mine_reported mine ready.partner.mac to (controller.Calls caller (ready_call ready)))
      (so.ready_at_device identity identity address ready real one four own can) (so.ready_at_controller mine identity address ready real one four own can)
      (own_holds (λ (h : Heard). IsKnownHeard setup h) identity.mac ready.partner.mac from to device.Garbled tt tt)
      (own_holds (λ (h : Heard). heard_as planned h ≡ small.Idle) identity.mac ready.partner.mac from to device.Garbled refl refl)
      (mine_holds (λ (h : controller.Heard). IsHeardFrom identity.mac h) ready.partner.mac to (controller.Calls caller (ready_call ready))
      (refl, record { mac = real; endpoint = (own, omega arith) }, can.header, can.maximum) tt)
      (mine_holds (AtMost small.Readies) ready.partner.mac to (controller.Calls caller (ready_call ready)) (ready_says (ready_in (ready_call ready))) (inl refl))

  -- ApplicationReady of the relation of the plan can be sent as a call
  ready_can_be : (link_is : RelationState) (ready : Ready) → link_is.request ≡ request_for setup.plan setup.ar → ready.header ≡ (ready_of link_is).header → ready.block ≡ (ready_of link_is).block
      → CanBeCalled controllers (ready_call ready)
  ready_can_be link_is ready made header block =
      let object : IsUuid ready.header.object = ap (λ (h : CallHeader). length h.object) header ∙ ap (λ (r : Asked_for). length r.ar.object) made in
      let activity : IsUuid ready.header.activity = ap (λ (h : CallHeader). length h.activity) header ∙ (ap (λ (r : Asked_for). length r.ar.uuid) made ∙ good.ar) in
      so.ready_can ready
      (record {
        object = object;
        interface = ap (λ (h : CallHeader). length h.interface) header;
        activity = activity;
        sequence = subst (λ (n : ℕ). n < 4294967296) (sym (ap (λ (h : CallHeader). h.sequence) header)) (omega arith);
        operation = subst (λ (n : ℕ). n < 65536) (sym (ap (λ (h : CallHeader). h.operation) header)) (omega arith);
      })
      (ap (λ (h : CallHeader). h.interface) header)
      (ap (λ (b : ControlBlock). length b.ar_uuid) block ∙ (ap (λ (r : Asked_for). length r.ar.uuid) made ∙ good.ar))

  -- ---- ApplicationReady of a plug

  plug_met : (address : List ℕ) (ready : PlugReady) → IsMac ready.partner.mac → IsAddress ready.partner.address → IsAddress address → CanBeCalled controllers (plug_ready_call ready)
      → IsMet (bytes_of identity (PlugReadyCall address ready)) small.Nothing
  plug_met address ready one four own can =
      let caller : Caller = record { mac = identity.mac; endpoint = calls_at address } in
      let from = calls_at address in
      let to = calls_at ready.partner.address in
      met_by (bytes_of identity (PlugReadyCall address ready)) small.Nothing (own_reported identity identity.mac ready.partner.mac from to device.Garbled)
      (mine_reported mine ready.partner.mac to (controller.Calls caller (plug_ready_call ready)))
      (so.plug_at_device identity identity address ready real one four own can) (so.plug_at_controller mine identity address ready real one four own can)
      (own_holds (λ (h : Heard). IsKnownHeard setup h) identity.mac ready.partner.mac from to device.Garbled tt tt)
      (own_holds (λ (h : Heard). heard_as planned h ≡ small.Idle) identity.mac ready.partner.mac from to device.Garbled refl refl)
      (mine_holds (λ (h : controller.Heard). IsHeardFrom identity.mac h) ready.partner.mac to (controller.Calls caller (plug_ready_call ready))
      (refl, record { mac = real; endpoint = (own, omega arith) }, can.header, can.maximum) tt)
      (mine_holds (AtMost small.Nothing) ready.partner.mac to (controller.Calls caller (plug_ready_call ready))
      (inl (ap (λ (block : Option ControlBlock). readied_by setup block) (so.plug_other ready))) (inl refl))

  -- ApplicationReady of a plug in the relation of the plan can be sent as a call
  plug_can_be : (link_is : RelationState) (call : PlugCall) (ready : PlugReady) → link_is.request ≡ request_for setup.plan setup.ar → call.sequence < 4294967296
      → ready.header ≡ (ready_for link_is call).header → ready.block ≡ (ready_for link_is call).block → CanBeCalled controllers (plug_ready_call ready)
  plug_can_be link_is call ready made few header block =
      so.plug_can ready
      (record {
        object = ap (λ (h : CallHeader). length h.object) header ∙ ap (λ (r : Asked_for). length r.ar.object) made;
        interface = ap (λ (h : CallHeader). length h.interface) header;
        activity = ap (λ (h : CallHeader). length h.activity) header ∙ (ap (λ (r : Asked_for). length r.ar.uuid) made ∙ good.ar);
        sequence = subst (λ (h : CallHeader). h.sequence < 4294967296) (sym header) few;
        operation = subst (λ (h : CallHeader). h.operation < 65536) (sym header) (omega arith);
      })
      (ap (λ (h : CallHeader). h.interface) header)
      (ap (λ (b : PlugControlBlock). length b.ar_uuid) block ∙ (ap (λ (r : Asked_for). length r.ar.uuid) made ∙ good.ar))

  -- ---- a message of the device

  -- a call that was heard is one of the controller
  own_call : (heard : Heard) (caller : Caller) (address : List ℕ) (call : Call) → heard ≡ device.Reported caller address (device.Calls call) → IsKnownHeard setup heard → IsKnownCall setup caller call
  own_call heard caller address call is known = subst (λ (h : Heard). IsKnownHeard setup h) is known

  -- a response goes to the controller
  answering_caller : (heard : Heard) (live : Live) (caller : Caller) (answer : Response) → IsKnownHeard setup heard → IsKnownAsked setup live.rest.asked
      → IsAnswering heard caller answer ⊎ IsReplying live caller answer → caller ≡ record { mac = mine.mac; endpoint = calls_at mine.address }
  answering_caller heard live caller answer known asked (inl owed) =
      known_caller setup caller owed.call (own_call heard caller owed.address owed.call owed.is known)
  answering_caller heard live caller answer known asked (inr owed) =
      let own = asked owed.question owed.is in
      owed.own ∙ known_caller setup owed.question.caller own.call own.known

  -- the relation of the device is the plan's
  abbrev pub IsPlans : Option RelationState → Type 0
  IsPlans relation = (l : RelationState) → relation ≡ Some l → l.request ≡ request_for setup.plan setup.ar

  -- what the controller may hear of a message
  abbrev pub says_of : Sent → ToController
  says_of (CallAnswer caller address answer) = small.Answers answer.header.sequence (reply_of answer)
  says_of (ReadyCall address ready) = small.Readies
  says_of message = small.Nothing

  -- a message that was not sent before
  abbrev pub IsMetAs : Sent → Type 0
  IsMetAs (Again frame) = Unit {0}
  IsMetAs message = IsMet (bytes_of identity message) (says_of message)

  message_met : (heard : Heard) (live : Live) (message : Sent) → IsKnownHeard setup heard → IsKnownAsked setup live.rest.asked
      → IsPlans live.rest.link → IsOrderlyIn live.rest.link → IsOwed heard live message → IsSendable identity message → IsMetAs message
  message_met heard live (Again frame) known asked plans orderly owed can = tt
  message_met heard live (IdentifyAnswer asker running xid) known asked plans orderly owed can = data_met asker None _ _ can.destination tt
  message_met heard live (GetAnswer asker running alias request) known asked plans orderly owed can = data_met asker None _ _ can.destination tt
  message_met heard live (SetAnswer asker request answers) known asked plans orderly owed can = data_met asker None _ _ can.destination tt
  message_met heard live (ArpReply asker address target) known asked plans orderly owed can = packet_met asker address target can.destination can.content.0.1 can.content.1
  message_met heard live (CallAnswer caller address answer) known asked plans orderly owed can =
      answer_met caller address answer (answering_caller heard live caller answer known asked owed) can.0.content.0.0 can.1
  message_met heard live (ReadyCall address ready) known asked plans orderly owed can =
      ready_met address ready can.destination can.content.1.0 can.content.0.0 (ready_can_be owed.link ready (plans owed.link owed.is) owed.header owed.block)
  message_met heard live (PlugReadyCall address ready) known asked plans orderly owed can =
      plug_met address ready can.destination can.content.1.0 can.content.0.0
      (plug_can_be owed.link owed.call ready (plans owed.link owed.is) (owed.sequence orderly) owed.header owed.block)
  message_met heard live (Ends farewell) known asked plans orderly owed can = data_met farewell.initiator (Some farewell.tag) _ _ can.destination can.tag
  message_met heard live (Exchanges route frame) known asked plans orderly owed can = data_met route.partner (Some _) _ _ can.destination can.tag

  heard_met : (message : Sent) → IsMetAs message → IsHeardAs (rules_of setup station) identity message
  heard_met (Again frame) met = tt
  heard_met message met = (met.idle, met.says_at_most)

  pub all_met : (heard : Heard) (live : Live) (messages : List Sent) → IsKnownHeard setup heard → IsKnownAsked setup live.rest.asked
      → IsPlans live.rest.link → IsOrderlyIn live.rest.link → AllByRecursion (IsOwed heard live) messages
      → AllByRecursion (IsSendable identity) messages → AllByRecursion IsMetAs messages
  all_met heard live [] known asked plans orderly owed can = tt
  all_met heard live (message ∷ messages) known asked plans orderly owed can =
      (message_met heard live message known asked plans orderly owed.0 can.0, all_met heard live messages known asked plans orderly owed.1 can.1)

  pub all_heard : (messages : List Sent) → AllByRecursion IsMetAs messages → AllByRecursion (IsHeardAs (rules_of setup station) identity) messages
  all_heard [] met = tt
  all_heard (message ∷ messages) met = (heard_met message met.0, all_heard messages met.1)

  -- ---- a message of the controller

  pub record IsReported (frame : List ℕ) (says : ToDevice) : Type 0 where
    pub known : IsKnown setup identity frame
    pub nothing : said_to setup (at_controller frame) ≡ small.Nothing
    pub says_or_idle : (heard_as planned (at_device frame) ≡ says) ⊎ (heard_as planned (at_device frame) ≡ small.Idle)

  reported_by : (frame : List ℕ) (says : ToDevice) (heard : Heard) (reported : controller.Heard) → at_device frame ≡ heard → at_controller frame ≡ reported
      → IsKnownHeard setup heard → (heard_as planned heard ≡ says) ⊎ (heard_as planned heard ≡ small.Idle) → IsHeardFrom identity.mac reported → said_to setup reported ≡ small.Nothing
      → IsReported frame says
  reported_by frame says heard reported e f known or_idle from nothing = record {
    known = record {
      at_device = subst (λ (h : Heard). IsKnownHeard setup h) (sym e) known;
      at_controller = subst (λ (h : controller.Heard). IsHeardFrom identity.mac h) (sym f) from;
    };
    nothing = ap (λ (h : controller.Heard). said_to setup h) f ∙ nothing;
    says_or_idle = subst (λ (h : Heard). (heard_as planned h ≡ says) ⊎ (heard_as planned h ≡ small.Idle)) (sym e) or_idle;
  }

  data_reported : (destination : Mac) (tag : Option ℕ) (frame_id : ℕ) (body : List ℕ) (says : ToDevice) → IsMac destination → IsTag tag
      → IsReported (frame_bytes (carrying destination mine.mac tag (RealTime frame_id body))) says
  data_reported destination tag frame_id body says one tagged = record {
    known = data_known destination mine.mac tag frame_id body one good.mac tagged;
    nothing = data_nothing destination mine.mac tag frame_id body one good.mac tagged;
    says_or_idle = inr (data_idle destination mine.mac tag frame_id body one good.mac tagged);
  }

  -- the device reads the call as what the controller says by it
  same_list : (xs : List ℕ) → pointwise nat_eq xs xs ≡ true
  same_list [] = refl
  same_list (x ∷ xs) = rw (eq-eqb x x refl) (same_list xs)

  write_is_planned : AreNumbered setup → (sequence number : ℕ) → number < write_count setup.plan → number < sequence
      → is_planned setup sequence (writing_blocks setup number) ≡ true
  write_is_planned numbers sequence number listed later =
      let blocks = writing_blocks setup number in
      ap (λ (n : ℕ). is_write setup sequence blocks n) (numbers number listed)
      ∙ both (nat_lt number (write_count setup.plan)) (pointwise nat_eq blocks blocks && nat_lt number sequence) (lt-ltb _ _ listed)
      (both (pointwise nat_eq blocks blocks) (nat_lt number sequence) (same_list blocks) (lt-ltb _ _ later))
    where
      both : (a b : Bool) → a ≡ true → b ≡ true → (a && b) ≡ true
      both true b e f = f
      both false b e f = absurd cc

  -- the Write with this number, by a call with a later sequence number
  written_is : AreNumbered setup → (sequence number : ℕ) → number < write_count setup.plan → number < sequence
      → ends.written_by (planned sequence (writing_blocks setup number)) sequence (number_in (writing_blocks setup number)) ≡ small.Call sequence (small.Writes number)
  written_is numbers sequence number listed later =
      ap (λ (b : Bool). ends.written_by b sequence (number_in (writing_blocks setup number))) (write_is_planned numbers sequence number listed later)
      ∙ ap (λ (n : ℕ). small.Call sequence (small.Writes n)) (numbers number listed)

  asked_is : AreNumbered setup → (request : Request) → IsCalled request → IsListed setup.plan request
      → ends.asked_by planned (sequence_of setup.plan request) (blocks_of setup request) (operation_of (call_for setup request).header.operation) ≡ asked_by setup.plan request
  unfolding operation_of
  asked_is numbers asks.Identify called listed = absurd called
  asked_is numbers asks.Address called listed = absurd called
  asked_is numbers asks.Connect called listed = refl
  asked_is numbers (asks.Write number) called listed = written_is numbers (number + 1) number listed (omega arith)
  asked_is numbers asks.PrmEnd called listed = refl
  asked_is numbers (asks.PrmEndAfter tries) called listed = refl
  asked_is numbers (asks.WriteAfter number tries) called listed = written_is numbers (number + tries + 1) number listed (omega arith)
  asked_is numbers (asks.Release sequence) called listed = refl

  -- a call to the device, of the start-up, of the application or after a plug
  known_reported : (to : Mac) (call : Call) (says : ToDevice) → IsMac to → CanBeCalled devices call
      → IsKnownCall setup (record { mac = mine.mac; endpoint = calls_at mine.address }) call → ends.said_to planned (device.Calls call) ≡ says → IsReported (call_frame setup to call) says
  known_reported to call says six can known is =
      let from = calls_at mine.address in
      let to_end = calls_at setup.plan.station.suite.address in
      reported_by (call_frame setup to call) says (own_reported identity mine.mac to from to_end (device.Calls call)) controller.Nothing
      (so.call_at_device identity setup to call good six can) (so.call_at_controller mine setup to call good six can)
      (own_holds (λ (h : Heard). IsKnownHeard setup h) mine.mac to from to_end (device.Calls call) known tt)
      (own_holds (λ (h : Heard). (heard_as planned h ≡ says) ⊎ (heard_as planned h ≡ small.Idle)) mine.mac to from to_end (device.Calls call) (inl is) (inr refl))
      tt refl

  call_reported : AreNumbered setup → (to : Mac) (request : Request) → IsMac to → IsCalled request → IsNumbered request → IsListed setup.plan request
      → IsReported (call_frame setup to (call_for setup request)) (asked_by setup.plan request)
  call_reported numbers to request six called numbered listed =
      known_reported to (call_for setup request) (asked_by setup.plan request) six (so.call_can setup request good called numbered)
      (inl (record { request = request; called = called; numbered = numbered; listed = listed; is = refl; caller_is = refl })) (asked_is numbers request called listed)

  access_reported : (to : Mac) (request : RecordRequest) (octets : List ℕ) → IsMac to → IsRecordCall request octets
      → IsReported (call_frame setup to (record_call setup request octets)) (ends.said_to planned (device.Calls (record_call setup request octets)))
  access_reported to request octets six sized =
      known_reported to (record_call setup request octets) (ends.said_to planned (device.Calls (record_call setup request octets))) six (so.record_can setup request octets good sized)
      (inr (inl (record { request = request; octets = octets; sized = sized; is = refl; caller_is = refl }))) refl

  plugged_reported : (to : Mac) (request : PlugRequest) → IsMac to → IsPlugCall request
      → IsReported (call_frame setup to (plug_call setup request)) (ends.said_to planned (device.Calls (plug_call setup request)))
  plugged_reported to request six sized =
      known_reported to (plug_call setup request) (ends.said_to planned (device.Calls (plug_call setup request))) six (so.plug_call_can setup request good sized)
      (inr (inr (record { request = request; sized = sized; is = refl; caller_is = refl }))) refl

  confirms_or_not : (answer : Response) (b : Bool) → (cond b small.Confirms small.Idle ≡ small.Confirms) ⊎ (cond b small.Confirms small.Idle ≡ small.Idle)
  confirms_or_not answer true = inl refl
  confirms_or_not answer false = inr refl

  agrees_reported : (caller : Caller) (answer : Response) → caller.mac ≡ identity.mac → IsCaller caller → CanBeAnswered answer → IsReported (answer_frame setup caller answer) small.Confirms
  agrees_reported caller answer caller_is is can =
      let from = calls_at mine.address in
      let none : pointwise nat_eq caller.mac.octets mine.mac.octets ≡ false = other_mac caller.mac mine.mac (λ same. apart (sym caller_is ∙ same)) in
      reported_by (answer_frame setup caller answer) small.Confirms (own_reported identity mine.mac caller.mac from caller.endpoint (device.Responds answer)) controller.Nothing
      (so.agreed_at_device identity setup caller answer good is can)
      (so.agreed_at_controller mine setup caller answer good is can
      ∙ ap (λ (b : Bool). cond b (cond (is_to mine.address caller.endpoint) (controller.Responds answer) controller.Nothing) controller.Nothing) none)
      (own_holds (λ (h : Heard). IsKnownHeard setup h) mine.mac caller.mac from caller.endpoint (device.Responds answer) tt tt)
      (own_holds (λ (h : Heard). (heard_as planned h ≡ small.Confirms) ⊎ (heard_as planned h ≡ small.Idle)) mine.mac caller.mac from caller.endpoint (device.Responds answer)
      (confirms_or_not answer (confirms answer)) (inr refl))
      tt refl

  multicast_six : IsMac identify_multicast
  unfolding identify_multicast
  multicast_six = refl

  -- a record that is written now is one of the plan
  is_listed : (now : small.Controller) (sequence number : ℕ) → CallsWhile (write_count setup.plan) now sequence (small.Writes number) → number < write_count setup.plan
  is_listed now sequence number (inl releases) = absurd cc
  is_listed now sequence number (inr (inl asked)) = asked.asked.0
  is_listed now sequence number (inr (inr accesses)) = absurd (not_access number accesses.0)
    where
      not_access : (n : ℕ) → small.Writes n ≡ small.Accesses → ⊥
      not_access n e = cc

  tag_sized : (route : Route) (priority : Priority) → IsDirection route → tag_of route priority < 65536
  tag_sized route High aimed = aimed.alarm_tag
  tag_sized route Low aimed = omega arith

  message_reported : AreNumbered setup → (now : small.Controller) (message : said.Sent) → IsAimedAt identity.mac message → SaysToDevice (write_count setup.plan) now (said_by setup.plan message)
      → IsReported (said.bytes_of setup message) (says_to_device setup message)
  message_reported numbers now (said.Requests to asks.Identify) aimed says = data_reported identify_multicast None _ _ small.Idle multicast_six tt
  message_reported numbers now (said.Requests to asks.Address) aimed says = data_reported to None _ _ small.Idle aimed.0 tt
  message_reported numbers now (said.Requests to asks.Connect) aimed says = call_reported numbers to asks.Connect aimed.0 tt tt tt
  message_reported numbers now (said.Requests to (asks.Write number)) aimed says = call_reported numbers to (asks.Write number) aimed.0 tt aimed.1 (is_listed now (number + 1) number says)
  message_reported numbers now (said.Requests to asks.PrmEnd) aimed says = call_reported numbers to asks.PrmEnd aimed.0 tt tt tt
  message_reported numbers now (said.Requests to (asks.PrmEndAfter tries)) aimed says = call_reported numbers to (asks.PrmEndAfter tries) aimed.0 tt aimed.1 tt
  message_reported numbers now (said.Requests to (asks.WriteAfter number tries)) aimed says = call_reported numbers to (asks.WriteAfter number tries) aimed.0 tt aimed.1 (is_listed now (number + tries + 1) number says)
  message_reported numbers now (said.Requests to (asks.Release sequence)) aimed says = call_reported numbers to (asks.Release sequence) aimed.0 tt aimed.1 tt
  message_reported numbers now (said.Accesses to request octets) aimed says = access_reported to request octets aimed.0 aimed.1
  message_reported numbers now (said.Parametrizes to request) aimed says = plugged_reported to request aimed.0 aimed.1
  message_reported numbers now (said.Agrees caller answer) aimed says = agrees_reported caller answer aimed.0 aimed.1 aimed.2
  message_reported numbers now (said.Cycles route shown counter) aimed says = data_reported route.partner (Some route.sent_tag) _ _ small.Idle aimed.partner aimed.sent_tag
  message_reported numbers now (said.Confirms route priority header ack) aimed says = data_reported route.partner (Some (tag_of route priority)) _ _ small.Idle aimed.partner (tag_sized route priority aimed)
  message_reported numbers now (said.Replies route priority header) aimed says = data_reported route.partner (Some (tag_of route priority)) _ _ small.Idle aimed.partner (tag_sized route priority aimed)
  message_reported numbers now (said.Ends route header reason) aimed says = data_reported route.partner (Some alarm_block.tag_header_low) _ _ small.Idle aimed.partner (omega arith)

  pub all_reported : AreNumbered setup → (now : small.Controller) (messages : List said.Sent) → AllByRecursion (IsAimedAt identity.mac) messages
      → AllByRecursion (λ message. SaysToDevice (write_count setup.plan) now (said_by setup.plan message)) messages
      → AllByRecursion (λ message. IsReported (said.bytes_of setup message) (says_to_device setup message)) messages
  all_reported numbers now [] aimed says = tt
  all_reported numbers now (message ∷ messages) aimed says = (message_reported numbers now message aimed.0 says.0, all_reported numbers now messages aimed.1 says.1)

  pub all_said : (messages : List said.Sent) → AllByRecursion (λ message. IsReported (said.bytes_of setup message) (says_to_device setup message)) messages
      → AllByRecursion (IsSaidAs setup station) messages
  all_said [] reported = tt
  all_said (message ∷ messages) reported = ((reported.0.nothing, reported.0.says_or_idle), all_said messages reported.1)

  -- the opening frame
  pub opening_reported : (to : Mac) → IsReported (said.bytes_of setup (said.Requests to asks.Identify)) small.Idle
  opening_reported to = data_reported identify_multicast None _ _ small.Idle multicast_six tt
