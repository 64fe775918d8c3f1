-- What a device keeps after a step: its answers are those that the responses among its frames say. Of a call this is so if it is handled as new.
use Rattle.std.proofs.Common.{◌≡◌, ◌==◌, ◌&&◌, ◌++◌, ℕ, Bool, true, false, not, List, [], ◌∷◌, length, map, drop, take, None, Some, is_some, Option, Result, Ok, Err, refl, sym, ap, ◌∙◌, if◌then◌else◌}
use Rattle.std.specs.List.{AllByRecursion}
use Rattle.std.proofs.lemmas.Bool.{cond_both}
use Rattle.arrayvec.specs.ArrayVec.{ArrayVec}
use Rattle.pn_values.specs.declared.mac.Mac.{Mac}
use Rattle.pn_values.specs.IpSuite.{is_zero}
use Rattle.pn_values.specs.declared.identity.Identity.{Identity}
use Rattle.pn_values.specs.declared.set_item.BlockError.{BlockError}
use Rattle.frame_codec.specs.declared.arp.Arp.{Arp}
use Rattle.frame_codec.specs.declared.udp.Caller.{Caller}
use Rattle.frame_codec.specs.declared.udp.Endpoint.{Endpoint}
use Rattle.frame_codec.specs.Calls.{calls_at}
use Rattle.frame_codec.specs.Frame.{ethernet, frame_bytes, layers, mac, tag_and_type}
use Rattle.frame_codec.specs.Meaning.{ArpPacket, RealTime, UdpDatagram}
use Rattle.frame_codec.specs.Sendable.{CanBeSent, carrying}
use Rattle.cyclic_data.specs.declared.exchange.received.Received.{Received}
use Rattle.cyclic_data.specs.declared.exchange.received.Received.TheVariants as received
use Rattle.cyclic_data.specs.declared.exchange.route.Route.{Route}
use Rattle.cyclic_data.specs.exchange.Frames.{plain_frame, tagged_frame}
use Rattle.dcp_core.specs.declared.request.Service.{Service}
use Rattle.dcp_core.specs.declared.request.Service.TheVariants as service
use Rattle.dcp_core.specs.Get.{get_bytes}
use Rattle.dcp_core.specs.Identify.{identify_bytes, matches}
use Rattle.dcp_core.specs.Request.{Asked}
use Rattle.dcp_core.specs.Set.{plan_of, set_bytes}
use Rattle.rpc_core.specs.declared.interface.Interface.TheVariants.{Controller}
use Rattle.rpc_core.specs.declared.response.Status.{Status}
use Rattle.rpc_core.specs.Cache.{Kept, Reported as Looked, again, behind_reported, looked, new, old}
use Rattle.rpc_core.specs.Call.{Asked as Called, call, call_bytes}
use Rattle.rpc_core.specs.Header.{head, opening}
use Rattle.rpc_core.specs.Pdu.{cut_off, pdu}
use Rattle.rpc_core.specs.Response.{Answered, answer_to}
use Rattle.pn_alarms.specs.declared.device.PduFate.{PduFate}
use Rattle.pn_alarms.specs.declared.device.PduFate.TheVariants as fate
use Rattle.pn_alarms.specs.declared.pdu.Header.{Header}
use Rattle.pn_alarms.specs.declared.pdu.PduType.TheVariants.{Error}
use Rattle.pn_alarms.specs.declared.receiver.Taken.{Taken}
use Rattle.pn_alarms.specs.Format.{frame_id_of, pdu_bytes}
use Rattle.pn_alarms.specs.Message.{ToDevice}
use Rattle.asked_records.specs.Asked.{AskedState, asks as asks_now, behind_displaced, displaced_by, is_over, is_repeat}
use Rattle.asked_records.specs.Answers.{Gives, answer_blocks, answer_status, judged}
use Rattle.asked_records.specs.declared.answering.AnswerFault.{AnswerFault}
use Rattle.asked_records.specs.Questions.{operation_of as operation_asked}
use Rattle.asked_records.specs.declared.question.Question.{Question}
use Rattle.asked_records.specs.declared.status.Unanswered.{Unanswered}
use Rattle.asked_records.specs.declared.status.Unanswered.TheVariants.{Busy, Late}
use Rattle.record_blocks.specs.declared.write_record.IodWriteReq.{IodWriteReq}
use Rattle.records.specs.declared.status.call_fault.CallFault.{CallFault}
use Rattle.records.specs.declared.status.operation.Operation.{Operation}
use Rattle.records.specs.declared.status.operation.Operation.TheVariants.{Connect, Control, Read, ReadImplicit, Release, Write}
use Rattle.records.specs.declared.writes.write.Effect.{Effect}
use Rattle.records.specs.declared.writes.write.Effect.TheVariants.{Keeps, Stores}
use Rattle.records.specs.declared.writes.writing.Writing.{Writing}
use Rattle.records.specs.declared.writes.writing.Writing.TheVariants.{Each, One}
use Rattle.records.specs.status.Operation.{operation_of}
use Rattle.records.specs.writes.Asked.{writing_of}
use Rattle.relations.specs.declared.options.DeviceOptions.{DeviceOptions}
use Rattle.relations.specs.Calls.{prm_end_of}
use Rattle.relations.specs.declared.farewell.Farewell.{Farewell}
use Rattle.relations.specs.Farewells.{said_by}
use Rattle.relations.specs.declared.hearing.ReadyAnswer.{ReadyAnswer}
use Rattle.relations.specs.declared.hearing.ReadyAnswer.TheVariants as to_ready
use Rattle.relations.specs.declared.plugging.PlugAnswer.{PlugAnswer}
use Rattle.relations.specs.declared.plugging.PlugAnswer.TheVariants as to_plug
use Rattle.relations.specs.declared.plugging.PlugReady.{PlugReady}
use Rattle.relations.specs.exchange.Flow.{Flow}
use Rattle.relations.specs.exchange.Frames.{Frame, alarm_frame, body_of, id_of, low_alarm_frame, tag_of}
use Rattle.relations.specs.Diagnosed.{begin_one, beginning, has_sent_low, heard_low, hearing_low, report_one, reporting}
use Rattle.relations.specs.Exchanged.{heard_by, hearing, received_by, receiving}
use Rattle.relations.specs.Phases.{passing, updated}
use Rattle.relations.specs.Plugging.{calling_next, is_calling, is_plug_control, plug_answer_in, plug_answering, plug_end_in, plug_ready_of}
use Rattle.relations.specs.Ready.{answer_of as ready_answer, handled_by}
use Rattle.relations.specs.RelationState.{RelationState, flow_of, is_alarm_of, is_in_exchange, uuid_of}
use Rattle.relations.specs.Timers.{Due, due_of}
use Rattle.settings_journal.specs.settings_store.Machine.{Outcome, carried}
use Rattle.device_frames.specs.declared.local.Local.{Local}
use Rattle.device_frames.specs.Heard.{Heard, Ticks, Unreadable, Elsewhere, Asks, Resolves, Reported, Cyclic, Alarms, LowReplies, LowConfirms, Met, Applied, Said, Calls, Responds, Garbled}
use Rattle.device_frames.specs.Relation.{alarms_of, due_frames, farewells_in, frames_in, inputs_of, low_alarms_of, low_replies_of, plug_call_in, plug_calls, ready_calls, replies_of, where_due}
use Rattle.device_frames.specs.Sendable.{AreSendable, IsSendable}
use Rattle.device_frames.specs.Sent.{Sent, IdentifyAnswer, GetAnswer, SetAnswer, ArpReply, CallAnswer, Again, ReadyCall, PlugReadyCall, Ends, Exchanges, bytes_of}
use Rattle.device_core.specs.Asking.{Asking, asking_of, calls_after, ended_by, is_full, is_kept, is_new, kept_if, kept_reply, late_in, later_calls, later_replies, question_replies, refused_calls, refused_sent, reply_to}
use Rattle.device_core.specs.Handled.{Handled, counted_sent, handled, handled_alarm, handled_answer, handled_asking, handled_effect, handled_judged, handled_local, handled_low, handled_low_pdu, handled_own, handled_pdu, handled_plug_answer, handled_question, handled_received, handled_request, handled_response, handled_unanswered, handled_write, is_request, is_running, kept_for, ready_behind, ticked, unit_rest, unit_sent}
use Rattle.device_core.specs.Local.{IsOfRelation}
use Rattle.device_core.specs.Machine.{farewell_at, finished, handled_step, heard_step, items_in, resets}
use Rattle.device_core.specs.Modules.{call_after, next_call_sent}
use Rattle.device_core.specs.State.{Live, Rest, Station, alias_in, counter_of, units_after}
use Rattle.octets_law.proofs.Locals.{by_local}
use Rattle.octets_law.specs.Headline.{Stored, is_stored, stored_later, with_answer, without}
use Rattle.octets_law.specs.Octets.{activity_of, is_response, number}
use Rattle.octets_law.proofs.Asked.{IsSuch, judged_goes, left_such}
use Rattle.octets_law.proofs.Operations.{IsOfKind, asking_kind, displaced_is, kept_is}
use Rattle.octets_law.proofs.AnswerPlaces.{answer_found, datagram_read}
use Rattle.octets_law.proofs.Repeats.{kept_if_view, view}
use Rattle.octets_law.proofs.SetFrames.{plain_octets, six}
use Rattle.octets_law.proofs.SetSteps.{tagged_octets}

-- ---- frames that are no response

-- A message that is no response to a call.
abbrev pub IsNoResponse : Sent → Type 0
IsNoResponse (CallAnswer caller address answer) = ⊥
IsNoResponse (Again frame) = ⊥
IsNoResponse message = Unit {0}

real_time_front : (destination source rest padding : List ℕ) → length destination ≡ 6 → length source ≡ 6
    → is_response ((destination ++ (source ++ (0x88 ∷ 0x92 ∷ rest))) ++ padding) ≡ false
real_time_front destination source rest padding d s =
    six (λ d. is_response ((d ++ (source ++ (0x88 ∷ 0x92 ∷ rest))) ++ padding) ≡ false) destination d (λ a b c e f g.
    six (λ s. is_response (((a ∷ b ∷ c ∷ e ∷ f ∷ g ∷ []) ++ (s ++ (0x88 ∷ 0x92 ∷ rest))) ++ padding) ≡ false) source s (λ h i j k l m. refl))

tagged_front : (destination source rest padding : List ℕ) → length destination ≡ 6 → length source ≡ 6
    → is_response ((destination ++ (source ++ (0x81 ∷ 0 ∷ rest))) ++ padding) ≡ false
tagged_front destination source rest padding d s =
    six (λ d. is_response ((d ++ (source ++ (0x81 ∷ 0 ∷ rest))) ++ padding) ≡ false) destination d (λ a b c e f g.
    six (λ s. is_response (((a ∷ b ∷ c ∷ e ∷ f ∷ g ∷ []) ++ (s ++ (0x81 ∷ 0 ∷ rest))) ++ padding) ≡ false) source s (λ h i j k l m. refl))

arp_front : (destination source rest padding : List ℕ) → length destination ≡ 6 → length source ≡ 6
    → is_response ((destination ++ (source ++ (0x08 ∷ 0x06 ∷ rest))) ++ padding) ≡ false
arp_front destination source rest padding d s =
    six (λ d. is_response ((d ++ (source ++ (0x08 ∷ 0x06 ∷ rest))) ++ padding) ≡ false) destination d (λ a b c e f g.
    six (λ s. is_response (((a ∷ b ∷ c ∷ e ∷ f ∷ g ∷ []) ++ (s ++ (0x08 ∷ 0x06 ∷ rest))) ++ padding) ≡ false) source s (λ h i j k l m. refl))

plain_no : (source destination : Mac) (id : ℕ) (body : List ℕ) → CanBeSent (carrying destination source None (RealTime id body))
    → is_response (plain_frame source destination (RealTime id body)) ≡ false
plain_no source destination id body can =
    ap is_response (plain_octets source destination id body) ∙ real_time_front destination.octets source.octets _ _ can.destination can.source

tagged_no : (source destination : Mac) (tag id : ℕ) (body : List ℕ) → CanBeSent (carrying destination source (Some tag) (RealTime id body))
    → is_response (tagged_frame source destination tag (RealTime id body)) ≡ false
tagged_no source destination tag id body can =
    ap is_response (tagged_octets source destination tag id body) ∙ tagged_front destination.octets source.octets _ _ can.destination can.source

arp_no : (source destination : Mac) (packet : Arp) → CanBeSent (carrying destination source None (ArpPacket packet))
    → is_response (plain_frame source destination (ArpPacket packet)) ≡ false
unfolding frame_bytes layers ethernet mac tag_and_type
arp_no source destination packet can = arp_front destination.octets source.octets _ _ can.destination can.source

-- A call has packet type 0.
call_kind : (called : Called) (more : List ℕ) → number 0 2 (call_bytes Controller called ++ more) ≡ 0x0400
unfolding call_bytes call pdu cut_off head opening
call_kind called more = refl

by_body : (frame body : List ℕ) → number 12 2 frame ≡ 0x0800 → drop 42 frame ≡ body → number 0 2 body ≡ 0x0400 → is_response frame ≡ false
by_body frame body type is kind =
    ap (λ n. n == 0x0800 && number 0 2 (drop 42 frame) == 0x0402) type ∙ ap (λ l. number 0 2 l == 0x0402) is ∙ ap (λ n. n == 0x0402) kind

call_no : (source destination : Mac) (from to : Endpoint) (called : Called)
    → CanBeSent (carrying destination source None (UdpDatagram from to (call_bytes Controller called)))
    → is_response (plain_frame source destination (UdpDatagram from to (call_bytes Controller called))) ≡ false
call_no source destination from to called can =
    let read = datagram_read source destination from to (call_bytes Controller called) can.source can.destination can.content.0.0 can.content.1.0 in
    by_body (plain_frame source destination (UdpDatagram from to (call_bytes Controller called))) (call_bytes Controller called ++ read.more)
    read.type read.is (call_kind called read.more)

no_response : (identity : Identity) (message : Sent) → IsSendable identity message → IsNoResponse message → is_response (bytes_of identity message) ≡ false
no_response identity (IdentifyAnswer asker running xid) can none = plain_no identity.mac asker 65279 (identify_bytes identity running xid) can
no_response identity (GetAnswer asker running alias request) can none = plain_no identity.mac asker 65277 (get_bytes identity running alias request) can
no_response identity (SetAnswer asker request answers) can none = plain_no identity.mac asker 65277 (set_bytes request answers) can
no_response identity (ArpReply asker address target) can none = arp_no identity.mac asker _ can
no_response identity (CallAnswer caller address answer) can none = absurd none
no_response identity (Again frame) can none = absurd none
no_response identity (ReadyCall address ready) can none = call_no identity.mac ready.partner.mac (calls_at address) (calls_at ready.partner.address) _ can
no_response identity (PlugReadyCall address ready) can none = call_no identity.mac ready.partner.mac (calls_at address) (calls_at ready.partner.address) _ can
no_response identity (Ends farewell) can none = tagged_no identity.mac farewell.initiator farewell.tag (frame_id_of Error) (pdu_bytes (said_by farewell)) can
no_response identity (Exchanges route frame) can none = tagged_no identity.mac route.partner (tag_of route frame) (id_of route frame) (body_of frame) can

-- ---- what is stored after them

none_if : (options : DeviceOptions) (frame : List ℕ) (stored : List Stored) → is_response frame ≡ false
    → (if is_response frame && is_stored options (drop 42 frame) then with_answer (drop 42 frame) frame stored else stored) ≡ stored
none_if options frame stored none = ap (λ b. if b && is_stored options (drop 42 frame) then with_answer (drop 42 frame) frame stored else stored) none

-- Frames that are no response, before others.
none_then : (options : DeviceOptions) (identity : Identity) (sent behind : List Sent) (stored : List Stored) → AreSendable identity (sent ++ behind)
    → AllByRecursion IsNoResponse sent
    → stored_later options (map (bytes_of identity) (sent ++ behind)) stored ≡ stored_later options (map (bytes_of identity) behind) stored
none_then options identity [] behind stored can none = refl
none_then options identity (message ∷ sent) behind stored can none =
    ap (stored_later options (map (bytes_of identity) (sent ++ behind)))
    (none_if options (bytes_of identity message) stored (no_response identity message can.0 none.0))
    ∙ none_then options identity sent behind stored can.1 none.1

none_later : (options : DeviceOptions) (identity : Identity) (sent : List Sent) (stored : List Stored) → AreSendable identity sent
    → AllByRecursion IsNoResponse sent → stored_later options (map (bytes_of identity) sent) stored ≡ stored
none_later options identity [] stored can none = refl
none_later options identity (message ∷ sent) stored can none =
    ap (stored_later options (map (bytes_of identity) sent)) (none_if options (bytes_of identity message) stored (no_response identity message can.0 none.0))
    ∙ none_later options identity sent stored can.1 none.1

behind_can : (identity : Identity) (sent behind : List Sent) → AreSendable identity (sent ++ behind) → AreSendable identity behind
behind_can identity [] behind can = can
behind_can identity (message ∷ sent) behind can = behind_can identity sent behind can.1

-- The response to a call, and frames after it that are no responses.
answer_later : (options : DeviceOptions) (identity : Identity) (caller : Caller) (address : List ℕ) (answer : Answered) (behind : List Sent) (calls : List Kept)
    (which : Operation) → operation_of answer.header.operation ≡ Some which → AreSendable identity (CallAnswer caller address answer ∷ behind)
    → AllByRecursion IsNoResponse behind
    → stored_later options (map (bytes_of identity) (CallAnswer caller address answer ∷ behind)) (view calls)
    ≡ view (kept_if (is_kept options which) (record {
      activity = answer.header.activity;
      sequence = answer.header.sequence;
      frame = bytes_of identity
          (CallAnswer caller address answer);
    }) calls)
answer_later options identity caller address answer behind calls which is can none =
    let frame : List ℕ = bytes_of identity (CallAnswer caller address answer) in
    let it = answer_found identity caller address answer can.0 in
    let stored : is_stored options (drop 42 frame) ≡ is_kept options which =
    ap (λ n. not (options.reads_not_kept && n == 5)) it.operation ∙ kept_is options answer.header.operation which is in
    let kept : Bool = is_kept options which in
    ap (stored_later options (map (bytes_of identity) behind))
    (ap (λ b. if b && is_stored options (drop 42 frame) then with_answer (drop 42 frame) frame (view calls) else view calls) it.is
    ∙ ap (λ b. if b then with_answer (drop 42 frame) frame (view calls) else view calls) stored
    ∙ ap (λ l. if kept then (l, frame) ∷ take 3 (without (activity_of (drop 42 frame)) (view calls)) else view calls) it.name
    ∙ ap (λ l. if kept then (answer.header.sequence ∷ answer.header.activity, frame) ∷ take 3 (without l (view calls)) else view calls) it.activity
    ∙ kept_if_view kept answer.header.activity frame answer.header.sequence calls)
    ∙ none_later options identity behind _ can.1 none

-- The response to a call that was asked, unless a later call of its activity was answered.
reply_later : (options : DeviceOptions) (identity : Identity) (address : List ℕ) (question : Question) (status : Status) (blocks : List ℕ) (calls : List Kept)
    → IsOfKind question
    → AreSendable identity (question_replies (is_kept options (operation_asked question.request)) question (reply_to address question status blocks) calls)
    → stored_later options (map (bytes_of identity)
    (question_replies (is_kept options (operation_asked question.request)) question (reply_to address question status blocks) calls)) (view calls)
    ≡ view (calls_after (is_kept options (operation_asked question.request)) identity question (reply_to address question status blocks) calls)
reply_later options identity address question status blocks calls kind = by_kept (is_kept options (operation_asked question.request)) refl
  where
    answer : Sent
    answer = reply_to address question status blocks

    said : AreSendable identity (answer ∷ []) → stored_later options (bytes_of identity answer ∷ []) (view calls)
        ≡ view (kept_if (is_kept options (operation_asked question.request)) (kept_reply identity question answer) calls)
    said can = answer_later options identity question.caller address _ [] calls (operation_asked question.request) kind can tt

    by_found : (found : Looked) → is_kept options (operation_asked question.request) ≡ true
        → AreSendable identity (where_due (is_new found) (answer ∷ []))
        → stored_later options (map (bytes_of identity) (where_due (is_new found) (answer ∷ []))) (view calls)
        ≡ view (behind_reported 4 (kept_reply identity question answer) calls found)
    by_found new is can = said can ∙ ap (λ b. view (kept_if b (kept_reply identity question answer) calls)) is
    by_found (again frame) is can = refl
    by_found old is can = refl

    by_kept : (kept : Bool) → is_kept options (operation_asked question.request) ≡ kept → AreSendable identity (question_replies kept question answer calls)
        → stored_later options (map (bytes_of identity) (question_replies kept question answer calls)) (view calls)
        ≡ view (calls_after kept identity question answer calls)
    by_kept true is can = by_found (looked question.header.activity question.header.sequence calls) is can
    by_kept false is can = said can ∙ ap (λ b. view (kept_if b (kept_reply identity question answer) calls)) is

-- It is dropped if there is no address.
later_later : (options : DeviceOptions) (identity : Identity) (address : List ℕ) (question : Question) (status : Status) (blocks : List ℕ) (calls : List Kept)
    → IsOfKind question
    → AreSendable identity (later_replies (is_kept options (operation_asked question.request)) address question (reply_to address question status blocks) calls)
    → stored_later options (map (bytes_of identity)
    (later_replies (is_kept options (operation_asked question.request)) address question (reply_to address question status blocks) calls)) (view calls)
    ≡ view (later_calls (is_kept options (operation_asked question.request)) identity address question (reply_to address question status blocks) calls)
later_later options identity address question status blocks calls kind = by_address (is_zero address)
  where
    kept : Bool
    kept = is_kept options (operation_asked question.request)

    answer : Sent
    answer = reply_to address question status blocks

    by_address : (none : Bool) → AreSendable identity (if none then [] else question_replies kept question answer calls)
        → stored_later options (map (bytes_of identity) (if none then [] else question_replies kept question answer calls)) (view calls)
        ≡ view (if none then calls else calls_after kept identity question answer calls)
    by_address true can = refl
    by_address false can = reply_later options identity address question status blocks calls kind can

-- The busy answer to a call that is asked no longer.
refused_later : (options : DeviceOptions) (identity : Identity) (address : List ℕ) (reason : Unanswered) (refused : Option Question) (calls : List Kept)
    → ((question : Question) → refused ≡ Some question → IsOfKind question) → AreSendable identity (refused_sent options address reason refused calls)
    → stored_later options (map (bytes_of identity) (refused_sent options address reason refused calls)) (view calls)
    ≡ view (refused_calls options identity address reason refused calls)
refused_later options identity address reason None calls kind can = refl
refused_later options identity address reason (Some question) calls kind can =
    later_later options identity address question _ [] calls (kind question refl) can

-- ---- what is sent of a relation

abbrev AreNone : List Sent → Type 0
AreNone sent = AllByRecursion IsNoResponse sent

both_none : (one other : List Sent) → AreNone one → AreNone other → AreNone (one ++ other)
both_none [] other first second = second
both_none (message ∷ one) other first second = (first.0, both_none one other first.1 second)

due_none : (is_due : Bool) (sent : List Sent) → AreNone sent → AreNone (where_due is_due sent)
due_none true sent none = none
due_none false sent none = tt

frames_none : (route : Route) (frame : Option Frame) → AreNone (frames_in route frame)
frames_none route None = tt
frames_none route (Some frame) = (tt, tt)

alarms_none : (flow : Option Flow) → AreNone (alarms_of flow)
alarms_none None = tt
alarms_none (Some flow) = frames_none flow.cyclic.route (alarm_frame flow)

low_alarms_none : (flow : Option Flow) → AreNone (low_alarms_of flow)
low_alarms_none None = tt
low_alarms_none (Some flow) = frames_none flow.cyclic.route (low_alarm_frame flow)

inputs_none : (counter : ℕ) (flow : Option Flow) → AreNone (inputs_of counter flow)
inputs_none counter None = tt
inputs_none counter (Some flow) = (tt, tt)

replies_none : (taken : Taken) (flow : Option Flow) → AreNone (replies_of taken flow)
replies_none taken None = tt
replies_none taken (Some flow) = (tt, tt)

low_replies_none : (taken : Taken) (flow : Option Flow) → AreNone (low_replies_of taken flow)
low_replies_none taken None = tt
low_replies_none taken (Some flow) = (tt, tt)

farewells_none : (farewell : Option Farewell) → AreNone (farewells_in farewell)
farewells_none None = tt
farewells_none (Some farewell) = (tt, tt)

ready_none : (address : List ℕ) (link : Option RelationState) → AreNone (ready_calls address link)
ready_none address None = tt
ready_none address (Some link) = (tt, tt)

plug_call_none : (address : List ℕ) (ready : Option PlugReady) → AreNone (plug_call_in address ready)
plug_call_none address None = tt
plug_call_none address (Some ready) = (tt, tt)

plug_none : (address : List ℕ) (link : Option RelationState) → AreNone (plug_calls address link)
plug_none address link = plug_call_none address (plug_ready_of link)

next_none : (address : List ℕ) (link : Option RelationState) → AreNone (next_call_sent address link)
next_none address link = due_none (is_calling link) (plug_calls address (calling_next link)) (plug_none address (calling_next link))

unit_none : (address : List ℕ) (counter : ℕ) (due : Due) (link : Option RelationState) → AreNone (due_frames address counter due link)
unit_none address counter due link =
    let flow = flow_of link in
    both_none (farewells_in due.farewell) _ (farewells_none due.farewell)
    (both_none (where_due due.is_alarm (alarms_of flow)) _ (due_none due.is_alarm (alarms_of flow) (alarms_none flow))
    (both_none (where_due due.is_low (low_alarms_of flow)) _ (due_none due.is_low (low_alarms_of flow) (low_alarms_none flow))
    (both_none (where_due due.is_ready (ready_calls address link)) _ (due_none due.is_ready (ready_calls address link) (ready_none address link))
    (both_none (where_due due.is_plug_ready (plug_calls address link)) _ (due_none due.is_plug_ready (plug_calls address link) (plug_none address link))
    (due_none due.is_cyclic (inputs_of counter flow) (inputs_none counter flow))))))

relation_none : (message : Sent) → IsOfRelation message → IsNoResponse message
relation_none (IdentifyAnswer asker running xid) is = tt
relation_none (GetAnswer asker running alias request) is = tt
relation_none (SetAnswer asker request answers) is = tt
relation_none (ArpReply asker address target) is = tt
relation_none (CallAnswer caller address answer) is = absurd is
relation_none (Again frame) is = absurd is
relation_none (ReadyCall address ready) is = tt
relation_none (PlugReadyCall address ready) is = tt
relation_none (Ends farewell) is = tt
relation_none (Exchanges route frame) is = tt

all_relation_none : (sent : List Sent) → AllByRecursion IsOfRelation sent → AreNone sent
all_relation_none [] all = tt
all_relation_none (message ∷ sent) all = (relation_none message all.0, all_relation_none sent all.1)

-- ---- outcomes

by_result : {A B : Type 0} (P : Result A B → Type 0) → ((a : A) → P (Ok a)) → ((b : B) → P (Err b)) → (r : Result A B) → P r
by_result P ok err (Ok a) = ok a
by_result P ok err (Err b) = err b

-- What is heard is no call.
abbrev pub NoCall : Heard → Type 0
NoCall (Reported caller address (Calls call)) = ⊥
NoCall heard = Unit {0}

module _ (station : Station) (live : Live) (kinds : IsSuch IsOfKind live.rest.asked) where
  -- What is stored after an outcome is what the responses among its frames say.
  abbrev pub IsLater : Handled → Type 0
  IsLater what = (answers : List BlockError) → AreSendable station.identity (finished station.identity live.rest what answers).sent
      → stored_later station.options (map (bytes_of station.identity) (finished station.identity live.rest what answers).sent) (view live.rest.calls)
      ≡ view (finished station.identity live.rest what answers).rest.calls

  -- Messages that are no response.
  quiet : (sent : List Sent) → AreNone sent → AreSendable station.identity sent
      → stored_later station.options (map (bytes_of station.identity) sent) (view live.rest.calls) ≡ view live.rest.calls
  quiet sent none can = none_later station.options station.identity sent (view live.rest.calls) can none

  -- ---- calls

  -- The device's own answer to a call, and what is sent after it.
  module _ (caller : Caller) (call : Called) where
    told_later : (which : Operation) (status : Status) (blocks : List ℕ) (behind : List Sent) → operation_of call.header.operation ≡ Some which
        → AreNone behind → (answers : List BlockError)
        → AreSendable station.identity (CallAnswer caller live.values.running.suite.address (answer_to call status blocks) ∷ behind)
        → stored_later station.options
        (map (bytes_of station.identity) (CallAnswer caller live.values.running.suite.address (answer_to call status blocks) ∷ behind)) (view live.rest.calls)
        ≡ view (kept_if (is_kept station.options which)
        (kept_for station.identity call (CallAnswer caller live.values.running.suite.address (answer_to call status blocks))) live.rest.calls)
    told_later which status blocks behind is none answers can =
        answer_later station.options station.identity caller live.values.running.suite.address (answer_to call status blocks) behind live.rest.calls which is can
        none

    effect_later : (header : IodWriteReq) (effect : Effect) → operation_of call.header.operation ≡ Some Write
        → IsLater (handled_effect station live caller call header effect)
    effect_later header (Stores value) is = λ answers can.
        answer_later station.options station.identity caller live.values.running.suite.address _ [] live.rest.calls Write is can tt
    effect_later header (Keeps parameter) is = told_later Write _ _ [] is tt

    write_later : (writing : Result Writing CallFault) → operation_of call.header.operation ≡ Some Write
        → IsLater (handled_write station live caller call writing)
    write_later (Ok (One write)) is = effect_later write.request write.effect is
    write_later (Ok (Each header entries)) is = λ answers can.
        answer_later station.options station.identity caller live.values.running.suite.address _ [] live.rest.calls Write is can tt
    write_later (Err why) is = told_later Write _ _ [] is tt

    ready_behind_none : (by_application : Bool) (link : Option RelationState) (blocks : List ℕ)
        → AreNone (ready_behind by_application live.values.running.suite.address link (prm_end_of live.rest.link blocks))
    ready_behind_none by_application link blocks =
        by_result (λ ended. AreNone (ready_behind by_application live.values.running.suite.address link ended))
        (λ block. cond_both by_application _ _ AreNone (λ _. tt) (λ _. ready_none live.values.running.suite.address link)) (λ why. tt)
        (prm_end_of live.rest.link blocks)

    call_after_none : (blocks : List ℕ) (link : Option RelationState)
        → AreNone (call_after (plug_end_in blocks live.rest.link) live.values.running.suite.address link)
    call_after_none blocks link =
        by_result (λ ended. AreNone (call_after ended live.values.running.suite.address link)) (λ block. next_none live.values.running.suite.address link)
        (λ why. tt) (plug_end_in blocks live.rest.link)

    own_later : (blocks : List ℕ) (which : Operation) → operation_of call.header.operation ≡ Some which
        → IsLater (handled_own station live caller call blocks which)
    own_later blocks Connect is = told_later Connect _ _ [] is tt
    own_later blocks Release is = told_later Release _ _ [] is tt
    own_later blocks Read is = told_later Read _ _ [] is tt
    own_later blocks Write is = write_later (writing_of (uuid_of live.rest.link) live.rest.real blocks) is
    own_later blocks Control is =
        cond_both (is_plug_control blocks live.rest.link) _ _ IsLater
        (λ _. told_later Control _ _ _ is (call_after_none blocks _))
        (λ _. told_later Control _ _ _ is (ready_behind_none station.options.ready_by_application _ blocks))
    own_later blocks ReadImplicit is = told_later ReadImplicit _ _ [] is tt

    -- A call for a record of the application: it is asked, and refuses the one that it displaces, or it is refused.
    question_later : (question : Question) (displaced : Option Question) (asked : Option AskedState) → IsOfKind question
        → ((other : Question) → displaced ≡ Some other → IsOfKind other) → IsLater (handled_question station live question displaced asked)
    question_later question displaced (Some asked) kind other answers can =
        refused_later station.options station.identity live.values.running.suite.address Busy displaced live.rest.calls other can
    question_later question displaced None kind other answers can =
        reply_later station.options station.identity live.values.running.suite.address question _ [] live.rest.calls kind can

    asking_later : (blocks : List ℕ) (which : Operation) (asking : Result (Option Asking) CallFault) → operation_of call.header.operation ≡ Some which
        → asking_of live.rest.real station.named (uuid_of live.rest.link) caller call blocks which ≡ asking
        → IsLater (handled_asking station live caller call blocks which asking)
    asking_later blocks which (Ok None) is asks = own_later blocks which is
    asking_later blocks which (Ok (Some asking)) is asks =
        let own_first = station.options.asks_own_first in
        let displaced = displaced_by own_first asking.0 live.rest.asked in
        question_later asking.0 displaced (asks_now asking.0 asking.1 (behind_displaced displaced live.rest.asked))
        (asking_kind live.rest.real station.named (uuid_of live.rest.link) caller call blocks which asking is asks)
        (λ other gives. kinds other (displaced_is own_first asking.0 other live.rest.asked gives).was)
    asking_later blocks which (Err why) is asks = told_later which _ _ [] is tt

    -- A call that is handled as new.
    pub unanswered_later : (blocks : List ℕ) (which : Operation) → operation_of call.header.operation ≡ Some which
        → IsLater (handled_unanswered station live caller call blocks which)
    unanswered_later blocks which is =
        cond_both (is_repeat call.header.activity call.header.sequence live.rest.asked) _ _ IsLater (λ _ answers can. refl)
        (λ _. asking_later blocks which (asking_of live.rest.real station.named (uuid_of live.rest.link) caller call blocks which) is refl)

  -- ---- all else

  request_later : (asker : Mac) (asked : Service) (request : Asked) → IsLater (handled_request station live asker asked request)
  request_later asker service.Identify request =
      cond_both (matches station.identity live.values.running (alias_in live.rest.peer) request) _ _ IsLater
      (λ _ answers can. quiet (IdentifyAnswer asker live.values.running request.xid ∷ []) (tt, tt) can) (λ _ answers can. refl)
  request_later asker service.Get request = λ answers can. quiet (GetAnswer asker live.values.running (alias_in live.rest.peer) request ∷ []) (tt, tt) can
  request_later asker service.Set request = λ answers can.
      let ends = farewell_at (resets (plan_of (is_some live.rest.link) request) answers) live.rest.link in
      none_later station.options station.identity (farewells_in ends ++ SetAnswer asker request answers ∷ []) (view live.rest.calls) can
      (both_none (farewells_in ends) _ (farewells_none ends) (tt, tt))

  answer_to_later : (answer : ReadyAnswer) → IsLater (handled_answer station live answer)
  answer_to_later to_ready.NotWanted = λ answers can. refl
  answer_to_later to_ready.Garbled = λ answers can. refl
  answer_to_later to_ready.Confirmed =
      let link = updated (handled_by to_ready.Confirmed) live.rest.link in
      let real = live.rest.real.modules.items in
      let flow = flow_of (updated (beginning real live.rest.diagnoses link) link) in
      let one = begin_one real live.rest.diagnoses link in
      λ answers can. quiet (where_due one (low_alarms_of flow)) (due_none one (low_alarms_of flow) (low_alarms_none flow)) can
  answer_to_later (to_ready.Refused farewell) = λ answers can. quiet (Ends farewell ∷ []) (tt, tt) can

  next_later : (link : Option RelationState) → AreSendable station.identity (next_call_sent live.values.running.suite.address link)
      → stored_later station.options (map (bytes_of station.identity) (next_call_sent live.values.running.suite.address link)) (view live.rest.calls) ≡ view live.rest.calls
  next_later link can = quiet (next_call_sent live.values.running.suite.address link) (next_none live.values.running.suite.address link) can

  plug_answer_later : (response : Answered) (answer : PlugAnswer) → IsLater (handled_plug_answer live response answer)
  plug_answer_later response to_plug.NotWanted = λ answers can. refl
  plug_answer_later response to_plug.Garbled = λ answers can. refl
  plug_answer_later response to_plug.Confirmed = λ answers can. next_later (plug_answering response live.rest.link) can
  plug_answer_later response to_plug.Refused = λ answers can. next_later (plug_answering response live.rest.link) can

  response_later : (response : Answered) → IsLater (handled_response station live response)
  response_later response =
      cond_both (is_in_exchange live.rest.link) _ _ IsLater (λ _. plug_answer_later response (plug_answer_in response live.rest.link))
      (λ _. answer_to_later (ready_answer response live.rest.link))

  pdu_later : (came : PduFate) (link : Option RelationState) → IsLater (handled_pdu live came link)
  pdu_later (fate.Data taken) link = λ answers can. quiet (replies_of taken (flow_of link)) (replies_none taken (flow_of link)) can
  pdu_later fate.Done link = λ answers can. refl
  pdu_later fate.Ignored link = λ answers can. refl
  pdu_later (fate.Aborted status) link = λ answers can. refl

  alarm_later : (source : Mac) (header : Header) (message : ToDevice) → IsLater (handled_alarm live source header message)
  alarm_later source header message =
      cond_both (is_alarm_of source header.destination header.source live.rest.link) _ _ IsLater
      (λ _. pdu_later (heard_by message live.rest.link) (updated (hearing message live.rest.link) live.rest.link)) (λ _ answers can. refl)

  low_pdu_later : (came : PduFate) (link : Option RelationState) → IsLater (handled_low_pdu station live came link)
  low_pdu_later (fate.Data taken) link =
      let next = flow_of (updated (reporting link) link) in
      let alarms = where_due (report_one link) (low_alarms_of next) in
      λ answers can. quiet (low_replies_of taken (flow_of link) ++ alarms)
      (both_none (low_replies_of taken (flow_of link)) alarms (low_replies_none taken (flow_of link))
      (due_none (report_one link) (low_alarms_of next) (low_alarms_none next))) can
  low_pdu_later fate.Done link = λ answers can. refl
  low_pdu_later fate.Ignored link = λ answers can. refl
  low_pdu_later (fate.Aborted status) link = λ answers can. refl

  low_later : (source : Mac) (header : Header) (message : ToDevice) → IsLater (handled_low station live source header message)
  low_later source header message =
      cond_both (is_alarm_of source header.destination header.source live.rest.link) _ _ IsLater
      (λ _. low_pdu_later (heard_low message live.rest.link) (updated (hearing_low message live.rest.link) live.rest.link)) (λ _ answers can. refl)

  received_later : (came : Received) (link : Option RelationState) → IsLater (handled_received live came link)
  received_later received.Foreign link = λ answers can. refl
  received_later received.Short link = λ answers can. refl
  received_later received.Stale link = λ answers can. refl
  received_later received.Taken link = λ answers can. refl

  -- An answer of the application, and all else that it says.
  judged_later : (given : Gives) (judged : Result Question AnswerFault) → ((question : Question) → judged ≡ Ok question → IsOfKind question)
      → IsLater (handled_judged station live given judged)
  judged_later given (Ok question) kind = λ answers can.
      later_later station.options station.identity live.values.running.suite.address question (answer_status question.request given)
      (answer_blocks question.request given) live.rest.calls (kind question refl) can
  judged_later given (Err why) kind = λ answers can. refl

  local_later : (what : Handled) → ((answers : List BlockError) → (finished station.identity live.rest what answers).rest.calls ≡ live.rest.calls)
      → ((answers : List BlockError) → AllByRecursion IsOfRelation (finished station.identity live.rest what answers).sent) → IsLater what
  local_later what keeps sends answers can =
      none_later station.options station.identity (finished station.identity live.rest what answers).sent (view live.rest.calls) can
      (all_relation_none (finished station.identity live.rest what answers).sent (sends answers)) ∙ ap view (sym (keeps answers))

  applied_later : (said : Local (ArrayVec ℕ)) → IsLater (handled_local station live said)
  applied_later said =
      by_local station live IsLater said (λ made what it. local_later what (λ answers. ap (λ (rest : Rest). rest.calls) (it.keeps answers)) it.sends)
      (λ number given. judged_later given (judged number given live.rest.asked)
      (λ question is. kinds question (judged_goes number live.rest.asked.last given live.rest.asked.standing question is)))

  -- A call that has no answer in time.
  late_kind : (count : ℕ) (state : AskedState) → IsSuch IsOfKind state → (question : Question) → late_in count state ≡ Some question → IsOfKind question
  late_kind count state such question =
      cond_both (is_over state && not (is_full count)) _ _ (λ (late : Option Question). late ≡ Some question → IsOfKind question)
      (λ _ is. such question is) (λ _ is. absurd cc)

  ticked_later : IsLater (ticked station live)
  ticked_later answers can =
      let address = live.values.running.suite.address in
      let sent = unit_sent live in
      let asked = (unit_rest live).asked in
      let late = late_in (length sent) asked in
      none_then station.options station.identity sent (counted_sent station address (length sent) (unit_rest live)) (view live.rest.calls) can
      (unit_none address (counter_of (units_after 1 live.rest.units)) (due_of live.rest.link) (updated (passing live.rest.link) live.rest.link))
      ∙ refused_later station.options station.identity address Late late live.rest.calls
      (late_kind (length sent) asked (left_such IsOfKind (ended_by (due_of live.rest.link).farewell) live.rest.asked kinds))
      (behind_can station.identity sent (counted_sent station address (length sent) (unit_rest live)) can)

  said_later : (caller : Caller) (address : List ℕ) (said : Said) → NoCall (Reported caller address said)
      → IsLater (handled station live (Reported caller address said))
  said_later caller address (Calls call) none = absurd none
  said_later caller address (Responds response) none =
      cond_both (is_running live.values.running address) _ _ IsLater (λ _. response_later response) (λ _ answers can. refl)
  said_later caller address Garbled none = cond_both (is_running live.values.running address) _ _ IsLater (λ _ answers can. refl) (λ _ answers can. refl)

  handled_later : (heard : Heard) → NoCall heard → IsLater (handled station live heard)
  handled_later (Asks asker request) none = request_later asker request.service request
  handled_later (Resolves asker packet) none =
      cond_both (is_request packet.operation && is_running live.values.running packet.target.address) _ _ IsLater
      (λ _ answers can. quiet (ArpReply asker live.values.running.suite.address packet.sender ∷ []) (tt, tt) can) (λ _ answers can. refl)
  handled_later (Reported caller address said) none = said_later caller address said none
  handled_later (Alarms source header message) none = alarm_later source header message
  handled_later (LowReplies source header message) none =
      cond_both (has_sent_low live.rest.link) _ _ IsLater (λ _. low_later source header message) (λ _. alarm_later source header message)
  handled_later (LowConfirms source header message) none =
      cond_both (has_sent_low live.rest.link) _ _ IsLater (λ _. low_later source header message) (λ _ answers can. refl)
  handled_later (Cyclic source frame_id body) none =
      received_later (received_by source frame_id body live.rest.link) (updated (receiving source frame_id body live.rest.link) live.rest.link)
  handled_later (Met peer) none = λ answers can. refl
  handled_later (Applied said) none = applied_later said
  handled_later Ticks none = ticked_later
  handled_later Unreadable none = λ answers can. refl
  handled_later Elsewhere none = λ answers can. refl

-- The stored answers after a step that hears no call.
pub step_later : (outcomes : List Outcome) (station : Station) (live : Live) (heard : Heard) → IsSuch IsOfKind live.rest.asked → NoCall heard
    → AreSendable station.identity (heard_step outcomes station live heard).sent
    → stored_later station.options (heard_step outcomes station live heard).frames (view live.rest.calls) ≡ view (heard_step outcomes station live heard).live.rest.calls
unfolding heard_step handled_step
step_later outcomes station live heard kinds none can =
    handled_later station live kinds heard none (carried outcomes live.values (items_in (handled station live heard))).answers can

-- And after one that handles a call as new.
pub call_later : (outcomes : List Outcome) (station : Station) (live : Live) (caller : Caller) (call : Called) (blocks : List ℕ) (which : Operation)
    → IsSuch IsOfKind live.rest.asked → operation_of call.header.operation ≡ Some which
    → AreSendable station.identity (handled_step outcomes station live (handled_unanswered station live caller call blocks which)).sent
    → stored_later station.options (handled_step outcomes station live (handled_unanswered station live caller call blocks which)).frames (view live.rest.calls)
    ≡ view (handled_step outcomes station live (handled_unanswered station live caller call blocks which)).live.rest.calls
unfolding handled_step
call_later outcomes station live caller call blocks which kinds is can =
    unanswered_later station live kinds caller call blocks which is
    (carried outcomes live.values (items_in (handled_unanswered station live caller call blocks which))).answers can
