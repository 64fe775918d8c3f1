-- With a turn of the controller or of the device, the alarms that are accepted and raised are those at fixed places.
use Rattle.std.proofs.Common.{◌≡◌, ◌≤◌, ◌==◌, ◌&&◌, ◌||◌, ℕ, Bool, true, false, not, cond, List, [], ◌∷◌, ◌++◌, length, map, Option, Some, None, option_map, Result, Ok, Err, if◌then◌else◌, inl, inr, refl, sym, ap, subst, ◌∙◌}
use Rattle.std.specs.List.{AllByRecursion}
use Rattle.std.specs.Prelude.{nat_eq}
use Rattle.std.specs.Cmp.Lexicographic.{pointwise}
use Rattle.arrayvec.specs.ArrayVec.{ArrayVec}
use Rattle.pn_values.specs.declared.mac.Mac.{Mac}
use Rattle.pn_values.specs.declared.identity.Identity.{Identity}
use Rattle.pn_values.specs.declared.real.RealModule.{RealModule}
use Rattle.wire.specs.Codec.{IsSoundWhole, ◌>>=◌}
use Rattle.wire.proofs.Fields.{bind_ok, ok_is}
use Rattle.frame_codec.specs.declared.fault.FrameFault.{FrameFault}
use Rattle.frame_codec.specs.declared.udp.Caller.{Caller}
use Rattle.frame_codec.specs.FrameId.{is_alarm as is_alarm_id, is_cyclic}
use Rattle.frame_codec.specs.Frame.{frame_of, layers}
use Rattle.frame_codec.specs.Meaning.{ArpPacket, Content, Meaning, RealTime, UdpDatagram}
use Rattle.dcp_core.specs.declared.request.DcpFault.{DcpFault}
use Rattle.dcp_core.specs.Answer.{answer_of}
use Rattle.dcp_core.specs.Response.{Answered}
use Rattle.rpc_core.specs.declared.fault.RpcFault.{RpcFault}
use Rattle.rpc_core.specs.declared.interface.Interface.TheVariants.{Controller as controllers}
use Rattle.rpc_core.specs.Call.{Asked as Call, call_of}
use Rattle.rpc_core.specs.Response.{Answered as Response, response_of}
use Rattle.record_blocks.specs.declared.alarm_ack.AlarmAck.{AlarmAck}
use Rattle.record_blocks.specs.declared.alarm_notification.AlarmNotification.{AlarmNotification}
use Rattle.module_diff.specs.Plugged.{module_ident, submodule_ident}
use Rattle.pn_alarms.specs.declared.fault.AlarmFault.{AlarmFault}
use Rattle.pn_alarms.specs.declared.message.Notice.TheVariants as notice
use Rattle.pn_alarms.specs.declared.pdu.Header.{Header}
use Rattle.pn_alarms.specs.declared.pdu.PduType.{PduType}
use Rattle.pn_alarms.specs.declared.pdu.PduType.TheVariants as pdu
use Rattle.pn_alarms.specs.declared.receiver.Taken.{Taken}
use Rattle.pn_alarms.specs.declared.receiver.Taken.TheVariants.{New, Again, Refused}
use Rattle.pn_alarms.specs.Format.{Said, pdu_of}
use Rattle.pn_alarms.specs.Message.{notice_in}
use Rattle.pn_alarms.specs.Receiver.{taken_as}
use Rattle.pn_alarms.specs.Sender.{notice_of}
use Rattle.pn_alarms.proofs.Sound.{pdu_takes}
use Rattle.diagnosis.specs.declared.reports.priority.Priority.{Priority}
use Rattle.diagnosis.specs.declared.reports.priority.Priority.TheVariants.{High, Low}
use Rattle.diagnosis.specs.declared.reports.report.Report.{Report}
use Rattle.diagnosis.specs.Line.{more_taken}
use Rattle.diagnosis.specs.reports.Message.{ToController, alarm_of}
use Rattle.diagnosis.specs.reports.Report.{report_of}
use Rattle.diagnosis.proofs.ReportsReports.{report_takes}
use Rattle.relations.specs.exchange.Flow.{Flow}
use Rattle.relations.specs.exchange.Frames.{Notifies}
use Rattle.relations.specs.exchange.Notices.{header_of, raised_at}
use Rattle.relations.specs.Exchanged.{raised_to}
use Rattle.relations.specs.RelationState.{RelationState}
use Rattle.device_frames.specs.Heard.{Heard as DeviceHeard, Applied}
use Rattle.device_frames.specs.declared.local.Local.TheVariants as local
use Rattle.device_frames.specs.Relation.{alarms_of, frames_in}
use Rattle.device_frames.specs.Sendable.{AreSendable}
use Rattle.device_frames.specs.Sent.{Sent as DeviceSent, Exchanges, bytes_of as device_bytes}
use Rattle.plans.specs.declared.parts.Controller.{Controller}
use Rattle.controller_messages.specs.declared.plug_request.PlugRequest.{PlugRequest}
use Rattle.controller_messages.specs.declared.refusal.Refusal.{Refusal}
use Rattle.controller_messages.specs.Refusal.{refusal_of}
use Rattle.controller_messages.specs.declared.setup.Setup.{Setup}
use Rattle.controller_messages.specs.Heard.{Heard, Nothing, Answers, Responds, Refuses, Calls, Cyclic, Alarms, heard_alarm, heard_answer, heard_body, heard_call, heard_content, heard_first, heard_of, heard_read, heard_real_time, heard_refusal, heard_response, is_to}
use Rattle.controller_messages.specs.PlugRequests.{plug_answer}
use Rattle.controller_messages.specs.Sent.{Agrees, Sent, bytes_of}
use Rattle.controller_core.specs.declared.stored.event.Event.TheVariants as event
use Rattle.controller_core.specs.stored.Alarms.{ack_of, header_of as header_of_controller, is_alarm, kept_alarm}
use Rattle.controller_core.specs.stored.State.{Live}
use Rattle.controller_core.specs.Machine.{Turn, ack_now, after_turn, alarmed, asks_next, begun_turn, behind_data, can_begin, confirming, end_of, plug_readied, plugs_by, plugs_of, reply_of, stays, taken, turned}
use Rattle.network_world.specs.declared.moves.Move.TheVariants as move
use Rattle.end_laws.specs.device.Turn.{IsRaise, alarm_heard}
use Rattle.end_laws.specs.hearing.Stations.{IsSetup}
use Rattle.end_laws.specs.sending.Messages.{CanBeSent}
use Rattle.end_laws.specs.turns.Alarms.{is_priority}
use Rattle.end_laws.specs.turns.Turns.{Begins, Breaks, Connects, Addresses, Ends as Over, Releases, Relates, Writes, Skips, Tries, Waits, Forgets, Repeats, Rests, Follows, Takes, IsAcked, Gives, GivesStatus, Asks, IsReplied, IsPlugAnswered, IsPlugReadied, Flows, Idles, Hears, Passes, IsKind, IsTurn, Kind, turn_by}
use Rattle.both_ends.specs.exchange.Over.{one_in, raised_in, taken_by}
use Rattle.both_ends.proofs.ExchangeOutputsTurns.{KindsSo}
use Rattle.both_ends.proofs.ExchangeTied.{may_be}
use Rattle.octets_law.specs.Octets.{untagged}
use Rattle.startup_octets.specs.Alarms.{Raise, alarm_in, any_carries, carries, raise_of, raised_by}
use Rattle.startup_octets.proofs.AlarmFrames.{IsDull, ack_carries, alarm_carries, dull_none, low_ack_carries, none_of, reply_carries}
use Rattle.startup_octets.proofs.AlarmPlaces.{alarm_kept, alarm_placed, frame_read}

-- ---- what is heard as an alarm

-- The frame, its PDU and its block.
record IsOfFrame (octets : List ℕ) (report : Report) : Type 0 where
  meaning : Meaning
  read : frame_of octets ≡ Ok meaning
  id : ℕ
  body : List ℕ
  content : meaning.content ≡ RealTime id body
  said : Said
  read_pdu : pdu_of body ≡ Ok said
  read_report : report_of said.body ≡ Ok report

-- A PDU that says data.
record IsDataIn (body : List ℕ) (report : Report) : Type 0 where
  said : Said
  read_pdu : pdu_of body ≡ Ok said
  read_report : report_of said.body ≡ Ok report

abbrev said_ok : ToController → Result ToController AlarmFault
said_ok said = Ok said

abbrev head_ok : Header → ToController → Result (Header × ToController) AlarmFault
head_ok head said = Ok (head, said)

same_report : (number other : ℕ) (one report : Report) → said_ok (notice.Data number one) ≡ said_ok (notice.Data other report) → one ≡ report
same_report number other one report e = cc

same_said : (head other : Header) (one said : ToController) → head_ok head one ≡ head_ok other said → one ≡ said
same_said head other one said e = ap (λ (p : Header × ToController). p.1) (ok_is {F = AlarmFault} (head, one) (other, said) e)

data_in : (kind : PduType) (said : Said) (number : ℕ) (report : Report) → notice_in report_of kind said ≡ Ok (notice.Data number report) → report_of said.body ≡ Ok report
data_in pdu.Data said number report e =
    let a = bind_ok (report_of said.body) (λ carried. Ok (notice.Data said.header.send_number carried)) (notice.Data number report) e in
    a.1 ∙ ap (λ (r : Report). Ok r) (same_report said.header.send_number number a.0 report a.2)
data_in pdu.Nack said number report e = absurd cc
data_in pdu.Ack said number report e = absurd cc
data_in pdu.Error said number report e = absurd cc

data_of : (body : List ℕ) (header : Header) (number : ℕ) (report : Report) → alarm_of body ≡ Ok (header, notice.Data number report) → IsDataIn body report
data_of body header number report e =
    let a = bind_ok (pdu_of body) (λ said. notice_in report_of said.header.kind said >>= λ notice. Ok (said.header, notice)) (header, notice.Data number report) e in
    let b = bind_ok (notice_in report_of a.0.header.kind a.0) (λ notice. Ok (a.0.header, notice)) (header, notice.Data number report) a.2 in
    record {
      said = a.0;
      read_pdu = a.1;
      read_report = data_in a.0.header.kind a.0 number report (b.1 ∙ ap (λ (n : ToController). Ok n) (same_said a.0.header header b.0 (notice.Data number report) b.2));
    }

module _ (source : Mac) (under : Priority) (header : Header) (number : ℕ) (report : Report) where
  abbrev Says : Heard → Type 0
  Says heard = heard ≡ Alarms source under header (notice.Data number report)

  alarm_says : (from : Mac) (id : ℕ) (body : List ℕ) (read : Result (Header × ToController) AlarmFault) → Says (heard_alarm from id read) → read ≡ Ok (header, notice.Data number report)
  alarm_says from id body (Ok (head, said)) e = cc
  alarm_says from id body (Err fault) e = absurd cc

  answer_says : (from : Mac) (read : Result Answered DcpFault) → Says (heard_answer from read) → ⊥
  answer_says from (Ok answer) e = cc
  answer_says from (Err fault) e = cc

  real_time_says : (from : Mac) (id : ℕ) (body : List ℕ) (cyclic alarm set identify : Bool)
      → Says (if cyclic then Cyclic from id body else if alarm then heard_alarm from id (alarm_of body) else if set then heard_answer from (answer_of id body) else if identify then heard_answer from (answer_of id body) else Nothing)
      → IsDataIn body report
  real_time_says from id body true alarm set identify e = absurd cc
  real_time_says from id body false true set identify e = data_of body header number report (alarm_says from id body (alarm_of body) e)
  real_time_says from id body false false true identify e = absurd (answer_says from (answer_of id body) e)
  real_time_says from id body false false false true e = absurd (answer_says from (answer_of id body) e)
  real_time_says from id body false false false false e = absurd cc

  real_says : (from : Mac) (id : ℕ) (body : List ℕ) → Says (heard_real_time from id body) → IsDataIn body report
  unfolding heard_real_time
  real_says from id body e = real_time_says from id body (is_cyclic id) (is_alarm_id id) (id == 0xFEFD) (id == 0xFEFF) e

  refusal_says : (read : Result Refusal RpcFault) → Says (heard_refusal read) → ⊥
  refusal_says (Ok refusal) e = cc
  refusal_says (Err fault) e = cc

  response_says : (read : Result Response RpcFault) (refusal : Result Refusal RpcFault) → Says (heard_response read refusal) → ⊥
  response_says (Ok response) refusal e = cc
  response_says (Err fault) refusal e = refusal_says refusal e

  call_says : (caller : Caller) (call : Call) (blocks : Option (List ℕ)) → Says (heard_call caller call blocks) → ⊥
  call_says caller call (Some blocks) e = cc
  call_says caller call None e = cc

  first_says : (caller : Caller) (read : Result Call RpcFault) (response : Result Response RpcFault) (refusal : Result Refusal RpcFault) → Says (heard_first caller read response refusal) → ⊥
  first_says caller (Ok call) response refusal e = call_says caller call call.blocks e
  first_says caller (Err fault) response refusal e = response_says response refusal e

  body_says : (caller : Caller) (body : List ℕ) → Says (heard_body caller body) → ⊥
  unfolding heard_body
  body_says caller body e = first_says caller (call_of controllers body) (response_of body) (refusal_of body) e

  abbrev IsRealData : Content → Type 0
  IsRealData content = (id : ℕ) × (body : List ℕ) × (content ≡ RealTime id body) × IsDataIn body report

  content_says : (address : List ℕ) (from : Mac) (content : Content) → Says (heard_content address from content) → IsRealData content
  content_says address from (RealTime id body) e = (id, body, refl, real_says from id body e)
  content_says address from (ArpPacket packet) e = absurd cc
  content_says address from (UdpDatagram source_end to body) e = by_test (is_to address to) e
    where
      by_test : (b : Bool) → Says (if b then heard_body (record { mac = from; endpoint = source_end }) body else Nothing) → IsRealData (UdpDatagram source_end to body)
      by_test true f = absurd (body_says (record { mac = from; endpoint = source_end }) body f)
      by_test false f = absurd cc

  frame_says : (controller : Controller) (octets : List ℕ) (read : Result Meaning FrameFault) → frame_of octets ≡ read → Says (heard_read controller read) → IsOfFrame octets report
  frame_says controller octets (Err fault) is e = absurd cc
  frame_says controller octets (Ok meaning) is e = by_test (pointwise nat_eq meaning.destination.octets controller.mac.octets) e
    where
      by_test : (b : Bool) → Says (if b then heard_content controller.address meaning.source meaning.content else Nothing) → IsOfFrame octets report
      by_test true f =
          let it = content_says controller.address meaning.source meaning.content f in
          record { meaning = meaning; read = is; id = it.0; body = it.1; content = it.2; said = it.3.said; read_pdu = it.3.read_pdu; read_report = it.3.read_report }
      by_test false f = absurd cc

  heard_says : (controller : Controller) (octets : List ℕ) → Says (heard_of controller octets) → IsOfFrame octets report
  unfolding heard_of
  heard_says controller octets e = frame_says controller octets (frame_of octets) refl e

-- The alarm at fixed places of a frame that is heard as an alarm, which is stored whole.
pub record IsPlaced (octets : List ℕ) (alarm : AlarmNotification) : Type 0 where
  pub is : alarm ≡ alarm_in (untagged octets)
  pub short : length octets ≤ 1518

placed : IsSoundWhole layers → (controller : Controller) (octets : List ℕ) (source : Mac) (under : Priority) (header : Header) (number : ℕ) (report : Report)
    → heard_of controller octets ≡ Alarms source under header (notice.Data number report) → IsPlaced octets report.notification
placed sound controller octets source under header number report e =
    let it = heard_says source under header number report controller octets e in
    let frame = frame_read sound octets it.meaning it.read in
    record {
      is = sym (alarm_placed octets it.meaning it.id it.body it.said report frame.spells it.content (pdu_takes it.body it.said it.read_pdu) (report_takes it.said.body report it.read_report));
      short = frame.short;
    }

-- ---- a turn of the controller

abbrev pub IsKept : AlarmNotification → Type 0
IsKept alarm = kept_alarm alarm ≡ alarm

-- An alarm that is accepted, or none.
abbrev pub accepted_if : Bool → List ℕ → List AlarmNotification
accepted_if accepts octets = if accepts then alarm_in (untagged octets) ∷ [] else []

module _ (setup : Setup) (good : IsSetup setup) (live : Live) (octets : List ℕ) where
  abbrev AreSame : List AlarmNotification → List Sent → Type 0
  AreSame accepted sent = accepted ≡ accepted_if (any_carries 0x8001 (map (bytes_of setup) sent)) octets

  none_same : (sent : List Sent) → any_carries 0x8001 (map (bytes_of setup) sent) ≡ false → AreSame [] sent
  none_same sent none = sym (ap (λ b. accepted_if b octets) none)

  abbrev is_ack : Sent → Bool
  is_ack message = carries 0x8001 (untagged (bytes_of setup message))

  or_true : (a b : Bool) → b ≡ true → a || (b || false) ≡ true
  or_true true b is = refl
  or_true false b is = ap (λ x. x || false) is

  any_two : (one two : Sent) → is_ack two ≡ true → any_carries 0x8001 (map (bytes_of setup) (one ∷ two ∷ [])) ≡ true
  any_two one two is = or_true (is_ack one) (is_ack two) is

  none_one : (one : Sent) → is_ack one ≡ false → any_carries 0x8001 (map (bytes_of setup) (one ∷ [])) ≡ false
  none_one one is = none_of (is_ack one) false is refl

  none_two : (one two : Sent) → is_ack one ≡ false → is_ack two ≡ false → any_carries 0x8001 (map (bytes_of setup) (one ∷ two ∷ [])) ≡ false
  none_two one two is other = none_of (is_ack one) (is_ack two || false) is (none_of (is_ack two) false other refl)

  reply_none : (now : Live) (priority : Priority) (kind : PduType) → CanBeSent setup (reply_of now priority kind) → is_ack (reply_of now priority kind) ≡ false
  reply_none now priority kind can = reply_carries setup now.cyclic.route priority (header_of_controller (end_of now priority) now.cyclic.route kind) good.mac can.0.partner can.1

  ack_high : (now : Live) (priority : Priority) (ack : AlarmAck) → priority ≡ High → CanBeSent setup (ack_now now priority ack) → is_ack (ack_now now priority ack) ≡ true
  ack_high now High ack e can = ack_carries setup now.cyclic.route (header_of_controller (end_of now High) now.cyclic.route pdu.Data) ack good.mac can.0.partner can.1
  ack_high now Low ack e can = absurd cc

  ack_low : (now : Live) (priority : Priority) (ack : AlarmAck) → priority ≡ Low → CanBeSent setup (ack_now now priority ack) → is_ack (ack_now now priority ack) ≡ false
  ack_low now Low ack e can = low_ack_carries setup now.cyclic.route (header_of_controller (end_of now Low) now.cyclic.route pdu.Data) ack good.mac can.0.partner
  ack_low now High ack e can = absurd cc

  -- data of high priority
  high_taken : (now : Live) (report : Report) (result : Taken) → report.priority ≡ High → report.notification ≡ alarm_in (untagged octets) → AllByRecursion (CanBeSent setup) (taken now report result).sent
      → AreSame (more_taken [] report.notification result) (taken now report result).sent
  high_taken now report New high is can =
      ap (λ (alarm : AlarmNotification). alarm ∷ []) is
      ∙ sym (ap (λ b. accepted_if b octets) (any_two (reply_of now report.priority pdu.Ack) (ack_now (confirming now report) report.priority (ack_of report.notification))
      (ack_high (confirming now report) report.priority (ack_of report.notification) high can.1.0)))
  high_taken now report Again high is can = none_same (taken now report Again).sent (none_one (reply_of now report.priority pdu.Ack) (reply_none now report.priority pdu.Ack can.0))
  high_taken now report Refused high is can = none_same (taken now report Refused).sent (none_one (reply_of now report.priority pdu.Nack) (reply_none now report.priority pdu.Nack can.0))

  -- data of low priority
  low_taken : (now : Live) (report : Report) (result : Taken) → report.priority ≡ Low → AllByRecursion (CanBeSent setup) (taken now report result).sent → AreSame [] (taken now report result).sent
  low_taken now report New low can =
      none_same (taken now report New).sent (none_two (reply_of now report.priority pdu.Ack) (ack_now (confirming now report) report.priority (ack_of report.notification))
      (reply_none now report.priority pdu.Ack can.0) (ack_low (confirming now report) report.priority (ack_of report.notification) low can.1.0))
  low_taken now report Again low can = none_same (taken now report Again).sent (none_one (reply_of now report.priority pdu.Ack) (reply_none now report.priority pdu.Ack can.0))
  low_taken now report Refused low can = none_same (taken now report Refused).sent (none_one (reply_of now report.priority pdu.Nack) (reply_none now report.priority pdu.Nack can.0))

  abbrev data_turn : Bool → ℕ → Report → Turn
  data_turn b number report = if b then taken (behind_data live report.priority number) report (taken_as (end_of live report.priority).seen number) else stays live

  abbrev data_taken : Bool → ℕ → Report → List AlarmNotification
  data_taken b number report = if is_priority High report.priority && b then more_taken [] report.notification (taken_as live.alarms.seen number) else []

  abbrev taken_if : Bool → Priority → AlarmNotification → Taken → List AlarmNotification
  taken_if b priority alarm result = if is_priority High priority && b then more_taken [] alarm result else []

  same_end : (priority : Priority) (number : ℕ) → priority ≡ High → taken_as (end_of live priority).seen number ≡ taken_as live.alarms.seen number
  same_end High number e = refl
  same_end Low number e = absurd cc

  data_same : (b : Bool) (number : ℕ) (report : Report) (priority : Priority) → report.priority ≡ priority → report.notification ≡ alarm_in (untagged octets)
      → AllByRecursion (CanBeSent setup) (data_turn b number report).sent → AreSame (data_taken b number report) (data_turn b number report).sent
  data_same true number report High high is can =
      ap (λ p. taken_if true p report.notification (taken_as live.alarms.seen number)) high
      ∙ (ap (λ t. more_taken [] report.notification t) (sym (same_end report.priority number high))
      ∙ high_taken (behind_data live report.priority number) report (taken_as (end_of live report.priority).seen number) high is can)
  data_same true number report Low low is can =
      ap (λ p. taken_if true p report.notification (taken_as live.alarms.seen number)) low
      ∙ low_taken (behind_data live report.priority number) report (taken_as (end_of live report.priority).seen number) low can
  data_same false number report High high is can = ap (λ p. taken_if false p report.notification (taken_as live.alarms.seen number)) high
  data_same false number report Low low is can = ap (λ p. taken_if false p report.notification (taken_as live.alarms.seen number)) low

  -- anything else
  abbrev IsNoAlarm : Heard → Type 0
  IsNoAlarm (Alarms source under header said) = ⊥
  IsNoAlarm heard = Unit {0}

  no_passes : (heard : Heard) → Hears heard ≡ Passes → ⊥
  no_passes heard e = cc

  same_heard : (one other : Heard) → Hears one ≡ Hears other → one ≡ other
  same_heard one other e = cc

  -- the turn of a place may begin
  dull_plugs : (device : Mac) (plug : Option PlugRequest) → AllByRecursion IsDull (plugs_by device plug)
  dull_plugs device (Some request) = (tt, tt)
  dull_plugs device None = tt

  dull_more : (some more : List Sent) → AllByRecursion IsDull some → AllByRecursion IsDull more → AllByRecursion IsDull (some ++ more)
  dull_more [] more all others = others
  dull_more (one ∷ some) more all others = (all.0, dull_more some more all.1 others)

  abbrev begun_after : Turn → Turn
  begun_after turn = record { live = begun_turn setup turn.live; sent = turn.sent ++ plugs_of (begun_turn setup turn.live) }

  dull_after : (could : Bool) (turn : Turn) → AllByRecursion IsDull turn.sent → AllByRecursion IsDull (after_turn setup could turn).sent
  dull_after could turn all = by_test (could || not (can_begin turn.live))
    where
      by_test : (b : Bool) → AllByRecursion IsDull (cond b turn (begun_after turn)).sent
      by_test true = all
      by_test false = dull_more turn.sent (plugs_of (begun_turn setup turn.live)) all (dull_plugs (begun_turn setup turn.live).device (begun_turn setup turn.live).access.plug)

  dull_kind : (heard : Heard) (kind : Kind) → IsNoAlarm heard → IsKind setup live (Hears heard) kind → AllByRecursion IsDull (turn_by setup live kind).sent
  dull_kind heard Rests other holds = tt
  dull_kind heard (Connects source) other holds = (tt, tt)
  dull_kind heard (Addresses source) other holds = (tt, tt)
  dull_kind heard (Over cause refusal refused units) other holds = tt
  dull_kind heard (Releases cause refusal refused units) other holds = (tt, tt)
  dull_kind heard (Relates places chosen) other holds = (tt, tt)
  dull_kind heard (Writes number tries) other holds = (tt, tt)
  dull_kind heard (Skips number tries refused status) other holds = (tt, tt)
  dull_kind heard (Tries next status) other holds = tt
  dull_kind heard (Waits tries) other holds = tt
  dull_kind heard Forgets other holds = tt
  dull_kind heard (Begins caller call block) other holds = (tt, tt)
  dull_kind heard (Repeats caller call block) other holds = (tt, tt)
  dull_kind heard (Follows source frame_id body) other holds = tt
  dull_kind heard (Takes number report) other holds = absurd (subst IsNoAlarm (same_heard heard _ holds.4) other)
  dull_kind heard (IsAcked priority number) other holds = tt
  dull_kind heard (Gives slot subslot value) other holds = tt
  dull_kind heard (GivesStatus slot subslot is_good) other holds = tt
  dull_kind heard (Asks request record_octets) other holds = (tt, tt)
  dull_kind heard (IsReplied refusal access) other holds = dull_after (can_begin live) (stays (record live { refusal = refusal; access = access })) tt
  dull_kind heard (IsPlugAnswered refusal refused waited places access) other holds =
      let next : Live = record live { refusal = refusal; refused_record = refused; waited = waited; places = places; access = access } in
      dull_after (can_begin live) (asks_next next) (dull_plugs next.device next.access.plug)
  dull_kind heard (IsPlugReadied caller call block) other holds =
      dull_after (can_begin live) (record { live = plug_readied live block.alarm_sequence_number; sent = Agrees caller (plug_answer call block) ∷ [] }) (tt, tt)
  dull_kind heard Flows other holds = absurd (no_passes heard holds.0)
  dull_kind heard (Breaks reason) other holds = absurd (no_passes heard holds.0)
  dull_kind heard Idles other holds = absurd (no_passes heard holds.0)

  -- what the turn of a place sends is no AlarmAck
  any_more : (some more : List Sent) → any_carries 0x8001 (map (bytes_of setup) more) ≡ false
      → any_carries 0x8001 (map (bytes_of setup) (some ++ more)) ≡ any_carries 0x8001 (map (bytes_of setup) some)
  any_more [] more none = none
  any_more (one ∷ some) more none = ap (λ b. is_ack one || b) (any_more some more none)

  front_can : (some more : List Sent) → AllByRecursion (CanBeSent setup) (some ++ more) → AllByRecursion (CanBeSent setup) some
  front_can [] more all = tt
  front_can (one ∷ some) more all = (all.0, front_can some more all.1)

  behind_can : (some more : List Sent) → AllByRecursion (CanBeSent setup) (some ++ more) → AllByRecursion (CanBeSent setup) more
  behind_can [] more all = all
  behind_can (one ∷ some) more all = behind_can some more all.1

  turn_can : (turn : Turn) (b : Bool) → AllByRecursion (CanBeSent setup) (cond b turn (begun_after turn)).sent → AllByRecursion (CanBeSent setup) turn.sent
  turn_can turn true all = all
  turn_can turn false all = front_can turn.sent (plugs_of (begun_turn setup turn.live)) all

  same_after : (accepted : List AlarmNotification) (turn : Turn) (b : Bool) → AreSame accepted turn.sent → AllByRecursion (CanBeSent setup) (cond b turn (begun_after turn)).sent
      → AreSame accepted (cond b turn (begun_after turn)).sent
  same_after accepted turn true same can = same
  same_after accepted turn false same can =
      let begun = begun_turn setup turn.live in
      same ∙ sym (ap (λ b. accepted_if b octets) (any_more turn.sent (plugs_of begun)
      (dull_none setup (plugs_of begun) good (behind_can turn.sent (plugs_of begun) can) (dull_plugs begun.device begun.access.plug))))

  -- after a turn, that of a place may begin
  after_same : (accepted : List AlarmNotification) (turn : Turn) → (AllByRecursion (CanBeSent setup) turn.sent → AreSame accepted turn.sent)
      → AllByRecursion (CanBeSent setup) (after_turn setup (can_begin live) turn).sent → AreSame accepted (after_turn setup (can_begin live) turn).sent
  after_same accepted turn same can =
      let is : Bool = can_begin live || not (can_begin turn.live) in
      same_after accepted turn is (same (turn_can turn is can)) can

  module _ (sound : IsSoundWhole layers) (kinds : KindsSo) where
    dull_turn : (heard : Heard) → heard_of setup.plan.controller octets ≡ heard → IsNoAlarm heard → AllByRecursion (CanBeSent setup) (turned setup live heard).sent → AreSame [] (turned setup live heard).sent
    dull_turn heard e other can =
        let it = subst (λ (h : Heard). IsTurn setup live (Hears h) (turned setup live h)) e (kinds setup live (event.Frame (record { items = octets }))) in
        none_same (turned setup live heard).sent (dull_none setup (turned setup live heard).sent good can
        (subst (λ (turn : Turn). AllByRecursion IsDull turn.sent) (sym it.is) (dull_kind heard it.kind other it.holds)))

    quiet_alarm : (b : Bool) (turn : Turn) → turn.sent ≡ [] → AreSame [] (cond b turn (stays live)).sent
    quiet_alarm true turn none = subst (AreSame []) (sym none) refl
    quiet_alarm false turn none = refl

    by_heard : (heard : Heard) → heard_of setup.plan.controller octets ≡ heard → AllByRecursion (CanBeSent setup) (turned setup live heard).sent
        → AreSame (taken_by High live heard) (turned setup live heard).sent
    by_heard (Alarms source under header (notice.Data number report)) e can =
        let own = live.stands && is_alarm live.cyclic.route source header in
        after_same (data_taken own number report) (alarmed live source under header (notice.Data number report))
        (data_same own number report report.priority refl (placed sound setup.plan.controller octets source under header number report e).is) can
    by_heard (Alarms source under header (notice.Ack number)) e can =
        after_same [] (alarmed live source under header (notice.Ack number)) (λ _. quiet_alarm (live.stands && is_alarm live.cyclic.route source header) _ refl) can
    by_heard (Alarms source under header notice.Nack) e can =
        after_same [] (alarmed live source under header notice.Nack) (λ _. quiet_alarm (live.stands && is_alarm live.cyclic.route source header) _ refl) can
    by_heard (Alarms source under header (notice.Abort status)) e can =
        after_same [] (alarmed live source under header (notice.Abort status)) (λ _. quiet_alarm (live.stands && is_alarm live.cyclic.route source header) _ refl) can
    by_heard Nothing e can = dull_turn Nothing e tt can
    by_heard (Answers source answer) e can = dull_turn (Answers source answer) e tt can
    by_heard (Responds response) e can = dull_turn (Responds response) e tt can
    by_heard (Refuses refusal) e can = dull_turn (Refuses refusal) e tt can
    by_heard (Calls caller call) e can = dull_turn (Calls caller call) e tt can
    by_heard (Cyclic source frame_id body) e can = dull_turn (Cyclic source frame_id body) e tt can

    -- What is accepted is stored whole.
    each_taken : (b : Bool) (alarm : AlarmNotification) (result : Taken) → IsKept alarm → AllByRecursion IsKept (if b then more_taken [] alarm result else [])
    each_taken false alarm result is = tt
    each_taken true alarm New is = (is, tt)
    each_taken true alarm Again is = tt
    each_taken true alarm Refused is = tt

    kept_heard : (heard : Heard) → heard_of setup.plan.controller octets ≡ heard → AllByRecursion IsKept (taken_by High live heard)
    kept_heard (Alarms source under header (notice.Data number report)) e =
        let it = placed sound setup.plan.controller octets source under header number report e in
        each_taken (is_priority High report.priority && (live.stands && is_alarm live.cyclic.route source header)) report.notification (taken_as live.alarms.seen number)
        (ap kept_alarm it.is ∙ (alarm_kept octets it.short ∙ sym it.is))
    kept_heard (Alarms source under header (notice.Ack number)) e = tt
    kept_heard (Alarms source under header notice.Nack) e = tt
    kept_heard (Alarms source under header (notice.Abort status)) e = tt
    kept_heard Nothing e = tt
    kept_heard (Answers source answer) e = tt
    kept_heard (Responds response) e = tt
    kept_heard (Refuses refusal) e = tt
    kept_heard (Calls caller call) e = tt
    kept_heard (Cyclic source frame_id body) e = tt

    pub controller_keeps : AllByRecursion IsKept (taken_by High live (heard_of setup.plan.controller octets))
    controller_keeps = kept_heard (heard_of setup.plan.controller octets) refl

    -- The alarms that a controller accepts with a frame are read from the frame and from the frames that it then sends.
    pub controller_turn : AllByRecursion (CanBeSent setup) (turned setup live (heard_of setup.plan.controller octets)).sent
        → AreSame (taken_by High live (heard_of setup.plan.controller octets)) (turned setup live (heard_of setup.plan.controller octets)).sent
    controller_turn can = by_heard (heard_of setup.plan.controller octets) refl can

-- ---- a turn of the device

-- The alarms that are raised are read from the move and from the frames that the device then sends.
module _ (identity : Identity) (real : List RealModule) (before : Option RelationState) (slot subslot : ℕ) (octets : ArrayVec ℕ) (after : Option RelationState) (sent : List DeviceSent) where
  abbrev Goal : List AlarmNotification → Type 0
  Goal raised = map raise_of raised ≡ raised_by (Some (move.Application (local.Alarm slot subslot octets))) (map (device_bytes identity) sent)

  abbrev own_raise : List Raise
  own_raise = record { alarm_type = 2; api = 0; slot = slot; subslot = subslot; octets = octets.items } ∷ []

  alarm_sent : (flow : Flow) (specifier ident part : ℕ) → flow.alarms.sender.standing ≡ Some (notice_of specifier slot subslot ident part octets.items) → sent ≡ alarms_of (Some flow) → AreSendable identity sent
      → Goal (raised_in (Some flow))
  alarm_sent flow specifier ident part standing sends can =
      let alarm = notice_of specifier slot subslot ident part octets.items in
      let header = header_of flow pdu.Data in
      let route = flow.cyclic.route in
      let sent_is : sent ≡ Exchanges route (Notifies header alarm) ∷ [] = sends ∙ ap (λ (o : Option AlarmNotification). frames_in route (option_map (Notifies header) o)) standing in
      let able = subst (λ (messages : List DeviceSent). AreSendable identity messages) sent_is can in
      let carried : any_carries 0x0001 (map (device_bytes identity) sent) ≡ true = ap (λ (messages : List DeviceSent). any_carries 0x0001 (map (device_bytes identity) messages)) sent_is
      ∙ ap (λ b. b || false) (alarm_carries identity route header alarm able.0.source able.0.destination refl) in
      ap (λ (o : Option AlarmNotification). map raise_of (one_in o)) standing ∙ sym (ap (λ b. if b then own_raise else []) carried)

  abbrev raised_for : DeviceHeard → RelationState → Option Flow
  raised_for (Applied (local.Alarm slot subslot octets)) link = raised_at link.flow real slot subslot octets.items
  raised_for other link = None

  abbrev notice_for : (specifier ident part : ℕ) → DeviceHeard → AlarmNotification
  notice_for specifier ident part (Applied (local.Alarm slot subslot octets)) = notice_of specifier slot subslot ident part octets.items
  notice_for specifier ident part other = notice_of specifier 0 0 ident part []

  same_notice_of : (specifier ident part other_slot other_subslot : ℕ) (other : List ℕ) → alarm_heard slot subslot octets.items ≡ alarm_heard other_slot other_subslot other
      → notice_of specifier other_slot other_subslot ident part other ≡ notice_of specifier slot subslot ident part octets.items
  same_notice_of specifier ident part other_slot other_subslot other e = ap (notice_for specifier ident part) (sym e)

  pub device_turn : IsRaise real before slot subslot octets.items after sent → AreSendable identity sent → Goal (raised_in (raised_to real slot subslot octets.items before))
  device_turn (inl raises) can =
      let flow = raises.link.flow in
      let may = may_be flow raises.slot raises.subslot raises.octets (module_ident real raises.slot) (submodule_ident real raises.slot raises.subslot) raises.flow raises.raised in
      let raised : Some raises.flow ≡ raised_to real slot subslot octets.items before =
      sym raises.raised ∙ (ap (λ (h : DeviceHeard). raised_for h raises.link) (sym raises.is) ∙ ap (λ (l : Option RelationState). raised_to real slot subslot octets.items l) (sym raises.was)) in
      subst (λ (o : Option Flow). Goal (raised_in o)) raised
      (alarm_sent raises.flow flow.alarms.sender.specifier may.ident may.part
      (ap (λ (f : Flow). f.alarms.sender.standing) may.is ∙ ap (λ (a : AlarmNotification). Some a) (same_notice_of flow.alarms.sender.specifier may.ident may.part raises.slot raises.subslot raises.octets raises.is)) raises.sends can)
  device_turn (inr refused) can =
      ap (λ (o : Option Flow). map raise_of (raised_in o)) refused.unraised
      ∙ sym (ap (λ (messages : List DeviceSent). raised_by (Some (move.Application (local.Alarm slot subslot octets))) (map (device_bytes identity) messages)) refused.silent)
