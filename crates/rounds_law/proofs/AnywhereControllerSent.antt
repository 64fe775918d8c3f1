-- What a controller in any state sends: its own messages, with their sizes.
use Rattle.std.proofs.Common.{◌≡◌, ◌⊎◌, inl, inr, ◌<◌, ◌==◌, ◌&&◌, ℕ, Bool, true, List, [], ◌∷◌, map, Option, Some, None, is_some, refl, sym, ap, subst, arith}
use Rattle.std.specs.Prelude.{if◌then◌else◌}
use Rattle.std.specs.List.{AllByRecursion}
use Rattle.pn_values.specs.declared.mac.Mac.{Mac}
use Rattle.frame_codec.specs.declared.udp.Caller.{Caller}
use Rattle.frame_codec.specs.FrameId.{is_cyclic}
use Rattle.frame_codec.specs.Sendable.{IsMac}
use Rattle.rpc_core.specs.Call.{Asked as Call}
use Rattle.rpc_core.specs.Response.{Answered as Response}
use Rattle.connect_blocks.specs.declared.control.ControlBlock.{ControlBlock}
use Rattle.connect_blocks.specs.declared.plug_control.PlugControlBlock.{PlugControlBlock}
use Rattle.record_blocks.specs.declared.alarm_ack.AlarmAck.{AlarmAck}
use Rattle.pn_alarms.specs.declared.abort.Abort.{Abort}
use Rattle.pn_alarms.specs.declared.pdu.Header.{Header}
use Rattle.pn_alarms.specs.declared.pdu.PduType.{PduType}
use Rattle.pn_alarms.specs.declared.pdu.PduType.TheVariants as pdu
use Rattle.pn_alarms.specs.declared.receiver.Taken.{Taken}
use Rattle.pn_alarms.specs.declared.receiver.Taken.TheVariants.{New, Again, Refused}
use Rattle.pn_alarms.specs.Numbers.{ack_number, send_number}
use Rattle.diagnosis.specs.declared.reports.priority.Priority.{Priority}
use Rattle.diagnosis.specs.declared.reports.priority.Priority.TheVariants.{High, Low}
use Rattle.diagnosis.specs.declared.reports.report.Report.{Report}
use Rattle.diagnosis.specs.Sendable.{IsHeader}
use Rattle.cyclic_data.specs.Image.{Shown}
use Rattle.cyclic_data.specs.declared.exchange.route.Route.{Route}
use Rattle.controller_messages.specs.declared.plug_request.PlugRequest.{PlugRequest}
use Rattle.controller_messages.specs.declared.record_request.RecordRequest.{RecordRequest}
use Rattle.controller_messages.specs.declared.request.Request.{Request}
use Rattle.controller_messages.specs.declared.setup.Setup.{Setup}
use Rattle.controller_messages.specs.Heard.{Calls, Heard}
use Rattle.controller_messages.specs.PlugRequests.{is_plug_ready, plug_answer}
use Rattle.controller_messages.specs.Sent.{Sent, Requests, Parametrizes, Agrees, Cycles, Confirms, Replies, Ends, bytes_of, ready_answer}
use Rattle.controller_core.specs.stored.Alarms.{ack_of, header_of}
use Rattle.controller_core.specs.stored.State.{Live}
use Rattle.controller_core.specs.Machine.{accesses_by, accesses_of, acks_in, acks_of, confirming, due_frames, end_of, outputs_of, pending_by, pending_of}
use Rattle.controller_core.specs.Machine.{plugs_by, taken, where_due}
use Rattle.end_laws.specs.hearing.Stations.{IsRoute, IsSetup}
use Rattle.end_laws.specs.sending.Messages.{CanBeSent, IsWay}
use Rattle.end_laws.specs.sending.Sized.{AreFew, IsFew, IsShort}
use Rattle.end_laws.specs.turns.Turns.{Hears, IsReadied}
use Rattle.rounds_law.specs.Anywhere.{IsFit}
use Rattle.rounds_law.proofs.AnywhereControllerAcks.{cut, cut_fits, sent_cut}
use Rattle.rounds_law.proofs.AnywhereControllerKept.{IsKept, confirming_kept, end_kept}
use Rattle.rounds_law.proofs.AnywhereControllerLaws.{AnswersCanBeSent, PlugAnswersCanBeSent, named_so}
use Rattle.rounds_law.proofs.AnywhereControllerReached.{heard_in}
use Rattle.rounds_law.proofs.AnywhereControllerSizes.{all_append, body_few, cyclic_small, due_all, numbered}
use Rattle.rounds_law.proofs.AnywhereParts.{AreOwn, HasWay, IsOwn}
use Rattle.rounds_law.proofs.AnywhereTurning.{AreOfPlug}

-- ---- a route

-- The numbers that the device chose.
abbrev pub IsChosenIn : Route → Type 0
IsChosenIn route = (is_cyclic route.sent_id ≡ true) × (route.reference < 65536)

route_way : (setup : Setup) (live : Live) → IsKept setup live → IsChosenIn live.cyclic.route → IsWay live.cyclic.route
route_way setup live is chosen = record {
  partner = is.cyclic.partner;
  sent_id = let small = cyclic_small live.cyclic.route.sent_id chosen.0 in omega (arith, small);
  sent_tag = is.cyclic.tag;
  alarm_tag = is.cyclic.alarm_tag;
  reference = chosen.1;
}

route_is : (setup : Setup) (live : Live) → IsKept setup live → IsChosenIn live.cyclic.route → IsRoute live.cyclic.route
route_is setup live is chosen = record { partner = is.cyclic.partner; cyclic = chosen.0; tag = is.cyclic.tag; alarm_tag = is.cyclic.alarm_tag }

sent_short : (last : Option ℕ) → IsShort last → send_number last < 65536
sent_short None is = omega arith
sent_short (Some number) is = is

seen_short : (last : Option ℕ) → IsShort last → ack_number last < 65536
seen_short None is = omega arith
seen_short (Some number) is = is

header_is : (setup : Setup) (live : Live) (priority : Priority) (kind : PduType) → IsKept setup live → IsChosenIn live.cyclic.route
    → IsHeader (header_of (end_of live priority) live.cyclic.route kind)
header_is setup live priority kind is chosen =
    let short = end_kept setup live priority is in
    record {
      destination = chosen.1;
      source = omega arith;
      send_number = sent_short (end_of live priority).sending.last short.0;
      ack_number = seen_short (end_of live priority).seen short.1;
    }

-- ---- own messages

-- What may be sent of a relation with this route.
pub record Allows (kind : Sent → Type 0) (route : Route) : Type 0 where
  pub agrees : (caller : Caller) (answer : Response) → kind (Agrees caller answer)
  pub cycles : (shown : Shown) (counter : ℕ) → kind (Cycles route shown counter)
  pub confirms : (priority : Priority) (header : Header) (ack : AlarmAck) → kind (Confirms route priority header ack)
  pub replies : (priority : Priority) (header : Header) → kind (Replies route priority header)
  pub ends : (header : Header) (reason : Abort) → kind (Ends route header reason)

module _ (setup : Setup) (kind : Sent → Type 0) where
  -- The octets of the message are a frame of this controller, of this kind.
  abbrev pub IsSaid : Sent → Type 0
  IsSaid message = IsOwn setup kind (bytes_of setup message)

  -- Those of each message are.
  abbrev pub AreSaid : List Sent → Type 0
  AreSaid messages = AllByRecursion IsSaid messages

  pub said : (message : Sent) → CanBeSent setup message → HasWay setup message → kind message → IsSaid message
  said message can way is = record { message = message; frame = refl; sendable = can; way = way; is = is }

  pub all_own : (messages : List Sent) → AreSaid messages → AreOwn setup kind (map (bytes_of setup) messages)
  all_own [] all = tt
  all_own (message ∷ messages) all = (all.0, all_own messages all.1)

  -- A request.
  pub request_said : (device : Mac) (request : Request) → IsMac device → IsFew request → kind (Requests device request) → IsSaid (Requests device request)
  request_said device request mac few is = said (Requests device request) (mac, numbered request few) tt is

  -- A request after a plug, if one waits.
  pub plugs_said : (device : Mac) → IsMac device → (plug : Option PlugRequest) → AreOfPlug setup plug
      → ((request : PlugRequest) → kind (Parametrizes device request)) → AreSaid (plugs_by device plug)
  plugs_said device mac None of allowed = tt
  plugs_said device mac (Some request) of allowed = (said (Parametrizes device request) (mac, of.1) of.0 (allowed request), tt)

  -- The response to ApplicationReady.
  pub agreed : AnswersCanBeSent → IsSetup setup → (heard : Heard) (caller : Caller) (call : Call) (block : ControlBlock) → IsFit setup heard
      → IsReadied setup (Hears heard) caller call block → kind (Agrees caller (ready_answer call block)) → IsSaid (Agrees caller (ready_answer call block))
  agreed can_answer good heard caller call block fit ready is =
      let sizes : IsFit setup (Calls caller call) = subst (λ (h : Heard). IsFit setup h) (ap heard_in ready.comes) fit in
      said (Agrees caller (ready_answer call block))
      (sizes.0, can_answer call block sizes.1 sizes.2 (named_so block.ar_uuid setup.ar (block.session_key == 1) ready.right good.ar)) tt is

  -- That to one of a plug.
  pub plug_agreed : PlugAnswersCanBeSent → IsSetup setup → (caller : Caller) (call : Call) (block : PlugControlBlock) → IsFit setup (Calls caller call)
      → is_plug_ready setup block ≡ true → kind (Agrees caller (plug_answer call block)) → IsSaid (Agrees caller (plug_answer call block))
  plug_agreed can_answer good caller call block fit right is =
      said (Agrees caller (plug_answer call block)) (
        fit.0,
        can_answer call block fit.1 fit.2
            (named_so block.ar_uuid setup.ar (block.session_key == 1 && block.control_command == 2) right good.ar),
      ) tt is

  module _ (live : Live) (kept : IsKept setup live) (chosen : IsChosenIn live.cyclic.route) (allows : Allows kind live.cyclic.route) where
    -- An AlarmAck.
    confirmed : (priority : Priority) (ack : AlarmAck)
        → IsSaid (Confirms live.cyclic.route priority (header_of (end_of live priority) live.cyclic.route pdu.Data) ack)
    confirmed priority ack =
        let header = header_of (end_of live priority) live.cyclic.route pdu.Data in
        record {
          message = Confirms live.cyclic.route priority header (cut ack);
          frame = sent_cut setup live.cyclic.route priority header ack;
          sendable = (route_way setup live kept chosen, refl, header_is setup live priority pdu.Data kept chosen, cut_fits ack);
          way = route_is setup live kept chosen;
          is = allows.confirms priority header (cut ack);
        }

    replied : (priority : Priority) (reply : PduType) → (reply ≡ pdu.Ack) ⊎ (reply ≡ pdu.Nack)
        → IsSaid (Replies live.cyclic.route priority (header_of (end_of live priority) live.cyclic.route reply))
    replied priority reply which =
        let header = header_of (end_of live priority) live.cyclic.route reply in
        said (Replies live.cyclic.route priority header) (route_way setup live kept chosen, which, header_is setup live priority reply kept chosen)
        (route_is setup live kept chosen) (allows.replies priority header)

    pub ended : (reason : Abort) → IsSaid (Ends live.cyclic.route (header_of live.alarms live.cyclic.route pdu.Error) reason)
    ended reason =
        let header = header_of live.alarms live.cyclic.route pdu.Error in
        said (Ends live.cyclic.route header reason) (route_way setup live kept chosen, header_is setup live High pdu.Error kept chosen)
        (route_is setup live kept chosen) (allows.ends header reason)

    acks_said : (priority : Priority) (ack : Option AlarmAck) → AreSaid (acks_in live priority ack)
    acks_said priority (Some ack) = (confirmed priority ack, tt)
    acks_said priority None = tt

    outputs_said : AreSaid (outputs_of live)
    outputs_said =
        let route = live.cyclic.route in (
          said (Cycles route live.cyclic.shown live.units) (route_way setup live kept chosen, body_few live.cyclic.shown live.units kept.cyclic.few)
              (route_is setup live kept chosen) (allows.cycles live.cyclic.shown live.units),
          tt,
        )

    module _ (requests : (request : Request) → live.asked ≡ Some request → kind (Requests live.device request)) (alone : live.access.waiting ≡ None)
        (plugs : AreSaid (plugs_by live.device live.access.plug)) where
      none_accesses : (waiting : Option RecordRequest) → waiting ≡ None → AreSaid (accesses_by live.device live.access.octets waiting)
      none_accesses None e = tt
      none_accesses (Some request) e = absurd cc

      beside_said : (plug : Option PlugRequest) → AreSaid (plugs_by live.device plug)
          → AreSaid (if is_some plug then plugs_by live.device plug else accesses_of live)
      beside_said (Some request) is = is
      beside_said None is = none_accesses live.access.waiting alone

      pending_said : (asked : Option Request) → live.asked ≡ asked → AreFew asked → AreSaid (pending_by live asked)
      pending_said (Some request) e few = (request_said live.device request kept.device few (requests request e), tt)
      pending_said None e few = beside_said live.access.plug plugs

      pub due_said : (is_high is_low is_request is_cyclic : Bool) → AreSaid (due_frames live is_high is_low is_request is_cyclic)
      due_said is_high is_low is_request is_cyclic =
          all_append IsSaid (where_due is_high (acks_of live High)) _ (due_all IsSaid is_high _ (acks_said High live.alarms.confirming))
          (all_append IsSaid (where_due is_low (acks_of live Low)) _ (due_all IsSaid is_low _ (acks_said Low live.low_alarms.confirming))
          (all_append IsSaid (where_due is_request (pending_of live)) _ (due_all IsSaid is_request _ (pending_said live.asked refl kept.asked))
          (due_all IsSaid is_cyclic _ outputs_said)))

  -- An alarm is accepted.
  confirming_route : (live : Live) (report : Report) → (confirming live report).cyclic.route ≡ live.cyclic.route
  confirming_route live report = by report.priority
    where
      by : (priority : Priority) → (confirming live (record report { priority = priority })).cyclic.route ≡ live.cyclic.route
      by High = refl
      by Low = refl

  pub taken_said : (live : Live) → IsKept setup live → IsChosenIn live.cyclic.route → Allows kind live.cyclic.route → (report : Report) (as_what : Taken)
      → AreSaid (taken live report as_what).sent
  taken_said live kept chosen allows report New =
      let next = confirming live report in
      let same = sym (confirming_route live report) in (
        replied live kept chosen allows report.priority pdu.Ack (inl refl),
        (
          confirmed next (confirming_kept setup live report kept) (subst IsChosenIn same chosen) (subst (Allows kind) same allows) report.priority
              (ack_of report.notification),
          tt,
        ),
      )
  taken_said live kept chosen allows report Again = (replied live kept chosen allows report.priority pdu.Ack (inl refl), tt)
  taken_said live kept chosen allows report Refused = (replied live kept chosen allows report.priority pdu.Nack (inr refl), tt)
