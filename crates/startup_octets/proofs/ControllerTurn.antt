-- A controller answers no call but an ApplicationReady of its relation, or of a plug in it.
use Rattle.std.proofs.Common.{◌≡◌, ◌⊎◌, inl, inr, ◌||◌, ℕ, Bool, true, false, not, cond, nat_eq, List, [], ◌∷◌, ◌++◌, map, Option, Some, None, refl, sym, ap, subst, ◌∙◌}
use Rattle.std.proofs.lemmas.Bool.{cond-true}
use Rattle.std.specs.Prelude.{is_some}
use Rattle.std.specs.Cmp.Lexicographic.{pointwise}
use Rattle.std.specs.List.{AllByRecursion}
use Rattle.pn_values.specs.declared.mac.Mac.{Mac}
use Rattle.frame_codec.specs.declared.udp.Caller.{Caller}
use Rattle.frame_codec.specs.Calls.{calls_at}
use Rattle.frame_codec.specs.Sendable.{IsMac}
use Rattle.rpc_core.specs.declared.interface.Interface.TheVariants.{Device}
use Rattle.rpc_core.specs.Call.{Asked as Call}
use Rattle.connect_blocks.specs.declared.control.ControlBlock.{ControlBlock}
use Rattle.connect_blocks.specs.declared.plug_control.PlugControlBlock.{PlugControlBlock}
use Rattle.record_blocks.specs.declared.alarm_ack.AlarmAck.{AlarmAck}
use Rattle.pn_alarms.specs.declared.receiver.Taken.{Taken}
use Rattle.pn_alarms.specs.declared.receiver.Taken.TheVariants.{New, Again, Refused}
use Rattle.pn_alarms.specs.Receiver.{taken_as}
use Rattle.pn_alarms.specs.Sending.{due}
use Rattle.pn_alarms.specs.Sending.{is_again as is_repeated}
use Rattle.diagnosis.specs.declared.reports.priority.Priority.{Priority}
use Rattle.diagnosis.specs.declared.reports.priority.Priority.TheVariants.{High, Low}
use Rattle.diagnosis.specs.declared.reports.report.Report.{Report}
use Rattle.controller_messages.specs.declared.plug_request.PlugRequest.{PlugRequest}
use Rattle.controller_messages.specs.declared.record_request.RecordRequest.{RecordRequest}
use Rattle.controller_messages.specs.declared.request.Request.{Request}
use Rattle.controller_messages.specs.declared.request.Request.TheVariants as asks
use Rattle.controller_messages.specs.declared.setup.Setup.{Setup}
use Rattle.controller_messages.specs.Heard.{Calls, heard_of}
use Rattle.controller_messages.specs.PlugRequests.{is_plug_ready, plug_call, plug_ready_in}
use Rattle.controller_messages.specs.RecordRequests.{record_call}
use Rattle.controller_messages.specs.Requests.{call_for}
use Rattle.controller_messages.specs.Sent.{Sent, Requests, Accesses, Parametrizes, Agrees, Cycles, Confirms, Replies, Ends, bytes_of, identify_multicast}
use Rattle.controller_core.specs.declared.stored.event.Event.{Event}
use Rattle.controller_core.specs.declared.stored.event.Event.TheVariants.{Frame}
use Rattle.controller_core.specs.declared.stored.state.State.TheVariants.{Exchanging}
use Rattle.controller_core.specs.stored.State.{Live}
use Rattle.controller_core.specs.start_up.Answers.{is_ready}
use Rattle.controller_core.specs.Machine.{Turn, accesses_by, acks_in, acks_of, after_turn, asks_next, begun_turn, behind_data, brought, can_begin, due_frames, end_of, is_again, outputs_of, pending_by, pending_of, plugs_by, plugs_of, requests_of, stays, taken, turn_of, where_due}
use Rattle.end_laws.specs.hearing.Stations.{IsSetup}
use Rattle.end_laws.specs.sending.Addressed.{IsAimedAt}
use Rattle.end_laws.specs.turns.Beside.{flow_begun}
use Rattle.end_laws.specs.turns.Turns.{Begins, Breaks, Connects, Addresses, Ends as Over, Releases, Relates, Writes, Skips, Tries, Waits, Forgets, Repeats, Rests, Follows, Takes, IsAcked, Gives, GivesStatus, Asks, IsReplied, IsPlugAnswered, IsPlugReadied, Flows, Idles, Hears, IsKind, IsReadied, IsTurn, Kind, came_by, turn_by}
use Rattle.end_laws.specs.controller.Small.{readied_by, said_to}
use Rattle.end_laws.specs.both.Small as small
use Rattle.octets_law.specs.Octets.{statuses}
use Rattle.startup_octets.specs.StartUp.{is_granted}
use Rattle.startup_octets.proofs.DeviceTurn.{first_silent}
use Rattle.startup_octets.proofs.Frames.{call_silent, plain_silent, tagged_silent}

-- ---- messages that answer no call

abbrev pub IsNoAgree : Sent → Type 0
IsNoAgree (Agrees caller answer) = ⊥
IsNoAgree message = Unit {0}

multicast_six : IsMac identify_multicast
unfolding identify_multicast
multicast_six = refl

request_silent : (setup : Setup) (good : IsSetup setup) (asked : List ℕ) (device : Mac) (request : Request) → IsMac device → statuses asked (bytes_of setup (Requests device request)) ≡ []
request_silent setup good asked device asks.Identify six = plain_silent asked setup.plan.controller.mac identify_multicast _ _ good.mac multicast_six
request_silent setup good asked device asks.Address six = plain_silent asked setup.plan.controller.mac device _ _ good.mac six
request_silent setup good asked device asks.Connect six =
    call_silent asked Device setup.plan.controller.mac device (calls_at setup.plan.controller.address) (calls_at setup.plan.station.suite.address) (call_for setup asks.Connect) good.mac six good.address good.station
request_silent setup good asked device (asks.Write number) six =
    call_silent asked Device setup.plan.controller.mac device (calls_at setup.plan.controller.address) (calls_at setup.plan.station.suite.address) (call_for setup (asks.Write number)) good.mac six good.address good.station
request_silent setup good asked device asks.PrmEnd six =
    call_silent asked Device setup.plan.controller.mac device (calls_at setup.plan.controller.address) (calls_at setup.plan.station.suite.address) (call_for setup asks.PrmEnd) good.mac six good.address good.station
request_silent setup good asked device (asks.WriteAfter number tries) six =
    call_silent asked Device setup.plan.controller.mac device (calls_at setup.plan.controller.address) (calls_at setup.plan.station.suite.address) (call_for setup (asks.WriteAfter number tries)) good.mac six good.address good.station
request_silent setup good asked device (asks.PrmEndAfter tries) six =
    call_silent asked Device setup.plan.controller.mac device (calls_at setup.plan.controller.address) (calls_at setup.plan.station.suite.address) (call_for setup (asks.PrmEndAfter tries)) good.mac six good.address good.station
request_silent setup good asked device (asks.Release sequence) six =
    call_silent asked Device setup.plan.controller.mac device (calls_at setup.plan.controller.address) (calls_at setup.plan.station.suite.address) (call_for setup (asks.Release sequence)) good.mac six
    good.address good.station

message_silent : (setup : Setup) (good : IsSetup setup) (asked : List ℕ) (to : Mac) (message : Sent) → IsAimedAt to message → IsNoAgree message → statuses asked (bytes_of setup message) ≡ []
message_silent setup good asked to (Requests device request) aimed none = request_silent setup good asked device request aimed.0
message_silent setup good asked to (Accesses device request octets) aimed none =
    call_silent asked Device setup.plan.controller.mac device (calls_at setup.plan.controller.address) (calls_at setup.plan.station.suite.address) (record_call setup request octets) good.mac aimed.0
    good.address good.station
message_silent setup good asked to (Parametrizes device request) aimed none =
    call_silent asked Device setup.plan.controller.mac device (calls_at setup.plan.controller.address) (calls_at setup.plan.station.suite.address) (plug_call setup request) good.mac aimed.0
    good.address good.station
message_silent setup good asked to (Agrees caller answer) aimed none = absurd none
message_silent setup good asked to (Cycles route shown counter) aimed none = tagged_silent asked setup.plan.controller.mac route.partner route.sent_tag _ _ good.mac aimed.partner
message_silent setup good asked to (Confirms route priority header ack) aimed none = tagged_silent asked setup.plan.controller.mac route.partner _ _ _ good.mac aimed.partner
message_silent setup good asked to (Replies route priority header) aimed none = tagged_silent asked setup.plan.controller.mac route.partner _ _ _ good.mac aimed.partner
message_silent setup good asked to (Ends route header reason) aimed none = tagged_silent asked setup.plan.controller.mac route.partner _ _ _ good.mac aimed.partner

all_silent : (setup : Setup) (good : IsSetup setup) (asked : List ℕ) (to : Mac) (messages : List Sent) → AllByRecursion (IsAimedAt to) messages → AllByRecursion IsNoAgree messages
    → AllByRecursion (λ frame. statuses asked frame ≡ []) (map (bytes_of setup) messages)
all_silent setup good asked to [] aimed none = tt
all_silent setup good asked to (message ∷ messages) aimed none = (message_silent setup good asked to message aimed.0 none.0, all_silent setup good asked to messages aimed.1 none.1)

ungranted : (asked : List ℕ) (frames : List (List ℕ)) → AllByRecursion (λ frame. statuses asked frame ≡ []) frames → is_granted asked frames ≡ true → ⊥
ungranted asked frames silent granted = let e = sym (ap (λ l. pointwise nat_eq l (0 ∷ [])) (first_silent asked frames silent)) ∙ granted in absurd cc

-- ---- the turns

each_both : (some more : List Sent) → AllByRecursion IsNoAgree some → AllByRecursion IsNoAgree more → AllByRecursion IsNoAgree (some ++ more)
each_both [] more all others = others
each_both (one ∷ some) more all others = (all.0, each_both some more all.1 others)

if_due : (is_due : Bool) (messages : List Sent) → AllByRecursion IsNoAgree messages → AllByRecursion IsNoAgree (where_due is_due messages)
if_due true messages all = all
if_due false messages all = tt

no_ack : (live : Live) (priority : Priority) (ack : Option AlarmAck) → AllByRecursion IsNoAgree (acks_in live priority ack)
no_ack live priority (Some ack) = (tt, tt)
no_ack live priority None = tt

no_access : (device : Mac) (octets : List ℕ) (request : Option RecordRequest) → AllByRecursion IsNoAgree (accesses_by device octets request)
no_access device octets (Some request) = (tt, tt)
no_access device octets None = tt

no_request : (device : Mac) (request : Option Request) → AllByRecursion IsNoAgree (requests_of device request)
no_request device (Some request) = (tt, tt)
no_request device None = tt

no_plug : (device : Mac) (plug : Option PlugRequest) → AllByRecursion IsNoAgree (plugs_by device plug)
no_plug device (Some request) = (tt, tt)
no_plug device None = tt

no_beside : (device : Mac) (octets : List ℕ) (waiting : Option RecordRequest) (plug : Option PlugRequest)
    → AllByRecursion IsNoAgree (cond (is_some plug) (plugs_by device plug) (accesses_by device octets waiting))
no_beside device octets waiting (Some request) = (tt, tt)
no_beside device octets waiting None = no_access device octets waiting

no_pending : (live : Live) (request : Option Request) → AllByRecursion IsNoAgree (pending_by live request)
no_pending live (Some request) = (tt, tt)
no_pending live None = no_beside live.device live.access.octets live.access.waiting live.access.plug

no_due : (live : Live) (high low request cyclic : Bool) → AllByRecursion IsNoAgree (due_frames live high low request cyclic)
no_due live high low request cyclic =
    each_both (where_due high (acks_of live High)) _ (if_due high (acks_of live High) (no_ack live High (end_of live High).confirming))
    (each_both (where_due low (acks_of live Low)) _ (if_due low (acks_of live Low) (no_ack live Low (end_of live Low).confirming))
    (each_both (where_due request (pending_of live)) _ (if_due request (pending_of live) (no_pending live live.asked)) (if_due cyclic (outputs_of live) (tt, tt))))

no_taken : (live : Live) (report : Report) (came : Taken) → AllByRecursion IsNoAgree (taken live report came).sent
no_taken live report New = (tt, (tt, tt))
no_taken live report Again = (tt, tt)
no_taken live report Refused = (tt, tt)

-- The turn of a place may begin after a turn.
no_after : (setup : Setup) (could : Bool) (turn : Turn) → AllByRecursion IsNoAgree turn.sent → AllByRecursion IsNoAgree (after_turn setup could turn).sent
no_after setup could turn all = by_test (could || not (can_begin turn.live))
  where
    begun : Live
    begun = begun_turn setup turn.live

    by_test : (b : Bool) → AllByRecursion IsNoAgree (cond b turn (record { live = begun_turn setup turn.live; sent = turn.sent ++ plugs_of (begun_turn setup turn.live) })).sent
    by_test true = all
    by_test false = each_both turn.sent (plugs_of begun) all (no_plug begun.device begun.access.plug)

-- What an event brings, if it is a frame with an ApplicationReady of a plug, while data is exchanged.
pub record IsPluggedBy (setup : Setup) (live : Live) (event : Event) : Type 0 where
  pub octets : List ℕ
  pub is : event ≡ Frame (record { items = octets })
  pub exchanges : live.phase ≡ Exchanging
  pub caller : Caller
  pub call : Call
  pub block : PlugControlBlock
  pub heard : heard_of setup.plan.controller octets ≡ Calls caller call
  pub read : plug_ready_in call ≡ Some block
  pub right : is_plug_ready setup block ≡ true

plugged_event : (setup : Setup) (live : Live) (event : Event) (caller : Caller) (call : Call) (block : PlugControlBlock) → live.phase ≡ Exchanging → came_by setup event ≡ Hears (Calls caller call)
    → plug_ready_in call ≡ Some block → is_plug_ready setup block ≡ true → IsPluggedBy setup live event
plugged_event setup live (Frame bytes) caller call block exchanges comes read right =
    record { octets = bytes.items; is = refl; exchanges = exchanges; caller = caller; call = call; block = block; heard = same_heard comes; read = read; right = right }
  where
    same_heard : Hears (heard_of setup.plan.controller bytes.items) ≡ Hears (Calls caller call) → heard_of setup.plan.controller bytes.items ≡ Calls caller call
    same_heard e = cc
plugged_event setup live event caller call block exchanges comes read right = absurd cc

-- What an event brings, if it is a frame with an ApplicationReady of the relation.
pub record IsReadiedBy (setup : Setup) (event : Event) : Type 0 where
  pub octets : List ℕ
  pub is : event ≡ Frame (record { items = octets })
  pub says : said_to setup (heard_of setup.plan.controller octets) ≡ small.Readies

readied_event : (setup : Setup) (event : Event) (caller : Caller) (call : Call) (block : ControlBlock) → IsReadied setup (came_by setup event) caller call block → IsReadiedBy setup event
readied_event setup (Frame bytes) caller call block it = record {
  octets = bytes.items;
  is = refl;
  says = ap (said_to setup) (same_heard it.comes) ∙ ap (readied_by setup) it.is ∙ cond-true (is_ready setup block) _ _ it.right;
}
  where
    same_heard : Hears (heard_of setup.plan.controller bytes.items) ≡ Hears (Calls caller call) → heard_of setup.plan.controller bytes.items ≡ Calls caller call
    same_heard e = cc
readied_event setup event caller call block it = let e = it.comes in absurd cc

module _ (setup : Setup) (live : Live) (event : Event) where
  abbrev IsEither : Turn → Type 0
  IsEither turn = AllByRecursion IsNoAgree turn.sent ⊎ (IsReadiedBy setup event ⊎ IsPluggedBy setup live event)

  by_kind : (kind : Kind) → IsKind setup live (came_by setup event) kind → IsEither (turn_by setup live kind)
  by_kind Rests holds = inl tt
  by_kind (Connects source) holds = inl (tt, tt)
  by_kind (Addresses source) holds = inl (tt, tt)
  by_kind (Over cause refusal refused units) holds = inl tt
  by_kind (Releases cause refusal refused units) holds = inl (tt, tt)
  by_kind (Relates places chosen) holds = inl (tt, tt)
  by_kind (Writes number tries) holds = inl (tt, tt)
  by_kind (Skips number tries refused status) holds = inl (tt, tt)
  by_kind (Tries next status) holds = inl tt
  by_kind (Waits tries) holds = inl tt
  by_kind Forgets holds = inl tt
  by_kind (Begins caller call block) holds = inr (inl (readied_event setup event caller call block holds.1))
  by_kind (Repeats caller call block) holds = inr (inl (readied_event setup event caller call block holds.1))
  by_kind (Follows source frame_id body) holds = inl tt
  by_kind (Takes number report) holds =
      inl (no_after setup (can_begin live) (taken (behind_data live report.priority number) report (taken_as (end_of live report.priority).seen number))
      (no_taken (behind_data live report.priority number) report (taken_as (end_of live report.priority).seen number)))
  by_kind (IsAcked priority number) holds = inl tt
  by_kind (Gives slot subslot value) holds = inl tt
  by_kind (GivesStatus slot subslot is_good) holds = inl tt
  by_kind (Asks request octets) holds = inl (tt, tt)
  by_kind (IsReplied refusal access) holds = inl (no_after setup (can_begin live) (stays (record live { refusal = refusal; access = access })) tt)
  by_kind (IsPlugAnswered refusal refused waited places access) holds =
      let next : Live = record live { refusal = refusal; refused_record = refused; waited = waited; places = places; access = access } in
      inl (no_after setup (can_begin live) (asks_next next) (no_plug next.device next.access.plug))
  by_kind (IsPlugReadied caller call block) holds = inr (inr (plugged_event setup live event caller call block holds.0 holds.1 holds.3 holds.4))
  by_kind Flows holds =
      inl (no_due (flow_begun setup live) (is_repeated (due live.alarms.sending)) (is_repeated (due live.low_alarms.sending)) (is_again live) (brought live).is_cyclic)
  by_kind (Breaks reason) holds = inl (tt, tt)
  by_kind Idles holds = inl (if_due (is_again live) (requests_of live.device live.asked) (no_request live.device live.asked))

  -- A turn whose frames answer a call positively is at an ApplicationReady, of the relation or of a plug.
  pub answered_ready : (good : IsSetup setup) (to : Mac) (asked : List ℕ) → IsTurn setup live (came_by setup event) (turn_of setup live event) → AllByRecursion (IsAimedAt to) (turn_of setup live event).sent
      → is_granted asked (map (bytes_of setup) (turn_of setup live event).sent) ≡ true → IsReadiedBy setup event ⊎ IsPluggedBy setup live event
  answered_ready good to asked it aimed granted = by_either (subst IsEither (sym it.is) (by_kind it.kind it.holds))
    where
      by_either : IsEither (turn_of setup live event) → IsReadiedBy setup event ⊎ IsPluggedBy setup live event
      by_either (inl none) = absurd (ungranted asked (map (bytes_of setup) (turn_of setup live event).sent) (all_silent setup good asked to (turn_of setup live event).sent aimed none) granted)
      by_either (inr ready) = ready
