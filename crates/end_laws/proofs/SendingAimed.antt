-- A controller keeps a valid address of the station that it sends to.
use Rattle.std.proofs.Common.{◌≡◌, ◌⊎◌, inl, inr, ◌+◌, ◌<◌, ◌==◌, ◌&&◌, ℕ, Bool, true, false, List, [], ◌∷◌, Option, Some, None, refl, sym, subst, arith}
use Rattle.std.specs.Prelude.{if◌then◌else◌, is_some}
use Rattle.std.specs.List.{AllByRecursion}
use Rattle.pn_values.specs.declared.mac.Mac.{Mac}
use Rattle.dcp_core.specs.Response.{Answered}
use Rattle.rpc_core.specs.Call.{Asked as Call}
use Rattle.frame_codec.specs.declared.udp.Caller.{Caller}
use Rattle.connect_blocks.specs.declared.control.ControlBlock.{ControlBlock}
use Rattle.record_blocks.specs.declared.alarm_ack.AlarmAck.{AlarmAck}
use Rattle.record_blocks.specs.declared.alarm_notification.AlarmNotification.{AlarmNotification}
use Rattle.pn_alarms.specs.declared.receiver.Taken.{Taken}
use Rattle.pn_alarms.specs.declared.receiver.Taken.TheVariants.{New, Again, Refused}
use Rattle.pn_alarms.specs.Receiver.{taken_as}
use Rattle.pn_alarms.specs.Ends.{ControllerEnd}
use Rattle.diagnosis.specs.declared.reports.priority.Priority.{Priority}
use Rattle.diagnosis.specs.declared.reports.priority.Priority.TheVariants.{High, Low}
use Rattle.diagnosis.specs.declared.reports.report.Report.{Report}
use Rattle.cyclic_data.specs.exchange.Cyclic.{Cyclic}
use Rattle.cyclic_data.specs.exchange.Opening.{begun_of}
use Rattle.cyclic_data.specs.exchange.Received.{behind_frame}
use Rattle.connect_blocks.specs.declared.plug_control.PlugControlBlock.{PlugControlBlock}
use Rattle.plans.specs.Numbers.{session_number}
use Rattle.controller_messages.specs.declared.plug_request.PlugRequest.{PlugRequest}
use Rattle.controller_messages.specs.declared.record_request.RecordRequest.{RecordRequest}
use Rattle.controller_messages.specs.declared.request.Request.{Request}
use Rattle.controller_messages.specs.declared.request.Request.TheVariants as asks
use Rattle.controller_messages.specs.declared.setup.Setup.{Setup}
use Rattle.controller_messages.specs.Heard.{Answers, Calls}
use Rattle.controller_messages.specs.Requests.{writing_from}
use Rattle.controller_messages.specs.PlugRequests.{is_plug_ready, plug_answer}
use Rattle.controller_messages.specs.Access.{Accessing}
use Rattle.controller_messages.specs.Sent.{Sent, Agrees, Parametrizes, ready_answer}
use Rattle.controller_core.specs.declared.stored.event.Event.{Event}
use Rattle.controller_core.specs.declared.stored.event.Event.TheVariants.{Frame, Give, Read, Status, Stop, Tick, Write}
use Rattle.controller_core.specs.declared.stored.state.Cause.{Cause}
use Rattle.controller_core.specs.declared.stored.state.State.{State}
use Rattle.controller_core.specs.declared.stored.state.State.TheVariants.{Addressing, Connecting, Ended, Exchanging, Waiting}
use Rattle.controller_core.specs.stored.State.{Live}
use Rattle.end_laws.specs.turns.Beside.{IsBegun, MayBegin, MayFollow, flow_begun}
use Rattle.end_laws.specs.turns.Turns.{Came, Hears, IsKind, IsReadied, IsTurn, Kind, Rests, Connects, Addresses, Ends, Releases, Relates, Writes, Skips, Tries, Waits, Forgets, Begins, Repeats, Follows, Takes, IsAcked, Asks, IsReplied, IsPlugAnswered, IsPlugReadied, Gives, GivesStatus, Flows, Breaks, Idles, came_by, turn_by}
use Rattle.frame_codec.specs.Sendable.{IsMac}
use Rattle.connects.specs.answers.Connect.{Chosen}
use Rattle.controller_core.specs.Machine.{Turn, accesses_by, accesses_of, acking, acks_in, acks_of, after_turn, asking, asks_next, behind_data, brought, can_begin, confirming, diagnosing, due_frames, end_of, first, flow_later, is_again, is_end_of, keeping, noted, over, pending_by, pending_of, plug_readied, plugs_by, plugs_of, released, requests_of, standing, stays, taken, turn_of, where_due, with_end, writing}
use Rattle.controller_core.specs.start_up.Requests.{behind_write, next_sequence, write_after}
use Rattle.controller_core.specs.stored.State.{phase_for}
use Rattle.controller_core.specs.stored.Alarms.{ack_of}
use Rattle.end_laws.specs.hearing.Stations.{IsRecordCall, IsSetup}
use Rattle.end_laws.specs.sending.Addressed.{IsAimed, IsAimedAt, IsDirection, IsEventFrom, IsHeardFrom}
use Rattle.end_laws.specs.sending.Sized.{AreFew, IsAccess, IsFew, IsPlugging, IsWaiting}
use Rattle.end_laws.proofs.SendingSizes.{BlocksAreLong, CameSo, Stays, all_append, answer_can, due_all, frame_stays, named_so, number_few, numbered, plug_answer_can, sequence_few, writing_few, behind_few, few_so, tried_few}
use Rattle.end_laws.proofs.SendingTurns.{answered_access, none_waits, stepped_access}
use Rattle.end_laws.proofs.TurnsBeside.{flows as flows_so, follows}

-- a turn after which this address is valid, and each message of which goes to a station
pub record IsSent (mac : Mac) (turn : Turn) : Type 0 where
  pub live : IsAimed turn.live
  pub sent : AllByRecursion (IsAimedAt mac) turn.sent

came_from : (mac : Mac) (setup : Setup) (event : Event) → IsEventFrom mac setup event → CameSo (IsHeardFrom mac) (came_by setup event)
came_from mac setup (Frame bytes) from = from
came_from mac setup Tick from = tt
came_from mac setup (Give slot subslot value) from = tt
came_from mac setup (Status slot subslot is_good) from = tt
came_from mac setup (Read slot subslot index) from = tt
came_from mac setup (Write slot subslot index octets) from = tt
came_from mac setup Stop from = tt

module _ (mac : Mac) where
  asking_sent : (setup : Setup) (phase : State) (request : Request) (live : Live) → IsAimed live → IsFew request → IsSent mac (asking setup phase request live)
  asking_sent setup phase request live is few = record { live = record { device = is.device; asked = few; way = is.way; access = is.access }; sent = ((is.device, numbered request few), tt) }

  over_aimed : (why : Cause) (live : Live) → IsAimed live → IsAimed (over why live)
  over_aimed why live is = record { device = is.device; asked = tt; way = record { partner = is.way.partner; sent_tag = is.way.sent_tag; alarm_tag = is.way.alarm_tag }; access = (tt, tt) }

  released_sent : (setup : Setup) (why : Cause) (live : Live) → IsSetup setup → IsAimed live → IsSent mac (released setup why live)
  released_sent setup why live good is =
      asking_sent setup (Ended why) (asks.Release (next_sequence setup.plan live.access.calls live.asked)) (over why live) (over_aimed why live is) (sequence_few setup.plan live.access.calls live.asked is.asked)

  writing_sent : (setup : Setup) (next : Request) (live : Live) → IsFew next → IsAimed live → IsSent mac (writing setup next live)
  writing_sent setup next live few is = asking_sent setup (phase_for next) next live is few

  stands_aimed : (setup : Setup) (live : Live) (chosen : Chosen) → IsAimed live → IsAimed (standing setup live chosen)
  stands_aimed setup live chosen is = record { device = is.device; asked = is.asked; way = record { partner = is.device; sent_tag = omega arith; alarm_tag = omega arith }; access = is.access }

  unasked : (live : Live) (phase : State) (left : ℕ) → IsAimed live → IsAimed (record live { phase = phase; asked = None; left = left })
  unasked live phase left is = record { device = is.device; asked = tt; way = is.way; access = is.access }

  begun_aimed : (live : Live) → IsAimed live → IsAimed (record live { phase = Exchanging; asked = None; left = 0; cyclic = begun_of live.cyclic })
  begun_aimed live is = record { device = is.device; asked = tt; way = record { partner = is.way.partner; sent_tag = is.way.sent_tag; alarm_tag = is.way.alarm_tag }; access = is.access }

  with_end_aimed : (live : Live) (priority : Priority) (end : ControllerEnd) → IsAimed live → IsAimed (with_end live priority end)
  with_end_aimed live High end is = record { device = is.device; asked = is.asked; way = is.way; access = is.access }
  with_end_aimed live Low end is = record { device = is.device; asked = is.asked; way = is.way; access = is.access }

  keeping_aimed : (live : Live) (priority : Priority) (alarm : AlarmNotification) (structure : Option ℕ) → IsAimed live → IsAimed (keeping live priority alarm structure)
  keeping_aimed live High alarm structure is = record { device = is.device; asked = is.asked; way = is.way; access = is.access }
  keeping_aimed live Low alarm structure is = record { device = is.device; asked = is.asked; way = is.way; access = is.access }

  diagnosing_aimed : (live : Live) (report : Report) → IsAimed live → IsAimed (diagnosing report live)
  diagnosing_aimed live report is = record { device = is.device; asked = is.asked; way = is.way; access = is.access }

  confirming_aimed : (live : Live) (report : Report) → IsAimed live → IsAimed (confirming live report)
  confirming_aimed live report is =
      diagnosing_aimed _ report (keeping_aimed (acking live report.priority (ack_of report.notification)) report.priority _ report.user_structure
      (with_end_aimed live report.priority _ is))

  taken_sent : (live : Live) (report : Report) (as_is : Taken) → IsAimed live → IsSent mac (taken live report as_is)
  taken_sent live report New is = let confirms = confirming_aimed live report is in record { live = confirms; sent = (is.way, (confirms.way, tt)) }
  taken_sent live report Again is = record { live = is; sent = (is.way, tt) }
  taken_sent live report Refused is = record { live = is; sent = (is.way, tt) }

  kept_aimed : (live : Live) (cyclic : Cyclic) → IsAimed live → Stays live.cyclic cyclic → IsAimed (record live { cyclic = cyclic })
  kept_aimed live cyclic is stays = record { device = is.device; asked = is.asked; way = subst IsDirection (sym stays.route) is.way; access = is.access }

  request_all : (device : Mac) (asked : Option Request) → IsMac device → AreFew asked → AllByRecursion (IsAimedAt mac) (requests_of device asked)
  request_all device (Some request) six few = ((six, numbered request few), tt)
  request_all device None six few = tt

  access_all : (device : Mac) (octets : List ℕ) (waiting : Option RecordRequest) → IsMac device → IsWaiting waiting octets → AllByRecursion (IsAimedAt mac) (accesses_by device octets waiting)
  access_all device octets (Some request) six can = ((six, can), tt)
  access_all device octets None six can = tt

  plug_all : (device : Mac) (plug : Option PlugRequest) → IsMac device → IsPlugging plug → AllByRecursion (IsAimedAt mac) (plugs_by device plug)
  plug_all device (Some request) six can = ((six, can), tt)
  plug_all device None six can = tt

  beside_all : (live : Live) (is_plug : Bool) → IsAimed live → AllByRecursion (IsAimedAt mac) (if is_plug then plugs_of live else accesses_of live)
  beside_all live true is = plug_all live.device live.access.plug is.device is.access.1
  beside_all live false is = access_all live.device live.access.octets live.access.waiting is.device is.access.0

  pending_all : (live : Live) (asked : Option Request) → IsAimed live → AreFew asked → AllByRecursion (IsAimedAt mac) (pending_by live asked)
  pending_all live (Some request) is few = ((is.device, numbered request few), tt)
  pending_all live None is few = beside_all live (is_some live.access.plug) is

  acks_all : (live : Live) (priority : Priority) (ack : Option AlarmAck) → IsAimed live → AllByRecursion (IsAimedAt mac) (acks_in live priority ack)
  acks_all live priority (Some ack) is = (is.way, tt)
  acks_all live priority None is = tt

  due_sent : (live : Live) (is_high is_low is_request is_cyclic : Bool) → IsAimed live → AllByRecursion (IsAimedAt mac) (due_frames live is_high is_low is_request is_cyclic)
  due_sent live is_high is_low is_request is_cyclic is =
      all_append (IsAimedAt mac) (where_due is_high (acks_of live High)) _ (due_all (IsAimedAt mac) is_high _ (acks_all live High live.alarms.confirming is))
      (all_append (IsAimedAt mac) (where_due is_low (acks_of live Low)) _ (due_all (IsAimedAt mac) is_low _ (acks_all live Low live.low_alarms.confirming is))
      (all_append (IsAimedAt mac) (where_due is_request (pending_of live)) _ (due_all (IsAimedAt mac) is_request _ (pending_all live live.asked is is.asked))
      (due_all (IsAimedAt mac) is_cyclic _ (is.way, tt))))

  flow_aimed : (live : Live) → IsAimed live → IsAimed (flow_later live)
  flow_aimed live is = record { device = is.device; asked = is.asked; way = record { partner = is.way.partner; sent_tag = is.way.sent_tag; alarm_tag = is.way.alarm_tag }; access = is.access }

  -- ---- the turn of a place that begins

  turn_aimed : (setup : Setup) (before after : Live) → IsBegun setup before after → IsAimed before → IsAimed after
  turn_aimed setup before after begun is =
      let access : IsAccess after.access =
      subst (λ (a : Accessing). IsAccess a) (sym begun.access)
      (is.access.0, subst (λ (n : ℕ). n < 4294967296) (sym begun.numbered) (number_few setup.plan before.access.calls)) in
      subst (λ (l : Live). IsAimed l) (sym begun.beside) (record { device = is.device; asked = is.asked; way = is.way; access = access })

  begins_aimed : (setup : Setup) (before after : Live) → MayBegin setup before after → IsAimed before → IsAimed after
  begins_aimed setup before after (inl e) is = subst (λ (l : Live). IsAimed l) (sym e) is
  begins_aimed setup before after (inr begun) is = turn_aimed setup before after begun is

  follows_sent : (setup : Setup) (turn after : Turn) → MayFollow setup turn after → IsSent mac turn → IsSent mac after
  follows_sent setup turn after (inl e) is = subst (λ (t : Turn). IsSent mac t) (sym e) is
  follows_sent setup turn after (inr followed) is =
      let begun = followed.begun in
      record {
        live = turn_aimed setup turn.live after.live begun is.live;
        sent = subst (λ (sent : List Sent). AllByRecursion (IsAimedAt mac) sent) (sym followed.sent)
            (all_append (IsAimedAt mac) turn.sent (Parametrizes turn.live.device begun.request ∷ []) is.sent
            ((is.live.device, subst (λ (n : ℕ). n < 4294967296) (sym begun.numbered) (number_few setup.plan turn.live.access.calls)), tt));
      }

  after_sent : (setup : Setup) (live : Live) (turn : Turn) → IsSent mac turn → IsSent mac (after_turn setup (can_begin live) turn)
  after_sent setup live turn is = follows_sent setup turn (after_turn setup (can_begin live) turn) (follows setup (can_begin live) turn) is

  -- ---- each kind

  module _ (long : BlocksAreLong) (setup : Setup) (live : Live) (came : Came) (good : IsSetup setup) (is : IsAimed live) (from : CameSo (IsHeardFrom mac) came) where
    reported : (other : Came) → came ≡ other → CameSo (IsHeardFrom mac) other
    reported other e = subst (λ (c : Came). CameSo (IsHeardFrom mac) c) e from

    at_station : (source : Mac) → (source ≡ live.device) ⊎ ((answer : Answered) × (came ≡ Hears (Answers source answer))) → IsAimed (record live { device = source })
    at_station source (inl same) = record { device = subst IsMac (sym same) is.device; asked = is.asked; way = is.way; access = is.access }
    at_station source (inr heard) = record { device = reported (Hears (Answers source heard.0)) heard.1; asked = is.asked; way = is.way; access = is.access }

    agrees : (caller : Caller) (call : Call) (block : ControlBlock) → IsReadied setup came caller call block → IsAimedAt mac (Agrees caller (ready_answer call block))
    agrees caller call block ready =
        let heard : IsHeardFrom mac (Calls caller call) = reported (Hears (Calls caller call)) ready.comes in
        (heard.0, heard.1, answer_can long call block heard.2 heard.3 (named_so block.ar_uuid setup.ar (block.session_key == 1) ready.right good.ar))

    plug_agrees : (caller : Caller) (call : Call) (block : PlugControlBlock) → came ≡ Hears (Calls caller call) → is_plug_ready setup block ≡ true
        → IsAimedAt mac (Agrees caller (plug_answer call block))
    plug_agrees caller call block comes ready =
        let heard : IsHeardFrom mac (Calls caller call) = reported (Hears (Calls caller call)) comes in
        (heard.0, heard.1, plug_answer_can call block heard.2 heard.3 (named_so block.ar_uuid setup.ar (block.session_key == session_number && block.control_command == 2) ready good.ar))

    kind_sent : (kind : Kind) → IsKind setup live came kind → IsSent mac (turn_by setup live kind)
    kind_sent Rests holds = record { live = is; sent = tt }
    kind_sent (Connects source) holds = asking_sent setup Connecting asks.Connect _ (at_station source holds.known) tt
    kind_sent (Addresses source) holds = asking_sent setup Addressing asks.Address _ (at_station source holds.0.known) tt
    kind_sent (Ends why refusal refused units) holds = record {
      live = record { device = is.device; asked = tt; way = record { partner = is.way.partner; sent_tag = is.way.sent_tag; alarm_tag = is.way.alarm_tag }; access = (tt, tt) };
      sent = tt;
    }
    kind_sent (Releases why refusal refused units) holds =
        released_sent setup why (record live { refusal = refusal; refused_record = refused; units = units }) good (record { device = is.device; asked = is.asked; way = is.way; access = is.access })
    kind_sent (Relates places chosen) holds =
        let placed : Live = record live { places = places } in
        writing_sent setup (writing_from setup.plan 0) (standing setup placed chosen) (writing_few setup.plan 0 good.plan)
        (stands_aimed setup placed chosen (record { device = is.device; asked = is.asked; way = is.way; access = is.access }))
    kind_sent (Writes number tries) holds =
        writing_sent setup (behind_write setup.plan number tries) live
        (behind_few setup.plan number tries good.plan (few_so live.asked (write_after number tries) holds.0.stood is.asked)) is
    kind_sent (Skips number tries refused status) holds =
        writing_sent setup (behind_write setup.plan number tries) (noted status refused live)
        (behind_few setup.plan number tries good.plan (few_so live.asked (write_after number tries) holds.stood is.asked))
        (record { device = is.device; asked = is.asked; way = is.way; access = is.access })
    kind_sent (Tries next status) holds = record {
      live = record {
        device = is.device;
        asked = tried_few setup.plan status holds.request next holds.tries holds.again (few_so live.asked holds.request holds.stood is.asked);
        way = is.way;
        access = is.access;
      };
      sent = tt;
    }
    kind_sent (Waits tries) holds = record { live = unasked live Waiting setup.options.waiting_patience is; sent = tt }
    kind_sent Forgets holds = record { live = unasked live live.phase live.left is; sent = tt }
    kind_sent (Begins caller call block) holds = record { live = begun_aimed live is; sent = (agrees caller call block holds.1, tt) }
    kind_sent (Repeats caller call block) holds = record { live = is; sent = (agrees caller call block holds.1, tt) }
    kind_sent (Follows source frame_id body) holds =
        record { live = kept_aimed live (behind_frame live.cyclic source frame_id body) is (frame_stays live.cyclic source frame_id body); sent = tt }
    kind_sent (Takes number report) holds =
        let behind = behind_data live report.priority number in
        let as_what = taken_as (end_of live report.priority).seen number in
        after_sent setup live (taken behind report as_what) (taken_sent behind report as_what (with_end_aimed live report.priority _ is))
    kind_sent (IsAcked priority number) holds = record { live = with_end_aimed live priority _ is; sent = tt }
    kind_sent (Asks request octets) holds =
        let can : IsRecordCall request octets = (subst (λ (n : ℕ). n < 4294967296) (sym holds.2) (number_few setup.plan live.access.calls), holds.3) in
        record { live = record { device = is.device; asked = is.asked; way = is.way; access = (can, is.access.1) }; sent = ((is.device, can), tt) }
    kind_sent (IsReplied refusal access) holds =
        after_sent setup live (stays (record live { refusal = refusal; access = access }))
        (record { live = record { device = is.device; asked = is.asked; way = is.way; access = none_waits access holds.1 holds.6 }; sent = tt })
    kind_sent (IsPlugAnswered refusal refused waited places access) holds =
        let next : Live = record live { refusal = refusal; refused_record = refused; waited = waited; places = places; access = access } in
        let sized_access = stepped_access setup live access holds.1 holds.2 holds.3 is.access in
        after_sent setup live (asks_next next) (record {
          live = record { device = is.device; asked = is.asked; way = is.way; access = sized_access };
          sent = plug_all live.device access.plug is.device sized_access.1;
        })
    kind_sent (IsPlugReadied caller call block) holds =
        let number = block.alarm_sequence_number in
        after_sent setup live (record { live = plug_readied live number; sent = Agrees caller (plug_answer call block) ∷ [] }) (record {
          live = record { device = is.device; asked = is.asked; way = is.way; access = answered_access live.access (is_end_of number live.access.plug) is.access };
          sent = (plug_agrees caller call block holds.1 holds.4, tt);
        })
    kind_sent (Gives slot subslot value) holds =
        record { live = record { device = is.device; asked = is.asked; way = is.way; access = is.access }; sent = tt }
    kind_sent (GivesStatus slot subslot is_good) holds = record { live = record { device = is.device; asked = is.asked; way = is.way; access = is.access }; sent = tt }
    kind_sent Flows holds =
        let next = flow_begun setup live in
        let flows = begins_aimed setup (flow_later live) next (flows_so setup live) (flow_aimed live is) in
        record { live = flows; sent = due_sent next _ _ (is_again live) (brought live).is_cyclic flows }
    kind_sent (Breaks reason) holds =
        let next = flow_begun setup live in
        let flows = begins_aimed setup (flow_later live) next (flows_so setup live) (flow_aimed live is) in
        record { live = over_aimed _ next flows; sent = (flows.way, tt) }
    kind_sent Idles holds = record {
      live = record { device = is.device; asked = is.asked; way = is.way; access = is.access };
      sent = due_all (IsAimedAt mac) (is_again live) _ (request_all live.device live.asked is.device is.asked);
    }

  pub turn_sent : BlocksAreLong → (setup : Setup) (live : Live) (event : Event) → IsTurn setup live (came_by setup event) (turn_of setup live event)
      → IsSetup setup → IsAimed live → IsEventFrom mac setup event → IsSent mac (turn_of setup live event)
  turn_sent long setup live event turn good is from =
      subst (λ (t : Turn). IsSent mac t) (sym turn.is) (kind_sent long setup live (came_by setup event) good is (came_from mac setup event from) turn.kind turn.holds)

pub first_aimed : (setup : Setup) → IsSetup setup → IsAimed (first setup.plan)
first_aimed setup good = record { device = refl; asked = tt; way = record { partner = refl; sent_tag = omega arith; alarm_tag = omega arith }; access = (tt, tt) }
