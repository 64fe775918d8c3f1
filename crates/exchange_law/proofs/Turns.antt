-- Each turn of a controller, as far as the interval of its outputs is concerned: its relation begins, ends, or stays; a unit is counted; and
-- frames of outputs are sent with units of the relation alone.
use Rattle.std.proofs.Common.{◌≡◌, ◌⊎◌, inl, inr, ◌+◌, ◌%◌, ◌++◌, ℕ, Bool, true, false, cond, List, [], ◌∷◌, Option, Some, None, Result, Ok, Err, refl, sym, ap, subst, ◌∙◌, append_assoc}
use Rattle.std.specs.Prelude.{if◌then◌else◌, is_some}
use Rattle.std.specs.List.{AllByRecursion}
use Rattle.pn_values.specs.declared.mac.Mac.{Mac}
use Rattle.rpc_core.specs.Response.{Answered as Response}
use Rattle.record_blocks.specs.declared.alarm_ack.AlarmAck.{AlarmAck}
use Rattle.record_blocks.specs.declared.alarm_notification.AlarmNotification.{AlarmNotification}
use Rattle.pn_alarms.specs.declared.abort.Abort.{Abort}
use Rattle.pn_alarms.specs.declared.receiver.Taken.{Taken}
use Rattle.pn_alarms.specs.declared.receiver.Taken.TheVariants.{New, Again, Refused}
use Rattle.pn_alarms.specs.declared.repeats.Due.{Due}
use Rattle.pn_alarms.specs.Controller.{confirmed, with_ack, with_data}
use Rattle.pn_alarms.specs.Ends.{ControllerEnd}
use Rattle.pn_alarms.specs.Receiver.{taken_as}
use Rattle.pn_alarms.specs.Sending.{due, either_due}
use Rattle.pn_alarms.specs.Sending.{is_again as is_repeated}
use Rattle.diagnosis.specs.declared.reports.priority.Priority.{Priority}
use Rattle.diagnosis.specs.declared.reports.priority.Priority.TheVariants.{High, Low}
use Rattle.diagnosis.specs.declared.reports.report.Report.{Report}
use Rattle.cyclic_data.specs.Timing.{is_due, unit_later}
use Rattle.cyclic_data.specs.declared.exchange.route.Route.{Route}
use Rattle.cyclic_data.specs.declared.tail.CyclicTail.{CyclicTail}
use Rattle.cyclic_data.specs.declared.tail.ShortFrame.{ShortFrame}
use Rattle.cyclic_data.specs.Tail.{cyclic_of}
use Rattle.cyclic_data.specs.exchange.Cyclic.{Cyclic as CyclicEnd}
use Rattle.cyclic_data.specs.exchange.Received.{behind_frame, behind_read, is_new, is_of_partner, taken_from}
use Rattle.cyclic_data.specs.exchange.Units.{ending_of, tick_by}
use Rattle.connects.specs.answers.Connect.{Chosen}
use Rattle.plans.specs.declared.parts.Parts.{Parts}
use Rattle.controller_messages.specs.declared.plug_request.PlugRequest.{PlugRequest}
use Rattle.controller_messages.specs.declared.record_request.RecordRequest.{RecordRequest}
use Rattle.controller_messages.specs.declared.request.Request.{Request}
use Rattle.controller_messages.specs.declared.request.Request.TheVariants as asks
use Rattle.controller_messages.specs.declared.setup.Setup.{Setup}
use Rattle.controller_messages.specs.Heard.{Responds}
use Rattle.controller_messages.specs.PlugRequests.{plug_answer}
use Rattle.controller_messages.specs.Requests.{writing_from}
use Rattle.controller_messages.specs.Sent.{Sent, Agrees, Cycles}
use Rattle.controller_core.specs.declared.stored.state.Cause.TheVariants.{NoProgress}
use Rattle.controller_core.specs.declared.stored.state.State.{State}
use Rattle.controller_core.specs.declared.stored.state.State.TheVariants.{Looking, Addressing, Connecting, Writing, Ending, Waiting, Exchanging, Ended}
use Rattle.controller_core.specs.start_up.Requests.{behind_write, end_after, write_after}
use Rattle.controller_core.specs.stored.Alarms.{ack_of, kept_alarm}
use Rattle.controller_core.specs.stored.Opening.{sending_of}
use Rattle.controller_core.specs.stored.State.{Live, phase_for}
use Rattle.controller_core.specs.Machine.{Turn, accesses_by, accesses_of, acking, acks_in, acks_of, after_turn, asks_next, behind_data, brought, can_begin, confirming, diagnosing, end_of, flow_later, flowed, gone_on, is_again, is_spent, keeping, later, outputs_of, pending_by, pending_of, plug_readied, plugs_by, plugs_of, quit, requests_of, stays, taken, ticked, where_due, with_end}
use Rattle.end_laws.specs.controller.Small.{IsInStep, IsSteady}
use Rattle.end_laws.specs.turns.Beside.{IsBeside, MayFollow, flow_begun}
use Rattle.end_laws.specs.turns.Turns.{Came, Hears, Passes, IsKind, IsTurn, Kind, Rests, Connects, Addresses, Ends, Releases, Relates, Writes, Skips, Tries, Waits, Forgets, Begins, Repeats, Follows, Takes, IsAcked, Asks, IsReplied, IsPlugAnswered, IsPlugReadied, Gives, GivesStatus, Flows, Breaks, Idles, chosen_in, turn_by, units_behind}
use Rattle.end_laws.proofs.TurnsBeside.{begins, begun_beside, flows, follows, gone_is, unit_begun}
use Rattle.exchange_law.specs.Interval.{is_related}
use Rattle.exchange_law.proofs.Frames.{IsOther}

-- ---- what a turn does

-- The relation begins, with the first unit to come and with the FrameID that the device chose.
pub record Starts (setup : Setup) (was : Bool) (came : Came) (stands : Bool) (cyclic : CyclicEnd) : Type 0 where
  pub before : was ≡ false
  pub after : stands ≡ true
  pub sending : cyclic.sending ≡ sending_of setup.plan.times
  pub response : Response
  pub comes : came ≡ Hears (Responds response)
  pub chosen : Chosen
  pub is_chosen : chosen_in response.blocks ≡ Some chosen
  pub sent_id : cyclic.route.sent_id ≡ chosen.frame_id

-- It stays as it is.
pub record Keeps (live : Live) (stands : Bool) (cyclic : CyclicEnd) : Type 0 where
  pub same : stands ≡ live.stands
  pub sending : cyclic.sending ≡ live.cyclic.sending
  pub sent_id : cyclic.route.sent_id ≡ live.cyclic.route.sent_id

-- There is no relation, it begins, or it stays.
abbrev pub Goes : Setup → Live → Came → Bool → CyclicEnd → Type 0
Goes setup live came stands cyclic = (stands ≡ false) ⊎ (Starts setup live.stands came stands cyclic ⊎ Keeps live stands cyclic)

-- A turn with another event than a unit.
pub record IsQuiet (setup : Setup) (live : Live) (came : Came) (turn : Turn) : Type 0 where
  pub up : turn.live.stands ≡ is_related turn.live.phase
  pub units : turn.live.units ≡ live.units
  pub sent : AllByRecursion IsOther turn.sent
  pub way : Goes setup live came turn.live.stands turn.live.cyclic

-- A unit after which there is no relation.
pub record IsOver (live : Live) (turn : Turn) : Type 0 where
  pub up : turn.live.stands ≡ is_related turn.live.phase
  pub units : turn.live.units ≡ (live.units + 1) % 65536
  pub sent : AllByRecursion IsOther turn.sent
  pub down : turn.live.stands ≡ false

-- A unit of a relation.
pub record IsUnit (live : Live) (turn : Turn) : Type 0 where
  pub was : live.stands ≡ true
  pub is : turn.live.stands ≡ true
  pub up : turn.live.stands ≡ is_related turn.live.phase
  pub units : turn.live.units ≡ (live.units + 1) % 65536
  pub sending : turn.live.cyclic.sending ≡ unit_later live.cyclic.sending
  pub sent_id : turn.live.cyclic.route.sent_id ≡ live.cyclic.route.sent_id
  pub first : List Sent
  pub others : AllByRecursion IsOther first
  pub sends : turn.sent ≡ first ++ where_due (is_due live.cyclic.sending) (Cycles turn.live.cyclic.route turn.live.cyclic.shown turn.live.units ∷ [])

-- ---- lists of messages

both : (one more : List Sent) → AllByRecursion IsOther one → AllByRecursion IsOther more → AllByRecursion IsOther (one ++ more)
both [] more first others = others
both (message ∷ one) more first others = (first.0, both one more first.1 others)

if_due : (b : Bool) (sent : List Sent) → AllByRecursion IsOther sent → AllByRecursion IsOther (where_due b sent)
if_due true sent all = all
if_due false sent all = tt

either_list : (b : Bool) (one other : List Sent) → AllByRecursion IsOther one → AllByRecursion IsOther other → AllByRecursion IsOther (if b then one else other)
either_list true one other first second = first
either_list false one other first second = second

requests_other : (device : Mac) (asked : Option Request) → AllByRecursion IsOther (requests_of device asked)
requests_other device (Some request) = (tt, tt)
requests_other device None = tt

plugs_other : (device : Mac) (plug : Option PlugRequest) → AllByRecursion IsOther (plugs_by device plug)
plugs_other device (Some request) = (tt, tt)
plugs_other device None = tt

accesses_other : (device : Mac) (octets : List ℕ) (waiting : Option RecordRequest) → AllByRecursion IsOther (accesses_by device octets waiting)
accesses_other device octets (Some request) = (tt, tt)
accesses_other device octets None = tt

acks_other : (live : Live) (priority : Priority) (ack : Option AlarmAck) → AllByRecursion IsOther (acks_in live priority ack)
acks_other live priority (Some ack) = (tt, tt)
acks_other live priority None = tt

pending_other : (live : Live) (asked : Option Request) → AllByRecursion IsOther (pending_by live asked)
pending_other live (Some request) = (tt, tt)
pending_other live None =
    either_list (is_some live.access.plug) (plugs_of live) (accesses_of live) (plugs_other live.device live.access.plug)
    (accesses_other live.device live.access.octets live.access.waiting)

-- ---- which requests are active in which state

module _ (plan : Parts) where
  not_connect : (number : ℕ) (tries : Option ℕ) → Some (write_after number tries) ≡ Some asks.Connect → ⊥
  not_connect number None e = cc
  not_connect number (Some tries) e = cc

  end_not_connect : (tries : Option ℕ) → Some (end_after tries) ≡ Some asks.Connect → ⊥
  end_not_connect None e = cc
  end_not_connect (Some tries) e = cc

  none_some : {A : Type 0} (x : A) → None ≡ Some x → ⊥
  none_some x e = cc

  connect_down : (phase : State) (asked : Option Request) → IsInStep plan phase asked → asked ≡ Some asks.Connect → is_related phase ≡ false
  connect_down Looking asked step is = refl
  connect_down Addressing asked step is = refl
  connect_down Connecting asked step is = refl
  connect_down (Ended cause) asked step is = refl
  connect_down Writing asked step is = absurd (not_connect step.0 step.1 (sym step.3 ∙ is))
  connect_down Ending asked step is = absurd (end_not_connect step.0 (sym step.1 ∙ is))
  connect_down Waiting asked step is = absurd (none_some asks.Connect (sym step ∙ is))
  connect_down Exchanging asked step is = absurd (none_some asks.Connect (sym step ∙ is))

  -- A request other than a Write or PrmEnd.
  write_apart : (one : Request) (number : ℕ) (tries : Option ℕ) → ((n : ℕ) → one ≡ asks.Write n → ⊥) → ((n m : ℕ) → one ≡ asks.WriteAfter n m → ⊥) → Some one ≡ Some (write_after number tries) → ⊥
  write_apart one number None first after e = first number (some_is one (asks.Write number) e)
    where
      some_is : (x y : Request) → Some x ≡ Some y → x ≡ y
      some_is x y f = cc
  write_apart one number (Some tries) first after e = after number tries (some_is one (asks.WriteAfter number tries) e)
    where
      some_is : (x y : Request) → Some x ≡ Some y → x ≡ y
      some_is x y f = cc

  write_up : (phase : State) (asked : Option Request) (number : ℕ) (tries : Option ℕ) → IsInStep plan phase asked → asked ≡ Some (write_after number tries) → is_related phase ≡ true
  write_up Writing asked number tries step is = refl
  write_up Ending asked number tries step is = refl
  write_up Waiting asked number tries step is = refl
  write_up Exchanging asked number tries step is = refl
  write_up Looking asked number tries step is = absurd (write_apart asks.Identify number tries (λ n e. cc) (λ n m e. cc) (sym step ∙ is))
  write_up Addressing asked number tries step is = absurd (write_apart asks.Address number tries (λ n e. cc) (λ n m e. cc) (sym step ∙ is))
  write_up Connecting asked number tries step is = absurd (write_apart asks.Connect number tries (λ n e. cc) (λ n m e. cc) (sym step ∙ is))
  write_up (Ended cause) asked number tries (inl none) is = absurd (none_some (write_after number tries) (sym none ∙ is))
  write_up (Ended cause) asked number tries (inr there) is = absurd (write_apart (asks.Release there.0) number tries (λ n e. cc) (λ n m e. cc) (sym there.1 ∙ is))

  end_apart : (one : Request) (tries : Option ℕ) → (one ≡ asks.PrmEnd → ⊥) → ((n : ℕ) → one ≡ asks.PrmEndAfter n → ⊥) → Some one ≡ Some (end_after tries) → ⊥
  end_apart one None first after e = first (some_is one asks.PrmEnd e)
    where
      some_is : (x y : Request) → Some x ≡ Some y → x ≡ y
      some_is x y f = cc
  end_apart one (Some tries) first after e = after tries (some_is one (asks.PrmEndAfter tries) e)
    where
      some_is : (x y : Request) → Some x ≡ Some y → x ≡ y
      some_is x y f = cc

  end_up : (phase : State) (asked : Option Request) (tries : Option ℕ) → IsInStep plan phase asked → asked ≡ Some (end_after tries) → is_related phase ≡ true
  end_up Writing asked tries step is = refl
  end_up Ending asked tries step is = refl
  end_up Waiting asked tries step is = refl
  end_up Exchanging asked tries step is = refl
  end_up Looking asked tries step is = absurd (end_apart asks.Identify tries (λ e. cc) (λ n e. cc) (sym step ∙ is))
  end_up Addressing asked tries step is = absurd (end_apart asks.Address tries (λ e. cc) (λ n e. cc) (sym step ∙ is))
  end_up Connecting asked tries step is = absurd (end_apart asks.Connect tries (λ e. cc) (λ n e. cc) (sym step ∙ is))
  end_up (Ended cause) asked tries (inl none) is = absurd (none_some (end_after tries) (sym none ∙ is))
  end_up (Ended cause) asked tries (inr there) is = absurd (end_apart (asks.Release there.0) tries (λ e. cc) (λ n e. cc) (sym there.1 ∙ is))

phase_up : (request : Request) → is_related (phase_for request) ≡ true
phase_up asks.Identify = refl
phase_up asks.Address = refl
phase_up asks.Connect = refl
phase_up (asks.Write number) = refl
phase_up asks.PrmEnd = refl
phase_up (asks.Release sequence) = refl
phase_up (asks.WriteAfter number tries) = refl
phase_up (asks.PrmEndAfter tries) = refl

-- ---- turns with another event than a unit

module _ (setup : Setup) (live : Live) (came : Came) where
  abbrev Quiet : Turn → Type 0
  Quiet turn = IsQuiet setup live came turn

  keeps : (next : Live) (sent : List Sent) → next.stands ≡ is_related next.phase → next.units ≡ live.units → next.stands ≡ live.stands → next.cyclic.sending ≡ live.cyclic.sending
      → next.cyclic.route.sent_id ≡ live.cyclic.route.sent_id → AllByRecursion IsOther sent → Quiet (record { live = next; sent = sent })
  keeps next sent up units same sending id others =
      record { up = up; units = units; sent = others; way = inr (inr (record { same = same; sending = sending; sent_id = id })) }

  -- The turn of a place that begins after it.
  after_quiet : (turn after : Turn) → MayFollow setup turn after → Quiet turn → Quiet after
  after_quiet turn after (inl e) is = subst (λ (t : Turn). Quiet t) (sym e) is
  after_quiet turn after (inr followed) is =
      let beside = followed.begun.beside in
      record {
        up = ap (λ (l : Live). l.stands) beside ∙ (is.up ∙ ap (λ (l : Live). is_related l.phase) (sym beside));
        units = ap (λ (l : Live). l.units) beside ∙ is.units;
        sent = subst (λ (sent : List Sent). AllByRecursion IsOther sent) (sym followed.sent) (both turn.sent _ is.sent (tt, tt));
        way = subst (λ (l : Live). Goes setup live came l.stands l.cyclic) (sym beside) is.way;
      }

  then_quiet : (turn : Turn) → Quiet turn → Quiet (after_turn setup (can_begin live) turn)
  then_quiet turn is = after_quiet turn (after_turn setup (can_begin live) turn) (follows setup (can_begin live) turn) is

  -- alarms change nothing of it
  record IsAlike (before next : Live) : Type 0 where
    phase : next.phase ≡ before.phase
    units : next.units ≡ before.units
    stands : next.stands ≡ before.stands
    cyclic : next.cyclic ≡ before.cyclic

  alike_on : (a b c : Live) → IsAlike a b → IsAlike b c → IsAlike a c
  alike_on a b c one other = record { phase = other.phase ∙ one.phase; units = other.units ∙ one.units; stands = other.stands ∙ one.stands; cyclic = other.cyclic ∙ one.cyclic }

  end_alike : (before : Live) (priority : Priority) (end : ControllerEnd) → IsAlike before (with_end before priority end)
  end_alike before High end = record { phase = refl; units = refl; stands = refl; cyclic = refl }
  end_alike before Low end = record { phase = refl; units = refl; stands = refl; cyclic = refl }

  kept_alike : (before : Live) (priority : Priority) (alarm : AlarmNotification) (structure : Option ℕ) → IsAlike before (keeping before priority alarm structure)
  kept_alike before High alarm structure = record { phase = refl; units = refl; stands = refl; cyclic = refl }
  kept_alike before Low alarm structure = record { phase = refl; units = refl; stands = refl; cyclic = refl }

  diagnosing_alike : (before after : Live) (report : Report) → IsAlike before after → IsAlike before (diagnosing report after)
  diagnosing_alike before after report is = record { phase = is.phase; units = is.units; stands = is.stands; cyclic = is.cyclic }

  confirming_alike : (before : Live) (report : Report) → IsAlike before (confirming before report)
  confirming_alike before report =
      let acked = acking before report.priority (ack_of report.notification) in
      let kept = keeping acked report.priority (kept_alarm report.notification) report.user_structure in
      diagnosing_alike before kept report (alike_on before acked kept (end_alike before report.priority (confirmed (end_of before report.priority) (ack_of report.notification)))
      (kept_alike acked report.priority (kept_alarm report.notification) report.user_structure))

  module _ (up : live.stands ≡ is_related live.phase) where
    alike_quiet : (next : Live) (sent : List Sent) → IsAlike live next → AllByRecursion IsOther sent → Quiet (record { live = next; sent = sent })
    alike_quiet next sent is others =
        keeps next sent (is.stands ∙ (up ∙ ap is_related (sym is.phase))) is.units is.stands (ap (λ (c : CyclicEnd). c.sending) is.cyclic)
        (ap (λ (c : CyclicEnd). c.route.sent_id) is.cyclic) others

    taken_quiet : (before : Live) (report : Report) (as_what : Taken) → IsAlike live before → Quiet (taken before report as_what)
    taken_quiet before report New is = alike_quiet (confirming before report) _ (alike_on live before (confirming before report) is (confirming_alike before report)) (tt, (tt, tt))
    taken_quiet before report Again is = alike_quiet before _ is (tt, tt)
    taken_quiet before report Refused is = alike_quiet before _ is (tt, tt)

    -- a cyclic frame that comes
    read_same : (cyclic : CyclicEnd) (read : Result (List ℕ × CyclicTail) ShortFrame)
        → ((behind_read cyclic read).sending ≡ cyclic.sending) × ((behind_read cyclic read).route ≡ cyclic.route)
    read_same cyclic (Ok x) = by_news (is_new cyclic x.1)
      where
        by_news : (b : Bool) → ((cond b (taken_from cyclic x.0 x.1) cyclic).sending ≡ cyclic.sending) × ((cond b (taken_from cyclic x.0 x.1) cyclic).route ≡ cyclic.route)
        by_news true = (refl, refl)
        by_news false = (refl, refl)
    read_same cyclic (Err fault) = (refl, refl)

    frame_same : (cyclic : CyclicEnd) (source : Mac) (frame_id : ℕ) (body : List ℕ)
        → ((behind_frame cyclic source frame_id body).sending ≡ cyclic.sending) × ((behind_frame cyclic source frame_id body).route ≡ cyclic.route)
    frame_same cyclic source frame_id body = by_partner (is_of_partner cyclic.route source frame_id)
      where
        by_partner : (b : Bool) → ((cond b (behind_read cyclic (cyclic_of cyclic.taken.data_length body)) cyclic).sending ≡ cyclic.sending)
            × ((cond b (behind_read cyclic (cyclic_of cyclic.taken.data_length body)) cyclic).route ≡ cyclic.route)
        by_partner true = read_same cyclic (cyclic_of cyclic.taken.data_length body)
        by_partner false = (refl, refl)

    -- ---- each kind

    module _ (steady : IsSteady setup.plan live) (no_unit : came ≡ Passes → ⊥) where
      units_kept : (units : ℕ) → units ≡ units_behind live came → units ≡ live.units
      units_kept units is = is ∙ by_came came no_unit
        where
          by_came : (other : Came) → (other ≡ Passes → ⊥) → units_behind live other ≡ live.units
          by_came Passes none = absurd (none refl)
          by_came other none = refl

      seeking_down : (live.phase ≡ Looking) ⊎ (live.phase ≡ Addressing) → live.stands ≡ false
      seeking_down (inl is) = up ∙ ap is_related is
      seeking_down (inr is) = up ∙ ap is_related is

      write_stands : (number : ℕ) (tries : Option ℕ) → live.asked ≡ Some (write_after number tries) → live.stands ≡ true
      write_stands number tries is = up ∙ write_up setup.plan live.phase live.asked number tries steady.asked is

      ready_stands : (live.phase ≡ Ending) ⊎ (live.phase ≡ Waiting) → live.stands ≡ true
      ready_stands (inl is) = up ∙ ap is_related is
      ready_stands (inr is) = up ∙ ap is_related is

      kind_quiet : (kind : Kind) → IsKind setup live came kind → Quiet (turn_by setup live kind)
      kind_quiet Rests holds = keeps live [] up refl refl refl refl tt
      kind_quiet (Connects source) holds = record { up = seeking_down holds.seeking; units = refl; sent = (tt, tt); way = inl (seeking_down holds.seeking) }
      kind_quiet (Addresses source) holds = record { up = seeking_down holds.0.seeking; units = refl; sent = (tt, tt); way = inl (seeking_down holds.0.seeking) }
      kind_quiet (Ends cause refusal refused units) holds = record { up = refl; units = units_kept units holds.1; sent = tt; way = inl refl }
      kind_quiet (Releases cause refusal refused units) holds = record { up = refl; units = units_kept units holds.2; sent = (tt, tt); way = inl refl }
      kind_quiet (Relates places chosen) holds =
          let granted = holds.0 in
          record {
            up = sym (phase_up (writing_from setup.plan 0));
            units = refl;
            sent = (tt, tt);
            way = inr (inl (record {
              before = up ∙ connect_down setup.plan live.phase live.asked steady.asked granted.stood;
              after = refl;
              sending = refl;
              response = granted.response;
              comes = granted.comes;
              chosen = chosen;
              is_chosen = holds.1;
              sent_id = refl;
            }));
          }
      kind_quiet (Writes number tries) holds =
          let next = behind_write setup.plan number tries in
          record {
            up = write_stands number tries holds.0.stood ∙ sym (phase_up next);
            units = refl;
            sent = (tt, tt);
            way = inr (inr (record { same = refl; sending = refl; sent_id = refl }));
          }
      kind_quiet (Skips number tries refused status) holds =
          let next = behind_write setup.plan number tries in
          record {
            up = write_stands number tries holds.stood ∙ sym (phase_up next);
            units = refl;
            sent = (tt, tt);
            way = inr (inr (record { same = refl; sending = refl; sent_id = refl }));
          }
      kind_quiet (Tries next status) holds = record { up = up; units = refl; sent = tt; way = inr (inr (record { same = refl; sending = refl; sent_id = refl })) }
      kind_quiet (Waits tries) holds = record {
        up = up ∙ end_up setup.plan live.phase live.asked tries steady.asked holds.stood;
        units = refl;
        sent = tt;
        way = inr (inr (record { same = refl; sending = refl; sent_id = refl }));
      }
      kind_quiet Forgets holds = record { up = up; units = refl; sent = tt; way = inr (inr (record { same = refl; sending = refl; sent_id = refl })) }
      kind_quiet (Begins caller call block) holds =
          record { up = ready_stands holds.0; units = refl; sent = (tt, tt); way = inr (inr (record { same = refl; sending = refl; sent_id = refl })) }
      kind_quiet (Repeats caller call block) holds = record { up = up; units = refl; sent = (tt, tt); way = inr (inr (record { same = refl; sending = refl; sent_id = refl })) }
      kind_quiet (Follows source frame_id body) holds =
          let same = frame_same live.cyclic source frame_id body in
          record { up = up; units = refl; sent = tt; way = inr (inr (record { same = refl; sending = same.0; sent_id = ap (λ (r : Route). r.sent_id) same.1 })) }
      kind_quiet (Takes number report) holds =
          let behind = behind_data live report.priority number in
          let as_what = taken_as (end_of live report.priority).seen number in
          then_quiet (taken behind report as_what) (taken_quiet behind report as_what (end_alike live report.priority (with_data (end_of live report.priority) number)))
      kind_quiet (IsAcked priority number) holds = alike_quiet _ [] (end_alike live priority (with_ack (end_of live priority) number)) tt
      kind_quiet (Gives slot subslot value) holds = record { up = up; units = refl; sent = tt; way = inr (inr (record { same = refl; sending = refl; sent_id = refl })) }
      kind_quiet (GivesStatus slot subslot is_good) holds = record { up = up; units = refl; sent = tt; way = inr (inr (record { same = refl; sending = refl; sent_id = refl })) }
      kind_quiet (Asks request octets) holds = record { up = up; units = refl; sent = (tt, tt); way = inr (inr (record { same = refl; sending = refl; sent_id = refl })) }
      kind_quiet (IsReplied refusal access) holds =
          let next : Live = record live { refusal = refusal; access = access } in
          then_quiet (stays next) (keeps next [] up refl refl refl refl tt)
      kind_quiet (IsPlugAnswered refusal refused waited places access) holds =
          let next : Live = record live { refusal = refusal; refused_record = refused; waited = waited; places = places; access = access } in
          then_quiet (asks_next next) (keeps next (plugs_of next) up refl refl refl refl (plugs_other live.device access.plug))
      kind_quiet (IsPlugReadied caller call block) holds =
          let next = plug_readied live block.alarm_sequence_number in
          let sent : List Sent = Agrees caller (plug_answer call block) ∷ [] in
          then_quiet (record { live = next; sent = sent }) (keeps next sent up refl refl refl refl (tt, tt))
      kind_quiet Flows holds = absurd (no_unit holds.0)
      kind_quiet (Breaks reason) holds = absurd (no_unit holds.0)
      kind_quiet Idles holds = absurd (no_unit holds.0)

      pub turn_quiet : (turn : Turn) → IsTurn setup live came turn → Quiet turn
      turn_quiet turn of = subst (λ (t : Turn). Quiet t) (sym of.is) (kind_quiet of.kind of.holds)

-- ---- units

module _ (setup : Setup) (live : Live) (up : live.stands ≡ is_related live.phase) where
  abbrev Passed : Turn → Type 0
  Passed turn = IsOver live turn ⊎ IsUnit live turn

  quit_over : (phase : State) → live.phase ≡ phase → IsOver live (quit setup NoProgress (later live) phase)
  quit_over Looking is = record { up = refl; units = refl; sent = tt; down = refl }
  quit_over Addressing is = record { up = refl; units = refl; sent = tt; down = refl }
  quit_over (Ended before) is = record { up = up; units = refl; sent = tt; down = up ∙ ap is_related is }
  quit_over Connecting is = record { up = refl; units = refl; sent = (tt, tt); down = refl }
  quit_over Writing is = record { up = refl; units = refl; sent = (tt, tt); down = refl }
  quit_over Ending is = record { up = refl; units = refl; sent = (tt, tt); down = refl }
  quit_over Waiting is = record { up = refl; units = refl; sent = (tt, tt); down = refl }
  quit_over Exchanging is = record { up = refl; units = refl; sent = (tt, tt); down = refl }

  -- The relation a unit later.
  abbrev next : Live
  next = flow_begun setup live

  beside : IsBeside (flow_later live) next
  beside = begun_beside setup (flow_later live) next (flows setup live)

  next_units : next.units ≡ (live.units + 1) % 65536
  next_units = ap (λ (l : Live). l.units) beside

  -- What a unit brings that does not end the relation.
  brought_cyclic : (alarm : Due) (ending : Option Abort) → (tick_by live.cyclic alarm ending).ending ≡ None → (tick_by live.cyclic alarm ending).is_cyclic ≡ is_due live.cyclic.sending
  brought_cyclic alarm None e = refl
  brought_cyclic alarm (Some reason) e = absurd (never reason e)
    where
      never : (reason : Abort) → Some reason ≡ None → ⊥
      never reason f = cc

  flowed_so : (ending : Option Abort) → (brought live).ending ≡ ending → live.stands ≡ true
      → Passed (flowed next (due live.alarms.sending) (due live.low_alarms.sending) (is_again live) (brought live) ending)
  flowed_so (Some reason) is stood = inl (record { up = refl; units = next_units; sent = (tt, tt); down = refl })
  flowed_so None is stood = inr (record {
    was = stood;
    is = ap (λ (l : Live). l.stands) beside ∙ stood;
    up = ap (λ (l : Live). l.stands) beside ∙ (up ∙ ap (λ (l : Live). is_related l.phase) (sym beside));
    units = next_units;
    sending = ap (λ (l : Live). l.cyclic.sending) beside;
    sent_id = ap (λ (l : Live). l.cyclic.route.sent_id) beside;
    first = high ++ (low ++ request);
    others = both high _ (if_due is_high _ (acks_other next High (end_of next High).confirming))
        (both low _ (if_due is_low _ (acks_other next Low (end_of next Low).confirming)) (if_due (is_again live) _ (pending_other next next.asked)));
    sends = ap (λ (b : Bool). high ++ (low ++ (request ++ where_due b (outputs_of next))))
        (brought_cyclic (either_due (due live.alarms.sending) (due live.low_alarms.sending)) (ending_of live.cyclic (either_due (due live.alarms.sending) (due live.low_alarms.sending))) is)
        ∙ (ap (λ (l : List Sent). high ++ l) (sym (append_assoc low request outputs)) ∙ sym (append_assoc high (low ++ request) outputs));
  })
    where
      is_high : Bool
      is_high = is_repeated (due live.alarms.sending)

      is_low : Bool
      is_low = is_repeated (due live.low_alarms.sending)

      high : List Sent
      high = where_due is_high (acks_of next High)

      low : List Sent
      low = where_due is_low (acks_of next Low)

      request : List Sent
      request = where_due (is_again live) (pending_of next)

      outputs : List Sent
      outputs = where_due (is_due live.cyclic.sending) (outputs_of next)

  idle_so : live.stands ≡ false → IsOver live (record { live = unit_begun setup live; sent = where_due (is_again live) (requests_of live.device live.asked) })
  idle_so down =
      let aside = begun_beside setup (later live) (unit_begun setup live) (begins setup (is_again live) (later live)) in
      record {
        up = ap (λ (l : Live). l.stands) aside ∙ (up ∙ ap (λ (l : Live). is_related l.phase) (sym aside));
        units = ap (λ (l : Live). l.units) aside;
        sent = if_due (is_again live) _ (requests_other live.device live.asked);
        down = ap (λ (l : Live). l.stands) aside ∙ down;
      }

  gone_so : Passed (gone_on (unit_begun setup live) (is_again live))
  gone_so = subst (λ (t : Turn). Passed t) (sym (gone_is setup live)) (by_relation live.stands refl)
    where
      by_relation : (b : Bool) → live.stands ≡ b
          → Passed (if b then flowed next (due live.alarms.sending) (due live.low_alarms.sending) (is_again live) (brought live) (brought live).ending
          else record { live = unit_begun setup live; sent = where_due (is_again live) (requests_of live.device live.asked) })
      by_relation true is = flowed_so (brought live).ending refl is
      by_relation false is = inl (idle_so is)

  pub unit_passes : Passed (ticked setup live)
  unit_passes = by_patience (is_spent live)
    where
      by_patience : (b : Bool) → Passed (if b then quit setup NoProgress (later live) live.phase else gone_on (unit_begun setup live) (is_again live))
      by_patience true = inl (quit_over live.phase refl)
      by_patience false = gone_so
