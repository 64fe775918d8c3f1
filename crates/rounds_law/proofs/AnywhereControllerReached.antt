-- What holds of a controller holds in any state that events lead to.
use Rattle.std.proofs.Common.{◌≡◌, ◌⊎◌, inl, inr, ◌≤◌, ◌<◌, ◌+◌, ℕ, Bool, true, false, List, [], ◌∷◌, Option, Some, None, refl, sym, ap, subst, ◌∙◌, arith}
use Rattle.std.proofs.Math.Nat.{max-le}
use Rattle.pn_values.specs.declared.mac.Mac.{Mac}
use Rattle.rpc_core.specs.declared.response.Status.{Status}
use Rattle.frame_codec.specs.Sendable.{IsMac}
use Rattle.dcp_core.specs.Response.{Answered}
use Rattle.pn_alarms.specs.Receiver.{taken_as}
use Rattle.cyclic_data.specs.declared.exchange.route.Route.{Route}
use Rattle.cyclic_data.specs.exchange.Cyclic.{Cyclic}
use Rattle.cyclic_data.specs.exchange.Opening.{begun_of}
use Rattle.cyclic_data.specs.exchange.Received.{behind_frame}
use Rattle.connects.specs.answers.Connect.{Chosen}
use Rattle.controller_messages.specs.declared.request.Request.{Request}
use Rattle.controller_messages.specs.declared.request.Request.TheVariants as asks
use Rattle.controller_messages.specs.declared.setup.Setup.{Setup}
use Rattle.plan_places.specs.Places.{Told}
use Rattle.controller_messages.specs.Access.{Accessing, made}
use Rattle.controller_messages.specs.PlugRequests.{plug_answer}
use Rattle.controller_messages.specs.Sent.{Agrees}
use Rattle.controller_messages.specs.Heard.{Answers, Heard, Nothing}
use Rattle.controller_messages.specs.Requests.{writing_from}
use Rattle.controller_core.specs.declared.stored.event.Event.{Event}
use Rattle.controller_core.specs.declared.stored.event.Event.TheVariants.{Frame}
use Rattle.controller_core.specs.declared.stored.state.RefusedRecord.{RefusedRecord}
use Rattle.controller_core.specs.declared.stored.state.State.{State}
use Rattle.controller_core.specs.declared.stored.state.State.TheVariants.{Looking, Addressing, Connecting, Ending, Waiting, Exchanging}
use Rattle.controller_core.specs.stored.Cause.{cause_of}
use Rattle.controller_core.specs.stored.State.{Controlling, Live, phase_for}
use Rattle.controller_core.specs.Machine.{Turn, after_turn, asks_next, behind_data, can_begin, end_of, exchange_later, first, fresh_with, is_again, later, plug_readied}
use Rattle.controller_core.specs.Machine.{standing, stays, step_of, taken, writing}
use Rattle.controller_core.specs.start_up.Requests.{behind_write, end_after, write_after}
use Rattle.end_laws.specs.hearing.Stations.{IsSetup}
use Rattle.end_laws.specs.sending.Sized.{AreFew, IsFew}
use Rattle.end_laws.specs.controller.Small.{IsSteady}
use Rattle.end_laws.specs.turns.Runs.{IsReached, behind_all}
use Rattle.end_laws.specs.turns.Turns.{Came, Hears, IsKind, Kind, Rests, Connects, Addresses, Ends, Releases, Relates, Writes, Skips, Waits, Forgets, Tries}
use Rattle.end_laws.specs.turns.Turns.{Begins, Repeats, Follows, Takes, IsAcked, Gives, GivesStatus, Asks, IsReplied, IsPlugAnswered, IsPlugReadied}
use Rattle.end_laws.specs.turns.Turns.{Flows, Breaks, Idles, came_by, turn_by}
use Rattle.end_laws.specs.turns.Beside.{flow_begun}
use Rattle.rounds_law.proofs.AnywhereControllerKept.{IsKept, IsOfPlan, KeptWith, PhaseOf, Runs, acked_kept, asked_in, data_kept, exchange_kept, later_kept, written_in, ended_in}
use Rattle.rounds_law.proofs.AnywhereControllerKept.{over_kept, released_kept, runs_for, stands_for, stands_in, taken_kept}
use Rattle.rounds_law.proofs.AnywhereControllerHeard.{answered_by}
use Rattle.rounds_law.proofs.AnywhereControllerLaws.{ControllerLaws, reached_on, reached_steady}
use Rattle.rounds_law.proofs.AnywhereControllerSizes.{frame_long, writing_few, behind_few, few_so, tried_few}
use Rattle.rounds_law.proofs.AnywhereTurning.{Turns, event_good, reached_turns, setup_all, setup_on}
use Rattle.rounds_law.proofs.ControllerPassingParts.{frame_on}
use Rattle.rounds_law.proofs.PlaceTurns.{HoldsBeside, due_beside, followed_beside}

-- ---- each kind of turn

-- It holds whatever the turn of a state is.
pub kept_beside : (setup : Setup) (live : Live) → IsKept setup live → HoldsBeside (IsKept setup) live
kept_beside setup live is waited places access less same = record {
  device = is.device;
  asked = is.asked;
  waited = let few : live.waited < 32000 = is.waited in omega (arith, less, few);
  stands = is.stands;
  runs = is.runs;
  cyclic = is.cyclic;
  high = is.high;
  low = is.low;
}

-- So it does after a turn that began after an event, or with a unit.
pub followed_kept : (setup : Setup) (could : Bool) (turn : Turn) → IsKept setup turn.live → IsKept setup (after_turn setup could turn).live
followed_kept setup could turn at = followed_beside (IsKept setup) setup could turn (kept_beside setup turn.live at)

pub flow_begun_kept : (setup : Setup) (live : Live) → IsKept setup live → IsKept setup (flow_begun setup live)
flow_begun_kept setup live is =
    due_beside (λ (l : Live). IsKept setup (exchange_later l)) setup (is_again live) (later live)
    (λ waited places access less same.
    exchange_kept setup (record (later live) { waited = waited; places = places; access = access })
    (kept_beside setup (later live) (later_kept setup live is) waited places access less same))

module _ (setup : Setup) (good : IsSetup setup) (live : Live) (came : Came) (is : IsKept setup live) (steady : IsSteady setup.plan live)
    (answers : (source : Mac) (answer : Answered) → came ≡ Hears (Answers source answer) → IsMac source) where
  pub station_six : (source : Mac) → (source ≡ live.device) ⊎ ((answer : Answered) × (came ≡ Hears (Answers source answer))) → IsMac source
  station_six source (inl same) = subst IsMac (sym same) is.device
  station_six source (inr heard) = answers source heard.0 heard.1

  seeks : (live.phase ≡ Looking) ⊎ (live.phase ≡ Addressing) → live.stands ≡ false
  seeks (inl looking) = is.stands ∙ ap stands_in looking
  seeks (inr addressing) = is.stands ∙ ap stands_in addressing

  begins_in : (live.phase ≡ Ending) ⊎ (live.phase ≡ Waiting) → live.stands ≡ true
  begins_in (inl ending) = is.stands ∙ ap stands_in ending
  begins_in (inr waiting) = is.stands ∙ ap stands_in waiting

  -- A request of the start-up waits.
  asked_kept : (phase : State) (station : Mac) (request : Request) → IsMac station → AreFew (Some request) → live.stands ≡ stands_in phase
      → Runs phase live.cyclic.begun
      → KeptWith setup phase station (Some request) 0 live.stands live.cyclic live.alarms live.low_alarms
  asked_kept phase station request mac few there runs = record {
    device = mac;
    asked = few;
    waited = omega arith;
    stands = there;
    runs = runs;
    cyclic = is.cyclic;
    high = is.high;
    low = is.low;
  }

  -- The next Write, or PrmEnd.
  writing_kept : (next : Request) → IsFew next → live.stands ≡ true
      → KeptWith setup (phase_for next) live.device (Some next) 0 live.stands live.cyclic live.alarms live.low_alarms
  writing_kept next few there =
      asked_kept (phase_for next) live.device next is.device few (there ∙ stands_for next)
      (runs_for next live.cyclic.begun)

  in_phase_of : (request : Request) → live.asked ≡ Some request → PhaseOf request live.phase
  in_phase_of request stood = asked_in setup.plan live.phase live.asked request steady.asked stood

  -- With what a device chose.
  related_kept : (places : Told) (chosen : Chosen)
      → IsKept setup (writing setup (writing_from setup.plan 0) (standing setup (record live { places = places }) chosen)).live
  related_kept places chosen =
      let next = writing_from setup.plan 0 in
      record {
        device = is.device;
        asked = writing_few setup.plan 0 good.plan;
        waited = omega arith;
        stands = stands_for next;
        runs = runs_for next live.cyclic.begun;
        cyclic = record { limit_is = is.cyclic.limit_is; partner = is.device; tag = omega arith; alarm_tag = omega arith; few = is.cyclic.few };
        high = is.high;
        low = is.low;
      }

  -- It no longer waits for an answer.
  unasked_kept : (phase : State) (exchange : Cyclic) → live.stands ≡ stands_in phase → Runs phase exchange.begun → IsOfPlan setup exchange
      → KeptWith setup phase live.device None live.waited live.stands exchange live.alarms live.low_alarms
  unasked_kept phase exchange there runs of_plan = record {
    device = is.device;
    asked = tt;
    waited = is.waited;
    stands = there;
    runs = runs;
    cyclic = of_plan;
    high = is.high;
    low = is.low;
  }

  frame_kept : (source : Mac) (frame_id : ℕ) (body : List ℕ) → IsKept setup (record live { cyclic = behind_frame live.cyclic source frame_id body })
  frame_kept source frame_id body =
      let on = frame_on live.cyclic source frame_id body in
      record {
        device = is.device;
        asked = is.asked;
        waited = is.waited;
        stands = is.stands;
        runs = subst (λ (b : Bool). Runs live.phase b) (sym on.begun) is.runs;
        cyclic = record {
          limit_is = on.limit ∙ is.cyclic.limit_is;
          partner = subst (λ (r : Route). IsMac r.partner) (sym on.route) is.cyclic.partner;
          tag = subst (λ (r : Route). r.sent_tag < 65536) (sym on.route) is.cyclic.tag;
          alarm_tag = subst (λ (r : Route). r.alarm_tag < 65536) (sym on.route) is.cyclic.alarm_tag;
          few = subst (λ (n : ℕ). n ≤ 1440) (sym (frame_long live.cyclic source frame_id body)) is.cyclic.few;
        };
        high = is.high;
        low = is.low;
      }

  accessing_kept : (access : Accessing) → IsKept setup (record live { waited = 0; access = access })
  accessing_kept access = record {
    device = is.device;
    asked = is.asked;
    waited = omega arith;
    stands = is.stands;
    runs = is.runs;
    cyclic = is.cyclic;
    high = is.high;
    low = is.low;
  }

  -- The request after a plug is answered: the timer may start again.
  answered_kept : (refusal : Option Status) (refused : Option RefusedRecord) (waited : ℕ) (places : Told) (access : Accessing)
      → (turn_by setup live (IsPlugAnswered refusal refused waited places access)).live.waited < 32000
      → IsKept setup (turn_by setup live (IsPlugAnswered refusal refused waited places access)).live
  answered_kept refusal refused waited places access =
      followed_beside (λ (l : Live). l.waited < 32000 → IsKept setup l) setup (can_begin live)
      (asks_next (record live { refusal = refusal; refused_record = refused; waited = waited; places = places; access = access }))
      (λ again others other less same few. record {
        device = is.device;
        asked = is.asked;
        waited = few;
        stands = is.stands;
        runs = is.runs;
        cyclic = is.cyclic;
        high = is.high;
        low = is.low;
      })

  pub kind_kept : (kind : Kind) → IsKind setup live came kind → (turn_by setup live kind).live.waited < 32000 → IsKept setup (turn_by setup live kind).live
  kind_kept Rests holds few = is
  kind_kept (Connects source) holds few = asked_kept Connecting source asks.Connect (station_six source holds.known) tt (seeks holds.seeking) tt
  kind_kept (Addresses source) holds few = asked_kept Addressing source asks.Address (station_six source holds.0.known) tt (seeks holds.0.seeking) tt
  kind_kept (Ends cause refusal refused units) holds few = over_kept setup cause (record live { refusal = refusal; refused_record = refused; units = units }) is
  kind_kept (Releases cause refusal refused units) holds few =
      released_kept setup cause (record live { refusal = refusal; refused_record = refused; units = units }) is
  kind_kept (Relates places chosen) holds few = related_kept places chosen
  kind_kept (Writes number tries) holds few =
      let request = write_after number tries in
      writing_kept (behind_write setup.plan number tries) (behind_few setup.plan number tries good.plan (few_so live.asked request holds.0.stood is.asked))
      (is.stands ∙ ap stands_in (written_in number tries live.phase (in_phase_of request holds.0.stood)))
  kind_kept (Skips number tries refused status) holds few =
      let request = write_after number tries in
      writing_kept (behind_write setup.plan number tries) (behind_few setup.plan number tries good.plan (few_so live.asked request holds.stood is.asked))
      (is.stands ∙ ap stands_in (written_in number tries live.phase (in_phase_of request holds.stood)))
  kind_kept (Tries next status) holds few = record {
    device = is.device;
    asked = tried_few setup.plan status holds.request next holds.tries holds.again (few_so live.asked holds.request holds.stood is.asked);
    waited = is.waited;
    stands = is.stands;
    runs = is.runs;
    cyclic = is.cyclic;
    high = is.high;
    low = is.low;
  }
  kind_kept (Waits tries) holds few =
      unasked_kept Waiting live.cyclic (is.stands ∙ ap stands_in (ended_in tries live.phase (in_phase_of (end_after tries) holds.stood))) tt is.cyclic
  kind_kept Forgets holds few = unasked_kept live.phase live.cyclic is.stands is.runs is.cyclic
  kind_kept (Begins caller call block) holds few = unasked_kept Exchanging (begun_of live.cyclic) (begins_in holds.0) refl is.cyclic
  kind_kept (Repeats caller call block) holds few = is
  kind_kept (Follows source frame_id body) holds few = frame_kept source frame_id body
  kind_kept (Takes number report) holds few =
      let behind = behind_data live report.priority number in
      let as_what = taken_as (end_of live report.priority).seen number in
      followed_kept setup (can_begin live) (taken behind report as_what)
      (taken_kept setup behind report as_what (data_kept setup live report.priority number is))
  kind_kept (IsAcked priority number) holds few = acked_kept setup live priority number is
  kind_kept (Gives slot subslot value) holds few = is
  kind_kept (GivesStatus slot subslot is_good) holds few = is
  kind_kept (Asks request octets) holds few = accessing_kept (made request octets live.access)
  kind_kept (IsReplied refusal access) holds few =
      followed_kept setup (can_begin live) (stays (record live { refusal = refusal; access = access })) is
  kind_kept (IsPlugAnswered refusal refused waited places access) holds few = answered_kept refusal refused waited places access few
  kind_kept (IsPlugReadied caller call block) holds few =
      followed_kept setup (can_begin live)
      (record { live = plug_readied live block.alarm_sequence_number; sent = Agrees caller (plug_answer call block) ∷ [] }) is
  kind_kept Flows holds few = flow_begun_kept setup live is
  kind_kept (Breaks reason) holds few =
      over_kept setup (cause_of reason) (flow_begun setup live) (flow_begun_kept setup live is)
  kind_kept Idles holds few = later_kept setup live is

-- ---- any events

-- What is heard with an event.
abbrev pub heard_in : Came → Heard
heard_in (Hears heard) = heard
heard_in came = Nothing

pub stations_answer : (setup : Setup) (event : Event) (source : Mac) (answer : Answered) → came_by setup event ≡ Hears (Answers source answer) → IsMac source
stations_answer setup (Frame bytes) source answer e = answered_by setup.plan.controller bytes.items source answer (ap heard_in e)
stations_answer setup event source answer e = absurd cc

first_kept : (setup : Setup) → IsSetup setup → IsKept setup (first setup.plan)
first_kept setup good = record {
  device = refl;
  asked = tt;
  waited = omega arith;
  stands = refl;
  runs = tt;
  cyclic = record { limit_is = refl; partner = refl; tag = omega arith; alarm_tag = omega arith; few = max-le {a = 40} (omega arith) good.plan.output };
  high = (tt, tt);
  low = (tt, tt);
}

module _ (laws : ControllerLaws) where
  kept_on : (controller : Controlling) (event : Event) → IsSetup controller.setup → IsSteady controller.setup.plan controller.live → Turns controller
      → IsKept controller.setup controller.live
      → IsKept (step_of controller event).controller.setup (step_of controller event).controller.live
  unfolding step_of
  kept_on controller event good steady turns is =
      let turn = laws.kinds controller.setup controller.live event in
      subst (λ (t : Turn). IsKept controller.setup t.live) (sym turn.is)
      (kind_kept controller.setup good controller.live (came_by controller.setup event) is steady (stations_answer controller.setup event) turn.kind
      turn.holds (subst (λ (t : Turn). t.live.waited < 32000) turn.is (event_good controller.setup controller.live turns.0 event).waited))

  kept_all : (events : List Event) (controller : Controlling) → IsReached controller → IsSetup controller.setup
      → IsKept controller.setup controller.live
      → IsKept (behind_all events controller).setup (behind_all events controller).live
  kept_all [] controller reached good is = is
  kept_all (event ∷ events) controller reached good is =
      kept_all events (step_of controller event).controller (reached_on controller event reached) (subst IsSetup (sym (setup_on controller event)) good)
      (kept_on controller event good (reached_steady laws controller reached) (reached_turns laws controller reached) is)

  pub reached_kept : (setup : Setup) (controller : Controlling) → IsSetup setup → controller.setup ≡ setup → IsReached controller
      → IsKept setup controller.live
  reached_kept setup controller good of_setup r =
      let fresh = fresh_with r.plan r.ar r.activity r.options in
      let same : fresh.setup ≡ setup = sym (ap (λ (c : Controlling). c.setup) r.made ∙ setup_all r.events fresh) ∙ of_setup in
      let begun : IsSetup fresh.setup = subst IsSetup (sym same) good in
      let reached : IsReached fresh = record { plan = r.plan; ar = r.ar; activity = r.activity; options = r.options; events = []; made = refl } in
      subst (λ (s : Setup). IsKept s controller.live) of_setup
      (subst (λ (c : Controlling). IsKept c.setup c.live) (sym r.made) (kept_all r.events fresh reached begun (first_kept fresh.setup begun)))
