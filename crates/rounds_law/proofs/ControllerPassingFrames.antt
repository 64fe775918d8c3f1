-- A frame of inputs, or an alarm of low priority, at a controller.
use Rattle.std.proofs.Common.{◌≡◌, ◌==◌, ◌<◌, ◌≤◌, ◌&&◌, ℕ, Bool, true, false, nat_eq, List, [], length, Some, None, Option}
use Rattle.std.proofs.Common.{Result, Err, if◌then◌else◌, refl, sym, ap, subst, ◌∙◌, arith, inl, inr}
use Rattle.std.proofs.lemmas.Bool.{cases_lt}
use Rattle.std.specs.Cmp.Lexicographic.{pointwise}
use Rattle.pn_values.specs.declared.identity.Identity.{Identity}
use Rattle.pn_values.specs.declared.mac.Mac.{Mac}
use Rattle.wire.specs.Codec.{IsSound, IsSoundWhole}
use Rattle.frame_codec.specs.declared.fault.FrameFault.{FrameFault}
use Rattle.frame_codec.specs.declared.fault.FrameFault.TheVariants.{TooLong}
use Rattle.frame_codec.specs.Meaning.{Meaning}
use Rattle.frame_codec.specs.Frame.{ethernet, frame_of, layers}
use Rattle.pn_alarms.specs.declared.message.Notice.TheVariants as notice
use Rattle.pn_alarms.specs.declared.pdu.Header.{Header}
use Rattle.pn_alarms.specs.declared.pdu.PduType.TheVariants as pdu
use Rattle.pn_alarms.specs.declared.receiver.Taken.{Taken}
use Rattle.pn_alarms.specs.declared.receiver.Taken.TheVariants.{New, Again, Refused}
use Rattle.pn_alarms.specs.Receiver.{taken_as}
use Rattle.record_blocks.specs.declared.alarm_notification.AlarmNotification.{AlarmNotification}
use Rattle.diagnosis.specs.declared.reports.priority.Priority.TheVariants.{Low}
use Rattle.diagnosis.specs.declared.reports.report.Report.{Report}
use Rattle.diagnosis.specs.reports.Report.{bare, diagnosed, low_report}
use Rattle.diagnosis.specs.Sendable.{IsHeader}
use Rattle.block_codec.specs.Writable.{IsAlarm}
use Rattle.cyclic_data.specs.declared.status.StationState.{StationState}
use Rattle.cyclic_data.specs.Image.{Shown}
use Rattle.cyclic_data.specs.declared.exchange.route.Route.{Route}
use Rattle.cyclic_data.specs.exchange.Cyclic.{Cyclic}
use Rattle.cyclic_data.specs.exchange.Frames.{body_at}
use Rattle.cyclic_data.specs.exchange.Received.{behind_frame}
use Rattle.relations.specs.exchange.Frames.{Inputs, Reports}
use Rattle.relations.specs.exchange.Opening.{route_of as inputs_route}
use Rattle.plans.specs.declared.parts.Controller.{Controller}
use Rattle.device_frames.specs.Sent.{Exchanges, bytes_of as device_bytes}
use Rattle.controller_messages.specs.declared.request.Request.{Request}
use Rattle.controller_messages.specs.declared.setup.Setup.{Setup}
use Rattle.controller_messages.specs.Heard.{Heard, Nothing, Alarms, heard_of, heard_read}
use Rattle.controller_messages.specs.Heard.{Cyclic as Comes}
use Rattle.controller_core.specs.declared.stored.state.State.{State as Phases}
use Rattle.controller_core.specs.stored.Alarms.{is_alarm}
use Rattle.controller_core.specs.stored.State.{Controlling, Live, with_live}
use Rattle.controller_core.specs.Machine.{Stepped, Turn, alarmed, behind_data, can_begin, noticed, stays, step_of, stepped, taken, turned}
use Rattle.end_laws.specs.hearing.Hearing.{mine_hears, padded}
use Rattle.end_laws.specs.hearing.Stations.{IsDevice, IsRoute as IsRouted, IsSetup}
use Rattle.both_ends.specs.startup.request.Request.{request_for}
use Rattle.rounds_law.specs.Path.{Asks, Controls, IsInputs, IsReport, IsRoute, controller_step}
use Rattle.rounds_law.proofs.ControllerPassingLong.{long_unread}
use Rattle.rounds_law.proofs.ControllerPassingParts.{IsHeardOn, as_before, frame_on}
use Rattle.rounds_law.proofs.PlaceTurns.{HoldsBeside, followed_beside}

-- ---- one frame

by_heard : (setup : Setup) (controller : Controlling) (octets : List ℕ) (heard : Heard) → controller.setup ≡ setup
    → heard_of setup.plan.controller octets ≡ heard
    → controller_step controller octets ≡ stepped controller (turned controller.setup controller.live heard)
unfolding step_of
by_heard setup controller octets heard of is =
    ap (λ (h : Heard). stepped controller (turned controller.setup controller.live h)) (ap (λ (s : Setup). heard_of s.plan.controller octets) of ∙ is)

-- ---- cyclic frames

abbrev pub with_cyclic : Live → Cyclic → Live
with_cyclic live cyclic = record live { cyclic = cyclic }

-- Nothing is sent, and only the cyclic data may change.
record IsTurnedOn (live : Live) (turn : Turn) : Type 0 where
  cyclic : Cyclic
  is : turn ≡ stays (with_cyclic live cyclic)
  on : IsHeardOn live.cyclic cyclic

rests : (live : Live) → IsTurnedOn live (stays live)
rests live = record { cyclic = live.cyclic; is = refl; on = as_before live.cyclic }

comes_by : (live : Live) (stands : Bool) (cyclic : Cyclic) → IsHeardOn live.cyclic cyclic
    → IsTurnedOn live (stays (if stands then with_cyclic live cyclic else live))
comes_by live true cyclic on = record { cyclic = cyclic; is = refl; on = on }
comes_by live false cyclic on = rests live

-- A cyclic frame, or nothing.
abbrev pub IsCyclicOrNone : Heard → Type 0
IsCyclicOrNone Nothing = Unit {0}
IsCyclicOrNone (Comes source frame_id body) = Unit {0}
IsCyclicOrNone heard = ⊥

turned_on : (setup : Setup) (live : Live) (heard : Heard) → IsCyclicOrNone heard → IsTurnedOn live (turned setup live heard)
turned_on setup live Nothing is = rests live
turned_on setup live (Comes source frame_id body) is = comes_by live live.stands (behind_frame live.cyclic source frame_id body)
    (frame_on live.cyclic source frame_id body)
turned_on setup live heard is = absurd is

-- The step with such a frame.
pub record IsSteppedOn (controller : Controlling) (step : Stepped) : Type 0 where
  pub cyclic : Cyclic
  pub is : step ≡ stepped controller (stays (with_cyclic controller.live cyclic))
  pub on : IsHeardOn controller.live.cyclic cyclic

stepped_on : (setup : Setup) (controller : Controlling) (octets : List ℕ) → controller.setup ≡ setup → IsCyclicOrNone (heard_of setup.plan.controller octets)
    → IsSteppedOn controller (controller_step controller octets)
stepped_on setup controller octets of cyclic =
    let heard = heard_of setup.plan.controller octets in
    let turn = turned_on controller.setup controller.live heard cyclic in
    record { cyclic = turn.cyclic; is = by_heard setup controller octets heard of refl ∙ ap (stepped controller) turn.is; on = turn.on }

-- ---- a frame of inputs

-- The route of a plan's inputs.
pub routed : (serial : ℕ) (setup : Setup) → IsSetup setup → IsRouted (inputs_route serial (request_for setup.plan setup.ar))
routed serial setup is = record { partner = is.mac; cyclic = refl; tag = omega arith; alarm_tag = omega arith }

cyclic_or_none : (mine : Controller) (destination source : Mac) (frame_id : ℕ) (body : List ℕ)
    → IsCyclicOrNone (mine_hears mine destination (Comes source frame_id body))
cyclic_or_none mine destination source frame_id body = either (pointwise nat_eq destination.octets mine.mac.octets)
  where
    either : (own : Bool) → IsCyclicOrNone (if own then Comes source frame_id body else Nothing)
    either true = tt
    either false = tt

-- A clause of the hearing of inputs.
abbrev pub InputsAreHeard : Type 0
InputsAreHeard = (mine : Controller) (identity : Identity) (route : Route) (state : StationState) (inputs : Shown) (counter : ℕ)
    → IsDevice identity → IsRouted route → length (body_at state inputs counter) ≤ 1498
    → heard_of mine (device_bytes identity (Exchanges route (Inputs state inputs counter)))
    ≡ mine_hears mine route.partner (Comes identity.mac route.sent_id
    (padded identity.mac route.partner (Some route.sent_tag) route.sent_id (body_at state inputs counter)))

unread : (mine : Controller) (octets : List ℕ) → frame_of octets ≡ Err TooLong → heard_of mine octets ≡ Nothing
unfolding heard_of
unread mine octets e = ap (λ (r : Result Meaning FrameFault). heard_read mine r) e

module _ (hears : InputsAreHeard) (sound : IsSound ethernet) (whole : IsSoundWhole layers) where
  pub inputs_heard : (mine : Controller) (identity : Identity) (route : Route) (state : StationState) (inputs : Shown) (counter : ℕ) → IsDevice identity
      → IsRouted route
      → IsCyclicOrNone (heard_of mine (device_bytes identity (Exchanges route (Inputs state inputs counter))))
  inputs_heard mine identity route state inputs counter device way = elim (cases_lt 1498 (length (body_at state inputs counter))) [
    | inl many ↦
        subst IsCyclicOrNone
        (sym (unread mine (device_bytes identity (Exchanges route (Inputs state inputs counter)))
        (long_unread sound whole route.partner identity.mac route.sent_tag route.sent_id (body_at state inputs counter) way.partner device way.tag many)))
        tt
    | inr few ↦
        subst IsCyclicOrNone (sym (hears mine identity route state inputs counter device way few))
        (cyclic_or_none mine route.partner identity.mac route.sent_id
        (padded identity.mac route.partner (Some route.sent_tag) route.sent_id (body_at state inputs counter)))
  ]

  module _ (setup : Setup) (identity : Identity) (of_setup : IsSetup setup) (of_device : IsDevice identity) (controller : Controlling) (octets : List ℕ)
      (inputs : IsInputs setup identity octets) where
    pub inputs_on : controller.setup ≡ setup → IsSteppedOn controller (controller_step controller octets)
    inputs_on of =
        stepped_on setup controller octets of
        (subst (λ (bytes : List ℕ). IsCyclicOrNone (heard_of setup.plan.controller bytes)) (sym inputs.frame)
        (inputs_heard setup.plan.controller identity
        (inputs_route inputs.serial (request_for setup.plan setup.ar)) inputs.state inputs.inputs inputs.counter of_device (routed inputs.serial setup of_setup)))

    route_on : (stands : Option ℕ) (cyclic : Cyclic) → IsHeardOn controller.live.cyclic cyclic → IsRoute stands identity.mac controller.live.cyclic
        → IsRoute stands identity.mac cyclic
    route_on (Some serial) cyclic on to = (to.0, on.route ∙ to.1)
    route_on None cyclic on to = tt

    -- While the controller waits for an answer.
    pub inputs_before : (phase : Phases) (request : Request) (stands : Option ℕ) (spare : ℕ) → Asks setup identity.mac phase request stands spare controller
        → ((controller_step controller octets).frames ≡ []) × Asks setup identity.mac phase request stands spare (controller_step controller octets).controller
    inputs_before phase request stands spare is =
        let step = inputs_on is.of_setup in
        subst (λ (s : Stepped). (s.frames ≡ []) × Asks setup identity.mac phase request stands spare s.controller) (sym step.is) (
          refl,
          record {
            of_setup = is.of_setup;
            in_phase = is.in_phase;
            asked = is.asked;
            of_device = is.of_device;
            unrepeated = is.unrepeated;
            patient = is.patient;
            established = is.established;
            route = route_on stands step.cyclic step.on is.route;
            high = is.high;
            low = is.low;
            low_limit = is.low_limit;
            alone = is.alone;
            unbegun = step.on.begun ∙ is.unbegun;
            limit = step.on.limit ∙ is.limit;
          },
        )

    -- While it exchanges data.
    pub inputs_later : (serial : ℕ) (age : ℕ) → Controls setup serial identity.mac age controller
        → ((controller_step controller octets).frames ≡ []) × Controls setup serial identity.mac age (controller_step controller octets).controller
    inputs_later serial age is =
        let step = inputs_on is.of_setup in
        subst (λ (s : Stepped). (s.frames ≡ []) × Controls setup serial identity.mac age s.controller) (sym step.is) (
          refl,
          record {
            of_setup = is.of_setup;
            in_phase = is.in_phase;
            established = is.established;
            few = is.few;
            route = step.on.route ∙ is.route;
            high = is.high;
            low = is.low;
            low_limit = is.low_limit;
            limit = step.on.limit ∙ is.limit;
            unasked = is.unasked;
            alone = is.alone;
            held_few = omega (arith, step.on.held, is.held_few);
          },
        )

-- ---- an alarm of low priority

-- One with this UserStructureIdentifier, or none.
abbrev of_low : Option ℕ → AlarmNotification → Report
of_low user alarm = record { priority = Low; notification = alarm; user_structure = user }

module _ (setup : Setup) (serial : ℕ) (device : Mac) (age : ℕ) (controller : Controlling) (is : Controls setup serial device age controller) where
  abbrev StaysIn : Turn → Type 0
  StaysIn turn = Controls setup serial device age (stepped controller turn).controller

  seen_in : (number : ℕ) → Controls setup serial device age (with_live controller (behind_data controller.live Low number))
  seen_in number = record {
    of_setup = is.of_setup;
    in_phase = is.in_phase;
    established = is.established;
    few = is.few;
    route = is.route;
    high = is.high;
    low = is.low;
    low_limit = is.low_limit;
    limit = is.limit;
    unasked = is.unasked;
    alone = is.alone;
    held_few = is.held_few;
  }

  -- The AlarmAck of a new alarm was sent just now.
  new_in : (number : ℕ) (user : Option ℕ) (alarm : AlarmNotification) → StaysIn (taken (behind_data controller.live Low number) (of_low user alarm) New)
  new_in number user alarm = record {
    of_setup = is.of_setup;
    in_phase = is.in_phase;
    established = is.established;
    few = is.few;
    route = is.route;
    high = is.high;
    low = omega arith;
    low_limit = is.low_limit;
    limit = is.limit;
    unasked = is.unasked;
    alone = is.alone;
    held_few = is.held_few;
  }

  -- It is new, came before, or is refused.
  taken_in : (number : ℕ) (user : Option ℕ) (alarm : AlarmNotification) (outcome : Taken)
      → StaysIn (taken (behind_data controller.live Low number) (of_low user alarm) outcome)
  taken_in number user alarm New = new_in number user alarm
  taken_in number user alarm Again = seen_in number
  taken_in number user alarm Refused = seen_in number

  alarm_in : (number : ℕ) (user : Option ℕ) (alarm : AlarmNotification) (counts : Bool)
      → StaysIn (if counts then noticed controller.live Low (notice.Data number (of_low user alarm)) else stays controller.live)
  alarm_in number user alarm true = taken_in number user alarm (taken_as controller.live.low_alarms.seen number)
  alarm_in number user alarm false = is

  -- So it is whatever the turn of a place is.
  abbrev StaysWith : Live → Type 0
  StaysWith live = Controls setup serial device age (with_live controller live)

  any_turn : (live : Live) → StaysWith live → HoldsBeside StaysWith live
  any_turn live it waited places access less same = record {
    of_setup = it.of_setup;
    in_phase = it.in_phase;
    established = it.established;
    few = it.few;
    route = it.route;
    high = it.high;
    low = it.low;
    low_limit = it.low_limit;
    limit = it.limit;
    unasked = it.unasked;
    alone = same ∙ it.alone;
    held_few = it.held_few;
  }

  of_low_in : (source : Mac) (header : Header) (number : ℕ) (user : Option ℕ) (alarm : AlarmNotification) (own : Bool)
      → StaysIn (turned controller.setup controller.live (if own then Alarms source Low header (notice.Data number (of_low user alarm)) else Nothing))
  of_low_in source header number user alarm true =
      let turn = alarmed controller.live source Low header (notice.Data number (of_low user alarm)) in
      followed_beside StaysWith controller.setup (can_begin controller.live) turn
      (any_turn turn.live (alarm_in number user alarm (controller.live.stands && is_alarm controller.live.cyclic.route source header)))
  of_low_in source header number user alarm false = is

  -- That of a pull or a plug has no data, that of a diagnosis has some.
  heard_in : (source : Mac) (header : Header) (number : ℕ) (alarm : AlarmNotification) (own none : Bool)
      → StaysIn (turned controller.setup controller.live
      (if own then Alarms source Low header (notice.Data number (if none then bare alarm else diagnosed alarm)) else Nothing))
  heard_in source header number alarm own true = of_low_in source header number None alarm own
  heard_in source header number alarm own false = of_low_in source header number (Some 0x8000) alarm own

-- A clause of the hearing of alarms.
abbrev pub ReportsAreHeard : Type 0
ReportsAreHeard = (mine : Controller) (identity : Identity) (route : Route) (tag : ℕ) (header : Header) (alarm : AlarmNotification)
    → IsDevice identity → IsRouted route → tag < 65536 → header.kind ≡ pdu.Data → IsHeader header → IsAlarm alarm
    → heard_of mine (device_bytes identity (Exchanges route (Reports tag header alarm)))
    ≡ mine_hears mine route.partner (Alarms identity.mac Low header (notice.Data header.send_number (low_report alarm)))

pub reported : (serial : ℕ) → ReportsAreHeard → (setup : Setup) (identity : Identity) → IsSetup setup → IsDevice identity
    → (controller : Controlling) (age : ℕ) (octets : List ℕ)
    → IsReport setup identity octets → Controls setup serial identity.mac age controller
    → Controls setup serial identity.mac age (controller_step controller octets).controller
reported serial hears setup identity of_setup of_device controller age octets report is =
    let route = inputs_route report.serial (request_for setup.plan setup.ar) in
    let said = Alarms identity.mac Low report.header (notice.Data report.header.send_number (low_report report.alarm)) in
    let heard : heard_of setup.plan.controller octets ≡ mine_hears setup.plan.controller route.partner said =
    ap (λ (bytes : List ℕ). heard_of setup.plan.controller bytes) report.frame
    ∙ hears setup.plan.controller identity route report.tag report.header report.alarm of_device
    (routed report.serial setup of_setup) report.tag_short report.is_data report.header_good report.alarm_good in
    subst (λ (step : Stepped). Controls setup serial identity.mac age step.controller)
    (sym (by_heard setup controller octets (mine_hears setup.plan.controller route.partner said) is.of_setup heard))
    (heard_in setup serial identity.mac age controller is identity.mac report.header report.header.send_number report.alarm
    (pointwise nat_eq route.partner.octets setup.plan.controller.mac.octets) (length report.alarm.alarm_data == 0))
