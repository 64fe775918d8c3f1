-- A unit of time at a controller.
use Rattle.std.proofs.Common.{◌≡◌, ◌⊎◌, inl, inr, ◌+◌, ◌-◌, ◌==◌, ◌&&◌, ◌++◌, ◌≤◌, ◌<◌, ℕ, suc, Bool, true, false, Some}
use Rattle.std.proofs.Common.{List, [], ◌∷◌, map, Option, None, is_some, if◌then◌else◌, refl, sym, ap, subst, ◌∙◌, arith}
use Rattle.std.specs.List.{AllByRecursion}
use Rattle.std.proofs.lemmas.Bool.{ne_eqb}
use Rattle.pn_values.specs.declared.mac.Mac.{Mac}
use Rattle.pn_alarms.specs.declared.repeats.Due.{Due}
use Rattle.pn_alarms.specs.declared.repeats.Due.TheVariants.{Nothing}
use Rattle.pn_alarms.specs.Controller.{controller_later}
use Rattle.pn_alarms.specs.Ends.{ControllerEnd}
use Rattle.pn_alarms.specs.Sending.{due, due_behind, either_due, waiting_behind}
use Rattle.pn_alarms.specs.Sending.{is_again as is_repeated}
use Rattle.cyclic_data.specs.Image.{Shown}
use Rattle.cyclic_data.specs.Timing.{is_due}
use Rattle.cyclic_data.specs.declared.exchange.route.Route.{Route}
use Rattle.cyclic_data.specs.exchange.Cyclic.{Cyclic}
use Rattle.cyclic_data.specs.exchange.Units.{Brought, cyclic_later, ending_by, is_silent}
use Rattle.controller_messages.specs.declared.plug_request.PlugRequest.{PlugRequest}
use Rattle.controller_messages.specs.declared.record_request.RecordRequest.{RecordRequest}
use Rattle.controller_messages.specs.declared.request.Request.{Request}
use Rattle.controller_messages.specs.declared.setup.Setup.{Setup}
use Rattle.controller_messages.specs.Sent.{Cycles, Sent, bytes_of}
use Rattle.controller_core.specs.declared.stored.event.Event.TheVariants.{Tick}
use Rattle.controller_core.specs.declared.stored.state.Cause.TheVariants.{NoProgress}
use Rattle.controller_core.specs.declared.stored.state.State.{State as Phases}
use Rattle.controller_core.specs.Machine.{Stepped, Turn, accesses_by, accesses_of, brought, due_frames, exchange_later, flow_later, flowed, gone_on}
use Rattle.controller_core.specs.Machine.{is_again, is_spent, later, outputs_of, pending_by, pending_of, plugs_by, quit, step_of, stepped, ticked}
use Rattle.controller_core.specs.Machine.{turn_due, where_due}
use Rattle.controller_core.specs.stored.State.{Controlling, Live, is_limited, with_live}
use Rattle.rounds_law.specs.Path.{Asks, BeginsNoTurn, Controls, IsOutputs, IsRoute, hold_of, route_to}
use Rattle.rounds_law.proofs.ControllerPassingParts.{brings, either_kept, held_later, kept_by, limit_later, unbegun_heard, unheld, waits_on}
use Rattle.rounds_law.proofs.Choices.{and_false}
use Rattle.rounds_law.proofs.PlaceTurns.{HoldsBeside, due_beside, early, none_due, with_turn}

abbrev pub turn_with : Live → List Sent → Turn
turn_with live sent = record { live = live; sent = sent }

-- ---- one unit

pub by_turn : (controller : Controlling) (turn : Turn) → ticked controller.setup controller.live ≡ turn → step_of controller Tick ≡ stepped controller turn
unfolding step_of
by_turn controller turn is = ap (stepped controller) is

-- The patience of the phase does not end with this unit.
pub unspent : (live : Live) → (live.left == 1) ≡ false → is_spent live ≡ false
unspent live more = ap (λ (b : Bool). is_limited live.phase && b) more ∙ and_false (is_limited live.phase)

pub begins_or_not : (setup : Setup) (live : Live) → is_spent live ≡ false
    → ticked setup live ≡ gone_on (turn_due setup (is_again live) (later live)) (is_again live)
begins_or_not setup live more =
    ap (λ (b : Bool). if b then quit setup NoProgress (later live) live.phase else gone_on (turn_due setup (is_again live) (later live)) (is_again live)) more

-- No turn of a place begins with it.
pub goes_on : (setup : Setup) (live : Live) → is_spent live ≡ false → turn_due setup (is_again live) (later live) ≡ later live
    → ticked setup live ≡ gone_on (later live) (is_again live)
goes_on setup live more none = begins_or_not setup live more ∙ ap (λ (l : Live). gone_on l (is_again live)) none

gone_off : (live : Live) (is_request : Bool) → live.stands ≡ false → is_request ≡ false → gone_on live is_request ≡ turn_with live []
gone_off live is_request stands none = rw (stands, none) refl

-- What is sent with a unit that does not end the relation.
abbrev pub sent_at : Live → Due → Due → List Sent
sent_at live high low = due_frames (flow_later live) (is_repeated high) (is_repeated low) (is_again live) (is_due live.cyclic.sending)

gone_there : (live : Live) (is_request : Bool) → live.stands ≡ true → is_silent live.cyclic ≡ false → ending_by (due live.alarms.sending) ≡ None
    → ending_by (due live.low_alarms.sending) ≡ None
    → gone_on live is_request
    ≡ turn_with (exchange_later live)
    (due_frames (exchange_later live) (is_repeated (due live.alarms.sending)) (is_repeated (due live.low_alarms.sending)) is_request
    (is_due live.cyclic.sending))
gone_there live is_request stands heard one other =
    let high = due live.alarms.sending in
    let low = due live.low_alarms.sending in
    let moved : gone_on live is_request ≡ flowed (exchange_later live) high low is_request (brought live) (brought live).ending = rw stands refl in
    moved ∙ ap (λ (b : Brought). flowed (exchange_later live) high low is_request b b.ending)
    (brings live.cyclic (either_due high low) heard (either_kept high low one other))

-- If the relation is established, and nothing ends it.
pub turn_there : (setup : Setup) (live : Live) → is_spent live ≡ false → turn_due setup (is_again live) (later live) ≡ later live
    → live.stands ≡ true → is_silent live.cyclic ≡ false
    → ending_by (due live.alarms.sending) ≡ None
    → ending_by (due live.low_alarms.sending) ≡ None
    → ticked setup live ≡ turn_with (flow_later live) (sent_at live (due live.alarms.sending) (due live.low_alarms.sending))
turn_there setup live more none stands heard one other =
    goes_on setup live more none ∙ gone_there (later live) (is_again live) stands heard one other

-- ---- frames

outputs_are : (serial : ℕ) (setup own : Setup) (device : Mac) (route : Route) (shown : Shown) (counter : ℕ) → own ≡ setup → serial < 14336 → route ≡ route_to device serial
    → IsOutputs setup (Some serial) device (bytes_of own (Cycles route shown counter))
outputs_are serial setup own device route shown counter of few to = record {
  serial = serial;
  of_relation = refl;
  few = few;
  shown = shown;
  counter = counter;
  frame = ap (λ (s : Setup). bytes_of s (Cycles route shown counter)) of ∙ ap (λ (r : Route). bytes_of setup (Cycles r shown counter)) to;
}

pub only_outputs : (serial : ℕ) (setup own : Setup) (device : Mac) (route : Route) (shown : Shown) (counter : ℕ) (is_due : Bool) → own ≡ setup
    → serial < 14336 → route ≡ route_to device serial
    → AllByRecursion (IsOutputs setup (Some serial) device) (map (bytes_of own) (where_due is_due (Cycles route shown counter ∷ [])))
only_outputs serial setup own device route shown counter true of few to = (outputs_are serial setup own device route shown counter of few to, tt)
only_outputs serial setup own device route shown counter false of few to = tt

-- ---- while it waits for an answer

pub lasts : (left spare : ℕ) → (left ≡ 0) ⊎ (suc spare < left) → (left == 1) ≡ false
lasts left spare (inl none) = ne_eqb left 1 (λ one. omega (arith, none, one))
lasts left spare (inr more) = ne_eqb left 1 (λ one. omega (arith, more, one))

pub lasts_on : (left spare : ℕ) → (left ≡ 0) ⊎ (suc spare < left) → (left - 1 ≡ 0) ⊎ (spare < left - 1)
lasts_on left spare (inl none) = inl (omega (arith, none))
lasts_on left spare (inr more) = inr (omega (arith, more))

unrepeated : (waited spare : ℕ) → waited + suc spare < 31999 → (waited + 1 == 32000) ≡ false
unrepeated waited spare few = ne_eqb (waited + 1) 32000 (λ same. omega (arith, few, same))

waits_longer : (waited spare : ℕ) (again : Bool) → again ≡ false → waited + suc spare < 31999 → (if again then 0 else waited + 1) + spare < 31999
waits_longer waited spare true none few = absurd cc
waits_longer waited spare false none few = omega (arith, few)

-- The exchange is this after the unit.
abbrev later_with : Live → Cyclic → ControllerEnd → ControllerEnd → Live
later_with live cyclic high low = record (later live) { cyclic = cyclic; alarms = high; low_alarms = low }

module _ (setup : Setup) (device : Mac) (phase : Phases) (request : Request) (spare : ℕ) (controller : Controlling) where
  asks_on : (stands : Option ℕ) → Asks setup device phase request stands (suc spare) controller → (cyclic : Cyclic) (high low : ControllerEnd)
      → IsRoute stands device cyclic
      → high.sending.waiting ≡ None → low.sending.waiting ≡ None → 3200 ≤ low.sending.limit → cyclic.begun ≡ false → cyclic.hearing.limit ≡ hold_of setup.plan
      → Asks setup device phase request stands spare (with_live controller (later_with controller.live cyclic high low))
  asks_on stands is cyclic high low route none none_low long unbegun limit = record {
    of_setup = is.of_setup;
    in_phase = is.in_phase;
    asked = is.asked;
    of_device = is.of_device;
    unrepeated = waits_longer controller.live.waited spare (is_again controller.live) (unrepeated controller.live.waited spare is.unrepeated) is.unrepeated;
    patient = lasts_on controller.live.left spare is.patient;
    established = is.established;
    route = route;
    high = none;
    low = none_low;
    low_limit = long;
    alone = is.alone;
    unbegun = unbegun;
    limit = limit;
  }

  abbrev GoesOn : Option ℕ → Stepped → Type 0
  GoesOn stands step = AllByRecursion (IsOutputs setup stands device) step.frames × Asks setup device phase request stands spare step.controller

  -- Before its relation is established nothing is sent.
  turn_before : Asks setup device phase request None (suc spare) controller
      → step_of controller Tick ≡ stepped controller (turn_with (later controller.live) [])
  turn_before is =
      let live = controller.live in
      by_turn controller (turn_with (later live) [])
      (goes_on controller.setup live (unspent live (lasts live.left spare is.patient))
      (early controller.setup live (unrepeated live.waited spare is.unrepeated))
      ∙ gone_off (later live) (is_again live) is.established (unrepeated live.waited spare is.unrepeated))

  pub unsent : Asks setup device phase request None (suc spare) controller → (step_of controller Tick).frames ≡ []
  unsent is = ap (λ (step : Stepped). step.frames) (turn_before is)

  unit_before : Asks setup device phase request None (suc spare) controller → GoesOn None (step_of controller Tick)
  unit_before is =
      let live = controller.live in
      subst (λ (step : Stepped). GoesOn None step) (sym (turn_before is))
      (tt, asks_on None is live.cyclic live.alarms live.low_alarms tt is.high is.low is.low_limit is.unbegun is.limit)

  -- After that, outputs at most.
  unit_after : (serial : ℕ) → Asks setup device phase request (Some serial) (suc spare) controller → GoesOn (Some serial) (step_of controller Tick)
  unit_after serial is =
      let live = controller.live in
      let none : due live.alarms.sending ≡ Nothing = ap (due_behind live.alarms.sending) is.high in
      let none_low : due live.low_alarms.sending ≡ Nothing = ap (due_behind live.low_alarms.sending) is.low in
      let turn = turn_there controller.setup live (unspent live (lasts live.left spare is.patient))
      (early controller.setup live (unrepeated live.waited spare is.unrepeated)) is.established (unbegun_heard live.cyclic is.unbegun)
      (ap ending_by none) (ap ending_by none_low) in
      let sent : sent_at live (due live.alarms.sending) (due live.low_alarms.sending) ≡ where_due (is_due live.cyclic.sending) (outputs_of (flow_later live)) =
      ap (λ (d : Due). sent_at live d (due live.low_alarms.sending)) none ∙ ap (λ (d : Due). sent_at live Nothing d) none_low
      ∙ ap (λ (b : Bool). where_due b (pending_of (flow_later live)) ++ where_due (is_due live.cyclic.sending) (outputs_of (flow_later live)))
      (unrepeated live.waited spare is.unrepeated) in
      let whole = turn ∙ ap (turn_with (flow_later live)) sent in
      subst (λ (step : Stepped). GoesOn (Some serial) step)
      (sym (by_turn controller (turn_with (flow_later live) (where_due (is_due live.cyclic.sending) (outputs_of (flow_later live)))) whole)) (
        only_outputs serial setup controller.setup device live.cyclic.route live.cyclic.shown (later live).units (is_due live.cyclic.sending) is.of_setup is.route.0 is.route.1,
        asks_on (Some serial) is (cyclic_later live.cyclic) (controller_later live.alarms) (controller_later live.low_alarms) is.route
            (ap (waiting_behind live.alarms.sending) is.high) (ap (waiting_behind live.low_alarms.sending) is.low) is.low_limit is.unbegun
            (limit_later live.cyclic.begun live.cyclic.hearing ∙ is.limit),
      )

  pub unit : (stands : Option ℕ) → Asks setup device phase request stands (suc spare) controller → GoesOn stands (step_of controller Tick)
  unit None is = unit_before is
  unit (Some serial) is = unit_after serial is

-- ---- while it exchanges data

idle : (is_due : Bool) → where_due is_due [] ≡ []
idle true = refl
idle false = refl

none_pending : (live : Live) (asked : Option Request) → asked ≡ None → live.access.waiting ≡ None → live.access.plug ≡ None → pending_by live asked ≡ []
none_pending live asked none alone unplugged = ap (pending_by live) none
    ∙ ap (λ (plug : Option PlugRequest). if is_some plug then plugs_by live.device plug else accesses_of live) unplugged
    ∙ ap (λ (waiting : Option RecordRequest). accesses_by live.device live.access.octets waiting) alone

-- Without an alarm that waits and without a request, outputs at most.
pub quiet : (serial : ℕ) (setup : Setup) (device : Mac) (controller : Controlling) → controller.setup ≡ setup → serial < 14336 → controller.live.cyclic.route ≡ route_to device serial
    → due controller.live.alarms.sending ≡ Nothing → due controller.live.low_alarms.sending ≡ Nothing
    → controller.live.asked ≡ None → controller.live.access.waiting ≡ None → controller.live.access.plug ≡ None
    → AllByRecursion (IsOutputs setup (Some serial) device) (map (bytes_of controller.setup)
    (sent_at controller.live (due controller.live.alarms.sending) (due controller.live.low_alarms.sending)))
quiet serial setup device controller of_setup few to none_high none_low unasked alone unplugged =
    let live = controller.live in
    let sent : sent_at live (due live.alarms.sending) (due live.low_alarms.sending) ≡ where_due (is_due live.cyclic.sending) (outputs_of (flow_later live)) =
    ap (λ (d : Due). sent_at live d (due live.low_alarms.sending)) none_high ∙ ap (λ (d : Due). sent_at live Nothing d) none_low
    ∙ ap (λ (sent : List Sent). where_due (is_again live) sent ++ where_due (is_due live.cyclic.sending) (outputs_of (flow_later live)))
    (none_pending (flow_later live) live.asked unasked alone unplugged)
    ∙ ap (λ (sent : List Sent). sent ++ where_due (is_due live.cyclic.sending) (outputs_of (flow_later live))) (idle (is_again live)) in
    subst (λ (messages : List Sent). AllByRecursion (IsOutputs setup (Some serial) device) (map (bytes_of controller.setup) messages)) (sym sent)
    (only_outputs serial setup controller.setup device live.cyclic.route live.cyclic.shown (later live).units (is_due live.cyclic.sending) of_setup few to)

module _ (setup : Setup) (serial : ℕ) (device : Mac) (age : ℕ) (controller : Controlling) (holds : age + 2 ≤ hold_of setup.plan) (young : age < 3000)
    (is : Controls setup serial device age controller) where
  none_high : due controller.live.alarms.sending ≡ Nothing
  none_high = ap (due_behind controller.live.alarms.sending) is.high

  -- Whatever the turn of a place is.
  abbrev ControlsOn : Live → Type 0
  ControlsOn live = Controls setup serial device (suc age) (stepped controller (gone_on live (is_again controller.live))).controller

  unsilent : is_silent controller.live.cyclic ≡ false
  unsilent = unheld controller.live.cyclic age (hold_of setup.plan) holds is.held_few is.limit

  kept_low : ending_by (due controller.live.low_alarms.sending) ≡ None
  kept_low = kept_by controller.live.low_alarms.sending controller.live.low_alarms.sending.waiting age is.low young is.low_limit

  controls_on : HoldsBeside ControlsOn (later controller.live)
  controls_on waited places access less same =
      let live = controller.live in
      subst (λ (turn : Turn). Controls setup serial device (suc age) (stepped controller turn).controller)
      (sym (gone_there (with_turn (later live) waited places access) (is_again live) is.established unsilent (ap ending_by none_high) kept_low)) (record {
        of_setup = is.of_setup;
        in_phase = is.in_phase;
        established = is.established;
        few = is.few;
        route = is.route;
        high = ap (waiting_behind live.alarms.sending) is.high;
        low = waits_on live.low_alarms.sending live.low_alarms.sending.waiting age is.low young is.low_limit;
        low_limit = is.low_limit;
        limit = limit_later live.cyclic.begun live.cyclic.hearing ∙ is.limit;
        unasked = is.unasked;
        alone = same ∙ is.alone;
        held_few = held_later live.cyclic.begun live.cyclic.hearing age is.held_few;
      })

  -- It is not limited.
  unlimited : is_spent controller.live ≡ false
  unlimited = ap (λ (p : Phases). is_limited p && controller.live.left == 1) is.in_phase

  quiet_step : BeginsNoTurn controller.live → step_of controller Tick ≡ stepped controller
      (turn_with (flow_later controller.live) (sent_at controller.live (due controller.live.alarms.sending) (due controller.live.low_alarms.sending)))
  quiet_step none =
      let live = controller.live in
      by_turn controller (turn_with (flow_later live) (sent_at live (due live.alarms.sending) (due live.low_alarms.sending)))
      (turn_there controller.setup live unlimited (none_due controller.setup live none) is.established unsilent (ap ending_by none_high) kept_low)

  -- Without an AlarmAck that waits for its ACK and without a turn, outputs at most.
  abbrev IsQuiet : Stepped → Type 0
  IsQuiet step = AllByRecursion (IsOutputs setup (Some serial) device) step.frames × (step.controller.live.low_alarms.sending.waiting ≡ None)

  quiet_on : controller.live.low_alarms.sending.waiting ≡ None → controller.live.access.plug ≡ None
      → IsQuiet (stepped controller (turn_with (flow_later controller.live)
      (sent_at controller.live (due controller.live.alarms.sending) (due controller.live.low_alarms.sending))))
  quiet_on rests unplugged =
      let live = controller.live in (
        quiet serial setup device controller is.of_setup is.few is.route none_high (ap (due_behind live.low_alarms.sending) rests) is.unasked is.alone
            unplugged,
        ap (waiting_behind live.low_alarms.sending) rests,
      )

  pub later_unit : Controls setup serial device (suc age) (step_of controller Tick).controller
      × (controller.live.low_alarms.sending.waiting ≡ None → BeginsNoTurn controller.live
      → AllByRecursion (IsOutputs setup (Some serial) device) (step_of controller Tick).frames
      × ((step_of controller Tick).controller.live.low_alarms.sending.waiting ≡ None))
  later_unit =
      let live = controller.live in
      let turn = gone_on (turn_due controller.setup (is_again live) (later live)) (is_again live) in (
        subst (λ (step : Stepped). Controls setup serial device (suc age) step.controller)
            (sym (by_turn controller turn (begins_or_not controller.setup live unlimited)))
            (due_beside ControlsOn controller.setup (is_again live) (later live) controls_on),
        λ rests none. subst (λ (step : Stepped). IsQuiet step) (sym (quiet_step none)) (quiet_on rests none.0),
      )
