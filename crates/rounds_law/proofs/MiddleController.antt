-- A controller that waits for ApplicationReady: a unit, a frame of inputs, and ApplicationReady.
use Rattle.std.proofs.Common.{◌≡◌, inl, ℕ, suc, List, [], Option, None, refl, sym, ap, subst, ◌∙◌, arith, Some}
use Rattle.std.specs.List.{AllByRecursion}
use Rattle.pn_values.specs.declared.identity.Identity.{Identity}
use Rattle.pn_values.specs.declared.mac.Mac.{Mac}
use Rattle.wire.specs.Codec.{IsSound, IsSoundWhole}
use Rattle.frame_codec.specs.Frame.{ethernet, layers}
use Rattle.connect_blocks.specs.declared.control.ControlBlock.{ControlBlock}
use Rattle.pn_alarms.specs.declared.repeats.Due.TheVariants.{Nothing}
use Rattle.pn_alarms.specs.Sending.{due, due_behind, waiting_behind}
use Rattle.cyclic_data.specs.exchange.Units.{ending_by}
use Rattle.controller_messages.specs.declared.setup.Setup.{Setup}
use Rattle.controller_messages.specs.Heard.{Heard}
use Rattle.controller_core.specs.declared.stored.event.Event.TheVariants.{Frame, Tick}
use Rattle.controller_core.specs.declared.stored.state.State.{State as Phases}
use Rattle.controller_core.specs.declared.stored.state.State.TheVariants.{Waiting}
use Rattle.controller_core.specs.start_up.Answers.{is_ready}
use Rattle.controller_core.specs.Machine.{Stepped, called, flow_later, is_again, later, readied, stays, step_of, turn_of, turned}
use Rattle.controller_core.specs.stored.State.{Controlling, Live}
use Rattle.end_laws.specs.hearing.Stations.{IsDevice, IsSetup, ready_call}
use Rattle.rounds_law.specs.Middle.{WaitsForReady}
use Rattle.rounds_law.specs.Path.{BeginsNoTurn, Controls, IsInputs, IsOutputs, WaitsFew, controller_step, device_as_caller, readied_frame, ready_for}
use Rattle.rounds_law.proofs.Choices.{where_so}
use Rattle.rounds_law.proofs.ControllerCallingAsks.{step_by, step_is}
use Rattle.rounds_law.proofs.ControllerCallingResponses.{HeardSo, IsReadied, begun, is_its_relation, ready_heard, ready_is}
use Rattle.rounds_law.proofs.ControllerPassingFrames.{InputsAreHeard, inputs_on}
use Rattle.rounds_law.proofs.ControllerPassingParts.{limit_later, unbegun_heard}
use Rattle.rounds_law.proofs.PlaceTurns.{none_waits, undue}
use Rattle.rounds_law.proofs.ControllerPassingUnits.{by_turn, lasts, lasts_on, quiet, sent_at, turn_there, turn_with, unspent}

-- ---- a unit

module _ (setup : Setup) (serial : ℕ) (device : Mac) (spare : ℕ) (controller : Controlling) (is : WaitsForReady setup serial device (suc spare) controller) where
  none_high : due controller.live.alarms.sending ≡ Nothing
  none_high = ap (due_behind controller.live.alarms.sending) is.high

  none_low : due controller.live.low_alarms.sending ≡ Nothing
  none_low = ap (due_behind controller.live.low_alarms.sending) is.low

  abbrev WaitsStill : Stepped → Type 0
  WaitsStill step = AllByRecursion (IsOutputs setup (Some serial) device) step.frames × WaitsForReady setup serial device spare step.controller

  pub waiting_unit : WaitsStill (step_of controller Tick)
  waiting_unit =
      let live = controller.live in
      let turn = turn_with (flow_later live) (sent_at live (due live.alarms.sending) (due live.low_alarms.sending)) in
      subst (λ (step : Stepped). WaitsStill step)
      (sym (by_turn controller turn
      (turn_there controller.setup live (unspent live (lasts live.left spare is.patient))
      (undue controller.setup (is_again live) (later live) (none_waits (later live) is.turnless.1)) is.established (unbegun_heard live.cyclic is.unbegun)
      (ap ending_by none_high) (ap ending_by none_low)))) (
        quiet serial setup device controller is.of_setup is.route.0 is.route.1 none_high none_low is.unasked is.alone is.turnless.0,
        record {
          of_setup = is.of_setup;
          in_phase = is.in_phase;
          unasked = is.unasked;
          patient = lasts_on live.left spare is.patient;
          established = is.established;
          route = is.route;
          high = ap (waiting_behind live.alarms.sending) is.high;
          low = ap (waiting_behind live.low_alarms.sending) is.low;
          low_limit = is.low_limit;
          alone = is.alone;
          turnless = is.turnless;
          unbegun = is.unbegun;
          limit = limit_later live.cyclic.begun live.cyclic.hearing ∙ is.limit;
        },
      )

-- ---- a frame of inputs

module _ (hears : InputsAreHeard) (sound : IsSound ethernet) (whole : IsSoundWhole layers) (setup : Setup) (identity : Identity) (good : IsSetup setup)
    (real : IsDevice identity) (controller : Controlling) (octets : List ℕ) (inputs : IsInputs setup identity octets) where
  pub waiting_inputs : (serial : ℕ) (spare : ℕ) → WaitsForReady setup serial identity.mac spare controller
      → ((controller_step controller octets).frames ≡ []) × WaitsForReady setup serial identity.mac spare (controller_step controller octets).controller
  waiting_inputs serial spare is =
      let step = inputs_on hears sound whole setup identity good real controller octets inputs is.of_setup in
      subst (λ (s : Stepped). (s.frames ≡ []) × WaitsForReady setup serial identity.mac spare s.controller) (sym step.is) (
        refl,
        record {
          of_setup = is.of_setup;
          in_phase = is.in_phase;
          unasked = is.unasked;
          patient = is.patient;
          established = is.established;
          route = (is.route.0, step.on.route ∙ is.route.1);
          high = is.high;
          low = is.low;
          low_limit = is.low_limit;
          alone = is.alone;
          turnless = is.turnless;
          unbegun = step.on.begun ∙ is.unbegun;
          limit = step.on.limit ∙ is.limit;
        },
      )

  pub quiet_inputs : (serial : ℕ) (age : ℕ) → Controls setup serial identity.mac age controller → controller.live.low_alarms.sending.waiting ≡ None
      → ((controller_step controller octets).frames ≡ []) × Controls setup serial identity.mac age (controller_step controller octets).controller
      × ((controller_step controller octets).controller.live.low_alarms.sending.waiting ≡ None)
      × (BeginsNoTurn controller.live → BeginsNoTurn (controller_step controller octets).controller.live)
  quiet_inputs serial age is none =
      let step = inputs_on hears sound whole setup identity good real controller octets inputs is.of_setup in
      subst (λ (s : Stepped). (s.frames ≡ []) × Controls setup serial identity.mac age s.controller × (s.controller.live.low_alarms.sending.waiting ≡ None)
      × (BeginsNoTurn controller.live → BeginsNoTurn s.controller.live))
      (sym step.is) (
        refl,
        record {
          of_setup = is.of_setup;
          in_phase = is.in_phase;
          established = is.established;
          few = is.few;
          route = step.on.route ∙ is.route;
          high = is.high;
          low = is.low;
          low_limit = is.low_limit;
          limit = step.on.limit ∙ is.limit;
          unasked = is.unasked;
          alone = is.alone;
          held_few = omega (arith, step.on.held, is.held_few);
        },
        none,
        λ turnless. turnless,
      )

-- ---- ApplicationReady

module _ (so : HeardSo) (setup : Setup) (identity : Identity) (good : IsSetup setup) (real : IsDevice identity) where
  waiting_turns : (live : Live) → live.phase ≡ Waiting
      → turn_of setup live (Frame (record { items = readied_frame setup identity })) ≡ begun so setup identity good real live
  waiting_turns live in_phase =
      let caller = device_as_caller setup identity in
      let call = ready_call (ready_for setup) in
      let block = (ready_for setup).block in
      ap (λ (heard : Heard). turned setup live heard) (ready_heard so setup identity good real)
      ∙ (ap (λ (b : Option ControlBlock). called setup live caller call b) (ready_is so setup identity good real)
      ∙ (where_so (is_ready setup block) (readied live caller call block live.phase) (stays live) (is_its_relation so setup identity good real)
      ∙ ap (λ (p : Phases). readied live caller call block p) in_phase))

  pub waiting_readied : (serial : ℕ) (controller : Controlling) (spare : ℕ) → WaitsForReady setup serial identity.mac spare controller
      → IsReadied so setup identity good real serial (controller_step controller (readied_frame setup identity))
  waiting_readied serial controller spare is =
      let turn = begun so setup identity good real controller.live in
      let next = step_by setup turn in
      let controls : Controls setup serial identity.mac 0 next.controller = record {
        of_setup = refl;
        in_phase = refl;
        established = is.established;
        few = is.route.0;
        route = is.route.1;
        high = is.high;
        low = subst (λ (w : Option ℕ). WaitsFew 0 w) (sym is.low) tt;
        low_limit = is.low_limit;
        limit = is.limit;
        unasked = refl;
        alone = is.alone;
        held_few = omega arith;
      } in
      subst (λ (s : Stepped). IsReadied so setup identity good real serial s)
      (sym (step_is setup controller (readied_frame setup identity) turn is.of_setup (waiting_turns controller.live is.in_phase)))
      (refl, controls, is.low, (is.turnless.0, inl is.turnless.1))
