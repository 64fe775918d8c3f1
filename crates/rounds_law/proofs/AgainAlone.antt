-- A controller that exchanges data and whose device is silent.
use Rattle.std.proofs.Common.{◌≡◌, ◌⊎◌, inl, inr, ◌+◌, ◌-◌, ◌==◌, ◌&&◌, ◌≤◌, ℕ, zero, suc, Bool, true, false, Some, if◌then◌else◌, refl, sym, ap, subst, ◌∙◌}
use Rattle.std.proofs.Common.{arith}
use Rattle.std.specs.Prelude.{min}
use Rattle.std.proofs.lemmas.Bool.{eq-eqb}
use Rattle.pn_values.specs.declared.mac.Mac.{Mac}
use Rattle.pn_alarms.specs.declared.abort.Abort.TheVariants as reason
use Rattle.pn_alarms.specs.declared.pdu.PduType.TheVariants as pdu
use Rattle.pn_alarms.specs.declared.repeats.Due.TheVariants.{Nothing}
use Rattle.pn_alarms.specs.Sending.{due, due_behind, either_due, waiting_behind}
use Rattle.cyclic_data.specs.Timing.{Hearing, held_on}
use Rattle.cyclic_data.specs.declared.exchange.route.Route.{Route}
use Rattle.cyclic_data.specs.exchange.Cyclic.{Cyclic}
use Rattle.cyclic_data.specs.exchange.Units.{Brought, ending_by, is_silent, tick_by}
use Rattle.controller_messages.specs.declared.setup.Setup.{Setup}
use Rattle.controller_messages.specs.Sent.{Ends, bytes_of}
use Rattle.controller_core.specs.declared.stored.event.Event.TheVariants.{Tick}
use Rattle.controller_core.specs.declared.stored.state.State.{State as Phases}
use Rattle.controller_core.specs.Machine.{brought, ended_by, flow_later, flowed, gone_on, is_again, is_spent, later, step_of, ticked, turn_due}
use Rattle.controller_core.specs.stored.Alarms.{header_of}
use Rattle.controller_core.specs.stored.State.{Controlling, Live, is_limited}
use Rattle.rounds_law.specs.Again.{HasLeft, HasWaited, IsAlone}
use Rattle.rounds_law.proofs.ControllerPassingParts.{limit_later}
use Rattle.rounds_law.proofs.ControllerPassingUnits.{by_turn, goes_on, quiet, sent_at, turn_there, turn_with}
use Rattle.rounds_law.proofs.PlaceTurns.{none_waits, undue}

-- ---- the data hold time

-- It is not over: two units are left at least.
few_left : (held limit : ℕ) → (held + 2 ≤ limit) ⊎ (limit ≤ held + 1) → (min limit (held + 1) == limit) ≡ false → held + 2 ≤ limit
few_left held limit (inl few) e = few
few_left held limit (inr over) e = not_both (sym (eq-eqb (min limit (held + 1)) limit (omega (arith, over))) ∙ e)
  where
    not_both : true ≡ false → held + 2 ≤ limit
    not_both bad = absurd cc

either_left : (held limit : ℕ) → (held + 2 ≤ limit) ⊎ (limit ≤ held + 1)
either_left held zero = inr (omega arith)
either_left held (suc zero) = inr (omega arith)
either_left zero (suc (suc limit)) = inl (omega arith)
either_left (suc held) (suc (suc limit)) = one_more (either_left held (suc limit))
  where
    one_more : (held + 2 ≤ suc limit) ⊎ (suc limit ≤ held + 1) → (suc held + 2 ≤ suc (suc limit)) ⊎ (suc (suc limit) ≤ suc held + 1)
    one_more (inl few) = inl (omega (arith, few))
    one_more (inr over) = inr (omega (arith, over))

pub still_few : (cyclic : Cyclic) → cyclic.begun ≡ true → is_silent cyclic ≡ false → cyclic.hearing.held + 2 ≤ cyclic.hearing.limit
still_few cyclic begun heard =
    few_left cyclic.hearing.held cyclic.hearing.limit (either_left cyclic.hearing.held cyclic.hearing.limit)
    (sym (ap (λ (b : Bool). b && (held_on cyclic.hearing).held == cyclic.hearing.limit) begun) ∙ heard)

pub held_on_more : (begun : Bool) (hearing : Hearing) → begun ≡ true → hearing.held + 2 ≤ hearing.limit
    → (if begun then held_on hearing else hearing).held ≡ hearing.held + 1
held_on_more true hearing is few = omega (arith, few)
held_on_more false hearing is few = absurd cc

-- ---- a unit

-- The unit with which it is over.
silent_turn : (setup : Setup) (live : Live) → is_spent live ≡ false → turn_due setup (is_again live) (later live) ≡ later live
    → live.stands ≡ true → is_silent live.cyclic ≡ true
    → ticked setup live ≡ ended_by (flow_later live) reason.DataHold
silent_turn setup live more none stands silent =
    let high = due live.alarms.sending in
    let low = due live.low_alarms.sending in
    let moved : gone_on (later live) (is_again live)
    ≡ flowed (flow_later live) high low (is_again live) (brought (later live)) (brought (later live)).ending = rw stands refl in
    let brings : brought (later live) ≡ tick_by live.cyclic (either_due high low) (Some reason.DataHold)
    = ap (λ (b : Bool). tick_by live.cyclic (either_due high low) (if b then Some reason.DataHold else ending_by (either_due high low))) silent in
    goes_on setup live more none ∙ (moved ∙ ap (λ (b : Brought). flowed (flow_later live) high low (is_again live) b b.ending) brings)

module _ (setup : Setup) (serial : ℕ) (device : Mac) (left : ℕ) (controller : Controlling) (is : IsAlone setup serial device left controller) where
  unlimited : is_spent controller.live ≡ false
  unlimited = ap (λ (p : Phases). is_limited p && controller.live.left == 1) is.in_phase

  -- No turn begins.
  turnless : turn_due controller.setup (is_again controller.live) (later controller.live) ≡ later controller.live
  turnless = undue controller.setup (is_again controller.live) (later controller.live) (none_waits (later controller.live) is.turnless.1)

  ends : is_silent controller.live.cyclic ≡ true → HasLeft setup serial device (step_of controller Tick)
  ends silent =
      let live = controller.live in
      let header = header_of (flow_later live).alarms live.cyclic.route pdu.Error in
      let whole = by_turn controller (ended_by (flow_later live) reason.DataHold)
      (silent_turn controller.setup live unlimited turnless is.established silent) in
      subst (HasLeft setup serial device) (sym whole) (record {
        octets = bytes_of controller.setup (Ends live.cyclic.route header reason.DataHold);
        frames = refl;
        end = record {
          header = header;
          reason = reason.DataHold;
          few = is.few;
          frame = ap (λ (s : Setup). bytes_of s (Ends live.cyclic.route header reason.DataHold)) is.of_setup
              ∙ ap (λ (r : Route). bytes_of setup (Ends r header reason.DataHold)) is.route;
        };
        ended = record { of_setup = is.of_setup; in_phase = refl; unasked = refl; unestablished = refl; alone = (refl, refl) };
      })

  waits : is_silent controller.live.cyclic ≡ false → HasWaited setup serial device left (step_of controller Tick)
  waits heard =
      let live = controller.live in
      let none_high : due live.alarms.sending ≡ Nothing = ap (due_behind live.alarms.sending) is.high in
      let none_low : due live.low_alarms.sending ≡ Nothing = ap (due_behind live.low_alarms.sending) is.low in
      let few = still_few live.cyclic is.begun heard in
      let held = held_on_more live.cyclic.begun live.cyclic.hearing is.begun few in
      let limit = limit_later live.cyclic.begun live.cyclic.hearing in
      let turn = turn_with (flow_later live) (sent_at live (due live.alarms.sending) (due live.low_alarms.sending)) in
      let whole = by_turn controller turn
      (turn_there controller.setup live unlimited turnless is.established heard (ap ending_by none_high) (ap ending_by none_low)) in
      subst (HasWaited setup serial device left) (sym whole) (record {
        fewer = left - 1;
        less = omega (arith, few, is.time);
        outputs = quiet serial setup device controller is.of_setup is.few is.route none_high none_low is.unasked is.alone is.turnless.0;
        alone = record {
          of_setup = is.of_setup;
          in_phase = is.in_phase;
          established = is.established;
          few = is.few;
          route = is.route;
          high = ap (waiting_behind live.alarms.sending) is.high;
          low = ap (waiting_behind live.low_alarms.sending) is.low;
          unasked = is.unasked;
          alone = is.alone;
          turnless = is.turnless;
          begun = is.begun;
          time = omega (arith, few, is.time, held, limit);
        };
      })

  by_silence : (silent : Bool) → is_silent controller.live.cyclic ≡ silent
      → HasLeft setup serial device (step_of controller Tick) ⊎ HasWaited setup serial device left (step_of controller Tick)
  by_silence true e = inl (ends e)
  by_silence false e = inr (waits e)

  pub alone_unit : HasLeft setup serial device (step_of controller Tick) ⊎ HasWaited setup serial device left (step_of controller Tick)
  alone_unit = by_silence (is_silent controller.live.cyclic) refl
