-- A unit at a controller in any state.
use Rattle.std.proofs.Common.{◌≡◌, ◌≤◌, ◌-◌, ◌==◌, ℕ, suc, Bool, true, false, [], ◌∷◌, Option, Some, None, if◌then◌else◌, refl, sym, ap, subst, ◌∙◌, arith}
use Rattle.std.proofs.lemmas.Bool.{and_parts, false≢true}
use Rattle.pn_alarms.specs.declared.abort.Abort.{Abort}
use Rattle.pn_alarms.specs.declared.repeats.Due.{Due}
use Rattle.pn_alarms.specs.Sending.{due}
use Rattle.pn_alarms.specs.Sending.{is_again as is_repeated}
use Rattle.cyclic_data.specs.exchange.Units.{Brought}
use Rattle.controller_messages.specs.declared.plug_request.PlugRequest.{PlugRequest}
use Rattle.controller_messages.specs.declared.request.Request.{Request}
use Rattle.controller_messages.specs.declared.request.Request.TheVariants as asks
use Rattle.controller_messages.specs.declared.setup.ControllerOptions.{ControllerOptions}
use Rattle.controller_messages.specs.declared.setup.Setup.{Setup}
use Rattle.controller_messages.specs.Sent.{Requests}
use Rattle.controller_core.specs.declared.stored.state.Cause.TheVariants.{NoProgress}
use Rattle.controller_core.specs.declared.stored.state.State.{State}
use Rattle.controller_core.specs.declared.stored.state.State.TheVariants.{Looking, Addressing, Connecting, Writing, Ending, Waiting, Exchanging, Ended}
use Rattle.controller_core.specs.start_up.Requests.{next_sequence}
use Rattle.controller_core.specs.stored.State.{Live, is_limited}
use Rattle.controller_core.specs.Machine.{Turn, brought, flow_later, flowed, gone_on, is_again, is_spent, later, plugs_by, quit, requests_of, ticked, where_due}
use Rattle.end_laws.specs.sending.Sized.{AreFew}
use Rattle.rounds_law.proofs.AnywhereControllerKept.{IsKept, flow_kept}
use Rattle.rounds_law.proofs.AnywhereControllerSent.{AreSaid, IsChosenIn, IsSaid, due_said, ended, request_said}
use Rattle.rounds_law.proofs.AnywhereControllerSizes.{due_all, sequence_few}
use Rattle.rounds_law.proofs.AnywhereControllerTurns.{all_allowed, not_exchanging, over_routed}
use Rattle.rounds_law.proofs.AnywhereParts.{IsAnything, ahead_in}
use Rattle.rounds_law.proofs.PlaceTurns.{elsewhere, undue}

-- ---- the units until the exchange or the end

limited_ahead : (options : ControllerOptions) (left : ℕ) (phase : State) → is_limited phase ≡ true → 1 ≤ left → 1 ≤ ahead_in options left phase
limited_ahead options left Addressing limited more = omega (arith, more)
limited_ahead options left Connecting limited more = omega (arith, more)
limited_ahead options left Writing limited more = omega (arith, more)
limited_ahead options left Ending limited more = omega (arith, more)
limited_ahead options left Waiting limited more = omega (arith, more)
limited_ahead options left phase limited more = absurd (false≢true limited)

later_ahead : (options : ControllerOptions) (left : ℕ) (phase : State) → is_limited phase ≡ true → 1 ≤ left
    → suc (ahead_in options (left - 1) phase) ≤ ahead_in options left phase
later_ahead options left Addressing limited more = omega (arith, more)
later_ahead options left Connecting limited more = omega (arith, more)
later_ahead options left Writing limited more = omega (arith, more)
later_ahead options left Ending limited more = omega (arith, more)
later_ahead options left Waiting limited more = omega (arith, more)
later_ahead options left phase limited more = absurd (false≢true limited)

-- After a unit no request of the application waits, and there is one unit less until the exchange or the end.
pub record PassesWell (setup : Setup) (live : Live) (turn : Turn) : Type 0 where
  pub said : AreSaid setup IsAnything turn.sent
  pub routed : turn.live.stands ≡ true → IsChosenIn turn.live.cyclic.route
  pub alone : turn.live.access.waiting ≡ None
  pub ahead : is_limited live.phase ≡ true → suc (ahead_in setup.options turn.live.left turn.live.phase) ≤ ahead_in setup.options live.left live.phase

module _ (setup : Setup) (live : Live) (kept : IsKept setup live) (routed : live.stands ≡ true → IsChosenIn live.cyclic.route)
    (alone : live.access.waiting ≡ None) (unplugged : live.access.plug ≡ None) (other : live.phase ≡ Exchanging → ⊥)
    (timed : is_limited live.phase ≡ true → 1 ≤ live.left) where
  over_well : (turn : Turn) → AreSaid setup IsAnything turn.sent → turn.live.stands ≡ false → turn.live.access.waiting ≡ None
      → ahead_in setup.options turn.live.left turn.live.phase ≡ 0 → PassesWell setup live turn
  over_well turn said down none end = record {
    said = said;
    routed = λ up. over_routed turn.live.cyclic.route (sym down ∙ up);
    alone = none;
    ahead = λ limited. let more = limited_ahead setup.options live.left live.phase limited (timed limited) in omega (arith, more, end);
  }

  release_said : AreSaid setup IsAnything (Requests live.device (asks.Release (next_sequence setup.plan live.access.calls live.asked)) ∷ [])
  release_said = (
    request_said setup IsAnything live.device (asks.Release (next_sequence setup.plan live.access.calls live.asked)) kept.device
        (sequence_few setup.plan live.access.calls live.asked kept.asked) tt,
    tt,
  )

  quit_well : (phase : State) → live.phase ≡ phase → is_limited live.phase ≡ true → PassesWell setup live (quit setup NoProgress (later live) phase)
  quit_well Looking e limited = over_well _ tt refl refl refl
  quit_well Addressing e limited = over_well _ tt refl refl refl
  quit_well (Ended cause) e limited = absurd (false≢true (sym (ap is_limited e) ∙ limited))
  quit_well phase e limited = over_well _ release_said refl refl refl

  flows_well : live.stands ≡ true → (high low : Due) (tick : Brought) (ending : Option Abort)
      → PassesWell setup live (flowed (flow_later live) high low (is_again live) tick ending)
  flows_well up high low tick (Some reason) =
      over_well _ (ended setup IsAnything (flow_later live) (flow_kept setup live kept) (routed up) (all_allowed live.cyclic.route) reason, tt) refl refl refl
  flows_well up high low tick None = record {
    said = due_said setup IsAnything (flow_later live) (flow_kept setup live kept) (routed up) (all_allowed live.cyclic.route) (λ request e. tt) alone
        (subst (λ (plug : Option PlugRequest). AreSaid setup IsAnything (plugs_by live.device plug)) (sym unplugged) tt)
        (is_repeated high) (is_repeated low) (is_again live) tick.is_cyclic;
    routed = routed;
    alone = alone;
    ahead = λ limited. later_ahead setup.options live.left live.phase limited (timed limited);
  }

  requests_said : (asked : Option Request) → AreFew asked → AreSaid setup IsAnything (requests_of live.device asked)
  requests_said (Some request) few = (request_said setup IsAnything live.device request kept.device few tt, tt)
  requests_said None few = tt

  goes_well : (stands : Bool) → live.stands ≡ stands
      → PassesWell setup live (if stands
      then flowed (flow_later live) (due live.alarms.sending) (due live.low_alarms.sending) (is_again live) (brought (later live)) (brought (later live)).ending
      else record { live = later live; sent = where_due (is_again live) (requests_of live.device live.asked) })
  goes_well true up = flows_well up (due live.alarms.sending) (due live.low_alarms.sending) (brought (later live)) (brought (later live)).ending
  goes_well false down = record {
    said = due_all (IsSaid setup IsAnything) (is_again live) (requests_of live.device live.asked) (requests_said live.asked kept.asked);
    routed = routed;
    alone = alone;
    ahead = λ limited. later_ahead setup.options live.left live.phase limited (timed limited);
  }

  by_patience : (spent : Bool) → is_spent live ≡ spent
      → PassesWell setup live (if spent then quit setup NoProgress (later live) live.phase else gone_on (later live) (is_again live))
  by_patience true e = quit_well live.phase refl (and_parts (is_limited live.phase) (live.left == 1) e).0
  by_patience false e = goes_well live.stands refl

  pub unit_well : PassesWell setup live (ticked setup live)
  unit_well =
      subst (PassesWell setup live)
      (ap (λ (l : Live). if is_spent live then quit setup NoProgress (later live) live.phase else gone_on l (is_again live))
      (sym (undue setup (is_again live) (later live) (elsewhere (later live) (not_exchanging live.phase other)))))
      (by_patience (is_spent live) refl)
