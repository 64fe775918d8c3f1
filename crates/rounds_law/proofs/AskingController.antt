-- A unit at a controller whose relation is not established.
use Rattle.std.proofs.Common.{◌≡◌, ◌==◌, ◌&&◌, Bool, true, false, [], ◌∷◌, map, Option, refl, sym, ap, subst, ◌∙◌}
use Rattle.std.specs.Prelude.{if◌then◌else◌}
use Rattle.std.proofs.lemmas.Bool.{ne_eqb}
use Rattle.pn_values.specs.declared.mac.Mac.{Mac}
use Rattle.controller_messages.specs.declared.request.Request.{Request}
use Rattle.controller_messages.specs.declared.setup.Setup.{Setup}
use Rattle.controller_messages.specs.Sent.{Requests, bytes_of}
use Rattle.controller_core.specs.declared.stored.event.Event.TheVariants.{Tick}
use Rattle.controller_core.specs.declared.stored.state.Cause.TheVariants.{NoProgress}
use Rattle.controller_core.specs.declared.stored.state.State.{State as Phases}
use Rattle.controller_core.specs.Machine.{Stepped, Turn, gone_on, is_again, is_spent, later, quit, requests_of, step_of, stepped, turn_due, turn_of, where_due}
use Rattle.controller_core.specs.stored.State.{Controlling, Live, is_limited}
use Rattle.rounds_law.specs.Path.{HasAsked}
use Rattle.rounds_law.specs.Asking.{AsksAgain}
use Rattle.rounds_law.proofs.AbandonedController.{gone_with}
use Rattle.rounds_law.proofs.ControllerCallingAsks.{step_by}
use Rattle.rounds_law.proofs.ControllerPassingUnits.{turn_with}
use Rattle.rounds_law.proofs.PlaceTurns.{undue, without_relation}

module _ (setup : Setup) (device : Mac) (phase : Phases) (request : Request) (controller : Controlling)
    (it : HasAsked setup device phase request controller) (lasts : is_limited phase ≡ true → controller.live.left ≡ 1 → ⊥) where
  unspent : is_spent controller.live ≡ false
  unspent = ap (λ (p : Phases). is_limited p && controller.live.left == 1) it.in_phase ∙ by_limit (is_limited phase) refl
    where
      by_limit : (limited : Bool) → is_limited phase ≡ limited → (limited && controller.live.left == 1) ≡ false
      by_limit true e = ne_eqb controller.live.left 1 (lasts e)
      by_limit false e = refl

  once : (again : Bool) → map (bytes_of setup) (where_due again (Requests device request ∷ []))
      ≡ (if again then bytes_of setup (Requests device request) ∷ [] else [])
  once true = refl
  once false = refl

  pub asks_again : AsksAgain setup device phase request controller (step_of controller Tick)
  unfolding step_of
  asks_again =
      let live = controller.live in
      let turn : turn_of setup live Tick ≡ turn_with (later live) (where_due (is_again live) (Requests device request ∷ []))
      = ap (λ (b : Bool). if b then quit setup NoProgress (later live) live.phase
      else gone_on (turn_due setup (is_again live) (later live)) (is_again live)) unspent
      ∙ (ap (λ (l : Live). gone_on l (is_again live)) (undue setup (is_again live) (later live) (without_relation (later live) it.unestablished))
      ∙ (ap (λ (b : Bool). gone_with (later live) (is_again live) b) it.unestablished
      ∙ (ap (λ (a : Option Request). turn_with (later live) (where_due (is_again live) (requests_of live.device a))) it.asked
      ∙ ap (λ (d : Mac). turn_with (later live) (where_due (is_again live) (Requests d request ∷ []))) it.of_device))) in
      let step : step_of controller Tick ≡ step_by setup (turn_with (later live) (where_due (is_again live) (Requests device request ∷ [])))
      = ap (λ (s : Setup). stepped (record { setup = s; live = live }) (turn_of s live Tick)) it.of_setup ∙ ap (λ (t : Turn). step_by setup t) turn in
      subst (λ (s : Stepped). AsksAgain setup device phase request controller s) (sym step) (record {
        frames = once (is_again live);
        asked = record {
          of_setup = refl;
          in_phase = it.in_phase;
          asked = it.asked;
          of_device = it.of_device;
          unestablished = it.unestablished;
          high = it.high;
          low = it.low;
          low_limit = it.low_limit;
          alone = it.alone;
          unbegun = it.unbegun;
          limit = it.limit;
        };
        waits = refl;
        left = refl;
      })
