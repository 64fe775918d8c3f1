-- A controller that has ended, in any state.
use Rattle.std.proofs.Common.{◌≡◌, Bool, true, false, [], ◌∷◌, Option, Some, refl, sym, ap, subst}
use Rattle.std.proofs.lemmas.Bool.{false≢true}
use Rattle.pn_values.specs.declared.mac.Mac.{Mac}
use Rattle.frame_codec.specs.Sendable.{IsMac}
use Rattle.controller_messages.specs.declared.request.Request.{Request}
use Rattle.controller_messages.specs.declared.request.Request.TheVariants as asks
use Rattle.controller_messages.specs.declared.setup.Setup.{Setup}
use Rattle.controller_core.specs.declared.stored.event.Event.{Event}
use Rattle.controller_core.specs.declared.stored.event.Event.TheVariants.{Frame, Tick}
use Rattle.controller_core.specs.declared.stored.state.Cause.{Cause}
use Rattle.controller_core.specs.declared.stored.state.State.{State}
use Rattle.controller_core.specs.declared.stored.state.State.TheVariants.{Ended}
use Rattle.controller_core.specs.stored.State.{Controlling}
use Rattle.controller_core.specs.Machine.{is_again, step_of}
use Rattle.network_world.specs.World.{is_ended}
use Rattle.end_laws.specs.sending.Sized.{AreFew}
use Rattle.end_laws.specs.turns.Ended.{HasEnded, release_in, where_due}
use Rattle.rounds_law.specs.Anywhere.{IsAnyController}
use Rattle.rounds_law.proofs.AnywhereControllerLaws.{ControllerLaws}
use Rattle.rounds_law.proofs.AnywhereControllerReached.{reached_kept}
use Rattle.rounds_law.proofs.AnywhereControllerSent.{request_said}
use Rattle.rounds_law.proofs.AnywhereParts.{AreOwn, EndedFrame, EndedUnit, IsRelease}

-- ---- the cause

-- An ended state has a cause.
record HasCause (phase : State) : Type 0 where
  cause : Cause
  is : phase ≡ Ended cause

cause_in : (phase : State) → is_ended phase ≡ true → HasCause phase
cause_in (Ended cause) over = record { cause = cause; is = refl }
cause_in phase over = absurd (false≢true over)

has_ended : (setup : Setup) (controller : Controlling) → IsAnyController setup controller → (over : is_ended controller.live.phase ≡ true)
    → HasEnded (cause_in controller.live.phase over).cause controller
has_ended setup controller any over = record { reached = any.reached; phase = (cause_in controller.live.phase over).is }

still_ended : ControllerLaws → (controller : Controlling) (cause : Cause) (event : Event) → HasEnded cause controller
    → is_ended (step_of controller event).controller.live.phase ≡ true
still_ended laws controller cause event ended = ap is_ended (laws.cause controller cause (event ∷ []) ended).phase

-- ---- the Release

release_own : (setup : Setup) (device : Mac) (asked : Option Request) (is_due : Bool) → IsMac device → AreFew asked
    → AreOwn setup IsRelease (where_due is_due (release_in setup device asked))
release_own setup device (Some (asks.Release sequence)) true mac few = (request_said setup IsRelease device (asks.Release sequence) mac few tt, tt)
release_own setup device (Some (asks.Release sequence)) false mac few = tt
release_own setup device asked is_due mac few = tt

-- ---- the parts

module _ (laws : ControllerLaws) (setup : Setup) where
  pub ended_frame : EndedFrame setup
  ended_frame controller octets any over =
      let ended = has_ended setup controller any over in
      let cause = (cause_in controller.live.phase over).cause in
      let event = Frame (record { items = octets }) in
      (still_ended laws controller cause event ended, (laws.dropped controller cause event ended refl).0)

  pub ended_unit : EndedUnit setup
  ended_unit good controller any over =
      let ended = has_ended setup controller any over in
      let cause = (cause_in controller.live.phase over).cause in
      let kept = reached_kept laws setup controller good any.of_setup any.reached in
      let sent = (laws.units controller cause ended).1 in
      let own : AreOwn setup IsRelease (where_due (is_again controller.live) (release_in controller.setup controller.live.device controller.live.asked)) =
      subst (λ (s : Setup). AreOwn setup IsRelease (where_due (is_again controller.live) (release_in s controller.live.device controller.live.asked)))
      (sym any.of_setup)
      (release_own setup controller.live.device controller.live.asked (is_again controller.live) kept.device kept.asked) in
      (still_ended laws controller cause Tick ended, subst (AreOwn setup IsRelease) (sym sent) own)
