-- One event, by the step of the controller.
use Rattle.std.proofs.Common.{◌++◌, [], ◌∷◌, ap, ◌∙◌}
use Rattle.controller_core.specs.Machine.{step_of}
use Rattle.controller_core.specs.stored.State.{Controlling}
use Rattle.exchange_law.proofs.controller.turn.Goals as goal

pub returns : goal.returns
returns g c =
    let old = c.args.controller.now in
    let event = c.args.event.now in
    record {
      told = c.tell.ensures
          ∙ (ap (λ frames. g.W.Witness.told c.args.witness.now ++ record { event = event; sent = frames; state = c.state.result } ∷ []) c.step.ensures.frames
          ∙ ap (λ state. g.W.Witness.told c.args.witness.now ++ record { event = event; sent = (step_of old event).frames; state = state } ∷ [])
          (c.state.ensures ∙ ap (λ (controlling : Controlling). controlling.live.phase) c.step.ensures.state));
      becomes = c.step.ensures.state;
    }
