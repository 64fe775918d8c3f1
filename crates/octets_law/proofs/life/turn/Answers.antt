-- One event, by the step of the device.
use Rattle.std.proofs.Common.{◌++◌, [], ◌∷◌, ap, ◌∙◌}
use Rattle.device_core.specs.Machine.{step_of}
use Rattle.octets_law.proofs.Turned.{handed_is}
use Rattle.octets_law.proofs.life.turn.Goals as goal

pub returns : goal.returns
returns g c =
    let step = c.step.ensures.steps in
    let old = c.args.device.now in
    record {
      outcomes = step.outcomes;
      same = step.same;
      live = step.live;
      told = c.tell.ensures ∙ ap (λ f. g.W.Witness.told c.args.witness.now ++ (c.args.event.now, f) ∷ [])
          (handed_is c.is_lost.result _ _ (step_of step.outcomes old.station old.live c.args.event.now) c.forget_if.ensures (c.is_lost.ensures ∙ ap (λ l. l.values.is_lost) step.live) step.frames);
      sendable = step.sendable;
      small = c.fits.ensures;
      continues = step.continues;
    }
