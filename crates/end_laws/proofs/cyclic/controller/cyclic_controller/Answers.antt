use Rattle.std.proofs.Common.{ap, ℕ, List, sym, subst, ◌∙◌}
use Rattle.controller_core.specs.declared.stored.event.Event.{Event}
use Rattle.controller_core.specs.Machine.{Stepped, step_of}
use Rattle.controller_core.specs.stored.State.{Controlling}
use Rattle.end_laws.specs.cyclic.Controller.{cycle_in, provider_in}
use Rattle.end_laws.specs.cyclic.Ends.{AreProvided, got_at}
use Rattle.end_laws.proofs.CyclicController.{accepts_in, leaves_in}
use Rattle.end_laws.proofs.CyclicOutputs.{sends_in}
use Rattle.end_laws.proofs.cyclic.controller.cyclic_controller.Goals as goal

pub returns-clause-accepts : goal.returns-clause-accepts
returns-clause-accepts c = λ frame up is able.
    c.step.ensures.state ∙ (ap (λ (e : Event). (step_of c.args.controller.now e).controller) is ∙ ap (λ (s : Stepped). s.controller) (accepts_in c.args.controller.now frame up able))

pub returns-clause-silent : goal.returns-clause-silent
returns-clause-silent c = λ frame up is able.
    c.step.ensures.frames ∙ (ap (λ (e : Event). (step_of c.args.controller.now e).frames) is ∙ ap (λ (s : Stepped). s.frames) (accepts_in c.args.controller.now frame up able))

pub returns-clause-leaves : goal.returns-clause-leaves
returns-clause-leaves c = λ none up.
    ap (λ (controlling : Controlling). got_at controlling.live.cyclic) c.step.ensures.state
    ∙ leaves_in c.args.controller.now c.args.event.now none (ap (λ (controlling : Controlling). controlling.live.stands) (sym c.step.ensures.state) ∙ up)

pub returns-clause-sends : goal.returns-clause-sends
returns-clause-sends c = λ sized is.
    subst (λ (frames : List (List ℕ)). AreProvided (provider_in c.args.controller.now) (cycle_in c.args.controller.now) frames)
    (sym (c.step.ensures.frames ∙ ap (λ (e : Event). (step_of c.args.controller.now e).frames) is)) (sends_in c.frames_are_read.ensures.real_time c.args.controller.now sized)
