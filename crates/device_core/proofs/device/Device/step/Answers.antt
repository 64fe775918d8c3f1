-- The clauses on the event, from what its step does.
use Rattle.std.proofs.Common.{refl, ◌∙◌}
use Rattle.device_core.proofs.Faults.{heard_goes_on}
use Rattle.device_core.proofs.Steps.{refused_step, none_sent, identify_step, again_step}
use Rattle.device_core.proofs.Runs.{step_quietly, step_finely}
use Rattle.device_core.proofs.device.Device.step.Goals as goal

pub returns-clause-goes_on : goal.returns-clause-goes_on
returns-clause-goes_on g c =
    heard_goes_on c.args.self.now.station c.args.self.now.live _ _ _ _ c.respond.new.self.live
    refl c.respond.ensures.steps.goes_on

pub returns-clause-exact : goal.returns-clause-exact
returns-clause-exact g c = step_quietly g.F.Flash c.args.self.now c.respond.new.self _ c.args.event.now _ _
    refl c.respond.ensures.steps

pub returns-clause-reliable : goal.returns-clause-reliable
returns-clause-reliable g c = λ reliable fine.
    let now = c.respond.ensures.reliable reliable in (
      now.0,
      now.1 ∙ fine,
      step_finely g.F.Flash c.args.self.now c.respond.new.self _ c.args.event.now _ _
          refl c.respond.ensures.steps (now.1 ∙ fine),
    )

pub returns-clause-refused : goal.returns-clause-refused
returns-clause-refused g c = λ refused.
    let nothing = refused_step g.F.Flash c.args.self.now c.respond.new.self _ _ _ c.respond.ensures.steps refused in
    (nothing.0, none_sent _ c.respond.new.outbox.items nothing.1)

pub returns-clause-identify : goal.returns-clause-identify
returns-clause-identify g c = λ asker request is identify.
    identify_step g.F.Flash c.args.self.now c.respond.new.self _ _ _ c.respond.ensures.steps asker request
    is identify

pub returns-clause-again : goal.returns-clause-again
returns-clause-again g c = λ call frame served reported.
    again_step g.F.Flash c.args.self.now c.respond.new.self _ _ _ c.respond.ensures.steps call frame
    served reported
