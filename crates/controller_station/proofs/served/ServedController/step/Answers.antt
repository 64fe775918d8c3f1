-- The plan's addresses stay those of the services, and the services answer what the controller drops.
use Rattle.std.proofs.Common.{refl, sym, ap, ◌∙◌, arith}
use Rattle.plans.specs.declared.parts.Controller.{Controller}
use Rattle.controller_messages.specs.declared.setup.Setup.{Setup}
use Rattle.controller_core.specs.Machine.{step_of}
use Rattle.controller_core.specs.stored.State.{Controlling}
use Rattle.controller_station.specs.Beside.{Beside}
use Rattle.controller_station.specs.contracts.served.ServedController.{the_view}
use Rattle.controller_station.specs.Runs.{all_at, sent_at}
use Rattle.controller_station.specs.Served.{answered, no_frames}
use Rattle.controller_station.proofs.Telling.{arp_untold}
use Rattle.controller_station.proofs.Told.{few_all, framed, told_all, untold_all}
use Rattle.controller_station.proofs.Besides.{alone_sent, arp_answered, arp_dropped, few_beside, plan_kept, step_keeps}
use Rattle.controller_station.proofs.served.ServedController.step.Goals as goal

pub invariant_of-self : goal.invariant_of-self
invariant_of-self c =
    let inside = c.self.inside in
    let kept = step_keeps inside.services c.args.event.now (step_of inside.controller c.args.event.now).frames in
    let services = c.advance.ensures.services in
    let plan =
    ap (λ (controller : Controlling). controller.setup.plan.controller) c.advance.ensures.controller
    ∙ ap (λ (setup : Setup). setup.plan.controller) (plan_kept inside.controller c.args.event.now) in (
      ap (λ (state : Beside). state.ip.role) services ∙ kept.0 ∙ c.self.invariant.0,
      ap (λ (state : Beside). state.ip.mac) services ∙ kept.1 ∙ c.self.invariant.1 ∙ sym (ap (λ (controller : Controller). controller.mac) plan),
      ap (λ (state : Beside). state.ip.address) services ∙ kept.2 ∙ c.self.invariant.2 ∙ sym (ap (λ (controller : Controller). controller.address) plan),
      omega arith,
    )

pub returns-clause-beside : goal.returns-clause-beside
returns-clause-beside c = rw (← c.self.view_is) (
    rw (c.advance.ensures.frames, c.advance.ensures.beside) refl)

pub returns-clause-arp : goal.returns-clause-arp
returns-clause-arp c = rw (← c.self.view_is) (λ octets meaning packet is e f sought.
    let view = the_view c.self.inside in
    rw (c.advance.ensures.frames, c.advance.ensures.beside) (ap (all_at view) is
    ∙ ap (answered view.controller.setup.plan (framed octets)) (arp_answered view c.self.invariant.0 c.self.invariant.1 c.self.invariant.2 octets meaning packet e f sought)))

pub returns-clause-arp_dropped : goal.returns-clause-arp_dropped
returns-clause-arp_dropped c = rw (← c.self.view_is) (λ octets meaning packet is e f sought.
    let view = the_view c.self.inside in
    let plan = view.controller.setup.plan in
    rw (c.advance.ensures.frames, c.advance.ensures.beside) (ap (all_at view) is
    ∙ ap (answered plan (framed octets)) (arp_dropped view c.self.invariant.0 c.self.invariant.1 c.self.invariant.2 octets meaning packet e f sought)
    ∙ untold_all plan octets no_frames (arp_untold plan octets meaning packet e f)))

pub returns-clause-dropped : goal.returns-clause-dropped
returns-clause-dropped c = rw (← c.self.view_is) (λ octets is e.
    let view = the_view c.self.inside in
    rw (c.advance.ensures.frames, c.advance.ensures.beside) (ap (answered view.controller.setup.plan c.args.event.now) (ap (sent_at view) is
    ∙ alone_sent view c.self.invariant.0 c.self.invariant.1 c.self.invariant.2 octets e)))

pub returns-clause-told : goal.returns-clause-told
returns-clause-told c = rw (← c.self.view_is) (λ octets frame is told.
    let view = the_view c.self.inside in
    rw (c.advance.ensures.frames, c.advance.ensures.beside) (ap (all_at view) is ∙ told_all view octets frame told))

pub returns-clause-untold : goal.returns-clause-untold
returns-clause-untold c = rw (← c.self.view_is) (λ octets is none.
    let view = the_view c.self.inside in
    rw (c.advance.ensures.frames, c.advance.ensures.beside) (ap (all_at view) is
    ∙ untold_all view.controller.setup.plan octets (sent_at view (framed octets)) none ∙ sym (ap (sent_at view) is)))

pub returns-clause-few : goal.returns-clause-few
returns-clause-few c = rw c.advance.ensures.beside (few_all c.self.inside.controller.setup.plan c.args.event.now _ _ (few_beside c.self.inside.services c.args.event.now (step_of c.self.inside.controller c.args.event.now).frames))
