-- A cyclic frame to the controller sends nothing, and puts off what is due.
use Rattle.std.proofs.Common.{◌≡◌, ◌≤◌, true, refl, sym, ap, subst, ◌∙◌}
use Rattle.std.specs.Prelude.{nat_eq}
use Rattle.std.specs.Cmp.Lexicographic.{pointwise}
use Rattle.pn_values.specs.declared.mac.Mac.{Mac}
use Rattle.frame_codec.specs.Meaning.{meaning_as}
use Rattle.plans.specs.declared.parts.Controller.{Controller as Own}
use Rattle.controller_core.specs.Leaps.{live_due_in}
use Rattle.controller_core.specs.Quiet.{silently}
use Rattle.controller_core.specs.stored.State.{Controlling}
use Rattle.controller_core.proofs.Taking.{come_later, cyclic_steps}
use Rattle.controller_core.proofs.controller.Controller.take_real_time.Goals as goal

pub returns-clause-taken : goal.returns-clause-taken
returns-clause-taken c = λ octets read _.
    let old = c.args.self.now in
    let frame = c.args.frame.now in
    let mac = ap (λ (own : Own). own.mac) (c.controller.ensures.value ∙ ap (λ (controlling : Controlling). controlling.setup.plan.controller) c.self.view_is) in
    let own : pointwise nat_eq frame.destination.octets old.setup.plan.controller.mac.octets ≡ true =
    sym (ap (λ (m : Mac). pointwise nat_eq frame.destination.octets m.octets) mac) ∙ (sym c.is.ensures ∙ c.if-not-is.false) in
    cyclic_steps old octets (meaning_as frame) frame.frame_id frame.body.now read refl own (sym c.is_cyclic.ensures ∙ c.if-not-is_cyclic.false)
    ∙ ap silently (sym c.hear_cyclic.ensures)

pub returns-clause-due : goal.returns-clause-due
returns-clause-due c =
    let old = c.args.self.now in
    let frame = c.args.frame.now in
    subst (λ (n : Controlling). live_due_in old.live ≤ live_due_in n.live) (sym c.hear_cyclic.ensures) (come_later old.live frame.source frame.frame_id frame.body.now)
