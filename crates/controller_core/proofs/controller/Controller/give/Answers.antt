-- An output is set: with the first value its IOPS follows.
use Rattle.std.proofs.Common.{List, ap, ◌∙◌}
use Rattle.controller_core.specs.contracts.controller.Controller.{the_view}
use Rattle.controller_core.specs.declared.stored.outputs.OutputMark.{OutputMark}
use Rattle.controller_core.specs.stored.Outputs.{awaits}
use Rattle.controller_core.specs.stored.State.{with_live}
use Rattle.controller_core.proofs.OutputsGiven.{first_given, next_given, none_given}
use Rattle.controller_core.proofs.controller.Controller.give.Goals as goal
use Rattle.controller_core.proofs.controller.Controller.give.Goals.{else-give-via-then-give+else-awaits, else-give-via-else-give}

pub returns-then-awaits : goal.returns-then-awaits
returns-then-awaits c =
    let old = the_view c.self.inside in
    let first = c.awaits.ensures ∙ ap (λ (marks : List OutputMark). awaits c.args.slot c.args.subslot marks) c.as_slice.ensures.value in
    rw (← c.self.view_is) (c.remark.ensures
    ∙ ap (with_live old) (first_given old.live c.args.slot c.args.subslot c.args.value.now c.give.result c.awaits.result c.give.new.self c.if-give.true c.if-awaits.true
    c.give.ensures.done c.give.ensures.state first))

pub returns-else-give : goal.returns-else-give
returns-else-give c =
    let old = the_view c.self.inside in
    elim c.else-give.branch [
      | else-give-via-then-give+else-awaits w ↦
          let first = w.awaits.ensures ∙ ap (λ (marks : List OutputMark). awaits c.args.slot c.args.subslot marks) w.as_slice.ensures.value in
          rw (← c.self.view_is) (w.self-is
          ∙ ap (with_live old) (next_given old.live c.args.slot c.args.subslot c.args.value.now c.give.result w.awaits.result c.give.new.self w.if-give.true w.if-awaits.false
          c.give.ensures.done c.give.ensures.state first))
      | else-give-via-else-give w ↦
          rw (← c.self.view_is) (w.self-is
          ∙ ap (with_live old) (none_given old.live c.args.slot c.args.subslot c.args.value.now c.give.result c.give.new.self w.if-give.false c.give.ensures.done c.give.ensures.state))
    ]
