-- The marks of an output change, and its IOPS follows.
use Rattle.std.proofs.Common.{◌≡◌, List, refl, ap, ◌∙◌}
use Rattle.controller_core.specs.declared.stored.outputs.OutputMark.{OutputMark}
use Rattle.controller_core.specs.stored.Outputs.{iops_of, mark_at}
use Rattle.controller_core.proofs.controller.Controller.remark.Goals as goal

pub returns : goal.returns
returns c =
    let iops : c.iops_in-iops.result ≡ iops_of (mark_at c.args.slot c.args.subslot c.change.new.marks.items) =
    c.iops_in-iops.ensures ∙ ap (λ (marks : List OutputMark). iops_of (mark_at c.args.slot c.args.subslot marks)) c.as_slice.ensures.value in
    rw (← c.self.view_is) (rw (c.state.ensures, iops, c.change.ensures) refl)
