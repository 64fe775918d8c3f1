-- The output and what the controller says of it, or nothing.
use Rattle.std.proofs.Common.{ap, refl, ◌∙◌}
use Rattle.c_layout.specs.declared.op.Op.{Op}
use Rattle.device_abi.specs.Serves.{with_statuses}
use Rattle.device_abi.proofs.serving.tell_found.Goals as goal

pub returns-in-Some : goal.returns-in-Some
returns-in-Some c =
    rw c.in-Some.is (refl, c.tell_status.ensures ∙ ap (λ (op : Op). with_statuses c.in-Some.value.status op) c.put.ensures)

pub returns-in-None : goal.returns-in-None
returns-in-None c = rw c.in-None.is (refl, refl)
