-- Both octets.
use Rattle.std.proofs.Common.{ℕ, ap, ◌∙◌}
use Rattle.c_layout.specs.declared.op.Op.{Op}
use Rattle.device_abi.proofs.serving.tell_status.Goals as goal

pub returns : goal.returns
returns c =
    let op = c.args.op.now in
    let status = c.args.status in
    ap (λ (n : ℕ). let told : Op = record op { iops = n; data_status = c.from-op-2.result } in told) c.from-op.ensures
    ∙ ap (λ (n : ℕ). let told : Op = record op { iops = status.iops; data_status = n } in told) c.from-op-2.ensures
