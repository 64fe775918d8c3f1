-- It was refused, or not.
use Rattle.std.proofs.Common.{◌∙◌, ℕ, refl, sym, ap}
use Rattle.c_layout.specs.declared.op.Op.{Op}
use Rattle.device_abi.proofs.serving.conclude.Goals as goal

pub returns-then-is_refused : goal.returns-then-is_refused
returns-then-is_refused c =
    let op = c.args.op.now in
    rw (sym c.is_refused.ensures ∙ c.if-is_refused.true) (refl, ap (λ (n : ℕ). let told : Op = record op { reason = n } in told) c.number-op.ensures)

pub returns : goal.returns
returns c = rw (sym c.is_refused.ensures ∙ c.if-is_refused.false) (c.noted.ensures.answer, c.noted.ensures.reported)
