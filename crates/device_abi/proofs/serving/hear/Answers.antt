-- No alarm is open: nothing becomes of one.
use Rattle.std.proofs.Common.{◌∙◌, sym}
use Rattle.device_abi.proofs.Confirming.{heard_without}
use Rattle.device_abi.proofs.serving.hear.Goals as goal

pub returns : goal.returns
returns c =
    heard_without c.args.port.now _ c.args.op.now c.hear_any.result c.hear_any.new.port c.hear_any.new.op (sym c.is_open.ensures ∙ c.if-is_open.false) c.hear_any.ensures
