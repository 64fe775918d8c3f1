-- No alarm is open: nothing becomes of one.
use Rattle.std.proofs.Common.{◌∙◌, sym}
use Rattle.device_abi.proofs.Confirming.{passed_without}
use Rattle.device_abi.proofs.serving.tick_any.Goals as goal

pub returns : goal.returns
returns c =
    passed_without c.args.port.now c.args.op.now c.tick_all.result c.tick_all.new.port c.tick_all.new.op (sym c.is_open.ensures ∙ c.if-is_open.false) c.tick_all.ensures
