-- The open alarm is open still, or it is given up.
use Rattle.std.proofs.Common.{◌∙◌, sym}
use Rattle.device_abi.proofs.Confirming.{passed_over, passed_still}
use Rattle.device_abi.proofs.serving.tick_open.Goals as goal

pub returns-then-is_open : goal.returns-then-is_open
returns-then-is_open c =
    let passed = c.tick_all-answer in
    passed_still c.args.port.now c.args.op.now passed.result passed.new.port passed.new.op (sym c.is_open.ensures ∙ c.if-is_open.true) passed.ensures

pub returns : goal.returns
returns c =
    let passed = c.tick_all-answer in
    passed_over c.args.port.now c.args.op.now passed.result passed.new.port passed.new.op c.tell_confirmation.new.op c.requires
    (sym c.is_open.ensures ∙ c.if-is_open.false) passed.ensures c.tell_confirmation.ensures
