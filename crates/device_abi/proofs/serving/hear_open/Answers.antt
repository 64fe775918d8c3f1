-- The open alarm is open still, or it is over.
use Rattle.std.proofs.Common.{◌∙◌, sym, ap}
use Rattle.device_abi.specs.Confirmed.{with_confirmation}
use Rattle.device_abi.proofs.Confirming.{heard_over, heard_still}
use Rattle.device_abi.proofs.serving.hear_open.Goals as goal

pub returns-then-is_open : goal.returns-then-is_open
returns-then-is_open c =
    let heard = c.hear_any-answer in
    heard_still c.args.port.now _ c.args.op.now heard.result heard.new.port heard.new.op (sym c.is_open.ensures ∙ c.if-is_open.true) heard.ensures

pub returns : goal.returns
returns c =
    let heard = c.hear_any-answer in
    heard_over c.acknowledged_in-status.result c.args.port.now _ c.args.op.now heard.result heard.new.port heard.new.op c.tell_confirmation.new.op c.requires
    (sym c.is_open.ensures ∙ c.if-is_open.false) c.acknowledged_in-status.ensures heard.ensures
    (c.tell_confirmation.ensures ∙ ap (λ became. with_confirmation became heard.new.op) c.over_by.ensures)
