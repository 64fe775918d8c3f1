-- The PDU is read, or not.
use Rattle.std.proofs.Common.{◌∙◌}
use Rattle.pn_alarms.specs.Message.{message_of}
use Rattle.device_abi.proofs.Acknowledged.{of_read, of_unread}
use Rattle.device_abi.proofs.confirmation.status_of.Goals as goal

pub returns-in-Ok : goal.returns-in-Ok
returns-in-Ok c = λ source frame_id. c.status_said.ensures ∙ of_read source frame_id c.args.body.now (message_of c.args.body.now) _ _ c.in-Ok.ensures

pub returns-in-Err : goal.returns-in-Err
returns-in-Err c = λ source frame_id. of_unread source frame_id c.args.body.now (message_of c.args.body.now) _ c.in-Err.ensures
