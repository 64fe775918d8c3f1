-- Settings, or why they are not reported.
use Rattle.std.proofs.Common.{refl}
use Rattle.device_abi.proofs.Reported.{settings_refused, settings_told}
use Rattle.device_abi.proofs.serving.tell_settings.Goals as goal

pub returns-in-Ok : goal.returns-in-Ok
returns-in-Ok c = λ why known. rw c.in-Ok.is (λ read. settings_told why known c.in-Ok.settings.now c.args.op.now 0 c.put_settings.new.op read refl c.put_settings.ensures)

pub returns-in-Err : goal.returns-in-Err
returns-in-Err c = λ why known. rw c.in-Err.is (λ read. settings_refused why known c.in-Err.refusal c.args.op.now c.number.result c.args.op.now read c.number.ensures refl)
