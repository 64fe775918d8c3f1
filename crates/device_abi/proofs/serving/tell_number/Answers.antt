-- A number, or why it is not reported.
use Rattle.std.proofs.Common.{refl}
use Rattle.device_abi.proofs.Reported.{number_refused, number_told}
use Rattle.device_abi.proofs.serving.tell_number.Goals as goal

pub returns-in-Ok : goal.returns-in-Ok
returns-in-Ok c = λ why known. rw c.in-Ok.is (λ read. number_told why known c.args.place.now 0 c.in-Ok.number read refl)

pub returns-in-Err : goal.returns-in-Err
returns-in-Err c = λ why known. rw c.in-Err.is (λ read. number_refused why known c.in-Err.refusal c.args.place.now c.number.result c.args.place.now read c.number.ensures refl)
