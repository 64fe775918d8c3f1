-- The units pass, and then the frame is handled.
use Rattle.std.proofs.Common.{Ok, Err, refl}
use Rattle.device_abi.proofs.serving.frame_after.Goals as goal

pub returns-in-Ok : goal.returns-in-Ok
returns-in-Ok c = (Ok c.in-Ok.left, c.pass_quiet.new.self, c.in-Ok.ensures, c.frame.ensures)

pub returns-in-Err : goal.returns-in-Err
returns-in-Err c = (Err c.in-Err.refusal, c.pass_quiet.new.self, c.in-Err.ensures, (c.number.ensures, refl, refl))
