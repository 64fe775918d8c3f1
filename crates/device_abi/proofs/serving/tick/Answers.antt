-- Units pass that bring nothing, while no alarm is open, or others.
use Rattle.std.proofs.Common.{sym, subst}
use Rattle.device_station.specs.port.Served.{Served}
use Rattle.device_abi.specs.Serves.{IsTick}
use Rattle.device_abi.proofs.Confirming.{passed_without}
use Rattle.device_abi.proofs.Reported.{passed_all}
use Rattle.device_abi.proofs.serving.tick.Goals as goal

pub returns-in-Some : goal.returns-in-Some
returns-in-Some c =
    let s = c.in-Some.ensures in
    let op = c.args.op.now in
    passed_without c.args.port.now op c.tell_passed.result c.glide.new.self c.tell_passed.new.op s.6
    (passed_all c.args.port.now c.glide.new.self op c.tell_passed.new.op c.tell_passed.result 0 c.in-Some.due 0 s.0 s.1 s.2 (sym s.3) c.tell_passed.ensures.answer c.tell_passed.ensures.reported)

pub returns-in-None : goal.returns-in-None
returns-in-None c =
    subst (λ (s : Served). IsTick s c.args.op.now c.tick_more.result c.tick_more.new.port c.tick_more.new.op) c.in-None.ensures c.tick_more.ensures
