-- Units pass up to the first that sends inputs, while no alarm is open, or others.
use Rattle.std.proofs.Common.{sym, subst}
use Rattle.device_station.specs.port.Served.{Served}
use Rattle.device_abi.specs.Serves.{IsTick}
use Rattle.device_abi.proofs.Confirming.{passed_without}
use Rattle.device_abi.proofs.Reported.{passed_all}
use Rattle.device_abi.proofs.serving.tick_more.Goals as goal

pub returns-in-Some : goal.returns-in-Some
returns-in-Some c =
    let s = c.in-Some.ensures in
    let op = c.args.op.now in
    let passed = c.in-Some.passed in
    passed_without c.args.port.now op c.tell_passed.result c.send.new.self c.tell_passed.new.op s.4
    (passed_all c.args.port.now c.send.new.self op c.tell_passed.new.op c.tell_passed.result passed.left passed.due 3 s.0 s.1 s.2 (sym s.3) c.tell_passed.ensures.answer c.tell_passed.ensures.reported)

pub returns-in-None : goal.returns-in-None
returns-in-None c =
    subst (λ (s : Served). IsTick s c.args.op.now c.tick_any.result c.tick_any.new.port c.tick_any.new.op) c.in-None.ensures c.tick_any.ensures
