-- An event after all work of those before it, or a piece of work.
use Rattle.std.proofs.lemmas.Result.{err_from_is_err_and}
use Rattle.device_abi.specs.Plays.{point}
use Rattle.device_abi.proofs.PortHosted.{handed_in, went_on}
use Rattle.device_abi.proofs.PortPlays.{handed_on, worked_on}
use Rattle.device_abi.proofs.host.go_on.Goals as goal

pub returns-in_err-settle-in-Happens-clause-ends : goal.returns-in_err-settle-in-Happens-clause-ends
returns-in_err-settle-in-Happens-clause-ends g c =
    let p = err_from_is_err_and c.from_residual.result c.from_residual.ensures.1 in
    rw p.1 (λ begun events s. c.in_err-settle-in-Happens.ensures.ends begun events s)

pub returns-in_ok-settle-in-Happens-clause-ends : goal.returns-in_ok-settle-in-Happens-clause-ends
returns-in_ok-settle-in-Happens-clause-ends g c = rw c.in-Happens.is (λ begun events s.
    let settled = c.in_ok-settle-in-Happens.ensures.ends begun events s in
    handed_in begun events (g.K.Sink.taken c.settle.new.sink) c.settle.new.port (g.C.Flash.image c.settle.new.chip) settled.0 settled.1 _ c.hand_in.new.port c.hand_in.ensures)

pub returns-in_ok-settle-in-Happens-clause-plays : goal.returns-in_ok-settle-in-Happens-clause-plays
returns-in_ok-settle-in-Happens-clause-plays g c = rw c.in-Happens.is (λ booted.
    handed_on (point c.args.port.now (g.C.Flash.image c.args.chip.now) (g.K.Sink.taken c.args.sink.now)) (point c.settle.new.port (g.C.Flash.image c.settle.new.chip) (g.K.Sink.taken c.settle.new.sink))
    _ c.hand_in.new.port booted (c.in_ok-settle-in-Happens.ensures.settled booted) c.hand_in.ensures)

pub returns-in-Works-clause-ends : goal.returns-in-Works-clause-ends
returns-in-Works-clause-ends g c = rw c.in-Works.is (λ begun events s.
    went_on begun events (g.K.Sink.taken c.args.sink.now) c.args.port.now (g.C.Flash.image c.args.chip.now) s c.work.result c.work.new.port (g.C.Flash.image c.work.new.chip) (g.K.Sink.taken c.work.new.sink)
    (g.met.C.Flash.sized c.work.new.chip) c.work.ensures.performs c.work.ensures.advanced)

pub returns-in-Works-clause-plays : goal.returns-in-Works-clause-plays
returns-in-Works-clause-plays g c = rw c.in-Works.is (λ booted.
    worked_on c.work.result c.args.port.now (g.C.Flash.image c.args.chip.now) (g.K.Sink.taken c.args.sink.now) c.work.new.port (g.C.Flash.image c.work.new.chip) (g.K.Sink.taken c.work.new.sink) booted
    (c.work.ensures.performs booted) c.work.ensures.advanced)
