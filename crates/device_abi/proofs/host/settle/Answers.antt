-- Piece by piece.
use Rattle.std.proofs.Common.{Ok, Err, refl, sym, ap, ◌∙◌}
use Rattle.std.proofs.lemmas.Result.{err_from_is_err_and}
use Rattle.device_abi.specs.Plays.{point, settled}
use Rattle.device_abi.proofs.PortHosted.{smaller, worked}
use Rattle.device_abi.proofs.PortPlays.{piece, settled_idle, settles_on, stage_on}
use Rattle.device_abi.proofs.HostFree.{fetched_of}
use Rattle.device_abi.proofs.host.settle.Goals as goal

pub loop-port-init : goal.loop-port-init
loop-port-init g c = record { ends = λ begun events s. s; settled = λ booted. (booted, refl); failures = refl; reliable = λ is. is }

pub loop-port-preserved : goal.loop-port-preserved
loop-port-preserved g c = record {
  ends = λ begun events s.
      worked begun events (g.K.Sink.taken c.loop-port.sink) c.loop-port.port (g.C.Flash.image c.loop-port.chip) (c.loop-port.invariant.ends begun events s) (Ok tt)
      c.work.new.port (g.C.Flash.image c.work.new.chip) (g.K.Sink.taken c.work.new.sink) (g.met.C.Flash.sized c.work.new.chip) c.in_ok-work.ensures.performs c.in_ok-work.ensures.advanced;
  settled = λ booted.
      let before = c.loop-port.invariant.settled booted in
      let one = piece c.loop-port.port (g.C.Flash.image c.loop-port.chip) (g.K.Sink.taken c.loop-port.sink) c.work.new.port (g.C.Flash.image c.work.new.chip) (g.K.Sink.taken c.work.new.sink)
      (c.in_ok-work.ensures.performs before.0) c.in_ok-work.ensures.advanced in
      (stage_on c.loop-port.port c.work.new.port before.0 c.in_ok-work.ensures.advanced, ap settled one ∙ settles_on (point c.loop-port.port (g.C.Flash.image c.loop-port.chip) (g.K.Sink.taken c.loop-port.sink)) ∙ before.1);
  failures = c.in_ok-work.ensures.cause.done ∙ c.loop-port.invariant.failures;
  reliable = λ is. (c.in_ok-work.ensures.reliable (c.loop-port.invariant.reliable is)).1;
}

pub loop-port-smaller : goal.loop-port-smaller
loop-port-smaller g c = smaller c.loop-port.port c.work.new.port (sym c.has_work.ensures ∙ c.loop-port-test.true) c.in_ok-work.ensures.advanced

pub returns-in_err-work-clause-ends : goal.returns-in_err-work-clause-ends
returns-in_err-work-clause-ends g c =
    let p = err_from_is_err_and c.from_residual.result c.from_residual.ensures.1 in
    rw p.1 (λ begun events s.
    worked begun events (g.K.Sink.taken c.loop-port.sink) c.loop-port.port (g.C.Flash.image c.loop-port.chip) (c.loop-port.invariant.ends begun events s) (Err c.in_err-work.field-0.0)
    c.work.new.port (g.C.Flash.image c.work.new.chip) (g.K.Sink.taken c.work.new.sink) (g.met.C.Flash.sized c.work.new.chip) c.in_err-work.ensures.performs c.in_err-work.ensures.advanced)

pub returns-clause-ends : goal.returns-clause-ends
returns-clause-ends g c = λ begun events s.
    (c.loop-port.invariant.ends begun events s, fetched_of c.loop-port.port (sym c.has_work.ensures ∙ c.loop-port-test.false))

pub returns-clause-settled : goal.returns-clause-settled
returns-clause-settled g c = λ booted.
    settled_idle (point c.loop-port.port (g.C.Flash.image c.loop-port.chip) (g.K.Sink.taken c.loop-port.sink)) (fetched_of c.loop-port.port (sym c.has_work.ensures ∙ c.loop-port-test.false))
    ∙ (c.loop-port.invariant.settled booted).1
