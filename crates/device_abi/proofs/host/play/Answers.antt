-- One operation after another.
use Rattle.std.proofs.Common.{refl, subst, sym, ◌∙◌, take}
use Rattle.std.proofs.lemmas.List.{take_all}
use Rattle.std.proofs.lemmas.Result.{err_from_is_err_and}
use Rattle.device_abi.specs.Host.{Stands, begun_by, events_of}
use Rattle.device_abi.specs.Plays.{Plays, point}
use Rattle.device_abi.proofs.PortHosted.{ends_at, ends_in, events_more, stands_fresh}
use Rattle.device_abi.proofs.PortPlays.{plays_more}
use Rattle.device_abi.proofs.host.play.Goals as goal

pub loop-operation-init : goal.loop-operation-init
loop-operation-init g c = record {
  stands = stands_fresh c.args.port.now (g.C.Flash.image c.args.chip.now) (g.K.Sink.taken c.args.sink.now) c.requires;
  plays = refl;
  stage = c.requires.stage;
  failures = refl;
  reliable = λ is. is;
}

pub loop-operation-preserved : goal.loop-operation-preserved
loop-operation-preserved g c =
    let begun = begun_by c.args.port.now (g.K.Sink.taken c.args.sink.now) in
    let so_far = c.loop-operation.operation-index in
    let went = c.in_ok-go_on.ensures.plays c.loop-operation.invariant.stage in
    record {
      stands = subst (λ e. Stands begun e (g.K.Sink.taken c.go_on.new.sink) c.go_on.new.port (g.C.Flash.image c.go_on.new.chip))
          (sym (events_more so_far c.args.operations.now c.operation-item.result c.loop-operation-test.true c.operation-item.is))
          (c.in_ok-go_on.ensures.ends begun (events_of (take so_far c.args.operations.now)) c.loop-operation.invariant.stands);
      plays = plays_more so_far c.args.operations.now c.operation-item.result (point c.args.port.now (g.C.Flash.image c.args.chip.now) (g.K.Sink.taken c.args.sink.now))
          (point c.loop-operation.port (g.C.Flash.image c.loop-operation.chip) (g.K.Sink.taken c.loop-operation.sink)) (point c.go_on.new.port (g.C.Flash.image c.go_on.new.chip) (g.K.Sink.taken c.go_on.new.sink))
          c.loop-operation-test.true c.operation-item.is c.loop-operation.invariant.plays went.0;
      stage = went.1;
      failures = c.in_ok-go_on.ensures.cause.done ∙ c.loop-operation.invariant.failures;
      reliable = λ is. (c.in_ok-go_on.ensures.reliable (c.loop-operation.invariant.reliable is)).1;
    }

pub returns-in_err-go_on-clause-ends : goal.returns-in_err-go_on-clause-ends
returns-in_err-go_on-clause-ends g c =
    let begun = begun_by c.args.port.now (g.K.Sink.taken c.args.sink.now) in
    let so_far = c.loop-operation.operation-index in
    let p = err_from_is_err_and c.from_residual.result c.from_residual.ensures.1 in
    rw p.1 (ends_in begun so_far c.args.operations.now (g.K.Sink.taken c.go_on.new.sink) (g.C.Flash.image c.go_on.new.chip)
    (c.in_err-go_on.ensures.ends begun (events_of (take so_far c.args.operations.now)) c.loop-operation.invariant.stands))

pub returns-clause-ends : goal.returns-clause-ends
returns-clause-ends g c =
    let begun = begun_by c.args.port.now (g.K.Sink.taken c.args.sink.now) in
    let all = take_all c.loop-operation.operation-index c.args.operations.now c.loop-operation-test.false in
    ends_at begun (events_of c.args.operations.now) (g.K.Sink.taken c.loop-operation.sink) c.loop-operation.port (g.C.Flash.image c.loop-operation.chip) (g.met.C.Flash.sized c.loop-operation.chip)
    (subst (λ o. Stands begun (events_of o) (g.K.Sink.taken c.loop-operation.sink) c.loop-operation.port (g.C.Flash.image c.loop-operation.chip)) all c.loop-operation.invariant.stands)

pub returns-clause-plays : goal.returns-clause-plays
returns-clause-plays g c =
    let all = take_all c.loop-operation.operation-index c.args.operations.now c.loop-operation-test.false in
    subst (λ o. Plays o (point c.args.port.now (g.C.Flash.image c.args.chip.now) (g.K.Sink.taken c.args.sink.now))
    (point c.loop-operation.port (g.C.Flash.image c.loop-operation.chip) (g.K.Sink.taken c.loop-operation.sink))) all c.loop-operation.invariant.plays
