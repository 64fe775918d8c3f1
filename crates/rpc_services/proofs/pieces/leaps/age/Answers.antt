-- One place after another.
use Rattle.rpc_services.proofs.PiecesLeaping.{one_aged}
use Rattle.rpc_services.proofs.pieces.leaps.age.Goals as goal

pub loop-index-preserved : goal.loop-index-preserved
loop-index-preserved c =
    one_aged c.args.ticks c.loop-index.index c.args.calls.now c.loop-index.calls c.index-calls-index.result c.age.new.self c.loop-index-test.true c.loop-index.invariant c.age.ensures
