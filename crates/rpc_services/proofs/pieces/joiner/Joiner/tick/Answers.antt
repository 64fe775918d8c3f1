-- Where nothing is unfinished, a tick changes nothing.
use Rattle.std.proofs.Common.{sym, arith}
use Rattle.rpc_services.proofs.PiecesLeaping.{idle_state}
use Rattle.rpc_services.proofs.pieces.joiner.Joiner.tick.Goals as goal

pub returns-else-self-gt0 : goal.returns-else-self-gt0
returns-else-self-gt0 c =
    let j = c.self.inside in
    idle_state c.args.self.now j.kind j.calls j.ages (sym c.self.view_is) (λ k d there. let few = c.self.invariant.1 k d there in let none = c.if-self-gt0.false in omega (arith, few, none))
