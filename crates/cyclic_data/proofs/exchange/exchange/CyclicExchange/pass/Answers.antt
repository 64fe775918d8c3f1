-- Several units with which nothing is due.
use Rattle.std.proofs.Common.{refl}
use Rattle.cyclic_data.proofs.ExchangeLeaps.{below_both, frame_nearer, later_after, quiet_for, silent_later}
use Rattle.cyclic_data.proofs.exchange.exchange.CyclicExchange.pass.Goals as goal

pub wait-requires : goal.wait-requires
wait-requires c = rw (← c.self.view_is) at (below_both c.args.units _ _ c.requires).1

pub returns-clause-quiet : goal.returns-clause-quiet
returns-clause-quiet c = quiet_for c.args.self.now c.args.units c.requires

pub returns-clause-state : goal.returns-clause-state
returns-clause-state c = rw (later_after c.args.self.now c.args.units c.requires) (rw (c.wait.ensures, ← c.self.view_is, c.pass.ensures) refl)

pub returns-clause-frame : goal.returns-clause-frame
returns-clause-frame c =
    let below = rw (← c.self.view_is) at (below_both c.args.units _ _ c.requires).0 in
    rw (c.wait.ensures, ← c.self.view_is, c.pass.ensures) (frame_nearer c.self.inside.provider c.args.units below)

pub returns-clause-held : goal.returns-clause-held
returns-clause-held c = rw (c.wait.ensures, ← c.self.view_is) (silent_later c.self.inside.begun c.self.inside.consumer c.args.units)
