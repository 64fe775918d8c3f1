-- Several units up to the next one with which a frame is due.
use Rattle.std.proofs.Common.{◌≡◌, ◌<◌, refl, arith}
use Rattle.cyclic_data.specs.Leaps.{frame_due_in}
use Rattle.cyclic_data.proofs.ExchangeLeaps.{last_sends, quiet_before, sent_after}
use Rattle.cyclic_data.proofs.exchange.exchange.CyclicExchange.send.Goals as goal

pub wait-requires : goal.wait-requires
wait-requires c = rw (← c.self.view_is) at c.requires.held

pub returns-clause-state : goal.returns-clause-state
returns-clause-state c =
    let due : c.args.units ≡ frame_due_in c.self.inside.provider = rw (← c.self.view_is) at c.requires.due in
    let some : 0 < c.args.units = omega (arith, due, c.restart.ensures.some) in
    rw (sent_after c.args.self.now c.args.units some c.requires.due c.requires.held) (rw (c.wait.ensures, ← c.self.view_is, c.restart.ensures.state) refl)

pub returns-clause-quiet : goal.returns-clause-quiet
returns-clause-quiet c =
    let due : c.args.units ≡ frame_due_in c.self.inside.provider = rw (← c.self.view_is) at c.requires.due in
    let some : 0 < c.args.units = omega (arith, due, c.restart.ensures.some) in
    quiet_before c.args.self.now c.args.units some c.requires.due c.requires.held

pub returns-clause-some : goal.returns-clause-some
returns-clause-some c =
    let due : c.args.units ≡ frame_due_in c.self.inside.provider = rw (← c.self.view_is) at c.requires.due in
    omega (arith, due, c.restart.ensures.some)

pub returns-clause-last : goal.returns-clause-last
returns-clause-last c =
    let due : c.args.units ≡ frame_due_in c.self.inside.provider = rw (← c.self.view_is) at c.requires.due in
    let some : 0 < c.args.units = omega (arith, due, c.restart.ensures.some) in
    last_sends c.args.self.now c.args.units some c.requires.due c.requires.held
