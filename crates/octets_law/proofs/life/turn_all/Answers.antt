-- One event after another.
use Rattle.std.proofs.Common.{◌≡◌, ◌+◌, take, ◌++◌, ◌∷◌, [], sym, ap, subst, ◌∙◌}
use Rattle.std.proofs.lemmas.List.{take_more, take_all}
use Rattle.octets_law.specs.Turns.{TurnsAll}
use Rattle.octets_law.proofs.Turned.{no_turns, turn_more}
use Rattle.octets_law.proofs.life.turn_all.Goals as goal

pub loop-event-init : goal.loop-event-init
loop-event-init g c = no_turns g.F.Flash c.args.device.now _ c.stored.ensures.holds

pub loop-event-preserved : goal.loop-event-preserved
loop-event-preserved g c =
    let events = c.args.events.now in
    let so_far = c.loop-event.event-index in
    let more : take (so_far + 1) events ≡ take so_far events ++ c.event-item.result ∷ [] =
    take_more events so_far c.event-item.result c.loop-event-test.true ∙ ap (λ e. take so_far events ++ e ∷ []) (sym c.event-item.is) in
    subst (λ es. TurnsAll g.F.Flash c.args.device.now es (g.W.Witness.told c.args.witness.now) (g.W.Witness.told c.turn.new.witness) c.turn.new.device) (sym more)
    (turn_more g.F.Flash c.args.device.now c.loop-event.device c.turn.new.device (take so_far events) c.event-item.result _ _ _ c.loop-event.invariant c.turn.ensures)

pub returns : goal.returns
returns g c =
    subst (λ es. TurnsAll g.F.Flash c.args.device.now es (g.W.Witness.told c.args.witness.now) (g.W.Witness.told c.loop-event.witness) c.loop-event.device)
    (take_all c.loop-event.event-index c.args.events.now c.loop-event-test.false) c.loop-event.invariant
