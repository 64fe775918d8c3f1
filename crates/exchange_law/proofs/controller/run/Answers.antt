-- One thing after another.
use Rattle.std.proofs.Common.{◌≡◌, ◌+◌, take, ◌++◌, ◌∷◌, [], sym, ap, subst, ◌∙◌}
use Rattle.std.proofs.lemmas.List.{take_more, take_all}
use Rattle.exchange_law.specs.Run.{Runs}
use Rattle.exchange_law.proofs.Runs.{nothing_happens, one_more}
use Rattle.exchange_law.proofs.controller.run.Goals as goal

pub loop-one-init : goal.loop-one-init
loop-one-init g c = nothing_happens c.args.controller.now (g.W.Witness.told c.args.witness.now)

pub loop-one-preserved : goal.loop-one-preserved
loop-one-preserved g c =
    let all = c.args.happenings.now in
    let so_far = c.loop-one.one-index in
    let more : take (so_far + 1) all ≡ take so_far all ++ c.one-item.result ∷ [] =
    take_more all so_far c.one-item.result c.loop-one-test.true ∙ ap (λ e. take so_far all ++ e ∷ []) (sym c.one-item.is) in
    subst (λ l. Runs c.args.controller.now l (g.W.Witness.told c.args.witness.now) (g.W.Witness.told c.happen.new.witness) c.happen.new.controller) (sym more)
    (one_more c.args.controller.now (take so_far all) c.one-item.result (g.W.Witness.told c.args.witness.now) (g.W.Witness.told c.loop-one.witness)
    (g.W.Witness.told c.happen.new.witness) c.loop-one.controller c.happen.new.controller c.loop-one.invariant c.happen.ensures)

pub returns : goal.returns
returns g c =
    subst (λ l. Runs c.args.controller.now l (g.W.Witness.told c.args.witness.now) (g.W.Witness.told c.loop-one.witness) c.loop-one.controller)
    (take_all c.loop-one.one-index c.args.happenings.now c.loop-one-test.false) c.loop-one.invariant
