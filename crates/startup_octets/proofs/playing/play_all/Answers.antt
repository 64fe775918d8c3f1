-- One more move.
use Rattle.std.proofs.Common.{◌≡◌, ◌+◌, ◌++◌, ◌∷◌, [], inr, take, sym, ap, subst, ◌∙◌}
use Rattle.std.proofs.lemmas.List.{take_more}
use Rattle.std.proofs.lemmas.Result.{err_from_is_err_and}
use Rattle.startup_octets.specs.Run.{IsRun}
use Rattle.startup_octets.proofs.Entries.{run_more}
use Rattle.startup_octets.proofs.playing.play_all.Goals as goal

pub loop-one-preserved : goal.loop-one-preserved
loop-one-preserved g c =
    let moves = c.args.moves.now in
    let so_far = c.loop-one.one-index in
    let more : take (so_far + 1) moves ≡ take so_far moves ++ c.one-item.result ∷ [] =
    take_more moves so_far c.one-item.result c.loop-one-test.true ∙ ap (λ m. take so_far moves ++ m ∷ []) (sym c.one-item.is) in (
      subst (λ ms. IsRun g.F.Flash c.args.world ms (g.W.Witness.log c.args.witness.now) (g.W.Witness.log c.play_one.new.witness) c.play_one.new.world) (sym more)
          (run_more g.F.Flash c.args.world c.loop-one.world c.play_one.new.world (take so_far moves) c.one-item.result (g.W.Witness.log c.args.witness.now) (g.W.Witness.log c.loop-one.witness)
          (g.W.Witness.log c.play_one.new.witness) c.loop-one.invariant.0 c.in_ok-count.ensures.happens c.in_ok-count.ensures.logged),
      c.in_ok-count.ensures.counted,
    )

pub returns-in_err-count-clause-cut : goal.returns-in_err-count-clause-cut
returns-in_err-count-clause-cut g c =
    let p = err_from_is_err_and c.from_residual-in_err-count.result c.from_residual-in_err-count.ensures.1 in
    let so_far = c.loop-one.one-index in
    rw (p.1) (inr (
      so_far,
      c.loop-one.world,
      subst (λ l. IsRun g.F.Flash c.args.world (take so_far c.args.moves.now) (g.W.Witness.log c.args.witness.now) l c.loop-one.world) (sym c.in_err-count.ensures.same) c.loop-one.invariant.0,
    ))
