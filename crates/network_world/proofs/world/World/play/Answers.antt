-- One more move is played after the others.
use Rattle.std.proofs.Common.{◌≡◌, ◌+◌, ◌++◌, ◌∷◌, [], take, ap, subst, sym, ◌∙◌}
use Rattle.std.proofs.lemmas.List.{take_more}
use Rattle.network_world.specs.World.{Played}
use Rattle.network_world.proofs.Plays.{play_on}
use Rattle.network_world.proofs.world.World.play.Goals as goal

pub loop-one-preserved : goal.loop-one-preserved
loop-one-preserved g c =
    let moves = c.args.moves.now in
    let so_far = c.loop-one.one-index in
    let more : take (so_far + 1) moves ≡ take so_far moves ++ c.one-item.result ∷ [] =
    take_more moves so_far c.one-item.result c.loop-one-test.true ∙ ap (λ m. take so_far moves ++ m ∷ []) (sym c.one-item.is) in
    subst (λ ms. Played g.F.Flash c.args.self.now ms c.make.new.self) (sym more)
    (play_on g.F.Flash c.args.self.now (take so_far moves) c.loop-one.self c.one-item.result c.make.new.self c.loop-one.invariant c.in_ok-make.ensures.made)
