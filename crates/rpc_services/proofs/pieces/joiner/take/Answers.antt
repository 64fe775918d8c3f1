-- What begins has 64,000 ticks, and nothing gets more.
use Rattle.std.proofs.Common.{◌≤◌, sym, subst}
use Rattle.rpc_services.specs.pieces.State.{Unfinished}
use Rattle.rpc_services.specs.pieces.Views.{piece_as}
use Rattle.rpc_services.proofs.PiecesPlaces.{young_begun, young_continued}
use Rattle.rpc_services.proofs.pieces.joiner.take.Goals as goal

pub returns-clause-young : goal.returns-clause-young
returns-clause-young c = λ young.
    let p = piece_as c.args.piece.now in
    let begins = subst (λ (u : Unfinished). u.left ≤ 64000) (sym c.begin.ensures) (young_begun c.args.call.now p young) in
    subst (λ (u : Unfinished). u.left ≤ 64000) (sym c.go_on.ensures) (young_continued c.begin.new.self p begins)
