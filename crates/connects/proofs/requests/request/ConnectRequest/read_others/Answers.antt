-- The blocks after the first one, starting with nothing.
use Rattle.std.proofs.lemmas.Result.{err_from_is_err_and}
use Rattle.connects.specs.requests.Pieces.{pieces_in}
use Rattle.connects.proofs.RequestsRead.{from_nothing, fails_behind, goes_behind}
use Rattle.connects.proofs.requests.request.ConnectRequest.read_others.Goals as goal

pub returns-in_err-add_all : goal.returns-in_err-add_all
returns-in_err-add_all c =
    let p = err_from_is_err_and c.from_residual.result c.from_residual.ensures.1 in
    rw (p.1, p.2) (fails_behind c.args.smallest c.args.ar (pieces_in c.args.most c.args.others.now) _ c.in_err-add_all.field-0.0 (from_nothing c.new-draft.result _ c.new-draft.ensures.nothing c.clear.ensures)
    c.in_err-add_all.ensures.pieces)

pub returns : goal.returns
returns c =
    rw (goes_behind c.args.smallest c.args.ar (pieces_in c.args.most c.args.others.now) _ _ (from_nothing c.new-draft.result _ c.new-draft.ensures.nothing c.clear.ensures)
    c.in_ok-add_all.ensures.pieces) c.finish.ensures
