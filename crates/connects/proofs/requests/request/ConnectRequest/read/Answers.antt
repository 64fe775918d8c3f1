-- The first block, and those after it.
use Rattle.std.proofs.Common.{◌≡◌, ◌==◌, true, false, length, sym, ◌∙◌}
use Rattle.connects.proofs.RequestsRead.{nothing_within, faulty_within, first_good}
use Rattle.connects.proofs.requests.request.ConnectRequest.read.Goals as goal

pub returns-then-is_empty : goal.returns-then-is_empty
returns-then-is_empty c =
    let empty : (length c.args.blocks.now == 0) ≡ true = sym c.is_empty.ensures ∙ c.if-is_empty.true in
    nothing_within c.args.smallest c.args.blocks.now empty

pub returns-in-Ok : goal.returns-in-Ok
returns-in-Ok c =
    let some : (length c.args.blocks.now == 0) ≡ false = sym c.is_empty.ensures ∙ c.if-is_empty.false in
    rw (first_good c.args.smallest c.args.blocks.now c.in-Ok.others.now c.in-Ok.ar some (cc (c.in-Ok.ensures.ar)) (cc (c.in-Ok.ensures.behind))) c.read_others.ensures

pub returns-in-Err : goal.returns-in-Err
returns-in-Err c =
    let some : (length c.args.blocks.now == 0) ≡ false = sym c.is_empty.ensures ∙ c.if-is_empty.false in
    faulty_within c.args.smallest c.args.blocks.now c.in-Err.fault some (cc (c.in-Err.ensures.ar))
