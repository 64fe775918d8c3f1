-- The first block alone.
use Rattle.std.proofs.Common.{◌≡◌, ◌==◌, true, false, length, Some, Err, sym, ap, ◌∙◌}
use Rattle.records.specs.declared.status.call_fault.CallFault.{CallFault}
use Rattle.connects.proofs.RequestsRead.{nothing_there, first_faulty, first_refused, standing_within}
use Rattle.connects.proofs.requests.request.refuse.Goals as goal

pub returns-then-is_empty : goal.returns-then-is_empty
returns-then-is_empty c =
    let empty : (length c.args.blocks.now == 0) ≡ true = sym c.is_empty.ensures ∙ c.if-is_empty.true in
    λ smallest. standing_within smallest c.args.standing.now c.args.blocks.now ∙ nothing_there (Some c.args.standing.now) c.args.blocks.now empty

pub returns-in-Ok : goal.returns-in-Ok
returns-in-Ok c =
    let some : (length c.args.blocks.now == 0) ≡ false = sym c.is_empty.ensures ∙ c.if-is_empty.false in
    λ smallest. standing_within smallest c.args.standing.now c.args.blocks.now ∙ (first_refused c.args.standing.now c.args.blocks.now c.in-Ok.ar some (cc (c.in-Ok.ensures.ar)) ∙ ap (λ (fault : CallFault). Err fault) (sym c.conflict.ensures))

pub returns-in-Err : goal.returns-in-Err
returns-in-Err c =
    let some : (length c.args.blocks.now == 0) ≡ false = sym c.is_empty.ensures ∙ c.if-is_empty.false in
    λ smallest. standing_within smallest c.args.standing.now c.args.blocks.now ∙ first_faulty (Some c.args.standing.now) c.args.blocks.now c.in-Err.fault some (cc (c.in-Err.ensures.ar))
