-- The first place of the activity, or else the oldest.
use Rattle.std.proofs.Common.{◌≡◌, ◌∙◌, sym, ap, get_or, true, arith}
use Rattle.std.proofs.lemmas.List.{get_or_read}
use Rattle.rpc_services.specs.pieces.State.{blank, is_of}
use Rattle.rpc_services.proofs.PiecesPlaces.{found, not_found}
use Rattle.rpc_services.proofs.pieces.joiner.place_of.Goals as goal

pub returns-then-is_of-clause-value : goal.returns-then-is_of-clause-value
returns-then-is_of-clause-value c =
    let us = c.args.calls.now in
    let at = get_or_read us c.loop-index.index c.index-calls-index.result c.loop-index-test.true c.index-calls-index.is blank in
    let here : is_of c.args.head.now (get_or us c.loop-index.index blank) ≡ true = ap (is_of c.args.head.now) (sym at) ∙ (sym c.is_of.ensures ∙ c.if-is_of.true) in
    found c.args.head.now c.args.ages.now us c.loop-index.index c.loop-index-test.true c.loop-index.invariant here

pub returns-clause-value : goal.returns-clause-value
returns-clause-value c =
    let over = c.loop-index-test.false in
    c.oldest.ensures.value ∙ not_found c.args.head.now c.args.ages.now c.args.calls.now (λ k there. c.loop-index.invariant k (omega (arith, over, there)))
