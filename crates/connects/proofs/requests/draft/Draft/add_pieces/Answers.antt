-- One block after another.
use Rattle.std.proofs.Common.{◌≡◌, ◌==◌, ◌-◌, ◌+◌, ℕ, suc, true, false, List, length, sym, ap, ◌∙◌, arith}
use Rattle.std.proofs.lemmas.Result.{err_from_is_err_and}
use Rattle.connects.specs.requests.Pieces.{pieces_in}
use Rattle.connects.specs.requests.Drafts.{pieces_within, sofar_of}
use Rattle.connects.proofs.RequestsRead.{ends, out_of, goes_on, stops}
use Rattle.connects.proofs.requests.draft.Draft.add_pieces.Goals as goal

pub returns-then-is_empty-clause-pieces : goal.returns-then-is_empty-clause-pieces
returns-then-is_empty-clause-pieces c =
    let empty : (length c.loop-index.rest.now == 0) ≡ true = sym c.is_empty.ensures ∙ c.if-is_empty.true in
    sym c.loop-index.invariant.pieces ∙ ends c.args.smallest _ (c.args.most - c.loop-index._index) c.loop-index.rest.now empty

pub returns-in_err-rest-clause-pieces : goal.returns-in_err-rest-clause-pieces
returns-in_err-rest-clause-pieces c =
    let some : (length c.loop-index.rest.now == 0) ≡ false = sym c.is_empty.ensures ∙ c.if-is_empty.false in
    let count : c.args.most - c.loop-index._index ≡ suc (c.args.most - (c.loop-index._index + 1)) = omega (arith, c.loop-index-test.true) in
    let p = err_from_is_err_and c.from_residual.result c.from_residual.ensures.1 in
    rw (p.1, p.2) (sym c.loop-index.invariant.pieces
    ∙ stops c.args.smallest _ c.in_err-rest.field-0.0 (c.args.most - c.loop-index._index) (c.args.most - (c.loop-index._index + 1)) c.loop-index.rest.now count some c.in_err-rest.ensures.piece)

pub loop-index-preserved : goal.loop-index-preserved
loop-index-preserved c =
    let some : (length c.loop-index.rest.now == 0) ≡ false = sym c.is_empty.ensures ∙ c.if-is_empty.false in
    let count : c.args.most - c.loop-index._index ≡ suc (c.args.most - (c.loop-index._index + 1)) = omega (arith, c.loop-index-test.true) in
    record {
      pieces = ap (λ (octets : List ℕ). pieces_within c.args.smallest (sofar_of c.add_piece.new.self c.add_piece.new.expected) (pieces_in (c.args.most - (c.loop-index._index + 1)) octets)) c.in_ok-rest.ensures.behind
          ∙ (sym (goes_on c.args.smallest (sofar_of c.loop-index.self c.loop-index.expected) (sofar_of c.add_piece.new.self c.add_piece.new.expected) (c.args.most - c.loop-index._index) (c.args.most - (c.loop-index._index + 1)) c.loop-index.rest.now count some c.in_ok-rest.ensures.piece)
          ∙ c.loop-index.invariant.pieces);
      accepted = λ h. c.in_ok-rest.ensures.accepted (c.loop-index.invariant.accepted h);
    }

pub returns-clause-pieces : goal.returns-clause-pieces
returns-clause-pieces c =
    let none : c.args.most - c.loop-index._index ≡ 0 = omega (arith, c.loop-index-test.false) in
    sym c.loop-index.invariant.pieces ∙ out_of c.args.smallest _ (c.args.most - c.loop-index._index) c.loop-index.rest.now none
