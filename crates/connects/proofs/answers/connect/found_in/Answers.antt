-- One block after another.
use Rattle.std.proofs.Common.{◌≡◌, ◌==◌, ◌-◌, ◌+◌, suc, true, false, length, sym, ◌∙◌, arith}
use Rattle.connects.proofs.AnswersBlocks.{ends, goes_on, out_of, stops}
use Rattle.connects.proofs.answers.connect.found_in.Goals as goal

pub returns-then-is_empty : goal.returns-then-is_empty
returns-then-is_empty c =
    let empty : (length c.loop-index.rest.now == 0) ≡ true = sym c.is_empty.ensures ∙ c.if-is_empty.true in
    let count : c.args.most - c.loop-index._index ≡ suc (c.args.most - (c.loop-index._index + 1)) = omega (arith, c.loop-index-test.true) in
    sym (ends _ _ c.loop-index.rest.now c.loop-index.found count empty) ∙ c.loop-index.invariant

pub returns-in_default : goal.returns-in_default
returns-in_default c =
    let some : (length c.loop-index.rest.now == 0) ≡ false = sym c.is_empty.ensures ∙ c.if-is_empty.false in
    let count : c.args.most - c.loop-index._index ≡ suc (c.args.most - (c.loop-index._index + 1)) = omega (arith, c.loop-index-test.true) in
    sym (stops _ _ c.loop-index.rest.now c.loop-index.found count some (sym c.in_default.ensures)) ∙ c.loop-index.invariant

pub loop-index-preserved : goal.loop-index-preserved
loop-index-preserved c =
    let some : (length c.loop-index.rest.now == 0) ≡ false = sym c.is_empty.ensures ∙ c.if-is_empty.false in
    let count : c.args.most - c.loop-index._index ≡ suc (c.args.most - (c.loop-index._index + 1)) = omega (arith, c.loop-index-test.true) in
    sym (goes_on _ _ c.loop-index.rest.now _ c.loop-index.found _ count some (sym c.in-Some.ensures)) ∙ c.loop-index.invariant

pub returns : goal.returns
returns c =
    let none : c.args.most - c.loop-index._index ≡ 0 = omega (arith, c.loop-index-test.false) in
    sym (out_of (c.args.most - c.loop-index._index) c.loop-index.rest.now c.loop-index.found none) ∙ c.loop-index.invariant
