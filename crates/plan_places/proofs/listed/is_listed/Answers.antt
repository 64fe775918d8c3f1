-- One block after another.
use Rattle.std.proofs.Common.{◌≡◌, ◌-◌, ◌+◌, suc, true, false, sym, ◌∙◌, arith}
use Rattle.plan_places.proofs.Blocks.{found, goes_on, out_of, stops}
use Rattle.plan_places.proofs.listed.is_listed.Goals as goal

pub returns-then-is_listed_at : goal.returns-then-is_listed_at
returns-then-is_listed_at c =
    let count : c.args.most - c.loop-index._index ≡ suc (c.args.most - (c.loop-index._index + 1)) = omega (arith, c.loop-index-test.true) in
    sym (found c.loop-index.rest.now c.args.slot c.args.subslot _ _ count (sym c.is_listed_at.ensures ∙ c.if-is_listed_at.true)) ∙ c.loop-index.invariant

pub returns-in_default : goal.returns-in_default
returns-in_default c =
    let count : c.args.most - c.loop-index._index ≡ suc (c.args.most - (c.loop-index._index + 1)) = omega (arith, c.loop-index-test.true) in
    sym (stops c.loop-index.rest.now c.args.slot c.args.subslot _ _ count (sym c.is_listed_at.ensures ∙ c.if-is_listed_at.false) (sym c.in_default.ensures))
    ∙ c.loop-index.invariant

pub loop-index-preserved : goal.loop-index-preserved
loop-index-preserved c =
    let count : c.args.most - c.loop-index._index ≡ suc (c.args.most - (c.loop-index._index + 1)) = omega (arith, c.loop-index-test.true) in
    sym (goes_on c.loop-index.rest.now c.args.slot c.args.subslot _ _ _ count (sym c.is_listed_at.ensures ∙ c.if-is_listed_at.false) (sym c.in-Some.ensures))
    ∙ c.loop-index.invariant

pub returns : goal.returns
returns c =
    let none : c.args.most - c.loop-index._index ≡ 0 = omega (arith, c.loop-index-test.false) in
    sym (out_of c.loop-index.rest.now c.args.slot c.args.subslot (c.args.most - c.loop-index._index) none) ∙ c.loop-index.invariant
