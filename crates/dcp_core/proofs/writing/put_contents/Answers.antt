-- The parts of a block, one after the other.
use Rattle.std.proofs.Common.{◌≡◌, ◌%◌, ℕ, List, [], ◌++◌, length, replicate, append_assoc, arith, sym, ap, ◌∙◌}
use Rattle.std.proofs.lemmas.List.{append-nil}
use Rattle.dcp_core.specs.Request.{asked_block}
use Rattle.dcp_core.proofs.Written.{block_parts, four}
use Rattle.dcp_core.proofs.writing.put_contents.Goals as goal

pub returns-then-value-eq1-clause-items : goal.returns-then-value-eq1-clause-items
returns-then-value-eq1-clause-items c =
    four _ _ _ _ _ _ _ _ _ c.put_kind.ensures.items c.append_u16.ensures.items c.append.ensures.items
    (c.append-then-value-eq1.ensures.items ∙ ap (λ (n : ℕ). c.append.new.out.items ++ replicate n 0) (sym c.if-value-eq1.true))
    ∙ ap (λ (xs : List ℕ). c.args.data.now.items ++ xs) (sym (block_parts (asked_block c.args.value.now)))

pub returns-else-value-eq1-clause-items : goal.returns-else-value-eq1-clause-items
returns-else-value-eq1-clause-items c =
    let even : 0 ≡ length c.args.value.now.contents.now % 2 = omega (arith, c.if-value-eq1.false) in
    four _ _ _ _ _ _ _ _ _ c.put_kind.ensures.items c.append_u16.ensures.items c.append.ensures.items
    (sym (append-nil c.append.new.out.items) ∙ ap (λ (n : ℕ). c.append.new.out.items ++ replicate n 0) even)
    ∙ ap (λ (xs : List ℕ). c.args.data.now.items ++ xs) (sym (block_parts (asked_block c.args.value.now)))
