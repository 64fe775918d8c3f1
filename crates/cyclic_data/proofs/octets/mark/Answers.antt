-- The marks of a part of the frame.
use Rattle.std.proofs.Common.{sym, ◌∙◌, arith}
use Rattle.cyclic_data.proofs.Marks.{part_taken, part_free, part_marked, part_long}
use Rattle.cyclic_data.proofs.octets.mark.Goals as goal

pub returns-then-is_any-clause-free : goal.returns-then-is_any-clause-free
returns-then-is_any-clause-free c = part_taken c.args.marked.now c.args.start c.args.size c.requires (sym c.if-is_any.ensures)

pub returns-clause-free : goal.returns-clause-free
returns-clause-free c = part_free c.args.marked.now c.args.start c.args.size c.requires (sym c.if-is_any.ensures)

pub returns-clause-marked : goal.returns-clause-marked
returns-clause-marked c _ =
    let long = part_long c.args.marked.now c.args.start c.args.size c.requires in
    part_marked c.args.marked.now c.mark_all.new.marked c.args.start c.args.size _ (omega arith) c.requires (c.mark_all.ensures.len ∙ long)
    (λ k below. c.mark_all.ensures.each k (omega (arith, long, below)))
