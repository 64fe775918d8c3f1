use Rattle.script_lines.proofs.Cut.{line_of_last, line_of_more}
use Rattle.script_lines.proofs.command.first_line.Goals as goal

pub returns-in-None-clause-lines : goal.returns-in-None-clause-lines
returns-in-None-clause-lines c = line_of_last _ _ c.requires (rw c.in-None.is at c.cut_at.ensures.parts)

pub returns-in-Some-clause-lines : goal.returns-in-Some-clause-lines
returns-in-Some-clause-lines c =
    let parts = rw c.in-Some.is at c.cut_at.ensures.parts in
    rw c.without_return.ensures (line_of_more c.args.bytes.now c.cut_at.result.0.now c.in-Some.rest.now parts)
