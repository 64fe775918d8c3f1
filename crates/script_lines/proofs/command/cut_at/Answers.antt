use Rattle.std.proofs.Common.{◌∙◌, sym}
use Rattle.script_lines.proofs.Cut.{cut_none, cut_some}
use Rattle.script_lines.proofs.command.cut_at.Goals as goal

pub returns-in-None-clause-parts : goal.returns-in-None-clause-parts
returns-in-None-clause-parts c = cut_none c.args.separator c.args.bytes.now (sym c.place_of.ensures.place ∙ c.in-None.is)

pub returns-in-Some-clause-parts : goal.returns-in-Some-clause-parts
returns-in-Some-clause-parts c = cut_some c.args.separator c.in-Some.place c.args.bytes.now (sym c.place_of.ensures.place ∙ c.in-Some.is)
