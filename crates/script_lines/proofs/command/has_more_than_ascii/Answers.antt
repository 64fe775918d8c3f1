use Rattle.script_lines.proofs.Ascii.{not_ascii}
use Rattle.script_lines.proofs.command.has_more_than_ascii.Goals as goal

pub returns : goal.returns
returns c = not_ascii c.args.line.now c.is_ascii.result c.is_ascii.ensures.cases
