use Rattle.script_lines.proofs.FirstPlace.{first_place}
use Rattle.script_lines.proofs.command.place_of.Goals as goal

pub returns-clause-place : goal.returns-clause-place
returns-clause-place c = first_place c.args.wanted c.args.bytes.now c.memchr.result c.memchr.ensures
