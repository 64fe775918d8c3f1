use Rattle.std.proofs.Common.{◌∙◌}
use Rattle.uuid.specs.Text.{parsed}
use Rattle.script_lines.proofs.Identifiers.{parsed_or_none}
use Rattle.script_lines.proofs.command.identifier.Goals as goal

pub returns : goal.returns
returns c =
    c.ok.ensures.value ∙ parsed_or_none c.try_parse_ascii.result (parsed c.args.word.now) c.try_parse_ascii.ensures.bytes c.try_parse_ascii.ensures.ok.1
