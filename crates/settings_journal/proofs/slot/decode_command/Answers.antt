-- The payload after kind and length.
use Rattle.settings_journal.proofs.Commands.{handled_in}
use Rattle.settings_journal.proofs.slot.decode_command.Goals as goal

pub returns : goal.returns
returns c = handled_in c.args.version c.args.slot.now c.from-length.result c.command_at.result c.from-length.ensures c.if-length-gt-MOST.false c.command_at.ensures
