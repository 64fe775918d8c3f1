use Rattle.settings_journal.proofs.Storing.{with_slot_is}
use Rattle.settings_journal.proofs.store.with_slot.Goals as goal

pub returns : goal.returns
returns c = with_slot_is c.args.position.active c.args.position.free c.if-position-eq0.false
