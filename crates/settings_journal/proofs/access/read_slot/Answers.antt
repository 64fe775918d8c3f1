use Rattle.std.proofs.Common.{◌∙◌, arith}
use Rattle.std.proofs.lemmas.Result.{on_ok_weaker}
use Rattle.settings_journal.specs.Slot.{place_of}
use Rattle.settings_journal.proofs.Parts.{range_at}
use Rattle.settings_journal.proofs.access.read_slot.Goals as goal

pub returns-clause-slot : goal.returns-clause-slot
returns-clause-slot g c = on_ok_weaker c.read.result (λ e. e ∙ range_at _ (place_of c.args.number) _ 256 (omega arith)) c.read.ensures.done
