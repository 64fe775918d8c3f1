-- The name, and the rest of 240 zeros after it.
use Rattle.std.proofs.Common.{length}
use Rattle.std.proofs.lemmas.List.{append_assoc}
use Rattle.settings_journal.proofs.Parts.{zeros_behind}
use Rattle.settings_journal.proofs.base.put_name.Goals as goal

pub returns : goal.returns
returns c =
    let zeros = zeros_behind 240 (length c.args.name.now) c.requires.short in
    let was = c.args.base.now.items in
    let put = c.put.ensures in
    let put2 = c.put-2.ensures in
    rw (put2, put, zeros) (append_assoc was _ _)
