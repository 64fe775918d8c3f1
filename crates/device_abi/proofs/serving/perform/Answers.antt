-- Values that are read of a port, which stays as it is.
use Rattle.std.proofs.Common.{refl}
use Rattle.device_abi.proofs.Reported.{conflicts_told, due_told, left_told, passed_told}
use Rattle.device_abi.proofs.serving.perform.Goals as goal

pub returns-in-Running : goal.returns-in-Running
returns-in-Running c =
    let told = c.tell_settings in
    rw c.in-Running.is (refl, told.ensures _ _ c.running.ensures)

pub returns-in-Stored : goal.returns-in-Stored
returns-in-Stored c =
    let told = c.tell_settings-in-Stored in
    rw c.in-Stored.is (refl, told.ensures _ _ c.stored.ensures)

pub returns-in-Left : goal.returns-in-Left
returns-in-Left c =
    let told = c.tell_number in
    let op = c.args.op.now in
    rw c.in-Left.is (refl, left_told _ _ op _ _ (told.ensures _ _ c.left.ensures))

pub returns-in-Due : goal.returns-in-Due
returns-in-Due c = rw c.in-Due.is (c.due.ensures.same, due_told _ _ c.args.op.now _ _ (c.tell_number-in-Due.ensures _ _ c.due.ensures.due))

pub returns-in-Conflicts : goal.returns-in-Conflicts
returns-in-Conflicts c = rw c.in-Conflicts.is (refl, conflicts_told _ _ c.args.op.now _ _ (c.tell_number-in-Conflicts.ensures _ _ c.conflicts.ensures))

pub returns-in-PassedOn : goal.returns-in-PassedOn
returns-in-PassedOn c =
    let told = c.tell_number-in-PassedOn in
    let op = c.args.op.now in
    rw c.in-PassedOn.is (refl, passed_told _ _ op _ _ (told.ensures _ _ c.passed_on.ensures))
