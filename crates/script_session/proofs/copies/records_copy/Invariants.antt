-- The records so far are copied.
use Rattle.std.proofs.Common.{◌≡◌, take}
use Rattle.script_session.proofs.copies.records_copy.Given as goal

abbrev pub invariant-loop-entry : goal.invariant-loop-entry
invariant-loop-entry l = l.copies.items ≡ take l.entry-index l.records
