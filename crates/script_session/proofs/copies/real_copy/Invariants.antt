-- The modules so far are copied.
use Rattle.std.proofs.Common.{◌≡◌, take}
use Rattle.script_session.proofs.copies.real_copy.Given as goal

abbrev pub invariant-loop-entry : goal.invariant-loop-entry
invariant-loop-entry l = l.modules.items ≡ take l.entry-index l.real.modules.items
