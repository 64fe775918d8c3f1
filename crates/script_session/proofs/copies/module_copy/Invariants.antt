-- The submodules so far are copied.
use Rattle.std.proofs.Common.{◌≡◌, take}
use Rattle.script_session.proofs.copies.module_copy.Given as goal

abbrev pub invariant-loop-part : goal.invariant-loop-part
invariant-loop-part l = l.submodules.items ≡ take l.part-index l.entry.submodules.items
