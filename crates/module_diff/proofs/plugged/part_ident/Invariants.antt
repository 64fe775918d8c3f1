-- The submodules so far are in other subslots.
use Rattle.std.proofs.Common.{◌≡◌, drop}
use Rattle.module_diff.specs.Plugged.{part_ident}
use Rattle.module_diff.proofs.plugged.part_ident.Given as goal

abbrev pub invariant-loop-part : goal.invariant-loop-part
invariant-loop-part l = part_ident (drop l.part-index l.entry.submodules.items) l.subslot ≡ part_ident l.entry.submodules.items l.subslot
