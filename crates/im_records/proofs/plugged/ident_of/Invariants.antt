-- The submodules so far are in other subslots.
use Rattle.std.proofs.Common.{◌≡◌, drop}
use Rattle.im_records.specs.Plugged.{ident_in}
use Rattle.im_records.proofs.plugged.ident_of.Given as goal

abbrev pub invariant-loop-part : goal.invariant-loop-part
invariant-loop-part l = ident_in l.subslot (drop l.part-index l.entry.submodules.items) ≡ ident_in l.subslot l.entry.submodules.items
