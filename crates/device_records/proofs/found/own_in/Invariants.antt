-- The module is not among those so far, and the remaining submodules are those of the remaining modules.
use Rattle.std.proofs.Common.{◌≡◌, drop}
use Rattle.module_diff.specs.Diff.{wanted_in}
use Rattle.device_records.specs.Found.{own_in}
use Rattle.device_records.proofs.found.own_in.Given as goal

abbrev pub invariant-loop-entry : goal.invariant-loop-entry
invariant-loop-entry l =
    own_in l.slot (wanted_in (drop l.entry-index l.expected.modules.items) l.left)
    ≡ own_in l.slot (wanted_in l.expected.modules.items l.expected.submodules.items)
