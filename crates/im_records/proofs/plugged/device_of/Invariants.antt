-- The modules so far do not represent the device.
use Rattle.std.proofs.Common.{◌≡◌, drop}
use Rattle.im_records.specs.Plugged.{device_in}
use Rattle.im_records.proofs.plugged.device_of.Given as goal

abbrev pub invariant-loop-entry : goal.invariant-loop-entry
invariant-loop-entry l = device_in (drop l.entry-index l.real.modules.items) ≡ device_in l.real.modules.items
