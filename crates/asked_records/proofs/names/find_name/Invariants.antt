-- The records so far are others.
use Rattle.std.proofs.Common.{◌≡◌, drop}
use Rattle.asked_records.specs.Names.{named_at}
use Rattle.asked_records.proofs.names.find_name.Given as goal

abbrev pub invariant-loop-name : goal.invariant-loop-name
invariant-loop-name l = named_at l.slot l.subslot l.index (drop l.name-index l.names) ≡ named_at l.slot l.subslot l.index l.names
