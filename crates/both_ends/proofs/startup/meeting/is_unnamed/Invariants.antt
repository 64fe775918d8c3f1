-- The names so far are others.
use Rattle.std.proofs.Common.{◌≡◌, drop}
use Rattle.asked_records.specs.Names.{named_at}
use Rattle.both_ends.proofs.startup.meeting.is_unnamed.Given as goal

abbrev pub invariant-loop-name : goal.invariant-loop-name
invariant-loop-name l =
    named_at l.entry.slot l.entry.subslot l.entry.index (drop l.name-index l.names) ≡ named_at l.entry.slot l.entry.subslot l.entry.index l.names
