use Rattle.std.proofs.Common.{◌≡◌, drop}
use Rattle.configurator.specs.Standing.{put_in}
use Rattle.configurator.proofs.station.put_in.Given as goal

-- what is found in all is found in the rest
abbrev pub invariant-loop-entry : goal.invariant-loop-entry
invariant-loop-entry l = put_in l.slot l.slots ≡ put_in l.slot (drop l.entry-index l.slots)
