-- The rest of the records decides as all of them do.
use Rattle.std.proofs.Common.{◌≡◌, ◌-◌}
use Rattle.controller_core.specs.start_up.Outcomes.{outcomes_from}
use Rattle.controller_core.proofs.start_up.outcomes.outcomes_from.Given as goal

abbrev pub invariant-loop-place : goal.invariant-loop-place
invariant-loop-place l = outcomes_from (l.count - l.place) l.place l.rest ≡ outcomes_from l.count 0 l.octets
