-- None so far is ready.
use Rattle.std.proofs.Common.{◌≡◌, drop}
use Rattle.expected_places.specs.Calls.{first_ready}
use Rattle.expected_places.proofs.calls.first_ready.Given as goal

abbrev pub invariant-loop-call : goal.invariant-loop-call
invariant-loop-call l = first_ready (drop l.call-index l.waiting) ≡ first_ready l.waiting
