-- The calls so far are ready, and the rest is as it was.
use Rattle.std.proofs.Common.{◌≡◌, ◌++◌, drop, map, take}
use Rattle.expected_places.specs.Calls.{readied_call}
use Rattle.expected_places.proofs.calls.ready_at.Given as goal

abbrev pub invariant-loop-call : goal.invariant-loop-call
invariant-loop-call l =
    l.waiting ≡ map (readied_call l.slot l.subslot) (take l.call-index l.initial.waiting) ++ drop l.call-index l.initial.waiting
