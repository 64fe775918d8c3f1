-- the text has the steps so far, each with at most 24 octets
use Rattle.std.proofs.Common.{◌≡◌, ◌≤◌, ◌*◌, length, take}
use Rattle.plan_abi.specs.Places.{spelled_behind}
use Rattle.plan_abi.proofs.spelled.spelled.Given as goal

abbrev pub invariant-loop-step : goal.invariant-loop-step
invariant-loop-step l = (l.text.items ≡ spelled_behind (take l.step-index l.steps)) × (length l.text.items ≤ 24 * l.step-index)
