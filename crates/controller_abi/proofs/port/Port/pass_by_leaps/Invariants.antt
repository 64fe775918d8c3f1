-- The units so far passed, one step each.
use Rattle.std.proofs.Common.{◌≡◌, ◌-◌, ◌≤◌, false}
use Rattle.controller_abi.specs.State.{is_stopped}
use Rattle.controller_abi.specs.Steps.{Ticks}
use Rattle.controller_abi.proofs.port.Port.pass_by_leaps.Given as goal

abbrev pub invariant-loop-left : goal.invariant-loop-left
invariant-loop-left l = record { few : l.left ≤ l.units; ticks : Ticks l.was_over (l.units - l.left) l.initial.self l.self; free : is_stopped l.was_over l.self ≡ false }

abbrev pub decreases-loop-left : goal.decreases-loop-left
decreases-loop-left l = l.left
