use Rattle.std.proofs.Common.{replicate}
use Rattle.controller_core.specs.declared.stored.event.Event.TheVariants as event
use Rattle.script_session.specs.Ends.{controller_run}
use Rattle.script_session.proofs.Ticking.{IsHearing}
use Rattle.script_session.proofs.other_end.ticks.Given as goal

abbrev pub invariant-loop-left : goal.invariant-loop-left
invariant-loop-left l = IsHearing (controller_run l.fn.controller (replicate l.units event.Tick)) (replicate l.left event.Tick) l.controller l.fn.to_device.items l.to_device.items

abbrev pub decreases-loop-left : goal.decreases-loop-left
decreases-loop-left l = l.left
