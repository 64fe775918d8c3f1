-- The frames so far arrived.
use Rattle.std.proofs.Common.{take}
use Rattle.network_world.specs.Sent.{octets_of}
use Rattle.rounds_law.specs.Rounds.{IsReliable, Takes}
use Rattle.rounds_law.proofs.rounds.arrive_at_device.Given as goal

abbrev pub invariant-loop-frame : goal.invariant-loop-frame
invariant-loop-frame g l = IsReliable g.F.Flash l.initial.device
    → Takes g.F.Flash l.initial.device (octets_of (take l.frame-index l.frames)) (octets_of l.initial.sent.items) l.device (octets_of l.sent.items)
