-- The frames so far are handed on.
use Rattle.std.proofs.Common.{◌≡◌, ◌++◌, map, take}
use Rattle.device_station.proofs.run.hand_on.Given as goal

abbrev pub invariant-loop-frame : goal.invariant-loop-frame
invariant-loop-frame g l = g.K.Sink.taken l.sink ≡ g.K.Sink.taken l.initial.sink ++ map (λ frame. frame.items) (take l.frame-index l.frames)
