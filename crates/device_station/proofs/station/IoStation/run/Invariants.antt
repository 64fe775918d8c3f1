-- The events so far are run.
use Rattle.std.proofs.Common.{take}
use Rattle.device_station.specs.Runs.{StationRuns}
use Rattle.device_station.proofs.station.IoStation.run.Given as goal

abbrev pub invariant-loop-event : goal.invariant-loop-event
invariant-loop-event g l = StationRuns g.F.Flash l.initial.self (take l.event-index l.events) (g.K.Sink.taken l.initial.sink) (g.K.Sink.taken l.sink) l.self
