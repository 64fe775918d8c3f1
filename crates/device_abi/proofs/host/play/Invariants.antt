-- The host is in the state after the events of the operations so far, and these were done. No call of the chip has failed.
use Rattle.std.proofs.Common.{◌≡◌, take}
use Rattle.device_abi.specs.Host.{Stands, begun_by, events_of}
use Rattle.device_abi.specs.Plays.{Plays, point}
use Rattle.device_station.specs.declared.port.stage.Stage.TheVariants.{Booted}
use Rattle.device_abi.proofs.host.play.Given as goal

abbrev pub invariant-loop-operation : goal.invariant-loop-operation
invariant-loop-operation g l = record {
  stands : Stands (begun_by l.initial.port (g.K.Sink.taken l.initial.sink)) (events_of (take l.operation-index l.operations)) (g.K.Sink.taken l.sink) l.port (g.C.Flash.image l.chip);
  plays : Plays (take l.operation-index l.operations) (point l.initial.port (g.C.Flash.image l.initial.chip) (g.K.Sink.taken l.initial.sink))
      (point l.port (g.C.Flash.image l.chip) (g.K.Sink.taken l.sink));
  stage : l.port.port.stage ≡ Booted;
  failures : g.C.Flash.failures l.chip ≡ g.C.Flash.failures l.initial.chip;
  reliable : g.C.Flash.is_reliable l.initial.chip → g.C.Flash.is_reliable l.chip;
}
