-- The host is in the same state, and less work remains. No call of the chip has failed.
use Rattle.std.proofs.Common.{◌≡◌, ◌+◌, List, length}
use Rattle.device_frames.specs.declared.event.Event.{Event}
use Rattle.device_abi.specs.Host.{Begun, Stands}
use Rattle.device_abi.specs.Plays.{point, settled}
use Rattle.device_station.specs.port.Served.{frames_of}
use Rattle.device_station.specs.declared.port.stage.Stage.TheVariants.{Booted}
use Rattle.device_abi.proofs.host.settle.Given as goal

abbrev pub invariant-loop-port : goal.invariant-loop-port
invariant-loop-port g l = record {
  ends : (begun : Begun) (events : List Event) → Stands begun events (g.K.Sink.taken l.initial.sink) l.initial.port (g.C.Flash.image l.initial.chip)
      → Stands begun events (g.K.Sink.taken l.sink) l.port (g.C.Flash.image l.chip);
  settled : l.initial.port.port.stage ≡ Booted → (l.port.port.stage ≡ Booted)
      × (settled (point l.port (g.C.Flash.image l.chip) (g.K.Sink.taken l.sink)) ≡ settled (point l.initial.port (g.C.Flash.image l.initial.chip) (g.K.Sink.taken l.initial.sink)));
  failures : g.C.Flash.failures l.chip ≡ g.C.Flash.failures l.initial.chip;
  reliable : g.C.Flash.is_reliable l.initial.chip → g.C.Flash.is_reliable l.chip;
}

abbrev pub decreases-loop-port : goal.decreases-loop-port
decreases-loop-port g l = length l.port.port.calls + length (frames_of l.port)
