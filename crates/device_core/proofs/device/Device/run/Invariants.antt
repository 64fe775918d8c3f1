-- The events so far are run.
use Rattle.std.proofs.Common.{◌≡◌, false, take}
use Rattle.device_core.specs.Faults.{RunGoesOn}
use Rattle.device_core.specs.Steps.{Runs}
use Rattle.device_core.proofs.device.Device.run.Given as goal

abbrev pub invariant-loop-event : goal.invariant-loop-event
invariant-loop-event g l = record {
  runs : Runs g.F.Flash l.initial.self (take l.event-index l.events) (g.K.Sink.taken l.initial.sink) (g.K.Sink.taken l.sink) l.self;
  goes_on : l.self.live.values.is_lost ≡ false → RunGoesOn l.initial.self (take l.event-index l.events) (g.K.Sink.taken l.initial.sink) (g.K.Sink.taken l.sink) l.self;
  reliable : g.F.Flash.is_reliable l.initial.self.flash → l.initial.self.live.values.has_failed ≡ false → g.F.Flash.is_reliable l.self.flash × (l.self.live.values.has_failed ≡ false);
}
