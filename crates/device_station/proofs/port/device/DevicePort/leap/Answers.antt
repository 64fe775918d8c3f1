-- Units that pass at once: the work after them is the frames of the last one.
use Rattle.std.proofs.Common.{drop, length, refl, ap, ◌∙◌, arith}
use Rattle.device_station.specs.recorded.Record.{recalled}
use Rattle.device_station.specs.contracts.port.device.DevicePort.{the_view}
use Rattle.device_station.proofs.PortLeaps.{passed_at}
use Rattle.device_station.proofs.PortStages.{free_in, steady_of}
use Rattle.device_station.proofs.port.device.DevicePort.leap.Goals as goal

pub returns-clause-ticks : goal.returns-clause-ticks
returns-clause-ticks c =
    let port = c.self.inside in
    let free = free_in (the_view port) _ c.self.view_is c.requires.free in
    let same = ap (λ f. drop port.calls_past (recalled f)) c.leap.ensures.flash ∙ free.calls in
    rw (← c.self.view_is) (passed_at c.args.units (the_view port) c.leap.new.device port.stage _ _ _ free.booted free.calls free.frames free.booted same refl c.leap.ensures.passes)

pub returns-clause-stage : goal.returns-clause-stage
returns-clause-stage c =
    let port = c.self.inside in
    let free = free_in (the_view port) _ c.self.view_is c.requires.free in
    free.booted

pub invariant_of-self : goal.invariant_of-self
invariant_of-self c =
    let port = c.self.inside in
    let free = free_in (the_view port) _ c.self.view_is c.requires.free in (
      omega (arith, ap (λ f. length (recalled f)) c.leap.ensures.flash),
      omega arith,
      steady_of port.stage _ _ _ free.booted c.leap.ensures.going,
      λ some. (c.steady-self-inside.ensures.steady some, free.booted, ap (λ f. drop port.calls_past (recalled f)) c.leap.ensures.flash ∙ free.calls),
    )

pub returns-clause-quiet : goal.returns-clause-quiet
returns-clause-quiet c =
    let port = c.self.inside in
    let free = free_in (the_view port) _ c.self.view_is c.requires.free in
    ap (λ f. drop port.calls_past (recalled f)) c.leap.ensures.flash ∙ free.calls
