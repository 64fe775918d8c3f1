-- Units with which nothing is due: no work remains after them.
use Rattle.std.proofs.Common.{[], drop, length, ap, ◌∙◌, arith}
use Rattle.device_station.specs.recorded.Record.{recalled}
use Rattle.device_station.specs.port.State.{has_some}
use Rattle.device_station.specs.contracts.port.device.DevicePort.{the_view}
use Rattle.device_station.proofs.PortLeaps.{passed_at}
use Rattle.device_station.proofs.PortStages.{free_at, free_in, steady_of}
use Rattle.device_station.proofs.port.device.DevicePort.skip.Goals as goal

pub returns-clause-ticks : goal.returns-clause-ticks
returns-clause-ticks c =
    let port = c.self.inside in
    let free = free_in (the_view port) _ c.self.view_is c.requires.free in
    let same = ap (λ f. drop port.calls_past (recalled f)) c.skip.ensures.flash ∙ free.calls in
    rw (← c.self.view_is) (passed_at c.args.units (the_view port) c.skip.new.device port.stage _ _ [] free.booted free.calls free.frames free.booted same free.frames c.skip.ensures.passes)

pub invariant_of-self : goal.invariant_of-self
invariant_of-self c =
    let port = c.self.inside in
    let free = free_in (the_view port) _ c.self.view_is c.requires.free in (
      omega (arith, ap (λ f. length (recalled f)) c.skip.ensures.flash),
      c.self.invariant.1,
      steady_of port.stage _ _ _ free.booted c.skip.ensures.going,
      λ some. (c.steady-self-inside.ensures.steady some, free.booted, ap (λ f. drop port.calls_past (recalled f)) c.skip.ensures.flash ∙ free.calls),
    )

pub returns-clause-quiet : goal.returns-clause-quiet
returns-clause-quiet c =
    let port = c.self.inside in
    let free = free_in (the_view port) _ c.self.view_is c.requires.free in
    ap (λ f. drop port.calls_past (recalled f)) c.skip.ensures.flash ∙ free.calls

pub returns-clause-free : goal.returns-clause-free
returns-clause-free c =
    let port = c.self.inside in
    let free = free_in (the_view port) _ c.self.view_is c.requires.free in
    free_at port.stage _ _ free.booted (ap (λ f. drop port.calls_past (recalled f)) c.skip.ensures.flash ∙ free.calls) (ap has_some free.frames)
