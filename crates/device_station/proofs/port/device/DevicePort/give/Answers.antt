-- An input: no work remains after it.
use Rattle.std.proofs.Common.{drop, length, ap, ◌∙◌, arith}
use Rattle.device_station.specs.recorded.Record.{recalled}
use Rattle.device_station.specs.port.State.{has_some}
use Rattle.device_station.specs.contracts.port.device.DevicePort.{the_view}
use Rattle.device_station.proofs.PortLeaps.{known_later, stepped_at}
use Rattle.device_station.proofs.PortStages.{free_at, free_in, steady_of}
use Rattle.device_station.proofs.port.device.DevicePort.give.Goals as goal

pub returns-clause-takes : goal.returns-clause-takes
returns-clause-takes c =
    let port = c.self.inside in
    let free = free_in (the_view port) _ c.self.view_is c.requires in
    let same = ap (λ f. drop port.calls_past (recalled f)) c.step_input.ensures.flash ∙ free.calls in
    rw (← c.self.view_is) (stepped_at (the_view port) _ _ c.step_input.new.device port.stage _ _ free.booted same free.frames c.step_input.ensures.alone)

pub returns-clause-free : goal.returns-clause-free
returns-clause-free c =
    let port = c.self.inside in
    let free = free_in (the_view port) _ c.self.view_is c.requires in
    let same = ap (λ f. drop port.calls_past (recalled f)) c.step_input.ensures.flash ∙ free.calls in
    free_at port.stage _ _ free.booted same (ap has_some free.frames)

pub invariant_of-self : goal.invariant_of-self
invariant_of-self c =
    let port = c.self.inside in
    let free = free_in (the_view port) _ c.self.view_is c.requires in
    let same = ap (λ f. drop port.calls_past (recalled f)) c.step_input.ensures.flash ∙ free.calls in (
      omega (arith, ap (λ f. length (recalled f)) c.step_input.ensures.flash),
      c.self.invariant.1,
      steady_of port.stage _ _ _ free.booted c.step_input.ensures.going,
      known_later port.steady port.device.live c.step_input.new.device.live port.stage _ _ c.step_input.ensures.steady same c.self.invariant.3,
    )
