-- A piece of work is fetched.
use Rattle.std.proofs.Common.{◌<◌, ℕ, List, length, map, refl, sym, ap, ◌∙◌, arith}
use Rattle.std.proofs.lemmas.List.{length-map}
use Rattle.device_station.specs.recorded.Record.{recalled}
use Rattle.device_station.specs.port.State.{advanced}
use Rattle.device_station.specs.contracts.port.device.DevicePort.{the_view}
use Rattle.device_station.proofs.PortLeft.{call_taken, known_call, frame_taken, steady_call, steady_frame}
use Rattle.device_station.proofs.port.device.DevicePort.advance.Goals as goal

pub invariant_of-self : goal.invariant_of-self
invariant_of-self c =
    let port = c.self.inside in
    let all = ap (λ f. length (recalled f)) c.flash.ensures in
    let some : port.calls_past < length (recalled port.device.flash) = omega (arith, c.if-self-stored.true, c.stored.ensures, all) in
    (omega (arith, some), c.self.invariant.1, steady_call port.stage port.device.live.values.has_failed port.calls_past (recalled port.device.flash) _ some c.self.invariant.2, known_call port.steady port.device.live port.stage port.calls_past (recalled port.device.flash) some c.self.invariant.3)

pub invariant_of-self-then-self-len : goal.invariant_of-self-then-self-len
invariant_of-self-then-self-len c =
    let port = c.self.inside in
    let frames : List (List ℕ) = map (λ frame. frame.items) port.outbox.items in
    let long = length-map port.outbox.items (λ frame. frame.items) in
    let some : port.frames_past < length frames = omega (arith, c.if-self-len.true, c.len.ensures.value, long) in
    (c.self.invariant.0, omega (arith, some, long), steady_frame port.stage port.device.live.values.has_failed port.frames_past _ frames some c.self.invariant.2, c.self.invariant.3)

pub returns-then-self-stored : goal.returns-then-self-stored
returns-then-self-stored c =
    let port = c.self.inside in
    let all = ap (λ f. length (recalled f)) c.flash.ensures in
    sym (call_taken (the_view port) port.calls_past (recalled port.device.flash) (omega (arith, c.if-self-stored.true, c.stored.ensures, all))) ∙ ap advanced c.self.view_is

pub returns-then-self-len : goal.returns-then-self-len
returns-then-self-len c =
    let port = c.self.inside in
    let all = ap (λ f. length (recalled f)) c.flash.ensures in
    sym (frame_taken (the_view port) port.calls_past port.frames_past (recalled port.device.flash) (map (λ frame. frame.items) port.outbox.items)
    (omega (arith, c.if-self-stored.false, c.stored.ensures, all)) refl) ∙ ap advanced c.self.view_is
