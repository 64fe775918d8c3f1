-- The next piece of work.
use Rattle.std.proofs.Common.{◌<◌, ◌≤◌, ◌∷◌, length, map, sym, ap, ◌∙◌, arith}
use Rattle.std.specs.Prelude.{slice_get}
use Rattle.std.proofs.lemmas.List.{drop_all}
use Rattle.device_station.specs.recorded.Entry.{call_of}
use Rattle.device_station.specs.recorded.Record.{recalled}
use Rattle.device_station.proofs.PortLeft.{next_at, next_of}
use Rattle.device_station.proofs.port.device.DevicePort.next.Goals as goal

pub returns-then-self-stored : goal.returns-then-self-stored
returns-then-self-stored c =
    let port = c.self.inside in
    let at = ap (λ f. slice_get (recalled f) port.calls_past) (sym c.flash-flash.ensures) ∙ c.call.ensures.at in
    let next = next_at port.calls_past (recalled port.device.flash) (call_of c.call.result) at in
    rw (← c.self.view_is) (next.0, next.1, c.call.ensures.fits)

pub returns-then-self-len : goal.returns-then-self-len
returns-then-self-len c =
    let port = c.self.inside in
    let all = ap (λ f. length (recalled f)) c.flash-flash.ensures in
    let none : length (recalled port.device.flash) ≤ port.calls_past = omega (arith, c.if-self-stored.false, c.stored.ensures, all) in
    let known = ap length c.as_slice.ensures.value in
    let some : port.frames_past < length c.as_slice.result.now = omega (arith, c.if-self-len.true, c.len.ensures.value, known) in
    let next = next_of (λ frame. frame.items) c.as_slice.result.now (map (λ frame. frame.items) port.outbox.items) port.frames_past c.index-as_slice-self.result
    (ap (map (λ frame. frame.items)) c.as_slice.ensures.value) some c.index-as_slice-self.is in
    rw (← c.self.view_is) (
      drop_all port.calls_past (recalled port.device.flash) none,
      (next.0, next.1 ∙ ap (λ octets. octets ∷ next.0) (sym c.as_slice-then-self-len.ensures.value)),
      c.as_slice-then-self-len.ensures.most,
    )
