-- A frame is fetched and handed out.
use Rattle.std.proofs.Common.{◌≡◌, ◌<◌, ◌∙◌, ℕ, List, [], length, map, refl, sym, ap, subst, arith}
use Rattle.std.proofs.lemmas.List.{length-map}
use Rattle.device_station.specs.port.State.{advanced}
use Rattle.device_station.specs.contracts.port.device.DevicePort.{the_view}
use Rattle.device_station.proofs.PortLeft.{frame_drawn, next_of, steady_frame}
use Rattle.device_station.proofs.port.device.DevicePort.fetch_frame.Goals as goal

pub invariant_of-self : goal.invariant_of-self
invariant_of-self c =
    let port = c.self.inside in
    let frames : List (List ℕ) = map (λ frame. frame.items) port.outbox.items in
    let long = length-map port.outbox.items (λ frame. frame.items) in
    let some : port.frames_past < length frames = omega (arith, c.if-self-len.true, c.len.ensures.value, long) in
    (c.self.invariant.0, omega (arith, some, long), steady_frame port.stage port.device.live.values.has_failed port.frames_past _ frames some c.self.invariant.2, c.self.invariant.3)

pub invariant_of-self-then-self-len : goal.invariant_of-self-then-self-len
invariant_of-self-then-self-len c =
    let port = c.self.inside in
    let frames : List (List ℕ) = map (λ frame. frame.items) port.outbox.items in
    let long = length-map port.outbox.items (λ frame. frame.items) in
    let some : port.frames_past < length frames = omega (arith, c.if-self-len.true, c.len.ensures.value, long) in
    (c.self.invariant.0, omega (arith, some, long), steady_frame port.stage port.device.live.values.has_failed port.frames_past _ frames some c.self.invariant.2, c.self.invariant.3)

pub returns-then-self-len : goal.returns-then-self-len
returns-then-self-len c =
    let port = c.self.inside in
    let none : (the_view port).calls ≡ [] = subst (λ p. p.calls ≡ []) (sym c.self.view_is) c.requires in
    let known = ap length c.as_slice.ensures.value in
    let some : port.frames_past < length c.as_slice.result.now = omega (arith, c.if-self-len.true, c.len.ensures.value, known) in (
      (
        refl,
        (λ _. tt),
        (
          rw (← c.self.view_is) (next_of (λ frame. frame.items) c.as_slice.result.now (map (λ frame. frame.items) port.outbox.items) port.frames_past c.index-as_slice-past.result
              (ap (map (λ frame. frame.items)) c.as_slice.ensures.value) some c.index-as_slice-past.is),
          sym (frame_drawn (the_view port) port.frames_past (map (λ frame. frame.items) port.outbox.items) none refl) ∙ ap advanced c.self.view_is,
          c.waiting_frame.ensures,
        ),
      ),
      tt,
    )
