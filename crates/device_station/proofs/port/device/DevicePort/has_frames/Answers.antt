-- Whether frames remain.
use Rattle.std.proofs.Common.{◌∙◌, ℕ, List, map, sym, ap}
use Rattle.std.specs.Prelude.{nat_lt}
use Rattle.std.proofs.lemmas.List.{length-map}
use Rattle.device_station.proofs.PortLeft.{some_left}
use Rattle.device_station.proofs.port.device.DevicePort.has_frames.Goals as goal

pub returns : goal.returns
returns c =
    let port = c.self.inside in
    let frames : List (List ℕ) = map (λ frame. frame.items) port.outbox.items in
    let count = c.len.ensures.value ∙ sym (length-map port.outbox.items (λ frame. frame.items)) in
    rw (← c.self.view_is) (ap (nat_lt port.frames_past) count ∙ sym (some_left port.frames_past frames))
