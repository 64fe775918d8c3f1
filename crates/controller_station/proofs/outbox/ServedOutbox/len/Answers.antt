-- The frames of both are counted.
use Rattle.std.proofs.Common.{ℕ, List, map, arith, length-append}
use Rattle.std.proofs.lemmas.List.{length-map}
use Rattle.arrayvec.specs.ArrayVec.{ArrayVec as Items}
use Rattle.controller_station.proofs.outbox.ServedOutbox.len.Goals as goal

pub returns : goal.returns
returns c =
    let inside = c.self.inside in
    let octets : Items ℕ → List ℕ = λ frame. frame.items in
    rw (← c.self.view_is) (omega (
      arith,
      c.len.ensures.value,
      c.len-2.ensures.value,
      length-map inside.controller.items octets,
      length-map inside.services.items octets,
      length-append (map octets inside.controller.items) (map octets inside.services.items),
    ))
