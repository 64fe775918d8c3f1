-- The next frame.
use Rattle.controller_station.specs.Served.{in_order}
use Rattle.controller_abi.proofs.Left.{next_is}
use Rattle.controller_abi.proofs.port.Port.next.Goals as goal

pub returns : goal.returns
returns c =
    let port = c.self.inside in
    rw (← c.self.view_is) (next_is (λ frame. frame.now) (in_order port.outbox) port.frames_past c.get.result c.get.ensures)
