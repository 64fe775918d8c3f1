-- Whether frames remain.
use Rattle.std.proofs.Common.{sym, ap, ◌∙◌}
use Rattle.std.specs.Prelude.{nat_lt}
use Rattle.controller_station.specs.Served.{in_order}
use Rattle.controller_abi.proofs.Left.{left_is}
use Rattle.controller_abi.proofs.port.Port.has_work.Goals as goal

pub returns : goal.returns
returns c =
    let port = c.self.inside in
    rw (← c.self.view_is) (ap (nat_lt port.frames_past) c.len.ensures ∙ sym (left_is port.frames_past (in_order port.outbox)))
