-- A real-time frame by its own reader, and any other frame by the general one.
use Rattle.std.proofs.Common.{map, subst, sym}
use Rattle.device_core.specs.Steps.{Steps}
use Rattle.device_core.proofs.device.Device.hear.Goals as goal

pub returns-in-Some-clause-steps : goal.returns-in-Some-clause-steps
returns-in-Some-clause-steps g c =
    let said = c.in-Some.ensures.found c.args.self.now.station.identity in
    subst (λ heard. Steps g.F.Flash c.args.self.now heard (map (λ frame. frame.items) c.hear_real_time.new.outbox.items) c.hear_real_time.result c.hear_real_time.new.self) (sym said)
    c.hear_real_time.ensures.steps
