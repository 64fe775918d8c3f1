-- The next piece of work of the device, or else a frame of the services.
use Rattle.std.proofs.Common.{◌++◌, drop, ap, subst}
use Rattle.device_station.specs.port.Served.{Served}
use Rattle.device_station.specs.port.State.{IsIdle, IsNext}
use Rattle.device_station.proofs.port.served.Port.next.Goals as goal

pub next_own-requires : goal.next_own-requires
next_own-requires c = subst (λ (s : Served). IsIdle s.port) c.self.view_is (subst (λ w. IsNext c.self.inside.port w) c.in-Nothing.is c.next.ensures)

pub returns-in-Carry : goal.returns-in-Carry
returns-in-Carry c = rw (← c.self.view_is) (subst (λ w. IsNext c.self.inside.port w) c.in-Carry.is c.next.ensures)

pub returns-in-Send : goal.returns-in-Send
returns-in-Send c =
    let all = c.self.inside in
    let own = drop all.frames_past all.own.frames in
    let next = subst (λ w. IsNext all.port w) c.in-Send.is c.next.ensures in
    rw (← c.self.view_is) (next.0, (next.1.0 ++ own, ap (λ f. f ++ own) next.1.1), next.2)
