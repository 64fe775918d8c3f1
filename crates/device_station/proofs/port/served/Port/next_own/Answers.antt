-- The first frame of the services is the first of all, since the device has none.
use Rattle.std.proofs.Common.{◌∙◌, subst, sym, arith}
use Rattle.std.proofs.lemmas.List.{drop_all}
use Rattle.device_station.specs.port.Served.{Served}
use Rattle.device_station.specs.port.State.{IsIdle}
use Rattle.device_station.specs.contracts.port.served.Port.{the_view}
use Rattle.device_station.proofs.ServedFetching.{own_frames}
use Rattle.device_station.proofs.PortLeft.{next_at}
use Rattle.device_station.proofs.port.served.Port.next_own.Goals as goal

pub returns-then-self-len : goal.returns-then-self-len
returns-then-self-len c =
    let all = c.self.inside in
    let idle = subst (λ (s : Served). IsIdle s.port) (sym c.self.view_is) c.requires in
    let next = next_at all.frames_past all.own.frames c.frame.result.now c.frame.ensures.at in
    rw (← c.self.view_is) (idle.0, (next.0, sym (own_frames (the_view all) idle.1) ∙ next.1), c.frame.ensures.short)

pub returns : goal.returns
returns c =
    let all = c.self.inside in
    let idle = subst (λ (s : Served). IsIdle s.port) (sym c.self.view_is) c.requires in
    rw (← c.self.view_is) (idle, drop_all all.frames_past all.own.frames (omega (arith, c.if-self-len.false, c.len.ensures)))
