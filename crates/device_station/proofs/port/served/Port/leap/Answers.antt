-- The neighbour is reported to the device, and then the units pass at both.
use Rattle.std.proofs.Common.{◌≡◌, ◌-◌, drop, Option, None, subst, sym}
use Rattle.device_station.specs.Serving.{Serving}
use Rattle.device_station.specs.port.Pace.{caught_up}
use Rattle.device_station.specs.port.Served.{Served, barred_both}
use Rattle.device_station.specs.port.ServedSteps.{TellsPortAny}
use Rattle.device_station.proofs.ServedComposed.{leapt_both}
use Rattle.device_station.proofs.port.served.Port.leap.Goals as goal

pub returns-clause-ticks : goal.returns-clause-ticks
returns-clause-ticks c =
    let all = c.self.inside in
    let told = c.tell_neighbour.new in
    let new = c.pass_both.new in
    let free = subst (λ (s : Served). barred_both s ≡ None) (sym c.self.view_is) c.requires.free in
    let tells = subst (λ (o : Option Serving). TellsPortAny o all.port told.port told.services) c.catch_up.ensures c.tell_neighbour.ensures.tells in
    rw (← c.self.view_is) (leapt_both c.pass_both.result all.serves all.port told.port new.port (caught_up (all.limit - all.rest) all.services) told.services new.services (drop all.frames_past all.own.frames) new.own.frames
    c.pass_both.ensures.some free tells c.tell_neighbour.ensures.told c.pass_both.ensures.ticks c.pass_both.ensures.beside)
