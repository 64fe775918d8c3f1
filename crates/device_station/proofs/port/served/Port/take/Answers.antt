-- The device handles the event, and the services see the settings.
use Rattle.std.proofs.Common.{◌≡◌, ◌-◌, ◌∙◌, None, ap, drop, refl, subst, sym}
use Rattle.device_station.specs.port.Pace.{caught_up}
use Rattle.device_station.specs.port.Served.{Served, barred_both}
use Rattle.device_station.specs.port.ServedSteps.{StepsBoth, seen_by}
use Rattle.device_station.specs.contracts.port.served.Port.{the_view}
use Rattle.device_station.proofs.ServedBarring.{free_fetched, free_port}
use Rattle.device_station.proofs.ServedHearing.{app_steps}
use Rattle.device_station.proofs.ServedPacing.{caught_zero}
use Rattle.device_station.proofs.ServedTicking.{at}
use Rattle.device_station.proofs.port.served.Port.take.Goals as goal

pub take-note-requires : goal.take-note-requires
take-note-requires c =
    let all = c.self.inside in
    free_port (the_view all) (subst (λ (s : Served). barred_both s ≡ None) (sym c.self.view_is) c.requires.free)

pub returns : goal.returns
returns c =
    let all = c.self.inside in
    let frames = drop all.frames_past all.own.frames in
    let services = caught_up (all.limit - all.rest) all.services in
    let after = c.observe.new.services in
    let new = c.take-note.new.self in
    let none = ap (λ (s : Served). s.frames) c.self.view_is ∙ (free_fetched c.args.self.now c.requires.free).1 in
    let seen = c.observe.ensures ∙ ap (seen_by new.device.live.values) c.catch_up.ensures in
    rw (← c.self.view_is) (subst (λ o. StepsBoth (at all.serves all.port services frames) c.args.event.now c.take-note.result (at all.serves new o frames)) (caught_zero 0 after refl)
    (app_steps all.serves all.port new services after frames c.args.event.now c.take-note.result c.requires.kind none c.take-note.ensures seen))
