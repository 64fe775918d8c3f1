-- The device by its own leap, and the services by theirs.
use Rattle.std.proofs.Common.{◌++◌, ℕ, List, sym, ap, ◌∙◌}
use Rattle.frame_codec.specs.Outbox.{boxed}
use Rattle.device_core.specs.State.{Live, State}
use Rattle.device_station.proofs.Leaping.{due_behind, leap_after, live_alone, some_units}
use Rattle.device_station.proofs.leaps.elapse_told.Goals as goal

abbrev with_live : {F : Type 0} → State F → Live → State F
with_live device live = record { flash = device.flash; station = device.station; live = live }

pub pass_units-requires-clause-some : goal.pass_units-requires-clause-some
pass_units-requires-clause-some g c = some_units c.args.units c.if-units-eq0.false

pub pass_units-requires-clause-due : goal.pass_units-requires-clause-due
pass_units-requires-clause-due g c =
    due_behind c.args.device.now c.elapse-note.new.self c.args.units c.args.services.now c.is_lost.result c.running.result.now c.elapse-note.ensures.device c.is_lost.ensures c.running.ensures c.requires

pub returns-clause-device : goal.returns-clause-device
returns-clause-device g c =
    c.elapse-note.ensures.device
    ∙ ap (λ (l : Live). with_live c.args.device.now l) (sym (live_alone c.args.units c.args.device.now.station c.args.device.now.live c.args.services.now))

pub returns-clause-services : goal.returns-clause-services
returns-clause-services g c =
    let new = c.elapse-note.new.self in
    (leap_after c.args.device.now new c.args.units c.args.services.now c.pass_units.new.services (boxed c.pass_units.new.outbox) (some_units c.args.units c.if-units-eq0.false)
    c.elapse-note.ensures.device c.elapse-note.ensures.last (c.pass_units.ensures new.station.identity new.live.values (sym c.is_lost.ensures) (sym c.running.ensures))).0

pub returns-clause-frames : goal.returns-clause-frames
returns-clause-frames g c =
    let new = c.elapse-note.new.self in
    ap (λ (f : List (List ℕ)). f ++ boxed c.pass_units.new.outbox) c.elapse-note.ensures.frames
    ∙ (leap_after c.args.device.now new c.args.units c.args.services.now c.pass_units.new.services (boxed c.pass_units.new.outbox) (some_units c.args.units c.if-units-eq0.false)
    c.elapse-note.ensures.device c.elapse-note.ensures.last (c.pass_units.ensures new.station.identity new.live.values (sym c.is_lost.ensures) (sym c.running.ensures))).1

pub returns-clause-last : goal.returns-clause-last
returns-clause-last g c =
    let new = c.elapse-note.new.self in
    (leap_after c.args.device.now new c.args.units c.args.services.now c.pass_units.new.services (boxed c.pass_units.new.outbox) (some_units c.args.units c.if-units-eq0.false)
    c.elapse-note.ensures.device c.elapse-note.ensures.last (c.pass_units.ensures new.station.identity new.live.values (sym c.is_lost.ensures) (sym c.running.ensures))).2

pub returns-clause-quiet : goal.returns-clause-quiet
returns-clause-quiet g c =
    let new = c.elapse-note.new.self in
    (leap_after c.args.device.now new c.args.units c.args.services.now c.pass_units.new.services (boxed c.pass_units.new.outbox) (some_units c.args.units c.if-units-eq0.false)
    c.elapse-note.ensures.device c.elapse-note.ensures.last (c.pass_units.ensures new.station.identity new.live.values (sym c.is_lost.ensures) (sym c.running.ensures))).3
