-- What a unit brings is sent: the ERR of a relation that a timeout ends, otherwise what is due.
use Rattle.std.proofs.Common.{◌≡◌, ◌&&◌, Bool, true, false, [], refl}
use Rattle.std.specs.Prelude.{option_map}
use Rattle.std.proofs.lemmas.List.{append-nil}
use Rattle.relations.specs.Farewells.{farewell_of}
use Rattle.relations.specs.Timers.{repeated_by}
use Rattle.device_frames.specs.Relation.{farewells_in, where_due}
use Rattle.device_core.proofs.device.Device.bring.Goals as goal

-- Nothing is due of a relation that has ended.
idle : (is_due : Bool) → where_due is_due [] ≡ []
idle true = refl
idle false = refl

pub returns-in-Some-clause-frames : goal.returns-in-Some-clause-frames
returns-in-Some-clause-frames g c =
    let elapsed = c.args.elapsed in
    let link = c.args.self.now.live.rest.link in
    rw (c.end.ensures.frames, ← c.ending.ensures, c.in-Some.is)
    (rw (idle (elapsed.tick.is_alarm && (repeated_by link).high), idle (elapsed.tick.is_alarm && (repeated_by link).low), idle elapsed.is_ready, idle elapsed.is_plug_ready, idle elapsed.tick.is_cyclic, append-nil (farewells_in (option_map (farewell_of c.in-Some.reason) c.args.self.now.live.rest.link))) refl)

pub returns-in-None-clause-frames : goal.returns-in-None-clause-frames
returns-in-None-clause-frames g c =
    let again : c.repeated.result ≡ repeated_by c.args.self.now.live.rest.link = rw (← c.self.view_is) c.repeated.ensures in
    rw (c.send_each.ensures.frames, c.repeated_with.ensures, again, c.is_cyclic.ensures, ← c.ending.ensures, c.in-None.is) refl

pub returns-in-Some-clause-state : goal.returns-in-Some-clause-state
returns-in-Some-clause-state g c =
    rw (c.end.ensures.state, ← c.ending.ensures, c.in-Some.is) refl

pub returns-in-None-clause-state : goal.returns-in-None-clause-state
returns-in-None-clause-state g c =
    rw (← c.ending.ensures, c.in-None.is) refl

pub returns-in-Some-clause-sendable : goal.returns-in-Some-clause-sendable
returns-in-Some-clause-sendable g c =
    let elapsed = c.args.elapsed in
    let link = c.args.self.now.live.rest.link in
    rw (← c.ending.ensures, c.in-Some.is)
    (rw (idle (elapsed.tick.is_alarm && (repeated_by link).high), idle (elapsed.tick.is_alarm && (repeated_by link).low), idle elapsed.is_ready, idle elapsed.is_plug_ready, idle elapsed.tick.is_cyclic, append-nil (farewells_in (option_map (farewell_of c.in-Some.reason) c.args.self.now.live.rest.link))) c.end.ensures.sendable)

pub returns-in-None-clause-sendable : goal.returns-in-None-clause-sendable
returns-in-None-clause-sendable g c =
    let again : c.repeated.result ≡ repeated_by c.args.self.now.live.rest.link = rw (← c.self.view_is) c.repeated.ensures in
    rw (← c.ending.ensures, c.in-None.is) (rw (c.repeated_with.ensures, again, c.is_cyclic.ensures) at c.send_each.ensures.sendable)
