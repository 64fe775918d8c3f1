-- What the services do beside the step of the device.
use Rattle.std.proofs.Common.{◌≡◌, ◌-◌, ℕ, List, Option, None, drop, subst, sym}
use Rattle.arrayvec.specs.ArrayVec.{ArrayVec}
use Rattle.device_frames.specs.declared.event.Event.{Event}
use Rattle.device_frames.specs.declared.event.Event.TheVariants.{Frame}
use Rattle.device_station.specs.Serving.{Serving}
use Rattle.device_station.specs.port.Pace.{caught_up}
use Rattle.device_station.specs.port.Served.{Served, barred_both}
use Rattle.device_station.specs.port.Steps.{Takes}
use Rattle.device_station.specs.port.ServedSteps.{GivesAny, IsBeside, StepsBoth}
use Rattle.device_station.specs.contracts.port.served.Port.{the_view}
use Rattle.device_station.proofs.ServedBarring.{free_port}
use Rattle.device_station.proofs.ServedComposed.{dropped_free, frame_steps, noticed_of}
use Rattle.device_station.proofs.ServedTicking.{at}
use Rattle.device_station.proofs.port.served.Port.take_frame.Goals as goal

pub take-note-requires : goal.take-note-requires
take-note-requires c =
    let all = c.self.inside in
    free_port (the_view all) (subst (λ (s : Served). barred_both s ≡ None) (sym c.self.view_is) c.requires)

pub follow-requires-clause-known : goal.follow-requires-clause-known
follow-requires-clause-known c =
    let takes : Takes c.self.inside.port (Frame (record { items = c.at_most-octets.result.now })) c.take-note.result c.take-note.new.self =
    subst (λ (o : ArrayVec ℕ). Takes c.self.inside.port (Frame o) c.take-note.result c.take-note.new.self) (c.of.ensures.whole c.at_most-octets.ensures.few) c.take-note.ensures in
    noticed_of c.conflicts_are_noticed.ensures c.self.inside.port c.take-note.new.self (record { items = c.at_most-octets.result.now }) c.take-note.result c.catch_up.new.services takes

-- A frame that was dropped leaves no work.
pub follow-requires-clause-dropped : goal.follow-requires-clause-dropped
follow-requires-clause-dropped c =
    let takes : Takes c.self.inside.port (Frame (record { items = c.at_most-octets.result.now })) c.take-note.result c.take-note.new.self =
    subst (λ (o : ArrayVec ℕ). Takes c.self.inside.port (Frame o) c.take-note.result c.take-note.new.self) (c.of.ensures.whole c.at_most-octets.ensures.few) c.take-note.ensures in
    dropped_free c.self.inside.port c.take-note.new.self (Frame (record { items = c.at_most-octets.result.now })) c.take-note.result takes

pub returns : goal.returns
returns c =
    let all = c.self.inside in
    let takes : Takes c.self.inside.port (Frame (record { items = c.at_most-octets.result.now })) c.take-note.result c.take-note.new.self =
    subst (λ (o : ArrayVec ℕ). Takes c.self.inside.port (Frame o) c.take-note.result c.take-note.new.self) (c.of.ensures.whole c.at_most-octets.ensures.few) c.take-note.ensures in
    let middle = c.take-note.new.self in
    let new = c.follow.new.port in
    let event : Event = Frame (record { items = c.at_most-octets.result.now }) in
    let note = c.take-note.result in
    let after = c.follow.new.services in
    let sent = c.follow.new.own.frames in
    let beside = subst (λ (o : Option Serving). IsBeside o middle.device.station.identity middle.device.live.values note event after sent c.follow.result) c.catch_up.ensures c.follow.ensures.beside in
    let gives = subst (λ (o : Option Serving). GivesAny o middle.device.live.values note event middle new) c.catch_up.ensures c.follow.ensures.gives in
    rw (← c.self.view_is) (subst (λ (b : List ℕ). StepsBoth (the_view all) (Frame (record { items = b })) c.follow.result (at all.serves new (caught_up 0 after) sent)) c.at_most-octets.ensures.value
    (frame_steps (all.limit - all.rest) all.serves all.port middle new all.services after (drop all.frames_past all.own.frames) sent event note c.follow.result takes beside gives))
