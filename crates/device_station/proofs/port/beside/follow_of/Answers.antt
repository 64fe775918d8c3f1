-- What the services do beside the step of the port, which is given the call that they joined.
use Rattle.std.proofs.Common.{◌≡◌, ◌∙◌, ℕ, List, [], Option, None, Some, refl, ap, subst, sym, arith}
use Rattle.device_core.specs.State as device
use Rattle.device_station.specs.declared.recorded.flash.RecordedFlash.{RecordedFlash}
use Rattle.device_frames.specs.declared.event.Event.{Event}
use Rattle.device_frames.specs.declared.event.Event.TheVariants.{Frame}
use Rattle.device_frames.specs.declared.note.Note.{Note}
use Rattle.device_station.specs.Beside.{Beside, beside, has_any, is_dropped, joined_beside}
use Rattle.device_station.specs.Serving.{Serving, completed, piece_in}
use Rattle.device_station.specs.Views.{joined_in}
use Rattle.device_station.specs.port.State.{State, barred}
use Rattle.device_station.specs.port.ServedSteps.{GivesPort}
use Rattle.device_station.proofs.PortOwn.{no_some, undropped}
use Rattle.device_station.proofs.ServedHearing.{joined_dropped}
use Rattle.device_station.proofs.port.beside.follow_of.Goals as goal

abbrev made : Serving → List (List ℕ) → Note → Beside
made state frames said = record { services = state; sent = frames; note = said }

pub follow_answered-requires : goal.follow_answered-requires
follow_answered-requires c = (omega arith, undropped (is_dropped c.args.note) c.args.port.now c.requires.dropped (sym c.has_frames.ensures ∙ c.if-has_frames.true))

pub returns-then-has_frames-clause-beside : goal.returns-then-has_frames-clause-beside
returns-then-has_frames-clause-beside c =
    let event : Event = Frame (record { items = c.args.octets.now }) in
    let state = c.args.services.now in
    ap (λ (f : List (List ℕ)). made c.follow_answered.new.services f c.follow_answered.result) c.clear.ensures.frames
    ∙ (c.follow_answered.ensures.beside ∙ ap (λ (d : device.State (RecordedFlash 4096)). beside d.station.identity state d.live.values c.args.note event) c.device.ensures)

pub returns-then-has_frames-clause-gives : goal.returns-then-has_frames-clause-gives
returns-then-has_frames-clause-gives c =
    let event : Event = Frame (record { items = c.args.octets.now }) in
    let state = c.args.services.now in
    subst (λ (o : Option Event). GivesPort o c.args.port.now c.args.port.now)
    (c.follow_answered.ensures.call ∙ ap (λ (d : device.State (RecordedFlash 4096)). joined_beside state d.live.values c.args.note event) c.device.ensures) refl

pub attend-attended-requires-clause-free : goal.attend-attended-requires-clause-free
attend-attended-requires-clause-free c = no_some c.args.port.now.frames (sym c.has_frames.ensures ∙ c.if-has_frames.false)

pub attend-attended-requires-clause-known : goal.attend-attended-requires-clause-known
attend-attended-requires-clause-known c = λ kept.
    c.requires.known kept (ap has_any (no_some c.args.port.now.frames (sym c.has_frames.ensures ∙ c.if-has_frames.false))) c.args.services.now refl

pub give-requires : goal.give-requires
give-requires c =
    λ is.
    let state = c.args.services.now in
    let values = c.args.port.now.device.live.values in
    let call = c.attend-attended.new.own.call in
    let joined = subst (λ a. joined_in a call ≡ joined_beside state values c.args.note (Frame (record { items = c.args.octets.now }))) is c.attend-attended.ensures.call in
    subst (λ (p : State). barred p ≡ None) (sym c.attend-attended.ensures.same)
    (c.requires.dropped (joined_dropped values.is_lost (is_dropped c.args.note) (completed (piece_in state c.args.octets.now)) call joined))

pub returns-clause-beside : goal.returns-clause-beside
returns-clause-beside c =
    ap (λ (n : Note). made c.attend-attended.new.services c.attend-attended.new.own.frames n) c.give.ensures.note ∙ c.attend-attended.ensures.beside

pub returns-clause-gives : goal.returns-clause-gives
returns-clause-gives c =
    let attended = c.attend-attended.result in
    let given = subst (λ (p : State). GivesPort (joined_in attended c.call.result.now) p c.give.new.port) c.attend-attended.ensures.same c.give.ensures.gives in
    subst (λ (o : Option Event). GivesPort o c.args.port.now c.give.new.port) (ap (joined_in attended) c.call.ensures ∙ c.attend-attended.ensures.call) given
