-- The device's step, and then what the services do beside it, unless power was lost.
use Rattle.std.proofs.Common.{◌≡◌, ℕ, List, [], map, sym, ap, ◌∙◌}
use Rattle.arrayvec.specs.ArrayVec.{ArrayVec}
use Rattle.frame_codec.specs.Outbox.{boxed}
use Rattle.device_station.specs.Serving.{observed}
use Rattle.device_station.specs.Views.{note_in}
use Rattle.device_station.proofs.Answered.{undisputed}
use Rattle.device_station.proofs.Stepping.{idle_silent, joined_there, none_lost, observed_beside}
use Rattle.device_station.proofs.step.step_both.Goals as goal

pub attend-attended-requires-clause-known : goal.attend-attended-requires-clause-known
attend-attended-requires-clause-known g c = λ dropped silent.
    undisputed g.F.Flash c.args.device.now c.step_device-note.new.device c.args.event.now _ _ c.args.services.now c.step_device-note.ensures.steps dropped
    (sym c.has_frames-has_sent.ensures ∙ silent)

pub returns-then-is_lost-clause-beside : goal.returns-then-is_lost-clause-beside
returns-then-is_lost-clause-beside g c =
    let none : boxed c.clear.new.self ≡ [] = ap (λ (xs : List (ArrayVec ℕ)). map (λ (f : ArrayVec ℕ). f.items) xs) c.clear.ensures in
    idle_silent c.args.device.now.station.identity c.args.services.now c.step_device-note.new.device.live.values c.step_device-note.result c.args.event.now (boxed c.clear.new.self) none
    (sym c.is_lost.ensures ∙ c.if-is_lost.true)

pub returns-then-is_lost-clause-call : goal.returns-then-is_lost-clause-call
returns-then-is_lost-clause-call g c =
    none_lost c.args.services.now c.step_device-note.new.device.live.values c.step_device-note.result c.args.event.now (sym c.is_lost.ensures ∙ c.if-is_lost.true)

pub returns-clause-beside : goal.returns-clause-beside
returns-clause-beside g c =
    observed_beside c.args.device.now.station.identity c.identity.result.now c.args.services.now c.attend-attended.new.self c.observe.new.self c.step_device-note.new.device.live.values c.step_device-note.result
    (note_in c.attend-attended.result) c.args.event.now
    _ (c.identity.ensures ∙ ap (λ s. s.identity) c.step_device-note.ensures.steps.same) (sym c.is_lost.ensures ∙ c.if-is_lost.false) c.attend-attended.ensures.state c.attend-attended.ensures.frames c.attend-attended.ensures.note
    (c.observe.ensures ∙ ap (observed c.attend-attended.new.self) c.running.ensures)

pub returns-clause-call : goal.returns-clause-call
returns-clause-call g c =
    joined_there c.args.services.now c.step_device-note.new.device.live.values c.step_device-note.result c.args.event.now _ (sym c.is_lost.ensures ∙ c.if-is_lost.false) c.attend-attended.ensures.call
