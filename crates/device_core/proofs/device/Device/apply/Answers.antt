-- Inputs, statuses and the provider state send nothing; the octets of an event are those that are given.
use Rattle.std.proofs.Common.{refl, ap, map, sym, ◌∙◌}
use Rattle.relations.specs.Exchanged.{given_to}
use Rattle.relations.specs.exchange.Statuses.{statuses_at}
use Rattle.device_frames.specs.Sent.{bytes_of}
use Rattle.device_core.proofs.Handled.{input_sends_nothing, status_sends_nothing}
use Rattle.device_core.proofs.Sendable.{none_sendable}
use Rattle.device_core.proofs.device.Device.apply.Goals as goal

pub returns-in-Input-clause-state : goal.returns-in-Input-clause-state
returns-in-Input-clause-state g c = rw (c.in-Input.is, ← c.as_slice.ensures.value) c.give.ensures.state

pub returns-in-Input-clause-frames : goal.returns-in-Input-clause-frames
returns-in-Input-clause-frames g c =
    let old = c.args.self.now in
    let flow = given_to c.in-Input.slot c.in-Input.subslot c.as_slice.result.now old.live.rest.link in
    rw (c.in-Input.is, ← c.as_slice.ensures.value)
    (ap (map (λ frame. frame.items)) c.requires.empty ∙ sym (ap (map (bytes_of old.station.identity)) (input_sends_nothing old.station old.live flow)))

pub returns-in-Input-clause-sendable : goal.returns-in-Input-clause-sendable
returns-in-Input-clause-sendable g c =
    let old = c.args.self.now in
    let flow = given_to c.in-Input.slot c.in-Input.subslot c.as_slice.result.now old.live.rest.link in
    rw (c.in-Input.is, ← c.as_slice.ensures.value) (none_sendable old.station.identity _ (input_sends_nothing old.station old.live flow))

pub returns-in-Input-clause-note : goal.returns-in-Input-clause-note
returns-in-Input-clause-note g c = rw (c.in-Input.is, ← c.as_slice.ensures.value) c.give.ensures.note

pub returns-in-Alarm-clause-state : goal.returns-in-Alarm-clause-state
returns-in-Alarm-clause-state g c = rw (c.in-Alarm.is, ← c.as_slice-in-Alarm.ensures.value) c.raise.ensures.state

pub returns-in-Alarm-clause-frames : goal.returns-in-Alarm-clause-frames
returns-in-Alarm-clause-frames g c = rw (c.in-Alarm.is, ← c.as_slice-in-Alarm.ensures.value) c.raise.ensures.frames

pub returns-in-Alarm-clause-sendable : goal.returns-in-Alarm-clause-sendable
returns-in-Alarm-clause-sendable g c = rw (c.in-Alarm.is, ← c.as_slice-in-Alarm.ensures.value) c.raise.ensures.sendable

pub returns-in-Alarm-clause-note : goal.returns-in-Alarm-clause-note
returns-in-Alarm-clause-note g c = rw (c.in-Alarm.is, ← c.as_slice-in-Alarm.ensures.value) c.raise.ensures.note

pub returns-in-Status-clause-frames : goal.returns-in-Status-clause-frames
returns-in-Status-clause-frames g c =
    let old = c.args.self.now in
    let slot = c.in-Status.slot in
    let subslot = c.in-Status.subslot in
    let is_good = c.in-Status.is_good in
    let statuses = statuses_at old.live.rest.real.modules.items (record { slot = slot; subslot = subslot; is_good = is_good }) old.live.rest.statuses in
    rw c.in-Status.is
    (ap (map (λ frame. frame.items)) c.requires.empty ∙ sym (ap (map (bytes_of old.station.identity)) (status_sends_nothing old.station old.live slot subslot is_good statuses)))

pub returns-in-Status-clause-sendable : goal.returns-in-Status-clause-sendable
returns-in-Status-clause-sendable g c =
    let old = c.args.self.now in
    let slot = c.in-Status.slot in
    let subslot = c.in-Status.subslot in
    let is_good = c.in-Status.is_good in
    let statuses = statuses_at old.live.rest.real.modules.items (record { slot = slot; subslot = subslot; is_good = is_good }) old.live.rest.statuses in
    rw c.in-Status.is (none_sendable old.station.identity _ (status_sends_nothing old.station old.live slot subslot is_good statuses))

pub returns-in-ProviderState-clause-frames : goal.returns-in-ProviderState-clause-frames
returns-in-ProviderState-clause-frames g c = rw c.in-ProviderState.is (ap (map (λ frame. frame.items)) c.requires.empty)

pub returns-in-ProviderState-clause-sendable : goal.returns-in-ProviderState-clause-sendable
returns-in-ProviderState-clause-sendable g c = rw c.in-ProviderState.is (none_sendable c.args.self.now.station.identity _ refl)

pub returns-in-Answer-clause-state : goal.returns-in-Answer-clause-state
returns-in-Answer-clause-state g c = rw (c.in-Answer.is, ← c.as_slice-in-Answer.ensures.value) c.answer.ensures.state

pub returns-in-Answer-clause-frames : goal.returns-in-Answer-clause-frames
returns-in-Answer-clause-frames g c = rw (c.in-Answer.is, ← c.as_slice-in-Answer.ensures.value) c.answer.ensures.frames

pub returns-in-Answer-clause-sendable : goal.returns-in-Answer-clause-sendable
returns-in-Answer-clause-sendable g c = rw (c.in-Answer.is, ← c.as_slice-in-Answer.ensures.value) c.answer.ensures.sendable

pub returns-in-Answer-clause-note : goal.returns-in-Answer-clause-note
returns-in-Answer-clause-note g c = rw (c.in-Answer.is, ← c.as_slice-in-Answer.ensures.value) c.answer.ensures.note
