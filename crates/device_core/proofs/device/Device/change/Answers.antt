-- The alarm that became active, and after it the ApplicationReady of a plug.
use Rattle.std.proofs.Common.{List, option_map, map, ap, subst, ◌∙◌}
use Rattle.lldp.specs.Views.{peer_as}
use Rattle.module_diff.specs.declared.changes.Affected.{Affected}
use Rattle.asked_records.specs.Asked.{dropped_at}
use Rattle.diagnosis.specs.Existing.{remaining}
use Rattle.relations.specs.exchange.Statuses.{remaining_statuses}
use Rattle.relations.specs.RelationState.{flow_of}
use Rattle.device_frames.specs.Relation.{low_alarms_of, plug_calls, where_due}
use Rattle.device_frames.specs.Sendable.{AreSendable}
use Rattle.device_frames.specs.Sent.{Sent, bytes_of}
use Rattle.device_core.specs.State.{Rest}
use Rattle.device_core.proofs.Changing.{both_boxed, rest_changed, sent_changed}
use Rattle.device_core.proofs.Sendable.{all_sendable}
use Rattle.device_core.proofs.device.Device.change.Goals as goal

pub returns-clause-state : goal.returns-clause-state
returns-clause-state g c =
    let rest : Rest = record { lamp = c.self.inside.lamp; calls = c.self.inside.answers.kept; link = c.self.inside.relation; units = c.self.inside.units; is_running = c.self.inside.is_running; statuses = c.self.inside.statuses.items; log = c.self.inside.log; peer = option_map peer_as c.self.inside.neighbour; diagnoses = c.self.inside.diagnoses; made = c.self.inside.made; real = c.self.inside.real; asked = c.self.inside.asked } in
    let d_is = c.forget.ensures ∙ ap (λ (a : Affected). remaining a c.self.inside.diagnoses) c.affected-affected.ensures in
    let a_is = c.drop_at.ensures.state ∙ ap (λ (a : Affected). dropped_at a c.self.inside.asked) c.affected-affected.ensures in
    let s_is = c.forget_statuses.ensures ∙ ap (λ (a : Affected). remaining_statuses a c.self.inside.statuses.items) c.affected-affected.ensures in
    rw (← c.self.view_is)
    (ap (λ (r : Rest). record { flash = c.self.inside.store.flash; station = record { identity = c.self.inside.identity; real = c.self.inside.given; options = c.self.inside.options; named = c.self.inside.named }; live = record { values = c.self.inside.store.values; rest = r } })
    (rest_changed rest c.args.change.now c.forget.new.self c.change_modules-outgoing.new.self d_is c.change_modules-outgoing.ensures.state c.forget_statuses.new.statuses.items c.drop_at.new.self s_is a_is))

pub returns-clause-frames : goal.returns-clause-frames
returns-clause-frames g c =
    let rest : Rest = record { lamp = c.self.inside.lamp; calls = c.self.inside.answers.kept; link = c.self.inside.relation; units = c.self.inside.units; is_running = c.self.inside.is_running; statuses = c.self.inside.statuses.items; log = c.self.inside.log; peer = option_map peer_as c.self.inside.neighbour; diagnoses = c.self.inside.diagnoses; made = c.self.inside.made; real = c.self.inside.real; asked = c.self.inside.asked } in
    let d_is = c.forget.ensures ∙ ap (λ (a : Affected). remaining a c.self.inside.diagnoses) c.affected-affected.ensures in
    let address_is = c.address-address.ensures.value ∙ ap (λ s. s.suite.address) c.running.ensures in
    let it = sent_changed rest c.args.change.now c.forget.new.self c.change_modules-outgoing.new.self d_is c.change_modules-outgoing.ensures.state c.self.inside.store.values c.address-address.result
    c.change_modules-outgoing.result.is_alarm c.change_modules-outgoing.result.is_ready c.change_modules-outgoing.ensures.alarm c.change_modules-outgoing.ensures.ready address_is in
    let alarms : List Sent = where_due c.change_modules-outgoing.result.is_alarm (low_alarms_of (flow_of c.change_modules-outgoing.new.self)) in
    let calls : List Sent = where_due c.change_modules-outgoing.result.is_ready (plug_calls c.address-address.result c.change_modules-outgoing.new.self) in
    let f = bytes_of c.self.inside.identity in
    rw (← c.self.view_is)
    (both_boxed f _ _ _ alarms calls (ap (map (λ frame. frame.items)) c.requires.empty) c.send_low_alarm.ensures.frames c.send_plug_ready.ensures.frames ∙ ap (map f) it)

pub returns-clause-sendable : goal.returns-clause-sendable
returns-clause-sendable g c =
    let rest : Rest = record { lamp = c.self.inside.lamp; calls = c.self.inside.answers.kept; link = c.self.inside.relation; units = c.self.inside.units; is_running = c.self.inside.is_running; statuses = c.self.inside.statuses.items; log = c.self.inside.log; peer = option_map peer_as c.self.inside.neighbour; diagnoses = c.self.inside.diagnoses; made = c.self.inside.made; real = c.self.inside.real; asked = c.self.inside.asked } in
    let d_is = c.forget.ensures ∙ ap (λ (a : Affected). remaining a c.self.inside.diagnoses) c.affected-affected.ensures in
    let address_is = c.address-address.ensures.value ∙ ap (λ s. s.suite.address) c.running.ensures in
    let it = sent_changed rest c.args.change.now c.forget.new.self c.change_modules-outgoing.new.self d_is c.change_modules-outgoing.ensures.state c.self.inside.store.values c.address-address.result
    c.change_modules-outgoing.result.is_alarm c.change_modules-outgoing.result.is_ready c.change_modules-outgoing.ensures.alarm c.change_modules-outgoing.ensures.ready address_is in
    let alarms : List Sent = where_due c.change_modules-outgoing.result.is_alarm (low_alarms_of (flow_of c.change_modules-outgoing.new.self)) in
    let calls : List Sent = where_due c.change_modules-outgoing.result.is_ready (plug_calls c.address-address.result c.change_modules-outgoing.new.self) in
    rw (← c.self.view_is)
    (subst (AreSendable c.self.inside.identity) it (all_sendable c.self.inside.identity alarms calls c.send_low_alarm.ensures.sendable c.send_plug_ready.ensures.sendable))
