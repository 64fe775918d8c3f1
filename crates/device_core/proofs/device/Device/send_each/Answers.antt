-- What is due is sent, in order.
use Rattle.std.proofs.Common.{◌≡◌, ℕ, List, ◌++◌, map, append_assoc, sym, ap, subst, ◌∙◌}
use Rattle.std.proofs.lemmas.List.{map-append}
use Rattle.relations.specs.RelationState.{flow_of}
use Rattle.device_frames.specs.Sendable.{AreSendable}
use Rattle.device_frames.specs.Sent.{Sent, bytes_of}
use Rattle.device_frames.specs.Relation.{alarms_of, inputs_of, low_alarms_of, plug_calls, ready_calls, where_due}
use Rattle.device_core.specs.State.{counter_of}
use Rattle.device_core.proofs.Sendable.{all_sendable}
use Rattle.device_core.proofs.device.Device.send_each.Goals as goal

each : (f : Sent → List ℕ) (alarms low calls inputs : List Sent) → ((map f alarms ++ map f low) ++ map f calls) ++ map f inputs ≡ map f (alarms ++ (low ++ (calls ++ inputs)))
each f alarms low calls inputs =
    append_assoc (map f alarms ++ map f low) (map f calls) (map f inputs)
    ∙ (append_assoc (map f alarms) (map f low) (map f calls ++ map f inputs)
    ∙ sym (map-append f alarms (low ++ (calls ++ inputs))
    ∙ ap (λ (xs : List (List ℕ)). map f alarms ++ xs)
    (map-append f low (calls ++ inputs) ∙ ap (λ (xs : List (List ℕ)). map f low ++ xs) (map-append f calls inputs))))

-- The calls are sent one after the other.
in_order : (f : Sent → List ℕ) (alarms low ready plugs inputs : List Sent)
    → map f (alarms ++ (low ++ ((ready ++ plugs) ++ inputs))) ≡ map f (alarms ++ (low ++ (ready ++ (plugs ++ inputs))))
in_order f alarms low ready plugs inputs = ap (λ (xs : List Sent). map f (alarms ++ (low ++ xs))) (append_assoc ready plugs inputs)

pub returns-clause-frames : goal.returns-clause-frames
returns-clause-frames g c =
    let relation = c.self.inside.relation in
    let address = c.self.inside.store.values.running.suite.address in
    let f = bytes_of c.self.inside.identity in
    let alarms = where_due c.args.repeated.high (alarms_of (flow_of relation)) in
    let low = where_due c.args.repeated.low (low_alarms_of (flow_of relation)) in
    let ready = where_due c.args.elapsed.now.is_ready (ready_calls address relation) in
    let plugs = where_due c.args.elapsed.now.is_plug_ready (plug_calls address relation) in
    let inputs = where_due c.args.is_cyclic (inputs_of (counter_of c.self.inside.units) (flow_of relation)) in
    let counter : c.counter-counter.result ≡ counter_of c.self.inside.units = rw (← c.self.view_is) at c.counter-counter.ensures in
    let calls = rw (← c.self.view_is) at c.send_calls.ensures.frames in
    rw (← c.self.view_is) (rw (c.send_inputs.ensures.frames, counter, calls, c.send_low_alarm.ensures.frames, c.send_alarm_again.ensures.frames, c.requires.empty)
    (each f alarms low (ready ++ plugs) inputs ∙ in_order f alarms low ready plugs inputs))

pub returns-clause-sendable : goal.returns-clause-sendable
returns-clause-sendable g c =
    let relation = c.self.inside.relation in
    let address = c.self.inside.store.values.running.suite.address in
    let ready = where_due c.args.elapsed.now.is_ready (ready_calls address relation) in
    let plugs = where_due c.args.elapsed.now.is_plug_ready (plug_calls address relation) in
    let inputs = where_due c.args.is_cyclic (inputs_of (counter_of c.self.inside.units) (flow_of relation)) in
    let counter : c.counter-counter.result ≡ counter_of c.self.inside.units = rw (← c.self.view_is) at c.counter-counter.ensures in
    let calls = rw (← c.self.view_is) at c.send_calls.ensures.sendable in
    rw (← c.self.view_is) (all_sendable c.self.inside.identity _ _ c.send_alarm_again.ensures.sendable
    (all_sendable c.self.inside.identity _ _ c.send_low_alarm.ensures.sendable
    (subst (AreSendable c.self.inside.identity) (append_assoc ready plugs inputs)
    (all_sendable c.self.inside.identity _ _ calls (rw counter at c.send_inputs.ensures.sendable)))))
