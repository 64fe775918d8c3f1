-- Only a conflict counts.
use Rattle.std.proofs.Common.{◌≡◌, List, [], Option, None, refl, sym, ap, ◌∙◌}
use Rattle.device_frames.specs.declared.event.Event.{Event}
use Rattle.device_frames.specs.declared.event.Event.TheVariants.{Frame}
use Rattle.device_station.specs.Beside.{Beside}
use Rattle.device_station.specs.Serving.{observed}
use Rattle.device_station.proofs.Sparing.{undropped_beside, undropped_call}
use Rattle.device_station.proofs.Stepping.{idle_beside, joined_there, none_lost, observed_beside}
use Rattle.device_station.proofs.step.follow_answered.Goals as goal

pub returns-then-is_lost-clause-beside : goal.returns-then-is_lost-clause-beside
returns-then-is_lost-clause-beside g c =
    let device = c.args.device.now in
    idle_beside device.station.identity c.args.services.now device.live.values c.args.note (Frame (record { items = c.args.octets.now })) (sym c.is_lost.ensures ∙ c.if-is_lost.true)

pub returns-then-is_lost-clause-call : goal.returns-then-is_lost-clause-call
returns-then-is_lost-clause-call g c =
    let device = c.args.device.now in
    none_lost c.args.services.now device.live.values c.args.note (Frame (record { items = c.args.octets.now })) (sym c.is_lost.ensures ∙ c.if-is_lost.true)

pub returns-clause-beside : goal.returns-clause-beside
returns-clause-beside g c =
    let device = c.args.device.now in
    let own = device.station.identity in
    let after = c.overhear-said.new.self in
    let is = sym (undropped_beside own c.args.services.now c.args.note c.args.octets.now c.requires) in
    observed_beside own own c.args.services.now after c.observe.new.self device.live.values c.args.note c.overhear-said.result
    (Frame (record { items = c.args.octets.now })) [] refl (sym c.is_lost.ensures ∙ c.if-is_lost.false)
    (c.overhear-said.ensures.state ∙ ap (λ (b : Beside). b.services) is) (ap (λ (b : Beside). b.sent) is) (c.overhear-said.ensures.note ∙ ap (λ (b : Beside). b.note) is)
    (c.observe.ensures ∙ ap (observed after) c.running.ensures)

pub returns-clause-call : goal.returns-clause-call
returns-clause-call g c =
    let device = c.args.device.now in
    let event : Event = Frame (record { items = c.args.octets.now }) in
    joined_there c.args.services.now device.live.values c.args.note event None (sym c.is_lost.ensures ∙ c.if-is_lost.false) (undropped_call c.args.services.now c.args.note c.args.octets.now c.requires)
