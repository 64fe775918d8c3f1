-- An input asks nothing of the settings, and sends nothing.
use Rattle.std.proofs.Common.{refl}
use Rattle.relations.specs.Exchanged.{given_to}
use Rattle.device_frames.specs.declared.event.Event.{Event}
use Rattle.device_frames.specs.declared.event.Event.TheVariants.{Application}
use Rattle.device_frames.specs.declared.local.Local.TheVariants.{Input}
use Rattle.device_frames.specs.Heard.{heard_of}
use Rattle.device_core.specs.Handled.{handled_given}
use Rattle.device_core.proofs.Handled.{input_asks_nothing, input_sends_nothing}
use Rattle.device_core.proofs.Steps.{quiet_step}
use Rattle.device_core.proofs.device.Device.give_input.Goals as goal

pub returns-clause-quiet : goal.returns-clause-quiet
unfolding heard_of
returns-clause-quiet g c =
    let old = c.args.self.now in
    let value = c.args.value.now in
    let event : Event = Application (Input c.args.slot c.args.subslot (record { items = value })) in
    let flow = given_to c.args.slot c.args.subslot value old.live.rest.link in
    quiet_step old _ event (handled_given old.live c.args.slot c.args.subslot value) _ refl (input_asks_nothing old.live flow) c.give.ensures.state
    (input_sends_nothing old.station old.live flow) c.give.ensures.note
