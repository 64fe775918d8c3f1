-- By the laws of what a device hears, and of the plan's Connect.
use Rattle.std.proofs.Common.{◌≡◌, sym, subst, ◌∙◌, refl, arith}
use Rattle.pn_values.specs.declared.identity.Identity.{Identity}
use Rattle.block_codec.specs.declared.block.Block.TheVariants as is
use Rattle.frame_codec.specs.Calls.{calls_at}
use Rattle.device_frames.specs.Heard.{Calls, Reported, Responds, heard_of}
use Rattle.controller_messages.specs.declared.request.Request.TheVariants.{Connect, PrmEnd}
use Rattle.controller_messages.specs.Requests.{call_for, control_of}
use Rattle.controller_messages.specs.Sent.{ready_done}
use Rattle.end_laws.specs.hearing.Hearing.{comes}
use Rattle.end_laws.specs.hearing.Stations.{ready_call}
use Rattle.both_ends.specs.startup.answer.Answer.{caller_of}
use Rattle.rounds_law.specs.Path.{confirmed_frame, device_as_caller, ready_for, request_to}
use Rattle.rounds_law.proofs.DeviceCallingConfirmed.{confirms, response_of}
use Rattle.rounds_law.proofs.DeviceCallingConnected.{connects}
use Rattle.rounds_law.proofs.DeviceCallingEnded.{ends}
use Rattle.rounds_law.proofs.DeviceCallingSteps.{address_runs, own_heard}
use Rattle.rounds_law.proofs.device.calling.device_takes_calls.Goals as goal

pub returns-clause-connected : goal.returns-clause-connected
returns-clause-connected c = λ meets some outcomes station live same of_plan addressed free.
    let setup = c.args.setup.now in
    let identity = c.args.identity.now in
    let address = setup.plan.station.suite.address in
    let real = c.stations_are_real.ensures.setup in
    let call = call_for setup Connect in
    let hears = c.calls_are_heard.ensures.device identity setup identity.mac call real c.stations_are_real.ensures.device
    (c.calls_can_be_sent.ensures.call setup Connect real tt tt)
    ∙ own_heard identity setup.plan.controller.mac (calls_at setup.plan.controller.address) address (Calls call) in
    connects setup identity station live outcomes same of_plan addressed free (c.connect_is_taken.ensures.own station.options meets.named of_plan.interval)
    (subst (λ (i : Identity). heard_of i (comes (request_to setup identity Connect)) ≡ Reported (caller_of setup.plan.controller) address (Calls call))
    (sym same) hears)
    (address_runs setup live addressed some)

pub returns-clause-ended : goal.returns-clause-ended
returns-clause-ended c = λ meets some serial outcomes station live taken last age same of_plan addressed few relation.
    let setup = c.args.setup.now in
    let identity = c.args.identity.now in
    let address = setup.plan.station.suite.address in
    let real = c.stations_are_real.ensures.setup in
    let call = call_for setup PrmEnd in
    let hears = c.calls_are_heard.ensures.device identity setup identity.mac call real c.stations_are_real.ensures.device
    (c.calls_can_be_sent.ensures.call setup PrmEnd real tt tt)
    ∙ own_heard identity setup.plan.controller.mac (calls_at setup.plan.controller.address) address (Calls call) in
    ends setup identity station live taken last age serial relation outcomes same of_plan addressed few c.blocks_are_read.ensures.long
    (c.blocks_are_read.ensures.alone (is.PrmEnd (control_of setup 1))
    (record { ar_uuid = real.ar; session_key = omega arith; control_command = omega arith; control_block_properties = omega arith }))
    (subst (λ (i : Identity). heard_of i (comes (request_to setup identity PrmEnd)) ≡ Reported (caller_of setup.plan.controller) address (Calls call))
    (sym same) hears)
    (address_runs setup live addressed some)

pub returns-clause-confirmed : goal.returns-clause-confirmed
returns-clause-confirmed c = λ meets some serial outcomes station live taken last age same of_plan addressed relation sendable.
    let setup = c.args.setup.now in
    let identity = c.args.identity.now in
    let address = setup.plan.station.suite.address in
    let real = c.stations_are_real.ensures.setup in
    let response = response_of setup in
    let caller = device_as_caller setup identity in
    let hears = c.ready_answers_are_heard.ensures.device identity setup caller response real
    (record { mac = c.stations_are_real.ensures.device; endpoint = (real.station, omega arith) })
    (c.calls_can_be_sent.ensures.answer (ready_call (ready_for setup)) (ready_for setup).block
    (record { object = refl; interface = refl; activity = real.ar; sequence = omega arith; operation = omega arith }) (omega arith) real.ar)
    ∙ own_heard identity setup.plan.controller.mac (calls_at setup.plan.controller.address) address (Responds response) in
    confirms setup identity station live taken last age serial relation outcomes same
    (c.blocks_are_read.ensures.alone (is.ApplicationReadyRes (ready_done (ready_for setup).block))
    (record { ar_uuid = real.ar; session_key = omega arith; control_command = omega arith; control_block_properties = omega arith }, refl))
    (subst (λ (i : Identity). heard_of i (comes (confirmed_frame setup identity)) ≡ Reported (caller_of setup.plan.controller) address (Responds response))
    (sym same) hears)
    (address_runs setup live addressed some) sendable
