-- By the laws of what is heard, of one unit, and of the count over units.
use Rattle.std.proofs.Common.{◌≡◌, ◌∙◌, ℕ, List, ap, refl, arith}
use Rattle.pn_values.specs.declared.identity.Identity.{Identity}
use Rattle.frame_codec.specs.Calls.{calls_at}
use Rattle.device_frames.specs.Heard.{Calls, Reported, heard_of}
use Rattle.device_core.specs.State.{Station}
use Rattle.controller_messages.specs.Heard as controller
use Rattle.controller_messages.specs.declared.request.Request.{Request}
use Rattle.controller_messages.specs.Requests.{call_for}
use Rattle.end_laws.specs.hearing.Hearing.{comes}
use Rattle.end_laws.specs.hearing.Stations.{IsCalled, IsNumbered, ready_call}
use Rattle.both_ends.specs.startup.answer.Answer.{caller_of}
use Rattle.rounds_law.specs.Path.{IsInputs, device_as_caller, readied_frame, ready_for, request_to}
use Rattle.rounds_law.proofs.ControllerCallingResponses.{is_reported}
use Rattle.rounds_law.proofs.DeviceCallingSteps.{address_runs, own_heard}
use Rattle.rounds_law.proofs.DeviceRepeatingCalls.{again_answered, is_call, old_unanswered}
use Rattle.rounds_law.proofs.DeviceRepeatingCounts.{counts, inputs_differ}
use Rattle.rounds_law.proofs.DeviceRepeatingUnits.{awaiting_unit, just_ended, last_unit}
use Rattle.rounds_law.proofs.device.repeating.device_repeats.Goals as goal

-- what the device hears of a call of the plan's controller
hears : (c : goal.After-ready_calls_are_heard) (station : Station) (request : Request) → station.identity ≡ c.args.identity.now → IsCalled request
    → IsNumbered request
    → heard_of station.identity (comes (request_to c.args.setup.now c.args.identity.now request))
    ≡ Reported (caller_of c.args.setup.now.plan.controller) c.args.setup.now.plan.station.suite.address (Calls (call_for c.args.setup.now request))
hears c station request same called numbered =
    let setup = c.args.setup.now in
    let identity = c.args.identity.now in
    let real = c.stations_are_real.ensures.setup in
    let call = call_for setup request in
    ap (λ (i : Identity). heard_of i (comes (request_to setup identity request))) same
    ∙ (ap (λ (octets : List ℕ). heard_of identity (comes octets)) (is_call setup identity request called)
    ∙ (c.calls_are_heard.ensures.device identity setup identity.mac call real c.stations_are_real.ensures.device
    (c.calls_can_be_sent.ensures.call setup request real called numbered)
    ∙ own_heard identity setup.plan.controller.mac (calls_at setup.plan.controller.address) setup.plan.station.suite.address (Calls call)))

pub returns-clause-again : goal.returns-clause-again
returns-clause-again c = λ outcomes station live request kept some same addressed called numbered answered number.
    again_answered c.args.setup.now c.args.identity.now outcomes station live request kept called answered (hears c station request same called numbered)
    (address_runs c.args.setup.now live addressed some) number

pub returns-clause-old : goal.returns-clause-old
returns-clause-old c = λ outcomes station live request kept some same addressed called numbered answered less.
    old_unanswered c.args.setup.now c.args.identity.now outcomes station live request kept called answered (hears c station request same called numbered)
    (address_runs c.args.setup.now live addressed some) less

pub returns-clause-ready : goal.returns-clause-ready
returns-clause-ready c = λ serial outcomes station live waited inactive same addressed few awaits.
    awaiting_unit c.args.setup.now c.args.identity.now outcomes station live waited inactive serial awaits same addressed few

differ : (c : goal.After-ready_calls_are_heard) (octets : List ℕ) → IsInputs c.args.setup.now c.args.identity.now octets
    → octets ≡ readied_frame c.args.setup.now c.args.identity.now → ⊥
differ c octets inputs is =
    let setup = c.args.setup.now in
    let identity = c.args.identity.now in
    let mine = setup.plan.controller in
    let good = c.stations_are_real.ensures.setup in
    let real = c.stations_are_real.ensures.device in
    inputs_differ c.inputs_are_heard.ensures.controller c.formats_are_sound.ensures.ethernet c.formats_are_sound.ensures.layers setup identity good real
    (c.ready_calls_are_heard.ensures.controller mine identity setup.plan.station.suite.address (ready_for setup) real good.mac good.address good.station
    (c.calls_can_be_sent.ensures.ready (ready_for setup)
    (record { object = refl; interface = refl; activity = good.ar; sequence = omega arith; operation = omega arith }) refl good.ar)
    ∙ is_reported mine (controller.Calls (device_as_caller setup identity) (ready_call (ready_for setup)))) octets inputs is

pub returns-clause-apart : goal.returns-clause-apart
returns-clause-apart c = differ c

pub returns-clause-over : goal.returns-clause-over
returns-clause-over c = λ serial outcomes station live waited inactive same long awaits.
    last_unit c.args.setup.now c.args.identity.now outcomes station live waited inactive serial awaits same long

pub returns-clause-each : goal.returns-clause-each
returns-clause-each c = λ serial outcomes station live taken last units same addressed lost relation few.
    counts c.args.setup.now c.args.identity.now station same (differ c) serial units outcomes live 0 0 addressed lost
    (just_ended serial c.args.setup.now taken last live relation) (omega arith) (omega (arith, few)) ∙ omega arith

pub returns-clause-each_from : goal.returns-clause-each_from
returns-clause-each_from c = λ serial outcomes station live waited inactive units same addressed lost awaits below few.
    counts c.args.setup.now c.args.identity.now station same (differ c) serial units outcomes live waited inactive addressed lost awaits below few
