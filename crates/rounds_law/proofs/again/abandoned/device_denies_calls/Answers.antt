-- By the laws of what a device hears.
use Rattle.std.proofs.Common.{◌≡◌, ◌∙◌, ℕ, List, ap}
use Rattle.pn_values.specs.declared.identity.Identity.{Identity}
use Rattle.frame_codec.specs.Calls.{calls_at}
use Rattle.device_frames.specs.Heard.{Calls, Reported, heard_of}
use Rattle.device_core.specs.State.{Station}
use Rattle.controller_messages.specs.declared.request.Request.{Request}
use Rattle.controller_messages.specs.Requests.{call_for}
use Rattle.end_laws.specs.hearing.Hearing.{comes}
use Rattle.end_laws.specs.hearing.Stations.{IsCalled, IsNumbered}
use Rattle.both_ends.specs.startup.answer.Answer.{caller_of}
use Rattle.rounds_law.specs.Path.{request_to}
use Rattle.rounds_law.proofs.AbandonedDevice.{called_of, denied, unreached}
use Rattle.rounds_law.proofs.DeviceCallingSteps.{own_heard}
use Rattle.rounds_law.proofs.DeviceRepeatingCalls.{is_call}
use Rattle.rounds_law.proofs.again.abandoned.device_denies_calls.Goals as goal

-- what the device hears of a call of the plan's controller
hears : (c : goal.After-refusals_are_not_done) (station : Station) (request : Request) → station.identity ≡ c.args.identity.now → IsCalled request
    → IsNumbered request
    → heard_of station.identity (comes (request_to c.args.setup.now c.args.identity.now request))
    ≡ Reported (caller_of c.args.setup.now.plan.controller) c.args.setup.now.plan.station.suite.address (Calls (call_for c.args.setup.now request))
hears c station request same called numbered =
    let setup = c.args.setup.now in
    let identity = c.args.identity.now in
    let real = c.stations_are_real.ensures.setup in
    let call = call_for setup request in
    ap (λ (i : Identity). heard_of i (comes (request_to setup identity request))) same
    ∙ (ap (λ (octets : List ℕ). heard_of identity (comes octets)) (is_call setup identity request called)
    ∙ (c.calls_are_heard.ensures.device identity setup identity.mac call real c.stations_are_real.ensures.device
    (c.calls_can_be_sent.ensures.call setup request real called numbered)
    ∙ own_heard identity setup.plan.controller.mac (calls_at setup.plan.controller.address) setup.plan.station.suite.address (Calls call)))

pub returns-clause-denied : goal.returns-clause-denied
returns-clause-denied c = λ outcomes station live request same none nothing reached of numbered unheard sendable.
    denied c.args.setup.now c.args.identity.now outcomes station live request (hears c station request same (called_of request of) numbered)
    of same none nothing unheard reached c.refusals_are_not_done.ensures sendable

pub returns-clause-unreached : goal.returns-clause-unreached
returns-clause-unreached c = λ outcomes station live request same away called numbered.
    unreached c.args.setup.now c.args.identity.now outcomes station live request (hears c station request same called numbered) away
