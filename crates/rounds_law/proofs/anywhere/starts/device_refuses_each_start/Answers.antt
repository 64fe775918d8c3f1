-- By the laws of what a device hears.
use Rattle.std.proofs.Common.{◌≡◌, true, sym, subst, ◌∙◌}
use Rattle.pn_values.specs.IpSuite.{is_suite}
use Rattle.plans.specs.declared.parts.Station.{Station as Plan}
use Rattle.pn_values.specs.declared.identity.Identity.{Identity}
use Rattle.rpc_core.specs.declared.response.Status.{Status}
use Rattle.frame_codec.specs.Calls.{calls_at}
use Rattle.device_frames.specs.Heard.{Asks, Calls, Reported, heard_of}
use Rattle.controller_messages.specs.declared.request.Request.TheVariants.{Address, Connect}
use Rattle.controller_messages.specs.Requests.{address_asked, call_for}
use Rattle.end_laws.specs.hearing.Hearing.{comes}
use Rattle.both_ends.specs.startup.answer.Answer.{caller_of}
use Rattle.rounds_law.specs.Path.{request_to}
use Rattle.rounds_law.proofs.AgainKept.{refused_by, refuses}
use Rattle.rounds_law.proofs.AgainUnset.{own_asked, unset_so}
use Rattle.rounds_law.proofs.DeviceCallingSteps.{address_runs, own_heard}
use Rattle.rounds_law.proofs.anywhere.starts.device_refuses_each_start.Goals as goal

pub returns-clause-connect : goal.returns-clause-connect
returns-clause-connect c = λ meets some outcomes station live link same addressed has uncalled unasked sendable.
    let setup = c.args.setup.now in
    let identity = c.args.identity.now in
    let real = c.stations_are_real.ensures.setup in
    let call = call_for setup Connect in
    let hears = c.calls_are_heard.ensures.device identity setup identity.mac call real c.stations_are_real.ensures.device
    (c.calls_can_be_sent.ensures.call setup Connect real tt tt)
    ∙ own_heard identity setup.plan.controller.mac (calls_at setup.plan.controller.address) setup.plan.station.suite.address (Calls call) in
    let because = refused_by setup identity station live link has in
    let refused = refuses setup identity station live (λ (s : Status). Unit {0}) because.0 tt because.1 outcomes same addressed uncalled unasked
    c.refusals_are_not_done.ensures
    (subst (λ (i : Identity). heard_of i (comes (request_to setup identity Connect))
    ≡ Reported (caller_of setup.plan.controller) setup.plan.station.suite.address (Calls call)) (sym same) hears)
    (address_runs setup live addressed some) sendable in
    (refused.0, refused.1, refused.2.0, refused.3, refused.4, refused.5, refused.6)

pub returns-clause-address : goal.returns-clause-address
returns-clause-address c = λ outcomes station live link same has.
    let setup = c.args.setup.now in
    let identity = c.args.identity.now in
    let real = c.stations_are_real.ensures.setup in
    let hears = c.requests_are_heard.ensures.address identity setup identity.mac real c.stations_are_real.ensures.device
    ∙ own_asked identity (Asks setup.plan.controller.mac (address_asked setup.plan)) in
    unset_so setup identity outcomes station live link (heard_of station.identity (comes (request_to setup identity Address)))
    (subst (λ (i : Identity). heard_of i (comes (request_to setup identity Address))
    ≡ Asks setup.plan.controller.mac (address_asked setup.plan)) (sym same) hears)
    same (record { address = real.station; mask = real.mask; gateway = real.gateway })
    (subst (λ (s : Plan). is_suite s.suite ≡ true) c.station-station.ensures.value c.suite_is_valid.ensures) has
