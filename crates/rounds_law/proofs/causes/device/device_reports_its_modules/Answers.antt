-- By the laws of what a device hears, and of the plan's Connect.
use Rattle.std.proofs.Common.{◌≡◌, sym, subst, ◌∙◌}
use Rattle.pn_values.specs.declared.identity.Identity.{Identity}
use Rattle.frame_codec.specs.Calls.{calls_at}
use Rattle.device_frames.specs.Heard.{Calls, Reported, heard_of}
use Rattle.controller_messages.specs.declared.request.Request.TheVariants.{Connect}
use Rattle.controller_messages.specs.Requests.{call_for}
use Rattle.end_laws.specs.hearing.Hearing.{comes}
use Rattle.both_ends.specs.startup.answer.Answer.{caller_of}
use Rattle.rounds_law.specs.Path.{request_to}
use Rattle.rounds_law.proofs.CauseModules.{reports}
use Rattle.rounds_law.proofs.DeviceCallingSteps.{address_runs, own_heard}
use Rattle.rounds_law.proofs.causes.device.device_reports_its_modules.Goals as goal

pub returns : goal.returns
returns c = λ meets some outcomes station live same interval addressed free.
    let setup = c.args.setup.now in
    let identity = c.args.identity.now in
    let address = setup.plan.station.suite.address in
    let real = c.stations_are_real.ensures.setup in
    let call = call_for setup Connect in
    let hears = c.calls_are_heard.ensures.device identity setup identity.mac call real c.stations_are_real.ensures.device
    (c.calls_can_be_sent.ensures.call setup Connect real tt tt)
    ∙ own_heard identity setup.plan.controller.mac (calls_at setup.plan.controller.address) address (Calls call) in
    reports setup identity station live outcomes same addressed free (c.connect_is_taken.ensures.own station.options meets.named interval)
    (subst (λ (i : Identity). heard_of i (comes (request_to setup identity Connect)) ≡ Reported (caller_of setup.plan.controller) address (Calls call))
    (sym same) hears)
    (address_runs setup live addressed some)
