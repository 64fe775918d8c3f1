-- By the laws of what a device and a controller hear.
use Rattle.std.proofs.Common.{◌≡◌, true, false, sym, ap, subst, ◌∙◌}
use Rattle.pn_values.specs.IpSuite.{is_suite}
use Rattle.plans.specs.declared.parts.Station.{Station as Plan}
use Rattle.pn_values.specs.declared.identity.Identity.{Identity}
use Rattle.rpc_core.specs.declared.response.Status.{Status}
use Rattle.connects.specs.requests.Handled.{conflict}
use Rattle.connects.specs.requests.Request.{Request}
use Rattle.frame_codec.specs.Calls.{calls_at}
use Rattle.device_frames.specs.Heard.{Asks, Calls, Reported, heard_of}
use Rattle.controller_messages.specs.declared.request.Request.TheVariants.{Address, Connect}
use Rattle.controller_messages.specs.Requests.{address_asked, call_for}
use Rattle.controller_core.specs.start_up.Answers.{is_state_conflict}
use Rattle.end_laws.specs.hearing.Hearing.{comes}
use Rattle.both_ends.specs.startup.request.Request.{request_for}
use Rattle.both_ends.specs.startup.answer.Answer.{caller_of}
use Rattle.rounds_law.specs.Path.{request_to}
use Rattle.rounds_law.proofs.AgainIgnored.{HeardLaws}
use Rattle.rounds_law.proofs.AgainKept.{other_status, refused_other, refuses}
use Rattle.rounds_law.proofs.AgainUnits.{earlier_last, earlier_unit, no_relation_unit}
use Rattle.rounds_law.proofs.AskedUnits.{none_repeated}
use Rattle.rounds_law.proofs.AgainUnset.{own_asked, unset_so}
use Rattle.rounds_law.proofs.AgainVain.{said_in_vain}
use Rattle.rounds_law.proofs.DeviceCallingSteps.{address_runs, own_heard}
use Rattle.rounds_law.proofs.again.device.device_keeps_an_earlier_relation.Goals as goal

pub returns-clause-refused : goal.returns-clause-refused
returns-clause-refused c = λ meets some outcomes station live left same addressed earlier uncalled sendable.
    let setup = c.args.setup.now in
    let identity = c.args.identity.now in
    let real = c.stations_are_real.ensures.setup in
    let call = call_for setup Connect in
    let hears = c.calls_are_heard.ensures.device identity setup identity.mac call real c.stations_are_real.ensures.device
    (c.calls_can_be_sent.ensures.call setup Connect real tt tt)
    ∙ own_heard identity setup.plan.controller.mac (calls_at setup.plan.controller.address) setup.plan.station.suite.address (Calls call) in
    let request = request_for setup.plan setup.ar in
    let other = λ (e : setup.ar ≡ earlier.link.request.ar.uuid). earlier.other (sym (e ∙ ap (λ (r : Request). r.ar.uuid) earlier.request)) in
    refuses setup identity station live (λ (s : Status). is_state_conflict s ≡ false) (conflict earlier.link.request.ar.uuid setup.ar)
    (other_status earlier.link.request.ar.uuid setup.ar other)
    (refused_other setup identity station live earlier.link earlier.has request (c.connect_is_taken.ensures.read meets.named))
    outcomes same addressed uncalled
    (none_repeated live setup.activity 0 earlier.unasked) c.refusals_are_not_done.ensures
    (subst (λ (i : Identity). heard_of i (comes (request_to setup identity Connect))
    ≡ Reported (caller_of setup.plan.controller) setup.plan.station.suite.address (Calls call)) (sym same) hears)
    (address_runs setup live addressed some) sendable

pub returns-clause-unset : goal.returns-clause-unset
returns-clause-unset c = λ meets outcomes station live left same earlier.
    let setup = c.args.setup.now in
    let identity = c.args.identity.now in
    let real = c.stations_are_real.ensures.setup in
    let hears = c.requests_are_heard.ensures.address identity setup identity.mac real c.stations_are_real.ensures.device
    ∙ own_asked identity (Asks setup.plan.controller.mac (address_asked setup.plan)) in
    unset_so setup identity outcomes station live earlier.link (heard_of station.identity (comes (request_to setup identity Address)))
    (subst (λ (i : Identity). heard_of i (comes (request_to setup identity Address))
    ≡ Asks setup.plan.controller.mac (address_asked setup.plan)) (sym same) hears)
    same (record { address = real.station; mask = real.mask; gateway = real.gateway })
    (subst (λ (s : Plan). is_suite s.suite ≡ true) c.station-station.ensures.value c.suite_is_valid.ensures) earlier.has

-- the laws of the crates below
laws_of : goal.After-refusals_are_not_done → HeardLaws
laws_of c = record {
  real_time = c.frames_are_read.ensures.real_time;
  ready = c.ready_calls_are_heard.ensures.controller;
  ready_can = c.calls_can_be_sent.ensures.ready;
  plug = c.plug_calls_are_heard.ensures.controller;
  plug_can = c.plug_calls_are_heard.ensures.sent;
  plug_other = c.plug_calls_are_heard.ensures.other;
  plug_back = c.plug_controls_are_read_back.ensures;
  block_read = c.blocks_are_read.ensures.alone;
}

pub returns-clause-unit : goal.returns-clause-unit
returns-clause-unit c = λ outcomes station live left same earlier sendable.
    earlier_unit c.args.setup.now c.stations_are_real.ensures.setup outcomes station live
    (laws_of c) c.args.identity.now left c.stations_are_real.ensures.device same earlier sendable

pub returns-clause-last : goal.returns-clause-last
returns-clause-last c = λ outcomes station live same earlier.
    earlier_last c.args.setup.now c.stations_are_real.ensures.setup outcomes station live earlier

pub returns-clause-unrelated : goal.returns-clause-unrelated
returns-clause-unrelated c = λ outcomes station live none nothing. no_relation_unit outcomes station live none nothing

pub returns-clause-vain : goal.returns-clause-vain
returns-clause-vain c = λ serial. said_in_vain serial c.formats_are_sound.ensures.ethernet c.formats_are_sound.ensures.layers c.args.setup.now c.args.identity.now
    c.stations_are_real.ensures.setup c.stations_are_real.ensures.device
