use Rattle.std.proofs.Common.{◌≡◌, List, ℕ, ap, subst, ◌∙◌}
use Rattle.plans.specs.declared.parts.Station.{Station}
use Rattle.controller_messages.specs.Requests.{writing_from}
use Rattle.controller_core.specs.declared.stored.event.Event.TheVariants.{Frame}
use Rattle.controller_core.specs.Machine.{placed, standing, turn_of, writing}
use Rattle.both_ends.specs.startup.answer.Answer.{answer_blocks, answer_frame, chosen_with}
use Rattle.rounds_law.proofs.ControllerCallingResponses.{HeardSo, connected_next, readied_next, written_next}
use Rattle.rounds_law.proofs.controller.calling.controller_takes_responses.Goals as goal

-- the laws of the crates below
heard_so : goal.After-blocks_are_read → HeardSo
heard_so c = record {
  response = c.responses_are_heard.ensures.controller;
  ready = c.ready_calls_are_heard.ensures.controller;
  call_can = c.calls_can_be_sent.ensures.call;
  ready_can = c.calls_can_be_sent.ensures.ready;
  block_read = c.blocks_are_read.ensures.alone;
  block_long = c.blocks_are_read.ensures.long;
}

pub returns-clause-connected : goal.returns-clause-connected
returns-clause-connected c = λ can patient options accepts serial small controller spare it.
    let setup = c.args.setup.now in
    let identity = c.args.identity.now in
    let live = controller.live in
    let address : c.address-address.result ≡ setup.plan.station.suite.address =
    c.address-address.ensures.value ∙ ap (λ (s : Station). s.suite.address) c.station-station.ensures.value in
    connected_next (heard_so c) setup identity c.stations_are_real.ensures.setup c.stations_are_real.ensures.device serial small controller spare
    (answer_frame setup identity options serial setup.plan.station.suite.address) (answer_blocks setup identity serial) patient it
    (subst (λ (a : List ℕ). turn_of setup live (Frame (record { items = answer_frame setup identity options serial a }))
    ≡ writing setup (writing_from setup.plan 0) (standing setup (placed setup (answer_blocks setup identity serial) live) (chosen_with serial))) address
    (c.connect_answers_are_read.ensures serial small can.named options accepts live it.asked))

pub returns-clause-written : goal.returns-clause-written
returns-clause-written c = λ can patient serial controller number spare octets below few it written.
    written_next (heard_so c) c.args.setup.now c.args.identity.now c.stations_are_real.ensures.setup c.stations_are_real.ensures.device serial
    controller number spare octets patient few it written

pub returns-clause-readied : goal.returns-clause-readied
returns-clause-readied c = λ can serial controller spare it.
    readied_next (heard_so c) c.args.setup.now c.args.identity.now c.stations_are_real.ensures.setup c.stations_are_real.ensures.device serial controller spare it
