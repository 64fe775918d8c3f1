-- By the laws of hearing, and of a unit and a frame at a controller that waits.
use Rattle.rounds_law.proofs.ControllerCallingResponses.{HeardSo}
use Rattle.rounds_law.proofs.MiddleController.{quiet_inputs, waiting_inputs, waiting_readied, waiting_unit}
use Rattle.rounds_law.proofs.middle.controller.controller_waits_for_ready.Goals as goal

-- the laws of the crates below
heard_so : goal.After-blocks_are_read → HeardSo
heard_so c = record {
  response = c.responses_are_heard.ensures.controller;
  ready = c.ready_calls_are_heard.ensures.controller;
  call_can = c.calls_can_be_sent.ensures.call;
  ready_can = c.calls_can_be_sent.ensures.ready;
  block_read = c.blocks_are_read.ensures.alone;
  block_long = c.blocks_are_read.ensures.long;
}

pub returns-clause-unit : goal.returns-clause-unit
returns-clause-unit c = λ serial controller spare is. waiting_unit c.args.setup.now serial c.args.identity.now.mac spare controller is

pub returns-clause-inputs : goal.returns-clause-inputs
returns-clause-inputs c = λ serial controller spare octets inputs is.
    waiting_inputs c.inputs_are_heard.ensures.controller c.formats_are_sound.ensures.ethernet c.formats_are_sound.ensures.layers
    c.args.setup.now c.args.identity.now c.stations_are_real.ensures.setup c.stations_are_real.ensures.device controller octets inputs serial spare is

pub returns-clause-readied : goal.returns-clause-readied
returns-clause-readied c = λ serial controller spare is.
    waiting_readied (heard_so c) c.args.setup.now c.args.identity.now c.stations_are_real.ensures.setup c.stations_are_real.ensures.device
    serial controller spare is

pub returns-clause-quiet : goal.returns-clause-quiet
returns-clause-quiet c = λ serial controller age octets inputs is none.
    quiet_inputs c.inputs_are_heard.ensures.controller c.formats_are_sound.ensures.ethernet c.formats_are_sound.ensures.layers
    c.args.setup.now c.args.identity.now c.stations_are_real.ensures.setup c.stations_are_real.ensures.device controller octets inputs serial age is none
