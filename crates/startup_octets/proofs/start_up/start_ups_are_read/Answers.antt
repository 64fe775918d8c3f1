use Rattle.both_ends.proofs.StartupGiven.{GoesSo, HeardSo}
use Rattle.startup_octets.proofs.Along.{Laws}
use Rattle.startup_octets.proofs.Start.{all_delivered, start_ups}
use Rattle.startup_octets.proofs.start_up.start_ups_are_read.Goals as goal

-- The laws of the crates below.
heard_so : (g : _) → goal.After-worlds_start_up g → HeardSo
heard_so g c = record {
  sound = c.formats_are_sound.ensures.layers;
  unreported = c.datagrams_alone_are_calls.ensures.device;
  uncalled = c.datagrams_alone_are_calls.ensures.controller;
  packet_at_controller = c.packets_are_heard.ensures.controller;
  packet_at_device = c.packets_are_heard.ensures.device;
  call_can = c.calls_can_be_sent.ensures.call;
  record_can = c.calls_can_be_sent.ensures.record_call;
  plug_call_can = c.calls_can_be_sent.ensures.plug_call;
  ready_can = c.calls_can_be_sent.ensures.ready;
  call_at_device = c.calls_are_heard.ensures.device;
  call_at_controller = c.calls_are_heard.ensures.controller;
  response_at_controller = c.responses_are_heard.ensures.controller;
  response_at_device = c.responses_are_heard.ensures.device;
  ready_at_controller = c.ready_calls_are_heard.ensures.controller;
  ready_at_device = c.ready_calls_are_heard.ensures.device;
  plug_can = c.plug_calls_are_heard.ensures.sent;
  plug_at_controller = c.plug_calls_are_heard.ensures.controller;
  plug_at_device = c.plug_calls_are_heard.ensures.device;
  plug_other = c.plug_calls_are_heard.ensures.other;
  agreed_at_device = c.ready_answers_are_heard.ensures.device;
  agreed_at_controller = c.ready_answers_are_heard.ensures.controller;
  block_read = c.blocks_are_read.ensures.read;
  block_long = c.blocks_are_read.ensures.long;
}

goes_so : (g : _) → goal.After-worlds_start_up g → GoesSo
goes_so g c = record {
  aimed_first = c.messages_are_addressed.ensures.first;
  aimed = c.messages_are_addressed.ensures.next;
  begins = c.controller_goes_on.ensures.begins;
  controller_on = c.controller_goes_on.ensures.goes_on;
  frames_are = c.frames_are_messages.ensures;
  device_on = c.device_goes_on.ensures;
  orderly = λ rules activity outcomes station live heard planned. (c.device_turns.ensures.turn rules activity outcomes station live heard planned).orderly;
  owed = c.device_sends_what_it_owes.ensures;
  asked = λ rules activity outcomes station live heard planned. (c.device_turns.ensures.turn rules activity outcomes station live heard planned).asked;
  relation = c.start_up_is_kept.ensures.relation;
}

laws_so : (g : _) → goal.After-worlds_start_up g → Laws
laws_so g c = record {
  so = heard_so g c;
  goes = goes_so g c;
  undone = c.refusals_are_not_done.ensures;
  calls_read = c.calls_are_read.ensures.read;
  turn = c.device_turns.ensures.turn;
  kinds = c.turns_are_of_a_kind.ensures.event;
  handed = c.start_up_is_kept.ensures.controller;
}

pub returns-clause-delivered : goal.returns-clause-delivered
returns-clause-delivered g c = λ first run made. all_delivered g.F.Flash first run made

pub returns-clause-start_up : goal.returns-clause-start_up
returns-clause-start_up g c = λ can strict first run begins made.
    start_ups (laws_so g c) c.args.setup.now c.args.identity.now c.stations_are_real.ensures.setup c.stations_are_real.ensures.device can c.plan_is_placed.ensures
    (c.connect_is_taken.ensures.read can.named) c.worlds_start_up.ensures.records strict first begins g.F.Flash run made
