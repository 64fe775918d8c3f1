use Rattle.connect_blocks.specs.declared.iocr.IocrType.TheVariants.{Input}
use Rattle.controller_messages.specs.declared.setup.Setup.{Setup}
use Rattle.end_laws.specs.hearing.Stations.{IsSetup}
use Rattle.both_ends.proofs.ExchangeLaw.{DeviceSo}
use Rattle.both_ends.proofs.ExchangeMessages.{HearsSo}
use Rattle.inputs_law.proofs.InputsPlaced.{ArePlaced, placed}
use Rattle.inputs_law.proofs.RunLaw.{shows_one_frame, shows_zeros}
use Rattle.inputs_law.proofs.inputs.worlds_show_given_inputs.Goals as goal

device_so : (g : _) → goal.After-inputs_are_received g → DeviceSo
device_so g c = record {
  begins_sized = c.messages_can_be_sent.ensures.first;
  goes_sized = c.messages_can_be_sent.ensures.next;
  goes_on = c.device_goes_on.ensures;
  kinds = c.turns_are_of_a_kind.ensures.event;
  turns = c.device_turns.ensures.turn;
  owns = c.device_turns.ensures.own;
  keys = record {
    sent = c.device_turns.ensures.sent_keys;
    changed = c.device_turns.ensures.changed_keys;
    standing = c.device_turns.ensures.changed_standing;
  };
  raises = c.device_turns.ensures.raises;
}

hears_so : (g : _) → goal.After-inputs_are_received g → HearsSo
hears_so g c = record {
  data_read = c.frames_are_read.ensures.real_time;
  packet_read = c.frames_are_read.ensures.arp;
  datagram_read = c.frames_are_read.ensures.udp;
  alarm = c.alarms_are_heard.ensures.alarm;
  ack = c.alarms_are_heard.ensures.ack;
  nack = c.alarms_are_heard.ensures.nack;
  low_alarm = c.alarms_are_heard.ensures.low;
  low_ack = c.alarms_are_heard.ensures.low_ack;
  low_nack = c.alarms_are_heard.ensures.low_nack;
  end_heard = c.ends_are_heard.ensures.controller;
  confirms = c.confirmations_are_heard.ensures.confirms;
  low = c.confirmations_are_heard.ensures.low;
  unheard = c.confirmations_are_heard.ensures.unheard;
  acks = c.confirmations_are_heard.ensures.ack;
  nacks = c.confirmations_are_heard.ensures.nack;
  ends = c.ends_are_heard.ensures.device;
  identify = c.requests_are_heard.ensures.identify;
  address = c.requests_are_heard.ensures.address;
  call_can = c.calls_can_be_sent.ensures.call;
  record_can = c.calls_can_be_sent.ensures.record_call;
  plug_call_can = c.calls_can_be_sent.ensures.plug_call;
  call_at_device = c.calls_are_heard.ensures.device;
  call_at_controller = c.calls_are_heard.ensures.controller;
  agreed_at_device = c.ready_answers_are_heard.ensures.device;
  agreed_at_controller = c.ready_answers_are_heard.ensures.controller;
  ready_can = c.calls_can_be_sent.ensures.ready;
  ready_at_controller = c.ready_calls_are_heard.ensures.controller;
  plug_can = c.plug_calls_are_heard.ensures.sent;
  plug_at_controller = c.plug_calls_are_heard.ensures.controller;
  response_at_controller = c.responses_are_heard.ensures.controller;
  chosen = c.answers_choose_well.ensures;
  response_no_call = c.calls_and_responses_differ.ensures.answered;
}

-- the places of a plan's inputs
there : (g : _) → goal.After-inputs_are_received g → (setup : Setup) → IsSetup setup → ArePlaced setup
there g c setup good = placed setup (c.packed_places_are_asked.ensures.good Input setup.plan.real.modules.items good.plan.good.ordered)

pub returns-clause-zeros : goal.returns-clause-zeros
returns-clause-zeros g c = λ can first run begins made real sized none.
    shows_zeros c.device_turns.ensures.turn c.turns_are_of_a_kind.ensures.event (device_so g c) (hears_so g c) c.formats_are_sound.ensures.ethernet c.formats_are_sound.ensures.layers (there g c) first
    c.args.setup.now c.args.identity.now c.stations_are_real.ensures.setup can begins real g.F.Flash run made sized (c.worlds_start_up.ensures.meant can first run begins made) c.inputs_are_received.ensures.none none

pub returns-clause-values : goal.returns-clause-values
returns-clause-values g c = λ can first run begins made real sized has.
    shows_one_frame c.device_turns.ensures.turn c.turns_are_of_a_kind.ensures.event (device_so g c) (hears_so g c) c.formats_are_sound.ensures.ethernet c.formats_are_sound.ensures.layers (there g c) first
    c.args.setup.now c.args.identity.now c.stations_are_real.ensures.setup can begins real g.F.Flash run made sized (c.worlds_start_up.ensures.meant can first run begins made) c.outputs_are_given.ensures has
