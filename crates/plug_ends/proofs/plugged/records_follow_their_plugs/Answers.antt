use Rattle.both_ends.proofs.ExchangeLaw.{DeviceSo}
use Rattle.both_ends.proofs.ExchangeMessages.{HearsSo}
use Rattle.plug_ends.proofs.AskedFrames.{FramesSo}
use Rattle.plug_ends.proofs.AskedWorlds.{AskedSo}
use Rattle.plug_ends.proofs.CallsFine.{FineSo}
use Rattle.plug_ends.proofs.CallsHeard.{HeardSo}
use Rattle.plug_ends.proofs.CallsRuns.{CallsSo}
use Rattle.plug_ends.proofs.PluggedDevice.{PluggedSo}
use Rattle.plug_ends.proofs.PluggedLaw.{records_so, there_so}
use Rattle.plug_ends.proofs.plugged.records_follow_their_plugs.Goals as goal

-- the laws of the crates below
calls_so : (g : _) → goal.After-alarms_are_taken_in_order g → CallsSo
calls_so g c = record {
  goes_on = c.controller_goes_on.ensures.goes_on;
  begins = λ setup. (c.controller_goes_on.ensures.begins setup.plan).0;
  frames_are = c.frames_are_messages.ensures;
  kinds = c.turns_are_of_a_kind.ensures.event;
  follows = c.turns_begin_beside.ensures.follows;
  due_so = c.turns_begin_beside.ensures.begins;
  flows = c.turns_begin_beside.ensures.flows;
  cause = c.ended_is_kept.ensures.cause;
  device_on = c.device_goes_on.ensures;
  orderly = λ rules activity outcomes station live heard planned. (c.device_turns.ensures.turn rules activity outcomes station live heard planned).orderly;
  own = c.device_turns.ensures.own;
  unreported = c.datagrams_alone_are_calls.ensures.device;
  uncalled = c.datagrams_alone_are_calls.ensures.controller;
}

heard_so : (g : _) → goal.After-alarms_are_taken_in_order g → HeardSo
heard_so g c = record {
  sound = c.formats_are_sound.ensures.layers;
  uncalled = c.datagrams_alone_are_calls.ensures.controller;
  packet = c.packets_are_heard.ensures.controller;
  call_can = c.calls_can_be_sent.ensures.call;
  record_can = c.calls_can_be_sent.ensures.record_call;
  plug_call_can = c.calls_can_be_sent.ensures.plug_call;
  ready_can = c.calls_can_be_sent.ensures.ready;
  call = c.calls_are_heard.ensures.controller;
  response = c.responses_are_heard.ensures.controller;
  ready = c.ready_calls_are_heard.ensures.controller;
  plug_can = c.plug_calls_are_heard.ensures.sent;
  plug = c.plug_calls_are_heard.ensures.controller;
  agreed = c.ready_answers_are_heard.ensures.controller;
}

fine_so : (g : _) → goal.After-alarms_are_taken_in_order g → FineSo
fine_so g c = record {
  calls = calls_so g c;
  heard = heard_so g c;
  aimed_first = c.messages_are_addressed.ensures.first;
  aimed = c.messages_are_addressed.ensures.next;
  owed = c.device_sends_what_it_owes.ensures;
}

plugged_so : (g : _) → goal.After-alarms_are_taken_in_order g → PluggedSo
plugged_so g c = record {
  fine = fine_so g c;
  read = c.blocks_are_read.ensures.read;
  undone = c.refusals_are_not_done.ensures;
  turns = c.device_turns.ensures.turn;
  call_at_device = c.calls_are_heard.ensures.device;
}

device_so : (g : _) → goal.After-alarms_are_taken_in_order g → DeviceSo
device_so g c = record {
  begins_sized = c.messages_can_be_sent.ensures.first;
  goes_sized = c.messages_can_be_sent.ensures.next;
  goes_on = c.device_goes_on.ensures;
  kinds = c.turns_are_of_a_kind.ensures.event;
  turns = c.device_turns.ensures.turn;
  owns = c.device_turns.ensures.own;
  keys = record {
    sent = c.device_turns.ensures.sent_keys;
    changed = c.device_turns.ensures.changed_keys;
    standing = c.device_turns.ensures.changed_standing;
  };
  raises = c.device_turns.ensures.raises;
}

hears_so : (g : _) → goal.After-alarms_are_taken_in_order g → HearsSo
hears_so g c = record {
  data_read = c.frames_are_read.ensures.real_time;
  packet_read = c.frames_are_read.ensures.arp;
  datagram_read = c.frames_are_read.ensures.udp;
  alarm = c.alarms_are_heard.ensures.alarm;
  ack = c.alarms_are_heard.ensures.ack;
  nack = c.alarms_are_heard.ensures.nack;
  low_alarm = c.alarms_are_heard.ensures.low;
  low_ack = c.alarms_are_heard.ensures.low_ack;
  low_nack = c.alarms_are_heard.ensures.low_nack;
  end_heard = c.ends_are_heard.ensures.controller;
  confirms = c.confirmations_are_heard.ensures.confirms;
  low = c.confirmations_are_heard.ensures.low;
  unheard = c.confirmations_are_heard.ensures.unheard;
  acks = c.confirmations_are_heard.ensures.ack;
  nacks = c.confirmations_are_heard.ensures.nack;
  ends = c.ends_are_heard.ensures.device;
  identify = c.requests_are_heard.ensures.identify;
  address = c.requests_are_heard.ensures.address;
  call_can = c.calls_can_be_sent.ensures.call;
  record_can = c.calls_can_be_sent.ensures.record_call;
  plug_call_can = c.calls_can_be_sent.ensures.plug_call;
  call_at_device = c.calls_are_heard.ensures.device;
  call_at_controller = c.calls_are_heard.ensures.controller;
  agreed_at_device = c.ready_answers_are_heard.ensures.device;
  agreed_at_controller = c.ready_answers_are_heard.ensures.controller;
  ready_can = c.calls_can_be_sent.ensures.ready;
  ready_at_controller = c.ready_calls_are_heard.ensures.controller;
  plug_can = c.plug_calls_are_heard.ensures.sent;
  plug_at_controller = c.plug_calls_are_heard.ensures.controller;
  response_at_controller = c.responses_are_heard.ensures.controller;
  chosen = c.answers_choose_well.ensures;
  response_no_call = c.calls_and_responses_differ.ensures.answered;
}

frames_so : (g : _) → goal.After-alarms_are_taken_in_order g → FramesSo
frames_so g c = record {
  heard = heard_so g c;
  unreported = c.datagrams_alone_are_calls.ensures.device;
  call = c.calls_are_heard.ensures.device;
  agreed = c.ready_answers_are_heard.ensures.device;
  response = c.responses_are_heard.ensures.device;
  ready = c.ready_calls_are_heard.ensures.device;
  plug = c.plug_calls_are_heard.ensures.device;
  packet = c.packets_are_heard.ensures.device;
  read_back = c.plug_controls_are_read_back.ensures;
}

asked_so : (g : _) → goal.After-alarms_are_taken_in_order g → AskedSo
asked_so g c = record {
  device = device_so g c;
  frames = frames_so g c;
  begins = λ setup. (c.controller_goes_on.ensures.begins setup.plan).0;
  goes_on = c.controller_goes_on.ensures.goes_on;
  kinds = c.turns_are_of_a_kind.ensures.event;
  follows = c.turns_begin_beside.ensures.follows;
  due_so = c.turns_begin_beside.ensures.begins;
  flows = c.turns_begin_beside.ensures.flows;
  aimed_first = c.messages_are_addressed.ensures.first;
  aimed = c.messages_are_addressed.ensures.next;
}

pub returns-clause-records : goal.returns-clause-records
returns-clause-records g c = λ can first run begins made modules sized none few strict slot subslot calm link is step some.
    records_so (plugged_so g c) (asked_so g c) (device_so g c) (hears_so g c) c.alarms_are_taken_in_order.ensures.prefix c.args.setup.now c.args.identity.now
    c.stations_are_real.ensures.setup c.stations_are_real.ensures.device can c.plan_is_placed.ensures g.F.Flash first
    (λ moves so. c.worlds_start_up.ensures.relation can first moves begins so) run begins made (c.worlds_start_up.ensures.meant can first run begins made) modules sized
    none few slot subslot strict calm link is step some

pub returns-clause-there : goal.returns-clause-there
returns-clause-there g c = λ can first run begins made modules sized none few slot subslot link is step some unsent up.
    there_so (plugged_so g c) (asked_so g c) (device_so g c) (hears_so g c) c.alarms_are_taken_in_order.ensures.prefix c.args.setup.now c.args.identity.now
    c.stations_are_real.ensures.setup c.stations_are_real.ensures.device can c.plan_is_placed.ensures g.F.Flash first
    (λ moves so. c.worlds_start_up.ensures.relation can first moves begins so) run begins made (c.worlds_start_up.ensures.meant can first run begins made) modules sized
    none few slot subslot c.alarms_are_taken_in_order.ensures.all link is step some unsent up
