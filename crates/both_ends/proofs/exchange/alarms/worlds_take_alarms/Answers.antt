use Rattle.both_ends.proofs.ExchangeLaw.{DeviceSo, high_so, in_order, lacks_one, last_shown, shows}
use Rattle.both_ends.proofs.ExchangeMessages.{HearsSo}
use Rattle.both_ends.proofs.ExchangeReporting.{known_so, list_so, low_so, plugged_so, told_so}
use Rattle.both_ends.specs.exchange.Over.{raised_over, reported_over, taken_over}
use Rattle.diagnosis.specs.declared.reports.priority.Priority.TheVariants.{High, Low}
use Rattle.network_world.specs.World.{last_world}
use Rattle.both_ends.proofs.exchange.alarms.worlds_take_alarms.Goals as goal

device_so : (g : _) → goal.After-alarms_are_taken_in_order g → DeviceSo
device_so g c = record {
  begins_sized = c.messages_can_be_sent.ensures.first;
  goes_sized = c.messages_can_be_sent.ensures.next;
  goes_on = c.device_goes_on.ensures;
  kinds = c.turns_are_of_a_kind.ensures.event;
  turns = c.device_turns.ensures.turn;
  owns = c.device_turns.ensures.own;
  keys = record {
    sent = c.device_turns.ensures.sent_keys;
    changed = c.device_turns.ensures.changed_keys;
    standing = c.device_turns.ensures.changed_standing;
  };
  raises = c.device_turns.ensures.raises;
}

hears_so : (g : _) → goal.After-alarms_are_taken_in_order g → HearsSo
hears_so g c = record {
  data_read = c.frames_are_read.ensures.real_time;
  packet_read = c.frames_are_read.ensures.arp;
  datagram_read = c.frames_are_read.ensures.udp;
  alarm = c.alarms_are_heard.ensures.alarm;
  ack = c.alarms_are_heard.ensures.ack;
  nack = c.alarms_are_heard.ensures.nack;
  low_alarm = c.alarms_are_heard.ensures.low;
  low_ack = c.alarms_are_heard.ensures.low_ack;
  low_nack = c.alarms_are_heard.ensures.low_nack;
  end_heard = c.ends_are_heard.ensures.controller;
  confirms = c.confirmations_are_heard.ensures.confirms;
  low = c.confirmations_are_heard.ensures.low;
  unheard = c.confirmations_are_heard.ensures.unheard;
  acks = c.confirmations_are_heard.ensures.ack;
  nacks = c.confirmations_are_heard.ensures.nack;
  ends = c.ends_are_heard.ensures.device;
  identify = c.requests_are_heard.ensures.identify;
  address = c.requests_are_heard.ensures.address;
  call_can = c.calls_can_be_sent.ensures.call;
  record_can = c.calls_can_be_sent.ensures.record_call;
  plug_call_can = c.calls_can_be_sent.ensures.plug_call;
  call_at_device = c.calls_are_heard.ensures.device;
  call_at_controller = c.calls_are_heard.ensures.controller;
  agreed_at_device = c.ready_answers_are_heard.ensures.device;
  agreed_at_controller = c.ready_answers_are_heard.ensures.controller;
  ready_can = c.calls_can_be_sent.ensures.ready;
  ready_at_controller = c.ready_calls_are_heard.ensures.controller;
  plug_can = c.plug_calls_are_heard.ensures.sent;
  plug_at_controller = c.plug_calls_are_heard.ensures.controller;
  response_at_controller = c.responses_are_heard.ensures.controller;
  chosen = c.answers_choose_well.ensures;
  response_no_call = c.calls_and_responses_differ.ensures.answered;
}

pub returns-clause-front : goal.returns-clause-front
returns-clause-front g c = λ can first run begins made real sized few.
    let follows = high_so (device_so g c) (hears_so g c) c.args.setup.now c.args.identity.now c.stations_are_real.ensures.setup can
    g.F.Flash first run begins real made sized (c.worlds_start_up.ensures.meant can first run begins made) in
    in_order High (last_world first run) (raised_over first run) (taken_over High first run) follows c.alarms_are_taken_in_order.ensures.prefix few

pub returns-clause-last : goal.returns-clause-last
returns-clause-last g c = λ can first run begins made real sized few.
    let follows = high_so (device_so g c) (hears_so g c) c.args.setup.now c.args.identity.now c.stations_are_real.ensures.setup can
    g.F.Flash first run begins real made sized (c.worlds_start_up.ensures.meant can first run begins made) in
    lacks_one High (last_world first run) (raised_over first run) (taken_over High first run) follows c.alarms_are_taken_in_order.ensures.last few

pub returns-clause-shown : goal.returns-clause-shown
returns-clause-shown g c = λ can first run begins made real sized.
    let follows = high_so (device_so g c) (hears_so g c) c.args.setup.now c.args.identity.now c.stations_are_real.ensures.setup can
    g.F.Flash first run begins real made sized (c.worlds_start_up.ensures.meant can first run begins made) in
    shows High (last_world first run) (raised_over first run) (taken_over High first run) follows c.alarms_are_taken_in_order.ensures.shown

pub returns-clause-alarm : goal.returns-clause-alarm
returns-clause-alarm g c = λ can first run begins made real sized few.
    let follows = high_so (device_so g c) (hears_so g c) c.args.setup.now c.args.identity.now c.stations_are_real.ensures.setup can
    g.F.Flash first run begins real made sized (c.worlds_start_up.ensures.meant can first run begins made) in
    last_shown (raised_over first run) (taken_over High first run) (last_world first run).controller.live.alarm
    (in_order High (last_world first run) (raised_over first run) (taken_over High first run) follows c.alarms_are_taken_in_order.ensures.prefix few)
    (lacks_one High (last_world first run) (raised_over first run) (taken_over High first run) follows c.alarms_are_taken_in_order.ensures.last few)
    (shows High (last_world first run) (raised_over first run) (taken_over High first run) follows c.alarms_are_taken_in_order.ensures.shown)

pub returns-clause-reports : goal.returns-clause-reports
returns-clause-reports g c = λ can first run begins made real sized few.
    let follows = low_so (device_so g c) (hears_so g c) c.args.setup.now c.args.identity.now c.stations_are_real.ensures.setup can
    g.F.Flash first run begins real made sized (c.worlds_start_up.ensures.meant can first run begins made) in
    in_order Low (last_world first run) (reported_over first run) (taken_over Low first run) follows c.alarms_are_taken_in_order.ensures.prefix few

pub returns-clause-reported_last : goal.returns-clause-reported_last
returns-clause-reported_last g c = λ can first run begins made real sized few.
    let follows = low_so (device_so g c) (hears_so g c) c.args.setup.now c.args.identity.now c.stations_are_real.ensures.setup can
    g.F.Flash first run begins real made sized (c.worlds_start_up.ensures.meant can first run begins made) in
    lacks_one Low (last_world first run) (reported_over first run) (taken_over Low first run) follows c.alarms_are_taken_in_order.ensures.last few

pub returns-clause-told : goal.returns-clause-told
returns-clause-told g c = λ can first run begins made real sized known link is on.
    told_so (device_so g c) (hears_so g c) c.args.setup.now c.args.identity.now c.stations_are_real.ensures.setup can g.F.Flash first run begins real made sized
    (c.worlds_start_up.ensures.meant can first run begins made) c.reports_are_followed.ensures.elsewhere known link is on

pub returns-clause-list : goal.returns-clause-list
returns-clause-list g c = λ can first run begins made real sized known apart few link is on none empty up.
    list_so (device_so g c) (hears_so g c) c.args.setup.now c.args.identity.now c.stations_are_real.ensures.setup can g.F.Flash first run begins real made sized
    (c.worlds_start_up.ensures.meant can first run begins made) c.reports_are_followed.ensures.elsewhere c.reports_are_followed.ensures.follows
    c.alarms_are_taken_in_order.ensures.all c.alarms_are_taken_in_order.ensures.listed known apart few link is on none empty up

pub returns-clause-known : goal.returns-clause-known
returns-clause-known g c = λ can first run begins made real sized known.
    known_so (device_so g c) (hears_so g c) c.args.setup.now c.args.identity.now c.stations_are_real.ensures.setup can g.F.Flash first run begins real made sized
    (c.worlds_start_up.ensures.meant can first run begins made) c.reports_are_followed.ensures.elsewhere known

pub returns-clause-plugged : goal.returns-clause-plugged
returns-clause-plugged g c = λ can first run begins made real sized known apart.
    plugged_so (device_so g c) (hears_so g c) c.args.setup.now c.args.identity.now c.stations_are_real.ensures.setup can g.F.Flash first run begins real made sized
    (c.worlds_start_up.ensures.meant can first run begins made) c.reports_are_followed.ensures.elsewhere known apart
