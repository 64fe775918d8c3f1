use Rattle.std.proofs.Common.{subst}
use Rattle.pn_values.specs.declared.real.Real.{Real}
use Rattle.both_ends.specs.exchange.Sized.{AreSizedModules}
use Rattle.both_ends.proofs.ExchangeLaw.{DeviceSo}
use Rattle.both_ends.proofs.ExchangeMessages.{HearsSo}
use Rattle.places_law.proofs.PlacesOctets.{BlocksSo}
use Rattle.places_law.proofs.PlacesRun.{agreed_so, apart_so, places_so, untouched_so}
use Rattle.places_law.proofs.places.worlds_agree_of_places.Goals as goal

device_so : (g : _) → goal.After-alarms_are_taken_in_order g → DeviceSo
device_so g c = record {
  begins_sized = c.messages_can_be_sent.ensures.first;
  goes_sized = c.messages_can_be_sent.ensures.next;
  goes_on = c.device_goes_on.ensures;
  kinds = c.turns_are_of_a_kind.ensures.event;
  turns = c.device_turns.ensures.turn;
  owns = c.device_turns.ensures.own;
  keys = record {
    sent = c.device_turns.ensures.sent_keys;
    changed = c.device_turns.ensures.changed_keys;
    standing = c.device_turns.ensures.changed_standing;
  };
  raises = c.device_turns.ensures.raises;
}

hears_so : (g : _) → goal.After-alarms_are_taken_in_order g → HearsSo
hears_so g c = record {
  data_read = c.frames_are_read.ensures.real_time;
  packet_read = c.frames_are_read.ensures.arp;
  datagram_read = c.frames_are_read.ensures.udp;
  alarm = c.alarms_are_heard.ensures.alarm;
  ack = c.alarms_are_heard.ensures.ack;
  nack = c.alarms_are_heard.ensures.nack;
  low_alarm = c.alarms_are_heard.ensures.low;
  low_ack = c.alarms_are_heard.ensures.low_ack;
  low_nack = c.alarms_are_heard.ensures.low_nack;
  end_heard = c.ends_are_heard.ensures.controller;
  confirms = c.confirmations_are_heard.ensures.confirms;
  low = c.confirmations_are_heard.ensures.low;
  unheard = c.confirmations_are_heard.ensures.unheard;
  acks = c.confirmations_are_heard.ensures.ack;
  nacks = c.confirmations_are_heard.ensures.nack;
  ends = c.ends_are_heard.ensures.device;
  identify = c.requests_are_heard.ensures.identify;
  address = c.requests_are_heard.ensures.address;
  call_can = c.calls_can_be_sent.ensures.call;
  record_can = c.calls_can_be_sent.ensures.record_call;
  plug_call_can = c.calls_can_be_sent.ensures.plug_call;
  call_at_device = c.calls_are_heard.ensures.device;
  call_at_controller = c.calls_are_heard.ensures.controller;
  agreed_at_device = c.ready_answers_are_heard.ensures.device;
  agreed_at_controller = c.ready_answers_are_heard.ensures.controller;
  ready_can = c.calls_can_be_sent.ensures.ready;
  ready_at_controller = c.ready_calls_are_heard.ensures.controller;
  plug_can = c.plug_calls_are_heard.ensures.sent;
  plug_at_controller = c.plug_calls_are_heard.ensures.controller;
  response_at_controller = c.responses_are_heard.ensures.controller;
  chosen = c.answers_choose_well.ensures;
  response_no_call = c.calls_and_responses_differ.ensures.answered;
}

blocks_so : (g : _) → goal.After-alarms_are_taken_in_order g → BlocksSo
blocks_so g c = record { read = c.blocks_are_read.ensures.read; known = c.blocks_are_found.ensures.known; alarms = c.blocks_are_found.ensures.written }

planned_so : (g : _) (c : goal.After-alarms_are_taken_in_order g) → AreSizedModules c.args.setup.now.plan.real.modules.items
planned_so g c = subst (λ (real : Real). AreSizedModules real.modules.items) c.real.ensures.value c.modules_are_sized.ensures

pub returns-clause-places : goal.returns-clause-places
returns-clause-places g c = λ can first run begins made real sized up.
    places_so (device_so g c) (hears_so g c) (blocks_so g c) c.args.setup.now c.args.identity.now c.stations_are_real.ensures.setup (planned_so g c) can g.F.Flash first run begins real made sized
    (c.worlds_start_up.ensures.meant can first run begins made) up

pub returns-clause-agreed : goal.returns-clause-agreed
returns-clause-agreed g c = λ can first run begins made real sized known none apart few link is unsent empty up.
    agreed_so (device_so g c) (hears_so g c) (blocks_so g c) c.args.setup.now c.args.identity.now c.stations_are_real.ensures.setup (planned_so g c) can g.F.Flash first run begins real made sized
    (c.worlds_start_up.ensures.meant can first run begins made) c.reports_are_followed.ensures.elsewhere known none apart c.alarms_are_taken_in_order.ensures.all few link is unsent empty up

pub returns-clause-untouched : goal.returns-clause-untouched
returns-clause-untouched g c = λ can first run begins made real sized known none apart few link is unsent empty up.
    untouched_so (device_so g c) (hears_so g c) (blocks_so g c) c.args.setup.now c.args.identity.now c.stations_are_real.ensures.setup (planned_so g c) can g.F.Flash first run begins real made sized
    (c.worlds_start_up.ensures.meant can first run begins made) c.reports_are_followed.ensures.elsewhere known none apart c.alarms_are_taken_in_order.ensures.all few link is unsent empty up

pub returns-clause-apart : goal.returns-clause-apart
returns-clause-apart g c = λ can first run begins made real sized known none apart.
    apart_so (device_so g c) (hears_so g c) (blocks_so g c) c.args.setup.now c.args.identity.now c.stations_are_real.ensures.setup (planned_so g c) can g.F.Flash first run begins real made sized
    (c.worlds_start_up.ensures.meant can first run begins made) c.reports_are_followed.ensures.elsewhere known none apart
