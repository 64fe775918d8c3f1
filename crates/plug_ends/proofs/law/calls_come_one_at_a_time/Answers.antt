use Rattle.controller_messages.specs.Heard.{heard_of}
use Rattle.network_world.specs.declared.moves.End.TheVariants.{Device}
use Rattle.network_world.specs.declared.moves.Move.TheVariants as move
use Rattle.network_world.specs.World.{last_world}
use Rattle.plug_ends.proofs.CallsFine.{FineSo, last_both}
use Rattle.plug_ends.proofs.CallsHeard.{HeardSo, IsFineAt, fine_unrefused}
use Rattle.plug_ends.proofs.CallsRuns.{CallsSo, all_at}
use Rattle.plug_ends.proofs.CallsWorlds.{answered_so, one_so, present_so}
use Rattle.plug_ends.proofs.law.calls_come_one_at_a_time.Goals as goal

-- the laws of the crates below
calls_so : (g : _) → goal.After-ready_answers_are_heard g → CallsSo
calls_so g c = record {
  goes_on = c.controller_goes_on.ensures.goes_on;
  begins = λ setup. (c.controller_goes_on.ensures.begins setup.plan).0;
  frames_are = c.frames_are_messages.ensures;
  kinds = c.turns_are_of_a_kind.ensures.event;
  follows = c.turns_begin_beside.ensures.follows;
  due_so = c.turns_begin_beside.ensures.begins;
  flows = c.turns_begin_beside.ensures.flows;
  cause = c.ended_is_kept.ensures.cause;
  device_on = c.device_goes_on.ensures;
  orderly = λ rules activity outcomes station live heard planned. (c.device_turns.ensures.turn rules activity outcomes station live heard planned).orderly;
  own = c.device_turns.ensures.own;
  unreported = c.datagrams_alone_are_calls.ensures.device;
  uncalled = c.datagrams_alone_are_calls.ensures.controller;
}

heard_so : (g : _) → goal.After-ready_answers_are_heard g → HeardSo
heard_so g c = record {
  sound = c.formats_are_sound.ensures.layers;
  uncalled = c.datagrams_alone_are_calls.ensures.controller;
  packet = c.packets_are_heard.ensures.controller;
  call_can = c.calls_can_be_sent.ensures.call;
  record_can = c.calls_can_be_sent.ensures.record_call;
  plug_call_can = c.calls_can_be_sent.ensures.plug_call;
  ready_can = c.calls_can_be_sent.ensures.ready;
  call = c.calls_are_heard.ensures.controller;
  response = c.responses_are_heard.ensures.controller;
  ready = c.ready_calls_are_heard.ensures.controller;
  plug_can = c.plug_calls_are_heard.ensures.sent;
  plug = c.plug_calls_are_heard.ensures.controller;
  agreed = c.ready_answers_are_heard.ensures.controller;
}

fine_so : (g : _) → goal.After-ready_answers_are_heard g → FineSo
fine_so g c = record {
  calls = calls_so g c;
  heard = heard_so g c;
  aimed_first = c.messages_are_addressed.ensures.first;
  aimed = c.messages_are_addressed.ensures.next;
  owed = c.device_sends_what_it_owes.ensures;
}

pub returns-clause-present : goal.returns-clause-present
returns-clause-present g c = λ can first run begins made going frame sent call.
    let both = last_both (fine_so g c) c.args.setup.now g.F.Flash first (λ moves so. c.worlds_start_up.ensures.relation can first moves begins so)
    c.args.identity.now
    c.stations_are_real.ensures.setup c.stations_are_real.ensures.device begins run made (c.worlds_start_up.ensures.meant can first run begins made) in
    present_so (calls_so g c) (last_world first run) both.held (λ number. c.worlds_start_up.ensures.next can first run begins made
    (move.Deliver Device number)) going frame sent call

pub returns-clause-one : goal.returns-clause-one
returns-clause-one g c = λ can first run begins made one other one_sent other_sent first_call second_call no_end no_release no_other_end no_other_release.
    let both = last_both (fine_so g c) c.args.setup.now g.F.Flash first (λ moves so. c.worlds_start_up.ensures.relation can first moves begins so)
    c.args.identity.now
    c.stations_are_real.ensures.setup c.stations_are_real.ensures.device begins run made (c.worlds_start_up.ensures.meant can first run begins made) in
    one_so (calls_so g c) (last_world first run) both.held (λ number. c.worlds_start_up.ensures.next can first run begins made (move.Deliver Device number))
    one other one_sent other_sent first_call second_call no_end no_release no_other_end no_other_release

pub returns-clause-unrefused : goal.returns-clause-unrefused
returns-clause-unrefused g c = λ can first run begins made frame refusal sent e.
    let last = last_world first run in
    let both = last_both (fine_so g c) c.args.setup.now g.F.Flash first (λ moves so. c.worlds_start_up.ensures.relation can first moves begins so)
    c.args.identity.now
    c.stations_are_real.ensures.setup c.stations_are_real.ensures.device begins run made (c.worlds_start_up.ensures.meant can first run begins made) in
    fine_unrefused last.device.station.identity.mac (heard_of last.controller.setup.plan.controller frame)
    (all_at (IsFineAt last.controller.setup last.device.station.identity) last.sent both.fine.frames sent.number frame sent.is) refusal e

pub returns-clause-answered : goal.returns-clause-answered
returns-clause-answered g c = λ can first run begins made frame sent response e own.
    let both = last_both (fine_so g c) c.args.setup.now g.F.Flash first (λ moves so. c.worlds_start_up.ensures.relation can first moves begins so)
    c.args.identity.now c.stations_are_real.ensures.setup c.stations_are_real.ensures.device begins run made
    (c.worlds_start_up.ensures.meant can first run begins made) in
    answered_so (calls_so g c) (last_world first run) both.held
    (λ number. c.worlds_start_up.ensures.next can first run begins made (move.Deliver Device number)) frame sent response e own
