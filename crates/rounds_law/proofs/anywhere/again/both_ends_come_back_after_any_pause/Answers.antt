-- This follows from the parts of the law of any state, for each two of the starts.
use Rattle.controller_messages.specs.declared.setup.Setup.{Setup}
use Rattle.rounds_law.specs.AnywhereAgain.{StartLaws}
use Rattle.rounds_law.proofs.AnywhereBesideApart.{anywhere_again}
use Rattle.rounds_law.proofs.AnywhereBesidePower.{among_again}
use Rattle.rounds_law.proofs.AnywhereDeviceLaw.{DeviceLaws}
use Rattle.rounds_law.proofs.AnywhereLaws.{AnywhereLaws}
use Rattle.rounds_law.proofs.anywhere.again.both_ends_come_back_after_any_pause.Goals as goal

device_laws : (g : _) (c : goal.After-no_state_outlasts_its_patience g) (setup : Setup) → StartLaws g.F.Flash c.args.identity.now setup
    → DeviceLaws setup c.args.identity.now
device_laws g c setup laws = record {
  modules = c.only_pulls_and_plugs_change_modules.ensures;
  hears = record {
    identify = c.requests_are_heard.ensures.identify;
    address = c.requests_are_heard.ensures.address;
    call_can = c.calls_can_be_sent.ensures.call;
    plug_can = c.calls_can_be_sent.ensures.plug_call;
    call = c.calls_are_heard.ensures.device;
    answer = c.ready_answers_are_heard.ensures.device;
    real_time = c.frames_are_read.ensures.real_time;
    confirms = c.confirmations_are_heard.ensures.confirms;
    low = c.confirmations_are_heard.ensures.low;
    ack = c.confirmations_are_heard.ensures.ack;
    nack = c.confirmations_are_heard.ensures.nack;
    ends = c.ends_are_heard.ensures.device;
  };
  says = record {
    alone = c.datagrams_alone_are_calls.ensures.controller;
    response = c.responses_are_heard.ensures.controller;
    ready = c.ready_calls_are_heard.ensures.controller;
    ready_can = c.calls_can_be_sent.ensures.ready;
    plug = c.plug_calls_are_heard.ensures.controller;
    plug_can = c.plug_calls_are_heard.ensures.sent;
  };
  negative = c.refusals_are_not_done.ensures;
  whole = laws.whole;
  same = laws.same;
  own = laws.own;
  block_read = c.blocks_are_read.ensures.read;
  block_alone = c.blocks_are_read.ensures.alone;
  block_long = c.blocks_are_read.ensures.long;
  placed = laws.placed;
  suite = laws.suite;
}

laws_of : (g : _) (c : goal.After-no_state_outlasts_its_patience g) (setup : Setup) → StartLaws g.F.Flash c.args.identity.now setup
    → AnywhereLaws setup c.args.identity.now
laws_of g c setup laws = record {
  controller = record {
    kinds = c.turns_are_of_a_kind.ensures.event;
    begins = c.controller_goes_on.ensures.begins;
    goes_on = c.controller_goes_on.ensures.goes_on;
    can_answer = c.calls_can_be_sent.ensures.answer;
    can_answer_plug = c.calls_can_be_sent.ensures.plug_answer;
    left = c.no_state_outlasts_its_patience.ensures.left;
    cause = c.ended_is_kept.ensures.cause;
    dropped = c.ended_is_kept.ensures.dropped;
    units = c.ended_is_kept.ensures.units;
  };
  device = device_laws g c setup laws;
  reads = record { real_time = c.frames_are_read.ensures.real_time; udp = c.frames_are_read.ensures.udp };
  answers = record { responses = c.responses_are_heard.ensures.controller };
  calls = record {
    can = λ request. c.calls_can_be_sent.ensures.call setup request laws.real;
    heard = λ identity to call. c.calls_are_heard.ensures.device identity setup to call laws.real;
  };
  exchange = record {
    agrees = λ identity caller answer. c.ready_answers_are_heard.ensures.device identity setup caller answer laws.real;
    cycles = c.inputs_are_heard.ensures.device;
    confirms = λ identity route header ack. c.confirmations_are_heard.ensures.confirms identity setup route header ack laws.real;
    confirms_low = λ identity route header ack. c.confirmations_are_heard.ensures.low identity setup route header ack laws.real;
    acks = λ identity route priority header. c.confirmations_are_heard.ensures.ack identity setup route priority header laws.real;
    nacks = λ identity route priority header. c.confirmations_are_heard.ensures.nack identity setup route priority header laws.real;
    ends = λ identity route header reason. c.ends_are_heard.ensures.device identity setup route header reason laws.real;
  };
  short = c.type_is_short.ensures;
  identify = c.answers_are_heard.ensures.identify;
}

pub returns-clause-again : goal.returns-clause-again
returns-clause-again g c = λ can apart patience silence pause active holds long_pause enough plant at.
    anywhere_again g.F.Flash c.args.identity.now silence c.stations_are_real.ensures.device (record {
      real_time = c.frames_are_read.ensures.real_time;
      responses = c.responses_are_heard.ensures.controller;
      ready = c.ready_calls_are_heard.ensures.controller;
      ready_can = c.calls_can_be_sent.ensures.ready;
      plug = c.plug_calls_are_heard.ensures.controller;
      plug_can = c.plug_calls_are_heard.ensures.sent;
    }) (laws_of g c) active c.args.setup.now c.args.starts.now (record {
      laws = c.all_starts_hold.ensures.first;
      can = can;
      patience = patience;
      holds = holds;
    }) c.all_starts_hold.ensures.later apart pause long_pause enough plant at

pub returns-clause-powered : goal.returns-clause-powered
returns-clause-powered g c = λ silence plant device at given stored is.
    among_again g.F.Flash c.args.setup.now c.args.identity.now silence plant device given stored is c.args.starts.now at
