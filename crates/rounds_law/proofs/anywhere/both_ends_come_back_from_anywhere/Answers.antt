-- This follows from the parts of the law, each by the laws of what both ends hear and send.
use Rattle.std.proofs.Common.{◌≡◌, ◌≤◌, ℕ, true, sym, subst}
use Rattle.pn_values.specs.IpSuite.{is_suite}
use Rattle.plans.specs.declared.parts.Parts.{Parts}
use Rattle.plans.specs.declared.parts.Station.{Station as Plan}
use Rattle.both_ends.specs.startup.Played.{ArePlaced}
use Rattle.rounds_law.specs.Again.{AreStarts}
use Rattle.rounds_law.specs.Anywhere.{anywhere_limit}
use Rattle.rounds_law.specs.Path.{hold_of}
use Rattle.rounds_law.specs.Start.{CanStart}
use Rattle.rounds_law.proofs.AnywhereControllerLaws.{ControllerLaws}
use Rattle.rounds_law.proofs.AnywhereControllerSteps.{controller_frame, controller_unit}
use Rattle.rounds_law.proofs.AnywhereDeviceLaw.{DeviceLaws, device_frame, device_unit}
use Rattle.rounds_law.proofs.AnywhereLaw.{any_first, anywhere_leads}
use Rattle.rounds_law.proofs.AnywhereLaws.{AnywhereLaws, on_the_way_all, parted_all}
use Rattle.rounds_law.proofs.AnywhereParts.{IsLong}
use Rattle.rounds_law.proofs.AnywherePower.{anywhere_again}
use Rattle.rounds_law.proofs.AnywhereSameBack.{same_leads}
use Rattle.rounds_law.proofs.AnywhereSameDevice.{SameLaws}
use Rattle.rounds_law.proofs.AnywhereSameRuns.{left_of_start, powered_of_start}
use Rattle.rounds_law.proofs.AnywhereRuns.{left_anywhere}
use Rattle.rounds_law.proofs.anywhere.both_ends_come_back_from_anywhere.Goals as goal

controller_laws : (g : _) (c : goal.After-no_state_outlasts_its_patience g) → ControllerLaws
controller_laws g c = record {
  kinds = c.turns_are_of_a_kind.ensures.event;
  begins = c.controller_goes_on.ensures.begins;
  goes_on = c.controller_goes_on.ensures.goes_on;
  can_answer = c.calls_can_be_sent.ensures.answer;
  can_answer_plug = c.calls_can_be_sent.ensures.plug_answer;
  left = c.no_state_outlasts_its_patience.ensures.left;
  cause = c.ended_is_kept.ensures.cause;
  dropped = c.ended_is_kept.ensures.dropped;
  units = c.ended_is_kept.ensures.units;
}

device_laws : (g : _) (c : goal.After-no_state_outlasts_its_patience g) → DeviceLaws c.args.setup.now c.args.identity.now
device_laws g c = record {
  modules = c.only_pulls_and_plugs_change_modules.ensures;
  hears = record {
    identify = c.requests_are_heard.ensures.identify;
    address = c.requests_are_heard.ensures.address;
    call_can = c.calls_can_be_sent.ensures.call;
    plug_can = c.calls_can_be_sent.ensures.plug_call;
    call = c.calls_are_heard.ensures.device;
    answer = c.ready_answers_are_heard.ensures.device;
    real_time = c.frames_are_read.ensures.real_time;
    confirms = c.confirmations_are_heard.ensures.confirms;
    low = c.confirmations_are_heard.ensures.low;
    ack = c.confirmations_are_heard.ensures.ack;
    nack = c.confirmations_are_heard.ensures.nack;
    ends = c.ends_are_heard.ensures.device;
  };
  says = record {
    alone = c.datagrams_alone_are_calls.ensures.controller;
    response = c.responses_are_heard.ensures.controller;
    ready = c.ready_calls_are_heard.ensures.controller;
    ready_can = c.calls_can_be_sent.ensures.ready;
    plug = c.plug_calls_are_heard.ensures.controller;
    plug_can = c.plug_calls_are_heard.ensures.sent;
  };
  negative = c.refusals_are_not_done.ensures;
  whole = c.connect_answers_are_whole.ensures;
  same = c.connect_is_taken.ensures.same;
  own = c.connect_is_taken.ensures.own;
  block_read = c.blocks_are_read.ensures.read;
  block_alone = c.blocks_are_read.ensures.alone;
  block_long = c.blocks_are_read.ensures.long;
  placed = c.plan_is_placed.ensures;
  suite = subst (λ (s : Plan). is_suite s.suite ≡ true) c.station-station.ensures.value c.suite_is_valid.ensures;
}

laws_of : (g : _) (c : goal.After-no_state_outlasts_its_patience g) → AnywhereLaws c.args.setup.now c.args.identity.now
laws_of g c =
    let setup = c.args.setup.now in
    let real = c.stations_are_real.ensures.setup in
    record {
      controller = controller_laws g c;
      device = device_laws g c;
      reads = record { real_time = c.frames_are_read.ensures.real_time; udp = c.frames_are_read.ensures.udp };
      answers = record { responses = c.responses_are_heard.ensures.controller };
      calls = record {
        can = λ request. c.calls_can_be_sent.ensures.call setup request real;
        heard = λ identity to call. c.calls_are_heard.ensures.device identity setup to call real;
      };
      exchange = record {
        agrees = λ identity caller answer. c.ready_answers_are_heard.ensures.device identity setup caller answer real;
        cycles = c.inputs_are_heard.ensures.device;
        confirms = λ identity route header ack. c.confirmations_are_heard.ensures.confirms identity setup route header ack real;
        confirms_low = λ identity route header ack. c.confirmations_are_heard.ensures.low identity setup route header ack real;
        acks = λ identity route priority header. c.confirmations_are_heard.ensures.ack identity setup route priority header real;
        nacks = λ identity route priority header. c.confirmations_are_heard.ensures.nack identity setup route priority header real;
        ends = λ identity route header reason. c.ends_are_heard.ensures.device identity setup route header reason real;
      };
      short = c.type_is_short.ensures;
      identify = c.answers_are_heard.ensures.identify;
    }

long_of : (g : _) (c : goal.After-no_state_outlasts_its_patience g) (silence : ℕ) → CanStart c.args.setup.now c.args.identity.now
    → CanStart c.args.next.now c.args.identity.now → AreStarts c.args.setup.now c.args.next.now → 1920000 ≤ silence → hold_of c.args.setup.now.plan ≤ silence
    → IsLong g.F.Flash c.args.setup.now c.args.next.now c.args.identity.now silence
long_of g c silence can can_next starts active holds = record {
  can = can;
  can_next = can_next;
  starts = starts;
  active = active;
  holds = holds;
  real = c.stations_are_real.ensures.setup;
  real_next = c.stations_are_real-2.ensures.setup;
  of_device = c.stations_are_real.ensures.device;
}

pub returns-clause-anywhere : goal.returns-clause-anywhere
returns-clause-anywhere g c = λ can can_next starts patience silence pause active holds enough plant at.
    let long = long_of g c silence can can_next starts active holds in
    anywhere_leads g.F.Flash c.args.setup.now c.args.next.now c.args.identity.now silence pause
    (parted_all g.F.Flash c.args.setup.now c.args.next.now c.args.identity.now silence (laws_of g c) long (c.both_ends_start.ensures.looking can_next))
    (on_the_way_all g.F.Flash c.args.setup.now c.args.next.now c.args.identity.now silence (laws_of g c) long (λ plant. Unit {0})) long patience enough plant at

next_device_laws : (g : _) (c : goal.After-no_state_outlasts_its_patience g) → AreStarts c.args.setup.now c.args.next.now
    → DeviceLaws c.args.next.now c.args.identity.now
next_device_laws g c starts =
    let laws = device_laws g c in
    record {
      modules = laws.modules;
      hears = laws.hears;
      says = laws.says;
      negative = laws.negative;
      whole = c.connect_answers_are_whole-2.ensures;
      same = c.connect_is_taken-2.ensures.same;
      own = c.connect_is_taken-2.ensures.own;
      block_read = laws.block_read;
      block_alone = laws.block_alone;
      block_long = laws.block_long;
      placed = subst (λ (p : Parts). ArePlaced p.records.items) (sym starts.plan) laws.placed;
      suite = subst (λ (p : Parts). is_suite p.station.suite ≡ true) (sym starts.plan) laws.suite;
    }

same_laws : (g : _) (c : goal.After-no_state_outlasts_its_patience g) → SameLaws c.args.setup.now c.args.identity.now
same_laws g c = record {
  device = device_laws g c;
  packets = c.packets_are_heard.ensures.controller;
  read = c.connect_is_taken.ensures.read;
  turns = c.device_turns.ensures.turn;
  controller = controller_laws g c;
}

next_laws : (g : _) (c : goal.After-no_state_outlasts_its_patience g) → AreStarts c.args.setup.now c.args.next.now
    → SameLaws c.args.next.now c.args.identity.now
next_laws g c starts = record {
  device = next_device_laws g c starts;
  packets = c.packets_are_heard.ensures.controller;
  read = c.connect_is_taken-2.ensures.read;
  turns = c.device_turns.ensures.turn;
  controller = controller_laws g c;
}

pub returns-clause-same : goal.returns-clause-same
returns-clause-same g c = λ can can_next starts patience silence pause active holds enough plant same at.
    same_leads g.F.Flash c.args.setup.now c.args.next.now c.args.identity.now silence (laws_of g c) (same_laws g c) (next_laws g c starts)
    (c.both_ends_start.ensures.looking can_next) (long_of g c silence can can_next starts active holds) patience pause enough
    (anywhere_limit c.args.setup.now silence pause) plant at same
    (returns-clause-anywhere g c can can_next starts patience silence pause active holds enough plant at)

pub returns-clause-run : goal.returns-clause-run
returns-clause-run g c = λ can can_next starts patience silence pause active holds enough number first last begins run plant left.
    let setup = c.args.setup.now in
    let next = c.args.next.now in
    let long = long_of g c silence can can_next starts active holds in
    returns-clause-same g c can can_next starts patience silence pause active holds enough plant
    (left_of_start g.F.Flash setup next c.args.identity.now silence (same_laws g c) long patience number first last begins run plant left)
    (left_anywhere g.F.Flash setup next c.args.identity.now silence (device_frame g.F.Flash setup next c.args.identity.now silence (device_laws g c))
    (device_unit g.F.Flash setup next c.args.identity.now silence (device_laws g c)) (controller_frame (controller_laws g c) setup)
    (controller_unit (controller_laws g c) setup)
    long patience number first last begins run plant left)

pub returns-clause-first : goal.returns-clause-first
returns-clause-first g c = any_first c.args.setup.now

pub returns-clause-controller : goal.returns-clause-controller
returns-clause-controller g c = λ patience controller any.
    let setup = c.args.setup.now in
    let real = c.stations_are_real.ensures.setup in
    let unit = controller_unit (controller_laws g c) setup real patience controller any in (
      (unit.0, unit.1),
      λ octets fit.
          let step = controller_frame (controller_laws g c) setup real patience controller octets any fit in
          (step.0, step.1),
    )

pub returns-clause-device : goal.returns-clause-device
returns-clause-device g c = λ can can_next starts silence active holds before after frames any.
    let setup = c.args.setup.now in
    let next = c.args.next.now in
    let identity = c.args.identity.now in
    let long = long_of g c silence can can_next starts active holds in (
      λ goes. device_unit g.F.Flash setup next identity silence (device_laws g c) long before after frames goes any,
      λ octets goes own. device_frame g.F.Flash setup next identity silence (device_laws g c) long before after octets frames goes any own,
    )

pub returns-clause-powered : goal.returns-clause-powered
returns-clause-powered g c = λ silence plant device at given stored is. (
  anywhere_again g.F.Flash c.args.setup.now c.args.next.now c.args.identity.now silence plant device at given stored is,
  λ same. powered_of_start g.F.Flash c.args.setup.now plant device same stored is,
)
