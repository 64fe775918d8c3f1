use Rattle.std.proofs.Common.{◌⊎◌, inl, inr, List, ap, map, subst, ◌∙◌}
use Rattle.records.specs.declared.writes.taken.TakenRecord.{TakenRecord}
use Rattle.device_core.specs.State.{Station}
use Rattle.end_laws.specs.both.Steps.{IsPart, records_of}
use Rattle.end_laws.specs.both.StartUp.{WasHanded}
use Rattle.relations.specs.declared.phase.Phase.{Phase}
use Rattle.both_ends.specs.startup.request.Request.{request_for}
use Rattle.controller_messages.specs.declared.setup.Setup.{Setup}
use Rattle.end_laws.specs.device.Small.{link_of, phase_in}
use Rattle.both_ends.specs.startup.View.{rules_of, taken_for, view_of}
use Rattle.both_ends.specs.startup.Played.{viewed}
use Rattle.both_ends.proofs.StartupGiven.{GoesSo, HeardSo}
use Rattle.both_ends.proofs.StartupLists.{are_the_plans}
use Rattle.both_ends.proofs.StartupKnown.{meant_is, next_is, run_is, starts_small}
use Rattle.both_ends.proofs.StartupRuns.{exchanges_small, is_run, related_small}
use Rattle.both_ends.proofs.startup.start_up.worlds_start_up.Goals as goal

-- the laws of the crates below
heard_so : (g : _) → goal.After-start_up_is_kept g → HeardSo
heard_so g c = record {
  sound = c.formats_are_sound.ensures.layers;
  unreported = c.datagrams_alone_are_calls.ensures.device;
  uncalled = c.datagrams_alone_are_calls.ensures.controller;
  packet_at_controller = c.packets_are_heard.ensures.controller;
  packet_at_device = c.packets_are_heard.ensures.device;
  call_can = c.calls_can_be_sent.ensures.call;
  record_can = c.calls_can_be_sent.ensures.record_call;
  plug_call_can = c.calls_can_be_sent.ensures.plug_call;
  ready_can = c.calls_can_be_sent.ensures.ready;
  call_at_device = c.calls_are_heard.ensures.device;
  call_at_controller = c.calls_are_heard.ensures.controller;
  response_at_controller = c.responses_are_heard.ensures.controller;
  response_at_device = c.responses_are_heard.ensures.device;
  ready_at_controller = c.ready_calls_are_heard.ensures.controller;
  ready_at_device = c.ready_calls_are_heard.ensures.device;
  plug_can = c.plug_calls_are_heard.ensures.sent;
  plug_at_controller = c.plug_calls_are_heard.ensures.controller;
  plug_at_device = c.plug_calls_are_heard.ensures.device;
  plug_other = c.plug_calls_are_heard.ensures.other;
  agreed_at_device = c.ready_answers_are_heard.ensures.device;
  agreed_at_controller = c.ready_answers_are_heard.ensures.controller;
  block_read = c.blocks_are_read.ensures.read;
  block_long = c.blocks_are_read.ensures.long;
}

goes_so : (g : _) → goal.After-start_up_is_kept g → GoesSo
goes_so g c = record {
  aimed_first = c.messages_are_addressed.ensures.first;
  aimed = c.messages_are_addressed.ensures.next;
  begins = c.controller_goes_on.ensures.begins;
  controller_on = c.controller_goes_on.ensures.goes_on;
  frames_are = c.frames_are_messages.ensures;
  device_on = c.device_goes_on.ensures;
  orderly = λ rules activity outcomes station live heard planned. (c.device_turns.ensures.turn rules activity outcomes station live heard planned).orderly;
  asked = λ rules activity outcomes station live heard planned. (c.device_turns.ensures.turn rules activity outcomes station live heard planned).asked;
  owed = c.device_sends_what_it_owes.ensures;
  relation = c.start_up_is_kept.ensures.relation;
}

pub returns-clause-run : goal.returns-clause-run
returns-clause-run g c = λ before after moves played. is_run g.F.Flash before moves after played

pub returns-clause-records : goal.returns-clause-records
returns-clause-records g c = λ station. are_the_plans c.args.setup.now station

pub returns-clause-meant : goal.returns-clause-meant
returns-clause-meant g c = λ can first run begins made.
    meant_is (heard_so g c) (goes_so g c) c.args.setup.now c.args.identity.now c.stations_are_real.ensures.setup c.stations_are_real.ensures.device can
    c.plan_is_placed.ensures (c.connect_is_taken.ensures.read can.named) first begins g.F.Flash run made

pub returns-clause-next : goal.returns-clause-next
returns-clause-next g c = λ can first run begins made one.
    next_is (heard_so g c) (goes_so g c) c.args.setup.now c.args.identity.now c.stations_are_real.ensures.setup c.stations_are_real.ensures.device can
    c.plan_is_placed.ensures (c.connect_is_taken.ensures.read can.named) first begins g.F.Flash run made one

pub returns-clause-controller : goal.returns-clause-controller
returns-clause-controller g c = λ can first run begins made exchanges.
    let so = heard_so g c in
    let goes = goes_so g c in
    let setup = c.args.setup.now in
    let identity = c.args.identity.now in
    let good = c.stations_are_real.ensures.setup in
    let real = c.stations_are_real.ensures.device in
    let placed = c.plan_is_placed.ensures in
    let connect = c.connect_is_taken.ensures.read can.named in
    c.start_up_is_kept.ensures.controller (rules_of first.controller.setup first.device.station) (view_of first) (viewed run)
    (starts_small so goes setup identity good real can placed connect first begins)
    (run_is so goes setup identity good real can placed connect first begins g.F.Flash run made)
    (exchanges_small first run exchanges)

-- some of the records of a start-up are some of the plan's
part_planned : {H : Type 0} (setup : Setup) (station : Station) (taken : List TakenRecord) → IsPart taken (records_of (rules_of setup station)) ⊎ H
    → IsPart taken (map taken_for setup.plan.records.items) ⊎ H
part_planned setup station taken (inl part) = inl (subst (λ (records : List TakenRecord). IsPart taken records) (are_the_plans setup station) part)
part_planned setup station taken (inr handed) = inr handed

pub returns-clause-part : goal.returns-clause-part
returns-clause-part g c = λ can first run begins made link is.
    let so = heard_so g c in
    let goes = goes_so g c in
    let setup = c.args.setup.now in
    let identity = c.args.identity.now in
    let good = c.stations_are_real.ensures.setup in
    let real = c.stations_are_real.ensures.device in
    let placed = c.plan_is_placed.ensures in
    let connect = c.connect_is_taken.ensures.read can.named in
    let rules = rules_of first.controller.setup first.device.station in
    let small = c.start_up_is_kept.ensures.part rules (view_of first) (viewed run)
    (starts_small so goes setup identity good real can placed connect first begins)
    (run_is so goes setup identity good real can placed connect first begins g.F.Flash run made)
    (link_of link) (related_small first run link is) in
    subst (λ (s : Setup). IsPart link.taken (map taken_for s.plan.records.items) ⊎ WasHanded rules (view_of first) (viewed run)) begins.of_setup
    (part_planned first.controller.setup first.device.station link.taken small)

pub returns-clause-device : goal.returns-clause-device
returns-clause-device g c = λ can first run begins made link is exchanges.
    let so = heard_so g c in
    let goes = goes_so g c in
    let setup = c.args.setup.now in
    let identity = c.args.identity.now in
    let good = c.stations_are_real.ensures.setup in
    let real = c.stations_are_real.ensures.device in
    let placed = c.plan_is_placed.ensures in
    let connect = c.connect_is_taken.ensures.read can.named in
    c.start_up_is_kept.ensures.device (rules_of first.controller.setup first.device.station) (view_of first) (viewed run)
    (starts_small so goes setup identity good real can placed connect first begins)
    (run_is so goes setup identity good real can placed connect first begins g.F.Flash run made)
    (link_of link) (related_small first run link is) (ap (λ (p : Phase). phase_in p) exchanges)

pub returns-clause-relation : goal.returns-clause-relation
returns-clause-relation g c = λ can first run begins made link is.
    let so = heard_so g c in
    let goes = goes_so g c in
    let setup = c.args.setup.now in
    let identity = c.args.identity.now in
    let good = c.stations_are_real.ensures.setup in
    let real = c.stations_are_real.ensures.device in
    let placed = c.plan_is_placed.ensures in
    let connect = c.connect_is_taken.ensures.read can.named in
    c.start_up_is_kept.ensures.relation (rules_of first.controller.setup first.device.station) (view_of first) (viewed run)
    (starts_small so goes setup identity good real can placed connect first begins)
    (run_is so goes setup identity good real can placed connect first begins g.F.Flash run made)
    (link_of link) (related_small first run link is)
    ∙ ap (λ (s : Setup). request_for s.plan s.ar) begins.of_setup
