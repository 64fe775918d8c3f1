-- This follows from the laws of both ends, for the world that was begun.
use Rattle.std.proofs.Common.{subst}
use Rattle.pn_values.specs.declared.real.Real.{Real}
use Rattle.both_ends.specs.exchange.Sized.{AreSizedModules}
use Rattle.both_ends.proofs.ExchangeBoth.{Laws, cut_so, on_bad, on_good, played_so}
use Rattle.both_ends.proofs.exchange.together.play_both_ends.Goals as goal

laws : (g : _) → (c : goal.After-play-played g) → Laws g.F.Flash c.args.setup c.args.identity.now
laws g c = record {
  run = c.worlds_start_up.ensures.run;
  handed = c.worlds_start_up.ensures.controller;
  exchanging = c.worlds_start_up.ensures.device;
  relation = c.worlds_start_up.ensures.relation;
  zeros = c.worlds_show_what_is_given.ensures.zeros;
  values = c.worlds_show_what_is_given.ensures.values;
  front = c.worlds_take_alarms.ensures.front;
  lacks = c.worlds_take_alarms.ensures.last;
  shown = c.worlds_take_alarms.ensures.shown;
  alarm = c.worlds_take_alarms.ensures.alarm;
  reports = c.worlds_take_alarms.ensures.reports;
  reported_last = c.worlds_take_alarms.ensures.reported_last;
  told = c.worlds_take_alarms.ensures.told;
  list = c.worlds_take_alarms.ensures.list;
  known = c.worlds_take_alarms.ensures.known;
  plugged = c.worlds_take_alarms.ensures.plugged;
  station = c.later_worlds_begin.ensures.station;
  unasked = c.later_worlds_begin.ensures.unasked;
  others = c.later_worlds_begin.ensures.others;
}

pub returns-clause-played : goal.returns-clause-played
returns-clause-played g c =
    on_good _ _ c.play-played.result (played_so g.F.Flash c.args.setup c.args.identity.now (laws g c) c.requires.meets c.args.device c.requires.known
    (subst (λ (r : Real). AreSizedModules r.modules.items) c.real.ensures c.modules_are_sized.ensures) c.begin_world-world.result c.begin_world-world.ensures.begins c.begin_world-world.ensures.device
    c.args.moves.now c.play-played.new.self c.moves_are_sized.ensures) c.play-played.ensures.played

pub returns-clause-cut : goal.returns-clause-cut
returns-clause-cut g c =
    on_bad _ _ c.play-played.result (cut_so g.F.Flash c.args.setup c.args.identity.now (laws g c) c.requires.meets c.args.device c.requires.known
    (subst (λ (r : Real). AreSizedModules r.modules.items) c.real.ensures c.modules_are_sized.ensures) c.begin_world-world.result c.begin_world-world.ensures.begins c.begin_world-world.ensures.device
    c.args.moves.now c.play-played.new.self c.moves_are_sized.ensures) c.play-played.ensures.front
