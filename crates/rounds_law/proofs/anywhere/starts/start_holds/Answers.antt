-- By the laws of both ends.
use Rattle.std.proofs.Common.{◌≡◌, true, subst}
use Rattle.std.specs.Prelude.{None}
use Rattle.pn_values.specs.IpSuite.{is_suite}
use Rattle.plans.specs.declared.parts.Station.{Station as Plan}
use Rattle.controller_core.specs.declared.stored.state.Cause.TheVariants.{Refused}
use Rattle.rounds_law.proofs.anywhere.starts.start_holds.Goals as goal

pub returns : goal.returns
returns g c = record {
  real = c.stations_are_real.ensures.setup;
  whole = c.connect_answers_are_whole.ensures;
  same = c.connect_is_taken.ensures.same;
  own = c.connect_is_taken.ensures.own;
  placed = c.plan_is_placed.ensures;
  suite = subst (λ (s : Plan). is_suite s.suite ≡ true) c.station-station.ensures.value c.suite_is_valid.ensures;
  device_found = c.device_answers_the_search.ensures.found;
  controller_found = c.controller_finds_its_device.ensures.found;
  controller_unit = λ controller phase request spare limited asks.
      (c.controller_goes_on_in_time.ensures.unit controller phase request None spare limited asks).1;
  controller_unsent = c.controller_goes_on_in_time.ensures.unsent;
  device_refused = c.device_refuses_each_start.ensures.connect;
  device_unset = c.device_refuses_each_start.ensures.address;
  controller_refused = c.controller_ends_refused.ensures.denied;
  controller_unset = c.controller_ends_refused.ensures.unset;
  controller_ended = c.controller_ends_refused.ensures.unit Refused;
  controller_releasing = c.controller_ends_halfway.ensures.releasing Refused;
  addressing = c.both_ends_start.ensures.addressing;
  connecting = c.both_ends_start.ensures.connecting;
}
