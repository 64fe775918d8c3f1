-- What the counts allow.
use Rattle.std.proofs.Common.{◌∙◌}
use Rattle.device_core.specs.State.{station_named as with_names}
use Rattle.device_abi.proofs.Counts.{station_named, station_small}
use Rattle.device_abi.proofs.c_station.port_of.Goals as goal

pub identity_in-requires : goal.identity_in-requires
identity_in-requires c = (station_small c.args.station.now c.requires).station_type

pub real_in-requires-clause-few : goal.real_in-requires-clause-few
real_in-requires-clause-few c = (station_small c.args.station.now c.requires).modules

pub real_in-requires-clause-small : goal.real_in-requires-clause-small
real_in-requires-clause-small c = (station_small c.args.station.now c.requires).counted

pub named_in-requires-clause-few : goal.named_in-requires-clause-few
named_in-requires-clause-few c = (station_small c.args.station.now c.requires).records

pub named_in-requires-clause-named : goal.named_in-requires-clause-named
named_in-requires-clause-named c = station_named c.args.station.now c.requires

pub returns : goal.returns
returns c = record {
  station = c.new.ensures.station ∙ (λ i. with_names (c.identity_in.ensures i) (c.real_in.ensures i) (c.options_in.ensures i) (c.named_in.ensures i));
  stage = c.new.ensures.stage;
  fetched = c.new.ensures.fetched;
  serves = c.new.ensures.serves;
  services = c.new.ensures.services;
}
