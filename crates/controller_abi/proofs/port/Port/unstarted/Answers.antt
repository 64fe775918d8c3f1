-- A controller that was not started; nothing is remembered of what is due.
use Rattle.std.proofs.Common.{refl, ap, inl}
use Rattle.controller_station.specs.Served.{in_order}
use Rattle.controller_abi.proofs.port.Port.unstarted.Goals as goal

pub returns : goal.returns
returns c = record {
  setup = c.unstarted.ensures.setup;
  live = c.unstarted.ensures.live;
  closed = c.unstarted.ensures.closed;
  services = c.unstarted.ensures.services;
  frames = ap in_order c.new.ensures;
  waits = refl;
}

pub invariant_of-result : goal.invariant_of-result
invariant_of-result c = inl refl
