-- A status that is set, whether or not the place exists.
use Rattle.std.proofs.Common.{refl}
use Rattle.cyclic_data.proofs.ExchangeProvided.{stated}
use Rattle.cyclic_data.proofs.exchange.exchange.CyclicExchange.state.Goals as goal

pub returns : goal.returns
returns c =
    let set = stated c.args.slot c.args.subslot c.args.iops c.self.inside.sent c.set_status.new.self c.set_status.result c.set_status.ensures.done c.set_status.ensures.state in
    rw (← c.self.view_is, set) refl
