-- The marks change, and the IOPS is by the new mark.
use Rattle.std.proofs.Common.{refl}
use Rattle.relations.proofs.ExchangeNoneAwaited.{changed_await}
use Rattle.relations.proofs.exchange.data_exchange.DataExchange.remark.Goals as goal

pub returns : goal.returns
returns c = rw (← c.self.view_is, c.state.ensures, c.iops_in-iops.ensures, c.as_slice.ensures.value, c.change.ensures) refl

pub invariant_of-self : goal.invariant_of-self
invariant_of-self c =
    changed_await c.self.inside.may_await c.args.slot c.args.subslot c.args.status c.self.inside.marks.items c.change.new.marks.items c.change.ensures c.self.invariant
