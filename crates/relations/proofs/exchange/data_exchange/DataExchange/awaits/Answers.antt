-- No first input is awaited.
use Rattle.std.proofs.Common.{sym}
use Rattle.relations.proofs.ExchangeNoneAwaited.{none_awaits}
use Rattle.relations.proofs.exchange.data_exchange.DataExchange.awaits.Goals as goal

pub returns-then-not-self : goal.returns-then-not-self
returns-then-not-self c = rw (← c.self.view_is) (sym (none_awaits c.args.slot c.args.subslot c.self.inside.marks.items (c.self.invariant c.if-not-self.true)))
