-- Whether a first input may be awaited.
use Rattle.std.proofs.Common.{List, ap, ◌∙◌}
use Rattle.relations.specs.declared.exchange.marks.Mark.{Mark}
use Rattle.relations.specs.exchange.Modules.{renewed_marks}
use Rattle.relations.proofs.ExchangeNoneAwaited.{renewed_there}
use Rattle.relations.proofs.exchange.data_exchange.DataExchange.renew.Goals as goal

pub invariant_of-self : goal.invariant_of-self
invariant_of-self c =
    let is = c.renew.ensures ∙ ap (λ (xs : List Mark). renewed_marks c.args.affected c.args.begin_bad xs) c.as_mut_slice.ensures.value in
    renewed_there c.self.inside.may_await c.either-self-inside.result c.args.affected c.args.begin_bad c.self.inside.marks c.renew.new.marks c.either-self-inside.ensures is c.self.invariant
