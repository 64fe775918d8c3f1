-- Whether a first input may be awaited.
use Rattle.std.proofs.Common.{List, ap, ◌∙◌}
use Rattle.relations.specs.declared.exchange.marks.Mark.{Mark}
use Rattle.relations.specs.exchange.Modules.{restated_marks}
use Rattle.relations.proofs.ExchangeNoneAwaited.{restated_there}
use Rattle.relations.proofs.exchange.data_exchange.DataExchange.restate.Goals as goal

pub invariant_of-self : goal.invariant_of-self
invariant_of-self c =
    let is = c.restate.ensures ∙ ap (λ (xs : List Mark). restated_marks c.args.plugs.now xs) c.as_mut_slice.ensures.value in
    restated_there c.self.inside.may_await c.args.plugs.now c.self.inside.marks c.restate.new.marks is c.self.invariant
