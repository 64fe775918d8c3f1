-- An input that is given while the first one is awaited.
use Rattle.std.proofs.Common.{◌≡◌, true, is_some, sym, ◌∙◌}
use Rattle.cyclic_data.specs.exchange.Process.{given_at as cyclic_given}
use Rattle.relations.specs.exchange.Flow.{Flow}
use Rattle.relations.specs.exchange.Marks.{awaits}
use Rattle.relations.proofs.ExchangeAwaited.{given_first}
use Rattle.relations.proofs.exchange.data_exchange.DataExchange.give.Goals as goal

pub returns-then-awaits-clause-state : goal.returns-then-awaits-clause-state
returns-then-awaits-clause-state c =
    let flow : Flow = record { cyclic = c.self.inside.cyclic; alarms = c.self.inside.alarms; low = c.self.inside.low; marks = c.self.inside.marks.items; is_running = c.self.inside.is_running; state_sent = c.self.inside.state_sent; endpoint = c.self.inside.endpoint } in
    let given = cyclic_given flow.cyclic c.args.slot c.args.subslot c.args.value.now in
    let is : is_some given ≡ true = sym c.give.ensures.done ∙ c.if-not-give.false in
    let first : awaits c.args.slot c.args.subslot flow.marks ≡ true = sym c.awaits.ensures ∙ c.if-awaits.true in
    rw (← c.self.view_is, c.remark.ensures, c.give.ensures.state) (given_first flow c.args.slot c.args.subslot given is first)
