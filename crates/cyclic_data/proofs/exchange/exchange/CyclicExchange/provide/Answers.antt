-- Data and status are both those of the cell.
use Rattle.std.proofs.Common.{◌≡◌, true, length, refl, sym, ◌∙◌}
use Rattle.cyclic_data.specs.declared.place.PlaceKind.TheVariants.{Data}
use Rattle.cyclic_data.specs.Image.{cell_at, has_size}
use Rattle.cyclic_data.proofs.ExchangeProvided.{provided}
use Rattle.cyclic_data.proofs.exchange.exchange.CyclicExchange.provide.Goals as goal

pub returns-clause-state : goal.returns-clause-state
returns-clause-state c =
    let is_done : c.put.result ≡ true = c.if-not-put.false in
    let fits : has_size (length c.args.value.now) (cell_at Data c.args.slot c.args.subslot c.self.inside.sent.cells) ≡ true = sym c.put.ensures.done ∙ is_done in
    let set = provided c.args.slot c.args.subslot c.args.value.now c.self.inside.sent c.put.new.self c.set_status.new.self c.put.result c.set_status.result
    is_done c.put.ensures.state c.set_status.ensures.done c.set_status.ensures.state in
    rw (← c.self.view_is, fits, set) refl
