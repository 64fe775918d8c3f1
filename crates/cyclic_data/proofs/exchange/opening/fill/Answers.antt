-- The image of zeros, with its statuses.
use Rattle.std.proofs.Common.{◌∙◌, ap}
use Rattle.cyclic_data.specs.Image.{Shown}
use Rattle.cyclic_data.specs.exchange.Opening.{stated}
use Rattle.cyclic_data.proofs.ExchangeStated.{first_stated}
use Rattle.cyclic_data.proofs.exchange.opening.fill.Goals as goal

pub returns : goal.returns
returns g c =
    c.state.ensures ∙ (ap (λ (shown : Shown). stated (g.S.Statuses.status_of c.args.statuses.now) shown) c.start.ensures
    ∙ first_stated (g.S.Statuses.status_of c.args.statuses.now) c.args.layout.now)
