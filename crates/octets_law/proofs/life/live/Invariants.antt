-- The cycles so far.
use Rattle.std.proofs.Common.{map, take}
use Rattle.pn_values.specs.Settings.{factory_settings}
use Rattle.device_core.specs.State.{station_named}
use Rattle.octets_law.specs.Turns.{HasLived, IsReady}
use Rattle.octets_law.proofs.life.live.Given as goal

abbrev pub invariant-loop-events : goal.invariant-loop-events
invariant-loop-events g l =
    let station = station_named (g.T.Product.identity_of l.product) (g.T.Product.real_of l.product) l.options (g.T.Product.named_of l.product) in
    IsReady g.F.Flash station factory_settings l.initial.device
    → HasLived g.F.Flash station (map (λ events. events.items) (take l.events-index l.cycles)) (g.W.Witness.told l.initial.witness)
    (g.W.Witness.told l.witness) l.device
