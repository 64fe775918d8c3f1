-- One cycle after another.
use Rattle.std.proofs.Common.{◌≡◌, ◌+◌, ◌++◌, ◌∷◌, [], map, take, sym, ap, subst, ◌∙◌}
use Rattle.std.proofs.lemmas.List.{take_more, take_all}
use Rattle.std.proofs.lemmas.Result.{err_from_is_err_and}
use Rattle.device_core.specs.State.{station_named}
use Rattle.octets_law.specs.Turns.{HasLived, Lives}
use Rattle.octets_law.proofs.Lived.{is_life, lived_more, map_more, no_life, ready_blank, same_station}
use Rattle.octets_law.proofs.life.live.Goals as goal

pub loop-events-init : goal.loop-events-init
loop-events-init g c = λ ready. no_life g.F.Flash _ c.in_ok-device.device _ ready

pub loop-events-preserved : goal.loop-events-preserved
loop-events-preserved g c = λ ready.
    let cycles = c.args.cycles.now in
    let so_far = c.loop-events.events-index in
    let product = c.args.product.now in
    let station = station_named (g.T.Product.identity_of product) (g.T.Product.real_of product) c.args.options (g.T.Product.named_of product) in
    let more : take (so_far + 1) cycles ≡ take so_far cycles ++ c.events-item.result ∷ [] =
    take_more cycles so_far c.events-item.result c.loop-events-test.true ∙ ap (λ e. take so_far cycles ++ e ∷ []) (sym c.events-item.is) in
    let lived = c.loop-events.invariant ready in
    subst (λ l. HasLived g.F.Flash station l (g.W.Witness.told c.args.witness.now) (g.W.Witness.told c.live_once.new.witness) c.in_ok-device-2.device) (sym (ap (map (λ events. events.items)) more ∙ map_more (λ events. events.items) (take so_far cycles) c.events-item.result))
    (lived_more g.F.Flash station (map (λ events. events.items) (take so_far cycles)) c.events-item.result.items _ _ _ c.loop-events.device c.in_ok-device-2.device lived
    (subst (λ events. Lives g.F.Flash station lived.settings events (g.W.Witness.told c.loop-events.witness) (g.W.Witness.told c.live_once.new.witness) c.in_ok-device-2.device)
    c.as_slice.ensures.value (c.in_ok-device-2.ensures.lives lived.settings lived.ready)))

pub returns-in_err-device-2-clause-left : goal.returns-in_err-device-2-clause-left
returns-in_err-device-2-clause-left g c = λ blank.
    let p = err_from_is_err_and c.from_residual-in_err-device-2.result c.from_residual-in_err-device-2.ensures.1 in
    let product = c.args.product.now in
    let here = c.in_ok-device.ensures in
    let station = station_named (g.T.Product.identity_of product) (g.T.Product.real_of product) c.args.options (g.T.Product.named_of product) in
    let ready = ready_blank g.F.Flash _ station c.in_ok-device.device (g.F.Flash.image c.args.flash) _
    here.station (same_station _ _ _ _ c.args.options _ _ c.identity.ensures c.real.ensures c.named.ensures)
    (here.blank blank) (rw c.real.ensures at here.known) here.same in
    rw (p.1, p.2) (c.in_err-device-2.ensures.left (c.loop-events.invariant ready).ready.left)

pub returns-clause-octets : goal.returns-clause-octets
returns-clause-octets g c = λ blank.
    let product = c.args.product.now in
    let here = c.in_ok-device.ensures in
    let station = station_named (g.T.Product.identity_of product) (g.T.Product.real_of product) c.args.options (g.T.Product.named_of product) in
    let ready = ready_blank g.F.Flash _ station c.in_ok-device.device (g.F.Flash.image c.args.flash) _
    here.station (same_station _ _ _ _ c.args.options _ _ c.identity.ensures c.real.ensures c.named.ensures)
    (here.blank blank) (rw c.real.ensures at here.known) here.same in
    is_life g.F.Flash station _ _ _ c.loop-events.device
    (subst (λ l. HasLived g.F.Flash station (map (λ events. events.items) l) (g.W.Witness.told c.args.witness.now)
    (g.W.Witness.told c.loop-events.witness) c.loop-events.device)
    (take_all c.loop-events.events-index c.args.cycles.now c.loop-events-test.false) (c.loop-events.invariant ready))
