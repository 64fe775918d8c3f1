-- One cycle.
use Rattle.std.proofs.Common.{◌≡◌, IfOk, sym, ap, subst, ◌∙◌}
use Rattle.settings_journal.specs.Image.{LeftByDevice}
use Rattle.device_core.specs.State.{station_named}
use Rattle.octets_law.proofs.Lived.{lives_if, same_station}
use Rattle.octets_law.proofs.life.live_once.Goals as goal

pub returns-clause-lives : goal.returns-clause-lives
returns-clause-lives g c = λ first ready.
    let product = c.args.product.now in
    let station = station_named (g.T.Product.identity_of product) (g.T.Product.real_of product) c.args.options (g.T.Product.named_of product) in
    let same = c.requires.keeps _ _ c.power_up-flash.ensures ∙ ap g.F.Flash.image c.into_flash.ensures in
    lives_if g.F.Flash station c.args.device c.turn_all.new.device c.power_up-flash.result first c.args.events.now _ _ c.boot_named.result ready c.turn_all.ensures same
    (subst (λ s. IfOk c.boot_named.result (λ device. device.station ≡ s))
    (same_station _ _ _ _ c.args.options _ _ c.identity.ensures c.real.ensures c.named.ensures) c.boot_named.ensures.station)
    (rw c.real.ensures at c.boot_named.ensures.known) c.boot_named.ensures.same

pub returns-clause-left : goal.returns-clause-left
returns-clause-left g c = λ left.
    let same = c.requires.keeps _ _ c.power_up-flash.ensures ∙ ap g.F.Flash.image c.into_flash.ensures in
    c.boot_named.ensures.left (subst LeftByDevice (sym same) (c.turn_all.ensures.stretch.safe.left left))
