use Rattle.std.proofs.Common.{sym, ap, subst, ◌∙◌}
use Rattle.services.specs.State as ip
use Rattle.services.specs.Leaps as ip_leaps
use Rattle.lldp.specs.State as near
use Rattle.lldp.specs.Leaps as near_leaps
use Rattle.rpc_services.specs.pieces.State as calls
use Rattle.device_station.specs.Serving.{NoNews, NoneSends, Serving, serving_ticks}
use Rattle.device_station.proofs.ServingTicks.{no_news, none_sends, ticks_of_all}
use Rattle.device_station.proofs.device_services.DeviceServices.pass.Goals as goal

pub returns-clause-state : goal.returns-clause-state
returns-clause-state c =
    let all = c.self.inside in
    let here : Serving = record { ip = all.ip; near = all.near; name = all.name; is_up = all.is_up; link = all.link; has_news = all.has_news; pieces = all.pieces } in
    let with : ip.State → near.State → calls.State → Serving = λ s n p. record here { ip = s; near = n; pieces = p } in
    let one = ip_leaps.ticks_of c.args.ticks all.ip in
    let two = near_leaps.ticks_of c.args.ticks all.near in
    ap (λ (s : ip.State). with s c.pass-2.new.self c.elapse.new.self) c.pass.ensures.state
    ∙ (ap (λ (n : near.State). with one n c.elapse.new.self) c.pass-2.ensures.state
    ∙ (ap (λ (p : calls.State). with one two p) c.elapse.ensures.state
    ∙ (sym (ticks_of_all c.args.ticks here c.pass-2.ensures.none) ∙ ap (serving_ticks c.args.ticks) c.self.view_is)))

pub returns-clause-none : goal.returns-clause-none
returns-clause-none c =
    let all = c.self.inside in
    let here : Serving = record { ip = all.ip; near = all.near; name = all.name; is_up = all.is_up; link = all.link; has_news = all.has_news; pieces = all.pieces } in
    subst (NoneSends c.args.ticks) c.self.view_is (none_sends c.args.ticks here c.pass.ensures.none c.pass-2.ensures.none)

pub returns-clause-same : goal.returns-clause-same
returns-clause-same c =
    let all = c.self.inside in
    let here : Serving = record { ip = all.ip; near = all.near; name = all.name; is_up = all.is_up; link = all.link; has_news = all.has_news; pieces = all.pieces } in
    subst (NoNews c.args.ticks) c.self.view_is (no_news c.args.ticks here c.pass-2.ensures.none)
