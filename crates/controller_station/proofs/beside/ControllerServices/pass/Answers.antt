-- Ticks of both.
use Rattle.std.proofs.Common.{◌+◌, ◌≤◌, sym, ap, subst, ◌∙◌}
use Rattle.services.specs.State as ip
use Rattle.lldp.specs.State as near
use Rattle.controller_station.specs.Beside.{Beside, NoneSends, due_in, ticks_of}
use Rattle.controller_station.proofs.Nearer.{ticks_nearer}
use Rattle.controller_station.proofs.Ticks.{none_sends, ticks_of_both}
use Rattle.controller_station.proofs.beside.ControllerServices.pass.Goals as goal

pub returns-clause-state : goal.returns-clause-state
returns-clause-state c =
    let all = c.self.inside in
    let here : Beside = record { ip = all.ip; near = all.near; name = all.name } in
    let with : ip.State → near.State → Beside = λ s n. record here { ip = s; near = n } in
    ap (λ (s : ip.State). with s c.pass-2.new.self) c.pass.ensures.state
    ∙ (ap (with _) c.pass-2.ensures.state
    ∙ (sym (ticks_of_both c.args.ticks here) ∙ ap (ticks_of c.args.ticks) c.self.view_is))

pub returns-clause-none : goal.returns-clause-none
returns-clause-none c =
    let all = c.self.inside in
    let here : Beside = record { ip = all.ip; near = all.near; name = all.name } in
    subst (NoneSends c.args.ticks) c.self.view_is (none_sends c.args.ticks here c.pass.ensures.none c.pass-2.ensures.none)

pub returns-clause-due : goal.returns-clause-due
returns-clause-due c =
    subst (λ (new : Beside). due_in c.args.self.now ≤ c.args.ticks + due_in new) (sym (returns-clause-state c)) (ticks_nearer c.args.ticks c.args.self.now)
