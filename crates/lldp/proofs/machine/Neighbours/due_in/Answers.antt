-- By the closed form.
use Rattle.std.proofs.Common.{◌≡◌, ◌-◌, true, ℕ, sym, ap, subst, ◌∙◌}
use Rattle.std.specs.Prelude.{max}
use Rattle.lldp.specs.State.{State}
use Rattle.lldp.specs.Leaps.{acts, due_in, sooner, ticks_of}
use Rattle.lldp.proofs.Leaping.{due_acts}
use Rattle.lldp.proofs.machine.Neighbours.due_in.Goals as goal

pub returns-clause-next : goal.returns-clause-next
returns-clause-next c =
    let state = c.args.self.now in
    let is : c.sooner.result ≡ due_in state = c.sooner.ensures.value ∙ ap (sooner state.known) (c.max.ensures ∙ ap (λ (s : State). max s.next 1) c.self.view_is) in
    subst (λ (n : ℕ). acts (ticks_of (n - 1) state) ≡ true) (sym is) (due_acts state)
