-- Units with which nothing is due: no frame waits after them.
use Rattle.std.proofs.Common.{◌≡◌, ◌≤◌, false, sym, subst, arith, inr}
use Rattle.controller_abi.specs.State.{has_frames, is_stopped, port_due_in}
use Rattle.controller_abi.specs.contracts.port.Port.{the_view}
use Rattle.controller_abi.proofs.Leaps.{none_of, ticks_quiet}
use Rattle.controller_abi.proofs.port.Port.rest.Goals as goal

pub skip-requires : goal.skip-requires
skip-requires c =
    let due = subst (λ p. c.args.due ≤ port_due_in p) (sym c.self.view_is) c.requires.due in
    let few = c.requires.few in
    omega (arith, due, few)

pub returns : goal.returns
returns c was_over free =
    let port = c.self.inside in
    let there : is_stopped was_over (the_view port) ≡ false = subst (λ p. is_stopped was_over p ≡ false) (sym c.self.view_is) free in
    let idle : has_frames (the_view port).frames ≡ false = subst (λ p. has_frames p.frames ≡ false) (sym c.self.view_is) c.requires.idle in
    rw (← c.self.view_is) (rw c.skip.ensures.state (ticks_quiet was_over c.args.units (the_view port) idle there c.skip.ensures.none c.skip.ensures.ends))

pub invariant_of-self : goal.invariant_of-self
invariant_of-self c =
    let port = c.self.inside in
    let due = subst (λ p. c.args.due ≤ port_due_in p) (sym c.self.view_is) c.requires.due in
    let idle : has_frames (the_view port).frames ≡ false = subst (λ p. has_frames p.frames ≡ false) (sym c.self.view_is) c.requires.idle in
    let nearer = c.skip.ensures.due in
    let few = c.requires.few in
    inr (omega (arith, due, nearer, few), none_of (the_view port).frames idle)
