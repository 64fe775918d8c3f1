-- Units that pass at once: the frames after them are those of the last one.
use Rattle.std.proofs.Common.{◌≡◌, false, refl, sym, subst, inl}
use Rattle.controller_abi.specs.State.{has_frames, is_stopped}
use Rattle.controller_abi.specs.contracts.port.Port.{the_view}
use Rattle.controller_abi.proofs.Leaps.{ticks_all}
use Rattle.controller_abi.proofs.port.Port.leap.Goals as goal

pub returns : goal.returns
returns c was_over free =
    let port = c.self.inside in
    let there : is_stopped was_over (the_view port) ≡ false = subst (λ p. is_stopped was_over p ≡ false) (sym c.self.view_is) free in
    let idle : has_frames (the_view port).frames ≡ false = subst (λ p. has_frames p.frames ≡ false) (sym c.self.view_is) c.requires.idle in
    rw (← c.self.view_is) (rw (c.elapse.ensures.state, c.elapse.ensures.frames) (ticks_all was_over c.args.units (the_view port) idle there c.elapse.ensures.last c.elapse.ensures.ends))

pub invariant_of-self : goal.invariant_of-self
invariant_of-self c = inl refl
