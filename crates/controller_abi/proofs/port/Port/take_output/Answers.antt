-- An output sends nothing: the frames stay fetched, and what is due stays remembered.
use Rattle.std.proofs.Common.{◌≡◌, false, refl, sym, subst}
use Rattle.controller_core.specs.declared.stored.event.Event.{Event}
use Rattle.controller_core.specs.declared.stored.event.Event.TheVariants.{Give}
use Rattle.controller_abi.specs.State.{has_frames}
use Rattle.controller_abi.specs.contracts.port.Port.{the_view}
use Rattle.controller_abi.proofs.Leaps.{known_later, no_sooner, silent_after, with_frames}
use Rattle.controller_abi.proofs.port.Port.take_output.Goals as goal

pub returns : goal.returns
returns c =
    let event : Event = Give c.args.slot c.args.subslot (record { items = c.args.value.now }) in
    let idle : has_frames (the_view c.self.inside).frames ≡ false = subst (λ p. has_frames p.frames ≡ false) (sym c.self.view_is) c.requires in
    rw (← c.self.view_is) (silent_after (the_view c.self.inside) event c.take_output.new.self idle c.take_output.ensures.given)

pub invariant_of-self : goal.invariant_of-self
invariant_of-self c =
    let inside = c.self.inside in
    let new = c.take_output.new.self in
    known_later inside.due (the_view inside) (with_frames inside.is_started new.controller new.services (the_view inside).frames) (no_sooner _ _ c.take_output.ensures.due) refl c.self.invariant
