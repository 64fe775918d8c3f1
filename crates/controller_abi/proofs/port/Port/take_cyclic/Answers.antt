-- A cyclic frame sends nothing: the frames stay fetched, and what is due stays remembered.
use Rattle.std.proofs.Common.{◌≡◌, false, refl, sym, subst}
use Rattle.controller_core.specs.declared.stored.event.Event.{Event}
use Rattle.controller_core.specs.declared.stored.event.Event.TheVariants.{Frame}
use Rattle.controller_abi.specs.State.{has_frames}
use Rattle.controller_abi.specs.contracts.port.Port.{the_view}
use Rattle.controller_abi.proofs.Leaps.{known_later, silent_after, with_frames}
use Rattle.controller_abi.proofs.port.Port.take_cyclic.Goals as goal

pub returns-clause-taken : goal.returns-clause-taken
returns-clause-taken c is =
    let event : Event = Frame (record { items = c.args.octets.now }) in
    let idle : has_frames (the_view c.self.inside).frames ≡ false = subst (λ p. has_frames p.frames ≡ false) (sym c.self.view_is) c.requires in
    rw (← c.self.view_is) (silent_after (the_view c.self.inside) event c.take_cyclic.new.self idle (c.take_cyclic.ensures.taken is))

pub invariant_of-self : goal.invariant_of-self
invariant_of-self c =
    let inside = c.self.inside in
    let new = c.take_cyclic.new.self in
    known_later inside.due (the_view inside) (with_frames inside.is_started new.controller new.services (the_view inside).frames) c.take_cyclic.ensures.due refl c.self.invariant
