-- A cyclic frame, or any other, if no frames of the step before remain.
use Rattle.std.proofs.Common.{◌≡◌, ℕ, Bool, List, true, false, refl, sym, ap, subst, ◌∙◌}
use Rattle.std.specs.Prelude.{take}
use Rattle.controller_core.specs.declared.stored.event.Event.{Event}
use Rattle.controller_core.specs.declared.stored.event.Event.TheVariants.{Frame}
use Rattle.controller_abi.specs.State.{State, after, has_frames}
use Rattle.controller_abi.specs.Serves.{IsEvent}
use Rattle.controller_abi.proofs.serving.frame.Goals as goal

abbrev framed : List ℕ → Event
framed octets = Frame (record { items = octets })

pub returns-then-has_work : goal.returns-then-has_work
returns-then-has_work c = rw (sym c.has_work.ensures ∙ c.if-has_work.true) (refl, refl)

pub take_cyclic-requires : goal.take_cyclic-requires
take_cyclic-requires c = sym c.has_work.ensures ∙ c.if-has_work.false

pub returns-then-take_cyclic : goal.returns-then-take_cyclic
returns-then-take_cyclic c =
    let old = c.args.port.now in
    rw (sym c.has_work.ensures ∙ c.if-has_work.false)
    (refl, c.take_cyclic.ensures.taken c.if-take_cyclic.true ∙ ap (λ (octets : List ℕ). after old (framed octets)) c.at_most.ensures.value)

pub returns : goal.returns
returns c =
    let same = c.take_cyclic.ensures.left c.if-take_cyclic.false in
    rw (sym c.has_work.ensures ∙ c.if-has_work.false) (c.take_frame.ensures.answer, c.take_frame.ensures.state ∙ ap (λ (port : State). after port (framed (take 1519 c.args.given.now))) same)
