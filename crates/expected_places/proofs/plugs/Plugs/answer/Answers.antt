-- No other call is for the place of the active one.
use Rattle.std.proofs.Common.{List, map, sym, ap, ◌∙◌}
use Rattle.expected_places.specs.declared.place.ExpectedPlace.{ExpectedPlace}
use Rattle.expected_places.specs.Called.{waiting_key}
use Rattle.expected_places.specs.Places.{stepped, touched_place}
use Rattle.expected_places.proofs.Called.{inside, own_answered, there}
use Rattle.std.proofs.lemmas.Bool.{false≢true}
use Rattle.expected_places.proofs.plugs.Plugs.answer.Goals as goal

pub invariant_of-self : goal.invariant_of-self
invariant_of-self c =
    let call = c.in-Some.call in
    let is = c.step.ensures ∙ ap (λ (xs : List ExpectedPlace). stepped call.slot call.subslot c.if-is_positive.answered xs) c.as_mut_slice.ensures.value in (
      rw c.finish.ensures
          (inside (touched_place (there call.slot call.subslot) c.if-is_positive.answered) c.self.inside.places c.step.new.places
          (map waiting_key c.self.inside.calls.waiting) is
          (own_answered c.self.inside.places.items c.self.inside.calls call c.if-is_positive.answered (sym c.standing.ensures ∙ c.in-Some.is) c.self.invariant.0)),
      λ whole. absurd (false≢true whole),
    )
