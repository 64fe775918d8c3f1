-- The calls that remain are for places that are not affected.
use Rattle.std.proofs.Common.{List, ap, ◌∙◌}
use Rattle.expected_places.specs.declared.place.ExpectedPlace.{ExpectedPlace}
use Rattle.expected_places.specs.Called.{called_keys}
use Rattle.expected_places.specs.Calls.{dropped}
use Rattle.expected_places.specs.Places.{touched_place, touched_places}
use Rattle.expected_places.proofs.Called.{inside, own_touched}
use Rattle.std.proofs.lemmas.Bool.{false≢true}
use Rattle.expected_places.proofs.plugs.Plugs.touch.Goals as goal

pub invariant_of-self : goal.invariant_of-self
invariant_of-self c =
    let is = c.touch.ensures ∙ ap (λ (xs : List ExpectedPlace). touched_places c.args.affected c.args.step xs) c.as_mut_slice.ensures.value in (
      rw c.drop_affected.ensures
          (inside (touched_place c.args.affected c.args.step) c.self.inside.places c.touch.new.places (called_keys (dropped c.args.affected c.self.inside.calls)) is
          (own_touched c.args.affected c.args.step c.self.inside.places.items c.self.inside.calls c.self.invariant.0)),
      λ whole. absurd (false≢true whole),
    )
