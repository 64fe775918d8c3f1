-- What differs does not matter to the calls.
use Rattle.std.proofs.Common.{List, ap, ◌∙◌}
use Rattle.expected_places.specs.declared.place.ExpectedPlace.{ExpectedPlace}
use Rattle.expected_places.specs.Called.{called_keys}
use Rattle.expected_places.specs.Places.{places_restated, restated_place}
use Rattle.expected_places.proofs.Called.{inside, mapped_items, own_restated}
use Rattle.expected_places.proofs.Untouched.{restated_whole}
use Rattle.expected_places.proofs.plugs.Plugs.restate.Goals as goal

pub invariant_of-self : goal.invariant_of-self
invariant_of-self c =
    let is = c.restate.ensures ∙ ap (λ (xs : List ExpectedPlace). places_restated c.args.rows.now xs) c.as_mut_slice.ensures.value in (
      inside (restated_place c.args.rows.now) c.self.inside.places c.restate.new.places (called_keys c.self.inside.calls) is
          (own_restated c.args.rows.now c.self.inside.places.items (called_keys c.self.inside.calls) c.self.invariant.0),
      restated_whole c.args.rows.now c.self.inside.is_whole c.self.inside.places.items _ (mapped_items (restated_place c.args.rows.now) c.self.inside.places c.restate.new.places is) c.self.invariant.1,
    )
