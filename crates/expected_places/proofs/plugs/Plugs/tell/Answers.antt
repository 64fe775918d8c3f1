-- A plugged place has no call.
use Rattle.std.proofs.Common.{List, sym, ap, ◌∙◌}
use Rattle.expected_places.specs.declared.place.ExpectedPlace.{ExpectedPlace}
use Rattle.expected_places.specs.declared.place.Step.TheVariants.{Told}
use Rattle.expected_places.specs.Called.{called_keys}
use Rattle.expected_places.specs.Places.{stepped, touched_place}
use Rattle.expected_places.proofs.Called.{inside, own_told, there}
use Rattle.std.proofs.lemmas.Bool.{false≢true}
use Rattle.expected_places.proofs.plugs.Plugs.tell.Goals as goal

pub invariant_of-self-then-is_plugged : goal.invariant_of-self-then-is_plugged
invariant_of-self-then-is_plugged c =
    let is = c.step.ensures ∙ ap (λ (xs : List ExpectedPlace). stepped c.args.slot c.args.subslot (Told c.args.number) xs) c.as_mut_slice.ensures.value in
    let plugged = sym c.is_plugged.ensures ∙ c.if-is_plugged.true in (
      inside (touched_place (there c.args.slot c.args.subslot) (Told c.args.number)) c.self.inside.places c.step.new.places (called_keys c.self.inside.calls) is
          (own_told c.args.slot c.args.subslot c.args.number c.self.inside.places.items (called_keys c.self.inside.calls) plugged c.self.invariant.0),
      λ whole. absurd (false≢true whole),
    )
