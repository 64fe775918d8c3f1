-- The place is reported, so it has no call yet.
use Rattle.std.proofs.Common.{◌≡◌, ◌≤◌, List, length, Some, ap, ◌∙◌, arith}
use Rattle.expected_places.specs.declared.place.ExpectedPlace.{ExpectedPlace}
use Rattle.expected_places.specs.declared.place.Step.TheVariants.{Ended}
use Rattle.expected_places.specs.Called.{called_keys}
use Rattle.expected_places.specs.Calls.{pushed}
use Rattle.expected_places.specs.Machine.{PlugState}
use Rattle.expected_places.specs.Places.{first_told, stepped, touched_place}
use Rattle.expected_places.proofs.Called.{call_of, inside, own_ended, room, there}
use Rattle.std.proofs.lemmas.Bool.{false≢true}
use Rattle.expected_places.proofs.plugs.Plugs.end_at.Goals as goal

pub push-requires : goal.push-requires
push-requires c =
    let found : first_told c.args.number c.self.inside.places.items ≡ Some c.args.place.now =
    ap (λ (state : PlugState). first_told c.args.number state.places) c.self.view_is ∙ c.requires in
    let few : length c.self.inside.places.items ≤ 64 = grind (arith, c.as_mut_slice.ensures.fits, c.as_mut_slice.ensures.value) in
    room c.args.number c.args.place.now c.self.inside.places.items c.self.inside.calls found few c.self.invariant.0

pub invariant_of-self : goal.invariant_of-self
invariant_of-self c =
    let place = c.args.place.now in
    let call = call_of c.args.number c.args.is_ready place in
    let found : first_told c.args.number c.self.inside.places.items ≡ Some place =
    ap (λ (state : PlugState). first_told c.args.number state.places) c.self.view_is ∙ c.requires in
    let is = c.step.ensures ∙ ap (λ (xs : List ExpectedPlace). stepped place.slot place.subslot (Ended c.args.number) xs) c.as_mut_slice.ensures.value in (
      rw c.push.ensures
          (inside (touched_place (there place.slot place.subslot) (Ended c.args.number)) c.self.inside.places c.step.new.places
          (called_keys (pushed call c.self.inside.calls)) is
          (own_ended c.args.number c.args.is_ready place c.self.inside.places.items c.self.inside.calls found c.self.invariant.0)),
      λ whole. absurd (false≢true whole),
    )
