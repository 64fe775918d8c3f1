-- Data is written to its place.
use Rattle.std.proofs.Common.{◌+◌, length, Option, sym, ap, ◌∙◌, arith}
use Rattle.std.proofs.lemmas.Bool.{eq-eqb, ne_eqb}
use Rattle.cyclic_data.specs.declared.place.PlaceKind.TheVariants.{Data}
use Rattle.cyclic_data.specs.Image.{Cell, has_size, with_value}
use Rattle.cyclic_data.proofs.Cells.{at_none, at_some, inside_place, image_after, state_after, value_there}
use Rattle.cyclic_data.proofs.image.Image.put.Goals as goal

pub returns-in_default-clause-done : goal.returns-in_default-clause-done
returns-in_default-clause-done c =
    sym (ap (λ (o : Option Cell). has_size (length c.args.value.now) o)
    (at_none c.self.inside.laid_out.data_length c.self.inside.laid_out.places.items c.self.inside.laid_out.octets c.args.self.now c.self.view_is c.self.invariant Data c.args.slot c.args.subslot c.as_slice.result.now c.as_slice.ensures.value c.in_default.ensures))

pub write_at-requires : goal.write_at-requires
write_at-requires c =
    let inside = inside_place c.self.inside.laid_out.data_length c.self.inside.laid_out.places.items c.self.inside.laid_out.octets c.args.self.now c.self.view_is c.self.invariant Data c.args.slot c.args.subslot c.as_slice.result.now c.as_slice.ensures.value c.in-Some.place c.in-Some.ensures in
    omega (arith, c.self.invariant.size)

pub invariant_of-self : goal.invariant_of-self
invariant_of-self c =
    image_after c.self.inside.laid_out.data_length c.self.inside.laid_out.places.items c.self.inside.laid_out.octets c.args.self.now c.self.view_is c.self.invariant Data c.args.slot c.args.subslot c.as_slice.result.now c.as_slice.ensures.value c.in-Some.place c.in-Some.ensures
    c.write_at.new.octets c.in-Some.place.offset c.args.value.now c.write_at.ensures (omega arith) (omega arith)

pub returns-clause-done : goal.returns-clause-done
returns-clause-done c =
    sym (ap (λ (o : Option Cell). has_size (length c.args.value.now) o)
    (at_some c.self.inside.laid_out.data_length c.self.inside.laid_out.places.items c.self.inside.laid_out.octets c.args.self.now c.self.view_is c.self.invariant Data c.args.slot c.args.subslot c.as_slice.result.now c.as_slice.ensures.value c.in-Some.place c.in-Some.ensures)
    ∙ eq-eqb c.in-Some.place.size (length c.args.value.now + 1) (omega arith))

pub returns-clause-state : goal.returns-clause-state
returns-clause-state c =
    let inside = inside_place c.self.inside.laid_out.data_length c.self.inside.laid_out.places.items c.self.inside.laid_out.octets c.args.self.now c.self.view_is c.self.invariant Data c.args.slot c.args.subslot c.as_slice.result.now c.as_slice.ensures.value c.in-Some.place c.in-Some.ensures in
    state_after c.self.inside.laid_out.data_length c.self.inside.laid_out.places.items c.self.inside.laid_out.octets c.args.self.now c.self.view_is c.self.invariant Data c.args.slot c.args.subslot c.as_slice.result.now c.as_slice.ensures.value c.in-Some.place c.in-Some.ensures
    c.write_at.new.octets c.in-Some.place.offset c.args.value.now c.write_at.ensures (omega arith) (omega arith) (with_value c.args.value.now)
    (value_there c.self.inside.laid_out.octets c.write_at.new.octets c.args.value.now c.in-Some.place c.write_at.ensures (omega arith) (omega (arith, c.self.invariant.size)))

pub returns-then-place-value-clause-done : goal.returns-then-place-value-clause-done
returns-then-place-value-clause-done c =
    sym (ap (λ (o : Option Cell). has_size (length c.args.value.now) o)
    (at_some c.self.inside.laid_out.data_length c.self.inside.laid_out.places.items c.self.inside.laid_out.octets c.args.self.now c.self.view_is c.self.invariant Data c.args.slot c.args.subslot c.as_slice.result.now c.as_slice.ensures.value c.in-Some.place c.in-Some.ensures)
    ∙ ne_eqb c.in-Some.place.size (length c.args.value.now + 1) c.if-place-value.true)
