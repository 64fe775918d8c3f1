-- A status is written after the data.
use Rattle.std.proofs.Common.{[], ◌∷◌, Option, is_some, sym, ap, arith}
use Rattle.cyclic_data.specs.Image.{Cell, with_status}
use Rattle.cyclic_data.proofs.Cells.{at_none, at_some, inside_place, solid_place, image_after, state_after, status_there}
use Rattle.cyclic_data.proofs.image.Image.set_status.Goals as goal

pub returns-in_default-clause-done : goal.returns-in_default-clause-done
returns-in_default-clause-done c =
    sym (ap (λ (o : Option Cell). is_some o) (at_none c.self.inside.laid_out.data_length c.self.inside.laid_out.places.items c.self.inside.laid_out.octets c.args.self.now c.self.view_is c.self.invariant c.args.kind c.args.slot c.args.subslot c.as_slice.result.now c.as_slice.ensures.value c.in_default.ensures))

pub overflow_sub-last : goal.overflow_sub-last
overflow_sub-last c =
    let solid = solid_place c.self.inside.laid_out.data_length c.self.inside.laid_out.places.items c.self.inside.laid_out.octets c.args.self.now c.self.view_is c.self.invariant c.args.kind c.args.slot c.args.subslot c.as_slice.result.now c.as_slice.ensures.value c.in-Some.place c.in-Some.ensures in
    omega arith

pub write_at-requires : goal.write_at-requires
write_at-requires c =
    let inside = inside_place c.self.inside.laid_out.data_length c.self.inside.laid_out.places.items c.self.inside.laid_out.octets c.args.self.now c.self.view_is c.self.invariant c.args.kind c.args.slot c.args.subslot c.as_slice.result.now c.as_slice.ensures.value c.in-Some.place c.in-Some.ensures in
    let solid = solid_place c.self.inside.laid_out.data_length c.self.inside.laid_out.places.items c.self.inside.laid_out.octets c.args.self.now c.self.view_is c.self.invariant c.args.kind c.args.slot c.args.subslot c.as_slice.result.now c.as_slice.ensures.value c.in-Some.place c.in-Some.ensures in
    omega (arith, c.self.invariant.size)

pub invariant_of-self : goal.invariant_of-self
invariant_of-self c =
    let solid = solid_place c.self.inside.laid_out.data_length c.self.inside.laid_out.places.items c.self.inside.laid_out.octets c.args.self.now c.self.view_is c.self.invariant c.args.kind c.args.slot c.args.subslot c.as_slice.result.now c.as_slice.ensures.value c.in-Some.place c.in-Some.ensures in
    image_after c.self.inside.laid_out.data_length c.self.inside.laid_out.places.items c.self.inside.laid_out.octets c.args.self.now c.self.view_is c.self.invariant c.args.kind c.args.slot c.args.subslot c.as_slice.result.now c.as_slice.ensures.value c.in-Some.place c.in-Some.ensures
    c.write_at.new.octets _ (c.args.status ∷ []) c.write_at.ensures (omega arith) (omega arith)

pub returns-clause-done : goal.returns-clause-done
returns-clause-done c = sym (ap (λ (o : Option Cell). is_some o) (at_some c.self.inside.laid_out.data_length c.self.inside.laid_out.places.items c.self.inside.laid_out.octets c.args.self.now c.self.view_is c.self.invariant c.args.kind c.args.slot c.args.subslot c.as_slice.result.now c.as_slice.ensures.value c.in-Some.place c.in-Some.ensures))

pub returns-clause-state : goal.returns-clause-state
returns-clause-state c =
    let solid = solid_place c.self.inside.laid_out.data_length c.self.inside.laid_out.places.items c.self.inside.laid_out.octets c.args.self.now c.self.view_is c.self.invariant c.args.kind c.args.slot c.args.subslot c.as_slice.result.now c.as_slice.ensures.value c.in-Some.place c.in-Some.ensures in
    state_after c.self.inside.laid_out.data_length c.self.inside.laid_out.places.items c.self.inside.laid_out.octets c.args.self.now c.self.view_is c.self.invariant c.args.kind c.args.slot c.args.subslot c.as_slice.result.now c.as_slice.ensures.value c.in-Some.place c.in-Some.ensures
    c.write_at.new.octets _ (c.args.status ∷ []) c.write_at.ensures (omega arith) (omega arith) (with_status c.args.status)
    (status_there c.self.inside.laid_out.octets c.write_at.new.octets c.args.status _ c.in-Some.place c.write_at.ensures (omega arith) solid)
