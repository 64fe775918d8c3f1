-- Zeros are written to the place of the data.
use Rattle.std.proofs.Common.{◌-◌, ℕ, List, Option, length, is_some, ap, ◌∙◌, arith}
use Rattle.std.proofs.lemmas.List.{length-replicate}
use Rattle.cyclic_data.specs.declared.place.PlaceKind.TheVariants.{Data}
use Rattle.cyclic_data.specs.Image.{Cell, Shown, cell_of, with_value}
use Rattle.cyclic_data.specs.exchange.Opening.{cleared_cell}
use Rattle.cyclic_data.proofs.Cells.{at_none, inside_place, solid_place, image_after, state_after, value_there}
use Rattle.cyclic_data.proofs.ExchangeStated.{none_changed}
use Rattle.cyclic_data.proofs.image.Image.clear.Goals as goal

-- An image with these cells.
abbrev shown_by : ℕ → List Cell → Shown
shown_by n cells = record { data_length = n; cells = cells }

pub returns-in_default : goal.returns-in_default
returns-in_default c =
    let none = ap (λ (o : Option Cell). is_some o)
    (at_none c.self.inside.laid_out.data_length c.self.inside.laid_out.places.items c.self.inside.laid_out.octets c.args.self.now c.self.view_is c.self.invariant Data c.args.slot c.args.subslot c.as_slice.result.now c.as_slice.ensures.value c.in_default.ensures) in
    ap (shown_by c.args.self.now.data_length) (none_changed Data c.args.slot c.args.subslot cleared_cell c.args.self.now.cells none)

pub overflow_sub-size : goal.overflow_sub-size
overflow_sub-size c =
    let solid = solid_place c.self.inside.laid_out.data_length c.self.inside.laid_out.places.items c.self.inside.laid_out.octets c.args.self.now c.self.view_is c.self.invariant Data c.args.slot c.args.subslot c.as_slice.result.now c.as_slice.ensures.value c.in-Some.place c.in-Some.ensures in
    omega arith

pub zeros-requires : goal.zeros-requires
zeros-requires c =
    let inside = inside_place c.self.inside.laid_out.data_length c.self.inside.laid_out.places.items c.self.inside.laid_out.octets c.args.self.now c.self.view_is c.self.invariant Data c.args.slot c.args.subslot c.as_slice.result.now c.as_slice.ensures.value c.in-Some.place c.in-Some.ensures in
    omega arith

pub write_at-requires : goal.write_at-requires
write_at-requires c =
    let inside = inside_place c.self.inside.laid_out.data_length c.self.inside.laid_out.places.items c.self.inside.laid_out.octets c.args.self.now c.self.view_is c.self.invariant Data c.args.slot c.args.subslot c.as_slice.result.now c.as_slice.ensures.value c.in-Some.place c.in-Some.ensures in
    let few = ap (λ (xs : List ℕ). length xs) c.zeros.ensures.value ∙ length-replicate {A = ℕ} (c.in-Some.place.size - 1) 0 in
    omega (arith, c.self.invariant.size, few)

pub invariant_of-self : goal.invariant_of-self
invariant_of-self c =
    let solid = solid_place c.self.inside.laid_out.data_length c.self.inside.laid_out.places.items c.self.inside.laid_out.octets c.args.self.now c.self.view_is c.self.invariant Data c.args.slot c.args.subslot c.as_slice.result.now c.as_slice.ensures.value c.in-Some.place c.in-Some.ensures in
    let few = ap (λ (xs : List ℕ). length xs) c.zeros.ensures.value ∙ length-replicate {A = ℕ} (c.in-Some.place.size - 1) 0 in
    image_after c.self.inside.laid_out.data_length c.self.inside.laid_out.places.items c.self.inside.laid_out.octets c.args.self.now c.self.view_is c.self.invariant Data c.args.slot c.args.subslot c.as_slice.result.now c.as_slice.ensures.value c.in-Some.place c.in-Some.ensures
    c.write_at.new.octets c.in-Some.place.offset c.zeros.result.now c.write_at.ensures (omega arith) (omega (arith, few, solid))

pub returns : goal.returns
returns c =
    let inside = inside_place c.self.inside.laid_out.data_length c.self.inside.laid_out.places.items c.self.inside.laid_out.octets c.args.self.now c.self.view_is c.self.invariant Data c.args.slot c.args.subslot c.as_slice.result.now c.as_slice.ensures.value c.in-Some.place c.in-Some.ensures in
    let solid = solid_place c.self.inside.laid_out.data_length c.self.inside.laid_out.places.items c.self.inside.laid_out.octets c.args.self.now c.self.view_is c.self.invariant Data c.args.slot c.args.subslot c.as_slice.result.now c.as_slice.ensures.value c.in-Some.place c.in-Some.ensures in
    let few = ap (λ (xs : List ℕ). length xs) c.zeros.ensures.value ∙ length-replicate {A = ℕ} (c.in-Some.place.size - 1) 0 in
    state_after c.self.inside.laid_out.data_length c.self.inside.laid_out.places.items c.self.inside.laid_out.octets c.args.self.now c.self.view_is c.self.invariant Data c.args.slot c.args.subslot c.as_slice.result.now c.as_slice.ensures.value c.in-Some.place c.in-Some.ensures
    c.write_at.new.octets c.in-Some.place.offset c.zeros.result.now c.write_at.ensures (omega arith) (omega (arith, few, solid)) cleared_cell
    (value_there c.self.inside.laid_out.octets c.write_at.new.octets c.zeros.result.now c.in-Some.place c.write_at.ensures (omega (arith, few, solid)) (omega (arith, c.self.invariant.size, inside))
    ∙ ap (λ (xs : List ℕ). with_value xs (cell_of c.self.inside.laid_out.octets c.in-Some.place)) c.zeros.ensures.value)
