-- The place of the cell.
use Rattle.std.proofs.Common.{◌<◌, List, length, slice_get, sym, ap, ◌∙◌, arith}
use Rattle.std.proofs.lemmas.Option.{slice_get-get_or}
use Rattle.cyclic_data.specs.declared.place.Place.{Place}
use Rattle.cyclic_data.proofs.Cells.{count_shown, places_shown}
use Rattle.cyclic_data.proofs.image.Image.place.Goals as goal

pub bounds-as_slice-index : goal.bounds-as_slice-index
bounds-as_slice-index c =
    let count = count_shown c.self.inside.laid_out.data_length c.self.inside.laid_out.places.items c.self.inside.laid_out.octets c.args.self.now c.self.view_is in
    let size = ap (λ (places : List Place). length places) c.as_slice.ensures.value in
    omega (arith, c.requires, count, size)

pub returns : goal.returns
returns c =
    let count = count_shown c.self.inside.laid_out.data_length c.self.inside.laid_out.places.items c.self.inside.laid_out.octets c.args.self.now c.self.view_is in
    let size = ap (λ (places : List Place). length places) c.as_slice.ensures.value in
    let inside : c.args.index < length c.as_slice.result.now = omega (arith, c.requires, count, size) in
    ap (λ (places : List Place). slice_get places c.args.index) (places_shown c.self.inside.laid_out.data_length c.self.inside.laid_out.places.items c.self.inside.laid_out.octets c.args.self.now c.self.view_is ∙ sym c.as_slice.ensures.value)
    ∙ slice_get-get_or c.as_slice.result.now c.args.index _ inside
