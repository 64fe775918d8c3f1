-- Data is read at its place.
use Rattle.std.proofs.Common.{length, arith}
use Rattle.cyclic_data.specs.declared.place.PlaceKind.TheVariants.{Data}
use Rattle.cyclic_data.specs.Layout.{IsInside, IsSolid}
use Rattle.cyclic_data.proofs.Taken.{of_found, value_read}
use Rattle.cyclic_data.proofs.octets.value_at.Goals as goal

pub overflow_sub-place : goal.overflow_sub-place
overflow_sub-place c =
    let solid = of_found IsSolid Data c.args.slot c.args.subslot c.args.places.now c.in_ok-place.place c.requires.solid c.in_ok-place.ensures in omega arith

pub part-requires : goal.part-requires
part-requires c =
    let inside = of_found (IsInside (length c.args.octets.now)) Data c.args.slot c.args.subslot c.args.places.now c.in_ok-place.place c.requires.inside c.in_ok-place.ensures in omega arith

pub returns : goal.returns
returns c = value_read c.args.octets.now Data c.args.slot c.args.subslot c.args.places.now c.in_ok-place.place _ c.part.ensures c.in_ok-place.ensures
