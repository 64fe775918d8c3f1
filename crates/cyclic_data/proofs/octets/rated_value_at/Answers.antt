-- Data is read at its place, and its IOPS after it.
use Rattle.std.proofs.Common.{length, arith}
use Rattle.cyclic_data.specs.declared.place.PlaceKind.TheVariants.{Data}
use Rattle.cyclic_data.specs.Layout.{IsInside, IsSolid}
use Rattle.cyclic_data.proofs.Taken.{of_found, status_read, value_read}
use Rattle.cyclic_data.proofs.octets.rated_value_at.Goals as goal

pub overflow_sub-place : goal.overflow_sub-place
overflow_sub-place c =
    let solid = of_found IsSolid Data c.args.slot c.args.subslot c.args.places.now c.in_ok-place.place c.requires.solid c.in_ok-place.ensures in omega arith

pub part-value-requires : goal.part-value-requires
part-value-requires c =
    let inside = of_found (IsInside (length c.args.octets.now)) Data c.args.slot c.args.subslot c.args.places.now c.in_ok-place.place c.requires.inside c.in_ok-place.ensures in omega arith

pub overflow_sub-result : goal.overflow_sub-result
overflow_sub-result c =
    let solid = of_found IsSolid Data c.args.slot c.args.subslot c.args.places.now c.in_ok-place.place c.requires.solid c.in_ok-place.ensures in omega arith

pub bounds-octets-place : goal.bounds-octets-place
bounds-octets-place c =
    let solid = of_found IsSolid Data c.args.slot c.args.subslot c.args.places.now c.in_ok-place.place c.requires.solid c.in_ok-place.ensures in
    let inside = of_found (IsInside (length c.args.octets.now)) Data c.args.slot c.args.subslot c.args.places.now c.in_ok-place.place c.requires.inside c.in_ok-place.ensures in omega arith

pub returns-clause-value : goal.returns-clause-value
returns-clause-value c = value_read c.args.octets.now Data c.args.slot c.args.subslot c.args.places.now c.in_ok-place.place _ c.part-value.ensures c.in_ok-place.ensures

pub returns-clause-status : goal.returns-clause-status
returns-clause-status c =
    let solid = of_found IsSolid Data c.args.slot c.args.subslot c.args.places.now c.in_ok-place.place c.requires.solid c.in_ok-place.ensures in
    status_read c.args.octets.now Data c.args.slot c.args.subslot c.args.places.now c.in_ok-place.place solid c.in_ok-place.ensures
