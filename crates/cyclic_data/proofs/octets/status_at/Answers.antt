-- A status is read after the data.
use Rattle.std.proofs.Common.{length, arith}
use Rattle.cyclic_data.specs.Layout.{IsInside, IsSolid}
use Rattle.cyclic_data.proofs.Taken.{of_found, status_read}
use Rattle.cyclic_data.proofs.octets.status_at.Goals as goal

pub overflow_sub-result : goal.overflow_sub-result
overflow_sub-result c =
    let solid = of_found IsSolid c.args.kind c.args.slot c.args.subslot c.args.places.now c.in_ok-place.place c.requires.solid c.in_ok-place.ensures in omega arith

pub bounds-octets-place : goal.bounds-octets-place
bounds-octets-place c =
    let solid = of_found IsSolid c.args.kind c.args.slot c.args.subslot c.args.places.now c.in_ok-place.place c.requires.solid c.in_ok-place.ensures in
    let inside = of_found (IsInside (length c.args.octets.now)) c.args.kind c.args.slot c.args.subslot c.args.places.now c.in_ok-place.place c.requires.inside c.in_ok-place.ensures in omega arith

pub returns : goal.returns
returns c =
    let solid = of_found IsSolid c.args.kind c.args.slot c.args.subslot c.args.places.now c.in_ok-place.place c.requires.solid c.in_ok-place.ensures in
    status_read c.args.octets.now c.args.kind c.args.slot c.args.subslot c.args.places.now c.in_ok-place.place solid c.in_ok-place.ensures
