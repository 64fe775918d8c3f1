-- The places of the layout.
use Rattle.std.proofs.Common.{List, sym, ap, subst, ◌∙◌}
use Rattle.cyclic_data.specs.declared.place.Place.{Place}
use Rattle.cyclic_data.specs.Layout.{Table, IsTable}
use Rattle.cyclic_data.proofs.Taken.{places_kept}
use Rattle.cyclic_data.proofs.laid_out.LaidOut.start.Goals as goal

pub returns-clause-places : goal.returns-clause-places
returns-clause-places c =
    let kept = places_kept c.layout.inside.places.items c.clear.new.self.items c.try_extend_from_slice.new.self.items _ c.try_extend_from_slice.result c.clear.ensures c.as_slice.ensures.value c.as_slice.ensures.fits c.try_extend_from_slice.ensures.variant.1 c.try_extend_from_slice.ensures.ok in
    sym c.layout.view_is ∙ ap (λ (ps : List Place). let t : Table = record { data_length = c.layout.inside.data_length; places = ps } in t) (sym kept)

pub returns-clause-table : goal.returns-clause-table
returns-clause-table c =
    let kept = places_kept c.layout.inside.places.items c.clear.new.self.items c.try_extend_from_slice.new.self.items _ c.try_extend_from_slice.result c.clear.ensures c.as_slice.ensures.value c.as_slice.ensures.fits c.try_extend_from_slice.ensures.variant.1 c.try_extend_from_slice.ensures.ok in
    subst (λ (ps : List Place). IsTable c.layout.inside.data_length ps) (sym kept) c.layout.invariant
