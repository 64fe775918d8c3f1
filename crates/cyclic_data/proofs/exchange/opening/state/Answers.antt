-- One place after another.
use Rattle.std.proofs.Common.{◌≡◌, ◌≤◌, List, length, drop, slice_get, sym, ap, ◌∙◌, arith}
use Rattle.std.proofs.lemmas.List.{drop_all, length-map}
use Rattle.cyclic_data.specs.declared.place.Place.{Place}
use Rattle.cyclic_data.specs.Image.{Cell, Shown}
use Rattle.cyclic_data.proofs.ExchangeStated.{none_left, one_more, places_kept, places_of, stated, status_set}
use Rattle.cyclic_data.proofs.exchange.opening.state.Goals as goal

-- As many cells as at first.
same_count : (first image : Shown) → places_of image.cells ≡ places_of first.cells → length image.cells ≡ length first.cells
same_count first image same =
    sym (length-map image.cells (λ (cell : Cell). cell.place))
    ∙ (ap (λ (places : List Place). length places) same ∙ length-map first.cells (λ (cell : Cell). cell.place))

pub place-place-requires : goal.place-place-requires
place-place-requires g c =
    let size = same_count c.args.image.now c.loop-index.image c.loop-index.invariant.places in
    omega (arith, size, c.loop-index-test.true, c.len-index-end.ensures)

pub loop-index-preserved : goal.loop-index-preserved
loop-index-preserved g c =
    let statuses = g.S.Statuses.status_of c.args.statuses.now in
    let places = places_of c.args.image.now.cells in
    let same = c.loop-index.invariant.places in
    let set = status_set statuses c.loop-index.image c.set_status.new.self c.place-place.result c.status-status.result c.set_status.result
    c.status-status.ensures c.set_status.ensures.done c.set_status.ensures.state in
    let read = ap (λ (ones : List Place). slice_get ones c.loop-index.index) (sym same) ∙ c.place-place.ensures in
    record {
      rest = one_more statuses places c.loop-index.index c.place-place.result c.loop-index.image c.set_status.new.self
          (stated statuses places c.args.image.now) read set c.loop-index.invariant.rest;
      places = ap (λ (shown : Shown). places_of shown.cells) set ∙ (places_kept statuses c.place-place.result c.loop-index.image ∙ same);
    }

pub returns : goal.returns
returns g c =
    let statuses = g.S.Statuses.status_of c.args.statuses.now in
    let places = places_of c.args.image.now.cells in
    let count = length-map c.args.image.now.cells (λ (cell : Cell). cell.place) in
    let past : length places ≤ c.loop-index.index = omega (arith, count, c.loop-index-test.false, c.len-index-end.ensures) in
    none_left statuses c.args.image.now (drop c.loop-index.index places) c.loop-index.image (drop_all c.loop-index.index places past)
    c.loop-index.invariant.rest
