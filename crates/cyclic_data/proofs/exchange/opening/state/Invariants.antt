-- After the remaining places the image is what it is after all of them, and its places are as they were.
use Rattle.std.proofs.Common.{◌≡◌, drop}
use Rattle.cyclic_data.proofs.ExchangeStated.{places_of, stated}
use Rattle.cyclic_data.proofs.exchange.opening.state.Given as goal

abbrev pub invariant-loop-index : goal.invariant-loop-index
invariant-loop-index g l = record {
  rest : stated (g.S.Statuses.status_of l.statuses) (drop l.index (places_of l.initial.image.cells)) l.image
      ≡ stated (g.S.Statuses.status_of l.statuses) (places_of l.initial.image.cells) l.initial.image;
  places : places_of l.image.cells ≡ places_of l.initial.image.cells;
}
