-- There is room for the places that a report plugs after those that it does not plug.
use Rattle.std.proofs.Common.{◌≡◌, ◌+◌, ◌≤◌, true, false, List, length, refl, arith}
use Rattle.std.specs.List.{filter}
use Rattle.std.proofs.lemmas.List.{length-map}
use Rattle.std.proofs.lemmas.List.Filters.{length-filter_both}
use Rattle.plan_places.specs.declared.place.Place.{Place}
use Rattle.plan_places.specs.declared.report.PlaceReport.{PlaceReport}
use Rattle.plan_places.specs.Places.{after_report, is_moved, moved}

module _ (report : PlaceReport) (places : List Place) where
  both : length (filter (is_moved true report) places) + length (filter (is_moved false report) places) ≡ length places
  both = length-filter_both (is_moved true report) (is_moved false report) (λ _. refl) places

  pub room_first : length places ≤ 64 → length (filter (is_moved false report) places) ≤ 64
  room_first few = omega (arith, both)

  pub room_second : length places ≤ 64 → length (moved false report places) + length (filter (is_moved true report) places) ≤ 64
  room_second few =
      let same : length (moved false report places) ≡ length (filter (is_moved false report) places) =
      length-map (filter (is_moved false report) places) (after_report report) in
      omega (arith, both, same)
