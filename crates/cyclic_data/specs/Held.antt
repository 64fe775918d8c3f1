-- The state of an image, and the effect of writing its octets.
use Rattle.std.specs.Prelude.{◌≡◌, ◌+◌, ◌<◌, ◌≤◌, ℕ, List, length, get_or}
use Rattle.std.specs.List.{AllByRecursion}
use Rattle.cyclic_data.specs.declared.place.Place.{Place}
use Rattle.cyclic_data.specs.Layout.{Covers, IsTable}

-- The octets of the longest frame; those outside all places are 0.
pub record IsImage (data_length : ℕ) (places : List Place) (octets : List ℕ) : Type 0 where
  pub table : IsTable data_length places
  pub size : length octets ≡ 1440
  pub zeros : (k : ℕ) → AllByRecursion (λ place. Covers place k → ⊥) places → get_or octets k 0 ≡ 0

-- The octets of the longest frame; those outside all places may have any value.
pub record IsReceived (data_length : ℕ) (places : List Place) (octets : List ℕ) : Type 0 where
  pub table : IsTable data_length places
  pub size : length octets ≡ 1440

-- The octets with `value` from `start` on, and otherwise as they were.
pub record IsWritten (old new : List ℕ) (start : ℕ) (value : List ℕ) : Type 0 where
  pub size : length new ≡ length old
  pub there : (k : ℕ) → k < length value → get_or new (start + k) 0 ≡ get_or value k 0
  pub below : (k : ℕ) → k < start → get_or new k 0 ≡ get_or old k 0
  pub above : (k : ℕ) → start + length value ≤ k → get_or new k 0 ≡ get_or old k 0
