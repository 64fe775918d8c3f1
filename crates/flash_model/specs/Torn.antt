-- What a failed call may leave.
use Rattle.std.specs.Prelude.{◌≡◌, ◌⊎◌, ◌≤◌, ◌<◌, ℕ, Bool, true, false, List, length, take, drop, slice_index, Result, OnOk, OnErr}
use Rattle.std.specs.Int.{bit_at}
use Rattle.flash_model.specs.declared.flash.Sector.{Sector}
use Rattle.flash_model.specs.declared.flash.FlashFault.{FlashFault}
use Rattle.flash_model.specs.Image.{Image, sector_of, other}

-- each bit is that of the old number or of the new one
abbrev pub IsBetween : ℕ → ℕ → ℕ → Type 0
IsBetween old new number = (k : ℕ) → (bit_at number k ≡ bit_at old k) ⊎ (bit_at number k ≡ bit_at new k)

-- each bit of the bytes is that of the old ones or of the new ones
pub record AreBetween (old new bytes : List ℕ) : Type 0 where
  pub length : length bytes ≡ length old
  pub each : (k : ℕ) → IsBetween (slice_index old k) (slice_index new k) (slice_index bytes k)

-- A call on the bytes from start to end failed; finished, it would have left these bytes. Inside the range each bit is
-- old or as finished, and everything else is unchanged.
pub record TornSector (start end : ℕ) (finished old new : List ℕ) : Type 0 where
  pub length : length new ≡ length old
  pub before : take start new ≡ take start old
  pub behind : drop end new ≡ drop end old
  pub inside : (k : ℕ) → start ≤ k → k < end → IsBetween (slice_index old k) (slice_index finished k) (slice_index new k)

-- A call on the bytes from start to end of a sector of an image failed: inside the range each bit is old or as
-- finished, and everything else is unchanged.
pub record Torn (sector : Sector) (start end : ℕ) (finished : List ℕ) (old new : Image) : Type 0 where
  pub other : sector_of new (other sector) ≡ sector_of old (other sector)
  pub here : TornSector start end finished (sector_of old sector) (sector_of new sector)

-- A call failed: the count of failures rose, or is saturated at the maximum of 64 bits.
abbrev pub HasRisen : ℕ → ℕ → Type 0
HasRisen before now = (before < now) ⊎ ((before ≡ 18446744073709551615) × (now ≡ 18446744073709551615))

-- After an error the count of failed calls has risen or is saturated. On success it is unchanged.
pub record HasCause {T : Type 0} (before now : ℕ) (result : Result T FlashFault) : Type 0 where
  pub failed : OnErr result (HasRisen before now)
  pub done : OnOk result (now ≡ before)

-- Once power is lost every call fails. A call that succeeded had power.
pub record StaysLost {T : Type 0} (before now : Bool) (result : Result T FlashFault) : Type 0 where
  pub stays : before ≡ true → now ≡ true
  pub done : OnOk result (now ≡ false)
