-- The contents of a flash of two sectors, and the effect of a finished call on them.
use Rattle.std.specs.Prelude.{◌≡◌, ◌+◌, ◌-◌, ◌*◌, ◌/◌, ◌≤◌, ◌<◌, ℕ, List, [], ◌∷◌, ◌++◌, length, take, drop, replicate, slice_index, bit_and}
use Rattle.flash_model.specs.declared.flash.Sector.{Sector}
use Rattle.flash_model.specs.declared.flash.Sector.TheVariants.{First, Second}

-- the bytes of both sectors
pub record Image : Type 0 where
  pub first : List ℕ
  pub second : List ℕ

-- the bytes of a sector of the image
abbrev pub sector_of : Image → Sector → List ℕ
sector_of image First = image.first
sector_of image Second = image.second

-- the image with other bytes in one sector
abbrev pub with_sector : Image → Sector → List ℕ → Image
with_sector image First bytes = record image { first = bytes }
with_sector image Second bytes = record image { second = bytes }

-- the other sector
abbrev pub other : Sector → Sector
other First = Second
other Second = First

-- the bitwise AND of two lists of bytes
abbrev pub anded : List ℕ → List ℕ → List ℕ
anded [] new = []
anded (old ∷ olds) [] = old ∷ olds
anded (old ∷ olds) (new ∷ news) = bit_and old new ∷ anded olds news

-- a sector after bytes were programmed at a position
abbrev pub programmed : List ℕ → ℕ → List ℕ → List ℕ
programmed sector place bytes = take place sector ++ anded (drop place sector) bytes

-- a sector of this size after an erase
abbrev pub erased : ℕ → List ℕ
erased size = replicate size 255

-- the number of slots of 256 bytes after the first 512 bytes
abbrev pub slots_in : ℕ → ℕ
slots_in size = (size - 512) / 256

-- 512 bytes and 1 to 255 slots of 256
pub record IsSectorSize (size : ℕ) : Type 0 where
  pub at_least : 1 ≤ slots_in size
  pub at_most : slots_in size ≤ 255
  pub whole : size ≡ 512 + 256 * slots_in size

-- numbers that are bytes
abbrev pub AreBytes : List ℕ → Type 0
AreBytes bytes = (k : ℕ) → slice_index bytes k < 256

-- both sectors have this size and hold bytes
pub record IsImage (size : ℕ) (image : Image) : Type 0 where
  pub first_size : length image.first ≡ size
  pub second_size : length image.second ≡ size
  pub first_bytes : AreBytes image.first
  pub second_bytes : AreBytes image.second
