-- What an image of two sectors means to the journal: which sector is active, and what a start makes of it.
use Rattle.std.specs.Prelude.{◌≡◌, ◌≢◌, ◌⊎◌, ◌+◌, ◌-◌, ◌*◌, ◌≤◌, ℕ, Bool, true, false, List, length, Option, Some, None}
use Rattle.pn_values.specs.Settings.{factory_settings}
use Rattle.pn_values.specs.declared.settings.Settings.{Settings}
use Rattle.flash_model.specs.Image.{Image, sector_of, other, slots_in}
use Rattle.flash_model.specs.declared.flash.Sector.{Sector}
use Rattle.flash_model.specs.declared.flash.Sector.TheVariants.{First, Second}
use Rattle.settings_journal.specs.Head.{head_of, gate_of, version_at, generation_at, Counts, Spells, Rises, IsOlder}
use Rattle.settings_journal.specs.Slot.{After, free_in}

-- the head of a sector of the image
abbrev pub head_in : Image → Sector → List ℕ
head_in image sector = head_of (sector_of image sector)

-- the number of slots of a sector
abbrev pub slots_of : List ℕ → ℕ
slots_of sector = slots_in (length sector)

-- the sector counts, and the other one does not, or is older
pub record IsActive (image : Image) (sector : Sector) : Type 0 where
  pub counts : Counts (head_in image sector)
  pub newest : IsOlder (generation_at (head_in image sector)) (head_in image (other sector))

-- no gate is open, so no sector counts
pub record IsClosed (image : Image) : Type 0 where
  pub first : gate_of (head_in image First) ≢ 0
  pub second : gate_of (head_in image Second) ≢ 0

-- the sector that the next base goes to
abbrev pub spare : Option Sector → Sector
spare None = First
spare (Some active) = other active

-- a sector is read as these settings: those of its base, changed by its slots
pub record Reads (sector : List ℕ) (settings : Settings) : Type 0 where
  pub base : Settings
  pub spells : Spells (head_of sector) base
  pub after : After (version_at (head_of sector)) sector (slots_of sector) base settings

-- how many slots of a sector are left
abbrev pub left_in : List ℕ → ℕ
left_in sector = free_in (version_at (head_of sector)) sector (slots_of sector)

-- The image is read as these settings, with this generation and this many slots left: what the active sector is read
-- as, or, if no gate is open, the factory settings.
abbrev pub StartsAt : Image → Option Sector → Settings → ℕ → ℕ → Type 0
StartsAt image (Some sector) settings generation free =
    IsActive image sector × Reads (sector_of image sector) settings × (generation ≡ generation_at (head_in image sector)) × (free ≡ left_in (sector_of image sector))
StartsAt image None settings generation free = IsClosed image × (settings ≡ factory_settings) × (generation ≡ 0) × (free ≡ 0)

-- How many commits there is room for, in sectors of this many slots: one for each slot left, and for each generation
-- left one for a base and one for each slot after it.
abbrev pub room_of : ℕ → ℕ → ℕ → ℕ
room_of slots generation free = (65535 - generation) * (slots + 1) + free

-- How many commits are left, with this room: this many more are accepted as long as no flash call fails. After a commit
-- that failed none is left, until the next start.
abbrev pub commits_left : Bool → ℕ → ℕ
commits_left true room = 0
commits_left false room = room

-- How many commits a blank flash with sectors of this size has room for.
unfoldable pub capacity : ℕ → ℕ
capacity size = room_of (slots_in size) 0 0

-- a blank flash has room for at least 65,535 commits
abbrev pub IsAmple : ℕ → Type 0
IsAmple size = 65535 ≤ capacity size

-- The image is read as these settings, and there is room for this many commits.
abbrev pub StartsWith : Image → Settings → ℕ → Type 0
StartsWith image settings room =
    (active : Option Sector) × (generation : ℕ) × (free : ℕ) × StartsAt image active settings generation free × (room ≡ room_of (slots_of image.first) generation free)

-- a start on the image gives these settings
abbrev pub BootsTo : Image → Settings → Type 0
BootsTo image settings = (room : ℕ) × StartsWith image settings room

-- No journal of this layout left the image: two sectors count with the same generation, or none counts and a gate is
-- open, or the contents of the active one are not settings.
abbrev pub IsForeign : Image → Type 0
IsForeign image =
    (Counts (head_in image First) × Counts (head_in image Second) × (generation_at (head_in image First) ≡ generation_at (head_in image Second)))
    ⊎ ((¬ Counts (head_in image First)) × (¬ Counts (head_in image Second)) × ((gate_of (head_in image First) ≡ 0) ⊎ (gate_of (head_in image Second) ≡ 0)))
    ⊎ ((sector : Sector) × IsActive image sector × ((settings : Settings) → ¬ Reads (sector_of image sector) settings))

-- The sector is active and is read as settings. The other one does not count or is older, whichever of its bits rise,
-- as an interrupted erase leaves them.
pub record IsLeft (image : Image) (sector : Sector) : Type 0 where
  pub active : IsActive image sector
  pub settings : (settings : Settings) × Reads (sector_of image sector) settings
  pub stale : (risen : List ℕ) → Rises (head_in image (other sector)) risen → IsOlder (generation_at (head_in image sector)) risen

-- a journal left the image with this active sector, or with no sector that counts
abbrev pub LeftAt : Image → Option Sector → Type 0
LeftAt image (Some sector) = IsLeft image sector
LeftAt image None = IsClosed image

-- Left by this device: blank, or as its commits leave it, whichever of their calls failed.
abbrev pub LeftByDevice : Image → Type 0
LeftByDevice image = (active : Option Sector) × LeftAt image active

-- the generation of a sector that counts, else 0
abbrev pub IsGeneration : Image → ℕ → Type 0
IsGeneration image generation =
    ((sector : Sector) × IsActive image sector × (generation ≡ generation_at (head_in image sector)))
    ⊎ ((¬ Counts (head_in image First)) × (¬ Counts (head_in image Second)) × (generation ≡ 0))
