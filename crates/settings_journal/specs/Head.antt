-- The first 512 bytes of a sector: a base, and the gate that makes it count.
use Rattle.std.specs.Prelude.{◌≡◌, ◌⊎◌, ◌-◌, ◌≤◌, ◌<◌, ◌==◌, if◌then◌else◌, ℕ, List, [], ◌∷◌, ◌++◌, length, take, replicate, slice_index, slice_range}
use Rattle.std.specs.Int.{w16, to_be_bytes, from_be_bytes, bit_at}
use Rattle.pn_values.specs.StationName.{IsNameOrNone}
use Rattle.pn_values.specs.IpSuite.{IsSuite}
use Rattle.pn_values.specs.declared.settings.Settings.{Settings}
use Rattle.settings_journal.specs.declared.head.Version.{Version}
use Rattle.settings_journal.specs.declared.head.Version.TheVariants.{One, Two}

-- the number of a version of the layout
abbrev pub number_of : Version → ℕ
number_of One = 1
number_of Two = 2

-- "PNJ" and the version
abbrev pub magic_of : Version → List ℕ
magic_of version = 80 ∷ 78 ∷ 74 ∷ number_of version ∷ []

-- the first 512 bytes of a sector
abbrev pub head_of : List ℕ → List ℕ
head_of sector = take 512 sector

-- the version that a head claims, by the byte after "PNJ"
abbrev pub version_at : List ℕ → Version
version_at head = if slice_index head 3 == 1 then One else Two

-- the gate: 00 is open
abbrev pub gate_of : List ℕ → ℕ
gate_of head = slice_index head 511

-- the generation, which is stored as 65,535 minus it: bits that rise make it smaller
abbrev pub generation_at : List ℕ → ℕ
generation_at head = 65535 - from_be_bytes w16 (slice_range head 4 6)

-- the gate is open, magic and version are right, and the generation is at least 1
pub record Counts (head : List ℕ) : Type 0 where
  pub gate : gate_of head ≡ 0
  pub magic : take 4 head ≡ magic_of (version_at head)
  pub generation : 1 ≤ generation_at head

-- settings that a station may have
pub record IsSettings (settings : Settings) : Type 0 where
  pub name : IsNameOrNone settings.name
  pub suite : IsSuite settings.suite
  pub address : length settings.suite.address ≡ 4
  pub mask : length settings.suite.mask ≡ 4
  pub gateway : length settings.suite.gateway ≡ 4
  pub im1 : length settings.im1 ≡ 54
  pub im2 : length settings.im2 ≡ 16
  pub im3 : length settings.im3 ≡ 54
  pub im4 : length settings.im4 ≡ 54

-- a name in 240 bytes, padded with zeros
abbrev pub name_field : List ℕ → List ℕ
name_field name = name ++ replicate (240 - length name) 0

-- The first 383 bytes of a base, the same in both versions: magic and version, generation, length of the name, the name
-- and zeros, the IP suite, I&M1 to I&M3.
unfoldable pub front_of : Version → ℕ → Settings → List ℕ
front_of version generation settings =
    magic_of version ++ to_be_bytes w16 (65535 - generation) ++ (length settings.name ∷ []) ++ name_field settings.name
    ++ settings.suite.address ++ settings.suite.mask ++ settings.suite.gateway ++ settings.im1 ++ settings.im2 ++ settings.im3

-- the 437 bytes of a base as it is written, in version 2: I&M4 follows the first 383
abbrev pub base_of : ℕ → Settings → List ℕ
base_of generation settings = front_of Two generation settings ++ settings.im4

-- the I&M4 of a head; version 1 has none, which is read as zeros
abbrev pub im4_at : Version → List ℕ → List ℕ
im4_at One head = replicate 54 0
im4_at Two head = slice_range head 383 437

-- the base holds this name: its length, and the name and zeros
pub record HasName (head name : List ℕ) : Type 0 where
  pub short : length name ≤ 240
  pub length : slice_index head 6 ≡ length name
  pub field : slice_range head 7 247 ≡ name_field name

-- the base of the head holds these settings
pub record Spells (head : List ℕ) (settings : Settings) : Type 0 where
  pub valid : IsSettings settings
  pub front : take 383 head ≡ front_of (version_at head) (generation_at head) settings
  pub im4 : settings.im4 ≡ im4_at (version_at head) head

-- each bit is unchanged or rose from 0 to 1
pub record Rises (old new : List ℕ) : Type 0 where
  pub length : length new ≡ length old
  pub each : (place bit : ℕ) → (bit_at (slice_index new place) bit ≡ bit_at (slice_index old place) bit) ⊎ (bit_at (slice_index new place) bit ≡ 1)

-- the head does not count, or is older than this generation
abbrev pub IsOlder : ℕ → List ℕ → Type 0
IsOlder generation head = Counts head → generation_at head < generation
