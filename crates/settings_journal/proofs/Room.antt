-- The number of commits left fits in 32 bits.
use Rattle.std.proofs.Common.{◌≡◌, ◌+◌, ◌*◌, ◌≤◌, ℕ, ap, arith, Bool, false, Option, Some, None}
use Rattle.std.proofs.Math.Nat.{mul-le-mul}
use Rattle.pn_values.specs.declared.settings.Settings.{Settings}
use Rattle.flash_model.specs.Image.{Image, IsImage, IsSectorSize, slots_in, sector_of}
use Rattle.flash_model.specs.declared.flash.Sector.{Sector}
use Rattle.flash_model.specs.declared.flash.Sector.TheVariants.{First, Second}
use Rattle.settings_journal.specs.Head.{head_of, version_at}
use Rattle.settings_journal.specs.Image.{StartsAt, commits_left, left_in, slots_of}
use Rattle.settings_journal.specs.Slot.{left_by, next_slot}
use Rattle.settings_journal.specs.declared.head.Version.{Version}
use Rattle.settings_journal.specs.declared.head.Version.TheVariants.{One, Two}

few_by : (version : Version) (count next : ℕ) → left_by version count next ≤ count
few_by One count next = omega arith
few_by Two count next = omega arith

few_in : (size : ℕ) (image : Image) (sector : Sector) → IsImage size image → IsSectorSize size → left_in (sector_of image sector) ≤ 255
few_in size image First sized wide =
    let few = few_by (version_at (head_of image.first)) (slots_of image.first) (next_slot image.first (slots_of image.first)) in
    let long = ap slots_in sized.first_size in
    omega (arith, few, long, wide.at_most)
few_in size image Second sized wide =
    let few = few_by (version_at (head_of image.second)) (slots_of image.second) (next_slot image.second (slots_of image.second)) in
    let long = ap slots_in sized.second_size in
    omega (arith, few, long, wide.at_most)

-- a start finds at most 255 slots
pub few_free : (size : ℕ) (image : Image) (active : Option Sector) (settings : Settings) (generation free : ℕ) → IsImage size image → IsSectorSize size
    → StartsAt image active settings generation free → free ≤ 255
few_free size image (Some sector) settings generation free sized wide starts =
    let few = few_in size image sector sized wide in
    omega (arith, few, starts.3)
few_free size image None settings generation free sized wide starts = omega (arith, starts.3)

-- the bases and their slots
pub few_bases : (generations slots : ℕ) → generations ≤ 65535 → slots ≤ 255 → generations * (slots + 1) ≤ 16776960
few_bases generations slots low few = mul-le-mul {n₁ = generations} {m₁ = slots + 1} {n₂ = 65535} {m₂ = 256} low (omega (arith, few))

-- one commit fewer is left
pub one_fewer : (failed : Bool) (before now : ℕ) → failed ≡ false → now + 1 ≡ before → commits_left failed now + 1 ≡ commits_left failed before
one_fewer failed before now going fewer = rw going fewer
