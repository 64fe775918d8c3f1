-- The state of a chip whose host carries out calls one after the other and is cut off.
use Rattle.std.specs.Prelude.{◌≡◌, ◌⊎◌, ◌+◌, ◌≤◌, List, [], ◌∷◌, length}
use Rattle.pn_values.specs.declared.settings.Settings.{Settings}
use Rattle.flash_model.specs.Calls.{Call, Programs, Erases, Arms}
use Rattle.flash_model.specs.Image.{Image, IsImage, sector_of, with_sector, programmed, erased}
use Rattle.flash_model.specs.Torn.{Torn}
use Rattle.settings_journal.specs.Commit.{IsKept}
use Rattle.settings_journal.specs.Image.{LeftByDevice}

-- the image after a call
abbrev pub carried_out : Image → Call → Image
carried_out image (Programs sector place bytes) = with_sector image sector (programmed (sector_of image sector) place bytes)
carried_out image (Erases sector) = with_sector image sector (erased (length (sector_of image sector)))
carried_out image (Arms order) = image

-- the image after several calls, in order
abbrev pub all_carried_out : Image → List Call → Image
all_carried_out image [] = image
all_carried_out image (call ∷ calls) = all_carried_out (carried_out image call) calls

-- The call was cut short: each bit of its range is old or as the call would have left it, and everything else is
-- unchanged. This includes a call that did not begin and one that just ended.
abbrev pub IsCutShort : Image → Call → Image → Type 0
IsCutShort image (Programs sector place bytes) chip = Torn sector place (place + length bytes) (programmed (sector_of image sector) place bytes) image chip
IsCutShort image (Erases sector) chip = Torn sector 0 (length (sector_of image sector)) (erased (length (sector_of image sector))) image chip
IsCutShort image (Arms order) chip = chip ≡ image

-- The calls were carried out in order and cut off: a prefix of them is done and the next one was cut short, or all are
-- done.
abbrev pub CutOff : Image → List Call → Image → Type 0
CutOff image [] chip = chip ≡ image
CutOff image (call ∷ calls) chip = IsCutShort image call chip ⊎ CutOff (carried_out image call) calls chip

-- Wherever these calls are cut off, the chip is left by this device, and a start on it gives the old settings or the
-- new ones.
abbrev pub AreSafe : Image → List Call → Settings → Settings → Type 0
AreSafe image calls before now = (chip : Image) → IsImage (length image.first) chip → CutOff image calls chip → LeftByDevice image → IsKept chip before now

-- an erase, or a program of at most as many bytes as a base has; not an order
abbrev pub IsWrite : Call → Type 0
IsWrite (Programs sector place bytes) = length bytes ≤ 437
IsWrite (Erases sector) = Unit {0}
IsWrite (Arms order) = ⊥

-- each of these calls is an erase, or a program of at most as many bytes as a base has
abbrev pub AreWrites : List Call → Type 0
AreWrites [] = Unit {0}
AreWrites (call ∷ calls) = IsWrite call × AreWrites calls
