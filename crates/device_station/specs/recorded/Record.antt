-- The contents of a recorded flash, and the effect of calls on them.
use Rattle.std.specs.Prelude.{◌≡◌, ◌+◌, ◌%◌, ◌^◌, ℕ, List, [], ◌∷◌, drop, length, map, take}
use Rattle.flash_model.specs.Calls.{Call, Programs, Erases, Arms}
use Rattle.flash_model.specs.Image.{AreBytes, Image, sector_of, with_sector, programmed, erased}
use Rattle.flash_model.specs.declared.flash.Sector.{Sector}
use Rattle.flash_model.specs.declared.flash.Sector.TheVariants.{First}
use Rattle.flash_model.specs.Memory as memory
use Rattle.settings_journal.specs.Cut.{AreWrites, carried_out}
use Rattle.device_station.specs.recorded.Pushed.{pushed}
use Rattle.device_station.specs.declared.recorded.entry.Entry.{Entry}
use Rattle.device_station.specs.declared.recorded.entry.Entry.TheVariants.{Program, Erase}
use Rattle.device_station.specs.declared.recorded.flash.RecordedFlash.{RecordedFlash}

-- the bytes of both sectors, where the last calls were, the oldest of them first, and a number that grows by one with
-- each call, modulo 2 ^ 32
pub record Record : Type 0 where
  pub image : Image
  pub recent : List Entry
  pub count : ℕ

-- the bytes of both sectors
abbrev pub image_of : {S : ℕ} → RecordedFlash S → Image
image_of flash = memory.image_of flash.memory

-- the record of a flash
abbrev pub record_of : {S : ℕ} → RecordedFlash S → Record
record_of flash = record { image = image_of flash; recent = flash.entries.items; count = flash.count }

-- where a call is, and how many bytes it programs; an order is never stored
abbrev pub entry_of : Call → Entry
entry_of (Programs sector place bytes) = Program sector place (length bytes)
entry_of (Erases sector) = Erase sector
entry_of (Arms order) = Erase First

-- the call of an entry, with the bytes that the image has there
abbrev pub call_in : Image → Entry → Call
call_in image (Program sector place many) = Programs sector place (take many (drop place (sector_of image sector)))
call_in image (Erase sector) = Erases sector

-- the calls of a record, with the bytes that its image has there
abbrev pub calls_in : Record → List Call
calls_in recorded = map (call_in recorded.image) recorded.recent

-- the stored calls, with the bytes that the flash has there now
abbrev pub recalled : {S : ℕ} → RecordedFlash S → List Call
recalled flash = calls_in (record_of flash)

-- the record with these bytes in a sector that was erased
abbrev pub filled : ℕ → Record → Sector → List ℕ → Record
filled size before sector bytes = record before { image = with_sector before.image sector (programmed (erased size) 0 bytes) }

-- the record after a call, which is carried out on the image
abbrev pub after_one : Record → Call → Record
after_one before call = record { image = carried_out before.image call; recent = pushed before.recent (entry_of call); count = (before.count + 1) % 2 ^ 32 }

-- the record after some calls, in order
abbrev pub after_all : Record → List Call → Record
after_all before [] = before
after_all before (call ∷ calls) = after_all (after_one before call) calls

-- what a call programs are bytes
abbrev pub HasBytes : Call → Type 0
HasBytes (Programs sector place bytes) = AreBytes bytes
HasBytes (Erases sector) = Unit {0}
HasBytes (Arms order) = Unit {0}

-- what each of these calls programs are bytes
abbrev pub HaveBytes : List Call → Type 0
HaveBytes [] = Unit {0}
HaveBytes (call ∷ calls) = HasBytes call × HaveBytes calls

-- The calls program bytes. If each of them is a write of at most as many bytes as a base has, the record grew by exactly
-- these calls, in order, and each was carried out on the image.
abbrev pub IsAsked : {S : ℕ} → RecordedFlash S → List Call → RecordedFlash S → Type 0
IsAsked old calls new = HaveBytes calls × (AreWrites calls → record_of new ≡ after_all (record_of old) calls)
