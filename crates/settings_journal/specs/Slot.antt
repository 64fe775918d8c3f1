-- The slots of a sector: 256 bytes each, after the head. A slot holds a command, and its gate makes the command count.
use Rattle.std.specs.Prelude.{◌≡◌, ◌≢◌, ◌⊎◌, ◌+◌, ◌-◌, ◌*◌, ◌==◌, if◌then◌else◌, ℕ, zero, suc, Bool, true, false, List, [], ◌∷◌, ◌++◌, length, take, drop, slice_index, Option, Some, None, nat_eq, nat_le}
use Rattle.std.specs.Cmp.Lexicographic.{pointwise}
use Rattle.pn_values.specs.Command.{apply}
use Rattle.pn_values.specs.IpSuite.{Suite, IsSuite, zero_suite}
use Rattle.pn_values.specs.StationName.{IsNameOrNone}
use Rattle.pn_values.specs.declared.command.Command.{Command}
use Rattle.pn_values.specs.declared.command.Command.TheVariants.{SetName, SetIp, SetIm, ResetApplication, ResetCommunication, ResetAll}
use Rattle.pn_values.specs.declared.im_value.ImValue.TheVariants.{Im1, Im2, Im3, Im4}
use Rattle.pn_values.specs.declared.settings.Settings.{Settings}
use Rattle.flash_model.specs.Image.{erased}
use Rattle.settings_journal.specs.declared.head.Version.{Version}
use Rattle.settings_journal.specs.declared.head.Version.TheVariants.{One, Two}

-- the offset of a slot in its sector
abbrev pub place_of : ℕ → ℕ
place_of number = 512 + 256 * number

-- the slot of this number
abbrev pub slot_at : List ℕ → ℕ → List ℕ
slot_at sector number = take 256 (drop (place_of number) sector)

-- the gate: 00 is open
abbrev pub slot_gate : List ℕ → ℕ
slot_gate slot = slice_index slot 255

-- ---- what is written

-- kind, length and payload
abbrev pub entry : ℕ → List ℕ → List ℕ
entry kind payload = kind ∷ length payload ∷ payload

-- The entry of a command. If its value is not stored, the entry has only the kind.
abbrev pub entry_of : Command → List ℕ
entry_of (SetName true name) = entry 1 name
entry_of (SetName false name) = entry 2 []
entry_of (SetIp true suite) = entry 3 (suite.address ++ suite.mask ++ suite.gateway)
entry_of (SetIp false suite) = entry 4 []
entry_of (SetIm (Im1 text)) = entry 5 text
entry_of (SetIm (Im2 text)) = entry 6 text
entry_of (SetIm (Im3 text)) = entry 7 text
entry_of ResetApplication = entry 8 []
entry_of ResetCommunication = entry 9 []
entry_of ResetAll = entry 10 []
entry_of (SetIm (Im4 text)) = entry 11 text

-- an open slot with this entry
pub record HasEntry (slot entry : List ℕ) : Type 0 where
  pub front : take (length entry) slot ≡ entry
  pub gate : slot_gate slot ≡ 0

-- ---- what is read

-- the command, if the payload has the required length
abbrev pub sized : ℕ → List ℕ → Command → Option Command
sized size payload command = if length payload == size then Some command else None

-- address, mask and gateway, one after the other
abbrev pub suite_in : List ℕ → Suite
suite_in payload = record { address = take 4 payload; mask = take 4 (drop 4 payload); gateway = take 4 (drop 8 payload) }

-- the command that sets I&M4; version 1 has none
abbrev pub im4_in : Version → List ℕ → Option Command
im4_in One payload = None
im4_in Two payload = sized 54 payload (SetIm (Im4 payload))

-- the command of a kind and a payload, if the kind exists and the payload has the required length
abbrev pub command_of : Version → ℕ → List ℕ → Option Command
command_of version kind payload =
    if kind == 1 then Some (SetName true payload)
    else if kind == 2 then sized 0 payload (SetName false [])
    else if kind == 3 then sized 12 payload (SetIp true (suite_in payload))
    else if kind == 4 then sized 0 payload (SetIp false zero_suite)
    else if kind == 5 then sized 54 payload (SetIm (Im1 payload))
    else if kind == 6 then sized 16 payload (SetIm (Im2 payload))
    else if kind == 7 then sized 54 payload (SetIm (Im3 payload))
    else if kind == 8 then sized 0 payload ResetApplication
    else if kind == 9 then sized 0 payload ResetCommunication
    else if kind == 10 then sized 0 payload ResetAll
    else if kind == 11 then im4_in version payload
    else None

-- the command of a slot, whose payload has at most 240 bytes
abbrev pub command_in : Version → List ℕ → Option Command
command_in version slot =
    if nat_le (slice_index slot 1) 240 then command_of version (slice_index slot 0) (take (slice_index slot 1) (drop 2 slot)) else None

-- a name or a suite that is stored is one that a station may have
abbrev pub IsCommand : Command → Type 0
IsCommand (SetName true name) = IsNameOrNone name
IsCommand (SetName false name) = Unit {0}
IsCommand (SetIp true suite) = IsSuite suite
IsCommand (SetIp false suite) = Unit {0}
IsCommand (SetIm value) = Unit {0}
IsCommand ResetApplication = Unit {0}
IsCommand ResetCommunication = Unit {0}
IsCommand ResetAll = Unit {0}

-- the given command if it is valid; none if no command is given or it is not valid
abbrev pub IsHandled : Option Command → Option Command → Type 0
IsHandled meant (Some command) = (meant ≡ Some command) × IsCommand command
IsHandled meant None = (command : Command) → meant ≡ Some command → ¬ IsCommand command

-- the open slot holds this command
pub record Keeps (version : Version) (slot : List ℕ) (command : Command) : Type 0 where
  pub is : command_in version slot ≡ Some command
  pub valid : IsCommand command

-- a slot with the entry holds a command with the same effect on any settings as this command
abbrev pub IsEntryOf : List ℕ → Command → Type 0
IsEntryOf entry command =
    (slot : List ℕ) → HasEntry slot entry → (kept : Command) × Keeps Two slot kept × ((settings : Settings) → apply kept settings ≡ apply command settings)

-- A slot turns the first settings into the second: a closed slot changes nothing, and the command of an open one is
-- applied.
abbrev pub Follows : Version → List ℕ → Settings → Settings → Type 0
Follows version slot old new =
    ((slot_gate slot ≢ 0) × (new ≡ old)) ⊎ ((slot_gate slot ≡ 0) × ((command : Command) × Keeps version slot command × (new ≡ apply command old)))

-- this many slots of a sector, in order, turn the first settings into the second
abbrev pub After : Version → List ℕ → ℕ → Settings → Settings → Type 0
After version sector zero base settings = settings ≡ base
After version sector (suc count) base settings =
    (between : Settings) × After version sector count base between × Follows version (slot_at sector count) between settings

-- each of its bytes is FF
abbrev pub is_blank : List ℕ → Bool
is_blank slot = pointwise nat_eq slot (erased 256)

-- the next slot, given a slot of this number: the one after it if it is in use
abbrev pub next_behind : List ℕ → ℕ → ℕ → ℕ
next_behind slot number next = if is_blank slot then next else suc number

-- among this many slots, the one after the last that holds a byte other than FF
abbrev pub next_slot : List ℕ → ℕ → ℕ
next_slot sector zero = 0
next_slot sector (suc count) = next_behind (slot_at sector count) count (next_slot sector count)

-- how many slots are left from the next one on; a sector of version 1 has none left, since it is only read
abbrev pub left_by : Version → ℕ → ℕ → ℕ
left_by One count next = 0
left_by Two count next = count - next

-- how many slots of a sector are left, of this many
abbrev pub free_in : Version → List ℕ → ℕ → ℕ
free_in version sector count = left_by version count (next_slot sector count)
