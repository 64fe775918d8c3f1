-- The content of the answer to a Connect (IEC 61158-6-10, 5.2.4).
use Rattle.std.specs.Prelude.{◌≡◌, ◌==◌, ◌&&◌, ◌||◌, ℕ, zero, suc, Bool, true, false, List, length, is_some, if◌then◌else◌, Option, Some, None, Result, Ok, Err}
use Rattle.wire.specs.Formats.{number}
use Rattle.connect_blocks.specs.declared.iocr.IocrBlockRes.{IocrBlockRes}
use Rattle.wire.specs.declared.blocks.fault.BlockFault.{BlockFault}
use Rattle.wire.specs.declared.blocks.fault.BlockFault.TheVariants.{Truncated}
use Rattle.block_codec.specs.declared.block.Block.{Block}
use Rattle.block_codec.specs.declared.block.Block.TheVariants as is
use Rattle.block_codec.specs.Block.{block_of}
use Rattle.connects.specs.declared.answers.alarm_relation.AlarmRelation.{AlarmRelation}
use Rattle.connects.specs.declared.answers.connect.Found.{Found}
use Rattle.connects.specs.answers.AlarmRelation.{alarm_relation}
use Rattle.connects.specs.answers.OtherBlock.{other_block}
use Rattle.connects.specs.answers.Usable.{is_usable}

-- Nothing was read yet.
abbrev pub nothing : Found
nothing = record { relation = false; input = false; output = None; alarm = None; differs = false; deviates = false }

-- ---- the blocks that are looked for

-- Of a number that is found twice the first counts.
abbrev pub first_of : Option ℕ → ℕ → Option ℕ
first_of (Some value) next = Some value
first_of None next = Some next

-- After an IOCRBlockRes: of inputs, of outputs with the FrameID that the device chose, or of neither.
abbrev pub with_iocr : IocrBlockRes → Found → Found
with_iocr block found =
    if block.iocr_type == 1 then record found { input = true }
    else if block.iocr_type == 2 then record found { output = first_of found.output block.frame_id }
    else found

-- After a ModuleDiffBlock: its modules are usable, or one of them is a wrong one.
abbrev pub with_diff : Bool → Found → Found
with_diff usable found = if usable then record found { deviates = true } else record found { differs = true }

-- After a block.
abbrev pub with_block : Block → Found → Found
with_block (is.ArBlockRes block) found = record found { relation = true }
with_block (is.IocrBlockRes block) found = with_iocr block found
with_block (is.ModuleDiffBlock block) found = with_diff (is_usable block.modules) found
with_block block found = found

-- After an AlarmCRBlockRes, with the alarm endpoint of the device.
abbrev pub with_alarm : AlarmRelation → Found → Found
with_alarm block found = record found { alarm = first_of found.alarm block.local_alarm_reference }

-- ---- one block

-- A block that is looked for: it has to be one that can be read.
abbrev pub read_next : Found → Result (Block × List ℕ) BlockFault → Option (Found × List ℕ)
read_next found (Ok x) = Some (with_block x.0 found, x.1)
read_next found (Err fault) = None

-- What was found after an AlarmCRBlockRes, and the octets after it.
abbrev pub alarm_next : Found → Result (AlarmRelation × List ℕ) BlockFault → Option (Found × List ℕ)
alarm_next found (Ok x) = Some (with_alarm x.0 found, x.1)
alarm_next found (Err fault) = None

-- Any other block: it is skipped, whatever its version and its content.
abbrev pub other_next : Found → Result ((ℕ × List ℕ) × List ℕ) BlockFault → Option (Found × List ℕ)
other_next found (Ok x) = Some (found, x.1)
other_next found (Err fault) = None

-- Whether BlockType is that of an ARBlockRes, of an IOCRBlockRes or of a ModuleDiffBlock.
abbrev pub is_looked_for : ℕ → Bool
is_looked_for kind = kind == 0x8101 || (kind == 0x8102 || kind == 0x8104)

-- What was found with the block at the start, by its BlockType, and the rest; none if it can't be read.
abbrev pub next_by : Found → List ℕ → ℕ → Option (Found × List ℕ)
next_by found bytes kind =
    if is_looked_for kind then read_next found (block_of bytes)
    else if kind == 0x8103 then alarm_next found (alarm_relation.read bytes)
    else other_next found (other_block.read bytes)

-- What was found after a block whose type was read.
abbrev pub next_as : Found → List ℕ → Result (ℕ × List ℕ) BlockFault → Option (Found × List ℕ)
next_as found bytes (Ok x) = next_by found bytes x.0
next_as found bytes (Err fault) = None

-- What was found after the next block, and the octets after it.
unfoldable pub next_found : Found → List ℕ → Option (Found × List ℕ)
next_found found bytes = next_as found bytes ((number Truncated 2).read bytes)

-- ---- all of them

-- What follows a block that can be read.
abbrev pub behind_block : Option (Found × List ℕ) → (Found → List ℕ → Option Found) → Option Found
behind_block (Some x) next = next x.0 x.1
behind_block None next = None

-- What was found in octets that are a sequence of blocks, in any order, at most the given number. Nothing was found if one
-- of them cannot be read.
unfoldable pub found_in : ℕ → List ℕ → Found → Option Found
found_in zero bytes found = None
found_in (suc most) bytes found =
    if length bytes == 0 then Some found else behind_block (next_found found bytes) (λ next rest. found_in most rest next)

-- Whether all blocks that a relation needs are there.
abbrev pub is_whole : Found → Bool
is_whole found = found.relation && (found.input && (is_some found.output && is_some found.alarm))

-- The FrameID of outputs and the alarm endpoint that were found before are those that are found after.
pub record Keeps (before after : Found) : Type 0 where
  pub output : (number : ℕ) → before.output ≡ Some number → after.output ≡ Some number
  pub alarm : (number : ℕ) → before.alarm ≡ Some number → after.alarm ≡ Some number

-- ---- what the device chose

-- The FrameID of outputs and the alarm endpoint of the device, and whether it reported modules that deviate from the
-- plan's and are usable.
pub record Chosen : Type 0 where
  pub frame_id : ℕ
  pub reference : ℕ
  pub deviates : Bool

-- What the device chose in its answer, if it named a FrameID of the outputs and its alarm endpoint.
abbrev pub chosen_by : Option ℕ → Option ℕ → Bool → Option Chosen
chosen_by (Some frame_id) (Some reference) deviates = Some (record { frame_id = frame_id; reference = reference; deviates = deviates })
chosen_by (Some frame_id) None deviates = None
chosen_by None alarm deviates = None

-- That of an answer.
abbrev pub chosen_of : Found → Option Chosen
chosen_of found = chosen_by found.output found.alarm found.deviates
