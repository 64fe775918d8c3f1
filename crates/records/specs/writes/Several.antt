-- Several records in one Write (MultipleWrite, index 0xE040; IEC 61158-6-10, 5.2.3).
use Rattle.std.specs.Prelude.{◌+◌, ◌*◌, ◌/◌, ◌==◌, ◌&&◌, ℕ, zero, suc, Bool, true, false, List, [], ◌∷◌, length, take, drop, nat_lt, Option, Some, None, Result, Ok, Err, if◌then◌else◌}
use Rattle.wire.specs.declared.blocks.fault.BlockFault.{BlockFault}
use Rattle.block_codec.specs.declared.block.Block.{Block}
use Rattle.block_codec.specs.Block.{block_of, in_iod_write_req}
use Rattle.record_blocks.specs.declared.write_record.IodWriteReq.{IodWriteReq}
use Rattle.records.specs.writes.Entry.{Entry}

-- Whether a request is that of a list: its index, and API, slot and subslot of all ones.
abbrev pub is_several : IodWriteReq → Bool
is_several request =
    request.header.index == 0xE040
    && (request.header.api == 0xFFFFFFFF && (request.header.slot_number == 0xFFFF && request.header.subslot_number == 0xFFFF))

-- ---- the list

-- The octets of a record with its padding: up to a multiple of 4.
abbrev pub padded : ℕ → ℕ
padded size = (size + 3) / 4 * 4

-- The first entry, and the octets after it, if all octets of its record are there. The padding of the last may be
-- missing, and what it is does not matter.
abbrev pub entry_behind : Option IodWriteReq → List ℕ → Option (Entry × List ℕ)
entry_behind (Some request) behind =
    if nat_lt (length behind) request.header.record_data_length then None
    else Some ((request, take request.header.record_data_length behind), drop (padded request.header.record_data_length) behind)
entry_behind None behind = None

-- A record of a list, and the octets after it.
abbrev pub entry_in : Result (Block × List ℕ) BlockFault → Option (Entry × List ℕ)
entry_in (Ok x) = entry_behind (in_iod_write_req x.0) x.1
entry_in (Err fault) = None

-- The record at the front of these octets, if there is one.
unfoldable pub entry_of : List ℕ → Option (Entry × List ℕ)
entry_of octets = entry_in (block_of octets)

-- Whether octets are a list of at most this many entries, each of them whole.
abbrev pub is_then : Option (Entry × List ℕ) → (List ℕ → Bool) → Bool
is_then (Some x) next = next x.1
is_then None next = false

-- Whether octets are a list of at most this number of records.
unfoldable pub is_list : ℕ → List ℕ → Bool
is_list count [] = true
is_list zero (octet ∷ octets) = false
is_list (suc count) (octet ∷ octets) = is_then (entry_of (octet ∷ octets)) (λ behind. is_list count behind)

-- Its entries.
abbrev pub entries_then : Option (Entry × List ℕ) → (List ℕ → List Entry) → List Entry
entries_then (Some x) next = x.0 ∷ next x.1
entries_then None next = []

-- The records of such a list.
unfoldable pub entries_in : ℕ → List ℕ → List Entry
entries_in zero octets = []
entries_in (suc count) octets = entries_then (entry_of octets) (λ behind. entries_in count behind)

-- A list has at most 16 entries.
abbrev pub most_entries : ℕ
most_entries = 16

-- The records of a list in one Write, if it is one: at most 16.
abbrev pub list_of : List ℕ → Option (List Entry)
list_of octets = if is_list most_entries octets then Some (entries_in most_entries octets) else None

-- The list after a request: as many octets as it counts.
abbrev pub list_behind : IodWriteReq → List ℕ → Option (List Entry)
list_behind request behind =
    if nat_lt (length behind) request.header.record_data_length then None else list_of (take request.header.record_data_length behind)
