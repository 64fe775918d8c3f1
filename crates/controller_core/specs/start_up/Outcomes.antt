-- What the response to a Write says of its records (IEC 61158-6-10, 5.2.3).
use Rattle.std.specs.Prelude.{◌+◌, ◌/◌, ◌%◌, ℕ, zero, suc, Bool, true, false, List, length, Option, Some, None, Result, Ok, Err, if◌then◌else◌}
use Rattle.rpc_core.specs.declared.response.Status.{Status}
use Rattle.rpc_core.specs.Response.{is_done}
use Rattle.wire.specs.declared.blocks.fault.BlockFault.{BlockFault}
use Rattle.block_codec.specs.declared.block.Block.{Block}
use Rattle.block_codec.specs.Block.{block_of, in_iod_write_res}
use Rattle.record_blocks.specs.declared.write_record.IodWriteRes.{IodWriteRes}
use Rattle.plans.specs.declared.parts.Parts.{Parts}
use Rattle.controller_messages.specs.Requests.{group_of}
use Rattle.controller_core.specs.declared.start_up.outcomes.Outcomes.{Outcomes}
use Rattle.controller_core.specs.declared.start_up.outcomes.Outcomes.TheVariants.{AllWritten, Refused, Unreadable}

-- The status that a PNIOStatus is: its first octet is the highest.
abbrev pub status_in : ℕ → Status
status_in number = record { code = number / 16777216 % 256; decode = number / 65536 % 256; code1 = number / 256 % 256; code2 = number % 256 }

-- The PNIOStatus of the first block, and the octets after it.
abbrev pub outcome_behind : Option IodWriteRes → List ℕ → Option (Status × List ℕ)
outcome_behind (Some block) behind = Some (status_in block.pnio_status, behind)
outcome_behind None behind = None

-- The outcome of a record of a list, and the octets after it.
abbrev pub outcome_in : Result (Block × List ℕ) BlockFault → Option (Status × List ℕ)
outcome_in (Ok x) = outcome_behind (in_iod_write_res x.0) x.1
outcome_in (Err fault) = None

-- The outcome at the front of these octets, if there is one.
unfoldable pub outcome_at : List ℕ → Option (Status × List ℕ)
outcome_at octets = outcome_in (block_of octets)

-- The outcomes from a record on, by its block: if it was written, the records after it decide.
abbrev pub outcomes_by : Option (Status × List ℕ) → ℕ → (List ℕ → Outcomes) → Outcomes
outcomes_by (Some x) place next = if is_done x.0 then next x.1 else Refused place x.0
outcomes_by None place next = Unreadable

-- The outcomes of this number of records from a place on, one block each: the first one that is refused decides.
unfoldable pub outcomes_from : ℕ → ℕ → List ℕ → Outcomes
outcomes_from zero place octets = AllWritten
outcomes_from (suc count) place octets = outcomes_by (outcome_at octets) place (λ behind. outcomes_from count (place + 1) behind)

-- A list: the block of its header, and then one for each record.
abbrev pub outcomes_behind : Option (Status × List ℕ) → ℕ → Outcomes
outcomes_behind (Some x) count = outcomes_from count 0 x.1
outcomes_behind None count = Unreadable

-- The positive response to the Write with this number. If it carries one record, the status of the response says it all.
abbrev pub outcomes_of : Parts → ℕ → List ℕ → Outcomes
outcomes_of plan number blocks =
    if plan.multiple_write then outcomes_behind (outcome_at blocks) (length (group_of plan number)) else AllWritten

-- Whether all records of a Write were written.
abbrev pub is_all_written : Outcomes → Bool
is_all_written AllWritten = true
is_all_written (Refused place status) = false
is_all_written Unreadable = false

-- Whether all records of a list were written.
abbrev pub are_written : Parts → ℕ → List ℕ → Bool
are_written plan number blocks = is_all_written (outcomes_of plan number blocks)
