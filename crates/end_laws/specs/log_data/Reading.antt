-- LogData as a reader finds it: numbers and octets at their places, the highest octet of a number first (IEC 61158-6-10, 5.2.3). It shares
-- nothing with the definition of what is written.
use Rattle.std.specs.Prelude.{◌≡◌, ◌+◌, ◌^◌, ◌<◌, ℕ, zero, suc, List, [], ◌∷◌, drop, length, take}
use Rattle.wire.specs.Formats.{big_number}
use Rattle.rpc_core.specs.declared.response.Status.{Status}
use Rattle.device_records.specs.declared.log_data.entry.LogEntry.{LogEntry}

-- The number of this many octets at a place, and these octets themselves.
abbrev pub number_at : ℕ → ℕ → List ℕ → ℕ
number_at place size octets = big_number size (drop place octets)

-- The octets at a place, of this number.
abbrev pub octets_at : ℕ → ℕ → List ℕ → List ℕ
octets_at place size octets = take size (drop place octets)

-- PNIOStatus at a place: ErrorCode, ErrorDecode, ErrorCode1 and ErrorCode2.
abbrev pub status_at : ℕ → List ℕ → Status
status_at place octets = record {
  code = number_at place 1 octets;
  decode = number_at (place + 1) 1 octets;
  code1 = number_at (place + 2) 1 octets;
  code2 = number_at (place + 3) 1 octets;
}

-- An entry at a place: LocalTimeStamp in 8 octets, ARUUID in 16, PNIOStatus in 4. EntryDetail, which has 4, is not read.
abbrev pub entry_at : ℕ → List ℕ → LogEntry
entry_at place octets = record { time = number_at place 8 octets; uuid = octets_at (place + 8) 16 octets; status = status_at (place + 24) octets }

-- This many entries, one after another, each of 32 octets.
abbrev pub entries_at : ℕ → List ℕ → List LogEntry
entries_at zero octets = []
entries_at (suc count) octets = entry_at 0 octets ∷ entries_at count (drop 32 octets)

-- The octets are LogData of version 1.0: BlockType 0x0019; BlockLength, which counts what follows it; ActualLocalTimeStamp;
-- NumberOfLogEntries; and the entries.
pub record IsLogData (octets : List ℕ) (now : ℕ) (log : List LogEntry) : Type 0 where
  pub kind : number_at 0 2 octets ≡ 0x0019
  pub size : number_at 2 2 octets + 4 ≡ length octets
  pub version : octets_at 4 2 octets ≡ 1 ∷ 0 ∷ []
  pub time : number_at 6 8 octets ≡ now
  pub count : number_at 14 2 octets ≡ length log
  pub entries : entries_at (number_at 14 2 octets) (drop 16 octets) ≡ log

-- The fields of an entry have their sizes.
pub record IsEntry (entry : LogEntry) : Type 0 where
  pub time : entry.time < 256 ^ 8
  pub uuid : length entry.uuid ≡ 16
  pub code : entry.status.code < 256
  pub decode : entry.status.decode < 256
  pub code1 : entry.status.code1 < 256
  pub code2 : entry.status.code2 < 256
