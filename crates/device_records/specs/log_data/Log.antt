-- The log of a device, and LogData, the record that tells it (IEC 61158-6-10, 5.2.3).
use Rattle.std.specs.Prelude.{◌==◌, ◌+◌, ◌*◌, ◌++◌, ℕ, List, [], ◌∷◌, drop, length, replicate, if◌then◌else◌}
use Rattle.wire.specs.Formats.{big_bytes}
use Rattle.rpc_core.specs.declared.response.Status.{Status}
use Rattle.device_records.specs.declared.log_data.entry.LogEntry.{LogEntry}

-- What is at a place of the list that is not in use.
abbrev pub blank : LogEntry
blank = record { time = 0; uuid = replicate 16 0; status = record { code = 0; decode = 0; code1 = 0; code2 = 0 } }

-- The log after one more entry: of 16, the oldest one is dropped.
abbrev pub logged : LogEntry → List LogEntry → List LogEntry
logged entry log = (if length log == 16 then drop 1 log else log) ++ entry ∷ []

-- PNIOStatus: ErrorCode, ErrorDecode, ErrorCode1 and ErrorCode2.
abbrev pub status_bytes : Status → List ℕ
status_bytes status = status.code ∷ status.decode ∷ status.code1 ∷ status.code2 ∷ []

-- An entry: LocalTimeStamp, ARUUID, PNIOStatus, and EntryDetail 0.
abbrev pub entry_bytes : LogEntry → List ℕ
entry_bytes entry = big_bytes 8 entry.time ++ entry.uuid ++ status_bytes entry.status ++ 0 ∷ 0 ∷ 0 ∷ 0 ∷ []

-- The entries of the log, as octets.
abbrev pub entries_bytes : List LogEntry → List ℕ
entries_bytes [] = []
entries_bytes (entry ∷ entries) = entry_bytes entry ++ entries_bytes entries

-- LogData, of version 1.0: BlockType 0x0019, BlockLength, the version, ActualLocalTimeStamp, NumberOfLogEntries, and the
-- entries, the oldest first.
unfoldable pub log_bytes : ℕ → List LogEntry → List ℕ
log_bytes now log = big_bytes 2 0x0019 ++ big_bytes 2 (12 + 32 * length log) ++ (1 ∷ 0 ∷ []) ++ big_bytes 8 now ++ big_bytes 2 (length log)
    ++ entries_bytes log
