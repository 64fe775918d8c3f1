-- The line that shows what is asked of the application of the device.
use Rattle.std.specs.Prelude.{ℕ, List, ◌++◌, codes, decimal, Option, Some, None}
use Rattle.asked_records.specs.Asked.{Seen, Want, to_read, to_write}
use Rattle.script_lines.specs.Text.{printed}
use Rattle.script_lines.specs.Reports.{octets_word, spaced}

-- The octets of a record, of which this number is sent, or that these octets are written.
abbrev pub want_words : Want → List ℕ
want_words (to_read length) = codes "read " ++ decimal length
want_words (to_write octets) = codes "write " ++ octets_word octets

-- The number of the question, slot, subslot and index, and what is wanted of the record; '-' if nothing is asked.
abbrev pub asked_words : Option Seen → List ℕ
asked_words None = codes "-"
asked_words (Some asked) =
    decimal asked.number ++ spaced asked.slot ++ spaced asked.subslot ++ spaced asked.index ++ codes " " ++ want_words asked.want

-- What is asked of the application.
unfoldable pub asked_line : Option Seen → List ℕ
asked_line asked = printed (codes "asked " ++ asked_words asked)
