-- The lines that are printed.
use Rattle.std.specs.Prelude.{ℕ, List, [], ◌∷◌, ◌++◌, codes, decimal, Option, Some, None}
use Rattle.std.specs.List.{flat_map}
use Rattle.hex.specs.Hex.{encode_lower}
use Rattle.settings_journal.specs.declared.journal.BootFault.{BootFault}
use Rattle.settings_journal.specs.declared.journal.BootFault.TheVariants.{FlashFault, Foreign}
use Rattle.device_frames.specs.declared.note.Note.{Note}
use Rattle.device_frames.specs.declared.note.Note.TheVariants.{Done, NotMine, Fault, Filter, OldCall, NoRelation, StaleCycle, Refused}

-- A line of the output, with the line feed at its end.
abbrev pub printed : List ℕ → List ℕ
printed line = line ++ 10 ∷ []

-- The result of a start: refused for this reason, or not refused.
abbrev pub boot_line : Option BootFault → List ℕ
boot_line None = printed (codes "boot ok")
boot_line (Some FlashFault) = printed (codes "boot flash-fault")
boot_line (Some Foreign) = printed (codes "boot foreign")

-- The answer to a line while the power is off.
abbrev pub off_line : List ℕ
off_line = printed (codes "off")

-- The line for power that was lost in an event.
abbrev pub lost_line : List ℕ
lost_line = printed (codes "power lost")

-- A frame that is sent, in hex.
unfoldable pub out_line : List ℕ → List ℕ
out_line frame = printed (codes "out " ++ encode_lower frame)

-- Frames that are sent, the first of them first.
abbrev pub out_lines : List (List ℕ) → List ℕ
out_lines frames = flat_map out_line frames

-- The word for each note.
abbrev pub note_word : Note → List ℕ
note_word Done = codes "done"
note_word NotMine = codes "not-mine"
note_word Fault = codes "fault"
note_word Filter = codes "filter"
note_word OldCall = codes "old-call"
note_word NoRelation = codes "no-relation"
note_word StaleCycle = codes "stale-cycle"
note_word Refused = codes "refused"

-- The result of an event.
unfoldable pub note_line : Note → List ℕ
note_line note = printed (codes "note " ++ note_word note)

-- The number of frames handed to the device, and the number handed to the controller.
unfoldable pub moved_line : ℕ → ℕ → List ℕ
moved_line to_device to_controller = printed (codes "moved " ++ decimal to_device ++ codes " " ++ decimal to_controller)
