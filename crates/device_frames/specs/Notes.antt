-- The numbers of the outcomes of an event.
use Rattle.std.specs.Prelude.{ℕ}
use Rattle.device_frames.specs.declared.note.Note.{Note}
use Rattle.device_frames.specs.declared.note.Note.TheVariants.{Done, NotMine, Fault, Filter, OldCall, NoRelation, StaleCycle, Refused}

-- `Done` has the number 0.
abbrev pub note_number : Note → ℕ
note_number Done = 0
note_number NotMine = 1
note_number Fault = 2
note_number Filter = 3
note_number OldCall = 4
note_number NoRelation = 5
note_number StaleCycle = 6
note_number Refused = 7
