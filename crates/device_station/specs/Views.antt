-- What the services' results mean, with the call that was written beside them.
use Rattle.std.specs.Prelude.{ℕ, Option, Some, None, List, []}
use Rattle.services.specs.Answer.{frame_in}
use Rattle.device_frames.specs.declared.event.Event.{Event}
use Rattle.device_frames.specs.declared.event.Event.TheVariants.{Frame, Call, Tick, Neighbour, Application}
use Rattle.device_frames.specs.declared.note.Note.{Note}
use Rattle.device_frames.specs.declared.note.Note.TheVariants.{Done}
use Rattle.device_station.specs.declared.device_services.Attended.{Attended}
use Rattle.device_station.specs.declared.device_services.Attended.TheVariants as attended
use Rattle.device_station.specs.declared.device_services.Piece.{Piece as Found}
use Rattle.device_station.specs.declared.device_services.Piece.TheVariants as found
use Rattle.device_station.specs.Serving.{Completes, Other, Piece, Taken}

-- what a frame is, with the call that it completes
abbrev pub piece_as : Found → Event → Piece
piece_as found.Other call = Other
piece_as (found.Taken reply) call = Taken (frame_in reply)
piece_as found.Completes call = Completes call

-- the note of the station
abbrev pub note_in : Attended → Note
note_in (attended.Noted note) = note
note_in attended.Joined = Done

-- the call that was completed
abbrev pub joined_in : Attended → Event → Option Event
joined_in (attended.Noted note) call = None
joined_in attended.Joined call = Some call

-- the octets of a call
abbrev pub call_octets : Event → List ℕ
call_octets (Frame bytes) = []
call_octets (Call caller address octets) = octets.items
call_octets Tick = []
call_octets (Application local) = []
call_octets (Neighbour neighbour) = []
