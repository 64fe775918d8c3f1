-- The services beside one step of the device.
use Rattle.std.specs.Prelude.{◌≡◌, ◌||◌, ◌&&◌, ⊤, ℕ, Bool, true, false, List, [], ◌∷◌, Option, Some, None, is_some, if◌then◌else◌}
use Rattle.pn_values.specs.declared.identity.Identity.{Identity}
use Rattle.settings_journal.specs.settings_store.State.{Values}
use Rattle.settings_journal.specs.settings_store.Machine.{Outcome}
use Rattle.device_core.specs.Machine.{step_of}
use Rattle.device_core.specs.State.{Live, Station}
use Rattle.device_frames.specs.declared.event.Event.{Event}
use Rattle.device_frames.specs.declared.event.Event.TheVariants.{Frame, Call, Tick, Neighbour, Application}
use Rattle.device_frames.specs.declared.note.Note.{Note}
use Rattle.device_frames.specs.declared.note.Note.TheVariants.{Done, NotMine, Fault, Filter, OldCall, NoRelation, StaleCycle, Refused}
use Rattle.pn_values.specs.declared.settings.Settings.{Settings}
use Rattle.services.specs.Answer as ip_answer
use Rattle.services.specs.Concern as concern
use Rattle.services.specs.State.{frames_in}
use Rattle.device_station.specs.Serving.{Serving, after_piece, answered, called_answer, completed, disputes, heard, is_piece, meets, met, observed, overheard, piece_in, piece_of, sent_by_tick, takes, ticked}

-- What the services are after a step of the device, the frames that they send, and the note of the station.
pub record Beside : Type 0 where
  pub services : Serving
  pub sent : List (List ℕ)
  pub note : Note

-- The services do nothing.
abbrev pub idle : Serving → Note → Beside
idle state note = record { services = state; sent = []; note = note }

-- Whether the device dropped a frame: it is for another station, of a kind that it does not accept, or not readable.
abbrev pub is_dropped : Note → Bool
is_dropped NotMine = true
is_dropped Fault = true
is_dropped Done = false
is_dropped Filter = false
is_dropped OldCall = false
is_dropped NoRelation = false
is_dropped StaleCycle = false
is_dropped Refused = false

-- The answer beside the device: only to a frame that the device dropped.
abbrev pub answer_beside : Identity → Serving → Note → List ℕ → Option (List ℕ)
answer_beside identity state note bytes = if is_dropped note then answered identity state bytes else None

-- Whether the services accept a frame: they answer it, or count it as a conflict, whatever the device did with it; or it
-- carries a message of a neighbour or a fragment that is joined, and the device dropped it.
abbrev pub is_accepted : Identity → Serving → Note → List ℕ → Bool
is_accepted identity state note bytes =
    is_some (answer_beside identity state note bytes) || (disputes state bytes || (is_dropped note && takes state bytes))

-- A frame. Only a conflict, a message of a neighbour and a fragment of a call change the services.
abbrev pub heard_beside : Identity → Serving → Note → List ℕ → Beside
heard_beside identity state note bytes = record {
  services = if is_dropped note then heard state bytes else overheard state bytes;
  sent = frames_in (answer_beside identity state note bytes);
  note = if is_accepted identity state note bytes then Done else note;
}

-- ---- a frame that the device dropped, by what of it concerns the services

-- The services of the IP address alone handle it.
abbrev pub by_address : Serving → Note → concern.Concern → Beside
by_address state note of = record {
  services = record state { ip = concern.concern_after state.ip of };
  sent = frames_in (concern.concern_answer state.ip of);
  note = if is_some (concern.concern_answer state.ip of) || concern.concern_disputes state.ip of then Done else note;
}

-- It brings a call.
abbrev pub by_call : Identity → Serving → Note → ip_answer.Call → Beside
by_call identity state note call = record {
  services = after_piece state (Some call);
  sent = frames_in (called_answer identity state call);
  note = if is_some (called_answer identity state call) || is_piece (piece_of state (Some call)) then Done else note;
}

-- It may carry a message of a neighbour.
abbrev pub by_neighbour : Serving → Note → List ℕ → Beside
by_neighbour state note bytes = record { services = met state bytes; sent = []; note = if meets state bytes then Done else note }

-- What the services beside a device do with a frame, by what of it concerns them.
abbrev pub by_concern : Identity → Serving → Note → List ℕ → concern.Concern → Beside
by_concern identity state note bytes concern.Nothing = by_address state note concern.Nothing
by_concern identity state note bytes concern.OtherType = by_neighbour state note bytes
by_concern identity state note bytes (concern.Packet destination source packet) = by_address state note (concern.Packet destination source packet)
by_concern identity state note bytes (concern.Calls call) = by_call identity state note call
by_concern identity state note bytes (concern.Asks request) = by_address state note (concern.Asks request)

-- the event of the call that it completes
abbrev pub joined_by_concern : Serving → concern.Concern → Option Event
joined_by_concern state concern.Nothing = None
joined_by_concern state concern.OtherType = None
joined_by_concern state (concern.Packet destination source packet) = None
joined_by_concern state (concern.Calls call) = completed (piece_of state (Some call))
joined_by_concern state (concern.Asks request) = None

-- ---- an event

-- An event, with the note that the device gave it. Events of the application do not concern the services.
abbrev pub event_beside : Identity → Serving → Note → Event → Beside
event_beside identity state note (Frame bytes) = heard_beside identity state note bytes.items
event_beside identity state note Tick = record { services = ticked state; sent = sent_by_tick state; note = note }
event_beside identity state note (Call caller address octets) = idle state note
event_beside identity state note (Application local) = idle state note
event_beside identity state note (Neighbour neighbour) = idle state note

-- At the end of a step the services see the running settings.
abbrev pub observing : Settings → Beside → Beside
observing running beside = record beside { services = observed beside.services running }

-- The services beside a step that left the device with these settings. If power was lost in it, they do nothing.
abbrev pub beside : Identity → Serving → Values → Note → Event → Beside
beside identity state values note event =
    if values.is_lost then idle state note else observing values.running (event_beside identity state note event)

-- ---- calls in fragments

-- The event of the call that a frame completes: only a frame that the device dropped does so.
abbrev pub joined_from : Serving → Note → List ℕ → Option Event
joined_from state note bytes = if is_dropped note then completed (piece_in state bytes) else None

-- The event of the call that an event completes, unless power was lost.
abbrev pub joined_by : Bool → Serving → Note → Event → Option Event
joined_by is_lost state note (Frame bytes) = if is_lost then None else joined_from state note bytes.items
joined_by is_lost state note (Call caller address octets) = None
joined_by is_lost state note Tick = None
joined_by is_lost state note (Application local) = None
joined_by is_lost state note (Neighbour neighbour) = None

-- The call that a frame completed, if it did.
abbrev pub joined_of : Serving → Note → Event → Option Event
joined_of state note event = joined_by false state note event

-- The event of the call that an event completes beside a step that left the device with these settings.
abbrev pub joined_beside : Serving → Values → Note → Event → Option Event
joined_beside state values note event = joined_by values.is_lost state note event

-- ---- conflicts

-- Whether a step of the device sends a frame.
abbrev pub has_any : List (List ℕ) → Bool
has_any [] = false
has_any (frame ∷ frames) = true

-- An event that is not a conflict.
abbrev pub IsUndisputed : Serving → Event → Type 0
IsUndisputed state (Frame bytes) = disputes state bytes.items ≡ false
IsUndisputed state (Call caller address octets) = ⊤
IsUndisputed state Tick = ⊤
IsUndisputed state (Application local) = ⊤
IsUndisputed state (Neighbour neighbour) = ⊤

-- A step that neither drops its event nor sends a frame was no conflict.
abbrev pub ConflictsAreNoticed : Type 0
ConflictsAreNoticed = (outcomes : List Outcome) (station : Station) (live : Live) (state : Serving) (event : Event)
    → is_dropped (step_of outcomes station live event).note ≡ false → has_any (step_of outcomes station live event).frames ≡ false → IsUndisputed state event
