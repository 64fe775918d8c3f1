-- All that is beside a device in a station, as one machine: the services of its IP address, its neighbours by LLDP, and the
-- calls of which fragments came.
use Rattle.std.specs.Prelude.{◌≡◌, ◌<◌, ◌++◌, ◌&&◌, ◌||◌, ℕ, zero, suc, min, Bool, true, false, List, [], ◌∷◌, Option, Some, None, nat_eq, if◌then◌else◌}
use Rattle.std.specs.Option.{option_map}
use Rattle.std.specs.Cmp.Lexicographic.{pointwise}
use Rattle.pn_values.specs.declared.identity.Identity.{Identity}
use Rattle.pn_values.specs.declared.settings.Settings.{Settings}
use Rattle.services.specs.State as ip
use Rattle.services.specs.Answer as ip_answer
use Rattle.services.specs.Leaps as ip_leaps
use Rattle.services.specs.declared.announcement.Role.TheVariants as role
use Rattle.rpc_core.specs.call_headers.Unserved.{unserved_answer}
use Rattle.rpc_services.specs.endpoint_mapper.Mapper as mapper
use Rattle.device_frames.specs.declared.event.Event.{Event}
use Rattle.device_frames.specs.declared.event.Event.TheVariants.{Call as Joined, Neighbour as Met}
use Rattle.frame_codec.specs.Frame.{frame_bytes}
use Rattle.rpc_services.specs.declared.pieces.piece.Kind.TheVariants.{Calls}
use Rattle.rpc_services.specs.pieces.State as calls
use Rattle.lldp.specs.declared.neighbour.Neighbour.{Neighbour}
use Rattle.lldp.specs.declared.station.Link.{Link}
use Rattle.lldp.specs.declared.machine.Heard.{Heard}
use Rattle.lldp.specs.declared.machine.Heard.TheVariants.{Nothing, Same, Changed}
use Rattle.lldp.specs.Announcement as lldp
use Rattle.lldp.specs.Frame.{told_in}
use Rattle.lldp.specs.State as near
use Rattle.lldp.specs.Leaps as near_leaps

-- What is beside a device: the services of its IP address, its neighbour, its running name, what the host says of the link:
-- whether it is up, and which link it is; whether the neighbour changed since it was reported to the device; and the calls of which
-- fragments are missing.
pub record Serving : Type 0 where
  pub ip : ip.State
  pub near : near.State
  pub name : List ℕ
  pub is_up : Bool
  pub link : Option Link
  pub has_news : Bool
  pub pieces : calls.State

-- What is beside a device at its start, with these running settings.
abbrev pub serving_at : Identity → Settings → Serving
serving_at identity running = record {
  ip = ip.started role.Device identity.mac running.suite.address;
  near = near.started identity.mac;
  name = running.name;
  is_up = true;
  link = None;
  has_news = false;
  pieces = calls.started Calls;
}

-- At the end of a step it sees the running settings. Whether it knows them already.
abbrev pub observed : Serving → Settings → Serving
observed serving running = record serving { ip = ip.observed serving.ip running.suite.address; name = running.name }

-- Whether the services know these running settings.
abbrev pub knows : Serving → Settings → Bool
knows serving running = pointwise nat_eq running.suite.address serving.ip.address && pointwise nat_eq running.name serving.name

-- ---- frames

-- The one or else the other.
abbrev pub or_else : {A : Type 0} → Option A → Option A → Option A
or_else (Some one) other = Some one
or_else None other = other

-- ---- calls in fragments

-- What a frame that the device dropped is to the calls of which fragments are missing: it brings no fragment that is accepted; it
-- brings one that is, with the frame that answers it, if one does; or it brings the one that completes a call, as the event by which
-- the device is given that call.
pub data Piece : Type 0 where
  Other : Piece
  Taken : (reply : Option (List ℕ)) → Piece
  Completes : (call : Event) → Piece

-- The frame that takes an answer to the sender of a call.
abbrev pub reply_to : Serving → ip_answer.Call → List ℕ → List ℕ
reply_to serving call body = frame_bytes (ip_answer.call_reply_of serving.ip.mac serving.ip.address call.source call.caller body)

-- A fragment that is not joined is accepted only if it is acknowledged.
abbrev pub dropped_by : Option (List ℕ) → Piece
dropped_by None = Other
dropped_by (Some reply) = Taken (Some reply)

-- The frame that refuses a whole call that nobody serves, as it refuses one that comes in one datagram.
abbrev pub refused_by : Serving → ip_answer.Call → List ℕ → Option (List ℕ)
refused_by serving call octets = option_map (reply_to serving call) (unserved_answer octets)

-- A whole call is the device's, unless it is refused.
abbrev pub completed_or : Event → Option (List ℕ) → Piece
completed_or call None = Completes call
completed_or call (Some refusal) = Taken (Some refusal)

-- What a fragment is, by what becomes of it.
abbrev pub piece_by : Serving → ip_answer.Call → calls.Outcome → Piece
piece_by serving call calls.Nothing = Other
piece_by serving call (calls.Drops fack) = dropped_by (option_map (reply_to serving call) fack)
piece_by serving call (calls.Waits fack) = Taken (option_map (reply_to serving call) fack)
piece_by serving call (calls.Joined octets) =
    completed_or (Joined (record { mac = call.source; endpoint = call.caller }) serving.ip.address (record { items = octets }))
    (refused_by serving call octets)

-- What a frame is to the calls of which fragments are missing.
abbrev pub piece_of : Serving → Option ip_answer.Call → Piece
piece_of serving None = Other
piece_of serving (Some call) = piece_by serving call (calls.heard_as serving.pieces call.body)

-- What the frame is: only a datagram to the port of calls and the running address can bring a fragment.
abbrev pub piece_in : Serving → List ℕ → Piece
piece_in serving bytes = piece_of serving (ip_answer.call_in serving.ip bytes)

-- Whether it is a fragment that is accepted.
abbrev pub is_piece : Piece → Bool
is_piece Other = false
is_piece (Taken reply) = true
is_piece (Completes call) = true

-- the event of the call that it completes
abbrev pub completed : Piece → Option Event
completed Other = None
completed (Taken reply) = None
completed (Completes call) = Some call

-- The services after a fragment.
abbrev pub after_piece : Serving → Option ip_answer.Call → Serving
after_piece serving None = serving
after_piece serving (Some call) = record serving { pieces = calls.heard serving.pieces call.body }

-- the calls of which fragments are missing after it
abbrev pub pieced : Serving → List ℕ → Serving
pieced serving bytes = after_piece serving (ip_answer.call_in serving.ip bytes)

-- ---- answers

-- What the services of the IP address answer to a frame that the device dropped, or else what the endpoint mapper answers.
abbrev pub replied : Identity → Serving → List ℕ → Option (List ℕ)
replied identity serving bytes = or_else (ip_answer.answer_to serving.ip bytes) (mapper.mapped_frame serving.ip identity bytes)

-- what they answer to a call
abbrev pub called_reply : Identity → Serving → ip_answer.Call → Option (List ℕ)
called_reply identity serving call = or_else (refused_by serving call call.body) (mapper.mapped_call serving.ip identity (Some call))

-- A fragment that is accepted has the answer of its own.
abbrev pub answer_by : Piece → Option (List ℕ) → Option (List ℕ)
answer_by Other reply = reply
answer_by (Taken own) reply = own
answer_by (Completes call) reply = None

-- The answer to a frame that the device dropped: the acknowledgement of a fragment, or the refusal of a call that it completes; or that of the services of the IP address,
-- or else that of the endpoint mapper.
abbrev pub answered : Identity → Serving → List ℕ → Option (List ℕ)
answered identity serving bytes = answer_by (piece_in serving bytes) (replied identity serving bytes)

-- the answer to a call
abbrev pub called_answer : Identity → Serving → ip_answer.Call → Option (List ℕ)
called_answer identity serving call = answer_by (piece_of serving (Some call)) (called_reply identity serving call)

-- Whether a frame concerns what is beside the device also if the device answered it: a conflict of the IP address.
abbrev pub disputes : Serving → List ℕ → Bool
disputes serving bytes = ip_answer.disputes serving.ip bytes

-- What a frame that the device dropped does to the neighbour.
abbrev pub effect_on : Serving → List ℕ → Heard
effect_on serving bytes = near.effect_of serving.near.known (told_in serving.near.mac bytes)

-- Whether a message of LLDP is of a neighbour.
abbrev pub is_taken : Heard → Bool
is_taken Nothing = false
is_taken Same = true
is_taken Changed = true

-- Whether it changes the neighbour.
abbrev pub is_change : Heard → Bool
is_change Nothing = false
is_change Same = false
is_change Changed = true

-- Whether such a frame carries a message of a neighbour, and whether it changes the neighbour.
abbrev pub meets : Serving → List ℕ → Bool
meets serving bytes = is_taken (effect_on serving bytes)

-- Whether these octets change the neighbour.
abbrev pub changes : Serving → List ℕ → Bool
changes serving bytes = is_change (effect_on serving bytes)

-- Whether such a frame carries a message of a neighbour, or a fragment of a call that is joined or acknowledged.
abbrev pub takes : Serving → List ℕ → Bool
takes serving bytes = meets serving bytes || is_piece (piece_in serving bytes)

-- What is beside the device after a frame that the device dropped, and after another one, of which only a conflict counts.
abbrev pub overheard : Serving → List ℕ → Serving
overheard serving bytes = record serving { ip = ip_answer.heard serving.ip bytes }

-- the neighbour after a frame that the device dropped
abbrev pub met : Serving → List ℕ → Serving
met serving bytes = record serving { near = near.heard serving.near bytes; has_news = changes serving bytes || serving.has_news }

-- The services after a frame that the device dropped.
abbrev pub heard : Serving → List ℕ → Serving
heard serving bytes = overheard (pieced (met serving bytes) bytes) bytes

-- ---- the neighbour

-- the neighbour that is known, as an event of the device
abbrev pub as_neighbour : near.Known → Neighbour
as_neighbour known = record { chassis = record { items = known.peer.chassis }; port = record { items = known.peer.port }; mac = known.peer.mac }

-- what must be reported to the device: the neighbour, or that none is known
abbrev pub news_in : Serving → Event
news_in serving = Met (option_map as_neighbour serving.near.known)

-- it was reported to the device
abbrev pub told : Serving → Serving
told serving = record serving { has_news = false }

-- ---- ticks

-- what is said to a neighbour
abbrev pub said_of : Serving → lldp.Station
said_of serving = record { mac = serving.near.mac; name = serving.name; address = serving.ip.address; link = serving.link }

-- whether a tick sends LLDP: each five seconds, while the link is up
abbrev pub announces : Serving → Bool
announces serving = serving.is_up && near.is_sending serving.near

-- The frames that a tick sends, in order: at most one of the services of the IP address, and LLDP.
abbrev pub sent_by_tick : Serving → List (List ℕ)
sent_by_tick serving =
    ip.frames_in (ip.sent_by_tick serving.ip) ++ (if announces serving then lldp.announcement (said_of serving) ∷ [] else [])

-- The neighbour is a tick older, or forgotten, and so is each call of which fragments are missing.
abbrev pub aged : Serving → Serving
aged serving = record serving {
  near = near.ticked serving.near;
  has_news = near.is_over serving.near.known || serving.has_news;
  pieces = calls.ticked serving.pieces;
}

-- The services after a unit of time.
abbrev pub ticked : Serving → Serving
ticked serving = record (aged serving) { ip = ip.ticked serving.ip }

-- The number of ticks up to and including the next one that sends a frame or forgets the neighbour.
abbrev pub due_in : Serving → ℕ
due_in serving = min (ip_leaps.due_in serving.ip) (near_leaps.due_in serving.near)

-- The state after this many ticks, one by one.
abbrev pub serving_ticks : ℕ → Serving → Serving
serving_ticks zero serving = serving
serving_ticks (suc ticks) serving = ticked (serving_ticks ticks serving)

-- None of these ticks sends a frame.
abbrev pub NoneSends : ℕ → Serving → Type 0
NoneSends ticks serving = (before : ℕ) → before < ticks → sent_by_tick (serving_ticks before serving) ≡ []

-- None of these ticks changes the neighbour.
abbrev pub NoNews : ℕ → Serving → Type 0
NoNews ticks serving = (before : ℕ) → before < ticks → near.is_over (serving_ticks before serving).near.known ≡ false
