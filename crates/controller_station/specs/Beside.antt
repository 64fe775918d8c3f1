-- All that is beside a controller in a station, as one machine: the services of its IP address, and its neighbour by LLDP.
use Rattle.std.specs.Prelude.{◌≡◌, ◌<◌, ◌++◌, ℕ, zero, suc, min, Bool, false, List, [], None, is_some, Result, Ok, Err, if◌then◌else◌}
use Rattle.frame_codec.specs.declared.fault.FrameFault.{FrameFault}
use Rattle.frame_codec.specs.Frame.{frame_of, real_time_in}
use Rattle.frame_codec.specs.Meaning.{Meaning}
use Rattle.services.specs.State as ip
use Rattle.services.specs.Answer as ip_answer
use Rattle.services.specs.Leaps as ip_leaps
use Rattle.services.specs.declared.announcement.Role.TheVariants as role
use Rattle.lldp.specs.Announcement as lldp
use Rattle.lldp.specs.State as near
use Rattle.lldp.specs.Leaps as near_leaps
use Rattle.plans.specs.declared.parts.Controller.{Controller}

-- What is beside a controller: the services of its IP address, its neighbour, and its name.
pub record Beside : Type 0 where
  pub ip : ip.State
  pub near : near.State
  pub name : List ℕ

-- What is beside this controller at its start.
abbrev pub beside_at : Controller → Beside
beside_at controller = record {
  ip = ip.started role.Controller controller.mac controller.address;
  near = near.started controller.mac;
  name = controller.name;
}

-- ---- frames that the controller does not answer

-- The neighbour after such a frame.
abbrev pub met : Beside → List ℕ → Beside
met beside octets = record beside { near = near.heard beside.near octets }

-- The services of the IP address after such a frame.
abbrev pub overheard : Beside → List ℕ → Beside
overheard beside octets = record beside { ip = ip_answer.heard beside.ip octets }

-- Whether a frame carries real-time data, which concerns nothing here.
abbrev pub is_real_time : Result Meaning FrameFault → Bool
is_real_time (Ok meaning) = is_some (real_time_in meaning.content)
is_real_time (Err fault) = false

-- Both after such a frame. A message of a neighbour is answered by nothing.
abbrev pub heard : Beside → List ℕ → Beside
heard beside octets = if is_real_time (frame_of octets) then beside else overheard (met beside octets) octets

-- ---- ticks

-- What the controller says of itself to its neighbour. Nothing is said of the link.
abbrev pub said_of : Beside → lldp.Station
said_of beside = record { mac = beside.near.mac; name = beside.name; address = beside.ip.address; link = None }

-- The frames that a tick sends, in order: at most one of the services of the IP address, and LLDP each five seconds.
abbrev pub sent_by_tick : Beside → List (List ℕ)
sent_by_tick beside = ip.frames_in (ip.sent_by_tick beside.ip) ++ near.sent_by_tick beside.near (said_of beside)

-- The neighbour is a tick older, or forgotten.
abbrev pub aged : Beside → Beside
aged beside = record beside { near = near.ticked beside.near }

-- What is beside the controller after a unit of time.
abbrev pub ticked : Beside → Beside
ticked beside = record (aged beside) { ip = ip.ticked beside.ip }

-- The number of ticks up to and including the next one that sends a frame or forgets the neighbour.
abbrev pub due_in : Beside → ℕ
due_in beside = min (ip_leaps.due_in beside.ip) (near_leaps.due_in beside.near)

-- What is beside after this many ticks, one by one.
abbrev pub ticks_of : ℕ → Beside → Beside
ticks_of zero beside = beside
ticks_of (suc ticks) beside = ticked (ticks_of ticks beside)

-- None of these ticks sends a frame.
abbrev pub NoneSends : ℕ → Beside → Type 0
NoneSends ticks beside = (before : ℕ) → before < ticks → sent_by_tick (ticks_of before beside) ≡ []
