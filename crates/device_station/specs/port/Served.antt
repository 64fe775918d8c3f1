-- What a host sees of a port with the services beside its device.
use Rattle.std.specs.Prelude.{◌≡◌, ◌==◌, ◌≤◌, ◌++◌, Bool, true, ℕ, if◌then◌else◌, List, [], ◌∷◌, drop, length, Option, Some, None}
use Rattle.flash_model.specs.Calls.{Call}
use Rattle.device_core.specs.Leaps.{live_due_in}
use Rattle.device_core.specs.State.{Live}
use Rattle.std.specs.Option.{option_map}
use Rattle.lldp.specs.declared.station.Link.{Link}
use Rattle.device_station.specs.Leaps.{due_beside}
use Rattle.device_station.specs.Serving.{Serving}
use Rattle.device_station.specs.declared.port.device.Work.{Work}
use Rattle.device_station.specs.declared.port.device.Work.TheVariants.{Nothing, Carry, Send}
use Rattle.device_station.specs.declared.port.refusal.Refusal.{Refusal}
use Rattle.device_station.specs.recorded.Entry.{call_of}
use Rattle.device_station.specs.recorded.Fits.{fits_in}
use Rattle.device_station.specs.port.State.{State, IsFirst, IsIdle, advanced, barred_by, has_work, lost, waiting}

-- The port of a device, whether services begin when it starts, the services beside it once there are any, and the frames
-- that these sent in the last step and that the host has not fetched yet.
pub record Served : Type 0 where
  pub port : State
  pub serves : Bool
  pub services : Option Serving
  pub frames : List (List ℕ)

-- All frames that the host has not fetched yet, in order: those of the services follow those of the device.
abbrev pub frames_of : Served → List (List ℕ)
frames_of served = served.port.frames ++ served.frames

-- All work is fetched.
abbrev pub IsFetched : Served → Type 0
IsFetched served = IsIdle served.port × (served.frames ≡ [])

-- Why it accepts no event: it is closed, or work of the step before remains.
abbrev pub barred_both : Served → Option Refusal
barred_both served = barred_by served.port.stage (has_work served.port.calls (frames_of served))

-- The kind of a piece of work, or that of another one without work.
abbrev pub or_own : ℕ → ℕ → ℕ
or_own kind own = if kind == 0 then own else kind

-- The kind of the next piece of work: that of the port, or else a frame of the services, 3; 0 if no work remains.
abbrev pub waiting_both : Served → ℕ
waiting_both served = or_own (waiting served.port.calls served.port.frames) (waiting [] served.frames)

-- The next piece of work: that of the port, or else a frame of the services.
abbrev pub IsNextBoth : Served → Work → Type 0
IsNextBoth served Nothing = IsFetched served
IsNextBoth served (Carry call) = (rest : List Call) × (served.port.calls ≡ call_of call ∷ rest) × (fits_in 4096 (call_of call) ≡ true)
IsNextBoth served (Send octets) = (served.port.calls ≡ []) × ((rest : List (List ℕ)) × (frames_of served ≡ octets.now ∷ rest)) × (length octets.now ≤ 1518)

-- The first piece of work is fetched.
abbrev pub advanced_from : Served → List Call → List (List ℕ) → Served
advanced_from served [] [] = record served { frames = drop 1 served.frames }
advanced_from served [] (frame ∷ frames) = record served { port = advanced served.port }
advanced_from served (call ∷ calls) frames = record served { port = advanced served.port }

-- The port and its services once the next piece of work was fetched.
abbrev pub advanced_both : Served → Served
advanced_both served = advanced_from served served.port.calls served.port.frames

-- Power is lost, and the remaining work with it.
abbrev pub lost_both : Served → Served
lost_both served = record served { port = lost served.port; frames = [] }

-- The number of units up to and including the next one that brings something to the device, or to the services beside it.
abbrev pub due_with : Option Serving → Live → ℕ
due_with None live = live_due_in live
due_with (Some state) live = due_beside live state

-- The units until something is due of the device or its services.
abbrev pub due_both : Served → ℕ
due_both served = due_with served.services served.port.device.live

-- What the host says of the link: nothing changes but that.
abbrev pub linked_both : Bool → Option Link → Served → Served
linked_both is_up link served = record served { services = option_map (λ (state : Serving). record state { is_up = is_up; link = link }) served.services }

-- How many conflicts the services have counted; none without services.
abbrev pub conflicts_of : Option Serving → ℕ
conflicts_of None = 0
conflicts_of (Some state) = state.ip.conflicts

-- The first flash call is fetched, and the kind of the piece of work after it is known.
abbrev pub FetchesCallBoth : Served → Call → ℕ → Served → Type 0
FetchesCallBoth old call more new = IsFirst old.port.calls (Some call) × (new ≡ advanced_both old) × (more ≡ waiting_both new)

-- The first frame is fetched, if a frame remains, and the kind of the piece of work after it is known.
abbrev pub FetchesBoth : Served → Option (List ℕ) → ℕ → Served → Type 0
FetchesBoth old frame more new = IsFirst (frames_of old) frame × (new ≡ advanced_both old) × (more ≡ waiting_both new)
