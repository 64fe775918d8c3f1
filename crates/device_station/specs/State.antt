-- What a contract sees of a station.
use Rattle.std.specs.Prelude.{ℕ, List, [], ◌++◌, if◌then◌else◌, Bool}
use Rattle.device_core.specs.State as device
use Rattle.device_station.specs.Serving.{Serving}

-- A device, and the services beside it.
pub record State (F : Type 0) : Type 0 where
  pub device : device.State F
  pub services : Serving

-- The frames that one event sends: those of the device, and those of the services.
pub record Frames : Type 0 where
  pub device : List (List ℕ)
  pub services : List (List ℕ)

-- All frames, in the order in which they are sent: the services' follow the device's.
abbrev pub in_order : Frames → List (List ℕ)
in_order frames = frames.device ++ frames.services

-- The frames of the device.
abbrev pub of_device : Frames → List (List ℕ)
of_device frames = frames.device

-- No frame.
abbrev pub no_frames : Frames
no_frames = record { device = []; services = [] }

-- What is handed on of a step: nothing once power is lost.
abbrev pub handed_on : Bool → Frames → Frames
handed_on is_lost frames = if is_lost then no_frames else frames
