-- What a host sees of a port.
use Rattle.std.specs.Prelude.{◌≡◌, ◌<◌, ◌≤◌, Bool, true, false, ℕ, List, [], ◌∷◌, drop, length, if◌then◌else◌, Option, Some, None, Result, MatchResult}
use Rattle.flash_model.specs.Calls.{Call, Programs, Erases, Arms}
use Rattle.device_station.specs.declared.recorded.flash.RecordedFlash.{RecordedFlash}
use Rattle.device_station.specs.recorded.Entry.{call_of}
use Rattle.device_station.specs.recorded.Fits.{fits_in}
use Rattle.relations.specs.declared.steady.Steady.{Steady}
use Rattle.device_core.specs.State as device
use Rattle.device_core.specs.State.{Live}
use Rattle.device_core.specs.Steady.{IsSteadyAt}
use Rattle.device_station.specs.declared.port.device.Work.{Work}
use Rattle.device_station.specs.declared.port.device.Work.TheVariants.{Nothing, Carry, Send}
use Rattle.device_station.specs.declared.port.refusal.Refusal.{Refusal}
use Rattle.device_station.specs.declared.port.refusal.Refusal.TheVariants as refusal
use Rattle.device_station.specs.declared.port.stage.Stage.{Stage}
use Rattle.device_station.specs.declared.port.stage.Stage.TheVariants.{Made, Booted, Lost}

-- The device, its stage, and the work of its last step that the host has not fetched yet: flash calls, and frames.
pub record State : Type 0 where
  pub device : device.State (RecordedFlash 4096)
  pub stage : Stage
  pub calls : List Call
  pub frames : List (List ℕ)

-- All work is fetched.
abbrev pub IsIdle : State → Type 0
IsIdle port = (port.calls ≡ []) × (port.frames ≡ [])

-- Nothing is stored before a start, no commit fails after it, and only a port that started has work.
abbrev pub IsSteady : Stage → Bool → List Call → List (List ℕ) → Type 0
IsSteady Made has_failed calls frames = (has_failed ≡ true) × (calls ≡ []) × (frames ≡ [])
IsSteady Booted has_failed calls frames = has_failed ≡ false
IsSteady Lost has_failed calls frames = (calls ≡ []) × (frames ≡ [])

-- When the next units bring something, if this is known: only of a port that is open and from which no flash call remains.
abbrev pub IsKnown : Steady → Live → Stage → List Call → Type 0
IsKnown steady live stage calls = 0 < steady.inputs → IsSteadyAt steady live × (stage ≡ Booted) × (calls ≡ [])

-- Why a port reports nothing: it did not start, or power was lost.
abbrev pub closed : Stage → Option Refusal
closed Made = Some refusal.NotBooted
closed Booted = None
closed Lost = Some refusal.PowerLost

-- Why a port may not be started: it was started before, or power was lost.
abbrev pub past_start : Stage → Option Refusal
past_start Made = None
past_start Booted = Some refusal.IsBooted
past_start Lost = Some refusal.PowerLost

-- Whether any of these remain.
abbrev pub has_some : {T : Type 0} → List T → Bool
has_some [] = false
has_some (one ∷ others) = true

-- Whether work remains.
abbrev pub has_work : List Call → List (List ℕ) → Bool
has_work [] [] = false
has_work [] (frame ∷ frames) = true
has_work (call ∷ calls) frames = true

-- The kind of a flash call: 1 is a program call, 2 an erase. No other call is handed out.
abbrev pub kind_of : Call → ℕ
kind_of (Programs sector place bytes) = 1
kind_of (Erases sector) = 2
kind_of (Arms order) = 0

-- The kind of the next piece of work: that of the first call if one remains, 3 for a frame if only frames do, and 0 if no
-- work remains.
abbrev pub waiting : List Call → List (List ℕ) → ℕ
waiting [] [] = 0
waiting [] (frame ∷ frames) = 3
waiting (call ∷ calls) frames = kind_of call

-- Why it accepts no event: it is closed, or work of the step before remains.
abbrev pub barred_by : Stage → Bool → Option Refusal
barred_by Made is_left = Some refusal.NotBooted
barred_by Booted is_left = if is_left then Some refusal.HasWork else None
barred_by Lost is_left = Some refusal.PowerLost

-- Why no event is accepted now, if none is.
abbrev pub barred : State → Option Refusal
barred port = barred_by port.stage (has_work port.calls port.frames)

-- The next piece of work: a flash call if one remains, which lies in its sector, a frame only if no call remains, which has at most
-- 1,518 octets, and nothing if no work remains.
abbrev pub IsNext : State → Work → Type 0
IsNext port Nothing = IsIdle port
IsNext port (Carry call) = (rest : List Call) × (port.calls ≡ call_of call ∷ rest) × (fits_in 4096 (call_of call) ≡ true)
IsNext port (Send octets) = (port.calls ≡ []) × ((rest : List (List ℕ)) × (port.frames ≡ octets.now ∷ rest)) × (length octets.now ≤ 1518)

-- The first piece of work is fetched.
abbrev pub advanced_by : State → List Call → State
advanced_by port [] = record port { frames = drop 1 port.frames }
advanced_by port (call ∷ calls) = record port { calls = calls }

-- The port once its next piece of work was fetched.
abbrev pub advanced : State → State
advanced port = advanced_by port port.calls

-- The kind of a piece of work.
abbrev pub work_kind : Work → ℕ
work_kind Nothing = 0
work_kind (Carry call) = kind_of (call_of call)
work_kind (Send octets) = 3

-- The first of these, or none if there are none.
abbrev pub IsFirst : {T : Type 0} → List T → Option T → Type 0
IsFirst all None = all ≡ []
IsFirst {T} all (Some one) = (rest : List T) × (all ≡ one ∷ rest)

-- The first flash call is fetched, and the kind of the piece of work after it is known.
abbrev pub FetchesCall : State → Call → ℕ → State → Type 0
FetchesCall old call more new = IsFirst old.calls (Some call) × (new ≡ advanced old) × (more ≡ waiting new.calls new.frames)

-- The first frame is fetched, if a frame remains, and the kind of the piece of work after it is known.
abbrev pub FetchesFrame : State → Option (List ℕ) → ℕ → State → Type 0
FetchesFrame old frame more new = IsFirst old.frames frame × (new ≡ advanced old) × (more ≡ waiting new.calls new.frames)

-- Power is lost, and the remaining work with it.
abbrev pub lost : State → State
lost port = record port { stage = Lost; calls = []; frames = [] }

-- What a port returns of a value with this property: the value, or why it is closed.
abbrev pub IsRead : {T : Type 0} → Option Refusal → (T → Type 0) → Result T Refusal → Type 0
IsRead why holds read = MatchResult read (λ value. (why ≡ None) × holds value) (λ refusal. why ≡ Some refusal)

-- Why no output is reported: the port is closed, or no submodule with an output is plugged there.
abbrev pub IsUnreported : Option Refusal → Option (List ℕ) → Refusal → Type 0
IsUnreported (Some why) value refused = refused ≡ why
IsUnreported None value refused = (value ≡ None) × (refused ≡ refusal.NoSlot)
