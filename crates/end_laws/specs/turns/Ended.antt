-- What holds for a controller that ended.
use Rattle.std.specs.Prelude.{◌≡◌, ◌⊎◌, ◌||◌, ℕ, Bool, true, false, List, [], ◌∷◌, if◌then◌else◌, Option, Some, None}
use Rattle.std.specs.List.{AllByRecursion}
use Rattle.pn_values.specs.declared.mac.Mac.{Mac}
use Rattle.rpc_core.specs.Response.{Answered as Response}
use Rattle.plans.specs.declared.parts.Parts.{Parts}
use Rattle.controller_messages.specs.declared.setup.Setup.{Setup}
use Rattle.controller_messages.specs.declared.request.Request.{Request}
use Rattle.controller_messages.specs.declared.request.Request.TheVariants as asks
use Rattle.controller_messages.specs.declared.refusal.Refusal.{Refusal}
use Rattle.controller_messages.specs.Heard.{Heard, Refuses, Responds, heard_of}
use Rattle.controller_messages.specs.Sent.{Requests, bytes_of}
use Rattle.controller_core.specs.declared.stored.event.Event.{Event}
use Rattle.controller_core.specs.declared.stored.event.Event.TheVariants.{Frame, Tick, Give, Status, Read, Write, Stop}
use Rattle.controller_core.specs.declared.stored.state.Cause.{Cause}
use Rattle.controller_core.specs.declared.stored.state.Cause.TheVariants as why
use Rattle.controller_core.specs.declared.stored.state.State.TheVariants.{Ended}
use Rattle.controller_core.specs.stored.State.{Controlling, Live, with_live}
use Rattle.controller_core.specs.start_up.Answers.{is_answer, is_refused}
use Rattle.controller_core.specs.Machine.{is_again, later, step_of}
use Rattle.end_laws.specs.turns.Runs.{IsReached, behind_all, frames_of}

-- A controller that ended for this cause, at any time of any run.
pub record HasEnded (cause : Cause) (controller : Controlling) : Type 0 where
  pub reached : IsReached controller
  pub phase : controller.live.phase ≡ Ended cause

-- ---- its Release

-- The frame of the active Release, if there is one.
abbrev pub release_in : Setup → Mac → Option Request → Option (List ℕ)
release_in setup device (Some (asks.Release sequence)) = Some (bytes_of setup (Requests device (asks.Release sequence)))
release_in setup device _ = None

-- The octets of the Release that an ended controller repeats, if one is active.
abbrev pub release_of : Controlling → Option (List ℕ)
release_of controller = release_in controller.setup controller.live.device controller.live.asked

-- The causes of which the device may be informed by a Release: modules that differ, a stop by the application, a state that
-- lasted too long, and, if the plan says so, a refused record, or a Connect that is refused with State conflict.
abbrev pub may_release : Parts → Cause → Bool
may_release plan why.Refused = plan.release_on_refused_record || plan.persistent_start
may_release plan why.ModuleDiff = true
may_release plan why.Stopped = true
may_release plan why.NoProgress = true
may_release plan _ = false

-- ---- what comes

-- The response to the active Release: with the activity of the controller, and the number of its call.
pub record IsAnswered (setup : Setup) (live : Live) (heard : Heard) : Type 0 where
  pub response : Response
  pub sequence : ℕ
  pub stood : live.asked ≡ Some (asks.Release sequence)
  pub comes : heard ≡ Responds response
  pub right : is_answer setup (asks.Release sequence) response.header ≡ true

-- The refusal of the active Release.
pub record IsRefused (setup : Setup) (live : Live) (heard : Heard) : Type 0 where
  pub refusal : Refusal
  pub sequence : ℕ
  pub stood : live.asked ≡ Some (asks.Release sequence)
  pub comes : heard ≡ Refuses refusal
  pub right : is_refused setup (asks.Release sequence) refusal ≡ true

-- Either is an answer to it.
abbrev pub IsReleased : Setup → Live → Heard → Type 0
IsReleased setup live heard = IsAnswered setup live heard ⊎ IsRefused setup live heard

-- What comes is dropped: a frame, except that a Release that is answered is no longer active; a request of the application
-- for a record; a stop; and an output or its status, which is sent to nobody.
abbrev pub IsOnlySet : Live → Live → Type 0
IsOnlySet before after = after ≡ record before { cyclic = record before.cyclic { shown = after.cyclic.shown }; outputs = after.outputs }

-- What an ended controller does with an event: nothing but keep values that are set, or end its Release by the response to
-- it.
abbrev pub IsDropped : Setup → Event → Live → Live → Type 0
IsDropped setup (Frame bytes) before after =
    (after ≡ before) ⊎ (IsReleased setup before (heard_of setup.plan.controller bytes.items) × (after ≡ record before { asked = None }))
IsDropped setup Tick before after = ⊥
IsDropped setup (Give slot subslot value) before after = IsOnlySet before after
IsDropped setup (Status slot subslot is_good) before after = IsOnlySet before after
IsDropped setup (Read slot subslot index) before after = after ≡ before
IsDropped setup (Write slot subslot index octets) before after = after ≡ before
IsDropped setup Stop before after = after ≡ before

-- Whether an event is a unit of time.
abbrev pub is_unit : Event → Bool
is_unit Tick = true
is_unit _ = false

-- A frame, if there is one and it is due.
abbrev pub where_due : Bool → Option (List ℕ) → List (List ℕ)
where_due is_due (Some frame) = if is_due then frame ∷ [] else []
where_due is_due None = []

-- ---- the law

-- For any events, an ended controller stays ended, for the same cause.
abbrev pub KeepsItsCause : Type 0
KeepsItsCause = (controller : Controlling) (cause : Cause) (events : List Event) → HasEnded cause controller → HasEnded cause (behind_all events controller)

-- Each frame that an ended controller sends is its active Release, octet by octet; without an active Release it sends
-- none.
abbrev pub RepeatsItsRelease : Type 0
RepeatsItsRelease = (controller : Controlling) (cause : Cause) (events : List Event) → HasEnded cause controller
    → AllByRecursion (λ frame. Some frame ≡ release_of controller) (frames_of events controller)

-- A controller that ended for a cause of which the device is not informed sends nothing.
abbrev pub IsSilent : Type 0
IsSilent = (controller : Controlling) (cause : Cause) (events : List Event) → HasEnded cause controller → may_release controller.setup.plan cause ≡ false
    → frames_of events controller ≡ []

-- For an event other than a unit of time no frame is sent. It changes nothing, except that the response to the active
-- Release, or its refusal, ends that, and that an output and its status are stored.
abbrev pub DropsWhatComes : Type 0
DropsWhatComes = (controller : Controlling) (cause : Cause) (event : Event) → HasEnded cause controller → is_unit event ≡ false
    → ((step_of controller event).frames ≡ []) × IsDropped controller.setup event controller.live (step_of controller event).controller.live

-- A unit is counted, and the active Release is sent when the units since it was last sent reach 32,000.
abbrev pub CountsUnits : Type 0
CountsUnits = (controller : Controlling) (cause : Cause) → HasEnded cause controller
    → ((step_of controller Tick).controller ≡ with_live controller (later controller.live))
    × ((step_of controller Tick).frames ≡ where_due (is_again controller.live) (release_of controller))
