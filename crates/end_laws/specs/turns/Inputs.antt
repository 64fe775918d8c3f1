-- The inputs that a controller shows, over any events: those of one frame that it accepted, or zeros.
use Rattle.std.specs.Prelude.{◌≡◌, ◌⊎◌, ◌++◌, ◌∷◌, ℕ, true, false, List, replicate, Ok}
use Rattle.pn_values.specs.declared.mac.Mac.{Mac}
use Rattle.cyclic_data.specs.Image.{Shown, with_frame}
use Rattle.cyclic_data.specs.declared.tail.CyclicTail.{CyclicTail}
use Rattle.cyclic_data.specs.Tail.{cyclic_of}
use Rattle.cyclic_data.specs.exchange.Received.{is_new, is_of_partner}
use Rattle.plans.specs.declared.parts.Parts.{Parts}
use Rattle.controller_messages.specs.declared.setup.ControllerOptions.{ControllerOptions}
use Rattle.controller_messages.specs.Heard.{Cyclic, heard_of}
use Rattle.controller_core.specs.declared.stored.event.Event.{Event}
use Rattle.controller_core.specs.declared.stored.event.Event.TheVariants.{Frame}
use Rattle.controller_core.specs.stored.Opening.{first_cyclic}
use Rattle.controller_core.specs.stored.State.{Controlling}
use Rattle.controller_core.specs.Machine.{fresh_with}
use Rattle.end_laws.specs.turns.Runs.{behind_all}

-- The inputs of a plan before any frame: zeros, and their status is bad.
abbrev pub no_inputs : Parts → Shown
no_inputs plan = (first_cyclic plan).taken

-- Zeros, before any frame and after the end of the relation.
abbrev pub AreZeros : Parts → Shown → Type 0
AreZeros plan inputs = (inputs ≡ no_inputs plan) ⊎ (inputs ≡ with_frame (replicate (no_inputs plan).data_length 0) (no_inputs plan))

-- A controller whose relation is established accepts this frame: it comes from the station that answered the Connect, under the
-- FrameID of the plan's inputs, and is newer than the last one. These are its inputs.
pub record Brings (controller : Controlling) (octets : List ℕ) (inputs : Shown) : Type 0 where
  pub source : Mac
  pub frame_id : ℕ
  pub body : List ℕ
  pub heard : heard_of controller.setup.plan.controller octets ≡ Cyclic source frame_id body
  pub stands : controller.live.stands ≡ true
  pub own : is_of_partner controller.live.cyclic.route source frame_id ≡ true
  pub content : List ℕ
  pub tail : CyclicTail
  pub read : cyclic_of (no_inputs controller.setup.plan).data_length body ≡ Ok (content, tail)
  pub newer : is_new controller.live.cyclic tail ≡ true
  pub are : inputs ≡ with_frame content (no_inputs controller.setup.plan)

-- One of these events is a frame that brings these inputs.
pub record ComeFromOne (first : Controlling) (events : List Event) (inputs : Shown) : Type 0 where
  pub before : List Event
  pub octets : List ℕ
  pub later : List Event
  pub all : events ≡ before ++ Frame (record { items = octets }) ∷ later
  pub brings : Brings (behind_all before first) octets inputs

-- For any events of a new controller, its inputs are zeros or all of one frame that it accepted.
abbrev pub ShowsWhatCame : Type 0
ShowsWhatCame = (plan : Parts) (ar activity : List ℕ) (options : ControllerOptions) (events : List Event)
    → AreZeros plan (behind_all events (fresh_with plan ar activity options)).live.cyclic.taken
    ⊎ ComeFromOne (fresh_with plan ar activity options) events (behind_all events (fresh_with plan ar activity options)).live.cyclic.taken

-- A controller whose relation is not established, before its Connect was answered or after its end, shows zeros.
abbrev pub ShowsNothingWithout : Type 0
ShowsNothingWithout = (plan : Parts) (ar activity : List ℕ) (options : ControllerOptions) (events : List Event)
    → (behind_all events (fresh_with plan ar activity options)).live.stands ≡ false
    → AreZeros plan (behind_all events (fresh_with plan ar activity options)).live.cyclic.taken
