-- The parts of the law of any state: what each has to show. Each is proved in a file of its own.
use Rattle.std.specs.Prelude.{◌≡◌, ◌≢◌, ◌⊎◌, ◌≤◌, ◌<◌, ◌+◌, ◌-◌, ◌*◌, ℕ, suc, true, false, List, [], ◌∷◌, length, if◌then◌else◌, Some, None}
use Rattle.std.specs.List.{AllByRecursion}
use Rattle.flash_model.specs.declared.flash.Flash.{Ghosts as Flash}
use Rattle.pn_values.specs.declared.identity.Identity.{Identity}
use Rattle.pn_values.specs.declared.mac.Mac.{Mac}
use Rattle.pn_values.specs.declared.settings.Settings.{Settings}
use Rattle.cyclic_data.specs.declared.exchange.route.Route.{Route}
use Rattle.cyclic_data.specs.exchange.Received.{is_of_partner}
use Rattle.relations.specs.RelationState.{RelationState}
use Rattle.relations.specs.declared.phase.Phase.TheVariants.{Exchanging as in_exchange}
use Rattle.relations.specs.Timers.{is_timed, limit_of}
use Rattle.device_frames.specs.Heard.{Ticks, heard_of}
use Rattle.device_core.specs.State.{State}
use Rattle.controller_messages.specs.declared.setup.ControllerOptions.{ControllerOptions}
use Rattle.controller_messages.specs.declared.setup.Setup.{Setup}
use Rattle.controller_messages.specs.Heard.{Cyclic as Comes, heard_of as heard_by}
use Rattle.controller_messages.specs.Sent.{Sent, Requests, Accesses, Parametrizes, Agrees, Cycles, Confirms, Replies, Ends}
use Rattle.controller_core.specs.declared.stored.event.Event.TheVariants.{Tick}
use Rattle.controller_core.specs.declared.stored.state.State.{State as Phases}
use Rattle.controller_core.specs.declared.stored.state.State.TheVariants.{Looking, Addressing, Connecting, Writing, Ending, Waiting, Exchanging, Ended}
use Rattle.controller_core.specs.stored.State.{Controlling, is_limited}
use Rattle.controller_core.specs.Machine.{opening_of, step_of}
use Rattle.network_world.specs.World.{is_ended}
use Rattle.end_laws.specs.hearing.Hearing.{comes}
use Rattle.end_laws.specs.hearing.Stations.{IsDevice, IsSetup}
use Rattle.rounds_law.specs.Again.{AreStarts, units_left}
pub use Rattle.rounds_law.specs.AnywhereFrames.{AreOwn, HasWay, IsAnything, IsOwn, IsRelease}
use Rattle.rounds_law.specs.Anywhere.{ChoosesWell, HasPatience, IsAnyController, IsAnyDevice}
use Rattle.rounds_law.specs.Path.{IsIgnored, IsSized, controller_step, found_frame, hold_of}
use Rattle.rounds_law.specs.Repeating.{completes, counts_on}
use Rattle.rounds_law.specs.Rounds.{Goes}
use Rattle.rounds_law.specs.Start.{CanStart}

-- ---- the frames of a controller

-- Those of a controller that exchanges data under this route. Parameters may be written after a plug.
abbrev pub IsOfExchange : Route → Sent → Type 0
IsOfExchange route (Requests device request) = ⊥
IsOfExchange route (Accesses device request octets) = ⊥
IsOfExchange route (Parametrizes device request) = Unit {0}
IsOfExchange route (Agrees caller answer) = Unit {0}
IsOfExchange route (Cycles way shown counter) = way ≡ route
IsOfExchange route (Confirms way priority header ack) = Unit {0}
IsOfExchange route (Replies way priority header) = Unit {0}
IsOfExchange route (Ends way header reason) = Unit {0}

-- ---- the controller

-- The units until it exchanges data or has ended, from a state other than the search; while it searches, those from the answer on.
abbrev pub ahead_in : ControllerOptions → ℕ → Phases → ℕ
ahead_in options left Looking = suc (4 * options.patience + options.waiting_patience)
ahead_in options left Addressing = left + (3 * options.patience + options.waiting_patience)
ahead_in options left Connecting = left + (2 * options.patience + options.waiting_patience)
ahead_in options left Writing = left + (options.patience + options.waiting_patience)
ahead_in options left Ending = left + options.waiting_patience
ahead_in options left Waiting = left
ahead_in options left Exchanging = 0
ahead_in options left (Ended cause) = 0

abbrev pub ahead : Controlling → ℕ
ahead controller = ahead_in controller.setup.options controller.live.left controller.live.phase

-- A cyclic frame of the station that it has its relation with, under the FrameID of its inputs.
pub record Accepts (controller : Controlling) (octets : List ℕ) : Type 0 where
  pub source : Mac
  pub frame_id : ℕ
  pub body : List ℕ
  pub heard : heard_by controller.setup.plan.controller octets ≡ Comes source frame_id body
  pub of_partner : is_of_partner controller.live.cyclic.route source frame_id ≡ true

-- It still exchanges data, under the same route.
pub record StillExchanges (before after : Controlling) : Type 0 where
  pub in_phase : after.live.phase ≡ Exchanging
  pub route : after.live.cyclic.route ≡ before.live.cyclic.route

module _ (setup : Setup) where
  -- A frame: the controller is in some state again, and sends its own messages. It comes no further from the exchange or the end.
  abbrev pub ControllerFrame : Type 0
  ControllerFrame = IsSetup setup → HasPatience setup.options → (controller : Controlling) (octets : List ℕ) → IsAnyController setup controller
      → ChoosesWell setup octets
      → IsAnyController setup (controller_step controller octets).controller
      × AreOwn setup IsAnything (controller_step controller octets).frames
      × (ahead (controller_step controller octets).controller ≤ ahead controller)

  -- A unit: the same, and one unit nearer from a state that has a patience.
  abbrev pub ControllerUnit : Type 0
  ControllerUnit = IsSetup setup → HasPatience setup.options → (controller : Controlling) → IsAnyController setup controller
      → IsAnyController setup (step_of controller Tick).controller
      × AreOwn setup IsAnything (step_of controller Tick).frames
      × (is_limited controller.live.phase ≡ true → suc (ahead (step_of controller Tick).controller) ≤ ahead controller)

  -- A unit while it searches: it still does, and with the unit that completes a second it sends its Identify.
  abbrev pub ControllerSearch : Type 0
  ControllerSearch = IsSetup setup → (controller : Controlling) → IsAnyController setup controller → controller.live.phase ≡ Looking
      → ((step_of controller Tick).controller.live.phase ≡ Looking)
      × (controller.live.waited < 32000)
      × ((step_of controller Tick).controller.live.waited ≡ counts_on controller.live.waited)
      × ((step_of controller Tick).frames ≡ (if completes controller.live.waited then opening_of controller ∷ [] else []))

  -- A frame while it searches ends the search, or does not change when the Identify is sent again.
  abbrev pub SearchFrame : Type 0
  SearchFrame = IsSetup setup → (controller : Controlling) (octets : List ℕ) → IsAnyController setup controller → controller.live.phase ≡ Looking
      → ((controller_step controller octets).controller.live.phase ≢ Looking)
      ⊎ ((controller_step controller octets).controller.live.waited ≡ controller.live.waited)

  -- While it exchanges data, a frame ends it or restarts its data hold time only if it accepts it.
  abbrev pub ExchangeFrame : Type 0
  ExchangeFrame = IsSetup setup → (controller : Controlling) (octets : List ℕ) → IsAnyController setup controller → ChoosesWell setup octets
      → controller.live.phase ≡ Exchanging
      → (is_ended (controller_step controller octets).controller.live.phase ≡ true)
      ⊎ (StillExchanges controller (controller_step controller octets).controller
      × AreOwn setup (IsOfExchange controller.live.cyclic.route) (controller_step controller octets).frames
      × (((controller_step controller octets).controller.live.cyclic.hearing.held ≡ controller.live.cyclic.hearing.held) ⊎ Accepts controller octets))

  -- A unit then ends it, or its data hold time has run a unit more, and is not over.
  abbrev pub ExchangeUnit : Type 0
  ExchangeUnit = IsSetup setup → (controller : Controlling) → IsAnyController setup controller → controller.live.phase ≡ Exchanging
      → (is_ended (step_of controller Tick).controller.live.phase ≡ true)
      ⊎ (StillExchanges controller (step_of controller Tick).controller
      × AreOwn setup (IsOfExchange controller.live.cyclic.route) (step_of controller Tick).frames
      × ((step_of controller Tick).controller.live.cyclic.hearing.held ≡ suc controller.live.cyclic.hearing.held)
      × (suc controller.live.cyclic.hearing.held < hold_of setup.plan))

  -- When it has ended, it stays so, and sends Releases at most.
  abbrev pub EndedFrame : Type 0
  EndedFrame = (controller : Controlling) (octets : List ℕ) → IsAnyController setup controller → is_ended controller.live.phase ≡ true
      → (is_ended (controller_step controller octets).controller.live.phase ≡ true) × ((controller_step controller octets).frames ≡ [])

  abbrev pub EndedUnit : Type 0
  EndedUnit = IsSetup setup → (controller : Controlling) → IsAnyController setup controller → is_ended controller.live.phase ≡ true
      → (is_ended (step_of controller Tick).controller.live.phase ≡ true) × AreOwn setup IsRelease (step_of controller Tick).frames

module _ (setup : Setup) (identity : Identity) where
  -- While it searches, the answer of its device to the Identify ends the search.
  abbrev pub ControllerFinds : Type 0
  ControllerFinds = (controller : Controlling) (settings : Settings) → IsAnyController setup controller → controller.live.phase ≡ Looking
      → settings.name ≡ setup.plan.station.name → IsSized settings.suite
      → (controller_step controller (found_frame setup identity settings)).controller.live.phase ≢ Looking

-- ---- the device

-- A frame comes to the device.
abbrev pub Hears : {F : Type 0} {S : ℕ} → Flash F S → State F → List ℕ → List (List ℕ) → State F → Type 0
Hears as_flash before octets frames after = Goes as_flash before (heard_of before.station.identity (comes octets)) frames after

-- How many more parameter records a relation keeps.
abbrev pub room_of : RelationState → ℕ
room_of link = 64 - length link.taken

-- The relation goes on: its route and its activity time are the same. If the plan of this set-up writes parameters after a plug, it has no more
-- room for records before data is exchanged.
pub record LinkGoesOn (setup : Setup) (before after : RelationState) : Type 0 where
  pub route : after.flow.cyclic.route ≡ before.flow.cyclic.route
  pub limit : limit_of after ≡ limit_of before
  pub room : setup.plan.parameters_after_plug ≡ true → is_timed after.phase ≡ true → room_of after ≤ room_of before

-- The relation would accept cyclic frames of this controller under this route.
pub record AcceptsOutputs (setup : Setup) (route : Route) (link : RelationState) : Type 0 where
  pub outputs : route.sent_id ≡ link.flow.cyclic.route.taken_id
  pub sender : link.flow.cyclic.route.partner ≡ setup.plan.controller.mac

-- The controller would accept the cyclic frames of this relation.
pub record AcceptsInputs (identity : Identity) (controller : Controlling) (link : RelationState) : Type 0 where
  pub inputs : link.flow.cyclic.route.sent_id ≡ controller.live.cyclic.route.taken_id
  pub addressed : link.flow.cyclic.route.partner ≡ controller.setup.plan.controller.mac
  pub sender : controller.live.cyclic.route.partner ≡ identity.mac

-- What a frame of a controller that exchanges data under this route does to a relation: it is in the same phase, and no further from its end, or it
-- accepts its outputs; or data is exchanged from now on; or it has kept a record that was written after a plug, and has less room.
abbrev pub IsMoved : Setup → Route → RelationState → RelationState → Type 0
IsMoved setup route before after =
    ((after.phase ≡ before.phase) × (units_left after ≤ units_left before))
    ⊎ (((is_timed before.phase ≡ false) × (after.phase ≡ before.phase) × AcceptsOutputs setup route before)
    ⊎ (((is_timed before.phase ≡ true) × (after.phase ≡ in_exchange))
    ⊎ ((setup.plan.parameters_after_plug ≡ true) × (is_timed before.phase ≡ true) × (after.phase ≡ before.phase)
    × (suc (room_of after) ≤ room_of before))))

module _ {F : Type 0} {S : ℕ} (as_flash : Flash F S) (setup next : Setup) (identity : Identity) (silence : ℕ) where
  -- The stations have their sizes, both starts are possible, and a relation of the plan does not last longer than any other.
  pub record IsLong : Type 0 where
    pub real : IsSetup setup
    pub real_next : IsSetup next
    pub of_device : IsDevice identity
    pub can : CanStart setup identity
    pub can_next : CanStart next identity
    pub starts : AreStarts setup next
    pub active : 1920000 ≤ silence
    pub holds : hold_of setup.plan ≤ silence

  -- Any message of the controller leaves the device in some state again, and what it answers chooses well.
  abbrev pub DeviceFrame : Type 0
  DeviceFrame = IsLong → (before after : State F) (octets : List ℕ) (frames : List (List ℕ)) → Hears as_flash before octets frames after
      → IsAnyDevice setup next identity silence before.station before.live → IsOwn setup IsAnything octets
      → IsAnyDevice setup next identity silence after.station after.live × AllByRecursion (ChoosesWell setup) frames

  -- So does a unit.
  abbrev pub DeviceUnit : Type 0
  DeviceUnit = IsLong → (before after : State F) (frames : List (List ℕ)) → Goes as_flash before Ticks frames after
      → IsAnyDevice setup next identity silence before.station before.live
      → IsAnyDevice setup next identity silence after.station after.live × AllByRecursion (ChoosesWell setup) frames

  -- A unit: a relation is over, or a unit nearer to its end, in the same phase. Without a relation nothing is sent.
  abbrev pub LinkUnit : Type 0
  LinkUnit = (before after : State F) (frames : List (List ℕ)) → Goes as_flash before Ticks frames after
      → IsAnyDevice setup next identity silence before.station before.live
      → (before.live.rest.link ≡ None → (after.live.rest.link ≡ None) × (frames ≡ []))
      × ((link : RelationState) → before.live.rest.link ≡ Some link
      → (after.live.rest.link ≡ None)
      ⊎ ((later : RelationState) × (after.live.rest.link ≡ Some later) × LinkGoesOn setup link later × (later.phase ≡ link.phase)
      × (suc (units_left later) ≤ units_left link)))

  -- A Release: the relation is over, or it is the same. The frames are ones that a controller of the next start ignores.
  abbrev pub LinkRelease : Type 0
  LinkRelease = IsLong → (before after : State F) (octets : List ℕ) (frames : List (List ℕ)) → Hears as_flash before octets frames after
      → IsAnyDevice setup next identity silence before.station before.live → IsOwn setup IsRelease octets
      → ((after.live.rest.link ≡ None) ⊎ (after.live.rest.link ≡ before.live.rest.link))

  -- The Identify: the device answers, and nothing changes.
  abbrev pub DeviceFound : Type 0
  DeviceFound = IsLong → (controller : Controlling) → controller.setup ≡ setup → (before after : State F) (frames : List (List ℕ))
      → Hears as_flash before (opening_of controller) frames after
      → IsAnyDevice setup next identity silence before.station before.live
      → (after.live ≡ before.live) × (frames ≡ found_frame setup identity before.live.values.running ∷ [])

  -- ---- both, while the controller exchanges data

  -- A frame of a controller that exchanges data.
  abbrev pub LinkFrame : Type 0
  LinkFrame = IsLong → (route : Route) (before after : State F) (octets : List ℕ) (frames : List (List ℕ)) → Hears as_flash before octets frames after
      → IsAnyDevice setup next identity silence before.station before.live → IsOwn setup (IsOfExchange route) octets
      → (before.live.rest.link ≡ None
      → (after.live.rest.link ≡ None)
      × ((controller : Controlling) → controller.setup ≡ setup → AllByRecursion (λ frame. Accepts controller frame → ⊥) frames))
      × ((link : RelationState) → before.live.rest.link ≡ Some link
      → (after.live.rest.link ≡ None)
      ⊎ ((later : RelationState) × (after.live.rest.link ≡ Some later) × LinkGoesOn setup link later × IsMoved setup route link later))

  -- What the device sends then, and with a unit: the controller accepts cyclic frames of a relation that it would accept, and of no other.
  abbrev pub InputsOfFrame : Type 0
  InputsOfFrame = IsLong → (controller : Controlling) → IsAnyController setup controller → controller.live.phase ≡ Exchanging
      → (route : Route) (before after : State F) (octets : List ℕ) (frames : List (List ℕ)) → Hears as_flash before octets frames after
      → IsAnyDevice setup next identity silence before.station before.live → IsOwn setup (IsOfExchange route) octets
      → (link : RelationState) → before.live.rest.link ≡ Some link
      → AllByRecursion (λ frame. Accepts controller frame → AcceptsInputs identity controller link) frames

  abbrev pub InputsOfUnit : Type 0
  InputsOfUnit = IsLong → (controller : Controlling) → IsAnyController setup controller → controller.live.phase ≡ Exchanging
      → (before after : State F) (frames : List (List ℕ)) → Goes as_flash before Ticks frames after
      → IsAnyDevice setup next identity silence before.station before.live
      → (link : RelationState) → before.live.rest.link ≡ Some link
      → AllByRecursion (λ frame. Accepts controller frame → AcceptsInputs identity controller link) frames

-- ---- the next start

module _ {F : Type 0} {S : ℕ} (as_flash : Flash F S) (setup next : Setup) (identity : Identity) (silence : ℕ) where
  -- Without a relation, what the device answers to a Release of the controller that has ended is ignored by one of the next start.
  abbrev pub ReleaseIgnored : Type 0
  ReleaseIgnored = CanStart setup identity → CanStart next identity → AreStarts setup next
      → (before after : State F) (octets : List ℕ) (frames : List (List ℕ)) → Hears as_flash before octets frames after
      → IsAnyDevice setup next identity silence before.station before.live → before.live.rest.link ≡ None → IsOwn setup IsRelease octets
      → AllByRecursion (IsIgnored next) frames
