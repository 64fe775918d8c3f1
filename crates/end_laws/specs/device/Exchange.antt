-- What a device exchanges, over any events from the answer to a Connect on: what its application gives is sent, in each
-- interval, and its relation ends if nothing is received.
use Rattle.std.specs.Prelude.{◌≡◌, ◌≢◌, ◌⊎◌, ◌+◌, ◌-◌, ◌%◌, ◌==◌, ◌<◌, ◌&&◌, ◌++◌, ◌∷◌, [], ℕ, suc, Bool, true, false, List, length, nat_le, is_some, option_map, unwrap_or, replicate, if◌then◌else◌, Option, Some, None}
use Rattle.std.specs.List.{AllByRecursion, list_any}
use Rattle.pn_alarms.specs.declared.abort.Abort.{Abort}
use Rattle.pn_alarms.specs.declared.abort.Abort.TheVariants.{DataHold, Activity, Other}
use Rattle.cyclic_data.specs.declared.place.Place.{Place}
use Rattle.cyclic_data.specs.declared.place.PlaceKind.{PlaceKind}
use Rattle.cyclic_data.specs.declared.place.PlaceKind.TheVariants.{Data}
use Rattle.cyclic_data.specs.declared.exchange.received.Received.TheVariants as received
use Rattle.cyclic_data.specs.Image.{Shown, cell_at, good, place_at}
use Rattle.cyclic_data.specs.exchange.Runs.{later_one}
use Rattle.connects.specs.requests.Request.{Request}
use Rattle.wire.specs.blocks.modules.Lists.{Listed}
use Rattle.connect_blocks.specs.declared.module_diff.DiffModule.{DiffModule}
use Rattle.connect_blocks.specs.declared.module_diff.DiffSubmodule.{DiffSubmodule}
use Rattle.relations.specs.exchange.Frames.{Inputs}
use Rattle.relations.specs.exchange.Marks.{Starting}
use Rattle.relations.specs.exchange.Opening.{interval_of}
use Rattle.relations.specs.exchange.Received.{received_as}
use Rattle.relations.specs.exchange.Units.{tick_of}
use Rattle.relations.specs.declared.options.DeviceOptions.{DeviceOptions}
use Rattle.relations.specs.declared.phase.Partner.{Partner}
use Rattle.relations.specs.declared.phase.Phase.TheVariants.{Exchanging}
use Rattle.relations.specs.Phases.{made_of}
use Rattle.relations.specs.RelationState.{RelationState, phase_of}
use Rattle.relations.specs.Plugging.{is_crowded, rows_now}
use Rattle.relations.specs.exchange.Shut.{AreEachOnce}
use Rattle.pn_values.specs.declared.real.RealModule.{RealModule}
use Rattle.module_diff.specs.declared.changes.RealChange.{RealChange}
use Rattle.module_diff.specs.Changes.{affected_by, covers}
use Rattle.module_diff.specs.Diff.{diff_of, is_listed}
use Rattle.expected_places.specs.declared.place.ExpectedPlace.{ExpectedPlace}
use Rattle.expected_places.specs.Places.{is_touched, opened_places, place_at as expected_at}
use Rattle.device_frames.specs.declared.event.Event.{Event}
use Rattle.device_frames.specs.declared.local.Local.TheVariants.{Input}
use Rattle.device_frames.specs.Heard.{Heard, Ticks, Cyclic, Applied, heard_of}
use Rattle.device_frames.specs.Sent.{Sent, Ends, Exchanges}
use Rattle.settings_journal.specs.settings_store.Machine.{Outcome}
use Rattle.device_core.specs.State.{Live, Station}
use Rattle.device_core.specs.Machine.{Stepped, step_of}
use Rattle.end_laws.specs.device.Turn.{change_by, modules_after}

-- ---- any events at a device

-- An event, and the outcomes of the commands that its settings store with it.
pub record Happening : Type 0 where
  pub outcomes : List Outcome
  pub event : Event

-- The step of a device with it, and the state after several.
abbrev pub stepped : Station → Live → Happening → Stepped
stepped station live one = step_of one.outcomes station live one.event

-- The device after these events.
abbrev pub after_all : Station → List Happening → Live → Live
after_all station [] live = live
after_all station (one ∷ more) live = after_all station more (stepped station live one).live

-- There is a relation after each of these.
abbrev pub StaysRelated : Station → List Happening → Live → Type 0
StaysRelated station [] live = Unit {0}
StaysRelated station (one ∷ more) live = (is_some (stepped station live one).live.rest.link ≡ true) × StaysRelated station more (stepped station live one).live

-- Data is exchanged after each of these.
abbrev pub StaysExchanging : Station → List Happening → Live → Type 0
StaysExchanging station [] live = Unit {0}
StaysExchanging station (one ∷ more) live =
    (phase_of (stepped station live one).live.rest.link ≡ Some Exchanging) × StaysExchanging station more (stepped station live one).live

-- Whether what is heard of an event is a unit of time, and how many units pass with several.
abbrev pub is_unit : Heard → Bool
is_unit Ticks = true
is_unit heard = false

-- How many of these events are units of time.
abbrev pub units_in : Station → List Happening → ℕ
units_in station [] = 0
units_in station (one ∷ more) = if is_unit (heard_of station.identity one.event) then suc (units_in station more) else units_in station more

-- ---- inputs

-- The value that the application gives with an event to the input of a submodule, whose place has this many octets, the octet
-- of IOPS included.
abbrev pub given_with : ℕ → ℕ → ℕ → Heard → Option (List ℕ)
given_with slot subslot size (Applied (Input to_slot to_subslot value)) =
    if ((slot == to_slot) && (subslot == to_subslot)) && (size == length value.items + 1) then Some value.items else None
given_with slot subslot size heard = None

-- A change of the modules that is possible, unless its alarm could not wait.
abbrev pub accepted : Option RealChange → Option (List RealModule) → Option RelationState → Option RealChange
accepted None now link = None
accepted (Some made) None link = None
accepted (Some made) (Some now) link = if is_crowded (affected_by made) link then None else Some made

-- The change that an event makes of the modules, if it is a pull or a plug and is not refused.
abbrev pub made_with : Live → Heard → Option RealChange
made_with live heard =
    let real = live.rest.real.modules.items in
    accepted (change_by real heard) (modules_after real heard) live.rest.link

-- Whether a change, if there is one, affects a submodule.
abbrev pub affects : Option RealChange → ℕ → ℕ → Bool
affects None slot subslot = false
affects (Some made) slot subslot = covers (affected_by made) slot subslot

-- What was given last for the input of a submodule, after one more event: its value if it gives one, nothing if it pulls or plugs
-- something there, and as before by any other.
abbrev pub given_then : Live → ℕ → ℕ → ℕ → Heard → Option (List ℕ) → Option (List ℕ)
given_then live slot subslot size heard was =
    if affects (made_with live heard) slot subslot then None else later_one (given_with slot subslot size heard) was

-- The value that the application gave last for the input of a submodule, of this size, since something was pulled or plugged there
-- last, if it gave one; it was this before these events.
abbrev pub last_given : Station → Live → ℕ → ℕ → ℕ → List Happening → Option (List ℕ) → Option (List ℕ)
last_given station live slot subslot size [] was = was
last_given station live slot subslot size (one ∷ more) was =
    last_given station (stepped station live one).live slot subslot size more (given_then live slot subslot size (heard_of station.identity one.event) was)

-- The value of an input that was given this last: zeros if none was given.
abbrev pub value_of : Place → Option (List ℕ) → List ℕ
value_of place given = unwrap_or given (replicate (place.size - 1) 0)

-- The value of an input after these events: the one that was given last, and zeros if none was given since the answer to the Connect, or
-- since something was pulled or plugged there.
abbrev pub input_value : Station → Live → List Happening → ℕ → ℕ → Place → List ℕ
input_value station live events slot subslot place = value_of place (last_given station live slot subslot place.size events None)

-- Whether a message is a frame of inputs, and whether one is sent.
abbrev pub is_inputs : Sent → Bool
is_inputs (Exchanges route (Inputs state inputs counter)) = true
is_inputs message = false

-- Whether one of these frames is a cyclic frame of inputs.
abbrev pub sends_inputs : List Sent → Bool
sends_inputs sent = list_any is_inputs sent

-- If a message is a frame of inputs, this holds of what it sends.
abbrev pub OfInputs : (Shown → Type 0) → Sent → Type 0
OfInputs Has (Exchanges route (Inputs state inputs counter)) = Has inputs
OfInputs Has message = Unit {0}

-- These inputs have for each input of the relation the value that was given last.
abbrev pub AreTheLastGiven : Station → Live → List Happening → Request → Shown → Type 0
AreTheLastGiven station live events request inputs = (slot subslot : ℕ)
    → option_map (λ cell. cell.value) (cell_at Data slot subslot inputs.cells)
    ≡ option_map (input_value station live events slot subslot) (place_at Data slot subslot request.input.layout.places)

-- ---- which are good

-- A submodule that is a place of the relation is in no row of what differs from these modules, and is not touched: nothing was pulled
-- or plugged there after which it was not released.
abbrev pub IsOpen : List RealModule → RelationState → ℕ → ℕ → Type 0
IsOpen real link slot subslot = (place : ExpectedPlace) → expected_at slot subslot link.plugs.places ≡ Some place
    → (is_listed slot subslot (rows_now real link) ≡ false) × (is_touched place.step ≡ false)

-- Of each place of which these inputs say that it is good, by IOPS or by IOCS, that holds.
abbrev pub AreGoodWhereOpen : List RealModule → RelationState → Shown → Type 0
AreGoodWhereOpen real link inputs = (kind : PlaceKind) (slot subslot : ℕ)
    → option_map (λ cell. cell.status) (cell_at kind slot subslot inputs.cells) ≡ Some good → IsOpen real link slot subslot

-- ---- the end of data

-- Whether a message is an ERR because no frame was accepted in time, and whether one is sent.
abbrev pub is_hold : Abort → Bool
is_hold DataHold = true
is_hold Activity = false
is_hold Other = false

-- Whether a message is the ERR of a device whose data hold time is over.
abbrev pub is_end_of_data : Sent → Bool
is_end_of_data (Ends farewell) = is_hold farewell.reason
is_end_of_data message = false

-- Whether one of these messages is that ERR.
abbrev pub ends_for_data : List Sent → Bool
ends_for_data sent = list_any is_end_of_data sent

-- It is no cyclic frame that the relation accepts.
abbrev pub IsUnaccepted : Heard → Option RelationState → Type 0
IsUnaccepted (Cyclic source frame_id body) (Some link) = received_as link.flow source frame_id body ≢ received.Taken
IsUnaccepted heard link = Unit {0}

-- None of these events is.
abbrev pub AreUnaccepted : Station → List Happening → Live → Type 0
AreUnaccepted station [] live = Unit {0}
AreUnaccepted station (one ∷ more) live =
    IsUnaccepted (heard_of station.identity one.event) live.rest.link × AreUnaccepted station more (stepped station live one).live

-- ---- the law

-- Data is exchanged, or the exchange would not end with the next unit: nothing of it runs before data is exchanged.
abbrev pub GoesOnFor : Option RelationState → Type 0
GoesOnFor None = ⊥
GoesOnFor (Some link) = (link.phase ≡ Exchanging) ⊎ ((tick_of link.flow).ending ≡ None)

-- A relation as it is with the answer to its Connect.
pub record IsAnswered (live : Live) : Type 0 where
  pub request : Request
  pub partner : Partner
  pub rows : Listed DiffModule DiffSubmodule
  pub options : DeviceOptions
  pub starting : Starting
  pub link : live.rest.link ≡ Some (made_of request partner rows options starting)

-- From the answer to a Connect on, for any events after which there is a relation: a frame of inputs is sent with each unit
-- whose number is a multiple of the interval, and with no other event.
abbrev pub SendsEachInterval : Type 0
SendsEachInterval = (station : Station) (live : Live) (events : List Happening) (last : Happening) → (answered : IsAnswered live)
    → 0 < interval_of answered.request.input → StaysRelated station (events ++ last ∷ []) live → GoesOnFor (after_all station events live).rest.link
    → sends_inputs (stepped station (after_all station events live) last).sent
    ≡ (is_unit (heard_of station.identity last.event) && ((units_in station events + 1) % interval_of answered.request.input == 0))

-- Each frame of inputs that is sent has for each input the value that was given last since the answer to the Connect, and since the last
-- pull or plug there, and zeros if none was given.
abbrev pub SendsTheLastGiven : Type 0
SendsTheLastGiven = (station : Station) (live : Live) (events : List Happening) (last : Happening) → (answered : IsAnswered live)
    → StaysRelated station events live
    → AllByRecursion (OfInputs (AreTheLastGiven station live events answered.request)) (stepped station (after_all station events live) last).sent

-- If the answer to the Connect said what differs, and the Connect expects each submodule once: a frame of inputs says only of places
-- that they are good which are in no row of what differs, with what is plugged when the frame is sent, and are not touched then.
abbrev pub SendsGoodWhereOpen : Type 0
SendsGoodWhereOpen = (station : Station) (live : Live) (events : List Happening) (last : Happening) (link : RelationState) → (answered : IsAnswered live)
    → answered.rows ≡ diff_of answered.request.expected live.rest.real.modules.items → AreEachOnce (opened_places answered.request.expected answered.rows)
    → StaysRelated station events live → (after_all station events live).rest.link ≡ Some link
    → AllByRecursion (OfInputs (AreGoodWhereOpen (after_all station events live).rest.real.modules.items link))
    (stepped station (after_all station events live) last).sent

-- While data is exchanged, from its begin or an accepted frame on, for any events of which none is an accepted frame: the ERR for
-- data hold is sent with a unit exactly from the one on that completes the data hold time, and with it the relation ends.
abbrev pub EndsWithoutData : Type 0
EndsWithoutData = (station : Station) (live : Live) (link : RelationState) (events : List Happening) (last : Happening)
    → live.rest.link ≡ Some link → link.phase ≡ Exchanging → link.flow.cyclic.begun ≡ true → link.flow.cyclic.hearing.held ≡ 0
    → StaysExchanging station events live → AreUnaccepted station events live → heard_of station.identity last.event ≡ Ticks
    → (ends_for_data (stepped station (after_all station events live) last).sent ≡ nat_le link.flow.cyclic.hearing.limit (units_in station events + 1))
    × (nat_le link.flow.cyclic.hearing.limit (units_in station events + 1) ≡ true → (stepped station (after_all station events live) last).live.rest.link ≡ None)
