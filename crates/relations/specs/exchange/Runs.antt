-- Exchanges over many events.
use Rattle.std.specs.Prelude.{◌≡◌, ◌+◌, ◌-◌, ◌%◌, ◌==◌, ◌&&◌, ◌<◌, ◌++◌, ℕ, Bool, true, not, nat_le, List, [], ◌∷◌, length, replicate, Option, Some, None, is_none, option_map, unwrap_or, if◌then◌else◌}
use Rattle.pn_values.specs.declared.mac.Mac.{Mac}
use Rattle.pn_values.specs.declared.real.RealModule.{RealModule}
use Rattle.wire.specs.blocks.modules.Lists.{Listed}
use Rattle.connect_blocks.specs.declared.module_diff.DiffModule.{DiffModule}
use Rattle.connect_blocks.specs.declared.module_diff.DiffSubmodule.{DiffSubmodule}
use Rattle.cyclic_data.specs.declared.place.Place.{Place}
use Rattle.cyclic_data.specs.declared.place.PlaceKind.TheVariants.{Data, Iocs}
use Rattle.cyclic_data.specs.Image.{cell_at, place_at}
use Rattle.cyclic_data.specs.Timing.{is_due}
use Rattle.connects.specs.requests.Request.{Request}
use Rattle.pn_alarms.specs.Message.{ToDevice}
use Rattle.cyclic_data.specs.exchange.Runs as core
use Rattle.cyclic_data.specs.exchange.Cyclic.{Cyclic}
use Rattle.cyclic_data.specs.exchange.Process.{given_at as cyclic_given}
use Rattle.cyclic_data.specs.exchange.Runs.{held_in, later_one}
use Rattle.diagnosis.specs.alarms.Alarms.{Low}
use Rattle.relations.specs.exchange.Diagnosis.{with_low}
use Rattle.relations.specs.exchange.Flow.{Flow, state_of}
use Rattle.relations.specs.declared.exchange.marks.Mark.{Mark}
use Rattle.relations.specs.exchange.Marks.{Starting, awaits, change_by, first_mark, iops_by, iops_of, mark_at, marked}
use Rattle.relations.specs.exchange.Opening.{begun_of, interval_of, opened, status_of}
use Rattle.relations.specs.exchange.Units.{flow_later, is_silent}
use Rattle.relations.specs.exchange.Received.{behind_frame}
use Rattle.relations.specs.exchange.Process.{given_at, rated_at, turned}
use Rattle.relations.specs.exchange.Notices.{behind_message, raised_at}

-- What happens to an exchange that was opened: each call that changes it, but for pulls and plugs, which `Shut` has beside these. A
-- call that changes the alarms of low priority leaves these, whatever they are.
pub data Event : Type 0 where
  Begins : Event
  Passes : Event
  Comes : (source : Mac) → (frame_id : ℕ) → (body : List ℕ) → Event
  Gives : (slot : ℕ) → (subslot : ℕ) → (value : List ℕ) → Event
  Rates : (slot : ℕ) → (subslot : ℕ) → (is_good : Bool) → Event
  Raises : (real : List RealModule) → (slot : ℕ) → (subslot : ℕ) → (octets : List ℕ) → Event
  Says : (message : ToDevice) → Event
  Lowers : (low : Low) → Event
  Turns : (is_running : Bool) → Event

-- The state after an event, and after several events in order.
abbrev pub behind : Event → Flow → Flow
behind Begins flow = begun_of flow
behind Passes flow = flow_later flow
behind (Comes source frame_id body) flow = behind_frame flow source frame_id body
behind (Gives slot subslot value) flow = unwrap_or (given_at flow slot subslot value) flow
behind (Rates slot subslot is_good) flow = rated_at flow slot subslot is_good
behind (Raises real slot subslot octets) flow = unwrap_or (raised_at flow real slot subslot octets) flow
behind (Says message) flow = behind_message flow message
behind (Lowers low) flow = with_low flow low
behind (Turns is_running) flow = turned flow is_running

-- The exchange after these events.
abbrev pub behind_all : List Event → Flow → Flow
behind_all [] flow = flow
behind_all (event ∷ events) flow = behind_all events (behind event flow)

-- What the event is for the end of cyclic data: an input that was awaited sets the IOPS too.
abbrev pub iops_after : Flow → ℕ → ℕ → Option Bool → ℕ
iops_after flow slot subslot status = iops_of (mark_at slot subslot (marked slot subslot (change_by status) flow.marks))

-- The IOPS that a first value brings with it: that of the submodule, if it waited for the value.
abbrev pub states_after : Flow → ℕ → ℕ → Option Cyclic → List core.Event
states_after flow slot subslot None = []
states_after flow slot subslot (Some cyclic) =
    if awaits slot subslot flow.marks then core.States slot subslot (iops_after flow slot subslot None) ∷ [] else []

-- What an event of the exchange is to its cyclic data.
abbrev pub cyclic_event : Event → Flow → List core.Event
cyclic_event Begins flow = core.Begins ∷ []
cyclic_event Passes flow = core.Passes ∷ []
cyclic_event (Comes source frame_id body) flow = core.Comes source frame_id body ∷ []
cyclic_event (Gives slot subslot value) flow =
    core.Gives slot subslot value ∷ states_after flow slot subslot (cyclic_given flow.cyclic slot subslot value)
cyclic_event (Rates slot subslot is_good) flow = core.States slot subslot (iops_after flow slot subslot (Some is_good)) ∷ []
cyclic_event (Raises real slot subslot octets) flow = core.Rests ∷ []
cyclic_event (Says message) flow = core.Rests ∷ []
cyclic_event (Lowers low) flow = core.Rests ∷ []
cyclic_event (Turns is_running) flow = core.Rests ∷ []

-- What these events are to the cyclic data.
abbrev pub cyclic_events : List Event → Flow → List core.Event
cyclic_events [] flow = []
cyclic_events (event ∷ events) flow = cyclic_event event flow ++ cyclic_events events (behind event flow)

-- How many units passed.
abbrev pub units_of : Event → ℕ
units_of Begins = 0
units_of Passes = 1
units_of (Comes source frame_id body) = 0
units_of (Gives slot subslot value) = 0
units_of (Rates slot subslot is_good) = 0
units_of (Raises real slot subslot octets) = 0
units_of (Says message) = 0
units_of (Lowers low) = 0
units_of (Turns is_running) = 0

-- How many of these events are units of time.
abbrev pub units_in : List Event → ℕ
units_in [] = 0
units_in (event ∷ events) = units_of event + units_in events

-- The octets of the last accepted frame.
abbrev pub last_taken : List Event → Flow → Option (List ℕ)
last_taken events flow = core.last_taken (cyclic_events events flow) flow.cyclic

-- The value that a submodule is given, if its length is that of the place, which includes the octet of IOPS; and the
-- last such value.
abbrev pub given_with : ℕ → ℕ → ℕ → Event → Option (List ℕ)
given_with slot subslot size Begins = None
given_with slot subslot size Passes = None
given_with slot subslot size (Comes source frame_id body) = None
given_with slot subslot size (Gives to_slot to_subslot value) =
    if ((slot == to_slot) && (subslot == to_subslot)) && (size == length value + 1) then Some value else None
given_with slot subslot size (Rates to_slot to_subslot is_good) = None
given_with slot subslot size (Raises real of_slot of_subslot octets) = None
given_with slot subslot size (Says message) = None
given_with slot subslot size (Lowers low) = None
given_with slot subslot size (Turns is_running) = None

-- The value that was given last for an input of this size, if one was given.
abbrev pub last_given : ℕ → ℕ → ℕ → List Event → Option (List ℕ)
last_given slot subslot size [] = None
last_given slot subslot size (event ∷ events) = later_one (last_given slot subslot size events) (given_with slot subslot size event)

-- Whether the application says that the inputs of a submodule are bad, and what it said last.
abbrev pub rated_with : ℕ → ℕ → Event → Option Bool
rated_with slot subslot Begins = None
rated_with slot subslot Passes = None
rated_with slot subslot (Comes source frame_id body) = None
rated_with slot subslot (Gives to_slot to_subslot value) = None
rated_with slot subslot (Rates to_slot to_subslot is_good) =
    if (slot == to_slot) && (subslot == to_subslot) then Some (not is_good) else None
rated_with slot subslot (Raises real of_slot of_subslot octets) = None
rated_with slot subslot (Says message) = None
rated_with slot subslot (Lowers low) = None
rated_with slot subslot (Turns is_running) = None

-- The later of two statuses, if there is one.
abbrev pub later_rated : Option Bool → Option Bool → Option Bool
later_rated (Some later) earlier = Some later
later_rated None earlier = earlier

-- The status that the application gave last for a submodule, if it gave one.
abbrev pub last_rated : ℕ → ℕ → List Event → Option Bool
last_rated slot subslot [] = None
last_rated slot subslot (event ∷ events) = later_rated (last_rated slot subslot events) (rated_with slot subslot event)

-- The value of a submodule: the one that was given last, and zeros if none was given.
abbrev pub input_value : ℕ → ℕ → List Event → Place → List ℕ
input_value slot subslot events place = unwrap_or (last_given slot subslot place.size events) (replicate (place.size - 1) 0)

-- The IOPS of a submodule is good if the ModuleDiffBlock does not list it, if the application did not say last that it is
-- bad, and, if inputs begin bad, if it has no octets of data or an input was given.
abbrev pub mark_after : ℕ → ℕ → List Event → Mark → Mark
mark_after slot subslot events mark = record mark {
  is_awaited = is_none (last_given slot subslot mark.place.size events) && mark.is_awaited;
  is_bad = unwrap_or (last_rated slot subslot events) mark.is_bad;
}

-- The IOPS of an input after these events.
abbrev pub input_iops : Listed DiffModule DiffSubmodule → Starting → ℕ → ℕ → List Event → Place → ℕ
input_iops rows starting slot subslot events place = iops_by (mark_after slot subslot events (first_mark starting rows place))

-- Whether the application runs, if this event says it, and what it said last.
abbrev pub turned_with : Event → Bool → Bool
turned_with Begins was = was
turned_with Passes was = was
turned_with (Comes source frame_id body) was = was
turned_with (Gives slot subslot value) was = was
turned_with (Rates slot subslot is_good) was = was
turned_with (Raises real slot subslot octets) was = was
turned_with (Says message) was = was
turned_with (Lowers low) was = was
turned_with (Turns is_running) was = is_running

-- Whether the application runs after these events: as it said last, and as before if it said nothing.
abbrev pub last_turned : List Event → Bool → Bool
last_turned [] was = was
last_turned (event ∷ events) was = last_turned events (turned_with event was)

-- Whether none of the events restarts or stops the data hold time.
abbrev pub AreNoRenewals : List Event → Flow → Type 0
AreNoRenewals events flow = core.AreNoRenewals (cyclic_events events flow) flow.cyclic

-- For any events, a frame of inputs is due with each unit whose number, counted from the answer to the Connect, is a
-- multiple of the interval, and with no other unit.
abbrev pub IsDueEachInterval : Type 0
IsDueEachInterval = (request : Request) (rows : Listed DiffModule DiffSubmodule) (starting : Starting) (events : List Event) → 0 < interval_of request.input
    → is_due (behind_all events (opened request rows starting)).cyclic.sending ≡ ((units_in events + 1) % interval_of request.input == 0)

-- For any events, the outputs are those of the last accepted frame, and are unchanged if no frame was accepted.
abbrev pub AreOfTheLast : Type 0
AreOfTheLast = (events : List Event) (flow : Flow) → (behind_all events flow).cyclic.taken ≡ held_in flow.cyclic.taken (last_taken events flow)

-- For any events, the input of a submodule is the value that was given last since the answer to the Connect, and zeros
-- if none was given.
abbrev pub AreTheLastGiven : Type 0
AreTheLastGiven = (request : Request) (rows : Listed DiffModule DiffSubmodule) (starting : Starting) (events : List Event) (slot subslot : ℕ)
    → option_map (λ cell. cell.value) (cell_at Data slot subslot (behind_all events (opened request rows starting)).cyclic.shown.cells)
    ≡ option_map (input_value slot subslot events) (place_at Data slot subslot request.input.layout.places)

-- For any events, the IOPS of a submodule is good if nothing is against it.
abbrev pub AreTheIops : Type 0
AreTheIops = (request : Request) (rows : Listed DiffModule DiffSubmodule) (starting : Starting) (events : List Event) (slot subslot : ℕ)
    → option_map (λ cell. cell.status) (cell_at Data slot subslot (behind_all events (opened request rows starting)).cyclic.shown.cells)
    ≡ option_map (input_iops rows starting slot subslot events) (place_at Data slot subslot request.input.layout.places)

-- For any events, a frame of inputs says that the device runs exactly if its application said so last. What it said before the
-- Connect counts too.
abbrev pub RunsAsSaid : Type 0
RunsAsSaid = (request : Request) (rows : Listed DiffModule DiffSubmodule) (starting : Starting) (events : List Event)
    → (state_of (behind_all events (opened request rows starting))).is_running ≡ last_turned events starting.is_running

-- For any events, the IOCS that are sent are those of the answer to the Connect.
abbrev pub AreStillTheIocs : Type 0
AreStillTheIocs = (request : Request) (rows : Listed DiffModule DiffSubmodule) (starting : Starting) (events : List Event) (slot subslot : ℕ)
    → option_map (λ cell. cell.status) (cell_at Iocs slot subslot (behind_all events (opened request rows starting)).cyclic.shown.cells)
    ≡ option_map (λ place. status_of rows place.slot place.subslot) (place_at Iocs slot subslot request.input.layout.places)

-- While data is exchanged, and counted from its start, the data hold time is over from the unit on that completes it,
-- and not before, unless meanwhile a frame is accepted, or the exchange begins again or ends.
abbrev pub IsHeldSoLong : Type 0
IsHeldSoLong = (events : List Event) (flow : Flow) → flow.cyclic.begun ≡ true → flow.cyclic.hearing.held ≡ 0 → AreNoRenewals events flow
    → is_silent (behind_all events flow) ≡ nat_le flow.cyclic.hearing.limit (units_in events + 1)
