-- The state of an application relation.
use Rattle.std.specs.Prelude.{◌≡◌, ◌==◌, ◌&&◌, ◌||◌, ℕ, Bool, true, false, not, nat_eq, List, [], Option, Some, None, option_map}
use Rattle.std.specs.Cmp.Lexicographic.{pointwise}
use Rattle.pn_values.specs.declared.mac.Mac.{Mac}
use Rattle.records.specs.calls.Naming.{is_relation}
use Rattle.connects.specs.requests.Request.{Request}
use Rattle.records.specs.declared.writes.taken.TakenRecord.{TakenRecord}
use Rattle.cyclic_data.specs.declared.status.StationState.{StationState}
use Rattle.cyclic_data.specs.exchange.Cyclic.{Cyclic}
use Rattle.expected_places.specs.Machine.{PlugState}
use Rattle.relations.specs.exchange.Flow.{Flow}
use Rattle.relations.specs.declared.options.DeviceOptions.{DeviceOptions}
use Rattle.relations.specs.declared.phase.Phase.{Phase}
use Rattle.relations.specs.declared.phase.Phase.TheVariants.{Started, Preparing, Awaiting, Exchanging}
use Rattle.relations.specs.declared.phase.Partner.{Partner}
use Rattle.relations.specs.Passed.{PassedOn, none_passed}

-- A relation: its phase, what its Connect asked for and who sent that, the options of the device, the units from the start of
-- the device to the answer to the Connect, how many units the activity timer has run, how many units have passed since
-- ApplicationReady was sent, the parameter records that were accepted and are kept, those that were passed on, what pulls and
-- plugs did to its places, and its exchange.
pub record RelationState : Type 0 where
  pub phase : Phase
  pub request : Request
  pub partner : Partner
  pub options : DeviceOptions
  pub began : ℕ
  pub inactive : ℕ
  pub waited : ℕ
  pub taken : List TakenRecord
  pub passed : PassedOn
  pub plugs : PlugState
  pub flow : Flow

-- A relation in a phase, if there is one.
abbrev pub link_in : Option Phase → (Phase → RelationState) → Option RelationState
link_in None link = None
link_in (Some phase) link = Some (link phase)

-- The phase of the relation, if there is one.
abbrev pub phase_of : Option RelationState → Option Phase
phase_of link = option_map (λ l. l.phase) link

-- Its ARUUID.
abbrev pub uuid_of : Option RelationState → Option (List ℕ)
uuid_of link = option_map (λ l. l.request.ar.uuid) link

-- The content that is read of it: what its Connect asked for, its end of cyclic data, when it began, what its last frame
-- of inputs said of the station, and the endpoint of its alarms.
abbrev pub parts_of : Option RelationState → Option (Request × Cyclic × ℕ × StationState × ℕ)
parts_of link = option_map (λ l. (l.request, l.flow.cyclic, l.began, l.flow.state_sent, l.flow.endpoint)) link

-- The records that it accepted and keeps, and those that it passed on.
abbrev pub taken_of : Option RelationState → List TakenRecord
taken_of None = []
taken_of (Some link) = link.taken

-- The records that were passed on in this relation.
abbrev pub passed_of : Option RelationState → PassedOn
passed_of None = none_passed
passed_of (Some link) = link.passed

-- What it exchanges.
abbrev pub flow_of : Option RelationState → Option Flow
flow_of link = option_map (λ l. l.flow) link

-- Whether this is its ARUUID.
abbrev pub is_named : List ℕ → Option RelationState → Bool
is_named uuid link = is_relation (uuid_of link) uuid

-- Whether this is its SessionKey.
abbrev pub is_session : ℕ → Option RelationState → Bool
is_session key None = false
is_session key (Some link) = link.request.ar.session_key == key

-- Whether it waits for PrmEnd, for its application, and for the answer to ApplicationReady.
abbrev pub is_started : Option Phase → Bool
is_started (Some Started) = true
is_started (Some Preparing) = false
is_started (Some Awaiting) = false
is_started (Some Exchanging) = false
is_started None = false

-- Whether the application prepares: PrmEnd came, and it is not ready yet.
abbrev pub is_preparing : Option Phase → Bool
is_preparing (Some Started) = false
is_preparing (Some Preparing) = true
is_preparing (Some Awaiting) = false
is_preparing (Some Exchanging) = false
is_preparing None = false

-- Whether PrmEnd was accepted.
abbrev pub is_parameterized : Option Phase → Bool
is_parameterized (Some Started) = false
is_parameterized (Some Preparing) = true
is_parameterized (Some Awaiting) = true
is_parameterized (Some Exchanging) = true
is_parameterized None = false

-- Whether the device waits for the answer to its ApplicationReady.
abbrev pub is_awaiting : Phase → Bool
is_awaiting Started = false
is_awaiting Preparing = false
is_awaiting Awaiting = true
is_awaiting Exchanging = false

-- Whether data is exchanged in a phase.
abbrev pub is_exchanging : Phase → Bool
is_exchanging Started = false
is_exchanging Preparing = false
is_exchanging Awaiting = false
is_exchanging Exchanging = true

-- Whether it is, in a relation or in none.
abbrev pub is_in_exchange : Option RelationState → Bool
is_in_exchange None = false
is_in_exchange (Some link) = is_exchanging link.phase

-- If there is a relation in a phase, its exchange has begun exactly if data is exchanged in that phase.
abbrev pub HasBegunIn : Option Phase → Flow → Type 0
HasBegunIn None flow = Unit {0}
HasBegunIn (Some phase) flow = flow.cyclic.begun ≡ is_exchanging phase

-- The exchange of the relation has begun exactly if data is exchanged in its phase.
abbrev pub IsInStep : Option RelationState → Type 0
IsInStep None = Unit {0}
IsInStep (Some link) = HasBegunIn (Some link.phase) link.flow

-- Whether two stations are the same: their MAC addresses and their IP addresses.
abbrev pub is_from : Partner → Partner → Bool
is_from source other = pointwise nat_eq source.mac.octets other.mac.octets && pointwise nat_eq source.address other.address

-- Whether a call from this station shows that the controller of the relation is alive: any station, or only its own.
abbrev pub is_alive_by : DeviceOptions → Partner → Partner → Bool
is_alive_by options own source = not options.only_own_controller || is_from source own

-- Whether a frame from this station counts as a sign of life of the controller.
abbrev pub is_alive : Partner → RelationState → Bool
is_alive source link = is_alive_by link.options link.partner source

-- Whether parameter records are passed on and not kept: while data is exchanged, if the device has that option.
abbrev pub passes_on_in : DeviceOptions → Phase → Bool
passes_on_in options phase = options.records_passed_on && is_exchanging phase

-- Whether records are passed on to the application and not kept: with the option, while data is exchanged.
abbrev pub passes_on : RelationState → Bool
passes_on link = passes_on_in link.options link.phase

-- Whether an alarm frame with this source, to this endpoint and from this one, belongs to it.
abbrev pub is_alarm_of : Mac → ℕ → ℕ → Option RelationState → Bool
is_alarm_of source destination endpoint None = false
is_alarm_of source destination endpoint (Some link) =
    pointwise nat_eq source.octets link.request.ar.initiator.octets && (destination == link.flow.endpoint && endpoint == link.request.alarm.reference)
