-- A device whose controller is silent: how long its relation lasts.
use Rattle.std.specs.Prelude.{◌≡◌, ◌≤◌, ◌⊎◌, ◌+◌, ◌-◌, ◌*◌, ◌&&◌, ◌||◌, ℕ, Bool, true, false, max, length}
use Rattle.std.specs.Prelude.{if◌then◌else◌, List, [], ◌∷◌, take, drop, Option, Some, None}
use Rattle.std.specs.List.{AllByRecursion}
use Rattle.records.specs.calls.Naming.{is_relation}
use Rattle.asked_records.specs.Asked.{AskedState, is_over, question_in}
use Rattle.asked_records.specs.Questions.{header_of}
use Rattle.asked_records.specs.declared.question.Question.{Question}
use Rattle.connects.specs.requests.Request.{Request}
use Rattle.pn_alarms.specs.declared.abort.Abort.{Abort}
use Rattle.pn_alarms.specs.declared.abort.Abort.TheVariants.{Other}
use Rattle.relations.specs.Farewells.{farewell_of}
use Rattle.relations.specs.RelationState.{RelationState}
use Rattle.relations.specs.Timers.{is_timed, limit_of}
use Rattle.relations.specs.exchange.Opening.{interval_of}
use Rattle.device_frames.specs.declared.event.Event.{Event}
use Rattle.device_frames.specs.declared.event.Event.TheVariants.{Frame, Call as Joined, Tick}
use Rattle.device_frames.specs.Sent.{Ends, bytes_of}
use Rattle.settings_journal.specs.settings_store.Machine.{Outcome}
use Rattle.device_core.specs.State.{Live, Station}
use Rattle.device_core.specs.Machine.{Stepped, first_step, later_steps, run_of, step_of}
use Rattle.octets_law.specs.Octets.{untagged}
use Rattle.strangers_law.specs.Device.{marks_of, units_in}
use Rattle.strangers_law.specs.Strange.{Marks, is_alarm_of, is_cyclic_of, is_datagram, is_said_of, same}

-- ---- silence

-- A frame to this station that is a cyclic frame, an alarm frame, a call or a response of the relation, by its octets.
abbrev pub is_frame_of : List ℕ → Marks → List ℕ → Bool
is_frame_of station marks frame =
    same (take 6 frame) station
    && (is_cyclic_of marks frame || is_alarm_of marks frame || (is_datagram frame && is_said_of marks (drop 42 frame)))

-- Whether an event at a device is a frame, or a call that was joined of fragments, of this relation. A unit of time, and what
-- its application says, comes from no controller.
abbrev pub is_event_of : List ℕ → Marks → Event → Bool
is_event_of station marks (Frame frame) = is_frame_of station marks (untagged frame.items)
is_event_of station marks (Joined caller address call) = is_said_of marks call.items
is_event_of station marks event = false

-- The controller of a relation is silent at an event: the event is not one of the relation. It may be a frame of any other station, a reset of
-- the settings, and anything that the application of the device says.
abbrev pub IsSilent : Station → RelationState → Event → Type 0
IsSilent station link event = is_event_of station.identity.mac.octets (marks_of link) event ≡ false

-- None of these events is heard from the controller of this relation.
abbrev pub AreSilent : Station → RelationState → List Event → Type 0
AreSilent station link events = AllByRecursion (IsSilent station link) events

-- A frame or a joined call is received. If the cable is pulled, no event is one of these.
abbrev pub is_received : Event → Bool
is_received (Frame frame) = true
is_received (Joined caller address call) = true
is_received event = false

-- None of these events is a frame or a call.
abbrev pub AreUnplugged : List Event → Type 0
AreUnplugged events = AllByRecursion (λ event. is_received event ≡ false) events

-- ---- how long a relation lasts

-- The data hold time of a request, in units: DataHoldFactor times SendClockFactor times ReductionRatio of the outputs.
abbrev pub hold_of : Request → ℕ
hold_of request = request.output.data_hold_factor * interval_of request.output

-- The units after which a relation is over if its controller is silent. Until data is exchanged, that is
-- CMInitiatorActivityTimeoutFactor times 100 ms, of 3,200 units each; while data is exchanged, the data hold time. One unit at least.
abbrev pub silence_limit : RelationState → ℕ
silence_limit link = max 1 (if is_timed link.phase then limit_of link else hold_of link.request)

-- The units that remain, with the one that ends it: those that have passed since the controller was heard are subtracted.
abbrev pub left_of : ℕ → ℕ → ℕ
left_of limit passed = max 1 (limit - passed)

-- The units after which the relation of a silent controller ends: the rest of its activity time, or of the data hold time.
abbrev pub remaining : RelationState → ℕ
remaining link = if is_timed link.phase then left_of (limit_of link) link.inactive else left_of (hold_of link.request) link.flow.cyclic.hearing.held

-- The clocks of a relation are those of its request: while data is exchanged its data hold time runs, and it is that of the request.
pub record IsTimed (link : RelationState) : Type 0 where
  pub runs : is_timed link.phase ≡ false → link.flow.cyclic.begun ≡ true
  pub limit : link.flow.cyclic.hearing.limit ≡ hold_of link.request

-- The clocks of the relation of the device, if it has one, are those of its request.
abbrev pub AreTimed : Option RelationState → Type 0
AreTimed None = Unit {0}
AreTimed (Some link) = IsTimed link

-- The limit of a relation, if there is one.
abbrev pub limit_in : Option RelationState → ℕ
limit_in None = 0
limit_in (Some link) = silence_limit link

-- ---- the end of a relation

-- A relation is now this one: of the same request, and this many units nearer to its end.
pub record IsStill (link : RelationState) (units : ℕ) (now : Option RelationState) : Type 0 where
  pub next : RelationState
  pub is : now ≡ Some next
  pub request : next.request ≡ link.request
  pub left : remaining next + units ≡ remaining link

-- The reason of an end: the unit is the last one that remains to a silent controller; or another reason, that the data of an alarm was not
-- acknowledged or the settings were reset.
abbrev pub IsDue : RelationState → Abort → Type 0
IsDue link reason = (reason ≡ Other) ⊎ (remaining link ≡ 1)

-- What a unit of time sends after the ERR, while this is asked of the application: nothing, or the response to a call of no relation that
-- is refused with this unit, since the application did not answer it.
abbrev pub AreLate : AskedState → List (List ℕ) → Type 0
AreLate asked frames = (length frames ≤ 1) × (is_over asked ≡ false → frames ≡ [])

-- With an event the relation ends: after it there is no relation, and the first frame that is sent with it is the ERR. With a unit
-- of time no other frame of the relation is sent.
pub record EndsWith (station : Station) (asked : AskedState) (link : RelationState) (event : Event) (step : Stepped) : Type 0 where
  pub none : step.live.rest.link ≡ None
  pub reason : Abort
  pub cause : IsDue link reason
  pub others : List (List ℕ)
  pub says : step.frames ≡ bytes_of station.identity (Ends (farewell_of reason link)) ∷ others
  pub alone : event ≡ Tick → AreLate asked others

-- All that is sent of the relation is its ERR, with a reason that is due.
pub record SaysEnd (station : Station) (asked : AskedState) (link : RelationState) (sent : List (List ℕ)) : Type 0 where
  pub reason : Abort
  pub cause : IsDue link reason
  pub others : List (List ℕ)
  pub late : AreLate asked others
  pub says : sent ≡ bytes_of station.identity (Ends (farewell_of reason link)) ∷ others

-- One of these events ends the relation. With each event before it the relation is still the same, one unit nearer to its end if the event
-- is a unit.
abbrev pub EndsAmong : List (List Outcome) → Station → Live → RelationState → List Event → Type 0
EndsAmong outcomes station live link [] = ⊥
EndsAmong outcomes station live link (event ∷ events) =
    let step = step_of (first_step outcomes) station live event in
    EndsWith station live.rest.asked link event step
    ⊎ ((still : IsStill link (units_in (event ∷ [])) step.live.rest.link) × EndsAmong (later_steps outcomes) station step.live still.next events)

-- The application is asked no call that names this relation. An answer to one starts the activity time again, as the call itself does if the
-- device answers it.
abbrev pub IsUnasked : RelationState → AskedState → Type 0
IsUnasked link asked = (question : Question) → question_in asked ≡ Some question
    → is_relation (Some link.request.ar.uuid) (header_of question.request).ar_uuid ≡ false

-- The application is asked no call of the relation of the device, if it has one.
abbrev pub IsUnaskedIn : Option RelationState → AskedState → Type 0
IsUnaskedIn None asked = Unit {0}
IsUnaskedIn (Some link) asked = IsUnasked link asked

-- For any events at which the controller is silent, none of whose calls is asked of the application: one of them ends the relation, or it is
-- still the same after all of them, as many units nearer to its end as there are units among them.
abbrev pub CountsDown : Type 0
CountsDown = (station : Station) (live : Live) (link : RelationState) (outcomes : List (List Outcome)) (events : List Event)
    → live.rest.link ≡ Some link → IsTimed link → IsUnasked link live.rest.asked → AreSilent station link events
    → EndsAmong outcomes station live link events ⊎ IsStill link (units_in events) (run_of outcomes station live events).live.rest.link

-- The clocks are those of the request in each state of a device: a device that starts has no relation, and each event keeps this, of
-- anybody.
abbrev pub StayTimed : Type 0
StayTimed = (station : Station) (live : Live) (outcomes : List (List Outcome)) (events : List Event)
    → AreTimed live.rest.link → AreTimed (run_of outcomes station live events).live.rest.link
