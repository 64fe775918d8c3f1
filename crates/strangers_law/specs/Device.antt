-- A device and the frames of strangers.
use Rattle.std.specs.Prelude.{◌≡◌, ◌⊎◌, ℕ, suc, zero, Bool, true, false, if◌then◌else◌, List, [], ◌∷◌, ◌++◌, Some, is_some, map}
use Rattle.std.specs.List.{AllByRecursion}
use Rattle.rpc_core.specs.Cache.{Kept}
use Rattle.relations.specs.RelationState.{RelationState}
use Rattle.device_frames.specs.declared.event.Event.{Event}
use Rattle.device_frames.specs.declared.event.Event.TheVariants.{Tick}
use Rattle.settings_journal.specs.settings_store.Machine.{Outcome}
use Rattle.device_core.specs.State.{Live, Station}
use Rattle.device_frames.specs.Sent.{Sent, CallAnswer, bytes_of}
use Rattle.device_core.specs.Machine.{Stepped, first_step, later_steps, run_of, step_of}
use Rattle.octets_law.specs.Octets.{untagged}
use Rattle.strangers_law.specs.Strange.{Marks, is_of_exchange, is_own}

-- By what a relation is known in frames to its device.
abbrev pub marks_of : RelationState → Marks
marks_of link = record {
  uuid = link.request.ar.uuid;
  provider = link.flow.cyclic.route.partner.octets;
  frame_id = link.flow.cyclic.route.taken_id;
  notifier = link.request.ar.initiator.octets;
  their_endpoint = link.request.alarm.reference;
  own_endpoint = link.flow.endpoint;
}

-- An event of a stranger: a frame, or a call that was joined, that does not belong to this relation by its octets alone.
abbrev pub IsStrange : Station → RelationState → Event → Type 0
IsStrange station link event = is_own station.identity.mac.octets (marks_of link) event ≡ false

-- The settings are as they were, and the relation with its phase, outputs, records, alarms, numbers and times; so are the units,
-- whether the application runs, the statuses, the neighbour, the diagnoses, the number of relations since the start and the modules that are
-- plugged. The lamp, the stored answers to calls, the log and what is asked of the application may have changed.
pub record IsLeft (old new : Live) : Type 0 where
  pub values : new.values ≡ old.values
  pub link : new.rest.link ≡ old.rest.link
  pub units : new.rest.units ≡ old.rest.units
  pub is_running : new.rest.is_running ≡ old.rest.is_running
  pub statuses : new.rest.statuses ≡ old.rest.statuses
  pub peer : new.rest.peer ≡ old.rest.peer
  pub diagnoses : new.rest.diagnoses ≡ old.rest.diagnoses
  pub made : new.rest.made ≡ old.rest.made
  pub real : new.rest.real ≡ old.rest.real

-- A frame that is no cyclic frame, no alarm frame and no call.
abbrev pub IsNoExchange : List ℕ → Type 0
IsNoExchange frame = is_of_exchange (untagged frame) ≡ false

-- The frames of the stored answers to calls, each of which was sent before as the answer to a call. A frame that is one of some.
abbrev pub frames_stored : List Kept → List (List ℕ)
frames_stored calls = map (λ kept. kept.frame) calls

-- A frame is one of these.
abbrev pub IsIn : List ℕ → List (List ℕ) → Type 0
IsIn frame [] = ⊥
IsIn frame (one ∷ others) = (frame ≡ one) ⊎ IsIn frame others

-- What is sent to a stranger: no cyclic frame, no alarm frame and no call; or a stored answer again.
abbrev pub AreAnswers : Live → List (List ℕ) → Type 0
AreAnswers live sent = AllByRecursion (λ frame. IsNoExchange frame ⊎ IsIn frame (frames_stored live.rest.calls)) sent

-- ---- a flood

-- Each of these is a unit of time, or the event of a stranger.
abbrev pub AreStrangeOrUnits : Station → RelationState → List Event → Type 0
AreStrangeOrUnits station link events = AllByRecursion (λ event. (event ≡ Tick) ⊎ IsStrange station link event) events

-- The number of units among some events.
abbrev pub is_unit : Event → Bool
is_unit Tick = true
is_unit event = false

-- How many of these events are units of time.
abbrev pub units_in : List Event → ℕ
units_in [] = 0
units_in (event ∷ events) = if is_unit event then suc (units_in events) else units_in events

-- The messages but for responses to calls: with the last of the units in which the application can answer a call, a response refuses it. A
-- station that names no records sends no response with a unit.
abbrev pub but_answers : List Sent → List Sent
but_answers [] = []
but_answers (CallAnswer caller address answer ∷ others) = but_answers others
but_answers (message ∷ others) = message ∷ but_answers others

-- The frames of a step but for responses to calls.
abbrev pub frames_of : Station → Stepped → List (List ℕ)
frames_of station step = map (bytes_of station.identity) (but_answers step.sent)

-- A device after this many units of time alone, and the frames that it sends with them.
abbrev pub alone : ℕ → Station → Live → Live
alone zero station live = live
alone (suc units) station live = alone units station (step_of [] station live Tick).live

-- The frames that a device sends in this number of units, if nothing else happens, but for responses.
abbrev pub frames_alone : ℕ → Station → Live → List (List ℕ)
frames_alone zero station live = []
frames_alone (suc units) station live = let step = step_of [] station live Tick in frames_of station step ++ frames_alone units station step.live

-- The frames that a device sends with the units among some events, whatever its flash does, but for responses.
abbrev pub unit_frames : List (List Outcome) → Station → Live → List Event → List (List ℕ)
unit_frames outcomes station live [] = []
unit_frames outcomes station live (event ∷ events) =
    let step = step_of (first_step outcomes) station live event in
    (if is_unit event then frames_of station step else []) ++ unit_frames (later_steps outcomes) station step.live events

-- For any events of strangers among any units of time, as long as these alone do not end the relation: the relation is then what the units
-- alone make of it, and the frames that are sent with them, but for responses to calls, are those of the units alone.
abbrev pub RunsAsAlone : Type 0
RunsAsAlone = (station : Station) (live : Live) (link : RelationState) (outcomes : List (List Outcome)) (events : List Event)
    → live.rest.link ≡ Some link → AreStrangeOrUnits station link events → is_some (alone (units_in events) station live).rest.link ≡ true
    → IsLeft (alone (units_in events) station live) (run_of outcomes station live events).live
    × (unit_frames outcomes station live events ≡ frames_alone (units_in events) station live)
