-- A device whose numbers go round: the frames of an earlier relation are frames of strangers to a later one.
use Rattle.std.specs.Prelude.{◌≡◌, ◌≢◌, ◌≤◌, ◌<◌, ◌&&◌, ℕ, suc, Bool, true, not, List, [], ◌∷◌, Option, Some, None, is_some, if◌then◌else◌}
use Rattle.frame_codec.specs.FrameId.{is_cyclic}
use Rattle.relations.specs.Numbers.{endpoint_of, made_after, number_of, output_id}
use Rattle.relations.specs.RelationState.{RelationState}
use Rattle.device_frames.specs.declared.event.Event.{Event}
use Rattle.device_frames.specs.declared.event.Event.TheVariants.{Frame}
use Rattle.settings_journal.specs.settings_store.Machine.{Outcome}
use Rattle.device_core.specs.State.{Live, Rest, Station}
use Rattle.device_core.specs.Machine.{first_step, later_steps, run_of, step_of}
use Rattle.octets_law.specs.Octets.{untagged}
use Rattle.strangers_law.specs.Device.{IsLeft, IsStrange, marks_of}
use Rattle.strangers_law.specs.Strange.{is_alarm_of, is_cyclic_of}

-- ---- the relations that a device makes

-- Whether a relation is made: there was no relation, and there is one.
abbrev pub is_made : Option RelationState → Option RelationState → Bool
is_made old new = not (is_some old) && is_some new

-- The number of relations that a device makes with some events.
abbrev pub made_with : List (List Outcome) → Station → Live → List Event → ℕ
made_with outcomes station live [] = 0
made_with outcomes station live (event ∷ events) =
    let next = (step_of (first_step outcomes) station live event).live in
    let others = made_with (later_steps outcomes) station next events in
    if is_made live.rest.link next.rest.link then suc others else others

-- A relation has the number of the count before it, and the device has counted it: its endpoint of alarms, and the FrameID of its outputs,
-- which is one of cyclic frames.
pub record IsNumbered (station : Station) (made : ℕ) (link : RelationState) : Type 0 where
  pub before : ℕ
  pub counted : made ≡ made_after before
  pub endpoint : link.flow.endpoint ≡ endpoint_of (number_of station.options.numbers_from before)
  pub frame_id : link.flow.cyclic.route.taken_id ≡ output_id (number_of station.options.numbers_from before) link.request.output
  pub cyclic : is_cyclic link.flow.cyclic.route.taken_id ≡ true

-- The relation of the device, if it has one, has the number of the count before it, and the device has counted it.
abbrev pub IsNumberedIn : Station → ℕ → Option RelationState → Type 0
IsNumberedIn station made None = Unit {0}
IsNumberedIn station made (Some link) = IsNumbered station made link

-- The FrameIDs and the reference of the relation that exists are those of its number, if the device gives numbers.
abbrev pub AreNumbered : Station → Rest → Type 0
AreNumbered station rest = IsNumberedIn station rest.made rest.link

-- It is so in each state of a device: a device that starts has no relation, and each event keeps this, of anybody.
abbrev pub StayNumbered : Type 0
StayNumbered = (station : Station) (live : Live) (outcomes : List (List Outcome)) (events : List Event)
    → AreNumbered station live.rest → AreNumbered station (run_of outcomes station live events).live.rest

-- ---- a relation and a later one

-- A device whose numbers go round has a relation, and after these events it has a later one: it made at least one relation with them, and
-- fewer than 14,336.
pub record Follows (outcomes : List (List Outcome)) (station : Station) (live : Live) (events : List Event) (earlier later : RelationState) : Type 0 where
  pub first : ℕ
  pub go_round : station.options.numbers_from ≡ Some first
  pub numbered : AreNumbered station live.rest
  pub was : live.rest.link ≡ Some earlier
  pub is : (run_of outcomes station live events).live.rest.link ≡ Some later
  pub some : 1 ≤ made_with outcomes station live events
  pub few : made_with outcomes station live events < 14336

-- Their numbers differ: the endpoints of their alarms, and the FrameIDs of their outputs, if both Connects leave the choice to the device.
pub record AreApart (earlier later : RelationState) : Type 0 where
  pub endpoint : later.flow.endpoint ≢ earlier.flow.endpoint
  pub frame_id : earlier.request.output.device_chooses ≡ true → later.request.output.device_chooses ≡ true
      → later.flow.cyclic.route.taken_id ≢ earlier.flow.cyclic.route.taken_id

-- Two relations of one device, one after the other, have other numbers.
abbrev pub NumbersDiffer : Type 0
NumbersDiffer = (station : Station) (live : Live) (earlier later : RelationState) (outcomes : List (List Outcome)) (events : List Event)
    → Follows outcomes station live events earlier later → AreApart earlier later

-- ---- late frames

-- A frame that is a cyclic frame, or an alarm frame, of this relation by its octets.
abbrev pub IsCyclicFrameOf : RelationState → Event → Type 0
IsCyclicFrameOf link (Frame frame) = is_cyclic_of (marks_of link) (untagged frame.items) ≡ true
IsCyclicFrameOf link event = ⊥

-- An event that brings an alarm frame of this relation.
abbrev pub IsAlarmFrameOf : RelationState → Event → Type 0
IsAlarmFrameOf link (Frame frame) = is_alarm_of (marks_of link) (untagged frame.items) ≡ true
IsAlarmFrameOf link event = ⊥

-- A device refuses it: it is a stranger's to this relation, and leaves the relation as it was, with its outputs, alarms and times.
pub record IsRefused (station : Station) (live : Live) (link : RelationState) (event : Event) : Type 0 where
  pub strange : IsStrange station link event
  pub left : (outcomes : List Outcome) → IsLeft live (step_of outcomes station live event).live

-- An alarm frame of the earlier relation that comes in the later one is refused.
abbrev pub LateAlarmsAreRefused : Type 0
LateAlarmsAreRefused = (station : Station) (live : Live) (earlier later : RelationState) (outcomes : List (List Outcome)) (events : List Event) (event : Event)
    → Follows outcomes station live events earlier later → IsAlarmFrameOf earlier event
    → IsRefused station (run_of outcomes station live events).live later event

-- So is a cyclic frame of it, if both Connects leave the choice of the FrameID to the device.
abbrev pub LateOutputsAreRefused : Type 0
LateOutputsAreRefused = (station : Station) (live : Live) (earlier later : RelationState) (outcomes : List (List Outcome)) (events : List Event) (event : Event)
    → Follows outcomes station live events earlier later
    → earlier.request.output.device_chooses ≡ true → later.request.output.device_chooses ≡ true → IsCyclicFrameOf earlier event
    → IsRefused station (run_of outcomes station live events).live later event
