-- The alarms of a run: those of high priority that the device raised, those of low priority that it reported, those of either
-- priority that its controller accepted, and the one that it shows.
use Rattle.std.specs.Prelude.{◌≡◌, ◌⊎◌, ◌++◌, ◌&&◌, ◌==◌, ℕ, Bool, true, false, List, [], ◌∷◌, slice_get, if◌then◌else◌, Option, Some, None}
use Rattle.record_blocks.specs.declared.alarm_notification.AlarmNotification.{AlarmNotification}
use Rattle.pn_alarms.specs.declared.message.Notice.TheVariants as notice
use Rattle.pn_alarms.specs.declared.pdu.Header.{Header}
use Rattle.diagnosis.specs.reports.Message.{ToController}
use Rattle.pn_values.specs.declared.mac.Mac.{Mac}
use Rattle.pn_alarms.specs.Receiver.{taken_as}
use Rattle.diagnosis.specs.declared.reports.priority.Priority.{Priority}
use Rattle.relations.specs.exchange.Flow.{Flow}
use Rattle.relations.specs.RelationState.{RelationState}
use Rattle.relations.specs.Exchanged.{raised_to}
use Rattle.diagnosis.specs.Line.{more_taken}
use Rattle.controller_messages.specs.Heard.{Heard, Nothing, Answers, Responds, Refuses, Calls, Cyclic, Alarms, heard_of}
use Rattle.controller_core.specs.stored.Alarms.{is_alarm}
use Rattle.controller_core.specs.Machine.{end_of}
use Rattle.controller_core.specs.stored.State.{Controlling, Live}
use Rattle.end_laws.specs.turns.Alarms.{is_priority, last_of}
use Rattle.device_frames.specs.declared.local.Local.TheVariants as local
use Rattle.network_world.specs.declared.moves.End.TheVariants.{Controller}
use Rattle.network_world.specs.declared.moves.Move.{Move}
use Rattle.network_world.specs.declared.moves.Move.TheVariants as move
use Rattle.network_world.specs.World.{World, is_skipped}

-- ---- raised

-- the value, if there is one, as a list
abbrev pub one_in : {A : Type 0} → Option A → List A
one_in None = []
one_in (Some value) = value ∷ []

-- the unconfirmed alarm after one was raised
abbrev pub raised_in : Option Flow → List AlarmNotification
raised_in None = []
raised_in (Some flow) = one_in flow.alarms.sender.standing

module _ {F : Type 0} where
  -- an alarm is raised if the device has a relation in which it may be, and then it is the unconfirmed one
  abbrev pub raised_with : World F → Move → List AlarmNotification
  raised_with world (move.Application (local.Alarm slot subslot octets)) =
      raised_in (raised_to world.device.live.rest.real.modules.items slot subslot octets.items world.device.live.rest.link)
  raised_with world other = []

  -- the alarms raised over a run, in order
  abbrev pub raised_over : World F → List (Move × World F) → List AlarmNotification
  raised_over before [] = []
  raised_over before (one ∷ run) = raised_with before one.0 ++ raised_over one.1 run

-- ---- reported

-- the number of the last data of low priority that a relation sent, and its active alarm
abbrev pub number_in : Option RelationState → Option ℕ
number_in None = None
number_in (Some link) = link.flow.low.alarms.sender.sending.last

-- The alarm of low priority that a device has sent and that is not acknowledged, if there is one.
abbrev pub active_in : Option RelationState → List AlarmNotification
active_in None = []
active_in (Some link) = one_in link.flow.low.alarms.sender.standing

-- Whether two SendSeqNums, each of the last data that was sent, if any was, are the same.
abbrev pub is_same_number : Option ℕ → Option ℕ → Bool
is_same_number None None = true
is_same_number (Some one) (Some other) = one == other
is_same_number _ _ = false

-- A change of diagnosis, a pull or a plug is reported when data of low priority is sent under another number: it is then the active
-- alarm. The relation before a move, and after it.
abbrev pub reported_by : Option RelationState → Option RelationState → List AlarmNotification
reported_by before after = if is_same_number (number_in after) (number_in before) then [] else active_in after

module _ {F : Type 0} where
  -- The alarms of low priority that the device reports between two worlds.
  abbrev pub reported_with : World F → World F → List AlarmNotification
  reported_with before after = reported_by before.device.live.rest.link after.device.live.rest.link

  -- the changes reported over a run, in order
  abbrev pub reported_over : World F → List (Move × World F) → List AlarmNotification
  reported_over before [] = []
  reported_over before (one ∷ run) = reported_with before one.1 ++ reported_over one.1 run

-- ---- accepted alarms

-- an alarm frame is looked at while the relation exists, if it belongs to it, and data of this priority with its next number is
-- accepted
abbrev pub taken_of : Priority → Live → Mac → Header → ToController → List AlarmNotification
taken_of priority live source header (notice.Data number report) =
    if is_priority priority report.priority && (live.stands && is_alarm live.cyclic.route source header)
    then more_taken [] report.notification (taken_as (end_of live priority).seen number)
    else []
taken_of priority live source header (notice.Ack number) = []
taken_of priority live source header notice.Nack = []
taken_of priority live source header (notice.Abort status) = []

-- the alarms of this priority accepted with what a controller hears
abbrev pub taken_by : Priority → Live → Heard → List AlarmNotification
taken_by priority live (Alarms source under header notice) = taken_of priority live source header notice
taken_by priority live Nothing = []
taken_by priority live (Answers source answer) = []
taken_by priority live (Responds response) = []
taken_by priority live (Refuses refusal) = []
taken_by priority live (Calls caller call) = []
taken_by priority live (Cyclic source frame_id body) = []

-- those accepted from a frame that is delivered, unless it is skipped
abbrev pub taken_in : Priority → Bool → Controlling → List ℕ → List AlarmNotification
taken_in priority true controlling octets = []
taken_in priority false controlling octets = taken_by priority controlling.live (heard_of controlling.setup.plan.controller octets)

module _ {F : Type 0} where
  -- those accepted from a frame that is delivered to the controller, if it exists
  abbrev pub taken_from : Priority → World F → Option (List ℕ) → List AlarmNotification
  taken_from priority world None = []
  taken_from priority world (Some octets) = taken_in priority (is_skipped world.device world.controller Controller octets) world.controller octets

  -- those accepted with a move
  abbrev pub taken_with : Priority → World F → Move → List AlarmNotification
  taken_with priority world (move.Deliver Controller number) = taken_from priority world (slice_get world.sent number)
  taken_with priority world other = []

  -- those accepted over a run, in order
  abbrev pub taken_over : Priority → World F → List (Move × World F) → List AlarmNotification
  taken_over priority before [] = []
  taken_over priority before (one ∷ run) = taken_with priority before one.0 ++ taken_over priority one.1 run

-- ---- shown

-- It is the last of these alarms, or the one before it. If there are none, or only one, it may be none.
abbrev pub IsOneOfTheLastTwo : List AlarmNotification → Option AlarmNotification → Type 0
IsOneOfTheLastTwo raised shown =
    (shown ≡ last_of raised) ⊎ ((before : List AlarmNotification) × (last : AlarmNotification) × (raised ≡ before ++ last ∷ []) × (shown ≡ last_of before))
