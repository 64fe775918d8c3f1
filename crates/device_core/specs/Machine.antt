-- One step of a device, and a run of steps, given the outcome of each call that stores a command.
use Rattle.std.specs.Prelude.{ℕ, Bool, true, false, List, [], ◌∷◌, ◌++◌, ◌&&◌, drop, map, Option, None, Result, Ok, Err, if◌then◌else◌, option_map}
use Rattle.std.specs.List.{list_any, zip}
use Rattle.pn_values.specs.declared.set_item.SetItem.{SetItem}
use Rattle.pn_values.specs.declared.set_item.SetItem.TheVariants.{Ask, Signal}
use Rattle.pn_values.specs.declared.set_item.BlockError.{BlockError}
use Rattle.pn_values.specs.declared.set_item.BlockError.TheVariants as error
use Rattle.pn_values.specs.declared.command.Command.TheVariants.{SetIm, ResetApplication, ResetCommunication, ResetAll}
use Rattle.record_blocks.specs.declared.write_record.IodWriteReq.{IodWriteReq}
use Rattle.records.specs.declared.status.operation.Operation.TheVariants.{Write}
use Rattle.records.specs.declared.status.call_fault.CallFault.{CallFault}
use Rattle.records.specs.declared.status.call_fault.CallFault.TheVariants as fault
use Rattle.rpc_core.specs.declared.response.Status.{Status}
use Rattle.records.specs.declared.writes.write.Effect.{Effect}
use Rattle.records.specs.declared.writes.write.Write.{Write as Asking}
use Rattle.records.specs.declared.writes.write.Effect.TheVariants.{Stores, Keeps}
use Rattle.records.specs.writes.Answer.{answer_of, outcomes_of}
use Rattle.pn_alarms.specs.declared.abort.Abort.TheVariants.{Other}
use Rattle.relations.specs.RelationState.{RelationState}
use Rattle.relations.specs.declared.farewell.Farewell.{Farewell}
use Rattle.relations.specs.Farewells.{farewell_of}
use Rattle.relations.specs.Phases.{Ended, Named, answered, keeping, taking, updated}
use Rattle.pn_values.specs.declared.identity.Identity.{Identity}
use Rattle.settings_journal.specs.settings_store.Machine.{Outcome, Accepted, carried}
use Rattle.dcp_core.specs.Set.{plan_of}
use Rattle.device_frames.specs.declared.event.Event.{Event}
use Rattle.device_frames.specs.declared.note.Note.{Note}
use Rattle.device_frames.specs.declared.note.Note.TheVariants as note
use Rattle.device_core.specs.State.{Station, Rest, Live}
use Rattle.device_frames.specs.Relation.{farewells_in}
use Rattle.device_frames.specs.Sent.{Sent, SetAnswer, bytes_of}
use Rattle.device_frames.specs.Heard.{Heard, heard_of}
use Rattle.device_core.specs.Asking.{ended_by, left_asked}
use Rattle.device_core.specs.Several.{Judged, texts_in}
use Rattle.device_core.specs.Handled.{Handled, Refuses, Sets, Writes, WritesEach, Moves, answer_from, kept_answer, kept_behind, handled, outcome_of, partner_of}
use Rattle.device_core.specs.Log.{err_log, with_log}

-- What is asked of the settings: the blocks of a Set, in order, the one I&M text of a Write, or those of its several
-- records, in order.
abbrev pub items_in : Handled → List SetItem
items_in (Refuses note) = []
items_in (Sets asker request in_operation) = plan_of in_operation request
items_in (Writes caller address call header value) = Ask (SetIm value) ∷ []
items_in (WritesEach caller address call header judged) = texts_in judged
items_in (Moves rest sent) = []

-- What an event asks of the settings.
abbrev pub items_of : Station → Live → Heard → List SetItem
items_of station live heard = items_in (handled station live heard)

-- Whether an item makes the lamp flash.
abbrev pub is_signal : SetItem → Bool
is_signal Signal = true
is_signal other = false

-- The lamp after some items: a Signal among them makes it flash for 3 seconds, 96,000 units.
abbrev pub lamp_after : ℕ → List SetItem → ℕ
lamp_after lamp items = if list_any is_signal items then 96000 else lamp

-- ---- a reset that ends the relation

-- Whether an item is a reset.
abbrev pub is_reset : SetItem → Bool
is_reset (Ask ResetApplication) = true
is_reset (Ask ResetCommunication) = true
is_reset (Ask ResetAll) = true
is_reset other = false

-- Whether a BlockError is 'done'.
abbrev pub is_done : BlockError → Bool
is_done error.Done = true
is_done other = false

-- Whether a reset among these items was answered 'done', with one answer for each item.
abbrev pub is_reset_done : SetItem × BlockError → Bool
is_reset_done pair = is_reset pair.0 && is_done pair.1

-- Whether a reset among these items was done.
abbrev pub resets : List SetItem → List BlockError → Bool
resets items answers = list_any is_reset_done (zip items answers)

-- The relation ends with a reset that is done, and ERR is sent before the answer to the Set.
abbrev pub link_after : Bool → Option RelationState → Option RelationState
link_after true link = updated Ended link
link_after false link = link

-- The ERR with which a relation ends by a reset.
abbrev pub farewell_at : Bool → Option RelationState → Option Farewell
farewell_at true link = option_map (farewell_of Other) link
farewell_at false link = None

-- The frames of it.
abbrev pub farewells_at : Bool → Option RelationState → List Sent
farewells_at ends link = farewells_in (farewell_at ends link)

-- ---- an I&M text that is written

-- The outcome of a Write whose command has this answer: there is no room for it, the flash failed, or it is done.
abbrev pub written_as : IodWriteReq → BlockError → Result (List ℕ) CallFault
written_as header error.Done = Ok (answer_of header)
written_as header error.Exhausted = Err fault.JournalExhausted
written_as header other = Err fault.FlashFault

-- The answer to the one item.
abbrev pub first_answer : List BlockError → BlockError
first_answer [] = error.Local
first_answer (answer ∷ answers) = answer

-- ---- several records that are written

-- What becomes of one of them: an I&M text takes the next answer of the settings, and a parameter record its place in the
-- relation.
abbrev pub effect_outcome : IodWriteReq → Effect → List BlockError → Option RelationState → Result (List ℕ) CallFault
effect_outcome header (Stores value) answers link = written_as header (first_answer answers)
effect_outcome header (Keeps parameter) answers link = kept_answer header (keeping parameter link)

-- The PNIOStatus of one record of a Write.
abbrev pub one_status : IodWriteReq → Result Asking Status → List BlockError → Option RelationState → Status
one_status header (Ok write) answers link = (outcome_of Write (effect_outcome header write.effect answers link)).0
one_status header (Err status) answers link = status

-- The answers and the relation after it.
abbrev pub effect_answers : Effect → List BlockError → List BlockError
effect_answers (Stores value) answers = drop 1 answers
effect_answers (Keeps parameter) answers = answers

-- The answers to the items after those of one record.
abbrev pub one_answers : Result Asking Status → List BlockError → List BlockError
one_answers (Ok write) answers = effect_answers write.effect answers
one_answers (Err status) answers = answers

-- The relation after one record.
abbrev pub effect_link : Effect → Option RelationState → Option RelationState
effect_link (Stores value) link = link
effect_link (Keeps parameter) link = updated (taking (keeping parameter link)) link

-- The relation after one record, unchanged if it is refused.
abbrev pub one_link : Result Asking Status → Option RelationState → Option RelationState
one_link (Ok write) link = effect_link write.effect link
one_link (Err status) link = link

-- The status of each, in order, and the relation after all.
abbrev pub statuses_of : List Judged → List BlockError → Option RelationState → List (IodWriteReq × Status)
statuses_of [] answers link = []
statuses_of (one ∷ others) answers link =
    (one.0, one_status one.0 one.1 answers link) ∷ statuses_of others (one_answers one.1 answers) (one_link one.1 link)

-- The relation after these records.
abbrev pub link_behind : List Judged → Option RelationState → Option RelationState
link_behind [] link = link
link_behind (one ∷ others) link = link_behind others (one_link one.1 link)

-- The blocks of the answer: the header of the list, and one for each record.
abbrev pub several_answer : IodWriteReq → List Judged → List BlockError → Option RelationState → List ℕ
several_answer header judged answers link = answer_of header ++ outcomes_of (statuses_of judged answers link)

-- The result of an event besides the settings: the rest, the messages that are sent, and the note of the event.
pub record Finished : Type 0 where
  pub rest : Rest
  pub sent : List Sent
  pub note : Note

-- The result of an event with this outcome, given the answers to its items. A Set can make the lamp flash, and its resets that are done
-- end the relation, which is logged. A Write is answered by the outcome of its command, and the answer is stored; a Write that is done
-- shows that the controller is alive.
abbrev pub finished : Identity → Rest → Handled → List BlockError → Finished
finished identity rest (Refuses note) answers = record { rest = rest; sent = []; note = note }
finished identity rest (Sets asker request in_operation) answers =
    let items = plan_of in_operation request in
    let ends = resets items answers in
    record {
      rest = with_log (err_log (farewell_at ends rest.link)) (record rest {
        lamp = lamp_after rest.lamp items;
        link = link_after ends rest.link;
        asked = left_asked (ended_by (farewell_at ends rest.link)) rest.asked;
      });
      sent = farewells_at ends rest.link ++ SetAnswer asker request answers ∷ [];
      note = note.Done;
    }
finished identity rest (Writes caller address call header value) answers =
    let outcome = written_as header (first_answer answers) in
    let answer = answer_from address caller call Write outcome in
    record { rest = kept_behind identity rest call answer (updated (answered (Named (partner_of caller)) outcome) rest.link); sent = answer ∷ []; note = note.Done }
finished identity rest (WritesEach caller address call header judged) answers =
    let answer = answer_from address caller call Write (Ok (several_answer header judged answers rest.link)) in
    record { rest = kept_behind identity rest call answer (updated (Named (partner_of caller)) (link_behind judged rest.link)); sent = answer ∷ []; note = note.Done }
finished identity rest (Moves later sent) answers = record { rest = later; sent = sent; note = note.Done }

-- The result of an event with this outcome that asks nothing of the settings.
abbrev pub end_of : Station → Live → Handled → Finished
end_of station live what = finished station.identity live.rest what []

-- A step: what changes, the messages that are sent and their frames, the note of the event, and the commands that were
-- accepted.
pub record Stepped : Type 0 where
  pub live : Live
  pub sent : List Sent
  pub frames : List (List ℕ)
  pub note : Note
  pub accepted : List Accepted

-- The settings carry out what is asked of them, and the step is finished with their answers.
unfoldable pub handled_step : List Outcome → Station → Live → Handled → Stepped
handled_step outcomes station live what =
    let settled = carried outcomes live.values (items_in what) in
    let end = finished station.identity live.rest what settled.answers in
    record {
      live = record { values = settled.values; rest = end.rest };
      sent = end.sent;
      frames = map (bytes_of station.identity) end.sent;
      note = end.note;
      accepted = settled.accepted;
    }

-- A step of the device, for these outcomes of the flash.
unfoldable pub heard_step : List Outcome → Station → Live → Heard → Stepped
heard_step outcomes station live heard = handled_step outcomes station live (handled station live heard)

-- One step, with an outcome for each command.
abbrev pub step_of : List Outcome → Station → Live → Event → Stepped
step_of outcomes station live event = heard_step outcomes station live (heard_of station.identity event)

-- What is handed on of a step: nothing once power is lost.
abbrev pub handed : Stepped → List (List ℕ)
handed step = if step.live.values.is_lost then [] else step.frames

-- A run of steps: what changes, what was handed on, and the commands that were accepted.
pub record Ran : Type 0 where
  pub live : Live
  pub frames : List (List ℕ)
  pub accepted : List Accepted

-- The outcomes of the first step. A step without given outcomes passes.
abbrev pub first_step : List (List Outcome) → List Outcome
first_step [] = []
first_step (outcomes ∷ more) = outcomes

-- The outcomes of the flash in the steps after the first.
abbrev pub later_steps : List (List Outcome) → List (List Outcome)
later_steps [] = []
later_steps (outcomes ∷ more) = more

-- A step, and then a run.
abbrev pub then_run : Stepped → Ran → Ran
then_run step ran = record { live = ran.live; frames = handed step ++ ran.frames; accepted = step.accepted ++ ran.accepted }

-- The events in order, with outcomes for each.
abbrev pub run_of : List (List Outcome) → Station → Live → List Event → Ran
run_of outcomes station live [] = record { live = live; frames = []; accepted = [] }
run_of outcomes station live (event ∷ events) =
    let step = step_of (first_step outcomes) station live event in
    then_run step (run_of (later_steps outcomes) station step.live events)
