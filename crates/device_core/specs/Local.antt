-- What holds of whatever the application says to the device: of an answer to a question, and of all else.
use Rattle.std.specs.Prelude.{◌≡◌, ◌≤◌, ◌⊎◌, ℕ, Bool, true, false, List, [], length, Option, Some, None}
use Rattle.std.specs.List.{AllByRecursion}
use Rattle.arrayvec.specs.ArrayVec.{ArrayVec}
use Rattle.pn_values.specs.declared.real.Real.{Real}
use Rattle.pn_values.specs.declared.real.RealModule.{RealModule}
use Rattle.pn_values.specs.declared.set_item.BlockError.{BlockError}
use Rattle.module_diff.specs.Changes.{plugged_with, pulled, slot_pulled}
use Rattle.relations.specs.declared.phase.Phase.{Phase}
use Rattle.relations.specs.declared.phase.Phase.TheVariants.{Preparing, Awaiting}
use Rattle.relations.specs.exchange.Flow.{Flow}
use Rattle.relations.specs.RelationState.{RelationState}
use Rattle.device_frames.specs.declared.local.Local.{Local}
use Rattle.device_frames.specs.declared.local.Local.TheVariants as local
use Rattle.device_frames.specs.Heard.{Heard, Ticks, Unreadable, Elsewhere, Asks, Resolves, Reported, Cyclic, Alarms, LowReplies, LowConfirms, Met, Applied}
use Rattle.device_frames.specs.Sent.{Sent, IdentifyAnswer, GetAnswer, SetAnswer, ArpReply, CallAnswer, Again, ReadyCall, PlugReadyCall, Ends, Exchanges}
use Rattle.device_core.specs.State.{Station, Live}
use Rattle.device_core.specs.Handled.{Handled, handled, handled_local}
use Rattle.device_core.specs.Machine.{Finished, finished, items_in}
use Rattle.device_core.specs.Modules.{outside}
use Rattle.device_core.specs.Steps.{IsBehindCalls}
use Rattle.asked_records.specs.Asked.{question_in, settled}
use Rattle.asked_records.specs.declared.question.Question.{Question}

-- The phase is the one before, or the application is ready.
abbrev pub IsPhaseOf : Phase → Phase → Type 0
IsPhaseOf before after = (after ≡ before) ⊎ ((before ≡ Preparing) × (after ≡ Awaiting))

-- The frames of the exchange are known by the same numbers, and what it received is that of before, with the time of the last.
pub record IsFlowOf (before after : Flow) : Type 0 where
  pub route : after.cyclic.route ≡ before.cyclic.route
  pub begun : after.cyclic.begun ≡ before.cyclic.begun
  pub hearing : after.cyclic.hearing ≡ before.cyclic.hearing
  pub endpoint : after.endpoint ≡ before.endpoint

-- It is the same relation, and what ends it in time has not moved: the units of its activity and of the data hold.
pub record IsLinkOf (before after : RelationState) : Type 0 where
  pub phase : IsPhaseOf before.phase after.phase
  pub request : after.request ≡ before.request
  pub inactive : after.inactive ≡ before.inactive
  pub flow : IsFlowOf before.flow after.flow

-- There is a relation after it exactly if there was one before, and it is that one.
abbrev pub IsRelationOf : Option RelationState → Option RelationState → Type 0
IsRelationOf None after = after ≡ None
IsRelationOf (Some before) None = ⊥
IsRelationOf (Some before) (Some after) = IsLinkOf before after

-- A message of the relation: a frame of its exchange, ApplicationReady, or that of a plug.
abbrev pub IsOfRelation : Sent → Type 0
IsOfRelation (IdentifyAnswer asker running xid) = ⊥
IsOfRelation (GetAnswer asker running alias request) = ⊥
IsOfRelation (SetAnswer asker request answers) = ⊥
IsOfRelation (ArpReply asker address target) = ⊥
IsOfRelation (CallAnswer caller address answer) = ⊥
IsOfRelation (Again frame) = ⊥
IsOfRelation (ReadyCall address ready) = Unit {0}
IsOfRelation (PlugReadyCall address ready) = Unit {0}
IsOfRelation (Ends farewell) = ⊥
IsOfRelation (Exchanges route frame) = Unit {0}

-- What a pull or a plug makes of the modules, if it is possible; nothing else changes them.
abbrev pub modules_by : Local (ArrayVec ℕ) → List RealModule → Option (List RealModule)
modules_by (local.Input slot subslot value) real = None
modules_by (local.Alarm slot subslot octets) real = None
modules_by (local.Status slot subslot is_good) real = None
modules_by (local.Diagnosis slot subslot channel error appears) real = None
modules_by (local.Pull slot subslot) real = outside slot (pulled slot subslot real)
modules_by (local.PullModule slot) real = outside slot (slot_pulled slot real)
modules_by (local.Plug slot ident part) real = plugged_with slot ident part real
modules_by (local.ReadyAt slot subslot) real = None
modules_by local.Ready real = None
modules_by (local.ProviderState is_running) real = None
modules_by (local.Answer number octets) real = None
modules_by (local.Written number) real = None
modules_by (local.Refuse number code1 code2) real = None

-- Whether it is an answer to a question.
abbrev pub is_answer : Local (ArrayVec ℕ) → Bool
is_answer (local.Input slot subslot value) = false
is_answer (local.Alarm slot subslot octets) = false
is_answer (local.Status slot subslot is_good) = false
is_answer (local.Diagnosis slot subslot channel error appears) = false
is_answer (local.Pull slot subslot) = false
is_answer (local.PullModule slot) = false
is_answer (local.Plug slot ident part) = false
is_answer (local.ReadyAt slot subslot) = false
is_answer local.Ready = false
is_answer (local.ProviderState is_running) = false
is_answer (local.Answer number octets) = true
is_answer (local.Written number) = true
is_answer (local.Refuse number code1 code2) = true

-- The modules after it are these, or it is refused and they are as before.
abbrev pub IsRealOf : Option (List RealModule) → Real → Real → Type 0
IsRealOf None before after = after ≡ before
IsRealOf (Some made) before after = (after ≡ record { modules = record { items = made } }) ⊎ (after ≡ before)

-- It asks nothing of the settings. Of the rest only the relation, whether the application runs, the statuses, the diagnoses and, by a
-- pull or a plug, the modules and what is asked can change, whatever the settings answer: the lamp, the stored answers, the units, the
-- log, the neighbour and the count of relations stay. The relation stays too, with the time that it has. Only frames of the relation
-- are sent.
pub record IsLocal (station : Station) (live : Live) (made : Option (List RealModule)) (what : Handled) : Type 0 where
  pub asks : items_in what ≡ []
  pub keeps : (answers : List BlockError) → let rest = (finished station.identity live.rest what answers).rest in
      rest ≡ record live.rest { link = rest.link; is_running = rest.is_running; statuses = rest.statuses; diagnoses = rest.diagnoses; real = rest.real; asked = rest.asked }
  pub real : (answers : List BlockError) → IsRealOf made live.rest.real (finished station.identity live.rest what answers).rest.real
  pub link : (answers : List BlockError) → IsRelationOf live.rest.link (finished station.identity live.rest what answers).rest.link
  pub sends : (answers : List BlockError) → AllByRecursion IsOfRelation (finished station.identity live.rest what answers).sent

-- Each event of the application is such, but for answers.
abbrev pub ApplicationIsLocal : Type 0
ApplicationIsLocal = (station : Station) (live : Live) (said : Local (ArrayVec ℕ)) → is_answer said ≡ false →
    IsLocal station live (modules_by said live.rest.real.modules.items) (handled_local station live said)

-- A message is the response to this call.
abbrev pub IsReplyTo : Question → Sent → Type 0
IsReplyTo question (CallAnswer caller address answer) = (caller ≡ question.caller) × (answer.header ≡ question.header)
IsReplyTo question (IdentifyAnswer asker running xid) = ⊥
IsReplyTo question (GetAnswer asker running alias request) = ⊥
IsReplyTo question (SetAnswer asker request answers) = ⊥
IsReplyTo question (ArpReply asker address target) = ⊥
IsReplyTo question (Again frame) = ⊥
IsReplyTo question (ReadyCall address ready) = ⊥
IsReplyTo question (PlugReadyCall address ready) = ⊥
IsReplyTo question (Ends farewell) = ⊥
IsReplyTo question (Exchanges route frame) = ⊥

-- It is refused: nothing changes, and nothing is sent.
abbrev pub IsLeft : Live → Finished → Type 0
IsLeft live finished = (finished.rest ≡ live.rest) × (finished.sent ≡ [])

-- It went to this call, which was asked: the call is asked no longer, and at most one frame is sent, the response to it. Of the rest
-- only the stored answers, what is asked and the activity timer of the relation change.
pub record IsReplied (live : Live) (question : Question) (finished : Finished) : Type 0 where
  pub asked : question_in live.rest.asked ≡ Some question
  pub settles : finished.rest.asked ≡ settled live.rest.asked
  pub keeps : finished.rest ≡ record live.rest { calls = finished.rest.calls; asked = finished.rest.asked; link = finished.rest.link }
  pub calls : IsBehindCalls live.rest.calls finished.rest.calls
  pub one : length finished.sent ≤ 1
  pub sends : AllByRecursion (IsReplyTo question) finished.sent

-- An answer goes to the call that is asked, or it is refused.
abbrev pub AnswersGoToTheQuestion : Type 0
AnswersGoToTheQuestion = (station : Station) (live : Live) (said : Local (ArrayVec ℕ)) (answers : List BlockError) → is_answer said ≡ true →
    let done = finished station.identity live.rest (handled_local station live said) answers in
    IsLeft live done ⊎ ((question : Question) × IsReplied live question done)

-- What is real after an event: by a pull or a plug what it makes of the modules, or as before, and by any other event as before.
abbrev pub IsRealBehind : Heard → Real → Real → Type 0
IsRealBehind (Asks asker request) before after = after ≡ before
IsRealBehind (Resolves asker packet) before after = after ≡ before
IsRealBehind (Reported caller address said) before after = after ≡ before
IsRealBehind (Alarms source header message) before after = after ≡ before
IsRealBehind (LowReplies source header message) before after = after ≡ before
IsRealBehind (LowConfirms source header message) before after = after ≡ before
IsRealBehind (Cyclic source frame_id body) before after = after ≡ before
IsRealBehind (Met peer) before after = after ≡ before
IsRealBehind (Applied said) before after = IsRealOf (modules_by said before.modules.items) before after
IsRealBehind Ticks before after = after ≡ before
IsRealBehind Unreadable before after = after ≡ before
IsRealBehind Elsewhere before after = after ≡ before

-- So it is after each event, whatever the settings answer.
abbrev pub OnlyPullsAndPlugsChangeModules : Type 0
OnlyPullsAndPlugsChangeModules = (station : Station) (live : Live) (answers : List BlockError) (heard : Heard) →
    IsRealBehind heard live.rest.real (finished station.identity live.rest (handled station live heard) answers).rest.real
