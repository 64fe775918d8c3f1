-- What the application says, case by case, is local.
use Rattle.std.proofs.Common.{◌≡◌, ◌==◌, ◌⊎◌, ◌∙◌, ◌++◌, ℕ, Bool, true, false, cond, length, Result, Ok, Err, ap, List, [], ◌∷◌, Option, Some, None, option_map, if◌then◌else◌, inl, inr, refl}
use Rattle.std.specs.List.{AllByRecursion}
use Rattle.std.proofs.lemmas.Bool.{cond_both, false≢true, true≢false}
use Rattle.arrayvec.specs.ArrayVec.{ArrayVec}
use Rattle.pn_values.specs.declared.real.RealModule.{RealModule}
use Rattle.pn_values.specs.IpSuite.{is_zero}
use Rattle.module_diff.specs.Plugged.{module_ident, submodule_ident}
use Rattle.module_diff.specs.declared.changes.Affected.{Affected}
use Rattle.module_diff.specs.declared.changes.RealChange.{RealChange}
use Rattle.module_diff.specs.Changes.{affected_by, covers, plugged_with, pulled, slot_pulled}
use Rattle.cyclic_data.specs.exchange.Cyclic.{Cyclic}
use Rattle.relations.specs.declared.exchange.marks.Mark.{Mark}
use Rattle.relations.specs.exchange.Modules.{all_cleared, cleared_at, renewed_marks}
use Rattle.relations.specs.declared.plugging.PlugReady.{PlugReady}
use Rattle.relations.specs.Plugging.{calling_next, flow_then, is_alarmed_by, is_called_by, is_calling, is_crowded, is_readied_in, modules_changing, plug_ready_of, readying_at, rows_now}
use Rattle.cyclic_data.specs.declared.exchange.route.Route.{Route}
use Rattle.cyclic_data.specs.declared.place.PlaceKind.TheVariants.{Data}
use Rattle.cyclic_data.specs.Image.{Shown, cell_at, changed as changed_shown, has_size, with_value}
use Rattle.pn_alarms.specs.Device.{end_with}
use Rattle.pn_alarms.specs.Sender.{notice_of}
use Rattle.diagnosis.specs.Existing.{changed}
use Rattle.diagnosis.specs.declared.diagnosis.Change.{Change}
use Rattle.diagnosis.specs.declared.diagnosis.Diagnosis.{Diagnosis}
use Rattle.relations.specs.declared.exchange.statuses.InputStatus.{InputStatus}
use Rattle.relations.specs.declared.phase.Phase.{Phase}
use Rattle.relations.specs.declared.phase.Phase.TheVariants.{Started, Preparing, Awaiting, Exchanging}
use Rattle.relations.specs.exchange.Flow.{Flow}
use Rattle.relations.specs.exchange.Frames.{Frame, alarm_frame, low_alarm_frame}
use Rattle.relations.specs.exchange.Marks.{awaits}
use Rattle.relations.specs.exchange.Notices.{may_raise, raised_by}
use Rattle.relations.specs.exchange.Process.{remarked, with_cyclic, with_input}
use Rattle.relations.specs.exchange.Statuses.{statuses_at}
use Rattle.relations.specs.Diagnosed.{diagnose_one, diagnosing}
use Rattle.relations.specs.Exchanged.{given_to, raised_to, rating, turning}
use Rattle.relations.specs.Phases.{Exchanged, Prepared, updated}
use Rattle.relations.specs.RelationState.{RelationState, flow_of, is_preparing, phase_of}
use Rattle.device_frames.specs.declared.local.Local.{Local}
use Rattle.device_frames.specs.declared.local.Local.TheVariants as local
use Rattle.device_frames.specs.declared.note.Note.TheVariants as note
use Rattle.device_frames.specs.Relation.{alarms_of, frames_in, low_alarms_of, plug_call_in, plug_calls, ready_calls, where_due}
use Rattle.device_frames.specs.Sent.{Sent}
use Rattle.pn_values.specs.declared.set_item.BlockError.{BlockError}
use Rattle.asked_records.specs.Answers.{Gives, gives_octets, gives_done, gives_refusal, answer_blocks, answer_status, fault_of, judged, judged_with, question_unless}
use Rattle.asked_records.specs.Asked.{Standing, question_in}
use Rattle.asked_records.specs.Questions.{operation_of}
use Rattle.asked_records.specs.declared.answering.AnswerFault.{AnswerFault}
use Rattle.asked_records.specs.declared.answering.AnswerFault.TheVariants as fault
use Rattle.asked_records.specs.declared.question.Question.{Question}
use Rattle.device_core.specs.Asking.{is_kept, is_new, looked_if, reply_to}
use Rattle.device_core.specs.Machine.{finished}
use Rattle.device_core.proofs.Storing.{later_called, later_each, later_one}
use Rattle.device_core.specs.State.{Station, Live}
use Rattle.device_core.specs.Handled.{Refuses, Moves, change_of, handled_change, handled_diagnosed, handled_input, handled_judged, handled_local, handled_modules, handled_notice, handled_ready, handled_ready_at, handled_turned, kept_status, may_be_diagnosed}
use Rattle.device_core.specs.Modules.{changed_rest, next_call_sent, outside, plug_of, pull_of, sent_after, slot_pull_of}
use Rattle.device_core.specs.Local.{AnswersGoToTheQuestion, IsFlowOf, IsLeft, IsLinkOf, IsLocal, IsOfRelation, IsRelationOf, IsReplied, IsReplyTo, is_answer, modules_by}

-- ---- the relation

same_flow : (flow : Flow) → IsFlowOf flow flow
same_flow flow = record { route = refl; begun = refl; hearing = refl; endpoint = refl }

same_link : (link : RelationState) → IsLinkOf link link
same_link link = record { phase = inl refl; request = refl; inactive = refl; flow = same_flow link.flow }

same_relation : (link : Option RelationState) → IsRelationOf link link
same_relation None = refl
same_relation (Some link) = same_link link

-- The exchange of a relation became this, or is as it was.
abbrev IsFlowIn : Option RelationState → Option Flow → Type 0
IsFlowIn None given = Unit {0}
IsFlowIn (Some link) None = Unit {0}
IsFlowIn (Some link) (Some flow) = IsFlowOf link.flow flow

exchanged : (link : Option RelationState) (flow : Flow) → IsFlowIn link (Some flow) → IsRelationOf link (updated (Exchanged flow) link)
exchanged None flow kept = refl
exchanged (Some link) flow kept = record { phase = inl refl; request = refl; inactive = refl; flow = kept }

shown_in : (flow : Flow) (slot subslot : ℕ) (shown : Shown) (awaited : Bool)
    → IsFlowOf flow (if awaited then remarked (with_cyclic flow (record flow.cyclic { shown = shown })) slot subslot None
    else with_cyclic flow (record flow.cyclic { shown = shown }))
shown_in flow slot subslot shown true = record { route = refl; begun = refl; hearing = refl; endpoint = refl }
shown_in flow slot subslot shown false = record { route = refl; begun = refl; hearing = refl; endpoint = refl }

given_by : (link : RelationState) (slot subslot : ℕ) (value : List ℕ) (fits : Bool)
    → IsFlowIn (Some link) (option_map (with_input link.flow slot subslot)
    (if fits then Some (record link.flow.cyclic { shown = changed_shown Data slot subslot (with_value value) link.flow.cyclic.shown }) else None))
given_by link slot subslot value true =
    shown_in link.flow slot subslot (changed_shown Data slot subslot (with_value value) link.flow.cyclic.shown) (awaits slot subslot link.flow.marks)
given_by link slot subslot value false = tt

given_in : (slot subslot : ℕ) (value : List ℕ) (link : Option RelationState) → IsFlowIn link (given_to slot subslot value link)
given_in slot subslot value None = tt
given_in slot subslot value (Some link) =
    given_by link slot subslot value (has_size (length value) (cell_at Data slot subslot link.flow.cyclic.shown.cells))

notified : (link : RelationState) (slot subslot ident part : ℕ) (octets : List ℕ) (may : Bool)
    → IsFlowIn (Some link)
    (if may then Some (record link.flow { alarms = end_with link.flow.alarms (notice_of link.flow.alarms.sender.specifier slot subslot ident part octets) })
    else None)
notified link slot subslot ident part octets true = record { route = refl; begun = refl; hearing = refl; endpoint = refl }
notified link slot subslot ident part octets false = tt

raised_with : (link : RelationState) (slot subslot : ℕ) (octets : List ℕ) (ident part : Option ℕ)
    → IsFlowIn (Some link) (raised_by link.flow slot subslot octets ident part)
raised_with link slot subslot octets (Some ident) (Some part) = notified link slot subslot ident part octets (may_raise link.flow octets)
raised_with link slot subslot octets (Some ident) None = tt
raised_with link slot subslot octets None part = tt

raised_in : (real : List RealModule) (slot subslot : ℕ) (octets : List ℕ) (link : Option RelationState) → IsFlowIn link (raised_to real slot subslot octets link)
raised_in real slot subslot octets None = tt
raised_in real slot subslot octets (Some link) = raised_with link slot subslot octets (module_ident real slot) (submodule_ident real slot subslot)

rated_in : (slot subslot : ℕ) (is_good : Bool) (link : Option RelationState) → IsRelationOf link (updated (rating slot subslot is_good link) link)
rated_in slot subslot is_good None = refl
rated_in slot subslot is_good (Some link) =
    record { phase = inl refl; request = refl; inactive = refl; flow = record { route = refl; begun = refl; hearing = refl; endpoint = refl } }

turned_in : (is_running : Bool) (link : Option RelationState) → IsRelationOf link (updated (turning is_running link) link)
turned_in is_running None = refl
turned_in is_running (Some link) =
    record { phase = inl refl; request = refl; inactive = refl; flow = record { route = refl; begun = refl; hearing = refl; endpoint = refl } }

diagnosed_in : (real : List RealModule) (change : Change) (diagnoses : List Diagnosis) (link : Option RelationState)
    → IsRelationOf link (updated (diagnosing real change diagnoses link) link)
diagnosed_in real change diagnoses None = refl
diagnosed_in real change diagnoses (Some link) =
    record { phase = inl refl; request = refl; inactive = refl; flow = record { route = refl; begun = refl; hearing = refl; endpoint = refl } }

preparing : (phase : Phase) → is_preparing (Some phase) ≡ true → phase ≡ Preparing
preparing Started is = cc
preparing Preparing is = refl
preparing Awaiting is = cc
preparing Exchanging is = cc

prepared_in : (link : Option RelationState) → IsRelationOf link (updated Prepared link)
prepared_in None = refl
prepared_in (Some link) =
    cond_both (is_preparing (Some link.phase)) _ _ (IsLinkOf link)
    (λ is. record { phase = inr (preparing link.phase is, refl); request = refl; inactive = refl; flow = same_flow link.flow })
    (λ _. same_link link)

-- ---- modules that come and go

-- Zeros as inputs change nothing else of the exchange.
cleared_keeps : (affected : Affected) (cyclic : Cyclic) (mark : Mark)
    → ((cleared_at affected cyclic mark).route ≡ cyclic.route) × ((cleared_at affected cyclic mark).begun ≡ cyclic.begun) × ((cleared_at affected cyclic mark).hearing ≡ cyclic.hearing)
cleared_keeps affected cyclic mark =
    cond_both (covers affected mark.place.slot mark.place.subslot) _ _
    (λ (after : Cyclic). (after.route ≡ cyclic.route) × (after.begun ≡ cyclic.begun) × (after.hearing ≡ cyclic.hearing)) (λ _. (refl, refl, refl)) (λ _. (refl, refl, refl))

all_cleared_keeps : (affected : Affected) (marks : List Mark) (cyclic : Cyclic)
    → ((all_cleared affected marks cyclic).route ≡ cyclic.route) × ((all_cleared affected marks cyclic).begun ≡ cyclic.begun)
    × ((all_cleared affected marks cyclic).hearing ≡ cyclic.hearing)
all_cleared_keeps affected [] cyclic = (refl, refl, refl)
all_cleared_keeps affected (mark ∷ marks) cyclic =
    let one = cleared_keeps affected cyclic mark in
    let others = all_cleared_keeps affected marks (cleared_at affected cyclic mark) in
    (others.0 ∙ one.0, others.1 ∙ one.1, others.2 ∙ one.2)

renewed_keeps : (link : RelationState) (made : RealChange) (real : List RealModule) (diagnoses : List Diagnosis)
    → IsFlowOf link.flow (flow_then (rows_now real link) made diagnoses link)
renewed_keeps link made real diagnoses =
    let affected = affected_by made in
    let kept = all_cleared_keeps affected (renewed_marks affected link.options.inputs_begin_bad link.flow.marks) link.flow.cyclic in
    record { route = kept.0; begun = kept.1; hearing = kept.2; endpoint = refl }

modules_in : (real : List RealModule) (made : RealChange) (diagnoses : List Diagnosis) (link : Option RelationState)
    → IsRelationOf link (modules_changing real made diagnoses link)
modules_in real made diagnoses None = refl
modules_in real made diagnoses (Some link) =
    record { phase = inl refl; request = refl; inactive = refl; flow = renewed_keeps link made real diagnoses }

readied_in : (slot subslot : ℕ) (link : Option RelationState) → IsRelationOf link (calling_next (readying_at slot subslot link))
readied_in slot subslot None = refl
readied_in slot subslot (Some link) = record { phase = inl refl; request = refl; inactive = refl; flow = same_flow link.flow }

-- ---- what is sent

frames_sent : (route : Route) (frame : Option Frame) → AllByRecursion IsOfRelation (frames_in route frame)
frames_sent route None = tt
frames_sent route (Some frame) = (tt, tt)

alarms_sent : (flow : Option Flow) → AllByRecursion IsOfRelation (alarms_of flow)
alarms_sent None = tt
alarms_sent (Some flow) = frames_sent flow.cyclic.route (alarm_frame flow)

low_alarms_sent : (flow : Option Flow) → AllByRecursion IsOfRelation (low_alarms_of flow)
low_alarms_sent None = tt
low_alarms_sent (Some flow) = frames_sent flow.cyclic.route (low_alarm_frame flow)

due_sent : (is_due : Bool) (flow : Option Flow) → AllByRecursion IsOfRelation (where_due is_due (low_alarms_of flow))
due_sent true flow = low_alarms_sent flow
due_sent false flow = tt

calls_sent : (address : List ℕ) (link : Option RelationState) → AllByRecursion IsOfRelation (ready_calls address link)
calls_sent address None = tt
calls_sent address (Some link) = (tt, tt)

plug_call_sent : (address : List ℕ) (ready : Option PlugReady) → AllByRecursion IsOfRelation (plug_call_in address ready)
plug_call_sent address None = tt
plug_call_sent address (Some ready) = (tt, tt)

plug_calls_sent : (is_due : Bool) (address : List ℕ) (link : Option RelationState) → AllByRecursion IsOfRelation (where_due is_due (plug_calls address link))
plug_calls_sent true address link = plug_call_sent address (plug_ready_of link)
plug_calls_sent false address link = tt

both_sent : (one other : List Sent) → AllByRecursion IsOfRelation one → AllByRecursion IsOfRelation other → AllByRecursion IsOfRelation (one ++ other)
both_sent [] other first second = second
both_sent (message ∷ one) other first second = (first.0, both_sent one other first.1 second)

-- ---- the cases

module _ (station : Station) (live : Live) where
  refused : IsLocal station live None (Refuses note.Refused)
  refused =
      record { asks = refl; keeps = λ answers. refl; real = λ answers. refl; link = λ answers. same_relation live.rest.link; sends = λ answers. tt }

  moved : (link : Option RelationState) (is_running : Bool) (statuses : List InputStatus) (diagnoses : List Diagnosis) (sent : List Sent)
      → IsRelationOf live.rest.link link → AllByRecursion IsOfRelation sent
      → IsLocal station live None (Moves (record live.rest { link = link; is_running = is_running; statuses = statuses; diagnoses = diagnoses }) sent)
  moved link is_running statuses diagnoses sent same sends =
      record { asks = refl; keeps = λ answers. refl; real = λ answers. refl; link = λ answers. same; sends = λ answers. sends }

  input_local : (given : Option Flow) → IsFlowIn live.rest.link given → IsLocal station live None (handled_input live given)
  input_local None kept = refused
  input_local (Some flow) kept =
      moved (updated (Exchanged flow) live.rest.link) live.rest.is_running live.rest.statuses live.rest.diagnoses [] (exchanged live.rest.link flow kept) tt

  notice_local : (raised : Option Flow) → IsFlowIn live.rest.link raised → IsLocal station live None (handled_notice live raised)
  notice_local None kept = refused
  notice_local (Some flow) kept =
      let link = updated (Exchanged flow) live.rest.link in
      moved link live.rest.is_running live.rest.statuses live.rest.diagnoses (alarms_of (flow_of link)) (exchanged live.rest.link flow kept) (alarms_sent (flow_of link))

  status_local : (slot subslot : ℕ) (is_good : Bool) (statuses : Option (List InputStatus)) → IsLocal station live None (kept_status live slot subslot is_good statuses)
  status_local slot subslot is_good None = refused
  status_local slot subslot is_good (Some statuses) =
      moved (updated (rating slot subslot is_good live.rest.link) live.rest.link) live.rest.is_running statuses live.rest.diagnoses [] (rated_in slot subslot is_good live.rest.link) tt

  turned_local : (is_running : Bool) → IsLocal station live None (handled_turned live is_running)
  turned_local is_running =
      moved (updated (turning is_running live.rest.link) live.rest.link) is_running live.rest.statuses live.rest.diagnoses [] (turned_in is_running live.rest.link) tt

  change_local : (change : Change) (diagnoses : Option (List Diagnosis)) → IsLocal station live None (handled_change station live change diagnoses)
  change_local change None = refused
  change_local change (Some diagnoses) =
      let real = live.rest.real.modules.items in
      let link = updated (diagnosing real change diagnoses live.rest.link) live.rest.link in
      moved link live.rest.is_running live.rest.statuses diagnoses (where_due (diagnose_one real change diagnoses live.rest.link) (low_alarms_of (flow_of link)))
      (diagnosed_in real change diagnoses live.rest.link) (due_sent (diagnose_one real change diagnoses live.rest.link) (flow_of link))

  diagnosis_local : (change : Change) → IsLocal station live None (handled_diagnosed station live change)
  diagnosis_local change =
      cond_both (may_be_diagnosed station live change) _ _ (IsLocal station live None) (λ _. change_local change (changed change live.rest.diagnoses)) (λ _. refused)

  ready_local : IsLocal station live None (handled_ready live)
  ready_local =
      let link = updated Prepared live.rest.link in
      let address = live.values.running.suite.address in
      cond_both (is_preparing (phase_of live.rest.link)) _ _ (IsLocal station live None)
      (λ _. moved link live.rest.is_running live.rest.statuses live.rest.diagnoses (ready_calls address link) (prepared_in live.rest.link) (calls_sent address link)) (λ _. refused)

  -- One that is possible and crowded out is refused.
  crowded_out : (made : List RealModule) → IsLocal station live (Some made) (Refuses note.Refused)
  crowded_out made =
      record { asks = refl; keeps = λ answers. refl; real = λ answers. inr refl; link = λ answers. same_relation live.rest.link; sends = λ answers. tt }

  modules_moved : (change : RealChange) (made : List RealModule) → IsLocal station live (Some made) (Moves (changed_rest live.rest change made) (sent_after live change made))
  modules_moved change made =
      let rest = changed_rest live.rest change made in
      record {
        asks = refl;
        keeps = λ answers. refl;
        real = λ answers. inl refl;
        link = λ answers. modules_in made change rest.diagnoses live.rest.link;
        sends = λ answers. both_sent (where_due (is_alarmed_by made change rest.diagnoses live.rest.link) (low_alarms_of (flow_of rest.link))) _
            (due_sent (is_alarmed_by made change rest.diagnoses live.rest.link) (flow_of rest.link))
            (plug_calls_sent (is_called_by made change rest.diagnoses live.rest.link) live.values.running.suite.address rest.link);
      }

  modules_local : (change : RealChange) (made : Option (List RealModule)) → IsLocal station live made (handled_modules live change made)
  modules_local change None = refused
  modules_local change (Some made) =
      cond_both (is_crowded (affected_by change) live.rest.link) _ _ (IsLocal station live (Some made)) (λ _. crowded_out made) (λ _. modules_moved change made)

  ready_at_local : (slot subslot : ℕ) → IsLocal station live None (handled_ready_at live slot subslot)
  ready_at_local slot subslot =
      let link = readying_at slot subslot live.rest.link in
      let address = live.values.running.suite.address in
      cond_both (is_readied_in slot subslot live.rest.link) _ _ (IsLocal station live None)
      (λ _. moved (calling_next link) live.rest.is_running live.rest.statuses live.rest.diagnoses (next_call_sent address link) (readied_in slot subslot live.rest.link)
      (plug_calls_sent (is_calling link) address (calling_next link))) (λ _. refused)

pub local_is : (station : Station) (live : Live) (said : Local (ArrayVec ℕ)) → is_answer said ≡ false
    → IsLocal station live (modules_by said live.rest.real.modules.items) (handled_local station live said)
local_is station live (local.Input slot subslot value) no_answer =
    input_local station live (given_to slot subslot value.items live.rest.link) (given_in slot subslot value.items live.rest.link)
local_is station live (local.Alarm slot subslot octets) no_answer =
    let real = live.rest.real.modules.items in
    notice_local station live (raised_to real slot subslot octets.items live.rest.link) (raised_in real slot subslot octets.items live.rest.link)
local_is station live (local.Status slot subslot is_good) no_answer =
    status_local station live slot subslot is_good
    (statuses_at live.rest.real.modules.items (record { slot = slot; subslot = subslot; is_good = is_good }) live.rest.statuses)
local_is station live (local.Diagnosis slot subslot channel error appears) no_answer = diagnosis_local station live (change_of slot subslot channel error appears)
local_is station live (local.Pull slot subslot) no_answer =
    let real = live.rest.real.modules.items in
    modules_local station live (pull_of real slot subslot) (outside slot (pulled slot subslot real))
local_is station live (local.PullModule slot) no_answer =
    let real = live.rest.real.modules.items in
    modules_local station live (slot_pull_of real slot) (outside slot (slot_pulled slot real))
local_is station live (local.Plug slot ident part) no_answer =
    modules_local station live (plug_of slot ident part) (plugged_with slot ident part live.rest.real.modules.items)
local_is station live (local.ReadyAt slot subslot) no_answer = ready_at_local station live slot subslot
local_is station live local.Ready no_answer = ready_local station live
local_is station live (local.ProviderState is_running) no_answer = turned_local station live is_running
local_is station live (local.Answer number octets) no_answer = absurd (true≢false no_answer)
local_is station live (local.Written number) no_answer = absurd (true≢false no_answer)
local_is station live (local.Refuse number code1 code2) no_answer = absurd (true≢false no_answer)

-- ---- answers

-- The call of an answer that is accepted.
abbrev ok_of : Result Question AnswerFault → Option Question
ok_of (Ok question) = Some question
ok_of (Err it) = None

-- The call that an answer goes to is the one that is asked.
pub goes_to : (number last : ℕ) (given : Gives) (standing : Option Standing) (question : Question)
    → judged_with last number given standing ≡ Ok question → option_map (λ s. s.question) standing ≡ Some question
goes_to number last given None question is = cc
goes_to number last given (Some standing) question is = by_number (number == last) is
  where
    by_fault : (found : Option AnswerFault) → question_unless standing.question found ≡ Ok question → ◌≡◌ {A = Option Question} (Some standing.question) (Some question)
    by_fault None accepted = ap ok_of accepted
    by_fault (Some it) accepted = cc

    by_number : (same : Bool) → cond same (question_unless standing.question (fault_of standing.question given)) (Err fault.NotAsked) ≡ Ok question
        → ◌≡◌ {A = Option Question} (Some standing.question) (Some question)
    by_number true accepted = by_fault (fault_of standing.question given) accepted
    by_number false accepted = cc

judged_goes : (station : Station) (live : Live) (given : Gives) (answers : List BlockError) (judged : Result Question AnswerFault)
    → ((question : Question) → judged ≡ Ok question → question_in live.rest.asked ≡ Some question)
    → IsLeft live (finished station.identity live.rest (handled_judged station live given judged) answers)
    ⊎ ((question : Question) × IsReplied live question (finished station.identity live.rest (handled_judged station live given judged) answers))
judged_goes station live given answers (Ok question) asks =
    let address = live.values.running.suite.address in
    let reply = reply_to address question (answer_status question.request given) (answer_blocks question.request given) in
    let is_stored = is_kept station.options (operation_of question.request) in
    let is_due = is_new (looked_if is_stored question.header.activity question.header.sequence live.rest.calls) in
    inr (
      question,
      record {
        asked = asks question refl;
        settles = refl;
        keeps = refl;
        calls = let it = later_called (λ _ _. Unit {0}) (is_zero address) is_stored station.identity question reply live.rest.calls (λ _. tt) in (it.0, it.1);
        one = later_one (is_zero address) is_due reply;
        sends = later_each (IsReplyTo question) (is_zero address) is_due reply (refl, refl);
      },
    )
judged_goes station live given answers (Err fault) asks = inl (refl, refl)

pub answer_goes : AnswersGoToTheQuestion
answer_goes station live (local.Answer number octets) answers is =
    judged_goes station live (gives_octets octets.items) answers (judged number (gives_octets octets.items) live.rest.asked)
    (λ question. goes_to number live.rest.asked.last (gives_octets octets.items) live.rest.asked.standing question)
answer_goes station live (local.Written number) answers is =
    judged_goes station live gives_done answers (judged number gives_done live.rest.asked)
    (λ question. goes_to number live.rest.asked.last gives_done live.rest.asked.standing question)
answer_goes station live (local.Refuse number code1 code2) answers is =
    judged_goes station live (gives_refusal code1 code2) answers (judged number (gives_refusal code1 code2) live.rest.asked)
    (λ question. goes_to number live.rest.asked.last (gives_refusal code1 code2) live.rest.asked.standing question)
answer_goes station live (local.Input slot subslot value) answers is = absurd (false≢true is)
answer_goes station live (local.Alarm slot subslot octets) answers is = absurd (false≢true is)
answer_goes station live (local.Status slot subslot is_good) answers is = absurd (false≢true is)
answer_goes station live (local.Diagnosis slot subslot channel error appears) answers is = absurd (false≢true is)
answer_goes station live (local.Pull slot subslot) answers is = absurd (false≢true is)
answer_goes station live (local.PullModule slot) answers is = absurd (false≢true is)
answer_goes station live (local.Plug slot ident part) answers is = absurd (false≢true is)
answer_goes station live (local.ReadyAt slot subslot) answers is = absurd (false≢true is)
answer_goes station live local.Ready answers is = absurd (false≢true is)
answer_goes station live (local.ProviderState is_running) answers is = absurd (false≢true is)
