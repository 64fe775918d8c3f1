-- What becomes of the exchange of a relation with any event at its device, and that no frame of inputs is sent but with a unit.
use Rattle.std.proofs.Common.{◌≡◌, ap, ℕ, Bool, true, false, cond, List, [], ◌∷◌, ◌++◌, length, Option, Some, None, option_map, Result, Ok, Err, refl, sym, subst, ◌∙◌}
use Rattle.std.specs.Prelude.{◌&&◌, ◌||◌, if◌then◌else◌, is_some, unwrap_or}
use Rattle.wire.specs.Codec.{◌>>=◌}
use Rattle.pn_values.specs.declared.mac.Mac.{Mac}
use Rattle.pn_values.specs.declared.real.RealModule.{RealModule}
use Rattle.pn_values.specs.declared.set_item.BlockError.{BlockError}
use Rattle.frame_codec.specs.declared.arp.Arp.{Arp}
use Rattle.frame_codec.specs.declared.udp.Caller.{Caller}
use Rattle.dcp_core.specs.declared.request.Service.{Service}
use Rattle.dcp_core.specs.declared.request.Service.TheVariants as service
use Rattle.dcp_core.specs.Request.{Asked}
use Rattle.dcp_core.specs.Identify.{matches}
use Rattle.dcp_core.specs.Set.{plan_of}
use Rattle.rpc_core.specs.Cache.{Kept, Reported as Looked, new, again, old}
use Rattle.rpc_core.specs.Call.{Asked as Call}
use Rattle.rpc_core.specs.declared.response.Status.{Status}
use Rattle.rpc_core.specs.Response.{Answered as Response, is_done}
use Rattle.connect_blocks.specs.declared.control.ControlBlock.{ControlBlock}
use Rattle.record_blocks.specs.declared.alarm_notification.AlarmNotification.{AlarmNotification}
use Rattle.record_blocks.specs.declared.write_record.IodWriteReq.{IodWriteReq}
use Rattle.block_codec.specs.Block.{block_of as read_block}
use Rattle.records.specs.declared.status.call_fault.CallFault.{CallFault}
use Rattle.records.specs.declared.status.operation.Operation.{Operation}
use Rattle.records.specs.declared.status.operation.Operation.TheVariants as operation
use Rattle.records.specs.status.Operation.{operation_of}
use Rattle.records.specs.declared.writes.write.Effect.{Effect}
use Rattle.records.specs.declared.writes.write.Effect.TheVariants.{Stores, Keeps}
use Rattle.records.specs.declared.writes.write.Write.{Write}
use Rattle.records.specs.declared.writes.writing.Writing.{Writing}
use Rattle.records.specs.declared.writes.writing.Writing.TheVariants.{One, Each}
use Rattle.records.specs.writes.Asked.{writing_of}
use Rattle.device_records.specs.Reading.{implicit_read, relation_read}
use Rattle.asked_records.specs.Answers.{Gives, gives_done, gives_octets, gives_refusal, answer_blocks, answer_status, judged, unanswered_status}
use Rattle.asked_records.specs.Asked.{AskedState, asks as asking_state, behind_displaced, displaced_by, is_repeat}
use Rattle.asked_records.specs.Questions.{operation_of as operation_asked}
use Rattle.asked_records.specs.declared.answering.AnswerFault.{AnswerFault}
use Rattle.asked_records.specs.declared.question.Question.{Question}
use Rattle.asked_records.specs.declared.status.Unanswered.{Unanswered}
use Rattle.asked_records.specs.declared.status.Unanswered.TheVariants.{Busy, Late}
use Rattle.pn_values.specs.IpSuite.{is_zero}
use Rattle.relations.specs.declared.options.DeviceOptions.{DeviceOptions}
use Rattle.pn_alarms.specs.declared.abort.Abort.{Abort}
use Rattle.pn_alarms.specs.declared.device.PduFate.{PduFate}
use Rattle.pn_alarms.specs.declared.device.PduFate.TheVariants as fate
use Rattle.pn_alarms.specs.declared.pdu.Header.{Header}
use Rattle.pn_alarms.specs.declared.receiver.Taken.{Taken}
use Rattle.pn_alarms.specs.Device.{end_with}
use Rattle.pn_alarms.specs.Message.{ToDevice as Message}
use Rattle.pn_alarms.specs.Sender.{notice_of}
use Rattle.module_diff.specs.Plugged.{module_ident, submodule_ident}
use Rattle.diagnosis.specs.Existing.{changed as changed_list, remaining}
use Rattle.module_diff.specs.declared.changes.RealChange.{RealChange}
use Rattle.module_diff.specs.Changes.{affected_by, covers, plugged_with, pulled, slot_pulled}
use Rattle.connect_blocks.specs.declared.plug_control.PlugControlBlock.{PlugControlBlock}
use Rattle.expected_places.specs.declared.calls.PlugCall.{PlugCall}
use Rattle.expected_places.specs.Machine.{PlugState, next_called}
use Rattle.relations.specs.declared.plugging.PlugAnswer.{PlugAnswer}
use Rattle.relations.specs.declared.plugging.PlugAnswer.TheVariants as to_plug
use Rattle.relations.specs.Plugging.{answered_with, calling_next, changed_by, ended_by, flow_answered, flow_then, is_alarmed_by, is_called_by, is_calling, is_crowded, is_plug_control, is_readied_in, places_then, plug_answer_in, plug_end_answer, plug_end_in, plug_ended, plug_ending, plugs_answered, ready_for, readying_at, rows_now}
use Rattle.relations.specs.exchange.Modules.{renewed, restated_flow}
use Rattle.relations.specs.exchange.Units.{flow_later}
use Rattle.diagnosis.specs.alarms.Alarms.{Low}
use Rattle.diagnosis.specs.declared.diagnosis.Change.{Change}
use Rattle.diagnosis.specs.declared.diagnosis.Diagnosis.{Diagnosis}
use Rattle.cyclic_data.specs.declared.exchange.received.Received.{Received}
use Rattle.cyclic_data.specs.declared.exchange.received.Received.TheVariants as received
use Rattle.cyclic_data.specs.declared.exchange.route.Route.{Route}
use Rattle.cyclic_data.specs.exchange.Cyclic.{Cyclic as CyclicEnd}
use Rattle.cyclic_data.specs.Image.{Cell, Shown, cell_at, changed, has_size, with_value}
use Rattle.cyclic_data.specs.Timing.{Hearing, held_on, unit_later}
use Rattle.cyclic_data.specs.declared.place.PlaceKind.TheVariants.{Data as at_data}
use Rattle.connects.specs.declared.requests.parts.Ar.{Ar}
use Rattle.connects.specs.requests.Pieces.{Piece, pieces_of}
use Rattle.connects.specs.requests.Request.{Request}
use Rattle.connects.specs.requests.Handled.{admitted, ar_in, request_behind, request_in, request_of}
use Rattle.relations.specs.declared.hearing.ReadyAnswer.{ReadyAnswer}
use Rattle.relations.specs.declared.hearing.ReadyAnswer.TheVariants as to_ready
use Rattle.relations.specs.declared.exchange.statuses.InputStatus.{InputStatus}
use Rattle.relations.specs.declared.phase.Partner.{Partner}
use Rattle.relations.specs.declared.phase.Phase.{Phase}
use Rattle.relations.specs.declared.phase.Phase.TheVariants.{Started, Preparing, Awaiting, Exchanging}
use Rattle.relations.specs.exchange.Diagnosis.{behind_low, diagnosed, diagnoses_begun, next_reported, with_low}
use Rattle.relations.specs.exchange.Flow.{Flow}
use Rattle.relations.specs.exchange.Frames.{Notifies, Reports}
use Rattle.relations.specs.exchange.Marks.{awaits}
use Rattle.relations.specs.exchange.Notices.{behind_message, may_raise, raised_at, raised_by}
use Rattle.relations.specs.exchange.Opening.{begun_of}
use Rattle.relations.specs.exchange.Process.{given_at, rated_at, remarked, turned, with_cyclic, with_input}
use Rattle.relations.specs.exchange.Received.{behind_frame, received_as}
use Rattle.relations.specs.exchange.Statuses.{statuses_at}
use Rattle.relations.specs.RelationState.{RelationState, is_alarm_of, is_awaiting, is_in_exchange, is_preparing, phase_of, uuid_of}
use Rattle.relations.specs.Phases.{Handled as Event, Ended, Named, Parameterized, Prepared, Records, Unmoved, answered, exchanging_from, keeping, parameterized_from, passing_by, prepared_from, restarted, taking, updated, with_flow, with_records}
use Rattle.relations.specs.Calls.{prm_end_of, release_answer, release_of}
use Rattle.device_core.specs.Log.{but_rest, connect_log, release_log, with_log}
use Rattle.relations.specs.Connect.{connect_answer, connect_within, making}
use Rattle.relations.specs.Farewells.{farewell_of}
use Rattle.pn_alarms.specs.declared.abort.Abort.TheVariants.{Other}
use Rattle.relations.specs.Diagnosed.{begin_one, diagnose_one, has_sent_low, heard_low, hearing_low, report_one}
use Rattle.relations.specs.Exchanged.{heard_by, hearing_as, receiving_as}
use Rattle.relations.specs.Ready.{answer_of as ready_answer, confirmed_block, confirmed_by, is_answer_to}
use Rattle.relations.specs.Timers.{ending_of, unit_later as after_unit}
use Rattle.device_frames.specs.declared.local.Local.TheVariants as local
use Rattle.device_frames.specs.Heard.{Heard, Ticks, Unreadable, Elsewhere, Asks, Resolves, Reported, Cyclic, Alarms, LowReplies, LowConfirms, Applied, Met, Said, Calls, Responds, Garbled}
use Rattle.device_frames.specs.Relation.{alarms_of, frames_in, low_alarms_of, low_replies_of, plug_call_in, plug_calls, ready_calls, replies_of, where_due}
use Rattle.device_frames.specs.Sent.{Sent, IdentifyAnswer, SetAnswer, ArpReply}
use Rattle.device_frames.specs.declared.note.Note.{Note}
use Rattle.device_frames.specs.declared.note.Note.TheVariants as note
use Rattle.settings_journal.specs.settings_store.Machine.{Outcome, carried}
use Rattle.device_core.specs.State.{Station, Live, alias_in}
use Rattle.device_core.specs.Asking.{Asking, asking_of, is_kept, is_new, late_sent, later_replies, left_asked, looked_if, question_replies, refused_reply, refused_sent, released_by, reply_to, source_of}
use Rattle.device_core.specs.Handled.{change_of, counted_by, number_now, Handled, Refuses, Sets, Moves, handled, handled_alarm, handled_answer, handled_asking, handled_blocks, handled_call, handled_change, handled_effect, handled_input, handled_judged, handled_looked, handled_low, handled_low_message, handled_low_pdu, handled_message, handled_modules, handled_new, handled_next_call, handled_notice, handled_own, handled_pdu, handled_plug_answer, handled_plug_end, handled_prm_end, handled_question, handled_received, handled_request, handled_said, handled_turned, handled_write, implicitly, is_request, is_running, kept_answer, kept_status, known_of, may_be_diagnosed, partner_of, ready_behind, served, starting_of, ticked}
use Rattle.device_core.specs.Modules.{call_after, calling_after, changed_rest, next_call_sent, outside, plug_of, pull_of, sent_after, slot_pull_of}
use Rattle.device_core.specs.Several.{Judged, judged_each}
use Rattle.device_core.specs.Machine.{Stepped, Finished, effect_link, farewells_at, finished, first_answer, handled_step, heard_step, items_in, link_after, link_behind, one_link, resets, written_as}
use Rattle.end_laws.specs.cyclic.Ends.{Got, got_at}
use Rattle.end_laws.specs.device.Exchange.{IsUnaccepted, accepted, affects, given_with, is_inputs, is_unit, made_with, sends_inputs}
use Rattle.end_laws.specs.device.Turn.{alarm_heard, change_by, change_heard, input_heard, modules_after}
use Rattle.end_laws.proofs.DeviceInputs.{IsPaired, Shows, changes as pulls, frame_still, gives, rates, restates, shows_as, still, value as cell_value, zeros_if}
use Rattle.end_laws.proofs.DeviceOrderly.{shown_alone}
use Rattle.end_laws.proofs.DeviceConnects.{unlimited}

-- ---- what is sent

neither : (one other : Bool) → one ≡ false → other ≡ false → (one || other) ≡ false
neither false other e f = f
neither true other e f = absurd (no_bool e)
  where
    no_bool : true ≡ false → ⊥
    no_bool e = cc

pub both_none : (one other : Bool) → (one || other) ≡ false → (one ≡ false) × (other ≡ false)
both_none false other e = (refl, e)
both_none true other e = absurd (no_bool e)
  where
    no_bool : true ≡ false → ⊥
    no_bool e = cc

pub none_both : (sent more : List Sent) → sends_inputs sent ≡ false → sends_inputs more ≡ false → sends_inputs (sent ++ more) ≡ false
none_both [] more none others = others
none_both (message ∷ sent) more none others =
    let parts = both_none (is_inputs message) (sends_inputs sent) none in
    neither (is_inputs message) (sends_inputs (sent ++ more)) parts.0 (none_both sent more parts.1 others)

pub none_due : (b : Bool) (sent : List Sent) → sends_inputs sent ≡ false → sends_inputs (where_due b sent) ≡ false
none_due true sent none = none
none_due false sent none = refl

notices_none : (route : Route) (header : Header) (standing : Option AlarmNotification) → sends_inputs (frames_in route (option_map (λ alarm. Notifies header alarm) standing)) ≡ false
notices_none route header None = refl
notices_none route header (Some alarm) = refl

reports_none : (route : Route) (tag : ℕ) (header : Header) (standing : Option AlarmNotification) → sends_inputs (frames_in route (option_map (λ alarm. Reports tag header alarm) standing)) ≡ false
reports_none route tag header None = refl
reports_none route tag header (Some alarm) = refl

pub alarms_none : (flow : Option Flow) → sends_inputs (alarms_of flow) ≡ false
alarms_none None = refl
alarms_none (Some flow) = notices_none flow.cyclic.route _ flow.alarms.sender.standing

pub low_alarms_none : (flow : Option Flow) → sends_inputs (low_alarms_of flow) ≡ false
low_alarms_none None = refl
low_alarms_none (Some flow) = reports_none flow.cyclic.route flow.low.tag _ flow.low.alarms.sender.standing

low_due : (b : Bool) (flow : Option Flow) → sends_inputs (where_due b (low_alarms_of flow)) ≡ false
low_due b flow = none_due b (low_alarms_of flow) (low_alarms_none flow)

replies_none : (taken : Taken) (flow : Option Flow) → sends_inputs (replies_of taken flow) ≡ false
replies_none taken None = refl
replies_none taken (Some flow) = refl

low_replies_none : (taken : Taken) (flow : Option Flow) → sends_inputs (low_replies_of taken flow) ≡ false
low_replies_none taken None = refl
low_replies_none taken (Some flow) = refl

pub ready_none : (address : List ℕ) (link : Option RelationState) → sends_inputs (ready_calls address link) ≡ false
ready_none address None = refl
ready_none address (Some link) = refl

pub plug_calls_none : (address : List ℕ) (link : Option RelationState) → sends_inputs (plug_calls address link) ≡ false
plug_calls_none address None = refl
plug_calls_none address (Some link) = by_standing link.plugs.calls.standing
  where
    by_standing : (standing : Option PlugCall) → sends_inputs (plug_call_in address (option_map (ready_for link) standing)) ≡ false
    by_standing None = refl
    by_standing (Some call) = refl

next_none : (address : List ℕ) (link : Option RelationState) → sends_inputs (next_call_sent address link) ≡ false
next_none address link = none_due (is_calling link) (plug_calls address (calling_next link)) (plug_calls_none address (calling_next link))

after_none : {A : Type 0} (ended : Result A CallFault) (address : List ℕ) (link : Option RelationState) → sends_inputs (call_after ended address link) ≡ false
after_none (Ok it) address link = next_none address link
after_none (Err fault) address link = refl

farewells_none : (ends : Bool) (link : Option RelationState) → sends_inputs (farewells_at ends link) ≡ false
farewells_none false link = refl
farewells_none true None = refl
farewells_none true (Some link) = refl

-- a response to what is asked is no frame of inputs
answer_none : (is_due : Bool) (answer : Sent) → is_inputs answer ≡ false → sends_inputs (where_due is_due (answer ∷ [])) ≡ false
answer_none is_due answer none = none_due is_due (answer ∷ []) (neither (is_inputs answer) false none refl)

-- the response to a call that was asked, which may be dropped
later_none : (is_kept : Bool) (address : List ℕ) (question : Question) (answer : Sent) (calls : List Kept) → is_inputs answer ≡ false
    → sends_inputs (later_replies is_kept address question answer calls) ≡ false
later_none is_kept address question answer calls none = by_address (is_zero address)
  where
    by_address : (zero : Bool) → sends_inputs (cond zero [] (question_replies is_kept question answer calls)) ≡ false
    by_address true = refl
    by_address false = answer_none (is_new (looked_if is_kept question.header.activity question.header.sequence calls)) answer none

refused_none : (options : DeviceOptions) (address : List ℕ) (reason : Unanswered) (found : Option Question) (calls : List Kept)
    → sends_inputs (refused_sent options address reason found calls) ≡ false
refused_none options address reason None calls = refl
refused_none options address reason (Some question) calls =
    later_none (is_kept options (operation_asked question.request)) address question (refused_reply address reason question) calls refl

pub late_none : (options : DeviceOptions) (address : List ℕ) (found : Option Question) (calls : List Kept) → sends_inputs (late_sent options address found calls) ≡ false
late_none options address found calls = refused_none options address Late found calls

-- ---- a second Connect

pub some_is : {A : Type 0} (x y : A) → Some x ≡ Some y → x ≡ y
some_is x y e = cc

pub none_some : {A : Type 0} {P : Type 0} (y : A) → None ≡ Some y → P
none_some y e = absurd (no_some e)
  where
    no_some : None ≡ Some y → ⊥
    no_some e = cc

-- While a relation exists no Connect is accepted.
refused_pieces : (uuid : List ℕ) (pieces : List Piece) (request : Request) → request_in (Some uuid) pieces ≡ Ok request → ⊥
unfolding request_in
refused_pieces uuid [] request e = absurd cc
refused_pieces uuid (piece ∷ pieces) request e = by_first (ar_in piece) e
  where
    by_first : (first : Result Ar CallFault) → (first >>= λ ar. admitted (Some uuid) ar >>= λ _. request_behind ar pieces) ≡ Ok request → ⊥
    by_first (Ok ar) e = absurd cc
    by_first (Err why) e = absurd cc

pub refused_second : (uuid blocks : List ℕ) (request : Request) → request_of (Some uuid) blocks ≡ Ok request → ⊥
unfolding request_of
refused_second uuid blocks request e = refused_pieces uuid (pieces_of blocks) request e

-- ---- what is heard

-- Whether the application runs, after what is heard: as it says now, or as before.
abbrev pub running_then : Heard → Bool → Bool
running_then (Applied (local.ProviderState is_running)) was = is_running
running_then heard was = was

-- It is neither a unit nor an input, changes no modules, and says nothing of whether the application runs.
pub record IsQuiet (live : Live) (heard : Heard) : Type 0 where
  pub unit : is_unit heard ≡ false
  pub value : (slot subslot size : ℕ) → given_with slot subslot size heard ≡ None
  pub made : made_with live heard ≡ None
  pub runs : (was : Bool) → running_then heard was ≡ was

-- ---- what becomes of the exchange

-- Whether data is exchanged, and what was received last and when; and both after a unit.
abbrev pub hearing_of : CyclicEnd → Bool × Hearing
hearing_of cyclic = (cyclic.begun, cyclic.hearing)

abbrev pub waiting_on : Bool × Hearing → Bool × Hearing
waiting_on pair = (pair.0, if pair.0 then held_on pair.1 else pair.1)

-- The value of an input: zeros if something was pulled or plugged there, what was given, or as before.
abbrev pub value_then : Bool → Option (List ℕ) → Cell → List ℕ
value_then cleared given cell = zeros_if cleared (unwrap_or given cell.value) cell.place

module _ (live : Live) (link : RelationState) where
  -- The exchange goes on as this one with what is heard.
  pub record Follows (heard : Heard) (flow : Flow) : Type 0 where
    pub sends : flow.cyclic.sending ≡ (if is_unit heard then unit_later link.flow.cyclic.sending else link.flow.cyclic.sending)
    pub inputs : (slot subslot : ℕ) → IsPaired slot subslot link.flow
        → Shows slot subslot (λ (cell : Cell). value_then (affects (made_with live heard) slot subslot) (given_with slot subslot cell.place.size heard) cell) link.flow flow
    pub hears : link.phase ≡ Exchanging → IsUnaccepted heard (Some link)
        → hearing_of flow.cyclic ≡ (if is_unit heard then waiting_on (hearing_of link.flow.cyclic) else hearing_of link.flow.cyclic)
    pub receives : IsUnaccepted heard (Some link) → got_at flow.cyclic ≡ got_at link.flow.cyclic
    pub runs : flow.is_running ≡ running_then heard link.flow.is_running

  -- If a relation is left, its exchange goes on; and no frame of inputs is sent, except with a unit.
  pub record Does (heard : Heard) (end : Finished) : Type 0 where
    pub follows : (next : RelationState) → end.rest.link ≡ Some next → Follows heard next.flow
    pub silent : is_unit heard ≡ false → sends_inputs end.sent ≡ false

  module _ (heard : Heard) (unit : is_unit heard ≡ false) where
    -- nothing is received, and no unit passes
    still_hears : (flow : Flow) → hearing_of flow.cyclic ≡ hearing_of link.flow.cyclic
        → hearing_of flow.cyclic ≡ (if is_unit heard then waiting_on (hearing_of link.flow.cyclic) else hearing_of link.flow.cyclic)
    still_hears flow same = same ∙ sym (ap (λ (b : Bool). if b then waiting_on (hearing_of link.flow.cyclic) else hearing_of link.flow.cyclic) unit)

    still_sends : (flow : Flow) → flow.cyclic.sending ≡ link.flow.cyclic.sending
        → flow.cyclic.sending ≡ (if is_unit heard then unit_later link.flow.cyclic.sending else link.flow.cyclic.sending)
    still_sends flow same = same ∙ sym (ap (λ (b : Bool). if b then unit_later link.flow.cyclic.sending else link.flow.cyclic.sending) unit)

  -- the application says whether it runs
  turns : (is_running : Bool) → Follows (Applied (local.ProviderState is_running)) (turned link.flow is_running)
  turns is_running = record {
    sends = refl;
    inputs = λ slot subslot paired. still slot subslot link.flow (turned link.flow is_running) refl refl;
    hears = λ phase none. refl;
    receives = λ none. refl;
    runs = refl;
  }

  module _ (heard : Heard) (quiet : IsQuiet live heard) where
    -- no input changes
    none_then : (slot subslot : ℕ) (cell : Cell) → cell.value ≡ value_then (affects (made_with live heard) slot subslot) (given_with slot subslot cell.place.size heard) cell
    none_then slot subslot cell =
        sym (ap (λ (made : Option RealChange). value_then (affects made slot subslot) (given_with slot subslot cell.place.size heard) cell) quiet.made
        ∙ ap (λ (given : Option (List ℕ)). unwrap_or given cell.value) (quiet.value slot subslot cell.place.size))

    -- the exchange goes on with an event that is neither a unit nor an input, and changes no modules
    goes_by : (flow : Flow) → flow.cyclic.sending ≡ link.flow.cyclic.sending → ((slot subslot : ℕ) → Shows slot subslot cell_value link.flow flow)
        → (link.phase ≡ Exchanging → IsUnaccepted heard (Some link) → hearing_of flow.cyclic ≡ hearing_of link.flow.cyclic)
        → (IsUnaccepted heard (Some link) → got_at flow.cyclic ≡ got_at link.flow.cyclic) → flow.is_running ≡ link.flow.is_running → Follows heard flow
    goes_by flow sends shows hears got runs = record {
      sends = still_sends heard quiet.unit flow sends;
      inputs = λ slot subslot paired. shows_as slot subslot cell_value _ link.flow flow (none_then slot subslot) (shows slot subslot);
      hears = λ phase unaccepted. still_hears heard quiet.unit flow (hears phase unaccepted);
      receives = got;
      runs = runs ∙ sym (quiet.runs link.flow.is_running);
    }

    -- what is shown stays too
    same_by : (flow : Flow) → flow.cyclic ≡ link.flow.cyclic → flow.marks ≡ link.flow.marks → flow.is_running ≡ link.flow.is_running → Follows heard flow
    same_by flow cyclic marks runs =
        goes_by flow (ap (λ (c : CyclicEnd). c.sending) cyclic)
        (λ slot subslot. still slot subslot link.flow flow (ap (λ (c : CyclicEnd). c.shown) cyclic) marks) (λ phase none. ap hearing_of cyclic)
        (λ none. ap got_at cyclic) runs

    calm : Follows heard link.flow
    calm = same_by link.flow refl refl refl

    lowers : (low : Low) → Follows heard (with_low link.flow low)
    lowers low = same_by (with_low link.flow low) refl refl refl

    says : (message : Message) → Follows heard (behind_message link.flow message)
    says message = same_by (behind_message link.flow message) refl refl refl

    raises : (real : List RealModule) (flow : Flow) (slot subslot : ℕ) (octets : List ℕ) → raised_at link.flow real slot subslot octets ≡ Some flow → Follows heard flow
    raises real flow slot subslot octets is = by_idents (module_ident real slot) (submodule_ident real slot subslot) is
      where
        by_may : (ident part : ℕ) (b : Bool)
            → (if b then Some (record link.flow { alarms = end_with link.flow.alarms (notice_of link.flow.alarms.sender.specifier slot subslot ident part octets) }) else None) ≡ Some flow
            → Follows heard flow
        by_may ident part true f = subst (λ (other : Flow). Follows heard other) (some_is _ flow f) (same_by _ refl refl refl)
        by_may ident part false f = none_some flow f

        by_idents : (ident part : Option ℕ) → raised_by link.flow slot subslot octets ident part ≡ Some flow → Follows heard flow
        by_idents None part f = none_some flow f
        by_idents (Some ident) None f = none_some flow f
        by_idents (Some ident) (Some part) f = by_may ident part (may_raise link.flow octets) f

    rated : (slot subslot : ℕ) (is_good : Bool) → Follows heard (rated_at link.flow slot subslot is_good)
    rated slot subslot is_good =
        goes_by (rated_at link.flow slot subslot is_good) refl (λ s ss. rates s ss slot subslot is_good link.flow) (λ phase none. refl) (λ none. refl) refl

    comes : (source : Mac) (frame_id : ℕ) (body : List ℕ) → (IsUnaccepted heard (Some link) → ⊥) → Follows heard (behind_frame link.flow source frame_id body)
    comes source frame_id body accepts =
        let same = frame_still link.flow.cyclic source frame_id body in
        goes_by (behind_frame link.flow source frame_id body) same.0
        (λ slot subslot. still slot subslot link.flow (behind_frame link.flow source frame_id body) same.1 refl) (λ phase none. absurd (accepts none)) (λ none. absurd (accepts none)) refl

    begins : (low : Low) → (link.phase ≡ Exchanging → ⊥) → Follows heard (with_low (begun_of link.flow) low)
    begins low before =
        goes_by (with_low (begun_of link.flow) low) refl (λ slot subslot. still slot subslot link.flow (with_low (begun_of link.flow) low) refl refl)
        (λ phase none. absurd (before phase)) (λ none. refl) refl

    -- IOPS and IOCS follow the places, if an answer counts
    answered_with_plugs : (meaning : PlugAnswer) (plugs : PlugState) → Follows heard (flow_answered meaning plugs link.flow)
    answered_with_plugs to_plug.NotWanted plugs = calm
    answered_with_plugs to_plug.Garbled plugs = calm
    answered_with_plugs to_plug.Confirmed plugs =
        goes_by (restated_flow plugs link.flow) refl (λ slot subslot. restates slot subslot plugs link.flow) (λ phase none. refl) (λ none. refl) refl
    answered_with_plugs to_plug.Refused plugs =
        goes_by (restated_flow plugs link.flow) refl (λ slot subslot. restates slot subslot plugs link.flow) (λ phase none. refl) (λ none. refl) refl

module _ (station : Station) (before : Live) (link : RelationState) where
  -- a device with this relation
  abbrev live : Live
  live = record before { rest = record before.rest { link = Some link } }

  abbrev Done : Heard → Handled → Type 0
  Done heard what = (answers : List BlockError) → Does live link heard (finished station.identity live.rest what answers)

  -- ---- an event that is finished

  same_link : (next : RelationState) → Some link ≡ Some next → link ≡ next
  same_link next e = some_is link next e

  stays : (heard : Heard) (end : Finished) → Follows live link heard link.flow → end.rest.link ≡ live.rest.link → (is_unit heard ≡ false → sends_inputs end.sent ≡ false) → Does live link heard end
  stays heard end follows same silent = record {
    follows = λ next e. subst (λ (l : RelationState). Follows live link heard l.flow) (same_link next (sym same ∙ e)) follows;
    silent = silent;
  }

  ends : (heard : Heard) (end : Finished) → end.rest.link ≡ None → (is_unit heard ≡ false → sends_inputs end.sent ≡ false) → Does live link heard end
  ends heard end none silent = record { follows = λ next e. none_some next (sym none ∙ e); silent = silent }

  becomes : (heard : Heard) (end : Finished) (next : RelationState) → Follows live link heard next.flow → end.rest.link ≡ Some next → (is_unit heard ≡ false → sends_inputs end.sent ≡ false) → Does live link heard end
  becomes heard end next follows is silent = record {
    follows = λ later e. subst (λ (l : RelationState). Follows live link heard l.flow) (some_is next later (sym is ∙ e)) follows;
    silent = silent;
  }

  -- a relation whose exchange is unchanged, if there is one
  abbrev Calm : Option RelationState → Type 0
  Calm after = (next : RelationState) → after ≡ Some next → next.flow ≡ link.flow

  calm_stands : Calm live.rest.link
  calm_stands next e = ap (λ (l : RelationState). l.flow) (sym (same_link next e))

  calm_none : Calm None
  calm_none next e = none_some next e

  calm_map : (change : RelationState → RelationState) → ((l : RelationState) → (change l).flow ≡ l.flow) → (after : Option RelationState) → Calm after → Calm (option_map change after)
  calm_map change same None is next e = none_some next e
  calm_map change same (Some l) is next e = ap (λ (r : RelationState). r.flow) (sym (some_is (change l) next e)) ∙ (same l ∙ is l refl)

  calm_named : (source : Partner) (after : Option RelationState) → Calm after → Calm (updated (Named source) after)
  calm_named source after is = calm_map (λ l. restarted source l) (λ l. refl) after is

  calm_answered : {A : Type 0} (what : Event) (result : Result A CallFault) (after : Option RelationState) → Calm (updated what after) → Calm after → Calm (updated (answered what result) after)
  calm_answered what (Ok answer) after one other = one
  calm_answered what (Err why) after one other = other

  calm_taking : (result : Result Records CallFault) (after : Option RelationState) → Calm after → Calm (updated (taking result) after)
  calm_taking (Ok records) after is = calm_map (λ l. with_records records l) (λ l. refl) after is
  calm_taking (Err why) after is = is

  calm_effect : (effect : Effect) (after : Option RelationState) → Calm after → Calm (effect_link effect after)
  calm_effect (Stores value) after is = is
  calm_effect (Keeps parameter) after is = calm_taking (keeping parameter after) after is

  calm_one : (result : Result Write Status) (after : Option RelationState) → Calm after → Calm (one_link result after)
  calm_one (Ok write) after is = calm_effect write.effect after is
  calm_one (Err why) after is = is

  calm_each : (judged : List Judged) (after : Option RelationState) → Calm after → Calm (link_behind judged after)
  calm_each [] after is = is
  calm_each (one ∷ others) after is = calm_each others (one_link one.1 after) (calm_one one.1 after is)

  calm_if : (source : Partner) (b : Bool) → Calm (updated (if b then Named source else Unmoved) live.rest.link)
  calm_if source true = calm_named source live.rest.link calm_stands
  calm_if source false = calm_stands

  calms : (heard : Heard) → IsQuiet live heard → (end : Finished) → Calm end.rest.link → sends_inputs end.sent ≡ false → Does live link heard end
  calms heard quiet end is silent = record {
    follows = λ next e. subst (λ (flow : Flow). Follows live link heard flow) (sym (is next e)) (calm live link heard quiet);
    silent = λ unit. silent;
  }

  refuses : (heard : Heard) (why : Note) → Follows live link heard link.flow → Done heard (Refuses why)
  refuses heard why follows = λ answers. stays heard _ follows refl (λ unit. refl)

  -- ---- DCP and ARP

  quiet_asks : (asker : Mac) (request : Asked) → IsQuiet live (Asks asker request)
  quiet_asks asker request = record { unit = refl; value = λ slot subslot size. refl; made = refl; runs = λ was. refl }

  sets_as : (heard : Heard) → IsQuiet live heard → (asker : Mac) (request : Asked) (in_operation ends_it : Bool) (answers : List BlockError)
      → resets (plan_of in_operation request) answers ≡ ends_it → Does live link heard (finished station.identity live.rest (Sets asker request in_operation) answers)
  sets_as heard quiet asker request in_operation ends_it answers is =
      calms heard quiet (finished station.identity live.rest (Sets asker request in_operation) answers)
      (subst (λ (b : Bool). Calm (link_after b live.rest.link)) (sym is) (by_end ends_it))
      (none_both (farewells_at (resets (plan_of in_operation request) answers) live.rest.link) (SetAnswer asker request answers ∷ [])
      (farewells_none (resets (plan_of in_operation request) answers) live.rest.link) refl)
    where
      by_end : (b : Bool) → Calm (link_after b live.rest.link)
      by_end true = calm_none
      by_end false = calm_stands

  requests : (asker : Mac) (which : Service) (request : Asked) → Done (Asks asker request) (handled_request station live asker which request)
  requests asker service.Identify request = by_match (matches station.identity live.values.running (alias_in live.rest.peer) request)
    where
      by_match : (b : Bool)
          → Done (Asks asker request) (if b then Moves live.rest (IdentifyAnswer asker live.values.running request.xid ∷ []) else Refuses note.Filter)
      by_match true = λ answers. calms _ (quiet_asks asker request) _ calm_stands refl
      by_match false = refuses _ note.Filter (calm live link _ (quiet_asks asker request))
  requests asker service.Get request = λ answers. calms _ (quiet_asks asker request) _ calm_stands refl
  requests asker service.Set request = λ answers.
      sets_as _ (quiet_asks asker request) asker request (is_some live.rest.link) (resets (plan_of (is_some live.rest.link) request) answers) answers refl

  resolves : (asker : Mac) (packet : Arp) (b : Bool)
      → Done (Resolves asker packet) (if b then Moves live.rest (ArpReply asker live.values.running.suite.address packet.sender ∷ []) else Refuses note.NotMine)
  resolves asker packet true = λ answers. calms _ (record { unit = refl; value = λ slot subslot size. refl; made = refl; runs = λ was. refl }) _ calm_stands refl
  resolves asker packet false = refuses _ note.NotMine (calm live link _ (record { unit = refl; value = λ slot subslot size. refl; made = refl; runs = λ was. refl }))

  -- ---- calls

  module _ (caller : Caller) (address : List ℕ) (said : Said) where
    abbrev now : Heard
    now = Reported caller address said

    quiet_now : IsQuiet live now
    quiet_now = record { unit = refl; value = λ slot subslot size. refl; made = refl; runs = λ was. refl }

    -- a call that is answered
    serves : (at : Live) (call : Call) (which : Operation) (outcome : Result (List ℕ) CallFault) (after : Option RelationState) (behind : List Sent)
        → Calm after → sends_inputs behind ≡ false → Done now (served station at caller call which outcome after behind)
    serves at call which outcome after behind is silent = λ answers. calms now quiet_now _ is silent

    no_second : (blocks : List ℕ) (request : Request) → connect_within station.options caller.mac live.rest.link blocks ≡ Ok request → ⊥
    no_second blocks request e =
        refused_second link.request.ar.uuid blocks request (unlimited station.options caller.mac live.rest.link blocks request e)

    connects : (blocks : List ℕ) (read : Result Request CallFault) → connect_within station.options caller.mac live.rest.link blocks ≡ read
        → Calm (updated (making live.rest.real (partner_of caller) station.options (starting_of station live) read) live.rest.link)
    connects blocks (Ok request) e = absurd (no_second blocks request e)
    connects blocks (Err why) e = calm_stands

    effects : (call : Call) (header : IodWriteReq) (effect : Effect) → Done now (handled_effect station live caller call header effect)
    effects call header (Stores value) = λ answers.
        calms now quiet_now _
        (calm_answered (Named (partner_of caller)) (written_as header (first_answer answers)) live.rest.link (calm_named (partner_of caller) live.rest.link calm_stands) calm_stands) refl
    effects call header (Keeps parameter) =
        let kept = keeping parameter live.rest.link in
        let taken = calm_taking kept live.rest.link calm_stands in
        serves live call operation.Write (kept_answer header kept) _ []
        (calm_answered (Named (partner_of caller)) kept (updated (taking kept) live.rest.link) (calm_named (partner_of caller) (updated (taking kept) live.rest.link) taken) taken) refl

    writes : (call : Call) (writing : Result Writing CallFault) → Done now (handled_write station live caller call writing)
    writes call (Ok (One write)) = effects call write.request write.effect
    writes call (Ok (Each header entries)) = λ answers.
        let judged = judged_each station.named (uuid_of live.rest.link) live.rest.real entries in
        calms now quiet_now _ (calm_named (partner_of caller) (link_behind judged live.rest.link) (calm_each judged live.rest.link calm_stands)) refl
    writes call (Err why) = serves live call operation.Write (Err why) live.rest.link [] calm_stands refl

    readies_behind : (by_application : Bool) (after : Option RelationState) (ended : Result ControlBlock CallFault)
        → sends_inputs (ready_behind by_application live.values.running.suite.address after ended) ≡ false
    readies_behind true after (Ok block) = refl
    readies_behind false after (Ok block) = ready_none live.values.running.suite.address after
    readies_behind by_application after (Err why) = refl

    controls : (blocks : List ℕ) → Calm (updated (answered (Named (partner_of caller)) (prm_end_of live.rest.link blocks))
        (updated (answered (Parameterized station.options.ready_by_application) (prm_end_of live.rest.link blocks)) live.rest.link))
    controls blocks =
        let ended = prm_end_of live.rest.link blocks in
        let by_application = station.options.ready_by_application in
        let moved = calm_answered (Parameterized by_application) ended live.rest.link
        (calm_map (λ l. parameterized_from by_application l) (λ l. refl) live.rest.link calm_stands) calm_stands in
        calm_answered (Named (partner_of caller)) ended (updated (answered (Parameterized by_application) ended) live.rest.link)
        (calm_named (partner_of caller) (updated (answered (Parameterized by_application) ended) live.rest.link) moved) moved

    -- a PrmEnd after a plug
    calm_ended : (by_application : Bool) (ended : Result PlugControlBlock CallFault) → Calm (ended_by by_application ended live.rest.link)
    calm_ended by_application (Ok block) = calm_map (λ l. plug_ended by_application block l) (λ l. refl) live.rest.link calm_stands
    calm_ended by_application (Err why) = calm_stands

    calm_called : {A : Type 0} (ended : Result A CallFault) (after : Option RelationState) → Calm after → Calm (calling_after ended after)
    calm_called (Err why) after is = is
    calm_called (Ok it) after is = calm_map (λ (l : RelationState). record l { plugs = next_called l.plugs }) (λ l. refl) after is

    prm_ends : (call : Call) (blocks : List ℕ) → Done now (handled_prm_end station live caller call blocks)
    prm_ends call blocks =
        serves live call operation.Control _ _ _ (controls blocks)
        (readies_behind station.options.ready_by_application _ (prm_end_of live.rest.link blocks))

    plug_ends : (call : Call) (blocks : List ℕ) → Done now (handled_plug_end station live caller call blocks)
    plug_ends call blocks =
        let by_application = station.options.ready_by_application in
        let ended = plug_end_in blocks live.rest.link in
        let moved = calm_ended by_application ended in
        let link = updated (answered (Named (partner_of caller)) ended) (plug_ending by_application blocks live.rest.link) in
        serves live call operation.Control (plug_end_answer ended) (calling_after ended link) (call_after ended live.values.running.suite.address link)
        (calm_called ended link
        (calm_answered (Named (partner_of caller)) ended (plug_ending by_application blocks live.rest.link)
        (calm_named (partner_of caller) (plug_ending by_application blocks live.rest.link) moved) moved))
        (after_none ended live.values.running.suite.address link)

    control : (call : Call) (blocks : List ℕ) (b : Bool) → Done now (if b then handled_plug_end station live caller call blocks else handled_prm_end station live caller call blocks)
    control call blocks true = plug_ends call blocks
    control call blocks false = prm_ends call blocks

    own_call : (call : Call) (blocks : List ℕ) (which : Operation) → Done now (handled_own station live caller call blocks which)
    own_call call blocks operation.Connect =
        let answer = connect_answer station.identity live.rest.real station.options (number_now station live) caller.mac live.rest.link blocks in
        serves (but_rest live (counted_by answer (with_log (connect_log blocks answer) live.rest))) call operation.Connect answer _ []
        (connects blocks (connect_within station.options caller.mac live.rest.link blocks) refl) refl
    own_call call blocks operation.Release =
        let answer = release_answer live.rest.link blocks in
        let asked = left_asked (released_by answer (uuid_of live.rest.link)) live.rest.asked in
        serves (but_rest live (record (with_log (release_log (uuid_of live.rest.link) answer) live.rest) { asked = asked })) call operation.Release answer _ []
        (calm_answered Ended (release_of live.rest.link blocks) live.rest.link calm_none calm_stands) refl
    own_call call blocks operation.Read =
        serves live call operation.Read _ _ []
        (calm_answered (Named (partner_of caller)) (relation_read (known_of station live) station.identity live.rest.real live.values.running blocks) live.rest.link
        (calm_named (partner_of caller) live.rest.link calm_stands) calm_stands) refl
    own_call call blocks operation.Write = writes call (writing_of (uuid_of live.rest.link) live.rest.real blocks)
    own_call call blocks operation.Control = control call blocks (is_plug_control blocks live.rest.link)
    own_call call blocks operation.ReadImplicit =
        serves live call operation.ReadImplicit _ _ []
        (calm_answered (implicitly (partner_of caller) live.rest.link blocks) (implicit_read (known_of station live) station.identity live.rest.real live.values.running blocks) live.rest.link
        (calm_if (partner_of caller) _) calm_stands) refl

    -- a call that is asked of the application, or refused while another one is
    question_call : (question : Question) (displaced : Option Question) (asked : Option AskedState)
        → Done now (handled_question station live question displaced asked)
    question_call question displaced (Some asked) = λ answers.
        calms now quiet_now _ calm_stands (refused_none station.options live.values.running.suite.address Busy displaced live.rest.calls)
    question_call question displaced None = λ answers.
        calms now quiet_now _ calm_stands
        (answer_none (is_new (looked_if (is_kept station.options (operation_asked question.request)) question.header.activity question.header.sequence live.rest.calls))
        (reply_to live.values.running.suite.address question (unanswered_status (operation_asked question.request) Busy) []) refl)

    asking_call : (call : Call) (blocks : List ℕ) (which : Operation) (asking : Result (Option Asking) CallFault)
        → Done now (handled_asking station live caller call blocks which asking)
    asking_call call blocks which (Ok None) = own_call call blocks which
    asking_call call blocks which (Ok (Some asking)) =
        let displaced = displaced_by station.options.asks_own_first asking.0 live.rest.asked in
        question_call asking.0 displaced (asking_state asking.0 asking.1 (behind_displaced displaced live.rest.asked))
    asking_call call blocks which (Err why) = serves live call which (Err why) live.rest.link [] calm_stands refl

    unanswered_call : (call : Call) (blocks : List ℕ) (which : Operation) (b : Bool)
        → Done now (if b then Moves live.rest [] else handled_new station live caller call blocks which)
    unanswered_call call blocks which true = λ answers. calms now quiet_now _ calm_stands refl
    unanswered_call call blocks which false =
        asking_call call blocks which (asking_of live.rest.real station.named (uuid_of live.rest.link) caller call blocks which)

    looked_call : (call : Call) (blocks : List ℕ) (which : Operation) (found : Looked) → Done now (handled_looked station live caller call blocks which found)
    looked_call call blocks which new = unanswered_call call blocks which (is_repeat call.header.activity call.header.sequence live.rest.asked)
    looked_call call blocks which (again frame) = λ answers. calms now quiet_now _ calm_stands refl
    looked_call call blocks which old = refuses now note.OldCall (calm live link now quiet_now)

    counted_call : (call : Call) (which : Operation) (blocks : Option (List ℕ)) → Done now (handled_blocks station live caller call which blocks)
    counted_call call which None = λ answers. calms now quiet_now _ calm_stands refl
    counted_call call which (Some blocks) =
        looked_call call blocks which (looked_if (is_kept station.options which) call.header.activity call.header.sequence live.rest.calls)

    called : (call : Call) (which : Option Operation) → Done now (handled_call station live caller call which)
    called call None = refuses now note.Fault (calm live link now quiet_now)
    called call (Some which) = counted_call call which call.blocks

    -- ApplicationReady is confirmed only while it is awaited
    not_awaiting : is_awaiting Exchanging ≡ true → ⊥
    not_awaiting e = cc

    unconfirmed : (response : Response) → ready_answer response (Some link) ≡ to_ready.Confirmed → link.phase ≡ Exchanging → ⊥
    unfolding ready_answer
    unconfirmed response e phase = by_phase link.phase phase e
      where
        by_phase : (p : Phase) → p ≡ Exchanging
            → (if is_awaiting p && is_answer_to link.request.ar.uuid response.header
            then (if is_done response.status then confirmed_by link.request.ar.uuid (confirmed_block (read_block response.blocks)) else to_ready.Refused (farewell_of Other link))
            else to_ready.NotWanted) ≡ to_ready.Confirmed → ⊥
        by_phase Exchanging same f = absurd cc
        by_phase Started same f = absurd cc
        by_phase Preparing same f = absurd cc
        by_phase Awaiting same f = absurd cc

    answers_as : (response : Response) (meaning : ReadyAnswer) → ready_answer response live.rest.link ≡ meaning → Done now (handled_answer station live meaning)
    answers_as response to_ready.NotWanted is = refuses now note.NoRelation (calm live link now quiet_now)
    answers_as response to_ready.Garbled is = refuses now note.Fault (calm live link now quiet_now)
    answers_as response to_ready.Confirmed is = λ answers.
        becomes now _ _ (begins live link now quiet_now _ (λ phase. unconfirmed response is phase)) refl
        (λ unit. low_due (begin_one live.rest.real.modules.items live.rest.diagnoses (Some (exchanging_from link)))
        (Some (diagnoses_begun live.rest.real.modules.items live.rest.diagnoses (exchanging_from link).flow)))
    answers_as response (to_ready.Refused farewell) is = λ answers. ends now _ refl (λ unit. refl)

    -- the next call of a plug
    calls_next : (after : RelationState) → Follows live link now after.flow → Done now (handled_next_call live (Some after))
    calls_next after follows = λ answers.
        becomes now _ (record after { plugs = next_called after.plugs }) follows refl (λ unit. next_none live.values.running.suite.address (Some after))

    plug_answers : (response : Response) (meaning : PlugAnswer) → Done now (handled_plug_answer live response meaning)
    plug_answers response to_plug.NotWanted = refuses now note.NoRelation (calm live link now quiet_now)
    plug_answers response to_plug.Garbled = refuses now note.Fault (calm live link now quiet_now)
    plug_answers response to_plug.Confirmed =
        let so = plug_answer_in response (Some link) in
        calls_next (answered_with so link) (answered_with_plugs live link now quiet_now so (plugs_answered so link.plugs))
    plug_answers response to_plug.Refused =
        let so = plug_answer_in response (Some link) in
        calls_next (answered_with so link) (answered_with_plugs live link now quiet_now so (plugs_answered so link.plugs))

    responds : (response : Response) (b : Bool)
        → Done now (if b then handled_plug_answer live response (plug_answer_in response live.rest.link) else handled_answer station live (ready_answer response live.rest.link))
    responds response true = plug_answers response (plug_answer_in response live.rest.link)
    responds response false = answers_as response (ready_answer response live.rest.link) refl

    says_so : (what : Said) → Done now (handled_said station live caller what)
    says_so (Calls call) = called call (operation_of call.header.operation)
    says_so (Responds response) = responds response (is_in_exchange live.rest.link)
    says_so Garbled = refuses now note.Fault (calm live link now quiet_now)

    datagram : (b : Bool) → Done now (if b then handled_said station live caller said else Refuses note.NotMine)
    datagram true = says_so said
    datagram false = refuses now note.NotMine (calm live link now quiet_now)

  -- ---- what is exchanged

  quiet_cyclic : (source : Mac) (frame_id : ℕ) (body : List ℕ) → IsQuiet live (Cyclic source frame_id body)
  quiet_cyclic source frame_id body = record { unit = refl; value = λ s ss size. refl; made = refl; runs = λ was. refl }

  receives : (source : Mac) (frame_id : ℕ) (body : List ℕ) (what : Received) → received_as link.flow source frame_id body ≡ what
      → Done (Cyclic source frame_id body) (handled_received live what (updated (receiving_as what (behind_frame link.flow source frame_id body)) (Some link)))
  receives source frame_id body received.Foreign is = refuses _ note.NoRelation (calm live link _ (quiet_cyclic source frame_id body))
  receives source frame_id body received.Short is = refuses _ note.Fault (calm live link _ (quiet_cyclic source frame_id body))
  receives source frame_id body received.Stale is = refuses _ note.StaleCycle (calm live link _ (quiet_cyclic source frame_id body))
  receives source frame_id body received.Taken is = λ answers.
      becomes _ _ (with_flow (behind_frame link.flow source frame_id body) link)
      (comes live link _ (quiet_cyclic source frame_id body) source frame_id body (λ none. none is)) refl (λ unit. refl)

  -- an input is given: what does not depend on what is shown stays
  given_still : {A : Type 0} (part : CyclicEnd → A) → ((cyclic : CyclicEnd) (shown : Shown) → part (record cyclic { shown = shown }) ≡ part cyclic)
      → (slot subslot : ℕ) (value : List ℕ) (fits : Bool)
      → part (unwrap_or (option_map (with_input link.flow slot subslot)
      (if fits then Some (record link.flow.cyclic { shown = changed at_data slot subslot (with_value value) link.flow.cyclic.shown }) else None)) link.flow).cyclic
      ≡ part link.flow.cyclic
  given_still {A} part same slot subslot value false = refl
  given_still {A} part same slot subslot value true = by_awaited (awaits slot subslot link.flow.marks)
    where
      given : CyclicEnd
      given = record link.flow.cyclic { shown = changed at_data slot subslot (with_value value) link.flow.cyclic.shown }

      by_awaited : (awaited : Bool)
          → part (if awaited then remarked (with_cyclic link.flow given) slot subslot None else with_cyclic link.flow given).cyclic ≡ part link.flow.cyclic
      by_awaited true = same given _ ∙ same link.flow.cyclic _
      by_awaited false = same link.flow.cyclic _

  given_runs : (slot subslot : ℕ) (value : List ℕ) (fits : Bool)
      → (unwrap_or (option_map (with_input link.flow slot subslot)
      (if fits then Some (record link.flow.cyclic { shown = changed at_data slot subslot (with_value value) link.flow.cyclic.shown }) else None)) link.flow).is_running
      ≡ link.flow.is_running
  given_runs slot subslot value false = refl
  given_runs slot subslot value true = by_awaited (awaits slot subslot link.flow.marks)
    where
      by_awaited : (awaited : Bool)
          → (if awaited then remarked (with_cyclic link.flow (record link.flow.cyclic { shown = changed at_data slot subslot (with_value value) link.flow.cyclic.shown })) slot subslot None
          else with_cyclic link.flow (record link.flow.cyclic { shown = changed at_data slot subslot (with_value value) link.flow.cyclic.shown })).is_running ≡ link.flow.is_running
      by_awaited true = refl
      by_awaited false = refl

  gives_on : (slot subslot : ℕ) (value : List ℕ) → Follows live link (input_heard slot subslot value) (unwrap_or (given_at link.flow slot subslot value) link.flow)
  gives_on slot subslot value = record {
    sends = given_still (λ cyclic. cyclic.sending) (λ cyclic shown. refl) slot subslot value (has_size (length value) (cell_at at_data slot subslot link.flow.cyclic.shown.cells));
    inputs = λ s ss paired. gives s ss slot subslot value link.flow;
    hears = λ phase none. given_still hearing_of (λ cyclic shown. refl) slot subslot value (has_size (length value) (cell_at at_data slot subslot link.flow.cyclic.shown.cells));
    receives = λ none. given_still got_at (λ cyclic shown. refl) slot subslot value (has_size (length value) (cell_at at_data slot subslot link.flow.cyclic.shown.cells));
    runs = given_runs slot subslot value (has_size (length value) (cell_at at_data slot subslot link.flow.cyclic.shown.cells));
  }

  gives_to : (slot subslot : ℕ) (value : List ℕ) (given : Option Flow) → given_at link.flow slot subslot value ≡ given → Done (input_heard slot subslot value) (handled_input live given)
  gives_to slot subslot value (Some flow) is = λ answers.
      becomes _ _ (with_flow flow link)
      (subst (λ (o : Option Flow). Follows live link (input_heard slot subslot value) (unwrap_or o link.flow)) is (gives_on slot subslot value)) refl (λ unit. refl)
  gives_to slot subslot value None is =
      refuses _ note.Refused (subst (λ (o : Option Flow). Follows live link (input_heard slot subslot value) (unwrap_or o link.flow)) is (gives_on slot subslot value))

  quiet_rated : (slot subslot : ℕ) (is_good : Bool) → IsQuiet live (Applied (local.Status slot subslot is_good))
  quiet_rated slot subslot is_good = record { unit = refl; value = λ s ss size. refl; made = refl; runs = λ was. refl }

  rates_as : (slot subslot : ℕ) (is_good : Bool) (statuses : Option (List InputStatus)) → Done (Applied (local.Status slot subslot is_good)) (kept_status live slot subslot is_good statuses)
  rates_as slot subslot is_good (Some statuses) = λ answers.
      becomes _ _ (with_flow (rated_at link.flow slot subslot is_good) link) (rated live link _ (quiet_rated slot subslot is_good) slot subslot is_good) refl (λ unit. refl)
  rates_as slot subslot is_good None = refuses _ note.Refused (calm live link _ (quiet_rated slot subslot is_good))

  turns_so : (is_running : Bool) → Done (Applied (local.ProviderState is_running)) (handled_turned live is_running)
  turns_so is_running = λ answers.
      becomes _ _ (with_flow (turned link.flow is_running) link) (turns live link is_running) refl (λ unit. refl)

  -- alarms
  quiet_raised : (slot subslot : ℕ) (octets : List ℕ) → IsQuiet live (alarm_heard slot subslot octets)
  quiet_raised slot subslot octets = record { unit = refl; value = λ s ss size. refl; made = refl; runs = λ was. refl }

  notices : (slot subslot : ℕ) (octets : List ℕ) (raised : Option Flow) → raised_at link.flow live.rest.real.modules.items slot subslot octets ≡ raised
      → Done (alarm_heard slot subslot octets) (handled_notice live raised)
  notices slot subslot octets (Some flow) is = λ answers.
      becomes _ _ (with_flow flow link)
      (raises live link _ (quiet_raised slot subslot octets) live.rest.real.modules.items flow slot subslot octets is) refl
      (λ unit. alarms_none (Some flow))
  notices slot subslot octets None is = refuses _ note.Refused (calm live link _ (quiet_raised slot subslot octets))

  module _ (heard : Heard) (quiet : IsQuiet live heard) where
    pdu : (message : Message) (what : PduFate) → Done heard (handled_pdu live what (updated (hearing_as what (behind_message link.flow message)) (Some link)))
    pdu message (fate.Data taken) = λ answers.
        becomes heard _ (with_flow (behind_message link.flow message) link) (says live link heard quiet message) refl (λ unit. replies_none taken (Some (behind_message link.flow message)))
    pdu message fate.Done = λ answers. becomes heard _ (with_flow (behind_message link.flow message) link) (says live link heard quiet message) refl (λ unit. refl)
    pdu message fate.Ignored = refuses heard note.Filter (calm live link heard quiet)
    pdu message (fate.Aborted status) = λ answers. ends heard _ refl (λ unit. refl)

    alarm : (message : Message) (own : Bool) → Done heard (if own then handled_message live message else Refuses note.NoRelation)
    alarm message true = pdu message (heard_by message live.rest.link)
    alarm message false = refuses heard note.NoRelation (calm live link heard quiet)

    low_pdu : (message : Message) (what : PduFate) → Done heard (handled_low_pdu station live what (updated (hearing_low message live.rest.link) live.rest.link))
    low_pdu message (fate.Data taken) = λ answers.
        let next = behind_low link.flow message in
        let later = next_reported next in
        let one = report_one (Some (with_flow next link)) in
        becomes heard _ _ (lowers live link heard quiet later.low) refl
        (λ unit. none_both (low_replies_of taken (Some next)) (where_due one (low_alarms_of (Some later))) (low_replies_none taken (Some next)) (low_due one (Some later)))
    low_pdu message fate.Done = λ answers. becomes heard _ (with_flow (behind_low link.flow message) link) (lowers live link heard quiet _) refl (λ unit. refl)
    low_pdu message fate.Ignored = refuses heard note.Filter (calm live link heard quiet)
    low_pdu message (fate.Aborted status) = refuses heard note.Filter (calm live link heard quiet)

    low : (message : Message) (own : Bool) → Done heard (if own then handled_low_message station live message else Refuses note.NoRelation)
    low message true = low_pdu message (heard_low message live.rest.link)
    low message false = refuses heard note.NoRelation (calm live link heard quiet)

    low_reply : (source : Mac) (header : Header) (message : Message) (sent : Bool)
        → Done heard (if sent then handled_low station live source header message else handled_alarm live source header message)
    low_reply source header message true = low message (is_alarm_of source header.destination header.source live.rest.link)
    low_reply source header message false = alarm message (is_alarm_of source header.destination header.source live.rest.link)

    low_confirm : (source : Mac) (header : Header) (message : Message) (sent : Bool) → Done heard (if sent then handled_low station live source header message else Refuses note.Fault)
    low_confirm source header message true = low message (is_alarm_of source header.destination header.source live.rest.link)
    low_confirm source header message false = refuses heard note.Fault (calm live link heard quiet)

  -- diagnosis
  quiet_change : (change : Change) → IsQuiet live (change_heard change)
  quiet_change change = record { unit = refl; value = λ s ss size. refl; made = refl; runs = λ was. refl }

  changes : (change : Change) (later : Option (List Diagnosis)) → Done (change_heard change) (handled_change station live change later)
  changes change (Some later) = λ answers.
      becomes _ _ _ (lowers live link _ (quiet_change change) _) refl
      (λ unit. low_due (diagnose_one live.rest.real.modules.items change later (Some link)) (Some (diagnosed live.rest.real.modules.items change later link.flow)))
  changes change None = refuses _ note.Refused (calm live link _ (quiet_change change))

  diagnoses : (change : Change) (may : Bool) → Done (change_heard change) (if may then handled_change station live change (changed_list change live.rest.diagnoses) else Refuses note.Refused)
  diagnoses change true = changes change (changed_list change live.rest.diagnoses)
  diagnoses change false = refuses _ note.Refused (calm live link _ (quiet_change change))

  -- something is pulled or plugged
  module _ (heard : Heard) (unit : is_unit heard ≡ false) (nothing : (slot subslot size : ℕ) → given_with slot subslot size heard ≡ None)
      (still_runs : (was : Bool) → running_then heard was ≡ was) (made : RealChange)
      (is : change_by live.rest.real.modules.items heard ≡ Some made) where
    -- the change that the event makes, by the modules after it and by whether its alarm can wait
    accepted_as : (now : Option (List RealModule)) → modules_after live.rest.real.modules.items heard ≡ now → made_with live heard ≡ accepted (Some made) now live.rest.link
    accepted_as now modules =
        ap (λ (change : Option RealChange). accepted change (modules_after live.rest.real.modules.items heard) live.rest.link) is
        ∙ ap (λ (after : Option (List RealModule)). accepted (Some made) after live.rest.link) modules

    changed_shows : (plugs : PlugState) → made_with live heard ≡ Some made → (slot subslot : ℕ)
        → IsPaired slot subslot link.flow
        → Shows slot subslot (λ (cell : Cell). value_then (affects (made_with live heard) slot subslot) (given_with slot subslot cell.place.size heard) cell) link.flow
        (restated_flow plugs (renewed (affected_by made) link.options.inputs_begin_bad link.flow))
    changed_shows plugs changed slot subslot paired =
        shows_as slot subslot (λ (cell : Cell). zeros_if (covers (affected_by made) slot subslot) cell.value cell.place) _ link.flow _
        (λ cell. sym (ap (λ (change : Option RealChange). value_then (affects change slot subslot) (given_with slot subslot cell.place.size heard) cell) changed
        ∙ ap (λ (given : Option (List ℕ)). value_then (covers (affected_by made) slot subslot) given cell) (nothing slot subslot cell.place.size)))
        (pulls slot subslot (affected_by made) plugs link.options.inputs_begin_bad link.flow paired)

    changed_follows : (now : List RealModule) (later : List Diagnosis) → made_with live heard ≡ Some made
        → Follows live link heard (flow_then (rows_now now link) made later link)
    changed_follows now later changed =
        let flow = flow_then (rows_now now link) made later link in
        let alone = shown_alone (rows_now now link) made later link in
        record {
          sends = still_sends live link heard unit flow (ap (λ (c : CyclicEnd). c.sending) alone);
          inputs = λ slot subslot paired.
              let shows = changed_shows (places_then (rows_now now link) made link) changed slot subslot paired in
              record { marks = shows.marks; is = shows.is };
          hears = λ phase none. still_hears live link heard unit flow (ap hearing_of alone);
          receives = λ none. ap got_at alone;
          runs = sym (still_runs link.flow.is_running);
        }

    modules_with : (now : List RealModule) (b : Bool) → modules_after live.rest.real.modules.items heard ≡ Some now → is_crowded (affected_by made) live.rest.link ≡ b
        → Done heard (if b then Refuses note.Refused else Moves (changed_rest live.rest made now) (sent_after live made now))
    modules_with now true modules room = refuses heard note.Refused (calm live link heard (record {
      unit = unit;
      value = nothing;
      made = accepted_as (Some now) modules ∙ ap (λ (b : Bool). if b then None else Some made) room;
      runs = still_runs;
    }))
    modules_with now false modules room = λ answers.
        let later = remaining (affected_by made) live.rest.diagnoses in
        let alarm = is_alarmed_by now made later live.rest.link in
        let called = is_called_by now made later live.rest.link in
        let after = changed_by (rows_now now link) made later link in
        becomes heard _ after
        (changed_follows now later (accepted_as (Some now) modules ∙ ap (λ (b : Bool). if b then None else Some made) room)) refl
        (λ unit. none_both (where_due alarm (low_alarms_of (Some after.flow))) (where_due called (plug_calls live.values.running.suite.address (Some after)))
        (low_due alarm (Some after.flow)) (none_due called (plug_calls live.values.running.suite.address (Some after)) (plug_calls_none live.values.running.suite.address (Some after))))

    modules_as : (now : Option (List RealModule)) → modules_after live.rest.real.modules.items heard ≡ now → Done heard (handled_modules live made now)
    modules_as None modules = refuses heard note.Refused (calm live link heard (record { unit = unit; value = nothing; made = accepted_as None modules; runs = still_runs }))
    modules_as (Some now) modules = modules_with now (is_crowded (affected_by made) live.rest.link) modules refl

  -- the application is ready for a plug
  quiet_ready_at : (slot subslot : ℕ) → IsQuiet live (Applied (local.ReadyAt slot subslot))
  quiet_ready_at slot subslot = record { unit = refl; value = λ s ss size. refl; made = refl; runs = λ was. refl }

  readies_at : (slot subslot : ℕ) (b : Bool)
      → Done (Applied (local.ReadyAt slot subslot)) (if b then handled_next_call live (readying_at slot subslot live.rest.link) else Refuses note.Refused)
  readies_at slot subslot true = λ answers.
      becomes _ _ _ (calm live link _ (quiet_ready_at slot subslot)) refl (λ unit. next_none live.values.running.suite.address (readying_at slot subslot live.rest.link))
  readies_at slot subslot false = refuses _ note.Refused (calm live link _ (quiet_ready_at slot subslot))

  -- the application is ready
  readies : (preparing : Bool) → Done (Applied local.Ready) (if preparing
      then (let after = updated Prepared live.rest.link in Moves (record live.rest { link = after }) (ready_calls live.values.running.suite.address after)) else Refuses note.Refused)
  readies true = λ answers.
      calms (Applied local.Ready) (record { unit = refl; value = λ s ss size. refl; made = refl; runs = λ was. refl }) _ (calm_map (λ l. prepared_from l) prepared_same live.rest.link calm_stands) (ready_none live.values.running.suite.address (updated Prepared live.rest.link))
    where
      prepared_same : (l : RelationState) → (prepared_from l).flow ≡ l.flow
      prepared_same l = by_phase (is_preparing (Some l.phase))
        where
          by_phase : (b : Bool) → (if b then record l { phase = Awaiting; waited = 0 } else l).flow ≡ l.flow
          by_phase true = refl
          by_phase false = refl
  readies false = refuses (Applied local.Ready) note.Refused (calm live link (Applied local.Ready) (record { unit = refl; value = λ s ss size. refl; made = refl; runs = λ was. refl }))

  -- an answer of the application: the relation goes on, also if it is alive by it
  module _ (heard : Heard) (quiet : IsQuiet live heard) where
    answered_by : (given : Gives) (question : Result Question AnswerFault) → Done heard (handled_judged station live given question)
    answered_by given (Ok question) = λ answers.
        calms heard quiet _ (calm_if (source_of question) _)
        (later_none (is_kept station.options (operation_asked question.request)) live.values.running.suite.address question
        (reply_to live.values.running.suite.address question (answer_status question.request given) (answer_blocks question.request given)) live.rest.calls refl)
    answered_by given (Err why) = refuses heard note.Refused (calm live link heard quiet)

  -- a unit
  passes_on : Follows live link Ticks (flow_later link.flow)
  passes_on = record {
    sends = refl;
    inputs = λ slot subslot paired. still slot subslot link.flow (flow_later link.flow) refl refl;
    hears = λ phase none. refl;
    receives = λ none. by_begun link.flow.cyclic.begun;
    runs = refl;
  }
    where
      by_begun : (b : Bool)
          → ◌≡◌ {A = Got} (record { taken = link.flow.cyclic.taken; data_status = link.flow.cyclic.data_status; last = (if b then held_on link.flow.cyclic.hearing else link.flow.cyclic.hearing).last }) (got_at link.flow.cyclic)
      by_begun true = refl
      by_begun false = refl

  no_unit : true ≡ false → ⊥
  no_unit e = cc

  ticks : (ending : Option Abort) → ending_of link ≡ ending → Done Ticks (ticked station live)
  ticks (Some because) is = λ answers.
      ends Ticks _ (ap (λ (o : Option Abort). updated (passing_by o) (Some link)) is) (λ unit. absurd (no_unit unit))
  ticks None is = λ answers.
      becomes Ticks _ (after_unit link) passes_on (ap (λ (o : Option Abort). updated (passing_by o) (Some link)) is) (λ unit. absurd (no_unit unit))

  does : (heard : Heard) → Done heard (handled station live heard)
  does (Asks asker request) = requests asker request.service request
  does (Resolves asker packet) = resolves asker packet (is_request packet.operation && is_running live.values.running packet.target.address)
  does (Reported caller address said) = datagram caller address said (is_running live.values.running address)
  does (Alarms source header message) =
      alarm _ (record { unit = refl; value = λ s ss size. refl; made = refl; runs = λ was. refl }) message (is_alarm_of source header.destination header.source live.rest.link)
  does (LowReplies source header message) = low_reply _ (record { unit = refl; value = λ s ss size. refl; made = refl; runs = λ was. refl }) source header message (has_sent_low live.rest.link)
  does (LowConfirms source header message) = low_confirm _ (record { unit = refl; value = λ s ss size. refl; made = refl; runs = λ was. refl }) source header message (has_sent_low live.rest.link)
  does (Cyclic source frame_id body) = receives source frame_id body (received_as link.flow source frame_id body) refl
  does (Applied (local.Input slot subslot value)) = gives_to slot subslot value.items (given_at link.flow slot subslot value.items) refl
  does (Applied (local.Alarm slot subslot octets)) = notices slot subslot octets.items (raised_at link.flow live.rest.real.modules.items slot subslot octets.items) refl
  does (Applied (local.Status slot subslot is_good)) =
      rates_as slot subslot is_good (statuses_at live.rest.real.modules.items (record { slot = slot; subslot = subslot; is_good = is_good }) live.rest.statuses)
  does (Met peer) = λ answers. calms (Met peer) (record { unit = refl; value = λ s ss size. refl; made = refl; runs = λ was. refl }) _ calm_stands refl
  does (Applied (local.Diagnosis slot subslot channel error appears)) =
      let change = change_of slot subslot channel error appears in
      diagnoses change (may_be_diagnosed station live change)
  does (Applied (local.Pull slot subslot)) =
      let real = live.rest.real.modules.items in
      modules_as (Applied (local.Pull slot subslot)) refl (λ s ss size. refl) (λ was. refl) (pull_of real slot subslot) refl (outside slot (pulled slot subslot real)) refl
  does (Applied (local.PullModule slot)) =
      let real = live.rest.real.modules.items in
      modules_as (Applied (local.PullModule slot)) refl (λ s ss size. refl) (λ was. refl) (slot_pull_of real slot) refl (outside slot (slot_pulled slot real)) refl
  does (Applied (local.Plug slot ident part)) =
      modules_as (Applied (local.Plug slot ident part)) refl (λ s ss size. refl) (λ was. refl) (plug_of slot ident part) refl
      (plugged_with slot ident part live.rest.real.modules.items) refl
  does (Applied (local.ReadyAt slot subslot)) = readies_at slot subslot (is_readied_in slot subslot live.rest.link)
  does (Applied local.Ready) = readies (is_preparing (phase_of live.rest.link))
  does (Applied (local.ProviderState is_running)) = turns_so is_running
  does (Applied (local.Answer number octets)) =
      answered_by (Applied (local.Answer number octets)) (record { unit = refl; value = λ s ss size. refl; made = refl; runs = λ was. refl })
      (gives_octets octets.items) (judged number (gives_octets octets.items) live.rest.asked)
  does (Applied (local.Written number)) =
      answered_by (Applied (local.Written number)) (record { unit = refl; value = λ s ss size. refl; made = refl; runs = λ was. refl })
      gives_done (judged number gives_done live.rest.asked)
  does (Applied (local.Refuse number code1 code2)) =
      answered_by (Applied (local.Refuse number code1 code2)) (record { unit = refl; value = λ s ss size. refl; made = refl; runs = λ was. refl })
      (gives_refusal code1 code2) (judged number (gives_refusal code1 code2) live.rest.asked)
  does Ticks = ticks (ending_of link) refl
  does Unreadable = refuses Unreadable note.Fault (calm live link Unreadable (record { unit = refl; value = λ s ss size. refl; made = refl; runs = λ was. refl }))
  does Elsewhere = refuses Elsewhere note.NotMine (calm live link Elsewhere (record { unit = refl; value = λ s ss size. refl; made = refl; runs = λ was. refl }))

-- One step of a device with a relation, whatever its flash does.
pub record DoesIn (live : Live) (link : RelationState) (heard : Heard) (step : Stepped) : Type 0 where
  pub follows : (next : RelationState) → step.live.rest.link ≡ Some next → Follows live link heard next.flow
  pub silent : is_unit heard ≡ false → sends_inputs step.sent ≡ false

step_of_link : (outcomes : List Outcome) (station : Station) (live : Live) (link : RelationState) (heard : Heard)
    → DoesIn (record live { rest = record live.rest { link = Some link } }) link heard (heard_step outcomes station (record live { rest = record live.rest { link = Some link } }) heard)
unfolding heard_step handled_step
step_of_link outcomes station live link heard =
    let so = does station live link heard
    (carried outcomes live.values (items_in (handled station (record live { rest = record live.rest { link = Some link } }) heard))).answers in
    record { follows = so.follows; silent = so.silent }

pub step_does : (outcomes : List Outcome) (station : Station) (live : Live) (link : RelationState) (heard : Heard) → live.rest.link ≡ Some link
    → DoesIn live link heard (heard_step outcomes station live heard)
step_does outcomes station live link heard is =
    let same : live ≡ record live { rest = record live.rest { link = Some link } } = ap (λ (l : Option RelationState). record live { rest = record live.rest { link = l } }) is in
    subst (λ (l : Live). DoesIn l link heard (heard_step outcomes station l heard)) (sym same) (step_of_link outcomes station live link heard)
