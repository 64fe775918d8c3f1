-- One turn of a device: what it does, what becomes of its relation and of the responses that it stores, and where its
-- messages come from.
use Rattle.std.proofs.Common.{◌≡◌, ◌⊎◌, inl, inr, ap, arith, ◌+◌, ◌-◌, ℕ, Bool, true, false, cond, List, [], ◌∷◌, ◌++◌, length, Option, Some, None, option_map, Result, Ok, Err, refl, sym, subst, not, ◌∙◌, append_assoc}
use Rattle.std.specs.Prelude.{◌&&◌, is_some, nat_eq, nat_lt, ◌==◌}
use Rattle.std.specs.List.{AllByRecursion}
use Rattle.lldp.specs.Peer.{Peer}
use Rattle.std.specs.Cmp.Lexicographic.{pointwise, same_text}
use Rattle.wire.specs.Codec.{◌>>=◌}
use Rattle.pn_values.specs.declared.mac.Mac.{Mac}
use Rattle.pn_values.specs.IpSuite.{is_zero}
use Rattle.pn_values.specs.declared.set_item.BlockError.{BlockError}
use Rattle.frame_codec.specs.declared.arp.Arp.{Arp}
use Rattle.frame_codec.specs.declared.udp.Caller.{Caller}
use Rattle.dcp_core.specs.declared.request.Service.{Service}
use Rattle.dcp_core.specs.declared.request.Service.TheVariants as service
use Rattle.dcp_core.specs.Request.{Asked}
use Rattle.dcp_core.specs.Identify.{matches}
use Rattle.dcp_core.specs.Set.{plan_of}
use Rattle.rpc_core.specs.Call.{Asked as Call}
use Rattle.asked_records.specs.Answers.{Gives, answer_blocks, answer_status, gives_done, gives_octets, gives_refusal, judged, unanswered_status}
use Rattle.asked_records.specs.Asked.{AskedState, Standing as AskedStanding, asked_with, asks_beside, displaced_by, is_repeat, question_in, settled}
use Rattle.asked_records.specs.Questions.{call_of, is_implicit, is_of_relation, operation_of as operation_asked}
use Rattle.asked_records.specs.declared.answering.AnswerFault.{AnswerFault}
use Rattle.asked_records.specs.declared.question.Question.{Question}
use Rattle.asked_records.specs.declared.status.Unanswered.TheVariants.{Busy, Late}
use Rattle.connect_blocks.specs.declared.control.ControlBlock.{ControlBlock}
use Rattle.block_codec.specs.declared.block.Block.TheVariants as variant
use Rattle.block_codec.specs.Block.{block_bytes, block_of as read_block}
use Rattle.records.specs.declared.status.call_fault.CallFault.{CallFault}
use Rattle.records.specs.declared.status.operation.Operation.{Operation}
use Rattle.records.specs.declared.status.operation.Operation.TheVariants as operation
use Rattle.records.specs.status.Operation.{operation_of}
use Rattle.connects.specs.requests.Request.{Request}
use Rattle.connects.specs.declared.requests.parts.Ar.{Ar}
use Rattle.connects.specs.requests.Handled.{admitted, ar_in, request_behind, request_in, request_of}
use Rattle.connects.specs.requests.Pieces.{Piece, pieces_of}
use Rattle.record_blocks.specs.declared.write_record.IodWriteReq.{IodWriteReq}
use Rattle.records.specs.declared.writes.taken.TakenRecord.{TakenRecord}
use Rattle.records.specs.declared.writes.write.Effect.{Effect}
use Rattle.records.specs.declared.writes.write.Effect.TheVariants.{Stores, Keeps}
use Rattle.records.specs.declared.writes.write.Write.{Write}
use Rattle.records.specs.declared.writes.writing.Writing.{Writing}
use Rattle.records.specs.declared.writes.writing.Writing.TheVariants.{One, Each}
use Rattle.records.specs.reads.Within.{request_within}
use Rattle.records.specs.writes.Asked.{writing_of}
use Rattle.records.specs.writes.Entry.{Entry}
use Rattle.device_records.specs.Reading.{relation_read}
use Rattle.pn_values.specs.declared.im_value.ImValue.{ImValue}
use Rattle.pn_alarms.specs.declared.abort.Abort.{Abort}
use Rattle.pn_alarms.specs.declared.device.PduFate.TheVariants as fate
use Rattle.pn_alarms.specs.Message.{ToDevice as Message}
use Rattle.cyclic_data.specs.declared.exchange.received.Received.{Received}
use Rattle.cyclic_data.specs.declared.exchange.received.Received.TheVariants as received
use Rattle.cyclic_data.specs.declared.exchange.route.Route.{Route}
use Rattle.relations.specs.exchange.Flow.{Flow}
use Rattle.relations.specs.exchange.Diagnosis.{begins_with_one, behind_low, diagnoses_begun, next_reported}
use Rattle.expected_places.specs.declared.calls.PlugCall.{PlugCall}
use Rattle.expected_places.specs.Machine.{ended, is_next_called, next_called, readied as readied_plugs}
use Rattle.module_diff.specs.declared.changes.RealChange.{RealChange}
use Rattle.module_diff.specs.Changes.{affected_by, plugged_with, pulled, slot_pulled}
use Rattle.connect_blocks.specs.declared.plug_control.PlugControlBlock.{PlugControlBlock}
use Rattle.connect_blocks.specs.PlugControl.{plug_control}
use Rattle.relations.specs.declared.plugging.PlugAnswer.{PlugAnswer}
use Rattle.relations.specs.declared.plugging.PlugAnswer.TheVariants as to_plug
use Rattle.relations.specs.Plugging.{begins_as_plug_end, calling_next, changed_by, ended_by, first_sent, is_called_by, is_calling, is_alarmed_by, is_crowded, is_plug_control, is_readied_in, modules_changing, plug_answer_in, plug_answering, plug_done, plug_end_answer, plug_end_in, plugs_after, ready_for, readying_at, rows_now, taken_after}
use Rattle.relations.specs.exchange.Frames.{Frame, alarm_frame, low_alarm_frame}
use Rattle.relations.specs.declared.farewell.Farewell.{Farewell}
use Rattle.relations.specs.declared.hearing.ReadyAnswer.{ReadyAnswer}
use Rattle.relations.specs.declared.hearing.ReadyAnswer.TheVariants as to_ready
use Rattle.relations.specs.RelationState.{RelationState, flow_of, is_alarm_of, uuid_of, is_started, is_awaiting, is_exchanging, is_in_exchange, is_preparing, passes_on, phase_of}
use Rattle.relations.specs.declared.phase.Partner.{Partner}
use Rattle.relations.specs.Passed.{PassedOn, none_passed, passed_more}
use Rattle.relations.specs.Phases.{Ended, Exchanged, Named, Parameterized, Prepared, Records, answered, keeping, kept_in, parameterized_from, updated, passing, passing_by, taking, Confirmed, exchanging_from, made_of, with_flow, restarted, with_records}
use Rattle.relations.specs.Calls.{done_of, prm_end_of, release_of, control_block, in_started, named_of}
use Rattle.relations.specs.Connect.{connect_blocks, connect_of, connect_within, differing_of, making, rows_of}
use Rattle.relations.specs.Diagnosed.{diagnose_one, diagnosing, has_sent_low, heard_low, hearing_low, is_full_in}
use Rattle.relations.specs.Ready.{answer_of as ready_answer, confirmed_block, confirmed_by, is_wanted, is_answer_to, ready_of}
use Rattle.relations.specs.Timers.{due_by, due_of, ending_of, is_again, is_plug_again, unit_later}
use Rattle.relations.specs.Exchanged.{given_to, heard_by, hearing, raised_to, rating, received_by, receiving, turning, hearing_as, receiving_as}
use Rattle.device_frames.specs.declared.local.Local.TheVariants as local
use Rattle.device_frames.specs.Heard.{Heard, Ticks, Unreadable, Elsewhere, Asks, Resolves, Reported, Cyclic, Alarms, LowReplies, LowConfirms, Applied, Met, Said, Calls, Responds, Garbled}
use Rattle.device_frames.specs.Relation.{alarms_of, frames_in, inputs_of, low_alarms_of, low_replies_of, plug_call_in, plug_calls, ready_calls, replies_of, where_due, due_frames}
use Rattle.device_frames.specs.Sent.{Sent, IdentifyAnswer, GetAnswer, SetAnswer, ArpReply, Again, Ends, CallAnswer, ReadyCall, PlugReadyCall}
use Rattle.device_frames.specs.declared.note.Note.{Note}
use Rattle.device_frames.specs.declared.note.Note.TheVariants as note
use Rattle.settings_journal.specs.settings_store.Machine.{Outcome, carried}
use Rattle.device_core.specs.State.{Station, Live, Rest, alias_in, counter_of, units_after}
use Rattle.device_core.specs.Asking.{Asking, answered_link, asked_later, asking_of, behind_if, calls_after, ended_by as ended_uuid, is_kept, is_new as is_new_call, kept_reply, late_calls, late_in, late_sent, later_calls, later_replies, left_asked, looked_if, question_of, question_replies, refused_reply, released_by, reply_to, write_within}
use Rattle.device_core.specs.Handled.{change_of, Handled, Refuses, Sets, Moves, counted_rest, counted_sent, is_running, is_request, outcome_of, served, ready_behind, partner_of, kept_answer, kept_for, handled_asked, handled_asking, handled_effect, handled_gives, handled_judged, handled_own, handled_question, handled_write, handled_new, handled_looked, handled_blocks, handled_call, handled_alarm, handled_answer, handled_beginning, handled_change, handled_low, handled_low_message, handled_low_pdu, handled_modules, handled_next_call, handled_plug_answer, handled_plug_end, handled_prm_end, handled_said, handled_received, handled_input, handled_met, handled_notice, handled_pdu, handled_message, handled_request, handled_turned, goes_on_with, kept_status, starting_of, number_now, counted_by, handled, known_of}
use Rattle.device_core.specs.Modules.{call_after, calling_after, changed_rest, next_call_sent, outside, plug_of, pull_of, sent_after, slot_pull_of}
use Rattle.device_core.specs.Several.{Judged, judged_each}
use Rattle.rpc_core.specs.declared.response.Status.{Status}
use Rattle.device_core.specs.Machine.{effect_link, farewell_at, first_answer, link_behind, one_link, several_answer, resets, farewells_at, finished, items_in, handled_step, heard_step, link_after, written_as}
use Rattle.device_records.specs.declared.log_data.entry.LogEntry.{LogEntry}
use Rattle.device_core.specs.Log.{but_rest, connect_log, end_log, err_log, release_log}
use Rattle.end_laws.specs.both.Small.{Rules}
use Rattle.end_laws.specs.device.Orderly.{AreNumbered, IsEarly, IsNumberedCall, IsOrderly, IsOrderlyIn}
use Rattle.end_laws.specs.device.Owed.{IsAskedOf, IsAsking, IsOwed}
use Rattle.end_laws.proofs.DeviceQuestions.{IsAskedBy, IsStill, answered_orderly, answered_same, answered_small, displaced_is, dropped_still, judged_is, late_asked, later_still, left_none, left_still, nothing_related, read_asks, same_uuid, still_later, still_related, still_then, still_was, unrelated_asks, unstored_is, write_asks}
use Rattle.end_laws.proofs.DeviceConnects.{unlimited}
use Rattle.end_laws.proofs.DeviceOrderly.{AreBeside, IsKept, answered_beside, beside_ended, beside_kept, calls_told, changed_numbered, changing_kept, changing_orderly, diagnosing_kept, diagnosing_orderly, ended_keys, ended_numbered, exchanges_sent, exchanges_told, exchanging_is, late, next_beside, numbered_next, part_told, plug_of_relation, ready_beside, told_kept, unit_numbered, unit_orderly}
use Rattle.end_laws.proofs.DeviceOwing.{IsPlainIn, asking_plain, busy_sized, busy_undone, connect_plain, keeping_plain, outcome_sized, plug_plain, prm_plain, read_plain, release_plain, stored_plain, writing_plain, IsPlain, bind_ok}
use Rattle.rpc_core.specs.Response.{Answered as Response, answer_to, is_done}
use Rattle.relations.specs.Farewells.{farewell_of}
use Rattle.relations.specs.Numbers.{made_after}
use Rattle.end_laws.proofs.DeviceNumbers.{does_numbered, number_now_is}
use Rattle.relations.specs.exchange.Notices.{behind_message, may_raise, raised_by}
use Rattle.relations.specs.exchange.Process.{remarked, with_cyclic, with_input}
use Rattle.relations.specs.exchange.Marks.{awaits}
use Rattle.relations.specs.exchange.Statuses.{statuses_at}
use Rattle.relations.specs.declared.exchange.statuses.InputStatus.{InputStatus}
use Rattle.relations.specs.exchange.Received.{behind_frame, received_as}
use Rattle.relations.specs.exchange.Units.{flow_later, repeated_of, tick_of}
use Rattle.cyclic_data.specs.Image.{Shown as Image, cell_at, changed, has_size, with_value}
use Rattle.cyclic_data.specs.declared.place.PlaceKind.TheVariants.{Data as at_data}
use Rattle.pn_alarms.specs.declared.abort.Abort.TheVariants.{Other}
use Rattle.pn_alarms.specs.declared.message.Notice.TheVariants as notice
use Rattle.pn_alarms.specs.declared.pdu.Header.{Header}
use Rattle.pn_alarms.specs.Numbers.{is_last}
use Rattle.pn_alarms.specs.Device.{end_with}
use Rattle.pn_alarms.specs.Receiver.{taken_as}
use Rattle.pn_alarms.specs.Sender.{notice_of}
use Rattle.cyclic_data.specs.declared.tail.CyclicTail.{CyclicTail}
use Rattle.cyclic_data.specs.declared.tail.ShortFrame.{ShortFrame}
use Rattle.cyclic_data.specs.Tail.{cyclic_of}
use Rattle.cyclic_data.specs.exchange.Received.{behind_read, is_new, is_of_partner, taken_from}
use Rattle.pn_values.specs.declared.real.RealModule.{RealModule}
use Rattle.module_diff.specs.Plugged.{module_ident, submodule_ident}
use Rattle.diagnosis.specs.Existing.{changed as changed_list}
use Rattle.diagnosis.specs.declared.diagnosis.Change.{Change}
use Rattle.diagnosis.specs.declared.diagnosis.Diagnosis.{Diagnosis}
use Rattle.diagnosis.specs.Queue.{is_next}
use Rattle.rpc_core.specs.Cache.{Kept as Answer, Reported as Looked, new, again, old, behind_reported, kept_more, kept_of, reported_by, looked}
use Rattle.std.proofs.lemmas.Bool.{eqb-true}
use Rattle.std.proofs.lemmas.List.{append-nil}
use Rattle.block_codec.specs.declared.block_type.BlockType.TheVariants as kind
use Rattle.records.specs.declared.status.call_fault.CallFault.TheVariants as fault
use Rattle.records.specs.writes.Taken.{keep_of}
use Rattle.records.specs.writes.Answer.{answer_of}
use Rattle.relations.specs.declared.phase.Phase.{Phase}
use Rattle.relations.specs.declared.phase.Phase.TheVariants.{Started, Preparing, Awaiting, Exchanging}
use Rattle.end_laws.specs.both.Small as small
use Rattle.end_laws.specs.device.Small.{IsPlanned, IsPlannedAs, IsPlannedIn, Planned, confirms, heard_as, link_of, names_own, phase_in}
use Rattle.end_laws.specs.device.Does.{AreReadied, Following, GoesBy, IsForRecord, IsEffect, IsExchange, IsKeptOr, IsOther, IsRestarted, IsUncalled, Plugging, Readying, readied_from, with_more}
use Rattle.end_laws.specs.device.Turn.{Answers, AreCalm, BeginsNumbered, Changes, Diagnoses, IsCalm, IsHigh, IsLow, IsRaise, IsTurn, Raises, Standing, Turn, alarm_heard, change_by, change_heard, heard_low_in, input_heard, modules_after, standing_of}

-- ---- what is sent

due_each : (P : Sent → Type 0) (b : Bool) (sent : List Sent) → AllByRecursion P sent → AllByRecursion P (where_due b sent)
due_each P true sent all = all
due_each P false sent all = tt

each_behind : (P : Sent → Type 0) (sent more : List Sent) → AllByRecursion P sent → AllByRecursion P more → AllByRecursion P (sent ++ more)
each_behind P [] more all others = others
each_behind P (message ∷ sent) more all others = (all.0, each_behind P sent more all.1 others)

farewells_calm : (b : Bool) (link : Option RelationState) → AreCalm link (farewells_at b link)
farewells_calm true (Some link) = ((Other, link, refl, refl), tt)
farewells_calm true None = tt
farewells_calm false link = tt

readied_calm : (before : Option RelationState) (address : List ℕ) (ready : Option Following) → AreCalm before (readied_from address ready)
readied_calm before address None = tt
readied_calm before address (Some (Readying ready)) = (tt, tt)
readied_calm before address (Some (Plugging ready)) = (tt, tt)

-- calls of plugs
called_calm : (before : Option RelationState) (address : List ℕ) (link : Option RelationState) → AreCalm before (plug_calls address link)
called_calm before address None = tt
called_calm before address (Some link) = by_standing link.plugs.calls.standing
  where
    by_standing : (standing : Option PlugCall) → AreCalm before (plug_call_in address (option_map (ready_for link) standing))
    by_standing None = tt
    by_standing (Some call) = (tt, tt)

-- ---- a relation before and after

some_is : {A : Type 0} (x y : A) → Some x ≡ Some y → x ≡ y
some_is x y e = cc

reset_keeps : (b : Bool) (link : Option RelationState) → IsKept link (link_after b link)
reset_keeps true link = (inr refl, inr (inl refl), λ orderly. tt)
reset_keeps false link = (inl refl, inl refl, λ orderly. orderly)

-- none of these changes the ARUUID
exchanged_uuid : (link : Option RelationState) (flow : Flow) → uuid_of (updated (Exchanged flow) link) ≡ uuid_of link
exchanged_uuid None flow = refl
exchanged_uuid (Some link) flow = refl

rated_uuid : (slot subslot : ℕ) (is_good : Bool) (link : Option RelationState) → uuid_of (updated (rating slot subslot is_good link) link) ≡ uuid_of link
rated_uuid slot subslot is_good None = refl
rated_uuid slot subslot is_good (Some link) = refl

turned_uuid : (is_running : Bool) (link : Option RelationState) → uuid_of (updated (turning is_running link) link) ≡ uuid_of link
turned_uuid is_running None = refl
turned_uuid is_running (Some link) = refl

diagnosing_uuid : (real : List RealModule) (change : Change) (later : List Diagnosis) (link : Option RelationState)
    → uuid_of (updated (diagnosing real change later link) link) ≡ uuid_of link
diagnosing_uuid real change later None = refl
diagnosing_uuid real change later (Some link) = refl

changing_uuid : (now : List RealModule) (made : RealChange) (later : List Diagnosis) (link : Option RelationState)
    → uuid_of (modules_changing now made later link) ≡ uuid_of link
changing_uuid now made later None = refl
changing_uuid now made later (Some link) = refl

named_uuid : (source : Partner) (link : Option RelationState) → uuid_of (option_map (restarted source) link) ≡ uuid_of link
named_uuid source None = refl
named_uuid source (Some link) = refl

parameterized_uuid : (source : Partner) (by_application : Bool) (link : RelationState)
    → uuid_of (Some (restarted source (parameterized_from by_application link))) ≡ uuid_of (Some link)
parameterized_uuid source true link = refl
parameterized_uuid source false link = refl

more_uuid : (source : Partner) (passed : PassedOn) (values : List TakenRecord) (link : Option RelationState)
    → uuid_of (option_map (with_more source passed values) link) ≡ uuid_of link
more_uuid source passed values None = refl
more_uuid source passed values (Some link) = refl

beside_uuid : (past next : Option RelationState) → AreBeside past next → uuid_of (calling_next next) ≡ uuid_of past
beside_uuid None None beside = refl
beside_uuid None (Some next) beside = absurd beside
beside_uuid (Some past) None beside = absurd beside
beside_uuid (Some past) (Some next) beside = ap (λ (r : Request). let o : Option (List ℕ) = Some r.ar.uuid in o) beside.request

-- that of the relation that a reset ends
reset_uuid : (link : Option RelationState) → ended_uuid (farewell_at true link) ≡ uuid_of link
reset_uuid None = refl
reset_uuid (Some link) = refl

exchanged_same : (link : Option RelationState) (flow : Flow) → option_map link_of (updated (Exchanged flow) link) ≡ option_map link_of link
exchanged_same None flow = refl
exchanged_same (Some link) flow = refl

given_keeps : (slot subslot : ℕ) (value : List ℕ) (link : Option RelationState) (flow : Flow) → given_to slot subslot value link ≡ Some flow → IsKept link (updated (Exchanged flow) link)
given_keeps slot subslot value None flow e = absurd cc
given_keeps slot subslot value (Some link) flow e = by_size (has_size (length value) (cell_at at_data slot subslot link.flow.cyclic.shown.cells)) e
  where
    given_orderly : (shown : Image) (b : Bool) → IsOrderly link
        → IsOrderly (with_flow (cond b (remarked (with_cyclic link.flow (record link.flow.cyclic { shown = shown })) slot subslot None) (with_cyclic link.flow (record link.flow.cyclic { shown = shown }))) link)
    given_orderly shown true orderly = orderly
    given_orderly shown false orderly = orderly

    given_same : (shown : Image) (b : Bool) → awaits slot subslot link.flow.marks ≡ b
        → standing_of (with_flow (with_input link.flow slot subslot (record link.flow.cyclic { shown = shown })) link) ≡ standing_of link
    given_same shown true is = rw is refl
    given_same shown false is = rw is refl

    by_size : (b : Bool)
        → option_map (with_input link.flow slot subslot) (cond b (Some (record link.flow.cyclic { shown = changed at_data slot subslot (with_value value) link.flow.cyclic.shown })) None) ≡ Some flow
        → IsKept (Some link) (Some (with_flow flow link))
    by_size true f = (
      inl (
          ap (λ (other : Flow). Some (standing_of (with_flow other link))) (sym (some_is _ flow f))
          ∙ ap (λ (s : Standing). Some s) (given_same _ (awaits slot subslot link.flow.marks) refl)
          ),
      inl refl,
      λ orderly. subst (λ (other : Flow). IsOrderly (with_flow other link)) (some_is _ flow f) (given_orderly _ (awaits slot subslot link.flow.marks) orderly),
    )
    by_size false f = absurd cc

-- a status of inputs changes nothing of these
rated_keeps : (slot subslot : ℕ) (is_good : Bool) (link : Option RelationState) → IsKept link (updated (rating slot subslot is_good link) link)
rated_keeps slot subslot is_good None = (inl refl, inl refl, λ orderly. orderly)
rated_keeps slot subslot is_good (Some link) = (inl refl, inl refl, λ orderly. orderly)

-- nor does it matter whether the application runs
turned_keeps : (is_running : Bool) (link : Option RelationState) → IsKept link (updated (turning is_running link) link)
turned_keeps is_running None = (inl refl, inl refl, λ orderly. orderly)
turned_keeps is_running (Some link) = (inl refl, inl refl, λ orderly. orderly)

-- a relation that waits for its application, which is ready now
abbrev readied : RelationState → RelationState
readied link = record link { phase = Awaiting; waited = 0 }

preparing_is : (phase : Phase) → is_preparing (Some phase) ≡ true → phase ≡ Preparing
preparing_is Started e = absurd cc
preparing_is Preparing e = refl
preparing_is Awaiting e = absurd cc
preparing_is Exchanging e = absurd cc

raise_is : (real : List RealModule) (slot subslot : ℕ) (octets : List ℕ) (link : Option RelationState) (flow : Flow) → raised_to real slot subslot octets link ≡ Some flow
    → Raises real link (alarm_heard slot subslot octets) (updated (Exchanged flow) link) (alarms_of (flow_of (updated (Exchanged flow) link)))
raise_is real slot subslot octets None flow e = absurd cc
raise_is real slot subslot octets (Some link) flow e =
    record { slot = slot; subslot = subslot; octets = octets; is = refl; link = link; was = refl; flow = flow; raised = e; becomes = refl; sends = refl }

-- a frame that is accepted leaves the order of a relation
frame_orderly : (link : RelationState) (source : Mac) (frame_id : ℕ) (body : List ℕ) → IsOrderly link → IsOrderly (with_flow (behind_frame link.flow source frame_id body) link)
frame_orderly link source frame_id body orderly = (
  subst (λ (b : Bool). IsEarly (is_exchanging link.phase) b (is_some link.flow.low.alarms.sender.sending.last) link.plugs.has_told)
      (sym (begun_behind (is_of_partner link.flow.cyclic.route source frame_id) (cyclic_of link.flow.cyclic.taken.data_length body))) orderly.0,
  orderly.1,
)
  where
    by_new : (b : Bool) (x : List ℕ × CyclicTail) → (cond b (taken_from link.flow.cyclic x.0 x.1) link.flow.cyclic).begun ≡ link.flow.cyclic.begun
    by_new true x = refl
    by_new false x = refl

    by_read : (read : Result (List ℕ × CyclicTail) ShortFrame) → (behind_read link.flow.cyclic read).begun ≡ link.flow.cyclic.begun
    by_read (Ok x) = by_new (is_new link.flow.cyclic x.1) x
    by_read (Err short) = refl

    begun_behind : (b : Bool) (read : Result (List ℕ × CyclicTail) ShortFrame) → (cond b (behind_read link.flow.cyclic read) link.flow.cyclic).begun ≡ link.flow.cyclic.begun
    begun_behind true read = by_read read
    begun_behind false read = refl

-- an alarm that is raised leaves the order of a relation
raise_orderly : (real : List RealModule) (slot subslot : ℕ) (octets : List ℕ) (link : Option RelationState) (flow : Flow) → raised_to real slot subslot octets link ≡ Some flow
    → IsOrderlyIn link → IsOrderlyIn (updated (Exchanged flow) link)
raise_orderly real slot subslot octets None flow e orderly = tt
raise_orderly real slot subslot octets (Some link) flow e orderly = by_idents (module_ident real slot) (submodule_ident real slot subslot) e
  where
    by_may : (ident part : ℕ) (b : Bool)
        → cond b (Some (record link.flow { alarms = end_with link.flow.alarms (notice_of link.flow.alarms.sender.specifier slot subslot ident part octets) })) None ≡ Some flow
        → IsOrderly (with_flow flow link)
    by_may ident part true f = subst (λ (other : Flow). IsOrderly (with_flow other link)) (some_is _ flow f) orderly
    by_may ident part false f = absurd cc

    by_idents : (ident part : Option ℕ) → raised_by link.flow slot subslot octets ident part ≡ Some flow → IsOrderly (with_flow flow link)
    by_idents None part f = absurd cc
    by_idents (Some ident) None f = absurd cc
    by_idents (Some ident) (Some part) f = by_may ident part (may_raise link.flow octets) f

raise_as : (station : Station) (live : Live) (slot subslot : ℕ) (octets : List ℕ) (flow : Option Flow) (answers : List BlockError)
    → raised_to live.rest.real.modules.items slot subslot octets live.rest.link ≡ flow
    → IsRaise live.rest.real.modules.items live.rest.link slot subslot octets (finished station.identity live.rest (handled_notice live flow) answers).rest.link
    (finished station.identity live.rest (handled_notice live flow) answers).sent
raise_as station live slot subslot octets (Some flow) answers raised = inl (raise_is live.rest.real.modules.items slot subslot octets live.rest.link flow raised)
raise_as station live slot subslot octets None answers raised = inr (record { unraised = raised; same = refl; silent = refl })

-- ---- calls of a relation

err_ok : {A B : Type 0} (why : B) (value : A) → ◌≡◌ {A = Result A B} (Err why) (Ok value) → ⊥
err_ok why value e = absurd cc

same_ok : {A B : Type 0} (x y : A) → ◌≡◌ {A = Result A B} (Ok x) (Ok y) → x ≡ y
same_ok x y e = cc

-- a PrmEnd is accepted for a relation that waits for it
abbrev IsStarted : Option RelationState → Type 0
IsStarted None = ⊥
IsStarted (Some link) = link.phase ≡ Started

started_is : (link : Option RelationState) → is_started (phase_of link) ≡ true → IsStarted link
started_is None e = absurd cc
started_is (Some link) e = by_phase link.phase e
  where
    by_phase : (phase : Phase) → is_started (Some phase) ≡ true → phase ≡ Started
    by_phase Started f = refl
    by_phase Preparing f = absurd cc
    by_phase Awaiting f = absurd cc
    by_phase Exchanging f = absurd cc

started_by : (link : Option RelationState) (nothing : Unit {0}) (b : Bool) → is_started (phase_of link) ≡ b
    → ◌≡◌ {A = Result (Unit {0}) CallFault} (cond (not b) (Err fault.Phase) (Ok nothing)) (Ok nothing) → is_started (phase_of link) ≡ true
started_by link nothing true f g = f
started_by link nothing false f g = absurd cc

prm_started : (link : Option RelationState) (blocks : List ℕ) (block : ControlBlock) → prm_end_of link blocks ≡ Ok block → IsStarted link
unfolding prm_end_of
prm_started link blocks block e =
    let first = bind_ok (control_block kind.PrmEnd blocks) (λ b. named_of link b 1 >>= λ _. in_started link >>= λ _. Ok b) block e in
    let second = bind_ok (named_of link first.0 1) (λ _. in_started link >>= λ _. Ok first.0) block first.2 in
    let third = bind_ok (in_started link) (λ _. Ok first.0) block second.2 in
    started_is link (started_by link third.0 (is_started (phase_of link)) refl third.1)

-- a Connect is accepted if there is no relation
never_pieces : (uuid : List ℕ) (pieces : List Piece) (request : Request) → request_in (Some uuid) pieces ≡ Ok request → ⊥
unfolding request_in
never_pieces uuid [] request e = absurd cc
never_pieces uuid (piece ∷ pieces) request e = by_first (ar_in piece) e
  where
    by_first : (first : Result Ar CallFault) → (first >>= λ ar. admitted (Some uuid) ar >>= λ _. request_behind ar pieces) ≡ Ok request → ⊥
    by_first (Ok ar) f = absurd cc
    by_first (Err why) f = absurd cc

never_connected : (uuid blocks : List ℕ) (request : Request) → request_of (Some uuid) blocks ≡ Ok request → ⊥
unfolding request_of
never_connected uuid blocks request e = never_pieces uuid (pieces_of blocks) request e

never_err : (octets : List ℕ) (why : CallFault) → ◌≡◌ {A = Result (List ℕ) CallFault} (Ok octets) (Err why) → ⊥
never_err octets why e = absurd cc

-- a Release is accepted for a relation that exists
never_released : (blocks : List ℕ) (block : ControlBlock) → release_of None blocks ≡ Ok block → ⊥
unfolding release_of
never_released blocks block e =
    let first = bind_ok (control_block kind.Release blocks) (λ b. named_of None b 4 >>= λ _. Ok b) block e in
    err_ok _ block first.2

-- a record that is stored is one more
pub kept_is : (value : TakenRecord) (records taken : List TakenRecord) → keep_of value records ≡ Ok taken → taken ≡ records ++ value ∷ []
unfolding keep_of
kept_is value records taken e = by_room (nat_lt (length records) 64) e
  where
    by_room : (b : Bool) → cond b (Ok (records ++ value ∷ [])) (Err fault.TooManyRecords) ≡ Ok taken → taken ≡ records ++ value ∷ []
    by_room true f = sym (same_ok (records ++ value ∷ []) taken f)
    by_room false f = absurd cc

-- a record of a relation is one more, or data is exchanged and it is passed on
pub keeping_is : (value : TakenRecord) (link : RelationState) (more : Records) → keeping value (Some link) ≡ Ok more
    → ((passes_on link ≡ false) × (more.taken ≡ link.taken ++ value ∷ [])) ⊎ ((passes_on link ≡ true) × (more.taken ≡ link.taken))
keeping_is value link more e = by_option (passes_on link) refl e
  where
    by_room : (kept : Result (List TakenRecord) CallFault) → keep_of value link.taken ≡ kept → kept_in link.passed kept ≡ Ok more → more.taken ≡ link.taken ++ value ∷ []
    by_room (Ok taken) is f =
        let same = same_ok (record { taken = taken; passed = link.passed }) more f in
        ap (λ (r : Records). r.taken) (sym same) ∙ kept_is value link.taken taken is
    by_room (Err why) is f = absurd cc

    by_option : (b : Bool) → passes_on link ≡ b
        → cond b (Ok (record { taken = link.taken; passed = passed_more value link.passed })) (kept_in link.passed (keep_of value link.taken)) ≡ Ok more
        → ((passes_on link ≡ false) × (more.taken ≡ link.taken ++ value ∷ [])) ⊎ ((passes_on link ≡ true) × (more.taken ≡ link.taken))
    by_option true is f = inr (is, ap (λ (r : Records). r.taken) (sym (same_ok (record { taken = link.taken; passed = passed_more value link.passed }) more f)))
    by_option false is f = inl (is, by_room (keep_of value link.taken) refl f)

-- ---- several records of one Write

-- the relation with these records after its others, and with these passed on
abbrev pub holding : List TakenRecord → PassedOn → RelationState → RelationState
holding taken passed link = with_records (record { taken = taken; passed = passed }) link

-- the relation has these records after its others
abbrev Takes : List Judged → Option RelationState → RelationState → Type 0
Takes judged after link = (values : List TakenRecord) × (passed : PassedOn) × (link_behind judged after ≡ Some (holding (link.taken ++ values) passed link))

-- the records that were accepted after one, or after none
one_takes : (others : List Judged) (link : RelationState) → ((next : RelationState) → Takes others (Some next) next) → (one : Result Write Status)
    → Takes others (one_link one (Some link)) link
one_takes others link later (Err why) = later link
one_takes others link later (Ok write) = by_effect write.effect
  where
    by_kind : (value : TakenRecord) (more : Records)
        → ((passes_on link ≡ false) × (more.taken ≡ link.taken ++ value ∷ [])) ⊎ ((passes_on link ≡ true) × (more.taken ≡ link.taken))
        → Takes others (Some (with_records more link)) link
    by_kind value more (inl kept) =
        let there = later (with_records more link) in
        let all : more.taken ++ there.0 ≡ link.taken ++ (value ∷ there.0) =
        ap (λ (records : List TakenRecord). records ++ there.0) kept.1 ∙ append_assoc link.taken (value ∷ []) there.0 in
        (value ∷ there.0, there.1, there.2 ∙ ap (λ (records : List TakenRecord). Some (holding records there.1 link)) all)
    by_kind value more (inr passed) =
        let there = later (with_records more link) in
        (there.0, there.1, there.2 ∙ ap (λ (records : List TakenRecord). Some (holding (records ++ there.0) there.1 link)) passed.1)

    by_keeping : (value : TakenRecord) (kept : Result Records CallFault) → keeping value (Some link) ≡ kept → Takes others (updated (taking kept) (Some link)) link
    by_keeping value (Err why) is = later link
    by_keeping value (Ok more) is = by_kind value more (keeping_is value link more is)

    by_effect : (effect : Effect) → Takes others (effect_link effect (Some link)) link
    by_effect (Stores value) = later link
    by_effect (Keeps value) = by_keeping value (keeping value (Some link)) refl

link_takes : (judged : List Judged) (link : RelationState) → Takes judged (Some link) link
link_takes [] link = ([], link.passed, ap (λ (taken : List TakenRecord). Some (holding taken link.passed link)) (sym (append-nil link.taken)))
link_takes (one ∷ others) link = one_takes others link (link_takes others) one.1

one_none : (one : Result Write Status) → one_link one None ≡ None
one_none (Err why) = refl
one_none (Ok write) = by_effect write.effect
  where
    by_effect : (effect : Effect) → effect_link effect None ≡ None
    by_effect (Stores value) = refl
    by_effect (Keeps value) = refl

link_none : (judged : List Judged) → link_behind judged None ≡ None
link_none [] = refl
link_none (one ∷ others) = ap (link_behind others) (one_none one.1) ∙ link_none others

each_takes : (source : Partner) (judged : List Judged) (link : Option RelationState)
    → (values : List TakenRecord) × (passed : PassedOn) × (updated (Named source) (link_behind judged link) ≡ option_map (with_more source passed values) link)
each_takes source judged None = ([], none_passed, ap (updated (Named source)) (link_none judged))
each_takes source judged (Some link) =
    let takes = link_takes judged link in
    (takes.0, takes.1, ap (updated (Named source)) takes.2)

again_is : (sequence : ℕ) (kept : Option Answer) (frame : List ℕ) → reported_by sequence kept ≡ again frame
    → (answer : Answer) × (kept ≡ Some answer) × (answer.sequence ≡ sequence) × (answer.frame ≡ frame)
again_is sequence None frame e = absurd cc
again_is sequence (Some kept) frame e = by_same (sequence == kept.sequence) refl e
  where
    same_frame : (x y : List ℕ) → again x ≡ again y → x ≡ y
    same_frame x y h = cc

    by_order : (b : Bool) → cond b old new ≡ again frame → ⊥
    by_order true h = absurd cc
    by_order false h = absurd cc

    by_same : (b : Bool) → (sequence == kept.sequence) ≡ b → cond b (again kept.frame) (cond (nat_lt sequence kept.sequence) old new) ≡ again frame
        → (answer : Answer) × (Some kept ≡ Some answer) × (answer.sequence ≡ sequence) × (answer.frame ≡ frame)
    by_same true f g = (kept, refl, sym (eqb-true sequence kept.sequence f), same_frame kept.frame frame g)
    by_same false f g = absurd (by_order (nat_lt sequence kept.sequence) g)

-- ---- the response to ApplicationReady

and_true : (a b : Bool) → (a && b) ≡ true → (a ≡ true) × (b ≡ true)
and_true true b e = (refl, e)
and_true false b e = absurd cc

awaiting_is : (phase : Phase) → is_awaiting phase ≡ true → phase ≡ Awaiting
awaiting_is Started e = absurd cc
awaiting_is Preparing e = absurd cc
awaiting_is Awaiting e = refl
awaiting_is Exchanging e = absurd cc

-- what a response means: it confirms a relation that waits for it, or it is not positive
abbrev IsMeaning : Response → Option RelationState → ReadyAnswer → Type 0
IsMeaning response link to_ready.NotWanted = Unit {0}
IsMeaning response link to_ready.Garbled = Unit {0}
IsMeaning response link to_ready.Confirmed = (l : RelationState) × (link ≡ Some l) × (l.phase ≡ Awaiting) × (confirms response ≡ true)
IsMeaning response link (to_ready.Refused farewell) = (l : RelationState) × (link ≡ Some l) × (farewell ≡ farewell_of Other l) × (confirms response ≡ false)

abbrev block_in : Response → Option ControlBlock
block_in response = confirmed_block (read_block response.blocks)

abbrev is_numbered : Response → Bool
is_numbered response = response.header.sequence == 0 && response.header.operation == 4

meaning : (response : Response) (link : Option RelationState) → IsMeaning response link (ready_answer response link)
unfolding ready_answer
meaning response None = tt
meaning response (Some link) = by_tests (is_wanted response link) (is_done response.status) refl refl
  where
    unconfirmed : (a b done : Bool) → done ≡ false → (a && (done && b)) ≡ false
    unconfirmed true b done e = rw e refl
    unconfirmed false b done e = refl

    by_name : (found : ControlBlock) (b : Bool) → block_in response ≡ Some found → pointwise nat_eq found.ar_uuid link.request.ar.uuid ≡ b → is_wanted response link ≡ true → is_done response.status ≡ true
        → IsMeaning response (Some link) (cond b to_ready.Confirmed to_ready.NotWanted)
    by_name found false there named wanted done = tt
    by_name found true there named wanted done =
        let parts = and_true (is_awaiting link.phase) (is_answer_to link.request.ar.uuid response.header) wanted in
        let own = and_true (pointwise nat_eq response.header.activity link.request.ar.uuid) (is_numbered response) parts.1 in
        let same = same_text response.header.activity link.request.ar.uuid (sym own.0) in
        (link, refl, awaiting_is link.phase parts.0, rw (own.1, done, there, same, named) refl)

    by_block : (found : Option ControlBlock) → block_in response ≡ found → is_wanted response link ≡ true → is_done response.status ≡ true → IsMeaning response (Some link) (confirmed_by link.request.ar.uuid found)
    by_block None there wanted done = tt
    by_block (Some found) there wanted done = by_name found (pointwise nat_eq found.ar_uuid link.request.ar.uuid) there refl wanted done

    by_tests : (wanted done : Bool) → is_wanted response link ≡ wanted → is_done response.status ≡ done
        → IsMeaning response (Some link) (cond wanted (cond done (confirmed_by link.request.ar.uuid (block_in response)) (to_ready.Refused (farewell_of Other link))) to_ready.NotWanted)
    by_tests false done wanted e = tt
    by_tests true false wanted done = (link, refl, refl, unconfirmed (is_numbered response) (names_own response.header.activity (block_in response)) (is_done response.status) done)
    by_tests true true wanted done = by_block (block_in response) refl wanted done

-- ---- turns

module _ (rules : Rules TakenRecord Request) (activity : List ℕ) (station : Station) (live : Live) where
  abbrev before : Option RelationState
  before = live.rest.link

  abbrev from : List ℕ
  from = live.values.running.suite.address

  -- whether the response to a call that was asked is stored
  abbrev is_stored : Question → Bool
  is_stored question = is_kept station.options (operation_asked question.request)

  -- the modules that are plugged
  abbrev real : List RealModule
  real = live.rest.real.modules.items

  abbrev AreOthers : Option RelationState → List Sent → Type 0
  AreOthers after sent = AllByRecursion (IsOther live after) sent

  -- what was judged is completed, whatever the results of its items are
  abbrev Comes_to : Heard → Handled → Type 0
  Comes_to heard what = (answers : List BlockError)
      → Turn station live heard (finished station.identity live.rest what answers).rest (finished station.identity live.rest what answers).sent

  frames_other : (after : Option RelationState) (route : Route) (frame : Option Frame) → AreOthers after (frames_in route frame)
  frames_other after route (Some frame) = (tt, tt)
  frames_other after route None = tt

  alarms_other : (after : Option RelationState) (flow : Option Flow) → AreOthers after (alarms_of flow)
  alarms_other after None = tt
  alarms_other after (Some flow) = frames_other after flow.cyclic.route (alarm_frame flow)

  farewells_other : (after : Option RelationState) (b : Bool) (link : Option RelationState) → AreOthers after (farewells_at b link)
  farewells_other after true (Some link) = (tt, tt)
  farewells_other after true None = tt
  farewells_other after false link = tt

  -- ApplicationReady again, while its response is awaited
  again_other : (link : RelationState) (b : Bool) → before ≡ Some link → is_again link ≡ b → AreOthers (Some (unit_later link)) (where_due b (ready_calls from (Some (unit_later link))))
  again_other link true was is = (
    (
      record { link = link; is = was; header = refl; block = refl },
      record { link = unit_later link; is = refl; awaits = awaiting_is link.phase (and_true (is_awaiting link.phase) (link.waited + 1 == 32000) is).0 },
    ),
    tt,
  )
  again_other link false was is = tt

  -- the calls of plugs of this relation
  plugs_other : (after : Option RelationState) (past next : RelationState) → before ≡ Some past → next.request ≡ past.request → (AreNumbered past.plugs.calls → AreNumbered next.plugs.calls)
      → AreOthers after (plug_calls from (Some next))
  plugs_other after past next was same numbered = by_standing next.plugs.calls.standing (λ calls. (numbered calls).1)
    where
      by_standing : (standing : Option PlugCall) → (AreNumbered past.plugs.calls → IsNumberedCall standing) → AreOthers after (plug_call_in from (option_map (ready_for next) standing))
      by_standing None numbered = tt
      by_standing (Some call) numbered = (plug_of_relation before past next call was same numbered, tt)

  -- that of the next plug
  next_other : (after past next : Option RelationState) → before ≡ past → AreBeside past next → AreOthers after (next_call_sent from next)
  next_other after None None was beside = tt
  next_other after None (Some next) was beside = absurd beside
  next_other after (Some past) None was beside = absurd beside
  next_other after (Some past) (Some next) was beside =
      let called : RelationState = record next { plugs = next_called next.plugs } in
      due_each (IsOther live after) (is_next_called next.plugs) (plug_calls from (Some called))
      (plugs_other after past called was beside.request
      (λ numbered. numbered_next next.plugs.calls (beside.numbered numbered)))

  next_calm : (next : Option RelationState) → AreCalm before (next_call_sent from next)
  next_calm next = due_each (IsCalm before) (is_calling next) (plug_calls from (calling_next next)) (called_calm before from (calling_next next))

  module _ (heard : Heard) where
    other_owed : (after : Option RelationState) (sent : List Sent) → AreOthers after sent → AllByRecursion (IsOwed heard live) sent
    other_owed after [] others = tt
    other_owed after (CallAnswer caller address answer ∷ sent) others = absurd others.0
    other_owed after (Again frame ∷ sent) others = absurd others.0
    other_owed after (ReadyCall address ready ∷ sent) others = (others.0.0, other_owed after sent others.1)
    other_owed after (PlugReadyCall address ready ∷ sent) others = (others.0, other_owed after sent others.1)
    other_owed after (message ∷ sent) others = (tt, other_owed after sent others.1)

    -- something that is no call
    goes : (after : Rest) (sent : List Sent) → after.diagnoses ≡ live.rest.diagnoses → after.real ≡ live.rest.real
        → IsTurn real after.real.modules.items live.rest.calls live.rest.diagnoses after.diagnoses before heard after.link sent
        → (IsOrderlyIn before → IsOrderlyIn after.link) → (IsAskedOf before live.rest.asked → IsAskedOf after.link after.asked)
        → GoesBy live heard after sent → Turn station live heard after sent
    goes after sent same plugged is orderly related by = record {
      does = inr (inl by);
      is = is;
      diagnoses = inl same;
      modules = inl plugged;
      answers = inl by.calls;
      orderly = orderly;
      owed = other_owed after.link sent by.others;
      asked = still_later heard live.rest.asked after.asked by.asked;
      related = related;
    }

    -- what is asked is asked by the same relation
    alike : (after : Option RelationState) → uuid_of after ≡ uuid_of before → IsAskedOf before live.rest.asked → IsAskedOf after live.rest.asked
    alike after same = still_related before after live.rest.asked live.rest.asked same (inl refl)

    nothing_asked : (what : List Sent) → what ≡ [] → Turn station live heard live.rest what
    nothing_asked what is = record {
      does = inl (record { same = refl; silent = is });
      is = inl (record { link = inl refl; calm = subst (λ (s : List Sent). AreCalm before s) (sym is) tt });
      diagnoses = inl refl;
      modules = inl refl;
      answers = inl refl;
      orderly = λ orderly. orderly;
      owed = subst (λ (s : List Sent). AllByRecursion (IsOwed heard live) s) (sym is) tt;
      asked = still_later heard live.rest.asked live.rest.asked (inl refl);
      related = λ related. related;
    }

    refuses : (why : Note) → Comes_to heard (Refuses why)
    refuses why answers = nothing_asked [] refl

    -- a call that is asked already is dropped
    drops : Comes_to heard (Moves live.rest [])
    drops answers = nothing_asked [] refl

    -- The call that is asked is answered, after these messages: the rest without what is stored is this, and nothing is asked any more.
    module _ (idle : (planned : Planned) → heard_as planned heard ≡ small.Idle) (question : Question) (asked : question_in live.rest.asked ≡ Some question)
        (status : Status) (blocks : List ℕ) (link : Option RelationState) (after : AskedState) (lamp units : ℕ) (log : List LogEntry) (first : List Sent) where
      abbrev reply : Sent
      reply = reply_to from question status blocks

      abbrev rest_with : List Answer → Rest
      rest_with calls = record live.rest { lamp = lamp; calls = calls; link = link; units = units; log = log; asked = after }

      abbrev IsTurnWith : List Sent → Type 0
      IsTurnWith sent = IsTurn real real live.rest.calls live.rest.diagnoses live.rest.diagnoses before heard link sent

      uncalled_idle : (planned : Planned) → IsUncalled (heard_as planned heard)
      uncalled_idle planned = subst (λ (h : small.ToDevice). IsUncalled h) (sym (idle planned)) tt

      replies : question_in after ≡ None → IsKeptOr before link → AreOthers link first → ((more : List Sent) → AreCalm before more → IsTurnWith (first ++ more))
          → (IsOrderlyIn before → IsOrderlyIn link)
          → Turn station live heard (rest_with (later_calls (is_stored question) station.identity from question reply live.rest.calls))
          (first ++ later_replies (is_stored question) from question reply live.rest.calls)
      replies settled kept others is orderly = by_address (is_zero from)
        where
          related : IsAskedOf before live.rest.asked → IsAskedOf link after
          related was = nothing_related link after settled

          -- a later call of its activity was answered meanwhile
          passes : Turn station live heard (rest_with live.rest.calls) (first ++ [])
          passes = goes (rest_with live.rest.calls) (first ++ []) refl refl (is [] tt) orderly related (record {
            uncalled = uncalled_idle;
            calls = refl;
            link = kept;
            others = each_behind (IsOther live link) first [] others tt;
            asked = inr settled;
          })

          by_looked : (reported : Looked) → looked question.header.activity question.header.sequence live.rest.calls ≡ reported
              → Turn station live heard (rest_with (behind_reported 4 (kept_reply station.identity question reply) live.rest.calls reported))
              (first ++ where_due (is_new_call reported) (reply ∷ []))
          by_looked new fresh = record {
            does = inr (inr (inr (inr (inr (inr (inr (inl (record {
              idle = idle;
              question = question;
              asked = asked;
              settled = settled;
              fresh = fresh;
              link = kept;
              status = status;
              blocks = blocks;
              keeps = refl;
              first = first;
              others = others;
              sends = refl;
            }))))))));
            is = is (reply ∷ []) (tt, tt);
            diagnoses = inl refl;
            modules = inl refl;
            answers = inr (record {
              call = call_of question;
              caller = question.caller;
              address = from;
              answer = answer_to (call_of question) status blocks;
              first = first;
              others = [];
              keeps = refl;
              sends = refl;
            });
            orderly = orderly;
            owed = each_behind (IsOwed heard live) first (reply ∷ []) (other_owed link first others)
                (inr (record { question = question; is = asked; own = refl; header = refl; maximum = refl }), tt);
            asked = still_later heard live.rest.asked after (inr settled);
            related = related;
          }
          by_looked (again frame) fresh = passes
          by_looked old fresh = passes

          -- the response to a Read Implicit is not stored
          tells_it : is_stored question ≡ false → Turn station live heard (rest_with live.rest.calls) (first ++ reply ∷ [])
          tells_it unstored =
              let there = unstored_is station.options question.request unstored in
              record {
                does = inr (inr (inr (inr (inr (inr (inr (inr (record {
                  question = question;
                  asked = asked;
                  implicit = there.0;
                  does = inl (
                    there.1,
                    record {
                      idle = idle;
                      question = question;
                      asked = asked;
                      settled = settled;
                      fresh = refl;
                      link = kept;
                      status = status;
                      blocks = blocks;
                      keeps = refl;
                      first = first;
                      others = others;
                      sends = refl;
                    },
                  );
                }))))))));
                is = is (reply ∷ []) (tt, tt);
                diagnoses = inl refl;
                modules = inl refl;
                answers = inl refl;
                orderly = orderly;
                owed = each_behind (IsOwed heard live) first (reply ∷ []) (other_owed link first others)
                    (inr (record { question = question; is = asked; own = refl; header = refl; maximum = refl }), tt);
                asked = still_later heard live.rest.asked after (inr settled);
                related = related;
              }

          by_stored : (stored : Bool) → is_stored question ≡ stored
              → Turn station live heard (rest_with (calls_after stored station.identity question reply live.rest.calls))
              (first ++ question_replies stored question reply live.rest.calls)
          by_stored true is_so = by_looked (looked question.header.activity question.header.sequence live.rest.calls) refl
          by_stored false is_so = tells_it is_so

          -- it is dropped if the device has no IP address any more
          by_address : (zero : Bool)
              → Turn station live heard (rest_with (cond zero live.rest.calls (calls_after (is_stored question) station.identity question reply live.rest.calls)))
              (first ++ cond zero [] (question_replies (is_stored question) question reply live.rest.calls))
          by_address true = passes
          by_address false = by_stored (is_stored question) refl

    module _ (idle : (planned : Planned) → IsUncalled (heard_as planned heard)) where
      stays : (after : Rest) (sent : List Sent) → after.calls ≡ live.rest.calls → after.diagnoses ≡ live.rest.diagnoses → after.real ≡ live.rest.real
          → IsKept before after.link → AreCalm before sent → AreOthers after.link sent
          → IsStill live.rest.asked after.asked → (IsAskedOf before live.rest.asked → IsAskedOf after.link after.asked) → Turn station live heard after sent
      stays after sent calls same plugged kept calm others still related =
          goes after sent same plugged (inl (record { link = kept.0; calm = calm })) kept.2 related
          (record { uncalled = idle; calls = calls; link = kept.1; others = others; asked = still })

      tells : (message : Sent) → IsCalm before message → IsOther live before message → Comes_to heard (Moves live.rest (message ∷ []))
      tells message calm other answers = stays live.rest (message ∷ []) refl refl refl (inl refl, inl refl, λ orderly. orderly) (calm, tt) (other, tt)
          (inl refl) (λ related. related)

      -- the relation became this
      becomes_as : (link : Option RelationState) (sent : List Sent) → IsTurn real real live.rest.calls live.rest.diagnoses live.rest.diagnoses before heard link sent
          → (IsOrderlyIn before → IsOrderlyIn link) → IsKeptOr before link → uuid_of link ≡ uuid_of before → AreOthers link sent
          → Comes_to heard (Moves (record live.rest { link = link }) sent)
      becomes_as link sent is orderly kept same others answers =
          goes (record live.rest { link = link }) sent refl refl is orderly (alike link same)
          (record { uncalled = idle; calls = refl; link = kept; others = others; asked = inl refl })

      becomes : (link : Option RelationState) (sent : List Sent) → IsTurn real real live.rest.calls live.rest.diagnoses live.rest.diagnoses before heard link sent
          → (IsOrderlyIn before → IsOrderlyIn link) → option_map link_of link ≡ option_map link_of before → AreOthers link sent
          → Comes_to heard (Moves (record live.rest { link = link }) sent)
      becomes link sent is orderly same others answers = becomes_as link sent is orderly (inl same) (same_uuid before link same) others answers

      -- the relation with this ARUUID ended
      ends : (log : List LogEntry) (uuid : Option (List ℕ)) → uuid ≡ uuid_of before → (sent : List Sent) → AreCalm before sent → AreOthers None sent
          → Comes_to heard (Moves (record live.rest { link = None; log = log; asked = left_asked uuid live.rest.asked }) sent)
      ends log uuid is sent calm others answers =
          stays (record live.rest { link = None; log = log; asked = left_asked uuid live.rest.asked }) sent refl refl refl
          (inr refl, inr (inl refl), λ orderly. tt) calm others
          (left_still uuid live.rest.asked)
          (λ related. nothing_related None (left_asked uuid live.rest.asked)
          (ap (λ (u : Option (List ℕ)). question_in (left_asked u live.rest.asked)) is ∙ left_none before live.rest.asked related))

      -- the next call of a plug may become active
      calls_next : (link : Option RelationState) → AreBeside before link → Comes_to heard (handled_next_call live link)
      calls_next link beside answers =
          let kept = beside_kept before (calling_next link) (next_beside before link beside) in
          stays (record live.rest { link = calling_next link }) (next_call_sent from link) refl refl refl kept (next_calm link)
          (next_other (calling_next link) before link refl beside) (inl refl) (alike (calling_next link) (beside_uuid before link beside))

  -- ---- DCP and ARP

  sets : (asker : Mac) (request asked : Asked) (in_operation : Bool) → Comes_to (Asks asker asked) (Sets asker request in_operation)
  sets asker request asked in_operation answers =
      let end = finished station.identity live.rest (Sets asker request in_operation) answers in
      let reset = resets (plan_of in_operation request) answers in
      let answer = SetAnswer asker request answers ∷ [] in
      stays (Asks asker asked) (λ planned. tt) end.rest end.sent refl refl refl (reset_keeps reset before)
      (each_behind (IsCalm before) (farewells_at reset before) answer (farewells_calm reset before) (tt, tt))
      (each_behind (IsOther live end.rest.link) (farewells_at reset before) answer (farewells_other end.rest.link reset before) (tt, tt))
      (left_still (ended_uuid (farewell_at reset before)) live.rest.asked) (reset_related reset)
    where
      reset_related : (b : Bool) → IsAskedOf before live.rest.asked
          → IsAskedOf (link_after b before) (left_asked (ended_uuid (farewell_at b before)) live.rest.asked)
      reset_related true related = nothing_related None (left_asked (ended_uuid (farewell_at true before)) live.rest.asked)
          (ap (λ (u : Option (List ℕ)). question_in (left_asked u live.rest.asked)) (reset_uuid before) ∙ left_none before live.rest.asked related)
      reset_related false related = related

  identifies : (asker : Mac) (request : Asked) (b : Bool)
      → Comes_to (Asks asker request) (cond b (Moves live.rest (IdentifyAnswer asker live.values.running request.xid ∷ [])) (Refuses note.Filter))
  identifies asker request true = tells (Asks asker request) (λ planned. tt) (IdentifyAnswer asker live.values.running request.xid) tt tt
  identifies asker request false = refuses (Asks asker request) note.Filter

  requests : (asker : Mac) (which : Service) (request : Asked) → Comes_to (Asks asker request) (handled_request station live asker which request)
  requests asker service.Identify request = identifies asker request (matches station.identity live.values.running (alias_in live.rest.peer) request)
  requests asker service.Get request = tells (Asks asker request) (λ planned. tt) (GetAnswer asker live.values.running (alias_in live.rest.peer) request) tt tt
  requests asker service.Set request = sets asker request request (is_some before)

  resolves : (asker : Mac) (packet : Arp) (b : Bool) → Comes_to (Resolves asker packet) (cond b (Moves live.rest (ArpReply asker from packet.sender ∷ [])) (Refuses note.NotMine))
  resolves asker packet true = tells (Resolves asker packet) (λ planned. tt) (ArpReply asker from packet.sender) tt tt
  resolves asker packet false = refuses (Resolves asker packet) note.NotMine

  -- ---- what is exchanged

  -- the exchange of this relation became another
  flows : (link : RelationState) (flow : Flow) → before ≡ Some link → option_map link_of (Some (with_flow flow link)) ≡ option_map link_of before
  flows link flow was = sym (ap (λ (l : Option RelationState). option_map link_of l) was)

  receives : (source : Mac) (frame_id : ℕ) (body : List ℕ) (link : Option RelationState) → before ≡ link
      → Comes_to (Cyclic source frame_id body) (handled_received live (received_by source frame_id body link) (updated (receiving source frame_id body link) link))
  receives source frame_id body None was = refuses (Cyclic source frame_id body) note.NoRelation
  receives source frame_id body (Some link) was = by_fate (received_as link.flow source frame_id body) refl
    where
      by_fate : (came : Received) → received_as link.flow source frame_id body ≡ came
          → Comes_to (Cyclic source frame_id body) (handled_received live came (updated (receiving_as came (behind_frame link.flow source frame_id body)) (Some link)))
      by_fate received.Foreign e = refuses (Cyclic source frame_id body) note.NoRelation
      by_fate received.Short e = refuses (Cyclic source frame_id body) note.Fault
      by_fate received.Stale e = refuses (Cyclic source frame_id body) note.StaleCycle
      by_fate received.Taken e = becomes (Cyclic source frame_id body) (λ planned. tt) (Some (with_flow (behind_frame link.flow source frame_id body) link)) []
          (inr (inr (inr (inr (inr (inr (inl (record { source = source; frame_id = frame_id; body = body; is = refl; link = link; was = was; taken = e; becomes = refl; silent = refl }))))))))
          (λ orderly. frame_orderly link source frame_id body (subst (λ (l : Option RelationState). IsOrderlyIn l) was orderly))
          (flows link (behind_frame link.flow source frame_id body) was) tt

  gives : (slot subslot : ℕ) (value : List ℕ) (flow : Option Flow) → given_to slot subslot value before ≡ flow → Comes_to (input_heard slot subslot value) (handled_input live flow)
  gives slot subslot value (Some flow) is = λ answers.
      stays (input_heard slot subslot value) (λ planned. tt) (record live.rest { link = updated (Exchanged flow) before }) [] refl refl refl (given_keeps slot subslot value before flow is) tt tt
      (inl refl) (alike (input_heard slot subslot value) (updated (Exchanged flow) before) (exchanged_uuid before flow))
  gives slot subslot value None is = refuses (input_heard slot subslot value) note.Refused

  rates : (slot subslot : ℕ) (is_good : Bool) (statuses : Option (List InputStatus)) → Comes_to (Applied (local.Status slot subslot is_good)) (kept_status live slot subslot is_good statuses)
  rates slot subslot is_good (Some statuses) = λ answers.
      stays (Applied (local.Status slot subslot is_good)) (λ planned. tt) (record live.rest { link = updated (rating slot subslot is_good before) before; statuses = statuses }) [] refl refl refl (rated_keeps slot subslot is_good before) tt tt
      (inl refl) (alike (Applied (local.Status slot subslot is_good)) (updated (rating slot subslot is_good before) before)
      (rated_uuid slot subslot is_good before))
  rates slot subslot is_good None = refuses (Applied (local.Status slot subslot is_good)) note.Refused

  turns_so : (is_running : Bool) → Comes_to (Applied (local.ProviderState is_running)) (handled_turned live is_running)
  turns_so is_running = λ answers.
      stays (Applied (local.ProviderState is_running)) (λ planned. tt) (record live.rest { link = updated (turning is_running before) before; is_running = is_running }) [] refl refl refl (turned_keeps is_running before) tt tt
      (inl refl) (alike (Applied (local.ProviderState is_running)) (updated (turning is_running before) before) (turned_uuid is_running before))

  meets : (peer : Option Peer) → Comes_to (Met peer) (handled_met live peer)
  meets peer = λ answers. stays (Met peer) (λ planned. tt) (record live.rest { peer = peer }) [] refl refl refl (inl refl, inl refl, λ orderly. orderly) tt tt
      (inl refl) (λ related. related)

  -- ---- the application is ready

  readies : (link : Option RelationState) → before ≡ link
      → Comes_to (Applied local.Ready) (cond (is_preparing (phase_of link)) (goes_on_with live (updated Prepared link) (ready_calls from (updated Prepared link))) (Refuses note.Refused))
  readies None was = refuses (Applied local.Ready) note.Refused
  readies (Some link) was = by_test (is_preparing (Some link.phase)) refl
    where
      by_test : (b : Bool) → is_preparing (Some link.phase) ≡ b
          → Comes_to (Applied local.Ready) (cond b (goes_on_with live (Some (cond b (readied link) link)) (ready_calls from (Some (cond b (readied link) link)))) (Refuses note.Refused))
      by_test true is = becomes (Applied local.Ready) (λ planned. tt) (Some (readied link)) (ready_calls from (Some (readied link)))
          (inl (record {
            link = inl (ap (λ (b : Bool). let o : Option Standing = Some (record (standing_of link) { exchanges = b }) in o) (sym (ap is_exchanging (preparing_is link.phase is)))
                ∙ sym (ap (λ (l : Option RelationState). option_map standing_of l) was));
            calm = (tt, tt);
          }))
          (λ orderly.
          let own : IsOrderly link = subst (λ (l : Option RelationState). IsOrderlyIn l) was orderly in
          (λ e. own.0 (ap is_exchanging (preparing_is link.phase is)), own.1))
          (
          ap (λ (p : small.Phase). let o : Option (small.RelationState TakenRecord Request) = Some (record { phase = p; request = link.request; taken = link.taken }) in o)
          (sym (ap phase_in (preparing_is link.phase is)))
          ∙ sym (ap (λ (l : Option RelationState). option_map link_of l) was)
          )
          ((record { link = link; is = was; header = refl; block = refl }, record { link = readied link; is = refl; awaits = refl }), tt)
      by_test false is = refuses (Applied local.Ready) note.Refused

  -- ---- alarms

  raises : (slot subslot : ℕ) (octets : List ℕ) (flow : Option Flow) → raised_to real slot subslot octets before ≡ flow
      → Comes_to (alarm_heard slot subslot octets) (handled_notice live flow)
  raises slot subslot octets (Some flow) raised =
      let link = updated (Exchanged flow) before in
      becomes (alarm_heard slot subslot octets) (λ planned. tt) link (alarms_of (flow_of link)) (inr (inr (inl (raise_is real slot subslot octets before flow raised))))
      (raise_orderly real slot subslot octets before flow raised)
      (exchanged_same before flow) (alarms_other link (flow_of link))
  raises slot subslot octets None raised = refuses (alarm_heard slot subslot octets) note.Refused

  -- what is heard of high priority, in this way
  module _ (heard : Heard) (source : Mac) (header : Header) (idle : (planned : Planned) → IsUncalled (heard_as planned heard)) where
    acks : (number : ℕ) (link : RelationState) (b : Bool) → IsHigh heard source header (notice.Ack number) → before ≡ Some link
        → Comes_to heard (handled_pdu live (cond b fate.Done fate.Ignored) (updated (hearing_as (cond b fate.Done fate.Ignored) (behind_message link.flow (notice.Ack number))) (Some link)))
    acks number link true is was =
        let flow = behind_message link.flow (notice.Ack number) in
        becomes heard idle (Some (with_flow flow link)) []
        (inr (inr (inr (inl (record { source = source; header = header; number = number; is = is; link = link; was = was; becomes = refl; silent = refl }))))) (λ orderly. subst (λ (l : Option RelationState). IsOrderlyIn l) was orderly) (flows link flow was) tt
    acks number link false is was = refuses heard note.Filter

    pdus : (message : Message) (link : Option RelationState) → IsHigh heard source header message → before ≡ link
        → Comes_to heard (handled_pdu live (heard_by message link) (updated (hearing message link) link))
    pdus message None is was = refuses heard note.Filter
    pdus (notice.Data number ack) (Some link) is was =
        let flow = behind_message link.flow (notice.Data number ack) in
        becomes heard idle (Some (with_flow flow link)) (replies_of (taken_as link.flow.alarms.seen number) (Some flow))
        (inr (inr (inr (inr (inl (record { source = source; header = header; number = number; ack = ack; is = is; link = link; was = was; becomes = refl; sends = refl }))))))
        (λ orderly. subst (λ (l : Option RelationState). IsOrderlyIn l) was orderly) (flows link flow was) (tt, tt)
    pdus (notice.Ack number) (Some link) is was = acks number link (is_last link.flow.alarms.sender.sending.last number) is was
    pdus notice.Nack (Some link) is was = refuses heard note.Filter
    pdus (notice.Abort status) (Some link) is was = ends heard idle (end_log (uuid_of before) status live.rest.units live.rest.log)
        (uuid_of before) refl [] tt tt

    alarms : (message : Message) (b : Bool) → IsHigh heard source header message → Comes_to heard (cond b (handled_message live message) (Refuses note.NoRelation))
    alarms message true is = pdus message before is refl
    alarms message false is = refuses heard note.NoRelation

  -- ---- alarms of low priority

  low_other : (after : Option RelationState) (b : Bool) (flow : Flow) → AreOthers after (where_due b (low_alarms_of (Some flow)))
  low_other after b flow = due_each (IsOther live after) b (low_alarms_of (Some flow)) (frames_other after flow.cyclic.route (low_alarm_frame flow))

  lows_other : (after : Option RelationState) (b : Bool) (link : Option RelationState) → AreOthers after (where_due b (low_alarms_of (flow_of link)))
  lows_other after b None = due_each (IsOther live after) b [] tt
  lows_other after b (Some link) = low_other after b link.flow

  -- data is exchanged once an alarm of low priority was sent
  late_numbered : (link : RelationState) → before ≡ Some link → has_sent_low before ≡ true → IsOrderlyIn before → (is_exchanging link.phase ≡ true) × AreNumbered link.plugs.calls
  late_numbered link was has orderly =
      let own : IsOrderly link = subst (λ (l : Option RelationState). IsOrderlyIn l) was orderly in
      let sent : has_sent_low (Some link) ≡ true = subst (λ (l : Option RelationState). has_sent_low l ≡ true) was has in
      (exchanges_sent link own sent, own.1)

  module _ (heard : Heard) (source : Mac) (header : Header) (idle : (planned : Planned) → IsUncalled (heard_as planned heard)) (has : has_sent_low before ≡ true) where
    low_orderly : (link : RelationState) (message : Message) → before ≡ Some link → IsOrderlyIn before → IsOrderly (heard_low_in link message)
    low_orderly link message was orderly =
        let so = late_numbered link was has orderly in
        (late (is_exchanging link.phase) link.flow.cyclic.begun _ link.plugs.has_told so.0, so.1)

    low_acks : (number : ℕ) (link : RelationState) (b : Bool) → IsLow heard source header (notice.Ack number) → before ≡ Some link
        → Comes_to heard (handled_low_pdu station live (cond b fate.Done fate.Ignored) (Some (with_flow (behind_low link.flow (notice.Ack number)) link)))
    low_acks number link true is was =
        let flow = behind_low link.flow (notice.Ack number) in
        becomes heard idle (Some (with_flow flow link)) []
        (inr (inr (inr (inr (inr (inr (inr (inl (record { source = source; header = header; number = number; is = is; has_sent = has; link = link; was = was; becomes = refl; silent = refl })))))))))
        (low_orderly link (notice.Ack number) was) (flows link flow was) tt
    low_acks number link false is was = refuses heard note.Filter

    lows : (message : Message) (link : Option RelationState) → IsLow heard source header message → before ≡ link
        → Comes_to heard (handled_low_pdu station live (heard_low message link) (updated (hearing_low message link) link))
    lows message None is was = refuses heard note.Filter
    lows (notice.Data number ack) (Some link) is was =
        let flow = behind_low link.flow (notice.Data number ack) in
        let next = next_reported flow in
        let sent = first_sent (is_next flow.low) next.low in
        let plugs = plugs_after sent next.low.waiting link.plugs in
        let after : RelationState = record link { taken = taken_after sent link.plugs.places link.taken; plugs = plugs; flow = next } in
        becomes_as heard idle (Some after)
        (low_replies_of (taken_as link.flow.low.alarms.seen number) (Some flow) ++ where_due (is_next flow.low) (low_alarms_of (Some next)))
        (inr (inr (inr (inr (inr (inr (inr (inr (inl (record { source = source; header = header; number = number; ack = ack; is = is; has_sent = has; link = link; was = was; becomes = refl; sends = refl }))))))))))
        (λ orderly.
        let so = late_numbered link was has orderly in
        (late (is_exchanging link.phase) link.flow.cyclic.begun _ plugs.has_told so.0, subst AreNumbered (sym (calls_told sent next.low.waiting link.plugs)) so.1))
        (subst (λ (l : Option RelationState). IsKeptOr l (Some after)) (sym was)
        (told_kept link next.low link.plugs.places plugs next (is_next flow.low)
        (λ told own. exchanges_sent link own (subst (λ (l : Option RelationState). has_sent_low l ≡ true) was has))))
        (sym (ap uuid_of was))
        (tt, low_other (Some after) (is_next flow.low) next)
    lows (notice.Ack number) (Some link) is was = low_acks number link (is_last link.flow.low.alarms.sender.sending.last number) is was
    lows notice.Nack (Some link) is was = refuses heard note.Filter
    lows (notice.Abort status) (Some link) is was = refuses heard note.Filter

    low_alarms : (message : Message) (b : Bool) → IsLow heard source header message → Comes_to heard (cond b (handled_low_message station live message) (Refuses note.NoRelation))
    low_alarms message true is = lows message before is refl
    low_alarms message false is = refuses heard note.NoRelation

  low_replies : (source : Mac) (header : Header) (message : Message) (b : Bool) → has_sent_low before ≡ b
      → Comes_to (LowReplies source header message) (cond b (handled_low station live source header message) (handled_alarm live source header message))
  low_replies source header message true has =
      low_alarms (LowReplies source header message) source header (λ planned. tt) has message (is_alarm_of source header.destination header.source before) (inl refl)
  low_replies source header message false has =
      alarms (LowReplies source header message) source header (λ planned. tt) message (is_alarm_of source header.destination header.source before) (inr refl)

  low_confirms : (source : Mac) (header : Header) (message : Message) (b : Bool) → has_sent_low before ≡ b
      → Comes_to (LowConfirms source header message) (cond b (handled_low station live source header message) (Refuses note.Fault))
  low_confirms source header message true has =
      low_alarms (LowConfirms source header message) source header (λ planned. tt) has message (is_alarm_of source header.destination header.source before) (inr refl)
  low_confirms source header message false has = refuses (LowConfirms source header message) note.Fault

  -- ---- diagnoses

  changes : (change : Change) (later : Option (List Diagnosis)) → is_full_in before ≡ false → changed_list change live.rest.diagnoses ≡ later
      → Comes_to (change_heard change) (handled_change station live change later)
  changes change None room is = refuses (change_heard change) note.Refused
  changes change (Some later) room is = λ answers.
      let link = updated (diagnosing real change later before) before in
      let sent = where_due (diagnose_one real change later before) (low_alarms_of (flow_of link)) in
      let how : Diagnoses real live.rest.diagnoses later before (change_heard change) link sent =
      record { change = change; is = refl; open_room = room; changes = is; becomes = refl; sends = refl } in
      let others = lows_other link (diagnose_one real change later before) link in
      record {
        does = inr (inl (record {
          uncalled = λ planned. tt;
          calls = refl;
          link = diagnosing_kept real change later before;
          others = others;
          asked = inl refl;
        }));
        is = inr (inr (inr (inr (inr (inr (inr (inr (inr (inr (inl how))))))))));
        diagnoses = inr (inl how);
        modules = inl refl;
        answers = inl refl;
        orderly = diagnosing_orderly real change later before;
        owed = other_owed (change_heard change) link sent others;
        asked = still_later (change_heard change) live.rest.asked live.rest.asked (inl refl);
        related = alike (change_heard change) link (diagnosing_uuid real change later before);
      }

  diagnoses_as : (change : Change) (b c : Bool) → is_full_in before ≡ c
      → Comes_to (change_heard change) (cond (b && not c) (handled_change station live change (changed_list change live.rest.diagnoses)) (Refuses note.Refused))
  diagnoses_as change true true room = refuses (change_heard change) note.Refused
  diagnoses_as change true false room = changes change (changed_list change live.rest.diagnoses) room refl
  diagnoses_as change false c room = refuses (change_heard change) note.Refused

  -- ---- pulls and plugs

  -- the calls of plugs after it
  changed_other : (now : List RealModule) (made : RealChange) (later : List Diagnosis) (past : Option RelationState) → before ≡ past
      → AreOthers (modules_changing now made later past) (where_due (is_called_by now made later past) (plug_calls from (modules_changing now made later past)))
  changed_other now made later None was = tt
  changed_other now made later (Some past) was =
      let next = changed_by (rows_now now past) made later past in
      due_each (IsOther live (Some next)) (is_called_by now made later (Some past)) (plug_calls from (Some next))
      (plugs_other (Some next) past next was refl (changed_numbered (rows_now now past) made later past))

  module _ (heard : Heard) (idle : (planned : Planned) → IsUncalled (heard_as planned heard)) (made : RealChange) (is : change_by real heard ≡ Some made) where
    modules_with : (now : List RealModule) (b : Bool) → modules_after real heard ≡ Some now → is_crowded (affected_by made) before ≡ b
        → Comes_to heard (cond b (Refuses note.Refused) (Moves (changed_rest live.rest made now) (sent_after live made now)))
    modules_with now true modules room = refuses heard note.Refused
    modules_with now false modules room = λ answers.
        let rest = changed_rest live.rest made now in
        let alarm = where_due (is_alarmed_by now made rest.diagnoses before) (low_alarms_of (flow_of rest.link)) in
        let calls = where_due (is_called_by now made rest.diagnoses before) (plug_calls from rest.link) in
        let how : Changes real now live.rest.diagnoses rest.diagnoses before heard rest.link (alarm ++ calls) = record {
          made = made;
          is = is;
          modules = modules;
          open_room = room;
          remains = refl;
          becomes = refl;
          others = calls;
          sends = refl;
          calm = due_each (IsCalm before) (is_called_by now made rest.diagnoses before) (plug_calls from rest.link) (called_calm before from rest.link);
        } in
        let others = each_behind (IsOther live rest.link) alarm calls
        (lows_other rest.link (is_alarmed_by now made rest.diagnoses before) rest.link) (changed_other now made rest.diagnoses before refl) in
        record {
          does = inr (inl (record {
            uncalled = idle;
            calls = refl;
            link = changing_kept now made rest.diagnoses before;
            others = others;
            asked = dropped_still (affected_by made) live.rest.asked;
          }));
          is = inr (inr (inr (inr (inr (inr (inr (inr (inr (inr (inr how))))))))));
          diagnoses = inr (inr how);
          modules = inr how;
          answers = inl refl;
          orderly = changing_orderly now made rest.diagnoses before;
          owed = other_owed heard rest.link (alarm ++ calls) others;
          asked = still_later heard live.rest.asked rest.asked (dropped_still (affected_by made) live.rest.asked);
          related = still_related before rest.link live.rest.asked rest.asked (changing_uuid now made rest.diagnoses before)
              (dropped_still (affected_by made) live.rest.asked);
        }

    modules_as : (now : Option (List RealModule)) → modules_after real heard ≡ now → Comes_to heard (handled_modules live made now)
    modules_as None modules = refuses heard note.Refused
    modules_as (Some now) modules = modules_with now (is_crowded (affected_by made) before) modules refl

  -- the application is ready for a plug
  readied_as : (slot subslot : ℕ) (b : Bool)
      → Comes_to (Applied (local.ReadyAt slot subslot)) (cond b (handled_next_call live (readying_at slot subslot before)) (Refuses note.Refused))
  readied_as slot subslot true =
      calls_next (Applied (local.ReadyAt slot subslot)) (λ planned. tt) (readying_at slot subslot before)
      (ready_beside before (readied_plugs slot subslot) (λ plugs. refl) (λ plugs numbered. numbered) (λ plugs. refl))
  readied_as slot subslot false = refuses (Applied (local.ReadyAt slot subslot)) note.Refused

  -- ---- the application answers what is asked

  gives_answer : (heard : Heard) → ((planned : Planned) → heard_as planned heard ≡ small.Idle) → (given : Gives) (judgement : Result Question AnswerFault)
      → ((question : Question) → judgement ≡ Ok question → question_in live.rest.asked ≡ Some question)
      → Comes_to heard (handled_judged station live given judgement)
  gives_answer heard idle given (Err why) asked = refuses heard note.Refused
  gives_answer heard idle given (Ok question) asked = λ answers.
      replies heard idle question (asked question refl) (answer_status question.request given) (answer_blocks question.request given)
      (answered_link question given before) (settled live.rest.asked) live.rest.lamp live.rest.units live.rest.log [] refl
      (inl (answered_small question given before)) tt
      (λ more calm. inl (record { link = inl (answered_same question given before); calm = calm }))
      (answered_orderly question given before)

  answers_so : (heard : Heard) → ((planned : Planned) → heard_as planned heard ≡ small.Idle) → (number : ℕ) (given : Gives)
      → Comes_to heard (handled_gives station live number given)
  answers_so heard idle number given =
      gives_answer heard idle given (judged number given live.rest.asked) (λ question is. judged_is number given live.rest.asked question is)

  -- ---- units

  -- The relation after a unit of time, before what is asked is counted: then a call that has no answer in time is refused.
  module _ (lamp units : ℕ) (log : List LogEntry) (link : Option RelationState) (asked : AskedState) (count : ℕ) (sent : List Sent) where
    abbrev unit_rest : Rest
    unit_rest = record live.rest { lamp = lamp; link = link; units = units; log = log; asked = asked }

    counts : IsKeptOr before link → AreOthers link sent
        → ((more : List Sent) → AreCalm before more → IsTurn real real live.rest.calls live.rest.diagnoses live.rest.diagnoses before Ticks link (sent ++ more))
        → (IsOrderlyIn before → IsOrderlyIn link) → IsStill live.rest.asked asked → (IsAskedOf before live.rest.asked → IsAskedOf link asked)
        → Turn station live Ticks (counted_rest station from count unit_rest) (sent ++ counted_sent station from count unit_rest)
    counts kept others is orderly still related = by_late (late_in count asked) refl
      where
        after : AskedState
        after = asked_later count asked

        by_late : (late : Option Question) → late_in count asked ≡ late
            → Turn station live Ticks (record unit_rest { asked = asked_later count asked; calls = late_calls station.options station.identity from late live.rest.calls })
            (sent ++ late_sent station.options from late live.rest.calls)
        by_late None e = goes Ticks (record unit_rest { asked = asked_later count asked }) (sent ++ []) refl refl (is [] tt) orderly
            (λ was. still_related link link asked (asked_later count asked) refl (later_still count asked) (related was))
            (record {
              uncalled = λ planned. tt;
              calls = refl;
              link = kept;
              others = each_behind (IsOther live link) sent [] others tt;
              asked = still_then live.rest.asked asked (asked_later count asked) still (later_still count asked);
            })
        by_late (Some question) e =
            let there = late_asked count asked question e in
            replies Ticks (λ planned. refl) question (still_was live.rest.asked asked question still there.0)
            (unanswered_status (operation_asked question.request) Late) []
            link (asked_later count asked) lamp units log sent there.1 kept others is orderly

  -- the rest after a unit of time, before what is asked is counted, and what is done with that
  abbrev unit_from : ℕ → ℕ → List LogEntry → Option RelationState → Option Farewell → Rest
  unit_from lamp units log link farewell =
      record live.rest { lamp = lamp; link = link; units = units; log = log; asked = left_asked (ended_uuid farewell) live.rest.asked }

  abbrev Counts_to : Rest → List Sent → Type 0
  Counts_to rest sent = Comes_to Ticks (Moves (counted_rest station from (length sent) rest) (sent ++ counted_sent station from (length sent) rest))

  ticks_as : (lamp units : ℕ) (log : List LogEntry) (link : RelationState) (ending : Option Abort) → before ≡ Some link
      → Counts_to (unit_from lamp units log (updated (passing_by ending) (Some link)) (due_by link ending).farewell)
      (due_frames from (counter_of units) (due_by link ending) (updated (passing_by ending) (Some link)))
  ticks_as lamp units log link (Some reason) was = λ answers.
      let sent = due_frames from (counter_of units) (due_by link (Some reason)) None in
      let asked = left_asked (Some link.request.ar.uuid) live.rest.asked in
      counts lamp units log None asked (length sent) sent (inr (inl refl)) (tt, tt)
      (λ more calm. inl (record { link = inr refl; calm = ((reason, link, was, refl), calm) })) (λ orderly. tt)
      (left_still (Some link.request.ar.uuid) live.rest.asked)
      (λ related. nothing_related None asked
      (ap (λ (u : Option (List ℕ)). question_in (left_asked u live.rest.asked)) (sym (ap uuid_of was)) ∙ left_none before live.rest.asked related))
  ticks_as lamp units log link None was = λ answers.
      let tick = tick_of link.flow in
      let again = repeated_of link.flow in
      let later = Some (unit_later link) in
      let alarm = where_due (tick.is_alarm && again.high) (alarms_of (Some (flow_later link.flow))) in
      let low = where_due (tick.is_alarm && again.low) (low_alarms_of (Some (flow_later link.flow))) in
      let ready = where_due (is_again link) (ready_calls from later) in
      let plugs = where_due (is_plug_again link) (plug_calls from later) in
      let cyclic = where_due tick.is_cyclic (inputs_of (counter_of units) (Some (flow_later link.flow))) in
      let inputs = plugs ++ cyclic in
      let sent = alarm ++ (low ++ (ready ++ inputs)) in
      counts lamp units log later live.rest.asked (length sent) sent
      (inl (sym (ap (λ (l : Option RelationState). option_map link_of l) was)))
      (each_behind (IsOther live later) alarm (low ++ (ready ++ inputs))
      (due_each (IsOther live later) (tick.is_alarm && again.high) _ (alarms_other later (Some (flow_later link.flow))))
      (each_behind (IsOther live later) low (ready ++ inputs) (low_other later (tick.is_alarm && again.low) (flow_later link.flow))
      (each_behind (IsOther live later) ready inputs (again_other link (is_again link) was refl)
      (each_behind (IsOther live later) plugs cyclic
      (due_each (IsOther live later) (is_plug_again link) _
      (plugs_other later link (unit_later link) was refl (unit_numbered link)))
      (due_each (IsOther live later) tick.is_cyclic _ (tt, tt))))))
      (λ more calm. inr (inr (inr (inr (inr (inl (record {
        is = refl;
        link = link;
        was = was;
        becomes = refl;
        others = (ready ++ inputs) ++ more;
        sends = append_assoc alarm (low ++ (ready ++ inputs)) more ∙ ap (λ (s : List Sent). alarm ++ s) (append_assoc low (ready ++ inputs) more);
        calm = each_behind (IsCalm before) (ready ++ inputs) more
            (each_behind (IsCalm before) ready inputs (due_each (IsCalm before) (is_again link) _ (tt, tt))
            (each_behind (IsCalm before) plugs cyclic (due_each (IsCalm before) (is_plug_again link) _ (called_calm before from later))
            (due_each (IsCalm before) tick.is_cyclic _ ((link, was, refl), tt)))) calm;
      })))))))
      (λ orderly. unit_orderly link (subst (λ (l : Option RelationState). IsOrderlyIn l) was orderly))
      (inl refl) (alike Ticks later (sym (ap uuid_of was)))

  ticks_with : (lamp units : ℕ) (log : List LogEntry) (link : Option RelationState) → before ≡ link
      → Counts_to (unit_from lamp units log (updated (passing link) link) (due_of link).farewell)
      (due_frames from (counter_of units) (due_of link) (updated (passing link) link))
  ticks_with lamp units log None was = λ answers.
      counts lamp units log None live.rest.asked 0 [] (inr (inl refl)) tt (λ more calm. inl (record { link = inr refl; calm = calm })) (λ orderly. tt)
      (inl refl) (alike Ticks None (sym (ap uuid_of was)))
  ticks_with lamp units log (Some link) was = ticks_as lamp units log link (ending_of link) was

  -- ---- the response to ApplicationReady

  begins_as : (heard : Heard) (response : Response) (link : RelationState) → ((planned : Planned) → heard_as planned heard ≡ cond (confirms response) small.Confirms small.Idle) → before ≡ Some link → link.phase ≡ Awaiting
      → confirms response ≡ true → Comes_to heard (handled_beginning station live (Some (exchanging_from link)))
  begins_as heard response link said was awaits is = λ answers.
      let now = exchanging_from link in
      let flow = diagnoses_begun real live.rest.diagnoses now.flow in
      let one = begins_with_one real live.rest.diagnoses now.flow in
      let first = first_sent one flow.low in
      let next : RelationState = record now { taken = taken_after first link.plugs.places link.taken; plugs = plugs_after first flow.low.waiting link.plugs; flow = flow } in
      let sent = where_due one (low_alarms_of (Some flow)) in
      record {
        does = inr (inr (inl (record {
          confirms = λ planned. said planned ∙ ap (λ (b : Bool). cond b small.Confirms small.Idle) is;
          link = link;
          was = was;
          awaits = awaits;
          next = next;
          values = taken_after first link.plugs.places link.taken;
          part = part_told first link.plugs.places link.taken;
          exchanges = refl;
          becomes = refl;
          others = due_each IsExchange one (low_alarms_of (Some flow)) (exchanges_in flow.cyclic.route (low_alarm_frame flow));
        })));
        is = inr (inr (inr (inr (inr (inr (inr (inr (inr (inl (record { link = link; was = was; awaits = awaits; becomes = refl; sends = refl }))))))))));
        diagnoses = inl refl;
        modules = inl refl;
        answers = inl refl;
        orderly = λ orderly. (
          late true flow.cyclic.begun _ _ refl,
          subst AreNumbered (sym (calls_told first flow.low.waiting link.plugs)) (subst (λ (l : Option RelationState). IsOrderlyIn l) was orderly).1,
        );
        owed = other_owed heard (Some next) sent (low_other (Some next) one flow);
        asked = still_later heard live.rest.asked live.rest.asked (inl refl);
        related = alike heard (Some next) (sym (ap uuid_of was));
      }
    where
      exchanges_in : (route : Route) (frame : Option Frame) → AllByRecursion IsExchange (frames_in route frame)
      exchanges_in route (Some frame) = (tt, tt)
      exchanges_in route None = tt

  -- a response is no call
  uncalled_by : (b : Bool) → IsUncalled (cond b small.Confirms small.Idle)
  uncalled_by true = tt
  uncalled_by false = tt

  answers_as : (caller : Caller) (address : List ℕ) (response : Response) (answer : ReadyAnswer) → IsMeaning response before answer
      → Comes_to (Reported caller address (Responds response)) (handled_answer station live answer)
  answers_as caller address response to_ready.NotWanted is = refuses (Reported caller address (Responds response)) note.NoRelation
  answers_as caller address response to_ready.Garbled is = refuses (Reported caller address (Responds response)) note.Fault
  answers_as caller address response to_ready.Confirmed is =
      subst (λ (l : Option RelationState). Comes_to (Reported caller address (Responds response)) (handled_beginning station live (updated Confirmed l))) (sym is.1)
      (begins_as (Reported caller address (Responds response)) response is.0 (λ planned. refl) is.1 is.2 is.3)
  answers_as caller address response (to_ready.Refused farewell) is =
      ends (Reported caller address (Responds response)) (λ planned. uncalled_by (confirms response)) (err_log (Some farewell) live.rest.units live.rest.log)
      (Some farewell.uuid)
      (ap (λ (f : Farewell). let o : Option (List ℕ) = Some f.uuid in o) is.2 ∙ sym (ap uuid_of is.1)) (Ends farewell ∷ [])
      ((Other, is.0, is.1, is.2), tt) (tt, tt)

  -- the response to ApplicationReady of a plug, while data is exchanged
  plug_answers : (caller : Caller) (address : List ℕ) (response : Response) (answer : PlugAnswer)
      → Comes_to (Reported caller address (Responds response)) (handled_plug_answer live response answer)
  plug_answers caller address response to_plug.NotWanted = refuses (Reported caller address (Responds response)) note.NoRelation
  plug_answers caller address response to_plug.Garbled = refuses (Reported caller address (Responds response)) note.Fault
  plug_answers caller address response to_plug.Confirmed =
      calls_next (Reported caller address (Responds response)) (λ planned. uncalled_by (confirms response)) (plug_answering response before)
      (answered_beside (plug_answer_in response before) before)
  plug_answers caller address response to_plug.Refused =
      calls_next (Reported caller address (Responds response)) (λ planned. uncalled_by (confirms response)) (plug_answering response before)
      (answered_beside (plug_answer_in response before) before)

  responds : (caller : Caller) (address : List ℕ) (response : Response) (b : Bool)
      → Comes_to (Reported caller address (Responds response))
      (cond b (handled_plug_answer live response (plug_answer_in response before)) (handled_answer station live (ready_answer response before)))
  responds caller address response true = plug_answers caller address response (plug_answer_in response before)
  responds caller address response false = answers_as caller address response (ready_answer response before) (meaning response before)

  -- ---- calls

  module _ (caller : Caller) (address : List ℕ) (call : Call) where
    abbrev heard : Heard
    heard = Reported caller address (Calls call)

    restarted_same : (source : Partner) (link : Option RelationState) → option_map standing_of (option_map (restarted source) link) ≡ option_map standing_of link
    restarted_same source None = refl
    restarted_same source (Some link) = refl

    more_same : (source : Partner) (passed : PassedOn) (values : List TakenRecord) (link : Option RelationState)
        → option_map standing_of (option_map (with_more source passed values) link) ≡ option_map standing_of link
    more_same source passed values None = refl
    more_same source passed values (Some link) = refl

    parameterized_same : (source : Partner) (link : RelationState) (by_application : Bool) → link.phase ≡ Started
        → standing_of (restarted source (parameterized_from by_application link)) ≡ standing_of link
    parameterized_same source link true started = ap (λ (b : Bool). record (standing_of link) { exchanges = b }) (sym (ap is_exchanging started))
    parameterized_same source link false started = ap (λ (b : Bool). record (standing_of link) { exchanges = b }) (sym (ap is_exchanging started))

    restarted_turns : (link : Option RelationState) (sent : List Sent) → IsRestarted before link → AreCalm before sent
        → IsTurn real real live.rest.calls live.rest.diagnoses live.rest.diagnoses before heard link sent
    restarted_turns link sent same calm = inl (record { link = inl (ap (λ (l : Option RelationState). option_map standing_of l) same.1 ∙ restarted_same same.0 before); calm = calm })

    -- what a call does, for outputs and alarms
    effect_turns : (blocks : List ℕ) (outcome : Result (List ℕ) CallFault) (which : Operation) (link : Option RelationState) (sent : List Sent) → operation_of call.header.operation ≡ Some which
        → call.blocks ≡ Some blocks → looked call.header.activity call.header.sequence live.rest.calls ≡ new → IsEffect station live.rest.real caller blocks outcome which before link → AreCalm before sent
        → IsTurn real real live.rest.calls live.rest.diagnoses live.rest.diagnoses before heard link sent
    effect_turns blocks (Err why) which link sent asks counted fresh same calm = inl (record { link = inl (ap (λ (l : Option RelationState). option_map standing_of l) same); calm = calm })
    effect_turns blocks (Ok octets) operation.Connect link sent asks counted fresh it calm = inr (inl (record {
      caller = caller;
      address = address;
      call = call;
      blocks = blocks;
      is = refl;
      connects = asks;
      counted = counted;
      fresh = fresh;
      request = it.request;
      partner = partner_of caller;
      rows = rows_of it.request live.rest.real;
      options = it.options;
      starting = it.starting;
      few = it.numbered.few;
      read = it.read;
      made = it.made;
      calm = calm;
    }))
    effect_turns blocks (Ok octets) operation.Release link sent asks counted fresh it calm = inl (record { link = inr it.gone; calm = calm })
    effect_turns blocks (Ok octets) operation.Read link sent asks counted fresh it calm = restarted_turns link sent it calm
    effect_turns blocks (Ok octets) operation.ReadImplicit link sent asks counted fresh it calm = absurd it
    effect_turns blocks (Ok octets) operation.Write link sent asks counted fresh (inr (inl it)) calm = restarted_turns link sent it.same calm
    effect_turns blocks (Ok octets) operation.Write link sent asks counted fresh (inr (inr it)) calm =
        inl (record { link = inl (ap (λ (l : Option RelationState). option_map standing_of l) it.becomes ∙ more_same it.source it.passed it.values before); calm = calm })
    effect_turns blocks (Ok octets) operation.Write link sent asks counted fresh (inl it) calm =
        inl (record { link = inl (ap (λ (l : Option RelationState). option_map standing_of l) it.becomes ∙ sym (ap (λ (l : Option RelationState). option_map standing_of l) it.was)); calm = calm })
    effect_turns blocks (Ok octets) operation.Control link sent asks counted fresh (inr it) calm = inl (record {
      link = inl (ap (λ (l : Option RelationState). option_map standing_of l) it.becomes
          ∙ (ap (λ (keys : List (ℕ × ℕ)). let o : Option Standing = Some (record (standing_of it.link) { keys = keys }) in o) it.keys ∙ sym (ap (λ (l : Option RelationState). option_map standing_of l) it.was)));
      calm = calm;
    })
    effect_turns blocks (Ok octets) operation.Control link sent asks counted fresh (inl it) calm = inl (record {
      link = inl (ap (λ (l : Option RelationState). option_map standing_of l) it.becomes
          ∙ (ap (λ (x : Standing). Some x) (parameterized_same it.source it.link it.by_application it.started) ∙ sym (ap (λ (l : Option RelationState). option_map standing_of l) it.was)));
      calm = calm;
    })

    -- its order
    restarted_orderly : (source : Partner) (link : Option RelationState) → IsOrderlyIn link → IsOrderlyIn (option_map (restarted source) link)
    restarted_orderly source None orderly = tt
    restarted_orderly source (Some link) orderly = orderly

    more_orderly : (source : Partner) (passed : PassedOn) (values : List TakenRecord) (link : Option RelationState)
        → IsOrderlyIn link → IsOrderlyIn (option_map (with_more source passed values) link)
    more_orderly source passed values None orderly = tt
    more_orderly source passed values (Some link) orderly = orderly

    parameterized_orderly : (source : Partner) (link : RelationState) (by_application : Bool) → link.phase ≡ Started
        → IsOrderly link → IsOrderly (restarted source (parameterized_from by_application link))
    parameterized_orderly source link true started orderly = (λ e. orderly.0 (ap is_exchanging started), orderly.1)
    parameterized_orderly source link false started orderly = (λ e. orderly.0 (ap is_exchanging started), orderly.1)

    was_orderly : (link : RelationState) → before ≡ Some link → IsOrderlyIn before → IsOrderly link
    was_orderly link was orderly = subst (λ (l : Option RelationState). IsOrderlyIn l) was orderly

    now_orderly : (link after : Option RelationState) → after ≡ link → IsOrderlyIn link → IsOrderlyIn after
    now_orderly link after is orderly = subst (λ (l : Option RelationState). IsOrderlyIn l) (sym is) orderly

    effect_orderly : (blocks : List ℕ) (outcome : Result (List ℕ) CallFault) (which : Operation) (link : Option RelationState)
        → IsEffect station live.rest.real caller blocks outcome which before link → IsOrderlyIn before → IsOrderlyIn link
    effect_orderly blocks (Err why) which link same orderly = now_orderly before link same orderly
    effect_orderly blocks (Ok octets) operation.Connect link it orderly =
        now_orderly (Some (made_of it.request (partner_of caller) (rows_of it.request live.rest.real) it.options it.starting)) link it.made
        (λ e. (refl, refl, refl), (omega arith, tt))
    effect_orderly blocks (Ok octets) operation.Release link it orderly = now_orderly None link it.gone tt
    effect_orderly blocks (Ok octets) operation.Read link it orderly = now_orderly (option_map (restarted it.0) before) link it.1 (restarted_orderly it.0 before orderly)
    effect_orderly blocks (Ok octets) operation.ReadImplicit link it orderly = absurd it
    effect_orderly blocks (Ok octets) operation.Write link (inr (inl it)) orderly =
        now_orderly (option_map (restarted it.same.0) before) link it.same.1 (restarted_orderly it.same.0 before orderly)
    effect_orderly blocks (Ok octets) operation.Write link (inr (inr it)) orderly =
        now_orderly (option_map (with_more it.source it.passed it.values) before) link it.becomes (more_orderly it.source it.passed it.values before orderly)
    effect_orderly blocks (Ok octets) operation.Write link (inl it) orderly =
        now_orderly (Some (restarted it.source (with_records it.more it.link))) link it.becomes (was_orderly it.link it.was orderly)
    effect_orderly blocks (Ok octets) operation.Control link (inl it) orderly =
        now_orderly (Some (restarted it.source (parameterized_from it.by_application it.link))) link it.becomes
        (parameterized_orderly it.source it.link it.by_application it.started (was_orderly it.link it.was orderly))
    effect_orderly blocks (Ok octets) operation.Control link (inr it) orderly =
        let own = was_orderly it.link it.was orderly in
        now_orderly (Some (record (restarted it.source it.link) { plugs = it.plugs })) link it.becomes
        (late (is_exchanging it.link.phase) it.link.flow.cyclic.begun _ it.plugs.has_told (ap is_exchanging (it.exchanges own)), it.numbered own.1)

    readied_owed : (after : Option RelationState) (ready : Option Following) → AreReadied live after ready → AllByRecursion (IsOwed heard live) (readied_from from ready)
    readied_owed after None readied = tt
    readied_owed after (Some (Readying ready)) readied = (readied.0, tt)
    readied_owed after (Some (Plugging ready)) readied = (readied, tt)

    module _ (blocks : List ℕ) (counted : call.blocks ≡ Some blocks) (fresh : looked call.header.activity call.header.sequence live.rest.calls ≡ new) where
      -- the call is answered like this; then this is the relation, and this the log
      abbrev logging : List LogEntry → Live
      logging log = but_rest live (record live.rest { log = log })

      -- this many relations were made, and this is asked
      abbrev counting : ℕ → List LogEntry → AskedState → Live
      counting made log asked = but_rest live (record live.rest { log = log; made = made; asked = asked })

      serves_with : (made : ℕ) (log : List LogEntry) (asked : AskedState) (which : Operation) (outcome : Result (List ℕ) CallFault)
          (link : Option RelationState) (ready : Option Following)
          → operation_of call.header.operation ≡ Some which → is_kept station.options which ≡ true → IsPlainIn outcome
          → IsEffect station live.rest.real caller blocks outcome which before link → AreReadied live link ready
          → IsStill live.rest.asked asked → (IsAskedOf before live.rest.asked → IsAskedOf link asked)
          → Comes_to heard (served station (counting made log asked) caller call which outcome link (readied_from from ready))
      serves_with made log asked which outcome link ready asks stored plain effect readied still related = rw stored (λ answers. record {
        does = inr (inr (inr (inr (inl (record {
          caller = caller;
          address = address;
          call = call;
          is = refl;
          blocks = blocks;
          counted = counted;
          fresh = fresh;
          which = which;
          asks = asks;
          outcome = outcome;
          status = outcome_sized which outcome plain;
          effect = effect;
          ready = ready;
          readied = readied;
          keeps = refl;
          sends = refl;
          asked = still;
        })))));
        is = effect_turns blocks outcome which link _ asks counted fresh effect (tt, readied_calm before from ready);
        diagnoses = inl refl;
        modules = inl refl;
        orderly = effect_orderly blocks outcome which link effect;
        answers = inr (record {
          call = call;
          caller = caller;
          address = from;
          answer = answer_to call (outcome_of which outcome).0 (outcome_of which outcome).1;
          first = [];
          others = readied_from from ready;
          keeps = refl;
          sends = refl;
        });
        owed = (
          inl (record { address = address; call = call; is = refl; header = refl; maximum = refl; status = outcome_sized which outcome plain }),
          readied_owed link ready readied,
        );
        asked = still_later heard live.rest.asked asked still;
        related = related;
      })

      -- a relation is made where none was, so nothing is asked; else it is the same, but for a Release
      connected_related : (blocks : List ℕ) (request : Request) (past link : Option RelationState) → connect_of past blocks ≡ Ok request
          → IsAskedOf past live.rest.asked → IsAskedOf link live.rest.asked
      connected_related blocks request None link read related = unrelated_asks link live.rest.asked related
      connected_related blocks request (Some past) link read related = absurd (never_connected past.request.ar.uuid blocks request read)

      abbrev IsUnreleased : Operation → Type 0
      IsUnreleased operation.Release = ⊥
      IsUnreleased which = Unit {0}

      effect_related : (outcome : Result (List ℕ) CallFault) (which : Operation) (link : Option RelationState)
          → IsUnreleased which ⊎ ((why : CallFault) × (outcome ≡ Err why))
          → IsEffect station live.rest.real caller blocks outcome which before link → IsAskedOf before live.rest.asked → IsAskedOf link live.rest.asked
      effect_related (Err why) which link kind same = alike heard link (ap uuid_of same)
      effect_related (Ok octets) which link (inr never) it = absurd (never_err octets never.0 never.1)
      effect_related (Ok octets) operation.Release link (inl never) it = absurd never
      effect_related (Ok octets) operation.Connect link (inl kind) it = connected_related blocks it.request before link it.read
      effect_related (Ok octets) operation.Read link (inl kind) it = alike heard link (ap uuid_of it.1 ∙ named_uuid it.0 before)
      effect_related (Ok octets) operation.ReadImplicit link (inl kind) it = absurd it
      effect_related (Ok octets) operation.Write link (inl kind) (inl it) = alike heard link (ap uuid_of it.becomes ∙ sym (ap uuid_of it.was))
      effect_related (Ok octets) operation.Write link (inl kind) (inr (inl it)) = alike heard link (ap uuid_of it.same.1 ∙ named_uuid it.same.0 before)
      effect_related (Ok octets) operation.Write link (inl kind) (inr (inr it)) = alike heard link
          (ap uuid_of it.becomes ∙ more_uuid it.source it.passed it.values before)
      effect_related (Ok octets) operation.Control link (inl kind) (inl it) =
          alike heard link (ap uuid_of it.becomes ∙ (parameterized_uuid it.source it.by_application it.link ∙ sym (ap uuid_of it.was)))
      effect_related (Ok octets) operation.Control link (inl kind) (inr it) = alike heard link (ap uuid_of it.becomes ∙ sym (ap uuid_of it.was))

      serves : (log : List LogEntry) (which : Operation) (outcome : Result (List ℕ) CallFault) (link : Option RelationState) (ready : Option Following)
          → operation_of call.header.operation ≡ Some which → is_kept station.options which ≡ true → IsPlainIn outcome
          → IsEffect station live.rest.real caller blocks outcome which before link → AreReadied live link ready
          → IsUnreleased which ⊎ ((why : CallFault) × (outcome ≡ Err why))
          → Comes_to heard (served station (logging log) caller call which outcome link (readied_from from ready))
      serves log which outcome link ready asks stored plain effect readied kind =
          serves_with live.rest.made log live.rest.asked which outcome link ready asks stored plain effect readied (inl refl)
          (effect_related outcome which link kind effect)

      fails : (log : List LogEntry) (which : Operation) (why : CallFault) (link : Option RelationState) → operation_of call.header.operation ≡ Some which
          → is_kept station.options which ≡ true → IsPlain why → before ≡ link
          → Comes_to heard (served station (logging log) caller call which (Err why) link [])
      fails log which why link asks stored plain was = serves log which (Err why) link None asks stored plain (sym was) tt (inr (why, refl))

      -- the call is answered, and then the next call of a plug may be sent
      following : (link : RelationState) → before ≡ Some link → operation_of call.header.operation ≡ Some operation.Control → (outcome : Result (List ℕ) CallFault) (next : Option RelationState)
          → IsPlainIn outcome → AreBeside (Some link) next → IsEffect station live.rest.real caller blocks outcome operation.Control before (calling_next next)
          → Comes_to heard (served station live caller call operation.Control outcome (calling_next next) (next_call_sent from next))
      following link was asks outcome None plain beside effect = absurd beside
      following link was asks outcome (Some next) plain beside effect = by_called (is_next_called next.plugs)
        where
          called : RelationState
          called = record next { plugs = next_called next.plugs }

          numbered : AreNumbered link.plugs.calls → AreNumbered called.plugs.calls
          numbered calls = numbered_next next.plugs.calls (beside.numbered calls)

          by_standing : (standing : Option PlugCall) → (AreNumbered link.plugs.calls → IsNumberedCall standing)
              → Comes_to heard (served station live caller call operation.Control outcome (Some called) (plug_call_in from (option_map (ready_for called) standing)))
          by_standing None small = serves live.rest.log operation.Control outcome (Some called) None asks refl plain effect tt (inl tt)
          by_standing (Some one) small =
              serves live.rest.log operation.Control outcome (Some called) (Some (Plugging (ready_for called one))) asks refl plain effect
              (plug_of_relation before link called one was beside.request small) (inl tt)

          by_called : (b : Bool) → Comes_to heard (served station live caller call operation.Control outcome (Some called) (where_due b (plug_calls from (Some called))))
          by_called true = by_standing called.plugs.calls.standing (λ calls. (numbered calls).1)
          by_called false = serves live.rest.log operation.Control outcome (Some called) None asks refl plain effect tt (inl tt)

      -- what is not logged
      abbrev unlogged : List LogEntry
      unlogged = live.rest.log

      abbrev answer_for : Result Request CallFault → Result (List ℕ) CallFault
      answer_for request = request >>= λ r. Ok (connect_blocks station.identity (number_now station live) r (differing_of r live.rest.real))

      connects_as : (request : Result Request CallFault) → operation_of call.header.operation ≡ Some operation.Connect → connect_within station.options caller.mac before blocks ≡ request → IsPlainIn request
          → Comes_to heard (served station (but_rest live (counted_by (answer_for request) (record live.rest { log = connect_log blocks (answer_for request) live.rest.units live.rest.log }))) caller call operation.Connect (answer_for request)
          (updated (making live.rest.real (partner_of caller) station.options (starting_of station live) request) before) [])
      connects_as (Ok request) asks read plain =
          serves_with (made_after live.rest.made) unlogged live.rest.asked operation.Connect (answer_for (Ok request))
          (Some (made_of request (partner_of caller) (rows_of request live.rest.real) station.options (starting_of station live))) None asks refl tt
          (record { request = request; options = station.options; starting = starting_of station live; read = unlimited station.options caller.mac before blocks request read; made = refl; numbered = number_now_is station live; answer = refl }) tt
          (inl refl) (connected_related blocks request before
          (Some (made_of request (partner_of caller) (rows_of request live.rest.real) station.options (starting_of station live)))
          (unlimited station.options caller.mac before blocks request read))
      connects_as (Err why) asks read plain = fails (connect_log {A = List ℕ} blocks (Err why) live.rest.units live.rest.log) operation.Connect why before asks refl plain refl

      keeps_as : (header : IodWriteReq) (write : Write) (value : TakenRecord) (link : Option RelationState) (kept : Result Records CallFault) → operation_of call.header.operation ≡ Some operation.Write
          → writing_of (uuid_of before) live.rest.real blocks ≡ Ok (One write) → write.effect ≡ Keeps value → before ≡ link → keeping value link ≡ kept → IsPlainIn kept
          → Comes_to heard (served station live caller call operation.Write (kept_answer header kept) (updated (answered (Named (partner_of caller)) kept) (updated (taking kept) link)) [])
      keeps_as header write value link (Err why) asks judged keeps was is plain = fails unlogged operation.Write why link asks refl plain was
      keeps_as header write value None (Ok more) asks judged keeps was is plain = absurd cc
      keeps_as header write value (Some link) (Ok more) asks judged keeps was is plain = serves unlogged operation.Write (Ok (answer_of header)) (Some (restarted (partner_of caller) (with_records more link))) None asks refl tt
          (inl (record {
            link = link;
            was = was;
            write = write;
            judged = judged;
            value = value;
            keeps = keeps;
            source = partner_of caller;
            more = more;
            kept = is;
            becomes = refl;
          })) tt (inl tt)

      -- a record that the settings store, or do not
      stores_as : (write : Write) (value : ImValue) (outcome : Result (List ℕ) CallFault) → operation_of call.header.operation ≡ Some operation.Write
          → writing_of (uuid_of before) live.rest.real blocks ≡ Ok (One write) → write.effect ≡ Stores value → IsPlainIn outcome
          → Comes_to heard (served station live caller call operation.Write outcome (updated (answered (Named (partner_of caller)) outcome) before) [])
      stores_as write value (Ok octets) asks judged is plain =
          serves unlogged operation.Write (Ok octets) (updated (Named (partner_of caller)) before) None asks refl tt
          (inr (inl (record { write = write; judged = judged; value = value; stores = is; same = (partner_of caller, refl) }))) tt (inl tt)
      stores_as write value (Err why) asks judged is plain = fails unlogged operation.Write why before asks refl plain refl

      effect_as : (write : Write) (effect : Effect) → operation_of call.header.operation ≡ Some operation.Write → writing_of (uuid_of before) live.rest.real blocks ≡ Ok (One write)
          → write.effect ≡ effect → Comes_to heard (handled_effect station live caller call write.request effect)
      effect_as write (Stores value) asks judged is = λ answers.
          stores_as write value (written_as write.request (first_answer answers)) asks judged is (stored_plain write.request (first_answer answers)) answers
      effect_as write (Keeps value) asks judged is =
          keeps_as write.request write value before (keeping value before) asks judged is refl refl (keeping_plain value before)

      -- several records, each for itself
      each_as : (header : IodWriteReq) (entries : List Entry) → operation_of call.header.operation ≡ Some operation.Write
          → writing_of (uuid_of before) live.rest.real blocks ≡ Ok (Each header entries) → Comes_to heard (handled_write station live caller call (Ok (Each header entries)))
      each_as header entries asks judged = λ answers.
          let each = judged_each station.named (uuid_of before) live.rest.real entries in
          let takes = each_takes (partner_of caller) each before in
          serves unlogged operation.Write (Ok (several_answer header each answers before)) (updated (Named (partner_of caller)) (link_behind each before)) None asks refl tt
          (inr (inr (record {
            header = header;
            entries = entries;
            judged = judged;
            answers = answers;
            tells = refl;
            source = partner_of caller;
            carried = refl;
            passed = takes.1;
            values = takes.0;
            becomes = takes.2;
          }))) tt (inl tt) answers

      writes_as : (writing : Result Writing CallFault) → operation_of call.header.operation ≡ Some operation.Write → writing_of (uuid_of before) live.rest.real blocks ≡ writing → IsPlainIn writing
          → Comes_to heard (handled_write station live caller call writing)
      writes_as (Ok (One write)) asks judged plain = effect_as write write.effect asks judged refl
      writes_as (Ok (Each header entries)) asks judged plain = each_as header entries asks judged
      writes_as (Err why) asks judged plain = fails unlogged operation.Write why before asks refl plain refl

      reads_as : (read : Result (List ℕ) CallFault) → operation_of call.header.operation ≡ Some operation.Read → IsPlainIn read
          → Comes_to heard (served station live caller call operation.Read read (updated (answered (Named (partner_of caller)) read) before) [])
      reads_as (Ok octets) asks plain = serves unlogged operation.Read (Ok octets) (updated (Named (partner_of caller)) before) None asks refl tt
          (partner_of caller, refl) tt (inl tt)
      reads_as (Err why) asks plain = fails unlogged operation.Read why before asks refl plain refl

      -- a relation after PrmEnd
      abbrev controlled : Bool → Option RelationState → Result ControlBlock CallFault → Option RelationState
      controlled by_application link ended = updated (answered (Named (partner_of caller)) ended) (updated (answered (Parameterized by_application) ended) link)

      controls_as : (by_application : Bool) (link : Option RelationState) (ended : Result ControlBlock CallFault) → operation_of call.header.operation ≡ Some operation.Control → before ≡ link → prm_end_of link blocks ≡ ended → IsPlainIn ended
          → Comes_to heard (served station live caller call operation.Control (ended >>= λ block. Ok (block_bytes (variant.PrmEndRes (done_of block)))) (controlled by_application link ended)
          (ready_behind by_application from (controlled by_application link ended) ended))
      controls_as by_application link (Err why) asks was is plain = fails unlogged operation.Control why link asks refl plain was
      controls_as by_application None (Ok block) asks was is plain = absurd (prm_started None blocks block is)
      controls_as true (Some link) (Ok block) asks was is plain =
          serves unlogged operation.Control (Ok (block_bytes (variant.PrmEndRes (done_of block)))) (Some (restarted (partner_of caller) (parameterized_from true link))) None asks refl tt
          (inl (record {
            link = link;
            was = was;
            started = prm_started (Some link) blocks block is;
            by_application = true;
            source = partner_of caller;
            becomes = refl;
          })) tt (inl tt)
      controls_as false (Some link) (Ok block) asks was is plain =
          let after = restarted (partner_of caller) (parameterized_from false link) in
          serves unlogged operation.Control (Ok (block_bytes (variant.PrmEndRes (done_of block)))) (Some after) (Some (Readying (ready_of after))) asks refl tt
          (inl (record { link = link; was = was; started = prm_started (Some link) blocks block is; by_application = false; source = partner_of caller; becomes = refl }))
          (record { link = link; is = was; header = refl; block = refl }, record { link = after; is = refl; awaits = refl }) (inl tt)

      -- a PrmEnd after a plug
      plugged_as : (link : RelationState) → before ≡ Some link → link.plugs.has_told ≡ true → operation_of call.header.operation ≡ Some operation.Control
          → (by_application : Bool) (ended : Result PlugControlBlock CallFault) → IsPlainIn ended
          → Comes_to heard (served station live caller call operation.Control (plug_end_answer ended)
          (calling_after ended (updated (answered (Named (partner_of caller)) ended) (ended_by by_application ended (Some link))))
          (call_after ended from (updated (answered (Named (partner_of caller)) ended) (ended_by by_application ended (Some link)))))
      plugged_as link was told asks by_application (Err why) plain = fails unlogged operation.Control why (Some link) asks refl plain was
      plugged_as link was told asks by_application (Ok block) plain =
          let ended_plugs = ended block.alarm_sequence_number (not by_application) link.plugs in
          let next : RelationState = restarted (partner_of caller) (record link { plugs = ended_plugs }) in
          following link was asks (Ok ((plug_control 0x8111).write (plug_done block) [])) (Some next) tt
          (beside_ended link (partner_of caller) block.alarm_sequence_number (not by_application)) (inr (record {
            link = link;
            was = was;
            exchanges = λ own. exchanging_is link.phase (exchanges_told link own told);
            source = partner_of caller;
            plugs = next_called ended_plugs;
            numbered = λ numbered. numbered_next ended_plugs.calls (ended_numbered block.alarm_sequence_number (not by_application) link.plugs numbered);
            keys = ended_keys block.alarm_sequence_number (not by_application) link.plugs;
            becomes = refl;
          }))

      plug_controls : (link : Option RelationState) → before ≡ link → is_plug_control blocks link ≡ true → operation_of call.header.operation ≡ Some operation.Control
          → (by_application : Bool) (ended : Result PlugControlBlock CallFault) → IsPlainIn ended
          → Comes_to heard (served station live caller call operation.Control (plug_end_answer ended)
          (calling_after ended (updated (answered (Named (partner_of caller)) ended) (ended_by by_application ended link)))
          (call_after ended from (updated (answered (Named (partner_of caller)) ended) (ended_by by_application ended link))))
      plug_controls None was is asks by_application ended plain = absurd cc
      plug_controls (Some link) was is asks by_application ended plain =
          plugged_as link was (and_true link.plugs.has_told (begins_as_plug_end blocks) is).0 asks by_application ended plain

      controls : (b : Bool) → is_plug_control blocks before ≡ b → operation_of call.header.operation ≡ Some operation.Control
          → Comes_to heard (cond b (handled_plug_end station live caller call blocks) (handled_prm_end station live caller call blocks))
      controls true is asks = plug_controls before refl is asks station.options.ready_by_application (plug_end_in blocks before) (plug_plain before blocks)
      controls false is asks = controls_as station.options.ready_by_application before (prm_end_of before blocks) asks refl refl (prm_plain before blocks)

      -- a relation that is released drops what it asked
      abbrev releasing : Result (List ℕ) CallFault → Live
      releasing answer =
          but_rest live (record live.rest {
            log = release_log (uuid_of before) answer live.rest.units live.rest.log;
            asked = left_asked (released_by answer (uuid_of before)) live.rest.asked;
          })

      releases_as : (link : Option RelationState) (ended : Result ControlBlock CallFault) → operation_of call.header.operation ≡ Some operation.Release → before ≡ link → release_of link blocks ≡ ended → IsPlainIn ended
          → Comes_to heard (served station (releasing (ended >>= λ block. Ok (block_bytes (variant.ReleaseRes (done_of block))))) caller call operation.Release
          (ended >>= λ block. Ok (block_bytes (variant.ReleaseRes (done_of block)))) (updated (answered Ended ended) link) [])
      releases_as link (Err why) asks was is plain = fails unlogged operation.Release why link asks refl plain was
      releases_as None (Ok block) asks was is plain = absurd (never_released blocks block is)
      releases_as (Some link) (Ok block) asks was is plain =
          serves_with live.rest.made (release_log (uuid_of before) (Ok block) live.rest.units live.rest.log)
          (left_asked (uuid_of before) live.rest.asked) operation.Release
          (Ok (block_bytes (variant.ReleaseRes (done_of block)))) None None asks refl tt (record { link = link; was = was; gone = refl }) tt
          (left_still (uuid_of before) live.rest.asked)
          (λ related. nothing_related None (left_asked (uuid_of before) live.rest.asked) (left_none before live.rest.asked related))

      own_call : (which : Operation) → operation_of call.header.operation ≡ Some which
          → IsPlannedAs rules station.named live.rest.real call.header.sequence blocks (Some which)
          → Comes_to heard (handled_own station live caller call blocks which)
      own_call operation.Connect asks plan = connects_as (connect_within station.options caller.mac before blocks) asks refl
          (connect_plain station.options caller.mac before blocks rules.request plan)
      own_call operation.Release asks plan = releases_as before (release_of before blocks) asks refl refl (release_plain before blocks)
      own_call operation.Write asks plan = writes_as (writing_of (uuid_of before) live.rest.real blocks) asks refl
          (writing_plain (uuid_of before) live.rest.real blocks)
      own_call operation.Control asks plan = controls (is_plug_control blocks before) refl asks
      own_call operation.Read asks plan =
          reads_as (relation_read (known_of station live) station.identity live.rest.real live.values.running blocks) asks
          (read_plain (known_of station live) station.identity live.rest.real live.values.running blocks)
      own_call operation.ReadImplicit asks plan = absurd plan

      -- ---- a call for a record of the application

      module _ (which : Operation) (asks : operation_of call.header.operation ≡ Some which) (stored : is_kept station.options which ≡ true) (asking : Asking)
          (asking_is : asking_of live.rest.real station.named (uuid_of before) caller call blocks which ≡ Ok (Some asking))
          (by : IsAskedBy (uuid_of before) caller call which asking) where
        abbrev for_record : IsForRecord station live heard asking
        for_record = record {
          caller = caller;
          address = address;
          call = call;
          is = refl;
          blocks = blocks;
          counted = counted;
          fresh = fresh;
          which = which;
          operation_is = asks;
          asks = asking_is;
          wanted = by.wanted;
          name = by.name;
          of_call = by.of_call;
        }

        -- what is asked then is this call
        same_asked : (question : Question) → Some asking.0 ≡ Some question → question ≡ question_of caller call by.wanted by.name
        same_asked question e = sym (some_is asking.0 question e) ∙ by.of_call

        asks_this : (question : Question) → Some asking.0 ≡ Some question → IsAsking heard question
        asks_this question e =
            let same = same_asked question e in
            record {
              address = address;
              call = call;
              is = ap (λ (c : Caller). Reported c address (Calls call)) (sym (ap (λ (q : Question). q.caller) same));
              header = ap (λ (q : Question). q.header) same;
              maximum = ap (λ (q : Question). q.args_maximum) same;
              asks = asks ∙ ap (λ (o : Operation). let x : Option Operation = Some o in x)
                  (sym (ap (λ (q : Question). operation_asked q.request) same ∙ by.operation_is));
            }

        related_this : (question : Question) → Some asking.0 ≡ Some question
            → (uuid : List ℕ) × (uuid_of before ≡ Some uuid) × (is_of_relation uuid question.request ≡ true)
        related_this question e = (by.uuid, by.in_one, ap (λ (q : Question). is_of_relation by.uuid q.request) (same_asked question e) ∙ by.own)

        -- it is asked
        puts : question_in live.rest.asked ≡ None → Comes_to heard (Moves (record live.rest { asked = asked_with asking.0 asking.1 live.rest.asked }) [])
        puts free = λ answers. record {
          does = inr (inr (inr (inr (inr (inl (record { asking = asking; new_call = for_record; free = free; becomes = refl; silent = refl }))))));
          is = inl (record { link = inl refl; calm = tt });
          diagnoses = inl refl;
          modules = inl refl;
          answers = inl refl;
          orderly = λ orderly. orderly;
          owed = tt;
          asked = λ question e. inr (asks_this question e);
          related = λ related question e. related_this question e;
        }

        -- ---- a Read Implicit gives way to it

        module _ (other : Question) (asked : question_in live.rest.asked ≡ Some other) (implicit : is_implicit other.request ≡ true)
            (own_first : station.options.asks_own_first ≡ true) where
          abbrev busy_reply : Sent
          busy_reply = refused_reply from Busy other

          -- what is stored of its response, and what is sent
          pub record IsRefused (calls : List Answer) (sent : List Sent) : Type 0 where
            pub calm : AreCalm before sent
            pub answers : (calls ≡ live.rest.calls) ⊎ Answers station.identity live.rest.calls calls sent
            pub owed : AllByRecursion (IsOwed heard live) sent

          unsent : IsRefused live.rest.calls []
          unsent = record { calm = tt; answers = inl refl; owed = tt }

          busy_owed : AllByRecursion (IsOwed heard live) (busy_reply ∷ [])
          busy_owed = (inr (record { question = other; is = asked; own = refl; header = refl; maximum = refl }), tt)

          by_looked : (reported : Looked)
              → IsRefused (behind_reported 4 (kept_reply station.identity other busy_reply) live.rest.calls reported) (where_due (is_new_call reported) (busy_reply ∷ []))
          by_looked new = record {
            calm = (tt, tt);
            answers = inr (record {
              call = call_of other;
              caller = other.caller;
              address = from;
              answer = answer_to (call_of other) (unanswered_status (operation_asked other.request) Busy) [];
              first = [];
              others = [];
              keeps = refl;
              sends = refl;
            });
            owed = busy_owed;
          }
          by_looked (again frame) = unsent
          by_looked old = unsent

          by_stored : (kept : Bool) → IsRefused (calls_after kept station.identity other busy_reply live.rest.calls) (question_replies kept other busy_reply live.rest.calls)
          by_stored true = by_looked (looked other.header.activity other.header.sequence live.rest.calls)
          by_stored false = record { calm = (tt, tt); answers = inl refl; owed = busy_owed }

          by_address : (zero : Bool)
              → IsRefused (cond zero live.rest.calls (calls_after (is_stored other) station.identity other busy_reply live.rest.calls))
              (cond zero [] (question_replies (is_stored other) other busy_reply live.rest.calls))
          by_address true = unsent
          by_address false = by_stored (is_stored other)

          displaces : Comes_to heard (handled_question station live asking.0 (Some other) (Some (asked_with asking.0 asking.1 (settled live.rest.asked))))
          displaces answers =
              let refused = by_address (is_zero from) in
              record {
                does = inr (inr (inr (inr (inr (inr (inr (inr (record {
                  question = other;
                  asked = asked;
                  implicit = implicit;
                  does = inr (own_first, record { asking = asking; new_call = for_record; moves = refl });
                }))))))));
                is = inl (record { link = inl refl; calm = refused.calm });
                diagnoses = inl refl;
                modules = inl refl;
                answers = refused.answers;
                orderly = λ orderly. orderly;
                owed = refused.owed;
                asked = λ question e. inr (asks_this question e);
                related = λ related question e. related_this question e;
              }

        -- another one is asked, so this one is refused
        abbrev busy_answer : Sent
        busy_answer = CallAnswer caller from (answer_to call (unanswered_status which Busy) [])

        declines : (other : Question) → question_in live.rest.asked ≡ Some other
            → Comes_to heard (Moves (record live.rest { calls = kept_more 4 (kept_for station.identity call busy_answer) live.rest.calls }) (busy_answer ∷ []))
        declines other is = λ answers. record {
          does = inr (inr (inr (inr (inr (inr (inl (record {
            asking = asking;
            new_call = for_record;
            other = other;
            busy = is;
            undone = busy_undone which;
            becomes = refl;
            sends = refl;
          })))))));
          is = inl (record { link = inl refl; calm = (tt, tt) });
          diagnoses = inl refl;
          modules = inl refl;
          answers = inr (record {
            call = call;
            caller = caller;
            address = from;
            answer = answer_to call (unanswered_status which Busy) [];
            first = [];
            others = [];
            keeps = refl;
            sends = refl;
          });
          orderly = λ orderly. orderly;
          owed = (inl (record { address = address; call = call; is = refl; header = refl; maximum = refl; status = busy_sized which }), tt);
          asked = still_later heard live.rest.asked live.rest.asked (inl refl);
          related = λ related. related;
        }

        -- the response with the status of an operation, by what the cache says
        abbrev reply_with : Operation → Looked → Handled
        reply_with one reported =
            let answer = CallAnswer caller from (answer_to call (unanswered_status one Busy) []) in
            Moves (record live.rest { calls = behind_reported 4 (kept_for station.identity call answer) live.rest.calls reported })
            (where_due (is_new_call reported) (answer ∷ []))

        -- the same, which is stored or not
        abbrev reply_so : Operation → Bool → Handled
        reply_so one kept =
            let answer = CallAnswer caller from (answer_to call (unanswered_status one Busy) []) in
            Moves (record live.rest { calls = behind_if kept (kept_for station.identity call answer) live.rest.calls })
            (where_due (is_new_call (looked_if kept call.header.activity call.header.sequence live.rest.calls)) (answer ∷ []))

        declined_as : (other : Question) → question_in live.rest.asked ≡ Some other → Comes_to heard (handled_question station live asking.0 None None)
        declined_as other is =
            subst (λ (q : Question). Comes_to heard (handled_question station live q None None)) (sym by.of_call)
            (subst (λ (o : Operation). Comes_to heard (reply_so o (is_kept station.options o))) (sym by.operation_is)
            (subst (λ (kept : Bool). Comes_to heard (reply_so which kept)) (sym stored)
            (subst (λ (reported : Looked). Comes_to heard (reply_with which reported)) (sym fresh) (declines other is))))

        asks_as : (standing : Option AskedStanding) → live.rest.asked.standing ≡ standing
            → Comes_to heard (handled_question station live asking.0 None (asks_beside asking.0 asking.1 live.rest.asked standing))
        asks_as None is = puts (ap (λ (s : Option AskedStanding). option_map (λ (t : AskedStanding). t.question) s) is)
        asks_as (Some standing) is = declined_as standing.question (ap (λ (s : Option AskedStanding). option_map (λ (t : AskedStanding). t.question) s) is)

        -- by what it displaces
        question_as : (displaced : Option Question) → displaced_by station.options.asks_own_first asking.0 live.rest.asked ≡ displaced
            → Comes_to heard (handled_asked station live asking displaced)
        question_as None is = asks_as live.rest.asked.standing refl
        question_as (Some other) is =
            let there = displaced_is station.options.asks_own_first asking.0 live.rest.asked other is in
            displaces other there.1 there.2 there.0

      -- a Read or a Write, by what it asks
      asking_as : (which : Operation) (asking : Result (Option Asking) CallFault) → operation_of call.header.operation ≡ Some which
          → is_kept station.options which ≡ true → asking_of live.rest.real station.named (uuid_of before) caller call blocks which ≡ asking → IsPlainIn asking
          → ((some : Asking) → asking ≡ Ok (Some some) → IsAskedBy (uuid_of before) caller call which some)
          → IsPlannedAs rules station.named live.rest.real call.header.sequence blocks (Some which)
          → Comes_to heard (handled_asking station live caller call blocks which asking)
      asking_as which (Ok None) asks stored is plain by plan = own_call which asks plan
      asking_as which (Ok (Some asking)) asks stored is plain by plan =
          question_as which asks stored asking is (by asking refl) (displaced_by station.options.asks_own_first asking.0 live.rest.asked) refl
      asking_as which (Err why) asks stored is plain by plan = fails unlogged which why before asks stored plain refl

      new_call : (which : Operation) → operation_of call.header.operation ≡ Some which
          → IsPlannedAs rules station.named live.rest.real call.header.sequence blocks (Some which)
          → Comes_to heard (handled_new station live caller call blocks which)
      new_call operation.Connect asks plan = own_call operation.Connect asks plan
      new_call operation.Release asks plan = own_call operation.Release asks plan
      new_call operation.Control asks plan = own_call operation.Control asks plan
      new_call operation.Write asks plan =
          asking_as operation.Write (asking_of live.rest.real station.named (uuid_of before) caller call blocks operation.Write) asks refl refl
          (asking_plain live.rest.real station.named (uuid_of before) caller call blocks operation.Write)
          (λ asking is. write_asks live.rest.real station.named (uuid_of before) caller call asking blocks (write_within (uuid_of before) blocks) refl is) plan
      new_call operation.Read asks plan =
          asking_as operation.Read (asking_of live.rest.real station.named (uuid_of before) caller call blocks operation.Read) asks refl refl
          (asking_plain live.rest.real station.named (uuid_of before) caller call blocks operation.Read)
          (λ asking is. read_asks live.rest.real station.named (uuid_of before) caller call asking blocks (request_within (uuid_of before) blocks) refl is) plan
      new_call operation.ReadImplicit asks plan = absurd plan

    repeats : (frame : List ℕ) → looked call.header.activity call.header.sequence live.rest.calls ≡ again frame → Comes_to heard (Moves live.rest (Again frame ∷ []))
    repeats frame reported = λ answers.
        let there = again_is call.header.sequence (kept_of call.header.activity live.rest.calls) frame reported in
        record {
          does = inr (inr (inr (inl (record {
            caller = caller;
            address = address;
            call = call;
            is = refl;
            kept = there.0;
            there = there.1;
            number = there.2;
            same = refl;
            sends = ap (λ (f : List ℕ). Again f ∷ []) (sym there.3);
          }))));
          is = inl (record { link = inl refl; calm = (tt, tt) });
          diagnoses = inl refl;
          modules = inl refl;
          answers = inl refl;
          orderly = λ orderly. orderly;
          owed = (record { caller = caller; address = address; call = call; is = refl; kept = there.0; there = there.1; same = there.3 }, tt);
          asked = still_later heard live.rest.asked live.rest.asked (inl refl);
          related = λ related. related;
        }

    looked_call : (blocks : List ℕ) (which : Operation) (reported : Looked) → operation_of call.header.operation ≡ Some which → call.blocks ≡ Some blocks
        → looked call.header.activity call.header.sequence live.rest.calls ≡ reported
        → IsPlannedAs rules station.named live.rest.real call.header.sequence blocks (Some which)
        → Comes_to heard (handled_looked station live caller call blocks which reported)
    looked_call blocks which new asks counted reported plan = by_repeat (is_repeat call.header.activity call.header.sequence live.rest.asked)
      where
        by_repeat : (b : Bool) → Comes_to heard (cond b (Moves live.rest []) (handled_new station live caller call blocks which))
        by_repeat true = drops heard
        by_repeat false = new_call blocks counted reported which asks plan
    looked_call blocks which (again frame) asks counted reported plan = repeats frame reported
    looked_call blocks which old asks counted reported plan = refuses heard note.OldCall

    -- the response to a call that is planned is stored
    planned_stored : (which : Operation) (blocks : List ℕ) → IsPlannedAs rules station.named live.rest.real call.header.sequence blocks (Some which)
        → is_kept station.options which ≡ true
    planned_stored operation.Connect blocks plan = refl
    planned_stored operation.Release blocks plan = refl
    planned_stored operation.Read blocks plan = refl
    planned_stored operation.Write blocks plan = refl
    planned_stored operation.Control blocks plan = refl
    planned_stored operation.ReadImplicit blocks plan = absurd plan

    counted_call : (which : Operation) (counted : Option (List ℕ)) (blocks : List ℕ) → operation_of call.header.operation ≡ Some which → call.blocks ≡ counted → counted ≡ Some blocks
        → IsPlannedAs rules station.named live.rest.real call.header.sequence blocks (Some which)
        → Comes_to heard (handled_blocks station live caller call which counted)
    counted_call which None blocks asks counted there plan = absurd cc
    counted_call which (Some found) blocks asks counted there plan =
        let planned = subst (λ (b : List ℕ). IsPlannedAs rules station.named live.rest.real call.header.sequence b (Some which)) (sym (some_is found blocks there)) plan in
        subst (λ (kept : Bool). Comes_to heard (handled_looked station live caller call found which
        (looked_if kept call.header.activity call.header.sequence live.rest.calls))) (sym (planned_stored which found planned))
        (looked_call found which (looked call.header.activity call.header.sequence live.rest.calls) asks counted refl planned)

    called : (which : Option Operation) (blocks : List ℕ) → operation_of call.header.operation ≡ which → call.blocks ≡ Some blocks
        → IsPlannedAs rules station.named live.rest.real call.header.sequence blocks which → Comes_to heard (handled_call station live caller call which)
    called None blocks asks there plan = absurd plan
    called (Some which) blocks asks there plan = counted_call which call.blocks blocks asks refl there plan

  says : (caller : Caller) (address : List ℕ) (said : Said) → IsPlannedIn rules activity station.named live.rest.real said
      → Comes_to (Reported caller address said) (handled_said station live caller said)
  says caller address (Calls call) plan = called caller address call (operation_of call.header.operation) plan.blocks refl plan.counted plan.asks
  says caller address (Responds response) plan = responds caller address response (is_in_exchange before)
  says caller address Garbled plan = refuses (Reported caller address Garbled) note.Fault

  reported : (caller : Caller) (address : List ℕ) (said : Said) (b : Bool) → IsPlannedIn rules activity station.named live.rest.real said
      → Comes_to (Reported caller address said) (cond b (handled_said station live caller said) (Refuses note.NotMine))
  reported caller address said true plan = says caller address said plan
  reported caller address said false plan = refuses (Reported caller address said) note.NotMine

  turns : (heard : Heard) → IsPlanned rules activity station.named live.rest.real heard → Comes_to heard (handled station live heard)
  turns (Asks asker request) plan = requests asker request.service request
  turns (Resolves asker packet) plan = resolves asker packet (is_request packet.operation && is_running live.values.running packet.target.address)
  turns (Reported caller address said) plan = reported caller address said (is_running live.values.running address) plan
  turns (Alarms source header message) plan =
      alarms (Alarms source header message) source header (λ planned. tt) message (is_alarm_of source header.destination header.source before) (inl refl)
  turns (LowReplies source header message) plan = low_replies source header message (has_sent_low before) refl
  turns (LowConfirms source header message) plan = low_confirms source header message (has_sent_low before) refl
  turns (Applied (local.Diagnosis slot subslot channel error appears)) plan =
      let change = change_of slot subslot channel error appears in
      diagnoses_as change (is_some (submodule_ident live.rest.real.modules.items change.diagnosis.slot change.diagnosis.subslot)) (is_full_in before) refl
  turns (Cyclic source frame_id body) plan = receives source frame_id body before refl
  turns (Applied (local.Input slot subslot value)) plan = gives slot subslot value.items (given_to slot subslot value.items before) refl
  turns (Applied (local.Alarm slot subslot octets)) plan = raises slot subslot octets.items (raised_to live.rest.real.modules.items slot subslot octets.items before) refl
  turns (Applied (local.Status slot subslot is_good)) plan =
      rates slot subslot is_good (statuses_at live.rest.real.modules.items (record { slot = slot; subslot = subslot; is_good = is_good }) live.rest.statuses)
  turns (Applied (local.Pull slot subslot)) plan =
      modules_as (Applied (local.Pull slot subslot)) (λ planned. tt) (pull_of real slot subslot) refl (outside slot (pulled slot subslot real)) refl
  turns (Applied (local.PullModule slot)) plan =
      modules_as (Applied (local.PullModule slot)) (λ planned. tt) (slot_pull_of real slot) refl (outside slot (slot_pulled slot real)) refl
  turns (Applied (local.Plug slot ident part)) plan =
      modules_as (Applied (local.Plug slot ident part)) (λ planned. tt) (plug_of slot ident part) refl (plugged_with slot ident part real) refl
  turns (Applied (local.ReadyAt slot subslot)) plan = readied_as slot subslot (is_readied_in slot subslot before)
  turns (Applied (local.Answer number octets)) plan = answers_so (Applied (local.Answer number octets)) (λ planned. refl) number (gives_octets octets.items)
  turns (Applied (local.Written number)) plan = answers_so (Applied (local.Written number)) (λ planned. refl) number gives_done
  turns (Applied (local.Refuse number code1 code2)) plan = answers_so (Applied (local.Refuse number code1 code2)) (λ planned. refl) number
      (gives_refusal code1 code2)
  turns (Met peer) plan = meets peer
  turns (Applied local.Ready) plan = readies before refl
  turns (Applied (local.ProviderState is_running)) plan = turns_so is_running
  turns Ticks plan = ticks_with (live.rest.lamp - 1) (units_after 1 live.rest.units)
      (err_log (due_of before).farewell (units_after 1 live.rest.units) live.rest.log) before refl
  turns Unreadable plan = refuses Unreadable note.Fault
  turns Elsewhere plan = refuses Elsewhere note.NotMine

-- a step, whatever the flash did
pub step_turns : (rules : Rules TakenRecord Request) (activity : List ℕ) (outcomes : List Outcome) (station : Station) (live : Live) (heard : Heard)
    → IsPlanned rules activity station.named live.rest.real heard
    → Turn station live heard (heard_step outcomes station live heard).live.rest (heard_step outcomes station live heard).sent
unfolding heard_step handled_step
step_turns rules activity outcomes station live heard plan =
    turns rules activity station live heard plan (carried outcomes live.values (items_in (handled station live heard))).answers

pub step_numbers : (rules : Rules TakenRecord Request) (activity : List ℕ) (outcomes : List Outcome) (station : Station) (live : Live) (heard : Heard)
    → IsPlanned rules activity station.named live.rest.real heard
    → BeginsNumbered station.options live.rest.link (heard_step outcomes station live heard).live.rest.link
step_numbers rules activity outcomes station live heard plan =
    does_numbered station live heard (heard_step outcomes station live heard).live.rest (heard_step outcomes station live heard).sent
    (step_turns rules activity outcomes station live heard plan).does

pub step_raises : (outcomes : List Outcome) (station : Station) (live : Live) (slot subslot : ℕ) (octets : List ℕ)
    → IsRaise live.rest.real.modules.items live.rest.link slot subslot octets (heard_step outcomes station live (alarm_heard slot subslot octets)).live.rest.link
    (heard_step outcomes station live (alarm_heard slot subslot octets)).sent
unfolding heard_step handled_step
step_raises outcomes station live slot subslot octets =
    raise_as station live slot subslot octets (raised_to live.rest.real.modules.items slot subslot octets live.rest.link)
    (carried outcomes live.values (items_in (handled station live (alarm_heard slot subslot octets)))).answers refl
