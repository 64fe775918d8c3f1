-- What becomes of the inputs that a relation sends, and of the statuses that the application gave, with any event at its device.
use Rattle.std.proofs.Common.{◌≡◌, ◌⊎◌, inl, inr, ◌&&◌, ℕ, Bool, true, false, cond, List, [], ◌∷◌, Option, Some, None, option_map, Result, Ok, Err, refl, sym, ap, subst, ◌∙◌}
use Rattle.std.specs.Prelude.{if◌then◌else◌, is_some, not, unwrap_or}
use Rattle.wire.specs.Codec.{◌>>=◌}
use Rattle.pn_values.specs.declared.mac.Mac.{Mac}
use Rattle.pn_values.specs.declared.real.RealModule.{RealModule}
use Rattle.pn_values.specs.declared.set_item.BlockError.{BlockError}
use Rattle.frame_codec.specs.declared.udp.Caller.{Caller}
use Rattle.dcp_core.specs.declared.request.Service.{Service}
use Rattle.dcp_core.specs.declared.request.Service.TheVariants as service
use Rattle.dcp_core.specs.Request.{Asked}
use Rattle.dcp_core.specs.Identify.{matches}
use Rattle.dcp_core.specs.Set.{plan_of}
use Rattle.rpc_core.specs.Cache.{Reported as Looked, new, again, old}
use Rattle.rpc_core.specs.Call.{Asked as Call}
use Rattle.rpc_core.specs.Response.{Answered}
use Rattle.rpc_core.specs.declared.response.Status.{Status}
use Rattle.connect_blocks.specs.declared.plug_control.PlugControlBlock.{PlugControlBlock}
use Rattle.record_blocks.specs.declared.write_record.IodWriteReq.{IodWriteReq}
use Rattle.records.specs.declared.status.call_fault.CallFault.{CallFault}
use Rattle.records.specs.declared.status.call_fault.CallFault.TheVariants as fault
use Rattle.records.specs.declared.status.operation.Operation.{Operation}
use Rattle.records.specs.declared.status.operation.Operation.TheVariants as operation
use Rattle.records.specs.status.Operation.{operation_of}
use Rattle.records.specs.declared.writes.write.Effect.{Effect}
use Rattle.records.specs.declared.writes.write.Effect.TheVariants.{Stores, Keeps}
use Rattle.records.specs.declared.writes.write.Write.{Write}
use Rattle.records.specs.declared.writes.writing.Writing.{Writing}
use Rattle.records.specs.declared.writes.writing.Writing.TheVariants.{One, Each}
use Rattle.records.specs.writes.Asked.{writing_of}
use Rattle.records.specs.calls.Naming.{is_relation}
use Rattle.device_records.specs.Reading.{implicit_read, relation_read}
use Rattle.asked_records.specs.Answers.{Gives as GivesAnswer, gives_octets, gives_done, gives_refusal, is_refusal, judged}
use Rattle.asked_records.specs.Asked.{AskedState, asks, behind_displaced, displaced_by, is_repeat}
use Rattle.asked_records.specs.Questions.{header_of}
use Rattle.asked_records.specs.declared.answering.AnswerFault.{AnswerFault}
use Rattle.asked_records.specs.declared.question.Question.{Question}
use Rattle.pn_alarms.specs.declared.abort.Abort.{Abort}
use Rattle.pn_alarms.specs.declared.device.PduFate.{PduFate}
use Rattle.pn_alarms.specs.declared.device.PduFate.TheVariants as fate
use Rattle.pn_alarms.specs.declared.pdu.Header.{Header}
use Rattle.pn_alarms.specs.Device.{end_with}
use Rattle.pn_alarms.specs.Message.{ToDevice as Message}
use Rattle.pn_alarms.specs.Sender.{notice_of}
use Rattle.module_diff.specs.Plugged.{module_ident, submodule_ident}
use Rattle.module_diff.specs.declared.changes.Affected.{Affected}
use Rattle.module_diff.specs.declared.changes.RealChange.{RealChange}
use Rattle.module_diff.specs.Changes.{affected_by, plugged_with, pulled, slot_pulled}
use Rattle.module_diff.specs.Diff.{is_listed}
use Rattle.diagnosis.specs.Existing.{changed as changed_list, remaining}
use Rattle.diagnosis.specs.Queue.{is_next}
use Rattle.expected_places.specs.Calls.{counted}
use Rattle.expected_places.specs.Machine.{PlugState, answered as plug_answered, is_hit, next_called, readied}
use Rattle.diagnosis.specs.declared.diagnosis.Change.{Change}
use Rattle.diagnosis.specs.declared.diagnosis.Diagnosis.{Diagnosis}
use Rattle.cyclic_data.specs.declared.exchange.received.Received.{Received}
use Rattle.cyclic_data.specs.declared.exchange.received.Received.TheVariants as received
use Rattle.cyclic_data.specs.declared.tail.CyclicTail.{CyclicTail}
use Rattle.cyclic_data.specs.declared.tail.ShortFrame.{ShortFrame}
use Rattle.cyclic_data.specs.Tail.{cyclic_of}
use Rattle.cyclic_data.specs.Image.{Shown as Image}
use Rattle.cyclic_data.specs.exchange.Cyclic.{Cyclic as CyclicEnd}
use Rattle.cyclic_data.specs.exchange.Received.{behind_frame as cyclic_behind, behind_read, is_new, is_of_partner, taken_from}
use Rattle.connects.specs.declared.requests.parts.Ar.{Ar}
use Rattle.connects.specs.requests.Handled.{admitted, any_short, ar_in, request_behind, request_in, request_of, request_within}
use Rattle.connects.specs.requests.Pieces.{Piece, pieces_of}
use Rattle.connects.specs.requests.Request.{Request}
use Rattle.relations.specs.declared.hearing.ReadyAnswer.{ReadyAnswer}
use Rattle.relations.specs.declared.hearing.ReadyAnswer.TheVariants as to_ready
use Rattle.relations.specs.declared.exchange.statuses.InputStatus.{InputStatus}
use Rattle.relations.specs.declared.phase.Partner.{Partner}
use Rattle.relations.specs.declared.phase.Phase.TheVariants.{Awaiting}
use Rattle.relations.specs.exchange.Diagnosis.{begins_with_one, behind_low, diagnosed, diagnoses_begun, is_diagnosed, next_reported}
use Rattle.relations.specs.exchange.Flow.{Flow}
use Rattle.relations.specs.exchange.Notices.{behind_message, may_raise, raised_at, raised_by}
use Rattle.relations.specs.exchange.Process.{given_at, rated_at, turned}
use Rattle.relations.specs.exchange.Received.{behind_frame, received_as}
use Rattle.relations.specs.exchange.Statuses.{statuses_at}
use Rattle.relations.specs.RelationState.{RelationState, is_alarm_of, is_in_exchange, is_preparing, phase_of, uuid_of}
use Rattle.relations.specs.declared.plugging.PlugAnswer.{PlugAnswer}
use Rattle.relations.specs.declared.plugging.PlugAnswer.TheVariants as to_plug
use Rattle.relations.specs.Plugging.{answered_with, calling_next, changed_by, ended_by, first_sent, flow_reported, flow_then, is_crowded, is_plug_control, is_readied_in, places_then, plug_answer_in, plug_end_in, plug_ended, plugs_after, plugs_answered, plugs_then, readying_at, rows_now, sent_then, step_by, taken_after}
use Rattle.relations.specs.Phases.{Handled as Event, Ended, Named, Parameterized, Prepared, Records, Unmoved, answered, exchanging_from, keeping, parameterized_from, passing_by, prepared_from, restarted, taking, updated, with_flow, with_records, with_reported}
use Rattle.relations.specs.Calls.{prm_end_of, release_of}
use Rattle.relations.specs.Connect.{connect_of, connect_within, is_foreign, making}
use Rattle.relations.specs.Diagnosed.{heard_low, hearing_low, has_sent_low}
use Rattle.relations.specs.Exchanged.{given_to, heard_by, hearing_as, raised_to, received_by, receiving_as}
use Rattle.relations.specs.Ready.{answer_of as ready_answer}
use Rattle.relations.specs.Timers.{ending_of, is_timed, unit_later}
use Rattle.device_frames.specs.declared.local.Local.TheVariants as local
use Rattle.device_frames.specs.Heard.{Heard, Ticks, Unreadable, Elsewhere, Asks, Resolves, Reported, Cyclic, Alarms, LowReplies, LowConfirms, Applied, Met, Said, Calls, Responds, Garbled}
use Rattle.device_frames.specs.Relation.{ready_calls}
use Rattle.device_frames.specs.Sent.{IdentifyAnswer, ArpReply}
use Rattle.device_frames.specs.declared.note.Note.{Note}
use Rattle.device_frames.specs.declared.note.Note.TheVariants as note
use Rattle.settings_journal.specs.settings_store.Machine.{Outcome, carried}
use Rattle.device_core.specs.State.{Station, Live, Rest, alias_in}
use Rattle.device_core.specs.Modules.{calling_after, changed_rest, outside, plug_of, pull_of, sent_after, slot_pull_of}
use Rattle.device_core.specs.Handled.{change_of, handled, Handled, handled_alarm, handled_answer, handled_asking, handled_blocks, handled_call, handled_change, handled_effect, handled_input, handled_judged, handled_looked, handled_low, handled_low_message, handled_low_pdu, handled_message, handled_modules, handled_new, handled_next_call, handled_notice, handled_own, handled_pdu, handled_plug_answer, handled_plug_end, handled_prm_end, handled_question, handled_received, handled_request, handled_said, handled_unanswered, handled_write, implicitly, is_request, is_running, kept_status, known_of, may_be_diagnosed, Moves, partner_of, Refuses, starting_of, ticked}
use Rattle.device_core.specs.Asking.{Asking, asking_of, is_kept, looked_if, source_of}
use Rattle.device_core.specs.Several.{Judged, judged_each}
use Rattle.device_core.specs.Machine.{Finished, effect_link, finished, first_answer, handled_step, heard_step, items_in, link_after, link_behind, one_link, resets, written_as}
use Rattle.relations.specs.declared.options.DeviceOptions.{DeviceOptions}
use Rattle.end_laws.specs.device.Turn.{input_heard}
use Rattle.inputs_law.specs.Given.{carried_out, left_statuses, renewed_in}
use Rattle.inputs_law.proofs.GivenCells.{Provided, Values, give_is, provided_in}
use Rattle.inputs_law.proofs.GivenChanges.{renew_if, renew_is, restate_all}
use Rattle.inputs_law.proofs.GivenValues.{provided_by, rated_if, renewed_values, said_in, values_by}
use Rattle.inputs_law.proofs.PlacesShut.{AreEven, GoesOn, even_answered, even_changed, goes_after, goes_both, goes_ended, goes_places}

some_is : {A : Type 0} (x y : A) → Some x ≡ Some y → x ≡ y
some_is x y e = cc

none_some : {A : Type 0} {P : Type 0} (y : A) → None ≡ Some y → P
none_some y e = absurd (no_some e)
  where
    no_some : None ≡ Some y → ⊥
    no_some e = cc

-- ---- a second Connect

-- while a relation exists, no Connect is accepted
refused_pieces : (uuid : List ℕ) (pieces : List Piece) (request : Request) → request_in (Some uuid) pieces ≡ Ok request → ⊥
unfolding request_in
refused_pieces uuid [] request e = absurd cc
refused_pieces uuid (piece ∷ pieces) request e = by_first (ar_in piece) e
  where
    by_first : (first : Result Ar CallFault) → (first >>= λ ar. admitted (Some uuid) ar >>= λ _. request_behind ar pieces) ≡ Ok request → ⊥
    by_first (Ok ar) e = absurd cc
    by_first (Err why) e = absurd cc

refused_second : (uuid blocks : List ℕ) (request : Request) → request_of (Some uuid) blocks ≡ Ok request → ⊥
unfolding request_of
refused_second uuid blocks request e = refused_pieces uuid (pieces_of blocks) request e

-- the options of the device do not change what is asked for
unlimited_as : (short : Bool) (read : Result Request CallFault) (request : Request) → cond short (Err (fault.IocrField 10)) read ≡ Ok request → read ≡ Ok request
unlimited_as true read request e = absurd cc
unlimited_as false read request e = e

own_as : (foreign : Bool) (read : Result Request CallFault) (request : Request) → cond foreign (Err (fault.ArField 7)) read ≡ Ok request → read ≡ Ok request
own_as true read request e = absurd cc
own_as false read request e = e

pub unlimited : (options : DeviceOptions) (source : Mac) (link : Option RelationState) (blocks : List ℕ) (request : Request) → connect_within options source link blocks ≡ Ok request
    → connect_of link blocks ≡ Ok request
unfolding request_within
unlimited options source link blocks request e =
    let read = own_as (is_foreign options source link blocks) (request_within options.smallest_interval (uuid_of link) blocks) request e in
    unlimited_as (any_short options.smallest_interval (uuid_of link) (pieces_of blocks)) (connect_of link blocks) request read

second_refused : (link : RelationState) (options : DeviceOptions) (source : Mac) (blocks : List ℕ) (request : Request) → connect_within options source (Some link) blocks ≡ Ok request → ⊥
second_refused link options source blocks request e = refused_second link.request.ar.uuid blocks request (unlimited options source (Some link) blocks request e)

-- ---- the statuses

module _ (station : Station) (live : Live) where
  abbrev KeepsSaid : Handled → Type 0
  KeepsSaid what = (answers : List BlockError) → (finished station.identity live.rest what answers).rest.statuses ≡ live.rest.statuses

  kept_if : (b : Bool) (x y : Handled) → KeepsSaid x → KeepsSaid y → KeepsSaid (if b then x else y)
  kept_if true x y one other = one
  kept_if false x y one other = other

  refuses_said : (why : Note) → KeepsSaid (Refuses why)
  refuses_said why = λ answers. refl

  request_said : (asker : Mac) (which : Service) (request : Asked) → KeepsSaid (handled_request station live asker which request)
  request_said asker service.Identify request = kept_if (matches station.identity live.values.running (alias_in live.rest.peer) request) _ _ (λ answers. refl) (λ answers. refl)
  request_said asker service.Get request = λ answers. refl
  request_said asker service.Set request = λ answers. refl

  effect_said : (caller : Caller) (call : Call) (header : IodWriteReq) (effect : Effect) → KeepsSaid (handled_effect station live caller call header effect)
  effect_said caller call header (Stores value) = λ answers. refl
  effect_said caller call header (Keeps parameter) = λ answers. refl

  write_said : (caller : Caller) (call : Call) (writing : Result Writing CallFault) → KeepsSaid (handled_write station live caller call writing)
  write_said caller call (Ok (One write)) = effect_said caller call write.request write.effect
  write_said caller call (Ok (Each header entries)) = λ answers. refl
  write_said caller call (Err why) = λ answers. refl

  own_said : (caller : Caller) (call : Call) (blocks : List ℕ) (which : Operation) → KeepsSaid (handled_own station live caller call blocks which)
  own_said caller call blocks operation.Connect = λ answers. refl
  own_said caller call blocks operation.Release = λ answers. refl
  own_said caller call blocks operation.Read = λ answers. refl
  own_said caller call blocks operation.Write = write_said caller call (writing_of (uuid_of live.rest.link) live.rest.real blocks)
  own_said caller call blocks operation.Control =
      kept_if (is_plug_control blocks live.rest.link) _ _ (λ answers. refl) (λ answers. refl)
  own_said caller call blocks operation.ReadImplicit = λ answers. refl

  question_said : (question : Question) (displaced : Option Question) (asked : Option AskedState) → KeepsSaid (handled_question station live question displaced asked)
  question_said question displaced (Some asked) = λ answers. refl
  question_said question displaced None = λ answers. refl

  asking_said : (caller : Caller) (call : Call) (blocks : List ℕ) (which : Operation) (asking : Result (Option Asking) CallFault)
      → KeepsSaid (handled_asking station live caller call blocks which asking)
  asking_said caller call blocks which (Ok None) = own_said caller call blocks which
  asking_said caller call blocks which (Ok (Some asking)) =
      let displaced = displaced_by station.options.asks_own_first asking.0 live.rest.asked in
      question_said asking.0 displaced (asks asking.0 asking.1 (behind_displaced displaced live.rest.asked))
  asking_said caller call blocks which (Err why) = λ answers. refl

  unanswered_said : (caller : Caller) (call : Call) (blocks : List ℕ) (which : Operation) → KeepsSaid (handled_unanswered station live caller call blocks which)
  unanswered_said caller call blocks which =
      kept_if (is_repeat call.header.activity call.header.sequence live.rest.asked) _ _ (λ answers. refl)
      (asking_said caller call blocks which (asking_of live.rest.real station.named (uuid_of live.rest.link) caller call blocks which))

  looked_said : (caller : Caller) (call : Call) (blocks : List ℕ) (which : Operation) (found : Looked) → KeepsSaid (handled_looked station live caller call blocks which found)
  looked_said caller call blocks which new = unanswered_said caller call blocks which
  looked_said caller call blocks which (again frame) = λ answers. refl
  looked_said caller call blocks which old = λ answers. refl

  counted_said : (caller : Caller) (call : Call) (which : Operation) (blocks : Option (List ℕ)) → KeepsSaid (handled_blocks station live caller call which blocks)
  counted_said caller call which None = λ answers. refl
  counted_said caller call which (Some blocks) =
      looked_said caller call blocks which (looked_if (is_kept station.options which) call.header.activity call.header.sequence live.rest.calls)

  call_said : (caller : Caller) (call : Call) (which : Option Operation) → KeepsSaid (handled_call station live caller call which)
  call_said caller call None = λ answers. refl
  call_said caller call (Some which) = counted_said caller call which call.blocks

  answer_said : (meaning : ReadyAnswer) → KeepsSaid (handled_answer station live meaning)
  answer_said to_ready.NotWanted = λ answers. refl
  answer_said to_ready.Garbled = λ answers. refl
  answer_said to_ready.Confirmed = λ answers. refl
  answer_said (to_ready.Refused farewell) = λ answers. refl

  plug_answer_said : (response : Answered) (meaning : PlugAnswer) → KeepsSaid (handled_plug_answer live response meaning)
  plug_answer_said response to_plug.NotWanted = λ answers. refl
  plug_answer_said response to_plug.Garbled = λ answers. refl
  plug_answer_said response to_plug.Confirmed = λ answers. refl
  plug_answer_said response to_plug.Refused = λ answers. refl

  datagram_said : (caller : Caller) (said : Said) → KeepsSaid (handled_said station live caller said)
  datagram_said caller (Calls call) = call_said caller call (operation_of call.header.operation)
  datagram_said caller (Responds response) =
      kept_if (is_in_exchange live.rest.link) _ _ (plug_answer_said response (plug_answer_in response live.rest.link))
      (answer_said (ready_answer response live.rest.link))
  datagram_said caller Garbled = λ answers. refl

  pdu_said : (what : PduFate) (link : Option RelationState) → KeepsSaid (handled_pdu live what link)
  pdu_said (fate.Data taken) link = λ answers. refl
  pdu_said fate.Done link = λ answers. refl
  pdu_said fate.Ignored link = λ answers. refl
  pdu_said (fate.Aborted status) link = λ answers. refl

  alarm_said : (source : Mac) (header : Header) (message : Message) → KeepsSaid (handled_alarm live source header message)
  alarm_said source header message = kept_if (is_alarm_of source header.destination header.source live.rest.link) _ _ (pdu_said (heard_by message live.rest.link) _) (λ answers. refl)

  low_pdu_said : (what : PduFate) (link : Option RelationState) → KeepsSaid (handled_low_pdu station live what link)
  low_pdu_said (fate.Data taken) link = λ answers. refl
  low_pdu_said fate.Done link = λ answers. refl
  low_pdu_said fate.Ignored link = λ answers. refl
  low_pdu_said (fate.Aborted status) link = λ answers. refl

  low_said : (source : Mac) (header : Header) (message : Message) → KeepsSaid (handled_low station live source header message)
  low_said source header message = kept_if (is_alarm_of source header.destination header.source live.rest.link) _ _ (low_pdu_said (heard_low message live.rest.link) _) (λ answers. refl)

  received_said : (what : Received) (link : Option RelationState) → KeepsSaid (handled_received live what link)
  received_said received.Foreign link = λ answers. refl
  received_said received.Short link = λ answers. refl
  received_said received.Stale link = λ answers. refl
  received_said received.Taken link = λ answers. refl

  input_said : (flow : Option Flow) → KeepsSaid (handled_input live flow)
  input_said (Some flow) = λ answers. refl
  input_said None = λ answers. refl

  notice_said : (flow : Option Flow) → KeepsSaid (handled_notice live flow)
  notice_said (Some flow) = λ answers. refl
  notice_said None = λ answers. refl

  change_said : (change : Change) (later : Option (List Diagnosis)) → KeepsSaid (handled_change station live change later)
  change_said change (Some later) = λ answers. refl
  change_said change None = λ answers. refl

  rated_said : (slot subslot : ℕ) (is_good : Bool) (statuses : Option (List InputStatus)) (answers : List BlockError)
      → (finished station.identity live.rest (kept_status live slot subslot is_good statuses) answers).rest.statuses ≡ unwrap_or statuses live.rest.statuses
  rated_said slot subslot is_good (Some statuses) answers = refl
  rated_said slot subslot is_good None answers = refl

  -- the application answers what is asked, or that is refused
  judged_said : (given : GivesAnswer) (found : Result Question AnswerFault) → KeepsSaid (handled_judged station live given found)
  judged_said given (Ok question) = λ answers. refl
  judged_said given (Err why) = λ answers. refl

  -- something is pulled or plugged, or that is refused
  modules_said : (made : RealChange) (found : Option (List RealModule)) (answers : List BlockError)
      → (finished station.identity live.rest (handled_modules live made found) answers).rest.statuses ≡ left_statuses (carried_out live.rest made found) live.rest.statuses
  modules_said made None answers = refl
  modules_said made (Some real) answers = by_crowd (is_crowded (affected_by made) live.rest.link)
    where
      by_crowd : (b : Bool)
          → (finished station.identity live.rest (if b then Refuses note.Refused else Moves (changed_rest live.rest made real) (sent_after live made real)) answers).rest.statuses
          ≡ left_statuses (if b then None else Some (affected_by made)) live.rest.statuses
      by_crowd true = refl
      by_crowd false = refl

  all_said : (heard : Heard) (answers : List BlockError) → (finished station.identity live.rest (handled station live heard) answers).rest.statuses ≡ said_in live.rest heard live.rest.statuses
  all_said (Asks asker request) = request_said asker request.service request
  all_said (Resolves asker packet) = kept_if (is_request packet.operation && is_running live.values.running packet.target.address) _ _ (λ answers. refl) (λ answers. refl)
  all_said (Reported caller address said) = kept_if (is_running live.values.running address) _ _ (datagram_said caller said) (λ answers. refl)
  all_said (Alarms source header message) = alarm_said source header message
  all_said (LowReplies source header message) = kept_if (has_sent_low live.rest.link) _ _ (low_said source header message) (alarm_said source header message)
  all_said (LowConfirms source header message) = kept_if (has_sent_low live.rest.link) _ _ (low_said source header message) (λ answers. refl)
  all_said (Cyclic source frame_id body) = received_said (received_by source frame_id body live.rest.link) _
  all_said (Applied (local.Input slot subslot value)) = input_said (given_to slot subslot value.items live.rest.link)
  all_said (Applied (local.Alarm slot subslot octets)) = notice_said (raised_to live.rest.real.modules.items slot subslot octets.items live.rest.link)
  all_said (Applied (local.Status slot subslot is_good)) =
      rated_said slot subslot is_good (statuses_at live.rest.real.modules.items (record { slot = slot; subslot = subslot; is_good = is_good }) live.rest.statuses)
  all_said (Met peer) = λ answers. refl
  all_said (Applied (local.Diagnosis slot subslot channel error appears)) =
      let change = change_of slot subslot channel error appears in
      kept_if (may_be_diagnosed station live change) _ _ (change_said change (changed_list change live.rest.diagnoses)) (λ answers. refl)
  all_said (Applied (local.Pull slot subslot)) =
      let real = live.rest.real.modules.items in modules_said (pull_of real slot subslot) (outside slot (pulled slot subslot real))
  all_said (Applied (local.PullModule slot)) =
      let real = live.rest.real.modules.items in modules_said (slot_pull_of real slot) (outside slot (slot_pulled slot real))
  all_said (Applied (local.Plug slot ident part)) = modules_said (plug_of slot ident part) (plugged_with slot ident part live.rest.real.modules.items)
  all_said (Applied (local.ReadyAt slot subslot)) = kept_if (is_readied_in slot subslot live.rest.link) _ _ (λ answers. refl) (λ answers. refl)
  all_said (Applied local.Ready) = kept_if (is_preparing (phase_of live.rest.link)) _ _ (λ answers. refl) (λ answers. refl)
  all_said (Applied (local.ProviderState is_running)) = λ answers. refl
  all_said (Applied (local.Answer number octets)) = judged_said (gives_octets octets.items) (judged number (gives_octets octets.items) live.rest.asked)
  all_said (Applied (local.Written number)) = judged_said gives_done (judged number gives_done live.rest.asked)
  all_said (Applied (local.Refuse number code1 code2)) =
      judged_said (gives_refusal code1 code2) (judged number (gives_refusal code1 code2) live.rest.asked)
  all_said Ticks = λ answers. refl
  all_said Unreadable = λ answers. refl
  all_said Elsewhere = λ answers. refl

pub step_said : (outcomes : List Outcome) (station : Station) (live : Live) (heard : Heard)
    → (heard_step outcomes station live heard).live.rest.statuses ≡ said_in live.rest heard live.rest.statuses
unfolding heard_step handled_step
step_said outcomes station live heard = all_said station live heard (carried outcomes live.values (items_in (handled station live heard))).answers

-- ---- a relation that stays

-- It sends the same inputs, begins them as before, and its places differ and are touched as before.
pub record IsCalm (link next : RelationState) : Type 0 where
  pub same : provided_in next.flow ≡ provided_in link.flow
  pub options : next.options ≡ link.options
  pub goes : AreEven link.plugs.places → GoesOn link.plugs next.plugs

plain : (l next : RelationState) → provided_in next.flow ≡ provided_in l.flow → next.options ≡ l.options → next.plugs.places ≡ l.plugs.places → IsCalm l next
plain l next same options places = record { same = same; options = options; goes = λ even. goes_places l.plugs next.plugs places even }

calm_both : (one two three : RelationState) → IsCalm one two → IsCalm two three → IsCalm one three
calm_both one two three first second = record {
  same = second.same ∙ first.same;
  options = second.options ∙ first.options;
  goes = λ even. goes_both one.plugs two.plugs three.plugs (first.goes even) second.goes;
}

-- An alarm of low priority is first sent with it, or not.
reported_calm : (is_sent : Bool) (flow : Flow) (l : RelationState) → provided_in flow ≡ provided_in l.flow
    → IsCalm l (with_reported flow (taken_after (first_sent is_sent flow.low) l.plugs.places l.taken) (plugs_after (first_sent is_sent flow.low) flow.low.waiting l.plugs) l)
reported_calm is_sent flow l same =
    record { same = same; options = refl; goes = λ even. goes_after (first_sent is_sent flow.low) flow.low.waiting l.plugs even }

-- With an event at a device nothing is pulled or plugged, and nothing is released: it sends what follows from the event.
pub record Gives (rest : Rest) (heard : Heard) (link next : RelationState) : Type 0 where
  pub is : provided_in next.flow ≡ provided_by rest.real.modules.items rest.statuses heard (provided_in link.flow)
  pub none : renewed_in rest heard ≡ None
  pub options : next.options ≡ link.options
  pub goes : AreEven link.plugs.places → GoesOn link.plugs next.plugs

-- Or IOPS and IOCS follow the places, after the inputs of affected ones begin again.
pub record Restates (rest : Rest) (heard : Heard) (link next : RelationState) : Type 0 where
  pub plugs : PlugState
  pub is : provided_in next.flow ≡ restate_all plugs (renew_if (renewed_in rest heard) link.options.inputs_begin_bad (provided_in link.flow))
  pub options : next.options ≡ link.options
  pub even : AreEven link.plugs.places → AreEven plugs.places
  pub goes : AreEven plugs.places → GoesOn plugs next.plugs
  pub values : (values : Values) → values_by rest heard values ≡ renewed_values (renewed_in rest heard) values

abbrev pub IsStep : Rest → Heard → RelationState → RelationState → Type 0
IsStep rest heard link next = Gives rest heard link next ⊎ Restates rest heard link next

module _ (station : Station) (before : Live) (link : RelationState) where
  -- a device with this relation
  abbrev live : Live
  live = record before { rest = record before.rest { link = Some link } }

  abbrev real : List RealModule
  real = live.rest.real.modules.items

  -- a relation that sends the same inputs, if there is one
  abbrev Calm : Option RelationState → Type 0
  Calm after = (next : RelationState) → after ≡ Some next → IsCalm link next

  -- what a relation sends after an event, if there is one
  abbrev Provides : Heard → Finished → Type 0
  Provides heard end = (next : RelationState) → end.rest.link ≡ Some next → IsStep live.rest heard link next

  abbrev Done : Heard → Handled → Type 0
  Done heard what = (answers : List BlockError) → Provides heard (finished station.identity live.rest what answers)

  abbrev Stays : Handled → Type 0
  Stays what = (answers : List BlockError) → Calm (finished station.identity live.rest what answers).rest.link

  calm_as : (now : RelationState) → IsCalm link now → Calm (Some now)
  calm_as now is next e = subst (IsCalm link) (some_is now next e) is

  -- only the exchange changes, and not its inputs
  calm_flow : (flow : Flow) → provided_in flow ≡ provided_in link.flow → Calm (Some (with_flow flow link))
  calm_flow flow same = calm_as (with_flow flow link) (plain link (with_flow flow link) same refl refl)

  calm_stands : Calm live.rest.link
  calm_stands = calm_as link (plain link link refl refl refl)

  calm_none : Calm None
  calm_none next e = none_some next e

  -- what is calm gives nothing
  gives_none : (heard : Heard) (next : RelationState) → ((now : Provided) → provided_by real live.rest.statuses heard now ≡ now) → renewed_in live.rest heard ≡ None
      → IsCalm link next → IsStep live.rest heard link next
  gives_none heard next by none calm =
      inl (record { is = calm.same ∙ sym (by (provided_in link.flow)); none = none; options = calm.options; goes = calm.goes })

  calm_done : (heard : Heard) → ((now : Provided) → provided_by real live.rest.statuses heard now ≡ now) → renewed_in live.rest heard ≡ None
      → (what : Handled) → Stays what → Done heard what
  calm_done heard by none what stays answers next e = gives_none heard next by none (stays answers next e)

  done_if : (heard : Heard) (b : Bool) (x y : Handled) → Done heard x → Done heard y → Done heard (if b then x else y)
  done_if heard true x y one other = one
  done_if heard false x y one other = other

  step_as : (heard : Heard) (now : RelationState) → IsStep live.rest heard link now → (next : RelationState) → Some now ≡ Some next → IsStep live.rest heard link next
  step_as heard now is next e = subst (IsStep live.rest heard link) (some_is now next e) is

  calm_map : (change : RelationState → RelationState) → ((l : RelationState) → IsCalm l (change l)) → (after : Option RelationState) → Calm after → Calm (option_map change after)
  calm_map change same None is next e = none_some next e
  calm_map change same (Some l) is next e = subst (IsCalm link) (some_is (change l) next e) (calm_both link l (change l) (is l refl) (same l))

  calm_named : (source : Partner) (after : Option RelationState) → Calm after → Calm (updated (Named source) after)
  calm_named source after is = calm_map (λ l. restarted source l) (λ l. plain l (restarted source l) refl refl refl) after is

  calm_answered : {A : Type 0} (what : Event) (result : Result A CallFault) (after : Option RelationState) → Calm (updated what after) → Calm after → Calm (updated (answered what result) after)
  calm_answered what (Ok answer) after one other = one
  calm_answered what (Err why) after one other = other

  calm_taking : (result : Result Records CallFault) (after : Option RelationState) → Calm after → Calm (updated (taking result) after)
  calm_taking (Ok records) after is = calm_map (λ l. with_records records l) (λ l. plain l (with_records records l) refl refl refl) after is
  calm_taking (Err why) after is = is

  calm_effect : (effect : Effect) (after : Option RelationState) → Calm after → Calm (effect_link effect after)
  calm_effect (Stores value) after is = is
  calm_effect (Keeps parameter) after is = calm_taking (keeping parameter after) after is

  calm_one : (result : Result Write Status) (after : Option RelationState) → Calm after → Calm (one_link result after)
  calm_one (Ok write) after is = calm_effect write.effect after is
  calm_one (Err why) after is = is

  calm_each : (judged : List Judged) (after : Option RelationState) → Calm after → Calm (link_behind judged after)
  calm_each [] after is = is
  calm_each (one ∷ others) after is = calm_each others (one_link one.1 after) (calm_one one.1 after is)

  stays_if : (b : Bool) (x y : Handled) → Stays x → Stays y → Stays (if b then x else y)
  stays_if true x y one other = one
  stays_if false x y one other = other

  refuses : (why : Note) → Stays (Refuses why)
  refuses why = λ answers. calm_stands

  -- ---- DCP

  set_as : (ends : Bool) → Calm (link_after ends live.rest.link)
  set_as true = calm_none
  set_as false = calm_stands

  requests : (asker : Mac) (which : Service) (request : Asked) → Stays (handled_request station live asker which request)
  requests asker service.Identify request =
      stays_if (matches station.identity live.values.running (alias_in live.rest.peer) request) (Moves live.rest (IdentifyAnswer asker live.values.running request.xid ∷ [])) (Refuses note.Filter)
      (λ answers. calm_stands) (refuses note.Filter)
  requests asker service.Get request = λ answers. calm_stands
  requests asker service.Set request = λ answers. set_as (resets (plan_of (is_some live.rest.link) request) answers)

  -- ---- calls

  alive : (source : Partner) (b : Bool) → Calm (updated (if b then Named source else Unmoved) live.rest.link)
  alive source true = calm_named source live.rest.link calm_stands
  alive source false = calm_stands

  module _ (caller : Caller) where
    connects : (blocks : List ℕ) (read : Result Request CallFault) → connect_within station.options caller.mac live.rest.link blocks ≡ read
        → Calm (updated (making live.rest.real (partner_of caller) station.options (starting_of station live) read) live.rest.link)
    connects blocks (Ok request) e = absurd (second_refused link station.options caller.mac blocks request e)
    connects blocks (Err why) e = calm_stands

    named : {A : Type 0} (result : Result A CallFault) → Calm (updated (answered (Named (partner_of caller)) result) live.rest.link)
    named result = calm_answered (Named (partner_of caller)) result live.rest.link (calm_named (partner_of caller) live.rest.link calm_stands) calm_stands

    effects : (call : Call) (header : IodWriteReq) (effect : Effect) → Stays (handled_effect station live caller call header effect)
    effects call header (Stores value) = λ answers. named (written_as header (first_answer answers))
    effects call header (Keeps parameter) =
        let kept = keeping parameter live.rest.link in
        let taken = calm_taking kept live.rest.link calm_stands in
        λ answers. calm_answered (Named (partner_of caller)) kept (updated (taking kept) live.rest.link) (calm_named (partner_of caller) (updated (taking kept) live.rest.link) taken) taken

    writes : (call : Call) (writing : Result Writing CallFault) → Stays (handled_write station live caller call writing)
    writes call (Ok (One write)) = effects call write.request write.effect
    writes call (Ok (Each header entries)) = λ answers.
        let judged = judged_each station.named (uuid_of live.rest.link) live.rest.real entries in
        calm_named (partner_of caller) (link_behind judged live.rest.link) (calm_each judged live.rest.link calm_stands)
    writes call (Err why) = λ answers. calm_stands

    controls : (blocks : List ℕ) → Calm (updated (answered (Named (partner_of caller)) (prm_end_of live.rest.link blocks))
        (updated (answered (Parameterized station.options.ready_by_application) (prm_end_of live.rest.link blocks)) live.rest.link))
    controls blocks =
        let ended = prm_end_of live.rest.link blocks in
        let by_application = station.options.ready_by_application in
        let moved = calm_answered (Parameterized by_application) ended live.rest.link
        (calm_map (λ l. parameterized_from by_application l) (λ l. plain l (parameterized_from by_application l) refl refl refl) live.rest.link calm_stands) calm_stands in
        calm_answered (Named (partner_of caller)) ended (updated (answered (Parameterized by_application) ended) live.rest.link)
        (calm_named (partner_of caller) (updated (answered (Parameterized by_application) ended) live.rest.link) moved) moved

    -- the parameters of a plug end, and the next call of a plug may be sent
    calls_next : (after : Option RelationState) → Calm after → Calm (calling_next after)
    calls_next after is =
        calm_map (λ l. record l { plugs = next_called l.plugs }) (λ l. plain l (record l { plugs = next_called l.plugs }) refl refl refl) after is

    plug_ends : (blocks : List ℕ) (read : Result PlugControlBlock CallFault)
        → Calm (calling_after read (updated (answered (Named (partner_of caller)) read) (ended_by station.options.ready_by_application read live.rest.link)))
    plug_ends blocks (Ok block) =
        let ended = calm_map (λ l. plug_ended station.options.ready_by_application block l)
        (λ l. record {
          same = refl;
          options = refl;
          goes = λ even. goes_ended block.alarm_sequence_number (not station.options.ready_by_application) l.plugs even;
        }) live.rest.link calm_stands in
        calls_next _ (calm_named (partner_of caller) (ended_by station.options.ready_by_application (Ok block) live.rest.link) ended)
    plug_ends blocks (Err why) = calm_stands

    own_call : (call : Call) (blocks : List ℕ) (which : Operation) → Stays (handled_own station live caller call blocks which)
    own_call call blocks operation.Connect = λ answers. connects blocks (connect_within station.options caller.mac live.rest.link blocks) refl
    own_call call blocks operation.Release = λ answers. calm_answered Ended (release_of live.rest.link blocks) live.rest.link calm_none calm_stands
    own_call call blocks operation.Read = λ answers. named (relation_read (known_of station live) station.identity live.rest.real live.values.running blocks)
    own_call call blocks operation.Write = writes call (writing_of (uuid_of live.rest.link) live.rest.real blocks)
    own_call call blocks operation.Control =
        stays_if (is_plug_control blocks live.rest.link) (handled_plug_end station live caller call blocks) (handled_prm_end station live caller call blocks)
        (λ answers. plug_ends blocks (plug_end_in blocks live.rest.link)) (λ answers. controls blocks)
    own_call call blocks operation.ReadImplicit = λ answers.
        calm_answered (implicitly (partner_of caller) live.rest.link blocks) (implicit_read (known_of station live) station.identity live.rest.real live.values.running blocks) live.rest.link
        (alive (partner_of caller) _) calm_stands

    -- what it asks of the application
    question_call : (question : Question) (displaced : Option Question) (asked : Option AskedState) → Stays (handled_question station live question displaced asked)
    question_call question displaced (Some asked) = λ answers. calm_stands
    question_call question displaced None = λ answers. calm_stands

    asking_call : (call : Call) (blocks : List ℕ) (which : Operation) (asking : Result (Option Asking) CallFault)
        → Stays (handled_asking station live caller call blocks which asking)
    asking_call call blocks which (Ok None) = own_call call blocks which
    asking_call call blocks which (Ok (Some asking)) =
        let displaced = displaced_by station.options.asks_own_first asking.0 live.rest.asked in
        question_call asking.0 displaced (asks asking.0 asking.1 (behind_displaced displaced live.rest.asked))
    asking_call call blocks which (Err why) = λ answers. calm_stands

    unanswered_call : (call : Call) (blocks : List ℕ) (which : Operation) → Stays (handled_unanswered station live caller call blocks which)
    unanswered_call call blocks which =
        stays_if (is_repeat call.header.activity call.header.sequence live.rest.asked) (Moves live.rest []) (handled_new station live caller call blocks which)
        (λ answers. calm_stands) (asking_call call blocks which (asking_of live.rest.real station.named (uuid_of live.rest.link) caller call blocks which))

    looked_call : (call : Call) (blocks : List ℕ) (which : Operation) (found : Looked) → Stays (handled_looked station live caller call blocks which found)
    looked_call call blocks which new = unanswered_call call blocks which
    looked_call call blocks which (again frame) = λ answers. calm_stands
    looked_call call blocks which old = refuses note.OldCall

    counted_call : (call : Call) (which : Operation) (blocks : Option (List ℕ)) → Stays (handled_blocks station live caller call which blocks)
    counted_call call which None = λ answers. calm_stands
    counted_call call which (Some blocks) =
        looked_call call blocks which (looked_if (is_kept station.options which) call.header.activity call.header.sequence live.rest.calls)

    called : (call : Call) (which : Option Operation) → Stays (handled_call station live caller call which)
    called call None = refuses note.Fault
    called call (Some which) = counted_call call which call.blocks

    answers_as : (meaning : ReadyAnswer) → Stays (handled_answer station live meaning)
    answers_as to_ready.NotWanted = refuses note.NoRelation
    answers_as to_ready.Garbled = refuses note.Fault
    answers_as to_ready.Confirmed = λ answers.
        let now = exchanging_from link in
        let sent = begins_with_one real live.rest.diagnoses now.flow in
        let flow = diagnoses_begun real live.rest.diagnoses now.flow in
        calm_as _ (calm_both link now _ (plain link now refl refl refl) (reported_calm sent flow now refl))
    answers_as (to_ready.Refused farewell) = λ answers. calm_none

    module _ (address : List ℕ) where
      -- what is heard of such a datagram
      abbrev datagram : Said → Heard
      datagram what = Reported caller address what

      abbrev calm_said : (what : Said) (done : Handled) → Stays done → Done (datagram what) done
      calm_said what done stays = calm_done (datagram what) (λ now. refl) refl done stays

      -- the controller answers the call of a plug
      answered_step : (response : Answered) (meaning : PlugAnswer)
          → IsStep live.rest (datagram (Responds response)) link (record (answered_with meaning link) { plugs = next_called (plugs_answered meaning link.plugs) })
      answered_step response to_plug.NotWanted = gives_none (datagram (Responds response)) _ (λ now. refl) refl (plain link _ refl refl refl)
      answered_step response to_plug.Garbled = gives_none (datagram (Responds response)) _ (λ now. refl) refl (plain link _ refl refl refl)
      answered_step response to_plug.Confirmed = inr (record {
        plugs = plug_answered true link.plugs;
        is = refl;
        options = refl;
        even = even_answered true link.plugs;
        goes = λ even. goes_places (plug_answered true link.plugs) (next_called (plug_answered true link.plugs)) refl even;
        values = λ values. refl;
      })
      answered_step response to_plug.Refused = inr (record {
        plugs = plug_answered false link.plugs;
        is = refl;
        options = refl;
        even = even_answered false link.plugs;
        goes = λ even. goes_places (plug_answered false link.plugs) (next_called (plug_answered false link.plugs)) refl even;
        values = λ values. refl;
      })

      plug_answers : (response : Answered) (meaning : PlugAnswer) → Done (datagram (Responds response)) (handled_plug_answer live response meaning)
      plug_answers response to_plug.NotWanted = calm_said (Responds response) (Refuses note.NoRelation) (refuses note.NoRelation)
      plug_answers response to_plug.Garbled = calm_said (Responds response) (Refuses note.Fault) (refuses note.Fault)
      plug_answers response to_plug.Confirmed = λ answers. step_as (datagram (Responds response)) _ (answered_step response (plug_answer_in response (Some link)))
      plug_answers response to_plug.Refused = λ answers. step_as (datagram (Responds response)) _ (answered_step response (plug_answer_in response (Some link)))

      says_so : (what : Said) → Done (datagram what) (handled_said station live caller what)
      says_so (Calls call) = calm_said (Calls call) (handled_call station live caller call (operation_of call.header.operation)) (called call (operation_of call.header.operation))
      says_so (Responds response) =
          done_if (datagram (Responds response)) (is_in_exchange (Some link)) (handled_plug_answer live response (plug_answer_in response (Some link)))
          (handled_answer station live (ready_answer response (Some link)))
          (plug_answers response (plug_answer_in response (Some link)))
          (calm_said (Responds response) (handled_answer station live (ready_answer response (Some link))) (answers_as (ready_answer response (Some link))))
      says_so Garbled = calm_said Garbled (Refuses note.Fault) (refuses note.Fault)

  -- ---- what is exchanged

  -- a cyclic frame does not change the image that is sent
  abbrev IsShown : CyclicEnd → Type 0
  IsShown cyclic = cyclic.shown ≡ link.flow.cyclic.shown

  read_same : (read : Result (List ℕ × CyclicTail) ShortFrame) → IsShown (behind_read link.flow.cyclic read)
  read_same (Ok x) = by_new (is_new link.flow.cyclic x.1)
    where
      by_new : (b : Bool) → IsShown (if b then taken_from link.flow.cyclic x.0 x.1 else link.flow.cyclic)
      by_new true = refl
      by_new false = refl
  read_same (Err short) = refl

  frame_same : (source : Mac) (frame_id : ℕ) (body : List ℕ) → IsShown (cyclic_behind link.flow.cyclic source frame_id body)
  frame_same source frame_id body = by_partner (is_of_partner link.flow.cyclic.route source frame_id)
    where
      by_partner : (b : Bool) → IsShown (if b then behind_read link.flow.cyclic (cyclic_of link.flow.cyclic.taken.data_length body) else link.flow.cyclic)
      by_partner true = read_same (cyclic_of link.flow.cyclic.taken.data_length body)
      by_partner false = refl

  receives : (source : Mac) (frame_id : ℕ) (body : List ℕ) (what : Received)
      → Stays (handled_received live what (updated (receiving_as what (behind_frame link.flow source frame_id body)) (Some link)))
  receives source frame_id body received.Foreign = refuses note.NoRelation
  receives source frame_id body received.Short = refuses note.Fault
  receives source frame_id body received.Stale = refuses note.StaleCycle
  receives source frame_id body received.Taken = λ answers.
      calm_flow (behind_frame link.flow source frame_id body)
      (ap (λ (shown : Image). let p : Provided = record { shown = shown; marks = link.flow.marks } in p) (frame_same source frame_id body))

  -- an input is given
  gives : (slot subslot : ℕ) (value : List ℕ) (given : Option Flow) → given_at link.flow slot subslot value ≡ given → Done (input_heard slot subslot value) (handled_input live given)
  gives slot subslot value (Some flow) is = λ answers. step_as (input_heard slot subslot value) (with_flow flow link) (inl (record {
    is = ap (λ (o : Option Flow). provided_in (unwrap_or o link.flow)) (sym is) ∙ give_is slot subslot value link.flow;
    none = refl;
    options = refl;
    goes = λ even. goes_places link.plugs link.plugs refl even;
  }))
  gives slot subslot value None is = λ answers. step_as (input_heard slot subslot value) link (inl (record {
    is = ap (λ (o : Option Flow). provided_in (unwrap_or o link.flow)) (sym is) ∙ give_is slot subslot value link.flow;
    none = refl;
    options = refl;
    goes = λ even. goes_places link.plugs link.plugs refl even;
  }))

  -- a status
  rates_as : (slot subslot : ℕ) (is_good : Bool) (statuses : Option (List InputStatus)) (answers : List BlockError) (next : RelationState)
      → (finished station.identity live.rest (kept_status live slot subslot is_good statuses) answers).rest.link ≡ Some next
      → (provided_in next.flow ≡ rated_if statuses slot subslot is_good (provided_in link.flow)) × (next.options ≡ link.options) × (next.plugs ≡ link.plugs)
  rates_as slot subslot is_good (Some statuses) answers next e =
      subst (λ (l : RelationState). (provided_in l.flow ≡ rated_if (Some statuses) slot subslot is_good (provided_in link.flow)) × (l.options ≡ link.options) × (l.plugs ≡ link.plugs))
      (some_is (with_flow (rated_at link.flow slot subslot is_good) link) next e) (refl, refl, refl)
  rates_as slot subslot is_good None answers next e =
      subst (λ (l : RelationState). (provided_in l.flow ≡ provided_in link.flow) × (l.options ≡ link.options) × (l.plugs ≡ link.plugs)) (some_is link next e) (refl, refl, refl)

  -- alarms
  raised_same : (slot subslot : ℕ) (octets : List ℕ) (ident part : Option ℕ) (flow : Flow) → raised_by link.flow slot subslot octets ident part ≡ Some flow → provided_in flow ≡ provided_in link.flow
  raised_same slot subslot octets None part flow e = none_some flow e
  raised_same slot subslot octets (Some ident) None flow e = none_some flow e
  raised_same slot subslot octets (Some ident) (Some part) flow e = by_may (may_raise link.flow octets) e
    where
      by_may : (b : Bool) → (if b then Some (record link.flow { alarms = end_with link.flow.alarms (notice_of link.flow.alarms.sender.specifier slot subslot ident part octets) }) else None) ≡ Some flow
          → provided_in flow ≡ provided_in link.flow
      by_may true is = ap (λ (f : Flow). provided_in f) (sym (some_is (record link.flow { alarms = end_with link.flow.alarms (notice_of link.flow.alarms.sender.specifier slot subslot ident part octets) }) flow is))
      by_may false is = none_some flow is

  notices : (slot subslot : ℕ) (octets : List ℕ) (raised : Option Flow) → raised_at link.flow live.rest.real.modules.items slot subslot octets ≡ raised → Stays (handled_notice live raised)
  notices slot subslot octets (Some flow) is = λ answers.
      calm_flow flow (raised_same slot subslot octets (module_ident live.rest.real.modules.items slot) (submodule_ident live.rest.real.modules.items slot subslot) flow is)
  notices slot subslot octets None is = refuses note.Refused

  pdu : (message : Message) (what : PduFate) → Stays (handled_pdu live what (updated (hearing_as what (behind_message link.flow message)) (Some link)))
  pdu message (fate.Data taken) = λ answers. calm_flow (behind_message link.flow message) refl
  pdu message fate.Done = λ answers. calm_flow (behind_message link.flow message) refl
  pdu message fate.Ignored = refuses note.Filter
  pdu message (fate.Aborted status) = λ answers. calm_none

  alarm : (source : Mac) (header : Header) (message : Message) → Stays (handled_alarm live source header message)
  alarm source header message = stays_if (is_alarm_of source header.destination header.source live.rest.link) (handled_message live message) (Refuses note.NoRelation) (pdu message (heard_by message live.rest.link)) (refuses note.NoRelation)

  low_pdu : (message : Message) (what : PduFate) → Stays (handled_low_pdu station live what (updated (hearing_low message live.rest.link) live.rest.link))
  low_pdu message (fate.Data taken) = λ answers.
      let next = with_flow (behind_low link.flow message) link in
      calm_as _ (calm_both link next _ (plain link next refl refl refl) (reported_calm (is_next next.flow.low) (next_reported next.flow) next refl))
  low_pdu message fate.Done = λ answers. calm_flow (behind_low link.flow message) refl
  low_pdu message fate.Ignored = refuses note.Filter
  low_pdu message (fate.Aborted status) = refuses note.Filter

  low : (source : Mac) (header : Header) (message : Message) → Stays (handled_low station live source header message)
  low source header message = stays_if (is_alarm_of source header.destination header.source live.rest.link) (handled_low_message station live message) (Refuses note.NoRelation) (low_pdu message (heard_low message live.rest.link)) (refuses note.NoRelation)

  -- diagnosis
  changes : (change : Change) (later : Option (List Diagnosis)) → Stays (handled_change station live change later)
  changes change (Some later) = λ answers.
      calm_as _ (reported_calm (is_diagnosed real change later link.flow) (diagnosed real change later link.flow) link refl)
  changes change None = refuses note.Refused

  -- the application is ready
  prepared_same : (l : RelationState) → IsCalm l (prepared_from l)
  prepared_same l = by_phase (is_preparing (Some l.phase))
    where
      by_phase : (b : Bool) → IsCalm l (if b then record l { phase = Awaiting; waited = 0 } else l)
      by_phase true = plain l (record l { phase = Awaiting; waited = 0 }) refl refl refl
      by_phase false = plain l l refl refl refl

  -- something is pulled or plugged
  modules : (heard : Heard) (made : RealChange) (found : Option (List RealModule)) → renewed_in live.rest heard ≡ carried_out live.rest made found
      → ((now : Provided) → provided_by real live.rest.statuses heard now ≡ now)
      → ((values : Values) → values_by live.rest heard values ≡ renewed_values (renewed_in live.rest heard) values) → Done heard (handled_modules live made found)
  modules heard made None is by values = calm_done heard by is (Refuses note.Refused) (refuses note.Refused)
  modules heard made (Some now) is by values = by_crowd (is_crowded (affected_by made) live.rest.link) is
    where
      by_crowd : (b : Bool) → renewed_in live.rest heard ≡ (if b then None else Some (affected_by made))
          → Done heard (if b then Refuses note.Refused else Moves (changed_rest live.rest made now) (sent_after live made now))
      by_crowd true none = calm_done heard by none (Refuses note.Refused) (refuses note.Refused)
      by_crowd false some = λ answers.
          let diagnoses = remaining (affected_by made) live.rest.diagnoses in
          let rows = rows_now now link in
          let plugs = places_then rows made link in
          let begin_bad = link.options.inputs_begin_bad in
          step_as heard (changed_by rows made diagnoses link) (inr (record {
            plugs = plugs;
            is = ap (restate_all plugs) (renew_is (affected_by made) begin_bad (flow_reported (is_hit (affected_by made) plugs) link.request rows made diagnoses link.flow))
                ∙ ap (λ (a : Option Affected). restate_all plugs (renew_if a begin_bad (provided_in link.flow))) (sym some);
            options = refl;
            even = even_changed (affected_by made) (step_by made.kind (is_listed made.slot made.subslot rows)) rows link.plugs;
            goes = λ even. goes_both plugs (plugs_then rows made diagnoses link) (next_called (plugs_then rows made diagnoses link))
                (goes_after (sent_then rows made diagnoses link) (flow_then rows made diagnoses link).low.waiting plugs even)
                (λ more. goes_places (plugs_then rows made diagnoses link) (next_called (plugs_then rows made diagnoses link)) refl more);
            values = values;
          }))

  -- the application answers what is asked
  answered_call : (given : GivesAnswer) (found : Result Question AnswerFault) → Stays (handled_judged station live given found)
  answered_call given (Ok question) = λ answers.
      alive (source_of question) (is_relation (uuid_of live.rest.link) (header_of question.request).ar_uuid && not (is_refusal given))
  answered_call given (Err why) = refuses note.Refused

  -- a unit
  ticks : (ending : Option Abort) → ending_of link ≡ ending → Stays (ticked station live)
  ticks (Some because) is = λ answers. subst (λ (l : Option RelationState). Calm l) (sym (ap (λ (o : Option Abort). updated (passing_by o) (Some link)) is)) calm_none
  ticks None is = λ answers. subst (λ (l : Option RelationState). Calm l) (sym (ap (λ (o : Option Abort). updated (passing_by o) (Some link)) is)) (calm_as (unit_later link) (plain link (unit_later link) refl refl (later_places (is_timed link.phase))))
    where
      later_places : (b : Bool) → (if b then link.plugs else record link.plugs { calls = counted link.plugs.calls }).places ≡ link.plugs.places
      later_places true = refl
      later_places false = refl

  -- what is heard gives nothing
  abbrev calm_heard : (heard : Heard) → ((now : Provided) → provided_by real live.rest.statuses heard now ≡ now) → renewed_in live.rest heard ≡ None
      → Stays (handled station live heard) → Done heard (handled station live heard)
  calm_heard heard by none stays = calm_done heard by none (handled station live heard) stays

  provides : (heard : Heard) → Done heard (handled station live heard)
  provides (Asks asker request) = calm_heard (Asks asker request) (λ now. refl) refl (requests asker request.service request)
  provides (Resolves asker packet) = calm_heard (Resolves asker packet) (λ now. refl) refl (
      stays_if (is_request packet.operation && is_running live.values.running packet.target.address) (Moves live.rest (ArpReply asker live.values.running.suite.address packet.sender ∷ [])) (Refuses note.NotMine)
      (λ answers. calm_stands) (refuses note.NotMine)
      )
  provides (Reported caller address said) =
      done_if (Reported caller address said) (is_running live.values.running address) (handled_said station live caller said) (Refuses note.NotMine) (says_so caller address said)
      (calm_done (Reported caller address said) (λ now. refl) refl (Refuses note.NotMine) (refuses note.NotMine))
  provides (Alarms source header message) = calm_heard (Alarms source header message) (λ now. refl) refl (alarm source header message)
  provides (LowReplies source header message) = calm_heard (LowReplies source header message) (λ now. refl) refl (
      stays_if (has_sent_low live.rest.link) (handled_low station live source header message) (handled_alarm live source header message) (low source header message) (alarm source header message)
      )
  provides (LowConfirms source header message) = calm_heard (LowConfirms source header message) (λ now. refl) refl (
      stays_if (has_sent_low live.rest.link) (handled_low station live source header message) (Refuses note.Fault) (low source header message) (refuses note.Fault)
      )
  provides (Cyclic source frame_id body) =
      calm_heard (Cyclic source frame_id body) (λ now. refl) refl (receives source frame_id body (received_as link.flow source frame_id body))
  provides (Applied (local.Input slot subslot value)) = gives slot subslot value.items (given_at link.flow slot subslot value.items) refl
  provides (Applied (local.Alarm slot subslot octets)) =
      calm_heard (Applied (local.Alarm slot subslot octets)) (λ now. refl) refl (notices slot subslot octets.items (raised_at link.flow real slot subslot octets.items) refl)
  provides (Applied (local.Status slot subslot is_good)) = λ answers next e.
      let rated = rates_as slot subslot is_good (statuses_at real (record { slot = slot; subslot = subslot; is_good = is_good }) live.rest.statuses) answers next e in
      inl (record { is = rated.0; none = refl; options = rated.1; goes = λ even. goes_places link.plugs next.plugs (ap (λ (p : PlugState). p.places) rated.2) even })
  provides (Applied (local.Pull slot subslot)) =
      modules (Applied (local.Pull slot subslot)) (pull_of real slot subslot) (outside slot (pulled slot subslot real)) refl (λ now. refl) (λ values. refl)
  provides (Applied (local.PullModule slot)) =
      modules (Applied (local.PullModule slot)) (slot_pull_of real slot) (outside slot (slot_pulled slot real)) refl (λ now. refl) (λ values. refl)
  provides (Applied (local.Plug slot ident part)) =
      modules (Applied (local.Plug slot ident part)) (plug_of slot ident part) (plugged_with slot ident part real) refl (λ now. refl) (λ values. refl)
  provides (Applied (local.ReadyAt slot subslot)) = calm_heard (Applied (local.ReadyAt slot subslot)) (λ now. refl) refl (
      stays_if (is_readied_in slot subslot live.rest.link) (handled_next_call live (readying_at slot subslot live.rest.link)) (Refuses note.Refused)
      (λ answers. calm_as _ (plain link (record link { plugs = next_called (readied slot subslot link.plugs) }) refl refl refl)) (refuses note.Refused)
      )
  provides (Met peer) = calm_heard (Met peer) (λ now. refl) refl (λ answers. calm_stands)
  provides (Applied (local.Diagnosis slot subslot channel error appears)) =
      let change = change_of slot subslot channel error appears in
      calm_heard (Applied (local.Diagnosis slot subslot channel error appears)) (λ now. refl) refl (
      stays_if (may_be_diagnosed station live change) (handled_change station live change (changed_list change live.rest.diagnoses)) (Refuses note.Refused)
      (changes change (changed_list change live.rest.diagnoses)) (refuses note.Refused)
      )
  provides (Applied local.Ready) = calm_heard (Applied local.Ready) (λ now. refl) refl (
      stays_if (is_preparing (phase_of live.rest.link))
      (let after = updated Prepared live.rest.link in Moves (record live.rest { link = after }) (ready_calls live.values.running.suite.address after)) (Refuses note.Refused)
      (λ answers. calm_map (λ l. prepared_from l) prepared_same live.rest.link calm_stands) (refuses note.Refused)
      )
  provides (Applied (local.ProviderState is_running)) =
      calm_heard (Applied (local.ProviderState is_running)) (λ now. refl) refl (λ answers. calm_flow (turned link.flow is_running) refl)
  provides (Applied (local.Answer number octets)) =
      calm_heard (Applied (local.Answer number octets)) (λ now. refl) refl
      (answered_call (gives_octets octets.items) (judged number (gives_octets octets.items) live.rest.asked))
  provides (Applied (local.Written number)) =
      calm_heard (Applied (local.Written number)) (λ now. refl) refl (answered_call gives_done (judged number gives_done live.rest.asked))
  provides (Applied (local.Refuse number code1 code2)) =
      calm_heard (Applied (local.Refuse number code1 code2)) (λ now. refl) refl
      (answered_call (gives_refusal code1 code2) (judged number (gives_refusal code1 code2) live.rest.asked))
  provides Ticks = calm_heard Ticks (λ now. refl) refl (ticks (ending_of link) refl)
  provides Unreadable = calm_heard Unreadable (λ now. refl) refl (refuses note.Fault)
  provides Elsewhere = calm_heard Elsewhere (λ now. refl) refl (refuses note.NotMine)

step_of_link : (outcomes : List Outcome) (station : Station) (live : Live) (link : RelationState) (heard : Heard) (next : RelationState)
    → (heard_step outcomes station (record live { rest = record live.rest { link = Some link } }) heard).live.rest.link ≡ Some next
    → IsStep (record live.rest { link = Some link }) heard link next
unfolding heard_step handled_step
step_of_link outcomes station live link heard next e =
    provides station live link heard
    (carried outcomes live.values (items_in (handled station (record live { rest = record live.rest { link = Some link } }) heard))).answers next e

-- a relation that exists before a step and after it: what it sends of its inputs
pub step_provides : (outcomes : List Outcome) (station : Station) (live : Live) (link : RelationState) (heard : Heard) (next : RelationState) → live.rest.link ≡ Some link
    → (heard_step outcomes station live heard).live.rest.link ≡ Some next
    → IsStep live.rest heard link next
step_provides outcomes station live link heard next is =
    let same : live ≡ record live { rest = record live.rest { link = Some link } } = ap (λ (l : Option RelationState). record live { rest = record live.rest { link = l } }) is in
    subst (λ (l : Live). (heard_step outcomes station l heard).live.rest.link ≡ Some next → IsStep l.rest heard link next)
    (sym same) (step_of_link outcomes station live link heard next)
