-- What a device does with any event: its count of relations, and the numbers and clocks of its relation.
use Rattle.std.proofs.Common.{◌≡◌, ◌⊎◌, ◌&&◌, inl, inr, ℕ, Bool, true, false, not, List, Option, Some, None, Result, Ok, Err, refl, sym, ap, subst, if◌then◌else◌}
use Rattle.wire.specs.Codec.{◌>>=◌}
use Rattle.frame_codec.specs.FrameId.{is_cyclic}
use Rattle.pn_alarms.specs.declared.abort.Abort.{Abort}
use Rattle.relations.specs.Numbers.{endpoint_of, made_after, number_of, output_id}
use Rattle.relations.specs.Timers.{ending_of}
use Rattle.relations.specs.Phases.{made_of, passing, passing_by, Ended, Handled as Event, Named, Parameterized, answered, keeping, taking, updated}
use Rattle.relations.specs.Connect.{connect_blocks, differing_of, rows_of, connect_within, making}
use Rattle.relations.specs.Exchanged.{heard_by, hearing, received_by, receiving}
use Rattle.relations.specs.RelationState.{RelationState, is_alarm_of, is_in_exchange, uuid_of}
use Rattle.device_core.specs.State.{Rest, Live, Station}
use Rattle.device_core.specs.Handled.{count_after, number_now, Handled, Refuses, Writes, handled, handled_alarm, handled_answer, handled_blocks}
use Rattle.std.proofs.lemmas.Bool.{cond_both}
use Rattle.pn_values.specs.declared.mac.Mac.{Mac}
use Rattle.pn_values.specs.declared.set_item.BlockError.{BlockError}
use Rattle.pn_values.specs.declared.im_value.ImValue.{ImValue}
use Rattle.frame_codec.specs.declared.udp.Caller.{Caller}
use Rattle.rpc_core.specs.Call.{Asked as Call}
use Rattle.rpc_core.specs.Response.{Answered}
use Rattle.rpc_core.specs.Cache.{Reported as Looked, again, new, old}
use Rattle.connects.specs.requests.Request.{Request}
use Rattle.records.specs.declared.status.call_fault.CallFault.{CallFault}
use Rattle.records.specs.declared.status.operation.Operation.{Operation}
use Rattle.records.specs.declared.status.operation.Operation.TheVariants as operation
use Rattle.records.specs.status.Operation.{operation_of}
use Rattle.records.specs.declared.writes.write.Effect.{Effect}
use Rattle.records.specs.declared.writes.write.Effect.TheVariants.{Stores, Keeps}
use Rattle.records.specs.declared.writes.writing.Writing.{Writing}
use Rattle.records.specs.declared.writes.writing.Writing.TheVariants.{One, Each}
use Rattle.records.specs.writes.Asked.{writing_of}
use Rattle.records.specs.reads.Within.{names_relation}
use Rattle.record_blocks.specs.declared.write_record.IodWriteReq.{IodWriteReq}
use Rattle.pn_alarms.specs.declared.device.PduFate.{PduFate}
use Rattle.pn_alarms.specs.declared.device.PduFate.TheVariants as fate
use Rattle.pn_alarms.specs.declared.pdu.Header.{Header}
use Rattle.pn_alarms.specs.Message.{ToDevice}
use Rattle.cyclic_data.specs.declared.exchange.received.Received.{Received}
use Rattle.cyclic_data.specs.declared.exchange.received.Received.TheVariants as received
use Rattle.cyclic_data.specs.Timing.{heard}
use Rattle.relations.specs.declared.hearing.ReadyAnswer.{ReadyAnswer}
use Rattle.relations.specs.declared.hearing.ReadyAnswer.TheVariants as to_ready
use Rattle.relations.specs.Calls.{prm_end_of, release_of}
use Rattle.relations.specs.Diagnosed.{has_sent_low, heard_low, hearing_low}
use Rattle.relations.specs.Ready.{answer_of as ready_answer}
use Rattle.relations.specs.declared.plugging.PlugAnswer.{PlugAnswer}
use Rattle.relations.specs.declared.plugging.PlugAnswer.TheVariants as to_plug
use Rattle.relations.specs.Plugging.{calling_next, ended_by, is_plug_control, plug_answer_in, plug_answering, plug_end_in}
use Rattle.device_records.specs.Reading.{implicit_read, relation_read}
use Rattle.device_frames.specs.declared.note.Note.{Note}
use Rattle.device_frames.specs.declared.note.Note.TheVariants as note
use Rattle.arrayvec.specs.ArrayVec.{ArrayVec}
use Rattle.records.specs.calls.Naming.{is_relation}
use Rattle.asked_records.specs.Answers.{Gives, is_refusal, judged}
use Rattle.asked_records.specs.Asked.{AskedState, asks, behind_displaced, displaced_by, is_repeat}
use Rattle.asked_records.specs.Questions.{header_of}
use Rattle.asked_records.specs.declared.answering.AnswerFault.{AnswerFault}
use Rattle.asked_records.specs.declared.question.Question.{Question}
use Rattle.device_frames.specs.declared.local.Local.{Local}
use Rattle.device_core.specs.Asking.{Asking, asking_of, is_kept, looked_if, source_of}
use Rattle.device_core.specs.Local.{IsRelationOf}
use Rattle.device_frames.specs.Heard.{Heard, Ticks, Applied, Reported, Cyclic, Alarms, LowReplies, LowConfirms}
use Rattle.device_frames.specs.Heard.{Said, Calls, Responds, Garbled}
use Rattle.settings_journal.specs.settings_store.Machine.{Outcome, carried}
use Rattle.device_core.specs.Handled.{handled_call, handled_effect, handled_looked, handled_low, handled_low_message}
use Rattle.device_core.specs.Handled.{handled_asking, handled_judged, handled_local, handled_low_pdu, handled_message, handled_own, handled_pdu, handled_question, handled_unanswered, handled_plug_answer, handled_plug_end, handled_prm_end}
use Rattle.device_core.specs.Handled.{handled_received, handled_response, handled_said}
use Rattle.device_core.specs.Handled.{handled_write, implicitly, is_running, known_of, partner_of, starting_of}
use Rattle.device_core.specs.Several.{judged_each}
use Rattle.device_core.specs.Machine.{finished, first_answer, handled_step, heard_step, items_in, link_behind, written_as}
use Rattle.octets_law.proofs.Locals.{by_local}
use Rattle.strangers_law.proofs.Clocks.{IsBeside, Lasts, beside_goes, free_beside, clock_timed, later_timed, same_clock}
use Rattle.strangers_law.proofs.FrameIds.{connect_cyclic, number_few}
use Rattle.strangers_law.proofs.Unnamed.{no_request}
use Rattle.strangers_law.specs.Silence.{IsTimed}
use Rattle.strangers_law.proofs.Changes.{Stays, stays, stays_both, stays_named, stays_answered, stays_taking, stays_each, stays_parameterized, stays_confirmed, stays_receiving, stays_hearing, stays_low, stays_reporting}
use Rattle.strangers_law.proofs.Changes.{stays_called, stays_calling, stays_ended, stays_plug_answered}
use Rattle.strangers_law.proofs.Uncounted.{Uncounted, beside_uncounted}

-- ---- a step

-- There was no relation, and one is made: it has the number of the count, and is counted. Its clocks are those of its request.
pub record IsFresh (station : Station) (made : ℕ) (was now : Option RelationState) : Type 0 where
  pub none : was ≡ None
  pub next : RelationState
  pub is : now ≡ Some next
  pub endpoint : next.flow.endpoint ≡ endpoint_of (number_of station.options.numbers_from made)
  pub frame_id : next.flow.cyclic.route.taken_id ≡ output_id (number_of station.options.numbers_from made) next.request.output
  pub cyclic : is_cyclic next.flow.cyclic.route.taken_id ≡ true
  pub timed : IsTimed next

-- A step leaves the count, and the numbers and clocks of the relation, or ends it; or a relation is made.
abbrev pub Moves : Station → Rest → Rest → Type 0
Moves station was now =
    ((now.made ≡ was.made) × Stays was.link now.link) ⊎ ((now.made ≡ made_after was.made) × IsFresh station was.made was.link now.link)

module _ (station : Station) (live : Live) where
  abbrev Done : Handled → Type 0
  Done what = (answers : List BlockError) → Moves station live.rest (finished station.identity live.rest what answers).rest

  abbrev Leaves : Handled → Type 0
  Leaves what = (answers : List BlockError) → let rest = (finished station.identity live.rest what answers).rest in
      (rest.made ≡ live.rest.made) × Stays live.rest.link rest.link

  left : (what : Handled) → Leaves what → Done what
  left what leaves = λ answers. inl (leaves answers)

  refuses : (why : Note) → Done (Refuses why)
  refuses why = λ answers. inl (refl, stays live.rest.link)

  writes_moves : (caller : Caller) (address : List ℕ) (call : Call) (header : IodWriteReq) (value : ImValue) → Done (Writes caller address call header value)
  writes_moves caller address call header value = λ answers. inl (
    refl,
    stays_answered (Named (partner_of caller)) (written_as header (first_answer answers)) live.rest.link (stays_named (partner_of caller) live.rest.link),
  )

  effects : (caller : Caller) (call : Call) (header : IodWriteReq) (effect : Effect) → Done (handled_effect station live caller call header effect)
  effects caller call header (Stores value) = writes_moves caller live.values.running.suite.address call header value
  effects caller call header (Keeps parameter) = λ answers.
      let kept = keeping parameter live.rest.link in
      inl (
        refl,
        stays_both live.rest.link (updated (taking kept) live.rest.link) _ (stays_taking kept live.rest.link)
            (stays_answered (Named (partner_of caller)) kept (updated (taking kept) live.rest.link)
            (stays_named (partner_of caller) (updated (taking kept) live.rest.link))),
      )

  writes : (caller : Caller) (call : Call) (result : Result Writing CallFault) → Done (handled_write station live caller call result)
  writes caller call (Ok (One write)) = effects caller call write.request write.effect
  writes caller call (Ok (Each header entries)) = λ answers.
      let judged = judged_each station.named (uuid_of live.rest.link) live.rest.real entries in
      inl (
        refl,
        stays_both live.rest.link (link_behind judged live.rest.link) _ (stays_each judged live.rest.link)
            (stays_named (partner_of caller) (link_behind judged live.rest.link)),
      )
  writes caller call (Err why) = λ answers. inl (refl, stays live.rest.link)

  -- What a Connect with this outcome does.
  abbrev Connects : Caller → Result Request CallFault → Type 0
  Connects caller result =
      let made = count_after (result >>= λ request. Ok (connect_blocks station.identity (number_now station live) request
      (differing_of request live.rest.real))) live.rest.made in
      let link = updated (making live.rest.real (partner_of caller) station.options (starting_of station live) result) live.rest.link in
      ((made ≡ live.rest.made) × Stays live.rest.link link) ⊎ ((made ≡ made_after live.rest.made) × IsFresh station live.rest.made live.rest.link link)

  connects : (caller : Caller) (blocks : List ℕ) (now : Option RelationState) → live.rest.link ≡ now → (result : Result Request CallFault)
      → connect_within station.options caller.mac live.rest.link blocks ≡ result → Connects caller result
  connects caller blocks now exists (Err why) is = inl (refl, stays live.rest.link)
  connects caller blocks None none (Ok request) is = inr (
    refl,
    record {
      none = none;
      next = made_of request (partner_of caller) (rows_of request live.rest.real) station.options (starting_of station live);
      is = refl;
      endpoint = refl;
      frame_id = refl;
      cyclic = connect_cyclic station.options caller.mac (number_now station live) blocks request (number_few station.options.numbers_from live.rest.made)
          (subst (λ l. connect_within station.options caller.mac l blocks ≡ Ok request) none is);
      timed = record { runs = λ exchanges. absurd cc; limit = refl };
    },
  )
  connects caller blocks (Some link) exists (Ok request) is =
      absurd (no_request station.options.smallest_interval link.request.ar.uuid blocks request
      (subst (λ l. connect_within station.options caller.mac l blocks ≡ Ok request) exists is))

  ends_parameters : (caller : Caller) (call : Call) (blocks : List ℕ) → Done (handled_prm_end station live caller call blocks)
  ends_parameters caller call blocks = λ answers.
      let ended = prm_end_of live.rest.link blocks in
      let by_application = station.options.ready_by_application in
      let link = updated (answered (Parameterized by_application) ended) live.rest.link in
      inl (
        refl,
        stays_both live.rest.link link _
            (stays_answered (Parameterized by_application) ended live.rest.link (stays_parameterized by_application live.rest.link))
            (stays_answered (Named (partner_of caller)) ended link (stays_named (partner_of caller) link)),
      )

  ends_plug : (caller : Caller) (call : Call) (blocks : List ℕ) → Done (handled_plug_end station live caller call blocks)
  ends_plug caller call blocks = λ answers.
      let result = plug_end_in blocks live.rest.link in
      let ended = ended_by station.options.ready_by_application result live.rest.link in
      let named = updated (answered (Named (partner_of caller)) result) ended in
      inl (
        refl,
        stays_both live.rest.link ended _ (stays_ended station.options.ready_by_application result live.rest.link)
            (stays_both ended named _ (stays_answered (Named (partner_of caller)) result ended (stays_named (partner_of caller) ended))
            (stays_called result named)),
      )

  calls_own : (caller : Caller) (call : Call) (blocks : List ℕ) (which : Operation) → Done (handled_own station live caller call blocks which)
  calls_own caller call blocks operation.Connect = λ answers.
      connects caller blocks live.rest.link refl (connect_within station.options caller.mac live.rest.link blocks) refl
  calls_own caller call blocks operation.Release = λ answers. inl (refl, stays_answered Ended (release_of live.rest.link blocks) live.rest.link tt)
  calls_own caller call blocks operation.Read = λ answers. inl (
    refl,
    stays_answered (Named (partner_of caller)) (relation_read (known_of station live) station.identity live.rest.real live.values.running blocks) live.rest.link
        (stays_named (partner_of caller) live.rest.link),
  )
  calls_own caller call blocks operation.Write = writes caller call (writing_of (uuid_of live.rest.link) live.rest.real blocks)
  calls_own caller call blocks operation.Control =
      cond_both (is_plug_control blocks live.rest.link) _ _ Done (λ _. ends_plug caller call blocks) (λ _. ends_parameters caller call blocks)
  calls_own caller call blocks operation.ReadImplicit = λ answers. inl (
    refl,
    stays_answered (implicitly (partner_of caller) live.rest.link blocks) (implicit_read
        (known_of station live) station.identity live.rest.real live.values.running blocks) live.rest.link
        (cond_both (names_relation (uuid_of live.rest.link) blocks) _ _ (λ (m : Event). Stays live.rest.link (updated m live.rest.link))
        (λ _. stays_named (partner_of caller) live.rest.link) (λ _. stays live.rest.link)),
  )

  -- A call for a record of the application changes neither.
  calls_question : (question : Question) (displaced : Option Question) (asked : Option AskedState)
      → Done (handled_question station live question displaced asked)
  calls_question question displaced (Some asked) = λ answers. inl (refl, stays live.rest.link)
  calls_question question displaced None = λ answers. inl (refl, stays live.rest.link)

  calls_asking : (caller : Caller) (call : Call) (blocks : List ℕ) (which : Operation) (asking : Result (Option Asking) CallFault)
      → Done (handled_asking station live caller call blocks which asking)
  calls_asking caller call blocks which (Ok None) = calls_own caller call blocks which
  calls_asking caller call blocks which (Ok (Some asking)) =
      let displaced = displaced_by station.options.asks_own_first asking.0 live.rest.asked in
      calls_question asking.0 displaced (asks asking.0 asking.1 (behind_displaced displaced live.rest.asked))
  calls_asking caller call blocks which (Err why) = λ answers. inl (refl, stays live.rest.link)

  calls_new : (caller : Caller) (call : Call) (blocks : List ℕ) (which : Operation) → Done (handled_unanswered station live caller call blocks which)
  calls_new caller call blocks which =
      cond_both (is_repeat call.header.activity call.header.sequence live.rest.asked) _ _ Done (λ _ answers. inl (refl, stays live.rest.link))
      (λ _. calls_asking caller call blocks which (asking_of live.rest.real station.named (uuid_of live.rest.link) caller call blocks which))

  calls_looked : (caller : Caller) (call : Call) (blocks : List ℕ) (which : Operation) (found : Looked)
      → Done (handled_looked station live caller call blocks which found)
  calls_looked caller call blocks which new = calls_new caller call blocks which
  calls_looked caller call blocks which (again frame) = λ answers. inl (refl, stays live.rest.link)
  calls_looked caller call blocks which old = refuses note.OldCall

  calls_counted : (caller : Caller) (call : Call) (which : Operation) (blocks : Option (List ℕ)) → Done (handled_blocks station live caller call which blocks)
  calls_counted caller call which None = λ answers. inl (refl, stays live.rest.link)
  calls_counted caller call which (Some blocks) =
      calls_looked caller call blocks which (looked_if (is_kept station.options which) call.header.activity call.header.sequence live.rest.calls)

  calls : (caller : Caller) (call : Call) (which : Option Operation) → Done (handled_call station live caller call which)
  calls caller call None = refuses note.Fault
  calls caller call (Some which) = calls_counted caller call which call.blocks

  -- The relation after an answer to the ApplicationReady of a plug, with the next one.
  calls_on : (response : Answered) → Stays live.rest.link (calling_next (plug_answering response live.rest.link))
  calls_on response =
      stays_both live.rest.link (plug_answering response live.rest.link) _ (stays_plug_answered response live.rest.link)
      (stays_calling (plug_answering response live.rest.link))

  answers_ready : (answer : ReadyAnswer) → Done (handled_answer station live answer)
  answers_ready to_ready.NotWanted = refuses note.NoRelation
  answers_ready to_ready.Garbled = refuses note.Fault
  answers_ready to_ready.Confirmed = λ answers. inl (refl, stays_confirmed live.rest.real.modules.items live.rest.diagnoses live.rest.link)
  answers_ready (to_ready.Refused farewell) = λ answers. inl (refl, tt)

  answers_plug : (response : Answered) (answer : PlugAnswer) → Done (handled_plug_answer live response answer)
  answers_plug response to_plug.NotWanted = refuses note.NoRelation
  answers_plug response to_plug.Garbled = refuses note.Fault
  answers_plug response to_plug.Confirmed = λ answers. inl (refl, calls_on response)
  answers_plug response to_plug.Refused = λ answers. inl (refl, calls_on response)

  responds : (response : Answered) → Done (handled_response station live response)
  responds response =
      cond_both (is_in_exchange live.rest.link) _ _ Done (λ _. answers_plug response (plug_answer_in response live.rest.link))
      (λ _. answers_ready (ready_answer response live.rest.link))

  says : (caller : Caller) (said : Said) → Done (handled_said station live caller said)
  says caller (Calls call) = calls caller call (operation_of call.header.operation)
  says caller (Responds response) = responds response
  says caller Garbled = refuses note.Fault

  datagrams : (caller : Caller) (said : Said) (b : Bool) → Done (if b then handled_said station live caller said else Refuses note.NotMine)
  datagrams caller said true = says caller said
  datagrams caller said false = refuses note.NotMine

  frames : (what : Received) (after : Option RelationState) → Stays live.rest.link after → Done (handled_received live what after)
  frames received.Foreign after is = refuses note.NoRelation
  frames received.Short after is = refuses note.Fault
  frames received.Stale after is = refuses note.StaleCycle
  frames received.Taken after is = λ answers. inl (refl, is)

  pdus : (what : PduFate) (after : Option RelationState) → Stays live.rest.link after → Done (handled_pdu live what after)
  pdus (fate.Data taken) after is = λ answers. inl (refl, is)
  pdus fate.Done after is = λ answers. inl (refl, is)
  pdus fate.Ignored after is = refuses note.Filter
  pdus (fate.Aborted status) after is = λ answers. inl (refl, is)

  alarms : (message : ToDevice) (own : Bool) → Done (if own then handled_message live message else Refuses note.NoRelation)
  alarms message true = pdus (heard_by message live.rest.link) (updated (hearing message live.rest.link) live.rest.link) (stays_hearing message live.rest.link)
  alarms message false = refuses note.NoRelation

  low_pdus : (what : PduFate) (after : Option RelationState) → Stays live.rest.link after → Done (handled_low_pdu station live what after)
  low_pdus (fate.Data taken) after is = λ answers. inl (refl, stays_both live.rest.link after _ is (stays_reporting after))
  low_pdus fate.Done after is = λ answers. inl (refl, is)
  low_pdus fate.Ignored after is = refuses note.Filter
  low_pdus (fate.Aborted status) after is = refuses note.Filter

  lows : (message : ToDevice) (own : Bool) → Done (if own then handled_low_message station live message else Refuses note.NoRelation)
  lows message true = low_pdus (heard_low message live.rest.link) (updated (hearing_low message live.rest.link) live.rest.link)
      (stays_low message live.rest.link)
  lows message false = refuses note.NoRelation

  replies : (source : Mac) (header : Header) (message : ToDevice) (sent : Bool)
      → Done (if sent then handled_low station live source header message else handled_alarm live source header message)
  replies source header message true = lows message (is_alarm_of source header.destination header.source live.rest.link)
  replies source header message false = alarms message (is_alarm_of source header.destination header.source live.rest.link)

  confirms : (source : Mac) (header : Header) (message : ToDevice) (sent : Bool)
      → Done (if sent then handled_low station live source header message else Refuses note.Fault)
  confirms source header message true = lows message (is_alarm_of source header.destination header.source live.rest.link)
  confirms source header message false = refuses note.Fault

  -- ---- any event

  heard_moves : (outcomes : List Outcome) (heard : Heard) → Done (handled station live heard)
      → Moves station live.rest (heard_step outcomes station live heard).live.rest
  unfolding heard_step handled_step
  heard_moves outcomes heard done = done (carried outcomes live.values (items_in (handled station live heard))).answers

  heard_uncounted : (outcomes : List Outcome) (heard : Heard) → Uncounted station live (handled station live heard)
      → (heard_step outcomes station live heard).live.rest.made ≡ live.rest.made
  unfolding heard_step handled_step
  heard_uncounted outcomes heard done = done (carried outcomes live.values (items_in (handled station live heard))).answers

  lasts_stay : (link : RelationState) (after : Option RelationState) → Lasts link after → Stays (Some link) after
  lasts_stay link None lasts = tt
  lasts_stay link (Some next) same = record {
    request = ap (λ c. c.request) same;
    route = ap (λ c. c.times.route) same;
    endpoint = ap (λ c. c.times.endpoint) same;
    timed = clock_timed link next same;
  }

  beside_moves : (outcomes : List Outcome) (heard : Heard) → IsBeside heard → Moves station live.rest (heard_step outcomes station live heard).live.rest
  beside_moves outcomes heard beside = inl (heard_uncounted outcomes heard (beside_uncounted station live heard beside), by_link live.rest.link refl)
    where
      by_link : (now : Option RelationState) → live.rest.link ≡ now → Stays live.rest.link (heard_step outcomes station live heard).live.rest.link
      by_link None is = subst (λ l. Stays live.rest.link l) (sym (free_beside outcomes station live heard beside is)) tt
      by_link (Some link) is =
          subst (λ l. Stays l (heard_step outcomes station live heard).live.rest.link) (sym is)
          (lasts_stay link (heard_step outcomes station live heard).live.rest.link (beside_goes outcomes station live link heard is beside).lasts)

  -- What the application says.
  relation_stays : (was after : Option RelationState) → IsRelationOf was after → Stays was after
  relation_stays None after is = subst (Stays None) (sym is) tt
  relation_stays (Some link) None is = absurd is
  relation_stays (Some link) (Some next) is = lasts_stay link (Some next) (same_clock station live link next is)

  judged_moves : (given : Gives) (judged : Result Question AnswerFault) → Done (handled_judged station live given judged)
  judged_moves given (Ok question) = λ answers. inl (
    refl,
    cond_both (is_relation (uuid_of live.rest.link) (header_of question.request).ar_uuid && not (is_refusal given)) _ _
        (λ (m : Event). Stays live.rest.link (updated m live.rest.link)) (λ _. stays_named (source_of question) live.rest.link) (λ _. stays live.rest.link),
  )
  judged_moves given (Err why) = refuses note.Refused

  applied : (said : Local (ArrayVec ℕ)) → Done (handled_local station live said)
  applied said =
      by_local station live Done said (λ made what it answers. inl
      (ap (λ (rest : Rest). rest.made) (it.keeps answers), relation_stays live.rest.link _ (it.link answers)))
      (λ number given. judged_moves given (judged number given live.rest.asked))

  tick_moves : (outcomes : List Outcome) → Moves station live.rest (heard_step outcomes station live Ticks).live.rest
  unfolding heard_step handled_step
  tick_moves outcomes = inl (refl, by_link live.rest.link)
    where
      by_link : (now : Option RelationState) → Stays now (updated (passing now) now)
      by_link None = tt
      by_link (Some link) = by_ending (ending_of link) refl
        where
          by_ending : (ending : Option Abort) → ending_of link ≡ ending → Stays (Some link) (updated (passing_by ending) (Some link))
          by_ending None none = record { request = refl; route = refl; endpoint = refl; timed = λ is. later_timed link is none }
          by_ending (Some why) is = tt

  pub step_moves : (outcomes : List Outcome) (heard : Heard) → Moves station live.rest (heard_step outcomes station live heard).live.rest
  step_moves outcomes (Reported caller address said) = heard_moves outcomes (Reported caller address said)
      (datagrams caller said (is_running live.values.running address))
  step_moves outcomes (Cyclic source frame_id body) =
      heard_moves outcomes (Cyclic source frame_id body)
      (frames (received_by source frame_id body live.rest.link) (updated (receiving source frame_id body live.rest.link) live.rest.link)
      (stays_receiving source frame_id body live.rest.link))
  step_moves outcomes (Alarms source header message) =
      heard_moves outcomes (Alarms source header message) (alarms message (is_alarm_of source header.destination header.source live.rest.link))
  step_moves outcomes (LowReplies source header message) =
      heard_moves outcomes (LowReplies source header message) (replies source header message (has_sent_low live.rest.link))
  step_moves outcomes (LowConfirms source header message) =
      heard_moves outcomes (LowConfirms source header message) (confirms source header message (has_sent_low live.rest.link))
  step_moves outcomes Ticks = tick_moves outcomes
  step_moves outcomes (Applied said) = heard_moves outcomes (Applied said) (applied said)
  step_moves outcomes heard = beside_moves outcomes heard tt
