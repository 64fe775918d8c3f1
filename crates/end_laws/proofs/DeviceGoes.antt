-- What becomes of the places of a relation and of its exchange with any event at its device: one relation comes from another.
use Rattle.std.proofs.Common.{◌≡◌, ap, ℕ, Bool, true, false, List, [], ◌∷◌, Option, Some, None, option_map, Result, Ok, Err, refl, sym, subst}
use Rattle.std.specs.Prelude.{◌&&◌, if◌then◌else◌, is_some, not, unwrap_or}
use Rattle.pn_values.specs.declared.mac.Mac.{Mac}
use Rattle.pn_values.specs.declared.real.RealModule.{RealModule}
use Rattle.pn_values.specs.declared.set_item.BlockError.{BlockError}
use Rattle.frame_codec.specs.declared.arp.Arp.{Arp}
use Rattle.frame_codec.specs.declared.udp.Caller.{Caller}
use Rattle.dcp_core.specs.declared.request.Service.{Service}
use Rattle.dcp_core.specs.declared.request.Service.TheVariants as service
use Rattle.dcp_core.specs.Request.{Asked}
use Rattle.dcp_core.specs.Identify.{matches}
use Rattle.dcp_core.specs.Set.{plan_of}
use Rattle.rpc_core.specs.Cache.{Reported as Looked, new, again, old}
use Rattle.rpc_core.specs.Call.{Asked as Call}
use Rattle.rpc_core.specs.Response.{Answered as Response}
use Rattle.record_blocks.specs.declared.write_record.IodWriteReq.{IodWriteReq}
use Rattle.rpc_core.specs.declared.response.Status.{Status}
use Rattle.asked_records.specs.Answers.{Gives, gives_done, gives_octets, gives_refusal, is_refusal, judged}
use Rattle.asked_records.specs.Asked.{AskedState, asks, behind_displaced, displaced_by, is_repeat}
use Rattle.asked_records.specs.Questions.{header_of}
use Rattle.asked_records.specs.declared.answering.AnswerFault.{AnswerFault}
use Rattle.asked_records.specs.declared.question.Question.{Question}
use Rattle.records.specs.calls.Naming.{is_relation}
use Rattle.records.specs.declared.status.call_fault.CallFault.{CallFault}
use Rattle.records.specs.declared.status.operation.Operation.{Operation}
use Rattle.records.specs.declared.status.operation.Operation.TheVariants as operation
use Rattle.records.specs.status.Operation.{operation_of}
use Rattle.records.specs.declared.writes.write.Effect.{Effect}
use Rattle.records.specs.declared.writes.write.Effect.TheVariants.{Stores, Keeps}
use Rattle.records.specs.declared.writes.write.Write.{Write}
use Rattle.records.specs.declared.writes.writing.Writing.{Writing}
use Rattle.records.specs.declared.writes.writing.Writing.TheVariants.{One, Each}
use Rattle.records.specs.writes.Asked.{writing_of}
use Rattle.device_records.specs.Reading.{implicit_read, relation_read}
use Rattle.pn_alarms.specs.declared.abort.Abort.{Abort}
use Rattle.pn_alarms.specs.declared.device.PduFate.{PduFate}
use Rattle.pn_alarms.specs.declared.device.PduFate.TheVariants as fate
use Rattle.pn_alarms.specs.declared.pdu.Header.{Header}
use Rattle.pn_alarms.specs.Message.{ToDevice as Message}
use Rattle.diagnosis.specs.Existing.{changed as changed_list, remaining}
use Rattle.module_diff.specs.declared.changes.RealChange.{RealChange}
use Rattle.module_diff.specs.Changes.{affected_by, plugged_with, pulled, slot_pulled}
use Rattle.connect_blocks.specs.declared.plug_control.PlugControlBlock.{PlugControlBlock}
use Rattle.expected_places.specs.Calls.{sent_next}
use Rattle.expected_places.specs.Machine.{next_called, readied as readied_plugs}
use Rattle.relations.specs.declared.plugging.PlugAnswer.{PlugAnswer}
use Rattle.relations.specs.declared.plugging.PlugAnswer.TheVariants as to_plug
use Rattle.relations.specs.Plugging.{calling_next, changed_by, ended_by, first_sent, is_crowded, is_plug_control, is_readied_in, plug_answer_in, plug_answering, plug_end_in, plug_ended, plug_ending, readying_at, rows_now, taken_after}
use Rattle.diagnosis.specs.declared.diagnosis.Change.{Change}
use Rattle.diagnosis.specs.declared.diagnosis.Diagnosis.{Diagnosis}
use Rattle.cyclic_data.specs.declared.exchange.received.Received.{Received}
use Rattle.cyclic_data.specs.declared.exchange.received.Received.TheVariants as received
use Rattle.connects.specs.requests.Request.{Request}
use Rattle.relations.specs.declared.hearing.ReadyAnswer.{ReadyAnswer}
use Rattle.relations.specs.declared.hearing.ReadyAnswer.TheVariants as to_ready
use Rattle.relations.specs.declared.exchange.statuses.InputStatus.{InputStatus}
use Rattle.relations.specs.declared.phase.Partner.{Partner}
use Rattle.relations.specs.declared.phase.Phase.TheVariants.{Awaiting, Exchanging}
use Rattle.diagnosis.specs.Queue.{is_next}
use Rattle.relations.specs.exchange.Diagnosis.{begins_with_one, behind_low, diagnosed, diagnoses_begun, is_diagnosed, next_reported}
use Rattle.relations.specs.exchange.Runs as runs
use Rattle.relations.specs.exchange.Flow.{Flow}
use Rattle.relations.specs.exchange.Notices.{behind_message, raised_at}
use Rattle.relations.specs.exchange.Opening.{begun_of}
use Rattle.relations.specs.exchange.Process.{given_at}
use Rattle.relations.specs.exchange.Received.{behind_frame, received_as}
use Rattle.relations.specs.exchange.Statuses.{statuses_at}
use Rattle.relations.specs.RelationState.{RelationState, is_alarm_of, is_in_exchange, is_preparing, phase_of, uuid_of}
use Rattle.relations.specs.Phases.{Handled as Event, Ended, Named, Parameterized, Prepared, Records, Unmoved, answered, keeping, parameterized_from, passing_by, prepared_from, restarted, taking, updated, with_flow, with_records}
use Rattle.relations.specs.Calls.{prm_end_of, release_of}
use Rattle.relations.specs.Connect.{connect_within, making}
use Rattle.relations.specs.Diagnosed.{has_sent_low, heard_low, hearing_low}
use Rattle.relations.specs.Exchanged.{heard_by, hearing_as, receiving_as}
use Rattle.relations.specs.Ready.{answer_of as ready_answer}
use Rattle.relations.specs.Timers.{ending_of, unit_later as after_unit}
use Rattle.device_frames.specs.declared.local.Local.TheVariants as local
use Rattle.device_frames.specs.Heard.{Heard, Ticks, Unreadable, Elsewhere, Asks, Resolves, Reported, Cyclic, Alarms, LowReplies, LowConfirms, Applied, Met, Said, Calls, Responds, Garbled}
use Rattle.device_frames.specs.Relation.{ready_calls}
use Rattle.device_frames.specs.Sent.{IdentifyAnswer, ArpReply}
use Rattle.device_frames.specs.declared.note.Note.{Note}
use Rattle.device_frames.specs.declared.note.Note.TheVariants as note
use Rattle.settings_journal.specs.settings_store.Machine.{Outcome, carried}
use Rattle.device_core.specs.State.{Station, Live, alias_in}
use Rattle.device_core.specs.Asking.{Asking, asking_of, is_kept, looked_if, source_of}
use Rattle.device_core.specs.Handled.{change_of, Handled, Refuses, Sets, Moves, handled, handled_alarm, handled_answer, handled_blocks, handled_call, handled_change, handled_asking, handled_effect, handled_gives, handled_input, handled_judged, handled_looked, handled_low, handled_low_message, handled_low_pdu, handled_message, handled_modules, handled_new, handled_next_call, handled_notice, handled_pdu, handled_plug_answer, handled_plug_end, handled_own, handled_prm_end, handled_question, handled_received, handled_request, handled_said, handled_turned, handled_write, implicitly, is_request, is_running, kept_status, known_of, may_be_diagnosed, partner_of, starting_of, ticked}
use Rattle.device_core.specs.Modules.{calling_after, changed_rest, outside, plug_of, pull_of, sent_after, slot_pull_of}
use Rattle.device_core.specs.Several.{Judged, judged_each}
use Rattle.device_core.specs.Machine.{effect_link, finished, first_answer, handled_step, heard_step, items_in, link_after, link_behind, one_link, resets, written_as}
use Rattle.end_laws.proofs.DeviceExchange.{none_some, refused_second, some_is}
use Rattle.end_laws.proofs.DeviceMoments.{Goes, Onward, alone, answered_on, begins_on, called_on, changes_on, ended_on, lowers_on, onward_goes, onward_same, onward_then, passes_on}
use Rattle.end_laws.proofs.DeviceConnects.{unlimited}

module _ (station : Station) (before : Live) (link : RelationState) where
  -- a device with this relation
  abbrev live : Live
  live = record before { rest = record before.rest { link = Some link } }

  abbrev real : List RealModule
  real = live.rest.real.modules.items

  -- if there is a relation then, it comes from this one
  abbrev Leads : Option RelationState → List RealModule → Type 0
  Leads after now = (next : RelationState) → after ≡ Some next → Goes real now link next

  abbrev Done : Handled → Type 0
  Done what = (answers : List BlockError)
      → Leads (finished station.identity live.rest what answers).rest.link (finished station.identity live.rest what answers).rest.real.modules.items

  -- the modules stay, and so does this of a relation
  abbrev OnTo : Option RelationState → Type 0
  OnTo after = (next : RelationState) → after ≡ Some next → Onward link next

  leads : (after : Option RelationState) (now : List RealModule) → now ≡ real → OnTo after → Leads after now
  leads after now same on next e = subst (λ (modules : List RealModule). Goes real modules link next) (sym same) (onward_goes real link next (on next e))

  becomes : (next : RelationState) → Onward link next → OnTo (Some next)
  becomes next onward later e = subst (λ (l : RelationState). Onward link l) (some_is next later e) onward

  stands : OnTo live.rest.link
  stands = becomes link (onward_same link link refl refl refl)

  gone : OnTo None
  gone next e = none_some next e

  on_map : (change : RelationState → RelationState) → ((l : RelationState) → Onward l (change l)) → (after : Option RelationState) → OnTo after → OnTo (option_map change after)
  on_map change onward None on next e = none_some next e
  on_map change onward (Some l) on next e =
      subst (λ (r : RelationState). Onward link r) (some_is (change l) next e) (onward_then link l (change l) (on l refl) (onward l))

  on_named : (source : Partner) (after : Option RelationState) → OnTo after → OnTo (updated (Named source) after)
  on_named source after on = on_map (λ l. restarted source l) (λ l. onward_same l (restarted source l) refl refl refl) after on

  on_answered : {A : Type 0} (what : Event) (result : Result A CallFault) (after : Option RelationState) → OnTo (updated what after) → OnTo after → OnTo (updated (answered what result) after)
  on_answered what (Ok answer) after one other = one
  on_answered what (Err why) after one other = other

  on_taking : (result : Result Records CallFault) (after : Option RelationState) → OnTo after → OnTo (updated (taking result) after)
  on_taking (Ok records) after on = on_map (λ l. with_records records l) (λ l. onward_same l (with_records records l) refl refl refl) after on
  on_taking (Err why) after on = on

  on_effect : (effect : Effect) (after : Option RelationState) → OnTo after → OnTo (effect_link effect after)
  on_effect (Stores value) after on = on
  on_effect (Keeps parameter) after on = on_taking (keeping parameter after) after on

  on_one : (result : Result Write Status) (after : Option RelationState) → OnTo after → OnTo (one_link result after)
  on_one (Ok write) after on = on_effect write.effect after on
  on_one (Err why) after on = on

  on_each : (judged : List Judged) (after : Option RelationState) → OnTo after → OnTo (link_behind judged after)
  on_each [] after on = on
  on_each (one ∷ others) after on = on_each others (one_link one.1 after) (on_one one.1 after on)

  refuses : (why : Note) → Done (Refuses why)
  refuses why = λ answers. leads live.rest.link real refl stands

  -- ---- DCP and ARP

  sets : (asker : Mac) (request : Asked) (in_operation : Bool) → Done (Sets asker request in_operation)
  sets asker request in_operation = λ answers. leads _ _ refl (by_end (resets (plan_of in_operation request) answers))
    where
      by_end : (b : Bool) → OnTo (link_after b live.rest.link)
      by_end true = gone
      by_end false = stands

  requests : (asker : Mac) (which : Service) (request : Asked) → Done (handled_request station live asker which request)
  requests asker service.Identify request = by_match (matches station.identity live.values.running (alias_in live.rest.peer) request)
    where
      by_match : (b : Bool)
          → Done (if b then Moves live.rest (IdentifyAnswer asker live.values.running request.xid ∷ []) else Refuses note.Filter)
      by_match true = λ answers. leads _ _ refl stands
      by_match false = refuses note.Filter
  requests asker service.Get request = λ answers. leads _ _ refl stands
  requests asker service.Set request = sets asker request (is_some live.rest.link)

  resolves : (asker : Mac) (packet : Arp) (b : Bool)
      → Done (if b then Moves live.rest (ArpReply asker live.values.running.suite.address packet.sender ∷ []) else Refuses note.NotMine)
  resolves asker packet true = λ answers. leads _ _ refl stands
  resolves asker packet false = refuses note.NotMine

  -- ---- calls

  module _ (caller : Caller) (address : List ℕ) (said : Said) where
    no_second : (blocks : List ℕ) (request : Request) → connect_within station.options caller.mac live.rest.link blocks ≡ Ok request → ⊥
    no_second blocks request e =
        refused_second link.request.ar.uuid blocks request (unlimited station.options caller.mac live.rest.link blocks request e)

    connects : (blocks : List ℕ) (read : Result Request CallFault) → connect_within station.options caller.mac live.rest.link blocks ≡ read
        → OnTo (updated (making live.rest.real (partner_of caller) station.options (starting_of station live) read) live.rest.link)
    connects blocks (Ok request) e = absurd (no_second blocks request e)
    connects blocks (Err why) e = stands

    names : (blocks : List ℕ) (b : Bool) → OnTo (updated (if b then Named (partner_of caller) else Unmoved) live.rest.link)
    names blocks true = on_named (partner_of caller) live.rest.link stands
    names blocks false = stands

    effects : (call : Call) (header : IodWriteReq) (effect : Effect) → Done (handled_effect station live caller call header effect)
    effects call header (Stores value) = λ answers.
        leads _ _ refl
        (on_answered (Named (partner_of caller)) (written_as header (first_answer answers)) live.rest.link (on_named (partner_of caller) live.rest.link stands) stands)
    effects call header (Keeps parameter) =
        let kept = keeping parameter live.rest.link in
        let taken = on_taking kept live.rest.link stands in
        λ answers. leads _ _ refl
        (on_answered (Named (partner_of caller)) kept (updated (taking kept) live.rest.link) (on_named (partner_of caller) (updated (taking kept) live.rest.link) taken) taken)

    writes : (call : Call) (writing : Result Writing CallFault) → Done (handled_write station live caller call writing)
    writes call (Ok (One write)) = effects call write.request write.effect
    writes call (Ok (Each header entries)) = λ answers.
        let judged = judged_each station.named (uuid_of live.rest.link) live.rest.real entries in
        leads _ _ refl (on_named (partner_of caller) (link_behind judged live.rest.link) (on_each judged live.rest.link stands))
    writes call (Err why) = λ answers. leads _ _ refl stands

    controls : (blocks : List ℕ) → OnTo (updated (answered (Named (partner_of caller)) (prm_end_of live.rest.link blocks))
        (updated (answered (Parameterized station.options.ready_by_application) (prm_end_of live.rest.link blocks)) live.rest.link))
    controls blocks =
        let ended = prm_end_of live.rest.link blocks in
        let by_application = station.options.ready_by_application in
        let moved = on_answered (Parameterized by_application) ended live.rest.link
        (on_map (λ l. parameterized_from by_application l) (λ l. onward_same l (parameterized_from by_application l) refl refl refl) live.rest.link stands) stands in
        on_answered (Named (partner_of caller)) ended (updated (answered (Parameterized by_application) ended) live.rest.link)
        (on_named (partner_of caller) (updated (answered (Parameterized by_application) ended) live.rest.link) moved) moved

    -- the next call of a plug
    on_next : (after : Option RelationState) → OnTo after → OnTo (calling_next after)
    on_next after on =
        on_map (λ (l : RelationState). record l { plugs = next_called l.plugs }) (λ l. called_on l (unwrap_or (sent_next l.plugs.calls) l.plugs.calls)) after on

    -- a PrmEnd after a plug
    on_ended : (by_application : Bool) (ended : Result PlugControlBlock CallFault) → OnTo (ended_by by_application ended live.rest.link)
    on_ended by_application (Ok block) =
        on_map (λ l. plug_ended by_application block l) (λ l. ended_on l block.alarm_sequence_number (not by_application)) live.rest.link stands
    on_ended by_application (Err why) = stands

    on_called : {A : Type 0} (ended : Result A CallFault) (after : Option RelationState) → OnTo after → OnTo (calling_after ended after)
    on_called (Err why) after on = on
    on_called (Ok it) after on = on_next after on

    prm_ends : (call : Call) (blocks : List ℕ) → Done (handled_prm_end station live caller call blocks)
    prm_ends call blocks = λ answers. leads _ _ refl (controls blocks)

    plug_ends : (call : Call) (blocks : List ℕ) → Done (handled_plug_end station live caller call blocks)
    plug_ends call blocks =
        let by_application = station.options.ready_by_application in
        let ended = plug_end_in blocks live.rest.link in
        let moved = on_ended by_application ended in
        let later = updated (answered (Named (partner_of caller)) ended) (plug_ending by_application blocks live.rest.link) in
        λ answers. leads _ _ refl
        (on_called ended later
        (on_answered (Named (partner_of caller)) ended (plug_ending by_application blocks live.rest.link)
        (on_named (partner_of caller) (plug_ending by_application blocks live.rest.link) moved) moved))

    control : (call : Call) (blocks : List ℕ) (b : Bool) → Done (if b then handled_plug_end station live caller call blocks else handled_prm_end station live caller call blocks)
    control call blocks true = plug_ends call blocks
    control call blocks false = prm_ends call blocks

    own_call : (call : Call) (blocks : List ℕ) (which : Operation) → Done (handled_own station live caller call blocks which)
    own_call call blocks operation.Connect =
        λ answers. leads _ _ refl (connects blocks (connect_within station.options caller.mac live.rest.link blocks) refl)
    own_call call blocks operation.Release =
        λ answers. leads _ _ refl (on_answered Ended (release_of live.rest.link blocks) live.rest.link gone stands)
    own_call call blocks operation.Read =
        λ answers. leads _ _ refl
        (on_answered (Named (partner_of caller)) (relation_read (known_of station live) station.identity live.rest.real live.values.running blocks) live.rest.link
        (on_named (partner_of caller) live.rest.link stands) stands)
    own_call call blocks operation.Write = writes call (writing_of (uuid_of live.rest.link) live.rest.real blocks)
    own_call call blocks operation.Control = control call blocks (is_plug_control blocks live.rest.link)
    own_call call blocks operation.ReadImplicit =
        λ answers. leads _ _ refl
        (on_answered (implicitly (partner_of caller) live.rest.link blocks) (implicit_read (known_of station live) station.identity live.rest.real live.values.running blocks) live.rest.link
        (names blocks _) stands)

    -- a call for a record of the application: it is asked, or refused while another one is
    questions : (question : Question) (displaced : Option Question) (asked : Option AskedState) → Done (handled_question station live question displaced asked)
    questions question displaced (Some asked) = λ answers. leads _ _ refl stands
    questions question displaced None = λ answers. leads _ _ refl stands

    asking_as : (call : Call) (blocks : List ℕ) (which : Operation) (asking : Result (Option Asking) CallFault)
        → Done (handled_asking station live caller call blocks which asking)
    asking_as call blocks which (Ok None) = own_call call blocks which
    asking_as call blocks which (Ok (Some asking)) =
        let displaced = displaced_by station.options.asks_own_first asking.0 live.rest.asked in
        questions asking.0 displaced (asks asking.0 asking.1 (behind_displaced displaced live.rest.asked))
    asking_as call blocks which (Err why) = λ answers. leads _ _ refl stands

    -- one that is asked already is dropped
    unanswered : (call : Call) (blocks : List ℕ) (which : Operation) (b : Bool)
        → Done (if b then Moves live.rest [] else handled_new station live caller call blocks which)
    unanswered call blocks which true = λ answers. leads _ _ refl stands
    unanswered call blocks which false =
        asking_as call blocks which (asking_of live.rest.real station.named (uuid_of live.rest.link) caller call blocks which)

    looked_call : (call : Call) (blocks : List ℕ) (which : Operation) (found : Looked) → Done (handled_looked station live caller call blocks which found)
    looked_call call blocks which new = unanswered call blocks which (is_repeat call.header.activity call.header.sequence live.rest.asked)
    looked_call call blocks which (again frame) = λ answers. leads _ _ refl stands
    looked_call call blocks which old = refuses note.OldCall

    counted_call : (call : Call) (which : Operation) (blocks : Option (List ℕ)) → Done (handled_blocks station live caller call which blocks)
    counted_call call which None = λ answers. leads _ _ refl stands
    counted_call call which (Some blocks) =
        looked_call call blocks which (looked_if (is_kept station.options which) call.header.activity call.header.sequence live.rest.calls)

    called : (call : Call) (which : Option Operation) → Done (handled_call station live caller call which)
    called call None = refuses note.Fault
    called call (Some which) = counted_call call which call.blocks

    answers_as : (meaning : ReadyAnswer) → Done (handled_answer station live meaning)
    answers_as to_ready.NotWanted = refuses note.NoRelation
    answers_as to_ready.Garbled = refuses note.Fault
    answers_as to_ready.Confirmed = λ answers.
        let flow = diagnoses_begun real live.rest.diagnoses (begun_of link.flow) in
        let sent = first_sent (begins_with_one real live.rest.diagnoses (begun_of link.flow)) flow.low in
        leads _ _ refl (becomes _ (begins_on link Exchanging flow.low sent flow.low.waiting (taken_after sent link.plugs.places link.taken)))
    answers_as (to_ready.Refused farewell) = λ answers. leads _ _ refl gone

    -- ApplicationReady of a plug is answered
    plug_answers : (response : Response) (meaning : PlugAnswer) → Done (handled_plug_answer live response meaning)
    plug_answers response to_plug.NotWanted = refuses note.NoRelation
    plug_answers response to_plug.Garbled = refuses note.Fault
    plug_answers response to_plug.Confirmed = λ answers.
        leads _ _ refl (on_next (plug_answering response live.rest.link) (becomes _ (answered_on link (plug_answer_in response live.rest.link))))
    plug_answers response to_plug.Refused = λ answers.
        leads _ _ refl (on_next (plug_answering response live.rest.link) (becomes _ (answered_on link (plug_answer_in response live.rest.link))))

    responds : (response : Response) (b : Bool)
        → Done (if b then handled_plug_answer live response (plug_answer_in response live.rest.link) else handled_answer station live (ready_answer response live.rest.link))
    responds response true = plug_answers response (plug_answer_in response live.rest.link)
    responds response false = answers_as (ready_answer response live.rest.link)

    says_so : (what : Said) → Done (handled_said station live caller what)
    says_so (Calls call) = called call (operation_of call.header.operation)
    says_so (Responds response) = responds response (is_in_exchange live.rest.link)
    says_so Garbled = refuses note.Fault

    datagram : (b : Bool) → Done (if b then handled_said station live caller said else Refuses note.NotMine)
    datagram true = says_so said
    datagram false = refuses note.NotMine

  -- ---- what is exchanged

  receives : (source : Mac) (frame_id : ℕ) (body : List ℕ) (what : Received)
      → Done (handled_received live what (updated (receiving_as what (behind_frame link.flow source frame_id body)) (Some link)))
  receives source frame_id body received.Foreign = refuses note.NoRelation
  receives source frame_id body received.Short = refuses note.Fault
  receives source frame_id body received.Stale = refuses note.StaleCycle
  receives source frame_id body received.Taken = λ answers. leads _ _ refl (becomes _ (alone link (runs.Comes source frame_id body)))

  gives_to : (slot subslot : ℕ) (value : List ℕ) (given : Option Flow) → given_at link.flow slot subslot value ≡ given → Done (handled_input live given)
  gives_to slot subslot value (Some flow) is = λ answers.
      leads _ _ refl (becomes _ (subst (λ (o : Option Flow). Onward link (with_flow (unwrap_or o link.flow) link)) is (alone link (runs.Gives slot subslot value))))
  gives_to slot subslot value None is = refuses note.Refused

  rates_as : (slot subslot : ℕ) (is_good : Bool) (statuses : Option (List InputStatus)) → Done (kept_status live slot subslot is_good statuses)
  rates_as slot subslot is_good (Some statuses) = λ answers. leads _ _ refl (becomes _ (alone link (runs.Rates slot subslot is_good)))
  rates_as slot subslot is_good None = refuses note.Refused

  turns_so : (is_running : Bool) → Done (handled_turned live is_running)
  turns_so is_running = λ answers. leads _ _ refl (becomes _ (alone link (runs.Turns is_running)))

  -- alarms
  notices : (slot subslot : ℕ) (octets : List ℕ) (raised : Option Flow) → raised_at link.flow real slot subslot octets ≡ raised → Done (handled_notice live raised)
  notices slot subslot octets (Some flow) is = λ answers.
      leads _ _ refl (becomes _ (subst (λ (o : Option Flow). Onward link (with_flow (unwrap_or o link.flow) link)) is (alone link (runs.Raises real slot subslot octets))))
  notices slot subslot octets None is = refuses note.Refused

  pdu : (message : Message) (what : PduFate) → Done (handled_pdu live what (updated (hearing_as what (behind_message link.flow message)) (Some link)))
  pdu message (fate.Data taken) = λ answers. leads _ _ refl (becomes _ (alone link (runs.Says message)))
  pdu message fate.Done = λ answers. leads _ _ refl (becomes _ (alone link (runs.Says message)))
  pdu message fate.Ignored = refuses note.Filter
  pdu message (fate.Aborted status) = λ answers. leads _ _ refl gone

  alarm : (message : Message) (own : Bool) → Done (if own then handled_message live message else Refuses note.NoRelation)
  alarm message true = pdu message (heard_by message live.rest.link)
  alarm message false = refuses note.NoRelation

  low_pdu : (message : Message) (what : PduFate) → Done (handled_low_pdu station live what (updated (hearing_low message live.rest.link) live.rest.link))
  low_pdu message (fate.Data taken) = λ answers.
      let next = behind_low link.flow message in
      let later = next_reported next in
      let sent = first_sent (is_next next.low) later.low in
      leads _ _ refl (becomes _ (lowers_on link later.low sent later.low.waiting (taken_after sent link.plugs.places link.taken)))
  low_pdu message fate.Done = λ answers. leads _ _ refl (becomes _ (alone link (runs.Lowers (behind_low link.flow message).low)))
  low_pdu message fate.Ignored = refuses note.Filter
  low_pdu message (fate.Aborted status) = refuses note.Filter

  low : (message : Message) (own : Bool) → Done (if own then handled_low_message station live message else Refuses note.NoRelation)
  low message true = low_pdu message (heard_low message live.rest.link)
  low message false = refuses note.NoRelation

  low_reply : (source : Mac) (header : Header) (message : Message) (sent : Bool)
      → Done (if sent then handled_low station live source header message else handled_alarm live source header message)
  low_reply source header message true = low message (is_alarm_of source header.destination header.source live.rest.link)
  low_reply source header message false = alarm message (is_alarm_of source header.destination header.source live.rest.link)

  low_confirm : (source : Mac) (header : Header) (message : Message) (sent : Bool) → Done (if sent then handled_low station live source header message else Refuses note.Fault)
  low_confirm source header message true = low message (is_alarm_of source header.destination header.source live.rest.link)
  low_confirm source header message false = refuses note.Fault

  -- diagnosis
  changes : (change : Change) (later : Option (List Diagnosis)) → Done (handled_change station live change later)
  changes change (Some later) = λ answers.
      let flow = diagnosed real change later link.flow in
      let sent = first_sent (is_diagnosed real change later link.flow) flow.low in
      leads _ _ refl (becomes _ (lowers_on link flow.low sent flow.low.waiting (taken_after sent link.plugs.places link.taken)))
  changes change None = refuses note.Refused

  diagnoses : (change : Change) (may : Bool) → Done (if may then handled_change station live change (changed_list change live.rest.diagnoses) else Refuses note.Refused)
  diagnoses change true = changes change (changed_list change live.rest.diagnoses)
  diagnoses change false = refuses note.Refused

  -- something is pulled or plugged
  modules_with : (made : RealChange) (now : List RealModule) (b : Bool) → Done (if b then Refuses note.Refused else Moves (changed_rest live.rest made now) (sent_after live made now))
  modules_with made now true = refuses note.Refused
  modules_with made now false = λ answers. λ next e.
      let later = remaining (affected_by made) live.rest.diagnoses in
      subst (λ (l : RelationState). Goes real now link l) (some_is (changed_by (rows_now now link) made later link) next e) (changes_on real now made later link)

  modules_as : (made : RealChange) (now : Option (List RealModule)) → Done (handled_modules live made now)
  modules_as made None = refuses note.Refused
  modules_as made (Some now) = modules_with made now (is_crowded (affected_by made) live.rest.link)

  -- the application is ready for a plug
  readies_at : (slot subslot : ℕ) (b : Bool) → Done (if b then handled_next_call live (readying_at slot subslot live.rest.link) else Refuses note.Refused)
  readies_at slot subslot true = λ answers.
      let readied : RelationState = record link { plugs = readied_plugs slot subslot link.plugs } in
      leads _ _ refl (becomes _
      (onward_then link readied _ (called_on link readied.plugs.calls) (called_on readied (unwrap_or (sent_next readied.plugs.calls) readied.plugs.calls))))
  readies_at slot subslot false = refuses note.Refused

  -- the application is ready
  prepared_on : (l : RelationState) → Onward l (prepared_from l)
  prepared_on l = by_phase (is_preparing (Some l.phase))
    where
      by_phase : (b : Bool) → Onward l (if b then record l { phase = Awaiting; waited = 0 } else l)
      by_phase true = onward_same l _ refl refl refl
      by_phase false = onward_same l l refl refl refl

  readies : (preparing : Bool) → Done (if preparing
      then (let after = updated Prepared live.rest.link in Moves (record live.rest { link = after }) (ready_calls live.values.running.suite.address after)) else Refuses note.Refused)
  readies true = λ answers. leads _ _ refl (on_map (λ l. prepared_from l) prepared_on live.rest.link stands)
  readies false = refuses note.Refused

  -- the application answers what is asked
  moves_on : (source : Partner) (b : Bool) → OnTo (updated (if b then Named source else Unmoved) live.rest.link)
  moves_on source true = on_named source live.rest.link stands
  moves_on source false = stands

  judges : (given : Gives) (judgement : Result Question AnswerFault) → Done (handled_judged station live given judgement)
  judges given (Ok question) = λ answers.
      leads _ _ refl (moves_on (source_of question) (is_relation (uuid_of live.rest.link) (header_of question.request).ar_uuid && not (is_refusal given)))
  judges given (Err why) = refuses note.Refused

  answers_so : (number : ℕ) (given : Gives) → Done (handled_gives station live number given)
  answers_so number given = judges given (judged number given live.rest.asked)

  -- a unit
  ticks_by : (ending : Option Abort) → OnTo (updated (passing_by ending) (Some link))
  ticks_by (Some because) = gone
  ticks_by None = becomes (after_unit link) (passes_on link)

  ticks : Done (ticked station live)
  ticks = λ answers. leads _ _ refl (ticks_by (ending_of link))

  does : (heard : Heard) → Done (handled station live heard)
  does (Asks asker request) = requests asker request.service request
  does (Resolves asker packet) = resolves asker packet (is_request packet.operation && is_running live.values.running packet.target.address)
  does (Reported caller address said) = datagram caller address said (is_running live.values.running address)
  does (Alarms source header message) = alarm message (is_alarm_of source header.destination header.source live.rest.link)
  does (LowReplies source header message) = low_reply source header message (has_sent_low live.rest.link)
  does (LowConfirms source header message) = low_confirm source header message (has_sent_low live.rest.link)
  does (Cyclic source frame_id body) = receives source frame_id body (received_as link.flow source frame_id body)
  does (Applied (local.Input slot subslot value)) = gives_to slot subslot value.items (given_at link.flow slot subslot value.items) refl
  does (Applied (local.Alarm slot subslot octets)) = notices slot subslot octets.items (raised_at link.flow real slot subslot octets.items) refl
  does (Applied (local.Status slot subslot is_good)) =
      rates_as slot subslot is_good (statuses_at real (record { slot = slot; subslot = subslot; is_good = is_good }) live.rest.statuses)
  does (Met peer) = λ answers. leads _ _ refl stands
  does (Applied (local.Diagnosis slot subslot channel error appears)) =
      let change = change_of slot subslot channel error appears in
      diagnoses change (may_be_diagnosed station live change)
  does (Applied (local.Pull slot subslot)) = modules_as (pull_of real slot subslot) (outside slot (pulled slot subslot real))
  does (Applied (local.PullModule slot)) = modules_as (slot_pull_of real slot) (outside slot (slot_pulled slot real))
  does (Applied (local.Plug slot ident part)) = modules_as (plug_of slot ident part) (plugged_with slot ident part real)
  does (Applied (local.ReadyAt slot subslot)) = readies_at slot subslot (is_readied_in slot subslot live.rest.link)
  does (Applied local.Ready) = readies (is_preparing (phase_of live.rest.link))
  does (Applied (local.ProviderState is_running)) = turns_so is_running
  does (Applied (local.Answer number octets)) = answers_so number (gives_octets octets.items)
  does (Applied (local.Written number)) = answers_so number gives_done
  does (Applied (local.Refuse number code1 code2)) = answers_so number (gives_refusal code1 code2)
  does Ticks = ticks
  does Unreadable = refuses note.Fault
  does Elsewhere = refuses note.NotMine

-- One step of a device with a relation, whatever its flash does.
step_of_link : (outcomes : List Outcome) (station : Station) (live : Live) (link : RelationState) (heard : Heard) (next : RelationState)
    → (heard_step outcomes station (record live { rest = record live.rest { link = Some link } }) heard).live.rest.link ≡ Some next
    → Goes live.rest.real.modules.items (heard_step outcomes station (record live { rest = record live.rest { link = Some link } }) heard).live.rest.real.modules.items link next
unfolding heard_step handled_step
step_of_link outcomes station live link heard next e =
    does station live link heard
    (carried outcomes live.values (items_in (handled station (record live { rest = record live.rest { link = Some link } }) heard))).answers next e

pub step_goes : (outcomes : List Outcome) (station : Station) (live : Live) (link : RelationState) (heard : Heard) (next : RelationState) → live.rest.link ≡ Some link
    → (heard_step outcomes station live heard).live.rest.link ≡ Some next
    → Goes live.rest.real.modules.items (heard_step outcomes station live heard).live.rest.real.modules.items link next
step_goes outcomes station live link heard next is e =
    let same : live ≡ record live { rest = record live.rest { link = Some link } } = ap (λ (l : Option RelationState). record live { rest = record live.rest { link = l } }) is in
    subst (λ (l : Live). (heard_step outcomes station l heard).live.rest.link ≡ Some next
    → Goes l.rest.real.modules.items (heard_step outcomes station l heard).live.rest.real.modules.items link next)
    (sym same) (step_of_link outcomes station live link heard next) e
