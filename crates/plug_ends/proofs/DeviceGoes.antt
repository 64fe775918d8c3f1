-- What any event of a device does to its relation: to the records that it has accepted, and to its places.
use Rattle.std.proofs.Common.{◌≡◌, ◌⊎◌, inl, inr, ◌&&◌, ◌++◌, ℕ, Bool, true, false, cond, List, [], ◌∷◌, length, Option, Some, None, is_some, Result, Ok, Err}
use Rattle.std.proofs.Common.{option_map, refl, sym, ap, ◌∙◌, append-nil, append_assoc}
use Rattle.std.specs.Prelude.{if◌then◌else◌, nat_lt, not}
use Rattle.std.proofs.lemmas.Bool.{cond_both}
use Rattle.arrayvec.specs.ArrayVec.{ArrayVec}
use Rattle.pn_values.specs.declared.mac.Mac.{Mac}
use Rattle.pn_values.specs.declared.real.RealModule.{RealModule}
use Rattle.pn_values.specs.declared.set_item.BlockError.{BlockError}
use Rattle.dcp_core.specs.declared.request.Service.{Service}
use Rattle.dcp_core.specs.declared.request.Service.TheVariants as service
use Rattle.dcp_core.specs.Request.{Asked}
use Rattle.dcp_core.specs.Identify.{matches}
use Rattle.dcp_core.specs.Set.{plan_of}
use Rattle.rpc_core.specs.Call.{Asked as Call}
use Rattle.rpc_core.specs.Cache.{Reported as Looked, new, again, old, looked}
use Rattle.rpc_core.specs.Response.{Answered}
use Rattle.records.specs.declared.status.operation.Operation.{Operation}
use Rattle.records.specs.declared.status.operation.Operation.TheVariants.{Connect, Release, Read, Write, Control, ReadImplicit}
use Rattle.records.specs.declared.status.call_fault.CallFault.{CallFault}
use Rattle.records.specs.status.Operation.{operation_of}
use Rattle.record_blocks.specs.declared.write_record.IodWriteReq.{IodWriteReq}
use Rattle.records.specs.declared.writes.write.Effect.{Effect}
use Rattle.records.specs.declared.writes.write.Effect.TheVariants.{Stores, Keeps}
use Rattle.records.specs.declared.writes.writing.Writing.{Writing}
use Rattle.records.specs.declared.writes.writing.Writing.TheVariants.{One, Each}
use Rattle.records.specs.writes.Asked.{writing_of}
use Rattle.module_diff.specs.declared.changes.RealChange.{RealChange}
use Rattle.module_diff.specs.Changes.{affected_by, plugged_with, pulled, slot_pulled}
use Rattle.diagnosis.specs.declared.diagnosis.Change.{Change}
use Rattle.diagnosis.specs.declared.diagnosis.Diagnosis.{Diagnosis}
use Rattle.diagnosis.specs.Existing.{changed}
use Rattle.pn_alarms.specs.declared.device.PduFate.{PduFate}
use Rattle.pn_alarms.specs.declared.device.PduFate.TheVariants as fate
use Rattle.pn_alarms.specs.declared.pdu.Header.{Header}
use Rattle.pn_alarms.specs.Message.{ToDevice}
use Rattle.cyclic_data.specs.declared.exchange.received.Received.{Received}
use Rattle.cyclic_data.specs.declared.exchange.received.Received.TheVariants as received
use Rattle.relations.specs.exchange.Flow.{Flow}
use Rattle.relations.specs.exchange.Statuses.{statuses_at}
use Rattle.relations.specs.declared.exchange.statuses.InputStatus.{InputStatus}
use Rattle.relations.specs.Exchanged.{given_to, heard_by, hearing, raised_to, received_by, receiving}
use Rattle.relations.specs.Diagnosed.{has_sent_low, heard_low, hearing_low}
use Rattle.relations.specs.declared.plugging.PlugAnswer.{PlugAnswer}
use Rattle.relations.specs.declared.plugging.PlugAnswer.TheVariants as to_plug
use Rattle.relations.specs.declared.hearing.ReadyAnswer.{ReadyAnswer}
use Rattle.relations.specs.declared.hearing.ReadyAnswer.TheVariants as to_ready
use Rattle.relations.specs.RelationState.{RelationState, uuid_of, is_alarm_of, is_in_exchange, is_preparing, phase_of}
use Rattle.frame_codec.specs.declared.udp.Caller.{Caller}
use Rattle.device_frames.specs.declared.local.Local.{Local}
use Rattle.device_frames.specs.declared.local.Local.TheVariants as local
use Rattle.device_frames.specs.Heard.{Heard, Ticks, Unreadable, Elsewhere, Asks, Resolves, Reported, Cyclic, Alarms, LowReplies, LowConfirms, Met, Applied}
use Rattle.device_frames.specs.Heard.{Said, Calls, Responds, Garbled}
use Rattle.device_core.specs.State.{Live, Station, alias_in}
use Rattle.device_core.specs.Handled.{Handled, change_of, handled, handled_alarm, handled_answer, handled_asking, handled_blocks, handled_call}
use Rattle.device_core.specs.Handled.{handled_change, handled_effect, handled_input, handled_judged, handled_local, handled_looked, handled_low}
use Rattle.device_core.specs.Handled.{handled_low_pdu, handled_modules, handled_notice, handled_own, handled_pdu, handled_plug_answer, handled_question}
use Rattle.device_core.specs.Handled.{handled_received, handled_request, handled_said, handled_write, is_request, is_running, kept_status, may_be_diagnosed}
use Rattle.device_core.specs.Modules.{outside, plug_of, pull_of, slot_pull_of}
use Rattle.settings_journal.specs.settings_store.Machine.{Outcome, carried}
use Rattle.rpc_core.specs.declared.response.Status.{Status}
use Rattle.wire.specs.blocks.modules.Lists.{Listed}
use Rattle.connect_blocks.specs.declared.module_diff.DiffModule.{DiffModule}
use Rattle.connect_blocks.specs.declared.module_diff.DiffSubmodule.{DiffSubmodule}
use Rattle.connect_blocks.specs.declared.plug_control.PlugControlBlock.{PlugControlBlock}
use Rattle.connects.specs.requests.Request.{Request}
use Rattle.records.specs.declared.writes.taken.TakenRecord.{TakenRecord}
use Rattle.records.specs.writes.Taken.{keep_of}
use Rattle.diagnosis.specs.Queue.{is_next}
use Rattle.expected_places.specs.Machine.{PlugState, answered as places_answered, ended as places_ended, next_called, readied}
use Rattle.pn_alarms.specs.declared.abort.Abort.{Abort}
use Rattle.asked_records.specs.Answers.{Gives, gives_octets, gives_done, gives_refusal, is_refusal, judged}
use Rattle.asked_records.specs.Asked.{AskedState, asks, behind_displaced, displaced_by, is_repeat}
use Rattle.asked_records.specs.Questions.{header_of}
use Rattle.asked_records.specs.declared.answering.AnswerFault.{AnswerFault}
use Rattle.asked_records.specs.declared.question.Question.{Question}
use Rattle.relations.specs.declared.options.DeviceOptions.{DeviceOptions}
use Rattle.relations.specs.declared.phase.Partner.{Partner}
use Rattle.relations.specs.exchange.Diagnosis.{begins_with_one, behind_low, diagnosed, diagnoses_begun, is_diagnosed, next_reported}
use Rattle.relations.specs.exchange.Marks.{Starting}
use Rattle.relations.specs.exchange.Notices.{behind_message}
use Rattle.relations.specs.Calls.{prm_end_of, release_of}
use Rattle.relations.specs.Connect.{connect_within, making, rows_of}
use Rattle.relations.specs.Diagnosed.{beginning, diagnosing, reporting, sent_as}
use Rattle.relations.specs.Exchanged.{hearing_as, rating, receiving_as, turning}
use Rattle.relations.specs.Passed.{passed_more}
use Rattle.relations.specs.Phases.{Handled as Moving, Confirmed, Ended, Exchanged, Made, Named, Parameterized, Passed, Prepared, Records}
use Rattle.relations.specs.Phases.{Reported as ReportedWith, Took, Unmoved, answered, exchanging_from, keeping, kept_in, made_of, passing, passing_by, taking}
use Rattle.relations.specs.Phases.{updated, with_flow}
use Rattle.relations.specs.Plugging.{calling_next, ended_by, is_crowded, is_plug_control, is_readied_in, modules_changing, plug_answer_in, plug_answering}
use Rattle.relations.specs.Plugging.{plug_end_in, plugs_answered, readying_at}
use Rattle.relations.specs.RelationState.{passes_on}
use Rattle.relations.specs.Ready.{answer_of as ready_answer}
use Rattle.relations.specs.Timers.{ending_of, plugs_later}
use Rattle.records.specs.calls.Naming.{is_relation}
use Rattle.device_core.specs.Asking.{Asking, asking_of, is_kept, looked_if, source_of}
use Rattle.device_core.specs.Handled.{partner_of, starting_of}
use Rattle.device_core.specs.Machine.{effect_link, finished, handled_step, heard_step, items_in, link_after, link_behind, one_link, resets, written_as}
use Rattle.device_core.specs.Machine.{first_answer}
use Rattle.device_core.specs.Modules.{calling_after}
use Rattle.device_core.specs.Several.{Judged, judged_each}
use Rattle.end_laws.specs.device.Turn.{change_by, modules_after}
use Rattle.records.specs.declared.status.call_fault.CallFault.TheVariants as fault
use Rattle.records.specs.declared.writes.write.Write.{Write as Written}
use Rattle.records.specs.reads.Within.{names_relation}
use Rattle.records.specs.writes.Entry.{Entry}
use Rattle.diagnosis.specs.Existing.{remaining}
use Rattle.pn_alarms.specs.Device.{end_behind, heard_as, sender_after}
use Rattle.pn_alarms.specs.declared.message.Notice.TheVariants as notice
use Rattle.pn_alarms.specs.declared.receiver.Taken.{Taken}
use Rattle.pn_alarms.specs.declared.receiver.Taken.TheVariants.{New, Again, Refused}
use Rattle.pn_alarms.specs.Alarming.{Alarming}
use Rattle.pn_alarms.specs.Ends.{DeviceEnd}
use Rattle.pn_alarms.specs.Numbers.{is_last}
use Rattle.pn_alarms.specs.Receiver.{taken_as}
use Rattle.pn_alarms.specs.Sender.{is_end}
use Rattle.pn_alarms.specs.Sending.{Sending, rested}
use Rattle.record_blocks.specs.declared.alarm_ack.AlarmAck.{AlarmAck}
use Rattle.relations.specs.declared.phase.Phase.TheVariants.{Awaiting}
use Rattle.relations.specs.exchange.Received.{behind_frame, received_as}
use Rattle.wire.proofs.Fields.{ok_is}

-- ---- the kinds of events

-- The records and the places of a relation.
pub record Holding : Type 0 where
  pub taken : List TakenRecord
  pub plugs : PlugState

-- Those of this one.
abbrev pub holding_of : RelationState → Holding
holding_of link = record { taken = link.taken; plugs = link.plugs }

-- Those of a relation, if there is one.
abbrev pub held : Option RelationState → Option Holding
held link = option_map holding_of link

-- A call is new to the device. The answers to Read Implicit may be stored or not.
abbrev pub IsFresh : Live → Call → Operation → Type 0
IsFresh live call ReadImplicit = Unit {0}
IsFresh live call operation = looked call.header.activity call.header.sequence live.rest.calls ≡ new

-- A call is heard that is new to the device, with this operation.
pub record IsCall (live : Live) (heard : Heard) (caller : Caller) (call : Call) (blocks : List ℕ) (operation : Operation) : Type 0 where
  pub address : List ℕ
  pub is : heard ≡ Reported caller address (Calls call)
  pub asks : operation_of call.header.operation ≡ Some operation
  pub counted : call.blocks ≡ Some blocks
  pub fresh : IsFresh live call operation

-- A Connect is accepted.
pub record IsMade (live : Live) (heard : Heard) (after : Option RelationState) : Type 0 where
  pub caller : Caller
  pub call : Call
  pub blocks : List ℕ
  pub came : IsCall live heard caller call blocks Connect
  pub request : Request
  pub partner : Partner
  pub rows : Listed DiffModule DiffSubmodule
  pub options : DeviceOptions
  pub starting : Starting
  pub made : after ≡ Some (made_of request partner rows options starting)

-- A unit of time passes.
pub record IsLater (before after : Option RelationState) : Type 0 where
  pub link : RelationState
  pub was : before ≡ Some link
  pub becomes : held after ≡ Some (record { taken = link.taken; plugs = plugs_later link })

-- The application is ready for a plug.
pub record IsReadied (before after : Option RelationState) : Type 0 where
  pub link : RelationState
  pub was : before ≡ Some link
  pub slot : ℕ
  pub subslot : ℕ
  pub becomes : held after ≡ Some (record { taken = link.taken; plugs = next_called (readied slot subslot link.plugs) })

-- What an answer means that is positive or not.
abbrev pub answer_as : Bool → PlugAnswer
answer_as true = to_plug.Confirmed
answer_as false = to_plug.Refused

-- The ApplicationReady of a plug is answered.
pub record AnswersPlug (heard : Heard) (before after : Option RelationState) : Type 0 where
  pub link : RelationState
  pub was : before ≡ Some link
  pub caller : Caller
  pub address : List ℕ
  pub response : Answered
  pub is : heard ≡ Reported caller address (Responds response)
  pub is_positive : Bool
  pub means : plug_answer_in response (Some link) ≡ answer_as is_positive
  pub becomes : held after ≡ Some (record { taken = link.taken; plugs = next_called (places_answered is_positive link.plugs) })

-- A PrmEnd after a plug is accepted.
pub record EndsPlug (live : Live) (heard : Heard) (before after : Option RelationState) : Type 0 where
  pub link : RelationState
  pub was : before ≡ Some link
  pub caller : Caller
  pub call : Call
  pub blocks : List ℕ
  pub came : IsCall live heard caller call blocks Control
  pub block : PlugControlBlock
  pub read : plug_end_in blocks (Some link) ≡ Ok block
  pub is_ready : Bool
  pub becomes : held after ≡ Some (record { taken = link.taken; plugs = next_called (places_ended block.alarm_sequence_number is_ready link.plugs) })

-- What is kept of one Write: its record, or nothing if that is passed on.
abbrev pub AreOf : Writing → List TakenRecord → Type 0
AreOf (One write) values = (values ≡ []) ⊎ ((value : TakenRecord) × (write.effect ≡ Keeps value) × (values ≡ value ∷ []))
AreOf (Each header entries) values = Unit {0}

-- A Write is accepted, and these records follow the others.
pub record TakesRecords (live : Live) (heard : Heard) (before after : Option RelationState) : Type 0 where
  pub link : RelationState
  pub was : before ≡ Some link
  pub caller : Caller
  pub call : Call
  pub blocks : List ℕ
  pub came : IsCall live heard caller call blocks Write
  pub writing : Writing
  pub judged : writing_of (uuid_of before) live.rest.real blocks ≡ Ok writing
  pub values : List TakenRecord
  pub are : AreOf writing values
  pub becomes : held after ≡ Some (record { taken = link.taken ++ values; plugs = link.plugs })

-- The next alarm of low priority becomes active, if one does: as another was acknowledged, as data is exchanged from now on, or with
-- a change of diagnosis.
abbrev pub IsTelling : Bool → Flow → Flow → Type 0
IsTelling is_sent after flow =
    ((is_sent ≡ is_next flow.low) × (after ≡ next_reported flow))
    ⊎ (((real : List RealModule) × (diagnoses : List Diagnosis)
    × (is_sent ≡ begins_with_one real diagnoses flow) × (after ≡ diagnoses_begun real diagnoses flow))
    ⊎ ((real : List RealModule) × (change : Change) × (diagnoses : List Diagnosis)
    × (is_sent ≡ is_diagnosed real change diagnoses flow) × (after ≡ diagnosed real change diagnoses flow)))

pub record Tells (before after : Option RelationState) : Type 0 where
  pub link : RelationState
  pub was : before ≡ Some link
  pub middle : RelationState
  pub same : holding_of middle ≡ holding_of link
  pub waiting : middle.flow.low.waiting ≡ link.flow.low.waiting
  pub last : middle.flow.low.alarms.sender.sending.last ≡ link.flow.low.alarms.sender.sending.last
  pub specifier : middle.flow.low.alarms.sender.specifier ≡ link.flow.low.alarms.sender.specifier
  pub is_sent : Bool
  pub flow : Flow
  pub telling : IsTelling is_sent flow middle.flow
  pub becomes : after ≡ updated (sent_as is_sent flow middle) (Some middle)

-- Something is pulled or plugged.
pub record Alters (live : Live) (heard : Heard) (before after : Option RelationState) : Type 0 where
  pub link : RelationState
  pub was : before ≡ Some link
  pub made : RealChange
  pub is : change_by live.rest.real.modules.items heard ≡ Some made
  pub now : List RealModule
  pub modules : modules_after live.rest.real.modules.items heard ≡ Some now
  pub open_room : is_crowded (affected_by made) before ≡ false
  pub diagnoses : List Diagnosis
  pub becomes : after ≡ modules_changing now made diagnoses before

-- What an event does to the relation: its records and places stay, or it ends, or one of the others.
abbrev pub LinkGoes : Live → Heard → Option RelationState → Option RelationState → Type 0
LinkGoes live heard before after =
    (held after ≡ held before) ⊎ ((after ≡ None) ⊎ (IsMade live heard after ⊎ (IsLater before after ⊎ (IsReadied before after
    ⊎ (AnswersPlug heard before after ⊎ (EndsPlug live heard before after ⊎ (TakesRecords live heard before after
    ⊎ (Tells before after ⊎ Alters live heard before after))))))))

-- ---- a PDU of low priority leaves the number of the last alarm, and that of the next one

ended_keeps : {A : Type 0} (part : Alarming → A) (a : Alarming) (b : Bool) → part (record { sending = rested a.sending; specifier = a.specifier; standing = None }) ≡ part a
    → part (cond b (record { sending = rested a.sending; specifier = a.specifier; standing = None }) a) ≡ part a
ended_keeps part a true same = same
ended_keeps part a false same = refl

sender_keeps : {A : Type 0} (part : Alarming → A) (a : Alarming) (ack : AlarmAck) (came : Taken)
    → part (record { sending = rested a.sending; specifier = a.specifier; standing = None }) ≡ part a → part (sender_after a ack came) ≡ part a
sender_keeps part a ack New same = ended_keeps part a (is_end ack a.standing) same
sender_keeps part a ack Again same = refl
sender_keeps part a ack Refused same = refl

acked_last : (s : Sending) (b : Bool) → (cond b (rested s) s).last ≡ s.last
acked_last s true = refl
acked_last s false = refl

pub end_last : (end : DeviceEnd) (message : ToDevice) → (end_behind end message).sender.sending.last ≡ end.sender.sending.last
end_last end (notice.Data number ack) = sender_keeps (λ a. a.sending.last) end.sender ack (taken_as end.seen number) refl
end_last end (notice.Ack number) = acked_last end.sender.sending (is_last end.sender.sending.last number)
end_last end notice.Nack = refl
end_last end (notice.Abort status) = refl

pub end_specifier : (end : DeviceEnd) (message : ToDevice) → (end_behind end message).sender.specifier ≡ end.sender.specifier
end_specifier end (notice.Data number ack) = sender_keeps (λ a. a.specifier) end.sender ack (taken_as end.seen number) refl
end_specifier end (notice.Ack number) = refl
end_specifier end notice.Nack = refl
end_specifier end (notice.Abort status) = refl

-- ---- outcomes that leave them

-- An outcome that leaves records and places.
abbrev IsQuiet : Moving → Type 0
IsQuiet (Made request partner rows options starting) = ⊥
IsQuiet (Took records) = ⊥
IsQuiet (ReportedWith flow taken plugs) = ⊥
IsQuiet Passed = ⊥
IsQuiet Ended = ⊥
IsQuiet other = Unit {0}

quiet_same : (moved : Moving) (link : Option RelationState) → IsQuiet moved → held (updated moved link) ≡ held link
quiet_same (Made request partner rows options starting) link quiet = absurd quiet
quiet_same (Parameterized by_application) None quiet = refl
quiet_same (Parameterized by_application) (Some link) quiet = refl
quiet_same Prepared None quiet = refl
quiet_same Prepared (Some link) quiet = by_test (is_preparing (Some link.phase))
  where
    by_test : (b : Bool) → held (Some (cond b (record link { phase = Awaiting; waited = 0 }) link)) ≡ Some (holding_of link)
    by_test true = refl
    by_test false = refl
quiet_same Confirmed None quiet = refl
quiet_same Confirmed (Some link) quiet = refl
quiet_same (Named source) None quiet = refl
quiet_same (Named source) (Some link) quiet = refl
quiet_same (Took records) link quiet = absurd quiet
quiet_same (Exchanged flow) None quiet = refl
quiet_same (Exchanged flow) (Some link) quiet = refl
quiet_same (ReportedWith flow taken plugs) link quiet = absurd quiet
quiet_same Passed link quiet = absurd quiet
quiet_same Ended link quiet = absurd quiet
quiet_same Unmoved link quiet = refl

answered_quiet : {A : Type 0} (moved : Moving) (outcome : Result A CallFault) → IsQuiet moved → IsQuiet (answered moved outcome)
answered_quiet moved (Ok it) quiet = quiet
answered_quiet moved (Err fault) quiet = tt

named_same : {A : Type 0} (source : Partner) (outcome : Result A CallFault) (link : Option RelationState)
    → held (updated (answered (Named source) outcome) link) ≡ held link
named_same source outcome link = quiet_same (answered (Named source) outcome) link (answered_quiet (Named source) outcome tt)

-- ---- the outcomes of a Write

-- The records after one that is kept or passed on.
kept_more : (value : TakenRecord) (link : RelationState) (records : Records) → keeping value (Some link) ≡ Ok records
    → (records.taken ≡ link.taken) ⊎ (records.taken ≡ link.taken ++ value ∷ [])
unfolding keep_of
kept_more value link records e = by_passing (passes_on link) e
  where
    by_room : (b : Bool) → kept_in link.passed (cond b (Ok (link.taken ++ value ∷ [])) (Err fault.TooManyRecords)) ≡ Ok records
        → records.taken ≡ link.taken ++ value ∷ []
    by_room true f = sym (ap (λ (r : Records). r.taken) (ok_is (record { taken = link.taken ++ value ∷ []; passed = link.passed }) records f))
    by_room false f = absurd cc

    by_passing : (b : Bool)
        → (if b then Ok (record { taken = link.taken; passed = passed_more value link.passed }) else kept_in link.passed (keep_of value link.taken))
        ≡ Ok records
        → (records.taken ≡ link.taken) ⊎ (records.taken ≡ link.taken ++ value ∷ [])
    by_passing true f = inl (sym (ap (λ (r : Records). r.taken) (ok_is (record { taken = link.taken; passed = passed_more value link.passed }) records f)))
    by_passing false f = inr (by_room (nat_lt (length link.taken) 64) f)

-- What one record does that takes a place in the relation, or is refused.
record IsMore (writing : Writing) (before : RelationState) (after : Option RelationState) : Type 0 where
  values : List TakenRecord
  are : AreOf writing values
  becomes : held after ≡ Some (record { taken = before.taken ++ values; plugs = before.plugs })

none_more : (taken : List TakenRecord) (plugs : PlugState)
    → ◌≡◌ {A = Option Holding} (Some (record { taken = taken; plugs = plugs })) (Some (record { taken = taken ++ []; plugs = plugs }))
none_more taken plugs = ap (λ (xs : List TakenRecord). Some (record { taken = xs; plugs = plugs })) (sym (append-nil taken))

one_more : (request : IodWriteReq) (value : TakenRecord) (source : Partner) (link : RelationState)
    → IsMore (One (record { request = request; effect = Keeps value })) link
    (updated (answered (Named source) (keeping value (Some link))) (updated (taking (keeping value (Some link))) (Some link)))
one_more request value source link = by_kept (keeping value (Some link)) refl
  where
    by_kept : (kept : Result Records CallFault) → keeping value (Some link) ≡ kept
        → IsMore (One (record { request = request; effect = Keeps value })) link (updated (answered (Named source) kept) (updated (taking kept) (Some link)))
    by_kept (Err fault) e = record { values = []; are = inl refl; becomes = none_more link.taken link.plugs }
    by_kept (Ok records) e = by_more (kept_more value link records e)
      where
        by_more : (records.taken ≡ link.taken) ⊎ (records.taken ≡ link.taken ++ value ∷ [])
            → IsMore (One (record { request = request; effect = Keeps value })) link
            (updated (answered (Named source) (Ok records)) (updated (taking (Ok records)) (Some link)))
        by_more (inl same) = record {
          values = [];
          are = inl refl;
          becomes = ap (λ (xs : List TakenRecord). Some (record { taken = xs; plugs = link.plugs })) (same ∙ sym (append-nil link.taken));
        }
        by_more (inr more) = record {
          values = value ∷ [];
          are = inr (value, refl, refl);
          becomes = ap (λ (xs : List TakenRecord). Some (record { taken = xs; plugs = link.plugs })) more;
        }

-- The relation after several records has some more.
record HasMore (before : RelationState) (after : Option RelationState) : Type 0 where
  next : RelationState
  is : after ≡ Some next
  values : List TakenRecord
  taken : next.taken ≡ before.taken ++ values
  plugs : next.plugs ≡ before.plugs

nothing_more : (link : RelationState) → HasMore link (Some link)
nothing_more link = record { next = link; is = refl; values = []; taken = sym (append-nil link.taken); plugs = refl }

effect_more : (effect : Effect) (link : RelationState) → HasMore link (effect_link effect (Some link))
effect_more (Stores value) link = nothing_more link
effect_more (Keeps value) link = by_kept (keeping value (Some link)) refl
  where
    by_kept : (kept : Result Records CallFault) → keeping value (Some link) ≡ kept → HasMore link (updated (taking kept) (Some link))
    by_kept (Err fault) e = nothing_more link
    by_kept (Ok records) e = by_more (kept_more value link records e)
      where
        by_more : (records.taken ≡ link.taken) ⊎ (records.taken ≡ link.taken ++ value ∷ []) → HasMore link (updated (taking (Ok records)) (Some link))
        by_more (inl same) = record { next = _; is = refl; values = []; taken = same ∙ sym (append-nil link.taken); plugs = refl }
        by_more (inr more) = record { next = _; is = refl; values = value ∷ []; taken = more; plugs = refl }

judged_more : (one : Result Written Status) (link : RelationState) → HasMore link (one_link one (Some link))
judged_more (Ok write) link = effect_more write.effect link
judged_more (Err status) link = nothing_more link

each_more : (judged : List Judged) (link : RelationState) → HasMore link (link_behind judged (Some link))
each_more [] link = nothing_more link
each_more (one ∷ others) link =
    let first = judged_more one.1 link in
    let rest = each_more others first.next in
    record {
      next = rest.next;
      is = ap (λ (l : Option RelationState). link_behind others l) first.is ∙ rest.is;
      values = first.values ++ rest.values;
      taken = rest.taken ∙ (ap (λ (xs : List TakenRecord). xs ++ rest.values) first.taken ∙ append_assoc link.taken first.values rest.values);
      plugs = rest.plugs ∙ first.plugs;
    }

one_none : (one : Result Written Status) → one_link one None ≡ None
one_none (Ok write) = by_effect write.effect
  where
    by_effect : (effect : Effect) → effect_link effect None ≡ None
    by_effect (Stores value) = refl
    by_effect (Keeps value) = refl
one_none (Err status) = refl

each_none : (judged : List Judged) → link_behind judged None ≡ None
each_none [] = refl
each_none (one ∷ others) = ap (λ (l : Option RelationState). link_behind others l) (one_none one.1) ∙ each_none others

module _ (live : Live) (heard : Heard) where
  -- What becomes of the relation.
  abbrev Goes : Option RelationState → Option RelationState → Type 0
  Goes before after = LinkGoes live heard before after

  effect_goes : (caller : Caller) (call : Call) (blocks : List ℕ) (request : IodWriteReq) (value : TakenRecord) (link : Option RelationState)
      → IsCall live heard caller call blocks Write
      → writing_of (uuid_of link) live.rest.real blocks ≡ Ok (One (record { request = request; effect = Keeps value }))
      → Goes link (updated (answered (Named (partner_of caller)) (keeping value link)) (updated (taking (keeping value link)) link))
  effect_goes caller call blocks request value None came judged = inl refl
  effect_goes caller call blocks request value (Some link) came judged =
      let more = one_more request value (partner_of caller) link in
      inr (inr (inr (inr (inr (inr (inr (inl (record {
        link = link;
        was = refl;
        caller = caller;
        call = call;
        blocks = blocks;
        came = came;
        writing = One (record { request = request; effect = Keeps value });
        judged = judged;
        values = more.values;
        are = more.are;
        becomes = more.becomes;
      }))))))))

  each_goes : (caller : Caller) (call : Call) (blocks : List ℕ) (header : IodWriteReq) (entries : List Entry) (judgements : List Judged)
      (link : Option RelationState)
      → IsCall live heard caller call blocks Write → writing_of (uuid_of link) live.rest.real blocks ≡ Ok (Each header entries)
      → Goes link (updated (Named (partner_of caller)) (link_behind judgements link))
  each_goes caller call blocks header entries judgements None came judged =
      inr (inl (ap (λ (l : Option RelationState). updated (Named (partner_of caller)) l) (each_none judgements)))
  each_goes caller call blocks header entries judgements (Some link) came judged =
      let more = each_more judgements link in
      inr (inr (inr (inr (inr (inr (inr (inl (record {
        link = link;
        was = refl;
        caller = caller;
        call = call;
        blocks = blocks;
        came = came;
        writing = Each header entries;
        judged = judged;
        values = more.values;
        are = tt;
        becomes = ap (λ (l : Option RelationState). held (updated (Named (partner_of caller)) l)) more.is
            ∙ (ap (λ (xs : List TakenRecord). Some (record { taken = xs; plugs = more.next.plugs })) more.taken
            ∙ ap (λ (plugs : PlugState). Some (record { taken = link.taken ++ more.values; plugs = plugs })) more.plugs);
      }))))))))

  -- ---- PrmEnd after a plug, and the answers to ApplicationReady

  plug_end_goes : (caller : Caller) (call : Call) (blocks : List ℕ) (by_application : Bool) (link : Option RelationState)
      → IsCall live heard caller call blocks Control
      → (named : Result PlugControlBlock CallFault) → plug_end_in blocks link ≡ named
      → Goes link (calling_after named (updated (answered (Named (partner_of caller)) named) (ended_by by_application named link)))
  plug_end_goes caller call blocks by_application link came (Err fault) e = inl refl
  plug_end_goes caller call blocks by_application None came (Ok block) e = inl refl
  plug_end_goes caller call blocks by_application (Some link) came (Ok block) e =
      inr (inr (inr (inr (inr (inr (inl (record {
        link = link;
        was = refl;
        caller = caller;
        call = call;
        blocks = blocks;
        came = came;
        block = block;
        read = e;
        is_ready = not by_application;
        becomes = refl;
      })))))))

  answering_goes : (caller : Caller) (address : List ℕ) (response : Answered) (is_positive : Bool) (link : Option RelationState)
      → heard ≡ Reported caller address (Responds response) → plug_answer_in response link ≡ answer_as is_positive
      → Goes link (calling_next (plug_answering response link))
  answering_goes caller address response is_positive None is means = inl refl
  answering_goes caller address response is_positive (Some link) is means =
      inr (inr (inr (inr (inr (inl (record {
        link = link;
        was = refl;
        caller = caller;
        address = address;
        response = response;
        is = is;
        is_positive = is_positive;
        means = means;
        becomes = ap (λ (answer : PlugAnswer). let h : Option Holding = Some
            (record { taken = link.taken; plugs = next_called (plugs_answered answer link.plugs) }) in h) means ∙ by_positive is_positive;
      }))))))
    where
      by_positive : (b : Bool) → ◌≡◌ {A = Option Holding} (Some (record { taken = link.taken; plugs = next_called (plugs_answered (answer_as b) link.plugs) }))
          (Some (record { taken = link.taken; plugs = next_called (places_answered b link.plugs) }))
      by_positive true = refl
      by_positive false = refl

  readying_goes : (slot subslot : ℕ) (link : Option RelationState) → Goes link (calling_next (readying_at slot subslot link))
  readying_goes slot subslot None = inl refl
  readying_goes slot subslot (Some link) = inr (inr (inr (inr (inl (record { link = link; was = refl; slot = slot; subslot = subslot; becomes = refl })))))

  -- ---- alarms

  tells : (before after : Option RelationState) → Tells before after → Goes before after
  tells before after it = inr (inr (inr (inr (inr (inr (inr (inr (inl it))))))))

  telling_next : (message : ToDevice) (link : Option RelationState)
      → Goes link (updated (reporting (updated (hearing_low message link) link)) (updated (hearing_low message link) link))
  telling_next message None = inl refl
  telling_next message (Some link) =
      let middle = with_flow (behind_low link.flow message) link in
      tells (Some link) _ (record {
        link = link;
        was = refl;
        middle = middle;
        same = refl;
        waiting = refl;
        last = end_last link.flow.low.alarms message;
        specifier = end_specifier link.flow.low.alarms message;
        is_sent = is_next middle.flow.low;
        flow = next_reported middle.flow;
        telling = inl (refl, refl);
        becomes = refl;
      })

  beginning_goes : (real : List RealModule) (diagnoses : List Diagnosis) (link : Option RelationState)
      → Goes link (updated (beginning real diagnoses (option_map exchanging_from link)) (option_map exchanging_from link))
  beginning_goes real diagnoses None = inl refl
  beginning_goes real diagnoses (Some link) =
      let middle = exchanging_from link in
      tells (Some link) _ (record {
        link = link;
        was = refl;
        middle = middle;
        same = refl;
        waiting = refl;
        last = refl;
        specifier = refl;
        is_sent = begins_with_one real diagnoses middle.flow;
        flow = diagnoses_begun real diagnoses middle.flow;
        telling = inr (inl (real, diagnoses, refl, refl));
        becomes = refl;
      })

  diagnosing_goes : (real : List RealModule) (change : Change) (diagnoses : List Diagnosis) (link : Option RelationState)
      → Goes link (updated (diagnosing real change diagnoses link) link)
  diagnosing_goes real change diagnoses None = inl refl
  diagnosing_goes real change diagnoses (Some link) =
      tells (Some link) _ (record {
        link = link;
        was = refl;
        middle = link;
        same = refl;
        waiting = refl;
        last = refl;
        specifier = refl;
        is_sent = is_diagnosed real change diagnoses link.flow;
        flow = diagnosed real change diagnoses link.flow;
        telling = inr (inr (real, change, diagnoses, refl, refl));
        becomes = refl;
      })

  changing_goes : (made : RealChange) (now : List RealModule) (diagnoses : List Diagnosis) (link : Option RelationState)
      → change_by live.rest.real.modules.items heard ≡ Some made → modules_after live.rest.real.modules.items heard ≡ Some now
      → is_crowded (affected_by made) link ≡ false → Goes link (modules_changing now made diagnoses link)
  changing_goes made now diagnoses None is modules open_room = inl refl
  changing_goes made now diagnoses (Some link) is modules open_room = inr (inr (inr (inr (inr (inr (inr (inr (inr (record {
    link = link;
    was = refl;
    made = made;
    is = is;
    now = now;
    modules = modules;
    open_room = open_room;
    diagnoses = diagnoses;
    becomes = refl;
  })))))))))

  -- ---- what is heard of the exchange, and time

  receiving_same : (source : Mac) (frame_id : ℕ) (body : List ℕ) (link : Option RelationState)
      → held (updated (receiving source frame_id body link) link) ≡ held link
  receiving_same source frame_id body None = refl
  receiving_same source frame_id body (Some link) =
      quiet_same (receiving source frame_id body (Some link)) (Some link)
      (by_received (received_as link.flow source frame_id body) (behind_frame link.flow source frame_id body))
    where
      by_received : (came : Received) (flow : Flow) → IsQuiet (receiving_as came flow)
      by_received received.Foreign flow = tt
      by_received received.Short flow = tt
      by_received received.Stale flow = tt
      by_received received.Taken flow = tt

  hearing_goes : (message : ToDevice) (link : Option RelationState) → Goes link (updated (hearing message link) link)
  hearing_goes message None = inl refl
  hearing_goes message (Some link) = by_fate (heard_as link.flow.alarms message) (behind_message link.flow message)
    where
      by_fate : (came : PduFate) (flow : Flow) → Goes (Some link) (updated (hearing_as came flow) (Some link))
      by_fate (fate.Data taken) flow = inl refl
      by_fate fate.Done flow = inl refl
      by_fate fate.Ignored flow = inl refl
      by_fate (fate.Aborted status) flow = inr (inl refl)

  hearing_low_same : (message : ToDevice) (link : Option RelationState) → held (updated (hearing_low message link) link) ≡ held link
  hearing_low_same message None = refl
  hearing_low_same message (Some link) = refl

  rating_same : (slot subslot : ℕ) (is_good : Bool) (link : Option RelationState) → held (updated (rating slot subslot is_good link) link) ≡ held link
  rating_same slot subslot is_good None = refl
  rating_same slot subslot is_good (Some link) = refl

  turning_same : (is_running : Bool) (link : Option RelationState) → held (updated (turning is_running link) link) ≡ held link
  turning_same is_running None = refl
  turning_same is_running (Some link) = refl

  passing_goes : (link : Option RelationState) → Goes link (updated (passing link) link)
  passing_goes None = inl refl
  passing_goes (Some link) = by_ending (ending_of link)
    where
      by_ending : (ending : Option Abort) → Goes (Some link) (updated (passing_by ending) (Some link))
      by_ending None = inr (inr (inr (inl (record { link = link; was = refl; becomes = refl }))))
      by_ending (Some reason) = inr (inl refl)

-- ---- the cases

module _ (station : Station) (live : Live) (answers : List BlockError) (heard : Heard) where
  -- What becomes of the relation with an outcome.
  abbrev LinkBy : Handled → Type 0
  LinkBy what = LinkGoes live heard live.rest.link (finished station.identity live.rest what answers).rest.link

  stays : LinkGoes live heard live.rest.link live.rest.link
  stays = inl refl

  request_goes : (asker : Mac) (asked : Service) (request : Asked) → LinkBy (handled_request station live asker asked request)
  request_goes asker service.Identify request =
      cond_both (matches station.identity live.values.running (alias_in live.rest.peer) request) _ _ LinkBy (λ _. stays) (λ _. stays)
  request_goes asker service.Get request = stays
  request_goes asker service.Set request = by_reset (resets (plan_of (is_some live.rest.link) request) answers)
    where
      by_reset : (ends : Bool) → LinkGoes live heard live.rest.link (link_after ends live.rest.link)
      by_reset true = inr (inl refl)
      by_reset false = stays

  write_goes : (caller : Caller) (call : Call) (blocks : List ℕ) → IsCall live heard caller call blocks Write → (writing : Result Writing CallFault)
      → writing_of (uuid_of live.rest.link) live.rest.real blocks ≡ writing → LinkBy (handled_write station live caller call writing)
  write_goes caller call blocks came (Ok (One write)) e = by_effect write.effect refl
    where
      by_effect : (effect : Effect) → write.effect ≡ effect → LinkBy (handled_effect station live caller call write.request effect)
      by_effect (Stores value) f = inl (named_same (partner_of caller) (written_as write.request (first_answer answers)) live.rest.link)
      by_effect (Keeps value) f =
          effect_goes live heard caller call blocks write.request value live.rest.link came
          (e ∙ ap (λ (effect : Effect). let w : Result Writing CallFault = Ok (One (record { request = write.request; effect = effect })) in w) f)
  write_goes caller call blocks came (Ok (Each header entries)) e =
      each_goes live heard caller call blocks header entries (judged_each station.named (uuid_of live.rest.link) live.rest.real entries) live.rest.link came e
  write_goes caller call blocks came (Err fault) e = stays

  connect_goes : (caller : Caller) (call : Call) (blocks : List ℕ) → IsCall live heard caller call blocks Connect → (asked : Result Request CallFault)
      → LinkGoes live heard live.rest.link (updated (making live.rest.real (partner_of caller) station.options (starting_of station live) asked) live.rest.link)
  connect_goes caller call blocks came (Ok request) = inr (inr (inl (record {
    caller = caller;
    call = call;
    blocks = blocks;
    came = came;
    request = request;
    partner = partner_of caller;
    rows = rows_of request live.rest.real;
    options = station.options;
    starting = starting_of station live;
    made = refl;
  })))
  connect_goes caller call blocks came (Err fault) = stays

  release_goes : {A : Type 0} (released : Result A CallFault) → LinkGoes live heard live.rest.link (updated (answered Ended released) live.rest.link)
  release_goes (Ok it) = inr (inl refl)
  release_goes (Err fault) = stays

  own_goes : (caller : Caller) (call : Call) (blocks : List ℕ) (operation : Operation) → IsCall live heard caller call blocks operation
      → LinkBy (handled_own station live caller call blocks operation)
  own_goes caller call blocks Connect came = connect_goes caller call blocks came (connect_within station.options caller.mac live.rest.link blocks)
  own_goes caller call blocks Release came = release_goes (release_of live.rest.link blocks)
  own_goes caller call blocks Read came = inl (named_same (partner_of caller) _ live.rest.link)
  own_goes caller call blocks Write came = write_goes caller call blocks came (writing_of (uuid_of live.rest.link) live.rest.real blocks) refl
  own_goes caller call blocks Control came = cond_both (is_plug_control blocks live.rest.link) _ _ LinkBy
      (λ _. plug_end_goes live heard caller call blocks station.options.ready_by_application live.rest.link came (plug_end_in blocks live.rest.link) refl)
      (λ _. inl (named_same (partner_of caller) (prm_end_of live.rest.link blocks) _
      ∙ quiet_same (answered (Parameterized station.options.ready_by_application) (prm_end_of live.rest.link blocks)) live.rest.link
      (answered_quiet (Parameterized station.options.ready_by_application) (prm_end_of live.rest.link blocks) tt)))
  own_goes caller call blocks ReadImplicit came =
      by_named (names_relation (uuid_of live.rest.link) blocks) _
    where
      by_named : (b : Bool) (read : Result (List ℕ) CallFault)
          → LinkGoes live heard live.rest.link (updated (answered (if b then Named (partner_of caller) else Unmoved) read) live.rest.link)
      by_named true read = inl (named_same (partner_of caller) read live.rest.link)
      by_named false read = inl (quiet_same (answered Unmoved read) live.rest.link (answered_quiet Unmoved read tt))

  question_goes : (question : Question) (displaced : Option Question) (asked : Option AskedState) → LinkBy (handled_question station live question displaced asked)
  question_goes question displaced (Some asked) = stays
  question_goes question displaced None = stays

  asking_goes : (caller : Caller) (call : Call) (blocks : List ℕ) (operation : Operation) (asking : Result (Option Asking) CallFault)
      → IsCall live heard caller call blocks operation
      → LinkBy (handled_asking station live caller call blocks operation asking)
  asking_goes caller call blocks operation (Ok None) came = own_goes caller call blocks operation came
  asking_goes caller call blocks operation (Ok (Some asking)) came =
      let displaced = displaced_by station.options.asks_own_first asking.0 live.rest.asked in
      question_goes asking.0 displaced (asks asking.0 asking.1 (behind_displaced displaced live.rest.asked))
  asking_goes caller call blocks operation (Err fault) came = stays

  looked_goes : (caller : Caller) (address : List ℕ) (call : Call) (blocks : List ℕ) (operation : Operation) (reported : Looked)
      → (looked_if (is_kept station.options operation) call.header.activity call.header.sequence live.rest.calls ≡ new → IsCall live heard caller call blocks operation)
      → looked_if (is_kept station.options operation) call.header.activity call.header.sequence live.rest.calls ≡ reported
      → LinkBy (handled_looked station live caller call blocks operation reported)
  looked_goes caller address call blocks operation new came e =
      cond_both (is_repeat call.header.activity call.header.sequence live.rest.asked) _ _ LinkBy (λ _. stays)
      (λ _. asking_goes caller call blocks operation (asking_of live.rest.real station.named (uuid_of live.rest.link) caller call blocks operation) (came e))
  looked_goes caller address call blocks operation (again frame) came e = stays
  looked_goes caller address call blocks operation old came e = stays

  fresh_of : (call : Call) (operation : Operation)
      → looked_if (is_kept station.options operation) call.header.activity call.header.sequence live.rest.calls ≡ new → IsFresh live call operation
  fresh_of call Connect fresh = fresh
  fresh_of call Release fresh = fresh
  fresh_of call Read fresh = fresh
  fresh_of call Write fresh = fresh
  fresh_of call Control fresh = fresh
  fresh_of call ReadImplicit fresh = tt

  call_goes : (caller : Caller) (address : List ℕ) (call : Call) → heard ≡ Reported caller address (Calls call) → (operation : Option Operation)
      → operation_of call.header.operation ≡ operation → LinkBy (handled_call station live caller call operation)
  call_goes caller address call is None asks = stays
  call_goes caller address call is (Some operation) asks = by_blocks call.blocks refl
    where
      by_blocks : (blocks : Option (List ℕ)) → call.blocks ≡ blocks → LinkBy (handled_blocks station live caller call operation blocks)
      by_blocks None e = stays
      by_blocks (Some blocks) e = looked_goes caller address call blocks operation
          (looked_if (is_kept station.options operation) call.header.activity call.header.sequence live.rest.calls)
          (λ fresh. record { address = address; is = is; asks = asks; counted = e; fresh = fresh_of call operation fresh }) refl

  answer_goes : (answer : ReadyAnswer) → LinkBy (handled_answer station live answer)
  answer_goes to_ready.NotWanted = stays
  answer_goes to_ready.Garbled = stays
  answer_goes to_ready.Confirmed = beginning_goes live heard live.rest.real.modules.items live.rest.diagnoses live.rest.link
  answer_goes (to_ready.Refused farewell) = inr (inl refl)

  plug_answer_goes : (caller : Caller) (address : List ℕ) (response : Answered) → heard ≡ Reported caller address (Responds response) → (answer : PlugAnswer)
      → plug_answer_in response live.rest.link ≡ answer → LinkBy (handled_plug_answer live response answer)
  plug_answer_goes caller address response is to_plug.NotWanted e = stays
  plug_answer_goes caller address response is to_plug.Garbled e = stays
  plug_answer_goes caller address response is to_plug.Confirmed e = answering_goes live heard caller address response true live.rest.link is e
  plug_answer_goes caller address response is to_plug.Refused e = answering_goes live heard caller address response false live.rest.link is e

  said_goes : (caller : Caller) (address : List ℕ) (said : Said) → heard ≡ Reported caller address said → LinkBy (handled_said station live caller said)
  said_goes caller address (Calls call) is = call_goes caller address call is (operation_of call.header.operation) refl
  said_goes caller address (Responds response) is = cond_both (is_in_exchange live.rest.link) _ _ LinkBy
      (λ _. plug_answer_goes caller address response is (plug_answer_in response live.rest.link) refl) (λ _. answer_goes (ready_answer response live.rest.link))
  said_goes caller address Garbled is = stays

  pdu_goes : (came : PduFate) (link : Option RelationState) → LinkGoes live heard live.rest.link link → LinkBy (handled_pdu live came link)
  pdu_goes (fate.Data taken) link goes = goes
  pdu_goes fate.Done link goes = goes
  pdu_goes fate.Ignored link goes = stays
  pdu_goes (fate.Aborted status) link goes = goes

  alarm_goes : (source : Mac) (header : Header) (message : ToDevice) → LinkBy (handled_alarm live source header message)
  alarm_goes source header message = cond_both (is_alarm_of source header.destination header.source live.rest.link) _ _ LinkBy
      (λ _. pdu_goes (heard_by message live.rest.link) (updated (hearing message live.rest.link) live.rest.link)
      (hearing_goes live heard message live.rest.link)) (λ _. stays)

  low_goes : (source : Mac) (header : Header) (message : ToDevice) → LinkBy (handled_low station live source header message)
  low_goes source header message = cond_both (is_alarm_of source header.destination header.source live.rest.link) _ _ LinkBy
      (λ _. by_fate (heard_low message live.rest.link)) (λ _. stays)
    where
      by_fate : (came : PduFate) → LinkBy (handled_low_pdu station live came (updated (hearing_low message live.rest.link) live.rest.link))
      by_fate (fate.Data taken) = telling_next live heard message live.rest.link
      by_fate fate.Done = inl (hearing_low_same live heard message live.rest.link)
      by_fate fate.Ignored = stays
      by_fate (fate.Aborted status) = stays

  received_goes : (came : Received) (link : Option RelationState) → held link ≡ held live.rest.link → LinkBy (handled_received live came link)
  received_goes received.Foreign link same = stays
  received_goes received.Short link same = stays
  received_goes received.Stale link same = stays
  received_goes received.Taken link same = inl same

  -- ---- the application

  judged_goes : (given : Gives) (judgement : Result Question AnswerFault) → LinkBy (handled_judged station live given judgement)
  judged_goes given (Ok question) = by_named (is_relation (uuid_of live.rest.link) (header_of question.request).ar_uuid && not (is_refusal given))
    where
      by_named : (b : Bool) → LinkGoes live heard live.rest.link (updated (if b then Named (source_of question) else Unmoved) live.rest.link)
      by_named true = inl (quiet_same (Named (source_of question)) live.rest.link tt)
      by_named false = stays
  judged_goes given (Err fault) = stays

  flow_goes : (flow : Flow) → LinkGoes live heard live.rest.link (updated (Exchanged flow) live.rest.link)
  flow_goes flow = inl (quiet_same (Exchanged flow) live.rest.link tt)

  input_goes : (given : Option Flow) → LinkBy (handled_input live given)
  input_goes None = stays
  input_goes (Some flow) = flow_goes flow

  notice_goes : (raised : Option Flow) → LinkBy (handled_notice live raised)
  notice_goes None = stays
  notice_goes (Some flow) = flow_goes flow

  status_goes : (slot subslot : ℕ) (is_good : Bool) (statuses : Option (List InputStatus)) → LinkBy (kept_status live slot subslot is_good statuses)
  status_goes slot subslot is_good None = stays
  status_goes slot subslot is_good (Some statuses) = inl (rating_same live heard slot subslot is_good live.rest.link)

  change_goes : (change : Change) (diagnoses : Option (List Diagnosis)) → LinkBy (handled_change station live change diagnoses)
  change_goes change None = stays
  change_goes change (Some diagnoses) = diagnosing_goes live heard live.rest.real.modules.items change diagnoses live.rest.link

  modules_goes : (made : RealChange) (real : Option (List RealModule)) → change_by live.rest.real.modules.items heard ≡ Some made
      → modules_after live.rest.real.modules.items heard ≡ real → LinkBy (handled_modules live made real)
  modules_goes made None is after = stays
  modules_goes made (Some real) is after = cond_both (is_crowded (affected_by made) live.rest.link) _ _ LinkBy (λ _. stays)
      (λ open_room. changing_goes live heard made real (remaining (affected_by made) live.rest.diagnoses) live.rest.link is after open_room)

  local_goes : (said : Local (ArrayVec ℕ)) → heard ≡ Applied said → LinkBy (handled_local station live said)
  local_goes (local.Answer number octets) is = judged_goes (gives_octets octets.items) (judged number (gives_octets octets.items) live.rest.asked)
  local_goes (local.Written number) is = judged_goes gives_done (judged number gives_done live.rest.asked)
  local_goes (local.Refuse number code1 code2) is = judged_goes (gives_refusal code1 code2) (judged number (gives_refusal code1 code2) live.rest.asked)
  local_goes (local.Input slot subslot value) is = input_goes (given_to slot subslot value.items live.rest.link)
  local_goes (local.Alarm slot subslot octets) is = notice_goes (raised_to live.rest.real.modules.items slot subslot octets.items live.rest.link)
  local_goes (local.Status slot subslot is_good) is = status_goes slot subslot is_good
      (statuses_at live.rest.real.modules.items (record { slot = slot; subslot = subslot; is_good = is_good }) live.rest.statuses)
  local_goes (local.Diagnosis slot subslot channel error appears) is =
      let change = change_of slot subslot channel error appears in
      cond_both (may_be_diagnosed station live change) _ _ LinkBy (λ _. change_goes change (changed change live.rest.diagnoses)) (λ _. stays)
  local_goes (local.Pull slot subslot) is =
      modules_goes (pull_of live.rest.real.modules.items slot subslot) (outside slot (pulled slot subslot live.rest.real.modules.items))
      (ap (λ (h : Heard). change_by live.rest.real.modules.items h) is) (ap (λ (h : Heard). modules_after live.rest.real.modules.items h) is)
  local_goes (local.PullModule slot) is =
      modules_goes (slot_pull_of live.rest.real.modules.items slot) (outside slot (slot_pulled slot live.rest.real.modules.items))
      (ap (λ (h : Heard). change_by live.rest.real.modules.items h) is) (ap (λ (h : Heard). modules_after live.rest.real.modules.items h) is)
  local_goes (local.Plug slot ident part) is = modules_goes (plug_of slot ident part) (plugged_with slot ident part live.rest.real.modules.items)
      (ap (λ (h : Heard). change_by live.rest.real.modules.items h) is) (ap (λ (h : Heard). modules_after live.rest.real.modules.items h) is)
  local_goes (local.ReadyAt slot subslot) is = cond_both (is_readied_in slot subslot live.rest.link) _ _ LinkBy
      (λ _. readying_goes live heard slot subslot live.rest.link) (λ _. stays)
  local_goes local.Ready is = cond_both (is_preparing (phase_of live.rest.link)) _ _ LinkBy (λ _. inl (quiet_same Prepared live.rest.link tt)) (λ _. stays)
  local_goes (local.ProviderState is_running) is = inl (turning_same live heard is_running live.rest.link)

-- What becomes of the relation with any event.
link_goes : (station : Station) (live : Live) (answers : List BlockError) (heard : Heard)
    → LinkGoes live heard live.rest.link (finished station.identity live.rest (handled station live heard) answers).rest.link
link_goes station live answers (Asks asker request) = request_goes station live answers (Asks asker request) asker request.service request
link_goes station live answers (Resolves asker packet) =
    let heard = Resolves asker packet in
    cond_both (is_request packet.operation && is_running live.values.running packet.target.address) _ _ (LinkBy station live answers heard)
    (λ _. stays station live answers heard) (λ _. stays station live answers heard)
link_goes station live answers (Reported caller address said) =
    let heard = Reported caller address said in
    cond_both (is_running live.values.running address) _ _ (LinkBy station live answers heard)
    (λ _. said_goes station live answers heard caller address said refl) (λ _. stays station live answers heard)
link_goes station live answers (Alarms source header message) = alarm_goes station live answers (Alarms source header message) source header message
link_goes station live answers (LowReplies source header message) =
    let heard = LowReplies source header message in
    cond_both (has_sent_low live.rest.link) _ _ (LinkBy station live answers heard)
    (λ _. low_goes station live answers heard source header message) (λ _. alarm_goes station live answers heard source header message)
link_goes station live answers (LowConfirms source header message) =
    let heard = LowConfirms source header message in
    cond_both (has_sent_low live.rest.link) _ _ (LinkBy station live answers heard)
    (λ _. low_goes station live answers heard source header message) (λ _. stays station live answers heard)
link_goes station live answers (Cyclic source frame_id body) =
    let heard = Cyclic source frame_id body in
    received_goes station live answers heard (received_by source frame_id body live.rest.link)
    (updated (receiving source frame_id body live.rest.link) live.rest.link) (receiving_same live heard source frame_id body live.rest.link)
link_goes station live answers (Met peer) = stays station live answers (Met peer)
link_goes station live answers (Applied said) = local_goes station live answers (Applied said) said refl
link_goes station live answers Ticks = passing_goes live Ticks live.rest.link
link_goes station live answers Unreadable = stays station live answers Unreadable
link_goes station live answers Elsewhere = stays station live answers Elsewhere

-- What becomes of it with a step, whatever the flash does.
pub step_link_goes : (station : Station) (live : Live) (outcomes : List Outcome) (heard : Heard)
    → LinkGoes live heard live.rest.link (heard_step outcomes station live heard).live.rest.link
unfolding heard_step handled_step
step_link_goes station live outcomes heard = link_goes station live (carried outcomes live.values (items_in (handled station live heard))).answers heard
