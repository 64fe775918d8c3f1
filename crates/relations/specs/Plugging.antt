-- Modules that come and go while there is a relation (IEC 61158-6-10, 4.8 and 5.2.4.5).
use Rattle.std.specs.Prelude.{◌==◌, ◌&&◌, ℕ, Bool, true, false, not, nat_eq, nat_le, List, [], ◌∷◌, length, Option, Some, None}
use Rattle.std.specs.Prelude.{Result, Ok, Err, option_map, if◌then◌else◌}
use Rattle.std.specs.List.{fold}
use Rattle.std.specs.Cmp.Lexicographic.{pointwise}
use Rattle.pn_values.specs.declared.real.RealModule.{RealModule}
use Rattle.wire.specs.blocks.modules.Lists.{Listed}
use Rattle.wire.specs.Codec.{◌>>=◌}
use Rattle.wire.specs.Formats.{number}
use Rattle.wire.specs.declared.blocks.fault.BlockFault.{BlockFault}
use Rattle.connect_blocks.specs.PlugControl.{plug_control, plug_ready_res}
use Rattle.connect_blocks.specs.declared.module_diff.DiffModule.{DiffModule}
use Rattle.connect_blocks.specs.declared.module_diff.DiffSubmodule.{DiffSubmodule}
use Rattle.connect_blocks.specs.declared.plug_control.PlugControlBlock.{PlugControlBlock}
use Rattle.connects.specs.requests.Request.{Request}
use Rattle.module_diff.specs.declared.changes.Affected.{Affected}
use Rattle.module_diff.specs.declared.changes.ChangeKind.{ChangeKind}
use Rattle.module_diff.specs.declared.changes.ChangeKind.TheVariants.{Pull, PullModule, Plug}
use Rattle.module_diff.specs.declared.changes.RealChange.{RealChange}
use Rattle.module_diff.specs.Changes.{affected_by, covers}
use Rattle.module_diff.specs.Diff.{diff_of, is_listed}
use Rattle.records.specs.declared.status.call_fault.CallFault.{CallFault}
use Rattle.records.specs.declared.status.call_fault.CallFault.TheVariants as fault
use Rattle.records.specs.calls.Handled.{handled}
use Rattle.records.specs.declared.writes.taken.TakenRecord.{TakenRecord}
use Rattle.records.specs.writes.Taken.{forgotten_at}
use Rattle.diagnosis.specs.alarms.Alarms.{Low, is_full}
use Rattle.diagnosis.specs.declared.alarms.alarms.SentAlarm.{SentAlarm}
use Rattle.diagnosis.specs.declared.diagnosis.Diagnosis.{Diagnosis}
use Rattle.diagnosis.specs.declared.module_change.ModuleChange.{ModuleChange}
use Rattle.diagnosis.specs.declared.queue.LowChange.{LowChange}
use Rattle.diagnosis.specs.declared.queue.LowChange.TheVariants as change
use Rattle.diagnosis.specs.declared.queue.QueuedAlarm.{QueuedAlarm}
use Rattle.diagnosis.specs.Queue.{alarmed, is_module_sent, is_plug, modules_changed, reach_of, waits_for_plug}
use Rattle.expected_places.specs.declared.calls.PlugCall.{PlugCall}
use Rattle.expected_places.specs.declared.place.ExpectedPlace.{ExpectedPlace}
use Rattle.expected_places.specs.declared.place.Step.{Step}
use Rattle.expected_places.specs.declared.place.Step.TheVariants as step
use Rattle.expected_places.specs.Machine.{PlugState, answered, ended, is_ended, is_hit, is_next_called, is_readied, next_called, readied, restated, told, touched}
use Rattle.rpc_core.specs.declared.header.CallHeader.{CallHeader}
use Rattle.rpc_core.specs.declared.interface.Interface.TheVariants.{Controller}
use Rattle.rpc_core.specs.Interface.{interface_uuid}
use Rattle.rpc_core.specs.Response.{Answered, is_done}
use Rattle.relations.specs.declared.plugging.PlugAnswer.{PlugAnswer}
use Rattle.relations.specs.declared.plugging.PlugAnswer.TheVariants as answer
use Rattle.relations.specs.declared.plugging.PlugReady.{PlugReady}
use Rattle.relations.specs.exchange.Diagnosis.{with_low}
use Rattle.relations.specs.exchange.Flow.{Flow}
use Rattle.relations.specs.exchange.Modules.{modules_restated, renewed, restated_flow}
use Rattle.relations.specs.RelationState.{RelationState, is_named, is_session}

-- ---- an alarm of low priority is first sent

-- The records that were accepted at an affected place are forgotten.
abbrev pub forgotten_there : Affected → List TakenRecord → ExpectedPlace → List TakenRecord
forgotten_there affected taken place = if covers affected place.slot place.subslot then forgotten_at place.slot place.subslot taken else taken

-- So are those of each affected place.
abbrev pub kept_records : Affected → List ExpectedPlace → List TakenRecord → List TakenRecord
kept_records affected places taken = fold (forgotten_there affected) taken places

-- With the alarm of a pull or a plug the records of what was there before are forgotten. Other alarms leave the records.
abbrev pub taken_told : LowChange → List ExpectedPlace → List TakenRecord → List TakenRecord
taken_told (change.Diagnosis made) places taken = taken
taken_told (change.Module made) places taken = kept_records (reach_of made) places taken

-- With the alarm of a plug, which has this number, its place is reported, if no later plug there waits for its alarm.
abbrev pub plugs_told : LowChange → ℕ → List QueuedAlarm → PlugState → PlugState
plugs_told (change.Diagnosis made) number waiting plugs = plugs
plugs_told (change.Module made) number waiting plugs =
    if is_plug made.kind then told made.slot made.subslot number (not (waits_for_plug made.slot made.subslot waiting)) plugs else plugs

-- The alarm that is first sent now, if one is: the one that became active last.
abbrev pub first_sent : Bool → Low → Option SentAlarm
first_sent is_sent low = if is_sent then low.sent else None

-- What follows from it, for the records and for the places, while these alarms wait.
abbrev pub taken_after : Option SentAlarm → List ExpectedPlace → List TakenRecord → List TakenRecord
taken_after None places taken = taken
taken_after (Some sent) places taken = taken_told sent.change places taken

-- The places are those with which the alarm found the relation.
abbrev pub plugs_after : Option SentAlarm → List QueuedAlarm → PlugState → PlugState
plugs_after None waiting plugs = plugs
plugs_after (Some sent) waiting plugs = plugs_told sent.change sent.number waiting plugs

-- ---- a module comes or goes

-- The affected places are touched: by a plug of the expected submodule, or by anything else.
abbrev pub step_by : ChangeKind → Bool → Step
step_by Pull differs = step.Pulled
step_by PullModule differs = step.Pulled
step_by Plug differs = if differs then step.Pulled else step.Plugged

-- What differs now is stated, and the affected places begin again.
abbrev pub plugs_changed : Listed DiffModule DiffSubmodule → RealChange → PlugState → PlugState
plugs_changed rows made plugs = touched (affected_by made) (step_by made.kind (is_listed made.slot made.subslot rows)) (restated rows plugs)

-- Whether the controller asks for an AlarmType of its own for pulled modules: ARProperties bit 31.
abbrev pub asks : Request → Bool
asks request = nat_le 0x80000000 request.ar.properties

-- As what the change is reported, to a controller that asked for this.
abbrev pub reported_as : Request → Listed DiffModule DiffSubmodule → RealChange → ModuleChange
reported_as request rows made = alarmed made (asks request) (is_listed made.slot made.subslot rows)

-- The alarms of low priority after the change, if it affects a place: it waits, and the first that waits becomes active, if data
-- is exchanged and none is. A change of other submodules is not reported.
abbrev pub low_changed : Bool → Bool → ModuleChange → RealChange → List Diagnosis → Low → Low
low_changed is_own has_begun told made diagnoses low = if is_own then modules_changed has_begun told made diagnoses low else low

-- Whether an alarm must be sent then.
abbrev pub is_low_sent : Bool → Bool → ModuleChange → RealChange → List Diagnosis → Low → Bool
is_low_sent is_own has_begun told made diagnoses low = is_own && is_module_sent has_begun told made diagnoses low

-- What differs is stated for the alarms, and the change is reported.
abbrev pub flow_reported : Bool → Request → Listed DiffModule DiffSubmodule → RealChange → List Diagnosis → Flow → Flow
flow_reported is_own request rows made diagnoses flow =
    let stated = modules_restated request.expected rows diagnoses flow in
    with_low stated (low_changed is_own flow.cyclic.begun (reported_as request rows made) made diagnoses stated.low)

-- Whether an alarm must be sent then.
abbrev pub is_flow_sent : Bool → Request → Listed DiffModule DiffSubmodule → RealChange → List Diagnosis → Flow → Bool
is_flow_sent is_own request rows made diagnoses flow =
    is_low_sent is_own flow.cyclic.begun (reported_as request rows made) made diagnoses (modules_restated request.expected rows diagnoses flow).low

-- The whole exchange after the change: it is reported, the inputs of the affected places begin again, and IOPS and IOCS follow.
abbrev pub flow_changed : PlugState → Bool → Request → Listed DiffModule DiffSubmodule → RealChange → List Diagnosis → Flow → Flow
flow_changed plugs begin_bad request rows made diagnoses flow =
    restated_flow plugs (renewed (affected_by made) begin_bad (flow_reported (is_hit (affected_by made) plugs) request rows made diagnoses flow))

-- ---- the whole event, if these rows list what differs now

-- The places after it, before an alarm is sent.
abbrev pub places_then : Listed DiffModule DiffSubmodule → RealChange → RelationState → PlugState
places_then rows made link = plugs_changed rows made link.plugs

-- The exchange after it.
abbrev pub flow_then : Listed DiffModule DiffSubmodule → RealChange → List Diagnosis → RelationState → Flow
flow_then rows made diagnoses link =
    flow_changed (places_then rows made link) link.options.inputs_begin_bad link.request rows made diagnoses link.flow

-- Whether an alarm is sent.
abbrev pub is_sent_then : Listed DiffModule DiffSubmodule → RealChange → List Diagnosis → RelationState → Bool
is_sent_then rows made diagnoses link =
    is_flow_sent (is_hit (affected_by made) (places_then rows made link)) link.request rows made diagnoses link.flow

-- The alarm that is first sent with it, if one is.
abbrev pub sent_then : Listed DiffModule DiffSubmodule → RealChange → List Diagnosis → RelationState → Option SentAlarm
sent_then rows made diagnoses link = first_sent (is_sent_then rows made diagnoses link) (flow_then rows made diagnoses link).low

-- The places after that alarm. Then the next ApplicationReady of a plug is called.
abbrev pub plugs_then : Listed DiffModule DiffSubmodule → RealChange → List Diagnosis → RelationState → PlugState
plugs_then rows made diagnoses link =
    plugs_after (sent_then rows made diagnoses link) (flow_then rows made diagnoses link).low.waiting (places_then rows made link)

-- The relation after the event.
abbrev pub changed_by : Listed DiffModule DiffSubmodule → RealChange → List Diagnosis → RelationState → RelationState
changed_by rows made diagnoses link = record link {
  taken = taken_after (sent_then rows made diagnoses link) (places_then rows made link).places link.taken;
  plugs = next_called (plugs_then rows made diagnoses link);
  flow = flow_then rows made diagnoses link;
}

-- The modules are these now, and these diagnoses exist. What differs is what the Connect expects, compared with these modules.
abbrev pub rows_now : List RealModule → RelationState → Listed DiffModule DiffSubmodule
rows_now real link = diff_of link.request.expected real

-- The relation after a module was pulled or plugged, if there is one.
abbrev pub modules_changing : List RealModule → RealChange → List Diagnosis → Option RelationState → Option RelationState
modules_changing real made diagnoses link = option_map (λ (l : RelationState). changed_by (rows_now real l) made diagnoses l) link

-- Whether an alarm must be sent then.
abbrev pub is_alarmed_by : List RealModule → RealChange → List Diagnosis → Option RelationState → Bool
is_alarmed_by real made diagnoses None = false
is_alarmed_by real made diagnoses (Some link) = is_sent_then (rows_now real link) made diagnoses link

-- Whether an ApplicationReady of a plug must be.
abbrev pub is_called_by : List RealModule → RealChange → List Diagnosis → Option RelationState → Bool
is_called_by real made diagnoses None = false
is_called_by real made diagnoses (Some link) = is_next_called (plugs_then (rows_now real link) made diagnoses link)

-- ---- the calls of plugs go on

-- The next ApplicationReady of a plug is called, if none is active and one may be.
abbrev pub is_calling : Option RelationState → Bool
is_calling None = false
is_calling (Some link) = is_next_called link.plugs

-- The relation after that.
abbrev pub calling_next : Option RelationState → Option RelationState
calling_next link = option_map (λ (l : RelationState). record l { plugs = next_called l.plugs }) link

-- The application is ready for the plug at a place.
abbrev pub is_readied_in : ℕ → ℕ → Option RelationState → Bool
is_readied_in slot subslot None = false
is_readied_in slot subslot (Some link) = is_readied slot subslot link.plugs

-- The relation after that.
abbrev pub readying_at : ℕ → ℕ → Option RelationState → Option RelationState
readying_at slot subslot link = option_map (λ (l : RelationState). record l { plugs = readied slot subslot l.plugs }) link

-- ---- PrmEnd after a plug

-- A BlockType, if one can be read, is that of PrmEnd after a plug.
abbrev pub is_plug_type : Result (ℕ × List ℕ) CallFault → Bool
is_plug_type (Ok x) = x.0 == 0x0111
is_plug_type (Err reason) = false

-- The blocks begin with BlockType and BlockLength of such a PrmEnd.
abbrev pub begins_as_plug_end : List ℕ → Bool
begins_as_plug_end blocks = nat_le 4 (length blocks) && is_plug_type ((number fault.BlockHeader 2).read blocks)

-- Whether a Control is a PrmEnd after a plug: by its BlockType, once the alarm of a plug was sent in the relation.
abbrev pub is_plug_control : List ℕ → Option RelationState → Bool
is_plug_control blocks None = false
is_plug_control blocks (Some link) = link.plugs.has_told && begins_as_plug_end blocks

-- The block at the start of these octets. One that cannot be read has a wrong form.
abbrev pub block_in : {A : Type 0} → Result (PlugControlBlock × A) BlockFault → Result PlugControlBlock CallFault
block_in (Ok x) = Ok x.0
block_in (Err reason) = Err fault.BlockForm

-- It must name the relation and its session, and have ControlCommand 1. They are checked in this order.
abbrev pub plug_named : Option RelationState → PlugControlBlock → Result (Unit {0}) CallFault
plug_named link block = handled
    ((not (is_named block.ar_uuid link), fault.UnknownRelation)
    ∷ (not (is_session block.session_key link), fault.UnknownSession)
    ∷ (not (block.control_command == 1), fault.ControlCommand)
    ∷ [])
    (Ok tt)

-- A place was reported with this number, and its parameters did not end yet.
abbrev pub is_told_in : ℕ → Option RelationState → Bool
is_told_in number None = false
is_told_in number (Some link) = is_ended number link.plugs

-- Then they end now.
abbrev pub plug_told : Option RelationState → PlugControlBlock → Result (Unit {0}) CallFault
plug_told link block = handled ((not (is_told_in block.alarm_sequence_number link), fault.Phase) ∷ []) (Ok tt)

-- The block of a PrmEnd after a plug that may be carried out, or the fault.
unfoldable pub plug_end_in : List ℕ → Option RelationState → Result PlugControlBlock CallFault
plug_end_in blocks link =
    block_in ((plug_control 0x0111).read blocks) >>= λ block. plug_named link block >>= λ _. plug_told link block >>= λ _. Ok block

-- The answer repeats the block, with command 8, Done.
abbrev pub plug_done : PlugControlBlock → PlugControlBlock
plug_done block = record block { control_command = 8 }

-- The block with which it is answered, or the fault.
abbrev pub plug_end_answer : Result PlugControlBlock CallFault → Result (List ℕ) CallFault
plug_end_answer named = named >>= λ block. Ok ((plug_control 0x8111).write (plug_done block) [])

-- The place is ended, and its ApplicationReady waits, for the application too if that says when it is ready.
abbrev pub plug_ended : Bool → PlugControlBlock → RelationState → RelationState
plug_ended by_application block link = record link { plugs = ended block.alarm_sequence_number (not by_application) link.plugs }

-- The relation after a PrmEnd after a plug; a refused one changes nothing.
abbrev pub ended_by : Bool → Result PlugControlBlock CallFault → Option RelationState → Option RelationState
ended_by by_application (Ok block) link = option_map (plug_ended by_application block) link
ended_by by_application (Err reason) link = link

-- The same by the octets of its blocks.
abbrev pub plug_ending : Bool → List ℕ → Option RelationState → Option RelationState
plug_ending by_application blocks link = ended_by by_application (plug_end_in blocks link) link

-- ---- ApplicationReady of a plug

-- The call: the ARUUID as activity, its sequence, operation 4, Control. It goes to the object and the station that asked for the
-- relation.
abbrev pub ready_for : RelationState → PlugCall → PlugReady
ready_for link call = record {
  partner = link.partner;
  header = record {
    object = link.request.ar.object;
    interface = interface_uuid Controller;
    activity = link.request.ar.uuid;
    sequence = call.sequence;
    operation = 4;
  };
  block = record {
    ar_uuid = link.request.ar.uuid;
    session_key = link.request.ar.session_key;
    alarm_sequence_number = call.number;
    control_command = 2;
    control_block_properties = 0;
  };
}

-- The active one, if there is one.
abbrev pub plug_ready_of : Option RelationState → Option PlugReady
plug_ready_of None = None
plug_ready_of (Some link) = option_map (ready_for link) link.plugs.calls.standing

-- ---- the answer to it

-- The header of an answer has the activity and the sequence of the active call.
abbrev pub is_plug_answer : List ℕ → PlugCall → CallHeader → Bool
is_plug_answer uuid call header =
    pointwise nat_eq header.activity uuid && (header.sequence == call.sequence && header.operation == 4)

-- The block of a positive answer, if it can be read and its ControlCommand is Done.
abbrev pub done_block : Result (PlugControlBlock × List ℕ) BlockFault → Option PlugControlBlock
done_block (Ok x) = Some x.0
done_block (Err reason) = None

-- A positive answer confirms the call if its block names the relation and the plug.
abbrev pub plug_confirmed : List ℕ → PlugCall → Option PlugControlBlock → PlugAnswer
plug_confirmed uuid call None = answer.Garbled
plug_confirmed uuid call (Some block) =
    if pointwise nat_eq block.ar_uuid uuid && block.alarm_sequence_number == call.number then answer.Confirmed else answer.NotWanted

-- What a response means to this call. A refusal may have no block.
abbrev pub answer_to_call : List ℕ → PlugCall → Answered → PlugAnswer
answer_to_call uuid call response =
    if is_plug_answer uuid call response.header
    then (if is_done response.status then plug_confirmed uuid call (done_block (plug_ready_res.read response.blocks)) else answer.Refused)
    else answer.NotWanted

-- What it means to the active call, if there is one.
abbrev pub answer_to : List ℕ → Option PlugCall → Answered → PlugAnswer
answer_to uuid None response = answer.NotWanted
answer_to uuid (Some call) response = answer_to_call uuid call response

-- What a response means to the relation.
abbrev pub plug_answer_in : Answered → Option RelationState → PlugAnswer
plug_answer_in response None = answer.NotWanted
plug_answer_in response (Some link) = answer_to link.request.ar.uuid link.plugs.calls.standing response

-- The places after such an answer: that of the active call is released, or refused and still touched.
abbrev pub plugs_answered : PlugAnswer → PlugState → PlugState
plugs_answered answer.NotWanted plugs = plugs
plugs_answered answer.Garbled plugs = plugs
plugs_answered answer.Confirmed plugs = answered true plugs
plugs_answered answer.Refused plugs = answered false plugs

-- IOPS and IOCS follow, if the answer counts.
abbrev pub flow_answered : PlugAnswer → PlugState → Flow → Flow
flow_answered answer.NotWanted plugs flow = flow
flow_answered answer.Garbled plugs flow = flow
flow_answered answer.Confirmed plugs flow = restated_flow plugs flow
flow_answered answer.Refused plugs flow = restated_flow plugs flow

-- The relation after such an answer.
abbrev pub answered_with : PlugAnswer → RelationState → RelationState
answered_with heard link =
    let plugs = plugs_answered heard link.plugs in
    record link { plugs = plugs; flow = flow_answered heard plugs link.flow }

-- The relation after a response, if there is one.
abbrev pub plug_answering : Answered → Option RelationState → Option RelationState
plug_answering response link = option_map (answered_with (plug_answer_in response link)) link

-- ---- what is seen of a relation

-- Its places, and how far each is.
abbrev pub places_in : Option RelationState → Option (List ExpectedPlace)
places_in link = option_map (λ (l : RelationState). l.plugs.places) link

-- A pull or plug can not be reported, since 32 alarms or more wait before it.
abbrev pub is_crowded : Affected → Option RelationState → Bool
is_crowded affected None = false
is_crowded affected (Some link) = is_hit affected link.plugs && is_full link.flow.low
