-- The result of an event that asks nothing of the settings.
use Rattle.std.specs.Prelude.{◌++◌, ℕ, Bool, true, false, List, Option, None, Some, map, Result, Err, []}
use Rattle.rpc_core.specs.declared.response.Response.{Response}
use Rattle.rpc_core.specs.Call.{Asked as Call, asked}
use Rattle.rpc_core.specs.Response.{answered}
use Rattle.records.specs.declared.status.call_fault.CallFault.{CallFault}
use Rattle.records.specs.declared.status.operation.Operation.{Operation}
use Rattle.record_blocks.specs.declared.write_record.IodWriteReq.{IodWriteReq}
use Rattle.records.specs.declared.writes.taken.TakenRecord.{TakenRecord}
use Rattle.records.specs.declared.writes.write.Effect.TheVariants.{Keeps}
use Rattle.records.specs.declared.writes.writing.Writing.{Writing}
use Rattle.asked_records.specs.Asked.{displaced_by}
use Rattle.asked_records.specs.declared.question.Question.{Question}
use Rattle.relations.specs.declared.phase.Phase.{Phase}
use Rattle.relations.specs.Plugging.{plug_answer_in}
use Rattle.relations.specs.Ready.{answer_of as ready_answer}
use Rattle.relations.specs.declared.time.Elapsed.{Elapsed}
use Rattle.relations.specs.Timers.{due_behind, left_behind}
use Rattle.pn_alarms.specs.declared.receiver.Taken.{Taken}
use Rattle.pn_alarms.specs.declared.message.Notice.TheVariants as message
use Rattle.pn_alarms.specs.Message.{ToDevice}
use Rattle.diagnosis.specs.declared.reports.priority.Priority.{Priority}
use Rattle.diagnosis.specs.declared.reports.priority.Priority.TheVariants.{High, Low}
use Rattle.relations.specs.declared.exchange.cyclic.Repeated.{Repeated}
use Rattle.relations.specs.Diagnosed.{report_one, reporting}
use Rattle.relations.specs.Phases.{updated}
use Rattle.relations.specs.RelationState.{flow_of, is_exchanging}
use Rattle.device_frames.specs.Relation.{due_frames, low_alarms_of, low_replies_of, plug_calls, ready_calls, where_due}
use Rattle.device_frames.specs.Sendable.{AreSendable}
use Rattle.device_frames.specs.Sent.{Sent, bytes_of}
use Rattle.device_core.specs.declared.calls.Serving.{Serving}
use Rattle.device_core.specs.State.{State, counter_of, with_rest}
use Rattle.device_core.specs.Handled.{Handled, answer_from, handled_answer, handled_effect, handled_new, handled_own, handled_plug_answer, handled_plug_end, handled_prm_end, handled_asked, handled_response, handled_unanswered, handled_write, served}
use Rattle.device_core.specs.Machine.{end_of}

-- The device after it.
abbrev pub behind : {F : Type 0} → State F → Handled → State F
behind old what = with_rest old (end_of old.station old.live what).rest

-- The frames that it sends.
abbrev pub frames_of : {F : Type 0} → State F → Handled → List (List ℕ)
frames_of old what = map (bytes_of old.station.identity) (end_of old.station old.live what).sent

-- Each of the messages can be sent.
abbrev pub CanSend : {F : Type 0} → State F → Handled → Type 0
CanSend old what = AreSendable old.station.identity (end_of old.station old.live what).sent

-- What is due if no timeout is over: the active alarms, ApplicationReady, inputs.
abbrev pub due_in : {F : Type 0} → State F → Repeated → Elapsed → Bool → List Sent
due_in old repeated elapsed is_cyclic =
    due_frames old.live.values.running.suite.address (counter_of old.live.rest.units)
    (record { farewell = None; is_alarm = repeated.high; is_low = repeated.low; is_ready = elapsed.is_ready; is_plug_ready = elapsed.is_plug_ready; is_cyclic = is_cyclic }) old.live.rest.link

-- The calls that are due: ApplicationReady, and that of a plug.
abbrev pub calls_due : {F : Type 0} → State F → Bool → Bool → List Sent
calls_due old is_ready is_plug_ready =
    let address = old.live.values.running.suite.address in
    where_due is_ready (ready_calls address old.live.rest.link) ++ where_due is_plug_ready (plug_calls address old.live.rest.link)

-- Whether what an alarm frame says under the FrameID of this priority may be an ACK of low priority.
abbrev pub is_ack : ToDevice → Bool
is_ack (message.Ack number) = true
is_ack (message.Data number ack) = false
is_ack message.Nack = false
is_ack (message.Abort status) = false

-- Whether a PDU of low priority is an ACK.
abbrev pub is_low_reply : Priority → ToDevice → Bool
is_low_reply High told = false
is_low_reply Low told = is_ack told

-- What is sent for data of low priority with this outcome: its response, and after that the alarm of the next change.
abbrev pub confirmed_with : {F : Type 0} → State F → Taken → List Sent
confirmed_with old taken =
    let link = old.live.rest.link in
    low_replies_of taken (flow_of link) ++ where_due (report_one link) (low_alarms_of (flow_of (updated (reporting link) link)))

-- What is sent after a unit of time that brought this.
abbrev pub brought : {F : Type 0} → State F → Elapsed → List Sent
brought old elapsed =
    let link = old.live.rest.link in
    due_frames old.live.values.running.suite.address (counter_of old.live.rest.units) (due_behind elapsed link) (left_behind elapsed.tick.ending link)

-- The outcome of a call of this operation.
abbrev pub called : {F : Type 0} → State F → Serving → Operation → Handled
called old serving operation = handled_new old.station old.live serving.caller.now (asked serving.call.now) serving.blocks.now operation

-- The outcome of a call that was not answered.
abbrev pub unanswered : {F : Type 0} → State F → Serving → Handled
unanswered old serving =
    handled_unanswered old.station old.live serving.caller.now (asked serving.call.now) serving.blocks.now serving.operation

-- The outcome of a call that is refused before it does anything.
abbrev pub refused : {F : Type 0} → State F → Serving → CallFault → Handled
refused old serving fault = served old.station old.live serving.caller.now (asked serving.call.now) serving.operation (Err fault) old.live.rest.link []

-- The outcome of a call of this operation that the device answers by itself.
abbrev pub owned : {F : Type 0} → State F → Serving → Operation → Handled
owned old serving operation = handled_own old.station old.live serving.caller.now (asked serving.call.now) serving.blocks.now operation

-- The outcome of a call that asks this.
abbrev pub question_asked : {F : Type 0} → State F → Question → List ℕ → Handled
question_asked old question octets = handled_asked old.station old.live (question, octets)
    (displaced_by old.station.options.asks_own_first question old.live.rest.asked)

-- The call, without where its octets lie.
abbrev pub call_of : Serving → Call
call_of serving = asked serving.call.now

-- The outcome of a Write whose blocks were read as this.
abbrev pub wrote : {F : Type 0} → State F → Serving → Result Writing CallFault → Handled
wrote old serving handled = handled_write old.station old.live serving.caller.now (call_of serving) handled

-- The outcome of a parameter record from a Write with this header.
abbrev pub brings : {F : Type 0} → State F → Serving → IodWriteReq → TakenRecord → Handled
brings old serving header parameter = handled_effect old.station old.live serving.caller.now (call_of serving) header (Keeps parameter)

-- The outcome of a PrmEnd, and of one after a plug.
abbrev pub parameters_ended : {F : Type 0} → State F → Serving → Handled
parameters_ended old serving = handled_prm_end old.station old.live serving.caller.now (call_of serving) serving.blocks.now

-- The case of a PrmEnd after a plug.
abbrev pub plug_ended : {F : Type 0} → State F → Serving → Handled
plug_ended old serving = handled_plug_end old.station old.live serving.caller.now (call_of serving) serving.blocks.now

-- Whether data is exchanged in this phase, if there is one.
abbrev pub exchanging_of : Option Phase → Bool
exchanging_of None = false
exchanging_of (Some phase) = is_exchanging phase

-- The outcome of a response.
abbrev pub responded : {F : Type 0} → State F → Response → Handled
responded old response = handled_response old.station old.live (answered response)

-- That of a response before data is exchanged, and while it is.
abbrev pub ready_responded : {F : Type 0} → State F → Response → Handled
ready_responded old response = handled_answer old.station old.live (ready_answer (answered response) old.live.rest.link)

-- That of a response while data is exchanged.
abbrev pub plug_responded : {F : Type 0} → State F → Response → Handled
plug_responded old response = handled_plug_answer old.live (answered response) (plug_answer_in (answered response) old.live.rest.link)

-- The answer to a call.
abbrev pub answer_to : List ℕ → Serving → Result (List ℕ) CallFault → Sent
answer_to address serving came = answer_from address serving.caller.now (call_of serving) serving.operation came
