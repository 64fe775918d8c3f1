-- What an event does to a controller, and what is then sent (IEC 61158-6-10, 5.2; protocol machine CMCTL).
use Rattle.std.specs.Prelude.{◌+◌, ◌-◌, ◌%◌, ◌==◌, ◌&&◌, ◌||◌, ◌++◌, ℕ, Bool, true, false, not, List, [], ◌∷◌, length, map, nat_lt, if◌then◌else◌, is_some, option_map, Option, Some, None}
use Rattle.pn_values.specs.declared.mac.Mac.{Mac}
use Rattle.frame_codec.specs.declared.udp.Caller.{Caller}
use Rattle.dcp_core.specs.Response.{Answered}
use Rattle.dcp_core.specs.Answered.{is_agreed}
use Rattle.rpc_core.specs.declared.response.Status.{Status}
use Rattle.rpc_core.specs.Call.{Asked as Call}
use Rattle.rpc_core.specs.Response.{Answered as Response, is_done}
use Rattle.connect_blocks.specs.declared.control.ControlBlock.{ControlBlock}
use Rattle.block_codec.specs.Block.{block_of}
use Rattle.record_blocks.specs.declared.alarm_ack.AlarmAck.{AlarmAck}
use Rattle.record_blocks.specs.declared.alarm_notification.AlarmNotification.{AlarmNotification}
use Rattle.cyclic_data.specs.declared.place.PlaceKind.TheVariants.{Data as at_data}
use Rattle.cyclic_data.specs.Image.{Cell, cell_at, changed_in, has_size}
use Rattle.pn_alarms.specs.declared.abort.Abort.{Abort}
use Rattle.pn_alarms.specs.declared.message.Notice.TheVariants as notice
use Rattle.pn_alarms.specs.declared.pdu.Header.{Header}
use Rattle.diagnosis.specs.declared.reports.priority.Priority.{Priority}
use Rattle.diagnosis.specs.declared.reports.priority.Priority.TheVariants.{High, Low}
use Rattle.pn_alarms.specs.declared.repeats.Due.{Due}
use Rattle.diagnosis.specs.declared.reports.report.Report.{Report}
use Rattle.pn_alarms.specs.declared.pdu.PduType.{PduType}
use Rattle.pn_alarms.specs.declared.pdu.PduType.TheVariants as pdu
use Rattle.pn_alarms.specs.declared.receiver.Taken.{Taken}
use Rattle.pn_alarms.specs.declared.receiver.Taken.TheVariants.{New, Again, Refused}
use Rattle.pn_alarms.specs.Controller.{confirmed, controller_later, unheard, with_ack, with_data}
use Rattle.diagnosis.specs.reports.Message.{ToController}
use Rattle.pn_alarms.specs.Receiver.{taken_as}
use Rattle.pn_alarms.specs.Ends.{ControllerEnd}
use Rattle.pn_alarms.specs.Sending.{due, either_due}
use Rattle.pn_alarms.specs.Sending.{is_again as is_repeated}
use Rattle.cyclic_data.specs.exchange.Cyclic.{Cyclic}
use Rattle.cyclic_data.specs.exchange.Opening.{begun_of, ended_of, related}
use Rattle.cyclic_data.specs.declared.exchange.exchange.ProviderStatus.{ProviderStatus}
use Rattle.cyclic_data.specs.exchange.Process.{provider_at, stated_at}
use Rattle.cyclic_data.specs.exchange.Received.{behind_frame}
use Rattle.cyclic_data.specs.exchange.Units.{Brought, cyclic_later, tick_of}
use Rattle.plans.specs.declared.parts.Parts.{Parts}
use Rattle.plans.specs.Numbers.{alarm_factor, alarm_retries}
use Rattle.controller_messages.specs.declared.record_request.RecordRequest.{RecordRequest}
use Rattle.controller_messages.specs.declared.record_request.RecordService.{RecordService}
use Rattle.controller_messages.specs.declared.record_request.RecordService.TheVariants as service
use Rattle.controller_messages.specs.declared.refusal.Refusal.{Refusal}
use Rattle.controller_messages.specs.declared.setup.ControllerOptions.{ControllerOptions}
use Rattle.controller_messages.specs.declared.setup.Setup.{Setup}
use Rattle.controller_messages.specs.declared.request.Request.{Request}
use Rattle.controller_messages.specs.declared.request.Request.TheVariants as asks
use Rattle.controller_messages.specs.Heard.{Heard, Nothing, Answers, Responds, Refuses, Calls, Alarms, heard_of}
use Rattle.controller_messages.specs.Heard.{Cyclic as Comes}
use Rattle.controller_messages.specs.Options.{default_options}
use Rattle.controller_messages.specs.RecordRequests.{most_record_octets}
use Rattle.controller_messages.specs.Requests.{first_of, writing_after, writing_from}
use Rattle.controller_messages.specs.Sent.{Sent, Requests, Accesses, Parametrizes, Agrees, Cycles, Confirms, Replies, Ends, bytes_of, ready_answer}
use Rattle.controller_messages.specs.Sent.{done as no_error}
use Rattle.connects.specs.declared.answers.connect.Found.{Found}
use Rattle.diagnosis.specs.reported.Reported.{after_report, nothing_reported}
use Rattle.controller_core.specs.declared.stored.outputs.OutputMark.{OutputMark}
use Rattle.controller_core.specs.declared.stored.state.Cause.{Cause}
use Rattle.controller_core.specs.declared.stored.state.Cause.TheVariants as cause
use Rattle.controller_core.specs.declared.stored.state.State.{State}
use Rattle.controller_core.specs.declared.stored.state.State.TheVariants.{Looking, Addressing, Connecting, Ending, Waiting, Exchanging, Ended}
use Rattle.controller_core.specs.declared.stored.event.Event.{Event}
use Rattle.controller_core.specs.declared.stored.event.Event.TheVariants.{Frame, Tick as Ticks, Give, Status as Rate, Read, Write, Stop}
use Rattle.connect_blocks.specs.declared.plug_control.PlugControlBlock.{PlugControlBlock}
use Rattle.controller_messages.specs.declared.plug_request.PlugRequest.{PlugRequest}
use Rattle.controller_messages.specs.declared.plug_request.PlugStep.{PlugStep}
use Rattle.controller_messages.specs.declared.plug_request.PlugStep.TheVariants.{Record, PrmEnd}
use Rattle.controller_messages.specs.PlugRequests.{is_plug_answer, is_plug_ready, plug_answer, plug_ready_in}
use Rattle.plan_places.specs.declared.report.Plug.{Plug}
use Rattle.plan_places.specs.declared.place.PlaceState.{PlaceState}
use Rattle.plan_places.specs.declared.place.PlaceState.TheVariants as known
use Rattle.plan_places.specs.Places.{after_alarm, has_turn_at, is_awaited, next_waiting, no_places, opened, with_state}
use Rattle.plan_places.specs.Places.{readied as places_readied}
use Rattle.plan_places.specs.Records.{record_from}
use Rattle.controller_messages.specs.Access.{answered_with, call_number, dropped, is_free, is_rejected, is_reply, made, no_access, plugged, record_in, retried, unplugged}
use Rattle.controller_core.specs.stored.Outputs.{awaits, change_by, iops_of, mark_at, marked}
use Rattle.controller_core.specs.stored.State.{Controlling, Live, is_limited, left_in, phase_for, with_live}
use Rattle.controller_core.specs.start_up.Answers.{is_addressed, is_answer, is_found, is_held, is_ready, is_refused, is_right, is_set_answer, is_tried, ready_in}
use Rattle.connects.specs.answers.Connect.{Chosen, chosen_of, found_in, is_whole, nothing}
use Rattle.controller_core.specs.declared.start_up.outcomes.Outcomes.{Outcomes}
use Rattle.controller_core.specs.declared.start_up.outcomes.Outcomes.TheVariants.{AllWritten, Unreadable}
use Rattle.controller_core.specs.declared.start_up.outcomes.Outcomes.TheVariants.{Refused as Denied}
use Rattle.controller_core.specs.start_up.Outcomes.{outcomes_of}
use Rattle.controller_core.specs.stored.Alarms.{ack_of, header_of, is_alarm, kept_alarm}
use Rattle.controller_core.specs.stored.Opening.{route_of, sending_of, nobody, first_cyclic, first_outputs}
use Rattle.controller_core.specs.stored.Cause.{cause_of}
use Rattle.controller_core.specs.start_up.Requests.{next_sequence}

-- The next state, and the messages.
pub record Turn : Type 0 where
  pub live : Live
  pub sent : List Sent

-- Nothing is sent.
abbrev pub stays : Live → Turn
stays live = record { live = live; sent = [] }

-- A request is sent, which is active from now on.
abbrev pub asking : Setup → State → Request → Live → Turn
asking setup phase request live = record {
  live = record live { phase = phase; asked = Some request; waited = 0; left = left_in setup.options live.left live.phase phase };
  sent = Requests live.device request ∷ [];
}

-- ---- ends

-- The controller has ended, and so has its relation. What the device reported of its diagnosis and of places ends with it.
abbrev pub over : Cause → Live → Live
over cause live = record live { phase = Ended cause; asked = None; waited = 0; left = 0; stands = false; cyclic = ended_of live.cyclic; access = dropped live.access; diagnosis = nothing_reported; places = no_places }

-- The device refuses a call with this status: the controller has ended.
abbrev pub denied : Status → Live → Live
denied status live = over cause.Refused (record live { refusal = Some status })

-- The controller has ended, and the device is informed by a Release.
abbrev pub released : Setup → Cause → Live → Turn
released setup cause live = asking setup (Ended cause) (asks.Release (next_sequence setup.plan live.access.calls live.asked)) (over cause live)

-- It is ended for this cause in this phase, unless it has ended. From the Connect on the device is informed.
abbrev pub quit : Setup → Cause → Live → State → Turn
quit setup cause live Looking = stays (over cause live)
quit setup cause live Addressing = stays (over cause live)
quit setup cause live (Ended before) = stays live
quit setup cause live phase = released setup cause live

-- The application stops it.
abbrev pub stopped : Setup → Live → State → Turn
stopped setup live phase = quit setup cause.Stopped live phase

-- ---- DCP answers

-- A station was found: it has its address already, or its address is set; or it is another device.
abbrev pub found : Setup → Live → Mac → Answered → Turn
found setup live source answer =
    if is_right setup.plan answer
    then (if is_addressed setup.plan answer
    then asking setup Connecting asks.Connect (record live { device = source })
    else asking setup Addressing asks.Address (record live { device = source }))
    else stays (over cause.WrongDevice live)

-- The station accepted its address, or refused it.
abbrev pub addressed : Setup → Live → Answered → Turn
addressed setup live answer = if is_agreed answer then asking setup Connecting asks.Connect live else stays (over cause.Refused live)

-- What an answer of DCP does, by the state: to Identify while it looks for its station, to the Set while it sets the address.
abbrev pub answered : Setup → Live → Mac → Answered → State → Turn
answered setup live source answer Looking = if is_found setup.plan answer then found setup live source answer else stays live
answered setup live source answer Addressing = if is_set_answer answer then addressed setup live answer else stays live
answered setup live source answer phase = stays live

-- ---- responses

-- This Write, or PrmEnd, is sent, and its state begins.
abbrev pub writing : Setup → Request → Live → Turn
writing setup request live = asking setup (phase_for request) request live

-- The relation is established.
abbrev pub standing : Setup → Live → Chosen → Live
standing setup live chosen = record live {
  stands = true;
  deviates = chosen.deviates;
  cyclic = related live.cyclic (route_of live.device chosen.frame_id chosen.reference) (sending_of setup.plan.times);
}

-- After a positive answer to the Connect: an answer without all of its blocks is dropped; if a module is a wrong one the
-- relation is released.
abbrev pub related_by : Setup → Live → Option Chosen → Turn
related_by setup live (Some chosen) = writing setup (writing_from setup.plan 0) (standing setup live chosen)
related_by setup live None = stays live

-- The places of the plan, as the response to the Connect with these blocks tells of them.
abbrev pub placed : Setup → List ℕ → Live → Live
placed setup blocks live = record live { places = opened setup.plan 400 blocks }

-- After the response to the Connect with these blocks: the relation is established, or ended by a Release if a wrong module is listed.
abbrev pub connected_by : Setup → Live → List ℕ → Found → Turn
connected_by setup live blocks found =
    if is_whole found
    then (if found.differs then released setup cause.ModuleDiff live else related_by setup (placed setup blocks live) (chosen_of found))
    else stays live

-- What a response to the Connect does: nothing if its blocks cannot be read.
abbrev pub connected : Setup → Live → List ℕ → Option Found → Turn
connected setup live blocks (Some found) = connected_by setup live blocks found
connected setup live blocks None = stays live

-- The device refused a record: the controller ends, or goes on with the next Write if the plan says so.
abbrev pub noted : Status → ℕ → Live → Live
noted status number live = record live { refusal = Some status; refused_record = Some (record { number = number; status = status }) }

-- The controller ends because of a record, and informs the device if the plan says so.
abbrev pub refused_record : Setup → Live → Turn
refused_record setup live = if setup.plan.release_on_refused_record then released setup cause.Refused live else stays (over cause.Refused live)

-- After a record was refused: the request that follows if the plan goes on, else the end.
abbrev pub past_record : Setup → Request → Live → Turn
past_record setup next live = if setup.plan.continue_on_refused_record then writing setup next live else refused_record setup live

-- After a positive response to the Write with this number: the request that follows, if all its records were written. A response that
-- cannot be read is dropped.
abbrev pub after_write : Setup → Live → ℕ → Request → Outcomes → Turn
after_write setup live number next AllWritten = writing setup next live
after_write setup live number next (Denied place status) = past_record setup next (noted status (first_of setup.plan number + place) live)
after_write setup live number next Unreadable = stays live

-- PrmEnd is accepted: ApplicationReady is awaited.
abbrev pub waits_from : Setup → Live → Live
waits_from setup live = record live { phase = Waiting; asked = None; left = setup.options.waiting_patience }

-- After a positive response.
abbrev pub done : Setup → Live → List ℕ → Request → Turn
done setup live blocks asks.Identify = stays live
done setup live blocks asks.Address = stays live
done setup live blocks asks.Connect = connected setup live blocks (found_in 400 blocks nothing)
done setup live blocks (asks.Write number) =
    after_write setup live number (writing_from setup.plan (number + 1)) (outcomes_of setup.plan number blocks)
done setup live blocks asks.PrmEnd = stays (waits_from setup live)
done setup live blocks (asks.Release sequence) = stays (record live { asked = None })
done setup live blocks (asks.WriteAfter number tries) =
    after_write setup live number (writing_after setup.plan (number + 1) tries) (outcomes_of setup.plan number blocks)
done setup live blocks (asks.PrmEndAfter tries) = stays (waits_from setup live)

-- The device refuses the Connect with this status: the controller ends. If the device holds the relation already, it is informed.
abbrev pub refused_connect : Setup → Live → Status → Turn
refused_connect setup live status =
    if is_held setup.plan status then released setup cause.Refused (record live { refusal = Some status }) else stays (denied status live)

-- A call is refused as busy. This request is sent next, with the end of the second, by a new call.
abbrev pub trying : Request → Status → Live → Turn
trying next status live = stays (record live { asked = Some next; refusal = Some status; access = retried live.access })

-- The device refuses the Write with this number, after this many calls were refused as busy: it is tried again if the plan says so, else its
-- first record is refused, and this request follows if the plan goes on.
abbrev pub refused_write : Setup → Live → Status → ℕ → ℕ → Request → Turn
refused_write setup live status number tries next =
    if is_tried setup.plan status tries then trying (asks.WriteAfter number (tries + 1)) status live
    else past_record setup next (noted status (first_of setup.plan number) live)

-- The same of PrmEnd: it is tried again, or the controller ends.
abbrev pub refused_end : Setup → Live → Status → ℕ → Turn
refused_end setup live status tries =
    if is_tried setup.plan status tries then trying (asks.PrmEndAfter (tries + 1)) status live else stays (denied status live)

-- After a negative response.
abbrev pub undone : Setup → Live → Status → Request → Turn
undone setup live status (asks.Write number) = refused_write setup live status number 0 (writing_from setup.plan (number + 1))
undone setup live status (asks.WriteAfter number tries) = refused_write setup live status number tries (writing_after setup.plan (number + 1) tries)
undone setup live status asks.PrmEnd = refused_end setup live status 0
undone setup live status (asks.PrmEndAfter tries) = refused_end setup live status tries
undone setup live status asks.Connect = refused_connect setup live status
undone setup live status request = stays (denied status live)

-- After any response: the status decides, but the response to a Release counts with any status.
abbrev pub handled : Setup → Live → Response → Request → Turn
handled setup live response request =
    if is_done response.status then done setup live response.blocks request else undone setup live response.status request

-- What the response to a request does; that to a Release ends its repeats.
abbrev pub decided : Setup → Live → Response → Request → Turn
decided setup live response (asks.Release sequence) = stays (record live { asked = None })
decided setup live response request = handled setup live response request

-- To a request of the application: it is reported, and ends nothing. A positive answer to a Read whose block can't be read
-- is dropped.
abbrev pub failed : Status → RecordRequest → Live → Live
failed status request live = record live { refusal = Some status; access = answered_with request status [] live.access }

-- The answer to a Read of the application, with the record that it brought.
abbrev pub brings : RecordRequest → Option (List ℕ) → Live → Live
brings request (Some octets) live = record live { access = answered_with request no_error octets live.access }
brings request None live = live

-- The answer to a request of the application that was done.
abbrev pub granted : RecordRequest → List ℕ → RecordService → Live → Live
granted request blocks service.Read live = brings request (record_in (block_of blocks)) live
granted request blocks service.Write live = record live { access = answered_with request no_error [] live.access }

-- What the response to a request of the application does: it is done, or refused with its status.
abbrev pub replied_by : Live → Response → RecordRequest → Live
replied_by live response request =
    if is_done response.status then granted request response.blocks request.service live else failed response.status request live

-- What a response does to the request of the application, if one waits and the response belongs to it.
abbrev pub replied : Setup → Live → Response → Option RecordRequest → Live
replied setup live response (Some request) = if is_reply setup request response.header then replied_by live response request else live
replied setup live response None = live

-- ---- the parameters of a place after its plug

-- Whether data is exchanged.
abbrev pub is_exchanging : State → Bool
is_exchanging Exchanging = true
is_exchanging phase = false

-- Whether a place waits for its turn, and nothing is in its way: data is exchanged, and no request waits for its answer.
abbrev pub can_begin : Live → Bool
can_begin live = live.stands && (is_exchanging live.phase && (is_free live.access && is_some (next_waiting live.places)))

-- The record that is written, or PrmEnd if no record is left.
abbrev pub step_of_record : Option ℕ → PlugStep
step_of_record (Some number) = Record number
step_of_record None = PrmEnd

-- What is asked of a place: the first of its records from a number on, or PrmEnd if it has none.
abbrev pub step_from : Parts → ℕ → ℕ → ℕ → PlugStep
step_from plan slot subslot from = step_of_record (record_from plan slot subslot from)

-- The state of a place of which this is asked, after the plug with this number.
abbrev pub state_of_step : PlugStep → ℕ → PlaceState
state_of_step (Record record_number) number = known.Writing number
state_of_step PrmEnd number = known.Ending number

-- This is asked of a place from now on.
abbrev pub plug_asked : Setup → ℕ → ℕ → ℕ → PlugStep → Live → Live
plug_asked setup slot subslot number step live = record live {
  waited = 0;
  places = with_state slot subslot (state_of_step step number) live.places;
  access = plugged (record { sequence = call_number setup.plan live.access.calls; slot = slot; subslot = subslot; number = number; step = step }) live.access;
}

-- The request after a plug that waits for its answer, as it is sent.
abbrev pub plugs_by : Mac → Option PlugRequest → List Sent
plugs_by device (Some request) = Parametrizes device request ∷ []
plugs_by device None = []

-- That of a controller.
abbrev pub plugs_of : Live → List Sent
plugs_of live = plugs_by live.device live.access.plug

-- The turn of this place begins: its first record, or PrmEnd, is asked.
abbrev pub begun_by : Setup → Option Plug → Live → Live
begun_by setup (Some plug) live = plug_asked setup plug.slot plug.subslot plug.number (step_from setup.plan plug.slot plug.subslot 0) live
begun_by setup None live = live

-- The next turn begins, if one can.
abbrev pub begun_turn : Setup → Live → Live
begun_turn setup live = if can_begin live then begun_by setup (next_waiting live.places) live else live

-- After an event: the next turn begins, if one could not begin before and can now. One that could waits for the end of a second, so
-- that data exchange begins with the answer to ApplicationReady alone.
abbrev pub then_turn : Setup → Bool → Live → Turn
then_turn setup could live =
    if could || not (can_begin live) then stays live else record { live = begun_turn setup live; sent = plugs_of (begun_turn setup live) }

-- The same after the messages of an event.
abbrev pub after_turn : Setup → Bool → Turn → Turn
after_turn setup could turn =
    if could || not (can_begin turn.live) then turn
    else record { live = begun_turn setup turn.live; sent = turn.sent ++ plugs_of (begun_turn setup turn.live) }

-- After a step that was done, or is left out: the next one of the same turn. After PrmEnd the ApplicationReady is awaited. A further
-- alarm of the place has dropped the rest of the turn.
abbrev pub plug_passed_by : Setup → Live → PlugRequest → PlugStep → Live
plug_passed_by setup live request (Record number) =
    if has_turn_at request.slot request.subslot live.places
    then plug_asked setup request.slot request.subslot request.number (step_from setup.plan request.slot request.subslot (number + 1)) live
    else live
plug_passed_by setup live request PrmEnd = live

-- The same of the step of the request.
abbrev pub plug_passed : Setup → Live → PlugRequest → Live
plug_passed setup live request = plug_passed_by setup live request request.step

-- The turn is over, and its place is refused, if it still has its turn.
abbrev pub refused_place : PlugRequest → Live → Live
refused_place request live =
    if has_turn_at request.slot request.subslot live.places
    then record live { places = with_state request.slot request.subslot known.Refused live.places }
    else live

-- The device refuses a step with this status. A record is passed over if the plan says so.
abbrev pub plug_refused : Setup → Live → Status → PlugRequest → PlugStep → Live
plug_refused setup live status request (Record number) =
    if setup.plan.continue_on_refused_record then plug_passed setup (noted status number live) request
    else refused_place request (noted status number live)
plug_refused setup live status request PrmEnd = refused_place request (record live { refusal = Some status })

-- The request is answered.
abbrev pub plug_finished : Live → Live
plug_finished live = record live { access = unplugged live.access }

-- The response to the request has this status.
abbrev pub plug_replied : Setup → Live → Status → PlugRequest → Live
plug_replied setup live status request =
    if is_done status then plug_passed setup (plug_finished live) request
    else plug_refused setup (plug_finished live) status request request.step

-- Its next request is sent, if one is asked.
abbrev pub asks_next : Live → Turn
asks_next live = record { live = live; sent = plugs_of live }

-- What a response does, while this request waits.
abbrev pub plug_responded : Setup → Live → Response → PlugRequest → Turn
plug_responded setup live response request =
    if is_plug_answer setup request response.header.activity response.header.sequence
    then asks_next (plug_replied setup live response.status request) else stays live

-- What a reject or a fault does, while this request waits: the turn is over.
abbrev pub plug_rejected : Setup → Live → Refusal → PlugRequest → Live
plug_rejected setup live refusal request =
    if is_plug_answer setup request refusal.activity refusal.sequence
    then refused_place request (record (plug_finished live) { refusal = Some refusal.status }) else live

-- Whether the PrmEnd after the plug with this number waits for its answer.
abbrev pub is_end_by : ℕ → PlugRequest → PlugStep → Bool
is_end_by number request PrmEnd = request.number == number
is_end_by number request (Record record_number) = false

-- The same of the request that waits, if one does.
abbrev pub is_end_of : ℕ → Option PlugRequest → Bool
is_end_of number (Some request) = is_end_by number request request.step
is_end_of number None = false

-- Whether an ApplicationReady with this number is one of a place, while data is exchanged.
abbrev pub is_plug_awaited : Live → ℕ → Bool
is_plug_awaited live number = is_exchanging live.phase && is_awaited number live.places

-- The place with this number is there. With this call the device says that it has accepted PrmEnd, so its answer is not needed.
abbrev pub plug_readied : Live → ℕ → Live
plug_readied live number = record live {
  places = places_readied number live.places;
  access = if is_end_of number live.access.plug then unplugged live.access else live.access;
}

-- An ApplicationReady for a plug, if it is one of a place of this relation, is answered; any other call is dropped.
abbrev pub plug_called : Setup → Live → Caller → Call → Option PlugControlBlock → Turn
plug_called setup live caller call (Some block) =
    if is_plug_ready setup block && is_plug_awaited live block.alarm_sequence_number
    then record { live = plug_readied live block.alarm_sequence_number; sent = Agrees caller (plug_answer call block) ∷ [] }
    else stays live
plug_called setup live caller call None = stays live

-- ---- responses beside the exchange

-- A response while no request of the start-up waits: to the request after a plug, or else to that of the application.
abbrev pub beside : Setup → Live → Response → Option PlugRequest → Turn
beside setup live response (Some request) = plug_responded setup live response request
beside setup live response None = stays (replied setup live response live.access.waiting)

-- A response to the call that waits, of the start-up or else beside the exchange.
abbrev pub responded : Setup → Live → Response → Option Request → Turn
responded setup live response (Some request) =
    if is_answer setup request response.header then decided setup live response request else stays live
responded setup live response None = beside setup live response live.access.plug

-- ---- rejects and faults

-- A refusal of a request that waits ends the controller. To a Release it is an answer like any other.
abbrev pub refused_by : Live → Refusal → Request → Turn
refused_by live refusal (asks.Release sequence) = stays (record live { asked = None })
refused_by live refusal request = stays (denied refusal.status live)

-- To a request of the application it is reported, and ends nothing.
abbrev pub rejected : Setup → Live → Refusal → Option RecordRequest → Live
rejected setup live refusal (Some request) = if is_rejected setup request refusal then failed refusal.status request live else live
rejected setup live refusal None = live

-- While no request of the start-up waits: of the request after a plug, or else of that of the application.
abbrev pub refused_beside : Setup → Live → Refusal → Option PlugRequest → Live
refused_beside setup live refusal (Some request) = plug_rejected setup live refusal request
refused_beside setup live refusal None = rejected setup live refusal live.access.waiting

-- What a reject or a fault does: to the request of the start-up, or to one beside the exchange.
abbrev pub refused : Setup → Live → Refusal → Option Request → Turn
refused setup live refusal (Some request) = if is_refused setup request refusal then refused_by live refusal request else stays live
refused setup live refusal None = stays (refused_beside setup live refusal live.access.plug)

-- ---- ApplicationReady

-- It is answered, and data is exchanged from then on. While data is exchanged it is answered again.
abbrev pub readied : Live → Caller → Call → ControlBlock → State → Turn
readied live caller call block Ending = record {
  live = record live { phase = Exchanging; asked = None; left = 0; cyclic = begun_of live.cyclic };
  sent = Agrees caller (ready_answer call block) ∷ [];
}
readied live caller call block Waiting = record {
  live = record live { phase = Exchanging; asked = None; left = 0; cyclic = begun_of live.cyclic };
  sent = Agrees caller (ready_answer call block) ∷ [];
}
readied live caller call block Exchanging = record { live = live; sent = Agrees caller (ready_answer call block) ∷ [] }
readied live caller call block phase = stays live

-- What a call does: an ApplicationReady of this relation is answered, of the start-up or after a plug; any other is dropped. After that of
-- a plug the next turn begins.
abbrev pub called : Setup → Live → Caller → Call → Option ControlBlock → Turn
called setup live caller call (Some block) = if is_ready setup block then readied live caller call block live.phase else stays live
called setup live caller call None = after_turn setup (can_begin live) (plug_called setup live caller call (plug_ready_in call))

-- ---- alarms

-- The end of the alarms of a priority.
abbrev pub end_of : Live → Priority → ControllerEnd
end_of live High = live.alarms
end_of live Low = live.low_alarms

-- The controller with another state of its alarms of a priority.
abbrev pub with_end : Live → Priority → ControllerEnd → Live
with_end live High end = record live { alarms = end }
with_end live Low end = record live { low_alarms = end }

-- An alarm is stored as the last one of its priority.
abbrev pub keeping : Live → Priority → AlarmNotification → Option ℕ → Live
keeping live High alarm user_structure = record live { alarm = Some alarm; user_structure = user_structure }
keeping live Low alarm user_structure = record live { low_alarm = Some alarm; low_user_structure = user_structure }

-- An alarm is received as data of its priority: a new one is confirmed with its AlarmAck after the ACK.
abbrev pub behind_data : Live → Priority → ℕ → Live
behind_data live priority number = with_end live priority (with_data (end_of live priority) number)

-- The state once an AlarmAck waits for its ACK.
abbrev pub acking : Live → Priority → AlarmAck → Live
acking live priority ack = with_end live priority (confirmed (end_of live priority) ack)

-- What an alarm reports of the device's diagnosis, and of the places of the plan.
abbrev pub diagnosing : Report → Live → Live
diagnosing report live = record live { diagnosis = after_report report live.diagnosis; places = after_alarm report live.places }

-- The state once an alarm is accepted: its AlarmAck is sent, it is shown, and what it reports of diagnosis is listed.
abbrev pub confirming : Live → Report → Live
confirming live report =
    diagnosing report
    (keeping (acking live report.priority (ack_of report.notification)) report.priority (kept_alarm report.notification) report.user_structure)

-- The ACK or NACK of data of a priority.
abbrev pub reply_of : Live → Priority → PduType → Sent
reply_of live priority kind = Replies live.cyclic.route priority (header_of (end_of live priority) live.cyclic.route kind)

-- The AlarmAck, as it is sent first and repeated.
abbrev pub ack_now : Live → Priority → AlarmAck → Sent
ack_now live priority ack = Confirms live.cyclic.route priority (header_of (end_of live priority) live.cyclic.route pdu.Data) ack

-- What an alarm does: a new one is accepted with ACK and AlarmAck, a repeated one gets an ACK, another a NACK.
abbrev pub taken : Live → Report → Taken → Turn
taken live report New = record {
  live = confirming live report;
  sent = reply_of live report.priority pdu.Ack ∷ ack_now (confirming live report) report.priority (ack_of report.notification) ∷ [];
}
taken live report Again = record { live = live; sent = reply_of live report.priority pdu.Ack ∷ [] }
taken live report Refused = record { live = live; sent = reply_of live report.priority pdu.Nack ∷ [] }

-- The priority whose AlarmAck an ACK under the FrameID of this priority acknowledges: low if an AlarmAck of low priority
-- was sent in this relation, otherwise high.
abbrev pub acked_under : Live → Priority → Priority
acked_under live High = High
acked_under live Low = if is_some live.low_alarms.sending.last then Low else High

-- The state after an ACK with this number.
abbrev pub behind_ack : Live → Priority → ℕ → Live
behind_ack live priority number = with_end live priority (with_ack (end_of live priority) number)

-- Data has the priority of its block, under either FrameID.
abbrev pub noticed : Live → Priority → ToController → Turn
noticed live under (notice.Data number report) =
    taken (behind_data live report.priority number) report (taken_as (end_of live report.priority).seen number)
noticed live under (notice.Ack number) = stays (behind_ack live (acked_under live under) number)
noticed live under notice.Nack = stays live
noticed live under (notice.Abort status) = stays (over cause.Aborted live)

-- An alarm frame counts if it belongs to the relation, while that is established.
abbrev pub alarmed : Live → Mac → Priority → Header → ToController → Turn
alarmed live source under header notice =
    if live.stands && is_alarm live.cyclic.route source header then noticed live under notice else stays live

-- The last alarm of a priority that was accepted.
abbrev pub reported_as : Priority → Option ℕ → Option AlarmNotification → Option Report
reported_as priority user_structure alarm =
    option_map (λ a. record { priority = priority; notification = a; user_structure = user_structure }) alarm

-- The last alarm of a priority that was accepted, if there is one.
abbrev pub report_in : Live → Priority → Option Report
report_in live High = reported_as High live.user_structure live.alarm
report_in live Low = reported_as Low live.low_user_structure live.low_alarm

-- ---- what was received

-- A cyclic frame counts while the relation is established.
abbrev pub come : Live → Mac → ℕ → List ℕ → Live
come live source frame_id body = if live.stands then record live { cyclic = behind_frame live.cyclic source frame_id body } else live

-- What a message does, by its kind.
abbrev pub turned : Setup → Live → Heard → Turn
turned setup live Nothing = stays live
turned setup live (Answers source answer) = answered setup live source answer live.phase
turned setup live (Responds response) = after_turn setup (can_begin live) (responded setup live response live.asked)
turned setup live (Refuses refusal) = after_turn setup (can_begin live) (refused setup live refusal live.asked)
turned setup live (Calls caller call) = called setup live caller call (ready_in call)
turned setup live (Comes source frame_id body) = stays (come live source frame_id body)
turned setup live (Alarms source under header notice) = after_turn setup (can_begin live) (alarmed live source under header notice)

-- ---- units

-- A request is sent again each second, 32,000 units, counted from its sending.
abbrev pub is_again : Live → Bool
is_again live = live.waited + 1 == 32000

-- The timer of the request, the patience of the phase, and CycleCounter a unit later.
abbrev pub later : Live → Live
later live = record live { waited = if is_again live then 0 else live.waited + 1; left = live.left - 1; units = (live.units + 1) % 65536 }

-- The patience of the phase ends with this unit.
abbrev pub is_spent : Live → Bool
is_spent live = is_limited live.phase && live.left == 1

-- What is sent if it is due.
abbrev pub where_due : Bool → List Sent → List Sent
where_due is_due sent = if is_due then sent else []

-- The active request of the start-up, as it is sent again.
abbrev pub requests_of : Mac → Option Request → List Sent
requests_of device (Some request) = Requests device request ∷ []
requests_of device None = []

-- A request of the application, as it is sent.
abbrev pub accesses_by : Mac → List ℕ → Option RecordRequest → List Sent
accesses_by device octets (Some request) = Accesses device request octets ∷ []
accesses_by device octets None = []

-- The request of the application that waits, as it is sent again.
abbrev pub accesses_of : Live → List Sent
accesses_of live = accesses_by live.device live.access.octets live.access.waiting

-- The request beside the exchange that waits: after a plug, or else of the application.
abbrev pub beside_of : Live → List Sent
beside_of live = if is_some live.access.plug then plugs_of live else accesses_of live

-- The request that waits: of the start-up, or else beside the exchange. There is at most one.
abbrev pub pending_by : Live → Option Request → List Sent
pending_by live (Some request) = Requests live.device request ∷ []
pending_by live None = beside_of live

-- The requests that wait for an answer.
abbrev pub pending_of : Live → List Sent
pending_of live = pending_by live live.asked

-- An AlarmAck that waits for its ACK, as it is repeated.
abbrev pub acks_in : Live → Priority → Option AlarmAck → List Sent
acks_in live priority (Some ack) = ack_now live priority ack ∷ []
acks_in live priority None = []

-- That of a priority.
abbrev pub acks_of : Live → Priority → List Sent
acks_of live priority = acks_in live priority (end_of live priority).confirming

-- The cyclic frame of outputs.
abbrev pub outputs_of : Live → List Sent
outputs_of live = Cycles live.cyclic.route live.cyclic.shown live.units ∷ []

-- The exchange of the relation a unit later.
abbrev pub exchange_later : Live → Live
exchange_later live = record live {
  cyclic = cyclic_later live.cyclic;
  alarms = controller_later live.alarms;
  low_alarms = controller_later live.low_alarms;
}

-- The exchange and the timer of the request a unit later.
abbrev pub flow_later : Live → Live
flow_later live = exchange_later (later live)

-- The relation ends, the device is informed of the reason, and nothing else is sent. An ERR has the numbers of high
-- priority.
abbrev pub ended_by : Live → Abort → Turn
ended_by live reason = record {
  live = over (cause_of reason) live;
  sent = Ends live.cyclic.route (header_of live.alarms live.cyclic.route pdu.Error) reason ∷ [];
}

-- The AlarmAck of high priority again, that of low priority again, the request again, of the start-up or of the application,
-- and the outputs, each if it is due.
abbrev pub due_frames : Live → Bool → Bool → Bool → Bool → List Sent
due_frames live is_high is_low is_request is_cyclic =
    where_due is_high (acks_of live High)
    ++ (where_due is_low (acks_of live Low)
    ++ (where_due is_request (pending_of live) ++ where_due is_cyclic (outputs_of live)))

-- What a unit brings: `high` and `low` are due of the alarms of each priority.
abbrev pub flowed : Live → Due → Due → Bool → Brought → Option Abort → Turn
flowed live high low is_request tick (Some reason) = ended_by live reason
flowed live high low is_request tick None =
    record { live = live; sent = due_frames live (is_repeated high) (is_repeated low) is_request tick.is_cyclic }

-- What a unit brings of the relation.
abbrev pub brought : Live → Brought
brought live = tick_of live.cyclic (either_due (due live.alarms.sending) (due live.low_alarms.sending))

-- The rest of a unit, after the timer of the request; the Bool says whether the request is due.
abbrev pub gone_on : Live → Bool → Turn
gone_on live is_request =
    if live.stands
    then flowed (exchange_later live) (due live.alarms.sending) (due live.low_alarms.sending) is_request (brought live) (brought live).ending
    else record { live = live; sent = where_due is_request (requests_of live.device live.asked) }

-- With the unit at which a request is due, a turn begins that can.
abbrev pub turn_due : Setup → Bool → Live → Live
turn_due setup is_due live = if is_due then begun_turn setup live else live

-- A unit passes: if the patience of the phase ends, the controller ends, and nothing else is sent. Otherwise what is due of the
-- relation, if it is established, and the request again.
abbrev pub ticked : Setup → Live → Turn
ticked setup live =
    if is_spent live then quit setup cause.NoProgress (later live) live.phase
    else gone_on (turn_due setup (is_again live) (later live)) (is_again live)

-- ---- events

-- The marks of outputs after a value of a submodule was given, or after its status, and the IOPS that follows from them.
abbrev pub marks_with : Live → ℕ → ℕ → Option Bool → List OutputMark
marks_with live slot subslot status = marked slot subslot (change_by status) live.outputs

-- The IOPS of an output after a value or a status is given.
abbrev pub iops_with : Live → ℕ → ℕ → Option Bool → ℕ
iops_with live slot subslot status = iops_of (mark_at slot subslot (marks_with live slot subslot status))

-- The controller after the status of an output changes.
abbrev pub remarked : Live → ℕ → ℕ → Option Bool → Live
remarked live slot subslot status = record live {
  cyclic = stated_at live.cyclic slot subslot (iops_with live slot subslot status);
  outputs = marks_with live slot subslot status;
}

-- The application says that the output of a submodule is good or bad from now on, if it has an output. Its value is kept.
abbrev pub rated : Live → ℕ → ℕ → Bool → Live
rated live slot subslot is_good = remarked live slot subslot (Some is_good)

-- Whether a submodule has an output of this length.
abbrev pub has_output : Live → ℕ → ℕ → List ℕ → Bool
has_output live slot subslot value = has_size (length value) (cell_at at_data slot subslot live.cyclic.shown.cells)

-- An output with another value. If it is the first one, its IOPS is this.
abbrev pub with_output : Bool → ℕ → List ℕ → Cell → Cell
with_output is_first iops value cell = record { place = cell.place; value = value; status = if is_first then iops else cell.status }

-- The output of a submodule is set, if it has an output of this length. Otherwise nothing changes. After the first value
-- the IOPS follows from what the application says.
abbrev pub cells_given : Live → ℕ → ℕ → List ℕ → List Cell
cells_given live slot subslot value =
    if has_output live slot subslot value
    then map (changed_in at_data slot subslot (with_output (awaits slot subslot live.outputs) (iops_with live slot subslot None) value)) live.cyclic.shown.cells
    else live.cyclic.shown.cells

-- The controller after a value is given for an output.
abbrev pub given : Live → ℕ → ℕ → List ℕ → Live
given live slot subslot value = record live {
  cyclic = record live.cyclic { shown = record live.cyclic.shown { cells = cells_given live slot subslot value } };
  outputs = if has_output live slot subslot value && awaits slot subslot live.outputs then marks_with live slot subslot None else live.outputs;
}

-- What the device says of the input of a submodule in its last accepted frame, while the relation is established.
abbrev pub provider_of : Live → ℕ → ℕ → Option ProviderStatus
provider_of live slot subslot = if live.stands then provider_at live.cyclic slot subslot else None

-- Whether the application may read or write a record: data is exchanged, and no other request waits.
abbrev pub can_request : Live → Bool
can_request live = is_exchanging live.phase && is_free live.access

-- The application reads or writes a record. The request is sent, and waits from now on.
abbrev pub accessing : RecordRequest → List ℕ → Live → Turn
accessing request octets live = record {
  live = record live { waited = 0; access = made request octets live.access };
  sent = Accesses live.device request octets ∷ [];
}

-- The next request of the application, with its sequence number.
abbrev pub request_for : Setup → Live → RecordService → ℕ → ℕ → ℕ → RecordRequest
request_for setup live kind slot subslot index =
    record { sequence = call_number setup.plan live.access.calls; service = kind; slot = slot; subslot = subslot; index = index }

-- What a Read or Write of the application does: it is sent if it may be, else nothing changes.
abbrev pub requested : Setup → Live → RecordService → ℕ → ℕ → ℕ → List ℕ → Turn
requested setup live kind slot subslot index octets =
    if can_request live then accessing (request_for setup live kind slot subslot index) octets live else stays live

-- A record with more octets than a call can carry is not written.
abbrev pub written : Setup → Live → ℕ → ℕ → ℕ → List ℕ → Turn
written setup live slot subslot index octets =
    if nat_lt most_record_octets (length octets) then stays live else requested setup live service.Write slot subslot index octets

-- What each event does to a controller: the cases of its machine.
abbrev pub turn_of : Setup → Live → Event → Turn
turn_of setup live (Frame bytes) = turned setup live (heard_of setup.plan.controller bytes.items)
turn_of setup live Ticks = ticked setup live
turn_of setup live (Give slot subslot value) = stays (given live slot subslot value.items)
turn_of setup live (Rate slot subslot is_good) = stays (rated live slot subslot is_good)
turn_of setup live (Read slot subslot index) = requested setup live service.Read slot subslot index []
turn_of setup live (Write slot subslot index octets) = written setup live slot subslot index octets.items
turn_of setup live Stop = stopped setup live live.phase

-- ---- the beginning

-- It looks for the station: the Identify counts as sent.
abbrev pub first : Parts → Live
first plan = record {
  phase = Looking;
  device = nobody;
  asked = Some asks.Identify;
  waited = 0;
  left = 0;
  units = 0;
  stands = false;
  deviates = false;
  refusal = None;
  refused_record = None;
  cyclic = first_cyclic plan;
  alarms = unheard alarm_factor alarm_retries;
  low_alarms = unheard alarm_factor alarm_retries;
  outputs = first_outputs plan;
  alarm = None;
  access = no_access;
  user_structure = None;
  low_alarm = None;
  low_user_structure = None;
  diagnosis = nothing_reported;
  places = no_places;
}

-- Before it starts, with this exchange: no request was made, no timer runs, no relation is established, and nothing was
-- received.
abbrev pub before_start : Cyclic → Live
before_start cyclic = record {
  phase = Looking;
  device = nobody;
  asked = None;
  waited = 0;
  left = 0;
  units = 0;
  stands = false;
  deviates = false;
  refusal = None;
  refused_record = None;
  cyclic = cyclic;
  alarms = unheard alarm_factor alarm_retries;
  low_alarms = unheard alarm_factor alarm_retries;
  outputs = [];
  alarm = None;
  access = no_access;
  user_structure = None;
  low_alarm = None;
  low_user_structure = None;
  diagnosis = nothing_reported;
  places = no_places;
}

-- The controller of a plan, with this ARUUID, this activity and these options; and without options.
abbrev pub fresh_with : Parts → List ℕ → List ℕ → ControllerOptions → Controlling
fresh_with plan ar activity options = record { setup = record { plan = plan; ar = ar; activity = activity; options = options }; live = first plan }

-- A new controller of this plan with the default options.
abbrev pub fresh : Parts → List ℕ → List ℕ → Controlling
fresh plan ar activity = fresh_with plan ar activity default_options

-- Its opening frame: the Identify.
unfoldable pub opening_of : Controlling → List ℕ
opening_of controlling = bytes_of controlling.setup (Requests controlling.live.device asks.Identify)

-- ---- a step

-- The controller after it, and the frames.
pub record Stepped : Type 0 where
  pub controller : Controlling
  pub frames : List (List ℕ)

-- A turn as a step of a controller.
abbrev pub stepped : Controlling → Turn → Stepped
stepped old turn = record { controller = with_live old turn.live; frames = map (bytes_of old.setup) turn.sent }

-- An event at a controller: its step depends on the octets of a frame, and on the state of the controller.
unfoldable pub step_of : Controlling → Event → Stepped
step_of old event = stepped old (turn_of old.setup old.live event)
