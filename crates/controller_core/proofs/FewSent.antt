-- What is received sends at most two frames before the turn of a place begins, so there is room for one more.
use Rattle.std.proofs.Common.{◌≡◌, ◌≤◌, ◌<◌, ◌+◌, ◌&&◌, ℕ, Bool, true, false, List, [], map, length, Option, Some, None, if◌then◌else◌, refl, ap, arith}
use Rattle.std.proofs.lemmas.List.{length-map}
use Rattle.arrayvec.specs.ArrayVec.{ArrayVec as Items}
use Rattle.pn_values.specs.declared.mac.Mac.{Mac}
use Rattle.frame_codec.specs.declared.udp.Caller.{Caller}
use Rattle.frame_codec.specs.Outbox.{boxed}
use Rattle.rpc_core.specs.declared.response.Status.{Status}
use Rattle.rpc_core.specs.Call.{Asked as Call}
use Rattle.rpc_core.specs.Response.{Answered as Response, is_done}
use Rattle.connect_blocks.specs.declared.plug_control.PlugControlBlock.{PlugControlBlock}
use Rattle.pn_alarms.specs.declared.pdu.Header.{Header}
use Rattle.pn_alarms.specs.declared.message.Notice.TheVariants as notice
use Rattle.pn_alarms.specs.declared.receiver.Taken.{Taken}
use Rattle.pn_alarms.specs.declared.receiver.Taken.TheVariants.{New, Again, Refused}
use Rattle.pn_alarms.specs.Receiver.{taken_as}
use Rattle.diagnosis.specs.declared.reports.priority.Priority.{Priority}
use Rattle.diagnosis.specs.declared.reports.report.Report.{Report}
use Rattle.diagnosis.specs.reports.Message.{ToController}
use Rattle.controller_messages.specs.declared.plug_request.PlugRequest.{PlugRequest}
use Rattle.controller_messages.specs.declared.refusal.Refusal.{Refusal}
use Rattle.controller_messages.specs.declared.request.Request.{Request}
use Rattle.controller_messages.specs.declared.request.Request.TheVariants as asks
use Rattle.controller_messages.specs.declared.setup.Setup.{Setup}
use Rattle.controller_messages.specs.PlugRequests.{is_plug_answer, is_plug_ready}
use Rattle.controller_messages.specs.Requests.{first_of, writing_after, writing_from}
use Rattle.controller_messages.specs.Sent.{Sent, bytes_of}
use Rattle.connects.specs.declared.answers.connect.Found.{Found}
use Rattle.connects.specs.answers.Connect.{Chosen, chosen_of, found_in, is_whole, nothing}
use Rattle.controller_core.specs.declared.start_up.outcomes.Outcomes.{Outcomes}
use Rattle.controller_core.specs.declared.start_up.outcomes.Outcomes.TheVariants.{AllWritten, Unreadable}
use Rattle.controller_core.specs.declared.start_up.outcomes.Outcomes.TheVariants.{Refused as Denied}
use Rattle.controller_core.specs.stored.State.{Live}
use Rattle.controller_core.specs.stored.Alarms.{is_alarm}
use Rattle.controller_core.specs.start_up.Answers.{is_answer, is_held, is_refused, is_tried}
use Rattle.controller_core.specs.start_up.Outcomes.{outcomes_of}
use Rattle.controller_core.specs.Machine.{Turn, after_write, alarmed, behind_data, beside, connected, decided, done, end_of, handled, is_plug_awaited, noted, noticed, past_record, placed, plug_called, plug_replied, plugs_by, refused, refused_by, refused_end, refused_write, related_by, responded, standing, stays, taken, undone, writing}

abbrev IsFew : Turn → Type 0
IsFew turn = length turn.sent ≤ 2

either : (x y : Turn) (is : Bool) → IsFew x → IsFew y → IsFew (if is then x else y)
either x y true one other = one
either x y false one other = other

stays_few : (live : Live) → IsFew (stays live)
stays_few live = omega arith

plugs_few : (device : Mac) (plug : Option PlugRequest) → length (plugs_by device plug) ≤ 2
plugs_few device (Some request) = omega arith
plugs_few device None = omega arith

module _ (setup : Setup) (live : Live) where
  writes : (request : Request) (now : Live) → IsFew (writing setup request now)
  writes request now = omega arith

  -- ---- responses

  relates : (now : Live) (chosen : Option Chosen) → IsFew (related_by setup now chosen)
  relates now (Some chosen) = writes (writing_from setup.plan 0) (standing setup now chosen)
  relates now None = stays_few now

  connects : (blocks : List ℕ) (found : Option Found) → IsFew (connected setup live blocks found)
  connects blocks (Some found) =
      either _ _ (is_whole found) (either _ _ found.differs (omega arith) (relates (placed setup blocks live) (chosen_of found))) (stays_few live)
  connects blocks None = stays_few live

  passes : (next : Request) (now : Live) → IsFew (past_record setup next now)
  passes next now =
      either _ _ setup.plan.continue_on_refused_record (writes next now)
      (either _ _ setup.plan.release_on_refused_record (omega arith) (omega arith))

  after_writes : (number : ℕ) (next : Request) (outcomes : Outcomes) → IsFew (after_write setup live number next outcomes)
  after_writes number next AllWritten = writes next live
  after_writes number next (Denied place status) = passes next (noted status (first_of setup.plan number + place) live)
  after_writes number next Unreadable = stays_few live

  done_few : (blocks : List ℕ) (request : Request) → IsFew (done setup live blocks request)
  done_few blocks asks.Identify = omega arith
  done_few blocks asks.Address = omega arith
  done_few blocks asks.Connect = connects blocks (found_in 400 blocks nothing)
  done_few blocks (asks.Write number) = after_writes number (writing_from setup.plan (number + 1)) (outcomes_of setup.plan number blocks)
  done_few blocks (asks.WriteAfter number tries) =
      after_writes number (writing_after setup.plan (number + 1) tries) (outcomes_of setup.plan number blocks)
  done_few blocks (asks.PrmEndAfter tries) = omega arith
  done_few blocks asks.PrmEnd = omega arith
  done_few blocks (asks.Release sequence) = omega arith

  refused_write_few : (status : Status) (number tries : ℕ) (next : Request) → IsFew (refused_write setup live status number tries next)
  refused_write_few status number tries next =
      either _ _ (is_tried setup.plan status tries) (omega arith) (passes next (noted status (first_of setup.plan number) live))

  refused_end_few : (status : Status) (tries : ℕ) → IsFew (refused_end setup live status tries)
  refused_end_few status tries = either _ _ (is_tried setup.plan status tries) (omega arith) (omega arith)

  undone_few : (status : Status) (request : Request) → IsFew (undone setup live status request)
  undone_few status (asks.Write number) = refused_write_few status number 0 (writing_from setup.plan (number + 1))
  undone_few status (asks.WriteAfter number tries) = refused_write_few status number tries (writing_after setup.plan (number + 1) tries)
  undone_few status asks.Identify = omega arith
  undone_few status asks.Address = omega arith
  undone_few status asks.Connect = either _ _ (is_held setup.plan status) (omega arith) (omega arith)
  undone_few status asks.PrmEnd = refused_end_few status 0
  undone_few status (asks.PrmEndAfter tries) = refused_end_few status tries
  undone_few status (asks.Release sequence) = omega arith

  handled_few : (response : Response) (request : Request) → IsFew (handled setup live response request)
  handled_few response request = either _ _ (is_done response.status) (done_few response.blocks request) (undone_few response.status request)

  decided_few : (response : Response) (request : Request) → IsFew (decided setup live response request)
  decided_few response (asks.Release sequence) = omega arith
  decided_few response asks.Identify = handled_few response asks.Identify
  decided_few response asks.Address = handled_few response asks.Address
  decided_few response asks.Connect = handled_few response asks.Connect
  decided_few response (asks.Write number) = handled_few response (asks.Write number)
  decided_few response asks.PrmEnd = handled_few response asks.PrmEnd
  decided_few response (asks.WriteAfter number tries) = handled_few response (asks.WriteAfter number tries)
  decided_few response (asks.PrmEndAfter tries) = handled_few response (asks.PrmEndAfter tries)

  beside_few : (response : Response) (plug : Option PlugRequest) → IsFew (beside setup live response plug)
  beside_few response (Some request) =
      let next = plug_replied setup live response.status request in
      either _ _ (is_plug_answer setup request response.header.activity response.header.sequence) (plugs_few next.device next.access.plug) (stays_few live)
  beside_few response None = omega arith

  pub responded_few : (response : Response) (asked : Option Request) → IsFew (responded setup live response asked)
  responded_few response (Some request) = either _ _ (is_answer setup request response.header) (decided_few response request) (stays_few live)
  responded_few response None = beside_few response live.access.plug

  -- ---- rejects and faults: they send nothing

  either_none : (x y : Turn) (is : Bool) → [] ≡ map (bytes_of setup) x.sent → [] ≡ map (bytes_of setup) y.sent
      → [] ≡ map (bytes_of setup) (if is then x else y).sent
  either_none x y true one other = one
  either_none x y false one other = other

  refused_by_none : (refusal : Refusal) (request : Request) → [] ≡ map (bytes_of setup) (refused_by live refusal request).sent
  refused_by_none refusal (asks.Release sequence) = refl
  refused_by_none refusal asks.Identify = refl
  refused_by_none refusal asks.Address = refl
  refused_by_none refusal asks.Connect = refl
  refused_by_none refusal (asks.Write number) = refl
  refused_by_none refusal asks.PrmEnd = refl
  refused_by_none refusal (asks.WriteAfter number tries) = refl
  refused_by_none refusal (asks.PrmEndAfter tries) = refl

  pub refused_none : (refusal : Refusal) (asked : Option Request) → [] ≡ map (bytes_of setup) (refused setup live refusal asked).sent
  refused_none refusal (Some request) = either_none _ _ (is_refused setup request refusal) (refused_by_none refusal request) refl
  refused_none refusal None = refl

  -- ---- alarms

  taken_few : (now : Live) (report : Report) (came : Taken) → IsFew (taken now report came)
  taken_few now report New = omega arith
  taken_few now report Again = omega arith
  taken_few now report Refused = omega arith

  noticed_few : (under : Priority) (reported : ToController) → IsFew (noticed live under reported)
  noticed_few under (notice.Data number report) = taken_few (behind_data live report.priority number) report (taken_as (end_of live report.priority).seen number)
  noticed_few under (notice.Ack number) = omega arith
  noticed_few under notice.Nack = omega arith
  noticed_few under (notice.Abort status) = omega arith

  pub alarmed_few : (source : Mac) (under : Priority) (header : Header) (reported : ToController) → IsFew (alarmed live source under header reported)
  alarmed_few source under header reported = either _ _ (live.stands && is_alarm live.cyclic.route source header) (noticed_few under reported) (stays_few live)

  -- ---- calls

  pub called_few : (caller : Caller) (call : Call) (block : Option PlugControlBlock) → IsFew (plug_called setup live caller call block)
  called_few caller call (Some block) = either _ _ (is_plug_ready setup block && is_plug_awaited live block.alarm_sequence_number) (omega arith) (stays_few live)
  called_few caller call None = stays_few live

-- There is room for one more frame.
pub room_is : (outbox : Items (Items ℕ)) (setup : Setup) (sent : List Sent) → boxed outbox ≡ map (bytes_of setup) sent → length sent ≤ 2 → length outbox.items < 4
room_is outbox setup sent frames few =
    let mine : length (boxed outbox) ≡ length outbox.items = length-map outbox.items (λ (frame : Items ℕ). frame.items) in
    let theirs : length (map (bytes_of setup) sent) ≡ length sent = length-map sent (bytes_of setup) in
    let same : length (boxed outbox) ≡ length (map (bytes_of setup) sent) = ap (λ (f : List (List ℕ)). length f) frames in
    omega (arith, mine, theirs, same, few)
