-- The parameters of places after a plug, at a controller in any state that events lead to: the request that waits is one of the plan's, and data
-- is exchanged.
use Rattle.std.proofs.Common.{◌≡◌, ◌⊎◌, inl, inr, ◌+◌, ◌&&◌, ◌||◌, ◌++◌, ◌<◌, ◌==◌, ℕ, zero, suc, Bool, true, false, not, List, [], ◌∷◌, drop, length}
use Rattle.std.proofs.Common.{Option, Some, None, is_some, refl, sym, ap, subst, ◌∙◌, add-one, arith}
use Rattle.std.specs.Prelude.{if◌then◌else◌, nat_lt, slice_get}
use Rattle.std.proofs.Math.Nat.{mod-lt}
use Rattle.std.proofs.lemmas.Bool.{and_parts, eqb-false, eqb-true, false≢true}
use Rattle.std.proofs.lemmas.Option.{none-some}
use Rattle.pn_values.specs.declared.mac.Mac.{Mac}
use Rattle.frame_codec.specs.declared.udp.Caller.{Caller}
use Rattle.dcp_core.specs.Response.{Answered}
use Rattle.dcp_core.specs.Answered.{is_agreed}
use Rattle.rpc_core.specs.declared.response.Status.{Status as Code}
use Rattle.rpc_core.specs.Call.{Asked as Call}
use Rattle.rpc_core.specs.Response.{Answered as Response, is_done}
use Rattle.connect_blocks.specs.declared.control.ControlBlock.{ControlBlock}
use Rattle.connect_blocks.specs.declared.plug_control.PlugControlBlock.{PlugControlBlock}
use Rattle.block_codec.specs.Block.{block_of}
use Rattle.record_blocks.specs.declared.alarm_notification.AlarmNotification.{AlarmNotification}
use Rattle.pn_alarms.specs.declared.abort.Abort.{Abort}
use Rattle.pn_alarms.specs.declared.message.Notice.TheVariants as notice
use Rattle.pn_alarms.specs.declared.pdu.Header.{Header}
use Rattle.pn_alarms.specs.declared.receiver.Taken.{Taken}
use Rattle.pn_alarms.specs.declared.receiver.Taken.TheVariants.{New, Again, Refused}
use Rattle.pn_alarms.specs.Controller.{with_ack, with_data}
use Rattle.pn_alarms.specs.Ends.{ControllerEnd}
use Rattle.pn_alarms.specs.Receiver.{taken_as}
use Rattle.pn_alarms.specs.Sending.{due}
use Rattle.diagnosis.specs.declared.reports.priority.Priority.{Priority}
use Rattle.diagnosis.specs.declared.reports.priority.Priority.TheVariants.{High, Low}
use Rattle.diagnosis.specs.declared.reports.report.Report.{Report}
use Rattle.diagnosis.specs.reports.Message.{ToController}
use Rattle.connects.specs.declared.answers.connect.Found.{Found}
use Rattle.connects.specs.answers.Connect.{Chosen, chosen_of, found_in, is_whole, nothing}
use Rattle.plans.specs.declared.parts.Parts.{Parts}
use Rattle.plans.specs.declared.parts.PlanRecord.{PlanRecord}
use Rattle.plan_places.specs.declared.report.PlaceReport.{PlaceReport}
use Rattle.plan_places.specs.declared.report.Plug.{Plug}
use Rattle.plan_places.specs.Places.{Told, first_waiting, has_turn_at, next_waiting, told_by}
use Rattle.plan_places.specs.Records.{first_record, is_record_of}
use Rattle.plan_places.specs.Reports.{place_report}
use Rattle.controller_messages.specs.declared.plug_request.PlugRequest.{PlugRequest}
use Rattle.controller_messages.specs.declared.plug_request.PlugStep.{PlugStep}
use Rattle.controller_messages.specs.declared.plug_request.PlugStep.TheVariants.{Record, PrmEnd}
use Rattle.controller_messages.specs.declared.record_request.RecordRequest.{RecordRequest}
use Rattle.controller_messages.specs.declared.record_request.RecordService.{RecordService}
use Rattle.controller_messages.specs.declared.record_request.RecordService.TheVariants as service
use Rattle.controller_messages.specs.declared.refusal.Refusal.{Refusal}
use Rattle.controller_messages.specs.declared.setup.Setup.{Setup}
use Rattle.controller_messages.specs.declared.request.Request.{Request}
use Rattle.controller_messages.specs.declared.request.Request.TheVariants as asks
use Rattle.controller_messages.specs.Access.{call_number, is_free, is_rejected, is_reply, record_in, unplugged}
use Rattle.controller_messages.specs.Heard.{Heard, Nothing, Answers, Responds, Refuses, Calls, Alarms, heard_of}
use Rattle.controller_messages.specs.Heard.{Cyclic as Comes}
use Rattle.controller_messages.specs.PlugRequests.{is_plug_answer, is_plug_ready, plug_answer, plug_ready_in}
use Rattle.controller_messages.specs.RecordRequests.{most_record_octets}
use Rattle.controller_messages.specs.Requests.{first_of, write_count, writing_from, writing_after}
use Rattle.controller_messages.specs.Sent.{Agrees, Sent}
use Rattle.controller_core.specs.declared.start_up.outcomes.Outcomes.{Outcomes}
use Rattle.controller_core.specs.declared.start_up.outcomes.Outcomes.TheVariants.{AllWritten, Unreadable}
use Rattle.controller_core.specs.declared.start_up.outcomes.Outcomes.TheVariants.{Refused as Denied}
use Rattle.controller_core.specs.declared.stored.event.Event.{Event}
use Rattle.controller_core.specs.declared.stored.event.Event.TheVariants as event
use Rattle.controller_core.specs.declared.stored.state.Cause.{Cause}
use Rattle.controller_core.specs.declared.stored.state.Cause.TheVariants as why
use Rattle.controller_core.specs.declared.stored.state.State.{State}
use Rattle.controller_core.specs.declared.stored.state.State.TheVariants.{Looking, Addressing, Connecting, Writing, Ending, Waiting, Exchanging, Ended}
use Rattle.controller_core.specs.start_up.Answers.{is_addressed, is_answer, is_found, is_held, is_ready, is_refused, is_right, is_set_answer, ready_in, is_tried}
use Rattle.controller_core.specs.start_up.Outcomes.{outcomes_of}
use Rattle.controller_core.specs.stored.Alarms.{ack_of, is_alarm, kept_alarm}
use Rattle.controller_core.specs.stored.Cause.{cause_of}
use Rattle.controller_core.specs.stored.State.{Controlling, Live, phase_for}
use Rattle.controller_core.specs.Machine.{Turn, acked_under, acking, after_turn, after_write, alarmed, answered, asks_next, begun_by, begun_turn, behind_ack, behind_data, refused_end, refused_write}
use Rattle.controller_core.specs.Machine.{beside, brings, brought, called, can_begin, can_request, confirming, connected, decided, done, end_of, exchange_later}
use Rattle.controller_core.specs.Machine.{flowed, fresh_with, granted, is_again, is_end_of, is_exchanging, is_plug_awaited, is_spent, keeping, later}
use Rattle.controller_core.specs.Machine.{noted, noticed, over, past_record, placed, plug_asked, plug_called, plug_finished, plug_passed_by, plug_readied}
use Rattle.controller_core.specs.Machine.{plug_refused, plug_rejected, plug_replied, plugs_of, quit, readied, refused, refused_beside, refused_by, refused_place}
use Rattle.controller_core.specs.Machine.{rejected, related_by, released, replied, requested, requests_of, responded, stays, step_from, step_of, step_of_record, taken, ticked}
use Rattle.controller_core.specs.Machine.{turn_due, turn_of, turned, undone, where_due, with_end}
use Rattle.controller_core.specs.start_up.Requests.{behind_write, end_after, write_after}
use Rattle.end_laws.specs.controller.Small.{IsSteady}
use Rattle.end_laws.specs.turns.Runs.{IsReached, behind_all}
use Rattle.end_laws.specs.turns.Turns as kinds
use Rattle.end_laws.specs.turns.Turns.{Came, IsKind, Kind, came_by, turn_by}
use Rattle.rounds_law.specs.AnywhereFrames.{IsOfPlug}
use Rattle.rounds_law.proofs.AnywhereControllerKept.{PhaseOf, asked_in, written_in, ended_in}
use Rattle.rounds_law.proofs.AnywhereControllerLaws.{ControllerLaws, reached_on, reached_steady}

-- ---- the records of a place

drop_here : (entries : List PlanRecord) (n : ℕ) (entry : PlanRecord) (rest : List PlanRecord) → drop n entries ≡ entry ∷ rest
    → slice_get entries n ≡ Some entry
drop_here [] zero entry rest e = absurd cc
drop_here [] (suc n) entry rest e = absurd cc
drop_here (one ∷ entries) zero entry rest e = ap (λ (l : List PlanRecord). slice_get l 0) e
drop_here (one ∷ entries) (suc n) entry rest e = drop_here entries n entry rest e

drop_later : (entries : List PlanRecord) (n : ℕ) (entry : PlanRecord) (rest : List PlanRecord) → drop n entries ≡ entry ∷ rest
    → drop (suc n) entries ≡ rest
drop_later [] zero entry rest e = absurd cc
drop_later [] (suc n) entry rest e = absurd cc
drop_later (one ∷ entries) zero entry rest e = ap (λ (l : List PlanRecord). drop 1 l) e
drop_later (one ∷ entries) (suc n) entry rest e = drop_later entries n entry rest e

same_some : {A : Type 0} (one other : A) → Some one ≡ Some other → one ≡ other
same_some one other e = cc

module _ (slot subslot : ℕ) where
  -- The record of this number is one of the submodule.
  abbrev IsOwn : List PlanRecord → ℕ → Type 0
  IsOwn entries number = (entry : PlanRecord) → slice_get entries number ≡ Some entry → (slot ≡ entry.slot) × (subslot ≡ entry.subslot)

  own_at : (entries rest : List PlanRecord) (start number : ℕ) → drop start entries ≡ rest → first_record slot subslot start rest ≡ Some number
      → IsOwn entries number
  own_at entries [] start number all found = absurd (none-some number found)
  own_at entries (first ∷ rest) start number all found =
      by_test (is_record_of slot subslot first) refl
      (λ e. own_at entries rest (start + 1) number (ap (λ (n : ℕ). drop n entries) (add-one start) ∙ drop_later entries start first rest all) e) found
    where
      by_test : (b : Bool) → is_record_of slot subslot first ≡ b
          → (first_record slot subslot (start + 1) rest ≡ Some number → IsOwn entries number)
          → (let o : Option ℕ = if b then Some start else first_record slot subslot (start + 1) rest in o) ≡ Some number → IsOwn entries number
      by_test true is more e = λ entry at.
          let both = and_parts (first.slot == slot) (first.subslot == subslot) is in
          let same : first ≡ entry = same_some first entry (sym (drop_here entries start first rest all)
          ∙ (ap (λ (n : ℕ). slice_get entries n) (same_some start number e) ∙ at)) in (
            sym (eqb-true first.slot slot both.0) ∙ ap (λ (p : PlanRecord). p.slot) same,
            sym (eqb-true first.subslot subslot both.1) ∙ ap (λ (p : PlanRecord). p.subslot) same,
          )
      by_test false is more e = more e

  step_own : (plan : Parts) (from number : ℕ) → step_from plan slot subslot from ≡ Record number → IsOwn plan.records.items number
  step_own plan from number is = by_found (first_record slot subslot from (drop from plan.records.items)) refl is
    where
      record_is : (one other : ℕ) → Record one ≡ Record other → one ≡ other
      record_is one other e = cc

      by_found : (found : Option ℕ) → first_record slot subslot from (drop from plan.records.items) ≡ found → step_of_record found ≡ Record number
          → IsOwn plan.records.items number
      by_found None e s = absurd cc
      by_found (Some other) e s =
          own_at plan.records.items (drop from plan.records.items) from number refl (e ∙ ap (λ (n : ℕ). Some n) (record_is other number s))

-- ---- the request that waits

-- It is one of the plan's, and its number has four octets.
abbrev pub AreOfPlug : Setup → Option PlugRequest → Type 0
AreOfPlug setup None = Unit {0}
AreOfPlug setup (Some request) = IsOfPlug setup request × (request.sequence < 4294967296)

-- What holds of the timer, of whether places have turns, and of this request.
pub record TurningBy (setup : Setup) (units : ℕ) (turns : Bool) (plug : Option PlugRequest) : Type 0 where
  pub waited : units < 32000
  pub keyed : turns ≡ true → setup.plan.parameters_after_plug ≡ true
  pub plugs : AreOfPlug setup plug

-- So it is in a state.
abbrev pub IsTurning : Setup → Live → Type 0
IsTurning setup live = TurningBy setup live.waited live.places.has_turns live.access.plug

numbered : (plan : Parts) (calls : ℕ) → call_number plan calls < 4294967296
numbered plan calls = mod-lt (write_count plan + 2 + calls) (omega arith)

module _ (setup : Setup) where
  -- It holds of the state after a turn.
  abbrev Good : Turn → Type 0
  Good turn = IsTurning setup turn.live

  either : (is : Bool) (x y : Turn) → Good x → Good y → Good (if is then x else y)
  either true x y one other = one
  either false x y one other = other

  either_live : (is : Bool) (x y : Live) → IsTurning setup x → IsTurning setup y → IsTurning setup (if is then x else y)
  either_live true x y one other = one
  either_live false x y one other = other

  -- Without a relation no place has a turn, and no request waits.
  ended_by : (units : ℕ) → units < 32000 → TurningBy setup units false None
  ended_by units few = record { waited = few; keyed = λ e. absurd (false≢true e); plugs = tt }

  at_start : (turns : Bool) (plug : Option PlugRequest) → (turns ≡ true → setup.plan.parameters_after_plug ≡ true) → AreOfPlug setup plug
      → TurningBy setup 0 turns plug
  at_start turns plug keyed plugs = record { waited = omega arith; keyed = keyed; plugs = plugs }

  -- ---- a step of a place is asked

  request_placed : (slot subslot number from : ℕ) → setup.plan.parameters_after_plug ≡ true → (calls : ℕ)
      → AreOfPlug setup (Some (record {
        sequence = call_number setup.plan calls;
        slot = slot;
        subslot = subslot;
        number = number;
        step = step_from setup.plan slot subslot from;
      }))
  request_placed slot subslot number from keyed calls = (
    record { keyed = keyed; placed = λ record_number entry is at. step_own slot subslot setup.plan from record_number is entry at },
    numbered setup.plan calls,
  )

  asked_good : (slot subslot number from : ℕ) (live : Live) → setup.plan.parameters_after_plug ≡ true → IsTurning setup live
      → IsTurning setup (plug_asked setup slot subslot number (step_from setup.plan slot subslot from) live)
  asked_good slot subslot number from live keyed is =
      at_start live.places.has_turns _ is.keyed (request_placed slot subslot number from keyed live.access.calls)

  waiting_turns : (told : Told) (plug : Plug) → next_waiting told ≡ Some plug → told.has_turns ≡ true
  waiting_turns told plug e = by_test told.has_turns refl e
    where
      by_test : (b : Bool) → told.has_turns ≡ b → (let o : Option Plug = if b then first_waiting told.places else None in o) ≡ Some plug
          → told.has_turns ≡ true
      by_test true is f = is
      by_test false is f = absurd (none-some plug f)

  begun_by_good : (live : Live) → IsTurning setup live → (next : Option Plug) → next_waiting live.places ≡ next → IsTurning setup (begun_by setup next live)
  begun_by_good live is (Some plug) e = asked_good plug.slot plug.subslot plug.number 0 live (is.keyed (waiting_turns live.places plug e)) is
  begun_by_good live is None e = is

  pub begun_good : (live : Live) → IsTurning setup live → IsTurning setup (begun_turn setup live)
  begun_good live is =
      either_live (can_begin live) (begun_by setup (next_waiting live.places) live) live (begun_by_good live is (next_waiting live.places) refl) is

  pub followed_good : (could : Bool) (turn : Turn) → Good turn → Good (after_turn setup could turn)
  followed_good could turn is =
      either (could || not (can_begin turn.live)) _ _ is (begun_good turn.live is)

  pub due_good : (is_due : Bool) (live : Live) → IsTurning setup live → IsTurning setup (turn_due setup is_due live)
  due_good true live is = begun_good live is
  due_good false live is = is

  module _ (live : Live) (is : IsTurning setup live) where
    -- ---- the start-up

    over_good : (cause : Cause) (next : Live) (sent : List Sent) → Good (record { live = over cause next; sent = sent })
    over_good cause next sent = ended_by 0 (omega arith)

    released_good : (cause : Cause) (next : Live) → Good (released setup cause next)
    released_good cause next = ended_by 0 (omega arith)

    rests : Good (stays live)
    rests = is

    again : TurningBy setup 0 live.places.has_turns live.access.plug
    again = at_start live.places.has_turns live.access.plug is.keyed is.plugs

    answered_good : (source : Mac) (answer : Answered) (phase : State) → Good (answered setup live source answer phase)
    answered_good source answer Looking =
        either (is_found setup.plan answer) _ _
        (either (is_right setup.plan answer) _ _ (either (is_addressed setup.plan answer) _ _ again again) (over_good why.WrongDevice live []))
        rests
    answered_good source answer Addressing =
        either (is_set_answer answer) _ _ (either (is_agreed answer) _ _ again (over_good why.Refused live [])) rests
    answered_good source answer phase = rests

    opened_keyed : setup.plan.parameters_after_plug ≡ true → setup.plan.parameters_after_plug ≡ true
    opened_keyed e = e

    related_good : (blocks : List ℕ) (found : Option Chosen) → Good (related_by setup (placed setup blocks live) found)
    related_good blocks (Some chosen) = at_start setup.plan.parameters_after_plug live.access.plug opened_keyed is.plugs
    related_good blocks None = record { waited = is.waited; keyed = opened_keyed; plugs = is.plugs }

    connected_good : (blocks : List ℕ) (found : Option Found) → Good (connected setup live blocks found)
    connected_good blocks (Some found) =
        either (is_whole found) _ _ (either found.differs _ _ (released_good why.ModuleDiff live) (related_good blocks (chosen_of found))) rests
    connected_good blocks None = rests

    passed_good : (next : Request) (refused_number : ℕ) (status : Code) → Good (past_record setup next (noted status refused_number live))
    passed_good next refused_number status =
        either setup.plan.continue_on_refused_record _ _ again
        (either setup.plan.release_on_refused_record _ _ (released_good why.Refused (noted status refused_number live))
        (over_good why.Refused (noted status refused_number live) []))

    outcomes_good : (number : ℕ) (next : Request) (outcomes : Outcomes) → Good (after_write setup live number next outcomes)
    outcomes_good number next AllWritten = again
    outcomes_good number next (Denied place status) = passed_good next (first_of setup.plan number + place) status
    outcomes_good number next Unreadable = rests

    done_good : (blocks : List ℕ) (request : Request) → Good (done setup live blocks request)
    done_good blocks asks.Identify = rests
    done_good blocks asks.Address = rests
    done_good blocks asks.Connect = connected_good blocks (found_in 400 blocks nothing)
    done_good blocks (asks.Write number) = outcomes_good number (writing_from setup.plan (number + 1)) (outcomes_of setup.plan number blocks)
    done_good blocks (asks.WriteAfter number tries) = outcomes_good number (writing_after setup.plan (number + 1) tries) (outcomes_of setup.plan number blocks)
    done_good blocks asks.PrmEnd = is
    done_good blocks (asks.PrmEndAfter tries) = is
    done_good blocks (asks.Release sequence) = is

    refused_write_good : (status : Code) (number tries : ℕ) (next : Request) → Good (refused_write setup live status number tries next)
    refused_write_good status number tries next = either (is_tried setup.plan status tries) _ _ is (passed_good next (first_of setup.plan number) status)

    refused_end_good : (status : Code) (tries : ℕ) → Good (refused_end setup live status tries)
    refused_end_good status tries = either (is_tried setup.plan status tries) _ _ is (over_good why.Refused (record live { refusal = Some status }) [])

    undone_good : (status : Code) (request : Request) → Good (undone setup live status request)
    undone_good status (asks.Write number) = refused_write_good status number 0 (writing_from setup.plan (number + 1))
    undone_good status (asks.WriteAfter number tries) = refused_write_good status number tries (writing_after setup.plan (number + 1) tries)
    undone_good status asks.PrmEnd = refused_end_good status 0
    undone_good status (asks.PrmEndAfter tries) = refused_end_good status tries
    undone_good status asks.Connect =
        let next : Live = record live { refusal = Some status } in either (is_held setup.plan status) _ _ (released_good why.Refused next) (over_good why.Refused next [])
    undone_good status request = over_good why.Refused (record live { refusal = Some status }) []

    decided_good : (response : Response) (request : Request) → Good (decided setup live response request)
    decided_good response (asks.Release sequence) = is
    decided_good response request = either (is_done response.status) _ _ (done_good response.blocks request) (undone_good response.status request)

    refused_by_good : (refusal : Refusal) (request : Request) → Good (refused_by live refusal request)
    refused_by_good refusal (asks.Release sequence) = is
    refused_by_good refusal request = over_good why.Refused (record live { refusal = Some refusal.status }) []

    readied_good : (caller : Caller) (call : Call) (block : ControlBlock) (phase : State) → Good (readied live caller call block phase)
    readied_good caller call block Ending = is
    readied_good caller call block Waiting = is
    readied_good caller call block Exchanging = is
    readied_good caller call block phase = rests

    -- ---- requests of the application

    brought_good : (request : RecordRequest) (octets : Option (List ℕ)) → IsTurning setup (brings request octets live)
    brought_good request (Some octets) = is
    brought_good request None = is

    granted_good : (request : RecordRequest) (blocks : List ℕ) (kind : RecordService) → IsTurning setup (granted request blocks kind live)
    granted_good request blocks service.Read = brought_good request (record_in (block_of blocks))
    granted_good request blocks service.Write = is

    replied_good : (response : Response) (waiting : Option RecordRequest) → IsTurning setup (replied setup live response waiting)
    replied_good response None = is
    replied_good response (Some request) =
        either_live (is_reply setup request response.header) _ _
        (either_live (is_done response.status) _ _ (granted_good request response.blocks request.service) is) is

    rejected_good : (refusal : Refusal) (waiting : Option RecordRequest) → IsTurning setup (rejected setup live refusal waiting)
    rejected_good refusal None = is
    rejected_good refusal (Some request) = either_live (is_rejected setup request refusal) _ _ is is

    requested_good : (kind : RecordService) (slot subslot index : ℕ) (octets : List ℕ) → Good (requested setup live kind slot subslot index octets)
    requested_good kind slot subslot index octets = either (can_request live) _ _ again rests

    -- ---- the answers after a plug

    keyed_by : (request : PlugRequest) → live.access.plug ≡ Some request → setup.plan.parameters_after_plug ≡ true
    keyed_by request was = (subst (AreOfPlug setup) was is.plugs).0.keyed

    finished_good : IsTurning setup (plug_finished live)
    finished_good = record { waited = is.waited; keyed = is.keyed; plugs = tt }

    refused_place_good : (request : PlugRequest) (next : Live) → IsTurning setup next → IsTurning setup (refused_place request next)
    refused_place_good request next good = either_live (has_turn_at request.slot request.subslot next.places) _ _ good good

    -- The next step is asked.
    passing_good : (request : PlugRequest) (next : Live) → setup.plan.parameters_after_plug ≡ true → IsTurning setup next → (step : PlugStep)
        → IsTurning setup (plug_passed_by setup next request step)
    passing_good request next keyed good (Record number) =
        either_live (has_turn_at request.slot request.subslot next.places) _ _
        (asked_good request.slot request.subslot request.number (number + 1) next keyed good) good
    passing_good request next keyed good PrmEnd = good

    plug_refused_good : (status : Code) (request : PlugRequest) (next : Live) → setup.plan.parameters_after_plug ≡ true → IsTurning setup next
        → (step : PlugStep) → IsTurning setup (plug_refused setup next status request step)
    plug_refused_good status request next keyed good (Record number) =
        either_live setup.plan.continue_on_refused_record _ _
        (passing_good request (noted status number next) keyed good request.step)
        (refused_place_good request (noted status number next) good)
    plug_refused_good status request next keyed good PrmEnd = refused_place_good request (record next { refusal = Some status }) good

    pub plug_replied_good : (status : Code) (request : PlugRequest) → live.access.plug ≡ Some request
        → IsTurning setup (plug_replied setup live status request)
    plug_replied_good status request was =
        either_live (is_done status) _ _
        (passing_good request (plug_finished live) (keyed_by request was) finished_good request.step)
        (plug_refused_good status request (plug_finished live) (keyed_by request was) finished_good request.step)

    beside_good : (response : Response) (plug : Option PlugRequest) → live.access.plug ≡ plug → Good (beside setup live response plug)
    beside_good response (Some request) was =
        either (is_plug_answer setup request response.header.activity response.header.sequence) _ _
        (plug_replied_good response.status request was) rests
    beside_good response None was = replied_good response live.access.waiting

    pub responded_good : (response : Response) (asked : Option Request) → Good (responded setup live response asked)
    responded_good response (Some request) = either (is_answer setup request response.header) _ _ (decided_good response request) rests
    responded_good response None = beside_good response live.access.plug refl

    pub plug_rejected_good : (refusal : Refusal) (request : PlugRequest) → IsTurning setup (plug_rejected setup live refusal request)
    plug_rejected_good refusal request =
        either_live (is_plug_answer setup request refusal.activity refusal.sequence) _ _
        (refused_place_good request (record (plug_finished live) { refusal = Some refusal.status }) finished_good) is

    refused_beside_good : (refusal : Refusal) (plug : Option PlugRequest) → IsTurning setup (refused_beside setup live refusal plug)
    refused_beside_good refusal (Some request) = plug_rejected_good refusal request
    refused_beside_good refusal None = rejected_good refusal live.access.waiting

    pub refused_good : (refusal : Refusal) (asked : Option Request) → Good (refused setup live refusal asked)
    refused_good refusal (Some request) = either (is_refused setup request refusal) _ _ (refused_by_good refusal request) rests
    refused_good refusal None = refused_beside_good refusal live.access.plug

    -- ---- ApplicationReady of a plug

    pub plug_readied_good : (number : ℕ) → IsTurning setup (plug_readied live number)
    plug_readied_good number = by_test (is_end_of number live.access.plug)
      where
        by_test : (b : Bool) → TurningBy setup live.waited live.places.has_turns (if b then unplugged live.access else live.access).plug
        by_test true = record { waited = is.waited; keyed = is.keyed; plugs = tt }
        by_test false = is

    pub plug_called_good : (caller : Caller) (call : Call) (block : Option PlugControlBlock) → Good (plug_called setup live caller call block)
    plug_called_good caller call (Some block) =
        either (is_plug_ready setup block && is_plug_awaited live block.alarm_sequence_number) _ _
        (plug_readied_good block.alarm_sequence_number) rests
    plug_called_good caller call None = rests

    called_good : (caller : Caller) (call : Call) (block : Option ControlBlock) → Good (called setup live caller call block)
    called_good caller call (Some block) = either (is_ready setup block) _ _ (readied_good caller call block live.phase) rests
    called_good caller call None =
        followed_good (can_begin live) (plug_called setup live caller call (plug_ready_in call)) (plug_called_good caller call (plug_ready_in call))

  -- ---- alarms

  end_good : (live : Live) (priority : Priority) (end : ControllerEnd) → IsTurning setup live → IsTurning setup (with_end live priority end)
  end_good live High end is = is
  end_good live Low end is = is

  keeping_good : (live : Live) (priority : Priority) (alarm : AlarmNotification) (structure : Option ℕ) → IsTurning setup live
      → IsTurning setup (keeping live priority alarm structure)
  keeping_good live High alarm structure is = is
  keeping_good live Low alarm structure is = is

  told_turns : (report : Option PlaceReport) (told : Told) → (told_by report told).has_turns ≡ told.has_turns
  told_turns (Some report) told = refl
  told_turns None told = refl

  confirming_good : (live : Live) (report : Report) → IsTurning setup live → IsTurning setup (confirming live report)
  confirming_good live report is =
      let acked = acking live report.priority (ack_of report.notification) in
      let stored = keeping acked report.priority (kept_alarm report.notification) report.user_structure in
      let good : IsTurning setup stored = keeping_good acked report.priority (kept_alarm report.notification) report.user_structure
      (end_good live report.priority _ is) in
      record {
        waited = good.waited;
        keyed = λ e. good.keyed (sym (told_turns (place_report report) stored.places) ∙ e);
        plugs = good.plugs;
      }

  taken_by_good : (live : Live) (report : Report) (as_what : Taken) → IsTurning setup live → Good (taken live report as_what)
  taken_by_good live report New is = confirming_good live report is
  taken_by_good live report Again is = is
  taken_by_good live report Refused is = is

  -- An alarm is received, or an ACK.
  pub taken_good : (live : Live) (report : Report) (number : ℕ) (as_what : Taken) → IsTurning setup live
      → Good (taken (behind_data live report.priority number) report as_what)
  taken_good live report number as_what is =
      taken_by_good (behind_data live report.priority number) report as_what (end_good live report.priority (with_data (end_of live report.priority) number) is)

  pub acked_good : (live : Live) (priority : Priority) (number : ℕ) → IsTurning setup live → IsTurning setup (behind_ack live priority number)
  acked_good live priority number is = end_good live priority (with_ack (end_of live priority) number) is

  module _ (live : Live) (is : IsTurning setup live) where
    noticed_good : (under : Priority) (reported : ToController) → Good (noticed live under reported)
    noticed_good under (notice.Data number report) = taken_good live report number (taken_as (end_of live report.priority).seen number) is
    noticed_good under (notice.Ack number) = acked_good live (acked_under live under) number is
    noticed_good under notice.Nack = is
    noticed_good under (notice.Abort status) = over_good live is why.Aborted live []

    pub alarmed_good : (source : Mac) (under : Priority) (header : Header) (reported : ToController) → Good (alarmed live source under header reported)
    alarmed_good source under header reported = either (live.stands && is_alarm live.cyclic.route source header) _ _ (noticed_good under reported) is

    -- ---- each event

    heard_good : (heard : Heard) → Good (turned setup live heard)
    heard_good Nothing = is
    heard_good (Answers source answer) = answered_good live is source answer live.phase
    heard_good (Responds response) =
        followed_good (can_begin live) (responded setup live response live.asked) (responded_good live is response live.asked)
    heard_good (Refuses refusal) = followed_good (can_begin live) (refused setup live refusal live.asked) (refused_good live is refusal live.asked)
    heard_good (Calls caller call) = called_good live is caller call (ready_in call)
    heard_good (Comes source frame_id body) = either_live live.stands _ _ is is
    heard_good (Alarms source under header reported) =
        followed_good (can_begin live) (alarmed live source under header reported) (alarmed_good source under header reported)

    quit_good : (cause : Cause) (next : Live) → IsTurning setup next → (phase : State) → Good (quit setup cause next phase)
    quit_good cause next good Looking = over_good live is cause next []
    quit_good cause next good Addressing = over_good live is cause next []
    quit_good cause next good (Ended before) = good
    quit_good cause next good Connecting = released_good live is cause next
    quit_good cause next good Writing = released_good live is cause next
    quit_good cause next good Ending = released_good live is cause next
    quit_good cause next good Waiting = released_good live is cause next
    quit_good cause next good Exchanging = released_good live is cause next

    waited_on : (waited : ℕ) (is_again : Bool) → (waited + 1 == 32000) ≡ is_again → waited < 32000 → (if is_again then 0 else waited + 1) < 32000
    waited_on waited true same few = omega arith
    waited_on waited false other few = omega (arith, few, eqb-false (waited + 1) 32000 other)

    pub later_good : IsTurning setup (later live)
    later_good = record { waited = waited_on live.waited (is_again live) refl is.waited; keyed = is.keyed; plugs = is.plugs }

    gone_good : (next : Live) → IsTurning setup next → (is_request b : Bool) (ending : Option Abort)
        → Good (if b then flowed (exchange_later next) (due next.alarms.sending) (due next.low_alarms.sending) is_request (brought next) ending
        else record { live = next; sent = where_due is_request (requests_of next.device next.asked) })
    gone_good next good is_request true (Some reason) = ended_by 0 (omega arith)
    gone_good next good is_request true None = good
    gone_good next good is_request false ending = good

    ticked_good : Good (ticked setup live)
    ticked_good =
        let next = turn_due setup (is_again live) (later live) in
        either (is_spent live) _ _ (quit_good why.NoProgress (later live) later_good live.phase)
        (gone_good next (due_good (is_again live) (later live) later_good) (is_again live) next.stands (brought next).ending)

    pub event_good : (one : Event) → Good (turn_of setup live one)
    event_good (event.Frame bytes) = heard_good (heard_of setup.plan.controller bytes.items)
    event_good event.Tick = ticked_good
    event_good (event.Give slot subslot value) = is
    event_good (event.Status slot subslot is_good) = is
    event_good (event.Read slot subslot index) = requested_good live is service.Read slot subslot index []
    event_good (event.Write slot subslot index octets) =
        either (nat_lt most_record_octets (length octets.items)) _ _ is (requested_good live is service.Write slot subslot index octets.items)
    event_good event.Stop = quit_good why.Stopped live is live.phase

-- ---- a request after a plug waits only while data is exchanged

abbrev pub InExchange : Option PlugRequest → State → Type 0
InExchange plug phase = (request : PlugRequest) → plug ≡ Some request → phase ≡ Exchanging

-- So it is in a state.
abbrev pub IsPlugging : Live → Type 0
IsPlugging live = InExchange live.access.plug live.phase

none_in : (phase : State) → InExchange None phase
none_in phase request e = absurd (none-some request e)

module _ (setup : Setup) where
  exchanging_so : (phase : State) → is_exchanging phase ≡ true → phase ≡ Exchanging
  exchanging_so Exchanging e = refl
  exchanging_so phase e = absurd (false≢true e)

  begins_in : (live : Live) → can_begin live ≡ true → live.phase ≡ Exchanging
  begins_in live e =
      exchanging_so live.phase
      (and_parts (is_exchanging live.phase) (is_free live.access && is_some (next_waiting live.places))
      (and_parts live.stands (is_exchanging live.phase && (is_free live.access && is_some (next_waiting live.places))) e).1).0

  begun_in : (live : Live) → IsPlugging live → IsPlugging (begun_turn setup live)
  begun_in live is = by_test (can_begin live) refl (next_waiting live.places)
    where
      by_test : (can : Bool) → can_begin live ≡ can → (next : Option Plug) → IsPlugging (if can then begun_by setup next live else live)
      by_test true e (Some plug) = λ request f. begins_in live e
      by_test true e None = is
      by_test false e next = is

  followed_in : (could : Bool) (turn : Turn) → IsPlugging turn.live → IsPlugging (after_turn setup could turn).live
  followed_in could turn is = by_test (could || not (can_begin turn.live))
    where
      by_test : (test : Bool) → IsPlugging (if test then turn
          else record { live = begun_turn setup turn.live; sent = turn.sent ++ plugs_of (begun_turn setup turn.live) }).live
      by_test true = is
      by_test false = begun_in turn.live is

  due_in : (is_due : Bool) (live : Live) → IsPlugging live → IsPlugging (turn_due setup is_due live)
  due_in true live is = begun_in live is
  due_in false live is = is

  end_in : (live : Live) (priority : Priority) (end : ControllerEnd) → IsPlugging live → IsPlugging (with_end live priority end)
  end_in live High end is = is
  end_in live Low end is = is

  keeping_in : (live : Live) (priority : Priority) (alarm : AlarmNotification) (structure : Option ℕ) → IsPlugging live
      → IsPlugging (keeping live priority alarm structure)
  keeping_in live High alarm structure is = is
  keeping_in live Low alarm structure is = is

  taken_in : (live : Live) (report : Report) (as_what : Taken) → IsPlugging live → IsPlugging (taken live report as_what).live
  taken_in live report New is =
      keeping_in (acking live report.priority (ack_of report.notification)) report.priority (kept_alarm report.notification) report.user_structure
      (end_in live report.priority _ is)
  taken_in live report Again is = is
  taken_in live report Refused is = is

  not_seeking : (phase : State) → (phase ≡ Looking) ⊎ (phase ≡ Addressing) → phase ≡ Exchanging → ⊥
  not_seeking phase (inl looking) e = absurd cc
  not_seeking phase (inr addressing) e = absurd cc

  not_connecting : (phase : State) → phase ≡ Connecting → phase ≡ Exchanging → ⊥
  not_connecting phase is e = absurd cc

  not_writing : (phase : State) → phase ≡ Writing → phase ≡ Exchanging → ⊥
  not_writing phase is e = absurd cc

  not_ending : (phase : State) → phase ≡ Ending → phase ≡ Exchanging → ⊥
  not_ending phase is e = absurd cc

  module _ (live : Live) (is : IsPlugging live) (steady : IsSteady setup.plan live) (came : Came) where
    -- In another state no such request waits.
    never : (phase : State) → (live.phase ≡ Exchanging → ⊥) → InExchange live.access.plug phase
    never phase other request e = absurd (other (is request e))

    in_phase_of : (request : Request) → live.asked ≡ Some request → PhaseOf request live.phase
    in_phase_of request stood = asked_in setup.plan live.phase live.asked request steady.asked stood

    kind_in : (kind : Kind) → IsKind setup live came kind → IsPlugging (turn_by setup live kind).live
    kind_in kinds.Rests holds = is
    kind_in (kinds.Connects source) holds = never Connecting (not_seeking live.phase holds.seeking)
    kind_in (kinds.Addresses source) holds = never Addressing (not_seeking live.phase holds.0.seeking)
    kind_in (kinds.Ends cause refusal refused units) holds = none_in (Ended cause)
    kind_in (kinds.Releases cause refusal refused units) holds = none_in (Ended cause)
    kind_in (kinds.Relates places chosen) holds =
        never (phase_for (writing_from setup.plan 0)) (not_connecting live.phase (in_phase_of asks.Connect holds.0.stood))
    kind_in (kinds.Writes number tries) holds =
        never (phase_for (behind_write setup.plan number tries))
        (not_writing live.phase (written_in number tries live.phase (in_phase_of (write_after number tries) holds.0.stood)))
    kind_in (kinds.Skips number tries refused status) holds =
        never (phase_for (behind_write setup.plan number tries))
        (not_writing live.phase (written_in number tries live.phase (in_phase_of (write_after number tries) holds.stood)))
    kind_in (kinds.Tries next status) holds = is
    kind_in (kinds.Waits tries) holds = never Waiting (not_ending live.phase (ended_in tries live.phase (in_phase_of (end_after tries) holds.stood)))
    kind_in kinds.Forgets holds = is
    kind_in (kinds.Begins caller call block) holds = λ request e. refl
    kind_in (kinds.Repeats caller call block) holds = is
    kind_in (kinds.Follows source frame_id body) holds = is
    kind_in (kinds.Takes number report) holds =
        followed_in (can_begin live) (taken (behind_data live report.priority number) report (taken_as (end_of live report.priority).seen number))
        (taken_in (behind_data live report.priority number) report (taken_as (end_of live report.priority).seen number)
        (end_in live report.priority (with_data (end_of live report.priority) number) is))
    kind_in (kinds.IsAcked priority number) holds = end_in live priority (with_ack (end_of live priority) number) is
    kind_in (kinds.Gives slot subslot value) holds = is
    kind_in (kinds.GivesStatus slot subslot is_good) holds = is
    kind_in (kinds.Asks request octets) holds = is
    kind_in (kinds.IsReplied refusal access) holds =
        followed_in (can_begin live) (stays (record live { refusal = refusal; access = access }))
        (subst (λ (plug : Option PlugRequest). InExchange plug live.phase) (sym holds.6) (none_in live.phase))
    kind_in (kinds.IsPlugAnswered refusal refused waited places access) holds =
        followed_in (can_begin live)
        (asks_next (record live { refusal = refusal; refused_record = refused; waited = waited; places = places; access = access }))
        (λ request e. is holds.4 holds.5)
    kind_in (kinds.IsPlugReadied caller call block) holds =
        followed_in (can_begin live)
        (record { live = plug_readied live block.alarm_sequence_number; sent = Agrees caller (plug_answer call block) ∷ [] })
        (λ request e. holds.0)
    kind_in kinds.Flows holds = due_in (is_again live) (later live) is
    kind_in (kinds.Breaks reason) holds = none_in (Ended (cause_of reason))
    kind_in kinds.Idles holds = is

-- ---- any events

pub setup_on : (controller : Controlling) (event : Event) → (step_of controller event).controller.setup ≡ controller.setup
unfolding step_of
setup_on controller event = refl

pub setup_all : (events : List Event) (controller : Controlling) → (behind_all events controller).setup ≡ controller.setup
setup_all [] controller = refl
setup_all (event ∷ events) controller = setup_all events (step_of controller event).controller ∙ setup_on controller event

-- What holds of a controller after any events.
abbrev pub Turns : Controlling → Type 0
Turns controller = IsTurning controller.setup controller.live × IsPlugging controller.live

module _ (laws : ControllerLaws) where
  turns_on : (controller : Controlling) (event : Event) → IsSteady controller.setup.plan controller.live → Turns controller
      → Turns (step_of controller event).controller
  unfolding step_of
  turns_on controller event steady turns =
      let turn = laws.kinds controller.setup controller.live event in (
        event_good controller.setup controller.live turns.0 event,
        subst (λ (t : Turn). IsPlugging t.live) (sym turn.is)
            (kind_in controller.setup controller.live turns.1 steady (came_by controller.setup event) turn.kind turn.holds),
      )

  turns_all : (events : List Event) (controller : Controlling) → IsReached controller → Turns controller → Turns (behind_all events controller)
  turns_all [] controller reached turns = turns
  turns_all (event ∷ events) controller reached turns =
      turns_all events (step_of controller event).controller (reached_on controller event reached)
      (turns_on controller event (reached_steady laws controller reached) turns)

  pub reached_turns : (controller : Controlling) → IsReached controller → Turns controller
  reached_turns controller r =
      let fresh = fresh_with r.plan r.ar r.activity r.options in
      subst Turns (sym r.made)
      (turns_all r.events fresh (record { plan = r.plan; ar = r.ar; activity = r.activity; options = r.options; events = []; made = refl }) (
        record { waited = omega arith; keyed = λ e. absurd (false≢true e); plugs = tt },
        none_in Looking,
      ))
