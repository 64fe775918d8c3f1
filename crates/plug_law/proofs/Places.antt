-- Each place that is plugged, and each request after a plug, belongs to an alarm that the controller accepted.
use Rattle.std.proofs.Common.{◌≡◌, ◌⊎◌, inl, inr, ◌+◌, ◌&&◌, ◌||◌, ◌++◌, ℕ, Bool, true, false, not, cond, List, [], ◌∷◌, length, map, Option, Some, None, Result, Ok, Err, refl, sym, ap, subst, ◌∙◌}
use Rattle.std.specs.Prelude.{◌==◌, if◌then◌else◌, is_some, nat_lt}
use Rattle.std.specs.List.{AllByRecursion, filter}
use Rattle.std.specs.Option.{option_map}
use Rattle.std.proofs.lemmas.Bool.{and_parts, eqb-true}
use Rattle.pn_values.specs.declared.mac.Mac.{Mac}
use Rattle.frame_codec.specs.declared.udp.Caller.{Caller}
use Rattle.dcp_core.specs.Response.{Answered}
use Rattle.dcp_core.specs.Answered.{is_agreed}
use Rattle.rpc_core.specs.declared.response.Status.{Status as Code}
use Rattle.rpc_core.specs.Call.{Asked as Call}
use Rattle.rpc_core.specs.Response.{Answered as Response, is_done}
use Rattle.connect_blocks.specs.declared.control.ControlBlock.{ControlBlock}
use Rattle.connect_blocks.specs.declared.plug_control.PlugControlBlock.{PlugControlBlock}
use Rattle.block_codec.specs.Block.{block_of}
use Rattle.record_blocks.specs.declared.alarm_notification.AlarmNotification.{AlarmNotification}
use Rattle.pn_alarms.specs.declared.abort.Abort.{Abort}
use Rattle.pn_alarms.specs.declared.message.Notice.TheVariants as notice
use Rattle.pn_alarms.specs.declared.pdu.Header.{Header}
use Rattle.pn_alarms.specs.declared.receiver.Taken.{Taken}
use Rattle.pn_alarms.specs.declared.receiver.Taken.TheVariants.{New, Again, Refused}
use Rattle.pn_alarms.specs.Ends.{ControllerEnd}
use Rattle.pn_alarms.specs.Receiver.{taken_as}
use Rattle.pn_alarms.specs.Sending.{due}
use Rattle.diagnosis.specs.declared.reports.priority.Priority.{Priority}
use Rattle.diagnosis.specs.declared.reports.priority.Priority.TheVariants.{High, Low}
use Rattle.diagnosis.specs.declared.reports.report.Report.{Report}
use Rattle.diagnosis.specs.reports.Message.{ToController}
use Rattle.cyclic_data.specs.exchange.Received.{behind_frame}
use Rattle.connects.specs.declared.answers.connect.Found.{Found}
use Rattle.connects.specs.answers.Connect.{Chosen, chosen_of, found_in, is_whole, nothing}
use Rattle.plan_places.specs.declared.report.Plug.{Plug}
use Rattle.pn_values.specs.declared.real.RealModule.{RealModule}
use Rattle.pn_values.specs.declared.real.RealSubmodule.{RealSubmodule}
use Rattle.module_diff.specs.Changes.{covers}
use Rattle.plan_places.specs.declared.report.PlaceReport.{PlaceReport}
use Rattle.plan_places.specs.declared.report.PlaceReport.TheVariants as reports
use Rattle.plan_places.specs.declared.place.Place.{Place}
use Rattle.plan_places.specs.declared.place.PlaceState.{PlaceState}
use Rattle.plan_places.specs.declared.place.PlaceState.TheVariants as known
use Rattle.plan_places.specs.Listed.{is_listed_in}
use Rattle.plan_places.specs.Places.{Told, after_report, first_place, first_waiting, has_turn_at, in_state, is_at, is_moved, is_told, made_ready, moved, next_waiting, opened, or_next, places_of, plug_at, plugged_number, set_at, told_after, told_by, with_state}
use Rattle.plan_places.specs.Places.{readied as places_readied}
use Rattle.plan_places.specs.Reports.{place_report}
use Rattle.controller_messages.specs.declared.plug_request.PlugRequest.{PlugRequest}
use Rattle.controller_messages.specs.declared.plug_request.PlugStep.{PlugStep}
use Rattle.controller_messages.specs.declared.plug_request.PlugStep.TheVariants.{Record, PrmEnd}
use Rattle.controller_messages.specs.declared.record_request.RecordRequest.{RecordRequest}
use Rattle.controller_messages.specs.declared.record_request.RecordService.{RecordService}
use Rattle.controller_messages.specs.declared.record_request.RecordService.TheVariants as service
use Rattle.controller_messages.specs.declared.refusal.Refusal.{Refusal}
use Rattle.controller_messages.specs.declared.setup.Setup.{Setup}
use Rattle.controller_messages.specs.declared.request.Request.{Request}
use Rattle.controller_messages.specs.declared.request.Request.TheVariants as asks
use Rattle.controller_messages.specs.Access.{Accessing, is_free, is_rejected, is_reply, record_in, unplugged}
use Rattle.controller_messages.specs.Heard.{Heard, Nothing, Answers, Responds, Refuses, Calls, Alarms, heard_of}
use Rattle.controller_messages.specs.Heard.{Cyclic as Comes}
use Rattle.controller_messages.specs.PlugRequests.{is_plug_answer, is_plug_ready, plug_ready_in}
use Rattle.controller_messages.specs.RecordRequests.{most_record_octets}
use Rattle.controller_messages.specs.Requests.{first_of, writing_from, writing_after}
use Rattle.controller_messages.specs.Sent.{Sent}
use Rattle.controller_core.specs.declared.start_up.outcomes.Outcomes.{Outcomes}
use Rattle.controller_core.specs.declared.start_up.outcomes.Outcomes.TheVariants.{AllWritten, Unreadable}
use Rattle.controller_core.specs.declared.start_up.outcomes.Outcomes.TheVariants.{Refused as Denied}
use Rattle.controller_core.specs.declared.stored.event.Event.{Event}
use Rattle.controller_core.specs.declared.stored.event.Event.TheVariants as event
use Rattle.controller_core.specs.declared.stored.state.Cause.{Cause}
use Rattle.controller_core.specs.declared.stored.state.Cause.TheVariants as why
use Rattle.controller_core.specs.declared.stored.state.State.{State}
use Rattle.controller_core.specs.declared.stored.state.State.TheVariants.{Looking, Addressing, Connecting, Writing, Ending, Waiting, Exchanging, Ended}
use Rattle.controller_core.specs.start_up.Answers.{is_addressed, is_answer, is_found, is_held, is_ready, is_refused, is_right, is_set_answer, ready_in, is_tried}
use Rattle.controller_core.specs.start_up.Outcomes.{outcomes_of}
use Rattle.controller_core.specs.stored.Alarms.{ack_of, is_alarm, kept_alarm}
use Rattle.controller_core.specs.stored.Cause.{cause_of}
use Rattle.controller_core.specs.stored.State.{Live}
use Rattle.controller_core.specs.Machine.{Turn, acked_under, acking, diagnosing, confirming, plug_readied, state_of_step, after_turn, after_write, alarmed, answered, begun_by, begun_turn, behind_data, beside, brings, brought, called, can_begin, can_request, come, connected, decided, done, end_of, exchange_later, failed, flowed, gone_on, granted, is_again, is_end_of, is_plug_awaited, is_spent, keeping, asks_next, later, noted, noticed, over, past_record, placed, plug_asked, plug_called, plug_finished, plug_passed, plug_passed_by, plug_refused, plug_rejected, plug_replied, plug_responded, plugs_of, quit, readied, refused, refused_beside, refused_by, refused_place, rejected, related_by, released, replied, requested, requests_of, responded, standing, stays, step_from, taken, ticked, turn_due, turn_of, turned, undone, where_due, with_end, writing, refused_end, refused_write, trying}
use Rattle.plug_law.specs.Plugged.{accepted_by, accepted_in, accepted_with}

-- ---- places

module _ (Was : ℕ → ℕ → ℕ → Type 0) where
  -- an alarm of this number said that the submodule was plugged
  abbrev pub FineState : ℕ → ℕ → PlaceState → Type 0
  FineState slot subslot (known.Plugged number) = Was slot subslot number
  FineState slot subslot (known.Writing number) = Was slot subslot number
  FineState slot subslot (known.Ending number) = Was slot subslot number
  FineState slot subslot (known.Ready number) = Was slot subslot number
  FineState slot subslot state = Unit {0}

  abbrev pub Fine : Place → Type 0
  Fine place = FineState place.slot place.subslot place.state

  abbrev pub FinePlaces : List Place → Type 0
  FinePlaces places = AllByRecursion Fine places

  abbrev pub FineRequest : Option PlugRequest → Type 0
  FineRequest (Some request) = Was request.slot request.subslot request.number
  FineRequest None = Unit {0}

  -- so it is of a controller's places, and of its request
  abbrev pub Known : Live → Type 0
  Known live = FinePlaces live.places.places × FineRequest live.access.plug

  each_behind : (some more : List Place) → FinePlaces some → FinePlaces more → FinePlaces (some ++ more)
  each_behind [] more all others = others
  each_behind (one ∷ some) more all others = (all.0, each_behind some more all.1 others)

  each_map : (f : Place → Place) → ((place : Place) → Fine place → Fine (f place)) → (places : List Place) → FinePlaces places → FinePlaces (map f places)
  each_map f so [] all = tt
  each_map f so (one ∷ places) all = (so one all.0, each_map f so places all.1)

  each_filter : (test : Place → Bool) (places : List Place) → FinePlaces places → FinePlaces (filter test places)
  each_filter test [] all = tt
  each_filter test (one ∷ places) all = by_test (each_filter test places all.1) (test one)
    where
      by_test : FinePlaces (filter test places) → (b : Bool) → FinePlaces (if b then one ∷ filter test places else filter test places)
      by_test more true = (all.0, more)
      by_test more false = more

  -- the state of the place of a submodule
  state_at_key : (slot subslot : ℕ) (state : PlaceState) (place : Place) → is_at slot subslot place ≡ true → FineState slot subslot state → FineState place.slot place.subslot state
  state_at_key slot subslot state place is fine =
      let both = and_parts (place.slot == slot) (place.subslot == subslot) is in
      subst (λ (n : ℕ). FineState n place.subslot state) (sym (eqb-true place.slot slot both.0))
      (subst (λ (n : ℕ). FineState slot n state) (sym (eqb-true place.subslot subslot both.1)) fine)

  fine_set : (slot subslot : ℕ) (state : PlaceState) → FineState slot subslot state → (place : Place) → Fine place → Fine (set_at slot subslot state place)
  fine_set slot subslot state now place fine = by_test (is_at slot subslot place) refl
    where
      by_test : (b : Bool) → is_at slot subslot place ≡ b → Fine (if b then in_state state place else place)
      by_test true is = state_at_key slot subslot state place is now
      by_test false is = fine

  fine_with : (slot subslot : ℕ) (state : PlaceState) (told : Told) → FineState slot subslot state → FinePlaces told.places → FinePlaces (with_state slot subslot state told).places
  fine_with slot subslot state told now all = each_map (set_at slot subslot state) (fine_set slot subslot state now) told.places all

  fine_step : (step : PlugStep) (slot subslot number : ℕ) → Was slot subslot number → FineState slot subslot (state_of_step step number)
  fine_step (Record which) slot subslot number was = was
  fine_step PrmEnd slot subslot number was = was

  -- the next place that waits
  same_plug : (one other : Plug) → Some one ≡ Some other → one ≡ other
  same_plug one other e = cc

  waiting_was : (places : List Place) (plug : Plug) → first_waiting places ≡ Some plug → FinePlaces places → Was plug.slot plug.subslot plug.number
  waiting_was [] plug e all = absurd cc
  waiting_was (place ∷ places) plug e all = by_state (λ found. waiting_was places plug found all.1) place.state all.0 e
    where
      by_number : (first_waiting places ≡ Some plug → Was plug.slot plug.subslot plug.number) → (number : Option ℕ) → ((n : ℕ) → number ≡ Some n → Was place.slot place.subslot n)
          → or_next (option_map (plug_at place) number) (first_waiting places) ≡ Some plug → Was plug.slot plug.subslot plug.number
      by_number more (Some number) fine found = subst (λ (p : Plug). Was p.slot p.subslot p.number) (same_plug (plug_at place number) plug found) (fine number refl)
      by_number more None fine found = more found

      some_number : (n m : ℕ) → Some n ≡ Some m → n ≡ m
      some_number n m e = cc

      none_number : {P : Type 0} (m : ℕ) → None ≡ Some m → P
      none_number m e = absurd cc

      by_state : (first_waiting places ≡ Some plug → Was plug.slot plug.subslot plug.number) → (state : PlaceState) → FineState place.slot place.subslot state
          → or_next (option_map (plug_at place) (plugged_number state)) (first_waiting places) ≡ Some plug → Was plug.slot plug.subslot plug.number
      by_state more (known.Plugged number) fine found = by_number more (Some number) (λ m is. subst (λ (n : ℕ). Was place.slot place.subslot n) (some_number number m is) fine) found
      by_state more known.There fine found = by_number more None (λ m is. none_number m is) found
      by_state more known.Differs fine found = by_number more None (λ m is. none_number m is) found
      by_state more known.Gone fine found = by_number more None (λ m is. none_number m is) found
      by_state more known.Wrong fine found = by_number more None (λ m is. none_number m is) found
      by_state more (known.Writing number) fine found = by_number more None (λ m is. none_number m is) found
      by_state more (known.Ending number) fine found = by_number more None (λ m is. none_number m is) found
      by_state more (known.Ready number) fine found = by_number more None (λ m is. none_number m is) found
      by_state more known.Refused fine found = by_number more None (λ m is. none_number m is) found

  next_was : (told : Told) (plug : Plug) → next_waiting told ≡ Some plug → FinePlaces told.places → Was plug.slot plug.subslot plug.number
  next_was told plug e all = by_test told.has_turns e
    where
      by_test : (b : Bool) → (if b then first_waiting told.places else None) ≡ Some plug → Was plug.slot plug.subslot plug.number
      by_test true found = waiting_was told.places plug found all
      by_test false found = absurd cc

  -- a report
  abbrev pub IsPlugIn : PlaceReport → Type 0
  IsPlugIn (reports.Plugged plug) = Was plug.slot plug.subslot plug.number
  IsPlugIn report = Unit {0}

  fine_report : (report : PlaceReport) → IsPlugIn report → (place : Place) → Fine place → Fine (after_report report place)
  fine_report (reports.Pulled affected) was place fine = by_test (covers affected place.slot place.subslot)
    where
      by_test : (b : Bool) → Fine (if b then in_state known.Gone place else place)
      by_test true = tt
      by_test false = fine
  fine_report (reports.PluggedWrong plug) was place fine = by_test (is_at plug.slot plug.subslot place)
    where
      by_test : (b : Bool) → Fine (if b then in_state known.Wrong place else place)
      by_test true = tt
      by_test false = fine
  fine_report (reports.Plugged plug) was place fine = by_test (is_at plug.slot plug.subslot place) refl
    where
      by_test : (b : Bool) → is_at plug.slot plug.subslot place ≡ b → Fine (if b then in_state (known.Plugged plug.number) place else place)
      by_test true is = state_at_key plug.slot plug.subslot (known.Plugged plug.number) place is was
      by_test false is = fine

  abbrev pub IsPlugOf : Option PlaceReport → Type 0
  IsPlugOf (Some report) = IsPlugIn report
  IsPlugOf None = Unit {0}

  -- an alarm that is accepted says where something was plugged
  abbrev pub IsPlugIf : Option Report → Type 0
  IsPlugIf (Some report) = IsPlugOf (place_report report)
  IsPlugIf None = Unit {0}

  fine_told : (found : Option PlaceReport) (told : Told) → IsPlugOf found → FinePlaces told.places → FinePlaces (told_by found told).places
  fine_told (Some report) told was all =
      each_behind (moved false report told.places) (moved true report told.places)
      (each_map (after_report report) (fine_report report was) (filter (is_moved false report) told.places) (each_filter (is_moved false report) told.places all))
      (each_map (after_report report) (fine_report report was) (filter (is_moved true report) told.places) (each_filter (is_moved true report) told.places all))
  fine_told None told was all = all

  -- ApplicationReady
  told_was : (slot subslot number : ℕ) (state : PlaceState) → is_told number state ≡ true → FineState slot subslot state → Was slot subslot number
  told_was slot subslot number (known.Ending of) is fine = subst (λ (n : ℕ). Was slot subslot n) (eqb-true of number is) fine
  told_was slot subslot number (known.Ready of) is fine = subst (λ (n : ℕ). Was slot subslot n) (eqb-true of number is) fine
  told_was slot subslot number known.There is fine = absurd cc
  told_was slot subslot number known.Differs is fine = absurd cc
  told_was slot subslot number known.Gone is fine = absurd cc
  told_was slot subslot number known.Wrong is fine = absurd cc
  told_was slot subslot number (known.Plugged of) is fine = absurd cc
  told_was slot subslot number (known.Writing of) is fine = absurd cc
  told_was slot subslot number known.Refused is fine = absurd cc

  fine_ready : (number : ℕ) (place : Place) → Fine place → Fine (made_ready number place)
  fine_ready number place fine = by_test (is_told number place.state) refl
    where
      by_test : (b : Bool) → is_told number place.state ≡ b → Fine (if b then in_state (known.Ready number) place else place)
      by_test true is = told_was place.slot place.subslot number place.state is fine
      by_test false is = fine

  -- the response to the Connect
  fine_first : (most : ℕ) (blocks : List ℕ) (slot : ℕ) (parts : List RealSubmodule) → FinePlaces (map (first_place most blocks slot) parts)
  fine_first most blocks slot [] = tt
  fine_first most blocks slot (part ∷ parts) = (by_test (is_listed_in most blocks slot part.subslot), fine_first most blocks slot parts)
    where
      by_test : (b : Bool) → FineState slot part.subslot (if b then known.Differs else known.There)
      by_test true = tt
      by_test false = tt

  fine_opened : (most : ℕ) (blocks : List ℕ) (modules : List RealModule) → FinePlaces (places_of most blocks modules)
  fine_opened most blocks [] = tt
  fine_opened most blocks (entry ∷ modules) =
      each_behind (map (first_place most blocks entry.slot) entry.submodules.items) (places_of most blocks modules) (fine_first most blocks entry.slot entry.submodules.items)
      (fine_opened most blocks modules)

  -- ---- turns

  module _ (setup : Setup) (live : Live) (k : Known live) where
    record Goes (turn : Turn) : Type 0 where
      so : Known turn.live

    keeps : (turn : Turn) → Known turn.live → Goes turn
    keeps turn known_so = record { so = known_so }

    rests : Goes (stays live)
    rests = keeps (stays live) k

    ends : (cause : Cause) (next : Live) (sent : List Sent) → Goes (record { live = over cause next; sent = sent })
    ends cause next sent = record { so = (tt, tt) }

    releases : (cause : Cause) (next : Live) → Goes (released setup cause next)
    releases cause next = record { so = (tt, tt) }

    either : (is : Bool) {x y : Turn} → Goes x → Goes y → Goes (if is then x else y)
    either true one other = one
    either false one other = other

    placed_so : (blocks : List ℕ) → Known (placed setup blocks live)
    placed_so blocks = (fine_opened 400 blocks setup.plan.real.modules.items, k.1)

    answered_goes : (source : Mac) (answer : Answered) (phase : State) → Goes (answered setup live source answer phase)
    answered_goes source answer Looking =
        either (is_found setup.plan answer)
        (either (is_right setup.plan answer) (either (is_addressed setup.plan answer) (keeps _ k) (keeps _ k)) (ends why.WrongDevice live []))
        rests
    answered_goes source answer Addressing =
        either (is_set_answer answer) (either (is_agreed answer) (keeps _ k) (ends why.Refused live [])) rests
    answered_goes source answer phase = rests

    related_goes : (blocks : List ℕ) (found : Option Chosen) → Goes (related_by setup (placed setup blocks live) found)
    related_goes blocks (Some chosen) = keeps (writing setup (writing_from setup.plan 0) (standing setup (placed setup blocks live) chosen)) (placed_so blocks)
    related_goes blocks None = keeps (stays (placed setup blocks live)) (placed_so blocks)

    connected_goes : (blocks : List ℕ) (found : Option Found) → Goes (connected setup live blocks found)
    connected_goes blocks (Some found) = either (is_whole found) (either found.differs (releases why.ModuleDiff live) (related_goes blocks (chosen_of found))) rests
    connected_goes blocks None = rests

    passed_goes : (next : Request) (refused_number : ℕ) (status : Code) → Goes (past_record setup next (noted status refused_number live))
    passed_goes next refused_number status =
        either setup.plan.continue_on_refused_record (keeps _ k)
        (either setup.plan.release_on_refused_record (releases why.Refused (noted status refused_number live)) (ends why.Refused (noted status refused_number live) []))

    outcomes_go : (number : ℕ) (next : Request) (outcomes : Outcomes) → Goes (after_write setup live number next outcomes)
    outcomes_go number next AllWritten = keeps _ k
    outcomes_go number next (Denied place status) = passed_goes next (first_of setup.plan number + place) status
    outcomes_go number next Unreadable = rests

    done_goes : (blocks : List ℕ) (request : Request) → Goes (done setup live blocks request)
    done_goes blocks asks.Identify = rests
    done_goes blocks asks.Address = rests
    done_goes blocks asks.Connect = connected_goes blocks (found_in 400 blocks nothing)
    done_goes blocks (asks.Write number) = outcomes_go number (writing_from setup.plan (number + 1)) (outcomes_of setup.plan number blocks)
    done_goes blocks (asks.WriteAfter number tries) = outcomes_go number (writing_after setup.plan (number + 1) tries) (outcomes_of setup.plan number blocks)
    done_goes blocks asks.PrmEnd = keeps _ k
    done_goes blocks (asks.PrmEndAfter tries) = keeps _ k
    done_goes blocks (asks.Release sequence) = keeps _ k

    refused_write_goes : (status : Code) (number tries : ℕ) (next : Request) → Goes (refused_write setup live status number tries next)
    refused_write_goes status number tries next = either (is_tried setup.plan status tries) (keeps _ k) (passed_goes next (first_of setup.plan number) status)

    refused_end_goes : (status : Code) (tries : ℕ) → Goes (refused_end setup live status tries)
    refused_end_goes status tries = either (is_tried setup.plan status tries) (keeps _ k) (ends why.Refused (record live { refusal = Some status }) [])

    undone_goes : (status : Code) (request : Request) → Goes (undone setup live status request)
    undone_goes status (asks.Write number) = refused_write_goes status number 0 (writing_from setup.plan (number + 1))
    undone_goes status (asks.WriteAfter number tries) = refused_write_goes status number tries (writing_after setup.plan (number + 1) tries)
    undone_goes status asks.PrmEnd = refused_end_goes status 0
    undone_goes status (asks.PrmEndAfter tries) = refused_end_goes status tries
    undone_goes status asks.Connect =
        let next : Live = record live { refusal = Some status } in either (is_held setup.plan status) (releases why.Refused next) (ends why.Refused next [])
    undone_goes status request = ends why.Refused (record live { refusal = Some status }) []

    decided_goes : (response : Response) (request : Request) → Goes (decided setup live response request)
    decided_goes response (asks.Release sequence) = keeps _ k
    decided_goes response request = either (is_done response.status) (done_goes response.blocks request) (undone_goes response.status request)

    -- requests of the application
    known_if : (is : Bool) (x y : Live) → Known x → Known y → Known (if is then x else y)
    known_if true x y one other = one
    known_if false x y one other = other

    brought_known : (request : RecordRequest) (octets : Option (List ℕ)) → Known (brings request octets live)
    brought_known request (Some octets) = k
    brought_known request None = k

    granted_known : (request : RecordRequest) (blocks : List ℕ) (kind : RecordService) → Known (granted request blocks kind live)
    granted_known request blocks service.Read = brought_known request (record_in (block_of blocks))
    granted_known request blocks service.Write = k

    replied_known : (response : Response) (waiting : Option RecordRequest) → Known (replied setup live response waiting)
    replied_known response None = k
    replied_known response (Some request) =
        known_if (is_reply setup request response.header) _ _
        (known_if (is_done response.status) _ _ (granted_known request response.blocks request.service) k) k

    rejected_known : (refusal : Refusal) (waiting : Option RecordRequest) → Known (rejected setup live refusal waiting)
    rejected_known refusal None = k
    rejected_known refusal (Some request) = known_if (is_rejected setup request refusal) _ _ k k

    refused_by_goes : (refusal : Refusal) (request : Request) → Goes (refused_by live refusal request)
    refused_by_goes refusal (asks.Release sequence) = keeps _ k
    refused_by_goes refusal request = ends why.Refused (record live { refusal = Some refusal.status }) []

    readied_goes : (caller : Caller) (call : Call) (block : ControlBlock) (phase : State) → Goes (readied live caller call block phase)
    readied_goes caller call block Ending = keeps _ k
    readied_goes caller call block Waiting = keeps _ k
    readied_goes caller call block Exchanging = keeps _ k
    readied_goes caller call block phase = rests

    -- after a plug
    asked_known : (slot subslot number : ℕ) (step : PlugStep) (next : Live) → Was slot subslot number → FinePlaces next.places.places → Known (plug_asked setup slot subslot number step next)
    asked_known slot subslot number step next was all = (fine_with slot subslot (state_of_step step number) next.places (fine_step step slot subslot number was) all, was)

    begun_known : (next : Live) → Known next → Known (begun_turn setup next)
    begun_known next so = by_tests (can_begin next) (next_waiting next.places) refl
      where
        by_tests : (b : Bool) (plug : Option Plug) → next_waiting next.places ≡ plug → Known (if b then begun_by setup plug next else next)
        by_tests false plug is = so
        by_tests true None is = so
        by_tests true (Some plug) is =
            asked_known plug.slot plug.subslot plug.number (step_from setup.plan plug.slot plug.subslot 0) next (next_was next.places plug is so.0) so.0

    after_known : (could : Bool) (turn : Turn) → Goes turn → Goes (after_turn setup could turn)
    after_known could turn goes = either (could || not (can_begin turn.live)) goes (record { so = begun_known turn.live goes.so })

    refused_known : (request : PlugRequest) (next : Live) → Known next → Known (refused_place request next)
    refused_known request next so =
        known_if (has_turn_at request.slot request.subslot next.places) _ next
        (fine_with request.slot request.subslot known.Refused next.places tt so.0, so.1) so

    passed_known : (request : PlugRequest) (next : Live) → FinePlaces next.places.places → FineRequest next.access.plug → Was request.slot request.subslot request.number → (step : PlugStep)
        → Known (plug_passed_by setup next request step)
    passed_known request next all asked was (Record number) =
        known_if (has_turn_at request.slot request.subslot next.places) _ next
        (asked_known request.slot request.subslot request.number (step_from setup.plan request.slot request.subslot (number + 1)) next was all) (all, asked)
    passed_known request next all asked was PrmEnd = (all, asked)

    denied_known : (status : Code) (request : PlugRequest) → Was request.slot request.subslot request.number → (step : PlugStep)
        → Known (plug_refused setup (plug_finished live) status request step)
    denied_known status request was (Record number) =
        known_if setup.plan.continue_on_refused_record _ _
        (passed_known request (noted status number (plug_finished live)) k.0 tt was request.step)
        (refused_known request (noted status number (plug_finished live)) (k.0, tt))
    denied_known status request was PrmEnd = refused_known request (record (plug_finished live) { refusal = Some status }) (k.0, tt)

    responded_known : (response : Response) (request : PlugRequest) → Was request.slot request.subslot request.number → Goes (plug_responded setup live response request)
    responded_known response request was =
        either (is_plug_answer setup request response.header.activity response.header.sequence)
        (keeps _ (known_if (is_done response.status) _ _ (passed_known request (plug_finished live) k.0 tt was request.step) (denied_known response.status request was request.step))) rests

    beside_known : (response : Response) (plug : Option PlugRequest) → FineRequest plug → Goes (beside setup live response plug)
    beside_known response (Some request) was = responded_known response request was
    beside_known response None was = keeps _ (replied_known response live.access.waiting)

    responds_goes : (response : Response) (asked : Option Request) → Goes (responded setup live response asked)
    responds_goes response (Some request) = either (is_answer setup request response.header) (decided_goes response request) rests
    responds_goes response None = beside_known response live.access.plug k.1

    refuses_known : (refusal : Refusal) (plug : Option PlugRequest) → Known (refused_beside setup live refusal plug)
    refuses_known refusal (Some request) =
        known_if (is_plug_answer setup request refusal.activity refusal.sequence) _ live (refused_known request (record (plug_finished live) { refusal = Some refusal.status }) (k.0, tt)) k
    refuses_known refusal None = rejected_known refusal live.access.waiting

    refuses_goes : (refusal : Refusal) (asked : Option Request) → Goes (refused setup live refusal asked)
    refuses_goes refusal (Some request) = either (is_refused setup request refusal) (refused_by_goes refusal request) rests
    refuses_goes refusal None = keeps _ (refuses_known refusal live.access.plug)

    there_goes : (caller : Caller) (call : Call) (block : Option PlugControlBlock) → Goes (plug_called setup live caller call block)
    there_goes caller call (Some block) =
        either (is_plug_ready setup block && is_plug_awaited live block.alarm_sequence_number)
        (record { so = (each_map (made_ready block.alarm_sequence_number) (fine_ready block.alarm_sequence_number) live.places.places k.0, by_test (is_end_of block.alarm_sequence_number live.access.plug)) }) rests
      where
        by_test : (b : Bool) → FineRequest (if b then unplugged live.access else live.access).plug
        by_test true = tt
        by_test false = k.1
    there_goes caller call None = rests

    called_goes : (caller : Caller) (call : Call) (block : Option ControlBlock) → Goes (called setup live caller call block)
    called_goes caller call (Some block) = either (is_ready setup block) (readied_goes caller call block live.phase) rests
    called_goes caller call None = after_known (can_begin live) (plug_called setup live caller call (plug_ready_in call)) (there_goes caller call (plug_ready_in call))

    -- alarms
    end_known : (before : Live) (priority : Priority) (end : ControllerEnd) → Known before → Known (with_end before priority end)
    end_known before High end so = so
    end_known before Low end so = so

    kept_known : (before : Live) (priority : Priority) (alarm : AlarmNotification) (structure : Option ℕ) → Known before → Known (keeping before priority alarm structure)
    kept_known before High alarm structure so = so
    kept_known before Low alarm structure so = so

    taken_known : (before : Live) (report : Report) (as_what : Taken) → IsPlugIf (accepted_by as_what report) → Known before → Known (taken before report as_what).live
    taken_known before report New was so =
        let acked = acking before report.priority (ack_of report.notification) in
        let kept = keeping acked report.priority (kept_alarm report.notification) report.user_structure in
        let now = kept_known acked report.priority (kept_alarm report.notification) report.user_structure (end_known before report.priority _ so) in
        (fine_told (place_report report) kept.places was now.0, now.1)
    taken_known before report Again was so = so
    taken_known before report Refused was so = so

    alarmed_goes : (source : Mac) (under : Priority) (header : Header) (reported : ToController) → IsPlugIf (accepted_in live (Alarms source under header reported)) → Goes (alarmed live source under header reported)
    alarmed_goes source under header (notice.Data number report) was = by_test (live.stands && is_alarm live.cyclic.route source header) was
      where
        by_test : (b : Bool) → IsPlugIf (if b then accepted_by (taken_as (end_of live report.priority).seen number) report else None)
            → Goes (if b then noticed live under (notice.Data number report) else stays live)
        by_test true was =
            record { so = taken_known (behind_data live report.priority number) report (taken_as (end_of live report.priority).seen number) was (end_known live report.priority _ k) }
        by_test false was = rests
    alarmed_goes source under header (notice.Ack number) was = either (live.stands && is_alarm live.cyclic.route source header) (keeps _ (end_known live (acked_under live under) _ k)) rests
    alarmed_goes source under header notice.Nack was = either (live.stands && is_alarm live.cyclic.route source header) rests rests
    alarmed_goes source under header (notice.Abort status) was = either (live.stands && is_alarm live.cyclic.route source header) (ends why.Aborted live []) rests

    come_known : (source : Mac) (frame_id : ℕ) (body : List ℕ) → Known (come live source frame_id body)
    come_known source frame_id body = known_if live.stands _ live k k

    quit_goes : (cause : Cause) (next : Live) (phase : State) → Known next → Goes (quit setup cause next phase)
    quit_goes cause next Looking so = ends cause next []
    quit_goes cause next Addressing so = ends cause next []
    quit_goes cause next (Ended before) so = keeps (stays next) so
    quit_goes cause next Connecting so = releases cause next
    quit_goes cause next Writing so = releases cause next
    quit_goes cause next Ending so = releases cause next
    quit_goes cause next Waiting so = releases cause next
    quit_goes cause next Exchanging so = releases cause next

    requested_goes : (kind : RecordService) (slot subslot index : ℕ) (octets : List ℕ) → Goes (requested setup live kind slot subslot index octets)
    requested_goes kind slot subslot index octets = either (can_request live) (keeps _ k) rests

    due_known : (is_due : Bool) (next : Live) → Known next → Known (turn_due setup is_due next)
    due_known is_due next so = known_if is_due (begun_turn setup next) next (begun_known next so) so

    gone_goes : (next : Live) (is_request b : Bool) (ending : Option Abort) → Known next
        → Goes (if b then flowed (exchange_later next) (due next.alarms.sending) (due next.low_alarms.sending) is_request (brought next) ending
        else record { live = next; sent = where_due is_request (requests_of next.device next.asked) })
    gone_goes next is_request true (Some reason) so = ends (cause_of reason) (exchange_later next) _
    gone_goes next is_request true None so = record { so = so }
    gone_goes next is_request false ending so = record { so = so }

    ticked_goes : Goes (ticked setup live)
    ticked_goes =
        let next = turn_due setup (is_again live) (later live) in
        either (is_spent live) (quit_goes why.NoProgress (later live) live.phase k)
        (gone_goes next (is_again live) next.stands (brought next).ending (due_known (is_again live) (later live) k))

    heard_goes : (heard : Heard) → IsPlugIf (accepted_in live heard) → Goes (turned setup live heard)
    heard_goes Nothing was = rests
    heard_goes (Answers source answer) was = answered_goes source answer live.phase
    heard_goes (Responds response) was = after_known (can_begin live) (responded setup live response live.asked) (responds_goes response live.asked)
    heard_goes (Refuses refusal) was = after_known (can_begin live) (refused setup live refusal live.asked) (refuses_goes refusal live.asked)
    heard_goes (Calls caller call) was = called_goes caller call (ready_in call)
    heard_goes (Comes source frame_id body) was = record { so = come_known source frame_id body }
    heard_goes (Alarms source under header reported) was = after_known (can_begin live) (alarmed live source under header reported) (alarmed_goes source under header reported was)

    event_goes : (one : Event) → IsPlugIf (accepted_with setup live one) → Goes (turn_of setup live one)
    event_goes (event.Frame bytes) was = heard_goes (heard_of setup.plan.controller bytes.items) was
    event_goes event.Tick was = ticked_goes
    event_goes (event.Give slot subslot value) was = record { so = k }
    event_goes (event.Status slot subslot is_good) was = record { so = k }
    event_goes (event.Read slot subslot index) was = requested_goes service.Read slot subslot index []
    event_goes (event.Write slot subslot index octets) was = either (nat_lt most_record_octets (length octets.items)) rests (requested_goes service.Write slot subslot index octets.items)
    event_goes event.Stop was = quit_goes why.Stopped live live.phase k

    pub event_known : (one : Event) → IsPlugIf (accepted_with setup live one) → Known (turn_of setup live one).live
    event_known one was = (event_goes one was).so
