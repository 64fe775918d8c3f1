-- An answer that belongs to another request is dropped, and each call that is sent is the one that waits.
use Rattle.std.proofs.Common.{◌≡◌, ◌≢◌, ◌⊎◌, inl, inr, ◌+◌, ◌++◌, ◌==◌, ◌<◌, ◌≤◌, ◌&&◌, ℕ, Bool, true, false, cond, List, [], ◌∷◌, Option, Some, None, refl, sym, ap, subst, ◌∙◌, arith}
use Rattle.std.specs.Prelude.{if◌then◌else◌, is_some, nat_eq, nat_lt}
use Rattle.std.specs.Cmp.Lexicographic.{pointwise, same_text}
use Rattle.std.specs.List.{AllByRecursion}
use Rattle.std.proofs.lemmas.Bool.{eqb-true, ltb-false}
use Rattle.std.proofs.Math.Nat.{mod-eq_of_lt}
use Rattle.record_blocks.specs.declared.alarm_ack.AlarmAck.{AlarmAck}
use Rattle.dcp_core.specs.declared.request.Service.{Service}
use Rattle.dcp_core.specs.declared.request.Service.TheVariants.{Get, Set, Identify}
use Rattle.dcp_core.specs.Response.{Answered}
use Rattle.rpc_core.specs.declared.header.CallHeader.{CallHeader}
use Rattle.rpc_core.specs.Response.{Answered as Response}
use Rattle.pn_alarms.specs.declared.receiver.Taken.{Taken}
use Rattle.pn_alarms.specs.declared.receiver.Taken.TheVariants.{New, Again, Refused}
use Rattle.pn_alarms.specs.Controller.{with_ack, with_data}
use Rattle.pn_alarms.specs.Receiver.{taken_as}
use Rattle.pn_alarms.specs.Sending.{due}
use Rattle.pn_alarms.specs.Sending.{is_again as is_repeated}
use Rattle.diagnosis.specs.declared.reports.priority.Priority.{Priority}
use Rattle.diagnosis.specs.declared.reports.priority.Priority.TheVariants.{High, Low}
use Rattle.diagnosis.specs.declared.reports.report.Report.{Report}
use Rattle.pn_values.specs.declared.mac.Mac.{Mac}
use Rattle.plans.specs.declared.parts.Parts.{Parts}
use Rattle.controller_messages.specs.declared.plug_request.PlugRequest.{PlugRequest}
use Rattle.controller_messages.specs.declared.record_request.RecordRequest.{RecordRequest}
use Rattle.controller_messages.specs.declared.refusal.Refusal.{Refusal}
use Rattle.controller_messages.specs.declared.setup.Setup.{Setup}
use Rattle.controller_messages.specs.declared.request.Request.{Request}
use Rattle.controller_messages.specs.declared.request.Request.TheVariants as asks
use Rattle.controller_messages.specs.Access.{Accessing, call_number}
use Rattle.controller_messages.specs.Heard.{Heard, Nothing, Answers, Responds, Refuses, Calls, Alarms, heard_of}
use Rattle.controller_messages.specs.Heard.{Cyclic as Comes}
use Rattle.controller_messages.specs.PlugRequests.{plug_answer, plug_header}
use Rattle.controller_messages.specs.RecordRequests.{record_header}
use Rattle.controller_messages.specs.Requests.{header_of, sequence_of, write_count, writing_from}
use Rattle.controller_messages.specs.Sent.{Sent, Requests, Accesses, Parametrizes, Agrees}
use Rattle.controller_core.specs.declared.stored.event.Event.{Event}
use Rattle.controller_core.specs.declared.stored.state.State.{State}
use Rattle.controller_core.specs.declared.stored.state.State.TheVariants.{Looking, Addressing, Exchanging}
use Rattle.controller_core.specs.start_up.Answers.{is_answer, is_found, is_identify, is_refused, is_set, is_set_answer}
use Rattle.controller_core.specs.start_up.Requests.{behind_write, next_sequence, tried_as, tries_before, write_after}
use Rattle.controller_core.specs.stored.State.{Controlling, Live}
use Rattle.controller_messages.specs.declared.setup.ControllerOptions.{ControllerOptions}
use Rattle.controller_core.specs.Machine.{Turn, accesses_by, accesses_of, addressed, after_turn, answered, asks_next, behind_ack, behind_data, beside, brought, can_begin, decided, due_frames, end_of, failed, flow_later, found, is_again, later, noted, outputs_of, acks_in, acks_of, pending_by, pending_of, plug_readied, plug_replied, plugs_by, refused, refused_beside, refused_by, rejected, replied, replied_by, requests_of, responded, standing, stays, fresh_with, step_of, stepped, taken, turn_of, turned, where_due, writing}
use Rattle.end_laws.specs.both.Small as small
use Rattle.end_laws.specs.controller.Small.{IsInStep, IsSteady, state_of}
use Rattle.end_laws.specs.turns.Belongs.{AreNumberedApart, AreNumberedInOrder, AreNumberedLater, BelongsToAnother, DropsAnswersToOthers, IsOfAnotherCall, IsOfAnotherRequest, IsOfStartUp, IsStarting, IsTheWaiting, WaitsForWhatIsSent, call_by, waiting_beside, waiting_by, waiting_dcp, waiting_in}
use Rattle.end_laws.specs.turns.Beside.{MayBegin, MayFollow, flow_begun}
use Rattle.end_laws.specs.turns.Runs.{IsReached, behind_all}
use Rattle.end_laws.specs.turns.Turns.{Came, IsKind, Kind, Rests, Connects, Addresses, Ends, Releases, Relates, Writes, Skips, Tries, Waits, Forgets, Begins, Repeats, Follows, Takes, IsAcked, Gives, GivesStatus, Asks, IsReplied, IsPlugAnswered, IsPlugReadied, Flows, Breaks, Idles, came_by, turn_by}
use Rattle.end_laws.proofs.TurnsBeside.{flows, follows, rejected_now, stays_alone}
use Rattle.end_laws.proofs.TurnsOneTurn.{event_is}
use Rattle.end_laws.proofs.ControllerTurns.{Tells, alike, confirming_alike, counted_is, end_alike, event_goes, tells}

-- ---- what belongs to another request is distinguished

other_activity : (mine theirs : List ℕ) → mine ≢ theirs → pointwise nat_eq theirs mine ≡ false
other_activity mine theirs other = by_test (pointwise nat_eq theirs mine) refl
  where
    by_test : (b : Bool) → pointwise nat_eq theirs mine ≡ b → b ≡ false
    by_test true e = absurd (other (sym (same_text theirs mine (sym e))))
    by_test false e = refl

other_number : (mine theirs : ℕ) → mine ≢ theirs → (theirs == mine) ≡ false
other_number mine theirs other = by_test (theirs == mine) refl
  where
    by_test : (b : Bool) → (theirs == mine) ≡ b → b ≡ false
    by_test true e = absurd (other (sym (eqb-true theirs mine e)))
    by_test false e = refl

not_both : (one other : Bool) → (one ≡ false) ⊎ (other ≡ false) → (one && other) ≡ false
not_both false other e = refl
not_both true other (inl e) = absurd (no_bool e)
  where
    no_bool : true ≡ false → ⊥
    no_bool e = cc
not_both true other (inr e) = e

-- The header of another call than this one.
not_same : (mine : CallHeader) (activity : List ℕ) (sequence : ℕ) → IsOfAnotherCall (Some mine) activity sequence
    → (pointwise nat_eq activity mine.activity && sequence == mine.sequence) ≡ false
not_same mine activity sequence (inl other) = not_both (pointwise nat_eq activity mine.activity) (sequence == mine.sequence) (inl (other_activity mine.activity activity other))
not_same mine activity sequence (inr other) = not_both (pointwise nat_eq activity mine.activity) (sequence == mine.sequence) (inr (other_number mine.sequence sequence other))

module _ (setup : Setup) where
  no_answer : (request : Request) (header : CallHeader) → IsOfAnotherCall (call_by setup request) header.activity header.sequence → is_answer setup request header ≡ false
  no_answer asks.Identify header other = refl
  no_answer asks.Address header other = refl
  no_answer asks.Connect header other = not_same (header_of setup asks.Connect) header.activity header.sequence other
  no_answer (asks.Write number) header other = not_same (header_of setup (asks.Write number)) header.activity header.sequence other
  no_answer asks.PrmEnd header other = not_same (header_of setup asks.PrmEnd) header.activity header.sequence other
  no_answer (asks.WriteAfter number tries) header other = not_same (header_of setup (asks.WriteAfter number tries)) header.activity header.sequence other
  no_answer (asks.PrmEndAfter tries) header other = not_same (header_of setup (asks.PrmEndAfter tries)) header.activity header.sequence other
  no_answer (asks.Release sequence) header other = not_same (header_of setup (asks.Release sequence)) header.activity header.sequence other

  no_refusal : (request : Request) (refusal : Refusal) → IsOfAnotherCall (call_by setup request) refusal.activity refusal.sequence → is_refused setup request refusal ≡ false
  no_refusal asks.Identify refusal other = refl
  no_refusal asks.Address refusal other = refl
  no_refusal asks.Connect refusal other = not_same (header_of setup asks.Connect) refusal.activity refusal.sequence other
  no_refusal (asks.Write number) refusal other = not_same (header_of setup (asks.Write number)) refusal.activity refusal.sequence other
  no_refusal asks.PrmEnd refusal other = not_same (header_of setup asks.PrmEnd) refusal.activity refusal.sequence other
  no_refusal (asks.WriteAfter number tries) refusal other = not_same (header_of setup (asks.WriteAfter number tries)) refusal.activity refusal.sequence other
  no_refusal (asks.PrmEndAfter tries) refusal other = not_same (header_of setup (asks.PrmEndAfter tries)) refusal.activity refusal.sequence other
  no_refusal (asks.Release sequence) refusal other = not_same (header_of setup (asks.Release sequence)) refusal.activity refusal.sequence other

  -- ---- it is dropped

  -- of a request of the application
  replies_to_none : (live : Live) (response : Response) (waiting : Option RecordRequest)
      → IsOfAnotherCall (waiting_beside setup None waiting) response.header.activity response.header.sequence → stays (replied setup live response waiting) ≡ stays live
  replies_to_none live response None other = refl
  replies_to_none live response (Some request) other =
      ap (λ (b : Bool). stays (if b then replied_by live response request else live)) (not_same (record_header setup request) response.header.activity response.header.sequence other)

  rejects_none : (live : Live) (refusal : Refusal) (waiting : Option RecordRequest)
      → IsOfAnotherCall (waiting_beside setup None waiting) refusal.activity refusal.sequence → stays (rejected setup live refusal waiting) ≡ stays live
  rejects_none live refusal None other = refl
  rejects_none live refusal (Some request) other =
      ap (λ (b : Bool). stays (if b then failed refusal.status request live else live)) (not_same (record_header setup request) refusal.activity refusal.sequence other)

  -- of the request after a plug, or else of the application
  beside_none : (live : Live) (response : Response) (plug : Option PlugRequest)
      → IsOfAnotherCall (waiting_beside setup plug live.access.waiting) response.header.activity response.header.sequence → beside setup live response plug ≡ stays live
  beside_none live response (Some request) other =
      ap (λ (b : Bool). if b then asks_next (plug_replied setup live response.status request) else stays live)
      (not_same (plug_header setup request) response.header.activity response.header.sequence other)
  beside_none live response None other = replies_to_none live response live.access.waiting other

  refuses_beside : (live : Live) (refusal : Refusal) (plug : Option PlugRequest)
      → IsOfAnotherCall (waiting_beside setup plug live.access.waiting) refusal.activity refusal.sequence → stays (refused_beside setup live refusal plug) ≡ stays live
  refuses_beside live refusal (Some request) other =
      ap (λ (b : Bool). stays (if b then rejected_now setup live refusal request else live))
      (not_same (plug_header setup request) refusal.activity refusal.sequence other)
  refuses_beside live refusal None other = rejects_none live refusal live.access.waiting other

  responds_to_none : (live : Live) (response : Response) (asked : Option Request)
      → IsOfAnotherCall (waiting_by setup asked live.access.plug live.access.waiting) response.header.activity response.header.sequence
      → responded setup live response asked ≡ stays live
  responds_to_none live response (Some request) other =
      ap (λ (b : Bool). if b then decided setup live response request else stays live) (no_answer request response.header other)
  responds_to_none live response None other = beside_none live response live.access.plug other

  refuses_none : (live : Live) (refusal : Refusal) (asked : Option Request)
      → IsOfAnotherCall (waiting_by setup asked live.access.plug live.access.waiting) refusal.activity refusal.sequence → refused setup live refusal asked ≡ stays live
  refuses_none live refusal (Some request) other =
      ap (λ (b : Bool). if b then refused_by live refusal request else stays live) (no_refusal request refusal other)
  refuses_none live refusal None other = refuses_beside live refusal live.access.plug other

  -- no turn of a place begins with it
  drops_alone : (live : Live) (turn : Turn) → turn ≡ stays live → after_turn setup (can_begin live) turn ≡ stays live
  drops_alone live turn e = ap (after_turn setup (can_begin live)) e ∙ stays_alone setup live

  no_identify : (service : Service) → Identify ≢ service → is_identify service ≡ false
  no_identify Identify other = absurd (other refl)
  no_identify Get other = refl
  no_identify Set other = refl

  no_set : (service : Service) → Set ≢ service → is_set service ≡ false
  no_set Set other = absurd (other refl)
  no_set Get other = refl
  no_set Identify other = refl

  second_not : (one two three : Bool) → two ≡ false → (one && (two && three)) ≡ false
  second_not true two three e = not_both two three (inl e)
  second_not false two three e = refl

  not_found : (answer : Answered) → IsOfAnotherRequest (waiting_dcp setup.plan Looking) answer → is_found setup.plan answer ≡ false
  not_found answer (inl other) = not_both (is_identify answer.service) _ (inl (no_identify answer.service other))
  not_found answer (inr other) = not_both (is_identify answer.service) _ (inr (second_not answer.is_supported (answer.xid == 1) _ (other_number 1 answer.xid other)))

  no_set_answer : (answer : Answered) → IsOfAnotherRequest (waiting_dcp setup.plan Addressing) answer → is_set_answer answer ≡ false
  no_set_answer answer (inl other) = not_both (is_set answer.service) (answer.xid == 2) (inl (no_set answer.service other))
  no_set_answer answer (inr other) = not_both (is_set answer.service) (answer.xid == 2) (inr (other_number 2 answer.xid other))

  answers_none : (live : Live) (source : Mac) (answer : Answered) (phase : State) → IsOfAnotherRequest (waiting_dcp setup.plan phase) answer
      → answered setup live source answer phase ≡ stays live
  answers_none live source answer Looking other = ap (λ (b : Bool). if b then found setup live source answer else stays live) (not_found answer other)
  answers_none live source answer Addressing other = ap (λ (b : Bool). if b then addressed setup live answer else stays live) (no_set_answer answer other)
  answers_none live source answer phase other = refl

  drops_it : (live : Live) (heard : Heard) → BelongsToAnother setup live heard → turned setup live heard ≡ stays live
  drops_it live (Responds response) other = drops_alone live (responded setup live response live.asked) (responds_to_none live response live.asked other)
  drops_it live (Refuses refusal) other = drops_alone live (refused setup live refusal live.asked) (refuses_none live refusal live.asked other)
  drops_it live (Answers source answer) other = answers_none live source answer live.phase other
  drops_it live Nothing other = absurd other
  drops_it live (Calls caller call) other = absurd other
  drops_it live (Comes source frame_id body) other = absurd other
  drops_it live (Alarms source under header notice) other = absurd other

pub drops_answers_to_others : DropsAnswersToOthers
unfolding step_of
drops_answers_to_others controller octets other =
    ap (λ (turn : Turn). stepped controller turn) (drops_it controller.setup controller.live (heard_of controller.setup.plan.controller octets) other)

-- ---- what is active in each state of a controller belongs to it

steady_on : (controller : Controlling) (event : Event) → IsSteady controller.setup.plan controller.live
    → IsSteady (step_of controller event).controller.setup.plan (step_of controller event).controller.live
unfolding step_of
steady_on controller event steady =
    (event_goes controller.setup controller.live event (event_is controller.setup controller.live event) steady).in_step

steady_all : (events : List Event) (controller : Controlling) → IsSteady controller.setup.plan controller.live
    → IsSteady (behind_all events controller).setup.plan (behind_all events controller).live
steady_all [] controller steady = steady
steady_all (event ∷ events) controller steady = steady_all events (step_of controller event).controller (steady_on controller event steady)

first_steady : (plan : Parts) (ar activity : List ℕ) (options : ControllerOptions) → IsSteady plan (fresh_with plan ar activity options).live
first_steady plan ar activity options = record { asked = refl; waiting = refl; plug = refl; calls = (refl, omega arith) }

pub reached_steady : (controller : Controlling) → IsReached controller → IsSteady controller.setup.plan controller.live
reached_steady controller r =
    subst (λ (c : Controlling). IsSteady c.setup.plan c.live) (sym r.made)
    (steady_all r.events (fresh_with r.plan r.ar r.activity r.options) (first_steady r.plan r.ar r.activity r.options))

-- ---- each call that is sent is the one that waits

module _ (setup : Setup) where
  abbrev AreTheWaiting : Live → List Sent → Type 0
  AreTheWaiting after sent = AllByRecursion (IsTheWaiting setup after) sent

  both_wait : (after : Live) (one other : List Sent) → AreTheWaiting after one → AreTheWaiting after other → AreTheWaiting after (one ++ other)
  both_wait after [] other all more = more
  both_wait after (message ∷ one) other all more = (all.0, both_wait after one other all.1 more)

  where_due_waits : (after : Live) (is : Bool) (sent : List Sent) → AreTheWaiting after sent → AreTheWaiting after (where_due is sent)
  where_due_waits after true sent all = all
  where_due_waits after false sent all = tt

  acks_wait : (after live : Live) (priority : Priority) (confirming : Option AlarmAck) → AreTheWaiting after (acks_in live priority confirming)
  acks_wait after live priority (Some ack) = (tt, tt)
  acks_wait after live priority None = tt

  requests_wait : (after : Live) (device : Mac) (asked : Option Request) (plug : Option PlugRequest) (waiting : Option RecordRequest)
      → waiting_in setup after ≡ waiting_by setup asked plug waiting → AreTheWaiting after (requests_of device asked)
  requests_wait after device (Some request) plug waiting is = (is, tt)
  requests_wait after device None plug waiting is = tt

  plugs_wait : (after : Live) (device : Mac) (plug : Option PlugRequest) (waiting : Option RecordRequest) → waiting_in setup after ≡ waiting_beside setup plug waiting
      → AreTheWaiting after (plugs_by device plug)
  plugs_wait after device (Some request) waiting is = (is, tt)
  plugs_wait after device None waiting is = tt

  accesses_wait : (after : Live) (device : Mac) (octets : List ℕ) (waiting : Option RecordRequest) → waiting_in setup after ≡ waiting_beside setup None waiting
      → AreTheWaiting after (accesses_by device octets waiting)
  accesses_wait after device octets (Some request) is = (is, tt)
  accesses_wait after device octets None is = tt

  beside_waits : (after live : Live) (plug : Option PlugRequest) → waiting_in setup after ≡ waiting_beside setup plug live.access.waiting
      → AreTheWaiting after (if is_some plug then plugs_by live.device plug else accesses_of live)
  beside_waits after live (Some request) is = (is, tt)
  beside_waits after live None is = accesses_wait after live.device live.access.octets live.access.waiting is

  pending_waits : (after live : Live) (asked : Option Request) → waiting_in setup after ≡ waiting_by setup asked live.access.plug live.access.waiting
      → AreTheWaiting after (pending_by live asked)
  pending_waits after live (Some request) is = (is, tt)
  pending_waits after live None is = beside_waits after live live.access.plug is

  due_wait : (live : Live) (is_high is_low is_request is_cyclic : Bool) → AreTheWaiting live (due_frames live is_high is_low is_request is_cyclic)
  due_wait live is_high is_low is_request is_cyclic =
      both_wait live (where_due is_high (acks_of live High)) _
      (where_due_waits live is_high (acks_of live High) (acks_wait live live High live.alarms.confirming))
      (both_wait live (where_due is_low (acks_of live Low)) _
      (where_due_waits live is_low (acks_of live Low) (acks_wait live live Low live.low_alarms.confirming))
      (both_wait live (where_due is_request (pending_of live)) _
      (where_due_waits live is_request (pending_of live) (pending_waits live live live.asked refl))
      (where_due_waits live is_cyclic (outputs_of live) (tt, tt))))

  taken_waits : (live : Live) (report : Report) (as_what : Taken) → AreTheWaiting (taken live report as_what).live (taken live report as_what).sent
  taken_waits live report New = (tt, (tt, tt))
  taken_waits live report Again = (tt, tt)
  taken_waits live report Refused = (tt, tt)

  writing_waits : (request : Request) (live : Live) → AreTheWaiting (writing setup request live).live (writing setup request live).sent
  writing_waits request live = (refl, tt)

  none_asked : (live : Live) → IsSteady setup.plan live → live.phase ≡ Exchanging → live.asked ≡ None
  none_asked live steady exchanges = subst (λ (phase : State). IsInStep setup.plan phase live.asked) exchanges steady.asked

  -- ---- the turn of a place that begins

  -- A message that is no call.
  abbrev IsNoCall : Sent → Type 0
  IsNoCall (Requests device request) = ⊥
  IsNoCall (Accesses device request octets) = ⊥
  IsNoCall (Parametrizes device request) = ⊥
  IsNoCall message = Unit {0}

  no_call_waits : (after : Live) (message : Sent) → IsNoCall message → IsTheWaiting setup after message
  no_call_waits after (Requests device request) none = absurd none
  no_call_waits after (Accesses device request octets) none = absurd none
  no_call_waits after (Parametrizes device request) none = absurd none
  no_call_waits after message none = tt

  no_calls_wait : (after : Live) (sent : List Sent) → AllByRecursion IsNoCall sent → AreTheWaiting after sent
  no_calls_wait after [] none = tt
  no_calls_wait after (message ∷ sent) none = (no_call_waits after message none.0, no_calls_wait after sent none.1)

  -- If it begins, none waits before it, and its own request waits from then on.
  follows_wait : (turn after : Turn) → MayFollow setup turn after → IsSteady setup.plan after.live → AreTheWaiting turn.live turn.sent
      → (turn.live.access.plug ≡ None → AllByRecursion IsNoCall turn.sent) → AreTheWaiting after.live after.sent
  follows_wait turn after (inl e) steady all silent = subst (λ (t : Turn). AreTheWaiting t.live t.sent) (sym e) all
  follows_wait turn after (inr followed) steady all silent =
      let begun = followed.begun in
      let phase : after.live.phase ≡ Exchanging = ap (λ (l : Live). l.phase) begun.beside ∙ begun.phase in
      let waits : waiting_in setup after.live ≡ Some (plug_header setup begun.request) =
      ap (λ (asked : Option Request). waiting_by setup asked after.live.access.plug after.live.access.waiting) (none_asked after.live steady phase)
      ∙ ap (λ (a : Accessing). waiting_beside setup a.plug after.live.access.waiting) begun.access in
      subst (λ (sent : List Sent). AreTheWaiting after.live sent) (sym followed.sent)
      (both_wait after.live turn.sent (Parametrizes turn.live.device begun.request ∷ []) (no_calls_wait after.live turn.sent (silent begun.plug)) (waits, tt))

  after_waits : (live : Live) (turn : Turn) → IsSteady setup.plan (after_turn setup (can_begin live) turn).live → AreTheWaiting turn.live turn.sent
      → (turn.live.access.plug ≡ None → AllByRecursion IsNoCall turn.sent)
      → AreTheWaiting (after_turn setup (can_begin live) turn).live (after_turn setup (can_begin live) turn).sent
  after_waits live turn steady all silent = follows_wait turn (after_turn setup (can_begin live) turn) (follows setup (can_begin live) turn) steady all silent

  taken_silent : (live : Live) (report : Report) (as_what : Taken) → AllByRecursion IsNoCall (taken live report as_what).sent
  taken_silent live report New = (tt, (tt, tt))
  taken_silent live report Again = (tt, tt)
  taken_silent live report Refused = (tt, tt)

  plugs_silent : (device : Mac) (plug : Option PlugRequest) → plug ≡ None → AllByRecursion IsNoCall (plugs_by device plug)
  plugs_silent device plug none = subst (λ (p : Option PlugRequest). AllByRecursion IsNoCall (plugs_by device p)) (sym none) tt

  kind_waits : (live : Live) (came : Came) (kind : Kind) → IsSteady setup.plan live → IsSteady setup.plan (turn_by setup live kind).live → IsKind setup live came kind
      → AreTheWaiting (turn_by setup live kind).live (turn_by setup live kind).sent
  kind_waits live came Rests steady next holds = tt
  kind_waits live came (Connects source) steady next holds = (refl, tt)
  kind_waits live came (Addresses source) steady next holds = (refl, tt)
  kind_waits live came (Ends cause refusal denied units) steady next holds = tt
  kind_waits live came (Releases cause refusal denied units) steady next holds = (refl, tt)
  kind_waits live came (Relates places chosen) steady next holds = writing_waits (writing_from setup.plan 0) (standing setup (record live { places = places }) chosen)
  kind_waits live came (Writes number tries) steady next holds = writing_waits (behind_write setup.plan number tries) live
  kind_waits live came (Skips number tries denied status) steady next holds = writing_waits (behind_write setup.plan number tries) (noted status denied live)
  kind_waits live came (Tries again status) steady next holds = tt
  kind_waits live came (Waits tries) steady next holds = tt
  kind_waits live came Forgets steady next holds = tt
  kind_waits live came (Begins caller call block) steady next holds = (tt, tt)
  kind_waits live came (Repeats caller call block) steady next holds = (tt, tt)
  kind_waits live came (Follows source frame_id body) steady next holds = tt
  kind_waits live came (Takes number report) steady next holds =
      let behind = behind_data live report.priority number in
      let as_what = taken_as (end_of live report.priority).seen number in
      after_waits live (taken behind report as_what) next (taken_waits behind report as_what) (λ none. taken_silent behind report as_what)
  kind_waits live came (IsAcked priority number) steady next holds = tt
  kind_waits live came (Gives slot subslot value) steady next holds = tt
  kind_waits live came (GivesStatus slot subslot is_good) steady next holds = tt
  kind_waits live came (Asks request octets) steady next holds =
      let waits : waiting_by setup live.asked live.access.plug (Some request) ≡ Some (record_header setup request) =
      ap (λ (asked : Option Request). waiting_by setup asked live.access.plug (Some request)) (none_asked live steady holds.0)
      ∙ ap (λ (plug : Option PlugRequest). waiting_beside setup plug (Some request)) holds.4 in
      (waits, tt)
  kind_waits live came (IsReplied refusal access) steady next holds =
      after_waits live (stays (record live { refusal = refusal; access = access })) next tt (λ none. tt)
  kind_waits live came (IsPlugAnswered refusal refused_one waited places access) steady next holds =
      let after : Live = record live { refusal = refusal; refused_record = refused_one; waited = waited; places = places; access = access } in
      after_waits live (asks_next after) next
      (plugs_wait after live.device access.plug access.waiting (ap (λ (asked : Option Request). waiting_by setup asked access.plug access.waiting) holds.0))
      (λ none. plugs_silent live.device access.plug none)
  kind_waits live came (IsPlugReadied caller call block) steady next holds =
      after_waits live (record { live = plug_readied live block.alarm_sequence_number; sent = Agrees caller (plug_answer call block) ∷ [] }) next (tt, tt) (λ none. (tt, tt))
  kind_waits live came Flows steady next holds =
      due_wait (flow_begun setup live) (is_repeated (due live.alarms.sending)) (is_repeated (due live.low_alarms.sending)) (is_again live) (brought live).is_cyclic
  kind_waits live came (Breaks reason) steady next holds = (tt, tt)
  kind_waits live came Idles steady next holds =
      where_due_waits (later live) (is_again live) (requests_of live.device live.asked) (requests_wait (later live) live.device live.asked live.access.plug live.access.waiting refl)

  event_waits : (live : Live) (event : Event) → IsSteady setup.plan live → AreTheWaiting (turn_of setup live event).live (turn_of setup live event).sent
  event_waits live event steady =
      let turn = event_is setup live event in
      let next = subst (λ (t : Turn). IsSteady setup.plan t.live) turn.is (event_goes setup live event turn steady).in_step in
      subst (λ (t : Turn). AreTheWaiting t.live t.sent) (sym turn.is) (kind_waits live (came_by setup event) turn.kind steady next turn.holds)

pub waits_for_what_is_sent : WaitsForWhatIsSent
waits_for_what_is_sent controller event reached = event_waits controller.setup controller.live event (reached_steady controller reached)

-- ---- numbers

none_is : (count : ℕ) → count ≡ count + 1 → ⊥
none_is count e = absurd (omega (arith, e))

pub are_numbered_apart : AreNumberedApart
are_numbered_apart setup asks.Connect asks.Connect one other same = refl
are_numbered_apart setup asks.Connect (asks.Write number) one other same = absurd (omega (arith, same))
are_numbered_apart setup asks.Connect asks.PrmEnd one other same = absurd (omega (arith, same))
are_numbered_apart setup (asks.Write number) asks.Connect one other same = absurd (omega (arith, same))
are_numbered_apart setup (asks.Write number) (asks.Write next) one other same =
    let is : number ≡ next = omega (arith, same) in
    ap (λ (n : ℕ). asks.Write n) is
are_numbered_apart setup (asks.Write number) asks.PrmEnd one other same = absurd (omega (arith, same, one))
are_numbered_apart setup asks.PrmEnd asks.Connect one other same = absurd (omega (arith, same))
are_numbered_apart setup asks.PrmEnd (asks.Write number) one other same = absurd (omega (arith, same, other))
are_numbered_apart setup asks.PrmEnd asks.PrmEnd one other same = refl
are_numbered_apart setup asks.Identify other one others same = absurd one
are_numbered_apart setup asks.Address other one others same = absurd one
are_numbered_apart setup (asks.Release sequence) other one others same = absurd one
are_numbered_apart setup (asks.WriteAfter number tries) other one others same = absurd one
are_numbered_apart setup (asks.PrmEndAfter tries) other one others same = absurd one
are_numbered_apart setup one other one_is other_is same = absurd other_is

number_is : (plan : Parts) (calls : ℕ) → write_count plan + 2 + calls < 4294967296 → call_number plan calls ≡ write_count plan + 2 + calls
number_is plan calls few = mod-eq_of_lt few

sequence_few : (setup : Setup) (request : Request) → IsOfStartUp setup.plan request → (header_of setup request).sequence ≤ write_count setup.plan + 1
sequence_few setup asks.Connect is = omega arith
sequence_few setup (asks.Write number) is = omega (arith, is)
sequence_few setup asks.PrmEnd is = omega arith
sequence_few setup request is = absurd is

next_is : (setup : Setup) (request : Request) (calls : ℕ) → IsOfStartUp setup.plan request → write_count setup.plan + 2 + calls < 4294967296
    → (header_of setup request).sequence < next_sequence setup.plan calls (Some request)
next_is setup asks.Connect calls is few = omega arith
next_is setup (asks.Write number) calls is few = omega arith
next_is setup asks.PrmEnd calls is few = omega (arith, number_is setup.plan calls few)
next_is setup request calls is few = absurd is

pub are_numbered_later : AreNumberedLater
are_numbered_later setup request fewer calls is few = (
  omega (arith, number_is setup.plan calls few, sequence_few setup request is),
  λ before. omega (arith, before, number_is setup.plan calls few, number_is setup.plan fewer (omega (arith, before, few))),
  next_is setup request calls is few,
  refl,
)

-- ---- each call has the number after that of the call before

first_number : (plan : Parts) → sequence_of plan (writing_from plan 0) ≡ 1
first_number plan = by_count (nat_lt 0 (write_count plan)) refl
  where
    by_count : (b : Bool) → nat_lt 0 (write_count plan) ≡ b → sequence_of plan (cond b (asks.Write 0) asks.PrmEnd) ≡ 1
    by_count true e = refl
    by_count false e = let none = ltb-false 0 (write_count plan) e in omega (arith, none)

-- the request after a Write
behind_number : (plan : Parts) (number : ℕ) (tries : Option ℕ) → number < write_count plan
    → sequence_of plan (behind_write plan number tries) ≡ sequence_of plan (write_after number tries) + 1
behind_number plan number None listed = by_count (nat_lt (number + 1) (write_count plan)) refl
  where
    by_count : (b : Bool) → nat_lt (number + 1) (write_count plan) ≡ b → sequence_of plan (cond b (asks.Write (number + 1)) asks.PrmEnd) ≡ number + 1 + 1
    by_count true e = refl
    by_count false e = let last = ltb-false (number + 1) (write_count plan) e in omega (arith, last, listed)
behind_number plan number (Some tries) listed = by_count (nat_lt (number + 1) (write_count plan)) refl
  where
    by_count : (b : Bool) → nat_lt (number + 1) (write_count plan) ≡ b
        → sequence_of plan (cond b (asks.WriteAfter (number + 1) tries) (asks.PrmEndAfter tries)) ≡ number + tries + 1 + 1
    by_count true e = omega arith
    by_count false e = let last = ltb-false (number + 1) (write_count plan) e in omega (arith, last, listed)

same_request : (one other : Request) → Some one ≡ Some other → one ≡ other
same_request one other e = cc

-- the same call again
tried_number : (plan : Parts) (request next : Request) → tried_as request ≡ Some next → sequence_of plan next ≡ sequence_of plan request + 1
tried_number plan (asks.Write number) next e = ap (λ (r : Request). sequence_of plan r) (sym (same_request (asks.WriteAfter number 1) next e))
tried_number plan asks.PrmEnd next e = ap (λ (r : Request). sequence_of plan r) (sym (same_request (asks.PrmEndAfter 1) next e))
tried_number plan (asks.WriteAfter number tries) next e =
    let is : sequence_of plan next ≡ number + (tries + 1) + 1 = ap (λ (r : Request). sequence_of plan r) (sym (same_request (asks.WriteAfter number (tries + 1)) next e)) in
    omega (arith, is)
tried_number plan (asks.PrmEndAfter tries) next e =
    let is : sequence_of plan next ≡ write_count plan + (tries + 1) + 1 = ap (λ (r : Request). sequence_of plan r) (sym (same_request (asks.PrmEndAfter (tries + 1)) next e)) in
    omega (arith, is)
tried_number plan asks.Identify next e = absurd cc
tried_number plan asks.Address next e = absurd cc
tried_number plan asks.Connect next e = absurd cc
tried_number plan (asks.Release sequence) next e = absurd cc

module _ (setup : Setup) (few : write_count setup.plan < 65536) (live : Live) (came : Came) (steady : IsSteady setup.plan live) (request : Request) (starts : IsStarting request)
    (stood : live.asked ≡ Some request) where
  -- what is active after the turn
  abbrev Numbers : Option Request → Type 0
  Numbers after = (next : Request) → after ≡ Some next → (next ≡ request) ⊎ (sequence_of setup.plan next ≡ sequence_of setup.plan request + 1)

  keeps_number : (after : Option Request) → after ≡ live.asked → Numbers after
  keeps_number after same next is = inl (same_request next request (sym is ∙ (same ∙ stood)))

  none_active : Numbers None
  none_active next is = absurd (none_some next is)
    where
      none_some : (other : Request) → None ≡ Some other → ⊥
      none_some other e = absurd cc

  later_number : (other : Request) → sequence_of setup.plan other ≡ sequence_of setup.plan request + 1 → Numbers (Some other)
  later_number other later next is = inr (ap (λ (r : Request). sequence_of setup.plan r) (sym (same_request other next is)) ∙ later)

  is_active : (other : Request) → live.asked ≡ Some other → request ≡ other
  is_active other is = same_request request other (sym stood ∙ is)

  -- a call of the start-up is made only after the station was found
  not_before : (other : Request) → (IsStarting other → ⊥) → live.asked ≡ Some other → ⊥
  not_before other none is = none (subst (λ (r : Request). IsStarting r) (is_active other is) starts)

  not_seeking : (live.phase ≡ Looking) ⊎ (live.phase ≡ Addressing) → ⊥
  not_seeking (inl is) = not_before asks.Identify (λ never. never) (subst (λ (p : State). IsInStep setup.plan p live.asked) is steady.asked)
  not_seeking (inr is) = not_before asks.Address (λ never. never) (subst (λ (p : State). IsInStep setup.plan p live.asked) is steady.asked)

  told : (other : Request) → live.asked ≡ Some other → Tells setup live.phase live.asked other
  told other is = tells setup live.phase live.asked steady.asked other is

  write_listed : (number : ℕ) (tries : Option ℕ) → live.asked ≡ Some (write_after number tries) → number < write_count setup.plan
  write_listed number None is = (told (asks.Write number) is).0
  write_listed number (Some tries) is = (told (asks.WriteAfter number tries) is).0

  behind_later : (number : ℕ) (tries : Option ℕ) → live.asked ≡ Some (write_after number tries) → Numbers (Some (behind_write setup.plan number tries))
  behind_later number tries is =
      later_number (behind_write setup.plan number tries)
      (behind_number setup.plan number tries (write_listed number tries is)
      ∙ ap (λ (r : Request). sequence_of setup.plan r + 1) (sym (is_active (write_after number tries) is)))

  -- the Release
  after_end : (other : Request) (tries : ℕ) → live.asked ≡ Some other → tries_before other ≡ tries
      → state_of setup.plan live.phase live.asked ≡ small.Asking (write_count setup.plan + 1) tries
      → call_number setup.plan live.access.calls ≡ write_count setup.plan + tries + 1 + 1
  after_end other tries is before asking =
      let counted = counted_is setup live.phase live.asked other live.access.calls (write_count setup.plan + 1) tries asking is steady.calls in
      let number = number_is setup.plan live.access.calls (omega (arith, few, counted.1)) in
      omega (arith, number, counted.0, before)

  release_number : (other : Request) → IsStarting other → live.asked ≡ Some other
      → next_sequence setup.plan live.access.calls (Some other) ≡ sequence_of setup.plan other + 1
  release_number asks.Connect starting is = refl
  release_number (asks.Write number) starting is = omega arith
  release_number (asks.WriteAfter number tries) starting is = omega arith
  release_number asks.PrmEnd starting is = after_end asks.PrmEnd 0 is refl (told asks.PrmEnd is) ∙ omega arith
  release_number (asks.PrmEndAfter tries) starting is = after_end (asks.PrmEndAfter tries) tries is refl (told (asks.PrmEndAfter tries) is)
  release_number asks.Identify starting is = absurd starting
  release_number asks.Address starting is = absurd starting
  release_number (asks.Release sequence) starting is = absurd starting

  -- a turn after which a place begins
  follows_keeps : (turn after : Turn) → MayFollow setup turn after → turn.live.asked ≡ live.asked → Numbers after.live.asked
  follows_keeps turn after (inl e) same = keeps_number after.live.asked (ap (λ (t : Turn). t.live.asked) e ∙ same)
  follows_keeps turn after (inr followed) same = keeps_number after.live.asked (ap (λ (l : Live). l.asked) followed.begun.beside ∙ same)

  begins_keeps : (before after : Live) → MayBegin setup before after → before.asked ≡ live.asked → Numbers after.asked
  begins_keeps before after (inl e) same = keeps_number after.asked (ap (λ (l : Live). l.asked) e ∙ same)
  begins_keeps before after (inr begun) same = keeps_number after.asked (ap (λ (l : Live). l.asked) begun.beside ∙ same)

  after_keeps : (turn : Turn) → turn.live.asked ≡ live.asked → Numbers (after_turn setup (can_begin live) turn).live.asked
  after_keeps turn same = follows_keeps turn (after_turn setup (can_begin live) turn) (follows setup (can_begin live) turn) same

  taken_keeps : (behind : Live) (report : Report) (as_what : Taken) → behind.asked ≡ live.asked → (taken behind report as_what).live.asked ≡ live.asked
  taken_keeps behind report New same = (confirming_alike setup behind behind report (alike setup behind)).asked ∙ same
  taken_keeps behind report Again same = same
  taken_keeps behind report Refused same = same

  kind_numbers : (kind : Kind) → IsKind setup live came kind → Numbers (turn_by setup live kind).live.asked
  kind_numbers (Connects source) holds = absurd (not_seeking holds.seeking)
  kind_numbers (Addresses source) holds = absurd (not_seeking holds.0.seeking)
  kind_numbers (Ends why refusal denied units) holds = none_active
  kind_numbers (Releases why refusal denied units) holds =
      later_number (asks.Release (next_sequence setup.plan live.access.calls live.asked))
      (ap (λ (a : Option Request). next_sequence setup.plan live.access.calls a) stood ∙ release_number request starts stood)
  kind_numbers (Relates places chosen) holds =
      later_number (writing_from setup.plan 0)
      (first_number setup.plan ∙ ap (λ (r : Request). sequence_of setup.plan r + 1) (sym (is_active asks.Connect holds.0.stood)))
  kind_numbers (Writes number tries) holds = behind_later number tries holds.0.stood
  kind_numbers (Skips number tries denied status) holds = behind_later number tries holds.stood
  kind_numbers (Tries next status) holds =
      later_number next (tried_number setup.plan holds.request next holds.tries
      ∙ ap (λ (r : Request). sequence_of setup.plan r + 1) (sym (is_active holds.request holds.stood)))
  kind_numbers (Waits tries) holds = none_active
  kind_numbers Forgets holds = none_active
  kind_numbers (Begins caller call block) holds = none_active
  kind_numbers (Takes number report) holds =
      let behind = behind_data live report.priority number in
      let as_what = taken_as (end_of live report.priority).seen number in
      after_keeps (taken behind report as_what)
      (taken_keeps behind report as_what (end_alike setup live report.priority (with_data (end_of live report.priority) number)).asked)
  kind_numbers (IsAcked priority number) holds =
      keeps_number (behind_ack live priority number).asked (end_alike setup live priority (with_ack (end_of live priority) number)).asked
  kind_numbers (IsReplied refusal access) holds = after_keeps (stays (record live { refusal = refusal; access = access })) refl
  kind_numbers (IsPlugAnswered refusal refused_one waited places access) holds =
      after_keeps (asks_next (record live { refusal = refusal; refused_record = refused_one; waited = waited; places = places; access = access })) refl
  kind_numbers (IsPlugReadied caller call block) holds =
      after_keeps (record { live = plug_readied live block.alarm_sequence_number; sent = Agrees caller (plug_answer call block) ∷ [] }) refl
  kind_numbers Flows holds = begins_keeps (flow_later live) (flow_begun setup live) (flows setup live) refl
  kind_numbers (Breaks reason) holds = none_active
  kind_numbers other holds = keeps_number _ refl

pub are_numbered_in_order : AreNumberedInOrder
are_numbered_in_order controller event reached few request next starts stood is =
    let setup = controller.setup in
    let live = controller.live in
    let turn = event_is setup live event in
    kind_numbers setup few live (came_by setup event) (reached_steady controller reached) request starts stood turn.kind turn.holds next
    (ap (λ (t : Turn). t.live.asked) (sym turn.is) ∙ is)
