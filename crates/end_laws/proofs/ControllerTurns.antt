-- Each turn of a controller, as far as a start-up is concerned.
use Rattle.std.proofs.Common.{◌≡◌, ◌⊎◌, inl, inr, ◌+◌, ◌<◌, ◌≤◌, ◌==◌, ◌&&◌, ◌%◌, ℕ, Bool, true, false, cond, List, [], ◌∷◌, ◌++◌, Option, Some, None, refl, sym, ap, subst, ◌∙◌, add-one, arith}
use Rattle.std.specs.Prelude.{if◌then◌else◌, is_some, nat_lt, nat_eq}
use Rattle.std.specs.List.{AllByRecursion}
use Rattle.std.specs.Cmp.Lexicographic.{pointwise}
use Rattle.std.proofs.lemmas.Bool.{and_parts, eqb-true, ltb-true, ltb-false}
use Rattle.pn_values.specs.declared.mac.Mac.{Mac}
use Rattle.frame_codec.specs.declared.udp.Caller.{Caller}
use Rattle.rpc_core.specs.Call.{Asked as Call}
use Rattle.rpc_core.specs.declared.response.Status.{Status}
use Rattle.rpc_core.specs.Response.{Answered as Response, is_done}
use Rattle.connect_blocks.specs.declared.control.ControlBlock.{ControlBlock}
use Rattle.record_blocks.specs.declared.alarm_ack.AlarmAck.{AlarmAck}
use Rattle.record_blocks.specs.declared.alarm_notification.AlarmNotification.{AlarmNotification}
use Rattle.diagnosis.specs.declared.reports.priority.Priority.{Priority}
use Rattle.diagnosis.specs.declared.reports.priority.Priority.TheVariants.{High, Low}
use Rattle.diagnosis.specs.declared.reports.report.Report.{Report}
use Rattle.pn_alarms.specs.declared.receiver.Taken.{Taken}
use Rattle.pn_alarms.specs.declared.receiver.Taken.TheVariants.{New, Again, Refused}
use Rattle.pn_alarms.specs.Controller.{confirmed, with_ack, with_data}
use Rattle.pn_alarms.specs.Ends.{ControllerEnd}
use Rattle.pn_alarms.specs.Receiver.{taken_as}
use Rattle.pn_alarms.specs.Sending.{due}
use Rattle.pn_alarms.specs.Sending.{is_again as is_repeated}
use Rattle.plans.specs.declared.parts.Parts.{Parts}
use Rattle.controller_messages.specs.declared.plug_request.PlugRequest.{PlugRequest}
use Rattle.controller_messages.specs.declared.record_request.RecordRequest.{RecordRequest}
use Rattle.controller_messages.specs.declared.setup.Setup.{Setup}
use Rattle.controller_messages.specs.declared.request.Request.{Request}
use Rattle.controller_messages.specs.declared.request.Request.TheVariants as asks
use Rattle.controller_messages.specs.Heard.{Heard, Responds, heard_of}
use Rattle.controller_messages.specs.Access.{Accessing}
use Rattle.controller_messages.specs.Requests.{sequence_of, write_count, writing_after, writing_from}
use Rattle.controller_messages.specs.PlugRequests.{plug_answer}
use Rattle.controller_messages.specs.Sent.{Sent, Agrees, Parametrizes}
use Rattle.controller_core.specs.declared.stored.state.Cause.{Cause}
use Rattle.controller_core.specs.declared.stored.state.State.{State}
use Rattle.controller_core.specs.declared.stored.state.State.TheVariants.{Looking, Addressing, Connecting, Writing, Ending, Waiting, Exchanging, Ended}
use Rattle.controller_core.specs.declared.stored.event.Event.{Event}
use Rattle.controller_core.specs.declared.stored.event.Event.TheVariants.{Frame}
use Rattle.controller_core.specs.stored.State.{Live}
use Rattle.controller_core.specs.stored.Alarms.{ack_of, kept_alarm}
use Rattle.controller_core.specs.start_up.Answers.{is_answer, is_busy, is_call, is_tried}
use Rattle.controller_core.specs.start_up.Outcomes.{are_written}
use Rattle.controller_core.specs.Machine.{Turn, stays, noted, released, writing, standing, end_of, with_end, keeping, acking, after_turn, asks_next, behind_data, behind_ack, can_begin, diagnosing, confirming, taken, is_again, later, where_due, requests_of, accesses_by, accesses_of, plug_readied, plugs_by, plugs_of, pending_by, pending_of, acks_in, acks_of, outputs_of, flow_later, due_frames, brought, turn_of}
use Rattle.controller_core.specs.start_up.Requests.{next_sequence, behind_write, end_after, first_try, tried_as, tries_before, write_after}
use Rattle.end_laws.specs.turns.Beside.{IsBegun, MayBegin, MayFollow, flow_begun}
use Rattle.end_laws.specs.turns.Ended.{IsReleased}
use Rattle.end_laws.specs.turns.Turns.{Came, Hears, IsGranted, IsKind, IsReadied, IsSkipped, IsTurn, Kind, Rests, Connects, Addresses, Ends, Releases, Relates, Writes, Skips, Tries, Waits, Forgets, Begins, Repeats, Takes, IsAcked, Asks, IsReplied, IsPlugAnswered, IsPlugReadied, Flows, Breaks, Idles, came_by, turn_by}
use Rattle.end_laws.proofs.TurnsBeside.{flows, follows}
use Rattle.end_laws.specs.both.Small as small
use Rattle.end_laws.specs.both.Small.{Controller, Reply, ToController, ToDevice, reply_of}
use Rattle.end_laws.specs.both.Steps.{Moves, SaysToDevice}
use Rattle.end_laws.specs.controller.Small.{asking_of, state_of, small_of, IsInStep, MayWait, IsCounted, IsSteady, says_written, tries_in, readied_by, said_to, asked_by, said_by, said_in, GoesOn}

some_is : {A : Type 0} (x y : A) → Some x ≡ Some y → x ≡ y
some_is x y e = cc

module _ (plan : Parts) where
  abbrev count : ℕ
  count = write_count plan

  -- a message that says nothing of a start-up
  abbrev IsInactive : Sent → Type 0
  IsInactive message = said_by plan message ≡ small.Idle

  inactive_says : (now : Controller) (message : Sent) → IsInactive message → SaysToDevice count now (said_by plan message)
  inactive_says now message inactive = subst (λ (said : ToDevice). SaysToDevice count now said) (sym inactive) tt

  all_inactive : (now : Controller) (sent : List Sent) → AllByRecursion IsInactive sent → AllByRecursion (λ message. SaysToDevice count now (said_by plan message)) sent
  all_inactive now [] all = tt
  all_inactive now (message ∷ sent) all = (inactive_says now message all.0, all_inactive now sent all.1)

  -- ---- the cases in which nothing moves

  still_waits : {A : Type 0} (phase : State) (before after : Option A) → (after ≡ before) ⊎ (after ≡ None) → MayWait phase before → MayWait phase after
  still_waits {A} phase before after (inl same) waits = subst (λ (w : Option A). MayWait phase w) (sym same) waits
  still_waits Exchanging before after (inr none) waits = tt
  still_waits Looking before after (inr none) waits = none
  still_waits Addressing before after (inr none) waits = none
  still_waits Connecting before after (inr none) waits = none
  still_waits Writing before after (inr none) waits = none
  still_waits Ending before after (inr none) waits = none
  still_waits Waiting before after (inr none) waits = none
  still_waits (Ended cause) before after (inr none) waits = none

  steady_on : (live after : Live) → IsSteady plan live → after.phase ≡ live.phase → after.asked ≡ live.asked
      → (after.access.waiting ≡ live.access.waiting) ⊎ (after.access.waiting ≡ None) → (after.access.plug ≡ live.access.plug) ⊎ (after.access.plug ≡ None)
      → after.access.calls ≡ live.access.calls → IsSteady plan after
  steady_on live after steady phase asked waits plugs calls = record {
    asked = subst (λ (p : State). IsInStep plan p after.asked) (sym phase) (subst (λ (a : Option Request). IsInStep plan live.phase a) (sym asked) steady.asked);
    waiting = subst (λ (p : State). MayWait p after.access.waiting) (sym phase) (still_waits live.phase live.access.waiting after.access.waiting waits steady.waiting);
    plug = subst (λ (p : State). MayWait p after.access.plug) (sym phase) (still_waits live.phase live.access.plug after.access.plug plugs steady.plug);
    calls = subst (λ (p : State). IsCounted p after.asked after.access.calls) (sym phase)
        (subst (λ (a : Option Request). IsCounted live.phase a after.access.calls) (sym asked)
        (subst (λ (n : ℕ). IsCounted live.phase live.asked n) (sym calls) steady.calls));
  }

  same_goes : (heard : ToController) (live after : Live) (sent : List Sent) → IsSteady plan live → after.phase ≡ live.phase → after.asked ≡ live.asked
      → (after.access.waiting ≡ live.access.waiting) ⊎ (after.access.waiting ≡ None) → (after.access.plug ≡ live.access.plug) ⊎ (after.access.plug ≡ None)
      → after.access.calls ≡ live.access.calls → AllByRecursion IsInactive sent → GoesOn plan heard live (record { live = after; sent = sent })
  same_goes heard live after sent steady phase asked waits plugs calls inactive = record {
    in_step = steady_on live after steady phase asked waits plugs calls;
    moves = inl (ap (λ (p : State). state_of plan p after.asked) phase ∙ ap (λ (a : Option Request). state_of plan live.phase a) asked);
    says = all_inactive (small_of plan after) sent inactive;
  }

  stays_goes : (heard : ToController) (live : Live) → IsSteady plan live → GoesOn plan heard live (stays live)
  stays_goes heard live steady = same_goes heard live live [] steady refl refl (inl refl) (inl refl) refl tt

  -- while a request of the start-up is active, and before, none of the application waits
  none_asked : (request : Request) → None ≡ Some request → ⊥
  none_asked request e = absurd cc

  none_waits : {A : Type 0} (phase : State) (asked : Option Request) (request : Request) (waiting : Option A) → IsInStep plan phase asked → asked ≡ Some request → MayWait phase waiting → waiting ≡ None
  none_waits Exchanging asked request waiting in_step stands waits = absurd (none_asked request (sym in_step ∙ stands))
  none_waits Looking asked request waiting in_step stands waits = waits
  none_waits Addressing asked request waiting in_step stands waits = waits
  none_waits Connecting asked request waiting in_step stands waits = waits
  none_waits Writing asked request waiting in_step stands waits = waits
  none_waits Ending asked request waiting in_step stands waits = waits
  none_waits Waiting asked request waiting in_step stands waits = waits
  none_waits (Ended cause) asked request waiting in_step stands waits = waits

module _ (setup : Setup) where
  released_goes : (heard : ToController) (reason : Cause) (live after : Live) → GoesOn setup.plan heard live (released setup reason after)
  released_goes heard reason live after = record { in_step = record { asked = inr (next_sequence setup.plan after.access.calls after.asked, refl); waiting = refl; plug = refl; calls = tt }; moves = inr (inl refl); says = (inl refl, tt) }

  -- what a pending request says of the state: the call that makes it, that its record exists, or that the relation has
  -- ended
  abbrev pub Tells : State → Option Request → Request → Type 0
  Tells phase asked asks.Identify = Unit {0}
  Tells phase asked asks.Address = Unit {0}
  Tells phase asked asks.Connect = state_of setup.plan phase asked ≡ small.Asking 0 0
  Tells phase asked (asks.Write number) = (number < write_count setup.plan) × (state_of setup.plan phase asked ≡ small.Asking (number + 1) 0)
  Tells phase asked asks.PrmEnd = state_of setup.plan phase asked ≡ small.Asking (write_count setup.plan + 1) 0
  Tells phase asked (asks.WriteAfter number tries) = (number < write_count setup.plan) × (state_of setup.plan phase asked ≡ small.Asking (number + 1) tries)
  Tells phase asked (asks.PrmEndAfter tries) = state_of setup.plan phase asked ≡ small.Asking (write_count setup.plan + 1) tries
  Tells phase asked (asks.Release sequence) = IsInStep setup.plan phase None × (state_of setup.plan phase None ≡ small.Ended)

  tells_so : (phase : State) (asked : Option Request) (one request : Request) → asked ≡ Some one → Tells phase asked one → asked ≡ Some request → Tells phase asked request
  tells_so phase asked one request is reported stands = subst (λ (r : Request). Tells phase asked r) (some_is one request (sym is ∙ stands)) reported

  none_stands : (request : Request) → None ≡ Some request → ⊥
  none_stands request e = absurd cc

  none_some : {A : Type 0} (request : A) → Some request ≡ None → ⊥
  none_some request e = absurd cc

  -- a Write, and PrmEnd
  tells_write : (asked : Option Request) (number : ℕ) (tries : Option ℕ) (request : Request) → number < write_count setup.plan → asked ≡ Some (write_after number tries)
      → asked ≡ Some request → Tells Writing asked request
  tells_write asked number None request below is stands =
      tells_so Writing asked (asks.Write number) request is (below, ap (λ (a : Option Request). asking_of setup.plan a) is) stands
  tells_write asked number (Some tries) request below is stands =
      tells_so Writing asked (asks.WriteAfter number tries) request is (below, ap (λ (a : Option Request). asking_of setup.plan a) is) stands

  tells_end : (asked : Option Request) (tries : Option ℕ) (request : Request) → asked ≡ Some (end_after tries) → asked ≡ Some request → Tells Ending asked request
  tells_end asked None request is stands = tells_so Ending asked asks.PrmEnd request is (ap (λ (a : Option Request). asking_of setup.plan a) is) stands
  tells_end asked (Some tries) request is stands =
      tells_so Ending asked (asks.PrmEndAfter tries) request is (ap (λ (a : Option Request). asking_of setup.plan a) is) stands

  -- the request that is sent after one was refused as busy belongs to the same state
  not_tried : (one request next : Request) → tried_as one ≡ None → Some one ≡ Some request → tried_as request ≡ Some next → ⊥
  not_tried one request next none same e = never (sym none ∙ (ap tried_as (some_is one request same) ∙ e))
    where
      never : None ≡ Some next → ⊥
      never f = cc

  tried_write : (number : ℕ) (tries : Option ℕ) (next : Request) → tried_as (write_after number tries) ≡ Some next
      → (more : Option ℕ) × (Some next ≡ Some (write_after number more))
  tried_write number None next e = (Some 1, sym e)
  tried_write number (Some tries) next e = (Some (tries + 1), sym e)

  tried_end : (tries : Option ℕ) (next : Request) → tried_as (end_after tries) ≡ Some next → (more : Option ℕ) × (Some next ≡ Some (end_after more))
  tried_end None next e = (Some 1, sym e)
  tried_end (Some tries) next e = (Some (tries + 1), sym e)

  tried_in_step : (phase : State) (asked : Option Request) (request next : Request) → IsInStep setup.plan phase asked → asked ≡ Some request
      → tried_as request ≡ Some next → IsInStep setup.plan phase (Some next)
  tried_in_step Looking asked request next is stands e = absurd (not_tried asks.Identify request next refl (sym is ∙ stands) e)
  tried_in_step Addressing asked request next is stands e = absurd (not_tried asks.Address request next refl (sym is ∙ stands) e)
  tried_in_step Connecting asked request next is stands e = absurd (not_tried asks.Connect request next refl (sym is ∙ stands) e)
  tried_in_step Writing asked request next is stands e =
      let same = some_is (write_after is.0 is.1) request (sym is.3 ∙ stands) in
      let more = tried_write is.0 is.1 next (ap tried_as same ∙ e) in
      (is.0, more.0, is.2, more.1)
  tried_in_step Ending asked request next is stands e =
      let same = some_is (end_after is.0) request (sym is.1 ∙ stands) in
      tried_end is.0 next (ap tried_as same ∙ e)
  tried_in_step (Ended reason) asked request next (inl none) stands e = absurd (none_stands request (sym none ∙ stands))
  tried_in_step (Ended reason) asked request next (inr there) stands e = absurd (not_tried (asks.Release there.0) request next refl (sym there.1 ∙ stands) e)
  tried_in_step Waiting asked request next is stands e = absurd (none_stands request (sym is ∙ stands))
  tried_in_step Exchanging asked request next is stands e = absurd (none_stands request (sym is ∙ stands))

  -- the request that belongs to each state
  pub tells : (phase : State) (asked : Option Request) → IsInStep setup.plan phase asked → (request : Request) → asked ≡ Some request → Tells phase asked request
  tells Looking asked in_step request stands = tells_so Looking asked asks.Identify request in_step tt stands
  tells Addressing asked in_step request stands = tells_so Addressing asked asks.Address request in_step tt stands
  tells Connecting asked in_step request stands =
      tells_so Connecting asked asks.Connect request in_step (ap (λ (a : Option Request). asking_of setup.plan a) in_step) stands
  tells Writing asked in_step request stands = tells_write asked in_step.0 in_step.1 request in_step.2 in_step.3 stands
  tells Ending asked in_step request stands = tells_end asked in_step.0 request in_step.1 stands
  tells (Ended reason) asked (inl none) request stands = absurd (none_stands request (sym none ∙ stands))
  tells (Ended reason) asked (inr there) request stands = tells_so (Ended reason) asked (asks.Release there.0) request there.1 (inl refl, refl) stands
  tells phase asked in_step request stands = absurd (none_stands request (sym in_step ∙ stands))

  -- ---- tries

  -- a call that is refused as busy is tried again in its stage, by the next call
  record IsTry (was now : Controller) (sequence tries : ℕ) : Type 0 where
    stage : ℕ
    later : 0 < stage
    before : was ≡ small.Asking stage tries
    after : now ≡ small.Asking stage (tries + 1)
    number : sequence ≡ stage + tries

  abbrev IsTryOf : State → Option Request → Request → Request → Type 0
  IsTryOf phase asked request next = IsTry (state_of setup.plan phase asked) (state_of setup.plan phase (Some next)) (sequence_of setup.plan request) (tries_before request)

  asks_so : (asked : Option Request) (request : Request) → asked ≡ Some request → asking_of setup.plan asked ≡ asking_of setup.plan (Some request)
  asks_so asked request is = ap (λ (a : Option Request). asking_of setup.plan a) is

  try_write : (asked : Option Request) (number : ℕ) (tries : Option ℕ) (next : Request) → asked ≡ Some (write_after number tries)
      → tried_as (write_after number tries) ≡ Some next → IsTryOf Writing asked (write_after number tries) next
  try_write asked number None next is e = record {
    stage = number + 1;
    later = omega arith;
    before = asks_so asked (asks.Write number) is;
    after = asks_so (Some next) (asks.WriteAfter number 1) (sym e);
    number = omega arith;
  }
  try_write asked number (Some tries) next is e = record {
    stage = number + 1;
    later = omega arith;
    before = asks_so asked (asks.WriteAfter number tries) is;
    after = asks_so (Some next) (asks.WriteAfter number (tries + 1)) (sym e);
    number = omega arith;
  }

  try_end : (asked : Option Request) (tries : Option ℕ) (next : Request) → asked ≡ Some (end_after tries) → tried_as (end_after tries) ≡ Some next
      → IsTryOf Ending asked (end_after tries) next
  try_end asked None next is e = record {
    stage = write_count setup.plan + 1;
    later = omega arith;
    before = asks_so asked asks.PrmEnd is;
    after = asks_so (Some next) (asks.PrmEndAfter 1) (sym e);
    number = omega arith;
  }
  try_end asked (Some tries) next is e = record {
    stage = write_count setup.plan + 1;
    later = omega arith;
    before = asks_so asked (asks.PrmEndAfter tries) is;
    after = asks_so (Some next) (asks.PrmEndAfter (tries + 1)) (sym e);
    number = omega arith;
  }

  try_of : (phase : State) (asked : Option Request) (request next : Request) → IsInStep setup.plan phase asked → asked ≡ Some request
      → tried_as request ≡ Some next → IsTryOf phase asked request next
  try_of Looking asked request next is stands e = absurd (not_tried asks.Identify request next refl (sym is ∙ stands) e)
  try_of Addressing asked request next is stands e = absurd (not_tried asks.Address request next refl (sym is ∙ stands) e)
  try_of Connecting asked request next is stands e = absurd (not_tried asks.Connect request next refl (sym is ∙ stands) e)
  try_of Writing asked request next is stands e =
      let same = some_is (write_after is.0 is.1) request (sym is.3 ∙ stands) in
      subst (λ (r : Request). IsTryOf Writing asked r next) same (try_write asked is.0 is.1 next is.3 (ap tried_as same ∙ e))
  try_of Ending asked request next is stands e =
      let same = some_is (end_after is.0) request (sym is.1 ∙ stands) in
      subst (λ (r : Request). IsTryOf Ending asked r next) same (try_end asked is.0 next is.1 (ap tried_as same ∙ e))
  try_of (Ended reason) asked request next (inl none) stands e = absurd (none_stands request (sym none ∙ stands))
  try_of (Ended reason) asked request next (inr there) stands e = absurd (not_tried (asks.Release there.0) request next refl (sym there.1 ∙ stands) e)
  try_of Waiting asked request next is stands e = absurd (none_stands request (sym is ∙ stands))
  try_of Exchanging asked request next is stands e = absurd (none_stands request (sym is ∙ stands))

  -- the number of tries has a bound
  few_tries : (status : Status) (tries : ℕ) → is_tried setup.plan status tries ≡ true → tries < 65535
  few_tries status tries again =
      let parts = and_parts setup.plan.persistent_start (is_busy status && nat_lt tries 65535) again in
      ltb-true tries 65535 (and_parts (is_busy status) (nat_lt tries 65535) parts.1).1

  -- the calls that are counted, while a call of the start-up is made
  pub counted_is : (phase : State) (asked : Option Request) (request : Request) (calls stage tries : ℕ) → state_of setup.plan phase asked ≡ small.Asking stage tries
      → asked ≡ Some request → IsCounted phase asked calls → (calls ≡ tries_before request) × (calls < 65536)
  counted_is Looking asked request calls stage tries asking stands counted = (counted.0 ∙ ap tries_in stands, counted.1)
  counted_is Addressing asked request calls stage tries asking stands counted = (counted.0 ∙ ap tries_in stands, counted.1)
  counted_is Connecting asked request calls stage tries asking stands counted = (counted.0 ∙ ap tries_in stands, counted.1)
  counted_is Writing asked request calls stage tries asking stands counted = (counted.0 ∙ ap tries_in stands, counted.1)
  counted_is Ending asked request calls stage tries asking stands counted = (counted.0 ∙ ap tries_in stands, counted.1)
  counted_is Waiting asked request calls stage tries asking stands counted = absurd cc
  counted_is Exchanging asked request calls stage tries asking stands counted = absurd cc
  counted_is (Ended reason) asked request calls stage tries asking stands counted = absurd cc

  -- before the Connect there are none
  calls_before : (phase : State) (asked : Option Request) (calls : ℕ) → (phase ≡ Looking) ⊎ (phase ≡ Addressing) → IsInStep setup.plan phase asked
      → IsCounted phase asked calls → (calls ≡ 0) × (calls < 65536)
  calls_before Looking asked calls is in_step counted = (counted.0 ∙ ap tries_in in_step, counted.1)
  calls_before Addressing asked calls is in_step counted = (counted.0 ∙ ap tries_in in_step, counted.1)
  calls_before Connecting asked calls (inl is) in_step counted = absurd cc
  calls_before Connecting asked calls (inr is) in_step counted = absurd cc
  calls_before Writing asked calls (inl is) in_step counted = absurd cc
  calls_before Writing asked calls (inr is) in_step counted = absurd cc
  calls_before Ending asked calls (inl is) in_step counted = absurd cc
  calls_before Ending asked calls (inr is) in_step counted = absurd cc
  calls_before Waiting asked calls (inl is) in_step counted = absurd cc
  calls_before Waiting asked calls (inr is) in_step counted = absurd cc
  calls_before Exchanging asked calls (inl is) in_step counted = absurd cc
  calls_before Exchanging asked calls (inr is) in_step counted = absurd cc
  calls_before (Ended reason) asked calls (inl is) in_step counted = absurd cc
  calls_before (Ended reason) asked calls (inr is) in_step counted = absurd cc

  -- a Release that is no longer active changes none of them
  counted_none : (phase : State) (asked : Option Request) (sequence calls : ℕ) → asked ≡ Some (asks.Release sequence) → IsCounted phase asked calls → IsCounted phase None calls
  counted_none Looking asked sequence calls stands counted = (counted.0 ∙ ap tries_in stands, counted.1)
  counted_none Addressing asked sequence calls stands counted = (counted.0 ∙ ap tries_in stands, counted.1)
  counted_none Connecting asked sequence calls stands counted = (counted.0 ∙ ap tries_in stands, counted.1)
  counted_none Writing asked sequence calls stands counted = (counted.0 ∙ ap tries_in stands, counted.1)
  counted_none Ending asked sequence calls stands counted = (counted.0 ∙ ap tries_in stands, counted.1)
  counted_none Waiting asked sequence calls stands counted = counted
  counted_none Exchanging asked sequence calls stands counted = tt
  counted_none (Ended reason) asked sequence calls stands counted = tt

  -- a try counts
  tries_more : (request next : Request) → tried_as request ≡ Some next → tries_before next ≡ tries_before request + 1
  tries_more (asks.Write number) next e = ap tries_in (sym e)
  tries_more asks.PrmEnd next e = ap tries_in (sym e)
  tries_more (asks.WriteAfter number tries) next e = ap tries_in (sym e)
  tries_more (asks.PrmEndAfter tries) next e = ap tries_in (sym e)
  tries_more asks.Identify next e = absurd cc
  tries_more asks.Address next e = absurd cc
  tries_more asks.Connect next e = absurd cc
  tries_more (asks.Release sequence) next e = absurd cc

  tried_counted : (phase : State) (asked : Option Request) (request next : Request) → IsInStep setup.plan phase asked → asked ≡ Some request
      → tried_as request ≡ Some next → (calls : ℕ) → calls ≡ tries_before request → tries_before request < 65535
      → IsCounted phase (Some next) ((calls + 1) % 4294967296)
  tried_counted phase asked request next in_step stands e calls is few = by_phase phase in_step
    where
      count : (calls + 1) % 4294967296 ≡ calls + 1
      count = omega (arith, is, few)

      now : ((calls + 1) % 4294967296 ≡ tries_before next) × ((calls + 1) % 4294967296 < 65536)
      now = (count ∙ (ap (λ (n : ℕ). n + 1) is ∙ sym (tries_more request next e)), subst (λ (n : ℕ). n < 65536) (sym count) (omega (arith, is, few)))

      by_phase : (phase : State) → IsInStep setup.plan phase asked → IsCounted phase (Some next) ((calls + 1) % 4294967296)
      by_phase Waiting in_step = absurd (none_stands request (sym in_step ∙ stands))
      by_phase Exchanging in_step = tt
      by_phase (Ended reason) in_step = tt
      by_phase Looking in_step = now
      by_phase Addressing in_step = now
      by_phase Connecting in_step = now
      by_phase Writing in_step = now
      by_phase Ending in_step = now

  -- the next request is made by the call of the next stage
  module _ (live after : Live) (number : ℕ) (tries : ℕ) (heard : ToController) (reply : Reply) (before : small_of setup.plan live ≡ small.Asking number tries)
      (answers : heard ≡ small.Answers (number + tries) reply)
      (granted : ((reply.done && says_written setup.plan number reply.blocks) ≡ true) ⊎ (setup.plan.continue_on_refused_record ≡ true))
      (few : number ≤ write_count setup.plan) (idle : after.access.waiting ≡ None) (free : after.access.plug ≡ None) (counted : after.access.calls ≡ tries)
      (small_count : after.access.calls < 65536) where
    next_moves : (now : Controller) → now ≡ small.Asking (number + 1) tries
        → Moves (says_written setup.plan) setup.plan.continue_on_refused_record (write_count setup.plan) heard (small_of setup.plan live) now
    next_moves now is = inr (inr (inr (inl (record {
      stage = number;
      tries = tries;
      reply = reply;
      asked = before;
      answered = answers;
      granted = granted;
      becomes = inl (few, is);
    }))))

    last_is : nat_lt number (write_count setup.plan) ≡ false → write_count setup.plan ≡ number
    last_is above = let not_below = ltb-false number (write_count setup.plan) above in omega (arith, few, not_below)

    writing_by : tries ≡ 0 → (b : Bool) → nat_lt number (write_count setup.plan) ≡ b
        → GoesOn setup.plan heard live (writing setup (cond b (asks.Write number) asks.PrmEnd) after)
    writing_by none true below = record {
      in_step = record { asked = (number, None, ltb-true number (write_count setup.plan) below, refl); waiting = idle; plug = free; calls = (counted ∙ none, small_count) };
      moves = next_moves _ (ap (λ (t : ℕ). small.Asking (number + 1) t) (sym none));
      says = (inr (inl (record { stage = number + 1; tries = 0; calls = refl; number = omega arith; asked = (ltb-true number (write_count setup.plan) below, refl) })), tt);
    }
    writing_by none false above = record {
      in_step = record { asked = (None, refl); waiting = idle; plug = free; calls = (counted ∙ none, small_count) };
      moves = next_moves _ (ap (λ (n : ℕ). small.Asking (n + 1) 0) (last_is above) ∙ ap (λ (t : ℕ). small.Asking (number + 1) t) (sym none));
      says = (inr (inl (record { stage = write_count setup.plan + 1; tries = 0; calls = refl; number = omega arith; asked = refl })), tt);
    }

    writing_goes : tries ≡ 0 → GoesOn setup.plan heard live (writing setup (writing_from setup.plan number) after)
    writing_goes none = writing_by none (nat_lt number (write_count setup.plan)) refl

    -- after calls were refused as busy
    rewriting_by : (b : Bool) → nat_lt number (write_count setup.plan) ≡ b
        → GoesOn setup.plan heard live (writing setup (cond b (asks.WriteAfter number tries) (asks.PrmEndAfter tries)) after)
    rewriting_by true below = record {
      in_step = record { asked = (number, Some tries, ltb-true number (write_count setup.plan) below, refl); waiting = idle; plug = free; calls = (counted, small_count) };
      moves = next_moves _ refl;
      says = (inr (inl (record { stage = number + 1; tries = tries; calls = refl; number = omega arith; asked = (ltb-true number (write_count setup.plan) below, refl) })), tt);
    }
    rewriting_by false above = record {
      in_step = record { asked = (Some tries, refl); waiting = idle; plug = free; calls = (counted, small_count) };
      moves = next_moves _ (ap (λ (n : ℕ). small.Asking (n + 1) tries) (last_is above));
      says = (inr (inl (record { stage = write_count setup.plan + 1; tries = tries; calls = refl; number = omega arith; asked = refl })), tt);
    }

    rewriting_goes : GoesOn setup.plan heard live (writing setup (writing_after setup.plan number tries) after)
    rewriting_goes = rewriting_by (nat_lt number (write_count setup.plan)) refl

  -- a response is heard as the response that it is
  is_heard : (request : Request) (response : Response) → is_answer setup request response.header ≡ true
      → said_to setup (Responds response) ≡ small.Answers (sequence_of setup.plan request) (reply_of response)
  is_heard request response e =
      let call = and_parts (is_call request) (pointwise nat_eq response.header.activity setup.activity && (response.header.sequence == sequence_of setup.plan request)) e in
      let parts = and_parts (pointwise nat_eq response.header.activity setup.activity) (response.header.sequence == sequence_of setup.plan request) call.1 in
      let sequence : response.header.sequence ≡ sequence_of setup.plan request = eqb-true response.header.sequence (sequence_of setup.plan request) parts.1 in
      heard_answer (pointwise nat_eq response.header.activity setup.activity) response.header.sequence (reply_of response) parts.0
      ∙ ap (λ (s : ℕ). small.Answers s (reply_of response)) sequence
    where
      heard_answer : (b : Bool) (s : ℕ) (reply : Reply) → b ≡ true → cond b (small.Answers s reply) small.Nothing ≡ small.Answers s reply
      heard_answer true s reply own = refl
      heard_answer false s reply own = absurd cc

  -- the response to the call of a stage, after some tries
  heard_at : (request : Request) (response : Response) (stage tries : ℕ) → is_answer setup request response.header ≡ true → sequence_of setup.plan request ≡ stage + tries
      → said_to setup (Responds response) ≡ small.Answers (stage + tries) (reply_of response)
  heard_at request response stage tries e number =
      is_heard request response e ∙ ap (λ (s : ℕ). small.Answers s (reply_of response)) number

  -- what the blocks of a response say: nothing but those of a Write
  unless : (b one : Bool) → (b ≡ true → one ≡ true) → cond b one true ≡ true
  unless true one so = so refl
  unless false one so = refl

  write_says : (number : ℕ) (blocks : List ℕ) → are_written setup.plan number blocks ≡ true → says_written setup.plan (number + 1) blocks ≡ true
  write_says number blocks written =
      ap (λ (s : ℕ). says_written setup.plan s blocks) (add-one number)
      ∙ unless (nat_lt number (write_count setup.plan)) (are_written setup.plan number blocks) (λ _. written)

  end_says : (blocks : List ℕ) → says_written setup.plan (write_count setup.plan + 1) blocks ≡ true
  end_says blocks =
      let count = write_count setup.plan in
      ap (λ (s : ℕ). says_written setup.plan s blocks) (add-one count)
      ∙ unless (nat_lt count count) (are_written setup.plan count blocks) (λ e. let below = ltb-true count count e in absurd (omega (arith, below)))

  -- an end of alarms, and an alarm that is stored, change nothing of a start-up
  pub record IsAlike (live after : Live) : Type 0 where
    pub phase : after.phase ≡ live.phase
    pub asked : after.asked ≡ live.asked
    pub waits : after.access.waiting ≡ live.access.waiting
    pub plugs : after.access.plug ≡ live.access.plug
    pub calls : after.access.calls ≡ live.access.calls

  pub alike : (live : Live) → IsAlike live live
  alike live = record { phase = refl; asked = refl; waits = refl; plugs = refl; calls = refl }

  pub end_alike : (live : Live) (priority : Priority) (end : ControllerEnd) → IsAlike live (with_end live priority end)
  end_alike live High end = record { phase = refl; asked = refl; waits = refl; plugs = refl; calls = refl }
  end_alike live Low end = record { phase = refl; asked = refl; waits = refl; plugs = refl; calls = refl }

  keeping_alike : (live : Live) (priority : Priority) (alarm : AlarmNotification) (user_structure : Option ℕ) → IsAlike live (keeping live priority alarm user_structure)
  keeping_alike live High alarm user_structure = record { phase = refl; asked = refl; waits = refl; plugs = refl; calls = refl }
  keeping_alike live Low alarm user_structure = record { phase = refl; asked = refl; waits = refl; plugs = refl; calls = refl }

  alike_on : (live next after : Live) → IsAlike live next → IsAlike next after → IsAlike live after
  alike_on live next after one other = record { phase = other.phase ∙ one.phase; asked = other.asked ∙ one.asked; waits = other.waits ∙ one.waits; plugs = other.plugs ∙ one.plugs; calls = other.calls ∙ one.calls }

  diagnosing_alike : (live after : Live) (report : Report) → IsAlike live after → IsAlike live (diagnosing report after)
  diagnosing_alike live after report is = record { phase = is.phase; asked = is.asked; waits = is.waits; plugs = is.plugs; calls = is.calls }

  pub confirming_alike : (live after : Live) (report : Report) → IsAlike live after → IsAlike live (confirming after report)
  confirming_alike live after report is =
      let acked = acking after report.priority (ack_of report.notification) in
      let kept = keeping acked report.priority (kept_alarm report.notification) report.user_structure in
      diagnosing_alike live kept report (alike_on live acked kept
      (alike_on live after acked is (end_alike after report.priority (confirmed (end_of after report.priority) (ack_of report.notification))))
      (keeping_alike acked report.priority (kept_alarm report.notification) report.user_structure))

  alike_goes : (heard : ToController) (live after : Live) (sent : List Sent) → IsSteady setup.plan live → IsAlike live after → AllByRecursion (IsInactive setup.plan) sent
      → GoesOn setup.plan heard live (record { live = after; sent = sent })
  alike_goes heard live after sent steady is inactive = same_goes setup.plan heard live after sent steady is.phase is.asked (inl is.waits) (inl is.plugs) is.calls inactive

  taken_goes : (heard : ToController) (live after : Live) (report : Report) (came : Taken) → IsSteady setup.plan live → IsAlike live after
      → GoesOn setup.plan heard live (taken after report came)
  taken_goes heard live after report New steady is = alike_goes heard live (confirming after report) _ steady (confirming_alike live after report is) (refl, (refl, tt))
  taken_goes heard live after report Again steady is = alike_goes heard live after _ steady is (refl, tt)
  taken_goes heard live after report Refused steady is = alike_goes heard live after _ steady is (refl, tt)

  -- the pending request says what it may
  request_says : (phase : State) (asked : Option Request) (request : Request) → Tells phase asked request
      → SaysToDevice (write_count setup.plan) (state_of setup.plan phase asked) (asked_by setup.plan request)
  request_says phase asked asks.Identify reported = tt
  request_says phase asked asks.Address reported = tt
  request_says phase asked asks.Connect reported = inr (inl (record { stage = 0; tries = 0; calls = reported; number = refl; asked = refl }))
  request_says phase asked (asks.Write number) reported =
      inr (inl (record { stage = number + 1; tries = 0; calls = reported.1; number = omega arith; asked = (reported.0, refl) }))
  request_says phase asked asks.PrmEnd reported =
      inr (inl (record { stage = write_count setup.plan + 1; tries = 0; calls = reported; number = omega arith; asked = refl }))
  request_says phase asked (asks.Release sequence) reported = inl refl
  request_says phase asked (asks.WriteAfter number tries) reported =
      inr (inl (record { stage = number + 1; tries = tries; calls = reported.1; number = omega arith; asked = (reported.0, refl) }))
  request_says phase asked (asks.PrmEndAfter tries) reported =
      inr (inl (record { stage = write_count setup.plan + 1; tries = tries; calls = reported; number = omega arith; asked = refl }))

  abbrev AreSaid : Controller → List Sent → Type 0
  AreSaid now sent = AllByRecursion (λ message. SaysToDevice (write_count setup.plan) now (said_by setup.plan message)) sent

  requests_say : (device : Mac) (phase : State) (asked request : Option Request) → request ≡ asked → IsInStep setup.plan phase asked → AreSaid (state_of setup.plan phase asked) (requests_of device request)
  requests_say device phase asked (Some request) is in_step = (request_says phase asked request (tells phase asked in_step request (sym is)), tt)
  requests_say device phase asked None is in_step = tt

  due_say : (now : Controller) (b : Bool) (sent : List Sent) → AreSaid now sent → AreSaid now (where_due b sent)
  due_say now true sent all = all
  due_say now false sent all = tt

  both_say : (now : Controller) (sent more : List Sent) → AreSaid now sent → AreSaid now more → AreSaid now (sent ++ more)
  both_say now [] more all others = others
  both_say now (message ∷ sent) more all others = (all.0, both_say now sent more all.1 others)

  -- a request of the application that waits says what it may
  accesses_say : (device : Mac) (octets : List ℕ) (phase : State) (asked : Option Request) (waiting : Option RecordRequest) → MayWait phase waiting
      → AreSaid (state_of setup.plan phase asked) (accesses_by device octets waiting)
  accesses_say device octets phase asked None waits = tt
  accesses_say device octets Exchanging asked (Some request) waits = (inr (inr (refl, refl)), tt)
  accesses_say device octets Looking asked (Some request) waits = absurd (none_some request waits)
  accesses_say device octets Addressing asked (Some request) waits = absurd (none_some request waits)
  accesses_say device octets Connecting asked (Some request) waits = absurd (none_some request waits)
  accesses_say device octets Writing asked (Some request) waits = absurd (none_some request waits)
  accesses_say device octets Ending asked (Some request) waits = absurd (none_some request waits)
  accesses_say device octets Waiting asked (Some request) waits = absurd (none_some request waits)
  accesses_say device octets (Ended cause) asked (Some request) waits = absurd (none_some request waits)

  -- and so does that after a plug
  plugs_say : (device : Mac) (phase : State) (asked : Option Request) (plug : Option PlugRequest) → MayWait phase plug
      → AreSaid (state_of setup.plan phase asked) (plugs_by device plug)
  plugs_say device phase asked None waits = tt
  plugs_say device Exchanging asked (Some request) waits = (inr (inr (refl, refl)), tt)
  plugs_say device Looking asked (Some request) waits = absurd (none_some request waits)
  plugs_say device Addressing asked (Some request) waits = absurd (none_some request waits)
  plugs_say device Connecting asked (Some request) waits = absurd (none_some request waits)
  plugs_say device Writing asked (Some request) waits = absurd (none_some request waits)
  plugs_say device Ending asked (Some request) waits = absurd (none_some request waits)
  plugs_say device Waiting asked (Some request) waits = absurd (none_some request waits)
  plugs_say device (Ended cause) asked (Some request) waits = absurd (none_some request waits)

  beside_say : (live : Live) (is_plug : Bool) → IsSteady setup.plan live → AreSaid (small_of setup.plan live) (if is_plug then plugs_of live else accesses_of live)
  beside_say live true steady = plugs_say live.device live.phase live.asked live.access.plug steady.plug
  beside_say live false steady = accesses_say live.device live.access.octets live.phase live.asked live.access.waiting steady.waiting

  pending_say : (live : Live) (asked : Option Request) → asked ≡ live.asked → IsSteady setup.plan live → AreSaid (small_of setup.plan live) (pending_by live asked)
  pending_say live (Some request) is steady = requests_say live.device live.phase live.asked (Some request) is steady.asked
  pending_say live None is steady = beside_say live (is_some live.access.plug) steady

  acks_say : (now : Controller) (live : Live) (priority : Priority) (ack : Option AlarmAck) → AreSaid now (acks_in live priority ack)
  acks_say now live priority (Some ack) = (tt, tt)
  acks_say now live priority None = tt

  due_frames_say : (live : Live) (is_high is_low is_request is_cyclic : Bool) → IsSteady setup.plan live → AreSaid (small_of setup.plan live) (due_frames live is_high is_low is_request is_cyclic)
  due_frames_say live is_high is_low is_request is_cyclic steady =
      let now = small_of setup.plan live in
      both_say now (where_due is_high (acks_of live High)) _ (due_say now is_high (acks_of live High) (acks_say now live High live.alarms.confirming))
      (both_say now (where_due is_low (acks_of live Low)) _ (due_say now is_low (acks_of live Low) (acks_say now live Low live.low_alarms.confirming))
      (both_say now (where_due is_request (pending_of live)) _
      (due_say now is_request (pending_of live) (pending_say live live.asked refl steady))
      (due_say now is_cyclic (outputs_of live) (tt, tt))))

  -- ---- the turn of a place that begins

  turn_steady : (before after : Live) → IsBegun setup before after → IsSteady setup.plan before → IsSteady setup.plan after
  turn_steady before after begun steady =
      let phase : after.phase ≡ Exchanging = ap (λ (l : Live). l.phase) begun.beside ∙ begun.phase in
      record {
        asked = subst (λ (l : Live). IsInStep setup.plan l.phase l.asked) (sym begun.beside) steady.asked;
        waiting = subst (λ (p : State). MayWait p after.access.waiting) (sym phase) tt;
        plug = subst (λ (p : State). MayWait p after.access.plug) (sym phase) tt;
        calls = subst (λ (p : State). IsCounted p after.asked after.access.calls) (sym phase) tt;
      }

  turn_small : (before after : Live) → IsBegun setup before after → small_of setup.plan after ≡ small_of setup.plan before
  turn_small before after begun = ap (λ (l : Live). state_of setup.plan l.phase l.asked) begun.beside

  begins_steady : (before after : Live) → MayBegin setup before after → IsSteady setup.plan before → IsSteady setup.plan after
  begins_steady before after (inl e) steady = subst (λ (l : Live). IsSteady setup.plan l) (sym e) steady
  begins_steady before after (inr begun) steady = turn_steady before after begun steady

  begins_small : (before after : Live) → MayBegin setup before after → small_of setup.plan after ≡ small_of setup.plan before
  begins_small before after (inl e) = ap (λ (l : Live). small_of setup.plan l) e
  begins_small before after (inr begun) = turn_small before after begun

  -- its call is one that is made while data is exchanged
  follows_goes : (heard : ToController) (live : Live) (turn after : Turn) → MayFollow setup turn after → GoesOn setup.plan heard live turn → GoesOn setup.plan heard live after
  follows_goes heard live turn after (inl e) goes = subst (λ (t : Turn). GoesOn setup.plan heard live t) (sym e) goes
  follows_goes heard live turn after (inr followed) goes =
      let begun = followed.begun in
      let same = turn_small turn.live after.live begun in
      let exchanges : small_of setup.plan turn.live ≡ small.Exchanges = ap (λ (p : State). state_of setup.plan p turn.live.asked) begun.phase in
      record {
        in_step = turn_steady turn.live after.live begun goes.in_step;
        moves = subst (λ (c : Controller). Moves (says_written setup.plan) setup.plan.continue_on_refused_record (write_count setup.plan) heard (small_of setup.plan live) c) (sym same) goes.moves;
        says = subst (λ (c : Controller). AreSaid c after.sent) (sym same)
            (subst (λ (sent : List Sent). AreSaid (small_of setup.plan turn.live) sent) (sym followed.sent)
            (both_say (small_of setup.plan turn.live) turn.sent (Parametrizes turn.live.device begun.request ∷ []) goes.says (inr (inr (refl, exchanges)), tt)));
      }

  after_goes : (heard : ToController) (live : Live) (turn : Turn) → GoesOn setup.plan heard live turn → GoesOn setup.plan heard live (after_turn setup (can_begin live) turn)
  after_goes heard live turn goes = follows_goes heard live turn (after_turn setup (can_begin live) turn) (follows setup (can_begin live) turn) goes

  -- what waits beside the exchange waits only while data is exchanged
  waits_exchanging : {A : Type 0} (phase : State) (waiting : Option A) (request : A) → MayWait phase waiting → waiting ≡ Some request → phase ≡ Exchanging
  waits_exchanging Exchanging waiting request waits is = refl
  waits_exchanging Looking waiting request waits is = absurd (none_some request (sym is ∙ waits))
  waits_exchanging Addressing waiting request waits is = absurd (none_some request (sym is ∙ waits))
  waits_exchanging Connecting waiting request waits is = absurd (none_some request (sym is ∙ waits))
  waits_exchanging Writing waiting request waits is = absurd (none_some request (sym is ∙ waits))
  waits_exchanging Ending waiting request waits is = absurd (none_some request (sym is ∙ waits))
  waits_exchanging Waiting waiting request waits is = absurd (none_some request (sym is ∙ waits))
  waits_exchanging (Ended cause) waiting request waits is = absurd (none_some request (sym is ∙ waits))

  -- a turn while data is exchanged
  exchanging_goes : (heard : ToController) (live after : Live) (sent : List Sent) → IsSteady setup.plan live → live.phase ≡ Exchanging → after.phase ≡ live.phase
      → after.asked ≡ live.asked → AreSaid small.Exchanges sent → GoesOn setup.plan heard live (record { live = after; sent = sent })
  exchanging_goes heard live after sent steady exchanges phase asked says =
      let now : after.phase ≡ Exchanging = phase ∙ exchanges in
      let same : small_of setup.plan after ≡ small_of setup.plan live =
      ap (λ (p : State). state_of setup.plan p after.asked) phase ∙ ap (λ (a : Option Request). state_of setup.plan live.phase a) asked in
      record {
        in_step = record {
          asked = subst (λ (p : State). IsInStep setup.plan p after.asked) (sym phase) (subst (λ (a : Option Request). IsInStep setup.plan live.phase a) (sym asked) steady.asked);
          waiting = subst (λ (p : State). MayWait p after.access.waiting) (sym now) tt;
          plug = subst (λ (p : State). MayWait p after.access.plug) (sym now) tt;
          calls = subst (λ (p : State). IsCounted p after.asked after.access.calls) (sym now) tt;
        };
        moves = inl same;
        says = subst (λ (p : State). AreSaid (state_of setup.plan p after.asked) sent) (sym now) says;
      }

  -- ---- each kind

  abbrev said_of : Came → ToController
  said_of (Hears heard) = said_to setup heard
  said_of other = small.Nothing

  said_is : (event : Event) → said_of (came_by setup event) ≡ said_in setup (heard_of setup.plan.controller) event
  said_is (Frame bytes) = refl
  said_is event = refl

  module _ (live : Live) (came : Came) (steady : IsSteady setup.plan live) where
    abbrev in_step : IsInStep setup.plan live.phase live.asked
    in_step = steady.asked

    abbrev heard : ToController
    heard = said_of came

    seeking : (live.phase ≡ Looking) ⊎ (live.phase ≡ Addressing) → small_of setup.plan live ≡ small.Seeking
    seeking (inl is) = ap (λ (p : State). state_of setup.plan p live.asked) is
    seeking (inr is) = ap (λ (p : State). state_of setup.plan p live.asked) is

    -- no request of the application waits before data is exchanged
    idle_seeking : (live.phase ≡ Looking) ⊎ (live.phase ≡ Addressing) → live.access.waiting ≡ None
    idle_seeking (inl is) = subst (λ (p : State). MayWait p live.access.waiting) is steady.waiting
    idle_seeking (inr is) = subst (λ (p : State). MayWait p live.access.waiting) is steady.waiting

    idle_asked : (request : Request) → live.asked ≡ Some request → live.access.waiting ≡ None
    idle_asked request stood = none_waits setup.plan live.phase live.asked request live.access.waiting in_step stood steady.waiting

    calls_seeking : (live.phase ≡ Looking) ⊎ (live.phase ≡ Addressing) → (live.access.calls ≡ 0) × (live.access.calls < 65536)
    calls_seeking (inl is) = calls_before live.phase live.asked live.access.calls (inl is) in_step steady.calls
    calls_seeking (inr is) = calls_before live.phase live.asked live.access.calls (inr is) in_step steady.calls

    -- and none after a plug
    free_seeking : (live.phase ≡ Looking) ⊎ (live.phase ≡ Addressing) → live.access.plug ≡ None
    free_seeking (inl is) = subst (λ (p : State). MayWait p live.access.plug) is steady.plug
    free_seeking (inr is) = subst (λ (p : State). MayWait p live.access.plug) is steady.plug

    free_asked : (request : Request) → live.asked ≡ Some request → live.access.plug ≡ None
    free_asked request stood = none_waits setup.plan live.phase live.asked request live.access.plug in_step stood steady.plug

    -- the positive response to the call of a stage, after some tries
    granted_at : (request : Request) (stage tries : ℕ) → (g : IsGranted setup live came request) → sequence_of setup.plan request ≡ stage + tries
        → heard ≡ small.Answers (stage + tries) (reply_of g.response)
    granted_at request stage tries g number = ap said_of g.comes ∙ heard_at request g.response stage tries g.right number

    granted_well : (request : Request) (stage : ℕ) → (g : IsGranted setup live came request) → says_written setup.plan stage g.response.blocks ≡ true
        → ((reply_of g.response).done && says_written setup.plan stage (reply_of g.response).blocks) ≡ true
    granted_well request stage g says = ap (λ (d : Bool). d && says_written setup.plan stage g.response.blocks) g.granted ∙ says

    -- how many calls were refused as busy before this one
    calls_of : (request : Request) (stage tries : ℕ) → small_of setup.plan live ≡ small.Asking stage tries → live.asked ≡ Some request
        → (live.access.calls ≡ tries_before request) × (live.access.calls < 65536)
    calls_of request stage tries asking stood = counted_is live.phase live.asked request live.access.calls stage tries asking stood steady.calls

    readied_said : (caller : Caller) (call : Call) (block : ControlBlock) → IsReadied setup came caller call block → heard ≡ small.Readies
    readied_said caller call block ready =
        ap said_of ready.comes ∙ ap (λ (o : Option ControlBlock). readied_by setup o) ready.is ∙ ap (λ (b : Bool). cond b small.Readies small.Nothing) ready.right

    -- the active Release, which is answered or refused
    release_in : (came_so : Heard) → IsReleased setup live came_so → (sequence : ℕ) × (live.asked ≡ Some (asks.Release sequence))
    release_in came_so (inl answered) = (answered.sequence, answered.stood)
    release_in came_so (inr refused) = (refused.sequence, refused.stood)

    -- the Write after this one, because all its records were accepted, or although one was refused
    writes_on : (after : Live) (number : ℕ) (tries : Option ℕ) (response : Response) → live.asked ≡ Some (write_after number tries)
        → said_of came ≡ said_to setup (Responds response) → is_answer setup (write_after number tries) response.header ≡ true
        → (((reply_of response).done && says_written setup.plan (number + 1) response.blocks) ≡ true) ⊎ (setup.plan.continue_on_refused_record ≡ true)
        → after.access ≡ live.access → GoesOn setup.plan heard live (writing setup (behind_write setup.plan number tries) after)
    writes_on after number None response stood comes right granted same =
        let request = asks.Write number in
        let there = tells live.phase live.asked in_step request stood in
        let counted = calls_of request (number + 1) 0 there.1 stood in
        writing_goes live after (number + 1) 0 heard (reply_of response) there.1 (comes ∙ heard_at request response (number + 1) 0 right (omega arith)) granted
        (omega (arith, there.0)) (ap (λ (a : Accessing). a.waiting) same ∙ idle_asked request stood) (ap (λ (a : Accessing). a.plug) same ∙ free_asked request stood)
        (ap (λ (a : Accessing). a.calls) same ∙ counted.0) (subst (λ (a : Accessing). a.calls < 65536) (sym same) counted.1) refl
    writes_on after number (Some tries) response stood comes right granted same =
        let request = asks.WriteAfter number tries in
        let there = tells live.phase live.asked in_step request stood in
        let counted = calls_of request (number + 1) tries there.1 stood in
        rewriting_goes live after (number + 1) tries heard (reply_of response) there.1 (comes ∙ heard_at request response (number + 1) tries right (omega arith)) granted
        (omega (arith, there.0)) (ap (λ (a : Accessing). a.waiting) same ∙ idle_asked request stood) (ap (λ (a : Accessing). a.plug) same ∙ free_asked request stood)
        (ap (λ (a : Accessing). a.calls) same ∙ counted.0) (subst (λ (a : Accessing). a.calls < 65536) (sym same) counted.1)

    -- the response to PrmEnd
    waits_on : (request : Request) (tries : ℕ) → (g : IsGranted setup live came request) → small_of setup.plan live ≡ small.Asking (write_count setup.plan + 1) tries
        → sequence_of setup.plan request ≡ write_count setup.plan + 1 + tries
        → GoesOn setup.plan heard live (stays (record live { phase = Waiting; asked = None; left = setup.options.waiting_patience }))
    waits_on request tries g asking number = record {
      in_step = record { asked = refl; waiting = idle_asked request g.stood; plug = free_asked request g.stood; calls = (calls_of request (write_count setup.plan + 1) tries asking g.stood).1 };
      moves = inr (inr (inr (inl (record {
        stage = write_count setup.plan + 1;
        tries = tries;
        reply = reply_of g.response;
        asked = asking;
        answered = granted_at request (write_count setup.plan + 1) tries g number;
        granted = inl (granted_well request (write_count setup.plan + 1) g (end_says g.response.blocks));
        becomes = inr refl;
      }))));
      says = tt;
    }

    kind_goes : (kind : Kind) → IsKind setup live came kind → GoesOn setup.plan heard live (turn_by setup live kind)
    kind_goes Rests holds = stays_goes setup.plan heard live steady
    kind_goes (Connects source) holds = record {
      in_step = record { asked = refl; waiting = idle_seeking holds.seeking; plug = free_seeking holds.seeking; calls = calls_seeking holds.seeking };
      moves = inr (inr (inl (seeking holds.seeking, refl)));
      says = (inr (inl (record { stage = 0; tries = 0; calls = refl; number = refl; asked = refl })), tt);
    }
    kind_goes (Addresses source) holds = record {
      in_step = record { asked = refl; waiting = idle_seeking holds.0.seeking; plug = free_seeking holds.0.seeking; calls = calls_seeking holds.0.seeking };
      moves = inl (sym (seeking holds.0.seeking));
      says = (tt, tt);
    }
    kind_goes (Ends reason refusal refused units) holds =
        record { in_step = record { asked = inl refl; waiting = refl; plug = refl; calls = tt }; moves = inr (inl refl); says = tt }
    kind_goes (Releases reason refusal refused units) holds = released_goes heard reason live (record live { refusal = refusal; refused_record = refused; units = units })
    kind_goes (Relates places chosen) holds =
        let granted = holds.0 in
        let asking = tells live.phase live.asked in_step asks.Connect granted.stood in
        let counted = calls_of asks.Connect 0 0 asking granted.stood in
        writing_goes live (standing setup (record live { places = places }) chosen) 0 0 heard (reply_of granted.response) asking
        (granted_at asks.Connect 0 0 granted refl) (inl (granted_well asks.Connect 0 granted refl)) (omega arith)
        (idle_asked asks.Connect granted.stood) (free_asked asks.Connect granted.stood) counted.0 counted.1 refl
    kind_goes (Writes number tries) holds =
        let granted = holds.0 in
        let request = write_after number tries in
        writes_on live number tries granted.response granted.stood (ap said_of granted.comes) granted.right
        (inl (granted_well request (number + 1) granted (write_says number granted.response.blocks holds.1))) refl
    kind_goes (Skips number tries refused status) holds =
        writes_on (noted status refused live) number tries holds.response holds.stood (ap said_of holds.comes) holds.right (inr holds.goes_on) refl
    kind_goes (Tries next status) holds =
        let try = try_of live.phase live.asked holds.request next in_step holds.stood holds.tries in
        let counted = calls_of holds.request try.stage (tries_before holds.request) try.before holds.stood in
        let few = few_tries status (tries_before holds.request) holds.again in
        record {
          in_step = record {
            asked = tried_in_step live.phase live.asked holds.request next in_step holds.stood holds.tries;
            waiting = steady.waiting;
            plug = steady.plug;
            calls = tried_counted live.phase live.asked holds.request next in_step holds.stood holds.tries live.access.calls counted.0 few;
          };
          moves = inr (inr (inr (inr (inr (record {
            stage = try.stage;
            tries = tries_before holds.request;
            reply = reply_of holds.response;
            asked = try.before;
            later = try.later;
            answered = ap said_of holds.comes ∙ heard_at holds.request holds.response try.stage (tries_before holds.request) holds.right try.number;
            refused = holds.negative;
            becomes = try.after;
          })))));
          says = tt;
        }
    kind_goes (Waits None) holds =
        waits_on asks.PrmEnd 0 holds (tells live.phase live.asked in_step asks.PrmEnd holds.stood) (omega arith)
    kind_goes (Waits (Some tries)) holds =
        waits_on (asks.PrmEndAfter tries) tries holds (tells live.phase live.asked in_step (asks.PrmEndAfter tries) holds.stood) (omega arith)
    kind_goes Forgets holds =
        let there = release_in holds.0 holds.2 in
        let ends = tells live.phase live.asked in_step (asks.Release there.0) there.1 in
        record { in_step = record { asked = ends.0; waiting = steady.waiting; plug = steady.plug; calls = counted_none live.phase live.asked there.0 live.access.calls there.1 steady.calls }; moves = inr (inl ends.1); says = tt }
    kind_goes (Begins caller call block) holds = record {
      in_step = record { asked = refl; waiting = tt; plug = tt; calls = tt };
      moves = inr (inr (inr (inr (inl (readied_said caller call block holds.1, refl)))));
      says = (refl, tt);
    }
    kind_goes (Repeats caller call block) holds =
        record { in_step = steady; moves = inl refl; says = (ap (λ (p : State). state_of setup.plan p live.asked) holds.0, tt) }
    kind_goes (Takes number report) holds =
        let behind = behind_data live report.priority number in
        let as_what = taken_as (end_of live report.priority).seen number in
        after_goes heard live (taken behind report as_what)
        (taken_goes heard live behind report as_what steady
        (end_alike live report.priority (with_data (end_of live report.priority) number)))
    kind_goes (IsAcked priority number) holds =
        alike_goes heard live (behind_ack live priority number) [] steady (end_alike live priority (with_ack (end_of live priority) number)) tt
    kind_goes (Asks request octets) holds =
        let now = ap (λ (p : State). state_of setup.plan p live.asked) holds.0 in
        record {
          in_step = record {
            asked = in_step;
            waiting = subst (λ (p : State). MayWait p (Some request)) (sym holds.0) tt;
            plug = steady.plug;
            calls = subst (λ (p : State). IsCounted p live.asked ((live.access.calls + 1) % 4294967296)) (sym holds.0) tt;
          };
          moves = inl refl;
          says = (inr (inr (refl, now)), tt);
        }
    kind_goes (IsReplied refusal access) holds =
        let next : Live = record live { refusal = refusal; access = access } in
        after_goes heard live (stays next) (same_goes setup.plan heard live next [] steady refl refl (inr holds.1) (inr holds.6) holds.2 tt)
    kind_goes (IsPlugAnswered refusal refused waited places access) holds =
        let next : Live = record live { refusal = refusal; refused_record = refused; waited = waited; places = places; access = access } in
        after_goes heard live (asks_next next)
        (exchanging_goes heard live next (plugs_of next) steady (waits_exchanging live.phase live.access.plug holds.4 steady.plug holds.5) refl refl
        (plugs_say live.device Exchanging live.asked access.plug tt))
    kind_goes (IsPlugReadied caller call block) holds =
        let number = block.alarm_sequence_number in
        let sent : List Sent = Agrees caller (plug_answer call block) ∷ [] in
        after_goes heard live (record { live = plug_readied live number; sent = sent })
        (exchanging_goes heard live (plug_readied live number) sent steady holds.0 refl refl (refl, tt))
    kind_goes Flows holds =
        let next = flow_begun setup live in
        let now = begins_steady (flow_later live) next (flows setup live) (steady_on setup.plan live (flow_later live) steady refl refl (inl refl) (inl refl) refl) in
        record {
          in_step = now;
          moves = inl (begins_small (flow_later live) next (flows setup live));
          says = due_frames_say next (is_repeated (due live.alarms.sending)) (is_repeated (due live.low_alarms.sending)) (is_again live) (brought live).is_cyclic now;
        }
    kind_goes (Breaks reason) holds = record { in_step = record { asked = inl refl; waiting = refl; plug = refl; calls = tt }; moves = inr (inl refl); says = (tt, tt) }
    kind_goes Idles holds = record {
      in_step = steady_on setup.plan live (later live) steady refl refl (inl refl) (inl refl) refl;
      moves = inl refl;
      says = due_say (small_of setup.plan live) (is_again live) (requests_of live.device live.asked) (requests_say live.device live.phase live.asked live.asked refl in_step);
    }
    kind_goes other holds = same_goes setup.plan heard live _ [] steady refl refl (inl refl) (inl refl) refl tt

  pub event_goes : (live : Live) (event : Event) → IsTurn setup live (came_by setup event) (turn_of setup live event) → IsSteady setup.plan live
      → GoesOn setup.plan (said_in setup (heard_of setup.plan.controller) event) live (turn_of setup live event)
  event_goes live event turn steady =
      subst (λ (h : ToController). GoesOn setup.plan h live (turn_of setup live event)) (said_is event)
      (subst (λ (t : Turn). GoesOn setup.plan (said_of (came_by setup event)) live t) (sym turn.is) (kind_goes live (came_by setup event) steady turn.kind turn.holds))
