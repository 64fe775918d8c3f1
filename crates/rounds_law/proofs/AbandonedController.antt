-- What a controller does in the middle of its start-up if its device has no relation any more.
use Rattle.std.proofs.Common.{◌≡◌, ◌⊎◌, inl, inr, ◌==◌, ◌&&◌, ◌+◌, ◌++◌, ◌≤◌, ◌<◌, ℕ, nat_lt, Bool, true, false, List, [], ◌∷◌, map, Option, Some, None}
use Rattle.std.proofs.Common.{is_some, refl, sym, ap, subst, ◌∙◌, arith}
use Rattle.std.specs.Prelude.{if◌then◌else◌}
use Rattle.std.proofs.lemmas.Bool.Decides.{nat_tests}
use Rattle.std.proofs.lemmas.List.{map-append}
use Rattle.pn_values.specs.declared.identity.Identity.{Identity}
use Rattle.pn_values.specs.declared.mac.Mac.{Mac}
use Rattle.frame_codec.specs.declared.udp.Caller.{Caller}
use Rattle.rpc_core.specs.declared.response.Status.{Status}
use Rattle.rpc_core.specs.Response.{Answered, answer_to, is_done}
use Rattle.rpc_core.specs.Sendable.{CanBeAnswered}
use Rattle.pn_alarms.specs.declared.repeats.Due.{Due}
use Rattle.pn_alarms.specs.declared.repeats.Due.TheVariants.{Nothing}
use Rattle.pn_alarms.specs.Sending.{due, due_behind, waiting_behind}
use Rattle.cyclic_data.specs.Timing.{is_due}
use Rattle.cyclic_data.specs.exchange.Units.{ending_by}
use Rattle.plans.specs.declared.parts.Controller.{Controller}
use Rattle.plans.specs.declared.parts.Parts.{Parts}
use Rattle.device_frames.specs.Sent.{response_frame}
use Rattle.controller_messages.specs.declared.plug_request.PlugRequest.{PlugRequest}
use Rattle.controller_messages.specs.declared.record_request.RecordRequest.{RecordRequest}
use Rattle.controller_messages.specs.declared.request.Request.{Request}
use Rattle.controller_messages.specs.declared.request.Request.TheVariants as asks
use Rattle.controller_messages.specs.declared.setup.Setup.{Setup}
use Rattle.controller_messages.specs.Heard.{Heard, Responds, heard_of}
use Rattle.controller_messages.specs.Requests.{call_for, first_of, write_count, writing_from}
use Rattle.controller_messages.specs.Sent.{Requests, Sent, bytes_of}
use Rattle.controller_core.specs.declared.stored.state.Cause.{Cause}
use Rattle.controller_core.specs.declared.stored.state.Cause.TheVariants.{NoProgress, Refused}
use Rattle.controller_core.specs.declared.stored.state.State.{State as Phases}
use Rattle.controller_core.specs.declared.stored.state.State.TheVariants.{Connecting}
use Rattle.controller_core.specs.declared.stored.event.Event.TheVariants.{Frame, Tick}
use Rattle.controller_core.specs.stored.State.{Controlling, Live, is_limited, left_in, phase_for}
use Rattle.controller_core.specs.start_up.Answers.{is_answer, is_held, is_state_conflict, is_tried}
use Rattle.controller_core.specs.start_up.Requests.{next_sequence, tried_as}
use Rattle.controller_core.specs.Machine.{Stepped, Turn, accesses_by, accesses_of, after_turn, brought, can_begin, decided, denied, done as done_turn, exchange_later, trying}
use Rattle.controller_core.specs.Machine.{flow_later, flowed, gone_on, is_again, is_exchanging, later, noted, outputs_of, over, past_record, pending_by}
use Rattle.controller_core.specs.Machine.{plugs_by}
use Rattle.controller_core.specs.Machine.{quit, refused_connect, refused_record, released, requests_of, responded, stays, step_of, stepped, ticked, turn_due, turn_of, turned}
use Rattle.controller_core.specs.Machine.{undone, where_due, writing}
use Rattle.end_laws.specs.hearing.Hearing.{mine_reported}
use Rattle.end_laws.specs.hearing.Stations.{IsAddress, IsCaller, IsDevice, IsSetup}
use Rattle.both_ends.specs.startup.answer.Answer.{caller_of}
use Rattle.rounds_law.specs.Path.{AllAnswered, Asks, controller_step, request_to}
use Rattle.rounds_law.specs.Again.{HasEnded, IsDenial}
use Rattle.rounds_law.specs.Abandoned.{Awaited, EndsFor, IsInPlan, Expects, IsReleasing, Readiness, Releases, Response, StillExpects, TriesAgain, WritesNext, asked_for}
use Rattle.rounds_law.specs.Abandoned.{last_call, phase_at, repeated}
use Rattle.rounds_law.specs.Repeating.{completes, counts_on}
use Rattle.rounds_law.proofs.Choices.{both_true, where_not, where_so}
use Rattle.rounds_law.proofs.ControllerCallingAsks.{count_few, step_by, step_is}
use Rattle.rounds_law.proofs.ControllerCallingResponses.{is_its_answer, is_reported, unexchanging}
use Rattle.rounds_law.proofs.ControllerPassingParts.{unbegun_heard}
use Rattle.rounds_law.proofs.ControllerPassingUnits.{only_outputs, sent_at, turn_there, turn_with}
use Rattle.rounds_law.proofs.PlaceTurns.{elsewhere, undue, unfollowed, without_relation}

-- ---- what is sent next

-- A request is a Write of the plan, or PrmEnd.
abbrev pub IsParameter : Parts → ℕ → Request → Type 0
IsParameter plan number request = ((number < write_count plan) × (request ≡ asks.Write number)) ⊎ ((write_count plan ≤ number) × (request ≡ asks.PrmEnd))

pub parameter_is : (plan : Parts) (number : ℕ) → IsParameter plan number (writing_from plan number)
parameter_is plan number = by_test (nat_lt number (write_count plan)) refl
  where
    below : nat_lt number (write_count plan) ≡ true → number < write_count plan
    below e = grind (arith, nat_tests)

    not_below : nat_lt number (write_count plan) ≡ false → write_count plan ≤ number
    not_below e = grind (arith, nat_tests)

    by_test : (is : Bool) → nat_lt number (write_count plan) ≡ is → IsParameter plan number (if is then asks.Write number else asks.PrmEnd)
    by_test true e = inl (below e, refl)
    by_test false e = inr (not_below e, refl)

-- ---- it ends

-- with a Release
releases_by : (setup : Setup) (identity : Identity) (cause : Cause) (last : ℕ) (live : Live) → live.device ≡ identity.mac
    → (sequence : ℕ) → next_sequence setup.plan live.access.calls live.asked ≡ sequence → last < sequence → sequence < 4294967296
    → Releases setup identity cause last (step_by setup (released setup cause live))
releases_by setup identity cause last live to sequence is after few = record {
  sequence = sequence;
  later = after;
  numbered = few;
  frames = ap (λ (d : Mac). bytes_of setup (Requests d (asks.Release (next_sequence setup.plan live.access.calls live.asked))) ∷ []) to
      ∙ ap (λ (n : ℕ). bytes_of setup (Requests identity.mac (asks.Release n)) ∷ []) is;
  releasing = record {
    of_setup = refl;
    in_phase = refl;
    asked = ap (λ (n : ℕ). Some (asks.Release n)) is;
    of_device = to;
    unestablished = refl;
    alone = (refl, refl);
    waits = refl;
  };
}

-- without
ends_by : (setup : Setup) (cause : Cause) (live : Live) → HasEnded setup cause (step_by setup (stays (over cause live))).controller
ends_by setup cause live = record { of_setup = refl; in_phase = refl; unasked = refl; unestablished = refl; alone = (refl, refl) }

module _ (setup : Setup) (identity : Identity) (good : IsSetup setup) (device : IsDevice identity)
    (responses : (mine : Controller) (identity : Identity) (caller : Caller) (address : List ℕ) (answer : Answered)
    → IsDevice identity → IsCaller caller → IsAddress address → CanBeAnswered answer
    → heard_of mine (response_frame identity caller address answer) ≡ mine_reported mine caller.mac caller.endpoint (Responds answer)) where
  -- ---- a negative response is heard

  caller_sized : IsCaller (caller_of setup.plan.controller)
  caller_sized = record { mac = good.mac; endpoint = (good.address, omega arith) }

  denial_heard : (request : Request) (octets : List ℕ) (denial : IsDenial setup identity request octets)
      → heard_of setup.plan.controller octets ≡ Responds (answer_to (call_for setup request) denial.status [])
  denial_heard request octets denial =
      ap (heard_of setup.plan.controller) denial.frame
      ∙ (responses setup.plan.controller identity (caller_of setup.plan.controller) setup.plan.station.suite.address
      (answer_to (call_for setup request) denial.status []) device caller_sized good.station denial.fits
      ∙ is_reported setup.plan.controller (Responds (answer_to (call_for setup request) denial.status [])))

  response_turn : (request : Request) (live : Live) (octets : List ℕ) (denial : IsDenial setup identity request octets) → live.asked ≡ Some request
      → is_answer setup request (answer_to (call_for setup request) denial.status []).header ≡ true
      → (turn : Turn) → decided setup live (answer_to (call_for setup request) denial.status []) request ≡ turn → can_begin turn.live ≡ false
      → turn_of setup live (Frame (record { items = octets })) ≡ turn
  response_turn request live octets denial asked its turn is none =
      let response = answer_to (call_for setup request) denial.status [] in
      ap (λ (h : Heard). turned setup live h) (denial_heard request octets denial)
      ∙ (ap (λ (a : Option Request). after_turn setup (can_begin live) (responded setup live response a)) asked
      ∙ (ap (after_turn setup (can_begin live))
      (where_so (is_answer setup request response.header) (decided setup live response request) (stays live) its ∙ is)
      ∙ unfollowed setup (can_begin live) turn none))

  -- ---- the response to a Release

  pub released_heard : (cause : Cause) (sequence waited : ℕ) (controller : Controlling) (octets : List ℕ)
      → IsReleasing setup identity.mac cause sequence waited controller
      → IsDenial setup identity (asks.Release sequence) octets
      → ((controller_step controller octets).frames ≡ []) × HasEnded setup cause (controller_step controller octets).controller
  released_heard cause sequence waited controller octets releasing denial =
      let live = controller.live in
      let step = step_is setup controller octets (stays (record live { asked = None })) releasing.of_setup
      (response_turn (asks.Release sequence) live octets denial releasing.asked (is_its_answer setup sequence) (stays (record live { asked = None })) refl
      (without_relation (record live { asked = None }) releasing.unestablished)) in (
        ap (λ (s : Stepped). s.frames) step,
        record {
          of_setup = ap (λ (s : Stepped). s.controller.setup) step;
          in_phase = ap (λ (s : Stepped). s.controller.live.phase) step ∙ releasing.in_phase;
          unasked = ap (λ (s : Stepped). s.controller.live.asked) step;
          unestablished = ap (λ (s : Stepped). s.controller.live.stands) step ∙ releasing.unestablished;
          alone = (
            ap (λ (s : Stepped). s.controller.live.access.waiting) step ∙ releasing.alone.0,
            ap (λ (s : Stepped). s.controller.live.access.plug) step ∙ releasing.alone.1,
          );
        },
      )

  -- ---- the response to the Connect

  -- After it no turn of a place can begin.
  connect_none : (status : Status) (live : Live) → can_begin (refused_connect setup live status).live ≡ false
  connect_none status live = by_held (is_held setup.plan status)
    where
      by_held : (held : Bool)
          → can_begin (if held then released setup Refused (record live { refusal = Some status }) else stays (denied status live)).live ≡ false
      by_held true = refl
      by_held false = refl

  connect_step : (controller : Controlling) (spare : ℕ) (octets : List ℕ) → Asks setup identity.mac Connecting asks.Connect None spare controller
      → (denial : IsDenial setup identity asks.Connect octets)
      → controller_step controller octets ≡ step_by setup (refused_connect setup controller.live denial.status)
  connect_step controller spare octets asking denial =
      let live = controller.live in
      let next = refused_connect setup live denial.status in
      step_is setup controller octets next asking.of_setup
      (response_turn asks.Connect live octets denial asking.asked (is_its_answer setup 0) next
      (where_not (is_done denial.status) (done_turn setup live [] asks.Connect) next denial.negative)
      (connect_none denial.status live))

  -- with a Release
  connect_releases : (status : Status) (live : Live) → live.device ≡ identity.mac → live.asked ≡ Some asks.Connect
      → Releases setup identity Refused 0 (step_by setup (released setup Refused (record live { refusal = Some status })))
  connect_releases status live to asked =
      releases_by setup identity Refused 0 (record live { refusal = Some status }) to 1
      (ap (λ (a : Option Request). next_sequence setup.plan live.access.calls a) asked) (omega arith) (omega arith)

  connect_ends : (status : Status) (live : Live) → live.device ≡ identity.mac → live.asked ≡ Some asks.Connect
      → EndsFor setup identity Refused 0 (step_by setup (refused_connect setup live status))
  connect_ends status live to asked = by_held (is_held setup.plan status)
    where
      by_held : (held : Bool)
          → EndsFor setup identity Refused 0 (step_by setup (if held then released setup Refused (record live { refusal = Some status }) else stays (denied status live)))
      by_held true = inr (connect_releases status live to asked)
      by_held false = inl (refl, ends_by setup Refused (record live { refusal = Some status }))

  pub connect_denied : (controller : Controlling) (spare : ℕ) (octets : List ℕ) → Asks setup identity.mac Connecting asks.Connect None spare controller
      → IsDenial setup identity asks.Connect octets → EndsFor setup identity Refused 0 (controller_step controller octets)
  connect_denied controller spare octets asking denial =
      subst (λ (s : Stepped). EndsFor setup identity Refused 0 s) (sym (connect_step controller spare octets asking denial))
      (connect_ends denial.status controller.live asking.of_device asking.asked)

  pub connect_informs : (controller : Controlling) (spare : ℕ) (octets : List ℕ) → Asks setup identity.mac Connecting asks.Connect None spare controller
      → (denial : IsDenial setup identity asks.Connect octets) → setup.plan.persistent_start ≡ true → is_state_conflict denial.status ≡ true
      → Releases setup identity Refused 0 (controller_step controller octets)
  connect_informs controller spare octets asking denial keyed conflicts =
      let live = controller.live in
      let held = both_true setup.plan.persistent_start (is_state_conflict denial.status) keyed conflicts in
      let informs = released setup Refused (record live { refusal = Some denial.status }) in
      subst (λ (s : Stepped). Releases setup identity Refused 0 s)
      (sym (connect_step controller spare octets asking denial
      ∙ ap (step_by setup) (where_so (is_held setup.plan denial.status) informs (stays (denied denial.status live)) held)))
      (connect_releases denial.status live asking.of_device asking.asked)

  -- ---- the response to a Write or to PrmEnd

  -- What waits in a state before the end.
  expects_next : (serial number : ℕ) (status : Status) (place : ℕ) (controller : Controlling) → Expects setup serial identity.mac (Response number) controller
      → Expects setup serial identity.mac (Response (number + 1))
      (step_by setup (writing setup (writing_from setup.plan (number + 1)) (noted status place controller.live))).controller
  expects_next serial number status place controller it = record {
    of_setup = refl;
    in_phase = refl;
    asked = refl;
    of_device = it.of_device;
    established = it.established;
    few = it.few;
    route = it.route;
    high = it.high;
    low = it.low;
    alone = it.alone;
    uncalled = it.uncalled;
    unbegun = it.unbegun;
  }

  same_or_new : (before : Phases) (left : ℕ) (number : ℕ) (is : Bool) → before ≡ phase_for (asks.Write number)
      → (left_in setup.options left before (phase_for (if is then asks.Write (number + 1) else asks.PrmEnd)) ≡ left)
      ⊎ (left_in setup.options left before (phase_for (if is then asks.Write (number + 1) else asks.PrmEnd)) ≡ setup.options.patience)
  same_or_new before left number true e =
      inl (ap (λ (p : Phases). left_in setup.options left p (phase_for (asks.Write (number + 1)))) e)
  same_or_new before left number false e =
      inr (ap (λ (p : Phases). left_in setup.options left p (phase_for asks.PrmEnd)) e)

  -- The steps after a Write that was refused.
  abbrev After : ℕ → ℕ → Controlling → Stepped → Type 0
  After serial number before step = WritesNext setup serial identity number before step ⊎ EndsFor setup identity Refused (number + 1) step

  write_denied : (serial number place : ℕ) (status : Status) (controller : Controlling) → number < write_count setup.plan
      → Expects setup serial identity.mac (Response number) controller
      → controller.live.asked ≡ Some (asks.Write number) → controller.live.phase ≡ phase_for (asks.Write number)
      → (goes_on releases : Bool) → setup.plan.continue_on_refused_record ≡ goes_on → setup.plan.release_on_refused_record ≡ releases
      → After serial number controller (step_by setup (past_record setup (writing_from setup.plan (number + 1)) (noted status place controller.live)))
  write_denied serial number place status controller below it asked phase true releases e f =
      let live = controller.live in
      let next = writing setup (writing_from setup.plan (number + 1)) (noted status place live) in
      let turn = where_so setup.plan.continue_on_refused_record next (refused_record setup (noted status place live)) e in
      subst (λ (t : Turn). After serial number controller (step_by setup t)) (sym turn) (inl (record {
        below = below;
        goes_on = e;
        frames = ap (λ (d : Mac). bytes_of setup (Requests d (writing_from setup.plan (number + 1))) ∷ []) it.of_device;
        expects = expects_next serial number status place controller it;
        waits = refl;
        left = same_or_new live.phase live.left number (nat_lt (number + 1) (write_count setup.plan)) phase;
      }))
  write_denied serial number place status controller below it asked phase false true e f =
      let live = noted status place controller.live in
      let turn = where_not setup.plan.continue_on_refused_record (writing setup (writing_from setup.plan (number + 1)) live) (refused_record setup live) e
      ∙ where_so setup.plan.release_on_refused_record (released setup Refused live) (stays (over Refused live)) f in
      subst (λ (t : Turn). After serial number controller (step_by setup t)) (sym turn)
      (inr (inr (releases_by setup identity Refused (number + 1) live it.of_device (number + 2)
      (ap (λ (a : Option Request). next_sequence setup.plan live.access.calls a) asked) (omega arith)
      (omega (arith, below, count_few setup.plan good.plan)))))
  write_denied serial number place status controller below it asked phase false false e f =
      let live = noted status place controller.live in
      let turn = where_not setup.plan.continue_on_refused_record (writing setup (writing_from setup.plan (number + 1)) live) (refused_record setup live) e
      ∙ where_not setup.plan.release_on_refused_record (released setup Refused live) (stays (over Refused live)) f in
      subst (λ (t : Turn). After serial number controller (step_by setup t)) (sym turn) (inr (inl (refl, ends_by setup Refused live)))

  -- After it no turn of a place can begin.
  denied_none : (number : ℕ) (live : Live) → can_begin (past_record setup (writing_from setup.plan (number + 1)) live).live ≡ false
  denied_none number live = by_plan setup.plan.continue_on_refused_record setup.plan.release_on_refused_record
    where
      by_plan : (goes_on releases : Bool)
          → can_begin (if goes_on then writing setup (writing_from setup.plan (number + 1)) live
          else (if releases then released setup Refused live else stays (over Refused live))).live ≡ false
      by_plan true releases =
          elsewhere (writing setup (writing_from setup.plan (number + 1)) live).live (unexchanging (writing_from setup.plan (number + 1)))
      by_plan false true = refl
      by_plan false false = refl

  -- A denial of this request after which the plan's key says this.
  abbrev DeniedAs : List ℕ → Bool → Request → Type 0
  DeniedAs octets again request = (denial : IsDenial setup identity request octets) × (is_tried setup.plan denial.status 0 ≡ again)

  pub denied_heard : (serial : ℕ) (controller : Controlling) (number : ℕ) (octets : List ℕ) → number ≤ write_count setup.plan
      → Expects setup serial identity.mac (Response number) controller
      → (denial : IsDenial setup identity (writing_from setup.plan number) octets) → is_tried setup.plan denial.status 0 ≡ false
      → After serial number controller (controller_step controller octets)
  denied_heard serial controller number octets few it denial untried = by_request (writing_from setup.plan number) refl (parameter_is setup.plan number)
    where
      by_request : (request : Request) → writing_from setup.plan number ≡ request → IsParameter setup.plan number request
          → After serial number controller (controller_step controller octets)
      by_request request same (inl is) =
          let whole : writing_from setup.plan number ≡ asks.Write number = same ∙ is.1 in
          let all : DeniedAs octets false (asks.Write number) = subst (DeniedAs octets false) whole (denial, untried) in
          let status = all.0.status in
          let asked = it.asked ∙ ap (λ (r : Request). Some r) whole in
          let response = answer_to (call_for setup (asks.Write number)) status [] in
          let place = first_of setup.plan number in
          let ends = past_record setup (writing_from setup.plan (number + 1)) (noted status place controller.live) in
          let turn = response_turn (asks.Write number) controller.live octets all.0 asked (is_its_answer setup (number + 1)) ends
          (where_not (is_done status) (done_turn setup controller.live response.blocks (asks.Write number))
          (undone setup controller.live status (asks.Write number)) all.0.negative
          ∙ where_not (is_tried setup.plan status 0) (trying (asks.WriteAfter number 1) status controller.live) ends all.1)
          (denied_none number (noted status place controller.live)) in
          subst (λ (s : Stepped). After serial number controller s)
          (sym (step_is setup controller octets ends it.of_setup turn))
          (write_denied serial number place status controller is.0 it asked (it.in_phase ∙ ap phase_for whole)
          setup.plan.continue_on_refused_record setup.plan.release_on_refused_record refl refl)
      by_request request same (inr is) =
          let whole : writing_from setup.plan number ≡ asks.PrmEnd = same ∙ is.1 in
          let all : DeniedAs octets false asks.PrmEnd = subst (DeniedAs octets false) whole (denial, untried) in
          let status = all.0.status in
          let asked = it.asked ∙ ap (λ (r : Request). Some r) whole in
          let response = answer_to (call_for setup asks.PrmEnd) status [] in
          let ends = stays (denied status controller.live) in
          let turn = response_turn asks.PrmEnd controller.live octets all.0 asked (is_its_answer setup (write_count setup.plan + 1)) ends
          (where_not (is_done status) (done_turn setup controller.live response.blocks asks.PrmEnd)
          (undone setup controller.live status asks.PrmEnd) all.0.negative
          ∙ where_not (is_tried setup.plan status 0) (trying (asks.PrmEndAfter 1) status controller.live) ends all.1)
          refl in
          subst (λ (s : Stepped). After serial number controller s)
          (sym (step_is setup controller octets ends it.of_setup turn))
          (inr (inl (refl, ends_by setup Refused (record controller.live { refusal = Some status }))))

  -- No turn of a place can begin while a request of the start-up waits.
  waits_none : (next request : Request) (status : Status) (live : Live) → live.phase ≡ phase_for request → can_begin (trying next status live).live ≡ false
  waits_none next request status live phase = elsewhere (trying next status live).live (ap is_exchanging phase ∙ unexchanging request)

  -- After a response that says that the device is busy, if the plan says so, the next try waits.
  pub tried_heard : (serial : ℕ) (controller : Controlling) (number : ℕ) (octets : List ℕ) → number ≤ write_count setup.plan
      → Expects setup serial identity.mac (Response number) controller
      → (denial : IsDenial setup identity (writing_from setup.plan number) octets) → is_tried setup.plan denial.status 0 ≡ true
      → TriesAgain setup number (controller_step controller octets)
  tried_heard serial controller number octets few it denial tried = by_request (writing_from setup.plan number) refl (parameter_is setup.plan number)
    where
      by_turn : (request next : Request) → writing_from setup.plan number ≡ request → tried_as request ≡ Some next → (status : Status)
          → turn_of setup controller.live (Frame (record { items = octets })) ≡ trying next status controller.live
          → TriesAgain setup number (controller_step controller octets)
      by_turn request next whole is status turn =
          subst (λ (s : Stepped). TriesAgain setup number s)
          (sym (step_is setup controller octets (trying next status controller.live) it.of_setup turn))
          (record { silent = refl; asked = sym (ap tried_as whole ∙ is) })

      by_request : (request : Request) → writing_from setup.plan number ≡ request → IsParameter setup.plan number request
          → TriesAgain setup number (controller_step controller octets)
      by_request request same (inl is) =
          let whole : writing_from setup.plan number ≡ asks.Write number = same ∙ is.1 in
          let all : DeniedAs octets true (asks.Write number) = subst (DeniedAs octets true) whole (denial, tried) in
          let status = all.0.status in
          let asked = it.asked ∙ ap (λ (r : Request). Some r) whole in
          let response = answer_to (call_for setup (asks.Write number)) status [] in
          let again = trying (asks.WriteAfter number 1) status controller.live in
          by_turn (asks.Write number) (asks.WriteAfter number 1) whole refl status
          (response_turn (asks.Write number) controller.live octets all.0 asked (is_its_answer setup (number + 1)) again
          (where_not (is_done status) (done_turn setup controller.live response.blocks (asks.Write number))
          (undone setup controller.live status (asks.Write number)) all.0.negative
          ∙ where_so (is_tried setup.plan status 0) again
          (past_record setup (writing_from setup.plan (number + 1)) (noted status (first_of setup.plan number) controller.live)) all.1)
          (waits_none (asks.WriteAfter number 1) (asks.Write number) status controller.live (it.in_phase ∙ ap phase_for whole)))
      by_request request same (inr is) =
          let whole : writing_from setup.plan number ≡ asks.PrmEnd = same ∙ is.1 in
          let all : DeniedAs octets true asks.PrmEnd = subst (DeniedAs octets true) whole (denial, tried) in
          let status = all.0.status in
          let asked = it.asked ∙ ap (λ (r : Request). Some r) whole in
          let response = answer_to (call_for setup asks.PrmEnd) status [] in
          let again = trying (asks.PrmEndAfter 1) status controller.live in
          by_turn asks.PrmEnd (asks.PrmEndAfter 1) whole refl status
          (response_turn asks.PrmEnd controller.live octets all.0 asked (is_its_answer setup (write_count setup.plan + 1)) again
          (where_not (is_done status) (done_turn setup controller.live response.blocks asks.PrmEnd)
          (undone setup controller.live status asks.PrmEnd) all.0.negative
          ∙ where_so (is_tried setup.plan status 0) again (stays (denied status controller.live)) all.1)
          (waits_none (asks.PrmEndAfter 1) asks.PrmEnd status controller.live (it.in_phase ∙ ap phase_for whole)))

  -- ---- a unit

  -- The number of its last call is below that of its Release, which has 32 bits.
  release_after : (awaited : Awaited) (live : Live) → IsInPlan setup.plan awaited → live.access.calls ≡ 0 → live.asked ≡ asked_for setup.plan awaited
      → (last_call setup.plan awaited < next_sequence setup.plan live.access.calls live.asked)
      × (next_sequence setup.plan live.access.calls live.asked < 4294967296)
  release_after awaited live in_plan none asked =
      subst (λ (a : Option Request). (last_call setup.plan awaited < next_sequence setup.plan live.access.calls a)
      × (next_sequence setup.plan live.access.calls a < 4294967296)) (sym asked)
      (subst (λ (n : ℕ). (last_call setup.plan awaited < next_sequence setup.plan n (asked_for setup.plan awaited))
      × (next_sequence setup.plan n (asked_for setup.plan awaited) < 4294967296)) (sym none) (by_awaited awaited in_plan))
    where
      few : write_count setup.plan ≤ 32
      few = count_few setup.plan good.plan

      by_request : (number : ℕ) (request : Request) → number ≤ write_count setup.plan → IsParameter setup.plan number request
          → (number + 1 < next_sequence setup.plan 0 (Some request)) × (next_sequence setup.plan 0 (Some request) < 4294967296)
      by_request number request below (inl is) =
          subst (λ (r : Request). (number + 1 < next_sequence setup.plan 0 (Some r)) × (next_sequence setup.plan 0 (Some r) < 4294967296)) (sym is.1)
          (omega arith, omega (arith, is.0, few))
      by_request number request below (inr is) =
          subst (λ (r : Request). (number + 1 < next_sequence setup.plan 0 (Some r)) × (next_sequence setup.plan 0 (Some r) < 4294967296)) (sym is.1)
          (omega (arith, below, few), omega (arith, few))

      by_awaited : (awaited : Awaited) → IsInPlan setup.plan awaited → (last_call setup.plan awaited < next_sequence setup.plan 0 (asked_for setup.plan awaited))
          × (next_sequence setup.plan 0 (asked_for setup.plan awaited) < 4294967296)
      by_awaited (Response number) below = by_request number (writing_from setup.plan number) below (parameter_is setup.plan number)
      by_awaited Readiness below = (omega (arith, few), omega (arith, few))

  -- Its state has a patience, if the options set one; if it ends in it, it sends a Release.
  limited_by : (is : Bool) (number : ℕ) → is_limited (phase_for (if is then asks.Write number else asks.PrmEnd)) ≡ true
  limited_by true number = refl
  limited_by false number = refl

  limited : (awaited : Awaited) → is_limited (phase_at setup.plan awaited) ≡ true
  limited (Response number) = limited_by (nat_lt number (write_count setup.plan)) number
  limited Readiness = refl

  quits_by : (live : Live) (is : Bool) (number : ℕ)
      → quit setup NoProgress live (phase_for (if is then asks.Write number else asks.PrmEnd)) ≡ released setup NoProgress live
  quits_by live true number = refl
  quits_by live false number = refl

  quits : (live : Live) (awaited : Awaited) → quit setup NoProgress live (phase_at setup.plan awaited) ≡ released setup NoProgress live
  quits live (Response number) = quits_by live (nat_lt number (write_count setup.plan)) number
  quits live Readiness = refl

  -- The request that waits.
  pending_is : (awaited : Awaited) (live : Live) → live.device ≡ identity.mac → AllAnswered live.access
      → map (bytes_of setup) (pending_by live (asked_for setup.plan awaited)) ≡ repeated setup identity awaited
  pending_is (Response number) live to alone = ap (λ (d : Mac). bytes_of setup (Requests d (writing_from setup.plan number)) ∷ []) to
  pending_is Readiness live to alone =
      ap (λ (plug : Option PlugRequest). map (bytes_of setup) (if is_some plug then plugs_by live.device plug else accesses_of live)) alone.1
      ∙ ap (λ (waiting : Option RecordRequest). map (bytes_of setup) (accesses_by live.device live.access.octets waiting)) alone.0

  -- What is sent is in two parts.
  parts_sent : (again : Bool) (request outputs : List Sent) (frames : List (List ℕ)) → map (bytes_of setup) request ≡ frames
      → map (bytes_of setup) (where_due again request ++ outputs) ≡ (if again then frames else []) ++ map (bytes_of setup) outputs
  parts_sent true request outputs frames is = map-append (bytes_of setup) request outputs ∙ ap (λ (fs : List (List ℕ)). fs ++ map (bytes_of setup) outputs) is
  parts_sent false request outputs frames is = refl

  module _ (serial : ℕ) (controller : Controlling) (awaited : Awaited) (in_plan : IsInPlan setup.plan awaited) (it : Expects setup serial identity.mac awaited controller) where
    abbrev UnitPassed : Stepped → Type 0
    UnitPassed step =
        ((controller.live.left ≡ 1) × Releases setup identity NoProgress (last_call setup.plan awaited) step)
        ⊎ ((controller.live.left ≡ 1 → ⊥) × StillExpects setup serial identity awaited controller step)

    abbrev turn_at : Stepped → Turn → Type 0
    turn_at step turn = step ≡ step_by setup turn

    unit_step : (turn : Turn) → ticked setup controller.live ≡ turn → step_of controller Tick ≡ step_by setup turn
    unfolding step_of
    unit_step turn is =
        ap (λ (s : Setup). stepped (record { setup = s; live = controller.live }) (turn_of s controller.live Tick)) it.of_setup
        ∙ ap (λ (t : Turn). step_by setup t) is

    is_limited_now : is_limited controller.live.phase ≡ true
    is_limited_now = ap is_limited it.in_phase ∙ limited awaited

    -- the patience ends
    spent_turn : (controller.live.left == 1) ≡ true → ticked setup controller.live ≡ released setup NoProgress (later controller.live)
    spent_turn last =
        let live = controller.live in
        let on = gone_on (turn_due setup (is_again live) (later live)) (is_again live) in
        ap (λ (b : Bool). if b && live.left == 1 then quit setup NoProgress (later live) live.phase else on) is_limited_now
        ∙ (ap (λ (b : Bool). if b then quit setup NoProgress (later live) live.phase else on) last
        ∙ (ap (λ (p : Phases). quit setup NoProgress (later live) p) it.in_phase ∙ quits (later live) awaited))

    spent : (controller.live.left == 1) ≡ true → Releases setup identity NoProgress (last_call setup.plan awaited) (step_of controller Tick)
    spent last =
        let live = controller.live in
        let number = release_after awaited live in_plan it.uncalled it.asked in
        subst (λ (s : Stepped). Releases setup identity NoProgress (last_call setup.plan awaited) s)
        (sym (unit_step (released setup NoProgress (later live)) (spent_turn last)))
        (releases_by setup identity NoProgress (last_call setup.plan awaited) (later live) it.of_device
        (next_sequence setup.plan live.access.calls live.asked) refl number.0 number.1)

    -- data is not exchanged yet
    before_exchange : (awaited : Awaited) → is_exchanging (phase_at setup.plan awaited) ≡ false
    before_exchange (Response number) = unexchanging (writing_from setup.plan number)
    before_exchange Readiness = refl

    -- it goes on
    waits_turn : (controller.live.left == 1) ≡ false → ticked setup controller.live
        ≡ turn_with (flow_later controller.live)
        (where_due (is_again controller.live) (pending_by (flow_later controller.live) controller.live.asked)
        ++ where_due (is_due controller.live.cyclic.sending) (outputs_of (flow_later controller.live)))
    waits_turn more =
        let live = controller.live in
        let none : due live.alarms.sending ≡ Nothing = ap (due_behind live.alarms.sending) it.high in
        let none_low : due live.low_alarms.sending ≡ Nothing = ap (due_behind live.low_alarms.sending) it.low in
        let unspent = ap (λ (b : Bool). b && live.left == 1) is_limited_now ∙ more in
        let turn = turn_there setup live unspent
        (undue setup (is_again live) (later live) (elsewhere (later live) (ap is_exchanging it.in_phase ∙ before_exchange awaited)))
        it.established (unbegun_heard live.cyclic it.unbegun) (ap ending_by none) (ap ending_by none_low) in
        turn ∙ ap (turn_with (flow_later live))
        (ap (λ (d : Due). sent_at live d (due live.low_alarms.sending)) none ∙ ap (λ (d : Due). sent_at live Nothing d) none_low)

    waits_on : (controller.live.left == 1) ≡ false → StillExpects setup serial identity awaited controller (step_of controller Tick)
    waits_on more =
        let live = controller.live in
        let request = pending_by (flow_later live) live.asked in
        let outputs = where_due (is_due live.cyclic.sending) (outputs_of (flow_later live)) in
        subst (λ (s : Stepped). StillExpects setup serial identity awaited controller s)
        (sym (unit_step (turn_with (flow_later live) (where_due (is_again live) request ++ outputs)) (waits_turn more))) (record {
          expects = record {
            of_setup = refl;
            in_phase = it.in_phase;
            asked = it.asked;
            of_device = it.of_device;
            established = it.established;
            few = it.few;
            route = it.route;
            high = ap (waiting_behind live.alarms.sending) it.high;
            low = ap (waiting_behind live.low_alarms.sending) it.low;
            alone = it.alone;
            uncalled = it.uncalled;
            unbegun = it.unbegun;
          };
          waits = refl;
          left = refl;
          outputs = map (bytes_of setup) outputs;
          are = only_outputs serial setup setup identity.mac live.cyclic.route live.cyclic.shown (later live).units (is_due live.cyclic.sending) refl it.few it.route;
          frames = parts_sent (is_again live) request outputs (repeated setup identity awaited)
              (ap (λ (a : Option Request). map (bytes_of setup) (pending_by (flow_later live) a)) it.asked ∙ pending_is awaited (flow_later live) it.of_device it.alone);
        })

    pub unit_passed : UnitPassed (step_of controller Tick)
    unit_passed = by_test (controller.live.left == 1) refl
      where
        is_one : (controller.live.left == 1) ≡ true → controller.live.left ≡ 1
        is_one e = grind (arith, nat_tests)

        by_test : (last : Bool) → (controller.live.left == 1) ≡ last → UnitPassed (step_of controller Tick)
        by_test true e = inl (is_one e, spent e)
        by_test false e = inr (λ one. not_both (sym (ap (λ (n : ℕ). n == 1) one) ∙ e), waits_on e)
          where
            not_both : true ≡ false → ⊥
            not_both bad = absurd cc

-- ---- a unit after the end

-- The rest of a unit, by whether its relation is established.
abbrev pub gone_with : Live → Bool → Bool → Turn
gone_with live is_request stands =
    if stands
    then flowed (exchange_later live) (due live.alarms.sending) (due live.low_alarms.sending) is_request (brought live) (brought live).ending
    else turn_with live (where_due is_request (requests_of live.device live.asked))

-- With its Release, it repeats it each second.
pub releasing_unit : (setup : Setup) (identity : Identity) (cause : Cause) (sequence waited : ℕ) (controller : Controlling)
    → IsReleasing setup identity.mac cause sequence waited controller
    → ((step_of controller Tick).frames ≡ (if completes waited then request_to setup identity (asks.Release sequence) ∷ [] else []))
    × IsReleasing setup identity.mac cause sequence (counts_on waited) (step_of controller Tick).controller
unfolding step_of
releasing_unit setup identity cause sequence waited controller it =
    let live = controller.live in
    let turn : turn_of setup live Tick ≡ turn_with (later live) (where_due (is_again live) (Requests identity.mac (asks.Release sequence) ∷ []))
    = ap (λ (p : Phases). if is_limited p && live.left == 1 then quit setup NoProgress (later live) live.phase
    else gone_on (turn_due setup (is_again live) (later live)) (is_again live)) it.in_phase
    ∙ (ap (λ (l : Live). gone_on l (is_again live)) (undue setup (is_again live) (later live) (without_relation (later live) it.unestablished))
    ∙ (ap (λ (b : Bool). gone_with (later live) (is_again live) b) it.unestablished
    ∙ (ap (λ (a : Option Request). turn_with (later live) (where_due (is_again live) (requests_of live.device a))) it.asked
    ∙ ap (λ (d : Mac). turn_with (later live) (where_due (is_again live) (Requests d (asks.Release sequence) ∷ []))) it.of_device))) in
    let step : step_of controller Tick ≡ step_by setup (turn_with (later live) (where_due (is_again live) (Requests identity.mac (asks.Release sequence) ∷ [])))
    = ap (λ (s : Setup). stepped (record { setup = s; live = live }) (turn_of s live Tick)) it.of_setup ∙ ap (λ (t : Turn). step_by setup t) turn in (
      ap (λ (s : Stepped). s.frames) step
          ∙ (once (is_again live) ∙ ap (λ (n : ℕ). if completes n then request_to setup identity (asks.Release sequence) ∷ [] else []) it.waits),
      record {
        of_setup = ap (λ (s : Stepped). s.controller.setup) step;
        in_phase = ap (λ (s : Stepped). s.controller.live.phase) step ∙ it.in_phase;
        asked = ap (λ (s : Stepped). s.controller.live.asked) step ∙ it.asked;
        of_device = ap (λ (s : Stepped). s.controller.live.device) step ∙ it.of_device;
        unestablished = ap (λ (s : Stepped). s.controller.live.stands) step ∙ it.unestablished;
        alone = (
          ap (λ (s : Stepped). s.controller.live.access.waiting) step ∙ it.alone.0,
          ap (λ (s : Stepped). s.controller.live.access.plug) step ∙ it.alone.1,
        );
        waits = ap (λ (s : Stepped). s.controller.live.waited) step ∙ ap counts_on it.waits;
      },
    )
  where
    once : (again : Bool) → map (bytes_of setup) (where_due again (Requests identity.mac (asks.Release sequence) ∷ []))
        ≡ (if again then request_to setup identity (asks.Release sequence) ∷ [] else [])
    once true = refl
    once false = refl
