-- A device whose modules are not the plan's, and its controller.
use Rattle.std.proofs.Common.{◌≡◌, ℕ, Bool, true, List, [], ◌∷◌, Option, Some, None, Result, Ok, refl, ap, subst, ◌∙◌, arith}
use Rattle.std.specs.Prelude.{if◌then◌else◌}
use Rattle.wire.specs.Codec.{◌>>=◌}
use Rattle.pn_values.specs.declared.identity.Identity.{Identity}
use Rattle.pn_values.specs.declared.real.Real.{Real}
use Rattle.frame_codec.specs.declared.udp.Caller.{Caller}
use Rattle.rpc_core.specs.Call.{Asked as Call}
use Rattle.rpc_core.specs.Cache.{Reported as Looked}
use Rattle.rpc_core.specs.Response.{Answered, answer_to}
use Rattle.rpc_core.specs.Sendable.{CanBeAnswered}
use Rattle.connects.specs.declared.answers.connect.Found.{Found}
use Rattle.connects.specs.answers.Connect.{chosen_of, is_whole}
use Rattle.connects.specs.requests.Request.{Request}
use Rattle.records.specs.declared.status.call_fault.CallFault.{CallFault}
use Rattle.records.specs.declared.status.operation.Operation.{Operation}
use Rattle.records.specs.declared.status.operation.Operation.TheVariants.{Connect}
use Rattle.records.specs.status.Status.{done}
use Rattle.settings_journal.specs.settings_store.Machine.{Outcome}
use Rattle.relations.specs.Connect.{connect_answer, connect_blocks, connect_within, differing_of, making}
use Rattle.relations.specs.Phases.{updated}
use Rattle.relations.specs.RelationState.{RelationState}
use Rattle.plans.specs.declared.parts.Controller.{Controller}
use Rattle.device_frames.specs.Heard.{Calls, Reported, heard_of}
use Rattle.device_frames.specs.Sendable.{AreSendable}
use Rattle.device_frames.specs.Sent.{Sent, bytes_of, response_frame}
use Rattle.device_core.specs.State.{Live, Rest, Station}
use Rattle.device_core.specs.Log.{connect_log, with_log}
use Rattle.device_core.specs.Handled.{counted_by, number_now, Moves, answer_from, handled_call, handled_looked, handled_said, is_running, kept_behind}
use Rattle.device_core.specs.Handled.{partner_of, starting_of}
use Rattle.device_core.specs.Machine.{Stepped}
use Rattle.controller_messages.specs.declared.request.Request.{Request as Requested}
use Rattle.controller_messages.specs.declared.request.Request.TheVariants as asks
use Rattle.controller_messages.specs.declared.setup.Setup.{Setup}
use Rattle.controller_messages.specs.Heard.{Responds, heard_of as controller_hears}
use Rattle.controller_messages.specs.Requests.{blocks_of, call_for}
use Rattle.controller_core.specs.declared.stored.state.Cause.TheVariants as cause
use Rattle.controller_core.specs.declared.stored.state.State.TheVariants.{Connecting}
use Rattle.controller_core.specs.start_up.Answers.{is_answer}
use Rattle.controller_core.specs.Machine.{Stepped as ControllerStepped, Turn, after_turn, can_begin, connected, decided, placed, related_by, released}
use Rattle.controller_core.specs.Machine.{responded}
use Rattle.controller_core.specs.Machine.{stays, stepped}
use Rattle.controller_core.specs.stored.State.{Controlling, Live as ControllerLive}
use Rattle.end_laws.specs.hearing.Hearing.{comes, mine_reported}
use Rattle.end_laws.specs.hearing.Stations.{IsAddress, IsCaller, IsDevice, IsSetup}
use Rattle.both_ends.specs.startup.request.Request.{request_for}
use Rattle.both_ends.specs.startup.answer.Answer.{caller_of}
use Rattle.rounds_law.specs.Path.{Asks, IsAddressed, IsFree, controller_step, device_step, request_to}
use Rattle.rounds_law.specs.Causes.{Differs, EndedWith, blocks_with, differing_frame}
use Rattle.rounds_law.proofs.ControllerCallingResponses.{is_its_answer, is_reported}
use Rattle.rounds_law.proofs.AskedUnits.{unasked_new}
use Rattle.rounds_law.proofs.DeviceCallingConnected.{is_connect}
use Rattle.rounds_law.proofs.DeviceCallingSteps.{first_new, step_is}
use Rattle.rounds_law.proofs.PlaceTurns.{unfollowed}
use Rattle.rounds_law.proofs.SearchingController.{step_is as hears_so}

-- ---- the device

-- the response to the plan's Connect
abbrev pub answer_with : Setup → Identity → ℕ → Real → Answered
answer_with setup identity serial real = answer_to (call_for setup asks.Connect) done (blocks_with setup identity serial real)

-- What the device does then: it sends this response, which fits.
abbrev pub Reports : Setup → Identity → ℕ → Real → Stepped → Type 0
Reports setup identity serial real step =
    (step.frames ≡ differing_frame setup identity serial real ∷ []) × (AreSendable identity step.sent → CanBeAnswered (answer_with setup identity serial real))

module _ (setup : Setup) (station : Station) (live : Live) where
  abbrev caller : Caller
  caller = caller_of setup.plan.controller

  abbrev call : Call
  call = call_for setup asks.Connect

  abbrev blocks : List ℕ
  blocks = blocks_of setup asks.Connect

  abbrev outcome : Option RelationState → Result (List ℕ) CallFault
  outcome link = connect_answer station.identity live.rest.real station.options (number_now station live) caller.mac link blocks

  abbrev sent : Sent
  sent = answer_from live.values.running.suite.address caller call Connect (outcome live.rest.link)

  abbrev rest : Rest
  rest = kept_behind station.identity (counted_by (outcome live.rest.link) (with_log (connect_log blocks (outcome live.rest.link)) live.rest)) call sent
      (updated (making live.rest.real (partner_of caller) station.options (starting_of station live)
      (connect_within station.options caller.mac live.rest.link blocks)) live.rest.link)

  is_handled : IsFree setup live → handled_said station live caller (Calls call) ≡ Moves rest (sent ∷ [])
  is_handled free =
      ap (λ (o : Option Operation). handled_call station live caller call o) is_connect
      ∙ (ap (λ (l : Looked). handled_looked station live caller call blocks Connect l) (first_new setup.activity 0 live.rest.calls free.uncalled)
      ∙ unasked_new station live caller call blocks Connect free.unasked)

  is_sent : IsAddressed setup live → IsFree setup live
      → connect_within station.options setup.plan.controller.mac None blocks ≡ Ok (request_for setup.plan setup.ar)
      → sent ≡ answer_from setup.plan.station.suite.address caller call Connect (Ok (blocks_with setup station.identity (number_now station live) live.rest.real))
  is_sent addressed free accepted =
      ap (λ (link : Option RelationState). answer_from live.values.running.suite.address caller call Connect (outcome link)) free.unrelated
      ∙ (ap (λ (asked : Result Request CallFault). answer_from live.values.running.suite.address caller call Connect
      (asked >>= λ request. Ok (connect_blocks station.identity (number_now station live) request (differing_of request live.rest.real)))) accepted
      ∙ ap (λ suite. answer_from suite.address caller call Connect (Ok (blocks_with setup station.identity (number_now station live) live.rest.real))) addressed.suite)

  reports_own : (outcomes : List Outcome) → IsAddressed setup live → IsFree setup live → (octets : List ℕ)
      → connect_within station.options setup.plan.controller.mac None blocks ≡ Ok (request_for setup.plan setup.ar)
      → heard_of station.identity (comes octets) ≡ Reported caller setup.plan.station.suite.address (Calls call)
      → is_running live.values.running setup.plan.station.suite.address ≡ true
      → Reports setup station.identity (number_now station live) live.rest.real (device_step outcomes station live octets)
  reports_own outcomes addressed free octets accepted hears running =
      let steps = step_is outcomes station live octets caller setup.plan.station.suite.address (Calls call) rest (sent ∷ []) hears running (is_handled free) in
      let message = is_sent addressed free accepted in (
        ap (λ (step : Stepped). step.frames) steps ∙ ap (λ (s : Sent). bytes_of station.identity s ∷ []) message,
        λ sendable. (subst (λ (messages : List Sent). AreSendable station.identity messages)
            (ap (λ (step : Stepped). step.sent) steps ∙ ap (λ (s : Sent). s ∷ []) message) sendable).0.1,
      )

pub reports : (setup : Setup) (identity : Identity) (station : Station) (live : Live) (outcomes : List Outcome) → station.identity ≡ identity
    → IsAddressed setup live → IsFree setup live
    → connect_within station.options setup.plan.controller.mac None (blocks_of setup asks.Connect) ≡ Ok (request_for setup.plan setup.ar)
    → heard_of station.identity (comes (request_to setup identity asks.Connect))
    ≡ Reported (caller_of setup.plan.controller) setup.plan.station.suite.address (Calls (call_for setup asks.Connect))
    → is_running live.values.running setup.plan.station.suite.address ≡ true
    → Reports setup identity (number_now station live) live.rest.real (device_step outcomes station live (request_to setup identity asks.Connect))
reports setup identity station live outcomes same addressed free accepted hears running =
    subst (λ (i : Identity). Reports setup i (number_now station live) live.rest.real (device_step outcomes station live (request_to setup identity asks.Connect))) same
    (reports_own setup station live outcomes addressed free (request_to setup identity asks.Connect) accepted hears running)

-- ---- the controller

where_so : {A : Type 0} (is : Bool) (x y : A) → is ≡ true → (if is then x else y) ≡ x
where_so is x y e = ap (λ (b : Bool). if b then x else y) e

-- a response with such blocks
differing_turn : (setup : Setup) (identity : Identity) (serial : ℕ) (real : Real) (live : ControllerLive) → Differs setup identity serial real → live.asked ≡ Some asks.Connect
    → responded setup live (answer_with setup identity serial real) live.asked ≡ released setup cause.ModuleDiff live
differing_turn setup identity serial real live differs asked =
    let answer = answer_with setup identity serial real in
    ap (λ (a : Option Requested). responded setup live answer a) asked
    ∙ (where_so (is_answer setup asks.Connect answer.header) (decided setup live answer asks.Connect) (stays live) (is_its_answer setup 0)
    ∙ (ap (λ (o : Option Found). connected setup live (blocks_with setup identity serial real) o) differs.read
    ∙ (where_so (is_whole differs.found) (if differs.found.differs
    then released setup cause.ModuleDiff live
    else related_by setup (placed setup (blocks_with setup identity serial real) live) (chosen_of differs.found)) (stays live) differs.whole
    ∙ where_so differs.found.differs (released setup cause.ModuleDiff live)
    (related_by setup (placed setup (blocks_with setup identity serial real) live) (chosen_of differs.found)) differs.differs)))

pub differing_so : (setup : Setup) (identity : Identity) (serial : ℕ) (real : Real) (controller : Controlling) (spare : ℕ) → IsSetup setup → IsDevice identity
    → ((mine : Controller) (identity : Identity) (caller : Caller) (address : List ℕ) (answer : Answered)
    → IsDevice identity → IsCaller caller → IsAddress address → CanBeAnswered answer
    → controller_hears mine (response_frame identity caller address answer) ≡ mine_reported mine caller.mac caller.endpoint (Responds answer))
    → Asks setup identity.mac Connecting asks.Connect None spare controller → Differs setup identity serial real → CanBeAnswered (answer_with setup identity serial real)
    → EndedWith cause.ModuleDiff (controller_step controller (differing_frame setup identity serial real)).controller
differing_so setup identity serial real controller spare good device responses waits differs can =
    let answer = answer_with setup identity serial real in
    let mine = setup.plan.controller in
    let hears = responses mine identity (caller_of mine) setup.plan.station.suite.address answer device
    (record { mac = good.mac; endpoint = (good.address, omega arith) }) good.station can ∙ is_reported mine (Responds answer) in
    let steps = hears_so setup controller controller.live (Responds answer) (differing_frame setup identity serial real) waits.of_setup refl hears
    ∙ ap (λ (turn : Turn). stepped controller turn)
    (ap (after_turn setup (can_begin controller.live)) (differing_turn setup identity serial real controller.live differs waits.asked)
    ∙ unfollowed setup (can_begin controller.live) (released setup cause.ModuleDiff controller.live) refl) in
    record {
      in_phase = ap (λ (s : ControllerStepped). s.controller.live.phase) steps;
      unestablished = ap (λ (s : ControllerStepped). s.controller.live.stands) steps;
    }
