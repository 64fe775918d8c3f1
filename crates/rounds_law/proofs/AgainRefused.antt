-- What a controller does if its device refuses it.
use Rattle.std.proofs.Common.{◌≡◌, ◌==◌, ◌&&◌, ◌≤◌, ◌<◌, ℕ, Bool, true, false, List, [], ◌∷◌, length, Option, Some, None, refl, ap, ◌∙◌, arith}
use Rattle.std.specs.Prelude.{if◌then◌else◌}
use Rattle.pn_values.specs.declared.identity.Identity.{Identity}
use Rattle.pn_values.specs.declared.mac.Mac.{Mac}
use Rattle.pn_values.specs.declared.set_item.BlockError.{BlockError}
use Rattle.pn_values.specs.declared.set_item.BlockError.TheVariants.{InOperation}
use Rattle.frame_codec.specs.declared.udp.Caller.{Caller}
use Rattle.frame_codec.specs.Sendable.{IsMac}
use Rattle.dcp_core.specs.Request.{Asked}
use Rattle.dcp_core.specs.Reported.{set_said}
use Rattle.dcp_core.specs.Set.{set_bytes}
use Rattle.rpc_core.specs.declared.response.Status.{Status}
use Rattle.rpc_core.specs.Response.{Answered, answer_to, is_done}
use Rattle.rpc_core.specs.Sendable.{CanBeAnswered}
use Rattle.pn_alarms.specs.Sending.{due}
use Rattle.plans.specs.declared.parts.Controller.{Controller}
use Rattle.plans.specs.declared.parts.Parts.{Parts}
use Rattle.device_frames.specs.Sent.{SetAnswer, bytes_of as device_bytes, response_frame}
use Rattle.controller_messages.specs.declared.request.Request.{Request}
use Rattle.controller_messages.specs.declared.request.Request.TheVariants as asks
use Rattle.controller_messages.specs.declared.setup.Setup.{Setup}
use Rattle.controller_messages.specs.Heard.{Heard, Answers, Responds, heard_of}
use Rattle.controller_messages.specs.Requests.{address_asked, call_for}
use Rattle.controller_core.specs.declared.stored.state.State.{State}
use Rattle.controller_core.specs.declared.stored.state.State.TheVariants.{Addressing, Connecting, Ended}
use Rattle.controller_core.specs.declared.stored.state.Cause.{Cause}
use Rattle.controller_core.specs.declared.stored.state.Cause.TheVariants as cause
use Rattle.controller_core.specs.declared.stored.event.Event.TheVariants.{Frame, Tick}
use Rattle.controller_core.specs.stored.State.{Controlling, Live, is_limited}
use Rattle.controller_core.specs.start_up.Answers.{is_answer, is_held, is_state_conflict}
use Rattle.controller_core.specs.Machine.{Stepped, after_turn, answered, can_begin, decided, denied, flowed, gone_on, brought, exchange_later, is_again}
use Rattle.controller_core.specs.Machine.{later, over, quit, released, requests_of, responded, where_due, step_of, stepped, stays, turn_due, turn_of, turned, undone}
use Rattle.end_laws.specs.hearing.Hearing.{mine_hears, mine_reported}
use Rattle.end_laws.specs.hearing.Stations.{IsAddress, IsCaller, IsDevice, IsSetup}
use Rattle.both_ends.specs.startup.answer.Answer.{caller_of}
use Rattle.rounds_law.specs.Path.{Asks, controller_step}
use Rattle.rounds_law.specs.Again.{HasEnded, IsRefusal, unset_frame}
use Rattle.rounds_law.proofs.Choices.{and_false, where_not, where_so}
use Rattle.rounds_law.proofs.ControllerCallingResponses.{is_its_answer, is_reported}
use Rattle.rounds_law.proofs.PlaceTurns.{undue, unfollowed, without_relation}
use Rattle.rounds_law.proofs.SearchingController.{mine_so}

-- ---- it has ended

-- a controller that is over because it was refused, without an established relation and without a request of the application
over_ended : (setup : Setup) (controller : Controlling) (live : Live) (step : Stepped) → controller.setup ≡ setup
    → step ≡ stepped controller (stays (over cause.Refused live)) → HasEnded setup cause.Refused step.controller
over_ended setup controller live step same e =
    record {
      of_setup = ap (λ (s : Stepped). s.controller.setup) e ∙ same;
      in_phase = ap (λ (s : Stepped). s.controller.live.phase) e;
      unasked = ap (λ (s : Stepped). s.controller.live.asked) e;
      unestablished = ap (λ (s : Stepped). s.controller.live.stands) e;
      alone = (ap (λ (s : Stepped). s.controller.live.access.waiting) e, ap (λ (s : Stepped). s.controller.live.access.plug) e);
    }

unset_short : (setup : Setup) → length (set_bytes (address_asked setup.plan) (InOperation ∷ [])) ≤ 1498
unfolding set_bytes
unset_short setup = omega arith

-- With any other status the controller sends no Release, whatever the plan says.
pub not_held : (plan : Parts) (status : Status) → is_state_conflict status ≡ false → is_held plan status ≡ false
not_held plan status other = ap (λ (b : Bool). plan.persistent_start && b) other ∙ and_false plan.persistent_start

module _ (setup : Setup) (identity : Identity) (good : IsSetup setup) (device : IsDevice identity)
    (responses : (mine : Controller) (identity : Identity) (caller : Caller) (address : List ℕ) (answer : Answered)
    → IsDevice identity → IsCaller caller → IsAddress address → CanBeAnswered answer
    → heard_of mine (response_frame identity caller address answer) ≡ mine_reported mine caller.mac caller.endpoint (Responds answer))
    (answers : (mine : Controller) (identity : Identity) (asker : Mac) (request : Asked) (outcomes : List BlockError)
    → IsDevice identity → IsMac asker → request.xid < 4294967296 → length (set_bytes request outcomes) ≤ 1498
    → heard_of mine (device_bytes identity (SetAnswer asker request outcomes)) ≡ mine_hears mine asker (Answers identity.mac (set_said request outcomes))) where
  -- ---- the Connect

  caller_sized : IsCaller (caller_of setup.plan.controller)
  caller_sized = record { mac = good.mac; endpoint = (good.address, omega arith) }

  refusal_heard : (octets : List ℕ) (refusal : IsRefusal setup identity octets)
      → heard_of setup.plan.controller octets ≡ Responds (answer_to (call_for setup asks.Connect) refusal.status [])
  refusal_heard octets refusal =
      ap (heard_of setup.plan.controller) refusal.frame
      ∙ (responses setup.plan.controller identity (caller_of setup.plan.controller) setup.plan.station.suite.address
      (answer_to (call_for setup asks.Connect) refusal.status []) device caller_sized good.station refusal.fits
      ∙ is_reported setup.plan.controller (Responds (answer_to (call_for setup asks.Connect) refusal.status [])))

  refused_turn : (live : Live) (octets : List ℕ) (refusal : IsRefusal setup identity octets) → is_held setup.plan refusal.status ≡ false
      → live.asked ≡ Some asks.Connect
      → turn_of setup live (Frame (record { items = octets })) ≡ stays (denied refusal.status live)
  refused_turn live octets refusal free asked =
      let response = answer_to (call_for setup asks.Connect) refusal.status [] in
      ap (λ (h : Heard). turned setup live h) (refusal_heard octets refusal)
      ∙ (ap (λ (a : Option Request). after_turn setup (can_begin live) (responded setup live response a)) asked
      ∙ (ap (after_turn setup (can_begin live))
      (where_so (is_answer setup asks.Connect response.header) (decided setup live response asks.Connect) (stays live) (is_its_answer setup 0)
      ∙ (where_not (is_done refusal.status) _ (undone setup live refusal.status asks.Connect) refusal.negative
      ∙ where_not (is_held setup.plan refusal.status) (released setup cause.Refused (record live { refusal = Some refusal.status })) (stays (denied refusal.status live))
      free))
      ∙ unfollowed setup (can_begin live) (stays (denied refusal.status live)) refl))

  pub refused : (controller : Controlling) (spare : ℕ) (octets : List ℕ) → Asks setup identity.mac Connecting asks.Connect None spare controller
      → (refusal : IsRefusal setup identity octets) → is_held setup.plan refusal.status ≡ false
      → ((controller_step controller octets).frames ≡ []) × HasEnded setup cause.Refused (controller_step controller octets).controller
  unfolding step_of
  refused controller spare octets asking refusal free =
      let step_is = ap (λ (s : Setup). stepped controller (turn_of s controller.live (Frame (record { items = octets })))) asking.of_setup
      ∙ ap (stepped controller) (refused_turn controller.live octets refusal free asking.asked) in (
        ap (λ (s : Stepped). s.frames) step_is,
        over_ended setup controller (record controller.live { refusal = Some refusal.status })
            (controller_step controller octets) asking.of_setup step_is,
      )

  -- ---- the IP suite

  unset_heard : heard_of setup.plan.controller (unset_frame setup identity) ≡ Answers identity.mac (set_said (address_asked setup.plan) (InOperation ∷ []))
  unset_heard =
      answers setup.plan.controller identity setup.plan.controller.mac (address_asked setup.plan)
      (InOperation ∷ []) device good.mac (omega arith) (unset_short setup)
      ∙ mine_so setup.plan.controller (Answers identity.mac (set_said (address_asked setup.plan) (InOperation ∷ [])))

  unset_turn : (live : Live) → live.phase ≡ Addressing
      → turn_of setup live (Frame (record { items = unset_frame setup identity })) ≡ stays (over cause.Refused live)
  unset_turn live addressing =
      ap (λ (h : Heard). turned setup live h) unset_heard
      ∙ ap (λ (p : State). answered setup live identity.mac (set_said (address_asked setup.plan) (InOperation ∷ [])) p) addressing

  pub unset : (controller : Controlling) (spare : ℕ) → Asks setup identity.mac Addressing asks.Address None spare controller
      → ((controller_step controller (unset_frame setup identity)).frames ≡ [])
      × HasEnded setup cause.Refused (controller_step controller (unset_frame setup identity)).controller
  unfolding step_of
  unset controller spare asking =
      let step_is = ap (λ (s : Setup). stepped controller (turn_of s controller.live (Frame (record { items = unset_frame setup identity })))) asking.of_setup
      ∙ ap (stepped controller) (unset_turn controller.live asking.in_phase) in (
        ap (λ (s : Stepped). s.frames) step_is,
        over_ended setup controller controller.live (controller_step controller (unset_frame setup identity)) asking.of_setup step_is,
      )

-- ---- units

-- the unit of a controller that has ended, without a request
ended_turn : (setup : Setup) (why : Cause) (live : Live) → live.phase ≡ Ended why → live.asked ≡ None → live.stands ≡ false
    → turn_of setup live Tick ≡ stays (later live)
ended_turn setup why live ended none unrelated =
    ap (λ (p : State). if is_limited p && live.left == 1 then quit setup cause.NoProgress (later live) live.phase
    else gone_on (turn_due setup (is_again live) (later live)) (is_again live)) ended
    ∙ (ap (λ (l : Live). gone_on l (is_again live)) (undue setup (is_again live) (later live) (without_relation (later live) unrelated))
    ∙ (ap (λ (b : Bool). if b then flowed (exchange_later (later live)) (due live.alarms.sending) (due live.low_alarms.sending)
    (is_again live) (brought (later live)) (brought (later live)).ending
    else record { live = later live; sent = where_due (is_again live) (requests_of live.device live.asked) }) unrelated
    ∙ (ap (λ (a : Option Request). record { live = later live; sent = where_due (is_again live) (requests_of live.device a) }) none
    ∙ nothing_due (is_again live))))
  where
    nothing_due : (b : Bool) → record { live = later live; sent = where_due b [] } ≡ stays (later live)
    nothing_due true = refl
    nothing_due false = refl

pub ended_unit : (setup : Setup) (why : Cause) (controller : Controlling) → HasEnded setup why controller
    → ((step_of controller Tick).frames ≡ []) × HasEnded setup why (step_of controller Tick).controller
unfolding step_of
ended_unit setup why controller ended =
    let step_is = ap (stepped controller) (ended_turn controller.setup why controller.live ended.in_phase ended.unasked ended.unestablished) in (
      ap (λ (s : Stepped). s.frames) step_is,
      record {
        of_setup = ap (λ (s : Stepped). s.controller.setup) step_is ∙ ended.of_setup;
        in_phase = ap (λ (s : Stepped). s.controller.live.phase) step_is ∙ ended.in_phase;
        unasked = ap (λ (s : Stepped). s.controller.live.asked) step_is ∙ ended.unasked;
        unestablished = ap (λ (s : Stepped). s.controller.live.stands) step_is ∙ ended.unestablished;
        alone = (
          ap (λ (s : Stepped). s.controller.live.access.waiting) step_is ∙ ended.alone.0,
          ap (λ (s : Stepped). s.controller.live.access.plug) step_is ∙ ended.alone.1,
        );
      },
    )
