-- A controller that searches, in any state.
use Rattle.std.proofs.Common.{◌≡◌, ◌≢◌, ◌⊎◌, inl, inr, ◌≤◌, ◌<◌, ◌==◌, ◌&&◌, ℕ, Bool, true, false, List, [], ◌∷◌, length, map, Option, Some, None}
use Rattle.std.proofs.Common.{if◌then◌else◌, refl, sym, ap, subst, ◌∙◌, arith}
use Rattle.pn_values.specs.declared.identity.Identity.{Identity}
use Rattle.pn_values.specs.declared.mac.Mac.{Mac}
use Rattle.pn_values.specs.declared.settings.Settings.{Settings}
use Rattle.frame_codec.specs.declared.udp.Caller.{Caller}
use Rattle.frame_codec.specs.Sendable.{IsMac}
use Rattle.dcp_core.specs.Identify.{identify_bytes}
use Rattle.dcp_core.specs.Reported.{identify_said}
use Rattle.dcp_core.specs.Response.{Answered}
use Rattle.rpc_core.specs.Call.{Asked as Call}
use Rattle.connect_blocks.specs.declared.control.ControlBlock.{ControlBlock}
use Rattle.device_frames.specs.Sent.{IdentifyAnswer, bytes_of as device_bytes}
use Rattle.plans.specs.declared.parts.Controller.{Controller}
use Rattle.controller_messages.specs.declared.request.Request.{Request}
use Rattle.controller_messages.specs.declared.request.Request.TheVariants as asks
use Rattle.controller_messages.specs.declared.setup.Setup.{Setup}
use Rattle.controller_messages.specs.Heard.{Heard, Nothing, Answers, Responds, Refuses, Calls, Alarms, heard_of}
use Rattle.controller_messages.specs.Heard.{Cyclic as Comes}
use Rattle.controller_messages.specs.PlugRequests.{plug_ready_in}
use Rattle.controller_messages.specs.Sent.{Requests, Sent, bytes_of}
use Rattle.controller_core.specs.declared.stored.state.State.{State}
use Rattle.controller_core.specs.declared.stored.state.State.TheVariants.{Looking}
use Rattle.controller_core.specs.start_up.Answers.{is_addressed, is_found, is_ready, is_right, ready_in}
use Rattle.controller_core.specs.stored.Alarms.{is_alarm}
use Rattle.controller_core.specs.stored.State.{Controlling, Live, is_limited}
use Rattle.controller_core.specs.Machine.{Stepped, Turn, after_turn, answered, called, can_begin, found, gone_on, is_again, is_exchanging, is_spent}
use Rattle.controller_core.specs.Machine.{later, noticed, opening_of, readied, refused}
use Rattle.controller_core.specs.Machine.{requests_of, responded}
use Rattle.controller_core.specs.Machine.{stays, step_of, ticked, turned, where_due}
use Rattle.end_laws.specs.hearing.Hearing.{mine_hears}
use Rattle.end_laws.specs.hearing.Stations.{IsDevice, IsSetup}
use Rattle.end_laws.specs.controller.Small.{IsInStep}
use Rattle.rounds_law.specs.Anywhere.{IsAnyController}
use Rattle.rounds_law.specs.Path.{found_frame}
use Rattle.rounds_law.specs.Repeating.{completes, counts_on}
use Rattle.rounds_law.proofs.AnywhereControllerKept.{stands_in}
use Rattle.rounds_law.proofs.AnywhereControllerLaws.{ControllerLaws, reached_steady}
use Rattle.rounds_law.proofs.AnywhereControllerReached.{reached_kept}
use Rattle.rounds_law.proofs.AnywhereParts.{ControllerFinds, ControllerSearch, SearchFrame}
use Rattle.rounds_law.proofs.ControllerPassingUnits.{goes_on}
use Rattle.rounds_law.proofs.PlaceTurns.{uncalled, unchanged, undue, without_relation}
use Rattle.rounds_law.proofs.SearchingController.{found_by_name, mine_so, step_is}
use Rattle.rounds_law.proofs.SearchingSizes.{identify_short}

-- ---- a unit

once : (setup : Setup) (device : Mac) (request : Request) (is_due : Bool)
    → map (bytes_of setup) (where_due is_due (Requests device request ∷ [])) ≡ (if is_due then bytes_of setup (Requests device request) ∷ [] else [])
once setup device request true = refl
once setup device request false = refl

-- What is active while it searches, and that its relation is not established.
record Searches (live : Live) : Type 0 where
  in_phase : live.phase ≡ Looking
  asked : live.asked ≡ Some asks.Identify
  down : live.stands ≡ false

searches_so : ControllerLaws → (setup : Setup) (controller : Controlling) → IsSetup setup → IsAnyController setup controller → controller.live.phase ≡ Looking
    → Searches controller.live
searches_so laws setup controller good any looking = record {
  in_phase = looking;
  asked = subst (λ (p : State). IsInStep controller.setup.plan p controller.live.asked) looking (reached_steady laws controller any.reached).asked;
  down = (reached_kept laws setup controller good any.of_setup any.reached).stands ∙ ap stands_in looking;
}

-- The turn with this state and these messages.
abbrev turn_with : Live → List Sent → Turn
turn_with live sent = record { live = live; sent = sent }

search_turn : (setup : Setup) (live : Live) → Searches live
    → ticked setup live ≡ turn_with (later live) (where_due (is_again live) (Requests live.device asks.Identify ∷ []))
search_turn setup live is =
    let unspent : is_spent live ≡ false = ap (λ (p : State). is_limited p && live.left == 1) is.in_phase in
    let bare : gone_on (later live) (is_again live) ≡ turn_with (later live) (where_due (is_again live) (requests_of live.device live.asked)) =
    rw is.down refl in
    goes_on setup live unspent (undue setup (is_again live) (later live) (without_relation (later live) is.down))
    ∙ (bare ∙ ap (λ (o : Option Request). turn_with (later live) (where_due (is_again live) (requests_of live.device o))) is.asked)

-- What a turn of the search shows.
abbrev Shows : Controlling → Turn → Type 0
Shows controller turn = (turn.live.phase ≡ Looking)
    × (controller.live.waited < 32000)
    × (turn.live.waited ≡ counts_on controller.live.waited)
    × (map (bytes_of controller.setup) turn.sent ≡ (if completes controller.live.waited then opening_of controller ∷ [] else []))

shows : (controller : Controlling) → controller.live.phase ≡ Looking → controller.live.waited < 32000
    → Shows controller (turn_with (later controller.live) (where_due (is_again controller.live) (Requests controller.live.device asks.Identify ∷ [])))
unfolding opening_of
shows controller looking few = (looking, few, refl, once controller.setup controller.live.device asks.Identify (is_again controller.live))

-- ---- a frame

-- It ends the search, or the Identify is sent again in time.
abbrev GoesOn : Live → Turn → Type 0
GoesOn live turn = (turn.live.phase ≢ Looking) ⊎ (turn.live.waited ≡ live.waited)

module _ (setup : Setup) (live : Live) (is : Searches live) where
  either : (test : Bool) (one other : Turn) → GoesOn live one → GoesOn live other → GoesOn live (if test then one else other)
  either true one other first second = first
  either false one other first second = second

  unchanged_so : (turn : Turn) → turn ≡ stays live → GoesOn live turn
  unchanged_so turn same = subst (GoesOn live) (sym same) (inr refl)

  found_so : (source : Mac) (answer : Answered) → GoesOn live (found setup live source answer)
  found_so source answer =
      either (is_right setup.plan answer) _ _ (either (is_addressed setup.plan answer) _ _ (inl (λ e. absurd cc)) (inl (λ e. absurd cc))) (inl (λ e. absurd cc))

  answered_so : (source : Mac) (answer : Answered) → GoesOn live (answered setup live source answer live.phase)
  answered_so source answer =
      subst (λ (p : State). GoesOn live (answered setup live source answer p)) (sym is.in_phase)
      (either (is_found setup.plan answer) (found setup live source answer) (stays live) (found_so source answer) (inr refl))

  readied_so : (caller : Caller) (call : Call) (block : ControlBlock) → GoesOn live (readied live caller call block live.phase)
  readied_so caller call block = subst (λ (p : State). GoesOn live (readied live caller call block p)) (sym is.in_phase) (inr refl)

  called_so : (caller : Caller) (call : Call) (block : Option ControlBlock) → GoesOn live (called setup live caller call block)
  called_so caller call (Some block) =
      either (is_ready setup block) (readied live caller call block live.phase) (stays live) (readied_so caller call block) (inr refl)
  called_so caller call None =
      unchanged_so (called setup live caller call None)
      (ap (after_turn setup (can_begin live)) (uncalled setup live caller call (plug_ready_in call) (ap is_exchanging is.in_phase)) ∙ unchanged setup live)

  heard_so : (heard : Heard) → GoesOn live (turned setup live heard)
  heard_so Nothing = inr refl
  heard_so (Answers source answer) = answered_so source answer
  heard_so (Responds response) =
      unchanged_so (turned setup live (Responds response))
      (ap (λ (o : Option Request). after_turn setup (can_begin live) (responded setup live response o)) is.asked ∙ unchanged setup live)
  heard_so (Refuses refusal) =
      unchanged_so (turned setup live (Refuses refusal))
      (ap (λ (o : Option Request). after_turn setup (can_begin live) (refused setup live refusal o)) is.asked ∙ unchanged setup live)
  heard_so (Calls caller call) = called_so caller call (ready_in call)
  heard_so (Comes source frame_id body) = rw is.down (inr refl)
  heard_so (Alarms source under header notice) =
      unchanged_so (turned setup live (Alarms source under header notice))
      (ap (λ (b : Bool). after_turn setup (can_begin live) (if b && is_alarm live.cyclic.route source header then noticed live under notice else stays live))
      is.down ∙ unchanged setup live)

-- ---- the parts

module _ (laws : ControllerLaws) (setup : Setup) where
  pub controller_search : ControllerSearch setup
  unfolding step_of
  controller_search good controller any looking =
      let kept = reached_kept laws setup controller good any.of_setup any.reached in
      subst (Shows controller) (sym (search_turn controller.setup controller.live (searches_so laws setup controller good any looking)))
      (shows controller looking kept.waited)

  pub search_frame : SearchFrame setup
  unfolding step_of
  search_frame good controller octets any looking =
      heard_so controller.setup controller.live (searches_so laws setup controller good any looking) (heard_of controller.setup.plan.controller octets)

-- A clause of what is heard of the answer to an Identify.
abbrev pub IdentifyIsHeard : Type 0
IdentifyIsHeard = (mine : Controller) (identity : Identity) (asker : Mac) (running : Settings) (xid : ℕ)
    → IsDevice identity → IsMac asker → xid < 4294967296 → length (identify_bytes identity running xid) ≤ 1498
    → heard_of mine (device_bytes identity (IdentifyAnswer asker running xid))
    ≡ mine_hears mine asker (Answers identity.mac (identify_said identity running xid))

module _ (setup : Setup) (identity : Identity) (good : IsSetup setup) (device : IsDevice identity) (few : length identity.station_type.items ≤ 25)
    (hears : IdentifyIsHeard) where
  -- It searches no more.
  abbrev Leaves : Turn → Type 0
  Leaves turn = turn.live.phase ≢ Looking

  either_leaves : (test : Bool) (one other : Turn) → Leaves one → Leaves other → Leaves (if test then one else other)
  either_leaves true one other first second = first
  either_leaves false one other first second = second

  found_leaves : (live : Live) (source : Mac) (answer : Answered) → Leaves (found setup live source answer)
  found_leaves live source answer =
      either_leaves (is_right setup.plan answer) _ _ (either_leaves (is_addressed setup.plan answer) _ _ (λ e. absurd cc) (λ e. absurd cc)) (λ e. absurd cc)

  answer_leaves : (live : Live) (source : Mac) (answer : Answered) → is_found setup.plan answer ≡ true → Leaves (answered setup live source answer Looking)
  answer_leaves live source answer is =
      subst (λ (b : Bool). Leaves (if b then found setup live source answer else stays live)) (sym is) (found_leaves live source answer)

  pub controller_finds : ControllerFinds setup identity
  controller_finds controller settings any looking named sized =
      let said = identify_said identity settings 1 in
      let short : length settings.name ≤ 240 = subst (λ (name : List ℕ). length name ≤ 240) (sym named) good.plan.good.named.short in
      let heard = hears setup.plan.controller identity setup.plan.controller.mac settings 1 device good.mac (omega arith)
      (identify_short identity settings few short sized)
      ∙ mine_so setup.plan.controller (Answers identity.mac said) in
      let step = step_is setup controller controller.live (Answers identity.mac said) (found_frame setup identity settings) any.of_setup refl heard in
      subst (λ (s : Stepped). s.controller.live.phase ≢ Looking) (sym step)
      (subst (λ (p : State). Leaves (answered setup controller.live identity.mac said p)) (sym looking)
      (answer_leaves controller.live identity.mac said (found_by_name setup.plan identity settings named)))
