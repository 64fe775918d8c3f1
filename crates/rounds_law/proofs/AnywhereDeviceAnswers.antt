-- The answers of a device to the calls of its controller are fit, and are stored.
use Rattle.std.proofs.Common.{◌≡◌, ◌⊎◌, ◌≤◌, ◌<◌, ◌+◌, ◌==◌, ◌&&◌, ℕ, nat_eq, Bool, true, false, List, [], ◌∷◌}
use Rattle.std.proofs.Common.{Option, Some, None, Result, Ok, Err, sym, ap, subst, ◌∙◌, arith}
use Rattle.std.specs.Prelude.{option_and_then, slice_get, unwrap_or}
use Rattle.std.specs.List.{AllByRecursion}
use Rattle.std.specs.Cmp.Lexicographic.{pointwise}
use Rattle.std.proofs.lemmas.Bool.Decides.{nat_tests}
use Rattle.pn_values.specs.declared.identity.Identity.{Identity}
use Rattle.block_codec.specs.declared.block.Block.TheVariants as is
use Rattle.block_codec.specs.Block.{block_bytes}
use Rattle.frame_codec.specs.FrameId.{is_cyclic}
use Rattle.frame_codec.specs.declared.udp.Caller.{Caller}
use Rattle.rpc_core.specs.Cache.{kept_of}
use Rattle.rpc_core.specs.Call.{Asked as Call}
use Rattle.rpc_core.specs.Response.{Answered, answer_to, is_done}
use Rattle.records.specs.declared.status.call_fault.CallFault.{CallFault}
use Rattle.records.specs.declared.status.operation.Operation.{Operation}
use Rattle.records.specs.declared.status.operation.Operation.TheVariants.{Write}
use Rattle.records.specs.status.Status.{done, status_of}
use Rattle.records.specs.writes.Asked.{writing_of}
use Rattle.connects.specs.answers.Connect.{Chosen, chosen_of}
use Rattle.connects.specs.declared.answers.connect.Found.{Found}
use Rattle.module_diff.specs.Diff.{diff_of}
use Rattle.relations.specs.Calls.{done_of, release_of}
use Rattle.relations.specs.Connect.{connect_blocks, connect_within}
use Rattle.relations.specs.Numbers.{endpoint_of}
use Rattle.relations.specs.RelationState.{RelationState, uuid_of}
use Rattle.device_frames.specs.Sendable.{IsSendable}
use Rattle.device_frames.specs.Sent.{CallAnswer, Sent, bytes_of}
use Rattle.device_core.specs.State.{Live, Rest, Station}
use Rattle.device_core.specs.Asking.{asking_of}
use Rattle.device_core.specs.Handled.{answer_from}
use Rattle.device_core.specs.Handled.{kept_behind, outcome_of}
use Rattle.controller_messages.specs.declared.plug_request.PlugRequest.{PlugRequest}
use Rattle.controller_messages.specs.declared.plug_request.PlugStep.TheVariants.{Record}
use Rattle.controller_messages.specs.declared.setup.Setup.{Setup}
use Rattle.controller_messages.specs.PlugRequests.{plug_write_blocks}
use Rattle.controller_messages.specs.declared.request.Request.TheVariants as asks
use Rattle.controller_messages.specs.Heard.{Responds}
use Rattle.controller_messages.specs.Requests.{blocks_of, control_of}
use Rattle.end_laws.specs.hearing.Stations.{IsDevice, IsSetup}
use Rattle.end_laws.specs.turns.Turns.{chosen_in}
use Rattle.both_ends.specs.startup.answer.Answer.{IsAllThere, caller_of, chosen_with}
use Rattle.both_ends.specs.startup.request.Request.{no_rows, request_for}
use Rattle.rounds_law.specs.Anywhere.{AllLast, IsAnyDevice, IsFit, IsQuestionOf}
use Rattle.rounds_law.specs.AnywhereFrames.{IsOfPlug}
use Rattle.rounds_law.specs.Path.{IsIgnored, hold_of}
use Rattle.rounds_law.proofs.AnywhereDeviceFine.{IsFineMove, answer_stored}
use Rattle.rounds_law.proofs.AnywhereDeviceSays.{IsFitting, SaysLaws}
use Rattle.rounds_law.proofs.AnywhereDeviceWrites.{IsQuiet}
use Rattle.rounds_law.proofs.AnywherePlugBlocks.{IsPlain}

-- ---- the answers are fit

second_so : (a b : Bool) → (a && b) ≡ true → b ≡ true
second_so true b e = e
second_so false b e = absurd cc

some_is : {A : Type 0} (a b : A) → Some a ≡ Some b → a ≡ b
some_is {A} a b e = ap (λ (o : Option A). unwrap_or o a) e

-- a negative answer, and one to another call than the Connect
pub refused_fit : (setup : Setup) (response : Answered) → is_done response.status ≡ false → IsFit setup (Responds response)
refused_fit setup response negative = λ right positive. absurd cc

later_fit : (setup : Setup) (response : Answered) → (response.header.sequence == 0) ≡ false → IsFit setup (Responds response)
later_fit setup response later = λ right.
    let first = second_so (pointwise nat_eq response.header.activity setup.activity) (response.header.sequence == 0) right in absurd cc

-- one without anything that a Connect is answered with
pub unchosen_fit : (setup : Setup) (response : Answered) → chosen_in response.blocks ≡ None → IsFit setup (Responds response)
unchosen_fit setup response none = λ right positive chosen is. absurd cc

cyclic_number : (number : ℕ) → number < 14336 → is_cyclic (0xC000 + number) ≡ true
cyclic_number number few = grind (arith, nat_tests)

-- one with the FrameID of this number
pub chosen_fit : (setup : Setup) (response : Answered) (number : ℕ) → number < 14336 → IsAllThere response.blocks (0xC000 + number) (endpoint_of number)
    → IsFit setup (Responds response)
chosen_fit setup response number few whole = λ right positive chosen is.
    subst (λ (c : Chosen). (is_cyclic c.frame_id ≡ true) × (c.reference < 65536))
    (some_is (chosen_with number) chosen (sym (chosen_so number whole) ∙ is))
    (cyclic_number number few, omega (arith, few))
  where
    chosen_so : (n : ℕ) → IsAllThere response.blocks (0xC000 + n) (endpoint_of n) → chosen_in response.blocks ≡ Some (chosen_with n)
    chosen_so n there = ap (λ (o : Option Found). option_and_then (λ (found : Found). chosen_of found) o) there

-- ---- the premises

-- The laws of the crates below, and what is known of both stations.
pub record CallLaws (setup next : Setup) (silence : ℕ) (station : Station) : Type 0 where
  pub says : SaysLaws
  pub good : IsSetup setup
  pub device : IsDevice station.identity
  pub other : next.activity ≡ setup.activity → ⊥
  pub ignored : (caller : Caller) (address : List ℕ) (answer : Answered) → IsSendable station.identity (CallAnswer caller address answer)
      → (answer.header.activity ≡ next.activity → ⊥) → IsIgnored next (bytes_of station.identity (CallAnswer caller address answer))
  pub negative : (operation : Operation) (refusal : CallFault) → is_done (status_of operation refusal) ≡ false
  pub whole : (number : ℕ) → number < 14336
      → IsAllThere (connect_blocks station.identity number (request_for setup.plan setup.ar) []) (0xC000 + number) (endpoint_of number)
  pub same : diff_of (request_for setup.plan setup.ar).expected setup.plan.real.modules.items ≡ no_rows
  pub accepted : connect_within station.options setup.plan.controller.mac None (blocks_of setup asks.Connect) ≡ Ok (request_for setup.plan setup.ar)
  pub quiet : (number : ℕ) → number < 65536 → (standing : Option (List ℕ))
      → IsQuiet station.named standing setup.plan.real (writing_of standing setup.plan.real (blocks_of setup (asks.Write number)))
  pub unasked : (number : ℕ) → number < 65536 → (standing : Option (List ℕ)) (caller : Caller) (call : Call)
      → asking_of setup.plan.real station.named standing caller call (blocks_of setup (asks.Write number)) Write ≡ Ok None
  pub plain : (request : PlugRequest) → IsOfPlug setup request → (number : ℕ) → request.step ≡ Record number → (standing : Option (List ℕ))
      → IsPlain (writing_of standing setup.plan.real (plug_write_blocks setup request (slice_get setup.plan.records.items number)))
  pub plug_unasked : (request : PlugRequest) → IsOfPlug setup request → (number : ℕ) → request.step ≡ Record number → (standing : Option (List ℕ))
      (caller : Caller) (call : Call)
      → asking_of setup.plan.real station.named standing caller call
      (plug_write_blocks setup request (slice_get setup.plan.records.items number)) Write ≡ Ok None
  pub released : (link : Option RelationState) → (release_of link (blocks_of setup (asks.Release 0)) ≡ Ok (control_of setup 4))
      ⊎ ((refusal : CallFault) × (release_of link (blocks_of setup (asks.Release 0)) ≡ Err refusal))
  pub unchosen : chosen_in (block_bytes (is.ReleaseRes (done_of (control_of setup 4)))) ≡ None
  pub active : 1920000 ≤ silence
  pub holds : hold_of setup.plan ≤ silence

module _ (setup next : Setup) (identity : Identity) (silence : ℕ) (station : Station) (laws : CallLaws setup next silence station) where
  abbrev caller : Caller
  caller = caller_of setup.plan.controller

  abbrev FineMove : Rest → List Sent → Type 0
  FineMove rest sent = IsFineMove setup next identity silence station rest sent

  -- ---- an answer that is stored

  pub served_move : (live : Live) → IsAnyDevice setup next identity silence station live → (rest : Rest) → rest.calls ≡ live.rest.calls
      → (call : Call) → call.header.activity ≡ setup.activity → (address : List ℕ) (operation : Operation) (outcome : Result (List ℕ) CallFault)
      → IsFit setup (Responds (answer_to call (outcome_of operation outcome).0 (outcome_of operation outcome).1))
      → (link : Option RelationState) → AllLast setup silence link → IsQuestionOf setup next (uuid_of link) rest.asked.standing
      → (behind : List Sent) → AllByRecursion (IsFitting setup) behind
      → FineMove (kept_behind station.identity rest call (answer_from address caller call operation outcome) link)
      (answer_from address caller call operation outcome ∷ behind)
  served_move live before rest same call own address operation outcome fit link lasts asked behind fits =
      let answer = answer_to call (outcome_of operation outcome).0 (outcome_of operation outcome).1 in (
        lasts,
        λ can. answer_stored setup next identity silence station laws.says laws.good laws.device laws.other laws.ignored
            caller address call answer rest.calls own own
            fit can.0 (ap (kept_of next.activity) same ∙ before.uncalled_next),
        (fit, fits),
        asked,
      )

  pub fit_no : (call : Call) (operation : Operation) (refusal : CallFault) → IsFit setup (Responds (answer_to call (status_of operation refusal) []))
  fit_no call operation refusal = refused_fit setup (answer_to call (status_of operation refusal) []) (laws.negative operation refusal)

  pub fit_later : (call : Call) (blocks : List ℕ) → (call.header.sequence == 0) ≡ false → IsFit setup (Responds (answer_to call done blocks))
  fit_later call blocks later = later_fit setup (answer_to call done blocks) later
