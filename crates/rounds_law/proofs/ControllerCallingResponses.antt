-- What a controller does with the responses of its device, and with ApplicationReady.
use Rattle.std.proofs.Common.{◌<◌, ◌≡◌, ◌≤◌, ◌+◌, ◌==◌, ◌&&◌, ◌++◌, inr, ℕ, nat_eq, true, false, List, [], ◌∷◌, length, Option, Some, None, Result, refl, sym}
use Rattle.std.proofs.Common.{ap}
use Rattle.std.proofs.Common.{subst, ◌∙◌, arith, eq-eqb}
use Rattle.std.specs.Prelude.{if◌then◌else◌}
use Rattle.std.specs.Cmp.Lexicographic.{pointwise}
use Rattle.std.proofs.lemmas.Cmp.{nat_list_eq_equiv}
use Rattle.pn_values.specs.declared.identity.Identity.{Identity}
use Rattle.frame_codec.specs.declared.udp.Caller.{Caller}
use Rattle.frame_codec.specs.Sendable.{IsMac}
use Rattle.rpc_core.specs.declared.interface.Interface.TheVariants.{Controller as controllers, Device as devices}
use Rattle.rpc_core.specs.Interface.{interface_uuid}
use Rattle.rpc_core.specs.Response.{Answered, answer_to}
use Rattle.rpc_core.specs.Sendable.{CanBeAnswered, CanBeCalled, IsHeader, IsUuid}
use Rattle.wire.specs.blocks.Fields.{body, version}
use Rattle.wire.specs.declared.blocks.fault.BlockFault.{BlockFault}
use Rattle.connect_blocks.specs.Control.{command, control}
use Rattle.connect_blocks.specs.declared.control.ControlBlock.{ControlBlock}
use Rattle.block_codec.specs.declared.block.Block.{Block}
use Rattle.block_codec.specs.declared.block.Block.TheVariants as is
use Rattle.block_codec.specs.Block.{block_bytes, block_of, block_size, fields_of, front}
use Rattle.block_codec.specs.Writable.{CanBeWritten}
use Rattle.records.specs.status.Status.{done}
use Rattle.plans.specs.declared.parts.Controller.{Controller}
use Rattle.relations.specs.declared.ready.Ready.{Ready}
use Rattle.device_frames.specs.Sent.{ready_frame, response_frame}
use Rattle.controller_messages.specs.declared.request.Request.{Request}
use Rattle.controller_messages.specs.declared.request.Request.TheVariants as asks
use Rattle.controller_messages.specs.declared.setup.Setup.{Setup}
use Rattle.controller_messages.specs.Heard.{Calls, Heard, Nothing, Responds, heard_of, is_to}
use Rattle.controller_messages.specs.Requests.{call_for, write_count, writing_from}
use Rattle.controller_messages.specs.Sent.{Agrees, calls_at, ready_answer}
use Rattle.controller_core.specs.declared.stored.event.Event.TheVariants.{Frame}
use Rattle.controller_core.specs.declared.stored.state.State.TheVariants.{Connecting, Ending, Exchanging, Waiting, Writing}
use Rattle.controller_core.specs.start_up.Answers.{is_answer, is_ready, ready_block, ready_in}
use Rattle.controller_core.specs.Machine.{Stepped, Turn, after_turn, after_write, called, can_begin, decided, is_exchanging, placed, readied, responded}
use Rattle.controller_core.specs.Machine.{standing, stays, turn_of, turned, writing}
use Rattle.controller_core.specs.stored.State.{Controlling, Live, phase_for}
use Rattle.cyclic_data.specs.exchange.Opening.{begun_of}
use Rattle.end_laws.specs.hearing.Hearing.{mine_reported}
use Rattle.end_laws.specs.hearing.Stations.{IsAddress, IsCalled, IsCaller, IsDevice, IsNumbered, IsSetup, ready_call}
use Rattle.both_ends.specs.startup.answer.Answer.{caller_of, chosen_with}
use Rattle.rounds_law.specs.Rounds.{hears_all}
use Rattle.rounds_law.specs.Path.{Asks, AsksNext, BeginsNoTurn, Controls, IsWritten, WaitsFew, confirmed_frame, controller_step, device_as_caller, ended_frame}
use Rattle.rounds_law.specs.Path.{prm_end_done, readied_frame, ready_for, response_to}
use Rattle.rounds_law.specs.Start.{IsPatient}
use Rattle.rounds_law.proofs.ControllerCallingAsks.{asks_after, count_few, related_asks, related_first, step_by, step_is, within_first, within_next}
use Rattle.rounds_law.proofs.Choices.{both_true, where_so}
use Rattle.rounds_law.proofs.PlaceTurns.{elsewhere, unfollowed}

-- the laws of the crates below
pub record HeardSo : Type 0 where
  pub response : (mine : Controller) (identity : Identity) (caller : Caller) (address : List ℕ) (answer : Answered)
      → IsDevice identity → IsCaller caller → IsAddress address → CanBeAnswered answer
      → heard_of mine (response_frame identity caller address answer) ≡ mine_reported mine caller.mac caller.endpoint (Responds answer)
  pub ready : (mine : Controller) (identity : Identity) (address : List ℕ) (ready : Ready)
      → IsDevice identity → IsMac ready.partner.mac → IsAddress ready.partner.address → IsAddress address → CanBeCalled controllers (ready_call ready)
      → heard_of mine (ready_frame identity address ready)
      ≡ mine_reported mine ready.partner.mac (calls_at ready.partner.address)
      (Calls (record { mac = identity.mac; endpoint = calls_at address }) (ready_call ready))
  pub call_can : (setup : Setup) (request : Request) → IsSetup setup → IsCalled request → IsNumbered request → CanBeCalled devices (call_for setup request)
  pub ready_can : (ready : Ready) → IsHeader ready.header → ready.header.interface ≡ interface_uuid controllers → IsUuid ready.block.ar_uuid
      → CanBeCalled controllers (ready_call ready)
  pub block_read : (block : Block) → CanBeWritten block → block_of (block_bytes block) ≡ front block []
  pub block_long : (block : Block) → length (block_bytes block) ≡ block_size block

same_number : (n : ℕ) → (n == n) ≡ true
same_number n = eq-eqb n n refl

-- the controller hears what is sent to it
to_it : (address : List ℕ) → is_to address (calls_at address) ≡ true
to_it address = both_true (pointwise nat_eq address address) (34964 == 34964) (nat_list_eq_equiv.refl address) refl

pub is_reported : (mine : Controller) (heard : Heard) → mine_reported mine mine.mac (calls_at mine.address) heard ≡ heard
is_reported mine heard =
    where_so (pointwise nat_eq mine.mac.octets mine.mac.octets) (if is_to mine.address (calls_at mine.address) then heard else Nothing) Nothing
    (nat_list_eq_equiv.refl mine.mac.octets)
    ∙ where_so (is_to mine.address (calls_at mine.address)) heard Nothing (to_it mine.address)

-- the state of a request of the start-up is no exchange
pub unexchanging : (request : Request) → is_exchanging (phase_for request) ≡ false
unexchanging (asks.Write number) = refl
unexchanging (asks.WriteAfter number tries) = refl
unexchanging request = refl

-- a response to a call of this controller
pub is_its_answer : (setup : Setup) (sequence : ℕ) → (pointwise nat_eq setup.activity setup.activity && sequence == sequence) ≡ true
is_its_answer setup sequence =
    both_true (pointwise nat_eq setup.activity setup.activity) (sequence == sequence) (nat_list_eq_equiv.refl setup.activity) (same_number sequence)

module _ (so : HeardSo) (setup : Setup) (identity : Identity) (good : IsSetup setup) (real : IsDevice identity) where
  abbrev pub mine : Controller
  mine = setup.plan.controller

  its_caller : IsCaller (caller_of mine)
  its_caller = record { mac = good.mac; endpoint = (good.address, omega arith) }

  response_heard : (request : Request) (blocks : List ℕ) → CanBeAnswered (answer_to (call_for setup request) done blocks)
      → heard_of mine (response_to setup identity request blocks) ≡ Responds (answer_to (call_for setup request) done blocks)
  response_heard request blocks can =
      let answer = answer_to (call_for setup request) done blocks in
      so.response mine identity (caller_of mine) setup.plan.station.suite.address answer real its_caller good.station can ∙ is_reported mine (Responds answer)

  -- the turn of a controller that waits for a response, with it
  response_turns : (request : Request) (blocks : List ℕ) (live : Live) → live.asked ≡ Some request
      → CanBeAnswered (answer_to (call_for setup request) done blocks)
      → (turn : Turn) → responded setup live (answer_to (call_for setup request) done blocks) (Some request) ≡ turn → can_begin turn.live ≡ false
      → turn_of setup live (Frame (record { items = response_to setup identity request blocks })) ≡ turn
  response_turns request blocks live asked can turn is none =
      ap (λ (heard : Heard). turned setup live heard) (response_heard request blocks can)
      ∙ (ap (λ (a : Option Request). after_turn setup (can_begin live) (responded setup live (answer_to (call_for setup request) done blocks) a)) asked
      ∙ (ap (after_turn setup (can_begin live)) is
      ∙ unfollowed setup (can_begin live) turn none))

  -- ---- a Write

  pub written_turns : (number : ℕ) (octets : List ℕ) (live : Live) → live.asked ≡ Some (asks.Write number) → IsWritten setup identity number octets
      → turn_of setup live (Frame (record { items = octets })) ≡ writing setup (writing_from setup.plan (number + 1)) live
  written_turns number octets live asked written =
      let answer = answer_to (call_for setup (asks.Write number)) done written.blocks in
      ap (λ (o : List ℕ). turn_of setup live (Frame (record { items = o }))) written.frame
      ∙ response_turns (asks.Write number) written.blocks live asked written.fits (writing setup (writing_from setup.plan (number + 1)) live)
      (where_so (is_answer setup (asks.Write number) answer.header) (decided setup live answer (asks.Write number)) (stays live)
      (is_its_answer setup (number + 1))
      ∙ ap (after_write setup live number (writing_from setup.plan (number + 1))) written.written)
      (elsewhere (writing setup (writing_from setup.plan (number + 1)) live).live (unexchanging (writing_from setup.plan (number + 1))))

  -- ---- PrmEnd

  done_size : (block : ControlBlock) → length block.ar_uuid ≡ 16 → block_size (is.PrmEndRes block) ≡ 32
  unfolding block_size fields_of body version control command
  done_size block sixteen = omega (arith, sixteen)

  ended_fits : CanBeAnswered (answer_to (call_for setup asks.PrmEnd) done (block_bytes (is.PrmEndRes (prm_end_done setup))))
  ended_fits = record {
    header = (so.call_can setup asks.PrmEnd good tt tt).header;
    status = record { code = omega arith; decode = omega arith; code1 = omega arith; code2 = omega arith };
    maximum = omega arith;
    few = omega (arith, so.block_long (is.PrmEndRes (prm_end_done setup)), done_size (prm_end_done setup) good.ar);
  }

  -- it waits for ApplicationReady
  abbrev awaiting : Live → Live
  awaiting live = record live { phase = Waiting; asked = None; left = setup.options.waiting_patience }

  ended_turns : (live : Live) → live.asked ≡ Some asks.PrmEnd
      → turn_of setup live (Frame (record { items = ended_frame setup identity })) ≡ stays (awaiting live)
  ended_turns live asked =
      let blocks = block_bytes (is.PrmEndRes (prm_end_done setup)) in
      let answer = answer_to (call_for setup asks.PrmEnd) done blocks in
      response_turns asks.PrmEnd blocks live asked ended_fits (stays (awaiting live))
      (where_so (is_answer setup asks.PrmEnd answer.header) (decided setup live answer asks.PrmEnd) (stays live)
      (is_its_answer setup (write_count setup.plan + 1)))
      (elsewhere (awaiting live) refl)

  -- ---- ApplicationReady

  ready_fits : CanBeCalled controllers (ready_call (ready_for setup))
  ready_fits =
      so.ready_can (ready_for setup)
      (record { object = refl; interface = refl; activity = good.ar; sequence = omega arith; operation = omega arith }) refl good.ar

  block_fits : CanBeWritten (is.ApplicationReady (ready_for setup).block)
  block_fits = (record { ar_uuid = good.ar; session_key = omega arith; control_command = omega arith; control_block_properties = omega arith }, refl)

  pub ready_is : ready_in (ready_call (ready_for setup)) ≡ Some (ready_for setup).block
  ready_is = ap (λ (r : Result (Block × List ℕ) BlockFault). ready_block r) (so.block_read (is.ApplicationReady (ready_for setup).block) block_fits)

  pub ready_heard : heard_of mine (readied_frame setup identity) ≡ Calls (device_as_caller setup identity) (ready_call (ready_for setup))
  ready_heard =
      so.ready mine identity setup.plan.station.suite.address (ready_for setup) real good.mac good.address good.station ready_fits
      ∙ is_reported mine (Calls (device_as_caller setup identity) (ready_call (ready_for setup)))

  pub is_its_relation : is_ready setup (ready_for setup).block ≡ true
  is_its_relation = both_true (pointwise nat_eq setup.ar setup.ar) (1 == 1) (nat_list_eq_equiv.refl setup.ar) refl

  -- the exchange begins, and ApplicationReady is answered
  abbrev pub begun : Live → Turn
  begun live = record {
    live = record live { phase = Exchanging; asked = None; left = 0; cyclic = begun_of live.cyclic };
    sent = Agrees (device_as_caller setup identity) (ready_answer (ready_call (ready_for setup)) (ready_for setup).block) ∷ [];
  }

  ready_turns : (live : Live) → turn_of setup (awaiting live) (Frame (record { items = readied_frame setup identity })) ≡ begun (awaiting live)
  ready_turns live =
      let caller = device_as_caller setup identity in
      let call = ready_call (ready_for setup) in
      let block = (ready_for setup).block in
      ap (λ (heard : Heard). turned setup (awaiting live) heard) ready_heard
      ∙ (ap (λ (b : Option ControlBlock). called setup (awaiting live) caller call b) ready_is
      ∙ where_so (is_ready setup block) (readied (awaiting live) caller call block Waiting) (stays (awaiting live)) is_its_relation)

  -- ---- both

  abbrev then_ends : List (List ℕ) → Stepped → Stepped
  then_ends frames later = record { controller = later.controller; frames = frames ++ (later.frames ++ []) }

  abbrev then_hears : Stepped → List ℕ → Stepped
  then_hears first octets = then_ends first.frames (controller_step first.controller octets)

  both_heard : (controller : Controlling) (one other : List ℕ) (first second : Stepped) → controller_step controller one ≡ first
      → controller_step first.controller other ≡ second
      → hears_all controller (one ∷ other ∷ []) ≡ then_ends first.frames second
  both_heard controller one other first second e f =
      ap (λ (s : Stepped). then_hears s other) e
      ∙ ap (λ (s : Stepped). then_ends first.frames s) f

  -- it exchanges data, and sent the answer to ApplicationReady alone
  abbrev pub IsReadied : ℕ → Stepped → Type 0
  IsReadied serial step =
      (step.frames ≡ confirmed_frame setup identity ∷ [])
      × Controls setup serial identity.mac 0 step.controller
      × (step.controller.live.low_alarms.sending.waiting ≡ None)
      × BeginsNoTurn step.controller.live

  pub readied_next : (serial : ℕ) (controller : Controlling) (spare : ℕ) → Asks setup identity.mac Ending asks.PrmEnd (Some serial) spare controller
      → IsReadied serial (hears_all controller (ended_frame setup identity ∷ readied_frame setup identity ∷ []))
  readied_next serial controller spare it =
      let live = controller.live in
      let first = step_by setup (stays (awaiting live)) in
      let second = step_by setup (begun (awaiting live)) in
      let one = step_is setup controller (ended_frame setup identity) (stays (awaiting live)) it.of_setup (ended_turns live it.asked) in
      let other = step_is setup first.controller (readied_frame setup identity) (begun (awaiting live)) refl (ready_turns live) in
      let controls : Controls setup serial identity.mac 0 second.controller = record {
        of_setup = refl;
        in_phase = refl;
        established = it.established;
        few = it.route.0;
        route = it.route.1;
        high = it.high;
        low = subst (λ (w : Option ℕ). WaitsFew 0 w) (sym it.low) tt;
        low_limit = it.low_limit;
        limit = it.limit;
        unasked = refl;
        alone = it.alone.0;
        held_few = omega arith;
      } in
      subst (λ (s : Stepped). IsReadied serial s) (sym (both_heard controller (ended_frame setup identity) (readied_frame setup identity) first second one other))
      (refl, controls, it.low, (it.alone.1, inr (omega (arith, it.unrepeated))))

  -- ---- what is asked next

  pub connected_next : (serial : ℕ) → serial < 14336 → (controller : Controlling) (spare : ℕ) (octets blocks : List ℕ) → IsPatient setup.plan setup.options
      → Asks setup identity.mac Connecting asks.Connect None spare controller
      → turn_of setup controller.live (Frame (record { items = octets }))
      ≡ writing setup (writing_from setup.plan 0) (standing setup (placed setup blocks controller.live) (chosen_with serial))
      → AsksNext setup identity (phase_for (writing_from setup.plan 0)) (writing_from setup.plan 0) (Some serial) (write_count setup.plan + 2)
      (controller_step controller octets)
  connected_next serial small controller spare octets blocks patient it turns =
      let count = write_count setup.plan in
      asks_after serial setup identity (writing_from setup.plan 0) (count + 2) controller octets
      (standing setup (placed setup blocks controller.live) (chosen_with serial)) it.of_setup turns
      (related_first serial small setup identity.mac Connecting asks.Connect spare controller blocks it) (omega (arith, count_few setup.plan good.plan))
      (within_first setup.plan setup.options controller.live.left (count + 2) 0 controller.live.phase it.in_phase (omega arith) patient)

  pub written_next : (serial : ℕ) (controller : Controlling) (number spare : ℕ) (octets : List ℕ) → IsPatient setup.plan setup.options → spare ≤ write_count setup.plan + 2
      → Asks setup identity.mac Writing (asks.Write number) (Some serial) spare controller → IsWritten setup identity number octets
      → AsksNext setup identity (phase_for (writing_from setup.plan (number + 1))) (writing_from setup.plan (number + 1)) (Some serial) spare
      (controller_step controller octets)
  written_next serial controller number spare octets patient few it written =
      asks_after serial setup identity (writing_from setup.plan (number + 1)) spare controller octets controller.live it.of_setup
      (written_turns number octets controller.live it.asked written) (related_asks serial setup identity.mac Writing (asks.Write number) spare controller it)
      (omega (arith, few, count_few setup.plan good.plan))
      (within_next setup.plan setup.options controller.live.left spare (number + 1) controller.live.phase it.in_phase few patient it.patient)
