-- A controller and the frames of strangers.
use Rattle.std.proofs.Common.{◌≡◌, inl, inr, ◌==◌, ◌&&◌, ◌||◌, ℕ, Bool, true, false, not, nat_eq, List, [], ◌∷◌, ◌++◌, take, drop, Option, Some, None}
use Rattle.std.proofs.Common.{unwrap_or, Result, Ok, Err, refl, sym, ap, subst, ◌∙◌, if◌then◌else◌}
use Rattle.std.proofs.lemmas.Bool.{and_parts, cond_both, cond-false, false_from_ne_true}
use Rattle.std.specs.Cmp.Lexicographic.{pointwise}
use Rattle.byteorder.specs.Endian.{big_number}
use Rattle.pn_values.specs.declared.mac.Mac.{Mac}
use Rattle.frame_codec.specs.declared.fault.FrameFault.{FrameFault}
use Rattle.frame_codec.specs.declared.udp.Caller.{Caller}
use Rattle.frame_codec.specs.FrameId.{is_alarm, is_cyclic}
use Rattle.frame_codec.specs.Frame.{frame_of}
use Rattle.frame_codec.specs.Meaning.{Content, Meaning, ArpPacket, RealTime, UdpDatagram}
use Rattle.frame_codec.proofs.Frames.{frame_takes}
use Rattle.dcp_core.specs.declared.request.DcpFault.{DcpFault}
use Rattle.dcp_core.specs.declared.request.Service.{Service}
use Rattle.dcp_core.specs.declared.request.Service.TheVariants.{Get, Set, Identify}
use Rattle.dcp_core.specs.Answer.{IsAnswer, answer, answer_data, answer_header_and_data, answer_of, answer_to, answered_service, answers, is_supported_by}
use Rattle.dcp_core.specs.Response.{Answered, AnsweredBlock}
use Rattle.dcp_core.proofs.AnswerSound.{answer_takes}
use Rattle.rpc_core.specs.declared.fault.RpcFault.{RpcFault}
use Rattle.rpc_core.specs.declared.interface.Interface.TheVariants.{Controller as controllers}
use Rattle.rpc_core.specs.Call.{Asked as Call, call_of}
use Rattle.rpc_core.specs.Response.{Answered as Response, response_of}
use Rattle.rpc_core.proofs.Sound.{call_behind, call_takes, response_behind, response_takes}
use Rattle.wire.specs.Codec.{◌>>=◌}
use Rattle.pn_alarms.specs.declared.fault.AlarmFault.{AlarmFault}
use Rattle.pn_alarms.specs.declared.pdu.Header.{Header}
use Rattle.diagnosis.specs.declared.reports.priority.Priority.{Priority}
use Rattle.diagnosis.specs.reports.Message.{ToController, alarm_of}
use Rattle.diagnosis.specs.reports.Priority.{priority_of}
use Rattle.diagnosis.specs.reports.Report.{report_of}
use Rattle.connect_blocks.specs.declared.control.ControlBlock.{ControlBlock}
use Rattle.connect_blocks.specs.declared.plug_control.PlugControlBlock.{PlugControlBlock}
use Rattle.connect_blocks.specs.PlugControl.{plug_control}
use Rattle.wire.specs.declared.blocks.fault.BlockFault.{BlockFault}
use Rattle.block_codec.specs.declared.block.Block.{Block}
use Rattle.block_codec.specs.Block.{block_of}
use Rattle.cyclic_data.specs.exchange.Received.{behind_frame, is_of_partner}
use Rattle.controller_messages.specs.declared.plug_request.PlugRequest.{PlugRequest}
use Rattle.controller_messages.specs.declared.record_request.RecordRequest.{RecordRequest}
use Rattle.controller_messages.specs.declared.refusal.Refusal.{Refusal}
use Rattle.controller_messages.specs.declared.request.Request.{Request}
use Rattle.controller_messages.specs.Access.{is_rejected, is_reply}
use Rattle.controller_messages.specs.Heard.{Heard, Answers, Responds, Refuses, Calls, Cyclic, Alarms, heard_alarm, heard_answer, heard_body, heard_call}
use Rattle.controller_messages.specs.Heard.{heard_content, heard_first, heard_of, heard_read, heard_real_time, heard_refusal, heard_response, is_to}
use Rattle.controller_messages.specs.PlugRequests.{is_plug_answer, is_plug_ready, plug_ready_block, plug_ready_in}
use Rattle.controller_messages.specs.Refusal.{refusal_of}
use Rattle.controller_core.specs.declared.stored.event.Event.TheVariants.{Frame}
use Rattle.controller_core.specs.declared.stored.state.State.{State}
use Rattle.controller_core.specs.declared.stored.state.State.TheVariants.{Looking, Addressing, Connecting, Writing, Ending, Waiting, Exchanging, Ended}
use Rattle.controller_core.specs.stored.Alarms.{is_alarm as is_alarm_in}
use Rattle.controller_core.specs.stored.State.{Controlling, Live}
use Rattle.controller_messages.specs.declared.setup.Setup.{Setup}
use Rattle.controller_core.specs.start_up.Answers.{is_answer, is_found, is_identify, is_ready, is_refused, is_set, is_set_answer, ready_block, ready_in}
use Rattle.controller_core.specs.Machine.{Turn, after_turn, alarmed, answered, begun_turn, beside, called, can_begin, is_plug_awaited, plug_called, plugs_of}
use Rattle.controller_core.specs.Machine.{refused, refused_beside}
use Rattle.controller_core.specs.Machine.{rejected, replied, responded, stays, step_of, stepped, turned}
use Rattle.octets_law.specs.Octets.{activity_of, number, part, untagged}
use Rattle.octets_law.proofs.Bare.{IsBare, bare_of}
use Rattle.octets_law.proofs.CallPlaces.{IsCallRead, call_placed, skip}
use Rattle.octets_law.proofs.CallReads.{tested}
use Rattle.octets_law.proofs.FrameSteps.{frame_timely, frame_to}
use Rattle.octets_law.proofs.Repeats.{same_octets}
use Rattle.octets_law.proofs.SetHeard.{IsTimely, four_ahead, one_front}
use Rattle.strangers_law.specs.Controller.{AreAsWithout, LeavesControllers, after_events, belongs_to, is_awaited, is_said_to, marks_at, sent_at}
use Rattle.strangers_law.specs.Strange.{is_alarm_of, is_call_of, is_cyclic_of, is_datagram, same}
use Rattle.strangers_law.proofs.Blocks.{plug_read_named, ready_named}
use Rattle.strangers_law.proofs.Hearing.{holds, neither, second}
use Rattle.strangers_law.proofs.Marked.{AreEndpoints, endpoints_of, no_alarm, no_cyclic, sender_of}
use Rattle.strangers_law.proofs.Ports.{datagram_is}
use Rattle.strangers_law.proofs.Refusals.{refusal_activity}
use Rattle.strangers_law.proofs.Responses.{response_activity}

-- ---- a DCP answer

pub record IsAnswerAt (frame_id : ℕ) (frame : List ℕ) (said : Answered) : Type 0 where
  pub identify : is_identify said.service ≡ true → (frame_id ≡ 0xFEFF) × (number 16 1 frame ≡ 5)
  pub set : is_set said.service ≡ true → (frame_id ≡ 0xFEFD) × (number 16 1 frame ≡ 4)
  pub xid : number 18 4 frame ≡ said.xid

-- Which service it is.
record IsServiceOf (frame_id id : ℕ) (service : Service) : Type 0 where
  identify : is_identify service ≡ true → (frame_id ≡ 0xFEFF) × (id ≡ 5)
  set : is_set service ≡ true → (frame_id ≡ 0xFEFD) × (id ≡ 4)

served_by : (frame_id id : ℕ) (service : Service) → answered_service frame_id id ≡ Ok service → IsServiceOf frame_id id service
served_by frame_id id service =
    cond_both (answers Get frame_id id) _ _ Goal (λ _ e. let same : Get ≡ service = cc in subst (IsServiceOf frame_id id) same (record { identify = λ is. absurd cc; set = λ is. absurd cc }))
    (λ _. cond_both (answers Set frame_id id) _ _ Goal
    (λ is e. let same : Set ≡ service = cc in subst (IsServiceOf frame_id id) same
    (record { identify = λ is. absurd cc; set = λ _. (tested frame_id 0xFEFD (and_parts _ _ is).0, tested id 4 (and_parts _ _ is).1) }))
    (λ _. cond_both (answers Identify frame_id id) _ _ Goal
    (λ is e. let same : Identify ≡ service = cc in subst (IsServiceOf frame_id id) same
    (record { identify = λ _. (tested frame_id 0xFEFF (and_parts _ _ is).0, tested id 5 (and_parts _ _ is).1); set = λ is. absurd cc }))
    (λ _ e. absurd cc)))
  where
    Goal : Result Service DcpFault → Type 0
    Goal r = r ≡ Ok service → IsServiceOf frame_id id service

answered_with : (frame_id id type : ℕ) (inside : List ℕ) (v : (Service × Bool) × List AnsweredBlock) → (answer_data (answer_to frame_id id type)).Spells inside v → IsServiceOf frame_id id v.0.0
unfolding answer_data
answered_with frame_id id type inside v = by_service (answered_service frame_id id) refl
  where
    by_support : (service : Service) (read : Result Bool DcpFault) → IsServiceOf frame_id id service
        → (answer_data (let r : Result (Service × Bool) DcpFault = (read >>= λ supported. Ok (service, supported)) in r)).Spells inside v → IsServiceOf frame_id id v.0.0
    by_support service (Ok supported) is spells = subst (λ (x : (Service × Bool) × List AnsweredBlock). IsServiceOf frame_id id x.0.0) spells.1 is
    by_support service (Err why) is spells = absurd spells

    by_service : (read : Result Service DcpFault) → answered_service frame_id id ≡ read
        → (answer_data (let r : Result (Service × Bool) DcpFault = (read >>= λ service. is_supported_by type >>= λ supported. Ok (service, supported)) in r)).Spells inside v → IsServiceOf frame_id id v.0.0
    by_service (Ok service) is spells = by_support service (is_supported_by type) (served_by frame_id id service is) spells
    by_service (Err why) is spells = absurd spells

answer_at : (frame_id : ℕ) (frame body : List ℕ) (said : Answered) → IsTimely frame frame_id body → IsAnswer frame_id body said → IsAnswerAt frame_id frame said
unfolding IsAnswer answer answer_header_and_data
answer_at frame_id frame body said it whole =
    let spells = whole.1 in
    let head = spells.2.1 in
    let first = head.1 in
    let kind = head.2.1 in
    let xid = head.2.2.1 in
    let framed = spells.2.2 in
    let serves = answered_with frame_id spells.0.0.0 spells.0.0.1.0 framed.0 spells.0.1 framed.4 in
    let service_is : number 16 1 frame ≡ spells.0.0.0 = ap (big_number 1) (it.behind 0 ∙ first.2) ∙ one_front first.0 _ first.1 ∙ sym first.3 in
    let same : spells.0.1.0.0 ≡ said.service = ap (λ (a : Answered). a.service) spells.1 in
    record {
      identify = λ is. let found = serves.identify (ap is_identify same ∙ is) in (found.0, service_is ∙ found.1);
      set = λ is. let found = serves.set (ap is_set same ∙ is) in (found.0, service_is ∙ found.1);
      xid = ap (big_number 4) (it.behind 2 ∙ ap (drop 2) (first.2 ∙ ap (λ l. first.0 ++ l) (kind.2 ∙ ap (λ l. kind.0 ++ l) xid.2))
          ∙ skip 1 1 first.0 _ first.1 ∙ skip 0 1 kind.0 _ kind.1) ∙ four_ahead xid.0 _ xid.1 ∙ sym xid.3 ∙ ap (λ (a : Answered). a.xid) spells.1;
    }

-- ---- Bools and octets

pointwise_self : (one : List ℕ) → pointwise nat_eq one one ≡ true
pointwise_self [] = refl
pointwise_self (x ∷ one) = both (nat_eq x x) (pointwise nat_eq one one) (holds x x refl) (pointwise_self one)
  where
    both : (a b : Bool) → a ≡ true → b ≡ true → a && b ≡ true
    both true true p q = refl
    both false b p q = absurd cc
    both true false p q = absurd cc

turned_round : (one other : List ℕ) → pointwise nat_eq one other ≡ false → pointwise nat_eq other one ≡ false
turned_round one other not = false_from_ne_true (pointwise nat_eq other one) (λ is.
    let e : pointwise nat_eq one other ≡ true = subst (λ l. pointwise nat_eq l other ≡ true) (same_octets other one is) (pointwise_self other) in cc)

all_four : (a b c d : Bool) → a ≡ true → b ≡ true → c ≡ true → d ≡ true → a && b && c && d ≡ true
all_four true true true true p q r s = refl
all_four false b c d p q r s = absurd cc
all_four true false c d p q r s = absurd cc
all_four true true false d p q r s = absurd cc
all_four true true true false p q r s = absurd cc

not_first : (a b c : Bool) → b ≡ false → a && (b && c) ≡ false
not_first true false c is = refl
not_first false false c is = refl
not_first a true c is = absurd cc

first_not : (a b : Bool) → a ≡ false → a && b ≡ false
first_not false b is = refl
first_not true b is = absurd cc

second_not : (a b : Bool) → b ≡ false → a && b ≡ false
second_not true false is = refl
second_not false false is = refl
second_not a true is = absurd cc

-- ---- no turn of a place begins after an event that changes nothing

same_of_two : (can : Bool) (one other : Turn) → (if can || not can then one else other) ≡ one
same_of_two true one other = refl
same_of_two false one other = refl

unchanged : (setup : Setup) (live : Live) → after_turn setup (can_begin live) (stays live) ≡ stays live
unchanged setup live = same_of_two (can_begin live) (stays live) (record { live = begun_turn setup live; sent = plugs_of (begun_turn setup live) })

followed : (setup : Setup) (live : Live) (turn : Turn) → turn ≡ stays live → after_turn setup (can_begin live) turn ≡ stays live
followed setup live turn same = ap (after_turn setup (can_begin live)) same ∙ unchanged setup live

-- ---- what a stranger says changes nothing

module _ (controlling : Controlling) where
  abbrev Rests : Heard → Type 0
  Rests heard = turned controlling.setup controlling.live heard ≡ stays controlling.live

  -- ---- DCP

  answers_rest : (frame_id : ℕ) (frame : List ℕ) (source : Mac) (said : Answered) → number 12 2 frame ≡ 0x8892 → number 14 2 frame ≡ frame_id → IsAnswerAt frame_id frame said
      → is_awaited controlling.live.phase frame ≡ false → Rests (Answers source said)
  answers_rest frame_id frame source said type id at = by_phase controlling.live.phase
    where
      by_phase : (phase : State) → is_awaited phase frame ≡ false → answered controlling.setup controlling.live source said phase ≡ stays controlling.live
      by_phase Looking other = cond-false (is_found controlling.setup.plan said) _ _ (false_from_ne_true (is_found controlling.setup.plan said) (λ found.
          let one = and_parts (is_identify said.service) _ found in
          let two = and_parts said.is_supported _ one.1 in
          let three = and_parts (said.xid == 1) _ two.1 in
          let is = at.identify one.0 in
          let e = all_four (number 12 2 frame == 0x8892) (number 14 2 frame == 0xFEFF) (number 16 1 frame == 5) (number 18 4 frame == 1)
          (holds _ 0x8892 type) (holds _ 0xFEFF (id ∙ is.0)) (holds _ 5 is.1) (holds _ 1 (at.xid ∙ tested said.xid 1 three.0)) in cc))
      by_phase Addressing other = cond-false (is_set_answer said) _ _ (false_from_ne_true (is_set_answer said) (λ found.
          let one = and_parts (is_set said.service) _ found in
          let is = at.set one.0 in
          let e = all_four (number 12 2 frame == 0x8892) (number 14 2 frame == 0xFEFD) (number 16 1 frame == 4) (number 18 4 frame == 2)
          (holds _ 0x8892 type) (holds _ 0xFEFD (id ∙ is.0)) (holds _ 4 is.1) (holds _ 2 (at.xid ∙ tested said.xid 2 one.1)) in cc))
      by_phase Connecting other = refl
      by_phase Writing other = refl
      by_phase Ending other = refl
      by_phase Waiting other = refl
      by_phase Exchanging other = refl
      by_phase (Ended cause) other = refl

  -- ---- datagrams

  response_rests : (response : Response) → pointwise nat_eq response.header.activity controlling.setup.activity ≡ false → Rests (Responds response)
  response_rests response other =
      followed controlling.setup controlling.live (responded controlling.setup controlling.live response controlling.live.asked)
      (by_asked controlling.live.asked)
    where
      by_waiting : (waiting : Option RecordRequest) → stays (replied controlling.setup controlling.live response waiting) ≡ stays controlling.live
      by_waiting (Some request) = ap stays (cond-false (is_reply controlling.setup request response.header) _ _ (first_not _ _ other))
      by_waiting None = refl

      by_plug : (plug : Option PlugRequest) → beside controlling.setup controlling.live response plug ≡ stays controlling.live
      by_plug (Some request) =
          cond-false (is_plug_answer controlling.setup request response.header.activity response.header.sequence) _ _ (first_not _ _ other)
      by_plug None = by_waiting controlling.live.access.waiting

      by_asked : (asked : Option Request) → responded controlling.setup controlling.live response asked ≡ stays controlling.live
      by_asked (Some request) = cond-false (is_answer controlling.setup request response.header) _ _ (not_first _ _ _ other)
      by_asked None = by_plug controlling.live.access.plug

  refusal_rests : (refusal : Refusal) → pointwise nat_eq refusal.activity controlling.setup.activity ≡ false → Rests (Refuses refusal)
  refusal_rests refusal other =
      followed controlling.setup controlling.live (refused controlling.setup controlling.live refusal controlling.live.asked) (by_asked controlling.live.asked)
    where
      by_waiting : (waiting : Option RecordRequest) → stays (rejected controlling.setup controlling.live refusal waiting) ≡ stays controlling.live
      by_waiting (Some request) = ap stays (cond-false (is_rejected controlling.setup request refusal) _ _ (first_not _ _ other))
      by_waiting None = refl

      by_plug : (plug : Option PlugRequest) → stays (refused_beside controlling.setup controlling.live refusal plug) ≡ stays controlling.live
      by_plug (Some request) = ap stays (cond-false (is_plug_answer controlling.setup request refusal.activity refusal.sequence) _ _ (first_not _ _ other))
      by_plug None = by_waiting controlling.live.access.waiting

      by_asked : (asked : Option Request) → refused controlling.setup controlling.live refusal asked ≡ stays controlling.live
      by_asked (Some request) = cond-false (is_refused controlling.setup request refusal) _ _ (not_first _ _ _ other)
      by_asked None = by_plug controlling.live.access.plug

  call_rests : (caller : Caller) (call : Call) (blocks : List ℕ) → call.blocks ≡ Some blocks → pointwise nat_eq controlling.setup.ar (part 8 16 blocks) ≡ false → Rests (Calls caller call)
  call_rests caller call blocks is other = by_block (ready_in call) refl
    where
      named : (block : ControlBlock) → ready_block (block_of (unwrap_or call.blocks [])) ≡ Some block → part 8 16 blocks ≡ block.ar_uuid
      named block e = by_read (block_of blocks) refl (subst (λ (b : Option (List ℕ)). ready_block (block_of (unwrap_or b [])) ≡ Some block) is e)
        where
          by_read : (read : Result (Block × List ℕ) BlockFault) → block_of blocks ≡ read → ready_block read ≡ Some block → part 8 16 blocks ≡ block.ar_uuid
          by_read (Ok x) read e = ready_named blocks x block read e
          by_read (Err why) read e = absurd cc

      named_plug : (block : PlugControlBlock) → plug_ready_in call ≡ Some block → part 8 16 blocks ≡ block.ar_uuid
      named_plug block e = by_read ((plug_control 0x0113).read blocks) refl
          (subst (λ (b : Option (List ℕ)). plug_ready_block ((plug_control 0x0113).read (unwrap_or b [])) ≡ Some block) is (ready_is e))
        where
          ready_is : plug_ready_in call ≡ Some block → plug_ready_block ((plug_control 0x0113).read (unwrap_or call.blocks [])) ≡ Some block
          ready_is = cond_both (call.header.operation == 4) _ _
              (λ (r : Option PlugControlBlock). r ≡ Some block → plug_ready_block ((plug_control 0x0113).read (unwrap_or call.blocks [])) ≡ Some block)
              (λ _ e. e) (λ _ e. absurd cc)

          by_read : (read : Result (PlugControlBlock × List ℕ) BlockFault) → (plug_control 0x0113).read blocks ≡ read → plug_ready_block read ≡ Some block
              → part 8 16 blocks ≡ block.ar_uuid
          by_read (Ok x) read e = let same : x.0 ≡ block = cc in plug_read_named 0x0113 blocks x read ∙ ap (λ b. b.ar_uuid) same
          by_read (Err why) read e = absurd cc

      by_plug : (block : Option PlugControlBlock) → plug_ready_in call ≡ block
          → plug_called controlling.setup controlling.live caller call block ≡ stays controlling.live
      by_plug None e = refl
      by_plug (Some block) e =
          cond-false (is_plug_ready controlling.setup block && is_plug_awaited controlling.live block.alarm_sequence_number) _ _
          (first_not (is_plug_ready controlling.setup block) _ (first_not _ _
          (subst (λ l. pointwise nat_eq l controlling.setup.ar ≡ false) (named_plug block e) (turned_round controlling.setup.ar (part 8 16 blocks) other))))

      by_block : (block : Option ControlBlock) → ready_in call ≡ block → called controlling.setup controlling.live caller call block ≡ stays controlling.live
      by_block None e =
          followed controlling.setup controlling.live (plug_called controlling.setup controlling.live caller call (plug_ready_in call)) (by_plug (plug_ready_in call) refl)
      by_block (Some block) e = cond-false (is_ready controlling.setup block) _ _ (first_not _ _
          (subst (λ l. pointwise nat_eq l controlling.setup.ar ≡ false) (named block (ready_is e)) (turned_round controlling.setup.ar (part 8 16 blocks) other)))
        where
          ready_is : ready_in call ≡ Some block → ready_block (block_of (unwrap_or call.blocks [])) ≡ Some block
          ready_is = cond_both (call.header.operation == 4) _ _ (λ (r : Option ControlBlock). r ≡ Some block → ready_block (block_of (unwrap_or call.blocks [])) ≡ Some block)
              (λ _ e. e) (λ _ e. absurd cc)

  -- ---- what is exchanged

  cyclic_rests : (source : Mac) (frame_id : ℕ) (body : List ℕ) → is_of_partner controlling.live.cyclic.route source frame_id ≡ false → Rests (Cyclic source frame_id body)
  cyclic_rests source frame_id body other = ap stays (by_stands controlling.live.stands)
    where
      by_stands : (stands : Bool) → (if stands then record controlling.live { cyclic = behind_frame controlling.live.cyclic source frame_id body } else controlling.live) ≡ controlling.live
      by_stands true = ap (λ c. record controlling.live { cyclic = c }) (cond-false (is_of_partner controlling.live.cyclic.route source frame_id) _ _ other)
      by_stands false = refl

  alarm_rests : (source : Mac) (under : Priority) (header : Header) (notice : ToController) → is_alarm_in controlling.live.cyclic.route source header ≡ false → Rests (Alarms source under header notice)
  alarm_rests source under header notice other =
      followed controlling.setup controlling.live (alarmed controlling.live source under header notice)
      (cond-false (controlling.live.stands && is_alarm_in controlling.live.cyclic.route source header) _ _ (second_not _ _ other))

  -- ---- a datagram that is heard

  body_rests : (caller : Caller) (body more : List ℕ) → is_said_to controlling (body ++ more) ≡ false → Rests (heard_body caller body)
  unfolding heard_body
  body_rests caller body more other = by_call (call_of controllers body) refl
    where
      parts : (is_call_of (marks_at controlling) (body ++ more) ≡ false) × (same (activity_of (body ++ more)) controlling.setup.activity ≡ false)
      parts = neither (is_call_of (marks_at controlling) (body ++ more)) (same (activity_of (body ++ more)) controlling.setup.activity) other

      by_refusal : (read : Result Refusal RpcFault) → refusal_of body ≡ read → Rests (heard_refusal read)
      by_refusal (Err why) is = refl
      by_refusal (Ok refusal) is =
          refusal_rests refusal (subst (λ l. pointwise nat_eq l controlling.setup.activity ≡ false) (refusal_activity body more refusal is) parts.1)

      by_response : (read : Result Response RpcFault) → response_of body ≡ read → Rests (heard_response read (refusal_of body))
      by_response (Err why) is = by_refusal (refusal_of body) refl
      by_response (Ok response) is =
          response_rests response (subst (λ l. pointwise nat_eq l controlling.setup.activity ≡ false)
          (response_activity (body ++ more) response (response_behind body more response (response_takes body response is))) parts.1)

      by_blocks : (call : Call) (blocks : Option (List ℕ)) → call.blocks ≡ blocks → IsCallRead (body ++ more) call → Rests (heard_call caller call blocks)
      by_blocks call None is read = refl
      by_blocks call (Some blocks) is read =
          call_rests caller call blocks is (subst (λ l. pointwise nat_eq controlling.setup.ar (part 8 16 l) ≡ false) (read.blocks blocks is)
          (second (number 0 2 (body ++ more) == 0x0400) _ parts.0 (holds _ 0x0400 read.kind)))

      by_call : (read : Result Call RpcFault) → call_of controllers body ≡ read → Rests (heard_first caller read (response_of body) (refusal_of body))
      by_call (Err why) is = by_response (response_of body) refl
      by_call (Ok call) is = by_blocks call call.blocks refl (call_placed controllers (body ++ more) call (call_behind controllers body more call (call_takes controllers body call is)))

  -- ---- a frame that was read

  module _ (bytes : List ℕ) (meaning : Meaning) (bare : IsBare bytes meaning) (sender : part 6 6 (untagged bytes) ≡ meaning.source.octets)
      (own : pointwise nat_eq meaning.destination.octets controlling.setup.plan.controller.mac.octets ≡ true) (strange : belongs_to controlling (untagged bytes) ≡ false) where
    record AreOthersTo : Type 0 where
      awaited : is_awaited controlling.live.phase (untagged bytes) ≡ false
      cyclic : is_cyclic_of (marks_at controlling) (untagged bytes) ≡ false
      alarm : is_alarm_of (marks_at controlling) (untagged bytes) ≡ false
      said : (is_datagram (untagged bytes) && is_said_to controlling (drop 42 (untagged bytes))) ≡ false

    others : AreOthersTo
    others =
        let to : same (take 6 (untagged bytes)) controlling.setup.plan.controller.mac.octets ≡ true =
        ap (λ l. pointwise nat_eq l controlling.setup.plan.controller.mac.octets) (frame_to bytes meaning bare) ∙ own in
        let rest = second (same (take 6 (untagged bytes)) controlling.setup.plan.controller.mac.octets) _ strange to in
        let a = is_awaited controlling.live.phase (untagged bytes) in
        let b = is_cyclic_of (marks_at controlling) (untagged bytes) in
        let c = is_alarm_of (marks_at controlling) (untagged bytes) in
        let three = neither (a || b || c) _ rest in
        let two = neither (a || b) c three.0 in
        let one = neither a b two.0 in
        record { awaited = one.0; cyclic = one.1; alarm = two.1; said = three.1 }

    not_alarm : (id : ℕ) (body : List ℕ) (said : Header) → IsTimely (untagged bytes) id body → is_alarm id ≡ true → AreEndpoints body said
        → is_alarm_in controlling.live.cyclic.route meaning.source said ≡ false
    not_alarm id body said it alarm ends = no_alarm (marks_at controlling) (untagged bytes) meaning.source.octets sender id body it said ends alarm others.alarm

    not_cyclic : (id : ℕ) (body : List ℕ) → IsTimely (untagged bytes) id body → is_of_partner controlling.live.cyclic.route meaning.source id ≡ false
    not_cyclic id body it = no_cyclic (marks_at controlling) (untagged bytes) meaning.source.octets sender id body it others.cyclic

    answer_rests : (id : ℕ) (body : List ℕ) → IsTimely (untagged bytes) id body → (read : Result Answered DcpFault) → answer_of id body ≡ read → Rests (heard_answer meaning.source read)
    answer_rests id body it (Err why) is = refl
    answer_rests id body it (Ok said) is =
        answers_rest id (untagged bytes) meaning.source said it.ether_type it.id (answer_at id (untagged bytes) body said it (answer_takes id body said is)) others.awaited

    real_rests : (id : ℕ) (body : List ℕ) → IsTimely (untagged bytes) id body → Rests (heard_real_time meaning.source id body)
    unfolding heard_real_time
    real_rests id body it =
        cond_both (is_cyclic id) _ _ Rests (λ _. cyclic_rests meaning.source id body (not_cyclic id body it))
        (λ _. cond_both (is_alarm id) _ _ Rests (λ alarm. by_alarm alarm (alarm_of body) refl)
        (λ _. cond_both (id == 0xFEFD) _ _ Rests (λ _. answer_rests id body it (answer_of id body) refl)
        (λ _. cond_both (id == 0xFEFF) _ _ Rests (λ _. answer_rests id body it (answer_of id body) refl) (λ _. refl))))
      where
        by_alarm : is_alarm id ≡ true → (read : Result (Header × ToController) AlarmFault) → alarm_of body ≡ read → Rests (heard_alarm meaning.source id read)
        by_alarm alarm (Err why) is = refl
        by_alarm alarm (Ok x) is = alarm_rests meaning.source (priority_of id) x.0 x.1 (not_alarm id body x.0 it alarm (endpoints_of report_of body x is))

    content_rests : (content : Content) → meaning.content ≡ content → Rests (heard_content controlling.setup.plan.controller.address meaning.source content)
    content_rests (RealTime id body) is = real_rests id body (frame_timely bytes meaning id body bare is)
    content_rests (ArpPacket packet) is = refl
    content_rests (UdpDatagram from to body) is =
        let it = datagram_is bytes meaning from to body bare is in
        cond_both (is_to controlling.setup.plan.controller.address to) _ _ Rests
        (λ _. body_rests (record { mac = meaning.source; endpoint = from }) body it.more
        (subst (λ l. is_said_to controlling l ≡ false) it.is (second (is_datagram (untagged bytes)) _ others.said it.protocol)))
        (λ _. refl)

  frame_rests : (bytes : List ℕ) → belongs_to controlling (untagged bytes) ≡ false → (read : Result Meaning FrameFault) → frame_of bytes ≡ read
      → Rests (heard_read controlling.setup.plan.controller read)
  frame_rests bytes strange (Err why) is = refl
  frame_rests bytes strange (Ok meaning) is =
      let spelled = (frame_takes bytes meaning is).spelled in
      cond_both (pointwise nat_eq meaning.destination.octets controlling.setup.plan.controller.mac.octets) _ _ Rests
      (λ own. content_rests bytes meaning (bare_of bytes meaning spelled) (sender_of bytes meaning spelled) own strange meaning.content refl) (λ _. refl)

  heard_rests : (bytes : List ℕ) → belongs_to controlling (untagged bytes) ≡ false → Rests (heard_of controlling.setup.plan.controller bytes)
  unfolding heard_of
  heard_rests bytes strange = frame_rests bytes strange (frame_of bytes) refl

-- ---- the laws

pub leaves_controllers : LeavesControllers
unfolding step_of
leaves_controllers controlling (Frame bytes) strange = ap (stepped controlling) (heard_rests controlling bytes.items strange)
leaves_controllers controlling event strange = absurd strange

pub are_as_without : AreAsWithout
are_as_without controlling [] few is = (ap (after_events controlling) (sym is), ap (sent_at controlling) (sym is))
are_as_without controlling (event ∷ events) few (inl (strange, others)) =
    let same = leaves_controllers controlling event strange in
    let rest = are_as_without controlling events few others in (
      ap (λ s. after_events s.controller events) same ∙ rest.0,
      ap (λ s. s.frames ++ sent_at s.controller events) same ∙ rest.1,
    )
are_as_without controlling (event ∷ events) few (inr (fewer, is, others)) =
    let next = (step_of controlling event).controller in
    let rest = are_as_without next events fewer others in (
      rest.0 ∙ sym (ap (after_events controlling) is),
      ap (λ l. (step_of controlling event).frames ++ l) rest.1 ∙ sym (ap (sent_at controlling) is),
    )
