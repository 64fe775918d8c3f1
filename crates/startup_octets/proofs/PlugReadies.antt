-- The ApplicationReady of a plug that a controller hears in a frame, read at fixed places.
use Rattle.std.proofs.Common.{◌≡◌, ◌==◌, ℕ, Bool, true, false, cond, nat_eq, List, [], ◌++◌, take, drop, Option, Some, None, unwrap_or, Result, Ok, Err, refl, sym, ap, subst, ◌∙◌}
use Rattle.std.proofs.lemmas.Bool.{and_parts, cond_both, eqb-true}
use Rattle.std.specs.Cmp.Lexicographic.{pointwise, same_text}
use Rattle.byteorder.specs.Endian.{big_number}
use Rattle.pn_values.specs.declared.mac.Mac.{Mac}
use Rattle.frame_codec.specs.declared.fault.FrameFault.{FrameFault}
use Rattle.frame_codec.specs.declared.udp.Caller.{Caller}
use Rattle.frame_codec.specs.FrameId.{is_alarm, is_cyclic}
use Rattle.frame_codec.specs.Frame.{datagram, frame_of}
use Rattle.frame_codec.specs.Meaning.{Content, Meaning, ArpPacket, RealTime, UdpDatagram}
use Rattle.frame_codec.proofs.Frames.{frame_takes}
use Rattle.wire.specs.declared.blocks.fault.BlockFault.{BlockFault}
use Rattle.dcp_core.specs.declared.request.DcpFault.{DcpFault}
use Rattle.dcp_core.specs.Answer.{answer_of}
use Rattle.dcp_core.specs.Response.{Answered as Responded}
use Rattle.rpc_core.specs.declared.fault.RpcFault.{RpcFault}
use Rattle.rpc_core.specs.declared.interface.Interface.TheVariants.{Controller as controllers}
use Rattle.rpc_core.specs.Call.{Asked as Called, call_of}
use Rattle.rpc_core.specs.Response.{Answered, response_of}
use Rattle.rpc_core.proofs.Sound.{call_behind, call_takes}
use Rattle.connect_blocks.specs.declared.plug_control.PlugControlBlock.{PlugControlBlock}
use Rattle.connect_blocks.specs.PlugControl.{plug_control}
use Rattle.connect_blocks.proofs.Sound.{plug_control_sound}
use Rattle.pn_alarms.specs.declared.fault.AlarmFault.{AlarmFault}
use Rattle.pn_alarms.specs.declared.pdu.Header.{Header}
use Rattle.diagnosis.specs.reports.Message.{ToController, alarm_of}
use Rattle.plans.specs.declared.parts.Controller.{Controller}
use Rattle.controller_messages.specs.declared.refusal.Refusal.{Refusal}
use Rattle.controller_messages.specs.declared.setup.Setup.{Setup}
use Rattle.controller_messages.specs.Heard.{Heard, Calls, heard_alarm, heard_answer, heard_body, heard_call, heard_content, heard_first, heard_frame, heard_of, heard_read, heard_real_time, heard_refusal, heard_response, is_to}
use Rattle.controller_messages.specs.PlugRequests.{is_plug_ready, plug_ready_block, plug_ready_in}
use Rattle.controller_messages.specs.Refusal.{refusal_of}
use Rattle.octets_law.specs.Octets.{number, untagged}
use Rattle.octets_law.proofs.Bare.{IsBare, bare_of}
use Rattle.octets_law.proofs.CallPlaces.{IsCallRead, call_placed, skip}
use Rattle.octets_law.proofs.Datagrams.{body_behind, kind_under}
use Rattle.octets_law.proofs.SetReads.{two_octets}
use Rattle.startup_octets.specs.StartUp.{is_of}
use Rattle.startup_octets.proofs.Blocks.{IsBlockOf, sixteen}
use Rattle.startup_octets.proofs.CallsIn.{datagram_type, frame_behind}
use Rattle.startup_octets.proofs.DeviceTurn.{of_call}

-- ---- its block

-- Its type, and the ARUUID after two octets of its own.
plug_placed : (kind : ℕ) (blocks : List ℕ) (value : PlugControlBlock) (rest : List ℕ) → (plug_control kind).Spells blocks value rest → IsBlockOf kind value.ar_uuid blocks
unfolding plug_control
plug_placed kind blocks value rest spells =
    let fields = spells.2 in
    let type = fields.1 in
    let two_first = type.2.1 in
    let many = fields.2.1 in
    let two_many = many.2.1 in
    let high = fields.2.2.1 in
    let one_high = high.2.1 in
    let low = fields.2.2.2.1 in
    let one_low = low.2.1 in
    let gap = fields.2.2.2.2.1 in
    let two_gap = gap.2 in
    let uuid = fields.2.2.2.2.2.1 in
    record {
      type_is = ap (number 0 2) two_first.2
          ∙ (two_octets (λ l. big_number 2 (l ++ fields.0) ≡ big_number 2 l) two_first.0 two_first.1 (λ a b. refl) ∙ (sym two_first.3 ∙ eqb-true type.0 kind type.2.0));
      relation_is = ap (take 16) (ap (drop 8) two_first.2 ∙ skip 6 2 two_first.0 _ two_first.1
          ∙ ap (drop 6) two_many.2 ∙ skip 4 2 two_many.0 _ two_many.1
          ∙ ap (drop 4) one_high.2 ∙ skip 3 1 one_high.0 _ one_high.1
          ∙ ap (drop 3) one_low.2 ∙ skip 2 1 one_low.0 _ one_low.1
          ∙ ap (drop 2) two_gap.1 ∙ skip 0 2 gap.0 _ two_gap.0
          ∙ uuid.1)
          ∙ (sixteen _ _ uuid.0 ∙ ap (λ (block : PlugControlBlock). block.ar_uuid) spells.1);
    }

some_block : (one other : PlugControlBlock) → Some one ≡ Some other → one ≡ other
some_block one other e = cc

-- ---- what is heard without a call

abbrev IsNoCall : Heard → Type 0
IsNoCall (Calls caller call) = ⊥
IsNoCall heard = Unit {0}

no_answer : (source : Mac) (read : Result Responded DcpFault) → IsNoCall (heard_answer source read)
no_answer source (Ok answer) = tt
no_answer source (Err fault) = tt

no_alarm : (source : Mac) (frame_id : ℕ) (read : Result (Header × ToController) AlarmFault) → IsNoCall (heard_alarm source frame_id read)
no_alarm source frame_id (Ok x) = tt
no_alarm source frame_id (Err fault) = tt

no_real_time : (source : Mac) (frame_id : ℕ) (body : List ℕ) → IsNoCall (heard_real_time source frame_id body)
unfolding heard_real_time
no_real_time source frame_id body =
    cond_both (is_cyclic frame_id) _ _ IsNoCall (λ _. tt)
    (λ _. cond_both (is_alarm frame_id) _ _ IsNoCall (λ _. no_alarm source frame_id (alarm_of body))
    (λ _. cond_both (frame_id == 0xFEFD) _ _ IsNoCall (λ _. no_answer source (answer_of frame_id body))
    (λ _. cond_both (frame_id == 0xFEFF) _ _ IsNoCall (λ _. no_answer source (answer_of frame_id body)) (λ _. tt))))

no_refusal : (read : Result Refusal RpcFault) → IsNoCall (heard_refusal read)
no_refusal (Ok refusal) = tt
no_refusal (Err fault) = tt

no_response : (read : Result Answered RpcFault) (refusal : Result Refusal RpcFault) → IsNoCall (heard_response read refusal)
no_response (Ok response) refusal = tt
no_response (Err fault) refusal = no_refusal refusal

-- ---- a call

-- The call is read of a body, and has blocks.
record IsBodyOf (body : List ℕ) (call : Called) : Type 0 where
  is : call_of controllers body ≡ Ok call
  blocks : List ℕ
  counted : call.blocks ≡ Some blocks

same_call : (caller other : Caller) (one more : Called) → Calls caller one ≡ Calls other more → one ≡ more
same_call caller other one more e = cc

heard_no : (heard : Heard) (caller : Caller) (call : Called) → IsNoCall heard → heard ≡ Calls caller call → ⊥
heard_no heard caller call none e = subst IsNoCall e none

body_call : (by caller : Caller) (body : List ℕ) (call : Called) → heard_body by body ≡ Calls caller call → IsBodyOf body call
unfolding heard_body
body_call by caller body call e = by_read (call_of controllers body) refl e
  where
    by_blocks : (read : Called) (blocks : Option (List ℕ)) → read.blocks ≡ blocks → call_of controllers body ≡ Ok read → heard_call by read blocks ≡ Calls caller call → IsBodyOf body call
    by_blocks read (Some blocks) counted is heard =
        let same : read ≡ call = same_call by caller read call heard in
        record { is = is ∙ ap (λ (c : Called). Ok c) same; blocks = blocks; counted = ap (λ (c : Called). c.blocks) (sym same) ∙ counted }
    by_blocks read None counted is heard = absurd cc

    by_read : (read : Result Called RpcFault) → call_of controllers body ≡ read → heard_first by read (response_of body) (refusal_of body) ≡ Calls caller call → IsBodyOf body call
    by_read (Ok read) is heard = by_blocks read read.blocks refl is heard
    by_read (Err fault) is heard = absurd (heard_no _ caller call (no_response (response_of body) (refusal_of body)) heard)

-- What comes to a controller in a frame is this call.
pub record IsCallTo (frame : List ℕ) (call : Called) : Type 0 where
  pub blocks : List ℕ
  pub counted : call.blocks ≡ Some blocks
  pub read : IsCallRead (drop 42 (untagged frame)) call

module _ (mine : Controller) (bytes : List ℕ) (caller : Caller) (call : Called) where
  abbrev IsIt : Heard → Type 0
  IsIt heard = heard ≡ Calls caller call

  by_content : (meaning : Meaning) → IsBare bytes meaning → (content : Content) → meaning.content ≡ content → IsIt (heard_content mine.address meaning.source content) → IsCallTo bytes call
  by_content meaning bare (RealTime id body) is e = absurd (heard_no _ caller call (no_real_time meaning.source id body) e)
  by_content meaning bare (ArpPacket packet) is e = absurd (heard_no _ caller call tt e)
  by_content meaning bare (UdpDatagram from to body) is e =
      cond_both (is_to mine.address to) _ _ (λ h. IsIt h → IsCallTo bytes call)
      (λ own e.
      let typed = datagram_type (big_number 2 bare.type) bare.rest meaning.content from to body is (kind_under (big_number 2 bare.type) bare.rest meaning.content bare.content) in
      let behind = body_behind bare.rest from to body (subst (datagram.Spells bare.rest) is typed.1) in
      let at : drop 42 (untagged bytes) ≡ body ++ behind.more = frame_behind bytes meaning bare 28 ∙ behind.is in
      let it = body_call (record { mac = meaning.source; endpoint = from }) caller body call e in
      let read : IsCallRead (body ++ behind.more) call =
      call_placed controllers (body ++ behind.more) call (call_behind controllers body behind.more call (call_takes controllers body call it.is)) in
      record { blocks = it.blocks; counted = it.counted; read = subst (λ octets. IsCallRead octets call) (sym at) read })
      (λ _ e. absurd (heard_no _ caller call tt e)) e

  by_frame : (meaning : Meaning) → IsBare bytes meaning → IsIt (heard_frame mine meaning) → IsCallTo bytes call
  by_frame meaning bare e =
      cond_both (pointwise nat_eq meaning.destination.octets mine.mac.octets) _ _ (λ h. IsIt h → IsCallTo bytes call)
      (λ own e. by_content meaning bare meaning.content refl e) (λ _ e. absurd (heard_no _ caller call tt e)) e

  by_read : (read : Result Meaning FrameFault) → frame_of bytes ≡ read → IsIt (heard_read mine read) → IsCallTo bytes call
  by_read (Err fault) is e = absurd (heard_no _ caller call tt e)
  by_read (Ok meaning) is e = by_frame meaning (bare_of bytes meaning (frame_takes bytes meaning is).spelled) e

  pub call_to : IsIt (heard_of mine bytes) → IsCallTo bytes call
  unfolding heard_of
  call_to e = by_read (frame_of bytes) refl e

-- ---- ApplicationReady of a plug

-- It is one at fixed places.
pub plug_ready_is : (setup : Setup) (frame : List ℕ) (call : Called) (block : PlugControlBlock) → IsCallTo frame call → plug_ready_in call ≡ Some block → is_plug_ready setup block ≡ true
    → is_of 4 0x0113 setup.ar (drop 42 (untagged frame)) ≡ true
plug_ready_is setup frame call block it is right = by_operation (call.header.operation == 4) refl is
  where
    own : block.ar_uuid ≡ setup.ar
    own = same_text block.ar_uuid setup.ar (sym (and_parts (pointwise nat_eq block.ar_uuid setup.ar) _ right).0)

    by_block : (read : Result (PlugControlBlock × List ℕ) BlockFault) → (plug_control 0x0113).read it.blocks ≡ read → plug_ready_block read ≡ Some block → call.header.operation ≡ 4
        → is_of 4 0x0113 setup.ar (drop 42 (untagged frame)) ≡ true
    by_block (Ok x) e found four =
        let spells = (plug_control_sound 0x0113).takes it.blocks x.0 x.1 e in
        let placed = plug_placed 0x0113 it.blocks x.0 x.1 spells in
        let named : x.0.ar_uuid ≡ setup.ar = ap (λ (b : PlugControlBlock). b.ar_uuid) (some_block x.0 block found) ∙ own in
        of_call setup.ar (drop 42 (untagged frame)) it.blocks 4 0x0113 (it.read.operation ∙ four) (it.read.blocks it.blocks it.counted) (subst (λ u. IsBlockOf 0x0113 u it.blocks) named placed)
    by_block (Err fault) e found four = absurd cc

    by_operation : (b : Bool) → (call.header.operation == 4) ≡ b → cond b (plug_ready_block ((plug_control 0x0113).read (unwrap_or call.blocks []))) None ≡ Some block
        → is_of 4 0x0113 setup.ar (drop 42 (untagged frame)) ≡ true
    by_operation true e found =
        by_block ((plug_control 0x0113).read it.blocks) refl (ap (λ (o : Option (List ℕ)). plug_ready_block ((plug_control 0x0113).read (unwrap_or o []))) (sym it.counted) ∙ found)
        (eqb-true call.header.operation 4 e)
    by_operation false e found = absurd cc
