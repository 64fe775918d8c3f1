-- What a device hears in the octets of a stranger.
use Rattle.std.proofs.Common.{◌≡◌, nat_le, ◌==◌, ◌&&◌, ◌||◌, ◌+◌, ◌*◌, ℕ, Bool, true, false, nat_eq, List, [], ◌∷◌, ◌++◌, length, take, drop, map, Some, Result, Ok, Err, refl, sym, ap, subst, ◌∙◌, arith}
use Rattle.std.proofs.lemmas.List.{append-nil}
use Rattle.std.proofs.lemmas.Bool.{and_parts, cond_both}
use Rattle.std.proofs.lemmas.Bool.Decides.{nat_tests}
use Rattle.std.specs.Cmp.Lexicographic.{pointwise}
use Rattle.std.specs.List.{AllByRecursion, list_any}
use Rattle.pn_values.specs.declared.identity.Identity.{Identity}
use Rattle.frame_codec.specs.declared.fault.FrameFault.{FrameFault}
use Rattle.frame_codec.specs.declared.udp.Caller.{Caller}
use Rattle.frame_codec.specs.Calls.{call_port}
use Rattle.frame_codec.specs.FrameId.{is_alarm, is_cyclic}
use Rattle.frame_codec.specs.Frame.{frame_of}
use Rattle.frame_codec.specs.Meaning.{Content, Meaning, ArpPacket, RealTime, UdpDatagram}
use Rattle.frame_codec.proofs.Frames.{frame_takes}
use Rattle.dcp_core.specs.declared.request.DcpFault.{DcpFault}
use Rattle.dcp_core.specs.declared.request.Service.TheVariants as service
use Rattle.dcp_core.specs.declared.kind.Kind.{Kind}
use Rattle.dcp_core.specs.declared.kind.Kind.TheVariants as block_kind
use Rattle.dcp_core.specs.Kinds.{option_of, suboption_of}
use Rattle.dcp_core.specs.Reading.{request_of}
use Rattle.dcp_core.specs.Request.{Asked, AskedBlock}
use Rattle.dcp_core.specs.Set.{is_flash, item_of, plan_of, suite_in, value_in}
use Rattle.pn_values.specs.IpSuite.{is_suite}
use Rattle.station_names.specs.Valid.{is_station_name}
use Rattle.dcp_core.proofs.Sound.{request_takes}
use Rattle.rpc_core.specs.declared.fault.RpcFault.{RpcFault}
use Rattle.rpc_core.specs.declared.interface.Interface.TheVariants.{Device}
use Rattle.rpc_core.specs.Call.{Asked as Called, call_of}
use Rattle.rpc_core.specs.Response.{Answered, response_of}
use Rattle.rpc_core.proofs.Sound.{call_behind, call_takes, response_behind, response_takes}
use Rattle.pn_alarms.specs.declared.fault.AlarmFault.{AlarmFault}
use Rattle.pn_alarms.specs.declared.message.Notice.TheVariants as message
use Rattle.pn_alarms.specs.declared.pdu.Header.{Header}
use Rattle.pn_alarms.specs.Format.{kind}
use Rattle.pn_alarms.specs.Carried.{ack_of}
use Rattle.diagnosis.specs.reports.Report.{low_ack_of}
use Rattle.pn_alarms.specs.Message.{ToDevice, message_of}
use Rattle.diagnosis.specs.declared.reports.priority.Priority.{Priority}
use Rattle.diagnosis.specs.declared.reports.priority.Priority.TheVariants.{High, Low}
use Rattle.diagnosis.specs.reports.Priority.{priority_of}
use Rattle.diagnosis.specs.reports.Message.{low_message_of}
use Rattle.relations.specs.RelationState.{RelationState}
use Rattle.device_frames.specs.declared.event.Event.{Event}
use Rattle.device_frames.specs.declared.event.Event.TheVariants.{Frame, Call as Joined}
use Rattle.device_frames.specs.Heard.{Heard, Reported, broadcast, heard_alarm, heard_content, heard_frame, heard_low, heard_of, heard_reply, heard_request, is_own, is_taken, said_by, said_else, said_first}
use Rattle.octets_law.specs.Octets.{dcp_blocks, is_dcp, number, part, untagged}
use Rattle.octets_law.proofs.Bare.{IsBare, bare_of}
use Rattle.octets_law.proofs.CallPlaces.{IsCallRead, call_placed}
use Rattle.octets_law.proofs.FrameSteps.{frame_timely, frame_to}
use Rattle.octets_law.proofs.Responses.{response_kind}
use Rattle.octets_law.proofs.SetHeard.{IsTimely, KindOf, set_read}
use Rattle.octets_law.proofs.SetItems.{AreRead}
use Rattle.strangers_law.specs.Device.{marks_of}
use Rattle.strangers_law.specs.Strange.{Marks, belongs, is_alarm_of, is_call_of, is_cyclic_of, is_datagram, is_own as is_own_event, is_reset, is_response_of, is_said_of, same}
use Rattle.strangers_law.proofs.Harmless.{IsHarmless, IsQuiet}
use Rattle.strangers_law.proofs.Marked.{AreEndpoints, endpoints_of, no_alarm, no_cyclic, sender_of}
use Rattle.strangers_law.proofs.Ports.{datagram_is}
use Rattle.strangers_law.proofs.Responses.{response_activity}

-- ---- Bools

pub neither : (a b : Bool) → a || b ≡ false → (a ≡ false) × (b ≡ false)
neither false false e = (refl, refl)
neither true b e = absurd cc
neither false true e = absurd cc

pub second : (a b : Bool) → a && b ≡ false → a ≡ true → b ≡ false
second true b e is = e
second false b e is = absurd cc

either_left : (b : Bool) → b || false ≡ true → b ≡ true
either_left true is = refl
either_left false is = absurd cc

pub holds : (n m : ℕ) → n ≡ m → (n == m) ≡ true
holds n m is = grind (arith, nat_tests)

-- ---- a Set

kind_quiet : (kind : Kind) (contents : List ℕ) (read : ℕ) → read ≡ option_of kind * 256 + suboption_of kind → (read == 0x0505 || read == 0x0506) ≡ false → IsQuiet (item_of true kind contents)
kind_quiet block_kind.NameOfStation contents read is other =
    cond_both (nat_le 2 (length contents) && ((length contents == 2) || is_station_name (value_in contents))) _ _ IsQuiet (λ _. tt) (λ _. tt)
kind_quiet block_kind.IpSuite contents read is other = cond_both ((length contents == 14) && is_suite (suite_in (value_in contents))) _ _ IsQuiet (λ _. tt) (λ _. tt)
kind_quiet block_kind.Signal contents read is other = cond_both (is_flash contents) _ _ IsQuiet (λ _. tt) (λ _. tt)
kind_quiet block_kind.FactoryReset contents read is other =
    absurd (let e : (read == 0x0505) ≡ true = holds read 0x0505 is in let f : (read == 0x0505) ≡ false = (neither (read == 0x0505) (read == 0x0506) other).0 in cc)
kind_quiet block_kind.ResetToFactory contents read is other =
    absurd (let e : (read == 0x0506) ≡ true = holds read 0x0506 is in let f : (read == 0x0506) ≡ false = (neither (read == 0x0505) (read == 0x0506) other).1 in cc)
kind_quiet block_kind.MacAddress contents read is other = tt
kind_quiet block_kind.StationType contents read is other = tt
kind_quiet block_kind.DeviceId contents read is other = tt
kind_quiet block_kind.DeviceRole contents read is other = tt
kind_quiet block_kind.DeviceOptions contents read is other = tt
kind_quiet block_kind.AliasName contents read is other = tt
kind_quiet block_kind.DeviceInstance contents read is other = tt
kind_quiet block_kind.Response contents read is other = tt
kind_quiet block_kind.All contents read is other = tt
kind_quiet (block_kind.Other option suboption) contents read is other = tt

quiet_items : (blocks : List AskedBlock) (reads : List (ℕ × List ℕ)) → AreRead blocks reads → list_any (λ (read : ℕ × List ℕ). read.0 == 0x0505 || read.0 == 0x0506) reads ≡ false
    → AllByRecursion IsQuiet (map (λ (block : AskedBlock). item_of true block.kind block.contents) blocks)
quiet_items [] [] read other = tt
quiet_items [] (one ∷ reads) read other = absurd read
quiet_items (block ∷ blocks) [] read other = absurd read
quiet_items (block ∷ blocks) (one ∷ reads) read other =
    let parts = neither (one.0 == 0x0505 || one.0 == 0x0506) _ other in
    (kind_quiet block.kind block.contents one.0 read.0.0 parts.0, quiet_items blocks reads read.1 parts.1)

-- ---- what is heard

module _ (identity : Identity) (link : RelationState) where
  abbrev marks : Marks
  marks = marks_of link

  abbrev Harmless : Heard → Type 0
  Harmless heard = IsHarmless link heard

  -- ---- a datagram

  not_call : (octets : List ℕ) (call : Called) (some : List ℕ) → IsCallRead octets call → call.blocks ≡ Some some → is_said_of marks octets ≡ false
      → pointwise nat_eq link.request.ar.uuid (part 8 16 some) ≡ false
  not_call octets call some read blocks other =
      let parts = neither (is_call_of marks octets) (is_response_of marks octets) other in
      subst (λ l. pointwise nat_eq link.request.ar.uuid (part 8 16 l) ≡ false) (read.blocks some blocks)
      (second (number 0 2 octets == 0x0400) _ parts.0 (holds _ 0x0400 read.kind))

  said_harmless : (caller : Caller) (address body more : List ℕ) → is_said_of marks (body ++ more) ≡ false → Harmless (Reported caller address (said_by body))
  unfolding said_by
  said_harmless caller address body more other = by_call (call_of Device body) refl
    where
      by_response : (read : Result Answered RpcFault) → response_of body ≡ read → Harmless (Reported caller address (said_else read))
      by_response (Err why) is = tt
      by_response (Ok response) is =
          let spells = response_behind body more response (response_takes body response is) in
          let parts = neither (is_call_of marks (body ++ more)) (is_response_of marks (body ++ more)) other in
          subst (λ l. pointwise nat_eq l link.request.ar.uuid ≡ false) (response_activity (body ++ more) response spells)
          (second (number 0 2 (body ++ more) == 0x0402) _ parts.1 (holds _ 0x0402 (response_kind (body ++ more) response spells)))

      by_call : (read : Result Called RpcFault) → call_of Device body ≡ read → Harmless (Reported caller address (said_first read (response_of body)))
      by_call (Err why) is = by_response (response_of body) refl
      by_call (Ok call) is =
          let read = call_placed Device (body ++ more) call (call_behind Device body more call (call_takes Device body call is)) in
          λ some blocks. not_call (body ++ more) call some read blocks other

  -- ---- a frame that was read

  module _ (bytes : List ℕ) (meaning : Meaning) (bare : IsBare bytes meaning) (sender : part 6 6 (untagged bytes) ≡ meaning.source.octets)
      (strange : belongs identity.mac.octets marks (untagged bytes) ≡ false) where
    frame : List ℕ
    frame = untagged bytes

    record AreOthers : Type 0 where
      cyclic : is_cyclic_of marks (untagged bytes) ≡ false
      alarm : is_alarm_of marks (untagged bytes) ≡ false
      reset : is_reset (untagged bytes) ≡ false
      said : (is_datagram (untagged bytes) && is_said_of marks (drop 42 (untagged bytes))) ≡ false

    -- A frame to this device does not belong to the relation.
    others : is_own identity meaning.destination ≡ true → AreOthers
    others own =
        let to : same (take 6 (untagged bytes)) identity.mac.octets ≡ true = ap (λ l. pointwise nat_eq l identity.mac.octets) (frame_to bytes meaning bare) ∙ own in
        let rest = second (same (take 6 (untagged bytes)) identity.mac.octets) _ strange to in
        let three = neither (is_cyclic_of marks (untagged bytes) || is_alarm_of marks (untagged bytes) || is_reset (untagged bytes)) _ rest in
        let two = neither (is_cyclic_of marks (untagged bytes) || is_alarm_of marks (untagged bytes)) (is_reset (untagged bytes)) three.0 in
        let one = neither (is_cyclic_of marks (untagged bytes)) (is_alarm_of marks (untagged bytes)) two.0 in
        record { cyclic = one.0; alarm = one.1; reset = two.1; said = three.1 }

    request_harmless : (id : ℕ) (body : List ℕ) → IsTimely (untagged bytes) id body → is_taken identity meaning.destination id ≡ true
        → (read : Result Asked DcpFault) → request_of id body ≡ read → Harmless (heard_request meaning.source read)
    unfolding plan_of
    request_harmless id body it taken (Err why) is = tt
    request_harmless id body it taken (Ok request) is = λ set. by_kind (subst (λ s. KindOf id (untagged bytes) s request) set (set_read (untagged bytes) body id request it (request_takes id body request is)))
      where
        by_kind : KindOf id (untagged bytes) service.Set request → AllByRecursion IsQuiet (plan_of true request)
        by_kind kind =
            let own : is_own identity meaning.destination ≡ true = either_left (is_own identity meaning.destination) (subst (λ n. is_taken identity meaning.destination n ≡ true) kind.0 taken) in
            quiet_items request.blocks (dcp_blocks (untagged bytes)) kind.1.blocks (second (is_dcp 0xFEFD 4 0 (untagged bytes)) _ (others own).reset kind.1.kind)

    not_alarm : (id : ℕ) (body : List ℕ) (said : Header) → IsTimely (untagged bytes) id body → is_own identity meaning.destination ≡ true → is_alarm id ≡ true → AreEndpoints body said
        → (pointwise nat_eq meaning.source.octets link.request.ar.initiator.octets && (said.destination == link.flow.endpoint && said.source == link.request.alarm.reference)) ≡ false
    not_alarm id body said it own alarm ends = no_alarm marks (untagged bytes) meaning.source.octets sender id body it said ends alarm (others own).alarm

    alarm_harmless : (id : ℕ) (body : List ℕ) → IsTimely (untagged bytes) id body → is_own identity meaning.destination && is_alarm id ≡ true
        → (read : Result (Header × ToDevice) AlarmFault) → message_of body ≡ read → Harmless (heard_alarm meaning.source id body read)
    alarm_harmless id body it taken (Ok x) is = by_reply (priority_of id) x.0 x.1 (not_alarm id body x.0 it (and_parts _ _ taken).0 (and_parts _ _ taken).1 (endpoints_of ack_of body x is))
      where
        by_reply : (priority : Priority) (said : Header) (told : ToDevice) →
            (pointwise nat_eq meaning.source.octets link.request.ar.initiator.octets && (said.destination == link.flow.endpoint && said.source == link.request.alarm.reference)) ≡ false
            → Harmless (heard_reply meaning.source priority said told)
        by_reply Low said (message.Ack number) other = other
        by_reply Low said (message.Data number ack) other = other
        by_reply Low said message.Nack other = other
        by_reply Low said (message.Abort status) other = other
        by_reply High said told other = other
    alarm_harmless id body it taken (Err why) is = by_low (low_message_of body) refl
      where
        by_low : (read : Result (Header × ToDevice) AlarmFault) → low_message_of body ≡ read → Harmless (heard_low meaning.source read)
        by_low (Err why) is = tt
        by_low (Ok x) is = not_alarm id body x.0 it (and_parts _ _ taken).0 (and_parts _ _ taken).1 (endpoints_of low_ack_of body x is)

    real_harmless : (id : ℕ) (body : List ℕ) → meaning.content ≡ RealTime id body → Harmless (heard_content identity meaning.destination meaning.source (RealTime id body))
    real_harmless id body is =
        let it = frame_timely bytes meaning id body bare is in
        cond_both (is_taken identity meaning.destination id) _ _ Harmless (λ taken. request_harmless id body it taken (request_of id body) refl)
        (λ _. cond_both (is_own identity meaning.destination && is_alarm id) _ _ Harmless (λ taken. alarm_harmless id body it taken (message_of body) refl)
        (λ _. cond_both (is_own identity meaning.destination && is_cyclic id) _ _ Harmless
        (λ taken. no_cyclic marks (untagged bytes) meaning.source.octets sender id body it (others (and_parts _ _ taken).0).cyclic) (λ _. tt)))

    content_harmless : (content : Content) → meaning.content ≡ content → Harmless (heard_content identity meaning.destination meaning.source content)
    content_harmless (RealTime id body) is = real_harmless id body is
    content_harmless (ArpPacket packet) is =
        cond_both (is_own identity meaning.destination || pointwise nat_eq meaning.destination.octets broadcast) _ _ Harmless (λ _. tt) (λ _. tt)
    content_harmless (UdpDatagram from to body) is =
        let it = datagram_is bytes meaning from to body bare is in
        cond_both (is_own identity meaning.destination && to.port == call_port) _ _ Harmless
        (λ taken. said_harmless (record { mac = meaning.source; endpoint = from }) to.address body it.more
        (subst (λ l. is_said_of marks l ≡ false) it.is (second (is_datagram (untagged bytes)) _ (others (and_parts _ _ taken).0).said it.protocol)))
        (λ _. tt)

  -- ---- any event of a stranger

  frame_harmless : (bytes : List ℕ) → belongs identity.mac.octets marks (untagged bytes) ≡ false → (read : Result Meaning FrameFault) → frame_of bytes ≡ read → Harmless (heard_frame identity read)
  frame_harmless bytes strange (Err why) is = tt
  frame_harmless bytes strange (Ok meaning) is =
      let spelled = (frame_takes bytes meaning is).spelled in
      content_harmless bytes meaning (bare_of bytes meaning spelled) (sender_of bytes meaning spelled) strange meaning.content refl

  pub strange_harmless : (event : Event) → is_own_event identity.mac.octets marks event ≡ false → IsHarmless link (heard_of identity event)
  unfolding heard_of
  strange_harmless (Frame bytes) strange = frame_harmless bytes.items strange (frame_of bytes.items) refl
  strange_harmless (Joined caller address octets) strange =
      said_harmless caller address octets.items [] (subst (λ l. is_said_of marks l ≡ false) (sym (append-nil octets.items)) strange)
  strange_harmless event strange = absurd cc
