-- What a device hears in the octets of a call.
use Rattle.std.proofs.Common.{◌≡◌, ◌==◌, ◌&&◌, ◌||◌, ◌+◌, ℕ, Bool, true, false, nat_eq, List, ◌++◌, drop, Result, Ok, Err, refl, sym, ap, subst, ◌∙◌, append_assoc, arith}
use Rattle.std.proofs.lemmas.Bool.{and_parts, cond_both}
use Rattle.std.specs.Cmp.Lexicographic.{pointwise}
use Rattle.byteorder.specs.Endian.{big_number}
use Rattle.pn_values.specs.declared.identity.Identity.{Identity}
use Rattle.pn_values.specs.declared.mac.Mac.{Mac}
use Rattle.dcp_core.specs.declared.request.DcpFault.{DcpFault}
use Rattle.dcp_core.specs.Reading.{request_of}
use Rattle.dcp_core.specs.Request.{Asked}
use Rattle.pn_alarms.specs.declared.fault.AlarmFault.{AlarmFault}
use Rattle.pn_alarms.specs.declared.message.Notice.TheVariants as message
use Rattle.pn_alarms.specs.declared.pdu.Header.{Header}
use Rattle.pn_alarms.specs.Message.{ToDevice, message_of}
use Rattle.diagnosis.specs.declared.reports.priority.Priority.{Priority}
use Rattle.diagnosis.specs.declared.reports.priority.Priority.TheVariants.{High, Low}
use Rattle.diagnosis.specs.reports.Priority.{priority_of}
use Rattle.diagnosis.specs.reports.Message.{low_message_of}
use Rattle.frame_codec.specs.FrameId.{is_alarm, is_cyclic}
use Rattle.octets_law.proofs.Repeats.{same_octets}
use Rattle.frame_codec.specs.declared.fault.FrameFault.{FrameFault}
use Rattle.frame_codec.specs.declared.udp.Caller.{Caller}
use Rattle.frame_codec.specs.declared.udp.Endpoint.{Endpoint}
use Rattle.frame_codec.specs.Calls.{call_port}
use Rattle.frame_codec.specs.Frame.{datagram, frame_of}
use Rattle.frame_codec.specs.Meaning.{Content, Meaning, ArpPacket, RealTime, UdpDatagram}
use Rattle.frame_codec.proofs.Frames.{frame_takes}
use Rattle.rpc_core.specs.declared.fault.RpcFault.{RpcFault}
use Rattle.rpc_core.specs.declared.interface.Interface.{Interface}
use Rattle.rpc_core.specs.declared.interface.Interface.TheVariants.{Device}
use Rattle.rpc_core.specs.Call.{Asked as Called, IsCall, call_of}
use Rattle.rpc_core.specs.Response.{Answered, response_of}
use Rattle.rpc_core.proofs.Sound.{call_behind, call_takes, response_behind, response_takes}
use Rattle.device_frames.specs.Heard.{Heard, Unreadable, Elsewhere, Resolves, Reported, Calls, Garbled}
use Rattle.device_frames.specs.Heard.{broadcast, heard_alarm, heard_content, heard_frame, heard_low, heard_of, heard_reply, heard_request, is_own, is_taken, said_by, said_else, said_first}
use Rattle.octets_law.specs.Octets.{activity_of, number, untagged}
use Rattle.octets_law.proofs.Bare.{IsBare, bare_of}
use Rattle.octets_law.proofs.CallPlaces.{call_placed, skip}
use Rattle.octets_law.proofs.CallReads.{call_parts, tested}
use Rattle.octets_law.proofs.Datagrams.{body_behind, kind_under}
use Rattle.octets_law.proofs.EventSteps.{datagram_type, frame_type}
use Rattle.octets_law.proofs.FrameSteps.{frame_timely}
use Rattle.octets_law.proofs.Responses.{response_kind}
use Rattle.strangers_law.specs.Calling.{IsOwn, IsOwnAt, OwnAreHeard, operation_in}
use Rattle.strangers_law.specs.Quiet.{heard_in, is_call}
use Rattle.strangers_law.proofs.Hearing.{holds}
use Rattle.strangers_law.proofs.Ports.{sent_to}
use Rattle.strangers_law.proofs.Responses.{placed, two_names}

-- The activity of a call, read at its place.
pub call_activity : (interface : Interface) (bytes : List ℕ) (meaning : Called) → IsCall interface bytes meaning → activity_of bytes ≡ meaning.header.activity
call_activity interface bytes meaning spells =
    let it = call_parts interface bytes meaning spells in
    ap activity_of (it.is ∙ ap (λ l. it.version ++ (it.packet_type ++ (it.flags ++ (it.serial ++ (it.representation ++ (it.third ++ l))))))
    (sym (append_assoc it.object it.interface _)))
    ∙ placed it.version it.packet_type it.flags it.serial it.representation it.third (it.object ++ it.interface) it.activity _
    it.version_one it.type_one it.flags_one it.serial_one it.representation_one it.third_three
    (two_names it.object it.interface it.object_wide it.interface_wide) it.activity_wide
    ∙ sym it.activity_is

-- In a call it hears that call, with its activity and its operation, or nothing that it carries out.
abbrev pub IsCallHeard : List ℕ → Heard → Type 0
IsCallHeard frame (Reported caller address (Calls call)) =
    (activity_of (drop 42 frame) ≡ call.header.activity) × (operation_in (drop 42 frame) ≡ call.header.operation)
IsCallHeard frame (Reported caller address Garbled) = Unit {0}
IsCallHeard frame (Resolves asker packet) = Unit {0}
IsCallHeard frame Unreadable = Unit {0}
IsCallHeard frame Elsewhere = Unit {0}
IsCallHeard frame heard = ⊥

-- What is read at the places of a call.
record IsPlaced (frame : List ℕ) : Type 0 where
  ether_type : (number 12 2 frame == 0x0800) ≡ true
  kind : (number 0 2 (drop 42 frame) == 0x0400) ≡ true

call_places : (frame : List ℕ) → is_call frame ≡ true → IsPlaced frame
call_places frame is =
    let third = and_parts (number 12 2 frame == 0x0800 && number 23 1 frame == 17 && number 36 2 frame == 34964) (number 0 2 (drop 42 frame) == 0x0400) is in
    let second = and_parts (number 12 2 frame == 0x0800 && number 23 1 frame == 17) (number 36 2 frame == 34964) third.0 in
    let first = and_parts (number 12 2 frame == 0x0800) (number 23 1 frame == 17) second.0 in
    record { ether_type = first.0; kind = third.1 }

apart_numbers : (n : ℕ) → n ≡ 0x0800 → n ≡ 0x8892 → ⊥
apart_numbers n one other = omega (arith, one, other)

apart_kinds : (n : ℕ) → n ≡ 0x0400 → n ≡ 0x0402 → ⊥
apart_kinds n one other = omega (arith, one, other)

-- The octets after the header of a frame.
frame_behind : (bytes : List ℕ) (meaning : Meaning) (bare : IsBare bytes meaning) (n : ℕ) → drop (6 + (6 + (2 + n))) (untagged bytes) ≡ drop n bare.rest
frame_behind bytes meaning bare n =
    ap (drop (6 + (6 + (2 + n)))) bare.is ∙ skip (6 + (2 + n)) 6 meaning.destination.octets _ bare.to
    ∙ skip (2 + n) 6 bare.source _ bare.from ∙ skip n 2 bare.type _ bare.two

-- The datagram of a frame.
record IsDatagram (bytes : List ℕ) (from to : Endpoint) (body : List ℕ) : Type 0 where
  more : List ℕ
  ether_type : number 12 2 (untagged bytes) ≡ 0x0800
  protocol : number 23 1 (untagged bytes) ≡ 17
  port : number 36 2 (untagged bytes) ≡ to.port
  at : drop 42 (untagged bytes) ≡ body ++ more

datagram_in : (bytes : List ℕ) (meaning : Meaning) (bare : IsBare bytes meaning) (from to : Endpoint) (body : List ℕ)
    → meaning.content ≡ UdpDatagram from to body → IsDatagram bytes from to body
datagram_in bytes meaning bare from to body is =
    let known = kind_under (big_number 2 bare.type) bare.rest meaning.content bare.content in
    let typed = datagram_type (big_number 2 bare.type) bare.rest meaning.content from to body is known in
    let spells = subst (datagram.Spells bare.rest) is typed.1 in
    let behind = body_behind bare.rest from to body spells in
    let to_port = sent_to bare.rest from to body spells in
    record {
      more = behind.more;
      ether_type = frame_type bytes meaning bare ∙ typed.0;
      protocol = ap (big_number 1) (frame_behind bytes meaning bare 9) ∙ to_port.protocol;
      port = ap (big_number 2) (frame_behind bytes meaning bare 22) ∙ to_port.port;
      at = frame_behind bytes meaning bare 28 ∙ behind.is;
    }

module _ (identity : Identity) (bytes : List ℕ) (meaning : Meaning) (bare : IsBare bytes meaning) (places : IsPlaced (untagged bytes)) where
  abbrev Hears : Heard → Type 0
  Hears heard = IsCallHeard (untagged bytes) heard

  said_hears : (caller : Caller) (address body more : List ℕ) → drop 42 (untagged bytes) ≡ body ++ more → Hears (Reported caller address (said_by body))
  unfolding said_by
  said_hears caller address body more at = by_call (call_of Device body) refl
    where
      by_response : (read : Result Answered RpcFault) → response_of body ≡ read → Hears (Reported caller address (said_else read))
      by_response (Err why) is = tt
      by_response (Ok response) is =
          apart_kinds (number 0 2 (drop 42 (untagged bytes))) (tested _ 0x0400 places.kind)
          (ap (big_number 2) at ∙ response_kind (body ++ more) response (response_behind body more response (response_takes body response is)))

      by_call : (read : Result Called RpcFault) → call_of Device body ≡ read → Hears (Reported caller address (said_first read (response_of body)))
      by_call (Err why) is = by_response (response_of body) refl
      by_call (Ok call) is =
          let spells = call_behind Device body more call (call_takes Device body call is) in
          (ap activity_of at ∙ call_activity Device (body ++ more) call spells, ap operation_in at ∙ (call_placed Device (body ++ more) call spells).operation)

  content_hears : (content : Content) → meaning.content ≡ content → Hears (heard_content identity meaning.destination meaning.source content)
  content_hears (RealTime id body) is =
      absurd (apart_numbers (number 12 2 (untagged bytes)) (tested _ 0x0800 places.ether_type) (frame_timely bytes meaning id body bare is).ether_type)
  content_hears (ArpPacket packet) is =
      cond_both (is_own identity meaning.destination || pointwise nat_eq meaning.destination.octets broadcast) _ _ Hears (λ _. tt) (λ _. tt)
  content_hears (UdpDatagram from to body) is =
      let it = datagram_in bytes meaning bare from to body is in
      cond_both (is_own identity meaning.destination && to.port == call_port) _ _ Hears
      (λ _. said_hears (record { mac = meaning.source; endpoint = from }) to.address body it.more it.at) (λ _. tt)

frame_hears : (identity : Identity) (bytes : List ℕ) → IsPlaced (untagged bytes) → (read : Result Meaning FrameFault) → frame_of bytes ≡ read
    → IsCallHeard (untagged bytes) (heard_frame identity read)
frame_hears identity bytes places (Err why) is = tt
frame_hears identity bytes places (Ok meaning) is =
    content_hears identity bytes meaning (bare_of bytes meaning (frame_takes bytes meaning is).spelled) places meaning.content refl

pub call_heard : (identity : Identity) (octets : List ℕ) → is_call (untagged octets) ≡ true → IsCallHeard (untagged octets) (heard_in identity octets)
unfolding heard_of
call_heard identity octets is = frame_hears identity octets (call_places (untagged octets) is) (frame_of octets) refl

-- ---- calls of one activity

all_four : (a b c d : Bool) → a ≡ true → b ≡ true → c ≡ true → d ≡ true → a && b && c && d ≡ true
all_four true true true true p q r s = refl
all_four false b c d p q r s = absurd cc
all_four true false c d p q r s = absurd cc
all_four true true false d p q r s = absurd cc
all_four true true true false p q r s = absurd cc

module _ (own : List ℕ) (identity : Identity) (bytes : List ℕ) (meaning : Meaning) (bare : IsBare bytes meaning) (at_own : IsOwnAt own bytes) where
  abbrev Owns : Heard → Type 0
  Owns heard = IsOwn own heard

  request_own : (source : Mac) (read : Result Asked DcpFault) → Owns (heard_request source read)
  request_own source (Err why) = tt
  request_own source (Ok request) = tt

  low_own : (source : Mac) (read : Result (Header × ToDevice) AlarmFault) → Owns (heard_low source read)
  low_own source (Err why) = tt
  low_own source (Ok x) = tt

  reply_own : (source : Mac) (priority : Priority) (said : Header) (told : ToDevice) → Owns (heard_reply source priority said told)
  reply_own source Low said (message.Ack number) = tt
  reply_own source Low said (message.Data number ack) = tt
  reply_own source Low said message.Nack = tt
  reply_own source Low said (message.Abort status) = tt
  reply_own source High said told = tt

  alarm_own : (source : Mac) (id : ℕ) (body : List ℕ) (read : Result (Header × ToDevice) AlarmFault) → Owns (heard_alarm source id body read)
  alarm_own source id body (Ok x) = reply_own source (priority_of id) x.0 x.1
  alarm_own source id body (Err why) = low_own source (low_message_of body)

  said_own : (caller : Caller) (address body more : List ℕ) → drop 42 (untagged bytes) ≡ body ++ more
      → (number 0 2 (drop 42 (untagged bytes)) ≡ 0x0400 → is_call (untagged bytes) ≡ true) → Owns (Reported caller address (said_by body))
  unfolding said_by
  said_own caller address body more at calls = by_call (call_of Device body) refl
    where
      by_response : (read : Result Answered RpcFault) → Owns (Reported caller address (said_else read))
      by_response (Err why) = tt
      by_response (Ok response) = tt

      by_call : (read : Result Called RpcFault) → call_of Device body ≡ read → Owns (Reported caller address (said_first read (response_of body)))
      by_call (Err why) is = by_response (response_of body)
      by_call (Ok call) is =
          let spells = call_behind Device body more call (call_takes Device body call is) in
          let kind : number 0 2 (drop 42 (untagged bytes)) ≡ 0x0400 = ap (big_number 2) at ∙ (call_placed Device (body ++ more) call spells).kind in
          sym (ap activity_of at ∙ call_activity Device (body ++ more) call spells) ∙ same_octets _ own (at_own (calls kind))

  content_own : (content : Content) → meaning.content ≡ content → Owns (heard_content identity meaning.destination meaning.source content)
  content_own (RealTime id body) is =
      cond_both (is_taken identity meaning.destination id) _ _ Owns (λ _. request_own meaning.source (request_of id body))
      (λ _. cond_both (is_own identity meaning.destination && is_alarm id) _ _ Owns (λ _. alarm_own meaning.source id body (message_of body))
      (λ _. cond_both (is_own identity meaning.destination && is_cyclic id) _ _ Owns (λ _. tt) (λ _. tt)))
  content_own (ArpPacket packet) is =
      cond_both (is_own identity meaning.destination || pointwise nat_eq meaning.destination.octets broadcast) _ _ Owns (λ _. tt) (λ _. tt)
  content_own (UdpDatagram from to body) is =
      let it = datagram_in bytes meaning bare from to body is in
      let frame : List ℕ = untagged bytes in
      cond_both (is_own identity meaning.destination && to.port == call_port) _ _ Owns
      (λ taken. said_own (record { mac = meaning.source; endpoint = from }) to.address body it.more it.at (λ kind.
      all_four (number 12 2 frame == 0x0800) (number 23 1 frame == 17) (number 36 2 frame == 34964) (number 0 2 (drop 42 frame) == 0x0400)
      (holds _ 0x0800 it.ether_type) (holds _ 17 it.protocol)
      (holds _ 34964 (it.port ∙ tested to.port call_port (and_parts _ _ taken).1)) (holds _ 0x0400 kind)))
      (λ _. tt)

frame_own : (own : List ℕ) (identity : Identity) (bytes : List ℕ) → IsOwnAt own bytes → (read : Result Meaning FrameFault) → frame_of bytes ≡ read
    → IsOwn own (heard_frame identity read)
frame_own own identity bytes at_own (Err why) is = tt
frame_own own identity bytes at_own (Ok meaning) is =
    content_own own identity bytes meaning (bare_of bytes meaning (frame_takes bytes meaning is).spelled) at_own meaning.content refl

pub own_are_heard : OwnAreHeard
unfolding heard_of
own_are_heard own identity octets at_own = frame_own own identity octets at_own (frame_of octets) refl
