-- A call that a device hears in a frame, read at fixed places.
use Rattle.std.proofs.Common.{◌≡◌, ◌==◌, ◌&&◌, ◌||◌, ◌+◌, ℕ, true, false, not, nat_eq, List, ◌++◌, take, drop, Result, Ok, Err, refl, sym, ap, subst, ◌∙◌, arith}
use Rattle.std.proofs.lemmas.Bool.{and_parts, cond_both, cond-false, cond-true, false_from_ne_true}
use Rattle.std.proofs.lemmas.Bool.Decides.{nat_tests}
use Rattle.std.specs.Cmp.Lexicographic.{pointwise}
use Rattle.byteorder.specs.Endian.{big_number}
use Rattle.pn_values.specs.declared.mac.Mac.{Mac}
use Rattle.pn_values.specs.declared.identity.Identity.{Identity}
use Rattle.frame_codec.specs.declared.fault.FrameFault.{FrameFault}
use Rattle.frame_codec.specs.declared.arp.Arp.{Arp}
use Rattle.frame_codec.specs.declared.udp.Caller.{Caller}
use Rattle.frame_codec.specs.declared.udp.Endpoint.{Endpoint}
use Rattle.frame_codec.specs.Calls.{call_port}
use Rattle.frame_codec.specs.FrameId.{is_alarm, is_cyclic}
use Rattle.frame_codec.specs.Frame.{arp, datagram, frame_of, real_time}
use Rattle.frame_codec.specs.Meaning.{Content, Meaning, ArpPacket, RealTime, UdpDatagram}
use Rattle.frame_codec.proofs.Frames.{frame_takes}
use Rattle.dcp_core.specs.declared.request.DcpFault.{DcpFault}
use Rattle.dcp_core.specs.Request.{Asked}
use Rattle.dcp_core.specs.Reading.{request_of}
use Rattle.rpc_core.specs.declared.fault.RpcFault.{RpcFault}
use Rattle.rpc_core.specs.declared.interface.Interface.TheVariants.{Device}
use Rattle.rpc_core.specs.Call.{Asked as Called, call_of}
use Rattle.rpc_core.specs.Response.{Answered, response_of}
use Rattle.rpc_core.proofs.Sound.{call_behind, call_takes}
use Rattle.pn_alarms.specs.declared.fault.AlarmFault.{AlarmFault}
use Rattle.pn_alarms.specs.declared.message.Notice.TheVariants as message
use Rattle.pn_alarms.specs.declared.pdu.Header.{Header}
use Rattle.pn_alarms.specs.Message.{ToDevice, message_of}
use Rattle.diagnosis.specs.declared.reports.priority.Priority.{Priority}
use Rattle.diagnosis.specs.declared.reports.priority.Priority.TheVariants.{High, Low}
use Rattle.diagnosis.specs.reports.Priority.{priority_of}
use Rattle.diagnosis.specs.reports.Message.{low_message_of}
use Rattle.device_frames.specs.declared.event.Event.TheVariants.{Frame}
use Rattle.device_frames.specs.Heard.{Heard, Calls, Reported, Said, broadcast, heard_alarm, heard_content, heard_frame, heard_low, heard_of, heard_reply, heard_request, is_own, is_taken, said_by, said_else, said_first}
use Rattle.octets_law.specs.Octets.{Call, asking_in, calling, is_dcp, number, untagged}
use Rattle.octets_law.proofs.Bare.{IsBare, bare_of}
use Rattle.octets_law.proofs.CallPlaces.{IsCallRead, call_placed, skip}
use Rattle.octets_law.proofs.Datagrams.{IsArp, IsInternet, IsRealTime, Kind, body_behind, kind_under}
use Rattle.octets_law.proofs.SetFrames.{take_front}
use Rattle.octets_law.proofs.SetReads.{two_octets}

-- What is asked of the device in a frame is this call.
pub record IsCallIn (mac : Mac) (frame : List ℕ) (call : Called) : Type 0 where
  pub octets : List ℕ
  pub asks : asking_in mac (untagged frame) ≡ Call octets
  pub read : IsCallRead octets call

-- ---- what is heard without a call

abbrev IsNoCall : Heard → Type 0
IsNoCall (Reported caller address (Calls call)) = ⊥
IsNoCall heard = Unit {0}

no_request : (source : Mac) (read : Result Asked DcpFault) → IsNoCall (heard_request source read)
no_request source (Ok request) = tt
no_request source (Err fault) = tt

no_reply : (source : Mac) (priority : Priority) (header : Header) (told : ToDevice) → IsNoCall (heard_reply source priority header told)
no_reply source Low header (message.Ack number) = tt
no_reply source Low header (message.Data number ack) = tt
no_reply source Low header message.Nack = tt
no_reply source Low header (message.Abort status) = tt
no_reply source High header told = tt

no_low : (source : Mac) (read : Result (Header × ToDevice) AlarmFault) → IsNoCall (heard_low source read)
no_low source (Ok x) = tt
no_low source (Err fault) = tt

no_alarm : (source : Mac) (id : ℕ) (body : List ℕ) (read : Result (Header × ToDevice) AlarmFault) → IsNoCall (heard_alarm source id body read)
no_alarm source id body (Ok x) = no_reply source (priority_of id) x.0 x.1
no_alarm source id body (Err fault) = no_low source (low_message_of body)

no_real_time : (identity : Identity) (destination source : Mac) (id : ℕ) (body : List ℕ) → IsNoCall (heard_content identity destination source (RealTime id body))
no_real_time identity destination source id body =
    cond_both (is_taken identity destination id) _ _ IsNoCall (λ _. no_request source (request_of id body))
    (λ _. cond_both (is_own identity destination && is_alarm id) _ _ IsNoCall (λ _. no_alarm source id body (message_of body))
    (λ _. cond_both (is_own identity destination && is_cyclic id) _ _ IsNoCall (λ _. tt) (λ _. tt)))

no_packet : (identity : Identity) (destination source : Mac) (packet : Arp) → IsNoCall (heard_content identity destination source (ArpPacket packet))
no_packet identity destination source packet =
    cond_both (is_own identity destination || pointwise nat_eq destination.octets broadcast) _ _ IsNoCall (λ _. tt) (λ _. tt)

-- ---- a datagram

frame_type : (bytes : List ℕ) (meaning : Meaning) → (bare : IsBare bytes meaning) → number 12 2 (untagged bytes) ≡ big_number 2 bare.type
frame_type bytes meaning bare =
    ap (number 12 2) bare.is ∙ ap (big_number 2) (skip 6 6 meaning.destination.octets _ bare.to ∙ skip 0 6 bare.source _ bare.from)
    ∙ two_octets (λ l. big_number 2 (l ++ bare.rest) ≡ big_number 2 l) bare.type bare.two (λ a b. refl)

pub frame_behind : (bytes : List ℕ) (meaning : Meaning) → (bare : IsBare bytes meaning) → (n : ℕ) → drop (6 + (6 + (2 + n))) (untagged bytes) ≡ drop n bare.rest
frame_behind bytes meaning bare n =
    ap (drop (6 + (6 + (2 + n)))) bare.is ∙ skip (6 + (2 + n)) 6 meaning.destination.octets _ bare.to ∙ skip (2 + n) 6 bare.source _ bare.from ∙ skip n 2 bare.type _ bare.two

frame_to : (bytes : List ℕ) (meaning : Meaning) → IsBare bytes meaning → take 6 (untagged bytes) ≡ meaning.destination.octets
frame_to bytes meaning bare =
    ap (take 6) bare.is ∙ subst (λ n. take n (meaning.destination.octets ++ (bare.source ++ (bare.type ++ bare.rest))) ≡ meaning.destination.octets) bare.to
    (take_front meaning.destination.octets _)

pub datagram_type : (n : ℕ) (bytes : List ℕ) (content : Content) (from to : Endpoint) (body : List ℕ) → content ≡ UdpDatagram from to body → Kind n bytes content
    → (n ≡ 0x0800) × datagram.Spells bytes content
unfolding real_time arp
datagram_type n bytes content from to body is (IsRealTime type spells) = absurd (let e = spells.1 ∙ is in cc)
datagram_type n bytes content from to body is (IsArp type spells) = absurd (let e = spells.1 ∙ is in cc)
datagram_type n bytes content from to body is (IsInternet type spells) = (type, spells)

pub holds : (n m : ℕ) → n ≡ m → (n == m) ≡ true
holds n m is = grind (arith, nat_tests)

fails : (n m k : ℕ) → n ≡ m → (m == k) ≡ false → (n == k) ≡ false
fails n m k is other = subst (λ x. (x == k) ≡ false) (sym is) other

not_dcp : (id service type n : ℕ) (frame : List ℕ) → number 12 2 frame ≡ n → (n == 0x8892) ≡ false → is_dcp id service type frame ≡ false
not_dcp id service type n frame is other = false_from_ne_true (is_dcp id service type frame) (λ dcp.
    let three = (and_parts (number 12 2 frame == 0x8892 && number 14 2 frame == id && number 16 1 frame == service) (number 17 1 frame == type) dcp).0 in
    let two = (and_parts (number 12 2 frame == 0x8892 && number 14 2 frame == id) (number 16 1 frame == service) three).0 in
    let one : (number 12 2 frame == 0x8892) ≡ true = (and_parts (number 12 2 frame == 0x8892) (number 14 2 frame == id) two).0 in
    let e : (number 12 2 frame == 0x8892) ≡ false = fails (number 12 2 frame) n 0x8892 is other in cc)

asked_in : (mac : Mac) (frame : List ℕ) → pointwise nat_eq (take 6 frame) mac.octets ≡ true → number 12 2 frame ≡ 0x0800 → asking_in mac frame ≡ calling (drop 42 frame)
asked_in mac frame own type =
    cond-false (not (pointwise nat_eq (take 6 frame) mac.octets)) _ _ (ap not own)
    ∙ cond-false (is_dcp 0xFEFD 4 0 frame) _ _ (not_dcp 0xFEFD 4 0 0x0800 frame type refl)
    ∙ cond-true (number 12 2 frame == 0x0800) _ _ (holds _ 0x0800 type)

-- ---- a call

same_said : (caller other : Caller) (address to : List ℕ) (one more : Said) → Reported caller address one ≡ Reported other to more → one ≡ more
same_said caller other address to one more e = cc

same_call : (one other : Called) → Calls one ≡ Calls other → one ≡ other
same_call one other e = cc

said_else_no : (read : Result Answered RpcFault) (call : Called) → said_else read ≡ Calls call → ⊥
said_else_no (Ok response) call e = cc
said_else_no (Err fault) call e = cc

said_call : (body : List ℕ) (call : Called) → said_by body ≡ Calls call → call_of Device body ≡ Ok call
unfolding said_by
said_call body call said = by_call (call_of Device body) said
  where
    by_call : (read : Result Called RpcFault) → said_first read (response_of body) ≡ Calls call → read ≡ Ok call
    by_call (Ok other) e = ap (λ c. Ok c) (same_call other call e)
    by_call (Err fault) e = absurd (said_else_no (response_of body) call e)

module _ (identity : Identity) (bytes : List ℕ) (caller : Caller) (address : List ℕ) (call : Called) where
  abbrev IsIt : Heard → Type 0
  IsIt heard = heard ≡ Reported caller address (Calls call)

  no_it : (heard : Heard) → IsNoCall heard → IsIt heard → ⊥
  no_it heard none e = subst IsNoCall e none

  by_content : (meaning : Meaning) → IsBare bytes meaning → (content : Content) → meaning.content ≡ content → IsIt (heard_content identity meaning.destination meaning.source content)
      → IsCallIn identity.mac bytes call
  by_content meaning bare (RealTime id body) is e = absurd (no_it _ (no_real_time identity meaning.destination meaning.source id body) e)
  by_content meaning bare (ArpPacket packet) is e = absurd (no_it _ (no_packet identity meaning.destination meaning.source packet) e)
  by_content meaning bare (UdpDatagram from to body) is e =
      cond_both (is_own identity meaning.destination && to.port == call_port) _ _ (λ h. IsIt h → IsCallIn identity.mac bytes call)
      (λ own e.
      let frame : List ℕ = untagged bytes in
      let typed = datagram_type (big_number 2 bare.type) bare.rest meaning.content from to body is (kind_under (big_number 2 bare.type) bare.rest meaning.content bare.content) in
      let behind = body_behind bare.rest from to body (subst (datagram.Spells bare.rest) is typed.1) in
      let at : drop 42 frame ≡ body ++ behind.more = frame_behind bytes meaning bare 28 ∙ behind.is in
      let there = call_takes Device body call (said_call body call (same_said _ _ _ _ _ _ e)) in
      let read : IsCallRead (body ++ behind.more) call = call_placed Device (body ++ behind.more) call (call_behind Device body behind.more call there) in
      record {
        octets = body ++ behind.more;
        asks = asked_in identity.mac frame
            (ap (λ l. pointwise nat_eq l identity.mac.octets) (frame_to bytes meaning bare) ∙ (and_parts _ _ own).0)
            (frame_type bytes meaning bare ∙ typed.0)
            ∙ ap calling at ∙ cond-true (number 0 2 (body ++ behind.more) == 0x0400) _ _ (holds _ 0x0400 read.kind);
        read = read;
      })
      (λ _ e. absurd (no_it _ tt e)) e

  by_read : (read : Result Meaning FrameFault) → frame_of bytes ≡ read → IsIt (heard_frame identity read) → IsCallIn identity.mac bytes call
  by_read (Err fault) is e = absurd (no_it _ tt e)
  by_read (Ok meaning) is e = by_content meaning (bare_of bytes meaning (frame_takes bytes meaning is).spelled) meaning.content refl e

  -- A call that is heard is what is asked.
  pub call_in : IsIt (heard_of identity (Frame (record { items = bytes }))) → IsCallIn identity.mac bytes call
  unfolding heard_of
  call_in e = by_read (frame_of bytes) refl e
