-- A step of any event.
use Rattle.std.proofs.Common.{◌≡◌, ◌<◌, ◌==◌, ◌&&◌, ◌||◌, ◌+◌, ◌^◌, ℕ, Bool, true, false, not, nat_eq, List, [], ◌++◌, drop, Result, Ok, Err, refl, sym, ap, subst, ◌∙◌, arith, if◌then◌else◌}
use Rattle.std.proofs.lemmas.List.{append-nil}
use Rattle.std.proofs.lemmas.Bool.{and_parts, cond_both, cond-false, cond-true, false_from_ne_true}
use Rattle.std.proofs.lemmas.Bool.Decides.{nat_tests}
use Rattle.std.specs.Cmp.Lexicographic.{pointwise}
use Rattle.byteorder.specs.Endian.{big_number}
use Rattle.frame_codec.specs.declared.fault.FrameFault.{FrameFault}
use Rattle.frame_codec.specs.declared.udp.Caller.{Caller}
use Rattle.frame_codec.specs.declared.udp.Endpoint.{Endpoint}
use Rattle.frame_codec.specs.Calls.{call_port}
use Rattle.frame_codec.specs.declared.arp.Arp.{Arp}
use Rattle.frame_codec.specs.Frame.{arp, datagram, frame_of, real_time}
use Rattle.frame_codec.specs.Meaning.{Content, Meaning, ArpPacket, RealTime, UdpDatagram}
use Rattle.frame_codec.proofs.Frames.{frame_takes}
use Rattle.rpc_core.specs.declared.fault.RpcFault.{RpcFault}
use Rattle.rpc_core.specs.declared.interface.Interface.TheVariants.{Device}
use Rattle.rpc_core.specs.Cache.{again}
use Rattle.rpc_core.specs.Call.{Asked as Called, call_of}
use Rattle.rpc_core.specs.Response.{Answered, response_of}
use Rattle.rpc_core.proofs.Sound.{call_behind, call_takes, response_behind, response_takes}
use Rattle.settings_journal.specs.settings_store.Machine.{Outcome}
use Rattle.device_frames.specs.declared.event.Event.{Event}
use Rattle.device_frames.specs.declared.event.Event.TheVariants.{Frame, Call as Joined, Tick, Neighbour, Application}
use Rattle.device_frames.specs.declared.note.Note.TheVariants as note
use Rattle.device_frames.specs.Heard.{Calls, Elsewhere, Garbled, Resolves, broadcast, Reported, Responds, heard_content, heard_frame, heard_of, is_own, said_by, said_else, said_first}
use Rattle.device_core.specs.State.{Live, Station}
use Rattle.device_core.specs.Asking.{looked_if}
use Rattle.device_core.specs.Handled.{Refuses, handled, is_running}
use Rattle.device_core.specs.Machine.{step_of}
use Rattle.octets_law.specs.Bridge.{repeats}
use Rattle.octets_law.specs.Headline.{is_stored}
use Rattle.octets_law.specs.Turns.{IsSmall}
use Rattle.octets_law.specs.Octets.{Call as Calling, Nothing, asking_in, asking_of, calling, is_dcp, number, untagged}
use Rattle.octets_law.proofs.Bare.{IsBare, bare_of}
use Rattle.octets_law.proofs.CallCounts.{IsCallCounted, call_counted}
use Rattle.octets_law.proofs.CallPlaces.{IsCallRead, call_placed, skip}
use Rattle.octets_law.proofs.CallSteps.{WritesAreBridged, call_step}
use Rattle.octets_law.proofs.Datagrams.{IsArp, IsInternet, IsRealTime, Kind, body_behind, kind_under}
use Rattle.octets_law.proofs.FrameSteps.{CanStep, IsSaid, frame_timely, frame_to, is_to, nothing_said, other_said, real_step, silent_said}
use Rattle.octets_law.proofs.Items.{IsStill, response_still}
use Rattle.octets_law.proofs.Responses.{response_kind}
use Rattle.octets_law.proofs.SetReads.{two_octets}
use Rattle.octets_law.proofs.WriteBridged.{writes_bridged}

-- The EtherType of a frame without its tag.
pub frame_type : (bytes : List ℕ) (meaning : Meaning) → (bare : IsBare bytes meaning) → number 12 2 (untagged bytes) ≡ big_number 2 bare.type
frame_type bytes meaning bare =
    ap (number 12 2) bare.is ∙ ap (big_number 2) (skip 6 6 meaning.destination.octets _ bare.to ∙ skip 0 6 bare.source _ bare.from)
    ∙ two_octets (λ l. big_number 2 (l ++ bare.rest) ≡ big_number 2 l) bare.type bare.two (λ a b. refl)

frame_behind : (bytes : List ℕ) (meaning : Meaning) → (bare : IsBare bytes meaning) → (n : ℕ) → drop (6 + (6 + (2 + n))) (untagged bytes) ≡ drop n bare.rest
frame_behind bytes meaning bare n =
    ap (drop (6 + (6 + (2 + n)))) bare.is ∙ skip (6 + (2 + n)) 6 meaning.destination.octets _ bare.to ∙ skip (2 + n) 6 bare.source _ bare.from ∙ skip n 2 bare.type _ bare.two

holds : (n m : ℕ) → n ≡ m → (n == m) ≡ true
holds n m is = grind (arith, nat_tests)

fails : (n m k : ℕ) → n ≡ m → (m == k) ≡ false → (n == k) ≡ false
fails n m k is other = subst (λ x. (x == k) ≡ false) (sym is) other

not_dcp : (id service type n : ℕ) (frame : List ℕ) → number 12 2 frame ≡ n → (n == 0x8892) ≡ false → is_dcp id service type frame ≡ false
not_dcp id service type n frame is other = false_from_ne_true (is_dcp id service type frame) (λ dcp.
    let three = (and_parts (number 12 2 frame == 0x8892 && number 14 2 frame == id && number 16 1 frame == service) (number 17 1 frame == type) dcp).0 in
    let two = (and_parts (number 12 2 frame == 0x8892 && number 14 2 frame == id) (number 16 1 frame == service) three).0 in
    let one : (number 12 2 frame == 0x8892) ≡ true = (and_parts (number 12 2 frame == 0x8892) (number 14 2 frame == id) two).0 in
    let e : (number 12 2 frame == 0x8892) ≡ false = fails (number 12 2 frame) n 0x8892 is other in cc)

-- Octets that are a response ask for nothing.
response_nothing : (octets : List ℕ) → number 0 2 octets ≡ 0x0402 → calling octets ≡ Nothing
response_nothing octets kind = cond-false (number 0 2 octets == 0x0400) _ _ (fails _ 0x0402 0x0400 kind refl)

pub arp_type : (n : ℕ) (bytes : List ℕ) (content : Content) (packet : Arp) → content ≡ ArpPacket packet → Kind n bytes content → n ≡ 0x0806
unfolding real_time datagram
arp_type n bytes content packet is (IsRealTime type spells) = absurd (let e = spells.1 ∙ is in cc)
arp_type n bytes content packet is (IsArp type spells) = type
arp_type n bytes content packet is (IsInternet type spells) = absurd (let e = spells.1 ∙ is in cc)

pub datagram_type : (n : ℕ) (bytes : List ℕ) (content : Content) (from to : Endpoint) (body : List ℕ) → content ≡ UdpDatagram from to body → Kind n bytes content
    → (n ≡ 0x0800) × datagram.Spells bytes content
unfolding real_time arp
datagram_type n bytes content from to body is (IsRealTime type spells) = absurd (let e = spells.1 ∙ is in cc)
datagram_type n bytes content from to body is (IsArp type spells) = absurd (let e = spells.1 ∙ is in cc)
datagram_type n bytes content from to body is (IsInternet type spells) = (type, spells)

module _ (names : List (List ℕ)) (outcomes : List Outcome) (station : Station) (live : Live) where
  abbrev Goal : Event → Type 0
  Goal event = IsSaid names outcomes station live event

  -- A call that is answered again is named.
  abbrev pub IsNamed : Event → Type 0
  IsNamed event = (octets : List ℕ) (call : Called) (frame : List ℕ) → asking_of station.identity.mac event ≡ Calling octets → IsCallCounted octets call
      → looked_if (is_stored station.options octets) call.header.activity call.header.sequence live.rest.calls ≡ again frame → repeats (Calling octets) names ≡ true

  -- Each Write that a call is is bridged.
  abbrev pub Writes : Event → Type 0
  Writes event = (octets : List ℕ) (caller : Caller) (address : List ℕ) (call : Called) (asks : asking_of station.identity.mac event ≡ calling octets) (read : IsCallRead octets call)
      (heard : heard_of station.identity event ≡ Reported caller address (Calls call)) → WritesAreBridged names outcomes station live event octets asks caller address call read heard

  -- What is said in these octets, with more after them.
  said_step : (event : Event) (body more : List ℕ) (caller : Caller) (address : List ℕ) → asking_of station.identity.mac event ≡ calling (body ++ more)
      → heard_of station.identity event ≡ Reported caller address (said_by body) → CanStep outcomes station live event
      → Writes event → IsNamed event → Goal event
  unfolding said_by
  said_step event body more caller address asks heard can writes named = by_call (call_of Device body) refl heard
    where
      garbled : heard_of station.identity event ≡ Reported caller address Garbled → Goal event
      garbled heard = by_running (is_running live.values.running address) (ap (handled station live) heard)
        where
          by_running : (b : Bool) → handled station live (heard_of station.identity event) ≡ (if b then Refuses note.Fault else Refuses note.NotMine) → Goal event
          by_running true what = silent_said names outcomes station live event note.Fault what
          by_running false what = silent_said names outcomes station live event note.NotMine what

      by_response : (read : Result Answered RpcFault) → response_of body ≡ read → heard_of station.identity event ≡ Reported caller address (said_else read) → Goal event
      by_response (Err fault) is heard = garbled heard
      by_response (Ok response) is heard =
          nothing_said names outcomes station live event (Reported caller address (Responds response)) heard
          (cond_both (is_running live.values.running address) _ _ IsStill (λ _. response_still station live response) (λ _. refl)) tt
          (asks ∙ response_nothing (body ++ more) (response_kind (body ++ more) response
          (response_behind body more response (response_takes body response is)))) can

      by_call : (read : Result Called RpcFault) → call_of Device body ≡ read → heard_of station.identity event ≡ Reported caller address (said_first read (response_of body)) → Goal event
      by_call (Err fault) is heard = by_response (response_of body) refl heard
      by_call (Ok call) is heard =
          let spells = call_behind Device body more call (call_takes Device body call is) in
          let read = call_placed Device (body ++ more) call spells in
          let counted = call_counted Device (body ++ more) call spells in
          call_step names outcomes station live event (body ++ more) asks caller address call read heard counted can
          (λ frame found. named (body ++ more) call frame (asks ∙ cond-true (number 0 2 (body ++ more) == 0x0400) _ _ (holds _ 0x0400 read.kind)) counted found)
          (writes (body ++ more) caller address call asks read heard)

  -- A frame that was read.
  module _ (event : Event) (bytes : List ℕ) (meaning : Meaning) (bare : IsBare bytes meaning) (asks : asking_of station.identity.mac event ≡ asking_in station.identity.mac (untagged bytes))
      (can : CanStep outcomes station live event) (small : number 18 4 (untagged bytes) < 2 ^ 32) (writes : Writes event) (named : IsNamed event) where
    own_is : is_to station.identity.mac (untagged bytes) ≡ is_own station.identity meaning.destination
    own_is = ap (λ l. pointwise nat_eq l station.identity.mac.octets) (frame_to bytes meaning bare)

    unasked : (n : ℕ) → number 12 2 (untagged bytes) ≡ n → (n == 0x8892) ≡ false → (n == 0x0800) ≡ false → asking_of station.identity.mac event ≡ Nothing
    unasked n is one other =
        asks ∙ cond_both (not (is_to station.identity.mac (untagged bytes))) _ _ (λ a. a ≡ Nothing) (λ _. refl)
        (λ _. cond_both (is_dcp 0xFEFD 4 0 (untagged bytes)) _ _ (λ a. a ≡ Nothing) (λ dcp. absurd (let e = not_dcp 0xFEFD 4 0 n (untagged bytes) is one in cc))
        (λ _. cond_both (number 12 2 (untagged bytes) == 0x0800) _ _ (λ a. a ≡ Nothing) (λ ip. absurd (let e = fails _ n 0x0800 is other in cc)) (λ _. refl)))

    datagram_asked : is_to station.identity.mac (untagged bytes) ≡ true → number 12 2 (untagged bytes) ≡ 0x0800 → asking_in station.identity.mac (untagged bytes) ≡ calling (drop 42 (untagged bytes))
    datagram_asked own type =
        cond-false (not (is_to station.identity.mac (untagged bytes))) _ _ (ap not own)
        ∙ cond-false (is_dcp 0xFEFD 4 0 (untagged bytes)) _ _ (not_dcp 0xFEFD 4 0 0x0800 (untagged bytes) type refl)
        ∙ cond-true (number 12 2 (untagged bytes) == 0x0800) _ _ (holds _ 0x0800 type)

    by_content : (content : Content) → meaning.content ≡ content → heard_of station.identity event ≡ heard_content station.identity meaning.destination meaning.source content → Goal event
    by_content (RealTime id body) is heard =
        real_step names outcomes station live bytes event asks can meaning.destination meaning.source id body (frame_to bytes meaning bare) (frame_timely bytes meaning id body bare is) small heard
    by_content (ArpPacket packet) is heard =
        let type = frame_type bytes meaning bare ∙ arp_type (big_number 2 bare.type) bare.rest meaning.content packet is (kind_under (big_number 2 bare.type) bare.rest meaning.content bare.content) in
        let none = unasked 0x0806 type refl refl in
        cond_both (is_own station.identity meaning.destination || pointwise nat_eq meaning.destination.octets broadcast) _ _ (λ h. heard_of station.identity event ≡ h → Goal event)
        (λ _ heard. other_said names outcomes station live event (Resolves meaning.source packet) heard tt none can)
        (λ _ heard. other_said names outcomes station live event Elsewhere heard tt none can) heard
    by_content (UdpDatagram from to body) is heard =
        let typed = datagram_type (big_number 2 bare.type) bare.rest meaning.content from to body is (kind_under (big_number 2 bare.type) bare.rest meaning.content bare.content) in
        let type = frame_type bytes meaning bare ∙ typed.0 in
        let behind = body_behind bare.rest from to body (subst (datagram.Spells bare.rest) is typed.1) in
        let at : drop 42 (untagged bytes) ≡ body ++ behind.more = frame_behind bytes meaning bare 28 ∙ behind.is in
        cond_both (is_own station.identity meaning.destination && to.port == call_port) _ _ (λ h. heard_of station.identity event ≡ h → Goal event)
        (λ taken heard. said_step event body behind.more (record { mac = meaning.source; endpoint = from }) to.address
        (asks ∙ datagram_asked (own_is ∙ (and_parts _ _ taken).0) type ∙ ap calling at) heard can writes named)
        (λ _ heard. silent_said names outcomes station live event note.NotMine (ap (handled station live) heard)) heard

  -- A frame, read or not.
  frame_step : (event : Event) (bytes : List ℕ) → asking_of station.identity.mac event ≡ asking_in station.identity.mac (untagged bytes)
      → CanStep outcomes station live event → number 18 4 (untagged bytes) < 2 ^ 32 → Writes event → IsNamed event
      → (read : Result Meaning FrameFault) → frame_of bytes ≡ read → heard_of station.identity event ≡ heard_frame station.identity read → Goal event
  frame_step event bytes asks can small writes named (Err fault) is heard =
      silent_said names outcomes station live event note.Fault (ap (handled station live) heard)
  frame_step event bytes asks can small writes named (Ok meaning) is heard =
      by_content event bytes meaning (bare_of bytes meaning (frame_takes bytes meaning is).spelled) asks can small writes named meaning.content refl heard

  -- What is said of the step of any event, if each Write is bridged.
  pub event_step : (event : Event) → CanStep outcomes station live event → IsSmall event → Writes event → IsNamed event → Goal event
  unfolding heard_of
  event_step (Frame frame) can small writes named = frame_step (Frame frame) frame.items refl can small writes named (frame_of frame.items) refl refl
  event_step (Joined caller address octets) can small writes named =
      said_step (Joined caller address octets) octets.items [] caller address (ap calling (sym (append-nil octets.items))) refl can writes named
  event_step Tick can small writes named = other_said names outcomes station live Tick _ refl tt refl can
  event_step (Application local) can small writes named = other_said names outcomes station live (Application local) _ refl tt refl can
  event_step (Neighbour neighbour) can small writes named = other_said names outcomes station live (Neighbour neighbour) _ refl tt refl can

  -- The same, if what the device sends at it can be sent.
  pub any_step : (event : Event) → CanStep outcomes station live event → IsSmall event → IsNamed event → Goal event
  any_step event can small named = event_step event can small (λ octets caller address call asks read heard.
      writes_bridged names outcomes station live event octets asks caller address call read heard can.0) named
