-- What single frames do.
use Rattle.std.proofs.Common.{◌≡◌, ◌==◌, ◌&&◌, ℕ, Bool, true, false, List, Some, None, Result, Ok, Err, refl, ap, ◌∙◌}
use Rattle.std.specs.Prelude.{not, if◌then◌else◌}
use Rattle.frame_codec.specs.declared.arp.Arp.{Arp}
use Rattle.frame_codec.specs.declared.fault.FrameFault.{FrameFault}
use Rattle.pn_values.specs.declared.mac.Mac.{Mac}
use Rattle.frame_codec.specs.Meaning.{Meaning, Content, RealTime, ArpPacket, UdpDatagram}
use Rattle.frame_codec.specs.declared.udp.Endpoint.{Endpoint}
use Rattle.frame_codec.specs.Frame.{frame_of, frame_bytes}
use Rattle.frame_codec.specs.Calls.{call_port}
use Rattle.services.specs.State.{State, disputed, is_own, is_running}
use Rattle.services.specs.Echo.{Request, request_of, reply_frame}
use Rattle.services.specs.Answer.{IsOtherFrame, IsOther, after_content, after_layers, after_packet, content_disputes, disputes, layers_dispute, answer_to, arp_answer, arp_reply_of, content_answer, datagram_answer, echo_answer, heard, layers_answer, is_asked, is_called, is_conflict, is_group, is_peer, is_sought, answers_calls}
use Rattle.services.proofs.Requests.{request_unread}

-- an echo request is judged as such
pub echo_is : (state : State) (bytes : List ℕ) (request : Request) → request_of bytes ≡ Ok request → answer_to state bytes ≡ echo_answer state (Ok request)
unfolding answer_to
echo_is state bytes request e = rw (request_unread bytes request e, e) refl

-- an echo request changes nothing
pub echo_keeps : (state : State) (bytes : List ℕ) (request : Request) → request_of bytes ≡ Ok request → heard state bytes ≡ state
unfolding heard
echo_keeps state bytes request e = rw (request_unread bytes request e) refl

chosen : {A : Type 0} (b : Bool) (one other : A) → b ≡ true → (if b then one else other) ≡ one
chosen b one other e = rw e refl

refused : {A : Type 0} (b : Bool) (one other : A) → b ≡ false → (if b then one else other) ≡ other
refused b one other e = rw e refl

first_fails : (own group running peer : Bool) → own ≡ false → (own && not group && running && peer) ≡ false
first_fails own group running peer e = rw e refl

second_fails : (own group running peer : Bool) → group ≡ true → (own && not group && running && peer) ≡ false
second_fails true group running peer e = rw e refl
second_fails false group running peer e = refl

third_fails : (own group running peer : Bool) → running ≡ false → (own && not group && running && peer) ≡ false
third_fails true true running peer e = refl
third_fails true false running peer e = rw e refl
third_fails false group running peer e = refl

fourth_fails : (own group running peer : Bool) → peer ≡ false → (own && not group && running && peer) ≡ false
fourth_fails true true running peer e = refl
fourth_fails true false true peer e = e
fourth_fails true false false peer e = refl
fourth_fails false group running peer e = refl

fifth_fails : (answers own running port peer : Bool) → peer ≡ false → (answers && own && running && port && peer) ≡ false
fifth_fails false own running port peer e = refl
fifth_fails true false running port peer e = refl
fifth_fails true true false port peer e = refl
fifth_fails true true true false peer e = refl
fifth_fails true true true true peer e = e

module _ (state : State) (bytes : List ℕ) (request : Request) (e : request_of bytes ≡ Ok request) where
  pub echo_answered : is_asked state request ≡ true → answer_to state bytes ≡ Some (reply_frame state.mac request)
  echo_answered asked = echo_is state bytes request e ∙ chosen (is_asked state request) (Some (reply_frame state.mac request)) None asked

  echo_dropped : is_asked state request ≡ false → answer_to state bytes ≡ None
  echo_dropped asked = echo_is state bytes request e ∙ refused (is_asked state request) (Some (reply_frame state.mac request)) None asked

  pub echo_elsewhere : is_own state request.destination ≡ false → answer_to state bytes ≡ None
  echo_elsewhere other = echo_dropped (first_fails (is_own state request.destination) (is_group request.source) (is_running state request.echo.destination) (is_peer state request.echo.source) other)

  pub echo_from_group : is_group request.source ≡ true → answer_to state bytes ≡ None
  echo_from_group group = echo_dropped (second_fails (is_own state request.destination) (is_group request.source) (is_running state request.echo.destination) (is_peer state request.echo.source) group)

  pub echo_other_address : is_running state request.echo.destination ≡ false → answer_to state bytes ≡ None
  echo_other_address other = echo_dropped (third_fails (is_own state request.destination) (is_group request.source) (is_running state request.echo.destination) (is_peer state request.echo.source) other)

  pub echo_from_none : is_peer state request.echo.source ≡ false → answer_to state bytes ≡ None
  echo_from_none other = echo_dropped (fourth_fails (is_own state request.destination) (is_group request.source) (is_running state request.echo.destination) (is_peer state request.echo.source) other)

module _ (state : State) (bytes : List ℕ) (meaning : Meaning) (packet : Arp) (e : frame_of bytes ≡ Ok meaning) (f : meaning.content ≡ ArpPacket packet) where
  arp_is : answer_to state bytes ≡ arp_answer state meaning.destination meaning.source packet
  unfolding answer_to
  arp_is = rw (e, f) refl

  arp_after : heard state bytes ≡ after_packet state packet.sender
  unfolding heard
  arp_after = rw (e, f) refl

  pub arp_answered : is_sought state meaning.destination packet ≡ true → answer_to state bytes ≡ Some (frame_bytes (arp_reply_of state.mac state.address meaning.source packet.sender))
  arp_answered sought = arp_is ∙ chosen (is_sought state meaning.destination packet) (Some (frame_bytes (arp_reply_of state.mac state.address meaning.source packet.sender))) None sought

  pub arp_dropped : is_sought state meaning.destination packet ≡ false → answer_to state bytes ≡ None
  arp_dropped sought = arp_is ∙ refused (is_sought state meaning.destination packet) (Some (frame_bytes (arp_reply_of state.mac state.address meaning.source packet.sender))) None sought

  pub arp_disputes : is_conflict state packet.sender ≡ true → heard state bytes ≡ disputed state
  arp_disputes conflict = arp_after ∙ chosen (is_conflict state packet.sender) (disputed state) state conflict

  pub arp_keeps : is_conflict state packet.sender ≡ false → heard state bytes ≡ state
  arp_keeps conflict = arp_after ∙ refused (is_conflict state packet.sender) (disputed state) state conflict

-- what is neither an echo request nor ARP is dropped
others_dropped : (state : State) (bytes : List ℕ) (layers : Result Meaning FrameFault) → IsOtherFrame layers → (fault : FrameFault) → request_of bytes ≡ Err fault
    → (layers_answer state bytes layers ≡ None) × (after_layers state layers ≡ state)
others_dropped state bytes (Ok meaning) apart fault e = content_dropped state meaning.destination meaning.source meaning.content apart
  where
    content_dropped : (state : State) (destination source : Mac) (content : Content) → IsOther content → (content_answer state destination source content ≡ None) × (after_content state content ≡ state)
    content_dropped state destination source (RealTime frame_id body) apart = (refl, refl)
    content_dropped state destination source (ArpPacket packet) apart = absurd apart
    content_dropped state destination source (UdpDatagram from to body) apart = absurd apart
others_dropped state bytes (Err unread) apart fault e = (ap (echo_answer state) e, refl)

pub other_answer : (state : State) (bytes : List ℕ) (fault : FrameFault) → request_of bytes ≡ Err fault → IsOtherFrame (frame_of bytes) → answer_to state bytes ≡ None
unfolding answer_to
other_answer state bytes fault e apart = (others_dropped state bytes (frame_of bytes) apart fault e).0

pub other_keeps : (state : State) (bytes : List ℕ) (fault : FrameFault) → request_of bytes ≡ Err fault → IsOtherFrame (frame_of bytes) → heard state bytes ≡ state
unfolding heard
other_keeps state bytes fault e apart = (others_dropped state bytes (frame_of bytes) apart fault e).1

-- a datagram is judged as a call, and changes nothing
module _ (state : State) (bytes : List ℕ) (meaning : Meaning) (from to : Endpoint) (body : List ℕ) (e : frame_of bytes ≡ Ok meaning) (f : meaning.content ≡ UdpDatagram from to body) where
  pub call_is : answer_to state bytes ≡ datagram_answer state meaning.destination meaning.source from to body
  unfolding answer_to
  call_is = rw (e, f) refl

  pub call_from_none : is_peer state from.address ≡ false → answer_to state bytes ≡ None
  call_from_none other = call_is ∙ refused (is_called state meaning.destination from to) _ None
      (fifth_fails (answers_calls state.role) (is_own state meaning.destination) (is_running state to.address) (to.port == call_port) (is_peer state from.address) other)

  pub call_keeps : heard state bytes ≡ state
  unfolding heard
  call_keeps = rw (e, f) refl

-- a frame that is no conflict changes nothing
undisputed_content : (state : State) (content : Content) → content_disputes state content ≡ false → after_content state content ≡ state
undisputed_content state (RealTime frame_id body) e = refl
undisputed_content state (ArpPacket packet) e = refused (is_conflict state packet.sender) (disputed state) state e
undisputed_content state (UdpDatagram from to body) e = refl

undisputed_layers : (state : State) (layers : Result Meaning FrameFault) → layers_dispute state layers ≡ false → after_layers state layers ≡ state
undisputed_layers state (Ok meaning) e = undisputed_content state meaning.content e
undisputed_layers state (Err fault) e = refl

pub undisputed : (state : State) (bytes : List ℕ) → disputes state bytes ≡ false → heard state bytes ≡ state
unfolding heard disputes
undisputed state bytes e = undisputed_layers state (frame_of bytes) e
