-- The frames that the services send, by what was heard.
use Rattle.std.proofs.Common.{◌≡◌, ◌==◌, ◌&&◌, ℕ, Bool, true, false, List, ◌++◌, length, take, drop, Option, Some, None, Result, Ok, Err, refl, sym, ap, subst, ◌∙◌}
use Rattle.std.proofs.lemmas.Bool.{and_parts, cond_both}
use Rattle.std.specs.Option.{option_map}
use Rattle.pn_values.specs.declared.identity.Identity.{Identity}
use Rattle.frame_codec.specs.declared.fault.FrameFault.{FrameFault}
use Rattle.frame_codec.specs.declared.udp.Endpoint.{Endpoint}
use Rattle.frame_codec.specs.Calls.{calls_at}
use Rattle.frame_codec.specs.Frame.{frame_bytes, frame_of}
use Rattle.frame_codec.specs.Meaning.{Content, Meaning, ArpPacket, RealTime, UdpDatagram}
use Rattle.frame_codec.proofs.Frames.{frame_takes}
use Rattle.rpc_core.specs.call_headers.Unserved.{unserved_answer}
use Rattle.services.specs.State as ip
use Rattle.services.specs.Answer.{Call, answer_to, call_by, call_in, call_of, call_reply_of, content_answer, echo_answer, is_asked, is_called, is_sought, layers_answer}
use Rattle.services.specs.Echo.{Request, request_of}
use Rattle.rpc_services.specs.endpoint_mapper.Mapper.{mapped, mapped_call, mapped_frame}
use Rattle.relations.specs.RelationState.{RelationState}
use Rattle.controller_core.specs.stored.State.{Controlling}
use Rattle.octets_law.specs.Octets.{activity_of, number, untagged}
use Rattle.octets_law.proofs.Bare.{bare_of}
use Rattle.octets_law.proofs.FrameSteps.{frame_to}
use Rattle.octets_law.proofs.Repeats.{same_octets}
use Rattle.strangers_law.specs.Beside.{is_packet_to}
use Rattle.strangers_law.specs.Controller.{belongs_to}
use Rattle.strangers_law.specs.Quiet.{is_quiet_stranger}
use Rattle.strangers_law.specs.Strange.{is_datagram, same}
use Rattle.strangers_law.proofs.Echoes.{request_wide}
use Rattle.strangers_law.proofs.Layers.{IsOther, arp_other, datagram_carried, echo_other, first_false, neither_is, other_at, other_to, quiet_at, second_false, strange_to}
use Rattle.strangers_law.proofs.Ports.{datagram_is, source_wide}
use Rattle.strangers_law.proofs.Replying.{Replies, mapping, unserved}

-- ---- what was heard

-- A packet to this station, by its octets: a datagram to port 34964. Its body is this one, with octets of padding.
pub record IsPacket (station heard body : List ℕ) : Type 0 where
  pub to : same (take 6 (untagged heard)) station ≡ true
  pub protocol : is_datagram (untagged heard) ≡ true
  pub port : (number 36 2 (untagged heard) == 34964) ≡ true
  pub more : List ℕ
  pub is : drop 42 (untagged heard) ≡ body ++ more

-- A call to the station of the services, and the sizes of its addresses.
pub record IsCalled (state : ip.State) (heard : List ℕ) (call : Call) : Type 0 where
  pub packet : IsPacket state.mac.octets heard call.body
  pub source : length call.source.octets ≡ 6
  pub caller : length call.caller.address ≡ 4
  pub address : length state.address ≡ 4

datagram_called : (state : ip.State) (heard : List ℕ) (meaning : Meaning) (from to : Endpoint) (body : List ℕ) → frame_of heard ≡ Ok meaning → meaning.content ≡ UdpDatagram from to body
    → is_called state meaning.destination from to ≡ true → IsCalled state heard (record { source = meaning.source; caller = from; body = body })
datagram_called state heard meaning from to body read is called =
    let spells = (frame_takes heard meaning read).spelled in
    let bare = bare_of heard meaning spells in
    let it = datagram_is heard meaning from to body bare is in
    let ported = and_parts _ _ (and_parts _ _ called).0 in
    let running = and_parts _ _ ported.0 in
    let own = and_parts _ _ running.0 in
    record {
      packet = record {
        to = ap (λ l. same l state.mac.octets) (frame_to heard meaning bare) ∙ own.1;
        protocol = it.protocol;
        port = ap (λ n. n == 34964) it.port ∙ ported.1;
        more = it.more;
        is = it.is;
      };
      source = source_wide heard meaning spells;
      caller = it.addresses.0;
      address = ap length (sym (same_octets _ _ (and_parts _ _ running.1).0)) ∙ it.addresses.1;
    }

some_is : {A : Type 0} (one other : A) → Some one ≡ Some other → one ≡ other
some_is one other e = cc

pub call_is : (state : ip.State) (heard : List ℕ) (call : Call) → call_in state heard ≡ Some call → IsCalled state heard call
unfolding call_in
call_is state heard call e = by_read (frame_of heard) refl e
  where
    by_content : (meaning : Meaning) (content : Content) → frame_of heard ≡ Ok meaning → meaning.content ≡ content → call_by state meaning.destination meaning.source content ≡ Some call
        → IsCalled state heard call
    by_content meaning (RealTime id body) read is e = absurd cc
    by_content meaning (ArpPacket asked) read is e = absurd cc
    by_content meaning (UdpDatagram from to body) read is e =
        cond_both (is_called state meaning.destination from to) _ _ (λ (o : Option Call). o ≡ Some call → IsCalled state heard call)
        (λ called e. subst (IsCalled state heard) (some_is _ _ e) (datagram_called state heard meaning from to body read is called)) (λ _ e. absurd cc) e

    by_read : (read : Result Meaning FrameFault) → frame_of heard ≡ read → call_of state read ≡ Some call → IsCalled state heard call
    by_read (Ok meaning) is e = by_content meaning meaning.content is refl e
    by_read (Err fault) is e = absurd cc

-- ---- what is sent

-- A frame of another EtherType and protocol; or an answer to a packet of a call, with its activity.
pub data Fate (responds : Bool) (station heard frame : List ℕ) : Type 0 where
  Other : IsOther frame → Fate responds station heard frame
  Refers : (body : List ℕ) (kind : ℕ) → number 12 2 (untagged frame) ≡ 0x0800 → number 0 2 (drop 42 (untagged frame)) ≡ kind
      → (kind == 0x0400) ≡ false → (kind == 0x0402) ≡ responds → IsPacket station heard body → activity_of (drop 42 (untagged frame)) ≡ activity_of (drop 42 (untagged heard)) → Fate responds station heard frame

-- It is a stranger's to a controller whose activity was not heard.
pub fate_to : (controlling : Controlling) (responds : Bool) (station heard frame : List ℕ)
    → is_packet_to station controlling.setup.activity (untagged heard) ≡ false
    → Fate responds station heard frame → belongs_to controlling (untagged frame) ≡ false
fate_to controlling responds station heard frame other (Other it) = other_to controlling frame it
fate_to controlling responds station heard frame other (Refers body kind type is called responded packet activity) =
    strange_to controlling (untagged frame) (ap (λ n. n == 0x8892) type)
    (second_false _ _ (neither_is _ _ (first_false _ _ (ap (λ n. n == 0x0400) is ∙ called))
    (ap (λ l. same l controlling.setup.activity) activity
    ∙ last_false (same (take 6 (untagged heard)) station) (is_datagram (untagged heard)) (number 36 2 (untagged heard) == 34964) _
    packet.to packet.protocol packet.port other)))
  where
    last_false : (a b c d : Bool) → a ≡ true → b ≡ true → c ≡ true → (a && b && c && d) ≡ false → d ≡ false
    last_false true true true d p q r e = e
    last_false false b c d p q r e = absurd cc
    last_false true false c d p q r e = absurd cc
    last_false true true false d p q r e = absurd cc

-- And a quiet stranger's to a device, if it is no response.
pub fate_at : (device : List ℕ) (link : Option RelationState) (station heard frame : List ℕ) → Fate false station heard frame
    → is_quiet_stranger device link (untagged frame) ≡ true
fate_at device link station heard frame (Other it) = other_at device link frame it
fate_at device link station heard frame (Refers body kind type is called responded packet activity) =
    let uncalled = ap (λ n. n == 0x0400) is ∙ called in
    quiet_at device link (untagged frame) (ap (λ n. n == 0x8892) type) (second_false _ _ uncalled)
    (λ marks. second_false _ _ (neither_is _ _ (first_false _ _ uncalled) (first_false _ _ (ap (λ n. n == 0x0402) is ∙ responded))))

-- The frame that takes an answer to a call.
pub replying : (responds : Bool) (state : ip.State) (heard : List ℕ) (call : Call) (answer : List ℕ) → length state.mac.octets ≡ 6 → IsCalled state heard call
    → Replies responds call.body answer
    → Fate responds state.mac.octets heard (frame_bytes (call_reply_of state.mac state.address call.source call.caller answer))
replying responds state heard call answer mac it reply =
    let sent = datagram_carried call.source state.mac (calls_at state.address) call.caller answer it.source mac it.address it.caller in
    Refers call.body reply.kind sent.0 (ap (number 0 2) sent.1 ∙ reply.kind_is _) reply.called reply.responded it.packet
    (ap activity_of sent.1 ∙ reply.activity _ it.packet.more ∙ ap activity_of (sym it.packet.is))

-- ---- the answers of the services of the IP address

pub answering : (state : ip.State) (heard frame : List ℕ) → length state.mac.octets ≡ 6 → answer_to state heard ≡ Some frame
    → Fate false state.mac.octets heard frame
unfolding answer_to
answering state heard frame mac e = by_read (frame_of heard) refl e
  where
    by_body : (meaning : Meaning) (from to : Endpoint) (body : List ℕ) → frame_of heard ≡ Ok meaning → meaning.content ≡ UdpDatagram from to body → is_called state meaning.destination from to ≡ true
        → (answer : Option (List ℕ)) → unserved_answer body ≡ answer
        → option_map (λ answer. frame_bytes (call_reply_of state.mac state.address meaning.source from answer)) answer ≡ Some frame
        → Fate false state.mac.octets heard frame
    by_body meaning from to body read is called None says e = absurd cc
    by_body meaning from to body read is called (Some answer) says e =
        subst (Fate false state.mac.octets heard) (some_is _ _ e)
        (replying false state heard (record { source = meaning.source; caller = from; body = body }) answer mac (datagram_called state heard meaning from to body read is called) (unserved body answer says))

    by_content : (meaning : Meaning) (content : Content) → frame_of heard ≡ Ok meaning → meaning.content ≡ content → content_answer state meaning.destination meaning.source content ≡ Some frame
        → Fate false state.mac.octets heard frame
    by_content meaning (RealTime id body) read is e = absurd cc
    by_content meaning (ArpPacket asked) read is e =
        cond_both (is_sought state meaning.destination asked) _ _ (λ (o : Option (List ℕ)). o ≡ Some frame → Fate false state.mac.octets heard frame)
        (λ _ e. subst (Fate false state.mac.octets heard) (some_is _ _ e)
        (Other (arp_other meaning.source state.mac _ (source_wide heard meaning (frame_takes heard meaning read).spelled) mac))) (λ _ e. absurd cc) e
    by_content meaning (UdpDatagram from to body) read is e =
        cond_both (is_called state meaning.destination from to) _ _ (λ (o : Option (List ℕ)). o ≡ Some frame → Fate false state.mac.octets heard frame)
        (λ called e. by_body meaning from to body read is called (unserved_answer body) refl e) (λ _ e. absurd cc) e

    by_request : (read : Result Request FrameFault) → request_of heard ≡ read → echo_answer state read ≡ Some frame → Fate false state.mac.octets heard frame
    by_request (Err fault) is e = absurd cc
    by_request (Ok request) is e =
        cond_both (is_asked state request) _ _ (λ (o : Option (List ℕ)). o ≡ Some frame → Fate false state.mac.octets heard frame)
        (λ _ e. subst (Fate false state.mac.octets heard) (some_is _ _ e)
        (Other (echo_other state.mac request (request_wide heard request is) mac))) (λ _ e. absurd cc) e

    by_read : (read : Result Meaning FrameFault) → frame_of heard ≡ read → layers_answer state heard read ≡ Some frame → Fate false state.mac.octets heard frame
    by_read (Ok meaning) is e = by_content meaning meaning.content is refl e
    by_read (Err fault) is e = by_request (request_of heard) refl e

-- ---- the answers of the endpoint mapper

abbrev pub Fates : List ℕ → List ℕ → List ℕ → Type 0
Fates station heard frame = (responds : Bool) × Fate responds station heard frame

pub mapping_frame : (state : ip.State) (identity : Identity) (heard frame : List ℕ) → length state.mac.octets ≡ 6
    → mapped_frame state identity heard ≡ Some frame → Fates state.mac.octets heard frame
mapping_frame state identity heard frame mac e = by_call (call_in state heard) refl e
  where
    by_answer : (call : Call) → call_in state heard ≡ Some call → (answer : Option (List ℕ)) → mapped identity state.address call.body ≡ answer
        → option_map (λ answer. frame_bytes (call_reply_of state.mac state.address call.source call.caller answer)) answer ≡ Some frame
        → Fates state.mac.octets heard frame
    by_answer call is None says e = absurd cc
    by_answer call is (Some answer) says e =
        let it = mapping identity state.address call.body answer says in
        (it.0, subst (Fate it.0 state.mac.octets heard) (some_is _ _ e) (replying it.0 state heard call answer mac (call_is state heard call is) it.1))

    by_call : (call : Option Call) → call_in state heard ≡ call → mapped_call state identity call ≡ Some frame → Fates state.mac.octets heard frame
    by_call None is e = absurd cc
    by_call (Some call) is e = by_answer call is (mapped identity state.address call.body) refl e
