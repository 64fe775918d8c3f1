-- What of a frame concerns the services, and what follows from it.
use Rattle.std.proofs.Common.{◌≡◌, ◌==◌, ◌&&◌, ◌||◌, ℕ, ◌≤◌, Bool, true, false, List, [], length, Option, Some, None, Result, Ok, Err, refl, sym, ap, subst, ◌∙◌}
use Rattle.std.specs.Prelude.{not, nat_lt, if◌then◌else◌}
use Rattle.std.proofs.lemmas.Bool.{eqb-true}
use Rattle.wire.specs.Codec.{Codec, ◌>>=◌}
use Rattle.wire.specs.Formats.{◌⨾◌, number}
use Rattle.wire.specs.Whole.{ends_by, everything, loose, pick, refused as refused_format}
use Rattle.pn_values.specs.declared.mac.Mac.{Mac}
use Rattle.frame_codec.specs.declared.fault.FrameFault.{FrameFault}
use Rattle.frame_codec.specs.declared.fault.FrameFault.TheVariants.{TooShort, EtherType, Tag}
use Rattle.frame_codec.specs.declared.udp.Endpoint.{Endpoint}
use Rattle.frame_codec.specs.Internet.{packet}
use Rattle.frame_codec.specs.Meaning.{Content, Meaning, RealTime, ArpPacket, UdpDatagram}
use Rattle.frame_codec.specs.Frame.{address_resolution, arp, content_under, datagram, datagram_in, ethernet, frame_of, internet, layers, longest, mac, profinet, real_time, tag_and_type, vlan}
use Rattle.services.specs.declared.link.LinkHeader.{LinkHeader}
use Rattle.services.specs.Message.{EchoMeaning, echo}
use Rattle.services.specs.Echo.{Request, link, reply_frame, request_of}
use Rattle.services.specs.State.{State, is_own, is_running}
use Rattle.services.specs.Answer.{Call, after_layers, answer_to, answers_calls, call_in, call_of, disputes, echo_answer, heard, is_asked, is_called, is_group, is_peer, layers_answer, layers_dispute}
use Rattle.services.specs.Concern.{Concern, Nothing, OtherType, Calls, Asks, IsShort, concern_after, concern_answer, concern_by, concern_call, concern_disputes, concern_in, concern_under, content_concern, datagram_under, echo_concern, echo_under, has_other_type, is_other, is_other_type, layers_under, meaning_with, opened, packet_disputes, refused_by, request_under}
use Rattle.services.proofs.Requests.{request_length}

-- the type of the values of a format
abbrev ValueOf : {F A : Type 0} → Codec F A → Type 0
ValueOf {A = A} codec = A

-- ---- what follows the Ethernet header decides

-- what of a frame with this header concerns the services, if it has one
abbrev pub concern_from : State → Option (LinkHeader × List ℕ) → Concern
concern_from state (Some frame) = concern_under state frame.0 frame.1
concern_from state None = Nothing

module _ (state : State) (bytes : List ℕ) (to from : Mac) (tag : Option ℕ) (kind : ℕ) (content : List ℕ)
    (e : (mac ⨾ mac ⨾ tag_and_type).read bytes ≡ Ok ((to, (from, (tag, kind))), content)) where
  too_long : nat_lt (longest tag) (length bytes) ≡ true → concern_in state bytes ≡ concern_from state (opened bytes)
  unfolding concern_in has_other_type opened frame_of layers ethernet link request_of
  too_long long = rw (e, long) refl

  in_room : (read : Result Content FrameFault) → (content_under kind).read content ≡ read → nat_lt (longest tag) (length bytes) ≡ false
      → concern_in state bytes ≡ concern_from state (opened bytes)
  unfolding concern_in has_other_type opened frame_of layers ethernet link request_of
  in_room (Ok found) f short = rw (e, short, f) refl
  in_room (Err fault) f short = rw (e, short, f) refl

  judged : (long : Bool) → nat_lt (longest tag) (length bytes) ≡ long → concern_in state bytes ≡ concern_from state (opened bytes)
  judged true long = too_long long
  judged false short = in_room ((content_under kind).read content) refl short

by_header : (state : State) (bytes : List ℕ) (read : Result ((Mac × (Mac × (Option ℕ × ℕ))) × List ℕ) FrameFault) → (mac ⨾ mac ⨾ tag_and_type).read bytes ≡ read
    → concern_in state bytes ≡ concern_from state (opened bytes)
unfolding concern_in has_other_type opened frame_of layers ethernet link request_of
by_header state bytes (Ok ((to, (from, (tag, kind))), content)) e = judged state bytes to from tag kind content e (nat_lt (longest tag) (length bytes)) refl
by_header state bytes (Err fault) e = rw e refl

pub concern_is : (state : State) (bytes : List ℕ) → concern_in state bytes ≡ concern_from state (opened bytes)
concern_is state bytes = by_header state bytes ((mac ⨾ mac ⨾ tag_and_type).read bytes) refl

pub concern_opened : (state : State) (bytes : List ℕ) (header : LinkHeader) (content : List ℕ) → opened bytes ≡ Some (header, content)
    → concern_in state bytes ≡ concern_under state header content
concern_opened state bytes header content e = concern_is state bytes ∙ ap (concern_from state) e

pub concern_closed : (state : State) (bytes : List ℕ) → opened bytes ≡ None → concern_in state bytes ≡ Nothing
concern_closed state bytes e = concern_is state bytes ∙ ap (concern_from state) e

-- ---- by the EtherType

-- real-time data concerns nothing
timely : (state : State) (header : LinkHeader) (read : Result (ℕ × List ℕ) FrameFault)
    → concern_by state (read >>= (λ x. Ok (RealTime x.0 x.1)) >>= λ content. Ok (meaning_with header content)) (Err EtherType) ≡ Nothing
timely state header (Ok x) = refl
timely state header (Err fault) = refl

pub concern_timely : (state : State) (header : LinkHeader) (octets : List ℕ) → header.ether_type ≡ 0x8892 → concern_under state header octets ≡ Nothing
unfolding real_time
concern_timely state header octets e = rw e (timely state header ((ends_by (number TooShort 2) (λ _. everything)).read octets))

-- nothing of a datagram to another MAC address concerns the services
uncalled : (answers own running port peer : Bool) → own ≡ false → (answers && own && running && port && peer) ≡ false
uncalled true own running port peer e = rw e refl
uncalled false own running port peer e = refl

unasked : (own group running peer : Bool) → own ≡ false → (own && not group && running && peer) ≡ false
unasked own group running peer e = rw e refl

refused : {A : Type 0} (b : Bool) (one other : A) → b ≡ false → (if b then one else other) ≡ other
refused b one other e = rw e refl

module _ (state : State) (header : LinkHeader) (other : is_own state header.destination ≡ false) where
  unechoed : (read : Result EchoMeaning FrameFault)
      → echo_concern state (read >>= λ message. Ok (record { destination = header.destination; source = header.source; echo = message })) ≡ Nothing
  unechoed (Ok message) = refused _ _ Nothing (unasked (is_own state header.destination) (is_group header.source) (is_running state message.destination) (is_peer state message.source) other)
  unechoed (Err fault) = refl

  undelivered : (octets : List ℕ) (read : Result (ValueOf packet) FrameFault)
      → concern_by state (read >>= (λ x. Ok (datagram_in x)) >>= λ content. Ok (meaning_with header content)) (echo_under header octets) ≡ Nothing
  undelivered octets (Ok x) = refused _ _ Nothing (uncalled (answers_calls state.role) (is_own state header.destination) _ _ _ other)
  undelivered octets (Err fault) = unechoed ((echo 8).read octets)

  pub concern_elsewhere : (octets : List ℕ) → concern_by state (datagram_under header octets) (echo_under header octets) ≡ Nothing
  unfolding datagram
  concern_elsewhere octets = undelivered octets ((loose packet).read octets)

-- ---- what follows from it

if_answer : (state : State) (call : Call) (is : Bool) → (if is then refused_by state call call.body else None) ≡ concern_answer state (if is then Calls call else Nothing)
if_answer state call true = refl
if_answer state call false = refl

if_reply : (state : State) (request : Request) (is : Bool) → (if is then Some (reply_frame state.mac request) else None) ≡ concern_answer state (if is then Asks request else Nothing)
if_reply state request true = refl
if_reply state request false = refl

if_after : (state : State) (concern : Concern) (is : Bool) → concern_after state concern ≡ state → state ≡ concern_after state (if is then concern else Nothing)
if_after state concern true e = sym e
if_after state concern false e = refl

if_call : (call : Call) (is : Bool) → (if is then Some call else None) ≡ concern_call (if is then Calls call else Nothing)
if_call call true = refl
if_call call false = refl

if_no_call : (request : Request) (is : Bool) → None ≡ concern_call (if is then Asks request else Nothing)
if_no_call request true = refl
if_no_call request false = refl

if_disputes : (state : State) (concern : Concern) (is : Bool) → concern_disputes state concern ≡ false → false ≡ concern_disputes state (if is then concern else Nothing)
if_disputes state concern true e = sym e
if_disputes state concern false e = refl

if_other : (concern : Concern) (is : Bool) → is_other_type concern ≡ false → is_other_type (if is then concern else Nothing) ≡ false
if_other concern true e = e
if_other concern false e = refl

-- what follows from what was read, and from its concern
record Follows (state : State) (bytes : List ℕ) (layers : Result Meaning FrameFault) (concern : Concern) : Type 0 where
  answer : layers_answer state bytes layers ≡ concern_answer state concern
  after : after_layers state layers ≡ concern_after state concern
  call : call_of state layers ≡ concern_call concern
  disputes : layers_dispute state layers ≡ concern_disputes state concern

follows_content : (state : State) (bytes : List ℕ) (to from : Mac) (tag : Option ℕ) (content : Content)
    → Follows state bytes (Ok (record { destination = to; source = from; tag = tag; content = content })) (content_concern state to from content)
follows_content state bytes to from tag (RealTime frame_id body) = record { answer = refl; after = refl; call = refl; disputes = refl }
follows_content state bytes to from tag (ArpPacket asked) = record { answer = refl; after = refl; call = refl; disputes = refl }
follows_content state bytes to from tag (UdpDatagram caller called body) =
    let is = is_called state to caller called in
    let call : Call = record { source = from; caller = caller; body = body } in
    record { answer = if_answer state call is; after = if_after state (Calls call) is refl; call = if_call call is; disputes = if_disputes state (Calls call) is refl }

follows_echo : (state : State) (bytes : List ℕ) (fault : FrameFault) (asked : Result Request FrameFault) → request_of bytes ≡ asked
    → Follows state bytes (Err fault) (echo_concern state asked)
follows_echo state bytes fault (Ok request) e =
    let is = is_asked state request in
    record { answer = ap (echo_answer state) e ∙ if_reply state request is; after = if_after state (Asks request) is refl; call = if_no_call request is; disputes = if_disputes state (Asks request) is refl }
follows_echo state bytes fault (Err other) e = record { answer = ap (echo_answer state) e; after = refl; call = refl; disputes = refl }

follows_by : (state : State) (bytes : List ℕ) (layers : Result Meaning FrameFault) → Follows state bytes layers (concern_by state layers (request_of bytes))
follows_by state bytes (Ok meaning) = follows_content state bytes meaning.destination meaning.source meaning.tag meaning.content
follows_by state bytes (Err fault) = follows_echo state bytes fault (request_of bytes) refl

-- ---- another EtherType

-- neither the layers nor an echo request of a frame can be read
record IsUnread (bytes : List ℕ) : Type 0 where
  fault : FrameFault
  layers_fail : frame_of bytes ≡ Err fault
  request_fails : request_of bytes ≡ Err EtherType

not_those : (one two three : Bool) → not (one || two || three) ≡ true → (one ≡ false) × (two ≡ false) × (three ≡ false)
not_those true two three e = absurd cc
not_those false true three e = absurd cc
not_those false false true e = absurd cc
not_those false false false e = (refl, refl, refl)

module _ (bytes : List ℕ) (to from : Mac) (tag : Option ℕ) (kind : ℕ) (content : List ℕ) (e : (mac ⨾ mac ⨾ tag_and_type).read bytes ≡ Ok ((to, (from, (tag, kind))), content)) where
  unread_by : (long : Bool) → nat_lt (longest tag) (length bytes) ≡ long → (tagged : Bool) → (kind == vlan) ≡ tagged → has_other_type bytes ≡ true → IsUnread bytes
  unfolding has_other_type opened frame_of layers ethernet link request_of
  unread_by true long tagged again other =
      let unopened : has_other_type bytes ≡ false = rw (e, long) refl in
      let none : false ≡ true = sym unopened ∙ other in absurd cc
  unread_by false short true again other =
      let is : has_other_type bytes ≡ is_other kind = rw (e, short) refl in
      let those = not_those (kind == profinet) (kind == address_resolution) (kind == internet) (sym is ∙ other) in
      record { fault = Tag; layers_fail = rw (e, short, again) refl; request_fails = rw (e, short, those.2) refl }
  unread_by false short false again other =
      let is : has_other_type bytes ≡ is_other kind = rw (e, short) refl in
      let those = not_those (kind == profinet) (kind == address_resolution) (kind == internet) (sym is ∙ other) in
      record { fault = EtherType; layers_fail = rw (e, short, again, those.0, those.1, those.2) refl; request_fails = rw (e, short, those.2) refl }

unread_from : (bytes : List ℕ) (read : Result ((Mac × (Mac × (Option ℕ × ℕ))) × List ℕ) FrameFault) → (mac ⨾ mac ⨾ tag_and_type).read bytes ≡ read
    → has_other_type bytes ≡ true → IsUnread bytes
unfolding has_other_type opened link
unread_from bytes (Ok ((to, (from, (tag, kind))), content)) e other = unread_by bytes to from tag kind content e (nat_lt (longest tag) (length bytes)) refl (kind == vlan) refl other
unread_from bytes (Err fault) e other =
    let unopened : has_other_type bytes ≡ false = rw e refl in
    let none : false ≡ true = sym unopened ∙ other in absurd cc

unread : (bytes : List ℕ) → has_other_type bytes ≡ true → IsUnread bytes
unread bytes other = unread_from bytes ((mac ⨾ mac ⨾ tag_and_type).read bytes) refl other

-- ---- together

follows_if : (state : State) (bytes : List ℕ) (other : Bool) → has_other_type bytes ≡ other
    → Follows state bytes (frame_of bytes) (if other then OtherType else concern_by state (frame_of bytes) (request_of bytes))
follows_if state bytes true e =
    let it = unread bytes e in
    subst (λ (layers : Result Meaning FrameFault). Follows state bytes layers OtherType) (sym it.layers_fail)
    (record { answer = ap (echo_answer state) it.request_fails; after = refl; call = refl; disputes = refl })
follows_if state bytes false e = follows_by state bytes (frame_of bytes)

follows : (state : State) (bytes : List ℕ) → Follows state bytes (frame_of bytes) (concern_in state bytes)
unfolding concern_in
follows state bytes = follows_if state bytes (has_other_type bytes) refl

pub answer_follows : (state : State) (bytes : List ℕ) → answer_to state bytes ≡ concern_answer state (concern_in state bytes)
unfolding answer_to
answer_follows state bytes = (follows state bytes).answer

pub state_follows : (state : State) (bytes : List ℕ) → heard state bytes ≡ concern_after state (concern_in state bytes)
unfolding heard
state_follows state bytes = (follows state bytes).after

pub call_follows : (state : State) (bytes : List ℕ) → call_in state bytes ≡ concern_call (concern_in state bytes)
unfolding call_in
call_follows state bytes = (follows state bytes).call

pub dispute_follows : (state : State) (bytes : List ℕ) → disputes state bytes ≡ concern_disputes state (concern_in state bytes)
unfolding disputes
dispute_follows state bytes = (follows state bytes).disputes

content_typed : (state : State) (to from : Mac) (content : Content) → is_other_type (content_concern state to from content) ≡ false
content_typed state to from (RealTime frame_id body) = refl
content_typed state to from (ArpPacket asked) = refl
content_typed state to from (UdpDatagram caller called body) = if_other (Calls (record { source = from; caller = caller; body = body })) (is_called state to caller called) refl

typed_by : (state : State) (layers : Result Meaning FrameFault) (asked : Result Request FrameFault) → is_other_type (concern_by state layers asked) ≡ false
typed_by state (Ok meaning) asked = content_typed state meaning.destination meaning.source meaning.content
typed_by state (Err fault) (Ok request) = if_other (Asks request) (is_asked state request) refl
typed_by state (Err fault) (Err other) = refl

typed_if : (state : State) (other : Bool) (read : Result Meaning FrameFault) (asked : Result Request FrameFault)
    → other ≡ is_other_type (if other then OtherType else concern_by state read asked)
typed_if state true read asked = refl
typed_if state false read asked = sym (typed_by state read asked)

pub type_follows : (state : State) (bytes : List ℕ) → has_other_type bytes ≡ is_other_type (concern_in state bytes)
unfolding concern_in
type_follows state bytes = typed_if state (has_other_type bytes) (frame_of bytes) (request_of bytes)

short_asked : (state : State) (request : Request) (is : Bool) → length request.echo.body ≤ 1472 → IsShort (if is then Asks request else Nothing)
short_asked state request true few = few
short_asked state request false few = tt

short_call : (call : Call) (is : Bool) → IsShort (if is then Calls call else Nothing)
short_call call true = tt
short_call call false = tt

short_by : (state : State) (bytes : List ℕ) (layers : Result Meaning FrameFault) (asked : Result Request FrameFault) → request_of bytes ≡ asked → IsShort (concern_by state layers asked)
short_by state bytes (Err fault) (Ok request) e = short_asked state request (is_asked state request) (request_length bytes request e)
short_by state bytes (Err fault) (Err other) e = tt
short_by state bytes (Ok meaning) asked e = short_content meaning.destination meaning.source meaning.content
  where
    short_content : (to from : Mac) (content : Content) → IsShort (content_concern state to from content)
    short_content to from (RealTime frame_id body) = tt
    short_content to from (ArpPacket asked) = tt
    short_content to from (UdpDatagram caller called body) = short_call (record { source = from; caller = caller; body = body }) (is_called state to caller called)

short_if : (state : State) (bytes : List ℕ) (other : Bool) → IsShort (if other then OtherType else concern_by state (frame_of bytes) (request_of bytes))
short_if state bytes true = tt
short_if state bytes false = short_by state bytes (frame_of bytes) (request_of bytes) refl

pub concern_short : (state : State) (bytes : List ℕ) → IsShort (concern_in state bytes)
unfolding concern_in
concern_short state bytes = short_if state bytes (has_other_type bytes)

-- ---- conflicts by the EtherType

disputes_echo : (state : State) (asked : Result Request FrameFault) → concern_disputes state (echo_concern state asked) ≡ false
disputes_echo state (Ok request) = sym (if_disputes state (Asks request) (is_asked state request) refl)
disputes_echo state (Err fault) = refl

module _ (state : State) (header : LinkHeader) (asked : Result Request FrameFault) where
  disputes_timely : (read : Result (ℕ × List ℕ) FrameFault)
      → concern_disputes state (concern_by state (read >>= (λ x. Ok (RealTime x.0 x.1)) >>= λ content. Ok (meaning_with header content)) asked) ≡ false
  disputes_timely (Ok x) = refl
  disputes_timely (Err fault) = disputes_echo state asked

  disputes_datagram : (read : Result (ValueOf packet) FrameFault)
      → concern_disputes state (concern_by state (read >>= (λ x. Ok (datagram_in x)) >>= λ content. Ok (meaning_with header content)) asked) ≡ false
  disputes_datagram (Ok x) =
      let from : Endpoint = record { address = x.0.0.source; port = x.1.0.source } in
      let to : Endpoint = record { address = x.0.0.destination; port = x.1.0.destination } in
      sym (if_disputes state (Calls (record { source = header.source; caller = from; body = x.1.1 })) (is_called state header.destination from to) refl)
  disputes_datagram (Err fault) = disputes_echo state asked

  disputes_resolved : (read : Result Content FrameFault)
      → concern_disputes state (concern_by state (read >>= λ content. Ok (meaning_with header content)) (Err EtherType)) ≡ packet_disputes state read
  disputes_resolved (Ok content) = sym ((follows_content state [] header.destination header.source header.tag content).disputes)
  disputes_resolved (Err fault) = refl

  -- what is no packet of ARP is no conflict
  disputes_picked : (octets : List ℕ) (tagged timely deliver : Bool)
      → concern_disputes state (concern_by state ((pick tagged (refused_format Tag) (pick timely real_time (pick false arp (pick deliver datagram (refused_format EtherType))))).read octets
      >>= λ content. Ok (meaning_with header content)) asked) ≡ false
  unfolding real_time datagram
  disputes_picked octets true timely deliver = disputes_echo state asked
  disputes_picked octets false true deliver = disputes_timely ((ends_by (number TooShort 2) (λ _. everything)).read octets)
  disputes_picked octets false false true = disputes_datagram ((loose packet).read octets)
  disputes_picked octets false false false = disputes_echo state asked

disputes_if : (state : State) (concern : Concern) (other : Bool) → concern_disputes state concern ≡ false → concern_disputes state (if other then OtherType else concern) ≡ false
disputes_if state concern true e = refl
disputes_if state concern false e = e

disputes_under : (state : State) (header : LinkHeader) (octets : List ℕ) (is : Bool) → (header.ether_type == address_resolution) ≡ is
    → concern_disputes state (concern_under state header octets) ≡ (is && packet_disputes state (arp.read octets))
disputes_under state header octets true e = rw (eqb-true _ _ e) (disputes_resolved state header (Err EtherType) (arp.read octets))
disputes_under state header octets false e =
    disputes_if state (concern_by state (layers_under header octets) (request_under header octets)) (is_other header.ether_type)
    (rw e (disputes_picked state header (request_under header octets) octets (header.ether_type == vlan) (header.ether_type == profinet) (header.ether_type == internet)))

pub disputes_opened : (state : State) (bytes : List ℕ) (header : LinkHeader) (content : List ℕ) → opened bytes ≡ Some (header, content)
    → disputes state bytes ≡ ((header.ether_type == address_resolution) && packet_disputes state (arp.read content))
disputes_opened state bytes header content e =
    dispute_follows state bytes ∙ ap (concern_disputes state) (concern_opened state bytes header content e)
    ∙ disputes_under state header content (header.ether_type == address_resolution) refl

pub disputes_closed : (state : State) (bytes : List ℕ) → opened bytes ≡ None → disputes state bytes ≡ false
disputes_closed state bytes e = dispute_follows state bytes ∙ ap (concern_disputes state) (concern_closed state bytes e)
