-- The answer to a call, read at fixed places of its frame.
use Rattle.std.proofs.Common.{◌≡◌, ◌<◌, ◌==◌, ◌&&◌, ◌+◌, ◌^◌, ℕ, Bool, true, false, nat_eq, List, [], ◌∷◌, ◌++◌, length, take, drop, None, refl, sym, ap, subst, ◌∙◌, arith, append_assoc}
use Rattle.std.proofs.lemmas.Bool.{and_from, cond-false, cond-true}
use Rattle.std.proofs.lemmas.Bool.Decides.{nat_tests}
use Rattle.std.proofs.lemmas.List.{append-nil}
use Rattle.std.specs.Cmp.Lexicographic.{pointwise}
use Rattle.byteorder.specs.Endian.{big_bytes, big_number}
use Rattle.pn_values.specs.declared.mac.Mac.{Mac}
use Rattle.pn_values.specs.declared.identity.Identity.{Identity}
use Rattle.frame_codec.specs.declared.udp.Caller.{Caller}
use Rattle.frame_codec.specs.declared.udp.Endpoint.{Endpoint}
use Rattle.frame_codec.specs.Calls.{calls_at}
use Rattle.frame_codec.specs.Frame.{datagram, ethernet, frame_bytes, layers, mac, padding_of, tag_and_type}
use Rattle.frame_codec.specs.Internet.{internet_header, internet_size, internet_way, packet, size_behind, udp, udp_header}
use Rattle.frame_codec.specs.Meaning.{UdpDatagram}
use Rattle.frame_codec.specs.Sendable.{carrying}
use Rattle.rpc_core.specs.declared.response.Status.{Status}
use Rattle.rpc_core.specs.Body.{body, counts, status}
use Rattle.rpc_core.specs.Fields.{ordered, uuid}
use Rattle.rpc_core.specs.Header.{extent, head, names, opening, turn}
use Rattle.rpc_core.specs.Pdu.{cut_off, pdu}
use Rattle.rpc_core.specs.Response.{Answered, response, response_bytes}
use Rattle.rpc_core.specs.Sendable.{CanBeAnswered, IsStatus}
use Rattle.records.specs.writes.Answer.{number_of}
use Rattle.device_frames.specs.Sent.{CallAnswer, bytes_of}
use Rattle.device_frames.specs.Sendable.{IsSendable}
use Rattle.octets_law.specs.Octets.{activity_of, args_of, called, in_order, is_response, number, statuses, statuses_in}
use Rattle.octets_law.proofs.CallPlaces.{args_placed, skip}
use Rattle.octets_law.proofs.SetFrames.{number_front, six, take_front}
use Rattle.octets_law.proofs.Repeats.{itself_octets}

-- ---- a response

-- The octets before the sequence number, those between the operation and the body, and PNIOStatus.
abbrev boot : List ℕ
boot = 0 ∷ 0 ∷ 0 ∷ 0 ∷ 0 ∷ 0 ∷ 0 ∷ 1 ∷ []

abbrev ending : Answered → List ℕ
ending answer = 255 ∷ 255 ∷ 255 ∷ 255 ∷ (big_bytes 2 (20 + length answer.blocks) ++ (0 ∷ 0 ∷ 0 ∷ 0 ∷ []))

abbrev word : Answered → List ℕ
word answer = big_bytes 1 answer.status.code ++ (big_bytes 1 answer.status.decode ++ (big_bytes 1 answer.status.code1 ++ big_bytes 1 answer.status.code2))

-- The octets of the body: PNIOStatus, the counts of the blocks, and the blocks.
abbrev counted : Answered → List ℕ
counted answer = big_bytes 4 (length answer.blocks) ++ (big_bytes 4 answer.maximum_count ++ ((0 ∷ 0 ∷ 0 ∷ 0 ∷ []) ++ (big_bytes 4 (length answer.blocks) ++ answer.blocks)))

abbrev body_octets : Answered → List ℕ
body_octets answer = word answer ++ counted answer

-- The octets after the activity, with more after them.
abbrev behind_activity : Answered → List ℕ → List ℕ
behind_activity answer inside = boot ++ (big_bytes 4 answer.header.sequence ++ (big_bytes 2 answer.header.operation ++ (ending answer ++ inside)))

-- The octets of a response that is written, with more after them.
abbrev response_octets : Answered → List ℕ → List ℕ
response_octets answer more =
    4 ∷ 2 ∷ 0x0A ∷ 0 ∷ 0 ∷ 0 ∷ 0 ∷ 0 ∷ (answer.header.object ++ (answer.header.interface ++ (answer.header.activity ++ behind_activity answer (body_octets answer ++ more))))

response_is : (answer : Answered) (more : List ℕ) → response_bytes answer ++ more ≡ response_octets answer more
unfolding response_bytes response pdu cut_off head opening names turn extent ordered uuid body counts status
response_is answer more =
    ap (λ l. 4 ∷ 2 ∷ 0x0A ∷ 0 ∷ 0 ∷ 0 ∷ 0 ∷ 0 ∷ l)
    (append_assoc answer.header.object _ more ∙ ap (λ l. answer.header.object ++ l) (append_assoc answer.header.interface _ more
    ∙ ap (λ l. answer.header.interface ++ l) (append_assoc answer.header.activity _ more
    ∙ ap (λ l. answer.header.activity ++ behind_activity answer (l ++ more)) (append-nil (body_octets answer)))))

-- What is read of an answer at fixed places.
pub record IsAnswerRead (bytes : List ℕ) (answer : Answered) : Type 0 where
  pub kind : number 0 2 bytes ≡ 0x0402
  pub status : number 80 4 bytes ≡ number_of answer.status
  pub blocks : args_of bytes ≡ answer.blocks
  pub activity : activity_of bytes ≡ answer.header.activity
  pub sequence : in_order 64 4 bytes ≡ answer.header.sequence
  pub operation : in_order 68 2 bytes ≡ answer.header.operation

number_whole : (size value : ℕ) → value < 256 ^ size → big_number size (big_bytes size value) ≡ value
number_whole size value small = ap (big_number size) (sym (append-nil (big_bytes size value))) ∙ number_front size value [] small

status_front : (one : Status) (rest : List ℕ) → IsStatus one
    → big_number 4 (big_bytes 1 one.code ++ (big_bytes 1 one.decode ++ (big_bytes 1 one.code1 ++ (big_bytes 1 one.code2 ++ rest)))) ≡ number_of one
status_front one rest it =
    let a = number_whole 1 one.code (omega (arith, it.code)) in
    let b = number_whole 1 one.decode (omega (arith, it.decode)) in
    let c = number_whole 1 one.code1 (omega (arith, it.code1)) in
    let d = number_whole 1 one.code2 (omega (arith, it.code2)) in
    omega (arith, a, b, c, d)

take_whole : (octets : List ℕ) → take (length octets) octets ≡ octets
take_whole octets = ap (take (length octets)) (sym (append-nil octets)) ∙ take_front octets []

-- An answer that can be sent is read at fixed places as it is, whatever follows it.
pub response_placed : (answer : Answered) (more : List ℕ) → CanBeAnswered answer → IsAnswerRead (response_bytes answer ++ more) answer
response_placed answer more can =
    let object : List ℕ = answer.header.object in
    let interface : List ℕ = answer.header.interface in
    let activity : List ℕ = answer.header.activity in
    let sequence : List ℕ = big_bytes 4 answer.header.sequence in
    let operation : List ℕ = big_bytes 2 answer.header.operation in
    let sized = number_whole 4 (length answer.blocks) (omega (arith, can.few)) in
    subst (λ l. IsAnswerRead l answer) (sym (response_is answer more)) (record {
      kind = refl;
      status =
          ap (big_number 4) (skip (16 + (16 + (8 + (4 + (2 + 10))))) 16 object _ can.header.object
          ∙ skip (16 + (8 + (4 + (2 + 10)))) 16 interface _ can.header.interface ∙ skip (8 + (4 + (2 + 10))) 16 activity (behind_activity answer (body_octets answer ++ more)) can.header.activity)
          ∙ status_front answer.status (counted answer ++ more) can.status;
      blocks =
          args_placed 4 2 0x0A 0 0 0 0 0 object interface activity boot sequence operation (ending answer) (word answer) (big_bytes 4 (length answer.blocks)) (big_bytes 4 answer.maximum_count)
          (0 ∷ 0 ∷ 0 ∷ 0 ∷ []) (big_bytes 4 (length answer.blocks)) answer.blocks more
          can.header.object can.header.interface can.header.activity refl refl refl refl refl refl refl refl refl (omega (arith, sized))
          ∙ ap (λ n. take n answer.blocks) sized ∙ take_whole answer.blocks;
      activity =
          ap (take 16) (skip 16 16 object _ can.header.object ∙ skip 0 16 interface _ can.header.interface)
          ∙ subst (λ n. take n (activity ++ behind_activity answer (body_octets answer ++ more)) ≡ activity) can.header.activity (take_front activity _);
      sequence =
          ap (big_number 4) (skip (16 + (16 + 8)) 16 object _ can.header.object ∙ skip (16 + 8) 16 interface _ can.header.interface
          ∙ skip 8 16 activity (behind_activity answer (body_octets answer ++ more)) can.header.activity)
          ∙ number_front 4 answer.header.sequence (operation ++ (ending answer ++ (body_octets answer ++ more))) (omega (arith, can.header.sequence));
      operation =
          ap (big_number 2) (skip (16 + (16 + (8 + 4))) 16 object _ can.header.object ∙ skip (16 + (8 + 4)) 16 interface _ can.header.interface
          ∙ skip (8 + 4) 16 activity (behind_activity answer (body_octets answer ++ more)) can.header.activity)
          ∙ number_front 2 answer.header.operation (ending answer ++ (body_octets answer ++ more)) (omega (arith, can.header.operation));
    })

-- ---- a datagram

-- The headers of IPv4 and UDP have 28 octets.
behind_headers : (from to : Endpoint) (body more : List ℕ) → length from.address ≡ 4 → length to.address ≡ 4 → drop 28 (datagram.write (UdpDatagram from to body) ++ more) ≡ body ++ more
unfolding datagram packet internet_header internet_size internet_way size_behind udp udp_header
behind_headers from to body more s d =
    ap (drop 16) (append_assoc from.address _ more ∙ ap (λ l. from.address ++ l) (append_assoc to.address _ more))
    ∙ skip 12 4 from.address _ s ∙ skip 8 4 to.address _ d ∙ ap (λ l. l ++ more) (append-nil (body ++ []) ∙ append-nil body)

-- the octets of a frame with a datagram, without a tag
datagram_octets : (source destination : Mac) (from to : Endpoint) (body : List ℕ) →
    frame_bytes (carrying destination source None (UdpDatagram from to body))
    ≡ (destination.octets ++ (source.octets ++ (0x08 ∷ 0x00 ∷ datagram.write (UdpDatagram from to body)))) ++ padding_of (carrying destination source None (UdpDatagram from to body))
unfolding frame_bytes layers ethernet mac tag_and_type
datagram_octets source destination from to body = refl

-- What is read of a frame with a datagram: its EtherType, and its body.
pub record IsDatagramRead (frame body : List ℕ) : Type 0 where
  pub type : number 12 2 frame ≡ 0x0800
  pub more : List ℕ
  pub is : drop 42 frame ≡ body ++ more

pub datagram_read : (source destination : Mac) (from to : Endpoint) (body : List ℕ) → length source.octets ≡ 6 → length destination.octets ≡ 6
    → length from.address ≡ 4 → length to.address ≡ 4
    → IsDatagramRead (frame_bytes (carrying destination source None (UdpDatagram from to body))) body
datagram_read source destination from to body s d f t =
    let inside : List ℕ = datagram.write (UdpDatagram from to body) in
    let padding : List ℕ = padding_of (carrying destination source None (UdpDatagram from to body)) in
    subst (λ l. IsDatagramRead l body) (sym (datagram_octets source destination from to body)) (record {
      type = six (λ d. number 12 2 ((d ++ (source.octets ++ (0x08 ∷ 0x00 ∷ inside))) ++ padding) ≡ 0x0800) destination.octets d (λ a b c e f g.
          six (λ s. number 12 2 ((a ∷ b ∷ c ∷ e ∷ f ∷ g ∷ (s ++ (0x08 ∷ 0x00 ∷ inside))) ++ padding) ≡ 0x0800) source.octets s (λ h i j k l m. refl));
      more = padding;
      is = six (λ d. drop 42 ((d ++ (source.octets ++ (0x08 ∷ 0x00 ∷ inside))) ++ padding) ≡ drop 28 (inside ++ padding)) destination.octets d (λ a b c e f g.
          six (λ s. drop 42 ((a ∷ b ∷ c ∷ e ∷ f ∷ g ∷ (s ++ (0x08 ∷ 0x00 ∷ inside))) ++ padding) ≡ drop 28 (inside ++ padding)) source.octets s (λ h i j k l m. refl))
          ∙ behind_headers from to body padding f t;
    })

-- ---- the frame of an answer

holds : (n m : ℕ) → n ≡ m → (n == m) ≡ true
holds n m is = grind (arith, nat_tests)

same_statuses : (n m : ℕ) (one other : List ℕ) → n ≡ m → one ≡ other → n ∷ statuses_in 16 (drop 64 one) ≡ m ∷ statuses_in 16 (drop 64 other)
same_statuses n m one other a b = cc

named_same : (n m : ℕ) (one other : List ℕ) → n ≡ m → one ≡ other → n ∷ one ≡ m ∷ other
named_same n m one other a b = cc

-- The frame of an answer is a response, and names the call that it answers.
pub record IsReply (frame : List ℕ) (answer : Answered) : Type 0 where
  pub is : is_response frame ≡ true
  pub name : called (drop 42 frame) ≡ answer.header.sequence ∷ answer.header.activity
  pub activity : activity_of (drop 42 frame) ≡ answer.header.activity
  pub operation : in_order 68 2 (drop 42 frame) ≡ answer.header.operation
  pub status : number 80 4 (drop 42 frame) ≡ number_of answer.status
  pub blocks : args_of (drop 42 frame) ≡ answer.blocks

pub answer_found : (identity : Identity) (caller : Caller) (address : List ℕ) (answer : Answered) → IsSendable identity (CallAnswer caller address answer)
    → IsReply (bytes_of identity (CallAnswer caller address answer)) answer
answer_found identity caller address answer can =
    let frame : List ℕ = bytes_of identity (CallAnswer caller address answer) in
    let sent = can.0 in
    let datagram =
    datagram_read identity.mac caller.mac (calls_at address) caller.endpoint
    (response_bytes answer) sent.source sent.destination sent.content.0.0 sent.content.1.0 in
    let it : IsAnswerRead (drop 42 frame) answer = subst (λ l. IsAnswerRead l answer) (sym datagram.is) (response_placed answer datagram.more can.1) in
    record {
      is = and_from _ _ (holds _ 0x0800 datagram.type) (holds _ 0x0402 it.kind);
      name = named_same _ _ _ _ it.sequence it.activity;
      activity = it.activity;
      operation = it.operation;
      status = it.status;
      blocks = it.blocks;
    }

-- The statuses in the frame of an answer to a call of this name.
pub answer_statuses : (identity : Identity) (caller : Caller) (address : List ℕ) (answer : Answered) (call : List ℕ) → IsSendable identity (CallAnswer caller address answer)
    → called call ≡ answer.header.sequence ∷ answer.header.activity
    → statuses call (bytes_of identity (CallAnswer caller address answer)) ≡ number_of answer.status ∷ statuses_in 16 (drop 64 answer.blocks)
answer_statuses identity caller address answer call can name =
    let frame : List ℕ = bytes_of identity (CallAnswer caller address answer) in
    let it = answer_found identity caller address answer can in
    let named : pointwise nat_eq (called (drop 42 frame)) (called call) ≡ true =
    ap (pointwise nat_eq (called (drop 42 frame))) (name ∙ sym it.name) ∙ itself_octets (called (drop 42 frame)) in
    cond-true (is_response frame && pointwise nat_eq (called (drop 42 frame)) (called call)) _ _ (and_from _ _ it.is named) ∙ same_statuses _ _ _ _ it.status it.blocks

-- The frame of an answer to a call of another name has none.
pub other_statuses : (identity : Identity) (caller : Caller) (address : List ℕ) (answer : Answered) (call : List ℕ) → IsSendable identity (CallAnswer caller address answer)
    → pointwise nat_eq (answer.header.sequence ∷ answer.header.activity) (called call) ≡ false
    → statuses call (bytes_of identity (CallAnswer caller address answer)) ≡ []
other_statuses identity caller address answer call can other =
    let frame : List ℕ = bytes_of identity (CallAnswer caller address answer) in
    let it = answer_found identity caller address answer can in
    cond-false (is_response frame && pointwise nat_eq (called (drop 42 frame)) (called call)) _ _
    (ap (λ l. is_response frame && pointwise nat_eq l (called call)) it.name ∙ ap (λ b. is_response frame && b) other ∙ and_false (is_response frame))
  where
    and_false : (b : Bool) → b && false ≡ false
    and_false true = refl
    and_false false = refl
