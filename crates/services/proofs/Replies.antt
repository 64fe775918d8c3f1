-- The octets of a reply, piece by piece.
use Rattle.std.proofs.Common.{◌≡◌, ℕ, ◌-◌, List, [], ◌++◌, length, replicate, refl, sym, ap, ◌∙◌, append_assoc}
use Rattle.std.proofs.lemmas.List.{append-nil}
use Rattle.wire.specs.Codec.{Codec, IsSound}
use Rattle.pn_values.specs.declared.mac.Mac.{Mac}
use Rattle.frame_codec.specs.declared.fault.FrameFault.{FrameFault}
use Rattle.frame_codec.specs.Frame.{mac, tag_and_type}
use Rattle.services.specs.Message.{icmp_packet, echo_header, echo_message, echo_packet, echo, EchoMeaning, packet_header, message_header}
use Rattle.services.specs.Echo.{Request, echoed, internet_link, link, reply_frame, reply_layers}
use Rattle.services.proofs.Sound.{icmp_packet_sound, echo_header_sound}

-- what follows a value that was appended follows it in its spelling too
pub put_behind : {A : Type 0} (codec : Codec FrameFault A) (value : A) (front one all rest : List ℕ) → IsSound codec
    → one ≡ front ++ codec.write value [] → all ≡ one ++ rest → all ≡ front ++ codec.write value rest
put_behind codec value front one all rest sound e f =
    f ∙ ap (λ (xs : List ℕ). xs ++ rest) e ∙ append_assoc front (codec.write value []) rest ∙ ap (λ (xs : List ℕ). front ++ xs) (sym (sound.local value rest))

link_behind : (to from : Mac) (rest : List ℕ) → link.write (internet_link to from) rest ≡ link.write (internet_link to from) [] ++ rest
unfolding link mac tag_and_type
link_behind to from rest = sym (append_assoc to.octets _ rest ∙ ap (λ (xs : List ℕ). to.octets ++ xs) (append_assoc from.octets _ rest))

-- the spelling of a message of this type, in its packet
message_parts : (kind : ℕ) (message : EchoMeaning) → (echo kind).write message ≡ icmp_packet.write (packet_header message) ((echo_header kind).write (message_header kind message) message.body ++ [])
unfolding echo echo_packet echo_message
message_parts kind message = refl

-- the headers and the data of a reply, one after the other
pub reply_parts : (own : Mac) (request : Request) (headers all : List ℕ)
    → headers ≡ (link.write (internet_link request.source own) [] ++ icmp_packet.write (packet_header (echoed request.echo)) []) ++ (echo_header 0).write (message_header 0 (echoed request.echo)) []
    → all ≡ headers ++ request.echo.body
    → all ≡ reply_layers own request
reply_parts own request headers all e f =
    let message = echoed request.echo in
    let first = link.write (internet_link request.source own) [] in
    let content = (echo_header 0).write (message_header 0 message) message.body in
    let behind : all ≡ (first ++ icmp_packet.write (packet_header message) []) ++ content =
    put_behind (echo_header 0) (message_header 0 message) _ headers all message.body (echo_header_sound 0) e f in
    let packet : all ≡ first ++ icmp_packet.write (packet_header message) (content ++ []) =
    put_behind icmp_packet (packet_header message) first _ all (content ++ []) icmp_packet_sound refl (behind ∙ ap (λ (xs : List ℕ). (first ++ icmp_packet.write (packet_header message) []) ++ xs) (sym (append-nil content))) in
    packet ∙ ap (λ (xs : List ℕ). first ++ xs) (sym (message_parts 0 message)) ∙ sym (link_behind request.source own ((echo 0).write message))

-- the same with its padding
pub reply_is : (own : Mac) (request : Request) (all padded : List ℕ) → all ≡ reply_layers own request → padded ≡ all ++ replicate (60 - length all) 0 → padded ≡ reply_frame own request
unfolding reply_frame
reply_is own request all padded e f = f ∙ ap (λ (xs : List ℕ). xs ++ replicate (60 - length xs) 0) e
