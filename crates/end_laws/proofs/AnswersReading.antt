-- An answer that can be sent is read as one whole datagram.
use Rattle.std.proofs.Common.{◌≡◌, ℕ, List, [], ◌++◌, Option, None, Ok, subst}
use Rattle.std.proofs.lemmas.List.{append-nil}
use Rattle.pn_values.specs.declared.mac.Mac.{Mac}
use Rattle.pn_values.specs.declared.identity.Identity.{Identity}
use Rattle.frame_codec.specs.declared.udp.Caller.{Caller}
use Rattle.frame_codec.specs.declared.udp.Endpoint.{Endpoint}
use Rattle.frame_codec.specs.Calls.{calls_at}
use Rattle.frame_codec.specs.Frame.{frame_bytes, frame_of}
use Rattle.frame_codec.specs.Meaning.{UdpDatagram}
use Rattle.frame_codec.specs.Sendable.{CanBeSent, carrying}
use Rattle.rpc_core.specs.Response.{Answered, response_bytes, response_of}
use Rattle.rpc_core.specs.Sendable.{CanBeAnswered}
use Rattle.device_frames.specs.Sent.{CallAnswer, bytes_of}
use Rattle.device_frames.specs.Sendable.{IsSendable}
use Rattle.end_laws.specs.answers.Whole.{IsWhole}

-- the laws of the crates below
abbrev pub DatagramsAreRead : Type 0
DatagramsAreRead = (destination source : Mac) (tag : Option ℕ) (from to : Endpoint) (body : List ℕ)
    → CanBeSent (carrying destination source tag (UdpDatagram from to body))
    → frame_of (frame_bytes (carrying destination source tag (UdpDatagram from to body))) ≡ Ok (carrying destination source tag (UdpDatagram from to body))

abbrev pub ResponsesAreRead : Type 0
ResponsesAreRead = (response : Answered) (more : List ℕ) → CanBeAnswered response → response_of (response_bytes response ++ more) ≡ Ok response

pub answer_whole : DatagramsAreRead → ResponsesAreRead → (identity : Identity) (caller : Caller) (address : List ℕ) (answer : Answered)
    → IsSendable identity (CallAnswer caller address answer) → IsWhole (bytes_of identity (CallAnswer caller address answer)) answer
answer_whole datagrams reads identity caller address answer can = record {
  destination = caller.mac;
  source = identity.mac;
  from = calls_at address;
  to = caller.endpoint;
  body = response_bytes answer;
  framed = datagrams caller.mac identity.mac None (calls_at address) caller.endpoint (response_bytes answer) can.0;
  says = subst (λ (octets : List ℕ). response_of octets ≡ Ok answer) (append-nil (response_bytes answer)) (reads answer [] can.1);
  few = can.1.few;
}
