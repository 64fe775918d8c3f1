-- Answers to calls that are one whole datagram.
use Rattle.std.specs.Prelude.{◌≡◌, ◌≤◌, ℕ, List, length, None, Ok, ⊤}
use Rattle.std.specs.List.{AllByRecursion}
use Rattle.pn_values.specs.declared.mac.Mac.{Mac}
use Rattle.pn_values.specs.declared.identity.Identity.{Identity}
use Rattle.frame_codec.specs.declared.udp.Endpoint.{Endpoint}
use Rattle.frame_codec.specs.Frame.{frame_of}
use Rattle.frame_codec.specs.Meaning.{UdpDatagram}
use Rattle.frame_codec.specs.Sendable.{carrying}
use Rattle.rpc_core.specs.Cache.{Kept}
use Rattle.rpc_core.specs.Response.{Answered, response_of}
use Rattle.device_frames.specs.Sent.{Sent, IdentifyAnswer, GetAnswer, SetAnswer, ArpReply, CallAnswer, Again, ReadyCall, PlugReadyCall, Ends, Exchanges, bytes_of}

-- This frame is read as one datagram, whose body is read as this response, with at most 1,372 octets of blocks. A packet
-- of IPv4 that is a fragment is not read, and neither is a response that is a fragment or lacks some of its blocks.
pub record IsWhole (frame : List ℕ) (answer : Answered) : Type 0 where
  pub destination : Mac
  pub source : Mac
  pub from : Endpoint
  pub to : Endpoint
  pub body : List ℕ
  pub framed : frame_of frame ≡ Ok (carrying destination source None (UdpDatagram from to body))
  pub says : response_of body ≡ Ok answer
  pub few : length answer.blocks ≤ 1372

-- this frame is a response that is one whole datagram
abbrev pub IsOneDatagram : List ℕ → Type 0
IsOneDatagram frame = (answer : Answered) × IsWhole frame answer

-- An answer to a call is one whole datagram, which says this answer; one that is sent again is one whole datagram too.
abbrev pub IsAnsweredWhole : Identity → Sent → Type 0
IsAnsweredWhole identity (CallAnswer caller address answer) = IsWhole (bytes_of identity (CallAnswer caller address answer)) answer
IsAnsweredWhole identity (Again frame) = IsOneDatagram frame
IsAnsweredWhole identity (IdentifyAnswer asker running xid) = ⊤
IsAnsweredWhole identity (GetAnswer asker running alias request) = ⊤
IsAnsweredWhole identity (SetAnswer asker request answers) = ⊤
IsAnsweredWhole identity (ArpReply asker address target) = ⊤
IsAnsweredWhole identity (ReadyCall address ready) = ⊤
IsAnsweredWhole identity (PlugReadyCall address ready) = ⊤
IsAnsweredWhole identity (Ends farewell) = ⊤
IsAnsweredWhole identity (Exchanges route frame) = ⊤

-- each stored answer is one whole datagram
abbrev pub AreStoredWhole : List Kept → Type 0
AreStoredWhole calls = AllByRecursion (λ (kept : Kept). IsOneDatagram kept.frame) calls
