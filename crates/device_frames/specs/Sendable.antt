-- Which messages can be sent: each field of the frame has its size, and the content fits. So what is written is read as
-- that message. The answer to a call has at most 1,372 octets of blocks, so it is one whole datagram.
use Rattle.std.specs.Prelude.{List, Some, None, ⊤}
use Rattle.std.specs.List.{AllByRecursion}
use Rattle.pn_values.specs.declared.identity.Identity.{Identity}
use Rattle.frame_codec.specs.Meaning.{RealTime}
use Rattle.frame_codec.specs.Sendable.{CanBeSent, carrying}
use Rattle.rpc_core.specs.Sendable.{CanBeAnswered}
use Rattle.dcp_core.specs.Identify.{identify_bytes}
use Rattle.dcp_core.specs.Get.{get_bytes}
use Rattle.dcp_core.specs.Set.{set_bytes}
use Rattle.relations.specs.exchange.Frames.{tag_of}
use Rattle.device_frames.specs.Sent.{Sent, IdentifyAnswer, GetAnswer, SetAnswer, ArpReply, CallAnswer, Again, ReadyCall, PlugReadyCall, Ends, Exchanges, exchange_content, farewell_content, plug_ready_content, ready_content, reply_content, response_content}

-- A message whose frame can be sent. The frame of an answer that is sent again was sent before.
abbrev pub IsSendable : Identity → Sent → Type 0
IsSendable identity (IdentifyAnswer asker running xid) = CanBeSent (carrying asker identity.mac None (RealTime 65279 (identify_bytes identity running xid)))
IsSendable identity (GetAnswer asker running alias request) = CanBeSent (carrying asker identity.mac None (RealTime 65277 (get_bytes identity running alias request)))
IsSendable identity (SetAnswer asker request answers) = CanBeSent (carrying asker identity.mac None (RealTime 65277 (set_bytes request answers)))
IsSendable identity (ArpReply asker address target) = CanBeSent (carrying asker identity.mac None (reply_content identity address target))
IsSendable identity (CallAnswer caller address answer) =
    CanBeSent (carrying caller.mac identity.mac None (response_content caller address answer)) × CanBeAnswered answer
IsSendable identity (Again frame) = ⊤
IsSendable identity (PlugReadyCall address ready) = CanBeSent (carrying ready.partner.mac identity.mac None (plug_ready_content address ready))
IsSendable identity (ReadyCall address ready) = CanBeSent (carrying ready.partner.mac identity.mac None (ready_content address ready))
IsSendable identity (Ends farewell) = CanBeSent (carrying farewell.initiator identity.mac (Some farewell.tag) (farewell_content farewell))
IsSendable identity (Exchanges route frame) = CanBeSent (carrying route.partner identity.mac (Some (tag_of route frame)) (exchange_content route frame))

-- Each of the messages can be sent.
abbrev pub AreSendable : Identity → List Sent → Type 0
AreSendable identity messages = AllByRecursion (IsSendable identity) messages
