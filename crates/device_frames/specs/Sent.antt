-- What a device sends: messages by their meaning, and their one encoding as octets.
use Rattle.std.specs.Prelude.{ℕ, List, [], Option, Some, None}
use Rattle.pn_values.specs.declared.mac.Mac.{Mac}
use Rattle.pn_values.specs.declared.identity.Identity.{Identity}
use Rattle.pn_values.specs.declared.settings.Settings.{Settings}
use Rattle.pn_values.specs.declared.set_item.BlockError.{BlockError}
use Rattle.frame_codec.specs.declared.arp.ArpOperation.TheVariants.{Reply}
use Rattle.frame_codec.specs.declared.arp.Holder.{Holder}
use Rattle.frame_codec.specs.Calls.{calls_at}
use Rattle.frame_codec.specs.Meaning.{Content, RealTime, ArpPacket, UdpDatagram}
use Rattle.cyclic_data.specs.exchange.Frames.{plain_frame, tagged_frame}
use Rattle.dcp_core.specs.Request.{Asked}
use Rattle.dcp_core.specs.Identify.{identify_bytes}
use Rattle.dcp_core.specs.Get.{get_bytes}
use Rattle.dcp_core.specs.Set.{set_bytes}
use Rattle.rpc_core.specs.declared.header.CallHeader.{CallHeader}
use Rattle.rpc_core.specs.declared.interface.Interface.TheVariants.{Controller}
use Rattle.rpc_core.specs.Call.{call_bytes}
use Rattle.rpc_core.specs.Response.{Answered, response_bytes}
use Rattle.block_codec.specs.declared.block.Block.TheVariants as is
use Rattle.block_codec.specs.Block.{block_bytes}
use Rattle.pn_alarms.specs.declared.pdu.PduType.TheVariants.{Error}
use Rattle.pn_alarms.specs.Format.{frame_id_of, pdu_bytes}
use Rattle.relations.specs.declared.farewell.Farewell.{Farewell}
use Rattle.relations.specs.declared.phase.Partner.{Partner}
use Rattle.relations.specs.declared.ready.Ready.{Ready}
use Rattle.relations.specs.declared.plugging.PlugReady.{PlugReady}
use Rattle.connect_blocks.specs.PlugControl.{plug_control}
use Rattle.relations.specs.Farewells.{said_by}
use Rattle.cyclic_data.specs.declared.exchange.route.Route.{Route}
use Rattle.relations.specs.exchange.Frames.{Frame, tag_of, id_of, body_of}
use Rattle.frame_codec.specs.declared.udp.Caller.{Caller}

-- A message and its destination: the answer to an Identify request, to a Get of a station with this name by its place, or to a Set with the result of each of
-- its blocks; who holds an address, sent to the station that asked for it; the answer to a call, from this address; the
-- frame of such an answer again; the call ApplicationReady, from this address, of the relation or for a plug; the ERR with which this device ends its
-- relation; or a frame of the exchange.
pub data Sent : Type 0 where
  IdentifyAnswer : (asker : Mac) → (running : Settings) → (xid : ℕ) → Sent
  GetAnswer : (asker : Mac) → (running : Settings) → (alias : Option (List ℕ)) → (request : Asked) → Sent
  SetAnswer : (asker : Mac) → (request : Asked) → (answers : List BlockError) → Sent
  ArpReply : (asker : Mac) → (address : List ℕ) → (target : Holder) → Sent
  CallAnswer : (caller : Caller) → (address : List ℕ) → (answer : Answered) → Sent
  Again : (frame : List ℕ) → Sent
  ReadyCall : (address : List ℕ) → (ready : Ready) → Sent
  PlugReadyCall : (address : List ℕ) → (ready : PlugReady) → Sent
  Ends : (farewell : Farewell) → Sent
  Exchanges : (route : Route) → (frame : Frame) → Sent

-- A frame of this device without a tag.
abbrev pub own_frame : Identity → Mac → Content → List ℕ
own_frame identity destination content = plain_frame identity.mac destination content

-- A frame with a tag: of alarms.
abbrev pub alarm_frame : Identity → Mac → ℕ → Content → List ℕ
alarm_frame identity destination tag content = tagged_frame identity.mac destination tag content

-- A DCP answer to the station that asked: the FrameID, and the octets that follow it.
abbrev pub answer_frame : Identity → Mac → ℕ → List ℕ → List ℕ
answer_frame identity asker frame_id answer = own_frame identity asker (RealTime frame_id answer)

-- An ARP reply (RFC 826) to the station that asked: this device holds the address.
abbrev pub reply_content : Identity → List ℕ → Holder → Content
reply_content identity address target =
    ArpPacket (record { operation = Reply; sender = record { mac = identity.mac; address = address }; target = target })

-- The octets of an ARP reply.
abbrev pub reply_frame : Identity → Mac → List ℕ → Holder → List ℕ
reply_frame identity asker address target = own_frame identity asker (reply_content identity address target)

-- A response to the station that called, to the port that the call came from.
abbrev pub response_content : Caller → List ℕ → Answered → Content
response_content caller address answer = UdpDatagram (calls_at address) caller.endpoint (response_bytes answer)

-- The octets of the response to a call.
abbrev pub response_frame : Identity → Caller → List ℕ → Answered → List ℕ
response_frame identity caller address answer = own_frame identity caller.mac (response_content caller address answer)

-- A call of this device to the station that asked for the relation. Its response may have 1,372 octets of blocks.
abbrev pub call_content : List ℕ → Partner → CallHeader → List ℕ → Content
call_content address partner header blocks =
    UdpDatagram (calls_at address) (calls_at partner.address) (call_bytes Controller (record { header = header; args_maximum = 1372; blocks = Some blocks }))

-- The octets of such a call.
abbrev pub call_frame : Identity → List ℕ → Partner → CallHeader → List ℕ → List ℕ
call_frame identity address partner header blocks = own_frame identity partner.mac (call_content address partner header blocks)

-- ApplicationReady.
abbrev pub ready_content : List ℕ → Ready → Content
ready_content address ready = call_content address ready.partner ready.header (block_bytes (is.ApplicationReady ready.block))

-- The octets of an ApplicationReady.
abbrev pub ready_frame : Identity → List ℕ → Ready → List ℕ
ready_frame identity address ready = own_frame identity ready.partner.mac (ready_content address ready)

-- ApplicationReady for a plug.
abbrev pub plug_ready_content : List ℕ → PlugReady → Content
plug_ready_content address ready = call_content address ready.partner ready.header ((plug_control 0x0113).write ready.block [])

-- The octets of an ApplicationReady for a plug.
abbrev pub plug_ready_frame : Identity → List ℕ → PlugReady → List ℕ
plug_ready_frame identity address ready = own_frame identity ready.partner.mac (plug_ready_content address ready)

-- An ERR, to CMInitiatorMacAdd.
abbrev pub farewell_content : Farewell → Content
farewell_content farewell = RealTime (frame_id_of Error) (pdu_bytes (said_by farewell))

-- The octets of an ERR.
abbrev pub farewell_frame : Identity → Farewell → List ℕ
farewell_frame identity farewell = alarm_frame identity farewell.initiator farewell.tag (farewell_content farewell)

-- A frame of inputs, of an alarm, or of the response to an AlarmAck, to the partner.
abbrev pub exchange_content : Route → Frame → Content
exchange_content route frame = RealTime (id_of route frame) (body_of frame)

-- The octets of a frame of a relation.
abbrev pub exchange_frame : Identity → Route → Frame → List ℕ
exchange_frame identity route frame = alarm_frame identity route.partner (tag_of route frame) (exchange_content route frame)

-- The octets of a message.
abbrev pub bytes_of : Identity → Sent → List ℕ
bytes_of identity (IdentifyAnswer asker running xid) = answer_frame identity asker 65279 (identify_bytes identity running xid)
bytes_of identity (GetAnswer asker running alias request) = answer_frame identity asker 65277 (get_bytes identity running alias request)
bytes_of identity (SetAnswer asker request answers) = answer_frame identity asker 65277 (set_bytes request answers)
bytes_of identity (ArpReply asker address target) = reply_frame identity asker address target
bytes_of identity (CallAnswer caller address answer) = response_frame identity caller address answer
bytes_of identity (Again frame) = frame
bytes_of identity (ReadyCall address ready) = ready_frame identity address ready
bytes_of identity (PlugReadyCall address ready) = plug_ready_frame identity address ready
bytes_of identity (Ends farewell) = farewell_frame identity farewell
bytes_of identity (Exchanges route frame) = exchange_frame identity route frame
