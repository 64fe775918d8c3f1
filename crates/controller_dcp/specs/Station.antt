-- A controller as a DCP station: which frames it answers, and with which frame. This depends on its plan and the frame alone.
use Rattle.std.specs.Prelude.{◌==◌, ◌&&◌, ◌||◌, ◌%◌, not, ℕ, Bool, false, nat_eq, List, [], ◌∷◌, slice_index, if◌then◌else◌, Option, Some, None, option_map, Result, Ok, Err}
use Rattle.std.specs.Cmp.Lexicographic.{pointwise}
use Rattle.pn_values.specs.declared.mac.Mac.{Mac}
use Rattle.frame_codec.specs.declared.fault.FrameFault.{FrameFault}
use Rattle.frame_codec.specs.Frame.{frame_bytes, frame_of}
use Rattle.frame_codec.specs.Meaning.{Meaning, Content, RealTime, ArpPacket, UdpDatagram}
use Rattle.frame_codec.specs.Sendable.{carrying}
use Rattle.dcp_core.specs.declared.request.DcpFault.{DcpFault}
use Rattle.dcp_core.specs.declared.request.Service.{Service}
use Rattle.dcp_core.specs.declared.request.Service.TheVariants.{Get, Set, Identify}
use Rattle.dcp_core.specs.Reading.{request_of}
use Rattle.dcp_core.specs.Request.{Asked}
use Rattle.plans.specs.declared.parts.Parts.{Parts}
use Rattle.plans.specs.Identity.{OwnIdentity}
use Rattle.controller_dcp.specs.Answers.{get_bytes, identify_bytes, matches, refused_bytes}

-- ---- whom a frame is for

-- The multicast address of Identify requests.
abbrev pub identify_multicast : List ℕ
identify_multicast = 1 ∷ 14 ∷ 207 ∷ 0 ∷ 0 ∷ 0 ∷ []

-- the MAC address of the controller
abbrev pub is_own : Parts → Mac → Bool
is_own parts mac = pointwise nat_eq mac.octets parts.controller.mac.octets

-- a frame with this destination and FrameID asks the controller: a Get or a Set to its address, or an Identify to its address or to all stations
abbrev pub is_aimed : Parts → Mac → ℕ → Bool
is_aimed parts destination frame_id =
    if frame_id == 0xFEFE then is_own parts destination || pointwise nat_eq destination.octets identify_multicast
    else (if frame_id == 0xFEFD then is_own parts destination else false)

-- a frame with this source comes from another station: not from itself, and not from the address of a group
abbrev pub is_another : Parts → Mac → Bool
is_another parts source = (slice_index source.octets 0 % 2 == 0) && not (is_own parts source)

-- ---- what it answers

-- The FrameID and the body of the answer to a request, if it is answered. An Identify is, if it matches.
abbrev pub reply_by : Service → Parts → OwnIdentity → Asked → Option Content
reply_by Get parts own request = Some (RealTime 0xFEFD (get_bytes parts own request))
reply_by Set parts own request = Some (RealTime 0xFEFD (refused_bytes request))
reply_by Identify parts own request = if matches parts own request then Some (RealTime 0xFEFF (identify_bytes parts own request.xid)) else None

-- The frame of a reply: from the controller to this station, without a tag.
abbrev pub framed : Parts → Mac → Content → List ℕ
framed parts asker content = frame_bytes (carrying asker parts.controller.mac None content)

-- The frame that answers a request of this station.
abbrev pub to_request : Parts → OwnIdentity → Mac → Asked → Option (List ℕ)
to_request parts own asker request = option_map (framed parts asker) (reply_by request.service parts own request)

-- The same, if it can be read: what does not read is dropped.
abbrev pub to_read : Parts → OwnIdentity → Mac → Result Asked DcpFault → Option (List ℕ)
to_read parts own asker (Ok request) = to_request parts own asker request
to_read parts own asker (Err fault) = None

-- The frame that answers real-time data under a FrameID.
abbrev pub to_real_time : Parts → OwnIdentity → Meaning → ℕ → List ℕ → Option (List ℕ)
to_real_time parts own meaning frame_id body =
    if is_aimed parts meaning.destination frame_id && is_another parts meaning.source
    then to_read parts own meaning.source (request_of frame_id body) else None

-- The frame that answers a content.
abbrev pub to_content : Parts → OwnIdentity → Meaning → Content → Option (List ℕ)
to_content parts own meaning (RealTime frame_id body) = to_real_time parts own meaning frame_id body
to_content parts own meaning (ArpPacket packet) = None
to_content parts own meaning (UdpDatagram from to body) = None

-- The frame that answers a frame, if that can be read.
abbrev pub to_frame : Parts → OwnIdentity → Result Meaning FrameFault → Option (List ℕ)
to_frame parts own (Ok meaning) = to_content parts own meaning meaning.content
to_frame parts own (Err fault) = None

-- With an identity it answers, and else it does not.
abbrev pub answer_by : Parts → Option OwnIdentity → List ℕ → Option (List ℕ)
answer_by parts (Some own) octets = to_frame parts own (frame_of octets)
answer_by parts None octets = None

-- The frame with which the controller of a plan answers these octets from the network, if it answers them.
unfoldable pub answer_to : Parts → List ℕ → Option (List ℕ)
answer_to parts octets = answer_by parts parts.identity octets
