-- Which frames belong to a relation of a device, by their octets alone. Everything is read at fixed places: a frame of Ethernet from its
-- first octet, without its VLAN tag; a call or a response from the first octet of its datagram.
use Rattle.std.specs.Prelude.{◌==◌, ◌&&◌, ◌||◌, ℕ, Bool, true, nat_eq, List, take, drop}
use Rattle.std.specs.List.{list_any}
use Rattle.std.specs.Cmp.Lexicographic.{pointwise}
use Rattle.frame_codec.specs.FrameId.{is_alarm, is_cyclic}
use Rattle.device_frames.specs.declared.event.Event.{Event}
use Rattle.device_frames.specs.declared.event.Event.TheVariants.{Frame, Call as Joined}
use Rattle.octets_law.specs.Octets.{activity_of, args_of, dcp_blocks, is_dcp, number, part, untagged}

-- What a relation is known by in frames: its ARUUID; the station that sends its cyclic frames, and their FrameID; the station that sends
-- its alarms and the endpoint there; and the endpoint of the end to which they come. In a relation that a Connect made both stations are
-- the controller.
pub record Marks : Type 0 where
  pub uuid : List ℕ
  pub provider : List ℕ
  pub frame_id : ℕ
  pub notifier : List ℕ
  pub their_endpoint : ℕ
  pub own_endpoint : ℕ

-- Whether these octets are the same.
abbrev pub same : List ℕ → List ℕ → Bool
same one other = pointwise nat_eq one other

-- A cyclic frame (IEC 61158-6-10, 4.7): the sender 6, EtherType 12, FrameID 14.
abbrev pub is_cyclic_of : Marks → List ℕ → Bool
is_cyclic_of marks frame = number 12 2 frame == 0x8892 && number 14 2 frame == marks.frame_id && same (part 6 6 frame) marks.provider

-- An alarm frame (4.8): FrameID 0xFC01 or 0xFE01, AlarmDstEndpoint 16, AlarmSrcEndpoint 18.
abbrev pub is_alarm_of : Marks → List ℕ → Bool
is_alarm_of marks frame =
    number 12 2 frame == 0x8892 && (number 14 2 frame == 0xFC01 || number 14 2 frame == 0xFE01) && same (part 6 6 frame) marks.notifier
    && number 16 2 frame == marks.own_endpoint && number 18 2 frame == marks.their_endpoint

-- A DCP Set (4.3) with a block FactoryReset (option 5, suboption 5) or ResetToFactory (option 5, suboption 6).
abbrev pub is_reset : List ℕ → Bool
is_reset frame = is_dcp 0xFEFD 4 0 frame && list_any (λ block. block.0 == 0x0505 || block.0 == 0x0506) (dcp_blocks frame)

-- A call (version 4, packet type 0) of which the first block has this ARUUID at its place 8, and a response (packet type 2) of which it is
-- the activity.
abbrev pub is_call_of : Marks → List ℕ → Bool
is_call_of marks call = number 0 2 call == 0x0400 && same marks.uuid (part 8 16 (args_of call))

-- Whether the body of a datagram is a response of this relation, by its activity.
abbrev pub is_response_of : Marks → List ℕ → Bool
is_response_of marks call = number 0 2 call == 0x0402 && same (activity_of call) marks.uuid

-- Whether it is a call or a response of this relation.
abbrev pub is_said_of : Marks → List ℕ → Bool
is_said_of marks call = is_call_of marks call || is_response_of marks call

-- A datagram of UDP: EtherType 12 is 0x0800, and the protocol 23 is 17. Its body is at 42.
abbrev pub is_datagram : List ℕ → Bool
is_datagram frame = number 12 2 frame == 0x0800 && number 23 1 frame == 17

-- A frame to this station that is one of these.
abbrev pub belongs : List ℕ → Marks → List ℕ → Bool
belongs station marks frame =
    same (take 6 frame) station
    && (is_cyclic_of marks frame || is_alarm_of marks frame || is_reset frame || (is_datagram frame && is_said_of marks (drop 42 frame)))

-- Whether an event at a device comes from no stranger: a frame, or a call that was joined of fragments, of this relation; what
-- its application says; or a unit of time.
abbrev pub is_own : List ℕ → Marks → Event → Bool
is_own station marks (Frame frame) = belongs station marks (untagged frame.items)
is_own station marks (Joined caller address call) = is_said_of marks call.items
is_own station marks event = true

-- Whether a frame is a cyclic frame, an alarm frame or a call, of any relation.
abbrev pub is_of_exchange : List ℕ → Bool
is_of_exchange frame =
    (number 12 2 frame == 0x8892 && (is_cyclic (number 14 2 frame) || is_alarm (number 14 2 frame)))
    || (is_datagram frame && number 0 2 (drop 42 frame) == 0x0400)
