-- Frames of strangers at which a device stays exactly as it is, by their octets alone, with a relation and without one.
use Rattle.std.specs.Prelude.{◌≡◌, ◌==◌, ◌&&◌, ◌||◌, ℕ, Bool, true, false, not, List, take, drop, Option, Some, None}
use Rattle.std.specs.List.{list_any}
use Rattle.pn_values.specs.declared.identity.Identity.{Identity}
use Rattle.relations.specs.RelationState.{RelationState}
use Rattle.device_frames.specs.declared.event.Event.TheVariants.{Frame}
use Rattle.device_frames.specs.Heard.{Heard, heard_of}
use Rattle.device_core.specs.State.{State}
use Rattle.octets_law.specs.Octets.{dcp_blocks, is_dcp, number, part, untagged}
use Rattle.strangers_law.specs.Device.{marks_of}
use Rattle.strangers_law.specs.Strange.{belongs, is_datagram, same}

-- A call (C706, 12.5): a datagram whose port of destination 36 is 34964, and whose body begins with version 4 and packet type 0. Everything is
-- read at fixed places of a frame without its VLAN tag.
abbrev pub is_call : List ℕ → Bool
is_call frame = is_datagram frame && number 36 2 frame == 34964 && number 0 2 (drop 42 frame) == 0x0400

-- A DCP Set (IEC 61158-6-10, 4.3) that may change a device. While a relation exists a Set is refused, but for a Signal (option 5, suboption 3), and
-- for a reset, which belongs to the relation.
abbrev pub is_setting : Option RelationState → List ℕ → Bool
is_setting None frame = is_dcp 0xFEFD 4 0 frame
is_setting (Some link) frame = is_dcp 0xFEFD 4 0 frame && list_any (λ block. block.0 == 0x0503) (dcp_blocks frame)

-- A frame to this station that is such a Set or a call, of anybody.
abbrev pub is_asking : List ℕ → Option RelationState → List ℕ → Bool
is_asking station link frame = same (take 6 frame) station && (is_setting link frame || is_call frame)

-- A frame to this station that belongs to its relation, if it has one.
abbrev pub belongs_in : List ℕ → Option RelationState → List ℕ → Bool
belongs_in station None frame = false
belongs_in station (Some link) frame = belongs station (marks_of link) frame

-- The frame of a quiet stranger is neither. It may be anything else: ARP, LLDP, ICMP, Identify, Get and Hello, a Set that is refused, the answers and
-- the responses of others, their cyclic frames and alarms, frames to other stations, and octets of any number that are no frame.
abbrev pub is_quiet_stranger : List ℕ → Option RelationState → List ℕ → Bool
is_quiet_stranger station link frame = not (is_asking station link frame) && not (belongs_in station link frame)

-- The octets of a frame that comes to a device, with its VLAN tag if it has one, are of a quiet stranger.
abbrev pub IsQuietAt : {F : Type 0} → State F → List ℕ → Type 0
IsQuietAt device octets = is_quiet_stranger device.station.identity.mac.octets device.live.rest.link (untagged octets) ≡ true

-- What a device hears in the octets of a frame.
abbrev pub heard_in : Identity → List ℕ → Heard
heard_in identity octets = heard_of identity (Frame (record { items = octets }))

-- A frame that is sent at it goes to the station that it came from: MAC addresses 0 and 6.
abbrev pub IsReturned : List ℕ → List ℕ → Type 0
IsReturned octets frame = take 6 (untagged frame) ≡ part 6 6 (untagged octets)
