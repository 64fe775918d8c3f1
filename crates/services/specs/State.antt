-- The machine of the services: what they know, and how ticks and addresses change it (RFC 5227). A tick is 31.25
-- microseconds.
use Rattle.std.specs.Prelude.{◌-◌, ◌+◌, ◌&&◌, ◌||◌, not, ℕ, Bool, true, false, nat_eq, nat_le, List, [], ◌∷◌, Option, Some, None, min, if◌then◌else◌}
use Rattle.std.specs.Cmp.Lexicographic.{pointwise}
use Rattle.pn_values.specs.declared.mac.Mac.{Mac}
use Rattle.pn_values.specs.IpSuite.{is_zero}
use Rattle.frame_codec.specs.declared.arp.ArpOperation.TheVariants.{Request}
use Rattle.frame_codec.specs.Meaning.{Meaning, ArpPacket}
use Rattle.frame_codec.specs.Frame.{frame_bytes}
use Rattle.services.specs.declared.announcement.Role.{Role}
use Rattle.services.specs.declared.announcement.Announcement.{Announcement}
use Rattle.services.specs.declared.announcement.Announcement.TheVariants.{Nothing, First, Second}

-- What the services know.
pub record State : Type 0 where
  -- the end of the relation that they belong to
  pub role : Role
  -- the MAC address of the station
  pub mac : Mac
  -- the running IP address; zeros without one
  pub address : List ℕ
  -- which announcement of the address is still to be sent
  pub announcement : Announcement
  -- whether a conflict waits for its defence
  pub defends : Bool
  -- in how many ticks a conflict may be defended; 0 or 1: in the next tick
  pub guard : ℕ
  -- how many conflicts were heard; the count saturates at the maximum of 64 bits
  pub conflicts : ℕ

-- The broadcast MAC address.
abbrev pub broadcast : List ℕ
broadcast = 255 ∷ 255 ∷ 255 ∷ 255 ∷ 255 ∷ 255 ∷ []

-- The target MAC address of an announcement: it is not known, and so zeros.
abbrev pub unknown : List ℕ
unknown = 0 ∷ 0 ∷ 0 ∷ 0 ∷ 0 ∷ 0 ∷ []

-- Whether this is the running address, and not all zeros.
abbrev pub is_running : State → List ℕ → Bool
is_running state address = pointwise nat_eq address state.address && not (is_zero address)

-- Whether this is the MAC address of the station.
abbrev pub is_own : State → Mac → Bool
is_own state mac = pointwise nat_eq mac.octets state.mac.octets

-- ---- announcements (RFC 5227, 2.3)

-- The announcement of the address: an ARP request to all stations, whose protocol addresses are both this address.
abbrev pub announcement_by : Mac → List ℕ → Meaning
announcement_by mac address = record {
  destination = record { octets = broadcast };
  source = mac;
  tag = None;
  content = ArpPacket (record {
    operation = Request;
    sender = record { mac = mac; address = address };
    target = record { mac = record { octets = unknown }; address = address };
  });
}

-- Whether an announcement is sent in this tick.
abbrev pub is_due : Announcement → Bool
is_due Nothing = false
is_due First = true
is_due (Second ticks) = nat_le ticks 1

-- What is still to be sent after a tick. The second announcement follows the first by 64,000 ticks.
abbrev pub announcement_after : Announcement → Announcement
announcement_after Nothing = Nothing
announcement_after First = Second 64000
announcement_after (Second ticks) = if nat_le ticks 1 then Nothing else Second (ticks - 1)

-- What must be announced of this new address.
abbrev pub announcement_for : List ℕ → Announcement
announcement_for address = if is_zero address then Nothing else First

-- After a step the running address is this one. A new one is announced, in place of what was still to be said of the old
-- one.
abbrev pub observed : State → List ℕ → State
observed state address =
    if pointwise nat_eq address state.address then state
    else record state { address = address; announcement = announcement_for address; defends = false }

-- The services of a station at its start.
abbrev pub started : Role → Mac → List ℕ → State
started role mac address = record {
  role = role;
  mac = mac;
  address = address;
  announcement = announcement_for address;
  defends = false;
  guard = 0;
  conflicts = 0;
}

-- ---- conflicts (RFC 5227, 2.4)

-- A conflict was heard: it is counted, and waits for its defence.
abbrev pub disputed : State → State
disputed state = record state { defends = true; conflicts = min (state.conflicts + 1) 18446744073709551615 }

-- Whether a conflict is defended in this tick: there was no defence in the last 320,000 ticks, and no announcement is
-- sent in this tick, which says the same.
abbrev pub is_defended : State → Bool
is_defended state = state.defends && nat_le state.guard 1 && not (is_due state.announcement)

-- ---- ticks

-- Whether a tick sends the announcement frame: as an announcement, or as the defence of a conflict.
abbrev pub announces : State → Bool
announces state = is_due state.announcement || is_defended state

-- The frame that a tick sends, if it sends one.
abbrev pub sent_by_tick : State → Option (List ℕ)
sent_by_tick state = if announces state then Some (frame_bytes (announcement_by state.mac state.address)) else None

-- The list of a frame, if there is one.
abbrev pub frames_in : Option (List ℕ) → List (List ℕ)
frames_in None = []
frames_in (Some frame) = frame ∷ []

-- The state after a tick.
abbrev pub ticked : State → State
ticked state = record state {
  announcement = announcement_after state.announcement;
  defends = false;
  guard = if is_defended state then 320000 else state.guard - 1;
}
