-- Cyclic frames of real time (IEC 61158-6-10, 4.7): EtherType 0x8892, FrameID, data, CycleCounter, DataStatus, TransferStatus.
use Rattle.std.specs.Prelude.{◌≡◌, ◌≤◌, ◌+◌, ◌-◌, ◌%◌, ◌&&◌, ◌||◌, ℕ, Bool, true, false, not, nat_le, List, take, length, Option, Some, None}
use Rattle.field_words.specs.Octets.{has_bit, octet_at, part_at, type_place, word_at}

-- ---- the fields, if there are this many octets of data (4.7.1)

-- FrameID: the two octets after the EtherType.
abbrev pub frame_id_in : List ℕ → ℕ
frame_id_in frame = word_at (type_place frame + 2) frame

-- The data: after the FrameID.
abbrev pub data_in : ℕ → List ℕ → List ℕ
data_in size frame = part_at (type_place frame + 4) size frame

-- CycleCounter: two octets after the data.
abbrev pub counter_in : ℕ → List ℕ → ℕ
counter_in size frame = word_at (type_place frame + 4 + size) frame

-- DataStatus: the octet after CycleCounter.
abbrev pub status_in : ℕ → List ℕ → ℕ
status_in size frame = octet_at (type_place frame + 6 + size) frame

-- TransferStatus: the octet after DataStatus. Any further octets are padding.
abbrev pub transfer_in : ℕ → List ℕ → ℕ
transfer_in size frame = octet_at (type_place frame + 7 + size) frame

-- Whether a FrameID is one of cyclic data: 0x8000 to 0xBBFF (RT_CLASS_2) or 0xC000 to 0xF7FF (RT_CLASS_1) (4.7.1.2).
abbrev pub is_cyclic_id : ℕ → Bool
is_cyclic_id id = (nat_le 0x8000 id && nat_le id 0xBBFF) || (nat_le 0xC000 id && nat_le id 0xF7FF)

-- A frame of cyclic data.
pub record IsCyclic (frame : List ℕ) : Type 0 where
  pub type : word_at (type_place frame) frame ≡ 0x8892
  pub id : is_cyclic_id (frame_id_in frame) ≡ true

-- ---- a frame that is accepted

-- Whether a CycleCounter is newer than that of the last accepted frame: 1 to 61,440 ahead, modulo 65,536 (4.7.2.1.2). The first one is.
abbrev pub is_newer : Option ℕ → ℕ → Bool
is_newer None counter = true
is_newer (Some last) counter = let ahead = (counter + 65536 - last) % 65536 in nat_le 1 ahead && nat_le ahead 61440

-- What a receiver knows of the frames of its relation: its own MAC address and that of its partner, their FrameID, their octets of data,
-- and the CycleCounter of the last one that it accepted.
pub record Consumer : Type 0 where
  pub own : List ℕ
  pub partner : List ℕ
  pub frame_id : ℕ
  pub size : ℕ
  pub last : Option ℕ

-- A frame that a receiver accepts: from its partner to itself, with the FrameID and all octets of the relation, not longer than a frame of
-- Ethernet, with DataValid (bit 2 of DataStatus, 4.7.2.1.3), with TransferStatus 0 (4.7.2.1.4), and with a newer CycleCounter.
pub record IsAcceptable (consumer : Consumer) (frame : List ℕ) : Type 0 where
  pub destination : take 6 frame ≡ consumer.own
  pub source : part_at 6 6 frame ≡ consumer.partner
  pub cyclic : IsCyclic frame
  pub id : frame_id_in frame ≡ consumer.frame_id
  pub whole : type_place frame + 8 + consumer.size ≤ length frame
  pub short : length frame ≤ type_place frame + 1502
  pub valid : has_bit 2 (status_in consumer.size frame) ≡ true
  pub transferred : transfer_in consumer.size frame ≡ 0
  pub newer : is_newer consumer.last (counter_in consumer.size frame) ≡ true

-- ---- a frame that is sent

-- What a sender says with its frames: its own MAC address and that of its partner, their FrameID, their octets of data, whether its application
-- runs, and whether it has a problem.
pub record Provider : Type 0 where
  pub own : List ℕ
  pub partner : List ℕ
  pub frame_id : ℕ
  pub size : ℕ
  pub runs : Bool
  pub has_problem : Bool

-- DataStatus (4.7.2.1.3): State (bit 0) is primary, DataValid (2) is set, ProviderState (4) is Run if the application runs,
-- StationProblemIndicator (5) is set if there is no problem. Redundancy (1), Ignore (7) and the reserved bits 3 and 6 are 0.
pub record SaysStatus (runs has_problem : Bool) (status : ℕ) : Type 0 where
  pub primary : has_bit 0 status ≡ true
  pub redundancy : has_bit 1 status ≡ false
  pub valid : has_bit 2 status ≡ true
  pub reserved : has_bit 3 status ≡ false
  pub state : has_bit 4 status ≡ runs
  pub problem : has_bit 5 status ≡ not has_problem
  pub other : has_bit 6 status ≡ false
  pub ignored : has_bit 7 status ≡ false

-- A cyclic frame of this sender with this CycleCounter.
pub record IsProvided (provider : Provider) (cycle : ℕ) (frame : List ℕ) : Type 0 where
  pub destination : take 6 frame ≡ provider.partner
  pub source : part_at 6 6 frame ≡ provider.own
  pub id : frame_id_in frame ≡ provider.frame_id
  pub whole : type_place frame + 8 + provider.size ≤ length frame
  pub short : length frame ≤ type_place frame + 1502
  pub counter : counter_in provider.size frame ≡ cycle
  pub status : SaysStatus provider.runs provider.has_problem (status_in provider.size frame)
  pub transferred : transfer_in provider.size frame ≡ 0
