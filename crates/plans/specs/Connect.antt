-- The Connect of a plan (IEC 61158-6-10, 5.2.4.1 to 5.2.4.7): its blocks, and whether they fit into a frame.
use Rattle.std.specs.Prelude.{◌≡◌, ◌+◌, ◌-◌, ℕ, Bool, List, [], ◌∷◌, ◌++◌, map, nat_le, replicate, Option, Some, None, if◌then◌else◌}
use Rattle.pn_values.specs.declared.real.RealModule.{RealModule}
use Rattle.connect_blocks.specs.declared.iocr.IocrType.{IocrType}
use Rattle.connect_blocks.specs.declared.iocr.IocrType.TheVariants.{Input, Output}
use Rattle.connect_blocks.specs.declared.iocr.RtClass.TheVariants.{Class1}
use Rattle.connect_blocks.specs.declared.iocr.IocrBlockReq.{IocrBlockReq}
use Rattle.connect_blocks.specs.declared.ar_block.ArBlockReq.{ArBlockReq}
use Rattle.connect_blocks.specs.declared.alarm_cr.AlarmCrBlockReq.{AlarmCrBlockReq}
use Rattle.connect_blocks.specs.declared.expected.ExpectedSubmoduleBlockReq.{ExpectedSubmoduleBlockReq}
use Rattle.block_codec.specs.declared.block.Block.{Block}
use Rattle.block_codec.specs.declared.block.Block.TheVariants as is
use Rattle.block_codec.specs.Block.{block_bytes, block_of, block_size, front}
use Rattle.cyclic_data.specs.declared.place.PlaceKind.TheVariants.{Data, Iocs}
use Rattle.plans.specs.declared.parts.Parts.{Parts}
use Rattle.plans.specs.Numbers.{activity_factor, alarm_endpoint, alarm_factor, alarm_retries, high_tag, input_frame_id, low_tag, session_number}
use Rattle.plans.specs.Packed.{layout_in, object_of, octets_of, packed}
use Rattle.plans.specs.Parts.{data_of, module_of, submodule_of}

-- ARProperties 0x11: the relation is active, and the controller sends the parameters. The object is the controller's own, with instance 1,
-- DeviceID 0 and VendorID 0
abbrev pub initiator_object : List ℕ
initiator_object = 0xDE ∷ 0xA0 ∷ 0x00 ∷ 0x00 ∷ 0x6C ∷ 0x97 ∷ 0x11 ∷ 0xD1 ∷ 0x82 ∷ 0x71 ∷ 0x00 ∷ 0x01 ∷ 0x00 ∷ 0x00 ∷ 0x00 ∷ 0x00 ∷ []

-- The ARBlockReq of a plan.
abbrev pub ar_block : Parts → List ℕ → ArBlockReq
ar_block parts ar = record {
  ar_uuid = ar;
  session_key = session_number;
  cm_initiator_mac_add = parts.controller.mac;
  cm_initiator_object_uuid = initiator_object;
  ar_properties = 0x11;
  cm_initiator_activity_timeout_factor = activity_factor;
  cm_initiator_udp_rt_port = 0x8892;
  cm_initiator_station_name = record { items = parts.controller.name };
}

-- the IOCRReference and the FrameID of a direction: the device chooses the FrameID of outputs
abbrev pub reference_of : IocrType → ℕ
reference_of Input = 1
reference_of Output = 2

-- The FrameID that a controller asks for: of the outputs the device chooses it (0xFFFF).
abbrev pub asked_id : IocrType → ℕ
asked_id Input = input_frame_id
asked_id Output = 0xFFFF

-- the communication relation of a direction: RT_CLASS_1, Phase 1, at any time in the phase
abbrev pub iocr_block : Parts → IocrType → IocrBlockReq
iocr_block parts direction = record {
  iocr_type = direction;
  iocr_reference = reference_of direction;
  iocr_properties = Class1;
  data_length = (layout_in direction (data_of parts.real.modules.items)).data_length;
  frame_id = asked_id direction;
  send_clock_factor = parts.times.send_clock_factor;
  reduction_ratio = parts.times.reduction_ratio;
  phase = 1;
  sequence = 0;
  frame_send_offset = 0xFFFFFFFF;
  watchdog_factor = parts.times.data_hold_factor;
  data_hold_factor = parts.times.data_hold_factor;
  iocr_tag_header = high_tag;
  iocr_multicast_mac_add = record { octets = replicate 6 0 };
  io_data_objects = map object_of (packed direction Data 0 (data_of parts.real.modules.items));
  iocs = map object_of (packed direction Iocs (octets_of direction Data (data_of parts.real.modules.items)) (data_of parts.real.modules.items));
}

-- the communication relation of alarms
abbrev pub alarm_block : AlarmCrBlockReq
alarm_block = record {
  alarm_cr_properties = 0;
  rta_timeout_factor = alarm_factor;
  rta_retries = alarm_retries;
  local_alarm_reference = alarm_endpoint;
  max_alarm_data_length = 200;
  tag_header_high = high_tag;
  tag_header_low = low_tag;
}

-- the module that is expected in a slot
abbrev pub expected_block : RealModule → ExpectedSubmoduleBlockReq
expected_block entry = record {
  modules = record { modules = module_of entry ∷ []; submodules = map submodule_of entry.submodules.items };
}

-- the modules that are expected in all slots
abbrev pub expected_blocks : List RealModule → List Block
expected_blocks modules = map (λ entry. is.ExpectedSubmoduleBlockReq (expected_block entry)) modules

-- the blocks of the Connect, with this ARUUID
abbrev pub blocks_of : Parts → List ℕ → List Block
blocks_of parts ar =
    is.ArBlockReq (ar_block parts ar)
    ∷ is.IocrBlockReq (iocr_block parts Input)
    ∷ is.IocrBlockReq (iocr_block parts Output)
    ∷ is.AlarmCrBlockReq alarm_block
    ∷ expected_blocks parts.real.modules.items

-- the octets of blocks, one after another, and their number
abbrev pub bytes_of : List Block → List ℕ
bytes_of [] = []
bytes_of (block ∷ blocks) = block_bytes block ++ bytes_of blocks

-- The octets of these blocks.
abbrev pub size_of : List Block → ℕ
size_of [] = 0
size_of (block ∷ blocks) = block_size block + size_of blocks

-- the Connect of a plan, with this ARUUID
abbrev pub connect_of : Parts → List ℕ → List ℕ
connect_of parts ar = bytes_of (blocks_of parts ar)

-- reading a block's octets gives the block, for any octets after them
abbrev pub IsRead : Block → Type 0
IsRead block = (rest : List ℕ) → block_of (block_bytes block ++ rest) ≡ front block rest

-- ---- how long it is

-- an ARUUID: the length of a Connect does not depend on it
abbrev pub some_uuid : List ℕ
some_uuid = replicate 16 0

-- the blocks of the Connect have at most 1,372 octets
abbrev pub does_connect_fit : Parts → Bool
does_connect_fit parts = nat_le (size_of (blocks_of parts some_uuid)) 1372

-- the remaining octets after that many, if there are enough
abbrev pub less : Option ℕ → ℕ → Option ℕ
less None octets = None
less (Some left) octets = if nat_le octets left then Some (left - octets) else None

-- the remaining octets after blocks
abbrev pub left_behind : Option ℕ → List Block → Option ℕ
left_behind left [] = left
left_behind left (block ∷ blocks) = left_behind (less left (block_size block)) blocks
