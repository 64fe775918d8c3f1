-- The blocks of a Connect as a reader finds them (IEC 61158-6-10, 5.2.4.1 to 5.2.4.7).
use Rattle.std.specs.Prelude.{◌≡◌, ◌+◌, ◌*◌, ◌^◌, ◌==◌, ◌<◌, ◌≤◌, ℕ, Bool, true, false, List, [], ◌∷◌, drop, length}
use Rattle.std.specs.List.{AllByRecursion}
use Rattle.pn_values.specs.declared.real.RealModule.{RealModule}
use Rattle.pn_values.specs.declared.real.RealSubmodule.{RealSubmodule}
use Rattle.connect_blocks.specs.declared.alarm_cr.AlarmCrBlockReq.{AlarmCrBlockReq}
use Rattle.connect_blocks.specs.declared.ar_block.ArBlockReq.{ArBlockReq}
use Rattle.connect_blocks.specs.declared.io_object.IoObject.{IoObject}
use Rattle.connect_blocks.specs.declared.iocr.IocrBlockReq.{IocrBlockReq}
use Rattle.connect_blocks.specs.declared.iocr.IocrType.{IocrType}
use Rattle.connect_blocks.specs.declared.iocr.IocrType.TheVariants.{Input, Output}
use Rattle.end_laws.specs.log_data.Reading.{number_at, octets_at}
use Rattle.fields_law.specs.Port.{IsBlock}
use Rattle.fields_law.specs.Relation.{rt_class}

-- ---- ARBlockReq (5.2.4.1)

-- BlockType 0x0101: ARType 1 (IOCARSingle), ARUUID, SessionKey, CMInitiatorMacAdd, CMInitiatorObjectUUID, ARProperties,
-- CMInitiatorActivityTimeoutFactor, CMInitiatorUDPRTPort, and CMInitiatorStationName after its length.
pub record IsRelationRequest (octets : List ℕ) (asked : ArBlockReq) : Type 0 where
  pub block : IsBlock octets 0x0101
  pub ar_type : number_at 6 2 octets ≡ 1
  pub ar_uuid : octets_at 8 16 octets ≡ asked.ar_uuid
  pub session_key : number_at 24 2 octets ≡ asked.session_key
  pub mac : octets_at 26 6 octets ≡ asked.cm_initiator_mac_add.octets
  pub object : octets_at 32 16 octets ≡ asked.cm_initiator_object_uuid
  pub properties : number_at 48 4 octets ≡ asked.ar_properties
  pub activity_timeout : number_at 52 2 octets ≡ asked.cm_initiator_activity_timeout_factor
  pub port : number_at 54 2 octets ≡ asked.cm_initiator_udp_rt_port
  pub name_length : number_at 56 2 octets ≡ length asked.cm_initiator_station_name.items
  pub name : octets_at 58 (length asked.cm_initiator_station_name.items) octets ≡ asked.cm_initiator_station_name.items
  pub end : length octets ≡ 58 + length asked.cm_initiator_station_name.items

-- Its fields have their sizes.
pub record IsSizedRelation (asked : ArBlockReq) : Type 0 where
  pub ar_uuid : length asked.ar_uuid ≡ 16
  pub session_key : asked.session_key < 65536
  pub mac : length asked.cm_initiator_mac_add.octets ≡ 6
  pub object : length asked.cm_initiator_object_uuid ≡ 16
  pub properties : asked.ar_properties < 256 ^ 4
  pub activity_timeout : asked.cm_initiator_activity_timeout_factor < 65536
  pub port : asked.cm_initiator_udp_rt_port < 65536
  pub name : length asked.cm_initiator_station_name.items ≤ 240

-- ---- IOCRBlockReq (5.2.4.3)

-- IOCRType.
abbrev pub iocr_type : IocrType → ℕ
iocr_type Input = 1
iocr_type Output = 2

-- Places in the data of a frame: SlotNumber, SubslotNumber, and IODataObjectFrameOffset or IOCSFrameOffset.
abbrev pub ArePlaces : List ℕ → List IoObject → Type 0
ArePlaces octets [] = Unit {0}
ArePlaces octets (object ∷ objects) =
    (number_at 0 2 octets ≡ object.slot_number) × (number_at 2 2 octets ≡ object.subslot_number) × (number_at 4 2 octets ≡ object.frame_offset)
    × ArePlaces (drop 6 octets) objects

-- BlockType 0x0102: IOCRType, IOCRReference, LT 0x8892, IOCRProperties.RTClass, DataLength, FrameID, SendClockFactor, ReductionRatio, Phase, Sequence,
-- FrameSendOffset, WatchdogFactor, DataHoldFactor, IOCRTagHeader, IOCRMulticastMACAdd, NumberOfAPIs 1, API 0; the data objects and the IOCS, each after
-- their number.
pub record IsCyclicRequest (octets : List ℕ) (asked : IocrBlockReq) : Type 0 where
  pub block : IsBlock octets 0x0102
  pub type_is : number_at 6 2 octets ≡ iocr_type asked.iocr_type
  pub reference : number_at 8 2 octets ≡ asked.iocr_reference
  pub ether_type : number_at 10 2 octets ≡ 0x8892
  pub properties : number_at 12 4 octets ≡ rt_class asked.iocr_properties
  pub data_length : number_at 16 2 octets ≡ asked.data_length
  pub frame_id : number_at 18 2 octets ≡ asked.frame_id
  pub send_clock_factor : number_at 20 2 octets ≡ asked.send_clock_factor
  pub reduction_ratio : number_at 22 2 octets ≡ asked.reduction_ratio
  pub phase : number_at 24 2 octets ≡ asked.phase
  pub sequence : number_at 26 2 octets ≡ asked.sequence
  pub frame_send_offset : number_at 28 4 octets ≡ asked.frame_send_offset
  pub watchdog_factor : number_at 32 2 octets ≡ asked.watchdog_factor
  pub data_hold_factor : number_at 34 2 octets ≡ asked.data_hold_factor
  pub tag_header : number_at 36 2 octets ≡ asked.iocr_tag_header
  pub multicast : octets_at 38 6 octets ≡ asked.iocr_multicast_mac_add.octets
  pub apis : number_at 44 2 octets ≡ 1
  pub api : number_at 46 4 octets ≡ 0
  pub object_count : number_at 50 2 octets ≡ length asked.io_data_objects
  pub objects : ArePlaces (drop 52 octets) asked.io_data_objects
  pub iocs_count : number_at (52 + 6 * length asked.io_data_objects) 2 octets ≡ length asked.iocs
  pub iocs : ArePlaces (drop (54 + 6 * length asked.io_data_objects) octets) asked.iocs
  pub end : length octets ≡ 54 + 6 * length asked.io_data_objects + 6 * length asked.iocs

-- The numbers of a place have their sizes.
pub record IsSizedPlace (object : IoObject) : Type 0 where
  pub slot : object.slot_number < 65536
  pub subslot : object.subslot_number < 65536
  pub offset : object.frame_offset < 65536

-- So have the fields of an IOCRBlockReq. It has at most 256 data objects and IOCS.
pub record IsSizedCyclic (asked : IocrBlockReq) : Type 0 where
  pub reference : asked.iocr_reference < 65536
  pub data_length : asked.data_length < 65536
  pub frame_id : asked.frame_id < 65536
  pub send_clock_factor : asked.send_clock_factor < 65536
  pub reduction_ratio : asked.reduction_ratio < 65536
  pub phase : asked.phase < 65536
  pub sequence : asked.sequence < 65536
  pub frame_send_offset : asked.frame_send_offset < 256 ^ 4
  pub watchdog_factor : asked.watchdog_factor < 65536
  pub data_hold_factor : asked.data_hold_factor < 65536
  pub tag_header : asked.iocr_tag_header < 65536
  pub multicast : length asked.iocr_multicast_mac_add.octets ≡ 6
  pub objects : AllByRecursion IsSizedPlace asked.io_data_objects
  pub few_objects : length asked.io_data_objects ≤ 256
  pub iocs : AllByRecursion IsSizedPlace asked.iocs
  pub few_iocs : length asked.iocs ≤ 256

-- ---- AlarmCRBlockReq (5.2.4.7)

-- BlockType 0x0103: AlarmCRType 1, LT 0x8892, AlarmCRProperties, RTATimeoutFactor, RTARetries, LocalAlarmReference, MaxAlarmDataLength,
-- AlarmCRTagHeaderHigh, AlarmCRTagHeaderLow.
pub record IsAlarmRequest (octets : List ℕ) (asked : AlarmCrBlockReq) : Type 0 where
  pub block : IsBlock octets 0x0103
  pub type_is : number_at 6 2 octets ≡ 1
  pub ether_type : number_at 8 2 octets ≡ 0x8892
  pub properties : number_at 10 4 octets ≡ asked.alarm_cr_properties
  pub timeout_factor : number_at 14 2 octets ≡ asked.rta_timeout_factor
  pub retries : number_at 16 2 octets ≡ asked.rta_retries
  pub reference : number_at 18 2 octets ≡ asked.local_alarm_reference
  pub data_length : number_at 20 2 octets ≡ asked.max_alarm_data_length
  pub tag_high : number_at 22 2 octets ≡ asked.tag_header_high
  pub tag_low : number_at 24 2 octets ≡ asked.tag_header_low
  pub end : length octets ≡ 26

-- Its fields have their sizes.
pub record IsSizedAlarm (asked : AlarmCrBlockReq) : Type 0 where
  pub properties : asked.alarm_cr_properties < 256 ^ 4
  pub timeout_factor : asked.rta_timeout_factor < 65536
  pub retries : asked.rta_retries < 65536
  pub reference : asked.local_alarm_reference < 65536
  pub data_length : asked.max_alarm_data_length < 65536
  pub tag_high : asked.tag_header_high < 65536
  pub tag_low : asked.tag_header_low < 65536

-- ---- ExpectedSubmoduleBlockReq (5.2.4.5)

-- DataDescription.Type (1 input, 2 output), SubmoduleDataLength, LengthIOCS 1 and LengthIOPS 1.
pub record IsDescription (octets : List ℕ) (type_of size : ℕ) : Type 0 where
  pub type_is : number_at 0 2 octets ≡ type_of
  pub data_length : number_at 2 2 octets ≡ size
  pub length_iocs : number_at 4 1 octets ≡ 1
  pub length_iops : number_at 5 1 octets ≡ 1

-- SubmoduleProperties.Type and the descriptions, by whether there is no input and no output: 0 (no data) with an input of no octets, 1 (input), 2
-- (output), 3 (both, the input first).
abbrev pub AreDescribed : Bool → Bool → List ℕ → RealSubmodule → Type 0
AreDescribed true true octets part = (number_at 0 2 octets ≡ 0) × IsDescription (drop 2 octets) 1 0
AreDescribed false true octets part = (number_at 0 2 octets ≡ 1) × IsDescription (drop 2 octets) 1 part.input
AreDescribed true false octets part = (number_at 0 2 octets ≡ 2) × IsDescription (drop 2 octets) 2 part.output
AreDescribed false false octets part =
    (number_at 0 2 octets ≡ 3) × IsDescription (drop 2 octets) 1 part.input × IsDescription (drop 8 octets) 2 part.output

-- The octets of a submodule: 14, or 20 with two descriptions.
abbrev pub submodule_size : Bool → Bool → ℕ
submodule_size true true = 14
submodule_size false true = 14
submodule_size true false = 14
submodule_size false false = 20

-- Submodules one after another, to the end: SubslotNumber, SubmoduleIdentNumber, and what describes their data.
abbrev pub AreSubmodules : List ℕ → List RealSubmodule → Type 0
AreSubmodules octets [] = octets ≡ []
AreSubmodules octets (part ∷ parts) =
    (number_at 0 2 octets ≡ part.subslot) × (number_at 2 4 octets ≡ part.ident) × AreDescribed (part.input == 0) (part.output == 0) (drop 6 octets) part
    × AreSubmodules (drop (submodule_size (part.input == 0) (part.output == 0)) octets) parts

-- BlockType 0x0104, of one module: NumberOfAPIs 1, API 0, SlotNumber, ModuleIdentNumber, ModuleProperties 0, NumberOfSubmodules; and the submodules.
pub record IsExpectedRequest (octets : List ℕ) (entry : RealModule) : Type 0 where
  pub block : IsBlock octets 0x0104
  pub apis : number_at 6 2 octets ≡ 1
  pub api : number_at 8 4 octets ≡ 0
  pub slot : number_at 12 2 octets ≡ entry.slot
  pub ident : number_at 14 4 octets ≡ entry.ident
  pub properties : number_at 18 2 octets ≡ 0
  pub count : number_at 20 2 octets ≡ length entry.submodules.items
  pub submodules : AreSubmodules (drop 22 octets) entry.submodules.items

-- The numbers of a submodule have their sizes.
pub record IsSizedSubmodule (part : RealSubmodule) : Type 0 where
  pub subslot : part.subslot < 65536
  pub ident : part.ident < 256 ^ 4
  pub input : part.input < 65536
  pub output : part.output < 65536

-- So have those of a module. It has at most 256 submodules.
pub record IsSizedModule (entry : RealModule) : Type 0 where
  pub slot : entry.slot < 65536
  pub ident : entry.ident < 256 ^ 4
  pub few : length entry.submodules.items ≤ 256
  pub submodules : AllByRecursion IsSizedSubmodule entry.submodules.items
