-- The Connect of a plan as a reader finds it: its blocks one after another, with the numbers that the plan has (IEC 61158-6-10, 5.2.4).
use Rattle.std.specs.Prelude.{◌≡◌, ℕ, List, [], ◌∷◌, length, map, max, replicate}
use Rattle.std.specs.List.{AllByRecursion}
use Rattle.pn_values.specs.declared.real.RealModule.{RealModule}
use Rattle.connect_blocks.specs.declared.alarm_cr.AlarmCrBlockReq.{AlarmCrBlockReq}
use Rattle.connect_blocks.specs.declared.ar_block.ArBlockReq.{ArBlockReq}
use Rattle.connect_blocks.specs.declared.iocr.IocrBlockReq.{IocrBlockReq}
use Rattle.connect_blocks.specs.declared.iocr.IocrType.{IocrType}
use Rattle.connect_blocks.specs.declared.iocr.IocrType.TheVariants.{Input, Output}
use Rattle.connect_blocks.specs.declared.iocr.RtClass.TheVariants.{Class1}
use Rattle.cyclic_data.specs.declared.place.PlaceKind.TheVariants.{Data, Iocs}
use Rattle.plans.specs.declared.parts.Parts.{Parts}
use Rattle.plans.specs.Packed.{frame_octets, object_of, octets_of, packed}
use Rattle.plans.specs.Parts.{data_of}
use Rattle.fields_law.specs.Blocks.{after_block, first_block}
use Rattle.fields_law.specs.Connect.{IsAlarmRequest, IsCyclicRequest, IsExpectedRequest, IsRelationRequest, IsSizedModule}

-- SessionKey 1; CMInitiatorObjectUUID of instance 1 without DeviceID and VendorID; ARProperties 0x11 (active, CM initiator is parameter server);
-- CMInitiatorActivityTimeoutFactor 600 (60 s); CMInitiatorUDPRTPort 0x8892.
abbrev pub relation_of : Parts → List ℕ → ArBlockReq
relation_of parts ar = record {
  ar_uuid = ar;
  session_key = 1;
  cm_initiator_mac_add = parts.controller.mac;
  cm_initiator_object_uuid =
      0xDE ∷ 0xA0 ∷ 0x00 ∷ 0x00 ∷ 0x6C ∷ 0x97 ∷ 0x11 ∷ 0xD1 ∷ 0x82 ∷ 0x71 ∷ 0x00 ∷ 0x01 ∷ 0x00 ∷ 0x00 ∷ 0x00 ∷ 0x00 ∷ [];
  ar_properties = 0x11;
  cm_initiator_activity_timeout_factor = 600;
  cm_initiator_udp_rt_port = 0x8892;
  cm_initiator_station_name = record { items = parts.controller.name };
}

-- IOCRReference 1 of inputs, 2 of outputs.
abbrev pub reference_in : IocrType → ℕ
reference_in Input = 1
reference_in Output = 2

-- FrameID 0xC001 of inputs; of outputs 0xFFFF, which leaves the choice to the device.
abbrev pub id_in : IocrType → ℕ
id_in Input = 0xC001
id_in Output = 0xFFFF

-- RT_CLASS_1, DataLength of at least 40, SendClockFactor, ReductionRatio and DataHoldFactor of the plan, Phase 1, Sequence 0, FrameSendOffset
-- 0xFFFFFFFF (any time), WatchdogFactor as DataHoldFactor, IOCRTagHeader with priority 6, no multicast address, and the places of the plan.
abbrev pub cyclic_of : Parts → IocrType → IocrBlockReq
cyclic_of parts direction = record {
  iocr_type = direction;
  iocr_reference = reference_in direction;
  iocr_properties = Class1;
  data_length = max 40 (frame_octets direction (data_of parts.real.modules.items));
  frame_id = id_in direction;
  send_clock_factor = parts.times.send_clock_factor;
  reduction_ratio = parts.times.reduction_ratio;
  phase = 1;
  sequence = 0;
  frame_send_offset = 0xFFFFFFFF;
  watchdog_factor = parts.times.data_hold_factor;
  data_hold_factor = parts.times.data_hold_factor;
  iocr_tag_header = 0xC000;
  iocr_multicast_mac_add = record { octets = replicate 6 0 };
  io_data_objects = map object_of (packed direction Data 0 (data_of parts.real.modules.items));
  iocs = map object_of (packed direction Iocs (octets_of direction Data (data_of parts.real.modules.items)) (data_of parts.real.modules.items));
}

-- RTATimeoutFactor 1 (100 ms), RTARetries 3, LocalAlarmReference 1, MaxAlarmDataLength 200, tags with priority 6 and 5.
abbrev pub alarms_of : AlarmCrBlockReq
alarms_of = record {
  alarm_cr_properties = 0;
  rta_timeout_factor = 1;
  rta_retries = 3;
  local_alarm_reference = 1;
  max_alarm_data_length = 200;
  tag_header_high = 0xC000;
  tag_header_low = 0xA000;
}

-- An ExpectedSubmoduleBlockReq for each module, to the end.
abbrev pub AreExpected : List ℕ → List RealModule → Type 0
AreExpected octets [] = octets ≡ []
AreExpected octets (entry ∷ entries) = IsExpectedRequest (first_block octets) entry × AreExpected (after_block octets) entries

-- The blocks of a Connect: relation, inputs, outputs, alarms, and the modules.
pub record IsConnect (octets : List ℕ) (parts : Parts) (ar : List ℕ) : Type 0 where
  pub relation : IsRelationRequest (first_block octets) (relation_of parts ar)
  pub inputs : IsCyclicRequest (first_block (after_block octets)) (cyclic_of parts Input)
  pub outputs : IsCyclicRequest (first_block (after_block (after_block octets))) (cyclic_of parts Output)
  pub alarms : IsAlarmRequest (first_block (after_block (after_block (after_block octets)))) alarms_of
  pub modules : AreExpected (after_block (after_block (after_block (after_block octets)))) parts.real.modules.items

-- The address of the controller and the numbers of the modules have their sizes.
pub record IsSizedPlan (parts : Parts) : Type 0 where
  pub mac : length parts.controller.mac.octets ≡ 6
  pub modules : AllByRecursion IsSizedModule parts.real.modules.items
