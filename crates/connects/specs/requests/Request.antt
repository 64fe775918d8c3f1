-- What a Connect asks for (IEC 61158-6-10, 5.2.4.1 to 5.2.4.7).
use Rattle.std.specs.Prelude.{◌≡◌, ◌==◌, ◌≤◌, ℕ, Bool, true, false, if◌then◌else◌}
use Rattle.connect_blocks.specs.declared.ar_block.ArBlockReq.{ArBlockReq}
use Rattle.connect_blocks.specs.declared.alarm_cr.AlarmCrBlockReq.{AlarmCrBlockReq}
use Rattle.connect_blocks.specs.declared.iocr.IocrType.{IocrType}
use Rattle.connect_blocks.specs.declared.iocr.IocrType.TheVariants.{Input, Output}
use Rattle.connect_blocks.specs.declared.iocr.RtClass.{RtClass}
use Rattle.connect_blocks.specs.declared.iocr.RtClass.TheVariants.{Class1, Class2}
use Rattle.connect_blocks.specs.declared.iocr.IocrBlockReq.{IocrBlockReq}
use Rattle.connect_blocks.specs.Iocr.{is_frame_id}
use Rattle.module_diff.specs.declared.expected.Expected.{Expected}
use Rattle.cyclic_data.specs.Layout.{Table}
use Rattle.connects.specs.declared.requests.parts.Ar.{Ar}
use Rattle.connects.specs.declared.requests.parts.Iocr.{Iocr}
use Rattle.connects.specs.declared.requests.parts.AlarmCr.{AlarmCr}

-- What is asked for: the relation, the communication relations of inputs, of outputs and of alarms, which of the first
-- two was asked for first, and the modules and submodules that are expected.
pub record Request : Type 0 where
  pub ar : Ar
  pub input_first : Bool
  pub input : Iocr
  pub output : Iocr
  pub alarm : AlarmCr
  pub expected : Expected

-- ---- the fields of each block that are used

-- What a request keeps of its AR block.
abbrev pub ar_of : ArBlockReq → Ar
ar_of block = record {
  uuid = block.ar_uuid;
  session_key = block.session_key;
  initiator = block.cm_initiator_mac_add;
  object = block.cm_initiator_object_uuid;
  properties = block.ar_properties;
  timeout_factor = block.cm_initiator_activity_timeout_factor;
  name = block.cm_initiator_station_name;
}

-- What a request keeps of its AlarmCR block.
abbrev pub alarm_of : AlarmCrBlockReq → AlarmCr
alarm_of block = record {
  timeout_factor = block.rta_timeout_factor;
  retries = block.rta_retries;
  reference = block.local_alarm_reference;
  tag_high = block.tag_header_high;
  tag_low = block.tag_header_low;
}

-- The FrameID that the device chooses for a class.
abbrev pub chosen_id : RtClass → ℕ
chosen_id Class1 = 0xC000
chosen_id Class2 = 0x8000

-- The FrameID that is assigned: an output may leave the choice to the device.
abbrev pub given_id : IocrType → RtClass → ℕ → ℕ
given_id Input class id = id
given_id Output class id = if id == 0xFFFF then chosen_id class else id

-- Whether it leaves the choice.
abbrev pub leaves_choice : IocrType → ℕ → Bool
leaves_choice Input id = false
leaves_choice Output id = id == 0xFFFF

-- What a request keeps of an IOCR block.
abbrev pub iocr_of : IocrBlockReq → Table → Iocr
iocr_of block layout = record {
  reference = block.iocr_reference;
  class = block.iocr_properties;
  frame_id = given_id block.iocr_type block.iocr_properties block.frame_id;
  device_chooses = leaves_choice block.iocr_type block.frame_id;
  send_clock_factor = block.send_clock_factor;
  reduction_ratio = block.reduction_ratio;
  data_hold_factor = block.data_hold_factor;
  tag = block.iocr_tag_header;
  layout = layout;
}

-- ---- the ranges that each of them is in (IEC 61158-6-10, 5.2.4)

-- The activity timeout is in its range, 1 to 1,000 (5.2.4.4).
pub record IsAr (ar : Ar) : Type 0 where
  pub timeout_least : 1 ≤ ar.timeout_factor
  pub timeout_greatest : ar.timeout_factor ≤ 1000

-- FrameID, SendClockFactor, ReductionRatio and DataHoldFactor are in their ranges.
pub record IsIocr (iocr : Iocr) : Type 0 where
  pub id : is_frame_id Input iocr.frame_id ≡ true
  pub clock_least : 1 ≤ iocr.send_clock_factor
  pub clock_greatest : iocr.send_clock_factor ≤ 128
  pub ratio_least : 1 ≤ iocr.reduction_ratio
  pub ratio_greatest : iocr.reduction_ratio ≤ 512
  pub hold_least : 1 ≤ iocr.data_hold_factor
  pub hold_greatest : iocr.data_hold_factor ≤ 7680

-- RTATimeoutFactor and RTARetries are in their ranges.
pub record IsAlarmCr (alarm : AlarmCr) : Type 0 where
  pub timeout : 1 ≤ alarm.timeout_factor
  pub retries_least : 1 ≤ alarm.retries
  pub retries_greatest : alarm.retries ≤ 15

-- All parts of a request.
pub record IsRequest (request : Request) : Type 0 where
  pub ar : IsAr request.ar
  pub input : IsIocr request.input
  pub output : IsIocr request.output
  pub alarm : IsAlarmCr request.alarm
