-- What the Connect of a plan asks for, from the parts of the plan.
use Rattle.std.specs.Prelude.{ℕ, Bool, true, false, List, [], ◌∷◌, ◌++◌, map}
use Rattle.pn_values.specs.declared.real.RealModule.{RealModule}
use Rattle.connect_blocks.specs.declared.iocr.IocrType.{IocrType}
use Rattle.connect_blocks.specs.declared.iocr.IocrType.TheVariants.{Input, Output}
use Rattle.connect_blocks.specs.declared.iocr.RtClass.TheVariants.{Class1}
use Rattle.connect_blocks.specs.declared.expected.ExpectedSubmodule.{ExpectedSubmodule}
use Rattle.connect_blocks.specs.declared.module_diff.DiffModule.{DiffModule}
use Rattle.connect_blocks.specs.declared.module_diff.DiffSubmodule.{DiffSubmodule}
use Rattle.wire.specs.blocks.modules.Lists.{Listed}
use Rattle.module_diff.specs.declared.expected.Expected.{Expected}
use Rattle.connects.specs.declared.requests.parts.Ar.{Ar}
use Rattle.connects.specs.declared.requests.parts.Iocr.{Iocr}
use Rattle.connects.specs.declared.requests.parts.AlarmCr.{AlarmCr}
use Rattle.connects.specs.requests.Request.{Request}
use Rattle.plans.specs.declared.parts.Parts.{Parts}
use Rattle.plans.specs.Packed.{layout_in}
use Rattle.plans.specs.Parts.{data_of, module_of, submodule_of}
use Rattle.plans.specs.Connect.{asked_id, initiator_object, reference_of}
use Rattle.plans.specs.Numbers.{activity_factor, alarm_endpoint, alarm_factor, alarm_retries, high_tag, low_tag, session_number}

-- The submodules of modules, in order.
abbrev pub submodules_in : List RealModule → List ExpectedSubmodule
submodules_in [] = []
submodules_in (entry ∷ modules) = map submodule_of entry.submodules.items ++ submodules_in modules

-- Modules are expected as they are.
abbrev pub expected_of : List RealModule → Expected
expected_of modules = record { modules = record { items = map module_of modules }; submodules = record { items = submodules_in modules } }

-- The relation with this ARUUID, to the controller.
abbrev pub ar_for : Parts → List ℕ → Ar
ar_for parts ar = record {
  uuid = ar;
  session_key = session_number;
  initiator = parts.controller.mac;
  object = initiator_object;
  properties = 0x11;
  timeout_factor = activity_factor;
  name = record { items = parts.controller.name };
}

-- The FrameIDs: the controller chooses that of inputs, and the device that of outputs; this is the first one that it may choose.
abbrev pub frame_id_of : IocrType → ℕ
frame_id_of Input = asked_id Input
frame_id_of Output = 0xC000

-- Whether the controller leaves the choice of the FrameID to the device.
abbrev pub device_chooses_of : IocrType → Bool
device_chooses_of Input = false
device_chooses_of Output = true

-- The communication relation of a direction, with the plan's times and its layout.
abbrev pub iocr_for : Parts → IocrType → Iocr
iocr_for parts direction = record {
  reference = reference_of direction;
  class = Class1;
  frame_id = frame_id_of direction;
  device_chooses = device_chooses_of direction;
  send_clock_factor = parts.times.send_clock_factor;
  reduction_ratio = parts.times.reduction_ratio;
  data_hold_factor = parts.times.data_hold_factor;
  tag = high_tag;
  layout = layout_in direction (data_of parts.real.modules.items);
}

-- The communication relation of alarms.
abbrev pub alarm_for : AlarmCr
alarm_for = record { timeout_factor = alarm_factor; retries = alarm_retries; reference = alarm_endpoint; tag_high = high_tag; tag_low = low_tag }

-- The request of a plan.
abbrev pub request_for : Parts → List ℕ → Request
request_for parts ar = record {
  ar = ar_for parts ar;
  input_first = true;
  input = iocr_for parts Input;
  output = iocr_for parts Output;
  alarm = alarm_for;
  expected = expected_of parts.real.modules.items;
}

-- No module differs.
abbrev pub no_rows : Listed DiffModule DiffSubmodule
no_rows = record { modules = []; submodules = [] }
