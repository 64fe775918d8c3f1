-- The exchange of a relation before it starts, and the numbers of its frames.
use Rattle.std.specs.Prelude.{◌≡◌, ◌*◌, ℕ, false, List, [], map, replicate, None}
use Rattle.pn_values.specs.declared.mac.Mac.{Mac}
use Rattle.connect_blocks.specs.declared.iocr.IocrType.TheVariants.{Input, Output}
use Rattle.cyclic_data.specs.declared.place.PlaceKind.{PlaceKind}
use Rattle.cyclic_data.specs.declared.place.PlaceKind.TheVariants.{Data as at_data, Iocs as at_iocs}
use Rattle.cyclic_data.specs.Image.{good}
use Rattle.cyclic_data.specs.Timing.{Sending, Hearing}
use Rattle.cyclic_data.specs.declared.exchange.route.Route.{Route}
use Rattle.cyclic_data.specs.exchange.Cyclic.{Cyclic}
use Rattle.cyclic_data.specs.exchange.Opening.{opened}
use Rattle.plans.specs.declared.parts.Parts.{Parts}
use Rattle.plans.specs.declared.parts.Times.{Times}
use Rattle.plans.specs.Numbers.{high_tag, input_frame_id}
use Rattle.plans.specs.Packed.{layout_in}
use Rattle.plans.specs.Parts.{data_of}
use Rattle.controller_core.specs.declared.stored.outputs.OutputMark.{OutputMark}
use Rattle.controller_core.specs.stored.Outputs.{first_mark}

-- The partner, and the numbers of the frames, with the FrameID of outputs and the alarm endpoint that the device chose.
abbrev pub route_of : Mac → ℕ → ℕ → Route
route_of device frame_id reference = record {
  partner = device;
  sent_id = frame_id;
  sent_tag = high_tag;
  taken_id = input_frame_id;
  alarm_tag = high_tag;
  reference = reference;
}

-- The interval of cyclic frames in units: SendClockFactor times ReductionRatio.
abbrev pub interval_of : Times → ℕ
interval_of times = times.send_clock_factor * times.reduction_ratio

-- The clock of the outputs at the beginning of an exchange.
abbrev pub sending_of : Times → Sending
sending_of times = record { interval = interval_of times; elapsed = 0 }

-- IOPS is bad until a value is set, and IOCS is good.
abbrev pub first_status : PlaceKind → ℕ → ℕ → ℕ
first_status at_data slot subslot = 0
first_status at_iocs slot subslot = good

-- The address of no station.
abbrev pub nobody : Mac
nobody = record { octets = replicate 6 0 }

-- The data hold time is DataHoldFactor times the interval.
abbrev pub hearing_of : Times → Hearing
hearing_of times = record { last = None; held = 0; limit = times.data_hold_factor * interval_of times }

-- The cyclic data of a controller before its relation.
abbrev pub first_cyclic : Parts → Cyclic
first_cyclic plan =
    opened (route_of nobody 0xFFFF 1) (sending_of plan.times) (hearing_of plan.times) first_status
    (layout_in Output (data_of plan.real.modules.items)) (layout_in Input (data_of plan.real.modules.items))

-- An exchange that is not open: no data is exchanged, and no submodule has a place.
pub record IsClosed (cyclic : Cyclic) : Type 0 where
  pub begun : cyclic.begun ≡ false
  pub shown : cyclic.shown.cells ≡ []
  pub taken : cyclic.taken.cells ≡ []

-- No output was given, and the application says nothing against one.
abbrev pub first_outputs : Parts → List OutputMark
first_outputs plan = map first_mark (layout_in Output (data_of plan.real.modules.items)).places
