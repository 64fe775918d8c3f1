-- The exchange of a relation that is established now, with the answer to its Connect (IEC 61158-6-10, 5.2.4).
use Rattle.std.specs.Prelude.{◌*◌, ℕ, List, None, map, if◌then◌else◌}
use Rattle.wire.specs.blocks.modules.Lists.{Listed}
use Rattle.connect_blocks.specs.declared.module_diff.DiffModule.{DiffModule}
use Rattle.connect_blocks.specs.declared.module_diff.DiffSubmodule.{DiffSubmodule}
use Rattle.module_diff.specs.Diff.{is_listed}
use Rattle.cyclic_data.specs.declared.place.PlaceKind.TheVariants.{Data, Iocs}
use Rattle.cyclic_data.specs.declared.place.Place.{Place}
use Rattle.cyclic_data.specs.Image.{Cell, good}
use Rattle.cyclic_data.specs.Status.{in_order}
use Rattle.connects.specs.declared.requests.parts.Iocr.{Iocr}
use Rattle.connects.specs.requests.Request.{Request}
use Rattle.pn_alarms.specs.Device.{idle}
use Rattle.diagnosis.specs.declared.alarms.alarms.Terms.{Terms}
use Rattle.diagnosis.specs.alarms.Alarms.{opened as low_opened}
use Rattle.cyclic_data.specs.declared.exchange.route.Route.{Route}
use Rattle.cyclic_data.specs.exchange.Opening.{StatusOf}
use Rattle.cyclic_data.specs.exchange.Opening.{begun_of as cyclic_begun, first_cell as first_with, opened as cyclic_opened}
use Rattle.relations.specs.declared.exchange.marks.Mark.{Mark}
use Rattle.relations.specs.exchange.Marks.{Starting, first_mark, iops_of, mark_at}
use Rattle.relations.specs.exchange.Flow.{Flow}
use Rattle.relations.specs.Numbers.{endpoint_of, output_id}

-- Cyclic frames and alarms go to CMInitiatorMacAdd and come from there, in a relation of this number.
abbrev pub route_of : ℕ → Request → Route
route_of number request = record {
  partner = request.ar.initiator;
  sent_id = request.input.frame_id;
  sent_tag = request.input.tag;
  taken_id = output_id number request.output;
  alarm_tag = request.alarm.tag_high;
  reference = request.alarm.reference;
}

-- An interval is SendClockFactor times ReductionRatio, in units of 31.25 microseconds.
abbrev pub interval_of : Iocr → ℕ
interval_of iocr = iocr.send_clock_factor * iocr.reduction_ratio

-- The IOCS of a submodule: 0, bad, if the ModuleDiffBlock lists it, otherwise good. Its IOPS is by its mark.
abbrev pub status_of : Listed DiffModule DiffSubmodule → ℕ → ℕ → ℕ
status_of rows slot subslot = if is_listed slot subslot rows then 0 else good

-- The statuses with which an exchange begins: IOPS of the inputs by their marks, IOCS of the outputs by what is plugged.
abbrev pub statuses_of : Listed DiffModule DiffSubmodule → List Mark → StatusOf
statuses_of rows marks Data slot subslot = iops_of (mark_at slot subslot marks)
statuses_of rows marks Iocs slot subslot = status_of rows slot subslot

-- A place of an input that was not given yet: zeros.
abbrev pub first_cell : Listed DiffModule DiffSubmodule → List Mark → Place → Cell
first_cell rows marks place = first_with (statuses_of rows marks) place

-- What it says of its alarms.
abbrev pub terms_of : Request → Terms
terms_of request = record { timeout_factor = request.alarm.timeout_factor; retries = request.alarm.retries; tag = request.alarm.tag_low }

-- The exchange that a Connect asks for, if these modules and submodules differ, and if the application says this of its
-- inputs. The interval of the inputs is counted from now. The data hold time is DataHoldFactor times the interval of the
-- outputs.
abbrev pub first_marks : Request → Listed DiffModule DiffSubmodule → Starting → List Mark
first_marks request rows starting = map (first_mark starting rows) request.input.layout.places

-- The exchange of a relation that a Connect makes.
abbrev pub opened : Request → Listed DiffModule DiffSubmodule → Starting → Flow
opened request rows starting = record {
  cyclic = cyclic_opened (route_of starting.number request) (record { interval = interval_of request.input; elapsed = 0 })
      (record { last = None; held = 0; limit = request.output.data_hold_factor * interval_of request.output })
      (statuses_of rows (first_marks request rows starting)) request.input.layout request.output.layout;
  alarms = idle request.alarm.timeout_factor request.alarm.retries;
  low = low_opened (terms_of request) request.expected rows starting.diagnoses;
  marks = first_marks request rows starting;
  is_running = starting.is_running;
  state_sent = in_order;
  endpoint = endpoint_of starting.number;
}

-- ApplicationReady was answered: data is exchanged, and the data hold time runs from now on.
abbrev pub begun_of : Flow → Flow
begun_of flow = record flow { cyclic = cyclic_begun flow.cyclic }
