-- The premises of a start: what the law requires of the device, the plan and the options.
use Rattle.std.specs.Prelude.{◌≡◌, ◌≤◌, ◌+◌, ◌*◌, ◌⊎◌, ℕ, false, [], ◌∷◌, length, Some}
use Rattle.std.specs.List.{AllByRecursion}
use Rattle.pn_values.specs.declared.identity.Identity.{Identity}
use Rattle.pn_values.specs.IpSuite.{is_zero}
use Rattle.pn_values.specs.declared.real.Real.{Real}
use Rattle.records.specs.reads.Parameters.{parameter_length}
use Rattle.asked_records.specs.Names.{last_index}
use Rattle.plans.specs.declared.parts.Parts.{Parts}
use Rattle.plans.specs.declared.parts.PlanRecord.{PlanRecord}
use Rattle.controller_messages.specs.declared.setup.ControllerOptions.{ControllerOptions}
use Rattle.controller_messages.specs.declared.setup.Setup.{Setup}
use Rattle.controller_messages.specs.Requests.{write_count}
use Rattle.controller_core.specs.Machine.{first as first_live, opening_of}
use Rattle.device_core.specs.State.{Live, Station}
use Rattle.both_ends.specs.startup.Played.{CanMeet}
use Rattle.both_ends.specs.startup.answer.Answer.{AcceptsInterval}
use Rattle.rounds_law.specs.Path.{IsAddressed, IsFree, IsNamed, IsSized}
use Rattle.rounds_law.specs.Rounds.{Net}

-- Within this many units: one each for the Identify, the IP suite, the Connect, each Write, PrmEnd, and the answer to
-- What the call ApplicationReady has in it.
abbrev pub start_up_limit : Parts → ℕ
start_up_limit plan = write_count plan + 5

-- The patience of the controller is off, or is longer than all Writes take.
abbrev pub IsPatient : Parts → ControllerOptions → Type 0
IsPatient plan options = (options.patience ≡ 0) ⊎ (write_count plan + 3 ≤ options.patience)

-- The data hold time has at least four units.
abbrev pub HoldsLong : Parts → Type 0
HoldsLong plan = 4 ≤ plan.times.data_hold_factor * (plan.times.send_clock_factor * plan.times.reduction_ratio)

-- The device is the one of the plan: it has the plan's VendorID and DeviceID, and these modules are the plan's; it accepts the plan's
-- interval, and sends ApplicationReady without its application. The records that its application answers have indices below 0x8000, as each
-- device checks.
pub record IsOfPlan (setup : Setup) (station : Station) (real : Real) : Type 0 where
  pub vendor : station.identity.vendor_id ≡ setup.plan.station.vendor_id
  pub device : station.identity.device_id ≡ setup.plan.station.device_id
  pub plugged : real ≡ setup.plan.real
  pub interval : AcceptsInterval station.options setup.plan
  pub ready : station.options.ready_by_application ≡ false
  pub names : AllByRecursion (λ name. name.index ≤ last_index) station.named

-- The device can store an IP suite: no commit of its settings has failed since it started, and there is room for one more.
pub record CanBeAddressed (live : Live) : Type 0 where
  pub unfailed : live.values.has_failed ≡ false
  pub room : 1 ≤ live.values.room

-- The device accepts this record: it is a parameter record of a submodule that is plugged, with the length that this submodule requires.
abbrev pub IsWritable : Real → PlanRecord → Type 0
IsWritable real entry = parameter_length real.modules.items entry.slot entry.subslot entry.index ≡ Some (length entry.data.items)

-- The device accepts each record of the plan.
abbrev pub AreWritable : Setup → Type 0
AreWritable setup = AllByRecursion (IsWritable setup.plan.real) setup.plan.records.items

-- A start: the controller was just made, and its Identify is under way. The device has the plan's name and no relation, and has stored no
-- response to this controller. It has the plan's IP suite, or can store one.
pub record IsStart {F : Type 0} (setup : Setup) (identity : Identity) (net : Net F) : Type 0 where
  pub of_setup : net.controller.setup ≡ setup
  pub made : net.controller.live ≡ first_live setup.plan
  pub opened : net.to_device ≡ opening_of net.controller ∷ []
  pub silent : net.to_controller ≡ []
  pub of_device : net.device.station.identity ≡ identity
  pub of_plan : IsOfPlan setup net.device.station net.device.live.rest.real
  pub named : IsNamed setup net.device.live
  pub free : IsFree setup net.device.live
  pub sized : IsSized net.device.live.values.running.suite
  pub addressed : IsAddressed setup net.device.live ⊎ CanBeAddressed net.device.live

-- The premises about the set-up and the device's identity.
pub record CanStart (setup : Setup) (identity : Identity) : Type 0 where
  pub can_meet : CanMeet setup identity
  pub has_address : is_zero setup.plan.station.suite.address ≡ false
  pub patient : IsPatient setup.plan setup.options
  pub holds : HoldsLong setup.plan
  pub records : AreWritable setup
