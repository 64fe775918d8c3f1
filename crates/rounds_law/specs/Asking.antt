-- A controller whose request was lost before its relation is established: it sends it again each second.
use Rattle.std.specs.Prelude.{◌≡◌, ◌⊎◌, ◌<◌, ◌+◌, ◌-◌, ℕ, [], ◌∷◌, if◌then◌else◌}
use Rattle.std.specs.List.{AllByRecursion}
use Rattle.pn_values.specs.declared.identity.Identity.{Identity}
use Rattle.pn_values.specs.declared.mac.Mac.{Mac}
use Rattle.plans.specs.declared.parts.Parts.{Parts}
use Rattle.device_core.specs.State.{Live}
use Rattle.controller_messages.specs.declared.request.Request.{Request}
use Rattle.controller_messages.specs.declared.request.Request.TheVariants.{Address, Connect, Identify}
use Rattle.controller_messages.specs.declared.setup.Setup.{Setup}
use Rattle.controller_messages.specs.Requests.{write_count}
use Rattle.controller_messages.specs.Sent.{Requests, bytes_of as controller_bytes}
use Rattle.controller_core.specs.declared.stored.state.State.{State as Phases}
use Rattle.controller_core.specs.declared.stored.state.State.TheVariants.{Addressing, Connecting, Looking}
use Rattle.controller_core.specs.stored.State.{Controlling}
use Rattle.controller_core.specs.Machine.{Stepped}
use Rattle.rounds_law.specs.Path.{HasAsked, IsAddressed, IsFree, IsIgnored, IsNamed, IsSized}
use Rattle.rounds_law.specs.Repeating.{completes, counts_on}
use Rattle.rounds_law.specs.Rounds.{Net}
use Rattle.rounds_law.specs.Start.{CanBeAddressed, IsOfPlan, start_up_limit}

-- ---- the controller

-- After a unit the controller still waits. The unit that completes a second sends the request again, and no other unit sends anything.
pub record AsksAgain (setup : Setup) (device : Mac) (phase : Phases) (request : Request) (before : Controlling) (step : Stepped) : Type 0 where
  pub frames : step.frames ≡ (if completes before.live.waited then controller_bytes setup (Requests device request) ∷ [] else [])
  pub asked : HasAsked setup device phase request step.controller
  pub waits : step.controller.live.waited ≡ counts_on before.live.waited
  pub left : step.controller.live.left ≡ before.live.left - 1

-- ---- the first stages

-- The stages before the relation is established.
pub data Stage : Type 0 where
  Searches : Stage
  Addresses : Stage
  Connects : Stage

-- The state of the controller in each stage of a start before its relation.
abbrev pub phase_in : Stage → Phases
phase_in Searches = Looking
phase_in Addresses = Addressing
phase_in Connects = Connecting

-- The request that the controller repeats in each stage.
abbrev pub request_in : Stage → Request
request_in Searches = Identify
request_in Addresses = Address
request_in Connects = Connect

-- The station that the controller asks: it knows none while it searches.
abbrev pub asked_in : Stage → Identity → Controlling → Mac
asked_in Searches identity controller = controller.live.device
asked_in Addresses identity controller = identity.mac
asked_in Connects identity controller = identity.mac

-- What a device needs for the rest of the start.
abbrev pub IsReadyFor : Stage → Setup → Live → Type 0
IsReadyFor Searches setup live = IsNamed setup live × IsSized live.values.running.suite × (IsAddressed setup live ⊎ CanBeAddressed live)
IsReadyFor Addresses setup live = IsNamed setup live × CanBeAddressed live
IsReadyFor Connects setup live = IsAddressed setup live

-- The units from the request on.
abbrev pub stage_limit : Parts → Stage → ℕ
stage_limit plan Searches = start_up_limit plan
stage_limit plan Addresses = write_count plan + 4
stage_limit plan Connects = write_count plan + 3

-- The request of this stage was lost, and is sent again before the patience ends. The device is the plan's, and has no relation.
pub record IsAskingAgain {F : Type 0} (setup : Setup) (identity : Identity) (stage : Stage) (net : Net F) : Type 0 where
  pub asked : HasAsked setup (asked_in stage identity net.controller) (phase_in stage) (request_in stage) net.controller
  pub unrepeated : net.controller.live.waited < 32000
  pub patient : (net.controller.live.left ≡ 0) ⊎ (32000 - net.controller.live.waited < net.controller.live.left)
  pub nothing : net.to_device ≡ []
  pub ignored : AllByRecursion (IsIgnored setup) net.to_controller
  pub of_device : net.device.station.identity ≡ identity
  pub of_plan : IsOfPlan setup net.device.station net.device.live.rest.real
  pub free : IsFree setup net.device.live
  pub ready : IsReadyFor stage setup net.device.live
