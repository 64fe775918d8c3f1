-- A controller that is started again while its device may still have a relation, as often as is needed.
use Rattle.std.specs.Prelude.{◌≡◌, ◌+◌, ◌++◌, ℕ, suc, true, false, List, [], ◌∷◌, if◌then◌else◌, Some, None, Ok}
use Rattle.std.specs.List.{AllByRecursion}
use Rattle.flash_model.specs.declared.flash.Flash.{Ghosts as Flash}
use Rattle.pn_values.specs.IpSuite.{is_suite, is_zero}
use Rattle.pn_values.specs.declared.identity.Identity.{Identity}
use Rattle.pn_values.specs.declared.settings.Settings.{Settings}
use Rattle.settings_journal.specs.settings_store.Machine.{Outcome}
use Rattle.connect_blocks.specs.ArBlock.{is_some_uuid}
use Rattle.asked_records.specs.Asked.{is_repeat}
use Rattle.rpc_core.specs.Cache.{kept_of}
use Rattle.module_diff.specs.Diff.{diff_of}
use Rattle.plans.specs.Connect.{connect_of}
use Rattle.relations.specs.Connect.{connect_within}
use Rattle.relations.specs.RelationState.{RelationState}
use Rattle.relations.specs.declared.options.DeviceOptions.{DeviceOptions}
use Rattle.device_frames.specs.Sendable.{AreSendable}
use Rattle.device_core.specs.State.{Live, Station}
use Rattle.controller_messages.specs.declared.request.Request.{Request}
use Rattle.controller_messages.specs.declared.request.Request.TheVariants as asks
use Rattle.controller_messages.specs.declared.setup.Setup.{Setup}
use Rattle.controller_messages.specs.Requests.{write_count}
use Rattle.controller_core.specs.declared.stored.event.Event.TheVariants.{Tick}
use Rattle.controller_core.specs.declared.stored.state.Cause.TheVariants.{Refused}
use Rattle.controller_core.specs.declared.stored.state.State.{State as Phases}
use Rattle.controller_core.specs.declared.stored.state.State.TheVariants.{Addressing, Connecting}
use Rattle.controller_core.specs.stored.State.{Controlling, is_limited}
use Rattle.controller_core.specs.Machine.{step_of}
use Rattle.end_laws.specs.hearing.Stations.{IsSetup}
use Rattle.both_ends.specs.startup.Played.{ArePlaced, CanMeet}
use Rattle.both_ends.specs.startup.answer.Answer.{AcceptsInterval}
use Rattle.both_ends.specs.startup.request.Request.{no_rows, request_for}
use Rattle.network_world.specs.World.{is_ended}
use Rattle.rounds_law.specs.Abandoned.{EndsFor, IsReleasing}
use Rattle.rounds_law.specs.Again.{AreStarts, HasEnded, IsRefusal, Plant, unset_frame}
use Rattle.rounds_law.specs.Anywhere.{ChoosesWell, IsAnyController, IsAnyDevice, IsLate, ahead_limit, parting_limit}
use Rattle.rounds_law.specs.AnywhereFrames.{AreOwn, IsAnything}
use Rattle.rounds_law.specs.Connects.{AreWhole}
use Rattle.rounds_law.specs.Path.{Asks, FindsIt, IsAddressed, IsNamed, IsSearching, IsSized, controller_step, device_step, found_frame, request_to}
use Rattle.rounds_law.specs.Repeating.{completes, counts_on}
use Rattle.rounds_law.specs.Rounds.{Net}
use Rattle.rounds_law.specs.Stages.{IsAddressing, IsConnecting, Leads}
use Rattle.rounds_law.specs.Start.{CanStart, IsPatient, start_up_limit}

-- ---- the starts that follow

-- A later start of the same controller is possible: the same plan and options, and other calls.
pub record IsLaterStart (setup : Setup) (identity : Identity) (later : Setup) : Type 0 where
  pub can : CanStart later identity
  pub starts : AreStarts setup later

-- Each of these starts is such a later start, and so is each of them after each that precedes it.
abbrev pub StartsApart : Setup → Identity → List Setup → Type 0
StartsApart setup identity [] = Unit {0}
StartsApart setup identity (next ∷ later) = AllByRecursion (IsLaterStart setup identity) (next ∷ later) × StartsApart next identity later

-- ---- a device that has a relation

-- It refuses the Connect of any controller that it has stored no response to, unless that call is asked of its application. The relation, and
-- what is asked, are unchanged. For other activities it stores no response.
abbrev pub RefusesConnect : Setup → Identity → Type 0
RefusesConnect setup identity =
    CanMeet setup identity → is_zero setup.plan.station.suite.address ≡ false
    → (outcomes : List Outcome) (station : Station) (live : Live) (link : RelationState) → station.identity ≡ identity → IsAddressed setup live
    → live.rest.link ≡ Some link → kept_of setup.activity live.rest.calls ≡ None → is_repeat setup.activity 0 live.rest.asked ≡ false
    → AreSendable identity (device_step outcomes station live (request_to setup identity asks.Connect)).sent
    → (octets : List ℕ)
    × ((device_step outcomes station live (request_to setup identity asks.Connect)).frames ≡ octets ∷ [])
    × IsRefusal setup identity octets
    × ((device_step outcomes station live (request_to setup identity asks.Connect)).live.values ≡ live.values)
    × ((device_step outcomes station live (request_to setup identity asks.Connect)).live.rest.link ≡ live.rest.link)
    × ((activity : List ℕ) → (activity ≡ setup.activity → ⊥) → kept_of activity live.rest.calls ≡ None
    → kept_of activity (device_step outcomes station live (request_to setup identity asks.Connect)).live.rest.calls ≡ None)
    × ((device_step outcomes station live (request_to setup identity asks.Connect)).live.rest.asked ≡ live.rest.asked)

-- It refuses the Set of the IP suite, and nothing changes.
abbrev pub RefusesAddress : Setup → Identity → Type 0
RefusesAddress setup identity =
    (outcomes : List Outcome) (station : Station) (live : Live) (link : RelationState) → station.identity ≡ identity → live.rest.link ≡ Some link
    → ((device_step outcomes station live (request_to setup identity asks.Address)).frames ≡ unset_frame setup identity ∷ [])
    × ((device_step outcomes station live (request_to setup identity asks.Address)).live ≡ live)

-- ---- the laws of one start

-- What the laws of a start say of this set-up: of its plan, of what the device and the controller do with the first frames, of a refusal, and of
-- the start from its second stage on.
pub record StartLaws {F : Type 0} {S : ℕ} (as_flash : Flash F S) (identity : Identity) (setup : Setup) : Type 0 where
  pub real : IsSetup setup
  pub whole : AreWhole setup identity 14336
  pub same : diff_of (request_for setup.plan setup.ar).expected setup.plan.real.modules.items ≡ no_rows
  pub own : (options : DeviceOptions) → is_some_uuid setup.ar ≡ true → AcceptsInterval options setup.plan
      → connect_within options setup.plan.controller.mac None (connect_of setup.plan setup.ar) ≡ Ok (request_for setup.plan setup.ar)
  pub placed : ArePlaced setup.plan.records.items
  pub suite : is_suite setup.plan.station.suite ≡ true
  pub device_found : (outcomes : List Outcome) (station : Station) (live : Live) → station.identity ≡ identity → IsNamed setup live
      → ((device_step outcomes station live (request_to setup identity asks.Identify)).live ≡ live)
      × ((device_step outcomes station live (request_to setup identity asks.Identify)).frames
      ≡ found_frame setup identity live.values.running ∷ [])
  pub controller_found : IsPatient setup.plan setup.options → identity.vendor_id ≡ setup.plan.station.vendor_id
      → identity.device_id ≡ setup.plan.station.device_id → (settings : Settings) (controller : Controlling) → settings.name ≡ setup.plan.station.name
      → IsSized settings.suite → IsSearching setup controller
      → FindsIt setup identity settings (write_count setup.plan + 2) (controller_step controller (found_frame setup identity settings))
  pub controller_unit : (controller : Controlling) (phase : Phases) (request : Request) (spare : ℕ) → is_limited phase ≡ true
      → Asks setup identity.mac phase request None (suc spare) controller
      → Asks setup identity.mac phase request None spare (step_of controller Tick).controller
  pub controller_unsent : (controller : Controlling) (phase : Phases) (request : Request) (spare : ℕ) → is_limited phase ≡ true
      → Asks setup identity.mac phase request None (suc spare) controller → (step_of controller Tick).frames ≡ []
  pub device_refused : RefusesConnect setup identity
  pub device_unset : RefusesAddress setup identity
  pub controller_refused : (controller : Controlling) (spare : ℕ) (octets : List ℕ) → Asks setup identity.mac Connecting asks.Connect None spare controller
      → IsRefusal setup identity octets → EndsFor setup identity Refused 0 (controller_step controller octets)
  pub controller_unset : (controller : Controlling) (spare : ℕ) → Asks setup identity.mac Addressing asks.Address None spare controller
      → ((controller_step controller (unset_frame setup identity)).frames ≡ [])
      × HasEnded setup Refused (controller_step controller (unset_frame setup identity)).controller
  pub controller_ended : (controller : Controlling) → HasEnded setup Refused controller
      → ((step_of controller Tick).frames ≡ []) × HasEnded setup Refused (step_of controller Tick).controller
  pub controller_releasing : (sequence waited : ℕ) (controller : Controlling) → IsReleasing setup identity.mac Refused sequence waited controller
      → ((step_of controller Tick).frames ≡ (if completes waited then request_to setup identity (asks.Release sequence) ∷ [] else []))
      × IsReleasing setup identity.mac Refused sequence (counts_on waited) (step_of controller Tick).controller
  pub addressing : CanStart setup identity → (net : Net F) → IsAddressing setup identity net → Leads as_flash (write_count setup.plan + 4) net
  pub connecting : CanStart setup identity → (net : Net F) → IsConnecting setup identity net → Leads as_flash (write_count setup.plan + 3) net

-- ---- both ends

-- Both ends are in any state, and any frames of theirs are under way, in any order, repeated or not. The device is so for each of the starts
-- that follow. If the controller has ended, its device hears no more of it.
pub record IsAnywhereAmong {F : Type 0} (setup : Setup) (starts : List Setup) (identity : Identity) (silence : ℕ) (plant : Plant F) : Type 0 where
  pub controller : IsAnyController setup plant.net.controller
  pub devices : AllByRecursion (λ start. IsAnyDevice setup start identity silence plant.net.device.station plant.net.device.live) starts
  pub to_device : AreOwn setup IsAnything plant.net.to_device
  pub to_controller : AllByRecursion (ChoosesWell setup) plant.net.to_controller
  pub more : List Setup
  pub later : plant.later ≡ starts ++ more
  pub idle : is_ended plant.net.controller.live.phase ≡ false → plant.idle ≡ 0
  pub late : is_ended plant.net.controller.live.phase ≡ true → IsLate setup silence plant

-- Within how many units both exchange data, from any state and with any pause.
abbrev pub again_limit : Setup → ℕ → ℕ → ℕ
again_limit setup silence pause =
    ahead_limit setup.options + (parting_limit setup.plan silence + (silence + pause + 2 + start_up_limit setup.plan))
