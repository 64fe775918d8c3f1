-- What the laws of both ends say of a set-up and a device, together.
use Rattle.std.specs.Prelude.{[], ◌+◌, ◌<◌, ◌∷◌, ◌≡◌, ◌≤◌, List, None, Some, false, map, suc, take, true, ℕ, Option}
use Rattle.settings_journal.specs.settings_store.Machine.{Outcome}
use Rattle.controller_messages.specs.declared.request.Request.TheVariants.{Address, Connect, Identify, PrmEnd, Write}
use Rattle.device_core.specs.State.{Live, Station}
use Rattle.device_core.specs.Local.{OnlyPullsAndPlugsChangeModules}
use Rattle.rounds_law.specs.Path.{Asks, AsksNext, BeginsNoTurn, Controls, Exchanges, FindsIt, HasRelation, IsAddressed, IsFree, IsInputs}
use Rattle.rounds_law.specs.Path.{IsNamed, IsOutputs, IsReport, IsSearching, IsSized, IsWritten, confirmed_frame, controller_step}
use Rattle.rounds_law.specs.Path.{device_step, ended_frame, found_frame, hold_of, readied_frame, request_to, set_frame}
use Rattle.rounds_law.specs.Start.{AreWritable, CanBeAddressed, IsOfPlan, IsPatient}
use Rattle.std.specs.List.{AllByRecursion}
use Rattle.pn_values.specs.IpSuite.{is_zero}
use Rattle.records.specs.declared.writes.taken.TakenRecord.{TakenRecord}
use Rattle.relations.specs.declared.phase.Phase.TheVariants.{Awaiting, Started}
use Rattle.device_frames.specs.Sendable.{AreSendable}
use Rattle.controller_messages.specs.Requests.{first_of, write_count, writing_from}
use Rattle.both_ends.specs.startup.Played.{CanMeet}
use Rattle.both_ends.specs.startup.answer.Answer.{AcceptsInterval, answer_frame}
use Rattle.both_ends.specs.startup.View.{taken_for}
use Rattle.relations.specs.declared.phase.Phase.{Phase}
use Rattle.relations.specs.Timers.{is_timed}
use Rattle.device_frames.specs.Heard.{Ticks}
use Rattle.device_core.specs.Handled.{number_now}
use Rattle.device_core.specs.Machine.{heard_step}
use Rattle.pn_values.specs.declared.settings.Settings.{Settings}
use Rattle.controller_core.specs.declared.stored.state.State.TheVariants.{Addressing, Connecting, Ending, Writing}
use Rattle.controller_core.specs.stored.State.{Controlling, is_limited, phase_for}
use Rattle.controller_core.specs.Machine.{step_of}
use Rattle.relations.specs.declared.options.DeviceOptions.{DeviceOptions}
use Rattle.rounds_law.specs.Rounds.{hears_all}
use Rattle.controller_core.specs.declared.stored.state.State.{State as Phases}
use Rattle.controller_core.specs.declared.stored.event.Event.TheVariants.{Tick}
use Rattle.controller_messages.specs.declared.request.Request.{Request}
use Rattle.pn_values.specs.declared.identity.Identity.{Identity}
use Rattle.controller_messages.specs.declared.setup.Setup.{Setup}

pub record Laws (setup : Setup) (identity : Identity) : Type 0 where
  pub modules : OnlyPullsAndPlugsChangeModules
  pub device_found : (outcomes : List Outcome) (station : Station) (live : Live) → station.identity ≡ identity → IsNamed setup live
      → ((device_step outcomes station live (request_to setup identity Identify)).live ≡ live)
      × ((device_step outcomes station live (request_to setup identity Identify)).frames
      ≡ found_frame setup identity live.values.running ∷ [])
  pub device_set : (station : Station) (live : Live) → station.identity ≡ identity
      → IsNamed setup live → IsFree setup live → CanBeAddressed live
      → ((device_step [] station live (request_to setup identity Address)).frames ≡ set_frame setup identity ∷ [])
      × IsNamed setup (device_step [] station live (request_to setup identity Address)).live
      × IsAddressed setup (device_step [] station live (request_to setup identity Address)).live
      × IsFree setup (device_step [] station live (request_to setup identity Address)).live
  pub device_connected : CanMeet setup identity → is_zero setup.plan.station.suite.address ≡ false
      → (outcomes : List Outcome) (station : Station) (live : Live) → station.identity ≡ identity → IsOfPlan setup station live.rest.real
      → IsAddressed setup live → IsFree setup live
      → ((device_step outcomes station live (request_to setup identity Connect)).frames
      ≡ answer_frame setup identity station.options (number_now station live) setup.plan.station.suite.address ∷ [])
      × ((device_step outcomes station live (request_to setup identity Connect)).live.values ≡ live.values)
      × HasRelation setup (number_now station live) Started [] 0 0 (device_step outcomes station live (request_to setup identity Connect)).live
  pub device_ended : CanMeet setup identity → is_zero setup.plan.station.suite.address ≡ false
      → (serial : ℕ) (outcomes : List Outcome) (station : Station) (live : Live) (taken : List TakenRecord) (last age : ℕ) → station.identity ≡ identity
      → IsOfPlan setup station live.rest.real → IsAddressed setup live → last ≤ write_count setup.plan → HasRelation setup serial Started taken last age live
      → ((device_step outcomes station live (request_to setup identity PrmEnd)).frames
      ≡ ended_frame setup identity ∷ readied_frame setup identity ∷ [])
      × ((device_step outcomes station live (request_to setup identity PrmEnd)).live.values ≡ live.values)
      × HasRelation setup serial Awaiting taken (write_count setup.plan + 1) 0
      (device_step outcomes station live (request_to setup identity PrmEnd)).live
  pub device_confirmed : CanMeet setup identity → is_zero setup.plan.station.suite.address ≡ false
      → (serial : ℕ) (outcomes : List Outcome) (station : Station) (live : Live) (taken : List TakenRecord) (last age : ℕ) → station.identity ≡ identity
      → IsOfPlan setup station live.rest.real → IsAddressed setup live → HasRelation setup serial Awaiting taken last age live
      → AreSendable identity (device_step outcomes station live (confirmed_frame setup identity)).sent
      → AllByRecursion (IsReport setup identity) (device_step outcomes station live (confirmed_frame setup identity)).frames
      × ((device_step outcomes station live (confirmed_frame setup identity)).live.values ≡ live.values)
      × Exchanges setup serial 0 (device_step outcomes station live (confirmed_frame setup identity)).live
  pub device_written : CanMeet setup identity → is_zero setup.plan.station.suite.address ≡ false → AreWritable setup
      → (serial : ℕ) (outcomes : List Outcome) (station : Station) (live : Live) (number age : ℕ) → station.identity ≡ identity
      → IsOfPlan setup station live.rest.real → IsAddressed setup live → number < write_count setup.plan
      → HasRelation setup serial Started (map taken_for (take (first_of setup.plan number) setup.plan.records.items)) number age live
      → (octets : List ℕ)
      × ((device_step outcomes station live (request_to setup identity (Write number))).frames ≡ octets ∷ [])
      × IsWritten setup identity number octets
      × ((device_step outcomes station live (request_to setup identity (Write number))).live.values ≡ live.values)
      × HasRelation setup serial Started (map taken_for (take (first_of setup.plan (number + 1)) setup.plan.records.items)) (number + 1) 0
      (device_step outcomes station live (request_to setup identity (Write number))).live
  pub device_free : (outcomes : List Outcome) (station : Station) (live : Live) → IsFree setup live
      → ((heard_step outcomes station live Ticks).frames ≡ []) × ((heard_step outcomes station live Ticks).live.values ≡ live.values)
      × IsFree setup (heard_step outcomes station live Ticks).live
  pub device_unit : (serial : ℕ) (outcomes : List Outcome) (station : Station) (live : Live) (phase : Phase) (taken : List TakenRecord) (last age : ℕ)
      → station.identity ≡ identity → is_timed phase ≡ true → age < 31000 → HasRelation setup serial phase taken last age live
      → AllByRecursion (IsInputs setup identity) (heard_step outcomes station live Ticks).frames
      × ((heard_step outcomes station live Ticks).live.values ≡ live.values)
      × HasRelation setup serial phase taken last (suc age) (heard_step outcomes station live Ticks).live
  pub device_outputs : (serial : ℕ) (outcomes : List Outcome) (station : Station) (live : Live) (phase : Phase) (taken : List TakenRecord) (last age : ℕ)
      (octets : List ℕ) → station.identity ≡ identity → IsOutputs setup (Some serial) identity.mac octets
      → HasRelation setup serial phase taken last age live
      → ((device_step outcomes station live octets).frames ≡ []) × ((device_step outcomes station live octets).live.values ≡ live.values)
      × HasRelation setup serial phase taken last age (device_step outcomes station live octets).live
  pub device_later_unit : (serial : ℕ) (outcomes : List Outcome) (station : Station) (live : Live) (age : ℕ) → station.identity ≡ identity
      → age + 2 ≤ hold_of setup.plan → age < 3000 → Exchanges setup serial age live
      → ((heard_step outcomes station live Ticks).live.values ≡ live.values) × Exchanges setup serial (suc age) (heard_step outcomes station live Ticks).live
  pub device_later_outputs : (serial : ℕ) (outcomes : List Outcome) (station : Station) (live : Live) (age : ℕ) (octets : List ℕ) → station.identity ≡ identity
      → IsOutputs setup (Some serial) identity.mac octets → Exchanges setup serial age live
      → ((device_step outcomes station live octets).frames ≡ []) × ((device_step outcomes station live octets).live.values ≡ live.values)
      × Exchanges setup serial age (device_step outcomes station live octets).live
  pub controller_found : IsPatient setup.plan setup.options → identity.vendor_id ≡ setup.plan.station.vendor_id
      → identity.device_id ≡ setup.plan.station.device_id
      → (settings : Settings) (controller : Controlling) → settings.name ≡ setup.plan.station.name
      → IsSized settings.suite → IsSearching setup controller
      → FindsIt setup identity settings (write_count setup.plan + 2) (controller_step controller (found_frame setup identity settings))
  pub controller_set : IsPatient setup.plan setup.options → (controller : Controlling) (spare : ℕ)
      → Asks setup identity.mac Addressing Address None spare controller
      → AsksNext setup identity Connecting Connect None (write_count setup.plan + 2) (controller_step controller (set_frame setup identity))
  pub controller_connected : CanMeet setup identity → IsPatient setup.plan setup.options
      → (options : DeviceOptions) → AcceptsInterval options setup.plan → (serial : ℕ) → serial < 14336 → (controller : Controlling) (spare : ℕ)
      → Asks setup identity.mac Connecting Connect None spare controller
      → AsksNext setup identity (phase_for (writing_from setup.plan 0)) (writing_from setup.plan 0) (Some serial) (write_count setup.plan + 2)
      (controller_step controller (answer_frame setup identity options serial setup.plan.station.suite.address))
  pub controller_written : CanMeet setup identity → IsPatient setup.plan setup.options
      → (serial : ℕ) (controller : Controlling) (number spare : ℕ) (octets : List ℕ) → number < write_count setup.plan → spare ≤ write_count setup.plan + 2
      → Asks setup identity.mac Writing (Write number) (Some serial) spare controller → IsWritten setup identity number octets
      → AsksNext setup identity (phase_for (writing_from setup.plan (number + 1))) (writing_from setup.plan (number + 1)) (Some serial) spare
      (controller_step controller octets)
  pub controller_readied : CanMeet setup identity → (serial : ℕ) (controller : Controlling) (spare : ℕ)
      → Asks setup identity.mac Ending PrmEnd (Some serial) spare controller
      → ((hears_all controller (ended_frame setup identity ∷ readied_frame setup identity ∷ [])).frames
      ≡ confirmed_frame setup identity ∷ [])
      × Controls setup serial identity.mac 0 (hears_all controller (ended_frame setup identity ∷ readied_frame setup identity ∷ [])).controller
      × ((hears_all controller (ended_frame setup identity ∷ readied_frame setup identity ∷ [])).controller.live.low_alarms.sending.waiting ≡ None)
      × BeginsNoTurn (hears_all controller (ended_frame setup identity ∷ readied_frame setup identity ∷ [])).controller.live
  pub controller_unit : (controller : Controlling) (phase : Phases) (request : Request) (stands : Option ℕ) (spare : ℕ) → is_limited phase ≡ true
      → Asks setup identity.mac phase request stands (suc spare) controller
      → AllByRecursion (IsOutputs setup stands identity.mac) (step_of controller Tick).frames
      × Asks setup identity.mac phase request stands spare (step_of controller Tick).controller
  pub controller_unsent : (controller : Controlling) (phase : Phases) (request : Request) (spare : ℕ) → is_limited phase ≡ true
      → Asks setup identity.mac phase request None (suc spare) controller → (step_of controller Tick).frames ≡ []
  pub controller_inputs : (controller : Controlling) (phase : Phases) (request : Request) (stands : Option ℕ) (spare : ℕ) (octets : List ℕ)
      → IsInputs setup identity octets → Asks setup identity.mac phase request stands spare controller
      → ((controller_step controller octets).frames ≡ []) × Asks setup identity.mac phase request stands spare (controller_step controller octets).controller
  pub controller_later_unit : (serial : ℕ) (controller : Controlling) (age : ℕ) → age + 2 ≤ hold_of setup.plan → age < 3000 → Controls setup serial identity.mac age controller
      → Controls setup serial identity.mac (suc age) (step_of controller Tick).controller
      × (controller.live.low_alarms.sending.waiting ≡ None → BeginsNoTurn controller.live
      → AllByRecursion (IsOutputs setup (Some serial) identity.mac) (step_of controller Tick).frames
      × ((step_of controller Tick).controller.live.low_alarms.sending.waiting ≡ None))
  pub controller_later_inputs : (serial : ℕ) (controller : Controlling) (age : ℕ) (octets : List ℕ)
      → IsInputs setup identity octets → Controls setup serial identity.mac age controller
      → ((controller_step controller octets).frames ≡ []) × Controls setup serial identity.mac age (controller_step controller octets).controller
  pub controller_reported : (serial : ℕ) (controller : Controlling) (age : ℕ) (octets : List ℕ) → IsReport setup identity octets → Controls setup serial identity.mac age controller
      → Controls setup serial identity.mac age (controller_step controller octets).controller
