-- What the laws of a wait for ApplicationReady say of a set-up and a device, together.
use Rattle.std.specs.Prelude.{◌≡◌, ◌<◌, ◌+◌, ℕ, suc, List, [], ◌∷◌, None, Some}
use Rattle.std.specs.List.{AllByRecursion}
use Rattle.pn_values.specs.declared.identity.Identity.{Identity}
use Rattle.settings_journal.specs.settings_store.Machine.{Outcome}
use Rattle.device_frames.specs.Heard.{Ticks}
use Rattle.device_core.specs.State.{Live, Station}
use Rattle.device_core.specs.Machine.{heard_step}
use Rattle.controller_messages.specs.declared.setup.Setup.{Setup}
use Rattle.controller_core.specs.declared.stored.event.Event.TheVariants.{Tick}
use Rattle.controller_core.specs.stored.State.{Controlling}
use Rattle.controller_core.specs.Machine.{step_of}
use Rattle.rounds_law.specs.Middle.{IsAwaiting, WaitsForReady, WaitsOn}
use Rattle.rounds_law.specs.Path.{BeginsNoTurn, Controls, IsAddressed, IsInputs, IsOutputs, confirmed_frame, controller_step, device_step, readied_frame}

pub record WaitLaws (setup : Setup) (identity : Identity) : Type 0 where
  pub device_unit : (serial : ℕ) (outcomes : List Outcome) (station : Station) (live : Live) (waited inactive : ℕ) → station.identity ≡ identity
      → IsAddressed setup live → inactive + 1 < 1920000 → IsAwaiting setup serial waited inactive live
      → WaitsOn setup serial identity waited inactive live (heard_step outcomes station live Ticks)
  pub device_outputs : (serial : ℕ) (outcomes : List Outcome) (station : Station) (live : Live) (waited inactive : ℕ) (octets : List ℕ)
      → station.identity ≡ identity → IsOutputs setup (Some serial) identity.mac octets → IsAwaiting setup serial waited inactive live
      → ((device_step outcomes station live octets).frames ≡ []) × ((device_step outcomes station live octets).live.values ≡ live.values)
      × IsAwaiting setup serial waited inactive (device_step outcomes station live octets).live
  pub controller_unit : (serial : ℕ) (controller : Controlling) (spare : ℕ) → WaitsForReady setup serial identity.mac (suc spare) controller
      → AllByRecursion (IsOutputs setup (Some serial) identity.mac) (step_of controller Tick).frames
      × WaitsForReady setup serial identity.mac spare (step_of controller Tick).controller
  pub controller_inputs : (serial : ℕ) (controller : Controlling) (spare : ℕ) (octets : List ℕ) → IsInputs setup identity octets
      → WaitsForReady setup serial identity.mac spare controller
      → ((controller_step controller octets).frames ≡ []) × WaitsForReady setup serial identity.mac spare (controller_step controller octets).controller
  pub controller_readied : (serial : ℕ) (controller : Controlling) (spare : ℕ) → WaitsForReady setup serial identity.mac spare controller
      → ((controller_step controller (readied_frame setup identity)).frames ≡ confirmed_frame setup identity ∷ [])
      × Controls setup serial identity.mac 0 (controller_step controller (readied_frame setup identity)).controller
      × ((controller_step controller (readied_frame setup identity)).controller.live.low_alarms.sending.waiting ≡ None)
      × BeginsNoTurn (controller_step controller (readied_frame setup identity)).controller.live
  pub controller_quiet : (serial : ℕ) (controller : Controlling) (age : ℕ) (octets : List ℕ) → IsInputs setup identity octets
      → Controls setup serial identity.mac age controller → controller.live.low_alarms.sending.waiting ≡ None
      → ((controller_step controller octets).frames ≡ []) × Controls setup serial identity.mac age (controller_step controller octets).controller
      × ((controller_step controller octets).controller.live.low_alarms.sending.waiting ≡ None)
      × (BeginsNoTurn controller.live → BeginsNoTurn (controller_step controller octets).controller.live)
