-- The station of a device that starts.
use Rattle.std.proofs.Common.{◌≡◌, Bool, ℕ, Option, ap, ◌∙◌}
use Rattle.flash_model.specs.declared.memory.MemoryFlash.{MemoryFlash}
use Rattle.flash_model.specs.Memory.{image_of, IsReliable}
use Rattle.pn_values.specs.demo.Demo.{demo_real}
use Rattle.pn_values.specs.declared.settings.Settings.{Settings}
use Rattle.settings_journal.specs.Image.{LeftByDevice}
use Rattle.device_core.specs.Cycle.{started}
use Rattle.device_core.specs.State.{Station as Device, State}
use Rattle.device_station.specs.Serving.{Serving}
use Rattle.script_session.specs.Demo.{demo_device}
use Rattle.script_session.specs.declared.demo.DemoOptions.{DemoOptions}
use Rattle.script_session.specs.Ends.{Running, begun, services_at}
use Rattle.script_session.specs.Said.{demo_started}
use Rattle.script_session.specs.Power.{Runs}

-- the device of a station, with services or without
abbrev pub running_of : State (MemoryFlash 4096) → Option Serving → Running
running_of device beside_it = record { flash = device.flash; station = device.station; live = device.live; services = beside_it }

pub begun_runs : (options : DemoOptions) (serves : Bool) (settings : Settings) (room : ℕ) (device : State (MemoryFlash 4096)) → device.station ≡ demo_device options → device.live ≡ started demo_real settings room
    → IsReliable device.flash → LeftByDevice (image_of device.flash) → Runs (demo_started options serves settings room) (begun serves device)
begun_runs options serves settings room device station live reliable left = record {
  station_is = station;
  live_is = live;
  services_are = ap (λ (d : Device). services_at serves d device.live.values.running) station ∙ ap (λ l. services_at serves (demo_device options) l.values.running) live;
  reliable = reliable;
  unfailed = ap (λ l. l.values.has_failed) live;
  left = left;
}
