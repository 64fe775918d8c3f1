-- What is made from a station that a host wrote.
use Rattle.std.specs.Prelude.{◌≡◌, ◌==◌, ◌&&◌, ℕ, None, nat_lt, not, if◌then◌else◌}
use Rattle.device_station.specs.port.Served.{Served, IsFetched}
use Rattle.device_station.specs.declared.port.stage.Stage.TheVariants.{Made}
use Rattle.device_abi.specs.Stations.{fault_of, station_of}
use Rattle.device_abi.specs.declared.c_station.Station.{Station}

-- Why no device is made: another version or size of an operation than the library's, too little memory, or the first
-- fault of the station.
abbrev pub why_not_made : ℕ → ℕ → ℕ → Station → ℕ
why_not_made size abi op_size station =
    if not (abi == 11 && op_size == 1680) then 2 else (if nat_lt size 77312 then 3 else fault_of station)

-- A port of this station that did not start, and has no work. Services begin when it starts, unless the station says that it
-- has none.
pub record IsMade (written : Station) (port : Served) : Type 0 where
  pub station : port.port.device.station ≡ station_of written
  pub stage : port.port.stage ≡ Made
  pub fetched : IsFetched port
  pub serves : port.serves ≡ (written.without_services == 0)
  pub services : port.services ≡ None
