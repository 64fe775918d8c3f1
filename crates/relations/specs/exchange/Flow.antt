-- What a relation exchanges with its partner.
use Rattle.std.specs.Prelude.{ℕ, Bool, List}
use Rattle.cyclic_data.specs.declared.status.StationState.{StationState}
use Rattle.cyclic_data.specs.exchange.Cyclic.{Cyclic}
use Rattle.pn_alarms.specs.Ends.{DeviceEnd}
use Rattle.diagnosis.specs.alarms.Alarms.{Low}
use Rattle.relations.specs.declared.exchange.marks.Mark.{Mark}

-- An exchange: the device's end of cyclic data, which sends inputs and accepts outputs, its end of the alarms of high
-- priority, those of low priority, why the IOPS of inputs are not good, whether the application runs or is stopped, what the
-- last frame of inputs said of the station, and the endpoint of its alarms.
pub record Flow : Type 0 where
  pub cyclic : Cyclic
  pub alarms : DeviceEnd
  pub low : Low
  pub marks : List Mark
  pub is_running : Bool
  pub state_sent : StationState
  pub endpoint : ℕ

-- What a frame of inputs says of the station now: whether its application runs, and whether a submodule of the relation has a
-- diagnosis.
abbrev pub state_of : Flow → StationState
state_of flow = record { is_running = flow.is_running; has_problem = flow.low.has_problem }
