-- What a unit of time, 31.25 microseconds, brings to an exchange.
use Rattle.std.specs.Prelude.{Bool, Option, if◌then◌else◌}
use Rattle.pn_alarms.specs.declared.abort.Abort.{Abort}
use Rattle.pn_alarms.specs.declared.repeats.Due.{Due}
use Rattle.pn_alarms.specs.Device.{end_later}
use Rattle.pn_alarms.specs.Sending.{due, either_due, is_again, is_repeated}
use Rattle.cyclic_data.specs.declared.status.StationState.{StationState}
use Rattle.cyclic_data.specs.exchange.Units.{cyclic_later}
use Rattle.cyclic_data.specs.exchange.Units.{Brought, ending_of as cyclic_ending, is_silent as is_cyclic_silent, tick_of as cyclic_tick}
use Rattle.diagnosis.specs.alarms.Alarms.{later as low_later}
use Rattle.relations.specs.declared.exchange.cyclic.Repeated.{Repeated}
use Rattle.relations.specs.exchange.Flow.{Flow, state_of}

-- Whether the data hold time is over with this unit. It runs while data is exchanged.
abbrev pub is_silent : Flow → Bool
is_silent flow = is_cyclic_silent flow.cyclic

-- What is due of the alarms that wait for their ACK, of either priority.
abbrev pub alarm_due : Flow → Due
alarm_due flow = either_due (due flow.alarms.sender.sending) (due flow.low.alarms.sender.sending)

-- Which alarms are sent again with the next unit, and which are after the unit that passed last.
abbrev pub repeated_of : Flow → Repeated
repeated_of flow = record { high = is_again (due flow.alarms.sender.sending); low = is_again (due flow.low.alarms.sender.sending) }

-- Which alarm is sent again with the next unit.
abbrev pub repeated_in : Flow → Repeated
repeated_in flow = record { high = is_repeated flow.alarms.sender.sending; low = is_repeated flow.low.alarms.sender.sending }

-- Why the relation ends with this unit, if it does: no frame was accepted in time, or else an alarm was not
-- acknowledged.
abbrev pub ending_of : Flow → Option Abort
ending_of flow = cyclic_ending flow.cyclic (alarm_due flow)

-- If the relation ends, nothing more is done. Otherwise an alarm may be due again, and a frame of inputs.
abbrev pub tick_of : Flow → Brought
tick_of flow = cyclic_tick flow.cyclic (alarm_due flow)

-- What the last frame of inputs said of the station, after a unit of time: what one says that is sent with this unit.
abbrev pub state_later : Flow → StationState
state_later flow = if (tick_of flow).is_cyclic then state_of flow else flow.state_sent

-- The state after a unit of time.
abbrev pub flow_later : Flow → Flow
flow_later flow = record flow {
  cyclic = cyclic_later flow.cyclic;
  alarms = end_later flow.alarms;
  low = low_later flow.low;
  state_sent = state_later flow;
}
