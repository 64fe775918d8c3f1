-- What a unit of time, 31.25 microseconds, brings to one end.
use Rattle.std.specs.Prelude.{◌==◌, ◌&&◌, Bool, true, false, Option, Some, None, if◌then◌else◌}
use Rattle.cyclic_data.specs.Timing.{Hearing, held_on, is_due, unit_later}
use Rattle.pn_alarms.specs.declared.abort.Abort.{Abort}
use Rattle.pn_alarms.specs.declared.abort.Abort.TheVariants.{DataHold, Activity, Other}
use Rattle.pn_alarms.specs.declared.repeats.Due.{Due}
use Rattle.pn_alarms.specs.declared.repeats.Due.TheVariants.{Nothing, Again, Spent}
use Rattle.pn_alarms.specs.Sending.{is_again}
use Rattle.cyclic_data.specs.declared.exchange.units.Brings.{Brings}
use Rattle.cyclic_data.specs.declared.exchange.units.Brings.TheVariants as brings
use Rattle.cyclic_data.specs.exchange.Cyclic.{Cyclic}

-- Whether the data hold time is over with this unit. It runs while data is exchanged.
abbrev pub is_silent : Cyclic → Bool
is_silent cyclic = cyclic.begun && ((held_on cyclic.hearing).held == cyclic.hearing.limit)

-- Why the relation ends with this unit, if it does: no frame was accepted in time, or else an alarm's data was not
-- acknowledged.
abbrev pub ending_by : Due → Option Abort
ending_by Nothing = None
ending_by Again = None
ending_by Spent = Some Other

-- Why the relation ends with this unit, if it does: its data hold time is over, or an alarm was given up.
abbrev pub ending_of : Cyclic → Due → Option Abort
ending_of cyclic alarm = if is_silent cyclic then Some DataHold else ending_by alarm

-- What a unit brings: why the relation ends, if it does, and what is sent.
pub record Brought : Type 0 where
  pub ending : Option Abort
  pub is_alarm : Bool
  pub is_cyclic : Bool

-- What a unit brings, by the number that says it.
abbrev pub brought_by : Brings → Brought
brought_by brings.Nothing = record { ending = None; is_alarm = false; is_cyclic = false }
brought_by brings.Cyclic = record { ending = None; is_alarm = false; is_cyclic = true }
brought_by brings.Alarm = record { ending = None; is_alarm = true; is_cyclic = false }
brought_by brings.Both = record { ending = None; is_alarm = true; is_cyclic = true }
brought_by brings.DataHold = record { ending = Some DataHold; is_alarm = false; is_cyclic = false }
brought_by brings.Activity = record { ending = Some Activity; is_alarm = false; is_cyclic = false }
brought_by brings.Other = record { ending = Some Other; is_alarm = false; is_cyclic = false }

-- If the relation ends, nothing more is done. Otherwise an alarm's data may be due again, and a frame.
abbrev pub tick_by : Cyclic → Due → Option Abort → Brought
tick_by cyclic alarm (Some reason) = record { ending = Some reason; is_alarm = false; is_cyclic = false }
tick_by cyclic alarm None = record { ending = None; is_alarm = is_again alarm; is_cyclic = is_due cyclic.sending }

-- What a unit brings to the exchange and its alarms.
abbrev pub tick_of : Cyclic → Due → Brought
tick_of cyclic alarm = tick_by cyclic alarm (ending_of cyclic alarm)

-- The state after a unit of time.
abbrev pub hearing_later : Cyclic → Hearing
hearing_later cyclic = if cyclic.begun then held_on cyclic.hearing else cyclic.hearing

-- The exchange after a unit of time.
abbrev pub cyclic_later : Cyclic → Cyclic
cyclic_later cyclic = record cyclic { sending = unit_later cyclic.sending; hearing = hearing_later cyclic }
