-- The state of a controller.
use Rattle.std.specs.Prelude.{◌&&◌, ℕ, Bool, true, false, List, Option, if◌then◌else◌}
use Rattle.pn_values.specs.declared.mac.Mac.{Mac}
use Rattle.rpc_core.specs.declared.response.Status.{Status}
use Rattle.record_blocks.specs.declared.alarm_notification.AlarmNotification.{AlarmNotification}
use Rattle.pn_alarms.specs.Ends.{ControllerEnd}
use Rattle.cyclic_data.specs.exchange.Cyclic.{Cyclic}
use Rattle.controller_messages.specs.declared.setup.ControllerOptions.{ControllerOptions}
use Rattle.controller_messages.specs.declared.setup.Setup.{Setup}
use Rattle.controller_messages.specs.declared.request.Request.{Request}
use Rattle.controller_core.specs.declared.stored.outputs.OutputMark.{OutputMark}
use Rattle.controller_core.specs.declared.stored.state.RefusedRecord.{RefusedRecord}
use Rattle.controller_core.specs.declared.stored.state.State.{State}
use Rattle.controller_messages.specs.Access.{Accessing}
use Rattle.diagnosis.specs.reported.Reported.{Reported}
use Rattle.plan_places.specs.Places.{Told}
use Rattle.controller_messages.specs.declared.request.Request.TheVariants as asks
use Rattle.controller_core.specs.declared.stored.state.State.TheVariants.{Looking, Addressing, Connecting, Writing, Ending, Waiting, Exchanging, Ended}

-- What changes from event to event: its phase; the MAC address of the station; the request that is active until it is
-- answered, and the units since it was sent; the units that its phase may still last, 0 without a limit; the units since the
-- controller was made, modulo 65,536; whether its relation is established; whether the device reported usable modules that
-- deviate from the plan's; the last status with which a call was refused; the last record that was refused; its ends of
-- cyclic data, of the alarms of high priority, and of those of low priority; why the IOPS of its outputs are not good, for
-- each place; the last alarm of each priority that was accepted, with its UserStructureIdentifier; the requests of the
-- application; the diagnoses that the device reported in this relation; and the places of the plan in it.
pub record Live : Type 0 where
  pub phase : State
  pub device : Mac
  pub asked : Option Request
  pub waited : ℕ
  pub left : ℕ
  pub units : ℕ
  pub stands : Bool
  pub deviates : Bool
  pub refusal : Option Status
  pub refused_record : Option RefusedRecord
  pub cyclic : Cyclic
  pub alarms : ControllerEnd
  pub low_alarms : ControllerEnd
  pub outputs : List OutputMark
  pub alarm : Option AlarmNotification
  pub access : Accessing
  pub user_structure : Option ℕ
  pub low_alarm : Option AlarmNotification
  pub low_user_structure : Option ℕ
  pub diagnosis : Reported
  pub places : Told

-- A controller: its configuration, and its state.
pub record Controlling : Type 0 where
  pub setup : Setup
  pub live : Live

-- A controller with another state.
abbrev pub with_live : Controlling → Live → Controlling
with_live controlling live = record controlling { live = live }

-- A record is written, or the parameters are ended.
abbrev pub phase_for : Request → State
phase_for (asks.Write number) = Writing
phase_for (asks.WriteAfter number tries) = Writing
phase_for request = Ending

-- ---- patience

-- The units that a state may last, 0 without a limit.
abbrev pub patience_in : ControllerOptions → State → ℕ
patience_in options Looking = 0
patience_in options Addressing = options.patience
patience_in options Connecting = options.patience
patience_in options Writing = options.patience
patience_in options Ending = options.patience
patience_in options Waiting = options.waiting_patience
patience_in options Exchanging = 0
patience_in options (Ended cause) = 0

-- Whether records are written.
abbrev pub is_writing : State → Bool
is_writing Writing = true
is_writing phase = false

-- The units that the next state may still last, if the one before it may last `left` more. All Writes together are one state.
abbrev pub left_in : ControllerOptions → ℕ → State → State → ℕ
left_in options left before next = if is_writing before && is_writing next then left else patience_in options next

-- Whether a state has a limit if the options set one.
abbrev pub is_limited : State → Bool
is_limited Looking = false
is_limited Exchanging = false
is_limited (Ended cause) = false
is_limited phase = true
