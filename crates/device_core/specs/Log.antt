-- What a device logs: how its relations ended, and which Connects it refused.
use Rattle.std.specs.Prelude.{ℕ, List, replicate, Option, Some, None, Result, Ok, Err}
use Rattle.rpc_core.specs.declared.response.Status.{Status}
use Rattle.connects.specs.requests.Handled.{asked_uuid}
use Rattle.records.specs.declared.status.call_fault.CallFault.{CallFault}
use Rattle.records.specs.declared.status.call_fault.CallFault.TheVariants.{Arguments}
use Rattle.records.specs.declared.status.operation.Operation.{Operation}
use Rattle.records.specs.declared.status.operation.Operation.TheVariants as operation
use Rattle.records.specs.status.Status.{done, status_of}
use Rattle.pn_alarms.specs.Abort.{status_of as reason_status}
use Rattle.pn_alarms.specs.declared.device.PduFate.{PduFate}
use Rattle.pn_alarms.specs.declared.device.PduFate.TheVariants as fate
use Rattle.relations.specs.declared.farewell.Farewell.{Farewell}
use Rattle.relations.specs.declared.hearing.ReadyAnswer.{ReadyAnswer}
use Rattle.relations.specs.declared.hearing.ReadyAnswer.TheVariants as to_ready
use Rattle.device_records.specs.declared.log_data.entry.LogEntry.{LogEntry}
use Rattle.device_records.specs.log_data.Log.{logged}
use Rattle.device_core.specs.State.{Live, Rest}

-- ---- the log after an event at a time

-- One more entry: this status of the relation, or of the Connect, with this ARUUID.
abbrev pub entry_log : List ℕ → Status → ℕ → List LogEntry → List LogEntry
entry_log uuid status time log = logged (record { time = time; uuid = uuid; status = status }) log

-- The controller ended the relation with this ARUUID, if there was one, with this status.
abbrev pub end_log : Option (List ℕ) → Status → ℕ → List LogEntry → List LogEntry
end_log (Some uuid) status time log = entry_log uuid status time log
end_log None status time log = log

-- The device ended its relation with this ERR, if it did.
abbrev pub err_log : Option Farewell → ℕ → List LogEntry → List LogEntry
err_log (Some farewell) time log = entry_log farewell.uuid (reason_status farewell.reason) time log
err_log None time log = log

-- The answer to ApplicationReady: one that refuses it ends the relation.
abbrev pub answer_log : ReadyAnswer → ℕ → List LogEntry → List LogEntry
answer_log to_ready.NotWanted time log = log
answer_log to_ready.Garbled time log = log
answer_log to_ready.Confirmed time log = log
answer_log (to_ready.Refused farewell) time log = err_log (Some farewell) time log

-- A PDU of the partner with this fate: an ERR ends the relation with this ARUUID.
abbrev pub fate_log : Option (List ℕ) → PduFate → ℕ → List LogEntry → List LogEntry
fate_log uuid (fate.Data taken) time log = log
fate_log uuid fate.Done time log = log
fate_log uuid fate.Ignored time log = log
fate_log uuid (fate.Aborted status) time log = end_log uuid status time log

-- A Release with this outcome: it ended the relation with this ARUUID, or it was refused.
abbrev pub release_log : {A : Type 0} → Option (List ℕ) → Result A CallFault → ℕ → List LogEntry → List LogEntry
release_log uuid (Ok answer) time log = end_log uuid done time log
release_log uuid (Err fault) time log = log

-- A Connect with this outcome: one that was refused is logged.
abbrev pub connect_log : {A : Type 0} → List ℕ → Result A CallFault → ℕ → List LogEntry → List LogEntry
connect_log blocks (Ok answer) time log = log
connect_log blocks (Err fault) time log = entry_log (asked_uuid blocks) (status_of operation.Connect fault) time log

-- A call whose blocks have wrong lengths: a Connect is logged, without an ARUUID, since its blocks are not known.
abbrev pub arguments_log : Operation → ℕ → List LogEntry → List LogEntry
arguments_log operation.Connect time log = entry_log (replicate 16 0) (status_of operation.Connect Arguments) time log
arguments_log other time log = log

-- ---- the state

-- The rest after such an event now.
abbrev pub with_log : (ℕ → List LogEntry → List LogEntry) → Rest → Rest
with_log log rest = record rest { log = log rest.units rest.log }

-- A state with another rest.
abbrev pub but_rest : Live → Rest → Live
but_rest live rest = record { values = live.values; rest = rest }
