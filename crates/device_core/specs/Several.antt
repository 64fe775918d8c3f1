-- Several records that one Write carries: each is judged by itself, and what is asked of the settings.
use Rattle.std.specs.Prelude.{◌++◌, ℕ, List, [], ◌∷◌, map, Option, is_some, Result, Ok, Err, if◌then◌else◌}
use Rattle.pn_values.specs.declared.real.Real.{Real}
use Rattle.pn_values.specs.declared.command.Command.TheVariants.{SetIm}
use Rattle.pn_values.specs.declared.set_item.SetItem.{SetItem}
use Rattle.pn_values.specs.declared.set_item.SetItem.TheVariants.{Ask}
use Rattle.record_blocks.specs.declared.write_record.IodWriteReq.{IodWriteReq}
use Rattle.rpc_core.specs.declared.response.Status.{Status}
use Rattle.records.specs.declared.status.call_fault.CallFault.{CallFault}
use Rattle.records.specs.declared.status.operation.Operation.TheVariants as operation
use Rattle.records.specs.status.Status.{status_of}
use Rattle.records.specs.declared.writes.write.Effect.{Effect}
use Rattle.records.specs.declared.writes.write.Effect.TheVariants.{Stores, Keeps}
use Rattle.records.specs.declared.writes.write.Write.{Write}
use Rattle.records.specs.writes.Entry.{Entry}
use Rattle.records.specs.writes.Handled.{handled_request}
use Rattle.asked_records.specs.Answers.{unanswered_status}
use Rattle.asked_records.specs.Judging.{asked_name}
use Rattle.asked_records.specs.declared.names.RecordName.{RecordName}
use Rattle.asked_records.specs.declared.status.Unanswered.TheVariants.{InList}

-- A record of several: the header of its Write, and what that asks for, or the PNIOStatus with which it is refused.
abbrev pub Judged : Type 0
Judged = IodWriteReq × Result Write Status

-- What a record asks for, or its PNIOStatus.
abbrev pub with_status : Result Write CallFault → Result Write Status
with_status (Ok write) = Ok write
with_status (Err fault) = Err (status_of operation.Write fault)

-- What a record of a list asks for: one of the application is not asked there, and refused.
abbrev pub judged_entry : List RecordName → Option (List ℕ) → Real → Entry → Result Write Status
judged_entry named standing real entry =
    if is_some (asked_name real named entry.0.header) then Err (unanswered_status operation.Write InList)
    else with_status (handled_request standing real entry.0 entry.1)

-- What each record of a list asks for, or why it is refused.
abbrev pub judged_each : List RecordName → Option (List ℕ) → Real → List Entry → List Judged
judged_each named standing real entries = map (λ entry. (entry.0, judged_entry named standing real entry)) entries

-- The I&M texts among them, in order: each is asked of the settings as a command of its own.
abbrev pub text_of : Effect → List SetItem
text_of (Stores value) = Ask (SetIm value) ∷ []
text_of (Keeps parameter) = []

-- The text that a record stores, if it stores one.
abbrev pub texts_by : Result Write Status → List SetItem
texts_by (Ok write) = text_of write.effect
texts_by (Err status) = []

-- The texts that these records store, in order.
abbrev pub texts_in : List Judged → List SetItem
texts_in [] = []
texts_in (one ∷ others) = texts_by one.1 ++ texts_in others
