-- The lines of what the controller reports to its application: its alarms, and the answer to a request for a record.
use Rattle.std.specs.Prelude.{ℕ, List, [], ◌∷◌, ◌++◌, length, ◌==◌, codes, decimal, if◌then◌else◌, Option, Some, None}
use Rattle.hex.specs.Hex.{encode_lower}
use Rattle.rpc_core.specs.declared.response.Status.{Status}
use Rattle.rpc_core.specs.Response.{is_done}
use Rattle.diagnosis.specs.declared.reports.priority.Priority.{Priority}
use Rattle.diagnosis.specs.declared.reports.priority.Priority.TheVariants.{High, Low}
use Rattle.diagnosis.specs.declared.reports.report.Report.{Report}
use Rattle.controller_messages.specs.declared.record_request.RecordRequest.{RecordRequest}
use Rattle.controller_messages.specs.declared.record_request.RecordService.{RecordService}
use Rattle.controller_messages.specs.declared.record_request.RecordService.TheVariants.{Read, Write}
use Rattle.controller_messages.specs.declared.access.Answer.{Answer}
use Rattle.script_lines.specs.Text.{printed}

-- Octets in hex; '-' if there are none.
abbrev pub octets_word : List ℕ → List ℕ
octets_word octets = if length octets == 0 then codes "-" else encode_lower octets

-- A space and a decimal number.
abbrev pub spaced : ℕ → List ℕ
spaced value = codes " " ++ decimal value

-- ---- alarms

-- The word for a priority.
abbrev pub priority_word : Priority → List ℕ
priority_word High = codes "high"
priority_word Low = codes "low"

-- A UserStructureIdentifier; 'None' for an alarm without one.
abbrev pub structure_word : Option ℕ → List ℕ
structure_word (Some structure) = decimal structure
structure_word None = codes "None"

-- An alarm: its priority, AlarmType, slot, subslot, AlarmSpecifier and UserStructureIdentifier, and the octets after it.
unfoldable pub told_line : Report → List ℕ
told_line alarm = printed
    (codes "told " ++ priority_word alarm.priority
    ++ spaced alarm.notification.alarm_type
    ++ spaced alarm.notification.slot_number
    ++ spaced alarm.notification.subslot_number
    ++ spaced alarm.notification.alarm_specifier
    ++ codes " " ++ structure_word alarm.user_structure
    ++ codes " " ++ octets_word alarm.notification.alarm_data)

-- The lines of all alarms that were accepted; '-' if none was.
abbrev pub told_shown : List ℕ → List ℕ
told_shown lines = if length lines == 0 then printed (codes "told -") else lines

-- ---- requests for records

-- The word for a request of the application.
abbrev pub service_word : RecordService → List ℕ
service_word Read = codes "read"
service_word Write = codes "write"

-- Slot, subslot and index.
abbrev pub place_words : RecordRequest → List ℕ
place_words request = spaced request.slot ++ spaced request.subslot ++ spaced request.index

-- The octets of a record that was read; that a record was written.
abbrev pub done_word : RecordService → List ℕ → List ℕ
done_word Read octets = octets_word octets
done_word Write octets = codes "done"

-- What is printed of a request that was done, or the status with which the device refused it.
abbrev pub result_words : RecordService → Status → List ℕ → List ℕ
result_words service status octets =
    if is_done status then done_word service octets
    else codes "refused " ++ encode_lower (status.code ∷ status.decode ∷ status.code1 ∷ status.code2 ∷ [])

-- What is printed of an answer to such a request.
abbrev pub answer_words : Answer → List ℕ → List ℕ
answer_words answer octets =
    service_word answer.request.service ++ place_words answer.request ++ codes " " ++ result_words answer.request.service answer.status octets

-- That the request still waits, its answer, or '-' for neither: no request was made, or the relation ended before the answer.
abbrev pub reply_words : Option RecordRequest → Option Answer → List ℕ → List ℕ
reply_words (Some request) answer octets = codes "waiting"
reply_words None (Some answer) octets = answer_words answer octets
reply_words None None octets = codes "-"

-- What the last request of the application was answered with; the octets are those of the record that a Read brought.
unfoldable pub reply_line : Option RecordRequest → Option Answer → List ℕ → List ℕ
reply_line waiting answer octets = printed (codes "reply " ++ reply_words waiting answer octets)
