-- Why a device refuses what its application says: from what is plugged, what the relation waits for, and the diagnoses that exist, all
-- before the event. Each reason is that of an event that was refused: the last one of each list is then the only one that remains.
use Rattle.std.specs.Prelude.{◌==◌, ℕ, nat_le, nat_lt, not, List, length, if◌then◌else◌, Option, Some, None, is_some, option_map}
use Rattle.std.specs.List.{find}
use Rattle.diagnosis.specs.Existing.{exists, is_valid}
use Rattle.diagnosis.specs.declared.diagnosis.Change.{Change}
use Rattle.diagnosis.specs.declared.diagnosis.Diagnosis.{Diagnosis}
use Rattle.expected_places.specs.declared.place.ExpectedPlace.{ExpectedPlace}
use Rattle.expected_places.specs.declared.place.Step.{Step}
use Rattle.expected_places.specs.declared.place.Step.TheVariants as step
use Rattle.expected_places.specs.Places.{place_at}
use Rattle.module_diff.specs.Changes.{is_pluggable}
use Rattle.module_diff.specs.Plugged.{module_in, part_ident, submodule_ident}
use Rattle.pn_values.specs.declared.real.RealModule.{RealModule}
use Rattle.pn_values.specs.declared.real.RealSubmodule.{RealSubmodule}
use Rattle.relations.specs.declared.phase.Phase.{Phase}
use Rattle.relations.specs.declared.phase.Phase.TheVariants.{Started, Preparing, Awaiting, Exchanging}
use Rattle.asked_records.specs.Answers.{Gives, gives_octets, gives_done, gives_refusal}
use Rattle.asked_records.specs.Asked.{Seen, Want, to_read, to_write}
use Rattle.device_abi.specs.declared.reason.Reason.{Reason}
use Rattle.device_abi.specs.declared.reason.Reason.TheVariants.{NotPlugged, NoRelation, BadLength, NoPlace, NoExchange, AlarmOpen, BadNumber, Exists, Absent, Full, ChangesWait, TooEarly, TooLate}
use Rattle.device_abi.specs.declared.reason.Reason.TheVariants.{AccessPoint, OtherModule, IsPlugged, NoRoom, BadSubmodule, NoPlug, NotAsked, OtherKind, BadCode}

-- The number of each reason, as C sees it.
abbrev pub reason_number : Reason → ℕ
reason_number NotPlugged = 1
reason_number NoRelation = 2
reason_number BadLength = 3
reason_number NoPlace = 4
reason_number NoExchange = 5
reason_number AlarmOpen = 6
reason_number BadNumber = 7
reason_number Exists = 8
reason_number Absent = 9
reason_number Full = 10
reason_number ChangesWait = 11
reason_number TooEarly = 12
reason_number TooLate = 13
reason_number AccessPoint = 14
reason_number OtherModule = 15
reason_number IsPlugged = 16
reason_number NoRoom = 17
reason_number BadSubmodule = 18
reason_number NoPlug = 19
reason_number NotAsked = 20
reason_number OtherKind = 21
reason_number BadCode = 22

-- ---- inputs

-- The octets of the input of the submodule in a subslot, if there is a module.
abbrev pub part_size : Option RealModule → ℕ → Option ℕ
part_size None subslot = None
part_size (Some entry) subslot = option_map (λ part. part.input) (find (λ part. part.subslot == subslot) entry.submodules.items)

-- The octets of the input of the submodule that is plugged there, if one is.
abbrev pub input_size : List RealModule → ℕ → ℕ → Option ℕ
input_size modules slot subslot = part_size (module_in modules slot) subslot

-- Without a relation; otherwise the relation has no input of the submodule with this length.
abbrev pub why_unplaced : Option Phase → Reason
why_unplaced None = NoRelation
why_unplaced (Some phase) = NoPlace

-- Nothing is plugged there, the submodule has another length, or the relation has no place for its input.
abbrev pub why_no_value : Option ℕ → ℕ → Option Phase → Reason
why_no_value None size phase = NotPlugged
why_no_value (Some input) size phase = if input == size then why_unplaced phase else BadLength

-- Why an input of this size is refused.
abbrev pub why_no_input : List RealModule → ℕ → ℕ → ℕ → Option Phase → Reason
why_no_input modules slot subslot size phase = why_no_value (input_size modules slot subslot) size phase

-- ---- alarms

-- Without a relation; before data is exchanged; otherwise the alarm before it is not over.
abbrev pub why_unraised : Option Phase → Reason
why_unraised None = NoRelation
why_unraised (Some Started) = NoExchange
why_unraised (Some Preparing) = NoExchange
why_unraised (Some Awaiting) = NoExchange
why_unraised (Some Exchanging) = AlarmOpen

-- Why an alarm with this many octets is refused.
abbrev pub why_no_alarm : List RealModule → ℕ → ℕ → ℕ → Option Phase → Reason
why_no_alarm modules slot subslot size phase =
    if is_some (submodule_ident modules slot subslot)
    then (if nat_le size 32 then why_unraised phase else BadLength)
    else NotPlugged

-- ---- statuses

-- Why a status is refused: nothing is plugged there. There is room for one of each submodule.
abbrev pub why_no_status : List RealModule → ℕ → ℕ → Reason
why_no_status modules slot subslot = if is_some (submodule_ident modules slot subslot) then Full else NotPlugged

-- ---- diagnoses

-- One that appears: it exists already, or the list is full; otherwise too many changes wait.
abbrev pub why_not_added : Diagnosis → List Diagnosis → Reason
why_not_added diagnosis diagnoses =
    if exists diagnosis diagnoses then Exists else (if nat_lt (length diagnoses) 32 then ChangesWait else Full)

-- One that disappears: it does not exist; otherwise too many changes wait.
abbrev pub why_not_removed : Diagnosis → List Diagnosis → Reason
why_not_removed diagnosis diagnoses = if exists diagnosis diagnoses then ChangesWait else Absent

-- A change of a submodule that is plugged.
abbrev pub why_unchanged : Change → List Diagnosis → Reason
why_unchanged change diagnoses =
    if is_valid change.diagnosis
    then (if change.appears then why_not_added change.diagnosis diagnoses else why_not_removed change.diagnosis diagnoses)
    else BadNumber

-- Why a change of diagnosis is refused.
abbrev pub why_no_diagnosis : List RealModule → List Diagnosis → Change → Reason
why_no_diagnosis modules diagnoses change =
    if is_some (submodule_ident modules change.diagnosis.slot change.diagnosis.subslot) then why_unchanged change diagnoses else NotPlugged

-- ---- ready

-- Why the application is not ready now: there is no relation, its parameters have not ended, or it does not wait for the application.
abbrev pub why_not_ready : Option Phase → Reason
why_not_ready None = NoRelation
why_not_ready (Some Started) = TooEarly
why_not_ready (Some Preparing) = TooLate
why_not_ready (Some Awaiting) = TooLate
why_not_ready (Some Exchanging) = TooLate

-- ---- modules that come and go

-- Why a submodule is not pulled: slot 0, the access point, stays, or nothing is plugged there; otherwise too many changes wait.
abbrev pub why_no_pull : List RealModule → ℕ → ℕ → Reason
why_no_pull modules slot subslot =
    if slot == 0 then AccessPoint else (if is_some (submodule_ident modules slot subslot) then ChangesWait else NotPlugged)

-- Why a module is not pulled.
abbrev pub why_no_slot_pull : List RealModule → ℕ → Reason
why_no_slot_pull modules slot = if slot == 0 then AccessPoint else (if is_some (module_in modules slot) then ChangesWait else NotPlugged)

-- Why a submodule does not fit into a slot: it has another module, a submodule in this subslot, or four of them; otherwise a number of the
-- submodule is not in its range.
abbrev pub why_unfit : Option RealModule → ℕ → ℕ → Reason
why_unfit None ident subslot = BadSubmodule
why_unfit (Some entry) ident subslot =
    if not (entry.ident == ident) then OtherModule else
    (if is_some (part_ident entry.submodules.items subslot) then IsPlugged else (if nat_lt (length entry.submodules.items) 4 then BadSubmodule else NoRoom))

-- Why a submodule is not plugged: slot 0 stays, or it does not fit; otherwise too many changes wait.
abbrev pub why_no_plug : List RealModule → ℕ → ℕ → RealSubmodule → Reason
why_no_plug modules slot ident part =
    if slot == 0 then AccessPoint else
    (if is_pluggable slot ident part modules then ChangesWait else why_unfit (module_in modules slot) ident part.subslot)

-- Why the application is not ready for the plug at a place that is this far: nothing was plugged there or it was released, its parameters
-- have not ended, or its ApplicationReady was sent or waits for others.
abbrev pub why_unready : Step → Reason
why_unready step.Settled = NoPlug
why_unready step.Pulled = NoPlug
why_unready step.Plugged = TooEarly
why_unready (step.Told number) = TooEarly
why_unready (step.Ended number) = TooLate
why_unready step.Refused = TooLate

-- The same of a place, if the relation expects a submodule there.
abbrev pub why_not_ready_for : Option ExpectedPlace → Reason
why_not_ready_for None = NoPlug
why_not_ready_for (Some place) = why_unready place.step

-- Why the application is not ready at a place, if these are those of the relation: there is no relation, or no plug there waits for it.
abbrev pub why_not_ready_at : Option (List ExpectedPlace) → ℕ → ℕ → Reason
why_not_ready_at None slot subslot = NoRelation
why_not_ready_at (Some places) slot subslot = why_not_ready_for (place_at slot subslot places)

-- ---- records that the application answers

-- Why octets are refused: a Write is not answered by octets; otherwise they are more than the record has.
abbrev pub why_no_octets : Want → Reason
why_no_octets (to_read length) = BadLength
why_no_octets (to_write octets) = OtherKind

-- Why an answer to what is asked is refused: octets, or that a record was written, which is no answer to a Read, or a refusal whose ErrorCode1 is not
-- one of an application.
abbrev pub why_unfit_answer : Want → Gives → Reason
why_unfit_answer want (gives_octets octets) = why_no_octets want
why_unfit_answer want gives_done = OtherKind
why_unfit_answer want (gives_refusal code1 code2) = BadCode

-- Why an answer under a number is refused, if this is asked: nothing is asked under this number, or it is no answer to it.
abbrev pub why_no_answer : Option Seen → ℕ → Gives → Reason
why_no_answer None number given = NotAsked
why_no_answer (Some seen) number given = if seen.number == number then why_unfit_answer seen.want given else NotAsked
