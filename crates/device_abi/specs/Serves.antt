-- The result of an operation of a host. `asked` is the operation as the host wrote it, `reported` as the host finds it
-- afterwards: an equation of the whole operation says which fields are written, and with what. All other fields are
-- unchanged, and so are the octets after those that are written. A refused operation changes nothing, neither in the
-- port nor in the operation.
use Rattle.std.specs.Prelude.{⊤, ◌≡◌, ◌==◌, ◌++◌, ◌-◌, ℕ, Bool, true, false, nat_lt, not, min, if◌then◌else◌, List, [], ◌∷◌, drop, length, take, slice_get, slice_index, Option, Some, None, Result, Ok, Err, MatchResult}
use Rattle.std.specs.Int.{w16, from_be_bytes}
use Rattle.flash_model.specs.Calls.{Call, Programs, Erases, Arms}
use Rattle.flash_model.specs.declared.flash.Sector.{Sector}
use Rattle.flash_model.specs.declared.flash.Sector.TheVariants.{First, Second}
use Rattle.pn_values.specs.declared.real.RealModule.{RealModule}
use Rattle.pn_values.specs.declared.real.RealSubmodule.{RealSubmodule}
use Rattle.pn_values.specs.declared.settings.Settings.{Settings}
use Rattle.cyclic_data.specs.declared.exchange.exchange.ProviderStatus.{ProviderStatus}
use Rattle.lldp.specs.declared.station.Link.{Link}
use Rattle.records.specs.declared.writes.taken.TakenRecord.{TakenRecord}
use Rattle.expected_places.specs.declared.place.ExpectedPlace.{ExpectedPlace}
use Rattle.expected_places.specs.declared.place.Progress.{Progress}
use Rattle.expected_places.specs.declared.place.Progress.TheVariants as progress
use Rattle.expected_places.specs.Places.{progress_of}
use Rattle.relations.specs.declared.phase.Phase.{Phase}
use Rattle.relations.specs.declared.phase.Phase.TheVariants.{Started, Preparing, Awaiting, Exchanging}
use Rattle.relations.specs.Exchanged.{output_in, provider_in}
use Rattle.relations.specs.Plugging.{places_in}
use Rattle.relations.specs.RelationState.{passed_of, phase_of, taken_of}
use Rattle.relations.specs.Outputs.{output_of}
use Rattle.device_frames.specs.declared.event.Event.{Event}
use Rattle.device_frames.specs.declared.event.Event.TheVariants.{Frame, Application}
use Rattle.arrayvec.specs.ArrayVec.{ArrayVec}
use Rattle.device_frames.specs.declared.local.Local.{Local}
use Rattle.device_frames.specs.declared.local.Local.TheVariants.{Input, Alarm, Answer, Status, Diagnosis, Plug, ProviderState, Pull, PullModule, Ready, ReadyAt, Refuse, Written}
use Rattle.device_core.specs.Handled.{change_of}
use Rattle.device_frames.specs.declared.note.Note.{Note}
use Rattle.device_frames.specs.Notes.{note_number}
use Rattle.c_layout.specs.Places.{place_in}
use Rattle.c_layout.specs.Reported.{with_octets}
use Rattle.c_layout.specs.declared.op.Op.{Op}
use Rattle.device_station.specs.declared.port.device.Passed.{Passed}
use Rattle.device_station.specs.declared.port.refusal.Refusal.{Refusal}
use Rattle.device_station.specs.declared.port.refusal.Refusal.TheVariants as refusal
use Rattle.device_station.specs.port.Refusals.{refusal_number}
use Rattle.device_station.specs.port.State.{State, closed}
use Rattle.device_station.specs.port.Served.{Served, advanced_both, conflicts_of, due_both, frames_of, linked_both, lost_both, waiting_both}
use Rattle.device_station.specs.port.ServedSteps.{AnswersBoth, KnowsBothOrNot, PassesBothOrNot, QuietOrNot, StartsBothOrNot}
use Rattle.device_abi.specs.declared.confirmation.Confirmation.{Confirmation}
use Rattle.device_abi.specs.declared.confirmation.Confirmation.TheVariants.{Nothing}
use Rattle.device_abi.specs.declared.reason.Reason.{Reason}
use Rattle.device_abi.specs.Confirmed.{confirmed_by, confirmed_in_time, with_confirmation}
use Rattle.device_abi.specs.Reasons.{reason_number, why_no_alarm, why_no_diagnosis, why_no_input, why_no_plug, why_no_pull, why_no_slot_pull, why_no_status}
use Rattle.device_abi.specs.Reasons.{why_no_answer, why_not_ready, why_not_ready_at}
use Rattle.asked_records.specs.Answers.{gives_octets, gives_done, gives_refusal}
use Rattle.asked_records.specs.Asked.{Seen, Want, seen_in, to_read, to_write}
use Rattle.device_abi.specs.Submodules.{plug_in}
use Rattle.device_abi.specs.declared.operation.Operation.{Operation}
use Rattle.device_abi.specs.declared.operation.Operation.TheVariants as operation

-- The operation of a number.
abbrev pub operation_of : ℕ → Option Operation
operation_of what =
    if what == 1 then Some operation.Sector else
    if what == 2 then Some operation.Boot else
    if what == 3 then Some operation.Frame else
    if what == 4 then Some operation.Tick else
    if what == 5 then Some operation.Input else
    if what == 6 then Some operation.Alarm else
    if what == 8 then Some operation.Output else
    if what == 9 then Some operation.State else
    if what == 10 then Some operation.Running else
    if what == 11 then Some operation.Stored else
    if what == 12 then Some operation.Lose else
    if what == 13 then Some operation.Record else
    if what == 14 then Some operation.Left else
    if what == 15 then Some operation.Due else
    if what == 16 then Some operation.Status else
    if what == 17 then Some operation.Ready else
    if what == 18 then Some operation.Provider else
    if what == 19 then Some operation.Diagnosis else
    if what == 20 then Some operation.Conflicts else
    if what == 21 then Some operation.Link else
    if what == 22 then Some operation.Passed else
    if what == 23 then Some operation.PassedOn else
    if what == 24 then Some operation.FrameAfter else
    if what == 25 then Some operation.Received else
    if what == 26 then Some operation.Run else
    if what == 27 then Some operation.Stop else
    if what == 28 then Some operation.Pull else
    if what == 29 then Some operation.PullModule else
    if what == 30 then Some operation.Plug else
    if what == 31 then Some operation.ReadyAt else
    if what == 32 then Some operation.Expected else
    if what == 33 then Some operation.Asked else
    if what == 34 then Some operation.Answer else
    if what == 35 then Some operation.Written else
    if what == 36 then Some operation.Refuse else None

-- The result of what was done, or of what was refused.
abbrev pub answer_of : {T : Type 0} → Result T Refusal → ℕ
answer_of (Ok done) = 0
answer_of (Err refusal) = refusal_number refusal

-- ---- events

-- The outcome of an event, the kind of the first piece of its work, and what became of the open alarm.
abbrev pub noted : Result Note Refusal → Confirmation → Served → Op → Op
noted (Ok note) became new asked = with_confirmation became (record asked { note = note_number note; work = waiting_both new })
noted (Err refusal) became new asked = asked

-- An event was handled, and its outcome is reported, what work it made, and that this became of the open alarm, or it was refused and nothing
-- changed.
abbrev pub IsEventWith : Confirmation → Served → Event → Op → ℕ → Served → Op → Type 0
IsEventWith became old event asked answer new reported =
    (result : Result Note Refusal) × AnswersBoth old event result new × (answer ≡ answer_of result) × (reported ≡ noted result became new asked)

-- The same with what became of the alarm that was open before it.
abbrev pub IsEvent : Served → Event → Op → ℕ → Served → Op → Type 0
IsEvent old event asked answer new reported = IsEventWith (confirmed_by old event new) old event asked answer new reported

-- A frame after units of time that passed before it: as many of them as bring nothing pass, the number of the others is reported, and then the
-- frame is handled; or nothing changes.
abbrev pub IsAfter : Result ℕ Refusal → Served → List ℕ → Op → ℕ → Served → Op → Type 0
IsAfter (Ok left) middle given asked answer new reported =
    IsEvent middle (Frame (record { items = take 1519 given })) (record asked { units = left }) answer new reported
IsAfter (Err refusal) middle given asked answer new reported = (answer ≡ refusal_number refusal) × (new ≡ middle) × (reported ≡ asked)

-- What the operation FrameAfter does: units pass, and then a frame comes if nothing remains of them.
abbrev pub IsFrameAfter : Served → List ℕ → Op → ℕ → Served → Op → Type 0
IsFrameAfter old given asked answer new reported =
    (passed : Result ℕ Refusal) × (middle : Served) × QuietOrNot old asked.units passed middle × IsAfter passed middle given asked answer new reported

-- Whether the device refused an event.
abbrev pub is_refused : Result Note Refusal → Bool
is_refused (Ok note) = note_number note == 7
is_refused (Err refusal) = false

-- Nothing of a device changed, but that it may know another neighbour: that one is reported to it before an event.
abbrev pub IsUntouched : State → State → Type 0
IsUntouched old new = (new.device.station ≡ old.device.station)
    × (new.device.live ≡ record old.device.live { rest = record old.device.live.rest { peer = new.device.live.rest.peer } })

-- A device that refused an event is as before.
abbrev pub KeepsIf : Bool → State → State → Type 0
KeepsIf true old new = IsUntouched old new
KeepsIf false old new = ⊤

-- What is returned of an outcome, with this reason if it is a refusal. What the application says confirms no alarm.
abbrev pub IsOutcomeBy : Bool → Result Note Refusal → Reason → Served → Op → ℕ → Op → Type 0
IsOutcomeBy true result why new asked answer reported = (answer ≡ 44) × (reported ≡ record asked { reason = reason_number why })
IsOutcomeBy false result why new asked answer reported = (answer ≡ answer_of result) × (reported ≡ noted result Nothing new asked)

-- What is returned of an outcome.
abbrev pub IsOutcome : Result Note Refusal → Reason → Served → Op → ℕ → Op → Type 0
IsOutcome result why new asked answer reported = IsOutcomeBy (is_refused result) result why new asked answer reported

-- What the application says: it is handled, with its outcome and what work it made, or refused, and why.
abbrev pub IsSaid : Served → Local (ArrayVec ℕ) → Reason → Op → ℕ → Served → Op → Type 0
IsSaid old said why asked answer new reported =
    (result : Result Note Refusal) × AnswersBoth old (Application said) result new × KeepsIf (is_refused result) old.port new.port
    × IsOutcome result why new asked answer reported

-- The modules that are plugged in a device now.
abbrev pub plugged_in : Served → List RealModule
plugged_in served = served.port.device.live.rest.real.modules.items

-- The phase of the relation of a device, if there is one.
abbrev pub reached_in : Served → Option Phase
reached_in served = phase_of served.port.device.live.rest.link

-- 9 if the slot or the subslot is not a number of 16 bits: nothing is plugged there.
abbrev pub IsInput : Option (ℕ × ℕ) → Served → List ℕ → Op → ℕ → Served → Op → Type 0
IsInput (Some place) old given asked answer new reported =
    IsSaid old (Input place.0 place.1 (record { items = take 1519 given }))
    (why_no_input (plugged_in old) place.0 place.1 (length given) (reached_in old)) asked answer new reported
IsInput None old given asked answer new reported = (answer ≡ 9) × (new ≡ old) × (reported ≡ asked)

-- What the operation Alarm does, with its place if it is one of 16 bits.
abbrev pub IsAlarm : Option (ℕ × ℕ) → Served → List ℕ → Op → ℕ → Served → Op → Type 0
IsAlarm (Some place) old given asked answer new reported =
    IsSaid old (Alarm place.0 place.1 (record { items = take 1519 given }))
    (why_no_alarm (plugged_in old) place.0 place.1 (length given) (reached_in old)) asked answer new reported
IsAlarm None old given asked answer new reported = (answer ≡ 9) × (new ≡ old) × (reported ≡ asked)

-- The status of the inputs of a submodule: bad if `is_good` is 0.
abbrev pub IsStatus : Option (ℕ × ℕ) → Served → Op → ℕ → Served → Op → Type 0
IsStatus (Some place) old asked answer new reported =
    IsSaid old (Status place.0 place.1 (not (asked.is_good == 0))) (why_no_status (plugged_in old) place.0 place.1) asked answer new reported
IsStatus None old asked answer new reported = (answer ≡ 9) × (new ≡ old) × (reported ≡ asked)

-- A diagnosis of a submodule: it disappears if `appears` is 0. 9 if one of slot, subslot, channel and error is not a number of 16 bits.
abbrev pub IsDiagnosis : Option (ℕ × ℕ) → Option (ℕ × ℕ) → Served → Op → ℕ → Served → Op → Type 0
IsDiagnosis (Some place) (Some what) old asked answer new reported =
    IsSaid old (Diagnosis place.0 place.1 what.0 what.1 (not (asked.appears == 0)))
    (why_no_diagnosis (plugged_in old) old.port.device.live.rest.diagnoses (change_of place.0 place.1 what.0 what.1 (not (asked.appears == 0)))) asked answer new reported
IsDiagnosis (Some place) None old asked answer new reported = (answer ≡ 9) × (new ≡ old) × (reported ≡ asked)
IsDiagnosis None what old asked answer new reported = (answer ≡ 9) × (new ≡ old) × (reported ≡ asked)

-- The submodule is pulled. Its module stays.
abbrev pub IsPull : Option (ℕ × ℕ) → Served → Op → ℕ → Served → Op → Type 0
IsPull (Some place) old asked answer new reported =
    IsSaid old (Pull place.0 place.1) (why_no_pull (plugged_in old) place.0 place.1) asked answer new reported
IsPull None old asked answer new reported = (answer ≡ 9) × (new ≡ old) × (reported ≡ asked)

-- The module is pulled, with all its submodules.
abbrev pub IsSlotPull : Option (ℕ × ℕ) → Served → Op → ℕ → Served → Op → Type 0
IsSlotPull (Some place) old asked answer new reported =
    IsSaid old (PullModule place.0) (why_no_slot_pull (plugged_in old) place.0) asked answer new reported
IsSlotPull None old asked answer new reported = (answer ≡ 9) × (new ≡ old) × (reported ≡ asked)

-- The submodule is plugged, with a module of its ident number if the slot is empty; or nothing is, if the octets describe none.
abbrev pub IsPlugOf : Option (ℕ × RealSubmodule) → ℕ → Served → Op → ℕ → Served → Op → Type 0
IsPlugOf (Some plug) slot old asked answer new reported =
    IsSaid old (Plug slot plug.0 plug.1) (why_no_plug (plugged_in old) slot plug.0 plug.1) asked answer new reported
IsPlugOf None slot old asked answer new reported = (answer ≡ 8) × (new ≡ old) × (reported ≡ asked)

-- What the operation Plug does: the octets describe the submodule.
abbrev pub IsPlug : Option (ℕ × ℕ) → Served → List ℕ → Op → ℕ → Served → Op → Type 0
IsPlug (Some place) old given asked answer new reported = IsPlugOf (plug_in place.1 given) place.0 old asked answer new reported
IsPlug None old given asked answer new reported = (answer ≡ 9) × (new ≡ old) × (reported ≡ asked)

-- The application is ready for the plug at a place.
abbrev pub IsReadyAt : Option (ℕ × ℕ) → Served → Op → ℕ → Served → Op → Type 0
IsReadyAt (Some place) old asked answer new reported =
    IsSaid old (ReadyAt place.0 place.1) (why_not_ready_at (places_in old.port.device.live.rest.link) place.0 place.1) asked answer new reported
IsReadyAt None old asked answer new reported = (answer ≡ 9) × (new ≡ old) × (reported ≡ asked)

-- ---- answers of the application to what is asked

-- What the device is asked for its application, as the application sees it.
abbrev pub question_of : Served → Option Seen
question_of served = seen_in served.port.device.live.rest.asked

-- The octets of a record that is read.
abbrev pub IsAnswer : Served → List ℕ → Op → ℕ → Served → Op → Type 0
IsAnswer old given asked answer new reported =
    IsSaid old (Answer asked.number (record { items = take 1519 given })) (why_no_answer (question_of old) asked.number (gives_octets given)) asked answer new reported

-- A record was written.
abbrev pub IsWritten : Served → Op → ℕ → Served → Op → Type 0
IsWritten old asked answer new reported =
    IsSaid old (Written asked.number) (why_no_answer (question_of old) asked.number gives_done) asked answer new reported

-- The ErrorCode1 and ErrorCode2 in these octets, if they are two.
abbrev pub codes_of : List ℕ → Option (ℕ × ℕ)
codes_of octets = if length octets == 2 then Some (slice_index octets 0, slice_index octets 1) else None

-- A refusal with these codes; 8 if there are none.
abbrev pub IsRefusalOf : Option (ℕ × ℕ) → Served → Op → ℕ → Served → Op → Type 0
IsRefusalOf (Some codes) old asked answer new reported =
    IsSaid old (Refuse asked.number codes.0 codes.1) (why_no_answer (question_of old) asked.number (gives_refusal codes.0 codes.1)) asked answer new reported
IsRefusalOf None old asked answer new reported = (answer ≡ 8) × (new ≡ old) × (reported ≡ asked)

-- What the operation Refuse does: the octets are the two codes.
abbrev pub IsRefusal : Served → List ℕ → Op → ℕ → Served → Op → Type 0
IsRefusal old given asked answer new reported = IsRefusalOf (codes_of given) old asked answer new reported

-- ---- units of time

-- The number of units that remain, what is due, the kind of the first piece of work, and what became of the open alarm. The note is 0, done.
-- Due is the number of units up to and including the next one with which anything is due.
abbrev pub with_passed : Result Passed Refusal → Confirmation → Served → Op → Op
with_passed (Ok units) became new asked =
    with_confirmation became (record asked { units = units.left; due = due_both new; note = 0; work = waiting_both new })
with_passed (Err refusal) became new asked = asked

-- The units of time that are asked for passed, and the number that remains is reported, and that this became of the open alarm, or none passed
-- and nothing changed.
abbrev pub IsTickWith : Confirmation → Served → Op → ℕ → Served → Op → Type 0
IsTickWith became old asked answer new reported =
    (result : Result Passed Refusal) × PassesBothOrNot old asked.units result new × (answer ≡ answer_of result)
    × (reported ≡ with_passed result became new asked)

-- The same with what became of the alarm that was open before them.
abbrev pub IsTick : Served → Op → ℕ → Served → Op → Type 0
IsTick old asked answer new reported = IsTickWith (confirmed_in_time old new) old asked answer new reported

-- ---- a start

-- The number of a sector, as C sees it.
abbrev pub sector_number : Sector → ℕ
sector_number First = 0
sector_number Second = 1

-- The sector with this number, if there is one.
abbrev pub sector_of : ℕ → Option Sector
sector_of number = if number == 0 then Some First else if number == 1 then Some Second else None

-- The content of a sector of the chip is accepted, or not, and then nothing changed; 8 if there is no such sector.
abbrev pub IsSector : Option Sector → Served → List ℕ → ℕ → Served → Type 0
IsSector (Some sector) old octets answer new = (result : Result (Unit {0}) Refusal) × KnowsBothOrNot old sector octets result new × (answer ≡ answer_of result)
IsSector None old octets answer new = (answer ≡ 8) × (new ≡ old)

-- What the operation Boot does.
abbrev pub IsBoot : Served → ℕ → Served → Type 0
IsBoot old answer new = (result : Result (Unit {0}) Refusal) × StartsBothOrNot old result new × (answer ≡ answer_of result)

-- ---- work

-- A flash call as it is reported, with the octets that it programs: 1 is a program call, 2 an erase.
abbrev pub IsCall : Call → Op → List ℕ → Op → Type 0
IsCall (Programs sector place bytes) asked octets reported =
    (octets ≡ bytes) × (reported ≡ record asked { work = 1; sector = sector_number sector; place = place; length = length bytes })
IsCall (Erases sector) asked octets reported = (octets ≡ []) × (reported ≡ record asked { work = 2; sector = sector_number sector; length = 0 })
IsCall (Arms order) asked octets reported = ⊥

-- A frame, 3.
abbrev pub with_frame : List ℕ → Op → Op
with_frame frame asked = record asked { work = 3; length = length frame }

-- No more work, 0.
abbrev pub with_nothing : Op → Op
with_nothing asked = record asked { work = 0; length = 0 }

-- What is handed out next, and which octets: a call if one remains, a frame only if no call does, and 0 if no work
-- remains.
abbrev pub IsHanded : List Call → List (List ℕ) → Op → List ℕ → Op → Type 0
IsHanded [] [] asked octets reported = (octets ≡ []) × (reported ≡ with_nothing asked)
IsHanded [] (frame ∷ frames) asked octets reported = (octets ≡ frame) × (reported ≡ with_frame frame asked)
IsHanded (call ∷ calls) frames asked octets reported = IsCall call asked octets reported

-- The next piece of work is handed out and reported, with the kind of the one after it, and it is then fetched, if the
-- port is open.
abbrev pub HandsOut : Option Refusal → Served → Op → ℕ → List ℕ → Served → Op → Type 0
HandsOut (Some refusal) old asked answer octets new reported =
    (answer ≡ refusal_number refusal) × (octets ≡ []) × (new ≡ old) × (reported ≡ asked)
HandsOut None old asked answer octets new reported =
    (answer ≡ 0) × IsHanded old.port.calls (frames_of old) (record asked { more = waiting_both new }) octets reported × (new ≡ advanced_both old)

-- Power is lost.
abbrev pub IsLoss : Served → ℕ → Served → Type 0
IsLoss old answer new = (result : Result (Unit {0}) Refusal)
    × MatchResult result (λ done. (closed old.port.stage ≡ None) × (new ≡ lost_both old)) (λ refusal. (closed old.port.stage ≡ Some refusal) × (new ≡ old))
    × (answer ≡ answer_of result)

-- ---- values that are reported: what a closed port returns, and what an open one reports

-- A number is reported in its place of an operation.
abbrev pub IsNumber : Option Refusal → ℕ → ℕ → ℕ → ℕ → Type 0
IsNumber (Some refusal) known old answer new = (answer ≡ refusal_number refusal) × (new ≡ old)
IsNumber None known old answer new = (answer ≡ 0) × (new ≡ known)

-- Address, mask and gateway, the I&M texts, and the name, one after the other.
abbrev pub settings_octets : Settings → List ℕ
settings_octets settings =
    ((((((settings.suite.address ++ settings.suite.mask) ++ settings.suite.gateway) ++ settings.im1) ++ settings.im2) ++ settings.im3) ++ settings.im4) ++ settings.name

-- What the operations Running and Stored return.
abbrev pub IsSettings : Option Refusal → Settings → Op → ℕ → Op → Type 0
IsSettings (Some refusal) settings asked answer reported = (answer ≡ refusal_number refusal) × (reported ≡ asked)
IsSettings None settings asked answer reported = (answer ≡ 0) × (reported ≡ with_octets (settings_octets settings) asked)

-- The number of units up to and including the next one with which anything is due.
abbrev pub IsDue : Option Refusal → ℕ → Op → ℕ → Op → Type 0
IsDue (Some refusal) due asked answer reported = (answer ≡ refusal_number refusal) × (reported ≡ asked)
IsDue None due asked answer reported = (answer ≡ 0) × (reported ≡ record asked { due = due })

-- The number of commits that the flash still accepts.
abbrev pub IsLeft : Option Refusal → ℕ → Op → ℕ → Op → Type 0
IsLeft (Some refusal) left asked answer reported = (answer ≡ refusal_number refusal) × (reported ≡ asked)
IsLeft None left asked answer reported = (answer ≡ 0) × (reported ≡ record asked { commits = left })

-- The number of each phase, as C sees it; 0 without a relation.
abbrev pub phase_number : Option Phase → ℕ
phase_number None = 0
phase_number (Some Started) = 1
phase_number (Some Preparing) = 2
phase_number (Some Awaiting) = 2
phase_number (Some Exchanging) = 3

-- The phase, and the number of units for which the lamp still flashes.
abbrev pub IsState : Option Refusal → State → Op → ℕ → Op → Type 0
IsState (Some refusal) port asked answer reported = (answer ≡ refusal_number refusal) × (reported ≡ asked)
IsState None port asked answer reported =
    (answer ≡ 0) × (reported ≡ record asked { phase = phase_number (phase_of port.device.live.rest.link); lamp = port.device.live.rest.lamp })

-- The output of a submodule; 9 if no submodule with an output is plugged there.
abbrev pub IsValue : Option (List ℕ) → Op → ℕ → Op → Type 0
IsValue (Some value) asked answer reported = (answer ≡ 0) × (reported ≡ with_octets value asked)
IsValue None asked answer reported = (answer ≡ 9) × (reported ≡ asked)

-- The output of a submodule, zeros before the first frame.
abbrev pub value_of : State → ℕ → ℕ → Option (List ℕ)
value_of port slot subslot = output_of port.device.live.rest.real slot subslot (output_in slot subslot port.device.live.rest.link)

-- What an operation returns of a value, unless the port refuses it.
abbrev pub IsValueOf : Option Refusal → Option (List ℕ) → Op → ℕ → Op → Type 0
IsValueOf (Some refusal) value asked answer reported = (answer ≡ refusal_number refusal) × (reported ≡ asked)
IsValueOf None value asked answer reported = IsValue value asked answer reported

-- What the operation Output returns.
abbrev pub IsOutput : Option (ℕ × ℕ) → State → Op → ℕ → Op → Type 0
IsOutput (Some place) port asked answer reported = IsValueOf (closed port.stage) (value_of port place.0 place.1) asked answer reported
IsOutput None port asked answer reported = (answer ≡ 9) × (reported ≡ asked)

-- What the controller says of the output of a submodule: its IOPS, and the DataStatus of the frame; 24 if no frame with it was accepted.
abbrev pub with_statuses : ProviderStatus → Op → Op
with_statuses status asked = record asked { iops = status.iops; data_status = status.data_status.0 }

-- What is returned of a status of the controller, if there is one.
abbrev pub IsProviderAt : Option ProviderStatus → Op → ℕ → Op → Type 0
IsProviderAt (Some status) asked answer reported = (answer ≡ 0) × (reported ≡ with_statuses status asked)
IsProviderAt None asked answer reported = (answer ≡ 24) × (reported ≡ asked)

-- What is returned of a status of the controller, unless the port refuses it.
abbrev pub IsProviderOf : Option Refusal → Option ProviderStatus → Op → ℕ → Op → Type 0
IsProviderOf (Some refusal) status asked answer reported = (answer ≡ refusal_number refusal) × (reported ≡ asked)
IsProviderOf None status asked answer reported = IsProviderAt status asked answer reported

-- What the operation Provider returns.
abbrev pub IsProvider : Option (ℕ × ℕ) → State → Op → ℕ → Op → Type 0
IsProvider (Some place) port asked answer reported =
    IsProviderOf (closed port.stage) (provider_in place.0 place.1 port.device.live.rest.link) asked answer reported
IsProvider None port asked answer reported = (answer ≡ 24) × (reported ≡ asked)

-- The output of a submodule, and what the controller says of it. 24 if no frame with it was accepted.
abbrev pub with_received : ProviderStatus → List ℕ → Op → Op
with_received status value asked = with_statuses status (with_octets value asked)

-- What is returned of a value and its status, if both exist.
abbrev pub IsReceivedAt : Option ProviderStatus → Option (List ℕ) → Op → ℕ → Op → Type 0
IsReceivedAt (Some status) (Some value) asked answer reported = (answer ≡ 0) × (reported ≡ with_received status value asked)
IsReceivedAt (Some status) None asked answer reported = (answer ≡ 9) × (reported ≡ asked)
IsReceivedAt None value asked answer reported = (answer ≡ 24) × (reported ≡ asked)

-- What is returned of a value and its status, unless the port refuses it.
abbrev pub IsReceivedOf : Option Refusal → Option ProviderStatus → Option (List ℕ) → Op → ℕ → Op → Type 0
IsReceivedOf (Some refusal) status value asked answer reported = (answer ≡ refusal_number refusal) × (reported ≡ asked)
IsReceivedOf None status value asked answer reported = IsReceivedAt status value asked answer reported

-- What the operation Received returns.
abbrev pub IsReceived : Option (ℕ × ℕ) → State → Op → ℕ → Op → Type 0
IsReceived (Some place) port asked answer reported =
    IsReceivedOf (closed port.stage) (provider_in place.0 place.1 port.device.live.rest.link) (value_of port place.0 place.1) asked answer reported
IsReceived None port asked answer reported = (answer ≡ 24) × (reported ≡ asked)

-- A parameter record that the relation accepted: its submodule, its index and its octets; 15 if no record has this
-- number.
abbrev pub with_record : TakenRecord → Op → Op
with_record taken asked =
    with_octets taken.value.items (record asked { slot = taken.slot; subslot = taken.subslot; index = taken.index })

-- What is returned of a record, if it exists.
abbrev pub IsRecordAt : Option TakenRecord → Op → ℕ → Op → Type 0
IsRecordAt (Some taken) asked answer reported = (answer ≡ 0) × (reported ≡ with_record taken asked)
IsRecordAt None asked answer reported = (answer ≡ 15) × (reported ≡ asked)

-- What is returned of a record, unless the port refuses it.
abbrev pub IsRecordOf : Option Refusal → Option TakenRecord → Op → ℕ → Op → Type 0
IsRecordOf (Some refusal) taken asked answer reported = (answer ≡ refusal_number refusal) × (reported ≡ asked)
IsRecordOf None taken asked answer reported = IsRecordAt taken asked answer reported

-- The record that is this many before the last one.
abbrev pub back_at : List TakenRecord → ℕ → Option TakenRecord
back_at records back = if nat_lt back (length records) then slice_get records (length records - 1 - back) else None

-- How many parameter records the relation passed on, modulo 2^32.
abbrev pub IsPassedOn : Option Refusal → ℕ → Op → ℕ → Op → Type 0
IsPassedOn (Some refusal) count asked answer reported = (answer ≡ refusal_number refusal) × (reported ≡ asked)
IsPassedOn None count asked answer reported = (answer ≡ 0) × (reported ≡ record asked { count = count })

-- How many conflicts of the running IP address were heard, at most the maximum of 32 bits; 0 without services.
abbrev pub IsConflicts : Option Refusal → ℕ → Op → ℕ → Op → Type 0
IsConflicts (Some refusal) conflicts asked answer reported = (answer ≡ refusal_number refusal) × (reported ≡ asked)
IsConflicts None conflicts asked answer reported = (answer ≡ 0) × (reported ≡ record asked { count = min conflicts 4294967295 })

-- ---- places of the relation

-- How far a place is, as C sees it.
abbrev pub progress_number : Progress → ℕ
progress_number progress.Good = 0
progress_number progress.Differs = 1
progress_number progress.Plugged = 2
progress_number progress.Told = 3
progress_number progress.Ended = 4
progress_number progress.Refused = 5

-- The place with this number of those of the relation, in the order of its Connect.
abbrev pub place_numbered : Option (List ExpectedPlace) → ℕ → Option ExpectedPlace
place_numbered None number = None
place_numbered (Some places) number = slice_get places number

-- A place: its slot and subslot, and how far it is.
abbrev pub with_place : ExpectedPlace → Op → Op
with_place place asked = record asked { slot = place.slot; subslot = place.subslot; progress = progress_number (progress_of place) }

-- What is returned of a place, if it exists; 45 if no place has this number.
abbrev pub IsPlaceAt : Option ExpectedPlace → Op → ℕ → Op → Type 0
IsPlaceAt (Some place) asked answer reported = (answer ≡ 0) × (reported ≡ with_place place asked)
IsPlaceAt None asked answer reported = (answer ≡ 45) × (reported ≡ asked)

-- What is returned of a place, unless the port refuses it.
abbrev pub IsPlaceOf : Option Refusal → Option ExpectedPlace → Op → ℕ → Op → Type 0
IsPlaceOf (Some refusal) place asked answer reported = (answer ≡ refusal_number refusal) × (reported ≡ asked)
IsPlaceOf None place asked answer reported = IsPlaceAt place asked answer reported

-- ---- what is asked of the application

-- What is wanted of a record: 1, its octets, of which this number is sent at most; 2, that these octets are written, at most 1,308.
abbrev pub with_wanted : Want → Op → Op
with_wanted (to_read length) asked = record asked { wanted = 1; read_length = length }
with_wanted (to_write octets) asked = with_octets (take 1308 octets) (record asked { wanted = 2 })

-- A question: its number, its record, and what is wanted of it.
abbrev pub with_question : Seen → Op → Op
with_question seen asked = with_wanted seen.want (record asked { number = seen.number; slot = seen.slot; subslot = seen.subslot; index = seen.index })

-- What is returned of what is asked; 47 if nothing is.
abbrev pub IsAskedAt : Option Seen → Op → ℕ → Op → Type 0
IsAskedAt (Some seen) asked answer reported = (answer ≡ 0) × (reported ≡ with_question seen asked)
IsAskedAt None asked answer reported = (answer ≡ 47) × (reported ≡ asked)

-- What is returned of what is asked, unless the port refuses it.
abbrev pub IsAskedOf : Option Refusal → Option Seen → Op → ℕ → Op → Type 0
IsAskedOf (Some refusal) seen asked answer reported = (answer ≡ refusal_number refusal) × (reported ≡ asked)
IsAskedOf None seen asked answer reported = IsAskedAt seen asked answer reported

-- ---- the link

-- Which link some octets say, if they say one: what is supported and enabled, what is advertised, and the type of the MAU. 8 if
-- they are neither five nor none.
abbrev pub link_at : List ℕ → Link
link_at octets = record {
  support = slice_index octets 0;
  capability = from_be_bytes w16 (take 2 (drop 1 octets));
  mau_type = from_be_bytes w16 (drop 3 octets);
}

-- What the host says of the link: five octets, or none if it is down.
abbrev pub link_of : List ℕ → Result (Option Link) Refusal
link_of octets = if length octets == 0 then Ok None else (if length octets == 5 then Ok (Some (link_at octets)) else Err refusal.BadLength)

-- The host says what the link is, or the port is closed.
abbrev pub LinksOrNot : Bool → Option Link → Served → Result (Unit {0}) Refusal → Served → Type 0
LinksOrNot is_up link old result new = MatchResult result (λ done. (closed old.port.stage ≡ None) × (new ≡ linked_both is_up link old))
    (λ refusal. (closed old.port.stage ≡ Some refusal) × (new ≡ old))

-- The link is down if `is_up` is 0.
abbrev pub IsLink : Result (Option Link) Refusal → Served → Op → ℕ → Served → Type 0
IsLink (Ok link) old asked answer new =
    (result : Result (Unit {0}) Refusal) × LinksOrNot (not (asked.is_up == 0)) link old result new × (answer ≡ answer_of result)
IsLink (Err refused) old asked answer new = (answer ≡ refusal_number refused) × (new ≡ old)

-- ---- all of them

-- The result of an operation: 10 if there is no such operation.
abbrev pub Serves : Option Operation → Served → Op → List ℕ → ℕ → Served → Op → Type 0
Serves (Some operation.Sector) old asked given answer new reported = (reported ≡ asked) × IsSector (sector_of asked.sector) old given answer new
Serves (Some operation.Boot) old asked given answer new reported = (reported ≡ asked) × IsBoot old answer new
Serves (Some operation.Frame) old asked given answer new reported =
    IsEvent old (Frame (record { items = take 1519 given })) asked answer new reported
Serves (Some operation.Tick) old asked given answer new reported = IsTick old asked answer new reported
Serves (Some operation.Input) old asked given answer new reported = IsInput (place_in asked.slot asked.subslot) old given asked answer new reported
Serves (Some operation.Alarm) old asked given answer new reported = IsAlarm (place_in asked.slot asked.subslot) old given asked answer new reported
Serves (Some operation.Output) old asked given answer new reported =
    (new ≡ old) × IsOutput (place_in asked.slot asked.subslot) old.port asked answer reported
Serves (Some operation.State) old asked given answer new reported = (new ≡ old) × IsState (closed old.port.stage) old.port asked answer reported
Serves (Some operation.Running) old asked given answer new reported =
    (new ≡ old) × IsSettings (closed old.port.stage) old.port.device.live.values.running asked answer reported
Serves (Some operation.Stored) old asked given answer new reported =
    (new ≡ old) × IsSettings (closed old.port.stage) old.port.device.live.values.stored asked answer reported
Serves (Some operation.Lose) old asked given answer new reported = (reported ≡ asked) × IsLoss old answer new
Serves (Some operation.Record) old asked given answer new reported =
    (new ≡ old) × IsRecordOf (closed old.port.stage) (slice_get (taken_of old.port.device.live.rest.link) asked.number) asked answer reported
Serves (Some operation.Left) old asked given answer new reported =
    (new ≡ old) × IsLeft (closed old.port.stage) old.port.device.live.values.room asked answer reported
Serves (Some operation.Due) old asked given answer new reported =
    (new ≡ old) × IsDue (closed old.port.stage) (due_both old) asked answer reported
Serves (Some operation.Status) old asked given answer new reported = IsStatus (place_in asked.slot asked.subslot) old asked answer new reported
Serves (Some operation.Diagnosis) old asked given answer new reported =
    IsDiagnosis (place_in asked.slot asked.subslot) (place_in asked.channel asked.error) old asked answer new reported
Serves (Some operation.Ready) old asked given answer new reported = IsSaid old Ready (why_not_ready (reached_in old)) asked answer new reported
Serves (Some operation.Run) old asked given answer new reported = IsEventWith Nothing old (Application (ProviderState true)) asked answer new reported
Serves (Some operation.Stop) old asked given answer new reported = IsEventWith Nothing old (Application (ProviderState false)) asked answer new reported
Serves (Some operation.Provider) old asked given answer new reported =
    (new ≡ old) × IsProvider (place_in asked.slot asked.subslot) old.port asked answer reported
Serves (Some operation.Conflicts) old asked given answer new reported =
    (new ≡ old) × IsConflicts (closed old.port.stage) (conflicts_of old.services) asked answer reported
Serves (Some operation.Link) old asked given answer new reported = (reported ≡ asked) × IsLink (link_of given) old asked answer new
Serves (Some operation.Passed) old asked given answer new reported =
    (new ≡ old) × IsRecordOf (closed old.port.stage) (back_at (passed_of old.port.device.live.rest.link).last asked.number) asked answer reported
Serves (Some operation.PassedOn) old asked given answer new reported =
    (new ≡ old) × IsPassedOn (closed old.port.stage) (passed_of old.port.device.live.rest.link).count asked answer reported
Serves (Some operation.FrameAfter) old asked given answer new reported = IsFrameAfter old given asked answer new reported
Serves (Some operation.Received) old asked given answer new reported =
    (new ≡ old) × IsReceived (place_in asked.slot asked.subslot) old.port asked answer reported
Serves (Some operation.Pull) old asked given answer new reported = IsPull (place_in asked.slot asked.subslot) old asked answer new reported
Serves (Some operation.PullModule) old asked given answer new reported = IsSlotPull (place_in asked.slot 0) old asked answer new reported
Serves (Some operation.Plug) old asked given answer new reported = IsPlug (place_in asked.slot asked.subslot) old given asked answer new reported
Serves (Some operation.ReadyAt) old asked given answer new reported = IsReadyAt (place_in asked.slot asked.subslot) old asked answer new reported
Serves (Some operation.Expected) old asked given answer new reported =
    (new ≡ old) × IsPlaceOf (closed old.port.stage) (place_numbered (places_in old.port.device.live.rest.link) asked.number) asked answer reported
Serves (Some operation.Asked) old asked given answer new reported = (new ≡ old) × IsAskedOf (closed old.port.stage) (question_of old) asked answer reported
Serves (Some operation.Answer) old asked given answer new reported = IsAnswer old given asked answer new reported
Serves (Some operation.Written) old asked given answer new reported = IsWritten old asked answer new reported
Serves (Some operation.Refuse) old asked given answer new reported = IsRefusal old given asked answer new reported
Serves None old asked given answer new reported = (answer ≡ 10) × (new ≡ old) × (reported ≡ asked)
