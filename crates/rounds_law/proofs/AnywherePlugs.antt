-- What becomes of the calls of plugs in a relation of a device in any state: their numbers keep their size.
use Rattle.std.proofs.Common.{◌≡◌, ◌==◌, ◌<◌, ◌+◌, ℕ, Bool, true, false, List, Option, Some, None, refl, sym, subst, arith}
use Rattle.std.specs.Prelude.{if◌then◌else◌, option_map, unwrap_or}
use Rattle.std.proofs.lemmas.Bool.Decides.{nat_tests}
use Rattle.diagnosis.specs.declared.alarms.alarms.SentAlarm.{SentAlarm}
use Rattle.diagnosis.specs.declared.module_change.ModuleChange.{ModuleChange}
use Rattle.diagnosis.specs.declared.queue.LowChange.{LowChange}
use Rattle.diagnosis.specs.declared.queue.LowChange.TheVariants as change
use Rattle.diagnosis.specs.declared.queue.QueuedAlarm.{QueuedAlarm}
use Rattle.diagnosis.specs.Queue.{is_plug}
use Rattle.expected_places.specs.declared.calls.PlugCall.{PlugCall}
use Rattle.expected_places.specs.declared.calls.WaitingCall.{WaitingCall}
use Rattle.expected_places.specs.Calls.{PlugQueue, counted, counted_with, first_ready, next_sequence, sent_beside, sent_with}
use Rattle.expected_places.specs.declared.place.ExpectedPlace.{ExpectedPlace}
use Rattle.expected_places.specs.Machine.{PlugState, answered_by, ended, ended_at, next_called, told}
use Rattle.expected_places.specs.Places.{first_told}
use Rattle.relations.specs.declared.plugging.PlugAnswer.{PlugAnswer}
use Rattle.relations.specs.declared.plugging.PlugAnswer.TheVariants as answer
use Rattle.relations.specs.Plugging.{plugs_after, plugs_answered, plugs_told}
use Rattle.end_laws.specs.device.Orderly.{AreNumbered}

-- ---- a unit

counted_numbered : (calls : PlugQueue) (standing : Option PlugCall) → AreNumbered calls → AreNumbered (counted_with calls standing)
counted_numbered calls None are = are
counted_numbered calls (Some call) are = are

-- It is counted while data is exchanged.
pub later_numbered : (timed : Bool) (plugs : PlugState) → AreNumbered plugs.calls
    → AreNumbered (if timed then plugs else record plugs { calls = counted plugs.calls }).calls
later_numbered true plugs are = are
later_numbered false plugs are = counted_numbered plugs.calls plugs.calls.standing are

-- ---- an alarm of low priority is first sent

told_if : (is : Bool) (made : ModuleChange) (number : ℕ) (last : Bool) (plugs : PlugState)
    → (if is then told made.slot made.subslot number last plugs else plugs).calls ≡ plugs.calls
told_if true made number last plugs = refl
told_if false made number last plugs = refl

told_calls : (made : LowChange) (number : ℕ) (waiting : List QueuedAlarm) (plugs : PlugState) → (plugs_told made number waiting plugs).calls ≡ plugs.calls
told_calls (change.Diagnosis made) number waiting plugs = refl
told_calls (change.Module made) number waiting plugs = told_if (is_plug made.kind) made number _ plugs

-- The calls stay.
pub after_calls : (sent : Option SentAlarm) (waiting : List QueuedAlarm) (plugs : PlugState) → (plugs_after sent waiting plugs).calls ≡ plugs.calls
after_calls None waiting plugs = refl
after_calls (Some sent) waiting plugs = told_calls sent.change sent.number waiting plugs

pub after_numbered : (sent : Option SentAlarm) (waiting : List QueuedAlarm) (plugs : PlugState) → AreNumbered plugs.calls
    → AreNumbered (plugs_after sent waiting plugs).calls
after_numbered sent waiting plugs are = subst AreNumbered (sym (after_calls sent waiting plugs)) are

-- ---- a call becomes active, or is answered

next_small : (sequence : ℕ) → sequence < 4294967296 → next_sequence sequence < 4294967296
next_small sequence small = by_last (sequence == 4294967295) refl
  where
    by_last : (last : Bool) → (sequence == 4294967295) ≡ last → (if last then 0 else sequence + 1) < 4294967296
    by_last true e = omega arith
    by_last false e = grind (arith, nat_tests, small, e)

sent_numbered : (calls : PlugQueue) (call : Option WaitingCall) → AreNumbered calls → AreNumbered (unwrap_or (option_map (sent_with calls) call) calls)
sent_numbered calls None are = are
sent_numbered calls (Some call) are = (next_small calls.sequence are.0, next_small calls.sequence are.0)

beside_numbered : (calls : PlugQueue) (standing : Option PlugCall) → AreNumbered calls → AreNumbered (unwrap_or (sent_beside calls standing) calls)
beside_numbered calls (Some call) are = are
beside_numbered calls None are = sent_numbered calls (first_ready calls.waiting) are

-- The parameters of a place end: its call waits.
ended_in : (number : ℕ) (is_ready : Bool) (plugs : PlugState) (place : Option ExpectedPlace) → AreNumbered plugs.calls
    → AreNumbered (unwrap_or (option_map (ended_at number is_ready plugs) place) plugs).calls
ended_in number is_ready plugs None are = are
ended_in number is_ready plugs (Some place) are = are

-- Whether a plug was reported stays.
ended_told_in : (number : ℕ) (is_ready : Bool) (plugs : PlugState) (place : Option ExpectedPlace)
    → (unwrap_or (option_map (ended_at number is_ready plugs) place) plugs).has_told ≡ plugs.has_told
ended_told_in number is_ready plugs None = refl
ended_told_in number is_ready plugs (Some place) = refl

pub ended_told : (number : ℕ) (is_ready : Bool) (plugs : PlugState) → (ended number is_ready plugs).has_told ≡ plugs.has_told
ended_told number is_ready plugs = ended_told_in number is_ready plugs (first_told number plugs.places)

pub ended_numbered : (number : ℕ) (is_ready : Bool) (plugs : PlugState) → AreNumbered plugs.calls → AreNumbered (ended number is_ready plugs).calls
ended_numbered number is_ready plugs are = ended_in number is_ready plugs (first_told number plugs.places) are

pub next_numbered : (plugs : PlugState) → AreNumbered plugs.calls → AreNumbered (next_called plugs).calls
next_numbered plugs are = beside_numbered plugs.calls plugs.calls.standing are

answered_numbered : (is_positive : Bool) (plugs : PlugState) (standing : Option PlugCall) → AreNumbered plugs.calls
    → AreNumbered (answered_by is_positive plugs standing).calls
answered_numbered is_positive plugs None are = are
answered_numbered is_positive plugs (Some call) are = (are.0, tt)

-- Whether a plug was reported stays.
answered_told : (is_positive : Bool) (plugs : PlugState) (standing : Option PlugCall) → (answered_by is_positive plugs standing).has_told ≡ plugs.has_told
answered_told is_positive plugs None = refl
answered_told is_positive plugs (Some call) = refl

pub heard_told : (heard : PlugAnswer) (plugs : PlugState) → (plugs_answered heard plugs).has_told ≡ plugs.has_told
heard_told answer.NotWanted plugs = refl
heard_told answer.Garbled plugs = refl
heard_told answer.Confirmed plugs = answered_told true plugs plugs.calls.standing
heard_told answer.Refused plugs = answered_told false plugs plugs.calls.standing

pub heard_numbered : (heard : PlugAnswer) (plugs : PlugState) → AreNumbered plugs.calls → AreNumbered (plugs_answered heard plugs).calls
heard_numbered answer.NotWanted plugs are = are
heard_numbered answer.Garbled plugs are = are
heard_numbered answer.Confirmed plugs are = answered_numbered true plugs plugs.calls.standing are
heard_numbered answer.Refused plugs are = answered_numbered false plugs plugs.calls.standing are
